-- How a segment grows while records are put on its list: published blocks stay but for their nexts, the list becomes longer at its
-- end, and what was seen stays true.
use Rattle.segment_invariant.proofs.Prelude.Std.{◌≡◌, ◌≢◌, ◌⊎◌, ℕ, zero, suc, ◌+◌, ◌<◌, ◌≤◌, ℤ, pos, Bool, true, false, List, [], ◌++◌, map, length, All, inl, inr, ⊎_elim, refl, sym, ap, ◌∙◌, subst, arith, append-nil, length-append, slice_index, get_or_append_left, map-append, All-weaker, none, first_longer}
use Rattle.segment_invariant.proofs.Prelude.Machine.{Spec, Behind, stops, IsStop, IsPrefix, Seen, Known, Made, Own}
use Rattle.segment_invariant.proofs.Prelude.Invariant.{Record, Counts, Sample, Body, queue, plain, held, histogram, counts, sample, other, words_of, is_claimed, Piece, Listed, Anatomy, order_of, free_of, all_held, Stands, HasRecord, HasCounts, HasSample, IsRecordNamed, IsValued, IsFirst, IsFirstOf, IsNoLater, IsRightlyKnown, Sees, StandsAs}
use Rattle.std.specs.Prelude as std
use Rattle.list_core.specs.Chain.{AreNeighbours}
use Rattle.list_core.proofs.Prefixes.{prefix_of_prefix}
use Rattle.segment_invariant.specs.Ledger.{all_amounts}
use Rattle.segment_invariant.specs.Rises.{GoesAs}
use Rattle.segment_invariant.specs.Seen.{HasPlain, IsReachedAt, AreNoLater}
use Rattle.segment_invariant.proofs.Frames.Standing.{Grounds}
use Rattle.segment_invariant.proofs.Frames.Onward.{goes_itself, Onward, stands_as_on, sees_on}

-- ---- the next of a block

-- a block with another next, if it has one
abbrev pub with_next : Body → ℕ → Body
with_next (queue next) n = queue n
with_next (plain words) n = plain words
with_next (held block) n = held block
with_next (histogram r) n = histogram (record r { next = n })
with_next (counts c) n = counts c
with_next (sample s) n = sample (record s { next = n })
with_next (other size tag next payload) n = other size tag n payload

-- its other words are the same
pub beside_next : (body : Body) (n i : ℕ) → i ≢ 3 → slice_index (words_of (with_next body n)) i ≡ slice_index (words_of body) i
beside_next (plain words) n i ne = refl
beside_next (held block) n i ne = refl
beside_next (counts c) n i ne = refl
beside_next body n zero ne = same_size body
  where
    same_size : (body : Body) → slice_index (words_of (with_next body n)) 0 ≡ slice_index (words_of body) 0
    same_size (queue next) = refl
    same_size (plain words) = refl
    same_size (held block) = refl
    same_size (histogram r) = refl
    same_size (counts c) = refl
    same_size (sample s) = refl
    same_size (other size tag next payload) = refl
beside_next (queue next) n (suc zero) ne = refl
beside_next (queue next) n (suc (suc zero)) ne = refl
beside_next (queue next) n (suc (suc (suc zero))) ne = absurd (ne refl)
beside_next (queue next) n (suc (suc (suc (suc i)))) ne = refl
beside_next (histogram r) n (suc zero) ne = refl
beside_next (histogram r) n (suc (suc zero)) ne = refl
beside_next (histogram r) n (suc (suc (suc zero))) ne = absurd (ne refl)
beside_next (histogram r) n (suc (suc (suc (suc i)))) ne = refl
beside_next (sample s) n (suc zero) ne = refl
beside_next (sample s) n (suc (suc zero)) ne = refl
beside_next (sample s) n (suc (suc (suc zero))) ne = absurd (ne refl)
beside_next (sample s) n (suc (suc (suc (suc i)))) ne = refl
beside_next (other size tag next payload) n (suc zero) ne = refl
beside_next (other size tag next payload) n (suc (suc zero)) ne = refl
beside_next (other size tag next payload) n (suc (suc (suc zero))) ne = absurd (ne refl)
beside_next (other size tag next payload) n (suc (suc (suc (suc i)))) ne = refl

-- a block with the next that it has
pub same_next : (body : Body) → (n : ℕ) × (with_next body n ≡ body)
same_next (queue next) = (next, refl)
same_next (plain words) = (0, refl)
same_next (held block) = (0, refl)
same_next (histogram r) = (r.next, refl)
same_next (counts c) = (0, refl)
same_next (sample s) = (s.next, refl)
same_next (other size tag next payload) = (next, refl)

-- it is claimed as it was
pub next_claimed : (body : Body) (n : ℕ) → is_claimed (with_next body n) ≡ is_claimed body
next_claimed (queue next) n = refl
next_claimed (plain words) n = refl
next_claimed (held block) n = refl
next_claimed (histogram r) n = refl
next_claimed (counts c) n = refl
next_claimed (sample s) n = refl
next_claimed (other size tag next payload) n = refl

-- so it continues
next_goes : (version : ℕ) (body : Body) (n : ℕ) → GoesAs version body (with_next body n) ⊎ (is_claimed body ≡ false)
next_goes version (queue next) n = inr refl
next_goes version (plain words) n = inr refl
next_goes version (held block) n = inl refl
next_goes version (histogram r) n = inl (
  record r { next = n },
  refl,
  record { is = refl; counts = λ there. refl; single = inl refl; mark = omega arith; noted = omega arith },
)
next_goes version (counts c) n = inl (goes_itself version (counts c))
next_goes version (sample s) n = inl (record s { next = n }, refl, record { is = refl; units = omega arith; mark = omega arith })
next_goes version (other size tag next payload) n = inl (n, refl)

pub claimed_goes : (version : ℕ) (body : Body) (n : ℕ) → is_claimed body ≡ true → GoesAs version body (with_next body n)
claimed_goes version body n claimed = ⊎_elim (λ goes. goes) (λ free. absurd (cc (claimed, free))) (next_goes version body n)

-- ---- the list is longer at its end

-- the stops of the chain stay where they are
pub stop_at : (chain more : List ℕ) (i : ℕ) → i ≤ length chain → slice_index (stops (chain ++ more)) i ≡ slice_index (stops chain) i
stop_at chain more zero le = refl
stop_at chain more (suc i) le = get_or_append_left chain more 0 i (omega (arith, le))

pub longer_by : (chain more : List ℕ) → length chain ≤ length (chain ++ more)
longer_by chain more = let e = length-append chain more in omega (arith, e)

pub stop_longer : (chain more : List ℕ) (at : ℕ) → IsStop chain at → IsStop (chain ++ more) at
stop_longer chain more at (k, le, is) = let long = longer_by chain more in (k, omega (arith, le, long), stop_at chain more k le ∙ is)

pub neighbours_longer : (chain more : List ℕ) (at next : ℕ) → AreNeighbours chain at next → AreNeighbours (chain ++ more) at next
neighbours_longer chain more at next (k, lt, is, then) =
    let long = longer_by chain more in
    (k, omega (arith, lt, long), stop_at chain more k (omega (arith, lt)) ∙ is, get_or_append_left chain more 0 k lt ∙ then)

pub reached_longer : (chain more : List ℕ) (n at : ℕ) → IsReachedAt chain n at → IsReachedAt (chain ++ more) n at
reached_longer chain more n at (k, low, le, is) = let long = longer_by chain more in (k, low, omega (arith, le, long), stop_at chain more k le ∙ is)

pub no_later_longer : (chain more : List ℕ) (seen present : ℕ) → IsNoLater chain seen present → IsNoLater (chain ++ more) seen present
no_later_longer chain more seen present (i, j, le, within, is, then) =
    let long = longer_by chain more in
    (i, j, le, omega (arith, within, long), stop_at chain more i (omega (arith, le, within)) ∙ is, stop_at chain more j within ∙ then)

-- ---- how a segment grows

-- the anatomy with other blocks, other flags and another tail, and the same records
abbrev pub reshaped : Anatomy → List Piece → ℕ → Bool → Bool → ℕ → Anatomy
reshaped anatomy pieces spare corrupt full tail =
    record anatomy { pieces = pieces; spare = spare; corrupt = corrupt; full = full; tail = tail }

-- a number that blocks in the making, one's own blocks and the queue block do not have
abbrev pub IsSilent : {X : Type 0} → X → (Body → X) → Type 0
IsSilent nothing holds =
    ((words : List ℕ) → holds (plain words) ≡ nothing) × ((block : Own) → holds (held block) ≡ nothing)
    × ((next : ℕ) → holds (queue next) ≡ nothing)

-- What was published stays: a block without owner is where it was, and no other is added; and together they hold what they held.
pub record Stays (old new : List Piece) : Type 0 where
  pub there : (at : ℕ) (body : Body) → Stands old at none body → Stands new at none body
  pub back : (at : ℕ) (body : Body) → Stands new at none body → Stands old at none body
  pub held : (holds : Body → ℕ) → IsSilent 0 holds → all_held holds new ≡ all_held holds old
  pub amounts : (holds : Body → ℤ) → IsSilent (pos 0) holds → all_amounts holds new ≡ all_amounts holds old

-- Published blocks stay, but for their nexts; new ones are `added`, and lie where there was no published one. The list becomes longer at
-- its end.
pub record Grows (old new : Anatomy) (added : ℕ → Body → Type 0) : Type 0 where
  pub version : new.version ≡ old.version
  pub more : List Listed
  pub records : new.records ≡ old.records ++ more
  pub stays : (at : ℕ) (body : Body) → is_claimed body ≡ true → Stands old.pieces at none body
      → (n : ℕ) × Stands new.pieces at none (with_next body n)
  pub came : (at : ℕ) (body : Body) → is_claimed body ≡ true → Stands new.pieces at none body
      → ((before : Body) × (n : ℕ) × Stands old.pieces at none before × (body ≡ with_next before n)) ⊎ added at body
  pub apart : (at other i j : ℕ) (body before : Body) → added at body → Stands old.pieces other none before → i < length (words_of body)
      → j < length (words_of before) → at + i ≢ other + j
  pub bare : (at : ℕ) (c : Counts) → added at (counts c) → ⊥
  pub first_came : (name : List ℕ) (spec : Spec) (at : ℕ) → IsFirst new.records name spec at
      → IsFirst old.records name spec at ⊎ ((r : Record) × added at (histogram r) × All (λ l. ¬ (IsRecordNamed name l)) old.records)
  pub first_of_came : (of at : ℕ) (value : ℤ) → IsFirstOf new.records of value at
      → IsFirstOf old.records of value at
      ⊎ ((s : Sample) × added at (sample s) × All (λ l. ¬ (IsValued of value l)) old.records)

-- if what was published stays, and the list too
pub grows_not : (anatomy : Anatomy) (pieces : List Piece) (spare : ℕ) (corrupt full : Bool) (tail : ℕ) → Stays anatomy.pieces pieces
    → Grows anatomy (reshaped anatomy pieces spare corrupt full tail) (λ at body. ⊥)
grows_not anatomy pieces spare corrupt full tail stays = record {
  version = refl;
  more = [];
  records = sym (append-nil anatomy.records);
  stays = λ at body claimed there. let (n, is) = same_next body in (n, subst (Stands pieces at none) (sym is) (stays.there at body there));
  came = λ at body claimed there. let (n, is) = same_next body in inl (body, n, stays.back at body there, sym is);
  apart = λ at place i j body before none_added. absurd none_added;
  bare = λ at c none_added. none_added;
  first_came = λ name spec at first. inl first;
  first_of_came = λ of at value first. inl first;
}

-- what is a record, counts or a sample with another next was one before
is_record : (before : Body) (n : ℕ) (r : Record) → histogram r ≡ with_next before n → (r0 : Record) × (before ≡ histogram r0) × (r ≡ record r0 { next = n })
is_record (histogram r0) n r is = (r0, refl, cc is)
is_record (queue next) n r is = absurd (cc is)
is_record (plain words) n r is = absurd (cc is)
is_record (held block) n r is = absurd (cc is)
is_record (counts c) n r is = absurd (cc is)
is_record (sample s) n r is = absurd (cc is)
is_record (other size tag next payload) n r is = absurd (cc is)

is_counts : (before : Body) (n : ℕ) (c : Counts) → counts c ≡ with_next before n → before ≡ counts c
is_counts (counts c0) n c is = sym is
is_counts (queue next) n c is = absurd (cc is)
is_counts (plain words) n c is = absurd (cc is)
is_counts (held block) n c is = absurd (cc is)
is_counts (histogram r) n c is = absurd (cc is)
is_counts (sample s) n c is = absurd (cc is)
is_counts (other size tag next payload) n c is = absurd (cc is)

is_sample : (before : Body) (n : ℕ) (s : Sample) → sample s ≡ with_next before n → (s0 : Sample) × (before ≡ sample s0) × (s ≡ record s0 { next = n })
is_sample (sample s0) n s is = (s0, refl, cc is)
is_sample (queue next) n s is = absurd (cc is)
is_sample (plain words) n s is = absurd (cc is)
is_sample (held block) n s is = absurd (cc is)
is_sample (histogram r) n s is = absurd (cc is)
is_sample (counts c) n s is = absurd (cc is)
is_sample (other size tag next payload) n s is = absurd (cc is)

module _ (old new : Anatomy) (added : ℕ → Body → Type 0) (grows : Grows old new added) where
  pub order_grows : order_of new ≡ order_of old ++ map (λ (l : Listed). l.reference) grows.more
  order_grows = ap (map (λ (l : Listed). l.reference)) grows.records ∙ map-append (λ (l : Listed). l.reference) old.records grows.more

  -- what is on the list stays where it is
  pub stop_grows : (at : ℕ) → IsStop (order_of old) at → IsStop (order_of new) at
  stop_grows at stop = subst (λ (chain : List ℕ). IsStop chain at) (sym order_grows) (stop_longer (order_of old) _ at stop)

  pub reached_grows : (n at : ℕ) → IsReachedAt (order_of old) n at → IsReachedAt (order_of new) n at
  reached_grows n at reached = subst (λ (chain : List ℕ). IsReachedAt chain n at) (sym order_grows) (reached_longer (order_of old) _ n at reached)

  pub neighbours_grow : (at next : ℕ) → AreNeighbours (order_of old) at next → AreNeighbours (order_of new) at next
  neighbours_grow at next near =
      subst (λ (chain : List ℕ). AreNeighbours chain at next) (sym order_grows) (neighbours_longer (order_of old) _ at next near)

  pub no_later_grows : (seen present : ℕ) → IsNoLater (order_of old) seen present → IsNoLater (order_of new) seen present
  no_later_grows seen present later =
      subst (λ (chain : List ℕ). IsNoLater chain seen present) (sym order_grows) (no_later_longer (order_of old) _ seen present later)

  pub first_grows : (name : List ℕ) (spec : Spec) (at : ℕ) → IsFirst old.records name spec at → IsFirst new.records name spec at
  first_grows name spec at first =
      subst (λ (records : List Listed). IsFirst records name spec at) (sym grows.records) (first_longer (IsRecordNamed name) old.records _ _ first)

  -- records, counts and samples stay, and come from old ones
  pub record_stays : (at : ℕ) (r : Record) → HasRecord old.pieces at r → (n : ℕ) × HasRecord new.pieces at (record r { next = n })
  record_stays at r there = grows.stays at (histogram r) refl there

  pub counts_stay : (at : ℕ) (c : Counts) → HasCounts old.pieces at c → HasCounts new.pieces at c
  counts_stay at c there = (grows.stays at (counts c) refl there).1

  pub record_came : (at : ℕ) (r : Record) → HasRecord new.pieces at r
      → ((r0 : Record) × (n : ℕ) × HasRecord old.pieces at r0 × (r ≡ record r0 { next = n })) ⊎ added at (histogram r)
  record_came at r there = ⊎_elim
      (λ t. let is = is_record t.0 t.1 r t.3 in inl (is.0, t.1, subst (Stands old.pieces at none) is.1 t.2, is.2))
      (λ new_one. inr new_one)
      (grows.came at (histogram r) refl there)

  pub counts_came : (at : ℕ) (c : Counts) → HasCounts new.pieces at c → HasCounts old.pieces at c ⊎ added at (counts c)
  counts_came at c there = ⊎_elim
      (λ t. inl (subst (Stands old.pieces at none) (is_counts t.0 t.1 c t.3) t.2))
      (λ new_one. inr new_one)
      (grows.came at (counts c) refl there)

  pub sample_came : (at : ℕ) (s : Sample) → HasSample new.pieces at s
      → ((s0 : Sample) × (n : ℕ) × HasSample old.pieces at s0 × (s ≡ record s0 { next = n })) ⊎ added at (sample s)
  sample_came at s there = ⊎_elim
      (λ t. let is = is_sample t.0 t.1 s t.3 in inl (is.0, t.1, subst (Stands old.pieces at none) is.1 t.2, is.2))
      (λ new_one. inr new_one)
      (grows.came at (sample s) refl there)

  -- ---- so what was seen stays true

  -- published blocks continue
  pub grows_on : Onward old new added
  grows_on = record {
    version = grows.version;
    goes = λ at body claimed there. let (n, stands) = grows.stays at body claimed there in (with_next body n, stands, claimed_goes old.version body n claimed);
    came = λ at body claimed there. ⊎_elim
        (λ t. let (before, n, stood, is) = t in
        inl (before, stood, subst (GoesAs old.version before) (sym is) (claimed_goes old.version before n (sym (next_claimed before n) ∙ (ap is_claimed (sym is) ∙ claimed)))))
        (λ new_one. inr new_one)
        (grows.came at body claimed there);
    apart = grows.apart;
  }

  pub known_stays : (known : Known) → IsRightlyKnown old known → IsRightlyKnown new known
  known_stays known knows = record {
    first_spec = knows.first_spec;
    first = first_grows known.name knows.first_spec known.reference knows.first;
    same = knows.same;
  }

  pub names_grow : (names : List Known) → All (IsRightlyKnown old) names → All (IsRightlyKnown new) names
  names_grow names = All-weaker (IsRightlyKnown old) (IsRightlyKnown new) known_stays names

  -- all that an actor has seen
  pub sees_grow : (cursors : List ℕ) (seen : Seen) → Behind seen.free (free_of new) → AreNoLater (order_of new) seen.tails new.tail
      → Sees old cursors seen → Sees new cursors seen
  sees_grow cursors seen free tails sees = sees_on old new added grows_on cursors seen free
      (subst (IsPrefix seen.chain) (sym order_grows) (prefix_of_prefix seen.chain (order_of old) _ sees.walked (_, refl))) tails
      (All-weaker
      (λ s. (s.at < length cursors) × IsNoLater (order_of old) s.word (slice_index cursors s.at))
      (λ s. (s.at < length cursors) × IsNoLater (order_of new) s.word (slice_index cursors s.at))
      (λ s t. (t.0, no_later_grows s.word (slice_index cursors s.at) t.1)) seen.cursors sees.shared)
      sees

  -- a listed record holds what it was given
  pub stands_as_grows : (l : Listed) (given : std.Option Made) → StandsAs old.pieces l given → StandsAs new.pieces l given
  stands_as_grows = stands_as_on old new added grows_on

  -- what an actor rests on stays, if its words in the making do
  pub grounds_grow : (id : ℕ) → ((at : ℕ) (words : List ℕ) → HasPlain old.pieces id at words → HasPlain new.pieces id at words) → Grounds old new id
  grounds_grow id others = record {
    version = grows.version;
    reached = reached_grows;
    near = neighbours_grow;
    recorded = λ at r there. let (n, still) = record_stays at r there in (record r { next = n }, still, refl, λ off. refl);
    making = others;
  }

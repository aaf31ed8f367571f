-- What a recorder has seen of a bucket since its delta or snapshot began is at least what it had accepted and seen.
use Rattle.segment_invariant.proofs.Prelude.Std.{◌≡◌, ◌≢◌, ℕ, ◌+◌, ◌<◌, ◌≤◌, ◌==◌, zero, ne_eqb, Bool, true, false, true≢false, take, Option, Some, None, inl, inr, refl, sym, ap, subst, ◌∙◌, arith, some, none, get_elem?, if◌then◌else◌, Contains, All-contains}
use Rattle.segment_invariant.proofs.Prelude.Machine.{Dimensions, buckets_of, SingleWord, Empty, Packed, Disabled, FrozenEmpty, Frozen, single_of, packed_bucket, units_packed, Actor, Known, Spent, tally_units, is_off, units_in, Leads, field_at, word_seen, accepted_by, bucket_key, SawCount, is_opener, SawBucket, State}
use Rattle.segment_invariant.proofs.Prelude.Invariant.{Record, Body, Anatomy, histogram, form_at, HasRecord, IsRightlyKnown, Invariant, Fits, LooksBack}
use Rattle.segment_machine.specs.Actor.{SawSingle}
use Rattle.segment_invariant.specs.Invariant.{NoneInTransit}
use Rattle.segment_invariant.proofs.Counting.Whole.{known_first}
use Rattle.segment_invariant.proofs.Counting.Seen.{off_is}
use Rattle.segment_invariant.proofs.Walking.Words.{sighted}
use Rattle.segment_invariant.proofs.Blocks.Pieces.{piece_word, one_stands}
use Rattle.segment_promises.specs.Deltas.{HadCount, HadPacked, IsWhole}

-- ---- forms

-- units of a packed bucket, if it is this one
abbrev of_bucket : Option ℕ → ℕ → ℕ → ℕ
of_bucket None n i = 0
of_bucket (Some bucket) n i = if bucket == i then n else 0

nothing_of : (packed : Option ℕ) (i : ℕ) → of_bucket packed 0 i ≡ 0
nothing_of None i = refl
nothing_of (Some bucket) i = by (bucket == i)
  where
    by : (b : Bool) → (if b then 0 else 0) ≡ zero
    by true = refl
    by false = refl

as_packed : (form : Option SingleWord) (i : ℕ) → units_packed form i ≡ of_bucket (packed_bucket form) (units_in form) i
as_packed (Some (Packed bucket units)) i = refl
as_packed (Some (Frozen bucket units)) i = refl
as_packed (Some Empty) i = refl
as_packed (Some (Disabled packed)) i = sym (nothing_of packed i)
as_packed (Some FrozenEmpty) i = refl
as_packed None i = refl

more_of : (packed : Option ℕ) (m n i : ℕ) → m ≤ n → of_bucket packed m i ≤ of_bucket packed n i
more_of None m n i le = omega arith
more_of (Some bucket) m n i le = by (bucket == i)
  where
    by : (b : Bool) → (if b then m else 0) ≤ (if b then n else 0)
    by true = le
    by false = omega arith

none_of : (packed : Option ℕ) (n i : ℕ) → packed ≢ Some i → of_bucket packed n i ≡ 0
none_of None n i ne = refl
none_of (Some bucket) n i ne = λ k. if ne_eqb bucket i (λ e. ne (ap (λ (b : ℕ). Some b) e)) k then n else 0

-- a word that leads to another has no more units of a bucket, except in version 1 of the packed one, if the other is off
leads_more : (version n old new i : ℕ) → Leads version n old new
    → (version ≡ 1 → is_off new ≡ true → packed_bucket (single_of version n new) ≢ Some i)
    → units_packed (single_of version n old) i ≤ units_packed (single_of version n new) i
leads_more version n old new i (inl same) nor = let e = ap (λ (w : ℕ). units_packed (single_of version n w) i) same in omega (arith, e)
leads_more version n old new i (inr (inl empty)) nor = let e = ap (λ (w : ℕ). units_packed (single_of version n w) i) empty in omega (arith, e)
leads_more version n old new i (inr (inr (on, packs, inl more))) nor =
    let first = as_packed (single_of version n old) i in
    let last = as_packed (single_of version n new) i in
    let same = ap (λ (packed : Option ℕ). of_bucket packed (units_in (single_of version n old)) i) packs in
    let grown = more_of (packed_bucket (single_of version n new)) _ _ i more in
    omega (arith, first, last, same, grown)
leads_more version n old new i (inr (inr (on, packs, inr (one, off)))) nor =
    let first = as_packed (single_of version n old) i in
    let none = none_of (packed_bucket (single_of version n old)) (units_in (single_of version n old)) i (λ e. nor one off (packs ∙ e)) in
    omega (arith, first, none)

-- ---- a bucket

module _ (shape : Dimensions) (opened : Anatomy) (state : State) (kept : Invariant shape opened state) (id : ℕ) (a : Actor)
    (mine : get_elem? state.actors id ≡ some a) (records : is_opener a.role ≡ false) (lives : a.hand.place ≢ Spent) (known : Known) (has : Contains a.answers.names known)
    (i : ℕ) (below : i < buckets_of known.spec) where
  fits : Fits shape kept.anatomy state.cursors state.actors kept.roles.opener id a
  fits = kept.each id a mine lives

  looks : LooksBack kept.anatomy state.actors kept.roles.opener a
  looks = fits.looks records

  version : ℕ
  version = kept.anatomy.version

  its : (r : Record) × HasRecord kept.anatomy.pieces known.reference r × (buckets_of r.spec ≡ buckets_of known.spec)
  its =
      let (r, first, stands, named, many, keys) = known_first shape opened state kept known (All-contains (IsRightlyKnown kept.anatomy) a.answers.names known fits.names has) in
      (r, stands, many)

  -- a word that it saw since leads on from those that it saw before
  before_leads : (old word : ℕ) → Contains (take a.since.singles a.seen.singles) (record { at = known.reference + 9; word = old })
      → SawSingle a (known.reference + 9) word → Leads a.segment.version (buckets_of known.spec) old word
  before_leads old word had saw =
      let (r, stands, many) = its in
      subst (λ (v : ℕ). Leads v (buckets_of known.spec) old word) (sym fits.versioned)
      (subst (λ (n : ℕ). Leads kept.anatomy.version n old word) many
      (looks.leading (record { at = known.reference + 9; word = old }) (record { at = known.reference + 9; word = word }) r known.reference had saw refl refl stands))

  -- the words name the counts that its record names
  counts_are : (r : Record) → HasRecord kept.anatomy.pieces known.reference r → field_at state.words known.reference 8 ≡ r.counts
  counts_are r (k, there) = piece_word shape state.words kept.anatomy kept.shown k _ 8 there (omega arith)

  abbrev accepted : ℕ
  accepted = tally_units (accepted_by a) known.name (bucket_key (Some known) i)

  module _ (word : ℕ) (saw : SawSingle a (known.reference + 9) word) where
    abbrev form : Option SingleWord
    form = single_of a.segment.version (buckets_of known.spec) word

    -- if nothing can be in transit, the word is not off with this bucket packed in version 1
    apart : IsWhole a known i → a.segment.version ≡ 1 → is_off word ≡ true → packed_bucket form ≢ Some i
    apart (inl two) one off e = omega (arith, one, two)
    apart (inr (inl on)) one off e = true≢false (sym off ∙ on word saw)
    apart (inr (inr other)) one off e = other word saw e

    packed_more : (n : ℕ) → (a.segment.version ≡ 1 → is_off word ≡ true → packed_bucket form ≢ Some i) → HadPacked a known i n → n ≤ units_packed form i
    packed_more n nor (old, had, is) =
        let more = leads_more a.segment.version (buckets_of known.spec) old word i (before_leads old word had saw) nor in
        omega (arith, more, is)

    -- counts that were seen before are in use now
    in_use : (n : ℕ) → HadCount state.words a known i n → is_off word ≡ true
    in_use n (some_counts, had) =
        let (r, stands, many) = its in
        let are = counts_are r stands in
        let (c, mounted, of_it) = kept.records.mounted known.reference r stands (λ none. some_counts (are ∙ none)) in
        let long = of_it.units in
        looks.closed (record { at = field_at state.words known.reference 8 + 4 + i; word = n }) (record { at = known.reference + 9; word = word }) r c known.reference (4 + i)
        had saw refl stands mounted (omega (arith, are)) (omega arith) (omega (arith, below, many, long))

    -- a word that is not off
    module _ (on : is_off word ≡ false) where
      open_accepted : accepted ≤ units_packed form i
      open_accepted =
          let least = looks.packed known i word has below saw on in
          let same = ap (λ (v : ℕ). units_packed (single_of v (buckets_of known.spec) word) i) fits.versioned in
          omega (arith, least, same)

    -- one that is off, and a count that was seen with it
    module _ (off : is_off word ≡ true) (counts count : ℕ) (names : word_seen a.seen.words (known.reference + 8) ≡ Some counts)
        (counted : SawCount a (counts + 4 + i) count) where
      named : (r : Record) → HasRecord kept.anatomy.pieces known.reference r → r.counts ≡ counts
      named r stands = sighted shape opened state kept id a mine lives known.reference 8 counts (histogram r) stands (omega arith) names

      off_accepted : IsWhole a known i → accepted ≤ count + units_packed form i
      off_accepted whole =
          let (r, stands, many) = its in
          let single = off_is shape opened state kept id a mine lives known.reference word r stands saw off in
          let fewer = sym many in
          let forms : form ≡ form_at kept.anatomy.version r = (λ k. single_of (fits.versioned k) (fewer k) (single k)) in
          let counts_is = named r stands in
          let some_counts = (kept.records.lawful known.reference r stands).off (ap is_off (sym single) ∙ off) in
          let seen : SawCount a (r.counts + 4 + i) count = subst (λ (at : ℕ). SawCount a (at + 4 + i) count) (sym counts_is) counted in
          let least = looks.counted known i count r has below stands some_counts seen (settled r stands forms whole) in
          let same = ap (λ (f : Option SingleWord). units_packed f i) forms in
          omega (arith, least, same)
        where
          settled : (r : Record) → HasRecord kept.anatomy.pieces known.reference r → form ≡ form_at kept.anatomy.version r → IsWhole a known i
              → NoneInTransit kept.anatomy state.actors a known i
          settled r stands forms (inl two) = inl (sym fits.versioned ∙ two)
          settled r stands forms (inr (inl on)) = absurd (true≢false (sym off ∙ on word saw))
          settled r stands forms (inr (inr other)) = inr (inr (λ q there e. other word saw
              (ap packed_bucket forms
              ∙ (ap (λ (b : Body). packed_bucket (form_of b)) (one_stands shape state.words kept.anatomy kept.shown known.reference none none (histogram r) (histogram q) stands there).1 ∙ e))))
            where
              form_of : Body → Option SingleWord
              form_of (histogram r) = form_at kept.anatomy.version r
              form_of _ = None

      counted_more : (n : ℕ) → HadCount state.words a known i n → n ≤ count
      counted_more n (some_counts, had) =
          let (r, stands, many) = its in
          let same : field_at state.words known.reference 8 ≡ counts = counts_are r stands ∙ named r stands in
          looks.rising (record { at = field_at state.words known.reference 8 + 4 + i; word = n }) (record { at = counts + 4 + i; word = count }) had counted
          (ap (λ (at : ℕ). at + 4 + i) same)

  -- what it saw is enough
  pub enough : (total : ℕ) → SawBucket a known i total
      → (IsWhole a known i → accepted ≤ total) × ((n : ℕ) → IsWhole a known i → HadPacked a known i n → n ≤ total)
      × ((n : ℕ) → HadCount state.words a known i n → n ≤ total)
      × (a.segment.version ≡ 2 → (m n : ℕ) → HadCount state.words a known i m → HadPacked a known i n → m + n ≤ total)
  enough total (word, saw, inl (on, is)) = (
    λ whole. let least = open_accepted word saw on in omega (arith, least, is),
    λ n whole had. let more = packed_more word saw n (apart word saw whole) had in omega (arith, more, is),
    λ n had. absurd (true≢false (sym (in_use word saw n had) ∙ on)),
    λ two m n had also. absurd (true≢false (sym (in_use word saw m had) ∙ on)),
  )
  enough total (word, saw, inr (off, (counts, count, names, counted, is))) = (
    λ whole. let least = off_accepted word saw off counts count names counted whole in omega (arith, least, is),
    λ n whole had. let more = packed_more word saw n (apart word saw whole) had in omega (arith, more, is),
    λ n had. let more = counted_more word saw off counts count names counted n had in omega (arith, more, is),
    λ two m n had also.
        let more = counted_more word saw off counts count names counted m had in
        let packed = packed_more word saw n (λ one. absurd (omega (arith, one, two))) also in
        omega (arith, more, packed, is),
  )

-- What holds of actors together, and of one among the others, still holds when others did the same together.
use Rattle.segment_invariant.proofs.Prelude.Std.{set, ◌≡◌, ◌⊎◌, ℕ, ◌+◌, ◌<◌, ◌≤◌, Some, ℤ, Bool, true, false, List, ◌-◌, ◌++◌, map, drop, length, take, inl, inr, ⊎_elim, sym, refl, ap, ◌∙◌, arith, Contains, if◌then◌else◌, some, get_elem?, All-weaker, contains_at, Contains-permutation, at_set}
use Rattle.segment_invariant.proofs.Prelude.Machine.{Dimensions, Entry, EntryProgress, SumLoaded, Actor, Portion, Answered, Cost, Moment, Taken, tally_units, tally_noted, bucket_key, cost_of, all_counted, all_taken, is_opener, made_of}
use Rattle.segment_invariant.proofs.Prelude.Invariant.{IsWithinCounts, Record, Anatomy, Piece, Listed, is_living, IsAlone, IsSumOf, LooksBack, FinalsAreExact, Fits, HasKey, SumsAreNear}
use Rattle.segment_invariant.specs.Ledger.{IsBalanced}
use Rattle.segment_invariant.specs.Invariant.{ended_deltas, IsMoment, IsMomentOf}
use Rattle.list_lemmas.proofs.Maps.{contains_take}
use Rattle.segment_invariant.proofs.Frames.Deeds.{Deeds, SameSums}
use Rattle.segment_invariant.proofs.Frames.Anew.{fits_anew}

-- ---- all actors together

pub balanced : (version : ℕ) (opened pieces : List Piece) (old new : List Actor) → SameSums old new → IsBalanced version opened pieces old
    → IsBalanced version opened pieces new
balanced version opened pieces old new same books = record {
  units = λ name key.
      let was = books.units name key in
      let moved = same.moving name key in
      let counted = same.counted name key in
      omega (arith, was, moved, counted);
  marks = λ name key. books.marks name key ∙ sym (same.taken name key);
  sums = λ name. books.sums name ∙ sym (same.summed name);
  sum_marks = λ name. books.sum_marks name ∙ sym (same.taken_sums name);
  noted = λ name.
      let was = books.noted name in
      let noted = same.noted name in
      omega (arith, was, noted);
  taken = λ name key.
      let was = books.taken name key in
      let counted = same.counted name key in
      let took = same.taken name key in
      omega (arith, was, counted, took);
}

-- each sum that is loaded now was loaded before
abbrev pub LoadedBefore : List Actor → List Actor → Type 0
LoadedBefore old new = (at : ℕ) (sum : ℤ) (id : ℕ) (a : Actor) → get_elem? new id ≡ some a → a.hand.place ≡ SumLoaded at sum
    → (k : ℕ) × (b : Actor) × (get_elem? old k ≡ some b) × (b.hand.place ≡ SumLoaded at sum)

-- so it is when one actor becomes another that has loaded none but the one that it had
pub loaded_set : (actors : List Actor) (id : ℕ) (a b : Actor) → get_elem? actors id ≡ some a
    → ((at : ℕ) (sum : ℤ) → b.hand.place ≡ SumLoaded at sum → a.hand.place ≡ SumLoaded at sum) → LoadedBefore actors (set actors id b)
loaded_set actors id a b mine same at sum k c there stands = elim (at_set actors id k b c there) [
  | inl t ↦ (id, a, mine, same at sum (ap (λ (c : Actor). c.hand.place) t.1 ∙ stands))
  | inr t ↦ (k, c, t.1, stands)
]

-- sums of a record stay near then
pub sums_near : (pieces : List Piece) (old new : List Actor) → SameSums old new → LoadedBefore old new → SumsAreNear pieces old → SumsAreNear pieces new
sums_near pieces old new same loaded near at r x y there first last =
    let bound = near at r x y there (before at r x first) (before at r y last) in
    let costs = same.costs r.name in
    omega (arith, bound, costs)
  where
    before : (at : ℕ) (r : Record) (sum : ℤ) → IsSumOf new at r sum → IsSumOf old at r sum
    before at r sum (inl e) = inl e
    before at r sum (inr (inl e)) = inr (inl e)
    before at r sum (inr (inr (inl e))) = inr (inr (inl e))
    before at r sum (inr (inr (inr (id, a, is, stands)))) = inr (inr (inr (loaded at sum id a is stands)))

-- what was taken in all has the names and counts that it had
pub taken_keys : (records : List Listed) (old new : List Actor) → Deeds old new
    → ((t : Portion) (count : ℤ × ℕ) → Contains (all_taken old) t → Contains t.counts count → HasKey records t.name count.0)
    → (t : Portion) (count : ℤ × ℕ) → Contains (all_taken new) t → Contains t.counts count → HasKey records t.name count.0
taken_keys records old new same keys t count there = keys t count (Contains-permutation _ _ t same.taken there)

-- ---- one among the others

-- Of two openers, of one opening, the later one has made no fewer recorders, and if it has made more, the last of the earlier one's is not
-- the last any more; a recorder that lives then lived before, or was made since.
pub record IsLater (old new : List Actor) (opener later : Actor) : Type 0 where
  pub first : (later.entries.first ≡ opener.entries.first) × (later.entries.first_noted ≡ opener.entries.first_noted)
  pub more : made_of opener.role ≤ made_of later.role
  pub last : (n : ℕ) → n < made_of opener.role → n + 1 ≡ made_of later.role → n + 1 ≡ made_of opener.role
  pub lives : (k : ℕ) (c : Actor) → get_elem? new k ≡ some c → is_living c ≡ true
      → ((b : Actor) × (get_elem? old k ≡ some b) × (is_living b ≡ true) × (made_of b.role ≡ made_of c.role)) ⊎ (made_of opener.role ≤ made_of c.role)

pub within : (old new : List Actor) (s : Answered) → SameSums old new → IsWithinCounts old s → IsWithinCounts new s
within old new s same = All-weaker
    (λ (count : ℤ × ℕ). count.1 ≤ tally_units (all_counted old) s.name count.0)
    (λ (count : ℤ × ℕ). count.1 ≤ tally_units (all_counted new) s.name count.0)
    (λ count below. let counted = same.counted s.name count.0 in omega (arith, below, counted)) s.counts

pub looks_back : (anatomy : Anatomy) (old new : List Actor) (opener later a : Actor) → SameSums old new → IsLater old new opener later
    → (IsAlone new a → IsAlone old a) → LooksBack anatomy old opener a → LooksBack anatomy new later a
looks_back anatomy old new opener later a same since alone looks = record {
  most = λ known bucket total has below saw.
      let was = looks.most known bucket total has below saw in
      let counted = same.counted known.name (bucket_key (Some known) bucket) in
      omega (arith, was, counted);
  packed = looks.packed;
  counted = λ known bucket count r has below there mounts saw settled. looks.counted known bucket count r has below there mounts saw
      (⊎_elim (λ second. inl second) (λ rest. inr (⊎_elim (λ only. inl (alone only)) (λ other. inr other) rest)) settled);
  samples = looks.samples;
  rising = looks.rising;
  leading = looks.leading;
  closed = looks.closed;
  begun = looks.begun;
  noted = λ known count has saw.
      let was = looks.noted known count has saw in
      let first = ap (λ (list : List Entry). tally_noted (drop (length list) a.entries.inherited ++ map (λ (c : EntryProgress). c.entry) a.entries.log) known.name) since.first.0 in
      let noted = ap (λ (list : List Cost). cost_of list known.name) since.first.1 in
      omega (arith, was, first, noted);
  sum = λ reference sum r stands only there. looks.sum reference sum r stands (alone only) there;
}

-- a delta that has ended is one of all deltas
pub ended_among : (taking : Bool) (list : List Taken) (t : Taken) → Contains (if taking then take (length list - 1) list else list) t → Contains list t
ended_among true list t there = contains_take (length list - 1) list t there
ended_among false list t there = there

pub ended_at : (taking : Bool) (list : List Taken) (n : ℕ) (t : Taken) → get_elem? (if taking then take (length list - 1) list else list) n ≡ some t → Contains list t
ended_at taking list n t there = ended_among taking list t (contains_at _ n t there)

-- a delta that has ended began at a moment of its actor's
pub ended_began : (a : Actor) (t : Taken) → Contains (ended_deltas a) t → IsMomentOf a t.moment
ended_began a t there = inl (t, ended_among a.deltas.taking a.deltas.taken t there, refl)

pub each_began : (a : Actor) (n : ℕ) (t : Taken) → get_elem? (ended_deltas a) n ≡ some t → IsMomentOf a t.moment
each_began a n t there = inl (t, ended_at a.deltas.taking a.deltas.taken n t there, refl)

pub moment : (old new : List Actor) (opener later : Actor) (id : ℕ) (a : Actor) (m : Moment) → IsLater old new opener later
    → IsMoment old opener id a m → IsMoment new later id a m
moment old new opener later id a m since is = record {
  logged = is.logged;
  before = (let low = is.before in let more = since.more in omega (arith, low, more));
  mine = is.mine;
  eldest = λ none other c at lives apart. ⊎_elim
      (λ stood. let low = is.eldest none other stood.0 stood.1 stood.2 apart in let e = stood.3 in omega (arith, low, e))
      (λ made. let low = is.before in omega (arith, low, made))
      (since.lives other c at lives);
}

pub finals : (old new : List Actor) (opener later : Actor) (id : ℕ) (a : Actor) → SameSums old new → IsLater old new opener later
    → (a.deltas.taking ≡ true → IsAlone new a → IsAlone old a) → FinalsAreExact old opener id a → FinalsAreExact new later id a
finals old new opener later id a same since alone exact = record {
  deltas = λ t there none youngest quiet.
      let began = exact.moments t.moment (ended_began a t there) in
      let was = exact.deltas t there none (since.last t.moment.before began.before youngest) quiet in (
        λ key. same.taken t.name key ∙ was.0 key ∙ sym (same.counted t.name key),
        same.taken_sums t.name ∙ was.1 ∙ sym (same.summed t.name),
      );
  snapshots = λ s there none youngest quiet.
      let began = exact.moments s.moment (inr (s, there, refl)) in
      let was = exact.snapshots s there none (since.last s.moment.before began.before youngest) quiet in (
        λ key. was.0 key ∙ sym (same.counted s.name key),
        was.1 ∙ sym (same.summed s.name),
        (
            let first = ap (λ (list : List Cost). cost_of list s.name) since.first.1 in
            let redundant = was.2 in
            let noted = same.noted s.name in
            omega (arith, first, redundant, noted)),
      );
  each = λ n t there none youngest.
      let began = exact.moments t.moment (each_began a n t there) in
      let was = exact.each n t there none (since.last t.moment.before began.before youngest) in
      (λ key. same.taken t.name key ∙ was.0 key, same.taken_sums t.name ∙ was.1);
  moments = λ m of. moment old new opener later id a m since (exact.moments m of);
  swapped = λ before last taking is swapped only.
      same.taken_sums last.name ∙ exact.swapped before last taking is swapped (alone taking only) ∙ sym (same.summed last.name);
}

-- an actor that fits among some fits among others that did the same; a recorder, or one that takes, may not be alone only since then
pub fits : (shape : Dimensions) (anatomy : Anatomy) (cursors : List ℕ) (old new : List Actor) (opener later : Actor) (id : ℕ) (a : Actor)
    → SameSums old new → IsLater old new opener later → ((is_opener a.role ≡ false) ⊎ (a.deltas.taking ≡ true) → IsAlone new a → IsAlone old a)
    → Fits shape anatomy cursors old opener id a → Fits shape anatomy cursors new later id a
fits shape anatomy cursors old new opener later id a same since alone fit = fits_anew shape anatomy cursors old new opener later id a a.units.share a.role fit
    (λ records. looks_back anatomy old new opener later a same since (alone (inl records)) (fit.looks records))
    (finals old new opener later id a same since (λ taking. alone (inr taking)) fit.finals)
    (All-weaker (IsWithinCounts old) (IsWithinCounts new) (λ s. within old new s same) a.deltas.snapshots fit.snapshots)

-- What a delta lists: the units that it took of each bucket, in the order of the buckets.
use Rattle.segment_invariant.proofs.Prelude.Std.{◌≡◌, ℕ, suc, true, false, ◌+◌, ◌-◌, ◌<◌, ◌≤◌, ℤ, pos, map, nat_lt, if◌then◌else◌, Bool, List, [], ◌∷◌, ◌++◌, length, slice_index, Some, refl, sym, ap, subst, ◌∙◌, arith, AllByRecursion, int_eq, sum_by-append, lt-ltb, le-ltb, append-nil, length_push}
use Rattle.segment_invariant.proofs.Prelude.Machine.{boundaries_of, buckets_of, Actor, Known, Taken, bucket_key, units_listed, change_last}
use Rattle.std.proofs.Common.{Less, Equal, Greater}
use Rattle.std.specs.Prelude.{int_lt}
use Rattle.std.specs.List.{insert}
use Rattle.std.specs.Ordering.{int_cmp}
use Rattle.std.proofs.lemmas.List.Sorted.{IsPermutation-insert, sum_by-IsPermutation}
use Rattle.bucket_ranges.specs.Ranges.{SplitsValues}
use Rattle.segment_invariant.proofs.Notes.Amounts.{last_changed}
use Rattle.segment_machine.specs.Taking.{take_units}
use Rattle.segment_promises.proofs.Calls.BucketLists.{keys_below, last_below, still_below, units_push}
use Rattle.segment_promises.specs.Calls.{AreBelow, AreUnits}
use Rattle.hist_core.specs.declared.delta_call.DeltaCall.{DeltaCall}
use Rattle.hist_core.specs.declared.delta_call.DeltaCallStep.{DeltaCallStep}
use Rattle.hist_core.specs.declared.delta_call.DeltaCallStep.TheVariants.{More, Took, Done}
use Rattle.hist_core.specs.DeltaCall.{TakesBucket, IsUnderWay, TakesUnits, insert_by_key, place_of}

-- ---- keys that ascend

not_less : (x y : ℤ) → int_lt x y ≡ false → int_cmp x y ≡ Less → ⊥
not_less x y e less = by (int_lt y x) (ap (λ (t : Bool). if t then Less else (if int_lt y x then Greater else Equal)) (sym e) ∙ less)
  where
    by : (t : Bool) → (if t then Greater else Equal) ≡ Less → ⊥
    by true is = cc is
    by false is = cc is

pub last_by_key : (one : ℤ × ℕ) (counts : List (ℤ × ℕ)) → AllByRecursion (λ k. int_cmp k one.0 ≡ Less) (map (λ (c : ℤ × ℕ). c.0) counts)
    → insert_by_key one counts ≡ counts ++ one ∷ []
last_by_key one [] below = refl
last_by_key one (c ∷ rest) (less, below) = by (int_lt c.0 one.0) refl (last_by_key one rest below)
  where
    by : (test : Bool) → int_lt c.0 one.0 ≡ test → insert_by_key one rest ≡ rest ++ one ∷ []
        → insert (c ∷ rest) (if test then suc (place_of one.0 rest) else 0) one ≡ c ∷ rest ++ one ∷ []
    by true e behind = ap (λ (l : List (ℤ × ℕ)). c ∷ l) behind
    by false e behind = absurd (not_less c.0 one.0 e less)

module _ (known : Known) (split : SplitsValues (buckets_of known.spec) (boundaries_of known.spec)) where
  -- what it lists once it has taken units of a bucket
  pub record AreListed (bucket : ℕ) (counts : List (ℤ × ℕ)) : Type 0 where
    pub units : AreUnits counts
    pub below : AreBelow known (bucket + 1) counts
    pub few : length counts ≤ bucket + 1

  pub lists_on : (bucket total mark : ℕ) (old new : DeltaCall) (said : DeltaCallStep) → bucket < buckets_of known.spec → old.ranges ≡ boundaries_of known.spec
      → AreUnits old.counts.items → AreBelow known bucket old.counts.items → length old.counts.items ≤ bucket
      → TakesBucket bucket total mark old new said → AreListed bucket new.counts.items
  lists_on bucket total mark old new More under ranges units below few (none, same) = record {
    units = subst (λ (t : DeltaCall). AreUnits t.counts.items) (sym same) units;
    below = subst (λ (t : DeltaCall). AreBelow known (bucket + 1) t.counts.items) (sym same) (still_below known bucket old.counts.items below);
    few = subst (λ (t : DeltaCall). length t.counts.items ≤ bucket + 1) (sym same) (omega (arith, few));
  }
  lists_on bucket total mark old new (Took key taken) under ranges units below few (some, is_key, is_units, same, listed, room) =
      let mine : key ≡ bucket_key (Some known) bucket = is_key ∙ ap (λ (l : List ℕ). pos (slice_index l bucket)) ranges in
      let list_is : new.counts.items ≡ old.counts.items ++ (bucket_key (Some known) bucket, taken) ∷ [] =
      listed ∙ (ap (λ (k : ℤ). insert_by_key (k, taken) old.counts.items) mine
      ∙ last_by_key (bucket_key (Some known) bucket, taken) old.counts.items (keys_below known split bucket under old.counts.items below)) in record {
        units = subst AreUnits (sym list_is) (units_push known split bucket taken under (omega (arith, some, is_units)) old.counts.items below units);
        below = subst (AreBelow known (bucket + 1)) (sym list_is) (last_below known bucket taken old.counts.items below);
        few = subst (λ (l : List (ℤ × ℕ)). length l ≤ bucket + 1) (sym list_is) (let one = length_push old.counts.items (bucket_key (Some known) bucket, taken) in omega (arith, one, few));
      }
  lists_on bucket total mark old new (Done sum) under ranges units below few none = absurd none

-- ---- as the machine has it

-- the units of each key are those that are listed, wherever they are
abbrev SameUnits : List (ℤ × ℕ) → List (ℤ × ℕ) → Type 0
SameUnits xs ys = (key : ℤ) → units_listed xs key ≡ units_listed ys key

abbrev units_at : ℤ → ℤ × ℕ → ℕ
units_at key count = if int_eq count.0 key then count.1 else 0

same_more : (xs ys : List (ℤ × ℕ)) (one : ℤ × ℕ) → SameUnits xs ys → SameUnits (insert_by_key one xs) (ys ++ one ∷ [])
same_more xs ys one same key =
    let moved = sum_by-IsPermutation (units_at key) (one ∷ xs) (insert_by_key one xs) (IsPermutation-insert xs (place_of one.0 xs) one) in
    let first = sum_by-append (units_at key) (one ∷ []) xs in
    let last = sum_by-append (units_at key) ys (one ∷ []) in
    let rest = same key in omega (arith, moved, first, last, rest)

-- units between a mark and what the mark was raised to
abbrev units_between : ℤ → ℕ → ℕ → List (ℤ × ℕ)
units_between key found least = if nat_lt found least then (key, least - found) ∷ [] else []

listed_so : (of : ℤ) (total mark : ℕ) (old new : DeltaCall) (said : DeltaCallStep) (counts : List (ℤ × ℕ)) → SameUnits old.counts.items counts
    → TakesUnits of total mark old new said → SameUnits new.counts.items (counts ++ units_between of mark total)
listed_so of total mark old new More counts same (none, is_new) =
    subst (λ (l : List (ℤ × ℕ)). SameUnits new.counts.items l)
    (sym (ap (λ (b : Bool). counts ++ (if b then (of, total - mark) ∷ [] else [])) (le-ltb mark total none) ∙ append-nil counts))
    (subst (λ (t : DeltaCall). SameUnits t.counts.items counts) (sym is_new) same)
listed_so of total mark old new (Took key taken) counts same (some, is_key, is_units, is_new, listed, room) =
    subst (λ (l : List (ℤ × ℕ)). SameUnits new.counts.items l)
    (sym (ap (λ (b : Bool). counts ++ (if b then (of, total - mark) ∷ [] else [])) (lt-ltb mark total some)
    ∙ ap (λ (p : ℤ × ℕ). counts ++ p ∷ []) (λ i. (sym is_key i, sym is_units i))))
    (subst (λ (l : List (ℤ × ℕ)). SameUnits l (counts ++ (key, taken) ∷ [])) (sym listed) (same_more old.counts.items counts (key, taken) same))
listed_so of total mark old new (Done sum) counts same none = absurd none

-- it has taken these units too, as the last of what its actor's deltas took
pub way_taken : (known : Known) (earlier : List Taken) (of : ℤ) (total mark : ℕ) (old new : DeltaCall) (said : DeltaCallStep) (a b : Actor) → TakesUnits of total mark old new said
    → IsUnderWay known earlier old a → b.deltas ≡ record a.deltas { taken = change_last (take_units of total mark) a.deltas.taken } → IsUnderWay known earlier new b
way_taken known earlier of total mark old new said a b is way deltas = record {
  taking = ap (λ d. d.taking) deltas ∙ way.taking;
  last = take_units of total mark way.last;
  taken = ap (λ d. d.taken) deltas ∙ (ap (change_last (take_units of total mark)) way.taken ∙ last_changed (take_units of total mark) earlier way.last);
  name = way.name;
  counts = listed_so of total mark old new said way.last.counts way.counts is;
  sum = way.sum;
}

-- of a bucket
pub way_on : (known : Known) (earlier : List Taken) (bucket total mark : ℕ) (old new : DeltaCall) (said : DeltaCallStep) (a b : Actor) (key : ℤ)
    → pos (slice_index old.ranges bucket) ≡ key → TakesBucket bucket total mark old new said → IsUnderWay known earlier old a
    → b.deltas ≡ record a.deltas { taken = change_last (take_units key total mark) a.deltas.taken } → IsUnderWay known earlier new b
way_on known earlier bucket total mark old new said a b key is_key is way deltas =
    way_taken known earlier key total mark old new said a b (subst (λ (k : ℤ). TakesUnits k total mark old new said) is_key is) way deltas

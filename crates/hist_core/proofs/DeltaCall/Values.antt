-- What a delta lists of the samples of a sparse histogram: values in ascending order, each once.
use Rattle.segment_invariant.proofs.Prelude.Std.{◌≡◌, ◌≢◌, ℕ, suc, ◌+◌, ◌≤◌, ℤ, Bool, true, false, if◌then◌else◌, map, sum_by, List, [], ◌∷◌, ◌++◌, inr, refl, ap, ◌∙◌, arith, AllByRecursion, Contains, IsPermutation, int_eq, Decides-int_eq, All-push, sum_by-append}
use Rattle.segment_invariant.proofs.Prelude.Machine.{Actor, Known, Seen, SawOther, SawSample}
use Rattle.std.proofs.Common.{Less, Equal, Greater}
use Rattle.std.specs.Prelude.{int_lt}
use Rattle.std.specs.List.{insert}
use Rattle.std.specs.List.Sorted.{IsStrictlySortedBy}
use Rattle.std.specs.Ordering.{int_cmp}
use Rattle.std.proofs.lemmas.Cmp.{int_cmp_total}
use Rattle.std.proofs.lemmas.List.Sorted.{All-permutation, IsPermutation-append_comm, IsPermutation-insert, IsPermutation-trans, length_permutation}
use Rattle.std.proofs.lemmas.Map.Lookups.{exact_signed}
use Rattle.segment_machine.specs.Firsts.{ComesFirst}
use Rattle.segment_machine.specs.Note.{TookSample}
use Rattle.segment_promises.specs.Values.{NoKeyRepeats, ListsValues}
use Rattle.segment_promises.proofs.ListedValues.{lists_on, lists_still}
use Rattle.segment_promises.proofs.SortedKeys.{once_still}
use Rattle.segment_promises.specs.Calls.{AreUnits}
use Rattle.segment_promises.proofs.Calls.SampleLists.{all_passed, did_with}
use Rattle.segment_promises.proofs.Calls.Sights.{took_sample}
use Rattle.hist_core.specs.declared.delta_call.DeltaCall.{DeltaCall}
use Rattle.hist_core.specs.StepsBy.{IsInOrder}
use Rattle.hist_core.specs.DeltaCall.{ListsTaken, insert_by_key, place_of}
use Rattle.hist_core.specs.Walk.{HasReachedEnd}
use Rattle.hist_core.proofs.Walks.Walking.{GoesAlong}

-- ---- one key more

-- it is among the others
pub moved_in : (one : ℤ × ℕ) (counts : List (ℤ × ℕ)) → IsPermutation (counts ++ one ∷ []) (insert_by_key one counts)
moved_in one counts =
    IsPermutation-trans (counts ++ one ∷ []) (one ∷ counts) (insert_by_key one counts) (IsPermutation-append_comm counts (one ∷ []))
    (IsPermutation-insert counts (place_of one.0 counts) one)

less_so : (x y : ℤ) → int_lt x y ≡ true → int_cmp x y ≡ Less
less_so x y e = ap (λ (t : Bool). if t then Less else (if int_lt y x then Greater else Equal)) e

-- of two keys that differ, if one is not less, the other is
above : (x y : ℤ) → int_lt x y ≡ false → x ≢ y → int_cmp y x ≡ Less
above x y e apart = by (int_lt y x) refl
  where
    by : (b : Bool) → int_lt y x ≡ b → int_cmp y x ≡ Less
    by true f = less_so y x f
    by false f = absurd (apart (exact_signed x y (λ i. if e i then Less else (if f i then Greater else Equal))))

all_above : (x y : ℤ) (keys : List ℤ) → int_cmp x y ≡ Less → AllByRecursion (λ k. int_cmp y k ≡ Less) keys → AllByRecursion (λ k. int_cmp x k ≡ Less) keys
all_above x y [] less all = tt
all_above x y (k ∷ keys) less (first, all) = (int_cmp_total.trans x y k less first, all_above x y keys less all)

all_insert : (P : ℤ → Type 0) (one : ℤ × ℕ) (counts : List (ℤ × ℕ)) → P one.0 → AllByRecursion P (map (λ (c : ℤ × ℕ). c.0) counts)
    → AllByRecursion P (map (λ (c : ℤ × ℕ). c.0) (insert_by_key one counts))
all_insert P one [] it all = (it, tt)
all_insert P one (c ∷ rest) it (first, all) = by (int_lt c.0 one.0) (all_insert P one rest it all)
  where
    by : (test : Bool) → AllByRecursion P (map (λ (c : ℤ × ℕ). c.0) (insert rest (place_of one.0 rest) one))
        → AllByRecursion P (map (λ (c : ℤ × ℕ). c.0) (insert (c ∷ rest) (if test then suc (place_of one.0 rest) else 0) one))
    by true behind = (first, behind)
    by false behind = (it, (first, all))

front_insert : (one c : ℤ × ℕ) (rest : List (ℤ × ℕ)) → int_cmp one.0 c.0 ≡ Less → IsStrictlySortedBy int_cmp (c.0 ∷ map (λ (c : ℤ × ℕ). c.0) rest)
    → IsStrictlySortedBy int_cmp (one.0 ∷ c.0 ∷ map (λ (c : ℤ × ℕ). c.0) rest)
unfolding IsStrictlySortedBy
front_insert one c rest less (first, sorted) = ((less, all_above one.0 c.0 (map (λ (c : ℤ × ℕ). c.0) rest) less first), (first, sorted))

behind_insert : (one c : ℤ × ℕ) (rest : List (ℤ × ℕ)) → int_cmp c.0 one.0 ≡ Less → IsStrictlySortedBy int_cmp (c.0 ∷ map (λ (c : ℤ × ℕ). c.0) rest)
    → IsStrictlySortedBy int_cmp (map (λ (c : ℤ × ℕ). c.0) (insert_by_key one rest))
    → IsStrictlySortedBy int_cmp (c.0 ∷ map (λ (c : ℤ × ℕ). c.0) (insert_by_key one rest))
unfolding IsStrictlySortedBy
behind_insert one c rest less (first, sorted) behind = (all_insert (λ k. int_cmp c.0 k ≡ Less) one rest less first, behind)

sorted_rest : (c : ℤ × ℕ) (rest : List (ℤ × ℕ)) → IsStrictlySortedBy int_cmp (c.0 ∷ map (λ (c : ℤ × ℕ). c.0) rest)
    → IsStrictlySortedBy int_cmp (map (λ (c : ℤ × ℕ). c.0) rest)
unfolding IsStrictlySortedBy
sorted_rest c rest (first, sorted) = sorted

sorted_one : (key : ℤ) → IsStrictlySortedBy int_cmp (key ∷ [])
unfolding IsStrictlySortedBy
sorted_one key = (tt, tt)

sorted_insert : (one : ℤ × ℕ) (counts : List (ℤ × ℕ)) → IsStrictlySortedBy int_cmp (map (λ (c : ℤ × ℕ). c.0) counts)
    → AllByRecursion (λ k. k ≢ one.0) (map (λ (c : ℤ × ℕ). c.0) counts) → IsStrictlySortedBy int_cmp (map (λ (c : ℤ × ℕ). c.0) (insert_by_key one counts))
sorted_insert one [] sorted apart = sorted_one one.0
sorted_insert one (c ∷ rest) sorted (differs, apart) = by (int_lt c.0 one.0) refl (sorted_insert one rest (sorted_rest c rest sorted) apart)
  where
    by : (test : Bool) → int_lt c.0 one.0 ≡ test → IsStrictlySortedBy int_cmp (map (λ (c : ℤ × ℕ). c.0) (insert rest (place_of one.0 rest) one))
        → IsStrictlySortedBy int_cmp (map (λ (c : ℤ × ℕ). c.0) (insert (c ∷ rest) (if test then suc (place_of one.0 rest) else 0) one))
    by true e behind = behind_insert one c rest (less_so c.0 one.0 e) sorted behind
    by false e behind = front_insert one c rest (above c.0 one.0 e differs) sorted

-- how often a key is among them
abbrev times : ℤ → ℤ × ℕ → ℕ
times key count = if int_eq count.0 key then 1 else 0

one_more : (n : ℕ) → 0 + n ≡ n
one_more n = omega arith

stands_once : (key : ℤ) (count : ℤ × ℕ) → count.0 ≡ key → sum_by (times key) (count ∷ []) ≡ 1
stands_once key count same = one_more (times key count) ∙ ap (λ (b : Bool). if b then 1 else 0) ((Decides-int_eq count.0 key).1 same)

apart_all : (key : ℤ) (counts : List (ℤ × ℕ)) → sum_by (times key) counts ≡ 0 → AllByRecursion (λ k. k ≢ key) (map (λ (c : ℤ × ℕ). c.0) counts)
apart_all key [] none = tt
apart_all key (c ∷ rest) none =
    let all = sum_by-append (times key) (c ∷ []) rest in (
      λ same. (let one = stands_once key c same in omega (arith, all, none, one)),
      apart_all key rest (omega (arith, all, none)),
    )

-- units of a key that is not listed yet
pub units_insert : (one : ℤ × ℕ) (counts : List (ℤ × ℕ)) → 1 ≤ one.1 → AreUnits counts → NoKeyRepeats (counts ++ one ∷ []) → AreUnits (insert_by_key one counts)
units_insert one counts least are once =
    let all = sum_by-append (times one.0) counts (one ∷ []) in
    let most = once one.0 in
    let last = stands_once one.0 one refl in record {
      ascending = sorted_insert one counts are.ascending (apart_all one.0 counts (omega (arith, all, most, last)));
      some = All-permutation (λ (c : ℤ × ℕ). 1 ≤ c.1) (counts ++ one ∷ []) (insert_by_key one counts) (moved_in one counts)
          (All-push (λ (c : ℤ × ℕ). 1 ≤ c.1) counts one are.some least);
    }

-- ---- what is listed

-- moved about it is the same
pub lists_moved : (Does : ℤ → ℕ → Type 0) (Has : ℕ → ℕ → Type 0) (histogram : ℕ) (passed : List ℕ) (xs ys : List (ℤ × ℕ)) (seen : Seen) → IsPermutation xs ys
    → ListsValues Does Has histogram passed xs seen → ListsValues Does Has histogram passed ys seen
lists_moved Does Has histogram passed xs ys seen moved lists = record {
  passes = lists.passes;
  firsts = All-permutation
      (λ (count : ℤ × ℕ). (sample : ℕ) × ComesFirst (SawOther seen histogram count.0) (SawSample seen histogram count.0) passed sample × Has sample count.1)
      xs ys moved lists.firsts;
  once = once_still xs ys moved lists.once;
  few = let same = length_permutation xs ys moved in let few = lists.few in omega (arith, same, few);
}

-- what it lists goes along with a walk
pub taken_along : (known : Known) (delta_call : DeltaCall) → GoesAlong known (ListsTaken known delta_call)
taken_along known delta_call = record {
  still = λ a b sees began passed lists.
      lists_still a.seen b.seen sees.words known.reference (λ value sample. TookSample a sample) (λ value sample. TookSample b sample)
      (λ value sample took. took_sample a b sees began sample took) (λ sample units. 1 ≤ units) (λ sample units. 1 ≤ units) (λ sample units some. some) passed
      delta_call.counts.items lists;
  others = λ a passed at none lists.
      lists_on (λ value sample. TookSample a sample) (λ sample units. 1 ≤ units) known.reference a.seen passed delta_call.counts.items lists at (inr none);
}

-- at the end of the list it has taken what it saw of each sample that it found
pub took_samples : (known : Known) (delta_call : DeltaCall) (a : Actor) → IsInOrder a → HasReachedEnd known (ListsTaken known delta_call) a → (value : ℤ) (sample : ℕ)
    → Contains a.seen.chain sample → SawSample a.seen known.reference value sample → TookSample a sample
took_samples known delta_call a order all value sample met saw =
    let whole = all_passed a known.reference all.passed all.way.comes order.once in
    let there = order.behind known.reference sample value all.way.comes.front all.passed met saw whole in
    (did_with (λ value sample. TookSample a sample) a.seen known.reference all.passed all.lists.passes value sample there saw).2

-- What an actor saw of the samples that it passed after the record of a sparse histogram it has still seen when it has seen more; and what
-- it lists of all of them is the snapshot.
use Rattle.segment_invariant.proofs.Prelude.Std.{◌≡◌, ◌⊎◌, ℕ, ◌+◌, ◌*◌, ◌≤◌, ℤ, false, map, List, ◌∷◌, ◌++◌, length, inl, inr, ⊎_elim, sym, ap, subst, ◌∙◌, Some, cast_signed, cast_unsigned, w64, All, Contains, Contains-append_left, map-append, Contains-permutation, some, get_elem?}
use Rattle.segment_invariant.proofs.Prelude.Machine.{Actor, Known, Seen, SawCount, IsFirstSample, SawSample}
use Rattle.std.proofs.lemmas.List.Sorted.{All-permutation, IsPermutation-map}
use Rattle.segment_machine.specs.Taking.{is_looking}
use Rattle.segment_machine.proofs.Values.{value_word}
use Rattle.segment_promises.specs.Values.{ComesTo}
use Rattle.segment_promises.proofs.ListedValues.{lists_still}
use Rattle.segment_promises.proofs.SortedKeys.{one_place, once_still}
use Rattle.segment_promises.specs.Calls.{AreUnits, BeganBefore, SeesMore}
use Rattle.segment_promises.proofs.Calls.SampleLists.{all_passed, did_with}
use Rattle.segment_promises.proofs.Calls.Sights.{began_still, saw_count}
use Rattle.hist_core.specs.StepsBy.{IsInOrder}
use Rattle.hist_core.specs.SnapshotCall.{HasListed, HasSeenAll, HasSeenValues, HasTotal}
use Rattle.hist_core.specs.Walk.{IsSampleWalkProgress}

-- ---- it has seen more

-- if it has walked no further, it is where it was
pub comes_still : (histogram : ℕ) (passed : List ℕ) (at : ℕ) (a b : Actor) → b.segment ≡ a.segment → b.seen.chain ≡ a.seen.chain
    → ComesTo histogram passed at a → ComesTo histogram passed at b
comes_still histogram passed at a b segment chain comes = record {
  front = comes.front;
  behind = comes.behind;
  chain = chain ∙ comes.chain;
  stands = comes.stands;
  within = λ miss. subst (λ s. at + 5 ≤ s.shape.size) (sym segment) (comes.within miss);
  few = subst (λ (p : List ℕ × ℕ). HasFew p.0 p.1) (λ i. (sym chain i, sym (ap (λ s. s.shape.size) segment) i)) comes.few;
}
  where
    HasFew : List ℕ → ℕ → Type 0
    HasFew chain size = 5 * length chain + 16 ≤ size

module _ (known : Known) (a b : Actor) (sees : SeesMore a b) where
  pub way_still : (passed : List ℕ) (at : ℕ) → b.seen.chain ≡ a.seen.chain → is_looking b.hand.place ≡ false → IsSampleWalkProgress known passed at a
      → IsSampleWalkProgress known passed at b
  way_still passed at chain apart way = record {
    sparse = way.sparse;
    apart = apart;
    began = began_still a b sees way.began;
    comes = comes_still known.reference passed at a b sees.segment chain way.comes;
  }

  pub seen_still : BeganBefore a → (seen : List ℕ) (listed : List (ℤ × ℕ)) → HasSeenValues known seen listed a → HasSeenValues known seen listed b
  seen_still began seen listed lists =
      lists_still a.seen b.seen sees.words known.reference (HasListed listed a) (HasListed listed b)
      (λ value sample (count, saw, either). (count, saw_count a b sees began (sample + 6) count saw, either)) (HasTotal a) (HasTotal b)
      (λ sample units (saw, has). (saw_count a b sees began (sample + 6) units saw, has)) seen listed lists

  module _ (passed : List ℕ) (at : ℕ) (way : IsSampleWalkProgress known passed at a) where
    -- what it listed is among more that it lists
    pub listed_still : (listed more : List (ℤ × ℕ)) (value : ℤ) (sample : ℕ) → HasListed listed a value sample → HasListed (listed ++ more) b value sample
    listed_still listed more value sample (count, saw, either) = (
      count,
      saw_count a b sees way.began (sample + 6) count saw,
      ⊎_elim inl (λ has. inr (subst (λ (l : List ℤ). Contains l value) (sym (map-append (λ (c : ℤ × ℕ). c.0) listed more))
          (Contains-append_left (map (λ (c : ℤ × ℕ). c.0) listed) (map (λ (c : ℤ × ℕ). c.0) more) value has))) either,
    )

    pub total_still : (sample units : ℕ) → HasTotal a sample units → HasTotal b sample units
    total_still sample units (saw, has) = (saw_count a b sees way.began (sample + 6) units saw, has)

    pub values_still : (seen : List ℕ) (listed : List (ℤ × ℕ)) → HasSeenValues known seen listed a → HasSeenValues known seen listed b
    values_still = seen_still way.began

  pub all_still : (totals : List (ℤ × ℕ)) → b.seen.chain ≡ a.seen.chain → is_looking b.hand.place ≡ false → HasSeenAll known totals a → HasSeenAll known totals b
  all_still totals chain apart all = record {
    passed = all.passed;
    listed = all.listed;
    way = way_still all.passed 12 chain apart all.way;
    lists = values_still all.passed 12 all.way all.passed all.listed all.lists;
    sorted = all.sorted;
  }

-- ---- all of them

-- a record is the sample of one value
one_value : (seen : Seen) (histogram at : ℕ) (v value : ℤ) → SawSample seen histogram v at → SawSample seen histogram value at → v ≡ value
one_value seen histogram at v value (tag, of, word, fits) (other, same_of, same, fit) =
    let both : Some (cast_unsigned w64 v) ≡ Some (cast_unsigned w64 value) = sym word ∙ same in
    let one : cast_unsigned w64 v ≡ cast_unsigned w64 value = cc both in
    sym (value_word v fits) ∙ (ap (cast_signed w64) one ∙ value_word value fit)

module _ (known : Known) (totals : List (ℤ × ℕ)) (a : Actor) (order : IsInOrder a) (all : HasSeenAll known totals a) where
  whole : a.seen.chain ≡ all.way.comes.front ++ known.reference ∷ all.passed
  whole = all_passed a known.reference all.passed all.way.comes order.once

  abbrev IsTotal : ℤ × ℕ → Type 0
  IsTotal count = (sample : ℕ) × IsFirstSample a.seen known.reference count.0 sample × SawCount a (sample + 6) count.1

  -- each is that of the first sample of its value
  pub are_first : All IsTotal totals
  are_first = All-permutation IsTotal all.listed totals all.sorted.moved (λ k d low.
      let (sample, first, (saw, least)) = all.lists.firsts k d low in
      (sample, (all.way.comes.front, all.passed, whole, first), saw))

  -- no value is listed twice
  pub are_once : (i j : ℕ) (x y : ℤ × ℕ) → get_elem? totals i ≡ some x → get_elem? totals j ≡ some y → x.0 ≡ y.0 → i ≡ j
  are_once i j x y here there same = one_place totals (once_still all.listed totals all.sorted.moved all.lists.once) i j x y here there same

  -- each sample that it visited has no units, or its value is listed
  pub are_all : (value : ℤ) (sample : ℕ) → Contains a.seen.chain sample → SawSample a.seen known.reference value sample
      → (count : ℕ) × SawCount a (sample + 6) count × ((count ≡ 0) ⊎ Contains (map (λ (c : ℤ × ℕ). c.0) totals) value)
  are_all value sample met saw =
      let there = order.behind known.reference sample value all.way.comes.front all.passed met saw whole in
      let (v, shown, (count, counted, either)) = did_with (HasListed all.listed a) a.seen known.reference all.passed all.lists.passes value sample there saw in (
        count,
        counted,
        ⊎_elim inl (λ has. inr (subst (Contains (map (λ (c : ℤ × ℕ). c.0) totals)) (one_value a.seen known.reference sample v value shown saw)
            (Contains-permutation (map (λ (c : ℤ × ℕ). c.0) all.listed) (map (λ (c : ℤ × ℕ). c.0) totals) v
            (IsPermutation-map (λ (c : ℤ × ℕ). c.0) all.listed totals all.sorted.moved) has))) either,
      )

  -- its values ascend, each with units
  pub are_units : AreUnits totals
  are_units = record {
    ascending = all.sorted.ascending all.lists.once;
    some = All-permutation (λ (count : ℤ × ℕ). 1 ≤ count.1) all.listed totals all.sorted.moved (λ k d low. (all.lists.firsts k d low).2.1);
  }

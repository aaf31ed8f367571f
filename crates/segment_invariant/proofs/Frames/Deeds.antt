-- What actors did together, no matter which of them did it.
use Rattle.segment_invariant.proofs.Prelude.Std.{◌≡◌, ◌≤◌, ℕ, Bool, false, ◌||◌, ℤ, pos, ◌+ℤ◌, suc, List, [], ◌∷◌, ◌++◌, map, sym, refl, ap, ◌∙◌, subst, subst₂, ◌≢◌, zero, set, arith, some, some-injective, some-ne-none, get_elem?, fold, sum_by, if◌then◌else◌, IsPermutation, flat_map, sum_by-append, split_at, IsTotal}
use Rattle.segment_invariant.proofs.Prelude.Machine.{Entry, Actor, Portion, is_of, tally_units, tally_sum, tally_noted, counted_of, summed_of, noted_of, taken_units, taken_sum, units_of, all_counted, all_summed, all_noted, all_taken, all_published, taken_of}
use Rattle.segment_invariant.proofs.Prelude.Invariant.{moving_at, summed_cost}
use Rattle.std.proofs.lemmas.Grind.{flat_map-append}
use Rattle.std.proofs.lemmas.List.Sorted.{sum_by-IsPermutation}
use Rattle.segment_machine.specs.Actor.{given_by, all_given, all_names, all_owed}
use Rattle.segment_invariant.specs.Ledger.{all_moving}
use Rattle.segment_invariant.specs.Invariant.{summed_costs}
use Rattle.list_lemmas.proofs.Sums.{exchanged, added, numbers, amounts, flags, lists, amounts_total, flags_total}
use Rattle.segment_invariant.proofs.Lists.Portions.{taken_sum_total}

-- what some actors did together others did
pub record Deeds (old new : List Actor) : Type 0 where
  pub counted : IsPermutation (all_counted new) (all_counted old)
  pub summed : (name : List ℕ) → tally_sum (all_summed new) name ≡ tally_sum (all_summed old) name
  pub noted : IsPermutation (all_noted new) (all_noted old)
  pub claimed : IsPermutation (flat_map (λ a. a.done.claimed) new) (flat_map (λ a. a.done.claimed) old)
  pub published : IsPermutation (all_published new) (all_published old)
  pub names : IsPermutation (all_names new) (all_names old)
  pub owed : IsPermutation (all_owed new) (all_owed old)
  pub given : (k : ℕ) → IsPermutation (all_given new k) (all_given old k)
  pub taken : IsPermutation (all_taken new) (all_taken old)
  pub taken_sums : (name : List ℕ) → taken_sum (all_taken new) name ≡ taken_sum (all_taken old) name
  pub moving : (name : List ℕ) (key : ℤ) → all_moving name key new ≡ all_moving name key old
  pub costs : (name : List ℕ) → summed_costs name new ≡ summed_costs name old
  pub units : sum_by units_of new ≡ sum_by units_of old
  pub spoiled : fold ◌||◌ false (map (λ a. a.done.spoiled) new) ≡ fold ◌||◌ false (map (λ a. a.done.spoiled) old)
  pub filled : fold ◌||◌ false (map (λ a. a.done.filled) new) ≡ fold ◌||◌ false (map (λ a. a.done.filled) old)
  pub noticed : fold ◌||◌ false (map (λ a. a.seen.corrupt) new) ≡ fold ◌||◌ false (map (λ a. a.seen.corrupt) old)

-- ---- the sums of amounts are sums over actors

abbrev sum_of : List ℕ → List Actor → ℤ
sum_of name actors = tally_sum (all_summed actors) name

sum_total : (name : List ℕ) → IsTotal ◌+ℤ◌ (sum_of name)
sum_total name xs ys =
    ap (λ (entries : List Entry). tally_sum entries name) (flat_map-append summed_of xs ys)
    ∙ amounts_total (λ (entry : Entry). if is_of name entry then entry.amount else pos 0) (all_summed xs) (all_summed ys)

abbrev taken_sum_of : List ℕ → List Actor → ℤ
taken_sum_of name actors = taken_sum (all_taken actors) name

took_total : (name : List ℕ) → IsTotal ◌+ℤ◌ (taken_sum_of name)
took_total name xs ys = ap (λ (list : List Portion). taken_sum list name) (flat_map-append taken_of xs ys) ∙ taken_sum_total name (all_taken xs) (all_taken ys)

abbrev is_spoiled : List Actor → Bool
is_spoiled actors = fold ◌||◌ false (map (λ a. a.done.spoiled) actors)

abbrev is_filled : List Actor → Bool
is_filled actors = fold ◌||◌ false (map (λ a. a.done.filled) actors)

abbrev is_noticed : List Actor → Bool
is_noticed actors = fold ◌||◌ false (map (λ a. a.seen.corrupt) actors)

-- ---- two in the place of two others, and one more

pub deeds_exchanged : (a b a' b' : Actor) (mid behind : List Actor) → Deeds (a ∷ b ∷ []) (a' ∷ b' ∷ [])
    → Deeds (a ∷ (mid ++ b ∷ behind)) (a' ∷ (mid ++ b' ∷ behind))
deeds_exchanged a b a' b' mid behind same = record {
  counted = exchanged _ _ all_counted lists (flat_map-append counted_of) a b a' b' mid behind same.counted;
  summed = λ name. exchanged _ _ (sum_of name) amounts (sum_total name) a b a' b' mid behind (same.summed name);
  noted = exchanged _ _ all_noted lists (flat_map-append noted_of) a b a' b' mid behind same.noted;
  claimed = exchanged _ _ (flat_map (λ a. a.done.claimed)) lists (flat_map-append (λ a. a.done.claimed)) a b a' b' mid behind same.claimed;
  published = exchanged _ _ all_published lists (flat_map-append (λ a. a.done.published)) a b a' b' mid behind same.published;
  names = exchanged _ _ all_names lists (flat_map-append (λ a. a.answers.names)) a b a' b' mid behind same.names;
  owed = exchanged _ _ all_owed lists (flat_map-append (λ a. a.answers.owed)) a b a' b' mid behind same.owed;
  given = λ k. exchanged _ _ (λ actors. all_given actors k) lists (flat_map-append (λ a. given_by k a.done.given)) a b a' b' mid behind (same.given k);
  taken = exchanged _ _ all_taken lists (flat_map-append taken_of) a b a' b' mid behind same.taken;
  taken_sums = λ name. exchanged _ _ (taken_sum_of name) amounts (took_total name) a b a' b' mid behind (same.taken_sums name);
  moving = λ name key. exchanged _ _ (all_moving name key) numbers (sum_by-append (λ a. moving_at a name key a.hand.place)) a b a' b' mid behind (same.moving name key);
  costs = λ name. exchanged _ _ (summed_costs name) numbers (sum_by-append (summed_cost name)) a b a' b' mid behind (same.costs name);
  units = exchanged _ _ (sum_by units_of) numbers (sum_by-append units_of) a b a' b' mid behind same.units;
  spoiled = exchanged _ _ is_spoiled flags (flags_total (λ (a : Actor). a.done.spoiled)) a b a' b' mid behind same.spoiled;
  filled = exchanged _ _ is_filled flags (flags_total (λ (a : Actor). a.done.filled)) a b a' b' mid behind same.filled;
  noticed = exchanged _ _ is_noticed flags (flags_total (λ (a : Actor). a.seen.corrupt)) a b a' b' mid behind same.noticed;
}

pub deeds_added : (a a' n : Actor) (rest : List Actor) → Deeds (a ∷ []) (a' ∷ n ∷ []) → Deeds (a ∷ rest) (a' ∷ (rest ++ n ∷ []))
deeds_added a a' n rest same = record {
  counted = added _ _ all_counted lists (flat_map-append counted_of) a a' n rest same.counted;
  summed = λ name. added _ _ (sum_of name) amounts (sum_total name) a a' n rest (same.summed name);
  noted = added _ _ all_noted lists (flat_map-append noted_of) a a' n rest same.noted;
  claimed = added _ _ (flat_map (λ a. a.done.claimed)) lists (flat_map-append (λ a. a.done.claimed)) a a' n rest same.claimed;
  published = added _ _ all_published lists (flat_map-append (λ a. a.done.published)) a a' n rest same.published;
  names = added _ _ all_names lists (flat_map-append (λ a. a.answers.names)) a a' n rest same.names;
  owed = added _ _ all_owed lists (flat_map-append (λ a. a.answers.owed)) a a' n rest same.owed;
  given = λ k. added _ _ (λ actors. all_given actors k) lists (flat_map-append (λ a. given_by k a.done.given)) a a' n rest (same.given k);
  taken = added _ _ all_taken lists (flat_map-append taken_of) a a' n rest same.taken;
  taken_sums = λ name. added _ _ (taken_sum_of name) amounts (took_total name) a a' n rest (same.taken_sums name);
  moving = λ name key. added _ _ (all_moving name key) numbers (sum_by-append (λ a. moving_at a name key a.hand.place)) a a' n rest (same.moving name key);
  costs = λ name. added _ _ (summed_costs name) numbers (sum_by-append (summed_cost name)) a a' n rest (same.costs name);
  units = added _ _ (sum_by units_of) numbers (sum_by-append units_of) a a' n rest same.units;
  spoiled = added _ _ is_spoiled flags (flags_total (λ (a : Actor). a.done.spoiled)) a a' n rest same.spoiled;
  filled = added _ _ is_filled flags (flags_total (λ (a : Actor). a.done.filled)) a a' n rest same.filled;
  noticed = added _ _ is_noticed flags (flags_total (λ (a : Actor). a.seen.corrupt)) a a' n rest same.noticed;
}

-- the first of some actors and another became others
pub deeds_set : (actors : List Actor) (other : ℕ) (a b a' b' : Actor) → 0 ≢ other → get_elem? actors 0 ≡ some a → get_elem? actors other ≡ some b
    → Deeds (a ∷ b ∷ []) (a' ∷ b' ∷ []) → Deeds actors (set (set actors 0 a') other b')
deeds_set [] other a b a' b' apart first last same = absurd (some-ne-none a (sym first))
deeds_set (x ∷ xs) zero a b a' b' apart first last same = absurd (apart refl)
deeds_set (x ∷ xs) (suc j) a b a' b' apart first last same =
    let parts = split_at xs j b last in
    let old : a ∷ (parts.0 ++ b ∷ parts.1) ≡ x ∷ xs = ap (λ (y : Actor). y ∷ (parts.0 ++ b ∷ parts.1)) (sym (some-injective x a first)) ∙ ap (λ (list : List Actor). x ∷ list) (sym parts.2) in
    let new : a' ∷ (parts.0 ++ b' ∷ parts.1) ≡ a' ∷ set xs j b' = ap (λ (list : List Actor). a' ∷ list) (sym (parts.3 b')) in
    subst₂ Deeds old new (deeds_exchanged a b a' b' parts.0 parts.1 same)

-- the first of some actors became another, and there is one more
pub deeds_more : (actors : List Actor) (a a' n : Actor) → get_elem? actors 0 ≡ some a → Deeds (a ∷ []) (a' ∷ n ∷ [])
    → Deeds actors (set actors 0 a' ++ n ∷ [])
deeds_more [] a a' n first same = absurd (some-ne-none a (sym first))
deeds_more (x ∷ xs) a a' n first same =
    subst (λ (y : Actor). Deeds (y ∷ xs) (a' ∷ (xs ++ n ∷ []))) (sym (some-injective x a first)) (deeds_added a a' n xs same)

-- ---- what follows for tallies

module _ (old new : List Actor) (same : Deeds old new) where
  pub units_counted : (name : List ℕ) (key : ℤ) → tally_units (all_counted new) name key ≡ tally_units (all_counted old) name key
  units_counted name key = sym (sum_by-IsPermutation _ (all_counted new) (all_counted old) same.counted)

  pub units_noted : (name : List ℕ) → tally_noted (all_noted new) name ≡ tally_noted (all_noted old) name
  units_noted name = sym (sum_by-IsPermutation _ (all_noted new) (all_noted old) same.noted)

  pub units_took : (name : List ℕ) (key : ℤ) → taken_units (all_taken new) name key ≡ taken_units (all_taken old) name key
  units_took name key = sym (sum_by-IsPermutation _ (all_taken new) (all_taken old) same.taken)

-- ---- what comes to the same

-- What actors counted, added, noted, took and have on the way comes to what it was, and nothing that was spent on a sum came back.
pub record SameSums (old new : List Actor) : Type 0 where
  pub counted : (name : List ℕ) (key : ℤ) → tally_units (all_counted new) name key ≡ tally_units (all_counted old) name key
  pub summed : (name : List ℕ) → tally_sum (all_summed new) name ≡ tally_sum (all_summed old) name
  pub noted : (name : List ℕ) → tally_noted (all_noted new) name ≡ tally_noted (all_noted old) name
  pub taken : (name : List ℕ) (key : ℤ) → taken_units (all_taken new) name key ≡ taken_units (all_taken old) name key
  pub taken_sums : (name : List ℕ) → taken_sum (all_taken new) name ≡ taken_sum (all_taken old) name
  pub moving : (name : List ℕ) (key : ℤ) → all_moving name key new ≡ all_moving name key old
  pub costs : (name : List ℕ) → summed_costs name old ≤ summed_costs name new

-- when others did the same together
pub sums_of : (old new : List Actor) → Deeds old new → SameSums old new
sums_of old new same = record {
  counted = units_counted old new same;
  summed = same.summed;
  noted = units_noted old new same;
  taken = units_took old new same;
  taken_sums = same.taken_sums;
  moving = same.moving;
  costs = λ name. let costs = same.costs name in omega (arith, costs);
}

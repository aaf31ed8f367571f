-- What is counted, noted and added of a name fits: all units together are 4,294,967,295.
use Rattle.segment_invariant.proofs.Prelude.Std.{ℕ, ◌+◌, ◌*◌, ◌≤◌, ℤ, pos, Bool, true, false, ◌&&◌, if◌then◌else◌, List, [], ◌∷◌, inl, ⊎_elim, refl, sym, subst, arith, sum_by, unsigned_abs, ◌-ℤ◌, flat_map, Contains, int_eq, bytes_eq, +ℤ_idr, Contains-append_right, sum_by-cons, at_from, sum_at_least}
use Rattle.segment_invariant.proofs.Prelude.Machine.{Dimensions, Entry, Actor, Cost, is_of, tally_units, tally_noted, counted_of, noted_of, all_counted, all_noted, cost_of, cost_total, units_of, purse, State}
use Rattle.segment_invariant.proofs.Prelude.Invariant.{Record, Anatomy, HasRecord, summed_cost, IsSumOf, StandsRight, CallsRight, Invariant}
use Rattle.std.proofs.lemmas.List.Sums.{sum_by-le-sum_by}
use Rattle.segment_machine.specs.Actor.{all_costs}
use Rattle.segment_invariant.proofs.Lists.Countings.{noted_total}
use Rattle.segment_invariant.proofs.Frames.OneActor.{summed_most}
use Rattle.segment_invariant.proofs.Frames.Spending.{counted_spent, spent_or_not, all_spent, noted_within}

-- the units of one key are not more than all of a name
units_noted : (entries : List Entry) (name : List ℕ) (key : ℤ) → tally_units entries name key ≤ tally_noted entries name
units_noted entries name key =
    sum_by-le-sum_by (λ entry. if is_of name entry && int_eq entry.key key then entry.units else 0) (λ entry. if is_of name entry then entry.units else 0) entries
    (λ entry. by_test (is_of name entry) (int_eq entry.key key) entry.units)
  where
    by_test : (b c : Bool) (n : ℕ) → (if b && c then n else 0) ≤ (if b then n else 0)
    by_test true true n = omega arith
    by_test true false n = omega arith
    by_test false c n = omega arith

-- nor the costs of one name than all costs
name_most : (costs : List Cost) (name : List ℕ) → cost_of costs name ≤ cost_total costs
name_most costs name = sum_by-le-sum_by (λ cost. if bytes_eq cost.name name then cost.units else 0) (λ cost. cost.units) costs
    (λ cost. by_test (bytes_eq cost.name name) cost.units)
  where
    by_test : (b : Bool) (n : ℕ) → (if b then n else 0) ≤ n
    by_test true n = omega arith
    by_test false n = omega arith

-- what each has noted, on top of the redundant count that it found, all have together
all_within : (actors : List Actor) (name : List ℕ)
    → ((a : Actor) → Contains actors a → cost_of a.entries.first_noted name + tally_noted (noted_of a) name ≤ cost_of a.units.costs name + cost_of a.units.held name)
    → sum_by (λ (a : Actor). cost_of a.entries.first_noted name) actors + tally_noted (flat_map noted_of actors) name ≤ all_costs actors name
all_within [] name each = omega arith
all_within (a ∷ rest) name each =
    let first = each a (0, omega arith, refl) in
    let others = all_within rest name (λ b there. each b (Contains-append_right (a ∷ []) rest b there)) in
    let done = noted_total name (noted_of a) (flat_map noted_of rest) in
    let begun = sum_by-cons (λ (a : Actor). cost_of a.entries.first_noted name) a rest in
    let costs = sum_by-cons (λ (a : Actor). cost_of a.units.costs name + cost_of a.units.held name) a rest in
    omega (arith, first, others, done, begun, costs)

module _ (shape : Dimensions) (opened : Anatomy) (state : State) (kept : Invariant shape opened state) (name : List ℕ) where
  costs_most : all_costs state.actors name ≤ 4294967295
  costs_most =
      let all = sum_by-le-sum_by (λ (a : Actor). cost_of a.units.costs name + cost_of a.units.held name) units_of state.actors
      (λ a. let one = name_most a.units.costs name in let two = name_most a.units.held name in omega (arith, one, two)) in
      let pool = kept.pool in
      omega (arith, all, pool)

  -- what an actor does holds of a spent one if it holds of one that did nothing
  each_one : (holds : Actor → Type 0) → ((units : ℕ) → holds (purse units)) → ((a : Actor) → CallsRight kept.anatomy a → holds a) → (a : Actor) → Contains state.actors a → holds a
  each_one holds nothing lives a among =
      let (who, there) = at_from state.actors a among in
      ⊎_elim
      (λ gone. subst holds (sym (subst (StandsRight shape kept.anatomy who a) gone (kept.standing who a there))) (nothing a.units.share))
      (λ alive. lives a (kept.each who a there alive).calls)
      (spent_or_not a.hand.place)

  -- units that an actor has counted are spent, or held by the call that counted them
  pub each_covered : (a : Actor) → Contains state.actors a → tally_noted (counted_of a) name ≤ cost_of a.units.costs name + cost_of a.units.held name
  each_covered = each_one (λ a. tally_noted (counted_of a) name ≤ cost_of a.units.costs name + cost_of a.units.held name) (λ units. omega arith) (λ a calls. counted_spent kept.anatomy a calls name)

  -- so are those of all
  pub counted_covered : tally_noted (all_counted state.actors) name ≤ all_costs state.actors name
  counted_covered = all_spent counted_of state.actors name each_covered

  -- so they fit
  pub counted_fits : (key : ℤ) → tally_units (all_counted state.actors) name key ≤ 4294967295
  counted_fits key =
      let below = units_noted (all_counted state.actors) name key in
      let all = counted_covered in
      let most = costs_most in
      omega (arith, below, all, most)

  -- so do units that are noted, with those of the opening
  pub noted_covered : cost_of kept.roles.opener.entries.first_noted name + tally_noted (all_noted state.actors) name ≤ all_costs state.actors name
  noted_covered =
      let all = all_within state.actors name
      (each_one (λ a. cost_of a.entries.first_noted name + tally_noted (noted_of a) name ≤ cost_of a.units.costs name + cost_of a.units.held name) (λ units. omega arith)
      (λ a calls. noted_within kept.anatomy a calls name)) in
      let one = sum_at_least (λ (a : Actor). cost_of a.entries.first_noted name) state.actors 0 kept.roles.opener kept.roles.stands in
      omega (arith, all, one)

  pub noted_fits : cost_of kept.roles.opener.entries.first_noted name + tally_noted (all_noted state.actors) name ≤ 4294967295
  noted_fits =
      let all = noted_covered in
      let most = costs_most in
      omega (arith, all, most)

-- sums of a record are as near to each other as what was spent on it, or is held, allows
module _ (shape : Dimensions) (opened : Anatomy) (state : State) (kept : Invariant shape opened state) where
  pub sums_covered : (at : ℕ) (r : Record) (x y : ℤ) → HasRecord kept.anatomy.pieces at r → IsSumOf state.actors at r x → IsSumOf state.actors at r y
      → unsigned_abs (x -ℤ y) ≤ 2147483648 * all_costs state.actors r.name
  sums_covered at r x y there first last =
      let near = kept.sums at r x y there first last in
      let less = sum_by-le-sum_by (summed_cost r.name) (λ a. cost_of a.units.costs r.name + cost_of a.units.held r.name) state.actors (summed_most r.name) in
      omega (arith, near, less)

  -- and to 0
  pub sum_covered : (at : ℕ) (r : Record) (x : ℤ) → HasRecord kept.anatomy.pieces at r → IsSumOf state.actors at r x
      → unsigned_abs x ≤ 2147483648 * all_costs state.actors r.name
  sum_covered at r x there is =
      subst (λ (z : ℤ). unsigned_abs z ≤ 2147483648 * all_costs state.actors r.name) (+ℤ_idr x) (sums_covered at r x (pos 0) there is (inl refl))

  -- so as all units allow
  pub sums_fit : (at : ℕ) (r : Record) (x y : ℤ) → HasRecord kept.anatomy.pieces at r → IsSumOf state.actors at r x → IsSumOf state.actors at r y
      → unsigned_abs (x -ℤ y) ≤ 2147483648 * 4294967295
  sums_fit at r x y there first last =
      let near = sums_covered at r x y there first last in
      let most = costs_most shape opened state kept r.name in
      omega (arith, near, most)

  -- and to 0
  pub sum_fits : (at : ℕ) (r : Record) (x : ℤ) → HasRecord kept.anatomy.pieces at r → IsSumOf state.actors at r x → unsigned_abs x ≤ 2147483648 * 4294967295
  sum_fits at r x there is =
      subst (λ (z : ℤ). unsigned_abs z ≤ 2147483648 * 4294967295) (+ℤ_idr x) (sums_fit at r x (pos 0) there is (inl refl))

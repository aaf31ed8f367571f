-- Units that were counted are spent, or held by the call that counted them.
use Rattle.segment_invariant.proofs.Prelude.Std.{◌≡◌, ◌≢◌, ◌⊎◌, ℕ, suc, ◌+◌, ◌≤◌, Bool, true, false, cond, List, [], ◌∷◌, ◌++◌, map, All, Contains, inl, inr, refl, sym, ap, ◌∙◌, subst, arith, if◌then◌else◌, bytes_eq, filter, flat_map, bytes_eq-Decides, map-append, All-contains, Contains-append_right, sum_by-cons}
use Rattle.segment_invariant.proofs.Prelude.Machine.{Entry, EntryProgress, Place, Spent, Actor, Cost, is_counted, is_noted, is_of, tally_noted, counted_of, noted_of, cost_of}
use Rattle.segment_invariant.proofs.Prelude.Invariant.{Anatomy, CallsRight}
use Rattle.segment_machine.specs.Actor.{all_costs}
use Rattle.segment_invariant.proofs.Lists.Countings.{noted_total}

abbrev entry_of : EntryProgress → Entry
entry_of c = c.entry

-- ---- entries of one name

-- the units of an entry, if it is of a name
abbrev mine : List ℕ → Entry → ℕ
mine name e = if is_of name e then e.units else 0

-- entries of another name come to nothing
none_of : (name other : List ℕ) (entries : List Entry) → All (λ entry. entry.name ≡ other) entries → bytes_eq other name ≡ false → tally_noted entries name ≡ 0
none_of name other [] all apart = refl
none_of name other (e ∷ es) all apart =
    let first : is_of name e ≡ false = ap (λ (n : List ℕ). bytes_eq n name) (All-contains (λ (e : Entry). e.name ≡ other) (e ∷ es) e all (0, omega arith, refl)) ∙ apart in
    let here : mine name e ≡ 0 = ap (λ (b : Bool). if b then e.units else 0) first in
    let rest = none_of name other es (λ k d below. all (suc k) d (omega (arith, below))) apart in
    let both = sum_by-cons (mine name) e es in
    omega (arith, here, rest, both)

-- what a cost of one name says of any name
pub by_name : (other name : List ℕ) (entries : List Entry) (cost : ℕ) → All (λ entry. entry.name ≡ other) entries → tally_noted entries other ≤ cost
    → tally_noted entries name ≤ cost_of (record { name = other; units = cost } ∷ []) name
by_name other name entries cost all most = by_test (bytes_eq other name) refl
  where
    by_test : (b : Bool) → bytes_eq other name ≡ b → tally_noted entries name ≤ 0 + (if b then cost else 0)
    by_test true same =
        let e = ap (tally_noted entries) ((bytes_eq-Decides other name).0 same) in
        omega (arith, e, most)
    by_test false apart = let e = none_of name other entries all apart in omega (arith, e)

-- ---- those that are counted are not more than all

some_of : (test : EntryProgress → Bool) (name : List ℕ) (list : List EntryProgress) → tally_noted (map entry_of (filter test list)) name ≤ tally_noted (map entry_of list) name
some_of test name [] = omega arith
some_of test name (c ∷ cs) =
    let rest = some_of test name cs in
    let all = sum_by-cons (mine name) c.entry (map entry_of cs) in
    by_test (test c) rest all
  where
    by_test : (b : Bool) → tally_noted (map entry_of (filter test cs)) name ≤ tally_noted (map entry_of cs) name
        → tally_noted (map entry_of (c ∷ cs)) name ≡ mine name c.entry + tally_noted (map entry_of cs) name
        → tally_noted (map entry_of (cond b (c ∷ filter test cs) (filter test cs))) name ≤ tally_noted (map entry_of (c ∷ cs)) name
    by_test true rest all = let one = sum_by-cons (mine name) c.entry (map entry_of (filter test cs)) in omega (arith, rest, all, one)
    by_test false rest all = omega (arith, rest, all)

-- ---- one actor

module _ (anatomy : Anatomy) (a : Actor) (calls : CallsRight anatomy a) where
  -- the entries of a running call are within what is held, for each name
  pub held_covers : (name : List ℕ) → tally_noted (map entry_of a.entries.running) name ≤ cost_of a.units.held name
  held_covers name = by_running a.entries.running refl
    where
      by_running : (r : List EntryProgress) → a.entries.running ≡ r → tally_noted (map entry_of a.entries.running) name ≤ cost_of a.units.held name
      by_running [] runs = let none = ap (λ (list : List EntryProgress). tally_noted (map entry_of list) name) runs in omega (arith, none)
      by_running (c ∷ cs) runs =
          let (other, cost, holds, within, known) = calls.within (λ none. cc (sym runs ∙ none)) in
          subst (λ (held : List Cost). tally_noted (map entry_of a.entries.running) name ≤ cost_of held name) (sym holds)
          (by_name other name (map entry_of a.entries.running) cost within.of_name within.units)

  -- so what passes a test, after its first entries, it has spent, or holds
  pub among_spent : (test : EntryProgress → Bool) (name : List ℕ)
      → tally_noted (a.entries.first ++ map entry_of (filter test (a.entries.log ++ a.entries.running))) name ≤ cost_of a.units.costs name + cost_of a.units.held name
  among_spent test name =
      let logged = calls.spent name in
      let held = held_covers name in
      let some_there = some_of test name (a.entries.log ++ a.entries.running) in
      let all = noted_total name a.entries.first (map entry_of (filter test (a.entries.log ++ a.entries.running))) in
      let both = ap (λ (entries : List Entry). tally_noted entries name) (map-append entry_of a.entries.log a.entries.running)
      ∙ noted_total name (map entry_of a.entries.log) (map entry_of a.entries.running) in
      omega (arith, logged, held, some_there, all, both)

  -- what it has counted
  pub counted_spent : (name : List ℕ) → tally_noted (counted_of a) name ≤ cost_of a.units.costs name + cost_of a.units.held name
  counted_spent name = among_spent is_counted name

  -- and what it has noted, with what its redundant counts were at the opening
  pub noted_within : (name : List ℕ) → cost_of a.entries.first_noted name + tally_noted (noted_of a) name ≤ cost_of a.units.costs name + cost_of a.units.held name
  noted_within name =
      let logged = calls.spent name in
      let held = held_covers name in
      let some_there = some_of is_noted name (a.entries.log ++ a.entries.running) in
      let both = ap (λ (entries : List Entry). tally_noted entries name) (map-append entry_of a.entries.log a.entries.running)
      ∙ noted_total name (map entry_of a.entries.log) (map entry_of a.entries.running) in
      omega (arith, logged, held, some_there, both)

-- ---- all actors

pub spent_or_not : (p : Place) → (p ≡ Spent) ⊎ (p ≢ Spent)
spent_or_not Spent = inl refl
spent_or_not p = inr (λ is. cc is)

-- what each has spent or holds, all have
pub all_spent : (did : Actor → List Entry) (actors : List Actor) (name : List ℕ)
    → ((a : Actor) → Contains actors a → tally_noted (did a) name ≤ cost_of a.units.costs name + cost_of a.units.held name)
    → tally_noted (flat_map did actors) name ≤ all_costs actors name
all_spent did [] name each = omega arith
all_spent did (a ∷ rest) name each =
    let first = each a (0, omega arith, refl) in
    let others = all_spent did rest name (λ b there. each b (Contains-append_right (a ∷ []) rest b there)) in
    let done = noted_total name (did a) (flat_map did rest) in
    let costs = sum_by-cons (λ (a : Actor). cost_of a.units.costs name + cost_of a.units.held name) a rest in
    omega (arith, first, others, done, costs)

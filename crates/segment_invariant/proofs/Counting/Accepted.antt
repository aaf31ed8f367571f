-- What an actor has accepted, and what had been accepted before it was made, is no more than what was counted and noted.
use Rattle.segment_invariant.proofs.Prelude.Std.{◌≡◌, ◌≢◌, ℕ, zero, suc, ◌+◌, ◌≤◌, ℤ, true, List, [], ◌∷◌, ◌++◌, map, drop, length, set, All, sym, refl, ap, ◌∙◌, arith, false, and_parts, flat_map, some, get_elem?, set_else, IsTotal}
use Rattle.segment_invariant.proofs.Prelude.Machine.{Dimensions, Entry, EntryProgress, Spent, Actor, is_counted, is_noted, has_ended, counted_among, noted_among, tally_units, tally_noted, log_of, counted_of, noted_of, all_counted, all_noted, accepted_by, is_opener, State}
use Rattle.segment_invariant.proofs.Prelude.Invariant.{Anatomy, Invariant}
use Rattle.std.proofs.Math.Seq.{drop-append_seam}
use Rattle.segment_machine.specs.Actor.{accepted_since}
use Rattle.segment_machine.specs.Seats.{spent}
use Rattle.segment_invariant.proofs.Lists.Countings.{units_total, noted_total}
use Rattle.segment_invariant.proofs.Frames.GoesOn.{not_opener}
use Rattle.segment_invariant.proofs.Frames.GrowthOfStates.{among_all, ended_counted}
use Rattle.segment_invariant.proofs.Frames.OneActor.{lives_on}
use Rattle.segment_invariant.proofs.Changes.Ledgers.{rows_beside}

-- two of some lists have no more than all
two_rows : {A B : Type 0} (total : List B → ℕ) → IsTotal ◌+◌ total → (f : A → List B) (l : List A) (i j : ℕ) (x y z : A) → i ≢ j
    → get_elem? l i ≡ some x → get_elem? l j ≡ some y → total (f z) ≡ 0 → total (f x) + total (f y) ≤ total (flat_map f l)
two_rows total sums f l i j x y z ne there here none =
    let one = rows_beside total sums f l i x z there in
    let two = rows_beside total sums f (set l i z) j y z (set_else l i j z (λ e. ne (sym e)) ∙ here) in
    omega (arith, one, two, none)

-- what comes after some entries of a list also comes after them in a longer one
rest_most : (total : List Entry → ℕ) → IsTotal ◌+◌ total → (n : ℕ) (xs ys : List Entry) → total (drop n xs) ≤ total (drop n (xs ++ ys))
rest_most total sums zero xs ys = let both = sums xs ys in omega (arith, both)
rest_most total sums (suc n) [] ys = let nothing = sums [] [] in omega (arith, nothing)
rest_most total sums (suc n) (x ∷ xs) ys = rest_most total sums n xs ys

pub ended_noted : (c : EntryProgress) → has_ended c ≡ true → is_noted c ≡ true
ended_noted c ended = (and_parts _ (is_noted c) ended).1

module _ (shape : Dimensions) (opened : Anatomy) (state : State) (kept : Invariant shape opened state) (id : ℕ) (a : Actor)
    (mine : get_elem? state.actors id ≡ some a) (records : is_opener a.role ≡ false) (lives : a.hand.place ≢ Spent) where
  abbrev opener : Actor
  opener = kept.roles.opener

  abbrev Ended : Actor → Type 0
  Ended c = All (λ c. has_ended c ≡ true) c.entries.log

  opener_ended : Ended opener
  opener_ended = (kept.each 0 opener kept.roles.stands (λ spent. cc (sym kept.roles.idle ∙ spent))).calls.ended

  mine_ended : Ended a
  mine_ended = (kept.each id a mine lives).calls.ended

  first_is : 0 ≢ id
  first_is same = not_opener shape opened state kept id a mine records (sym same)

  -- its units were counted
  pub accepted_counted : (name : List ℕ) (key : ℤ) → tally_units (accepted_by a) name key ≤ tally_units (all_counted state.actors) name key
  accepted_counted name key =
      let total : List Entry → ℕ = λ entries. tally_units entries name key in
      let sums = units_total name key in
      let (more, log, last) = kept.roles.heirs id a mine (lives_on a records lives) in
      let parts = sums a.entries.inherited (log_of a) in
      let before = ap total log ∙ sums a.entries.inherited more in
      let one = logged opener opener_ended in
      let two = logged a mine_ended in
      let both = two_rows total sums counted_of state.actors 0 id opener a spent first_is kept.roles.stands mine refl in
      omega (arith, parts, before, one, two, both)
    where
      logged : (c : Actor) → Ended c → tally_units (log_of c) name key ≤ tally_units (counted_of c) name key
      logged c ended =
          let sums = units_total name key in
          let all = ap (λ (entries : List Entry). tally_units entries name key) (among_all is_counted ended_counted c.entries.log ended c.entries.running) in
          let split = sums (map (λ c. c.entry) c.entries.log) (counted_among c.entries.running) in
          let behind = sums c.entries.first (map (λ c. c.entry) c.entries.log) in
          let whole = sums c.entries.first (counted_among (c.entries.log ++ c.entries.running)) in
          omega (arith, all, split, behind, whole)

  -- and noted, but for the first entries of its opener
  pub accepted_noted : (name : List ℕ) → tally_noted (accepted_since opener a) name ≤ tally_noted (all_noted state.actors) name
  accepted_noted name =
      let total : List Entry → ℕ = λ entries. tally_noted entries name in
      let sums = noted_total name in
      let (more, log, last) = kept.roles.heirs id a mine (lives_on a records lives) in
      let parts = sums (drop (length opener.entries.first) a.entries.inherited) (map (λ c. c.entry) a.entries.log) in
      let before = rest_most total sums (length opener.entries.first) a.entries.inherited more in
      let since = ap (λ (entries : List Entry). total (drop (length opener.entries.first) entries)) (sym log)
      ∙ ap total (drop-append_seam opener.entries.first (map (λ c. c.entry) opener.entries.log)) in
      let one = logged opener opener_ended in
      let two = logged a mine_ended in
      let both = two_rows total sums noted_of state.actors 0 id opener a spent first_is kept.roles.stands mine refl in
      omega (arith, parts, before, since, one, two, both)
    where
      logged : (c : Actor) → Ended c → tally_noted (map (λ c. c.entry) c.entries.log) name ≤ tally_noted (noted_of c) name
      logged c ended =
          let all = ap (λ (entries : List Entry). tally_noted entries name) (among_all is_noted ended_noted c.entries.log ended c.entries.running) in
          let split = noted_total name (map (λ c. c.entry) c.entries.log) (noted_among c.entries.running) in
          omega (arith, all, split)

-- The entries that actors have begun, those that are counted, and those that have ended: each of these lists includes the next.
use Rattle.segment_invariant.proofs.Prelude.Std.{◌≡◌, ℕ, suc, ◌+◌, ◌≤◌, Bool, true, false, cond, ℤ, List, [], ◌∷◌, ◌++◌, map, refl, sym, ap, subst, ◌∙◌, ⊎_elim, arith, filter, flat_map, All, and_parts, map-append, All-contains, All-nil, filter-append, some, get_elem?}
use Rattle.segment_invariant.proofs.Prelude.Machine.{Dimensions, Entry, EntryProgress, Actor, is_counted, has_ended, tally_units, counted_among, log_of, counted_of, all_counted, State}
use Rattle.segment_invariant.proofs.Prelude.Invariant.{Anatomy, StandsRight, Invariant}
use Rattle.segment_invariant.proofs.Lists.Countings.{units_total}
use Rattle.segment_invariant.proofs.Frames.Spending.{spent_or_not}
use Rattle.segment_promises.specs.Reads.{begun_of}
use Rattle.segment_promises.proofs.Joined.{all_pass}

module _ (name : List ℕ) (key : ℤ) where
  abbrev units : List Entry → ℕ
  units entries = tally_units entries name key

  both : (xs ys : List Entry) → units (xs ++ ys) ≡ units xs + units ys
  both = units_total name key

  -- if each actor has no more of one kind than of another, all have
  rows_below : (f g : Actor → List Entry) (actors : List Actor) → ((i : ℕ) (a : Actor) → get_elem? actors i ≡ some a → units (f a) ≤ units (g a))
      → units (flat_map f actors) ≤ units (flat_map g actors)
  rows_below f g [] each = omega arith
  rows_below f g (a ∷ rest) each =
      let first = each 0 a refl in
      let others = rows_below f g rest (λ i b there. each (suc i) b there) in
      let less = both (f a) (flat_map f rest) in
      let more = both (g a) (flat_map g rest) in
      omega (arith, first, others, less, more)

  -- those that pass a test are among all
  passing_below : (test : EntryProgress → Bool) (list : List EntryProgress) → units (map (λ c. c.entry) (filter test list)) ≤ units (map (λ c. c.entry) list)
  passing_below test [] = omega arith
  passing_below test (c ∷ rest) = by_test (test c) (passing_below test rest)
    where
      by_test : (b : Bool) → units (map (λ c. c.entry) (filter test rest)) ≤ units (map (λ c. c.entry) rest)
          → units (map (λ c. c.entry) (cond b (c ∷ filter test rest) (filter test rest))) ≤ units (c.entry ∷ map (λ c. c.entry) rest)
      by_test true others =
          let less = both (c.entry ∷ []) (map (λ c. c.entry) (filter test rest)) in
          let more = both (c.entry ∷ []) (map (λ c. c.entry) rest) in
          omega (arith, others, less, more)
      by_test false others =
          let more = both (c.entry ∷ []) (map (λ c. c.entry) rest) in
          omega (arith, others, more)

  -- what is counted was begun
  counted_begun : (a : Actor) → units (counted_of a) ≤ units (begun_of a)
  counted_begun a =
      let some_pass = passing_below is_counted (a.entries.log ++ a.entries.running) in
      let parts = ap units (map-append (λ (c : EntryProgress). c.entry) a.entries.log a.entries.running) in
      let counted = both a.entries.first (counted_among (a.entries.log ++ a.entries.running)) in
      let begun = both (log_of a) (map (λ (c : EntryProgress). c.entry) a.entries.running) in
      let logged = both a.entries.first (map (λ (c : EntryProgress). c.entry) a.entries.log) in
      let all = both (map (λ (c : EntryProgress). c.entry) a.entries.log) (map (λ (c : EntryProgress). c.entry) a.entries.running) in
      omega (arith, some_pass, parts, counted, begun, logged, all)

  -- and what has ended is counted
  ended_counted : (a : Actor) → All (λ c. has_ended c ≡ true) a.entries.log → units (log_of a) ≤ units (counted_of a)
  ended_counted a ended =
      let all = all_pass is_counted (λ c e. (and_parts (is_counted c) _ (and_parts _ _ e).0).0) a.entries.log
      (λ c among. All-contains (λ (c : EntryProgress). has_ended c ≡ true) a.entries.log c ended among) in
      let split = ap (λ (list : List EntryProgress). units (map (λ (c : EntryProgress). c.entry) list))
      (filter-append is_counted a.entries.log a.entries.running ∙ ap (λ (list : List EntryProgress). list ++ filter is_counted a.entries.running) all) in
      let parts = ap units (map-append (λ (c : EntryProgress). c.entry) a.entries.log (filter is_counted a.entries.running)) in
      let counted = both a.entries.first (counted_among (a.entries.log ++ a.entries.running)) in
      let logged = both a.entries.first (map (λ (c : EntryProgress). c.entry) a.entries.log) in
      let two = both (map (λ (c : EntryProgress). c.entry) a.entries.log) (map (λ (c : EntryProgress). c.entry) (filter is_counted a.entries.running)) in
      omega (arith, split, parts, counted, logged, two)

module _ (shape : Dimensions) (opened : Anatomy) (state : State) (kept : Invariant shape opened state) (name : List ℕ) (key : ℤ) where
  -- the entries of an actor's log have ended
  log_ended : (i : ℕ) (a : Actor) → get_elem? state.actors i ≡ some a → All (λ c. has_ended c ≡ true) a.entries.log
  log_ended i a there = ⊎_elim
      (λ gone. subst (λ (a : Actor). All (λ c. has_ended c ≡ true) a.entries.log) (sym (subst (StandsRight shape kept.anatomy i a) gone (kept.standing i a there)))
      (All-nil (λ c. has_ended c ≡ true)))
      (λ alive. (kept.each i a there alive).calls.ended)
      (spent_or_not a.hand.place)

  pub all_ended : tally_units (flat_map log_of state.actors) name key ≤ tally_units (all_counted state.actors) name key
  all_ended = rows_below name key log_of counted_of state.actors (λ i a there. ended_counted name key a (log_ended i a there))

  pub all_begun : tally_units (all_counted state.actors) name key ≤ tally_units (flat_map begun_of state.actors) name key
  all_begun = rows_below name key counted_of begun_of state.actors (λ i a there. counted_begun name key a)

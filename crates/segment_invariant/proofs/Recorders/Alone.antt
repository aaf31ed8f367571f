-- If a recorder is alone, all that is counted is what it has accepted, with what had been accepted before it was made.
use Rattle.segment_invariant.proofs.Prelude.Std.{◌≡◌, ◌≢◌, ◌⊎◌, ℕ, ◌+◌, Bool, true, false, ◌&&◌, ℤ, List, [], ◌∷◌, ◌++◌, map, length, drop, sum_by, All, Contains, inl, inr, ⊎_elim, refl, sym, ap, ◌∙◌, subst, arith, append-nil, if◌then◌else◌, filter, flat_map, int_eq, and_parts, All-contains, sum_by-cons, some, get_elem?, IsTotal}
use Rattle.segment_invariant.proofs.Prelude.Machine.{Dimensions, Entry, EntryProgress, Place, Spent, Actor, is_counted, is_summed, is_noted, has_ended, is_of, tally_units, tally_noted, log_of, summed_of, all_counted, all_summed, all_noted, accepted_by, is_opener, made_of, is_untouched, purse, State}
use Rattle.segment_invariant.proofs.Prelude.Invariant.{Anatomy, IsAlone, StandsRight, Invariant}
use Rattle.std.proofs.Common.{ap₂}
use Rattle.std.proofs.Math.Seq.{drop-append_seam}
use Rattle.segment_machine.specs.Actor.{accepted_since}
use Rattle.segment_invariant.proofs.Lists.FewTerms.{sum_pair, flat_two}
use Rattle.list_lemmas.proofs.Maps.{one_at}
use Rattle.segment_invariant.proofs.Lists.Countings.{nothing_among, units_total, noted_total, no_units, no_noted, counted_none, noted_none}
use Rattle.segment_invariant.proofs.Frames.OneActor.{lives_on}
use Rattle.segment_invariant.proofs.Frames.GoesOn.{not_opener}
use Rattle.segment_invariant.proofs.Frames.GrowthOfStates.{among_all, ended_counted}
use Rattle.segment_invariant.proofs.Counting.Accepted.{ended_noted}

-- a total of rows is the sum of their totals
total_rows : {A B : Type 0} (total : List B → ℕ) → IsTotal ◌+◌ total → total [] ≡ 0 → (f : A → List B) (l : List A)
    → total (flat_map f l) ≡ sum_by (λ x. total (f x)) l
total_rows total sums none f [] = none
total_rows total sums none f (x ∷ xs) =
    let first = sums (f x) (flat_map f xs) in
    let rest = total_rows total sums none f xs in
    let all = sum_by-cons (λ x. total (f x)) x xs in
    omega (arith, first, rest, all)

-- an actor was joined, or was not
spent_or_not : (p : Place) → (p ≡ Spent) ⊎ (p ≢ Spent)
spent_or_not Spent = inl refl
spent_or_not p = inr (λ e. cc e)

module _ (shape : Dimensions) (opened : Anatomy) (state : State) (kept : Invariant shape opened state) (id : ℕ) (a : Actor)
    (mine : get_elem? state.actors id ≡ some a) (records : is_opener a.role ≡ false) (lives : a.hand.place ≢ Spent) (alone : IsAlone state.actors a) where
  abbrev opener : Actor
  opener = kept.roles.opener

  last : made_of a.role + 1 ≡ made_of opener.role
  last = alone.3 ∙ ap (λ (c : Actor). made_of c.role) (one_at state.actors 0 alone.0 opener alone.1 kept.roles.stands)

  not_first : id ≢ 0
  not_first = not_opener shape opened state kept id a mine records

  -- all others are purses, or were joined
  gone : (k : ℕ) (c : Actor) → get_elem? state.actors k ≡ some c → (k ≢ 0) × (k ≢ id) → c ≡ purse c.units.share
  gone k c there (past, other) = ⊎_elim
      (λ is. subst (StandsRight shape kept.anatomy k c) is (kept.standing k c there))
      (λ live.
      let alive = lives_on c (kept.roles.only k c there past).0 live in
      let before = kept.roles.eldest id k a c mine there (lives_on a records lives) alive (λ same. other (sym same)) alone.2 in
      let younger = kept.roles.younger k c there alive in
      absurd (omega (arith, before, younger, last)))
      (spent_or_not c.hand.place)

  ended : All (λ c. has_ended c ≡ true) opener.entries.log
  ended = (kept.each 0 opener kept.roles.stands (λ is. cc (sym kept.roles.idle ∙ is))).calls.ended

  -- what the opener has accepted is what had been accepted before the recorder was made
  pub heir : log_of opener ≡ a.entries.inherited
  heir =
      let (more, log, nothing) = kept.roles.heirs id a mine (lives_on a records lives) in
      log ∙ (ap (λ list. a.entries.inherited ++ list) (nothing alone.2 last) ∙ append-nil a.entries.inherited)

  -- the entries of a test that all pass are those of a log, if nothing runs
  log_alone : (test : EntryProgress → Bool) → ((c : EntryProgress) → has_ended c ≡ true → test c ≡ true) → (c : Actor) → All (λ c. has_ended c ≡ true) c.entries.log
      → c.entries.running ≡ [] → c.entries.first ++ map (λ c. c.entry) (filter test (c.entries.log ++ c.entries.running)) ≡ log_of c
  log_alone test passes c done none =
      ap (λ (list : List Entry). c.entries.first ++ list)
      (among_all test passes c.entries.log done c.entries.running
      ∙ (ap (λ (list : List EntryProgress). map (λ (c : EntryProgress). c.entry) c.entries.log ++ map (λ (c : EntryProgress). c.entry) (filter test list)) none
      ∙ append-nil (map (λ (c : EntryProgress). c.entry) c.entries.log)))

  -- so if it runs nothing, all whose amounts are added are those that were accepted
  pub summed_accepted : a.entries.running ≡ [] → all_summed state.actors ≡ accepted_by a
  summed_accepted none =
      let passes : (c : EntryProgress) → has_ended c ≡ true → is_summed c ≡ true = λ c is. (and_parts (is_counted c) _ (and_parts _ _ is).0).1 in
      flat_two summed_of state.actors id opener a not_first kept.roles.stands mine (λ j c there others. ap summed_of (gone j c there others))
      ∙ ap₂ (λ (x y : List Entry). x ++ y) (log_alone is_summed passes opener ended kept.roles.rests.0) (log_alone is_summed passes a (kept.each id a mine lives).calls.ended none)
      ∙ ap (λ (list : List Entry). list ++ log_of a) heir

  -- What all come to is what the logs of these two come to, with what precedes them, if nothing of the running entries counts.
  module _ (total : List Entry → ℕ) (sums : IsTotal ◌+◌ total) (none : total [] ≡ 0) (test : EntryProgress → Bool)
      (passes : (c : EntryProgress) → has_ended c ≡ true → test c ≡ true) (front : Actor → List Entry) (nothing : (units : ℕ) → front (purse units) ≡ [])
      (still : (c : EntryProgress) → Contains a.entries.running c → test c ≡ true → total (c.entry ∷ []) ≡ total []) where
    abbrev entries : Actor → List Entry
    entries c = front c ++ map (λ c. c.entry) (filter test (c.entries.log ++ c.entries.running))

    abbrev logged : Actor → ℕ
    logged c = total (front c) + total (map (λ (c : EntryProgress). c.entry) c.entries.log)

    one : (c : Actor) → All (λ c. has_ended c ≡ true) c.entries.log → total (map (λ (c : EntryProgress). c.entry) (filter test c.entries.running)) ≡ 0 → total (entries c) ≡ logged c
    one c done rest =
        let all = sums (front c) (map (λ (c : EntryProgress). c.entry) (filter test (c.entries.log ++ c.entries.running))) in
        let log = ap total (among_all test passes c.entries.log done c.entries.running) in
        let parts = sums (map (λ (c : EntryProgress). c.entry) c.entries.log) (map (λ (c : EntryProgress). c.entry) (filter test c.entries.running)) in
        omega (arith, all, log, parts, rest)

    two_logs : total (flat_map entries state.actors) ≡ logged opener + logged a
    two_logs =
        let all = total_rows total sums none entries state.actors in
        let both = sum_pair (λ c. total (entries c)) state.actors 0 id opener a (λ e. not_first (sym e)) kept.roles.stands mine
        (λ j c there others. ap (λ (c : Actor). total (entries c)) (gone j c there others) ∙ (ap (λ list. total (list ++ [])) (nothing c.units.share) ∙ none)) in
        let first = one opener ended (ap (λ (list : List EntryProgress). total (map (λ (c : EntryProgress). c.entry) (filter test list))) kept.roles.rests.0 ∙ none) in
        let second = one a (kept.each id a mine lives).calls.ended (nothing_among ◌+◌ total sums test a.entries.running still ∙ none) in
        omega (arith, all, both, first, second)

  module _ (name : List ℕ) (quiet : All (λ c. (is_of name c.entry ≡ false) ⊎ (is_untouched c ≡ true)) a.entries.running) where
    either : (c : EntryProgress) → Contains a.entries.running c → (is_of name c.entry ≡ false) ⊎ (is_untouched c ≡ true)
    either c has = All-contains (λ (c : EntryProgress). (is_of name c.entry ≡ false) ⊎ (is_untouched c ≡ true)) a.entries.running c quiet has

    pub counted_accepted : (key : ℤ) → tally_units (all_counted state.actors) name key ≡ tally_units (accepted_by a) name key
    counted_accepted key =
        let total : List Entry → ℕ = λ entries. tally_units entries name key in
        let all = two_logs total (units_total name key) refl is_counted ended_counted (λ (c : Actor). c.entries.first) (λ units. refl)
        (λ c has passes. ⊎_elim
        (λ other. (λ i. 0 + (if other i && int_eq c.entry.key key then c.entry.units else 0)))
        (λ untouched. no_units name key c.entry (counted_none c untouched passes))
        (either c has)) in
        let before = ap total (sym heir) ∙ units_total name key opener.entries.first (map (λ (c : EntryProgress). c.entry) opener.entries.log) in
        let since = units_total name key a.entries.first (map (λ (c : EntryProgress). c.entry) a.entries.log) in
        let accepted = units_total name key a.entries.inherited (log_of a) in
        omega (arith, all, before, since, accepted)

    pub noted_accepted : tally_noted (all_noted state.actors) name ≡ tally_noted (accepted_since opener a) name
    noted_accepted =
        let total : List Entry → ℕ = λ entries. tally_noted entries name in
        let all = two_logs total (noted_total name) refl is_noted ended_noted (λ (c : Actor). []) (λ units. refl)
        (λ c has passes. ⊎_elim
        (λ other. (λ i. 0 + (if other i then c.entry.units else 0)))
        (λ untouched. no_noted name c.entry (noted_none c untouched passes))
        (either c has)) in
        let before = ap (λ list. total (drop (length opener.entries.first) list)) (sym heir)
        ∙ ap total (drop-append_seam opener.entries.first (map (λ (c : EntryProgress). c.entry) opener.entries.log)) in
        let accepted = noted_total name (drop (length opener.entries.first) a.entries.inherited) (map (λ (c : EntryProgress). c.entry) a.entries.log) in
        omega (arith, all, before, accepted)

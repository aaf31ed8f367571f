-- Once all recorders are joined, the opener alone has done what was done.
use Rattle.segment_invariant.proofs.Prelude.Std.{◌≡◌, ◌≢◌, ℕ, suc, Bool, true, false, ℤ, ◌⊎◌, ◌≤◌, ◌+◌, ◌+ℤ◌, ◌-◌, List, [], ◌∷◌, ◌++◌, map, take, drop, length, refl, sym, ap, subst, ◌∙◌, append-nil, ⊎_elim, arith, if◌then◌else◌, filter, flat_map, All, Contains, some, some-injective, some-ne-none, get_elem?, and_parts, All-contains, All-nil, all_of, sum_at_least}
use Rattle.segment_invariant.proofs.Prelude.Machine.{Dimensions, Entry, EntryProgress, Actor, Portion, Taken, is_counted, is_summed, is_noted, has_ended, is_of, tally_units, tally_sum, tally_noted, log_of, counted_of, summed_of, noted_of, all_counted, all_summed, all_noted, all_taken, portion_of, taken_of, taken_units, taken_sum, made_of, outstanding_of, is_untouched, purse, State}
use Rattle.segment_invariant.proofs.Prelude.Invariant.{Anatomy, IsWithinCounts, Invariant, is_living, Fits, StandsRight, IsQuiet}
use Rattle.std.proofs.Math.Seq.{drop-append-add}
use Rattle.segment_machine.specs.Reached.{IsJoined}
use Rattle.segment_invariant.specs.Invariant.{ended_deltas}
use Rattle.list_lemmas.proofs.Maps.{one_at}
use Rattle.segment_invariant.proofs.Frames.OneActor.{lives_on}
use Rattle.segment_invariant.proofs.Frames.Spending.{spent_or_not}
use Rattle.segment_promises.proofs.Filters.{all_kept}
use Rattle.segment_promises.specs.Deltas.{FinalDeltasTakeAll, LoneDeltasTakeAll, FinalSnapshotsAreExact, SnapshotsStayBelow}

-- ---- entries that have ended

-- those that pass a test which ended entries pass are all of a list of ended entries
pub all_pass : (test : EntryProgress → Bool) → ((c : EntryProgress) → has_ended c ≡ true → test c ≡ true) → (list : List EntryProgress)
    → ((c : EntryProgress) → Contains list c → has_ended c ≡ true) → filter test list ≡ list
all_pass test passes list ended = all_kept test list (all_of (λ c. test c ≡ true) list (λ c among. passes c (ended c among)))

module _ (a : Actor) (ended : All (λ c. has_ended c ≡ true) a.entries.log) (rests : a.entries.running ≡ []) where
  -- of an actor that runs nothing, the entries that pass are those of its log
  passed : (test : EntryProgress → Bool) → ((c : EntryProgress) → has_ended c ≡ true → test c ≡ true)
      → map (λ c. c.entry) (filter test (a.entries.log ++ a.entries.running)) ≡ map (λ c. c.entry) a.entries.log
  passed test passes =
      ap (λ (running : List EntryProgress). map (λ (c : EntryProgress). c.entry) (filter test (a.entries.log ++ running))) rests
      ∙ ap (λ (list : List EntryProgress). map (λ (c : EntryProgress). c.entry) (filter test list)) (append-nil a.entries.log)
      ∙ ap (map (λ (c : EntryProgress). c.entry)) (all_pass test passes a.entries.log (λ c among. All-contains (λ (c : EntryProgress). has_ended c ≡ true) a.entries.log c ended among))

  pub counted_is_log : counted_of a ≡ log_of a
  counted_is_log = ap (λ (list : List Entry). a.entries.first ++ list) (passed is_counted (λ c e. (and_parts (is_counted c) _ (and_parts _ _ e).0).0))

  pub summed_is_log : summed_of a ≡ log_of a
  summed_is_log = ap (λ (list : List Entry). a.entries.first ++ list) (passed is_summed (λ c e. (and_parts (is_counted c) _ (and_parts _ _ e).0).1))

  pub noted_is_log : noted_of a ≡ map (λ c. c.entry) a.entries.log
  noted_is_log = passed is_noted (λ c e. (and_parts _ (is_noted c) e).1)

-- ---- the opener

-- whatever is outstanding, it is at rest
module _ (shape : Dimensions) (opened : Anatomy) (state : State) (a : Actor) (kept : Invariant shape opened state) (first : get_elem? state.actors 0 ≡ some a) where
  pub opener_is : kept.roles.opener ≡ a
  opener_is = one_at state.actors 0 kept.roles.opener a kept.roles.stands first

  pub fits : Fits shape kept.anatomy state.cursors state.actors kept.roles.opener 0 a
  fits = kept.each 0 a first (λ is. cc (sym kept.roles.idle ∙ (ap (λ (a : Actor). a.hand.place) opener_is ∙ is)))

  pub rests : (a.entries.running ≡ []) × (a.deltas.taking ≡ false)
  rests = (sym (ap (λ (a : Actor). a.entries.running) opener_is) ∙ kept.roles.rests.0, sym (ap (λ (a : Actor). a.deltas.taking) opener_is) ∙ kept.roles.rests.2)

  -- so what it has counted is its log
  pub own_log : counted_of a ≡ log_of a
  own_log = counted_is_log a fits.calls.ended rests.0

-- ---- all actors

module _ (shape : Dimensions) (opened : Anatomy) (state : State) (a : Actor) (kept : Invariant shape opened state) (joins : IsJoined state a) where
  abbrev its : Fits shape kept.anatomy state.cursors state.actors kept.roles.opener 0 a
  its = fits shape opened state a kept joins.0

  at_rest : (a.entries.running ≡ []) × (a.deltas.taking ≡ false)
  at_rest = rests shape opened state a kept joins.0

  -- the others were joined, or are purses
  pub others_spent : (k : ℕ) (c : Actor) → get_elem? state.actors k ≡ some c → k ≢ 0 → c ≡ purse c.units.share
  others_spent k c there ne = ⊎_elim
      (λ is_spent. subst (StandsRight shape kept.anatomy k c) is_spent (kept.standing k c there))
      (λ lives.
      let one : Actor → ℕ = λ (c : Actor). if is_living c then 1 else 0 in
      let living = kept.roles.living in
      let none = ap (λ (a : Actor). outstanding_of a.role) (opener_is shape opened state a kept joins.0) ∙ joins.1 in
      let least = sum_at_least one state.actors k c there in
      let this : one c ≡ 1 = ap (λ (b : Bool). if b then 1 else 0) (lives_on c (kept.roles.only k c there ne).0 lives) in
      absurd (omega (arith, living, none, least, this)))
      (spent_or_not c.hand.place)

  -- so what all have is what the opener has
  pub gathered : {B : Type 0} (f : Actor → List B) → ((units : ℕ) → f (purse units) ≡ []) → flat_map f state.actors ≡ f a
  gathered f nothing = of_opener state.actors joins.0 others_spent
    where
      of_others : (list : List Actor) → ((k : ℕ) (c : Actor) → get_elem? list k ≡ some c → c ≡ purse c.units.share) → flat_map f list ≡ []
      of_others [] all = refl
      of_others (c ∷ rest) all =
          ap (λ (xs : List _). xs ++ flat_map f rest) (ap f (all 0 c refl) ∙ nothing c.units.share) ∙ of_others rest (λ k d there. all (suc k) d there)

      of_opener : (list : List Actor) → get_elem? list 0 ≡ some a → ((k : ℕ) (c : Actor) → get_elem? list k ≡ some c → k ≢ 0 → c ≡ purse c.units.share)
          → flat_map f list ≡ f a
      of_opener [] first all = absurd (some-ne-none a (sym first))
      of_opener (c ∷ rest) first all =
          ap (λ (xs : List _). f c ++ xs) (of_others rest (λ k d there. all (suc k) d there (λ e. omega (arith, e))))
          ∙ (append-nil (f c) ∙ ap f (some-injective c a first))

  pub all_is_log : (all_counted state.actors ≡ log_of a) × (all_summed state.actors ≡ log_of a) × (all_noted state.actors ≡ map (λ c. c.entry) a.entries.log)
  all_is_log = (
    gathered counted_of (λ units. refl) ∙ own_log shape opened state a kept joins.0,
    gathered summed_of (λ units. refl) ∙ summed_is_log a its.calls.ended at_rest.0,
    gathered noted_of (λ units. refl) ∙ noted_is_log a its.calls.ended at_rest.0,
  )

  pub all_is_taken : all_taken state.actors ≡ taken_of a
  all_is_taken = gathered taken_of (λ units. refl)

  -- if no entry of a name is in the log after a moment, nothing of it was counted after that
  quiet : (name : List ℕ) (n : ℕ) → All (λ entry. is_of name entry ≡ false) (drop n (log_of a)) → IsQuiet a name n
  quiet name n behind = (
    behind,
    subst (All (λ (c : EntryProgress). (is_of name c.entry ≡ false) ⊎ (is_untouched c ≡ true))) (sym at_rest.0)
        (All-nil (λ (c : EntryProgress). (is_of name c.entry ≡ false) ⊎ (is_untouched c ≡ true))),
  )

-- ---- final deltas and snapshots

pub final_deltas_take_all : FinalDeltasTakeAll
final_deltas_take_all shape opened state a t kept joins among final =
    let fit = fits shape opened state a kept joins.0 in
    let log = all_is_log shape opened state a kept joins in
    let taken = all_is_taken shape opened state a kept joins in
    let ended : Contains (if a.deltas.taking then take (length a.deltas.taken - 1) a.deltas.taken else a.deltas.taken) t =
    subst (λ (b : Bool). Contains (if b then take (length a.deltas.taken - 1) a.deltas.taken else a.deltas.taken) t) (sym (rests shape opened state a kept joins.0).1) among in
    let did = fit.finals.deltas t ended final.alone (final.youngest ∙ ap (λ (a : Actor). made_of a.role) (sym (opener_is shape opened state a kept joins.0)))
    (quiet shape opened state a kept joins t.name t.moment.log final.quiet) in (
      λ key. ap (λ list. taken_units list t.name key) (sym taken) ∙ (did.0 key ∙ ap (λ list. tally_units list t.name key) log.0),
      ap (λ list. taken_sum list t.name) (sym taken) ∙ (did.1 ∙ ap (λ list. tally_sum list t.name) log.1),
    )

-- the element after the front of a list
at_front : {X : Type 0} (front behind : List X) (x : X) → get_elem? (front ++ x ∷ behind) (length front) ≡ some x
at_front [] behind x = refl
at_front (y ∷ ys) behind x = at_front ys behind x

pub lone_deltas_take_all : LoneDeltasTakeAll
lone_deltas_take_all shape opened state a front behind t kept joins split none youngest =
    let opener = opener_is shape opened state a kept joins.0 in
    let taken = all_is_taken shape opened state a kept joins in
    let idle : ended_deltas a ≡ front ++ t ∷ behind =
    ap (λ (b : Bool). if b then take (length a.deltas.taken - 1) a.deltas.taken else a.deltas.taken) (rests shape opened state a kept joins.0).1 ∙ split in
    let own : a.entries.inherited ≡ [] = sym (ap (λ (a : Actor). a.entries.inherited) opener) ∙ kept.roles.rests.3 in
    let later : drop (length front + 1) a.deltas.taken ≡ behind = ap (drop (length front + 1)) split ∙ drop-append-add front (t ∷ behind) 1 in
    let did = (fits shape opened state a kept joins.0).finals.each (length front) t (ap (λ (list : List Taken). get_elem? list (length front)) idle ∙ at_front front behind t) none
    (youngest ∙ ap (λ (a : Actor). made_of a.role) (sym opener)) in
    subst (λ (p : List Portion × (List Entry × List Taken)). ((key : ℤ) → taken_units p.0 t.name key ≡ tally_units p.1.0 t.name key + taken_units (map portion_of p.1.1) t.name key)
    × (taken_sum p.0 t.name ≡ tally_sum p.1.0 t.name +ℤ taken_sum (map portion_of p.1.1) t.name))
    (λ i. (taken i, (own i ++ take t.moment.log (log_of a), later i))) did

pub final_snapshots_are_exact : FinalSnapshotsAreExact
final_snapshots_are_exact shape opened state a s kept joins among final =
    let fit = fits shape opened state a kept joins.0 in
    let log = all_is_log shape opened state a kept joins in
    let did = fit.finals.snapshots s among final.alone (final.youngest ∙ ap (λ (a : Actor). made_of a.role) (sym (opener_is shape opened state a kept joins.0)))
    (quiet shape opened state a kept joins s.name s.moment.log final.quiet) in
    let opening = kept.first_noted s.name in
    let noted : tally_noted (all_noted state.actors) s.name ≡ tally_noted (map (λ (c : EntryProgress). c.entry) a.entries.log) s.name =
    ap (λ list. tally_noted list s.name) log.2 in
    let redundant = did.2 in (
      λ key. did.0 key ∙ ap (λ list. tally_units list s.name key) log.0,
      did.1 ∙ ap (λ list. tally_sum list s.name) log.1,
      omega (arith, redundant, opening, noted),
    )

pub snapshots_stay_below : SnapshotsStayBelow
snapshots_stay_below shape opened state a s kept joins among =
    subst (λ (list : List Entry). All (λ (count : ℤ × ℕ). count.1 ≤ tally_units list s.name count.0) s.counts) (all_is_log shape opened state a kept joins).0
    (All-contains (IsWithinCounts state.actors) a.deltas.snapshots s (fits shape opened state a kept joins.0).snapshots among)

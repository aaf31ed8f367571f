-- A delta may end when it has taken all that it saw: what holds is kept.
use Rattle.segment_invariant.proofs.Prelude.Std.{◌≡◌, ◌≢◌, ℕ, zero, suc, ◌+◌, ◌≤◌, ℤ, true, false, true≢false, ◌⊎◌, List, [], ◌∷◌, ◌++◌, length, take, drop, set, All, Contains, inl, ⊎_elim, refl, sym, ap, ◌∙◌, subst, arith, +ℤ_idr, length_push, All-nil, Contains-append_cases, Contains-append_right, some, get_elem?, one_in, contains_at}
use Rattle.segment_invariant.proofs.Prelude.Machine.{Dimensions, Spent, Entry, Actor, Known, Taken, is_of, tally_units, tally_sum, all_counted, all_summed, all_taken, taken_sum, log_of, accepted_by, is_opener, made_of, is_untouched, State}
use Rattle.segment_invariant.proofs.Prelude.Invariant.{Anatomy, IsAlone, StandsRight, FinalsAreExact, Invariant, NoteKeeps}
use Rattle.std.proofs.lemmas.List.{same_from_push, take_all, drop_all}
use Rattle.segment_invariant.proofs.Frames.Answers.{answered_set}
use Rattle.segment_machine.specs.Note.{has_taken, TookAll}
use Rattle.segment_invariant.specs.Consistent.{units_taken}
use Rattle.segment_invariant.specs.Invariant.{ended_deltas, accepted_at, TookAllOf}
use Rattle.list_lemmas.proofs.Maps.{at_either}
use Rattle.segment_invariant.proofs.Taking.Lasts.{ended_before}
use Rattle.segment_invariant.proofs.Counting.Owed.{bucket_owed, mark_taken, sample_taken}
use Rattle.segment_invariant.proofs.Recorders.Alone.{counted_accepted, summed_accepted}
use Rattle.segment_invariant.proofs.Notes.Counted.{counted_at}
use Rattle.segment_invariant.proofs.Notes.Notes.{Noting, noting, noting_of, SameCounts, notes_on, sums}
use Rattle.segment_invariant.proofs.Notes.Actors.{noting_fits, calls_by}
use Rattle.segment_invariant.proofs.Notes.Begins.{takes_nothing}

module _ (shape : Dimensions) (opened : Anatomy) (state : State) (kept : Invariant shape opened state) (id : ℕ) (a : Actor)
    (mine : get_elem? state.actors id ≡ some a) (records : is_opener a.role ≡ false) (goes : a.deltas.taking ≡ true) (known : Known) (has : Contains a.answers.names known)
    (took : TookAll a known) where
  abbrev lived : a.hand.place ≢ Spent
  lived is = true≢false (sym goes ∙ ap (λ (a : Actor). a.deltas.taking) (subst (StandsRight shape kept.anatomy id a) is (kept.standing id a mine)))

  abbrev taker : Noting
  taker = record (noting_of a) { taking = false }

  counts : SameCounts a (noting a taker)
  counts = record { counted = λ name key. refl; summed = λ name. refl; noted = λ name. refl; costs = λ name. omega arith; units = refl }

  -- all that is counted was taken, if it is alone
  module _ (alone : IsAlone state.actors a) where
    abbrev quiet : All (λ c. (is_of known.name c.entry ≡ false) ⊎ (is_untouched c ≡ true)) a.entries.running
    quiet = subst (All (λ c. (is_of known.name c.entry ≡ false) ⊎ (is_untouched c ≡ true))) (sym ((kept.each id a mine lived).calls.taking goes).0)
        (All-nil (λ c. (is_of known.name c.entry ≡ false) ⊎ (is_untouched c ≡ true)))

    counted_taken : (key : ℤ) → tally_units (all_counted state.actors) known.name key ≤ units_taken state.actors known.name key
    counted_taken key = by_units (tally_units (all_counted state.actors) known.name key) refl
      where
        by_units : (n : ℕ) → tally_units (all_counted state.actors) known.name key ≡ n
            → tally_units (all_counted state.actors) known.name key ≤ units_taken state.actors known.name key
        by_units zero none = omega (arith, none)
        by_units (suc n) some_units =
            let accepted = counted_accepted shape opened state kept id a mine records lived alone known.name quiet key in
            ⊎_elim
            (λ (is, (bucket, below, key_is)).
            let (total, saw, either) = took.buckets is bucket below in
            let owed = subst (λ (key : ℤ). tally_units (accepted_by a) known.name key ≤ total) (sym key_is)
            (bucket_owed shape opened state kept id a mine lived records alone known bucket total has below saw) in
            ⊎_elim
            (λ none. omega (arith, accepted, owed, none))
            (λ (at, mark, where_at, saw_mark, most).
            let taken = subst (λ (key : ℤ). mark ≤ units_taken state.actors known.name key) (sym key_is)
            (mark_taken shape opened state kept id a mine lived known bucket at mark has below where_at saw_mark) in
            omega (arith, accepted, owed, most, taken))
            either)
            (λ (sparse, (at, first, met, saw)).
            let (count, saw_count, either) = took.samples sparse key at met saw in
            let owed = ((kept.each id a mine lived).looks records).samples known key at count has first saw_count in
            ⊎_elim
            (λ none. omega (arith, accepted, owed, none))
            (λ (mark, saw_mark, most).
            let taken = sample_taken shape opened state kept id a mine lived known key at has sparse first mark saw_mark in
            omega (arith, accepted, owed, most, taken))
            either)
            (counted_at shape opened state kept id a mine records lived alone known has quiet key (omega (arith, some_units)))

  -- an actor that began one at such a moment is alone
  alone_at : (before : List Taken) (last : Taken) → a.deltas.taken ≡ before ++ last ∷ [] → last.moment.outstanding ≡ 0
      → last.moment.before + 1 ≡ made_of kept.roles.opener.role → IsAlone state.actors a
  alone_at before last is none youngest =
      let m = (kept.each id a mine lived).finals.moments last.moment
      (inl (last, subst (λ list. Contains list last) (sym is) (Contains-append_right before (last ∷ []) last (0, omega arith, refl)), refl)) in
      let (made, outstanding) = m.mine records in
      (kept.roles.opener, kept.roles.stands, sym outstanding ∙ none, ap (λ n. n + 1) (sym made) ∙ youngest)

  -- it began when all had been accepted that is
  accepted_whole : (before : List Taken) (last : Taken) → a.deltas.taken ≡ before ++ last ∷ [] → accepted_at a last.moment ≡ accepted_by a
  accepted_whole before last is =
      let (runs, (front, one, ends, at)) = (kept.each id a mine lived).calls.taking goes in
      let began = ap (λ (t : Taken). t.moment.log) (same_from_push before front last one (sym is ∙ ends)).1 ∙ at in
      ap (λ (list : List Entry). a.entries.inherited ++ list)
      (ap (λ (k : ℕ). take k (log_of a)) began ∙ take_all (length (log_of a)) (log_of a) (omega arith))

  -- so the deltas that have ended are exact
  ended_finals : FinalsAreExact (set state.actors id (noting a taker)) kept.roles.opener id a → FinalsAreExact (set state.actors id (noting a taker)) kept.roles.opener id (noting a taker)
  ended_finals exact =
      let (before, last, is, named, swapped) = took.summed in
      let takers : List Actor = set state.actors id (noting a taker) in
      let same = sums shape opened state kept id a mine records taker lived counts (takes_nothing a taker) (λ name key. refl) in
      let ended : ended_deltas a ≡ before = ended_before a before last is goes in
      let sum_exact : IsAlone state.actors a → taken_sum (all_taken takers) known.name ≡ tally_sum (all_summed state.actors) known.name = λ alone.
      same.taken_sums known.name
      ∙ subst (λ (name : List ℕ). taken_sum (all_taken state.actors) name ≡ tally_sum (all_summed state.actors) name) named
      ((kept.each id a mine lived).finals.swapped before last goes is swapped alone) in record {
        deltas = λ t there. ⊎_elim
            (λ old. exact.deltas t (subst (λ list. Contains list t) (sym ended) old))
            (λ new none youngest rests.
            let t_is : last ≡ t = one_in last t new in
            let alone = alone_at before last is (ap (λ (t : Taken). t.moment.outstanding) t_is ∙ none) (ap (λ (t : Taken). t.moment.before + 1) t_is ∙ youngest) in
            let name : known.name ≡ t.name = sym named ∙ ap (λ (t : Taken). t.name) t_is in
            subst (λ (name : List ℕ).
            ((key : ℤ) → units_taken takers name key ≡ tally_units (all_counted takers) name key)
            × (taken_sum (all_taken takers) name ≡ tally_sum (all_summed takers) name))
            name (
              λ key.
                  let most = kept.balanced.taken known.name key in
                  let least = counted_taken alone key in
                  let now = same.taken known.name key in
                  let all = same.counted known.name key in
                  omega (arith, most, least, now, all),
              sum_exact alone ∙ sym (same.summed known.name),
            ))
            (Contains-append_cases before (last ∷ []) t (subst (λ list. Contains list t) is there));
        each = λ n t there. ⊎_elim
            (λ old. exact.each n t (subst (λ list. get_elem? list n ≡ some t) (sym ended) old))
            (λ (k, at, new) none youngest.
            let t_is : last ≡ t = one_in last t (contains_at (last ∷ []) k t new) in
            let alone = alone_at before last is (ap (λ (t : Taken). t.moment.outstanding) t_is ∙ none) (ap (λ (t : Taken). t.moment.before + 1) t_is ∙ youngest) in
            let name : known.name ≡ t.name = sym named ∙ ap (λ (t : Taken). t.name) t_is in
            let accepted = ap (λ (t : Taken). accepted_at a t.moment) (sym t_is) ∙ accepted_whole before last is in
            let long = ap length is ∙ length_push before last in
            let nothing : drop (n + 1) a.deltas.taken ≡ [] = drop_all (n + 1) a.deltas.taken (omega (arith, long, at)) in
            subst (λ (p : List Entry × (List Taken × List ℕ)). TookAllOf takers p.0 p.1.0 p.1.1) (λ i. (sym accepted i, (sym nothing i, name i))) (
              λ key.
                  let most = kept.balanced.taken known.name key in
                  let least = counted_taken alone key in
                  let now = same.taken known.name key in
                  let all = counted_accepted shape opened state kept id a mine records lived alone known.name (quiet alone) key in
                  omega (arith, most, least, now, all),
              sum_exact alone
                  ∙ (ap (λ entries. tally_sum entries known.name)
                  (summed_accepted shape opened state kept id a mine records lived alone ((kept.each id a mine lived).calls.taking goes).0)
                  ∙ sym (+ℤ_idr (tally_sum (accepted_by a) known.name))),
            ))
            (at_either before (last ∷ []) n t (subst (λ list. get_elem? list n ≡ some t) is there));
        snapshots = exact.snapshots;
        moments = exact.moments;
        swapped = λ before last taking. absurd (true≢false (sym taking));
      }

pub has_taken_kept : NoteKeeps has_taken
has_taken_kept shape opened state id a kept mine records (goes, (known, has, took)) =
    let n : Noting = record (noting_of a) { taking = false } in
    let same = counts shape opened state kept id a mine records goes known has took in
    notes_on shape opened state kept id a mine records n (lived shape opened state kept id a mine records goes known has took) same
    (takes_nothing a n) (λ name key. refl) (λ known has. has)
    (answered_set kept.anatomy.records state.actors id a (noting a n) mine refl refl)
    (λ fit. noting_fits shape kept.anatomy state.cursors _ kept.roles.opener id a n fit fit.names fit.owes
    (calls_by kept.anatomy a n fit.calls same fit.calls.ordered fit.calls.within fit.calls.held fit.calls.ended fit.calls.spent
    (λ taking. absurd (true≢false (sym taking))))
    (fit.looks records)
    (ended_finals shape opened state kept id a mine records goes known has took fit.finals)
    fit.snapshots)

-- A running call may continue with one more entry: what holds is kept.
use Rattle.segment_invariant.proofs.Prelude.Std.{◌≡◌, ◌≢◌, ◌⊎◌, ℕ, ◌+◌, ◌-◌, ◌≤◌, true, false, true≢false, List, [], ◌∷◌, ◌++◌, map, length, All, Contains, inl, inr, refl, sym, ap, ◌∙◌, subst, arith, append-nil, append_assoc, length-append, pos, if◌then◌else◌, ◌==◌, filter, bytes_eq, map-append, All-push, filter-append, one_in, below_length, all_at}
use Rattle.segment_invariant.proofs.Prelude.Machine.{Entry, EntryProgress, Spent, Actor, Cost, is_counted, is_summed, has_ended, fresh, is_of, tally_units, tally_sum, tally_noted, counted_among, noted_among, cost_of, cost_total, is_untouched}
use Rattle.segment_invariant.proofs.Prelude.Invariant.{StandsRight, summed_cost, IsQuiet, NoteKeeps}
use Rattle.segment_invariant.proofs.Frames.Answers.{answered_set}
use Rattle.segment_machine.specs.Entry.{AreWithin, summed_among}
use Rattle.segment_machine.specs.Note.{goes_on}
use Rattle.segment_invariant.specs.Invariant.{AreInOrder}
use Rattle.list_lemmas.proofs.Elements.{at_snoc_index}
use Rattle.list_lemmas.proofs.Maps.{all_left}
use Rattle.segment_invariant.proofs.Lists.Countings.{untouched_counts, untouched_sums, untouched_notes}
use Rattle.segment_invariant.proofs.Notes.Notes.{Noting, noting, noting_of, SameCounts, notes_on}
use Rattle.segment_invariant.proofs.Notes.Actors.{noting_fits, finals_on, calls_by}
use Rattle.segment_invariant.proofs.Notes.Begins.{takes_nothing}

module _ (a : Actor) (entry : Entry) (cost : ℕ) where
  abbrev more : List EntryProgress
  more = fresh entry ∷ []

  abbrev dearer : Cost → Cost
  dearer held = record held { units = held.units + cost }

  abbrev further : Noting
  further = record (noting_of a) { share = a.units.share - cost; held = map dearer a.units.held; running = a.entries.running ++ more }

  untouched : (c : EntryProgress) → Contains more c → is_untouched c ≡ true
  untouched c has = ap is_untouched (sym (one_in (fresh entry) c has))

  -- its entries are unchanged, with one after them of which nothing has happened
  ran : (a.entries.log ++ a.entries.running) ++ more ≡ a.entries.log ++ (a.entries.running ++ more)
  ran = append_assoc a.entries.log a.entries.running more

  as_summed : filter (λ (c : EntryProgress). c.summed) (a.entries.running ++ more) ≡ filter (λ (c : EntryProgress). c.summed) a.entries.running
  as_summed = filter-append (λ (c : EntryProgress). c.summed) a.entries.running more ∙ append-nil (filter (λ (c : EntryProgress). c.summed) a.entries.running)

  goes_on_counts : cost ≤ a.units.share → (name : List ℕ) (units : ℕ) → a.units.held ≡ record { name = name; units = units } ∷ [] → SameCounts a (noting a further)
  goes_on_counts enough name units holds = record {
    counted = λ name key. ap (λ list. tally_units (a.entries.first ++ counted_among list) name key) (sym ran)
        ∙ (untouched_counts a.entries.first (a.entries.log ++ a.entries.running) more untouched name key
        ∙ ap (λ list. tally_units (a.entries.first ++ counted_among list) name key) (append-nil (a.entries.log ++ a.entries.running)));
    summed = λ name. ap (λ list. tally_sum (a.entries.first ++ summed_among list) name) (sym ran)
        ∙ (untouched_sums a.entries.first (a.entries.log ++ a.entries.running) more untouched name
        ∙ ap (λ list. tally_sum (a.entries.first ++ summed_among list) name) (append-nil (a.entries.log ++ a.entries.running)));
    noted = λ name. ap (λ list. tally_noted (noted_among list) name) (sym ran)
        ∙ (untouched_notes [] (a.entries.log ++ a.entries.running) more untouched name
        ∙ ap (λ list. tally_noted (noted_among list) name) (append-nil (a.entries.log ++ a.entries.running)));
    costs = λ of.
        let now : summed_cost of (noting a further) ≡ cost_of a.units.costs of + (if length (filter (λ (c : EntryProgress). c.summed) a.entries.running) == 0 then 0 else cost_of (map dearer a.units.held) of) =
        ap (λ (list : List EntryProgress). cost_of a.units.costs of + (if length list == 0 then 0 else cost_of (map dearer a.units.held) of)) as_summed in
        let bound = covers (length (filter (λ (c : EntryProgress). c.summed) a.entries.running) == 0) (cost_of a.units.costs of) _ _
        (subst (λ held. cost_of held of ≤ cost_of (map dearer held) of) (sym holds) (costs_more (bytes_eq name of))) in
        omega (arith, now, bound);
    units =
        let all = ap cost_total holds in
        let more = ap (λ held. cost_total (map dearer held)) holds in
        omega (arith, all, more, enough);
  }
    where
      costs_more : (b : _) → 0 + (if b then units else 0) ≤ 0 + (if b then units + cost else 0)
      costs_more true = omega arith
      costs_more false = omega arith

      covers : (b : _) (before least most : ℕ) → least ≤ most → before + (if b then 0 else least) ≤ before + (if b then 0 else most)
      covers true before least most bound = omega arith
      covers false before least most bound = omega (arith, bound)

  -- those before it have ended
  goes_on_ordered : All (λ c. has_ended c ≡ true) a.entries.running → AreInOrder a.entries.running → AreInOrder (a.entries.running ++ more)
  goes_on_ordered done ordered = record {
    one_by_one = λ i j x y below first second. elim (at_snoc_index a.entries.running (fresh entry) x i first) [
      | inl old ↦ inl (all_at (λ c. has_ended c ≡ true) a.entries.running i x done old)
      | inr new ↦
          let low = below_length (a.entries.running ++ more) j y second in
          let long = length-append a.entries.running more in
          let at = new.0 in
          absurd (omega (arith, below, low, long, at))
    ];
    counted_first = All-push (λ (c : EntryProgress). c.summed ≡ true → is_counted c ≡ true) a.entries.running (fresh entry) ordered.counted_first (λ summed. absurd (true≢false (sym summed)));
    summed_next = All-push (λ (c : EntryProgress). c.noted ≡ true → is_summed c ≡ true) a.entries.running (fresh entry) ordered.summed_next (λ noted. absurd (true≢false (sym noted)));
    amounted = All-push (λ (c : EntryProgress). c.summed ≡ true → c.entry.amount ≢ pos 0) a.entries.running (fresh entry) ordered.amounted (λ summed. absurd (true≢false (sym summed)));
  }

  goes_on_quiet : (name : List ℕ) (k : ℕ) → IsQuiet (noting a further) name k → IsQuiet a name k
  goes_on_quiet name k quiet = (quiet.0, all_left (λ (c : EntryProgress). (is_of name c.entry ≡ false) ⊎ (is_untouched c ≡ true)) a.entries.running more quiet.1)

pub goes_on_kept : (entry : Entry) (cost : ℕ) → NoteKeeps (goes_on entry cost)
goes_on_kept entry cost shape opened state id a kept mine records (runs, done, enough, (name, units, holds, within)) =
    let n : Noting = further a entry cost in
    let counts = goes_on_counts a entry cost enough name units holds in
    let lived : a.hand.place ≢ Spent = λ is_spent. runs (ap (λ (a : Actor). a.entries.running) (subst (StandsRight shape kept.anatomy id a) is_spent (kept.standing id a mine))) in
    notes_on shape opened state kept id a mine records n lived counts (takes_nothing a n) (λ name key. refl) (λ known has. has)
    (answered_set kept.anatomy.records state.actors id a (noting a n) mine refl refl)
    (λ fit.
    let (other, spends, same, before, known) = fit.calls.within runs in
    let named : other ≡ name = ap (λ (held : List Cost). first_name held) (sym same ∙ holds) in
    noting_fits shape kept.anatomy state.cursors _ kept.roles.opener id a n fit fit.names fit.owes
    (calls_by kept.anatomy a n fit.calls counts (goes_on_ordered a entry cost done fit.calls.ordered)
    (λ some_run. (
      name,
      units + cost,
      ap (map (dearer a entry cost)) holds,
      subst (AreWithin name (units + cost)) (sym (map-append (λ (c : EntryProgress). c.entry) a.entries.running (fresh entry ∷ []))) within,
      subst (λ name. Contains (map (λ known. known.name) a.answers.names) name) named known,
    ))
    (subst (λ held. length (map (dearer a entry cost) held) ≤ 1) (sym holds) (omega arith)) fit.calls.ended fit.calls.spent
    (λ taking. absurd (runs (fit.calls.taking taking).0)))
    (fit.looks records)
    (finals_on _ kept.roles.opener id a n (omega arith) (λ k within. refl) (λ of k low quiet. goes_on_quiet a entry cost of k quiet) fit.finals)
    fit.snapshots)
  where
    first_name : List Cost → List ℕ
    first_name [] = []
    first_name (cost ∷ costs) = cost.name

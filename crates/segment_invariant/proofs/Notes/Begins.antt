-- The notes of an actor that keep what holds: a delta or a snapshot begins to look, a call that counts begins and ends.
use Rattle.segment_invariant.proofs.Prelude.Std.{◌≡◌, ◌⊎◌, ℕ, ◌+◌, ◌-◌, ◌≤◌, true, false, true≢false, List, [], ◌∷◌, ◌++◌, map, length, All, Contains, inl, inr, refl, sym, ap, ◌∙◌, subst, arith, pos, ◌≢◌, if◌then◌else◌, ◌==◌, filter, All-nil, some, get_elem?, from_map, all_of, contains_mapped}
use Rattle.segment_invariant.proofs.Prelude.Machine.{Entry, EntryProgress, Actor, is_counted, is_summed, fresh, is_of, tally_units, tally_sum, tally_noted, counted_among, noted_among, cost_of, cost_total, begins, is_untouched, noted}
use Rattle.segment_invariant.proofs.Prelude.Invariant.{summed_cost, IsQuiet, NoteKeeps}
use Rattle.segment_invariant.proofs.Frames.Answers.{answered_set}
use Rattle.segment_machine.specs.Entry.{AreWithin, summed_among}
use Rattle.segment_machine.specs.Note.{looks}
use Rattle.segment_invariant.specs.Invariant.{AreInOrder}
use Rattle.segment_invariant.proofs.Lists.Countings.{untouched_counts, untouched_sums, untouched_notes}
use Rattle.segment_invariant.proofs.Notes.Notes.{Noting, noting, noting_of, SameCounts, SameTakes, notes_on}
use Rattle.segment_invariant.proofs.Notes.Actors.{noting_fits, looks_anew, finals_on, calls_by}

-- it takes nothing
pub takes_nothing : (a : Actor) (n : Noting) → SameTakes a (noting a (record n { taken = a.deltas.taken }))
takes_nothing a n = record { taken = λ name key. refl; taken_sums = λ name. refl; from = λ t there. inl there }

-- ---- it begins to look again

looks_counts : (a : Actor) → SameCounts a (noted a looks)
looks_counts a = record { counted = λ name key. refl; summed = λ name. refl; noted = λ name. refl; costs = λ name. omega arith; units = refl }

pub looks_kept : NoteKeeps looks
looks_kept shape opened state id a kept mine records (lived, recorder, runs, takes) =
    let n : Noting = record (noting_of a) { since_singles = length a.seen.singles; since_counts = length a.seen.counts } in
    notes_on shape opened state kept id a mine records n lived (looks_counts a) (takes_nothing a n) (λ name key. refl) (λ known has. has)
    (answered_set kept.anatomy.records state.actors id a (noting a n) mine refl refl)
    (λ fit. noting_fits shape kept.anatomy state.cursors _ kept.roles.opener id a n fit fit.names fit.owes
    (calls_by kept.anatomy a n fit.calls (looks_counts a) fit.calls.ordered fit.calls.within fit.calls.held fit.calls.ended fit.calls.spent fit.calls.taking)
    (looks_anew kept.anatomy _ kept.roles.opener a n (fit.looks records))
    (finals_on _ kept.roles.opener id a n (omega arith) (λ k within. refl) (λ name k within quiet. quiet) fit.finals)
    fit.snapshots)

-- ---- a call that counts begins

-- entries of which nothing has happened are in order
fresh_at : (entries : List Entry) (i : ℕ) (c : EntryProgress) → get_elem? (map fresh entries) i ≡ some c → (e : Entry) × (fresh e ≡ c)
fresh_at entries i c there = let (e, at, is) = from_map fresh entries i c there in (e, is)

fresh_untouched : (entries : List Entry) (c : EntryProgress) → Contains (map fresh entries) c → is_untouched c ≡ true
fresh_untouched entries c has = let (e, there, is) = contains_mapped fresh entries c has in ap is_untouched (sym is)

fresh_ordered : (entries : List Entry) → AreInOrder (map fresh entries)
fresh_ordered entries = record {
  one_by_one = λ i j x y below first second. let (e, is) = fresh_at entries j y second in inr (ap is_untouched (sym is));
  counted_first = all_of (λ c. c.summed ≡ true → is_counted c ≡ true) (map fresh entries)
      (λ c has summed. let (e, there, is) = contains_mapped fresh entries c has in absurd (true≢false (sym summed ∙ ap (λ (c : EntryProgress). c.summed) (sym is))));
  summed_next = all_of (λ c. c.noted ≡ true → is_summed c ≡ true) (map fresh entries)
      (λ c has noted. let (e, there, is) = contains_mapped fresh entries c has in absurd (true≢false (sym noted ∙ ap (λ (c : EntryProgress). c.noted) (sym is))));
  amounted = all_of (λ c. c.summed ≡ true → c.entry.amount ≢ pos 0) (map fresh entries)
      (λ c has summed. let (e, there, is) = contains_mapped fresh entries c has in absurd (true≢false (sym summed ∙ ap (λ (c : EntryProgress). c.summed) (sym is))));
}

fresh_entries : (entries : List Entry) → map (λ (c : EntryProgress). c.entry) (map fresh entries) ≡ entries
fresh_entries [] = refl
fresh_entries (e ∷ es) = ap (λ rest. e ∷ rest) (fresh_entries es)

fresh_unsummed : (entries : List Entry) → filter (λ (c : EntryProgress). c.summed) (map fresh entries) ≡ []
fresh_unsummed [] = refl
fresh_unsummed (e ∷ es) = fresh_unsummed es

module _ (a : Actor) (name : List ℕ) (cost : ℕ) (entries : List Entry) (runs : a.entries.running ≡ []) (holds : a.units.held ≡ []) (enough : cost ≤ a.units.share) where
  abbrev begun : Actor
  begun = noted a (begins name cost entries)

  untouched : (c : EntryProgress) → Contains (map fresh entries) c → is_untouched c ≡ true
  untouched = fresh_untouched entries

  begins_counts : SameCounts a begun
  begins_counts = record {
    counted = λ name key. untouched_counts a.entries.first a.entries.log (map fresh entries) untouched name key
        ∙ ap (λ running. tally_units (a.entries.first ++ counted_among (a.entries.log ++ running)) name key) (sym runs);
    summed = λ name. untouched_sums a.entries.first a.entries.log (map fresh entries) untouched name
        ∙ ap (λ running. tally_sum (a.entries.first ++ summed_among (a.entries.log ++ running)) name) (sym runs);
    noted = λ name. untouched_notes [] a.entries.log (map fresh entries) untouched name
        ∙ ap (λ running. tally_noted (noted_among (a.entries.log ++ running)) name) (sym runs);
    costs = λ of.
        let now : summed_cost of begun ≡ cost_of a.units.costs of + 0 =
        ap (λ (list : List EntryProgress). cost_of a.units.costs of + (if length list == 0 then 0 else cost_of begun.units.held of)) (fresh_unsummed entries) in
        let before : summed_cost of a ≡ cost_of a.units.costs of + 0 =
        ap (λ (list : List EntryProgress). cost_of a.units.costs of + (if length (filter (λ (c : EntryProgress). c.summed) list) == 0 then 0 else cost_of a.units.held of)) runs in
        omega (arith, now, before);
    units =
        let none : cost_total a.units.held ≡ 0 = ap cost_total holds in
        omega (arith, none, enough);
  }

begins_quiet : (a : Actor) (name of : List ℕ) (cost k : ℕ) (entries : List Entry) → a.entries.running ≡ []
    → IsQuiet (noted a (begins name cost entries)) of k → IsQuiet a of k
begins_quiet a name of cost k entries runs quiet = (
  quiet.0,
  subst (All (λ c. (is_of of c.entry ≡ false) ⊎ (is_untouched c ≡ true))) (sym runs) (All-nil (λ c. (is_of of c.entry ≡ false) ⊎ (is_untouched c ≡ true))),
)

pub begins_kept : (name : List ℕ) (cost : ℕ) (entries : List Entry) → NoteKeeps (begins name cost entries)
begins_kept name cost entries shape opened state id a kept mine records (lived, recorder, runs, holds, takes, enough, known, within) =
    let n : Noting = record (noting_of a) { share = a.units.share - cost; held = record { name = name; units = cost } ∷ []; running = map fresh entries } in
    let counts = begins_counts a name cost entries runs holds enough in
    notes_on shape opened state kept id a mine records n lived counts (takes_nothing a n) (λ name key. refl) (λ known has. has)
    (answered_set kept.anatomy.records state.actors id a (noting a n) mine refl refl)
    (λ fit. noting_fits shape kept.anatomy state.cursors _ kept.roles.opener id a n fit fit.names fit.owes
    (calls_by kept.anatomy a n fit.calls counts (fresh_ordered entries)
    (λ some_run. (name, cost, refl, subst (AreWithin name cost) (sym (fresh_entries entries)) within, known))
    (omega arith) fit.calls.ended fit.calls.spent (λ taking. absurd (true≢false (sym taking ∙ takes))))
    (fit.looks records)
    (finals_on _ kept.roles.opener id a n (omega arith) (λ k within. refl) (λ of k within quiet. begins_quiet a name of cost k entries runs quiet) fit.finals)
    fit.snapshots)

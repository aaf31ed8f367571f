-- An item that is counted is noted: its units are added to the redundant count, its entry has ended, and its call continues.
use Rattle.std.proofs.Common.{◌≡◌, ℕ, ◌+◌, not, true, false, ℤ, List, [], ◌∷◌, ◌++◌, filter, refl, sym, ap, ◌∙◌, subst}
use Rattle.segment_machine.specs.declared.actor.Actor.{Actor}
use Rattle.segment_machine.specs.declared.actor.Known.{Known}
use Rattle.segment_machine.specs.declared.entry.EntryProgress.{EntryProgress}
use Rattle.segment_machine.specs.declared.entry.Entry.{Entry}
use Rattle.segment_machine.specs.Actor.{is_opener, known_at}
use Rattle.segment_machine.specs.Calls.{sight}
use Rattle.segment_machine.specs.Counting.{add_redundant}
use Rattle.segment_machine.specs.Entry.{fresh, has_ended}
use Rattle.segment_machine.specs.Event.{counting_event}
use Rattle.segment_promises.specs.Follows.{noted_by}
use Rattle.live_segment.specs.declared.segment.Segment.{Segment}
use Rattle.live_segment.specs.Add.Batch.{HasNoted, noted_next}
use Rattle.live_segment.specs.Add.Finish.{counted_entry, item_of}
use Rattle.live_segment.specs.Holders.{MayStep, table_of}
use Rattle.live_segment.specs.Steps.{IsSame, Pass, Stepped}
use Rattle.live_segment.specs.Steps.GhostNotes.{entry_notes}
use Rattle.live_segment.specs.Add.Progress.{CountsAlone, HasCounted, FrameOfCall, EntryWaits, counted_next}
use Rattle.live_segment.proofs.lemmas.Add.Beginning.{known_there, then_waits}
use Rattle.live_segment.proofs.lemmas.Add.Ended.{changed_behind, next_behind, still_open}
use Rattle.live_segment.proofs.lemmas.Steps.Proceeding.{does_not, proceeds_on, sees_count}

module _ (known : Known) (value : ℤ) (units : ℕ) (old mid : Pass) (may : CountsAlone old.me.0 known (item_of known value units))
    (has : HasCounted (item_of known value units) old.me.0 mid.me.0) where
  abbrev entry : Entry
  entry = item_of known value units

  abbrev last : EntryProgress
  last = counted_entry entry false

  pub waits : EntryWaits (noted_by old.me.0 (entry_notes old.me.0 entry)) entry
  waits = then_waits old.me.0 known entry may

  -- its entry is counted, after those that have ended
  pub runs_counted : mid.me.0.entries.running ≡ waits.before ++ last ∷ []
  runs_counted =
      ap (λ e. e.running) has.entries_are
      ∙ (ap (λ (l : List EntryProgress). (counted_next (record (noted_by old.me.0 (entry_notes old.me.0 entry)).entries { running = l })).running) waits.runs
      ∙ changed_behind (fresh entry) (still_open (fresh entry) refl may.some) (λ c. record c { counted = true }) waits.before waits.ended.ended)

  pub may_note : (segment : Segment) → old.table_id ≡ table_of segment → IsSame old mid
      → MayStep segment mid (counting_event (add_redundant known.reference units))
  may_note segment table same =
      let b = mid.me.0 in
      let alone = ap (λ (x : Actor). known_at x.answers.names known.reference) has.proceeds.same ∙ may.alone in record {
        table = same.0 ∙ table;
        recorder = ap (λ (x : Actor). is_opener x.role) has.proceeds.same ∙ may.recorder;
        ready = (
          has.proceeds.free,
          last,
          known,
          (([], ap (filter (λ x. not (has_ended x))) runs_counted ∙ next_behind last (still_open last refl may.some) waits.before waits.ended.ended), refl, refl),
          refl,
          (known_there b.answers.names known.reference known alone).0,
          refl,
          refl,
        );
      }

  module _ (found : ℕ) (after : Pass) (step : Stepped mid (counting_event (add_redundant known.reference units)) found after) where
    pub same_noted : IsSame old mid → IsSame old after
    same_noted same = (step.same.0 ∙ same.0, step.same.1 ∙ same.1, step.same.2 ∙ same.2)

    noted_after : FrameOfCall mid.me.0 after.me.0
    noted_after = subst (FrameOfCall mid.me.0) (sym step.view) (record {
      same = refl;
      free = refl;
      done = does_not mid.me.0.done;
      seen = sees_count mid.me.0.seen (sight (known.reference + 13) (found + units));
    })

    pub item_noted : HasNoted entry old.me.0 after.me.0
    item_noted = record {
      proceeds = proceeds_on old.me.0 mid.me.0 after.me.0 has.proceeds noted_after;
      units_are = ap (λ (x : Actor). x.units) step.view ∙ has.units_are;
      entries_are = ap (λ (x : Actor). x.entries) step.view ∙ ap noted_next has.entries_are;
      filled = ap (λ (x : Actor). x.done.filled) step.view ∙ has.filled;
    }

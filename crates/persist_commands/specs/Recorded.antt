-- What a segment in which a script was run reads as, by what its opener began with when the segment was opened: nothing in a new segment,
-- or the counts of an image.
use Rattle.std.specs.Prelude.{◌≡◌, ◌↔◌, ◌⊎◌, false, ℕ, ◌+◌, ℤ, ◌+ℤ◌, List, [], ◌∷◌, ◌++◌, Ok}
use Rattle.std.specs.List.{Contains}
use mathlib.Core.Option.{some}
use lib.ListN.{get_elem?}
use Rattle.segment_image.specs.Head.{header_of, head_of}
use Rattle.bucket_ranges.specs.Spec.{SameSpec}
use Rattle.bucket_ranges.specs.Reading.{Histogram, Reading, IsReading}
use Rattle.segment_machine.specs.declared.actor.Actor.{Actor}
use Rattle.segment_machine.specs.declared.actor.Known.{Known}
use Rattle.segment_machine.specs.declared.entry.Entry.{Entry}
use Rattle.segment_machine.specs.Actor.{cost_of, outstanding_of, taken_sum, taken_units}
use Rattle.segment_machine.specs.Entry.{tally_noted, tally_sum, tally_units}
use Rattle.segment_promises.specs.Reads.{HasNoFault, mark_read, units_read}
use Rattle.live_segment.specs.declared.rule.Setting.{Setting}
use Rattle.persist_report_core.specs.Script.{HistRecord, Script}
use Rattle.persist_commands.specs.Entries.{ScriptAction, Takes, deeds_of, deltas_among, deltas_of, entries_among, entries_of}

-- a delta of a name is taken, and no later one of the name
pub record LastDelta (deeds : List ScriptAction) (name : List ℕ) : Type 0 where
  pub front : List ScriptAction
  pub behind : List ScriptAction
  pub split : deeds ≡ front ++ Takes name ∷ behind
  pub last : ¬ (Contains (deltas_among behind) name)

-- how the new segment of a script is opened
abbrev pub setting_for : Script → Setting
setting_for script = record { shape = script.shape; version = 2; id = script.id; cursors = 0; full = false }

-- an opener has done nothing since its segment was opened, and no recorder is outstanding
pub record HasOnlyOpened (a : Actor) : Type 0 where
  pub log : a.entries.log ≡ []
  pub taken : a.deltas.taken ≡ []
  pub spoiled : a.done.spoiled ≡ false
  pub filled : a.done.filled ≡ false
  pub alone : outstanding_of a.role ≡ 0

-- a histogram has what its opener began with, and what entries add up to after that
pub record IsTallyFrom (first : Actor) (entries : List Entry) (h : Histogram) : Type 0 where
  pub units : (key : ℤ) → units_read h key ≡ tally_units first.entries.first h.name key + tally_units entries h.name key
  pub sum : h.sum ≡ tally_sum first.entries.first h.name +ℤ tally_sum entries h.name
  pub redundant : h.redundant ≡ cost_of first.entries.first_noted h.name + tally_noted entries h.name

-- no delta has taken of it: it has the marks that its opener began with
pub record HasMarksFrom (first : Actor) (h : Histogram) : Type 0 where
  pub marks : (key : ℤ) → mark_read h key ≡ taken_units first.deltas.first_taken h.name key
  pub sum_mark : h.sum_mark ≡ taken_sum first.deltas.first_taken h.name

-- deltas have taken of it exactly what its opener began with and what entries add up to
pub record AreTakenFrom (first : Actor) (entries : List Entry) (h : Histogram) : Type 0 where
  pub marks : (key : ℤ) → mark_read h key ≡ tally_units first.entries.first h.name key + tally_units entries h.name key
  pub sum_mark : h.sum_mark ≡ tally_sum first.entries.first h.name +ℤ tally_sum entries h.name

-- A reading of what a script records by this many workers in a segment that was opened so. The names are exactly those that its opener knew
-- and those of the `hist` records, each once and with their spec. Each histogram has what the opener began with and the tally of the `add`
-- records. A histogram that no `delta` record names has the marks of the opening. With a single worker, deltas have taken of each other one
-- all that was there and what the `add` records before its last `delta` record add up to.
pub record IsRecordedFrom (setting : Setting) (first : Actor) (script : Script) (workers : ℕ) (reading : Reading) : Type 0 where
  pub lawful : HasNoFault reading
  pub named : (name : List ℕ) → ((h : Histogram) × Contains reading.hists h × (h.name ≡ name))
      ↔ (((known : Known) × Contains first.answers.names known × (known.name ≡ name)) ⊎ ((hist : HistRecord) × Contains script.hists hist × (hist.name ≡ name)))
  pub kept : (h : Histogram) (known : Known) → Contains reading.hists h → Contains first.answers.names known → h.name ≡ known.name → SameSpec h.spec known.spec
  pub specified : (h : Histogram) (hist : HistRecord) → Contains reading.hists h → Contains script.hists hist → h.name ≡ hist.name → SameSpec h.spec hist.spec
  pub once : (i j : ℕ) (g h : Histogram) → get_elem? reading.hists i ≡ some g → get_elem? reading.hists j ≡ some h → g.name ≡ h.name → i ≡ j
  pub tallies : (h : Histogram) → Contains reading.hists h → IsTallyFrom first (entries_of script.hists script.calls) h
  pub id : reading.id ≡ setting.id
  pub corrupt : reading.corrupt ≡ false
  pub full : reading.full ≡ setting.full
  pub unmarked : (h : Histogram) → Contains reading.hists h → ¬ (Contains (deltas_of script.hists script.calls) h.name) → HasMarksFrom first h
  pub taken : workers ≡ 1 → (h : Histogram) → Contains reading.hists h → (delta : LastDelta (deeds_of script.hists script.calls) h.name)
      → AreTakenFrom first (entries_among delta.front) h

-- words are the image of such a segment
pub record IsRecordedImage (setting : Setting) (first : Actor) (script : Script) (workers : ℕ) (words : List ℕ) : Type 0 where
  pub header : header_of words ≡ Ok (head_of words)
  pub shape : (head_of words).shape ≡ setting.shape
  pub version : (head_of words).version ≡ setting.version
  pub id : (head_of words).id ≡ setting.id
  pub reads : (reading : Reading) → IsReading words (head_of words) reading → IsRecordedFrom setting first script workers reading

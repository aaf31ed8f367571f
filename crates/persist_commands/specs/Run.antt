-- What a script that was run leaves.
use Rattle.std.specs.Prelude.{◌≡◌, ◌↔◌, ◌<◌, ◌≤◌, false, ℕ, ℤ, List, length, Result, Ok, MatchResult, ⊤}
use Rattle.std.specs.List.{Contains}
use mathlib.Core.Option.{some}
use lib.ListN.{get_elem?}
use Rattle.segment_image.specs.Head.{header_of, head_of}
use Rattle.bucket_ranges.specs.Spec.{SameSpec}
use Rattle.bucket_ranges.specs.Reading.{Histogram, Reading, IsReading}
use Rattle.segment_machine.specs.declared.entry.Entry.{Entry}
use Rattle.segment_machine.specs.Entry.{tally_units, tally_sum, tally_noted}
use Rattle.segment_promises.specs.Reads.{mark_read, units_read, HasNoFault}
use Rattle.segment_merge.specs.Image.{HasNoMarks}
use Rattle.segment_calls.specs.declared.refusal.Refusal.TheVariants as refusal
use Rattle.persist_report_core.specs.declared.fault.CliFault.{CliFault}
use Rattle.persist_report_core.specs.declared.fault.CliFault.TheVariants as cli
use Rattle.persist_report_core.specs.declared.script.fault.ScriptFault.{ScriptFault}
use Rattle.persist_report_core.specs.declared.script.fault.ScriptFault.TheVariants as told
use Rattle.persist_report_core.specs.Script.{HistRecord, Script, script_of}
use Rattle.reading_texts.specs.Text.{IsTextOf}
use Rattle.persist_commands.specs.Entries.{deeds_of, deltas_of, entries_among, entries_of}
use Rattle.persist_commands.specs.Recorded.{LastDelta}

-- a histogram that is read has what entries add up to: the units of each key, the sum, and all units as its redundant count
pub record IsTallyOf (entries : List Entry) (h : Histogram) : Type 0 where
  pub units : (key : ℤ) → units_read h key ≡ tally_units entries h.name key
  pub sum : h.sum ≡ tally_sum entries h.name
  pub redundant : h.redundant ≡ tally_noted entries h.name

-- deltas have taken of a histogram exactly what entries add up to: the mark of each key is its units, and the sum mark is the sum
pub record AreTaken (entries : List Entry) (h : Histogram) : Type 0 where
  pub marks : (key : ℤ) → mark_read h key ≡ tally_units entries h.name key
  pub sum_mark : h.sum_mark ≡ tally_sum entries h.name

-- A reading of what a script records by this many workers: no record is bad, the list does not stop, and no flag is set. The names are
-- exactly those of the `hist` records, each once and with their spec. Each histogram has the tally of the `add` records. A histogram that
-- no `delta` record names has no marks. With a single worker, deltas have taken of each other one what the `add` records before its last
-- `delta` record add up to.
pub record IsRecordingOf (script : Script) (workers : ℕ) (reading : Reading) : Type 0 where
  pub lawful : HasNoFault reading
  pub named : (name : List ℕ) → ((h : Histogram) × Contains reading.hists h × (h.name ≡ name)) ↔ ((hist : HistRecord) × Contains script.hists hist × (hist.name ≡ name))
  pub specified : (h : Histogram) (hist : HistRecord) → Contains reading.hists h → Contains script.hists hist → h.name ≡ hist.name → SameSpec h.spec hist.spec
  pub once : (i j : ℕ) (g h : Histogram) → get_elem? reading.hists i ≡ some g → get_elem? reading.hists j ≡ some h → g.name ≡ h.name → i ≡ j
  pub tallies : (h : Histogram) → Contains reading.hists h → IsTallyOf (entries_of script.hists script.calls) h
  pub id : reading.id ≡ script.id
  pub corrupt : reading.corrupt ≡ false
  pub full : reading.full ≡ false
  pub unmarked : (h : Histogram) → Contains reading.hists h → ¬ (Contains (deltas_of script.hists script.calls) h.name) → HasNoMarks h
  pub taken : workers ≡ 1 → (h : Histogram) → Contains reading.hists h → (delta : LastDelta (deeds_of script.hists script.calls) h.name)
      → AreTaken (entries_among delta.front) h

-- Words are the image of a segment in which a script was run by this many workers: it has the script's shape and id and is of version 2,
-- and is read as what the script records.
pub record IsImageOfRun (script : Script) (workers : ℕ) (words : List ℕ) : Type 0 where
  pub header : header_of words ≡ Ok (head_of words)
  pub shape : (head_of words).shape ≡ script.shape
  pub version : (head_of words).version ≡ 2
  pub id : (head_of words).id ≡ script.id
  pub reads : (reading : Reading) → IsReading words (head_of words) reading → IsRecordingOf script workers reading

-- a text is the report of an image
abbrev pub IsReportOfImage : List ℕ → List ℕ → Type 0
IsReportOfImage words text = (reading : Reading) × IsReading words (head_of words) reading × IsTextOf reading text

-- The bytes are a script, and not too many, that was run by this many workers: the words are the image of the segment in which it was run,
-- and the text is its report.
pub record IsRunOf (workers : ℕ) (bytes words text : List ℕ) : Type 0 where
  pub few : length bytes ≤ 16777216
  pub script : Script
  pub script_is : script_of 4294967295 bytes ≡ Ok script
  pub image : IsImageOfRun script workers words
  pub report : IsReportOfImage words text

-- ---- faults

-- the fault of a run whose script was not read
abbrev pub fault_of_script : ScriptFault → CliFault
fault_of_script told.Read = cli.Read
fault_of_script told.TooLong = cli.TooLong
fault_of_script told.NoMemory = cli.NoMemory
fault_of_script (told.BadLine number) = cli.BadLine number
fault_of_script (told.ZeroCount number) = cli.Refused number refusal.ZeroCount
fault_of_script (told.NoUnits number) = cli.Refused number refusal.NoUnits

-- a fault that the run of a valid script may end with: its cause is not in the script's bytes alone
abbrev pub MayEndRun : CliFault → Type 0
MayEndRun cli.Write = ⊤
MayEndRun cli.NoThread = ⊤
MayEndRun cli.NoMemory = ⊤
MayEndRun cli.Gate = ⊤
MayEndRun (cli.Refused number why) = ⊤
MayEndRun _ = ⊥

-- A fault of a run has its cause in the bytes of the script, which mean this: they are too many; or it is the first fault that they have as
-- a script; or they have none, and it came later. If a device fails or memory runs out, the cause is not there.
abbrev pub IsFaultOfScript : Result Script ScriptFault → List ℕ → CliFault → Type 0
IsFaultOfScript meaning bytes cli.Read = ⊤
IsFaultOfScript meaning bytes cli.NoMemory = ⊤
IsFaultOfScript meaning bytes cli.TooLong = 16777216 < length bytes
IsFaultOfScript meaning bytes fault = (length bytes ≤ 16777216) × MatchResult meaning (λ script. MayEndRun fault) (λ why. fault ≡ fault_of_script why)

-- in a new segment, which has all units
abbrev pub IsFaultOfRun : List ℕ → CliFault → Type 0
IsFaultOfRun bytes fault = IsFaultOfScript (script_of 4294967295 bytes) bytes fault

-- What a script that was run in an image leaves of both, and why nothing is written.
use Rattle.std.specs.Prelude.{◌≡◌, ◌≢◌, ◌↔◌, ◌⊎◌, ◌≤◌, false, ℕ, ◌+◌, ◌-◌, ℤ, pos, ◌+ℤ◌, if◌then◌else◌, List, map, fold, sum_by, length, Ok}
use Rattle.std.specs.List.{Contains}
use Rattle.std.specs.Str.{bytes_eq}
use mathlib.Core.Option.{some}
use lib.ListN.{get_elem?}
use Rattle.segment_image.specs.Head.{header_of, head_of}
use Rattle.segment_image.specs.declared.head.SegmentHead.{SegmentHead}
use Rattle.bucket_ranges.specs.Spec.{SameSpec}
use Rattle.bucket_ranges.specs.Reading.{Histogram, Reading, IsReading}
use Rattle.segment_machine.specs.declared.entry.Entry.{Entry}
use Rattle.segment_machine.specs.Entry.{tally_noted, tally_sum, tally_units}
use Rattle.segment_promises.specs.Adoption.{IsAdoptable, used_of}
use Rattle.segment_promises.specs.Reads.{HasNoFault, mark_read, units_read}
use Rattle.image_adoption.specs.Checking.{IsFaultOf, Reads}
use Rattle.segment_calls.specs.declared.adopt_fault.AdoptFault.TheVariants as adoption
use Rattle.persist_report_core.specs.Report.{AreWordsOf, IsCausedByImage}
use Rattle.persist_report_core.specs.declared.fault.CliFault.{CliFault}
use Rattle.persist_report_core.specs.declared.fault.CliFault.TheVariants as cli
use Rattle.persist_report_core.specs.Script.{HistRecord, Script, script_for}
use Rattle.persist_commands.specs.Entries.{deeds_of, deltas_of, entries_among, entries_of}
use Rattle.persist_commands.specs.Recorded.{LastDelta}
use Rattle.persist_commands.specs.Run.{IsFaultOfScript, IsReportOfImage}

-- ---- what an image had

-- bytes are those of an image that may be adopted, which has this header and reads as this
pub record IsBaseOf (bytes : List ℕ) (head : SegmentHead) (reading : Reading) : Type 0 where
  pub words : List ℕ
  pub words_are : AreWordsOf bytes words
  pub head_is : head ≡ head_of words
  pub references : List ℕ
  pub reads : Reads words references reading
  pub adoptable : IsAdoptable words references reading

-- bytes are those of an image that may be adopted
abbrev pub IsBase : List ℕ → Type 0
IsBase bytes = (head : SegmentHead) × (reading : Reading) × IsBaseOf bytes head reading

-- a number that histograms have of a name; no two of a reading have the same name
abbrev pub had_of : (Histogram → ℕ) → List Histogram → List ℕ → ℕ
had_of number hists name = sum_by (λ h. if bytes_eq h.name name then number h else 0) hists

-- an amount
abbrev pub amount_had_of : (Histogram → ℤ) → List Histogram → List ℕ → ℤ
amount_had_of amount hists name = fold ◌+ℤ◌ (pos 0) (map (λ h. if bytes_eq h.name name then amount h else pos 0) hists)

-- ---- what is read

-- a histogram has what those of an image have of its name, and what entries add up to: the units of each key, the sum and the redundant
-- count
pub record IsTallyOnto (base : List Histogram) (entries : List Entry) (h : Histogram) : Type 0 where
  pub units : (key : ℤ) → units_read h key ≡ had_of (λ g. units_read g key) base h.name + tally_units entries h.name key
  pub sum : h.sum ≡ amount_had_of (λ g. g.sum) base h.name +ℤ tally_sum entries h.name
  pub redundant : h.redundant ≡ had_of (λ g. g.redundant) base h.name + tally_noted entries h.name

-- it has the marks and the sum mark that the image has of its name
pub record HasMarksOf (base : List Histogram) (h : Histogram) : Type 0 where
  pub marks : (key : ℤ) → mark_read h key ≡ had_of (λ g. mark_read g key) base h.name
  pub sum_mark : h.sum_mark ≡ amount_had_of (λ g. g.sum_mark) base h.name

-- deltas have taken of it exactly all that the image has of its name and what entries add up to
pub record AreTakenOnto (base : List Histogram) (entries : List Entry) (h : Histogram) : Type 0 where
  pub marks : (key : ℤ) → mark_read h key ≡ had_of (λ g. units_read g key) base h.name + tally_units entries h.name key
  pub sum_mark : h.sum_mark ≡ amount_had_of (λ g. g.sum) base h.name +ℤ tally_sum entries h.name

-- A reading of what a script records by this many workers onto an image which reads as `base`: no record is bad, and the list does not
-- stop. The names are exactly those of the image and of the `hist` records, each once and with the spec of each. Each histogram has what
-- the image had of it and the tally of the `add` records. The id and the full flag are the image's. A histogram that no `delta` record
-- names has the image's marks. With a single worker, deltas have taken of each other one all that the image had and what the `add` records
-- before its last `delta` record add up to.
pub record IsRecordingOnto (base : Reading) (script : Script) (workers : ℕ) (reading : Reading) : Type 0 where
  pub lawful : HasNoFault reading
  pub named : (name : List ℕ) → ((h : Histogram) × Contains reading.hists h × (h.name ≡ name))
      ↔ (((g : Histogram) × Contains base.hists g × (g.name ≡ name)) ⊎ ((hist : HistRecord) × Contains script.hists hist × (hist.name ≡ name)))
  pub kept : (h g : Histogram) → Contains reading.hists h → Contains base.hists g → h.name ≡ g.name → SameSpec h.spec g.spec
  pub specified : (h : Histogram) (hist : HistRecord) → Contains reading.hists h → Contains script.hists hist → h.name ≡ hist.name → SameSpec h.spec hist.spec
  pub once : (i j : ℕ) (g h : Histogram) → get_elem? reading.hists i ≡ some g → get_elem? reading.hists j ≡ some h → g.name ≡ h.name → i ≡ j
  pub tallies : (h : Histogram) → Contains reading.hists h → IsTallyOnto base.hists (entries_of script.hists script.calls) h
  pub id : reading.id ≡ base.id
  pub corrupt : reading.corrupt ≡ false
  pub full : reading.full ≡ base.full
  pub unmarked : (h : Histogram) → Contains reading.hists h → ¬ (Contains (deltas_of script.hists script.calls) h.name) → HasMarksOf base.hists h
  pub taken : workers ≡ 1 → (h : Histogram) → Contains reading.hists h → (delta : LastDelta (deeds_of script.hists script.calls) h.name)
      → AreTakenOnto base.hists (entries_among delta.front) h

-- words are the image of a segment that continued from an image, in which a script was run: of the size, the page and the id of that, and
-- of version 2
pub record IsImageOfResume (head : SegmentHead) (base : Reading) (script : Script) (workers : ℕ) (words : List ℕ) : Type 0 where
  pub header : header_of words ≡ Ok (head_of words)
  pub shape : (head_of words).shape ≡ head.shape
  pub version : (head_of words).version ≡ 2
  pub id : (head_of words).id ≡ head.id
  pub reads : (reading : Reading) → IsReading words (head_of words) reading → IsRecordingOnto base script workers reading

-- The bytes of BASE are an image that may be adopted. The bytes of the script are one for its segment, with the units that the image has
-- not used, and not too many. The words are the image of the segment in which it was run by this many workers, and the text is its report.
pub record IsResumeOf (workers : ℕ) (base bytes words text : List ℕ) : Type 0 where
  pub head : SegmentHead
  pub reading : Reading
  pub base_is : IsBaseOf base head reading
  pub few : length bytes ≤ 16777216
  pub script : Script
  pub script_is : script_for head.shape head.id (4294967295 - used_of reading) bytes ≡ Ok script
  pub image : IsImageOfResume head reading script workers words
  pub report : IsReportOfImage words text

-- ---- faults

-- A fault of BASE has its cause in its bytes: they are too many, or no words, or their words may not be adopted for this. If a device fails
-- or memory runs out, the cause is not there.
abbrev pub IsFaultOfBase : List ℕ → CliFault → Type 0
IsFaultOfBase bytes (cli.Adopt fault) = (words : List ℕ) × AreWordsOf bytes words × IsFaultOf words 0 fault × (fault ≢ adoption.NoMemory)
IsFaultOfBase bytes (cli.Image fault) = ⊥
IsFaultOfBase bytes cli.Write = ⊥
IsFaultOfBase bytes fault = IsCausedByImage bytes fault

-- the fault of an input that was not read: a device that fails, or one that its bytes cause; else out of memory
abbrev pub fault_of_input : CliFault → CliFault
fault_of_input cli.Read = cli.Read
fault_of_input cli.TooLong = cli.TooLong
fault_of_input cli.NotWords = cli.NotWords
fault_of_input fault = cli.NoMemory

-- A fault of a resume is one of BASE; or BASE is an image that may be adopted, and it is one of the script or of its run, as a script for
-- the segment of that and with its units.
abbrev pub IsFaultOfResume : List ℕ → List ℕ → CliFault → Type 0
IsFaultOfResume base bytes fault =
    IsFaultOfBase base fault
    ⊎ ((head : SegmentHead) × (reading : Reading) × IsBaseOf base head reading
    × IsFaultOfScript (script_for head.shape head.id (4294967295 - used_of reading) bytes) bytes fault)

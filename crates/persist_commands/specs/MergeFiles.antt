-- What is written when two images are merged, or why nothing is.
use Rattle.std.specs.Prelude.{◌≡◌, ◌≢◌, ◌⊎◌, false, ℕ, ◌+◌, ◌<◌, List, [], ◌∷◌, ◌++◌, map, take, sum_by, Some, Ok, ⊤}
use Rattle.std.specs.List.{Contains, flat_map}
use Rattle.std.specs.declared.alloc.Global.{Global}
use Rattle.std.specs.declared.vec.Vec.{Vec}
use Rattle.segment_image.specs.Head.{header_of, head_of}
use Rattle.segment_image.specs.declared.head.SegmentHead.{SegmentHead}
use Rattle.bucket_ranges.specs.Ranges.{boundaries_of}
use Rattle.bucket_ranges.specs.Reading.{Histogram, Reading, IsReading, is_name}
use Rattle.bucket_ranges.specs.Spec.{SameSpec, spec_fault}
use Rattle.segment_machine.specs.declared.actor.Actor.{Actor}
use Rattle.segment_machine.specs.declared.entry.Entry.{Entry}
use Rattle.segment_machine.specs.Entry.{item_entry}
use Rattle.segment_promises.specs.Reads.{HasNoFault}
use Rattle.segment_calls.specs.Asked.{IsTooLarge}
use Rattle.segment_calls.specs.Blocks.{count_words, record_words}
use Rattle.segment_calls.specs.declared.refusal.Refusal.{Refusal}
use Rattle.segment_calls.specs.declared.refusal.Refusal.TheVariants as refusal
use Rattle.segment_merge.specs.Image.{IsMergedImage}
use Rattle.segment_merge.specs.Merge.{IsMerged, StopsAt, cost_left, entries_left, items_left}
use Rattle.persist_report_core.specs.Report.{AreWordsOf, IsCausedByImage}
use Rattle.persist_report_core.specs.declared.fault.CliFault.{CliFault}
use Rattle.persist_report_core.specs.declared.fault.CliFault.TheVariants.{Merge, NoMemory}
use Rattle.persist_commands.specs.Run.{IsTallyOf}

-- bytes are those of an image with this header, which reads as this
pub record AreImageBytes (bytes : List ℕ) (head : SegmentHead) (reading : Reading) : Type 0 where
  pub words : List ℕ
  pub words_are : AreWordsOf bytes words
  pub head_is : header_of words ≡ Ok head
  pub reading_is : IsReading words head reading

-- bytes are those of an image
abbrev pub IsImage : List ℕ → Type 0
IsImage bytes = (head : SegmentHead) × (reading : Reading) × AreImageBytes bytes head reading

-- words are the image that a merge of two images writes: of the size, the page and the id of the first, with the histograms of the first
-- and then of the second
pub record AreMerged (base dead words : List ℕ) : Type 0 where
  pub head : SegmentHead
  pub reading : Reading
  pub base_is : AreImageBytes base head reading
  pub dead_head : SegmentHead
  pub dead_reading : Reading
  pub dead_is : AreImageBytes dead dead_head dead_reading
  pub merged : IsMergedImage head (reading.hists ++ dead_reading.hists) words

-- ---- why nothing is written

-- one of these has the name of a histogram and another spec
abbrev pub HaveOtherSpec : List Histogram → Histogram → Type 0
HaveOtherSpec hists h = (other : Histogram) × Contains hists other × (other.name ≡ h.name) × (¬ (SameSpec other.spec h.spec))

-- a histogram needs a block of this many words in a segment with this reading: its record, if none has the name; else its counts or a
-- sample
abbrev pub NeedsBlockOf : List Histogram → Histogram → ℕ → Type 0
NeedsBlockOf read h block =
    ((block ≡ record_words h.name h.spec) × ((g : Histogram) → Contains read g → g.name ≢ h.name))
    ⊎ ((block ≡ count_words h.spec) × ((g : Histogram) × Contains read g × (g.name ≡ h.name)))

-- the entries of histograms that are merged, and of the first items of the next
abbrev pub entries_until : List Histogram → Histogram → ℕ → List Entry
entries_until front h items = flat_map entries_left front ++ map (item_entry h.name (boundaries_of h.spec)) (take items (items_left h))

-- There is no room for a histogram in a segment into which others were merged. The words of that segment are an image of the size and the
-- page of the first one that is merged. They read as exactly these others and, if there was room for it, a record of the histogram, with
-- what was left of those and some of its first items. From the free pointer on, the next block that it needs passes the end.
pub record LacksRoomFor (first : SegmentHead) (front : List Histogram) (h : Histogram) : Type 0 where
  pub words : List ℕ
  pub header : header_of words ≡ Ok (head_of words)
  pub shape : (head_of words).shape ≡ first.shape
  pub version : (head_of words).version ≡ 2
  pub reading : Reading
  pub reading_is : IsReading words (head_of words) reading
  pub lawful : HasNoFault reading
  pub named : (g : Histogram) → Contains reading.hists g → (k : Histogram) × Contains (front ++ h ∷ []) k × (k.name ≡ g.name)
  pub all : (k : Histogram) → Contains front k → (g : Histogram) × Contains reading.hists g × (g.name ≡ k.name)
  pub items : ℕ
  pub tallies : (g : Histogram) → Contains reading.hists g → IsTallyOf (entries_until front h items) g
  pub block : ℕ
  pub needs : NeedsBlockOf reading.hists h block
  pub passes : first.shape.size < (head_of words).free + block

-- Why a merge stops at a histogram, in a new segment of the size and the page of the first one that is merged, after others that are merged
-- and with this many units for all of them: its name or its spec is not valid; its record or its counts have more words than a page; they
-- cost more units than there are; one of those before it has its name and another spec; or there is no room for it. No such segment is
-- corrupt.
abbrev pub MayStop : SegmentHead → ℕ → List Histogram → Histogram → Refusal → Type 0
MayStop first units front h refusal.BadName = is_name h.name ≡ false
MayStop first units front h (refusal.BadSpec fault) = spec_fault h.spec ≡ Some fault
MayStop first units front h refusal.TooLarge = IsTooLarge first.shape.page h.name h.spec
MayStop first units front h refusal.NoUnits = units < sum_by cost_left (front ++ h ∷ [])
MayStop first units front h refusal.OtherSpec = HaveOtherSpec front h
MayStop first units front h refusal.Full = LacksRoomFor first front h
MayStop first units front h _ = ⊥

-- a merge of histograms stops at the one of this name
pub record StopsIn (first : SegmentHead) (units : ℕ) (hists : List Histogram) (name : List ℕ) (why : Refusal) : Type 0 where
  pub front : List Histogram
  pub last : Histogram
  pub behind : List Histogram
  pub split : hists ≡ front ++ last ∷ behind
  pub named : last.name ≡ name
  pub cause : MayStop first units front last why

-- A merge of histograms is refused: memory runs out, or it stops at one of them.
abbrev pub IsStopOf : SegmentHead → ℕ → List Histogram → CliFault → Type 0
IsStopOf first units hists (Merge name why) = StopsIn first units hists name.items why
IsStopOf first units hists NoMemory = ⊤
IsStopOf first units hists _ = ⊥

-- a recorder's merge of histograms has stopped at the one of this name: those before it are merged
pub record HasStoppedIn (hists : List Histogram) (name : List ℕ) (why : Refusal) (old new : Actor) : Type 0 where
  pub front : List Histogram
  pub last : Histogram
  pub behind : List Histogram
  pub split : hists ≡ front ++ last ∷ behind
  pub named : last.name ≡ name
  pub until : Actor
  pub merged : IsMerged front old until
  pub items : ℕ
  pub stops : StopsAt last items why until new
  pub other : why ≢ refusal.NoMemory

-- the fault with which it is refused
abbrev pub HasStopped : List Histogram → Actor → Actor → CliFault → Type 0
HasStopped hists old new (Merge name why) = HasStoppedIn hists name.items why old new
HasStopped hists old new NoMemory = ⊤
HasStopped hists old new _ = ⊥

-- the fault of a merge that stopped at a histogram of a name
abbrev pub fault_of_stop : Vec ℕ Global → Refusal → CliFault
fault_of_stop name refusal.NoMemory = NoMemory
fault_of_stop name why = Merge name why

-- a fault of the merge of two images: one of the first; or of the second, if the first has none; or of the merge of both, in a segment of
-- the shape of the first and with all units
abbrev pub IsMergeFault : List ℕ → List ℕ → CliFault → Type 0
IsMergeFault base dead fault =
    IsCausedByImage base fault
    ⊎ ((head : SegmentHead) × (reading : Reading) × AreImageBytes base head reading
    × (IsCausedByImage dead fault
    ⊎ ((dead_head : SegmentHead) × (dead_reading : Reading) × AreImageBytes dead dead_head dead_reading
    × IsStopOf head 4294967295 (reading.hists ++ dead_reading.hists) fault)))

-- A running `hist`.
use Rattle.std.specs.Prelude.{◌≡◌, ◌≢◌, ◌⊎◌, ℕ, ◌+◌, ◌-◌, ◌*◌, ◌<◌, ◌≤◌, ◌==◌, nat_lt, true, false, List, [], ◌∷◌, ◌++◌, length, slice_index, ⊤, Some, None, if◌then◌else◌}
use Rattle.std.specs.List.{All}
use Rattle.bucket_ranges.specs.Ranges.{boundaries_of}
use Rattle.bucket_ranges.specs.Spec.{spec_fault, buckets_of}
use Rattle.bucket_ranges.specs.Reading.{is_name}
use Rattle.bucket_ranges.specs.declared.spec.Spec.{Spec}
use Rattle.segment_image.specs.declared.layout.TheConstants.{BLOCK_HEADER, BLOCK_LEAST, BLOCK_TYPE, HISTOGRAM_NAME, TYPE_HISTOGRAM}
use Rattle.segment_image.specs.Shape.{Dimensions}
use Rattle.alloc_core.specs.Layout.{IsShape}
use Rattle.segment_calls.specs.declared.refusal.Refusal.{Refusal}
use Rattle.segment_calls.specs.declared.refusal.Refusal.TheVariants as why
use Rattle.list_core.specs.Chain.{is_reference}
use Rattle.list_core.specs.Walk.{IsPrefix, stands_behind}
use Rattle.segment_machine.specs.declared.actor.Actor.{Actor}
use Rattle.segment_machine.specs.declared.actor.Known.{Known}
use Rattle.segment_machine.specs.declared.actor.Made.{Made}
use Rattle.segment_machine.specs.declared.actor.Made.TheVariants.{Histogram}
use Rattle.segment_machine.specs.declared.seen.Seen.{Seen}
use Rattle.segment_machine.specs.Actor.{word_seen}
use Rattle.segment_machine.specs.Made.{AreNameWords, IsFirstNamed, SawOtherName, SawOtherSpec}
use Rattle.segment_machine.specs.Note.{MayNote, knows}
use Rattle.segment_calls.specs.Asked.{payload_words, IsAskedFor}
use Rattle.segment_calls.specs.declared.asked.Asked.{Asked}
use Rattle.hist_core.specs.declared.hist.Hist.{Hist}
use Rattle.hist_core.specs.declared.hist.HistStep.{HistStep}
use Rattle.hist_core.specs.declared.hist.HistStep.TheVariants.{More, Done, Refused}
use Rattle.hist_core.specs.StepsBy.{SharedEffect, links, raises, DoesOnly, FrameOfStep, SawEnd, StepsBy, IsFree}
use Rattle.hist_core.specs.declared.hist.HistStage.{HistStage}
use Rattle.hist_core.specs.declared.hist.HistStage.TheVariants.{Walking, Comparing, Making}
use Rattle.hist_core.specs.declared.new_record.NewRecordStep.{NewRecordStep}
use Rattle.hist_core.specs.declared.new_record.NewRecordStep.TheVariants as made
use Rattle.hist_core.specs.NewRecord.{IsNewRecord, Wanted, is_full}
use Rattle.hist_core.specs.NewRecord as new_record

-- ---- what it asks for

-- what it asks for, as the machine knows it, with the record that its walk gave last
abbrev pub asked_of : Hist → Known
asked_of h = record { name = h.asked.name.items; spec = h.asked.spec; reference = h.reference }

-- what its record is to hold
abbrev pub made_of : Hist → Made
made_of h = Histogram h.asked.name.items h.asked.spec

-- the record that it makes if there is none of the name
abbrev pub wanted_of : Hist → Wanted
wanted_of h = record { made = made_of h; room = length h.payload.items; payload = h.payload.items }

-- Its name and its spec are valid, its record and its counts fit in a page, and it has the ranges of its spec and the words of its payload,
-- of which the last is not 0.
pub record IsAsking (shape : Dimensions) (h : Hist) : Type 0 where
  pub shaped : h.shape ≡ shape
  pub name : is_name h.asked.name.items ≡ true
  pub lawful : spec_fault h.asked.spec ≡ None
  pub ranges : h.asked.ranges ≡ boundaries_of h.asked.spec
  pub fits : BLOCK_HEADER + 2 * buckets_of h.asked.spec ≤ shape.page
  pub one_page : BLOCK_HEADER + length h.payload.items ≤ shape.page
  pub last : slice_index h.payload.items (length h.payload.items - 1) ≢ 0
  pub letters : List ℕ
  pub spells : AreNameWords h.asked.name.items letters
  pub count : h.letters ≡ length letters
  pub payload : h.payload.items ≡ payload_words h.asked.name.items h.asked.spec letters

-- ---- what it compares

-- The words of a record that it compares with its own, in this order: the type; then, by their places in the payload, the length of the
-- name, the words of the name, the four numbers of the spec, and the ranges, which follow the name.
abbrev pub compared_place : ℕ → ℕ → ℕ
compared_place letters k =
    if k == 1 then 10
    else (if nat_lt k (letters + 2) then k + 9 else (if nat_lt k (letters + 6) then k - letters - 2 else k + 5))

-- which word of a record is compared as number k, counted from the record's first
abbrev pub compared_index : ℕ → ℕ → ℕ
compared_index letters k = if k == 0 then BLOCK_TYPE else BLOCK_HEADER + compared_place letters k

-- the value of that word in a record of the wanted name and spec
abbrev pub compared_word : Hist → ℕ → ℕ
compared_word h k = if k == 0 then TYPE_HISTOGRAM else slice_index h.payload.items (compared_place h.letters k)

-- the first `k` of them were the same
abbrev pub AreSame : Seen → Hist → ℕ → Type 0
AreSame seen h k = (j : ℕ) → j < k → word_seen seen.words (h.reference + compared_index h.letters j) ≡ Some (compared_word h j)

-- how many words are compared in all
abbrev pub comparisons : Hist → ℕ
comparisons h = length h.payload.items - 5

-- how far a record reaches at least, if the first `k` words are the same: after the type come the fixed words, with the length of the name
-- its words, and with the number of ranges the ranges
pub record Reaches (size : ℕ) (h : Hist) (k : ℕ) : Type 0 where
  pub header : h.reference + BLOCK_LEAST ≤ size
  pub fixed : 0 < k → h.reference + HISTOGRAM_NAME ≤ size
  pub name : 1 < k → h.reference + (HISTOGRAM_NAME + h.letters) ≤ size
  pub ranges : h.letters + 5 < k → h.reference + (BLOCK_HEADER + length h.payload.items) ≤ size

-- one more word was the same: it compares the next, or all were the same
abbrev pub IsMatched : Hist → ℕ → Hist → HistStep → Type 0
IsMatched old k new More = (k + 1 < comparisons old) × (new ≡ record old { stage = Comparing (k + 1) })
IsMatched old k new Done = (comparisons old ≤ k + 1) × (new ≡ old)
IsMatched old k new (Refused why) = ⊥

-- the word differs: in the type or the name, so that the walk continues, or in the spec
abbrev pub IsDifferent : Hist → ℕ → Hist → HistStep → Type 0
IsDifferent old k new More = (k < old.letters + 2) × (new ≡ record old { stage = Walking })
IsDifferent old k new Done = ⊥
IsDifferent old k new (Refused cause) = (old.letters + 2 ≤ k) × (new ≡ old) × (cause ≡ why.OtherSpec)

-- ---- where it is

-- none of these records has its name
abbrev pub HaveOtherNames : Hist → Actor → List ℕ → Type 0
HaveOtherNames h a records = All (SawOtherName a.seen h.asked.name.items) records

-- Where its actor is, whose walk has given these records: none of them has the name; of the last one it is not known while that is
-- compared. While it makes its record, these are all that its actor has visited, up to the end of the list.
abbrev pub StandsAtStage : Dimensions → Hist → Actor → List ℕ → HistStage → Type 0
StandsAtStage shape h a given Walking = IsFree a × HaveOtherNames h a given
StandsAtStage shape h a given (Comparing same) =
    IsFree a × ((front : List ℕ) × (given ≡ front ++ h.reference ∷ []) × HaveOtherNames h a front)
    × Reaches shape.size h same × (same < comparisons h) × AreSame a.seen h same
StandsAtStage shape h a given (Making new_record) = (given ≡ a.seen.chain) × SawEnd a.seen × HaveOtherNames h a given × IsNewRecord shape (wanted_of h) new_record a

-- Its walk has given the front of the chain that its actor has seen.
pub record IsHist (shape : Dimensions) (h : Hist) (a : Actor) : Type 0 where
  pub asking : IsAsking shape h
  pub segment : a.segment.shape ≡ shape
  pub lawful_shape : IsShape shape
  pub given : List ℕ
  pub walk : h.walk ≡ stands_behind given
  pub reach : is_reference shape.size h.walk ≡ true
  pub front : IsPrefix given a.seen.chain
  pub stands : StandsAtStage shape h a given h.stage

-- the first record of a name was seen to have another spec
abbrev pub HasOtherSpec : List ℕ → Spec → Seen → Type 0
HasOtherSpec name spec seen =
    (at : ℕ) × (letters : List ℕ) × IsFirstNamed seen name at × AreNameWords name letters × SawOtherSpec seen spec (length letters) at

-- it has seen the list to its end, and that no record of it has a name
abbrev pub SawNoName : List ℕ → Seen → Type 0
SawNoName name seen = All (SawOtherName seen name) seen.chain × SawEnd seen

-- the actor saw the list to its end, and no record of the name on it; and the block for the record of the name and a spec is refused
abbrev pub LacksRecord : List ℕ → Spec → Refusal → Actor → Actor → Type 0
LacksRecord name spec cause a b =
    SawNoName name b.seen × (letters : List ℕ) × AreNameWords name letters × new_record.IsCause cause (BLOCK_HEADER + length (payload_words name spec letters)) a b

-- why a `hist` of a name and a spec is refused: its actor saw no record of the name and got no block for one, or saw that the first one has
-- another spec
abbrev pub IsHistCause : List ℕ → Spec → Refusal → Actor → Actor → Type 0
IsHistCause name spec cause a b = LacksRecord name spec cause a b ⊎ ((cause ≡ why.OtherSpec) × HasOtherSpec name spec b.seen)

-- what it may do: it links the record of the name and the spec that it asks for; and if its actor has seen that there is none of the name,
-- it raises the free pointer for the block of that record
abbrev pub serves_asked : Hist → Actor → SharedEffect → Type 0
serves_asked h a (links made) = made ≡ made_of h
serves_asked h a (raises words) =
    SawNoName h.asked.name.items a.seen
    × ((letters : List ℕ) × AreNameWords h.asked.name.items letters × (words ≡ BLOCK_HEADER + length (payload_words h.asked.name.items h.asked.spec letters)))

-- What a step says: it continues; the record that was compared last, which lies in the segment, is the one that is asked for; or the call
-- is refused, and its actor may turn to another.
abbrev pub HistGives : Dimensions → Hist → HistStep → Actor → Actor → Type 0
HistGives shape new More a b = FrameOfStep a b × DoesOnly false false (serves_asked new a) a b × IsHist shape new b
HistGives shape new Done a b =
    FrameOfStep a b × DoesOnly false false (serves_asked new a) a b × IsFree b × MayNote b (knows (asked_of new)) × IsAsking shape new × (new.reference + HISTOGRAM_NAME ≤ shape.size)
HistGives shape new (Refused cause) a b =
    FrameOfStep a b × DoesOnly false (is_full cause) (serves_asked new a) a b × IsFree b × IsHistCause new.asked.name.items new.asked.spec cause a b

-- what a step makes of the words, and of any actor that runs the call
abbrev pub HistSteps : Hist → List ℕ → Hist → List ℕ → HistStep → Type 0
HistSteps old words new new_words said = (shape : Dimensions) (version : ℕ) (a : Actor) → length words ≡ shape.size → IsHist shape old a
    → StepsBy shape.size version a words new_words (HistGives shape new said a)

-- a `hist` that some actor runs, in a segment of `n` words
abbrev pub IsSomeHist : ℕ → Hist → Type 0
IsSomeHist n h = (shape : Dimensions) × (a : Actor) × (n ≡ shape.size) × IsHist shape h a

-- it is making its record
abbrev pub IsMakingRecord : HistStage → Type 0
IsMakingRecord (Making new_record) = ⊤
IsMakingRecord _ = ⊥

-- what a step of making its record leads to: it continues, walks on from where it was, or is refused
abbrev pub IsMade : Hist → NewRecordStep → Hist → HistStep → Type 0
IsMade old made.More new result = (new ≡ old) × (result ≡ More)
IsMade old made.Done new result = (new ≡ record old { stage = Walking }) × (result ≡ More)
IsMade old (made.Refused cause) new result = (new ≡ old) × (result ≡ Refused cause)

-- It begins: it walks from the start of the list for a record of what is asked, and any free actor may turn to it.
pub record IsHistBegun (shape : Dimensions) (asked : Asked) (new : Hist) : Type 0 where
  pub named : new.asked.name ≡ asked.name
  pub specified : new.asked.spec ≡ asked.spec
  pub stands : (name : List ℕ) (spec : Spec) (a : Actor) → IsAskedFor shape name spec asked → IsShape shape → a.segment.shape ≡ shape → IsFree a → IsHist shape new a

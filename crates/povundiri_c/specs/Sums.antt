-- Sums that C is given, and their texts.
use Rattle.std.specs.Prelude.{◌≡◌, ◌≢◌, ◌⊎◌, ℕ, List, [], ◌∷◌, ◌++◌, nat_lt, Option, Some, None, Result, Ok, Err, IfErr, IfOk}
use Rattle.std.specs.List.{All}
use Rattle.std.specs.declared.vec.Vec.{Vec}
use Rattle.std.specs.declared.alloc.Global.{Global}
use Rattle.bucket_ranges.specs.Reading.{Reading, IsReading}
use Rattle.segment_image.specs.Head.{header_of}
use Rattle.segment_image.specs.declared.head.SegmentHead.{SegmentHead}
use Rattle.image_reader.specs.Readable.{IsReadable}
use Rattle.reading_sums.specs.declared.sums.Sums.{Sums}
use Rattle.reading_sums.specs.Sums.{IsSumOver}
use Rattle.reading_sums.specs.Views.{parts_of}
use Rattle.reading_sums.specs.Whole.{IsWellFormed, IsWholeReading}
use Rattle.sum_texts.specs.declared.totals.Totals.{Totals}
use Rattle.sum_texts.specs.Endings as endings
use Rattle.sum_texts.specs.Lines.{Whole, totals_text}
use Rattle.sum_texts.specs.Views.{whole_of}
use Rattle.sum_texts.specs.Writable.{IsWritable}
use Rattle.povundiri_c.specs.declared.contents.Contents.{Contents}
use Rattle.povundiri_c.specs.declared.contents.Contents.TheVariants as contents
use Rattle.povundiri_c.specs.declared.status.Refused.{Refused}
use Rattle.povundiri_c.specs.declared.texts.TextAsked.{TextAsked}
use Rattle.povundiri_c.specs.declared.texts.TextAsked.TheVariants.{Report, Export, Show}
use Rattle.povundiri_c.specs.Calls.{ByHandle}
use Rattle.povundiri_c.specs.Recorders.{refused_with}
use Rattle.povundiri_c.specs.Reports.{IsExportAsked, IsShowAsked}
use Rattle.povundiri_c.specs.Status.{status_of_image_fault}

-- ---- a call of a sum

-- If it is no sum, that is returned, and it is unchanged; else the call is of the sum.
abbrev pub BySums : {A : Type 0} → A → (Sums → A → Sums → Type 0) → Contents → A → Contents → Type 0
BySums other Calls (contents.Sums sums) answer new = (after : Sums) × (new ≡ contents.Sums after) × Calls sums answer after
BySums other Calls (contents.Segment owned) answer new = (answer ≡ other) × (new ≡ contents.Segment owned)
BySums other Calls (contents.Recorder joinable) answer new = (answer ≡ other) × (new ≡ contents.Recorder joinable)
BySums other Calls (contents.Follower held) answer new = (answer ≡ other) × (new ≡ contents.Follower held)
BySums other Calls contents.Nothing answer new = (answer ≡ other) × (new ≡ contents.Nothing)

-- one that returns a status
abbrev pub OfSums : (Sums → ℕ → Sums → Type 0) → Option Contents → ℕ → Option Contents → Type 0
OfSums Calls = ByHandle 3 (BySums 5 Calls)

-- a handle is filled with the sum of no images; or memory ran out, and it is unchanged
abbrev pub IsSumMade : ℕ → Option Contents → Option Contents → Type 0
IsSumMade status old new =
    ((status ≡ 0) × (sums : Sums) × (new ≡ Some (contents.Sums sums)) × IsSumOver [] sums × IsWellFormed sums) ⊎ ((status ≡ 13) × (new ≡ old))

-- ---- an image is added

-- what `Sums::add` says of a sum before and after
pub record IsReadingAdded (number : ℕ) (reading : Reading) (old new : Sums) : Type 0 where
  pub sum : (readings : List (ℕ × Reading)) → IsSumOver readings old → IsSumOver (readings ++ (number, reading) ∷ []) new
  pub well_formed : IsWellFormed old → IsWholeReading reading → IsWellFormed new

-- what the words read as is added under a number
pub record IsImageAdded (number : ℕ) (words : List ℕ) (old new : Sums) : Type 0 where
  pub head : SegmentHead
  pub head_is : header_of words ≡ Ok head
  pub reading : Reading
  pub reading_is : IsReading words head reading
  pub adds : IsReadingAdded number reading old new

-- what is returned for words whose header has no fault: they were added, memory ran out for that or for the reading, or a total would not
-- fit
abbrev pub IsSaidOfAdding : ℕ → Type 0
IsSaidOfAdding status = (status ≡ 0) ⊎ (status ≡ 13) ⊎ (status ≡ 19) ⊎ (status ≡ 513)

-- The header's fault is returned, if it has one. Else the image is added, or the status says why not, and the sum is unchanged.
pub record AddsImage (number : ℕ) (words : List ℕ) (old : Sums) (status : ℕ) (new : Sums) : Type 0 where
  pub fault : IfErr (header_of words) (λ fault. status ≡ status_of_image_fault fault)
  pub valid : IfOk (header_of words) (λ _. IsSaidOfAdding status)
  pub added : status ≡ 0 → IsImageAdded number words old new
  pub refused : status ≢ 0 → new ≡ old

-- ---- another sum is added

-- what `Sums::append` says of a sum before and after
pub record Appends (other old new : Sums) : Type 0 where
  pub sum : (readings more : List (ℕ × Reading)) → IsSumOver readings old → IsSumOver more other → IsSumOver (readings ++ more) new
  pub well_formed : IsWellFormed old → IsWellFormed other → IsWellFormed new

-- the sum that contents are, if they are one
abbrev pub sums_in : Contents → Option Sums
sums_in (contents.Sums sums) = Some sums
sums_in (contents.Segment owned) = None
sums_in (contents.Recorder joinable) = None
sums_in (contents.Follower held) = None
sums_in contents.Nothing = None

-- The other sum is added; or memory ran out, or a total would not fit, and the sum is unchanged. If there is no other, that is returned.
abbrev pub AddsOther : Option Sums → Sums → ℕ → Sums → Type 0
AddsOther (Some other) old status new = ((status ≡ 0) × Appends other old new) ⊎ (((status ≡ 13) ⊎ (status ≡ 19)) × (new ≡ old))
AddsOther None old status new = (status ≡ 5) × (new ≡ old)

-- the same, with a length in addition to the status
abbrev pub AppendsOrRefuses : Sums → Sums → Result (Unit {0}) Refused → Sums → Type 0
AppendsOrRefuses other old (Ok _) new = Appends other old new
AppendsOrRefuses other old (Err why) new = ((why ≡ refused_with 13) ⊎ (why ≡ refused_with 19)) × (new ≡ old)

-- the same for two handles, either of which may be empty
abbrev pub AnswersAppend : Option Contents → Option Contents → ℕ → Option Contents → Type 0
AnswersAppend None held status new = (status ≡ 3) × (new ≡ held)
AnswersAppend (Some other) held status new = OfSums (AddsOther (sums_in other)) held status new

-- ---- totals are added

-- a text is that of the totals of a well-formed sum
pub record IsTotalsText (text : List ℕ) (totals : Totals) : Type 0 where
  pub text_is : text ≡ totals_text (whole_of totals)
  pub well_formed : IsWellFormed totals.sums

-- a text is that of no totals which can be written
abbrev pub IsNoTotalsText : List ℕ → Type 0
IsNoTotalsText text = (totals : Totals) → IsWritable totals → text ≡ totals_text (whole_of totals) → ⊥

-- why totals were not added: memory ran out, a total would not fit, or the text is that of no totals, which comes with the number of a line
abbrev pub IsNotAdded : List ℕ → Refused → Type 0
IsNotAdded text why = (why ≡ refused_with 13) ⊎ (why ≡ refused_with 19) ⊎ ((why.status ≡ 20) × IsNoTotalsText text)

-- The sum that a text of totals says is added; or the status says why not, and the sum is unchanged.
abbrev pub AddsTotalsText : List ℕ → Sums → Result (Unit {0}) Refused → Sums → Type 0
AddsTotalsText text old (Ok _) new = (totals : Totals) × IsTotalsText text totals × Appends totals.sums old new
AddsTotalsText text old (Err why) new = IsNotAdded text why × (new ≡ old)

-- it is returned with the number of a line, 0 if the text is a totals
abbrev pub IsSaidWithLine : Result (Unit {0}) Refused → ℕ → ℕ → Type 0
IsSaidWithLine (Ok _) status line = (status ≡ 0) × (line ≡ 0)
IsSaidWithLine (Err why) status line = (status ≡ why.status) × (line ≡ why.length)

-- that of the sum that a handle holds
abbrev pub AnswersTotalsAdded : List ℕ → Option Contents → ℕ → ℕ → Option Contents → Type 0
AnswersTotalsAdded text held status line held' =
    (answer : Result (Unit {0}) Refused) × ByHandle (Err (refused_with 3)) (BySums (Err (refused_with 5)) (AddsTotalsText text)) held answer held'
    × IsSaidWithLine answer status line

-- ---- texts

-- a sum is shown as a reading: what `Sums::reading` says of it
pub record IsShownAs (sums : Sums) (reading : Reading) : Type 0 where
  pub readable : All IsReadable reading.hists
  pub full : reading.full ≡ nat_lt 0 sums.notes.full
  pub corrupt : reading.corrupt ≡ nat_lt 0 sums.notes.corrupt
  pub rest : (reading.id ≡ 0) × (reading.bad ≡ []) × (reading.stopped ≡ None)

-- the report of a sum without inputs that were left out
abbrev pub IsReportAsked : Sums → List ℕ → Type 0
IsReportAsked sums text = endings.IsSumReport sums 0 text

-- the metrics of a sum with this prefix
abbrev pub IsSumExport : List ℕ → Sums → List ℕ → Type 0
IsSumExport prefix sums text = (reading : Reading) × IsShownAs sums reading × IsExportAsked prefix reading text

-- its text for people in this width
abbrev pub IsSumShow : ℕ → Sums → List ℕ → Type 0
IsSumShow width sums text = (reading : Reading) × IsShownAs sums reading × IsShowAsked width reading text

-- the text that is asked for
abbrev pub IsSumText : TextAsked → Sums → List ℕ → Type 0
IsSumText Report = IsReportAsked
IsSumText (Export prefix) = IsSumExport prefix.now
IsSumText (Show width) = IsSumShow width

-- such a text of the sum; or memory ran out, or the sum is not well formed
abbrev pub IsTextOrStatus : (Sums → List ℕ → Type 0) → Sums → Result (Vec ℕ Global) ℕ → Type 0
IsTextOrStatus IsOf sums (Ok text) = IsOf sums text.items
IsTextOrStatus IsOf sums (Err why) = (why ≡ 13) ⊎ ((why ≡ 20) × (IsWellFormed sums → ⊥))

-- the totals of a sum without segments and without a fold
abbrev pub totals_alone : Sums → Whole
totals_alone sums = record { notes = sums.notes; parts = parts_of sums; of = []; fold = None }

-- the text of these totals, or memory ran out
abbrev pub IsTotalsOrStatus : Sums → Result (Vec ℕ Global) ℕ → Type 0
IsTotalsOrStatus sums (Ok text) = text.items ≡ totals_text (totals_alone sums)
IsTotalsOrStatus sums (Err why) = why ≡ 13

-- what is asked of contents; if they are no sum, they are of another kind
abbrev pub AskedOfSums : (Sums → Result (Vec ℕ Global) ℕ → Type 0) → Contents → Result (Vec ℕ Global) ℕ → Type 0
AskedOfSums Asks (contents.Sums sums) answer = Asks sums answer
AskedOfSums Asks (contents.Segment owned) answer = answer ≡ Err 5
AskedOfSums Asks (contents.Recorder joinable) answer = answer ≡ Err 5
AskedOfSums Asks (contents.Follower held) answer = answer ≡ Err 5
AskedOfSums Asks contents.Nothing answer = answer ≡ Err 5

-- and of a handle, which may be empty
abbrev pub AskedByHandle : (Sums → Result (Vec ℕ Global) ℕ → Type 0) → Option Contents → Result (Vec ℕ Global) ℕ → Type 0
AskedByHandle Asks None answer = answer ≡ Err 3
AskedByHandle Asks (Some held) answer = AskedOfSums Asks held answer

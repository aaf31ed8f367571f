-- Sums that C holds.
use Rattle.std.proofs.Common.{◌≡◌, ◌⊎◌, ℕ, List, [], refl, sym, ap, ◌∙◌, subst, inl, inr, Option, Some, None, Result, Ok, Err, MatchResult, IfOk, IfErr, All}
use Rattle.std.proofs.lemmas.Result.{MatchResult-at_ok, MatchResult-at_err}
use Rattle.std.specs.declared.vec.Vec.{Vec}
use Rattle.std.specs.declared.alloc.Global.{Global}
use Rattle.bucket_ranges.specs.Reading as ranges
use Rattle.bucket_ranges.specs.Reading.{IsReading}
use Rattle.segment_image.specs.Head.{header_of}
use Rattle.segment_image.specs.declared.head.SegmentHead.{SegmentHead}
use Rattle.segment_image.specs.declared.fault.ImageFault.{ImageFault}
use Rattle.segment_image.specs.declared.fault.ImageFault.TheVariants.{NoMemory}
use Rattle.image_reader.specs.declared.reading.Reading.{Reading}
use Rattle.image_reader.specs.Views.{reading_view}
use Rattle.image_reader.specs.Readable.{IsReadable}
use Rattle.reading_sums.specs.declared.sums.Sums.{Sums}
use Rattle.reading_sums.specs.Sums.{IsSumOver}
use Rattle.reading_sums.specs.Whole.{IsWellFormed}
use Rattle.sum_texts.specs.declared.totals.Totals.{Totals}
use Rattle.sum_texts.specs.Lines.{totals_text}
use Rattle.sum_texts.specs.Views.{whole_of}
use Rattle.povundiri_c.specs.declared.contents.Contents.{Contents}
use Rattle.povundiri_c.specs.declared.contents.Contents.TheVariants as contents
use Rattle.povundiri_c.specs.declared.status.Refused.{Refused}
use Rattle.text_forms.specs.declared.head.Head.{Head}
use Rattle.text_forms.specs.Subjects.{IsSubjectOfSum}
use Rattle.text_forms.proofs.Reports.{report_of_sum}
use Rattle.povundiri_c.specs.declared.texts.TextAsked.{TextAsked}
use Rattle.povundiri_c.specs.declared.texts.TextAsked.TheVariants.{Report, Export, Show}
use Rattle.povundiri_c.specs.Reports.{IsAskedOf}
use Rattle.povundiri_c.specs.Status.{status_of_image_fault}
use Rattle.povundiri_c.specs.Sums.{IsReadingAdded, AddsTotalsText, AppendsOrRefuses, BySums, IsImageAdded, IsSaidOfAdding, IsShownAs, IsSumMade, IsSumText, IsTextOrStatus, sums_in}

-- the contents are a sum
pub by_sums : {A : Type 0} (other : A) (Calls : Sums → A → Sums → Type 0) (it : Contents) (sums after : Sums) (answer : A)
    → it ≡ contents.Sums sums → Calls sums answer after → BySums other Calls it answer (contents.Sums after)
by_sums other Calls it sums after answer is calls =
    subst (λ (one : Contents). BySums other Calls one answer (contents.Sums after)) (sym is) (after, refl, calls)

-- a handle was filled with the sum of no images, or not
pub sum_made : (sums : Sums) (status : ℕ) (old new : Option Contents) → IsSumOver [] sums → IsWellFormed sums
    → ((status ≡ 0) × (new ≡ Some (contents.Sums sums))) ⊎ ((status ≡ 13) × (new ≡ old)) → IsSumMade status old new
sum_made sums status old new over formed (inl filled) = inl (filled.0, sums, filled.1, over, formed)
sum_made sums status old new over formed (inr same) = inr same

-- what is no sum has none
pub no_sums : (it : Contents) → ((sums : Sums) → it ≡ contents.Sums sums → ⊥) → sums_in it ≡ None
no_sums (contents.Sums sums) other = absurd (other sums refl)
no_sums (contents.Segment owned) other = refl
no_sums (contents.Recorder joinable) other = refl
no_sums (contents.Follower held) other = refl
no_sums contents.Nothing other = refl

-- ---- images

-- words whose header has no fault are not read only when memory runs out
pub said_of_adding : {X : Type 0} (outer : Result SegmentHead ImageFault) (result : Result X ImageFault) (why : ImageFault) (status : ℕ) (P : SegmentHead → X → Type 0)
    → MatchResult outer (λ head. MatchResult result (P head) (λ fault. fault ≡ NoMemory)) (λ fault. result ≡ Err fault) → result ≡ Err why → status ≡ status_of_image_fault why
    → IfOk outer (λ _. IsSaidOfAdding status)
said_of_adding (Ok head) result why status P held is says =
    inr (inr (inr (says ∙ ap status_of_image_fault (MatchResult-at_err (P head) (λ fault. fault ≡ NoMemory) why is held))))
said_of_adding (Err fault) result why status P held is says = tt

-- what the words read as was added
pub image_added : (number : ℕ) (words : List ℕ) (outer : Result SegmentHead ImageFault) (result : Result Reading ImageFault) (reading : Reading) (old new : Sums) (Q : ImageFault → Type 0)
    → header_of words ≡ outer
    → MatchResult outer (λ head. MatchResult result (λ read. IsReading words head (reading_view read)) Q) (λ fault. result ≡ Err fault)
    → result ≡ Ok reading → IsReadingAdded number (reading_view reading) old new → IsImageAdded number words old new
image_added number words (Ok head) result reading old new Q same held is adds = record {
  head = head;
  head_is = same;
  reading = reading_view reading;
  reading_is = MatchResult-at_ok (λ read. IsReading words head (reading_view read)) Q reading is held;
  adds = adds;
}
image_added number words (Err fault) result reading old new Q same held is adds =
    absurd (subst (λ (read : Result Reading ImageFault). MatchResult read (λ _. Unit {0}) (λ _. ⊥)) (sym is ∙ held) tt)

-- ---- totals

-- a totals was read, and its sum was appended, or not
pub totals_added : (text : List ℕ) (totals : Totals) (old : Sums) (answer : Result (Unit {0}) Refused) (new : Sums)
    → text ≡ totals_text (whole_of totals) → IsWellFormed totals.sums → AppendsOrRefuses totals.sums old answer new → AddsTotalsText text old answer new
totals_added text totals old (Ok none) new same formed appends = (totals, record { text_is = same; well_formed = formed }, appends)
totals_added text totals old (Err why) new same formed (inl memory, unchanged) = (inl memory, unchanged)
totals_added text totals old (Err why) new same formed (inr many, unchanged) = (inr (inl many), unchanged)

-- ---- texts

-- a sum is shown as the reading of its subject
shown_as : (sums : Sums) (head : Head) (reading : ranges.Reading) → IsSubjectOfSum sums 0 head reading → All IsReadable reading.hists → IsShownAs sums reading
shown_as sums head reading of readable = record {
  readable = readable;
  full = of.reading_is.full;
  corrupt = of.reading_is.corrupt;
  rest = (of.id, of.reading_is.bad, of.reading_is.stopped);
}

-- the text of the subject of a sum is that of the sum
text_of_sum : (asked : TextAsked) (sums : Sums) (head : Head) (reading : ranges.Reading) (text : List ℕ) → IsSubjectOfSum sums 0 head reading → All IsReadable reading.hists
    → IsAskedOf asked head reading text → IsSumText asked sums text
text_of_sum Report sums head reading text of readable is = report_of_sum sums 0 head reading of text is
text_of_sum (Export prefix) sums head reading text of readable is = (reading, shown_as sums head reading of readable, is)
text_of_sum (Show width) sums head reading text of readable is = (reading, shown_as sums head reading of readable, is)

-- such a text, or the status of memory that ran out
pub said_of_sum : (asked : TextAsked) (sums : Sums) (head : Head) (reading : ranges.Reading) (result : Result (Vec ℕ Global) ℕ) → IsSubjectOfSum sums 0 head reading → All IsReadable reading.hists
    → IfOk result (λ text. IsAskedOf asked head reading text.items) → IfErr result (λ status. status ≡ 13) → IsTextOrStatus (IsSumText asked) sums result
said_of_sum asked sums head reading (Ok text) of readable is status = text_of_sum asked sums head reading text.items of readable is
said_of_sum asked sums head reading (Err why) of readable is status = inl status

-- What was read of words is what their text is of.
use Rattle.std.proofs.Common.{◌≡◌, ◌⊎◌, Bool, ℕ, List, length, drop, ◌++◌, sym, ap, ◌∙◌, subst, Result, Ok, Err, MatchResult, IfOk, IfErr, inr}
use Rattle.std.proofs.lemmas.Result.{MatchResult-at_ok, MatchResult-at_err}
use Rattle.bucket_ranges.specs.Reading as ranges
use Rattle.bucket_ranges.specs.Reading.{IsReading}
use Rattle.segment_image.specs.Head.{header_of}
use Rattle.segment_image.specs.declared.head.SegmentHead.{SegmentHead}
use Rattle.segment_image.specs.declared.fault.ImageFault.{ImageFault}
use Rattle.segment_image.specs.declared.fault.ImageFault.TheVariants.{NoMemory}
use Rattle.image_reader.specs.Keys.{HasMoreKeys}
use Rattle.image_reader.specs.declared.reading.Reading.{Reading}
use Rattle.image_reader.specs.Views.{reading_view}
use Rattle.text_forms.specs.declared.head.Head.{Head}
use Rattle.text_forms.specs.declared.head.Head.TheVariants.{Unknown}
use Rattle.text_forms.specs.declared.subject.Subject.{Subject}
use Rattle.povundiri_c.specs.declared.texts.TextAsked.{TextAsked}
use Rattle.povundiri_c.specs.declared.texts.TextAsked.TheVariants.{Report, Export, Show}
use Rattle.povundiri_c.specs.Reports.{IsAskedOf, IsSaidOfValid, IsTextAsked, IsTextOfWords, SayKeys}
use Rattle.povundiri_c.specs.Status.{status_of_image_fault}

-- the status of words that have no reading is that of their header's fault, if it has one
pub fault_of : {X : Type 0} (outer : Result SegmentHead ImageFault) (result : Result X ImageFault) (why : ImageFault) (status : ℕ) (P : SegmentHead → X → Type 0) (Q : ImageFault → Type 0)
    → MatchResult outer (λ head. MatchResult result (P head) Q) (λ fault. result ≡ Err fault) → result ≡ Err why → status ≡ status_of_image_fault why
    → IfErr outer (λ fault. status ≡ status_of_image_fault fault)
fault_of (Ok head) result why status P Q held is says = tt
fault_of (Err fault) result why status P Q held is says = search (is, held, says)

-- the text of what was read is that of the words
pub text_of_words : (IsOf : ranges.Reading → List ℕ → Type 0) (words : List ℕ) (outer : Result SegmentHead ImageFault) (result : Result Reading ImageFault) (reading : Reading) (text : List ℕ) (Q : ImageFault → Type 0)
    → header_of words ≡ outer
    → MatchResult outer (λ head. MatchResult result (λ read. IsReading words head (reading_view read)) Q) (λ fault. result ≡ Err fault)
    → result ≡ Ok reading → IsOf (reading_view reading) text → IsTextOfWords IsOf words text
text_of_words IsOf words (Ok head) result reading text Q same held is of = record {
  head = head;
  head_is = same;
  reading = reading_view reading;
  reading_is = MatchResult-at_ok (λ read. IsReading words head (reading_view read)) Q reading is held;
  text_is = of;
}
text_of_words IsOf words (Err fault) result reading text Q same held is of = absurd (subst (λ (read : Result Reading ImageFault). MatchResult read (λ _. Unit {0}) (λ _. ⊥)) (sym is ∙ held) tt)

-- the text of a reading alone is the one that is asked for
asked_of_reading : (asked : TextAsked) (reading : ranges.Reading) (text : List ℕ) → IsAskedOf asked Unknown reading text → IsTextAsked asked reading text
asked_of_reading Report reading text is = is
asked_of_reading (Export prefix) reading text is = is
asked_of_reading (Show width) reading text is = is

-- that of the subject which was made of what was read
pub asked_of_subject : (asked : TextAsked) (subject : Subject) (reading : Reading) (text : List ℕ) → subject.reading ≡ reading → subject.head ≡ Unknown
    → IsAskedOf asked subject.head (reading_view subject.reading) text → IsTextAsked asked (reading_view reading) text
asked_of_subject asked subject reading text same alone is =
    asked_of_reading asked (reading_view reading) text (subst (λ (head : Head). IsAskedOf asked head (reading_view reading) text) alone
    (subst (λ (one : Reading). IsAskedOf asked subject.head (reading_view one) text) same is))

-- bytes that were written in front of others
pub in_front : (text bytes old : List ℕ) (count : ℕ) → bytes ≡ text → count ≡ length text → bytes ++ drop count old ≡ text ++ drop (length text) old
in_front text bytes old count same long =
    ap (λ (front : List ℕ). front ++ drop count old) same ∙ ap (λ (n : ℕ). text ++ drop n old) long

-- if it is returned how many keys words have, their header has no fault
pub keys_said : (words : List ℕ) (outer : Result SegmentHead ImageFault) (result : Result Bool ImageFault) (most : ℕ) (more : Bool)
    → header_of words ≡ outer
    → MatchResult outer (λ head. MatchResult result (HasMoreKeys words head most) (λ fault. fault ≡ NoMemory)) (λ fault. result ≡ Err fault)
    → result ≡ Ok more → SayKeys words most more
keys_said words (Ok head) result most more same held is =
    (head, same, MatchResult-at_ok (HasMoreKeys words head most) (λ fault. fault ≡ NoMemory) more is held)
keys_said words (Err fault) result most more same held is =
    absurd (subst (λ (read : Result Bool ImageFault). MatchResult read (λ _. Unit {0}) (λ _. ⊥)) (sym is ∙ held) tt)

-- so there is no fault of it to speak of
pub no_fault_of : (words : List ℕ) (most : ℕ) (more : Bool) (status : ℕ) → SayKeys words most more
    → IfErr (header_of words) (λ fault. status ≡ status_of_image_fault fault)
no_fault_of words most more status (head, valid, said) =
    subst (λ (outer : Result SegmentHead ImageFault). IfErr outer (λ fault. status ≡ status_of_image_fault fault)) (sym valid) tt

-- words whose header has no fault are refused only when memory runs out
pub said_of_valid : {X : Type 0} (outer : Result SegmentHead ImageFault) (result : Result X ImageFault) (why : ImageFault) (status : ℕ) (P : SegmentHead → X → Type 0)
    → MatchResult outer (λ head. MatchResult result (P head) (λ fault. fault ≡ NoMemory)) (λ fault. result ≡ Err fault) → result ≡ Err why → status ≡ status_of_image_fault why
    → IfOk outer (λ _. IsSaidOfValid status)
said_of_valid (Ok head) result why status P held is says =
    inr (inr (inr (says ∙ ap status_of_image_fault (MatchResult-at_err (P head) (λ fault. fault ≡ NoMemory) why is held))))
said_of_valid (Err fault) result why status P held is says = tt

pub or_valid : (outer : Result SegmentHead ImageFault) (status : ℕ) → IfOk outer (λ _. IsSaidOfValid status)
    → IfOk outer (λ _. (status ≡ 17) ⊎ IsSaidOfValid status)
or_valid (Ok head) status said = inr said
or_valid (Err fault) status said = tt

-- What is read of words within a number of keys.
use Rattle.std.proofs.Common.{◌≡◌, ◌⊎◌, true, false, ℕ, List, sym, ap, ◌∙◌, subst, Result, Ok, Err, MatchResult, inr}
use Rattle.std.proofs.lemmas.Result.{MatchResult-at_ok, MatchResult-at_err}
use Rattle.bucket_ranges.specs.Reading.{IsReading}
use Rattle.segment_image.specs.Head.{header_of}
use Rattle.segment_image.specs.declared.head.SegmentHead.{SegmentHead}
use Rattle.segment_image.specs.declared.fault.ImageFault.{ImageFault}
use Rattle.segment_image.specs.declared.fault.ImageFault.TheVariants.{NoMemory}
use Rattle.image_reader.specs.Keys.{HasMoreKeys}
use Rattle.image_reader.specs.declared.reading.Reading.{Reading}
use Rattle.image_reader.specs.Views.{reading_view}
use Rattle.povundiri_c.specs.Merging.{IsReadWithin}
use Rattle.povundiri_c.specs.Reports.{SayKeys}
use Rattle.povundiri_c.specs.Status.{status_of_image_fault}

-- they are not: the header has a fault, or memory ran out
pub not_read : {X : Type 0} (words : List ℕ) (most : ℕ) (outer : Result SegmentHead ImageFault) (result : Result X ImageFault) (why : ImageFault) (status : ℕ) (P : SegmentHead → X → Type 0)
    → MatchResult outer (λ head. MatchResult result (P head) (λ fault. fault ≡ NoMemory)) (λ fault. result ≡ Err fault) → result ≡ Err why → status ≡ status_of_image_fault why
    → MatchResult outer (λ head. ((status ≡ 17) × HasMoreKeys words head most true) ⊎ (status ≡ 513)) (λ fault. status ≡ status_of_image_fault fault)
not_read words most (Ok head) result why status P held is says =
    inr (says ∙ ap status_of_image_fault (MatchResult-at_err (P head) (λ fault. fault ≡ NoMemory) why is held))
not_read words most (Err fault) result why status P held is says = search (is, held, says)

-- they are read
pub is_read : (words : List ℕ) (most : ℕ) (outer : Result SegmentHead ImageFault) (result : Result Reading ImageFault) (reading : Reading) (Q : ImageFault → Type 0)
    → header_of words ≡ outer
    → MatchResult outer (λ head. MatchResult result (λ read. IsReading words head (reading_view read)) Q) (λ fault. result ≡ Err fault)
    → result ≡ Ok reading → SayKeys words most false → IsReadWithin words most reading
is_read words most (Ok head) result reading Q same held is few = record {
  head = head;
  head_is = same;
  reading_is = MatchResult-at_ok (λ read. IsReading words head (reading_view read)) Q reading is held;
  few = few;
}
is_read words most (Err fault) result reading Q same held is few =
    absurd (subst (λ (read : Result Reading ImageFault). MatchResult read (λ _. Unit {0}) (λ _. ⊥)) (sym is ∙ held) tt)

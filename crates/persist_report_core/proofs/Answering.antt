-- Why there is no report, and what the report is if there is one.
use Rattle.std.proofs.Common.{◌≡◌, ◌≢◌, ◌∙◌, ◌⊎◌, inl, inr, ℕ, List, Bool, true, Option, Some, None, Result, Ok, Err, MatchResult, OnOk, ap, refl}
use Rattle.std.specs.Prelude.{◌↔◌, ⊤, IfErr, IsErrOf, is_err}
use Rattle.std.proofs.lemmas.Result.{MatchResult-at_ok, MatchResult-at_err}
use Rattle.std.specs.Io.KnownBytes.{Appends, Keeps}
use Rattle.segment_image.specs.Head.{header_of}
use Rattle.segment_image.specs.declared.head.SegmentHead.{SegmentHead}
use Rattle.segment_image.specs.declared.fault.ImageFault.{ImageFault}
use Rattle.segment_image.specs.declared.fault.ImageFault.TheVariants as image
use Rattle.persist_report_core.specs.declared.fault.CliFault.{CliFault}
use Rattle.persist_report_core.specs.declared.fault.CliFault.TheVariants.{Image, Read, Write}
use Rattle.persist_report_core.specs.Fault.{fault_of_image}
use Rattle.persist_report_core.specs.Report.{AreWordsOf, IsCausedByImage}

-- the fault that is returned is that of the image's header, unless memory ran out
image_cause : (bytes words : List ℕ) (fault : ImageFault) → AreWordsOf bytes words → (fault ≡ image.NoMemory) ⊎ (header_of words ≡ Err fault) → fault ≢ image.NoMemory → IsCausedByImage bytes (Image fault)
image_cause bytes words fault same (inl want) other = absurd (other want)
image_cause bytes words fault same (inr refused) other = (words, same, refused)

-- the cause of a fault of an image
fault_cause : (bytes words : List ℕ) (fault : ImageFault) → AreWordsOf bytes words → (fault ≡ image.NoMemory) ⊎ (header_of words ≡ Err fault) → IsCausedByImage bytes (fault_of_image fault)
fault_cause bytes words image.NoMemory same h = tt
fault_cause bytes words fault same h = image_cause bytes words fault same h (λ e. cc e)

-- what a reading that was refused says of the header
header_refused : {R : Type 0} (P : SegmentHead → R → Type 0) (header : Result SegmentHead ImageFault) (r : Result R ImageFault) (fault : ImageFault) → r ≡ Err fault
    → MatchResult header (λ head. MatchResult r (P head) (λ f. f ≡ image.NoMemory)) (λ other. r ≡ Err other) → (fault ≡ image.NoMemory) ⊎ (header ≡ Err fault)
header_refused P (Ok head) r fault e h = inl (MatchResult-at_err (P head) (λ f. f ≡ image.NoMemory) fault e h)
header_refused P (Err other) r fault e h = let same : other ≡ fault = cc (e, h) in inr (ap (λ f. Err f) same)

-- the cause of a refused reading
pub reading_cause : {R : Type 0} (P : SegmentHead → R → Type 0) (bytes words : List ℕ) (r : Result R ImageFault) (fault : ImageFault) → AreWordsOf bytes words → r ≡ Err fault
    → MatchResult (header_of words) (λ head. MatchResult r (P head) (λ f. f ≡ image.NoMemory)) (λ other. r ≡ Err other) → IsCausedByImage bytes (fault_of_image fault)
reading_cause P bytes words r fault same e h = fault_cause bytes words fault same (header_refused P (header_of words) r fault e h)

-- the header of a reading that was made
pub header_taken : {R : Type 0} (P : SegmentHead → R → Type 0) (header : Result SegmentHead ImageFault) (r : Result R ImageFault) (reading : R) → r ≡ Ok reading
    → MatchResult header (λ head. MatchResult r (P head) (λ f. f ≡ image.NoMemory)) (λ other. r ≡ Err other) → (head : SegmentHead) × (header ≡ Ok head) × P head reading
header_taken P (Ok head) r reading e h = (head, refl, MatchResult-at_ok (P head) (λ f. f ≡ image.NoMemory) reading e h)
header_taken P (Err fault) r reading e h = absurd (cc (e, h))

-- a flush after a write
pub Appends-kept : (text : List ℕ) (old written flushed : Option (List ℕ)) → Appends old written text → Keeps written flushed → Appends old flushed text
Appends-kept text None written flushed p q = tt
Appends-kept text (Some old) None flushed p q = absurd p
Appends-kept text (Some old) (Some written) None p q = absurd q
Appends-kept text (Some old) (Some written) (Some flushed) p q = q ∙ p

-- what holds in any case holds if a result is Ok
pub OnOk-always : {T E : Type 0} (P : Type 0) (r : Result T E) → P → OnOk r P
OnOk-always P (Ok x) p = p
OnOk-always P (Err e) p = tt

-- a call that returned reports no failure
pub not_told : {X : Type 0} (r : Result X CliFault) (x : X) (P : Type 0) → r ≡ Ok x → (IsErrOf r Read ↔ P) → P → ⊥
not_told r x P was told p = cc (was, told.1 p)

-- a call that never says that a read failed does not say it where no reader has
pub never_read : {X : Type 0} (r : Result X CliFault) (P : Type 0) → IfErr r (λ fault. fault ≢ Read) → (P → ⊥) → IsErrOf r Read ↔ P
never_read (Ok x) P other none = (λ is. absurd (cc is), λ p. absurd (none p))
never_read (Err fault) P other none = (λ is. absurd (other (cc is)), λ p. absurd (none p))

-- ---- when only the write may fail

-- the writer has failed if the result says so
pub write_told : (r : Result ⊤ CliFault) (failed : Bool) → failed ≡ is_err r → IfErr r (λ fault. fault ≡ Write) → IsErrOf r Write ↔ (failed ≡ true)
write_told (Ok x) failed is err = (λ other. absurd (cc other), λ e. absurd (cc (is, e)))
write_told (Err fault) failed is err = (λ _. is, λ _. ap (λ (f : CliFault). Err f) err)

-- any other fault leaves the output alone
pub untouched : (r : Result ⊤ CliFault) (P : Type 0) → IfErr r (λ fault. fault ≡ Write) → IfErr r (λ fault. fault ≢ Write → P)
untouched (Ok x) P err = tt
untouched (Err fault) P err = λ other. absurd (other err)

-- Why an input is too long, or is not words, if its first two words were read before the rest.
use Rattle.std.proofs.Common.{◌≡◌, ◌∙◌, ap, sym, subst, refl, Bool, true, false, if◌then◌else◌, ℕ, ◌+◌, ◌*◌, ◌-◌, ◌%◌, ◌<◌, ◌≤◌, List, [], ◌∷◌, ◌++◌, length, Option, None, Some, IfSome, arith}
use Rattle.std.proofs.lemmas.List.{length-append}
use Rattle.std.specs.Io.KnownBytes.{Consumes}
use Rattle.segment_image.specs.Transfer.{IsCausedBy}
use Rattle.segment_image.specs.Words.{words_in}
use Rattle.segment_image.proofs.WordsOfBytes.{length-words_in, words_in-append}
use Rattle.segment_image.specs.declared.fault.ReadFault.{ReadFault}
use Rattle.segment_image.specs.declared.fault.ReadFault.TheVariants as reading
use Rattle.persist_report_core.specs.Fault.{fault_of_read}
use Rattle.persist_report_core.specs.Input.{is_mapped, most_bytes}
use Rattle.persist_report_core.specs.Report.{IsCausedByImage}

-- the first two words say whether a file is mapped
mapped_front : (front rest : List ℕ) → length front ≡ 2 → is_mapped (front ++ rest) ≡ is_mapped front
mapped_front [] rest two = absurd (omega (arith, two))
mapped_front (a ∷ []) rest two = absurd (omega (arith, two))
mapped_front (a ∷ b ∷ []) rest two = refl
mapped_front (a ∷ b ∷ c ∷ more) rest two = absurd (omega (arith, two))

-- the most bytes are those of the most words
most_of : (mapped : Bool) → (if mapped then 8388688 else 8388608) ≡ 8 * (if mapped then 1048586 else 1048576)
most_of true = refl
most_of false = refl

most_after : (front rest words : List ℕ) (most : ℕ) → length front ≡ 16 → words ≡ words_in front → most ≡ (if is_mapped words then 1048586 else 1048576)
    → (most_bytes (front ++ rest) ≡ 8 * most) × (length words ≡ 2)
most_after front rest words most long are is =
    let two : length (words_in front) ≡ 2 = omega (arith, length-words_in front, long) in
    let same : is_mapped (words_in (front ++ rest)) ≡ is_mapped words =
    ap is_mapped (words_in-append front rest (omega (arith, long))) ∙ mapped_front (words_in front) (words_in rest) two ∙ ap is_mapped (sym are) in (
      ap (λ (mapped : Bool). if mapped then 8388688 else 8388608) same ∙ most_of (is_mapped words) ∙ ap (λ (n : ℕ). 8 * n) (sym is),
      ap length are ∙ two,
    )

known_cause : (front rest words : List ℕ) (most : ℕ) (fault : ReadFault) → length front ≡ 16 → words ≡ words_in front → most ≡ (if is_mapped words then 1048586 else 1048576)
    → 2 ≤ most → IsCausedBy (most - length words) rest fault → IsCausedByImage (front ++ rest) (fault_of_read fault)
known_cause front rest words most reading.NoMemory long are is fits cause = tt
known_cause front rest words most reading.Device long are is fits cause = tt
known_cause front rest words most reading.TooLong long are is fits cause =
    let after = most_after front rest words most long are is in
    omega (arith, after.0, after.1, cause, long, length-append front rest, fits)
known_cause front rest words most reading.NotWords long are is fits cause =
    let after = most_after front rest words most long are is in
    (omega (arith, after.0, after.1, cause.0, long, length-append front rest, fits), λ whole. cause.1 (omega (arith, whole, long, length-append front rest)))

-- the first two words were read, and then there was a fault
pub cause_after : (a b : Option (List ℕ)) (front words : List ℕ) (most : ℕ) (fault : ReadFault) → Consumes a b front → length front ≡ 16 → words ≡ words_in front
    → most ≡ (if is_mapped words then 1048586 else 1048576) → 2 ≤ most → IfSome b (λ bytes. IsCausedBy (most - length words) bytes fault)
    → IfSome a (λ bytes. IsCausedByImage bytes (fault_of_read fault))
cause_after None b front words most fault taken long are is fits cause = tt
cause_after (Some x) None front words most fault taken long are is fits cause = absurd taken
cause_after (Some x) (Some y) front words most fault taken long are is fits cause =
    subst (λ (bytes : List ℕ). IsCausedByImage bytes (fault_of_read fault)) (sym taken) (known_cause front y words most fault long are is fits cause)

-- What results from three reads of a file that is in use.
use Rattle.std.proofs.Common.{◌≡◌, ◌⊎◌, inl, inr, ℕ, List, Result, Ok, Err, MatchResult, refl, sym, ap}
use Rattle.std.proofs.Common.{Option, Some, None, subst}
use Rattle.std.specs.Prelude.{IfOk, IfErr, IfSome, IsErrOf, OnOk, ⊤, ◌↔◌}
use Rattle.segment_image.specs.declared.head.SegmentHead.{SegmentHead}
use Rattle.segment_looks.specs.declared.fault.LookFault.{LookFault}
use Rattle.segment_looks.specs.declared.fault.LookFault.TheVariants.{NoMemory}
use Rattle.persist_report_core.specs.declared.fault.CliFault.{CliFault}
use Rattle.persist_report_core.specs.declared.fault.CliFault.TheVariants as cli
use Rattle.persist_report_core.specs.LookFile.{IsFaultOfLook, IsLookOfFiles}

-- copies that give a look have a header
pub look_taken : (IsLookAt : SegmentHead → Type 0) (made : Result SegmentHead LookFault) (image : List ℕ)
    → MatchResult made IsLookAt (λ fault. Ok image ≡ Err fault) → (head : SegmentHead) × (made ≡ Ok head) × IsLookAt head
look_taken IsLookAt (Ok head) image e = (head, refl, e)
look_taken IsLookAt (Err fault) image e = absurd (cc)

-- others have a fault, unless memory ran out
pub look_refused : (made : Result SegmentHead LookFault) (why : LookFault) (Same : LookFault → Type 0)
    → ((fault : LookFault) → Same fault → why ≡ fault) → MatchResult made (λ head. why ≡ NoMemory) Same
    → (why ≡ NoMemory) ⊎ (made ≡ Err why)
look_refused (Ok head) why Same is e = inl e
look_refused (Err fault) why Same is e = inr (ap Err (sym (is fault e)))

-- the look of three reads, as far as their bytes are known
pub look_known : (r : Result (List ℕ) CliFault) (a b c : Option (List ℕ)) (x y z : List ℕ) → IfSome a (λ bytes. x ≡ bytes)
    → IfSome b (λ bytes. y ≡ bytes) → IfSome c (λ bytes. z ≡ bytes) → IfOk r (IsLookOfFiles x y z)
    → IfOk r (λ image. IfSome a (λ one. IfSome b (λ two. IfSome c (λ three. IsLookOfFiles one two three image))))
look_known (Err fault) a b c x y z p q s look = tt
look_known (Ok image) None b c x y z p q s look = tt
look_known (Ok image) (Some one) None c x y z p q s look = tt
look_known (Ok image) (Some one) (Some two) None x y z p q s look = tt
look_known (Ok image) (Some one) (Some two) (Some three) x y z p q s look =
    subst (λ (first : List ℕ). IsLookOfFiles first two three image) p
    (subst (λ (second : List ℕ). IsLookOfFiles x second three image) q (subst (λ (third : List ℕ). IsLookOfFiles x y third image) s look))

-- it is written
pub look_written : (r : Result ⊤ CliFault) (a b c : Option (List ℕ)) (Holds : List ℕ → Type 0) (words : List ℕ)
    → IfSome a (λ one. IfSome b (λ two. IfSome c (λ three. IsLookOfFiles one two three words))) → OnOk r (Holds words)
    → OnOk r (IfSome a (λ one. IfSome b (λ two. IfSome c (λ three. (image : List ℕ) × IsLookOfFiles one two three image × Holds image))))
look_written (Err fault) a b c Holds words look holds = tt
look_written (Ok x) None b c Holds words look holds = tt
look_written (Ok x) (Some one) None c Holds words look holds = tt
look_written (Ok x) (Some one) (Some two) None Holds words look holds = tt
look_written (Ok x) (Some one) (Some two) (Some three) Holds words look holds = (words, look, holds)

-- the write fails
look_write_cause_of : (a b c : Option (List ℕ)) → IfSome a (λ one. IfSome b (λ two. IfSome c (λ three. IsFaultOfLook one two three cli.Write)))
look_write_cause_of None b c = tt
look_write_cause_of (Some one) None c = tt
look_write_cause_of (Some one) (Some two) None = tt
look_write_cause_of (Some one) (Some two) (Some three) = inl tt

pub look_write_cause : (r : Result ⊤ CliFault) (a b c : Option (List ℕ)) → IfErr r (λ fault. fault ≡ cli.Write)
    → IfErr r (λ fault. IfSome a (λ one. IfSome b (λ two. IfSome c (λ three. IsFaultOfLook one two three fault))))
look_write_cause (Ok x) a b c err = tt
look_write_cause (Err fault) a b c err =
    subst (λ (f : CliFault). IfSome a (λ one. IfSome b (λ two. IfSome c (λ three. IsFaultOfLook one two three f)))) (sym err) (look_write_cause_of a b c)

-- only the write may fail: no reader has
pub looks_well : (r : Result ⊤ CliFault) (P : Type 0) → IfErr r (λ fault. fault ≡ cli.Write) → (P → ⊥) → IsErrOf r cli.Read ↔ P
looks_well (Ok x) P err none = (λ is. absurd (cc is), λ p. absurd (none p))
looks_well (Err fault) P err none = (λ is. absurd (cc (is, err)), λ p. absurd (none p))

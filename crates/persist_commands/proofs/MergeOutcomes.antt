-- What a merge of two images results in, by how its parts ended.
use Rattle.std.proofs.Common.{◌≡◌, ℕ, List, ◌++◌, Bool, true, false, Option, Some, None, Result, Ok, Err, inl, inr, ◌⊎◌, refl, sym, subst}
use Rattle.std.specs.Prelude.{MatchOption, ◌↔◌, ⊤, IfErr, IfSome, IsErrOf, OnOk}
use Rattle.segment_image.specs.Checks.{first_fault}
use Rattle.segment_image.specs.declared.head.SegmentHead.{SegmentHead}
use Rattle.bucket_ranges.specs.Reading.{Reading}
use Rattle.segment_machine.specs.declared.actor.Actor.{Actor}
use Rattle.segment_calls.specs.declared.refusal.Refusal.{Refusal}
use Rattle.live_segment.specs.declared.rule.Setting.{Setting}
use Rattle.live_segment.specs.Rule.{first_view}
use Rattle.live_segment.specs.Steps.{recorder_checks}
use Rattle.segment_merge.specs.Image.{IsMergedImage}
use Rattle.persist_report_core.specs.declared.fault.CliFault.{CliFault}
use Rattle.persist_report_core.specs.declared.fault.CliFault.TheVariants as cli
use Rattle.persist_report_core.specs.Report.{IsCausedByImage}
use Rattle.persist_commands.specs.MergeFiles.{AreMerged, IsImage, AreImageBytes, IsMergeFault, IsStopOf}

-- a fault has its cause, as far as the bytes of both are known
abbrev pub HasCauseIn : Option (List ℕ) → Option (List ℕ) → CliFault → Type 0
HasCauseIn a b fault = IfSome a (λ first. IfSome b (λ second. IsMergeFault first second fault))

-- the second image has a fault
pub second_cause : (a b : Option (List ℕ)) (head : SegmentHead) (reading : Reading) (fault : CliFault)
    → IfSome a (λ bytes. AreImageBytes bytes head reading) → IfSome b (λ bytes. IsCausedByImage bytes fault) → HasCauseIn a b fault
second_cause None b head reading fault image cause = tt
second_cause (Some first) None head reading fault image cause = tt
second_cause (Some first) (Some second) head reading fault image cause = inr (head, reading, image, inl cause)

-- the merge is refused
pub merge_cause : (a b : Option (List ℕ)) (head dead_head : SegmentHead) (reading dead_reading : Reading) (fault : CliFault)
    → IfSome a (λ bytes. AreImageBytes bytes head reading) → IfSome b (λ bytes. AreImageBytes bytes dead_head dead_reading)
    → IsStopOf head 4294967295 (reading.hists ++ dead_reading.hists) fault → HasCauseIn a b fault
merge_cause None b head dead_head reading dead_reading fault image dead stop = tt
merge_cause (Some first) None head dead_head reading dead_reading fault image dead stop = tt
merge_cause (Some first) (Some second) head dead_head reading dead_reading fault image dead stop =
    inr (head, reading, image, inr (dead_head, dead_reading, dead, stop))

-- the write fails
write_cause_of : (a b : Option (List ℕ)) → HasCauseIn a b cli.Write
write_cause_of None b = tt
write_cause_of (Some first) None = tt
write_cause_of (Some first) (Some second) = inl tt

pub write_cause : (r : Result ⊤ CliFault) (a b : Option (List ℕ)) → IfErr r (λ fault. fault ≡ cli.Write) → IfErr r (HasCauseIn a b)
write_cause (Ok x) a b err = tt
write_cause (Err fault) a b err = subst (HasCauseIn a b) (sym err) (write_cause_of a b)

-- it is written
pub written : (r : Result ⊤ CliFault) (a b : Option (List ℕ)) (Holds : List ℕ → Type 0) (words : List ℕ) (head dead_head : SegmentHead) (reading dead_reading : Reading)
    → IfSome a (λ bytes. AreImageBytes bytes head reading) → IfSome b (λ bytes. AreImageBytes bytes dead_head dead_reading)
    → IsMergedImage head (reading.hists ++ dead_reading.hists) words → OnOk r (Holds words)
    → OnOk r (IfSome a (λ first. IfSome b (λ second. (words : List ℕ) × AreMerged first second words × Holds words)))
written (Err fault) a b Holds words head dead_head reading dead_reading image dead merged holds = tt
written (Ok x) None b Holds words head dead_head reading dead_reading image dead merged holds = tt
written (Ok x) (Some first) None Holds words head dead_head reading dead_reading image dead merged holds = tt
written (Ok x) (Some first) (Some second) Holds words head dead_head reading dead_reading image dead merged holds = (
  words,
  record { head = head; reading = reading; base_is = image; dead_head = dead_head; dead_reading = dead_reading; dead_is = dead; merged = merged },
  holds,
)

-- ---- when only the write may fail

-- then no reader has failed
pub reads_well : (r : Result ⊤ CliFault) (base dead : Bool) → IfErr r (λ fault. fault ≡ cli.Write) → (base ≡ true → ⊥) → (dead ≡ true → ⊥)
    → IsErrOf r cli.Read ↔ ((base ≡ true) ⊎ (dead ≡ true))
reads_well (Ok x) base dead err first second = (λ is. absurd (cc is), λ either. elim either [ inl is ↦ absurd (first is) | inr is ↦ absurd (second is) ])
reads_well (Err fault) base dead err first second = (λ is. absurd (cc (is, err)), λ either. elim either [ inl is ↦ absurd (first is) | inr is ↦ absurd (second is) ])

-- a reader that returned has not failed
pub not_failed : {T : Type 0} (r : Result T CliFault) (x : T) (failed : Bool) → r ≡ Ok x → (IsErrOf r cli.Read ↔ (failed ≡ true)) → failed ≡ true → ⊥
not_failed r x failed is told e = let other : r ≡ Err cli.Read = told.1 e in cc (is, other)

-- so the second reader is read only if the first has not failed, and its bytes are an image
pub sound : (failed : Bool) → (failed ≡ true → ⊥) → failed ≡ false
sound true other = absurd (other refl)
sound false other = refl

an_image : (a : Option (List ℕ)) (head : SegmentHead) (reading : Reading) → IfSome a (λ bytes. AreImageBytes bytes head reading) → IfSome a IsImage
an_image None head reading image = tt
an_image (Some bytes) head reading image = (head, reading, image)

pub first_sound : {T : Type 0} (r : Result T CliFault) (x : T) (failed : Bool) (a : Option (List ℕ)) (head : SegmentHead) (reading : Reading) → r ≡ Ok x
    → (IsErrOf r cli.Read ↔ (failed ≡ true)) → IfSome a (λ bytes. AreImageBytes bytes head reading) → (failed ≡ false) × IfSome a IsImage
first_sound r x failed a head reading is told image = (sound failed (not_failed r x failed is told), an_image a head reading image)

-- ---- a new segment

-- its opener gives a recorder all its units
pub all_given : (setting : Setting) (opener : Actor) → opener ≡ first_view setting → (P : Type 0) (Q : Refusal → Type 0)
    → MatchOption (first_fault (recorder_checks opener 4294967295)) P Q → P
all_given setting opener is P Q told = subst (λ (a : Actor). MatchOption (first_fault (recorder_checks a 4294967295)) P Q) is told

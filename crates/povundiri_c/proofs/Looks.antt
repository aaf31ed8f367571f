-- What three copies give is what C is given.
use Rattle.std.proofs.Common.{◌≡◌, ◌≤◌, ◌⊎◌, ℕ, List, length, subst, inl, inr, refl, ap, ◌∙◌, Result, Ok, Err, MatchResult, IfOk, IfErr}
use Rattle.std.specs.Arc.{arc_value}
use Rattle.live_segment.specs.Look.{IsLookTaken}
use Rattle.live_segment.specs.declared.segment.Segment.{Segment}
use Rattle.segment_image.specs.declared.head.SegmentHead.{SegmentHead}
use Rattle.segment_looks.specs.Looks.{IsLook, head_of_copies}
use Rattle.segment_looks.specs.declared.fault.LookFault.{LookFault}
use Rattle.segment_looks.specs.declared.fault.LookFault.TheVariants.{NoMemory}
use Rattle.povundiri_c.specs.declared.owned_segment.OwnedSegment.{OwnedSegment}
use Rattle.povundiri_c.specs.declared.status.Refused.{Refused}
use Rattle.povundiri_c.specs.Looks.{IsLookOfOwned, status_of_look_fault}
use Rattle.povundiri_c.specs.Recorders.{refused_with}
use Rattle.povundiri_c.specs.Segments.{size_of}

-- copies that give a look have a header
pub look_taken : (made : Result SegmentHead LookFault) (one two three image : List ℕ)
    → MatchResult made (λ head. IsLook head one two three image) (λ fault. Ok image ≡ Err fault)
    → (head : SegmentHead) × (made ≡ Ok head) × IsLook head one two three image
look_taken (Ok head) one two three image look = (head, refl, look)
look_taken (Err fault) one two three image e = absurd (cc e)

-- it has as many words as the third
pub look_long : (made : Result SegmentHead LookFault) (one two three image : List ℕ)
    → MatchResult made (λ head. IsLook head one two three image) (λ fault. Ok image ≡ Err fault) → length image ≡ length three
look_long made one two three image is = (look_taken made one two three image is).2.long

-- a segment's look has as many words as the segment
pub taken_long : (size : ℕ) (image : List ℕ) → IsLookTaken size (Ok image) → length image ≡ size
taken_long size image (inl (one, two, three, first, second, third, given)) =
    look_long (head_of_copies one two three) one two three image given ∙ third
taken_long size image (inr none) = absurd (cc none)

-- it is a look at a segment that C holds
pub taken_of_owned : (room : ℕ) (owned : OwnedSegment) (segment : Segment) (image : List ℕ) → segment ≡ arc_value owned.segment → size_of owned ≤ room
    → IsLookTaken segment.setting.shape.size (Ok image) → IsLookOfOwned room owned (Ok image)
taken_of_owned room owned segment image same fits look =
    let taken = subst (λ (s : Segment). IsLookTaken s.setting.shape.size (Ok image)) same look in
    inr (fits, (taken_long (size_of owned) image taken, taken))

-- or its fault is refused
pub refused_of_owned : (room : ℕ) (owned : OwnedSegment) (segment : Segment) (fault : LookFault) (why : Refused) → segment ≡ arc_value owned.segment
    → size_of owned ≤ room → IsLookTaken segment.setting.shape.size (Err fault) → why ≡ refused_with (status_of_look_fault fault)
    → IsLookOfOwned room owned (Err why)
refused_of_owned room owned segment fault why same fits look is =
    inr (fits, (fault, subst (λ (s : Segment). IsLookTaken s.setting.shape.size (Err fault)) same look, is))

-- the number is that of the fault that copies have
pub fault_said : (made : Result SegmentHead LookFault) (why : LookFault) (status : ℕ) (Same : LookFault → Type 0)
    → ((fault : LookFault) → Same fault → why ≡ fault) → MatchResult made (λ head. why ≡ NoMemory) Same → status ≡ status_of_look_fault why
    → IfErr made (λ fault. status ≡ status_of_look_fault fault)
fault_said (Ok head) why status Same same is says = tt
fault_said (Err fault) why status Same same is says = says ∙ ap status_of_look_fault (same fault is)

-- if they have none, memory ran out
pub valid_said : (made : Result SegmentHead LookFault) (why : LookFault) (status : ℕ) (Same : LookFault → Type 0)
    → MatchResult made (λ head. why ≡ NoMemory) Same → status ≡ status_of_look_fault why → IfOk made (λ _. (status ≡ 0) ⊎ (status ≡ 13))
valid_said (Ok head) why status Same is says = inr (says ∙ ap status_of_look_fault is)
valid_said (Err fault) why status Same is says = tt

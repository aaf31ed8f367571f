-- A segment that was made is what a handle is filled with.
use Rattle.std.proofs.Common.{◌≡◌, ◌⊎◌, false, ℕ, inl, inr, Option, Some, None, Result, Ok, Err, MatchOption}
use Rattle.std.specs.Arc.{arc_value}
use Rattle.segment_calls.specs.declared.open_fault.OpenFault.{OpenFault}
use Rattle.segment_calls.specs.declared.open_fault.OpenFault.TheVariants.{NoMemory}
use Rattle.live_segment.specs.declared.opener.Opener.{Opener}
use Rattle.live_segment.specs.declared.segment.Segment.{Segment}
use Rattle.povundiri_c.specs.declared.contents.Contents.{Contents}
use Rattle.povundiri_c.specs.declared.contents.Contents.TheVariants as contents
use Rattle.povundiri_c.specs.declared.owned_segment.OwnedSegment.{OwnedSegment}
use Rattle.povundiri_c.specs.OpaqueBoxes.{is_some}
use Rattle.povundiri_c.specs.Segments.{IntoEmpty, IsHandleFilled, IsFilledWith}
use Rattle.povundiri_c.specs.Status.{status_of_open_fault}

-- a handle was filled with a segment, or not
pub filled_with : (segment : Segment) (opener : Opener) (owned : OwnedSegment) (status : ℕ) (old new : Option Contents)
    → (arc_value owned.segment ≡ segment) × (owned.opener ≡ opener)
    → ((status ≡ 0) × (new ≡ Some (contents.Segment owned))) ⊎ ((status ≡ 13) × (new ≡ old)) → IsFilledWith segment opener status old new
filled_with segment opener owned status old new of (inl filled) = inl (filled.0, (owned, filled.1, of.0, of.1))
filled_with segment opener owned status old new of (inr same) = inr same

-- a new segment was made, so its shape has no fault
pub created_with : (Is : Segment → Opener → Type 0) (fault : Option OpenFault) (segment : Segment) (opener : Opener) (status : ℕ) (old new : Option Contents)
    → MatchOption fault (Is segment opener) (λ why. let made : Result (Segment × Opener) OpenFault = Ok (segment, opener) in made ≡ Err why)
    → IsFilledWith segment opener status old new
    → MatchOption fault (IsHandleFilled Is status old new ⊎ ((status ≡ status_of_open_fault NoMemory) × (new ≡ old)))
    (λ why. (status ≡ status_of_open_fault why) × (new ≡ old))
created_with Is None segment opener status old new made filled = inl (segment, opener, made, filled)
created_with Is (Some why) segment opener status old new made filled = absurd (cc made)

-- a handle that is empty is filled
pub into_empty : (Fills : ℕ → Option Contents → Option Contents → Type 0) (old new : Option Contents) (status : ℕ) → is_some old ≡ false → Fills status old new
    → IntoEmpty Fills old status new
into_empty Fills None new status empty filled = filled
into_empty Fills (Some it) new status empty filled = absurd (cc empty)

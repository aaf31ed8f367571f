-- Looks at a running segment that C is given.
use Rattle.std.specs.Prelude.{◌≡◌, ◌⊎◌, ◌<◌, ◌≤◌, ◌++◌, ℕ, List, drop, length, Option, Some, None, Result, Ok, Err}
use Rattle.segment_image.specs.declared.head.SegmentHead.{SegmentHead}
use Rattle.segment_looks.specs.Looks.{IsLook, head_of_copies}
use Rattle.segment_looks.specs.declared.fault.LookFault.{LookFault}
use Rattle.segment_looks.specs.declared.fault.LookFault.TheVariants.{Image, OldVersion, NoMemory}
use Rattle.live_segment.specs.Look.{IsLookTaken}
use Rattle.povundiri_c.specs.declared.contents.Contents.{Contents}
use Rattle.povundiri_c.specs.declared.contents.Contents.TheVariants as contents
use Rattle.povundiri_c.specs.declared.owned_segment.OwnedSegment.{OwnedSegment}
use Rattle.povundiri_c.specs.declared.status.Refused.{Refused}
use Rattle.povundiri_c.specs.Recorders.{refused_with}
use Rattle.povundiri_c.specs.Segments.{size_of}
use Rattle.povundiri_c.specs.Status.{status_of_image_fault}

-- the number of a fault of copies: that of a header's fault, that of adopting if the version is 1, or that of memory
abbrev pub status_of_look_fault : LookFault → ℕ
status_of_look_fault (Image fault) = status_of_image_fault fault
status_of_look_fault OldVersion = 302
status_of_look_fault NoMemory = 13

-- the look that three copies give is at the front of the array; the words after it are unchanged
abbrev pub IsLookWritten : List ℕ → List ℕ → List ℕ → List ℕ → List ℕ → Type 0
IsLookWritten one two three old new =
    (head : SegmentHead) × (image : List ℕ) × (head_of_copies one two three ≡ Ok head) × IsLook head one two three image
    × (new ≡ image ++ drop (length image) old)

-- ---- of a handle's segment

-- a segment was looked at, or it is refused with the status of the fault
abbrev pub IsLookOrStatus : ℕ → Result (List ℕ) Refused → Type 0
IsLookOrStatus size (Ok image) = (length image ≡ size) × IsLookTaken size (Ok image)
IsLookOrStatus size (Err why) = (fault : LookFault) × IsLookTaken size (Err fault) × (why ≡ refused_with (status_of_look_fault fault))

-- if there is no room for the words of a segment, it is refused, with their number; else it was looked at
abbrev pub IsLookOfOwned : ℕ → OwnedSegment → Result (List ℕ) Refused → Type 0
IsLookOfOwned room owned result =
    ((room < size_of owned) × (result ≡ Err (record { status = 7; length = size_of owned })))
    ⊎ ((size_of owned ≤ room) × IsLookOrStatus (size_of owned) result)

-- contents that are no segment are of another kind
abbrev pub IsLookIn : ℕ → Contents → Result (List ℕ) Refused → Type 0
IsLookIn room (contents.Segment owned) result = IsLookOfOwned room owned result
IsLookIn room (contents.Recorder joinable) result = result ≡ Err (refused_with 5)
IsLookIn room (contents.Sums sums) result = result ≡ Err (refused_with 5)
IsLookIn room (contents.Follower held) result = result ≡ Err (refused_with 5)
IsLookIn room contents.Nothing result = result ≡ Err (refused_with 5)

-- an empty handle says so
abbrev pub IsLookBy : ℕ → Option Contents → Result (List ℕ) Refused → Type 0
IsLookBy room None result = result ≡ Err (refused_with 3)
IsLookBy room (Some held) result = IsLookIn room held result

-- The image is at the front of the array, and its number of words is returned. Or the array is unchanged: if the segment has no room there,
-- its number of words is returned, else 0.
abbrev pub IsLookCopied : Result (List ℕ) Refused → ℕ → ℕ → List ℕ → List ℕ → Type 0
IsLookCopied (Ok image) status needed old new = (status ≡ 0) × (needed ≡ length image) × (new ≡ image ++ drop (length image) old)
IsLookCopied (Err why) status needed old new = (status ≡ why.status) × (needed ≡ why.length) × (new ≡ old)

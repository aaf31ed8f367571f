-- What one record of a histogram gives.
use Rattle.std.specs.Prelude.{◌≡◌, ℕ, List, Some, None, Result, Ok, Err, ⊤}
use Rattle.std.specs.declared.vec.Vec.{Vec}
use Rattle.std.specs.declared.alloc.Global.{Global}
use Rattle.segment_image.specs.declared.head.SegmentHead.{SegmentHead}
use Rattle.bucket_ranges.specs.declared.reading.RecordFault.{RecordFault}
use Rattle.bucket_ranges.specs.Reading.{record_fault, name_of}
use Rattle.image_reader.specs.declared.record.Refusal.{Refusal}
use Rattle.image_reader.specs.declared.record.Refusal.TheVariants.{Memory, Fault}

-- the record has no fault, and this is its name
pub record IsNamedAt (words : List ℕ) (head : SegmentHead) (at : ℕ) (name : Vec ℕ Global) : Type 0 where
  pub lawful : record_fault words head at ≡ None
  pub name_is : name.items ≡ name_of words at

-- memory ran out, or this is the record's first fault
abbrev pub IsRecordRefusal : List ℕ → SegmentHead → ℕ → Refusal → Type 0
IsRecordRefusal words head at Memory = ⊤
IsRecordRefusal words head at (Fault fault) = record_fault words head at ≡ Some fault

-- if a call is refused, either memory ran out, or the fault is this one and it has this cause
abbrev pub RefusedOnly : {X : Type 0} → RecordFault → Type 0 → Result X Refusal → Type 0
RefusedOnly fault cause (Ok x) = ⊤
RefusedOnly fault cause (Err Memory) = ⊤
RefusedOnly fault cause (Err (Fault other)) = (other ≡ fault) × cause

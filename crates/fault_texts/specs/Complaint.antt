-- What is wrong with a record of a script.
use Rattle.std.specs.Prelude.{◌≡◌, Bool, false, ◌==◌, nat_le, ℕ, List, length, Some, option_map, ⊤}
use Rattle.csv.specs.Records.{field_at}
use Rattle.fault_texts.specs.Field.{may_stand}
use Rattle.fault_texts.specs.declared.complaint.Complaint.{Complaint}
use Rattle.fault_texts.specs.declared.complaint.Complaint.TheVariants as complaint
use Rattle.fault_texts.specs.declared.complaint.RecordForm.{RecordForm}
use Rattle.fault_texts.specs.declared.complaint.RecordForm.TheVariants.{Segment, Add, Delta, Hist, Alone, Linear, Custom}

-- whether a record of this form may have this many fields; for a histogram by itself, this only says that it has a kind
abbrev pub may_have : RecordForm → ℕ → Bool
may_have Segment count = count == 4
may_have Add count = count == 4
may_have Delta count = count == 2
may_have Hist count = nat_le 3 count
may_have Alone count = count == 3
may_have Linear count = count == 6
may_have Custom count = nat_le 4 count

-- what a complaint says of the fields is true: the field with this index is not allowed there; or their number is not right for the form.
-- What it says of the records before is not covered here.
abbrev pub IsRightComplaint : List (List ℕ) → Complaint → Type 0
IsRightComplaint fields (complaint.Field index wanted) = option_map (may_stand wanted) (field_at fields index) ≡ Some false
IsRightComplaint fields (complaint.Count form) = may_have form (length fields) ≡ false
IsRightComplaint fields _ = ⊤

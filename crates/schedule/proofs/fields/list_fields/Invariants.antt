use Rattle.std.proofs.Common.{◌≡◌, ◌++◌, drop}
use Rattle.csv.specs.Records.{fields_of}
use Rattle.schedule.specs.Fields.{texts}
use Rattle.schedule.proofs.fields.list_fields.Given as goal

-- the fields so far, and those that are left
abbrev pub invariant-loop-i : goal.invariant-loop-i
invariant-loop-i l = texts l.fields.items ++ drop l.i (fields_of l.csv_record) ≡ fields_of l.csv_record

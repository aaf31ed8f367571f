use Rattle.std.proofs.Common.{◌≡◌, ◌++◌, drop, option_map}
use Rattle.csv.specs.Records.{fields_of}
use Rattle.persist_report_core.specs.Request.{numbers_in}
use Rattle.persist_report_core.proofs.fields.read_numbers.Given as goal

-- the numbers so far, and those of the fields that are left
abbrev pub invariant-loop-i : goal.invariant-loop-i
invariant-loop-i l =
    numbers_in (drop l.start (fields_of l.fields)) ≡ option_map (λ more. l.values.items ++ more) (numbers_in (drop l.i (fields_of l.fields)))

use Rattle.std.proofs.Common.{◌≡◌, [], true, length, map, unwrap_or}
use Rattle.csv.specs.Reading.{Ready, is_flexible, strip_bom}
use Rattle.csv.specs.Records.{fields_of}
use Rattle.persist_report_core.specs.Rows.{IsBehind, left_of}
use Rattle.persist_report_core.proofs.rows.read_rows.Given as goal

-- the records so far were read
abbrev pub invariant-records : goal.invariant-records
invariant-records l = record {
  flexible : is_flexible l.reader ≡ true;
  ready : Ready l.reader;
  behind : IsBehind (strip_bom l.text) (map fields_of l.rows.items) l.reader;
}

abbrev pub decreases-records : goal.decreases-records
decreases-records l = length (unwrap_or (left_of l.reader) [])

use Rattle.std.proofs.Common.{◌≡◌, ℕ, List, [], true, length, unwrap_or}
use Rattle.csv.specs.Reading.{Ready, is_flexible, strip_bom}
use Rattle.persist_report_core.specs.Rows.{IsBehind, left_of}
use Rattle.persist_report_core.proofs.ReadScripts.{IsRead}
use Rattle.persist_report_core.proofs.script.reading.script_in.Given as goal

-- some records were read, and the draft has them
abbrev pub invariant-records : goal.invariant-records
invariant-records l = record {
  flexible : is_flexible l.reader ≡ true;
  ready : Ready l.reader;
  read : (rows : List (List (List ℕ))) × IsBehind (strip_bom l.fn.bytes) rows l.reader × IsRead l.pool rows l.draft l.number;
}

abbrev pub decreases-records : goal.decreases-records
decreases-records l = length (unwrap_or (left_of l.reader) [])

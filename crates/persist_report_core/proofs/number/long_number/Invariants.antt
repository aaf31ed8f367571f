use Rattle.std.proofs.Common.{◌≡◌, ◌≤◌, true, take}
use Rattle.std.specs.Char.{is_ascii_digit}
use Rattle.std.specs.List.{list_all}
use Rattle.std.specs.Str.Parse.{digits_value}
use Rattle.persist_report_core.proofs.number.long_number.Given as goal

-- digits so far, and the number that they write, which fits 64 bits
abbrev pub invariant-loop-digit : goal.invariant-loop-digit
invariant-loop-digit l = record {
  decimal : list_all is_ascii_digit (take l.digit-index l.digits) ≡ true;
  value : l.value ≡ digits_value 10 (take l.digit-index l.digits);
  fits : l.value ≤ 18446744073709551615;
}

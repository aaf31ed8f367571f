use Rattle.std.proofs.Common.{◌≡◌, ◌≤◌, ◌*◌, ◌^◌, None, take}
use Rattle.std.specs.List.{find, range_with_len}
use Rattle.reading_shows.specs.Shares.{has_three}
use Rattle.reading_shows.proofs.shares.scale.Given as goal

abbrev pub invariant-loop-digits : goal.invariant-loop-digits
invariant-loop-digits l = record {
  power : l.power ≡ 10 ^ l.digits;
  scaled : l.scaled ≡ l.size * 10 ^ l.digits;
  below : l.power ≤ l.scaled;
  fewer : find (has_three l.size l.units) (take l.digits (range_with_len 0 23)) ≡ None;
}

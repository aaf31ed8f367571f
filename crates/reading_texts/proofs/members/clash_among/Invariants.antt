use Rattle.std.proofs.Common.{◌≡◌, length, map}
use Rattle.reading_texts.specs.Members.{member_view}
use Rattle.reading_texts.specs.Families.{clash_among}
use Rattle.reading_texts.proofs.members.clash_among.Given as goal

abbrev pub invariant-loop-rest : goal.invariant-loop-rest
invariant-loop-rest l =
    clash_among (member_view l.one) (map member_view l.more) ≡ clash_among (member_view l.one) (map member_view l.rest)

abbrev pub decreases-loop-rest : goal.decreases-loop-rest
decreases-loop-rest l = length l.rest

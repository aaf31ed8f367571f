use Rattle.std.proofs.Common.{◌≡◌, length, map}
use Rattle.reading_texts.specs.Members.{member_view}
use Rattle.reading_texts.specs.Families.{first_clash}
use Rattle.reading_texts.proofs.members.first_clash.Given as goal

abbrev pub invariant-loop-rest : goal.invariant-loop-rest
invariant-loop-rest l = first_clash (map member_view l.members) ≡ first_clash (map member_view l.rest)

abbrev pub decreases-loop-rest : goal.decreases-loop-rest
decreases-loop-rest l = length l.rest

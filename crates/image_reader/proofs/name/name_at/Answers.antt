use Rattle.std.proofs.Common.{refl, arith, inl, inr}
use Rattle.image_reader.proofs.NameLengths.{has_name-length}
use Rattle.image_reader.proofs.name.name_at.Goals as goal
use Rattle.image_reader.proofs.name.name_at.Goals.{then-len-eq0-via-then-len-eq0, then-len-eq0-via-else-len-eq0+then-len-gt-MAX_NAME}

-- a length that no name has
pub returns-then-len-eq0-clause-fault : goal.returns-then-len-eq0-clause-fault
returns-then-len-eq0-clause-fault c = (
  refl,
  has_name-length c.args.words.now c.args.at c.requires.within (elim c.then-len-eq0.branch [
    | then-len-eq0-via-then-len-eq0 w ↦ inl (omega arith)
    | then-len-eq0-via-else-len-eq0+then-len-gt-MAX_NAME w ↦ inr (omega arith)
  ]),
)

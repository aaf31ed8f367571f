use Rattle.std.proofs.Common.{All, take}
use Rattle.image_adoption.specs.Records.{NamesBlock}
use Rattle.image_adoption.proofs.blocks.name_blocks.Given as goal

-- those so far do
abbrev pub invariant-loop-reference : goal.invariant-loop-reference
invariant-loop-reference l = All (NamesBlock l.words l.head) (take l.reference-index l.references)

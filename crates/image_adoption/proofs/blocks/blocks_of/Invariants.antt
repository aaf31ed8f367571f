use Rattle.std.proofs.Common.{◌≡◌, true, ◌++◌, take, flat_map, All}
use Rattle.segment_image.specs.Blocks.{is_block}
use Rattle.image_rules.specs.Adoption.{named_counts}
use Rattle.image_adoption.proofs.blocks.blocks_of.Given as goal

-- After the records come the counts that the records so far name.
abbrev pub invariant-loop-reference : goal.invariant-loop-reference
invariant-loop-reference l = record {
  blocks : l.blocks.items ≡ l.references ++ flat_map (named_counts l.words) (take l.reference-index l.references);
  lawful : All (λ at. is_block l.words l.head at ≡ true) l.blocks.items;
}

use Rattle.std.proofs.Common.{ap, ◌∙◌}
use Rattle.std.specs.Prelude.{is_ok}
use Rattle.image_adoption.proofs.NamedBlocks.{is_ok-block}
use Rattle.image_adoption.proofs.blocks.is_at_block.Goals as goal

pub returns : goal.returns
returns c = c.is_ok.ensures.value ∙ (ap is_ok c.block.ensures ∙ is_ok-block c.args.words.now c.args.head.now c.args.reference)

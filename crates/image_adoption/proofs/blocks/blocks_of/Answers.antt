-- One more record.
use Rattle.std.proofs.Common.{◌≡◌, true, ℕ, List, ◌++◌, All, sym, ap, subst, ◌∙◌}
use Rattle.std.proofs.lemmas.List.Elements.{All-push}
use Rattle.segment_image.specs.Blocks.{is_block}
use Rattle.image_adoption.proofs.NamedBlocks.{more_blocks}
use Rattle.image_adoption.proofs.blocks.blocks_of.Goals as goal

pub named_counts-requires-clause-names : goal.named_counts-requires-clause-names
named_counts-requires-clause-names c = c.requires.named c.loop-reference.reference-index 0 c.loop-reference-test.true

pub loop-reference-preserved : goal.loop-reference-preserved
loop-reference-preserved c =
    let blocks = c.loop-reference.blocks.items in
    record {
      blocks = more_blocks c.args.words.now c.args.references.now blocks c.push.new.self.items c.loop-reference.reference-index c.loop-reference-test.true
          c.loop-reference.invariant.blocks (c.in_ok-push.ensures.items ∙ ap (λ (named : List ℕ). blocks ++ named) c.in-Some.ensures.named);
      lawful = subst (All (λ at. is_block c.args.words.now c.args.head.now at ≡ true)) (sym c.in_ok-push.ensures.items)
          (All-push (λ at. is_block c.args.words.now c.args.head.now at ≡ true) blocks c.in-Some.counts c.loop-reference.invariant.lawful c.in-Some.ensures.lawful);
    }

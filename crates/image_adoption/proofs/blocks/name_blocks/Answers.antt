-- Each record names a block or none, or not all do.
use Rattle.std.proofs.Common.{All, arith, refl, sym, subst, ◌∙◌, true≢false}
use Rattle.std.proofs.lemmas.List.{take_all}
use Rattle.std.proofs.lemmas.List.Elements.{All-more}
use Rattle.image_adoption.specs.Records.{NamesBlock}
use Rattle.image_adoption.proofs.blocks.name_blocks.Goals as goal

pub names_block-requires-clause-block : goal.names_block-requires-clause-block
names_block-requires-clause-block c = c.requires.lawful c.loop-reference.reference-index 0 c.loop-reference-test.true

pub returns-then-not-names_block : goal.returns-then-not-names_block
returns-then-not-names_block c = (
  λ found. absurd (true≢false (sym found)),
  λ all. absurd (true≢false (sym (c.names_block.ensures.1 (all c.loop-reference.reference-index 0 c.loop-reference-test.true)) ∙ c.if-not-names_block.true)),
)

pub loop-reference-preserved : goal.loop-reference-preserved
loop-reference-preserved c =
    All-more (NamesBlock c.args.words.now c.args.head.now) c.args.references.now c.loop-reference.reference-index 0 c.loop-reference-test.true
    c.loop-reference.invariant (c.names_block.ensures.0 c.if-not-names_block.false)

pub returns : goal.returns
returns c = (
  λ found. subst (All (NamesBlock c.args.words.now c.args.head.now)) (take_all c.loop-reference.reference-index c.args.references.now (omega arith))
      c.loop-reference.invariant,
  λ all. refl,
)

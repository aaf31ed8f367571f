-- Each block's words were free before, or the block overlaps one before it.
use Rattle.std.proofs.Common.{◌≡◌, false, ◌||◌, ℕ, ◌≤◌, get_or, take, arith, refl, sym, ap, subst, ◌∙◌, true≢false}
use Rattle.std.proofs.lemmas.Bool.Decides.{when_true}
use Rattle.std.proofs.lemmas.List.{take_all, take_more}
use Rattle.std.proofs.lemmas.List.Folds.{list_any_more}
use Rattle.segment_image.specs.Blocks.{field_at}
use Rattle.list_lemmas.proofs.Elements.{none_at}
use Rattle.image_reader.proofs.Headers.{block_in_words}
use Rattle.image_adoption.specs.Conditions.{AreApart}
use Rattle.image_adoption.specs.Runs.{is_in}
use Rattle.image_adoption.proofs.NamedBlocks.{blocks_long}
use Rattle.image_adoption.proofs.Runs.{apart_clear, apart_push}
use Rattle.image_adoption.proofs.blocks.take_all.Goals as goal

pub loop-block-init : goal.loop-block-init
loop-block-init c = record {
  long = c.requires.long;
  marks = c.requires.free;
  apart = λ i j a b before here there. absurd (none_at i a here);
}

pub offset_bounds-words-at : goal.offset_bounds-words-at
offset_bounds-words-at c =
    let lies = block_in_words c.args.words.now c.args.head.now (get_or c.args.blocks.now c.loop-block.block-index 0) c.requires.header
    (c.requires.lawful c.loop-block.block-index 0 c.loop-block-test.true) in
    omega arith

pub bounds-words-at : goal.bounds-words-at
bounds-words-at c =
    let lies = block_in_words c.args.words.now c.args.head.now (get_or c.args.blocks.now c.loop-block.block-index 0) c.requires.header
    (c.requires.lawful c.loop-block.block-index 0 c.loop-block-test.true) in
    omega arith

pub take-requires : goal.take-requires
take-requires c =
    let lies = block_in_words c.args.words.now c.args.head.now (get_or c.args.blocks.now c.loop-block.block-index 0) c.requires.header
    (c.requires.lawful c.loop-block.block-index 0 c.loop-block-test.true) in
    omega (arith, lies, c.loop-block.invariant.long)

pub returns-then-not-take : goal.returns-then-not-take
returns-then-not-take c = (
  λ found. absurd (true≢false (sym found)),
  λ apart. absurd (true≢false (sym (c.take.ensures.free.1 (λ word inside. c.loop-block.invariant.marks word
      ∙ apart_clear c.args.words.now c.args.blocks.now c.loop-block.block-index c.loop-block-test.true apart word inside)) ∙ c.if-not-take.true)),
)

pub loop-block-preserved : goal.loop-block-preserved
loop-block-preserved c =
    let words = c.args.words.now in
    let blocks = c.args.blocks.now in
    let i = c.loop-block.block-index in
    let at : ℕ = get_or blocks i 0 in
    let below = c.loop-block-test.true in
    let lies = block_in_words words c.args.head.now at c.requires.header (c.requires.lawful i 0 below) in
    let long : 1 ≤ field_at words at 0 = omega (arith, lies) in
    let taken : (w : ℕ) → get_or c.take.new.taken w false ≡ (get_or c.loop-block.taken w false || is_in at (field_at words at 0) w) =
    when_true _ _ c.if-not-take.false c.take.ensures.taken in
    record {
      long = c.take.auto.taken ∙ c.loop-block.invariant.long;
      marks = λ w.
          taken w
          ∙ (ap (λ b. b || is_in at (field_at words at 0) w) (c.loop-block.invariant.marks w)
          ∙ sym (list_any_more (λ at. is_in at (field_at words at 0) w) blocks i 0 below));
      apart = subst (AreApart words) (sym (take_more blocks i 0 below))
          (apart_push words (take i blocks) at (blocks_long words c.args.head.now blocks i c.requires.header c.requires.lawful) long c.loop-block.invariant.apart
          (λ w inside. sym (c.loop-block.invariant.marks w) ∙ c.take.ensures.free.0 c.if-not-take.false w inside));
    }

pub returns : goal.returns
returns c = (λ found. subst (AreApart c.args.words.now) (take_all c.loop-block.block-index c.args.blocks.now (omega arith)) c.loop-block.invariant.apart, λ apart. refl)

-- Each record names a block or none, and the blocks say the rest.
use Rattle.std.proofs.Common.{◌≡◌, ℕ, List, All, true, sym, subst, ◌∙◌, true≢false}
use Rattle.std.specs.Prelude.{Decides}
use Rattle.std.proofs.lemmas.Bool.Decides.{Decides-like}
use Rattle.std.proofs.lemmas.Result.{IfOk-weaker}
use Rattle.segment_image.specs.Blocks.{is_block}
use Rattle.image_adoption.specs.Conditions.{AreApart}
use Rattle.image_adoption.specs.Records.{HasApartBlocks}
use Rattle.image_adoption.proofs.blocks.has_apart_blocks.Goals as goal

pub returns-then-not-name_blocks : goal.returns-then-not-name_blocks
returns-then-not-name_blocks c = (
  λ found. absurd (true≢false (sym found)),
  λ (whole : HasApartBlocks c.args.words.now c.args.head.now c.args.references.now).
      absurd (true≢false (sym (c.name_blocks.ensures.1 whole.named) ∙ c.if-not-name_blocks.true)),
)

pub are_apart-requires-clause-lawful : goal.are_apart-requires-clause-lawful
are_apart-requires-clause-lawful c =
    subst (All (λ at. is_block c.args.words.now c.args.head.now at ≡ true)) (sym c.deref.ensures.value) c.in_ok-blocks.ensures.lawful

pub returns : goal.returns
returns c =
    let words = c.args.words.now in
    let references : List ℕ = c.args.references.now in
    let same = c.deref.ensures.value ∙ c.in_ok-blocks.ensures.blocks in
    IfOk-weaker c.are_apart.result (λ apart. Decides apart (AreApart words c.deref.result.now))
    (λ apart. Decides apart (HasApartBlocks words c.args.head.now references))
    (λ apart (test : Decides apart (AreApart words c.deref.result.now)).
    Decides-like apart
    (λ free. record { named = c.name_blocks.ensures.0 c.if-not-name_blocks.false; apart = subst (AreApart words) same free })
    (λ (whole : HasApartBlocks words c.args.head.now references). subst (AreApart words) (sym same) whole.apart) test) c.are_apart.ensures

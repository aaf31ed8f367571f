-- The blocks are apart, and the rest is looked at.
use Rattle.std.proofs.Common.{◌≡◌, ℕ, List, All, true, sym, subst, ◌∙◌}
use Rattle.std.proofs.lemmas.Bool.Decides.{not_from_Decides}
use Rattle.segment_image.specs.Blocks.{is_block}
use Rattle.image_rules.specs.Adoption.{blocks_of}
use Rattle.image_adoption.specs.Conditions.{AreApart}
use Rattle.image_adoption.specs.Records.{HasApartBlocks}
use Rattle.image_adoption.proofs.NamedBlocks.{apart_of, blocks_listed}
use Rattle.image_adoption.proofs.damage.undamaged.Goals as goal

pub has_apart_blocks-requires-clause-lawful : goal.has_apart_blocks-requires-clause-lawful
has_apart_blocks-requires-clause-lawful c =
    subst (All (λ at. is_block c.args.words.now c.args.head.now at ≡ true)) (sym c.deref.ensures.value)
    (blocks_listed c.args.words.now c.args.head.now c.in_ok-list.list.references.items c.in_ok-list.ensures.listed)

pub returns-then-not-apart : goal.returns-then-not-apart
returns-then-not-apart c =
    let words = c.args.words.now in
    let head = c.args.head.now in
    let references : List ℕ = c.in_ok-list.list.references.items in (
      references,
      c.in_ok-list.ensures.listed,
      λ undamaged. not_from_Decides c.in_ok-apart.apart c.in_ok-apart.ensures c.if-not-apart.true
          (subst (HasApartBlocks words head) (sym c.deref.ensures.value) (apart_of words head references c.in_ok-list.ensures.listed undamaged)),
    )

pub is_undamaged-requires-clause-apart : goal.is_undamaged-requires-clause-apart
is_undamaged-requires-clause-apart c =
    subst (λ (references : List ℕ). AreApart c.args.words.now (blocks_of c.args.words.now references))
    (c.deref.ensures.value ∙ sym c.in_ok-survey.ensures.list) (c.in_ok-apart.ensures.0 c.if-not-apart.false).apart

pub returns-then-not-is_undamaged : goal.returns-then-not-is_undamaged
returns-then-not-is_undamaged c = (
  c.in_ok-survey.survey.references.items,
  c.in_ok-survey.ensures.survey.listed,
  not_from_Decides c.is_undamaged.result c.is_undamaged.ensures c.if-not-is_undamaged.true,
)

pub returns : goal.returns
returns c = record {
  survey_is = c.in_ok-survey.ensures.survey;
  undamaged = c.is_undamaged.ensures.0 c.if-not-is_undamaged.false;
}

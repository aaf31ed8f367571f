-- No record is bad, and the rest is looked at.
use Rattle.std.proofs.Common.{◌≡◌, List, [], ◌∷◌, map, refl, sym, ap, ◌∙◌, true≢false}
use Rattle.bucket_ranges.specs.Reading.{reading_along}
use Rattle.image_reader.specs.Views.{bad_view}
use Rattle.image_reader.specs.declared.reading.BadRecord.{BadRecord}
use Rattle.image_rules.specs.Adoption.{IsUndamaged}
use Rattle.image_adoption.proofs.Heads.{undamaged_decides}
use Rattle.image_adoption.proofs.damage.is_undamaged.Goals as goal

-- if nothing is made from a list, it is empty
none_made : (bad : List BadRecord) → map bad_view bad ≡ [] → bad ≡ []
none_made [] none = refl
none_made (one ∷ rest) none = absurd (cc none)

pub is_whole-requires-clause-good : goal.is_whole-requires-clause-good
is_whole-requires-clause-good c = sym c.requires.survey.bad_are ∙ ap (map bad_view) (c.is_faultless.ensures.0 c.if-not-is_faultless.false).0

pub returns-then-not-is_faultless : goal.returns-then-not-is_faultless
returns-then-not-is_faultless c = (
  λ found. absurd (true≢false (sym found)),
  λ (undamaged : IsUndamaged c.args.words.now c.args.survey.now.references.items
      (reading_along c.args.words.now c.args.head.now c.args.survey.now.references.items)).
      absurd (true≢false (sym (c.is_faultless.ensures.1 (
        none_made c.args.survey.now.bad.items (c.requires.survey.bad_are ∙ undamaged.lawful.0),
        c.requires.survey.stopped_is ∙ undamaged.lawful.1,
      )) ∙ c.if-not-is_faultless.true)),
)

pub returns : goal.returns
returns c =
    let found = c.is_faultless.ensures.0 c.if-not-is_faultless.false in
    undamaged_decides c.args.words.now c.args.head.now c.requires.header c.args.survey.now.references.items
    (reading_along c.args.words.now c.args.head.now c.args.survey.now.references.items) c.is_whole.result
    (sym c.requires.survey.bad_are ∙ ap (map bad_view) found.0, sym c.requires.survey.stopped_is ∙ found.1) c.is_whole.ensures

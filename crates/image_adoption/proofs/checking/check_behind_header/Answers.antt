-- Each answer has its cause, and none of those before it.
use Rattle.std.proofs.Common.{◌≡◌, ◌≤◌, ℕ, List, refl, arith}
use Rattle.std.proofs.lemmas.Result.{err_from_is_err_and}
use Rattle.bucket_ranges.specs.Reading.{Reading, reading_along}
use Rattle.image_rules.specs.Adoption.{used_of}
use Rattle.image_adoption.proofs.Heads.{adoptable_of, adoption_is, corrupt, damage_is, intact, old_version, reads}
use Rattle.image_adoption.proofs.checking.check_behind_header.Goals as goal

pub returns-then-head-ne-VERSION_FROZEN : goal.returns-then-head-ne-VERSION_FROZEN
returns-then-head-ne-VERSION_FROZEN c = old_version c.args.words.now c.args.head.now c.requires c.args.cursors c.if-head-ne-VERSION_FROZEN.true

pub returns-then-head : goal.returns-then-head
returns-then-head c = corrupt c.args.words.now c.args.head.now c.requires c.args.cursors c.if-head-ne-VERSION_FROZEN.false c.if-head.true

pub returns-in_err-survey : goal.returns-in_err-survey
returns-in_err-survey c =
    let p = err_from_is_err_and c.from_residual.result c.from_residual.ensures.1 in
    rw (p.1, p.2)
    (damage_is c.args.words.now c.args.head.now c.requires c.args.cursors _ c.if-head-ne-VERSION_FROZEN.false c.if-head.false c.in_err-survey.ensures)

pub returns-then-used-gt-MAX_UNITS : goal.returns-then-used-gt-MAX_UNITS
returns-then-used-gt-MAX_UNITS c =
    let words = c.args.words.now in
    let head = c.args.head.now in
    let references : List ℕ = c.in_ok-survey.survey.references.items in
    let reading : Reading = reading_along words head references in (
      intact words head c.requires c.if-head-ne-VERSION_FROZEN.false c.if-head.false,
      references,
      reading,
      reads words head c.requires references reading c.in_ok-survey.ensures.survey_is.listed refl,
      c.in_ok-survey.ensures.undamaged,
      omega (arith, c.in_ok-used.ensures, c.if-used-gt-MAX_UNITS.true),
    )

pub returns-then-cursors-gt-MAX_CURSORS : goal.returns-then-cursors-gt-MAX_CURSORS
returns-then-cursors-gt-MAX_CURSORS c =
    let words = c.args.words.now in
    let head = c.args.head.now in
    let references : List ℕ = c.in_ok-survey.survey.references.items in
    let reading : Reading = reading_along words head references in
    let few : used_of reading ≤ 4294967295 = omega (arith, c.in_ok-used.ensures, c.if-used-gt-MAX_UNITS.false) in (
      references,
      reading,
      reads words head c.requires references reading c.in_ok-survey.ensures.survey_is.listed refl,
      adoptable_of words references reading (intact words head c.requires c.if-head-ne-VERSION_FROZEN.false c.if-head.false)
          c.in_ok-survey.ensures.undamaged few,
      c.if-cursors-gt-MAX_CURSORS.true,
    )

pub returns : goal.returns
returns c =
    let words = c.args.words.now in
    let head = c.args.head.now in
    let references : List ℕ = c.in_ok-survey.survey.references.items in
    let reading : Reading = reading_along words head references in
    let few : used_of reading ≤ 4294967295 = omega (arith, c.in_ok-used.ensures, c.if-used-gt-MAX_UNITS.false) in
    let all : c.in_ok-used.used ≡ used_of reading = omega (arith, c.in_ok-used.ensures, few) in
    adoption_is words head c.requires c.args.cursors _ c.in_ok-survey.ensures.survey_is.listed
    (adoptable_of words references reading (intact words head c.requires c.if-head-ne-VERSION_FROZEN.false c.if-head.false)
    c.in_ok-survey.ensures.undamaged few) all (omega (arith, c.if-cursors-gt-MAX_CURSORS.false))

-- What is not shown of one name comes after that of the names before it.
use Rattle.std.proofs.Common.{◌++◌, ◌∷◌, map, ap, sym, ◌∙◌}
use Rattle.reading_sums.specs.Shown.{groups_of, left_out_of}
use Rattle.reading_sums.specs.Views.{part_of}
use Rattle.reading_sums.proofs.Groups.{others-step}
use Rattle.reading_sums.proofs.shown.others_of.Goals as goal

pub loop-rest-preserved : goal.loop-rest-preserved
loop-rest-preserved c =
    let group = c.run_length.ensures.group in
    let done = c.loop-rest.invariant.0 in (
      done ++ left_out_of group.0,
      others-step done group.0 c.loop-rest.rest.now c.split_at.result.1.now _ (group.2 ∙ ap (λ z. group.0 ∷ groups_of (map part_of z)) (sym c.split_at.ensures.back)) c.loop-rest.invariant.1,
      c.in_ok-put_others.ensures group.0 (group.1 ∙ ap (map part_of) (sym c.split_at.ensures.front)) done c.loop-rest.invariant.2,
    )

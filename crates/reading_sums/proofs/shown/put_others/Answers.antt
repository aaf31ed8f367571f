-- Those before the one that is shown, and those after it.
use Rattle.std.proofs.Common.{◌≡◌, ◌++◌, List, map, take, drop, append_assoc, ap, subst, ◌∙◌}
use Rattle.std.specs.List.{AllZip}
use Rattle.std.proofs.lemmas.Result.{on_ok_weaker}
use Rattle.reading_sums.specs.Shown.{left_out_of, IsOtherOf}
use Rattle.reading_sums.specs.Totals.{Part}
use Rattle.reading_sums.specs.Views.{part_of}
use Rattle.reading_sums.proofs.Groups.{group-others}
use Rattle.reading_sums.proofs.shown.put_others.Goals as goal

pub returns : goal.returns
returns c = on_ok_weaker c.put_all-2.result (λ second group same parts before.
    let run = c.args.run.now in
    let place = c.least_of.result in
    let front = map part_of c.split_at.result.0.now in
    let behind = map part_of c.split_at-2.result.1.now in
    let first_part : front ≡ map part_of (take place run) = ap (map part_of) c.split_at.ensures.front in
    let second_part : behind ≡ map part_of (drop 1 (drop place run)) = ap (map part_of) (c.split_at-2.ensures.back ∙ ap (drop 1) c.split_at.ensures.back) in
    let all : (parts ++ front) ++ behind ≡ parts ++ left_out_of group =
    append_assoc parts front behind ∙ ap (λ z. parts ++ z) ((λ i. first_part i ++ second_part i) ∙ group-others group run place same c.least_of.ensures) in
    let P : List Part → Type 0 = λ z. AllZip IsOtherOf z c.put_all-2.new.others.items in
    subst P all (second (parts ++ front) (c.in_ok-put_all.ensures parts before))) c.put_all-2.ensures

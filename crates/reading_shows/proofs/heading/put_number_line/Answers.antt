use Rattle.std.proofs.Common.{[], ◌∷◌, ◌++◌, rules}
use mir.Syntax.{w128}
use mir.Val.{SFits}
use Rattle.std.proofs.lemmas.Int.{to_z-of_z}
use Rattle.std.specs.Prelude.{codes}
use Rattle.reading_texts.proofs.Adding.{joined-more}
use Rattle.reading_overviews.specs.Numbers.{number, signed}
use Rattle.reading_overviews.proofs.Texts.{joined-none, joined-two}
use Rattle.reading_shows.specs.Shares.{mean}
use Rattle.reading_shows.specs.Since.{came_text}
use Rattle.reading_shows.proofs.heading.put_number_line.Goals as goal

pub returns : goal.returns
returns c =
    let first = c.args.text.now.items in
    let fits : SFits w128 c.args.sum = search rules in
    let kind = c.args.kind.now in
    let units = number c.args.is_human c.args.units in
    let sum = signed c.args.is_human c.args.sum in
    let average = mean c.args.is_human c.args.sum c.args.units in
    let summed = rw (to_z-of_z w128 c.args.sum fits) at c.in_ok-put_signed.ensures in
    let averaged = rw (to_z-of_z w128 c.args.sum fits) at c.in_ok-put_mean.ensures in
    let p1 = codes "  " ∷ kind ∷ [] in
    let came = came_text c.args.is_human c.args.came in
    let p2 = p1 ++ codes ", units " ∷ units ∷ [] in
    let told = p2 ++ came ∷ [] in
    let p3 = told ++ codes ", sum " ∷ sum ∷ [] in
    let p4 = p3 ++ codes ", mean " ∷ average ∷ [] in
    let a1 = joined-two first [] (codes "  ") kind (joined-none first) c.in_ok-extend_from_slice.ensures.items c.in_ok-extend_from_slice-2.ensures.items in
    let a2 = joined-two first p1 (codes ", units ") units a1 c.in_ok-extend_from_slice-3.ensures.items c.in_ok-put_number.ensures in
    let t = joined-more first p2 came a2 c.in_ok-put_came.ensures in
    let a3 = joined-two first told (codes ", sum ") sum t c.in_ok-extend_from_slice-4.ensures.items summed in
    let a4 = joined-two first p3 (codes ", mean ") average a3 c.in_ok-extend_from_slice-5.ensures.items averaged in
    joined-more first p4 (codes "\n") a4 c.in_ok-extend_from_slice-6.ensures.items

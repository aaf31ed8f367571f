use Rattle.std.proofs.Common.{[], ◌∷◌, ◌++◌, rules}
use mir.Syntax.{w128}
use mir.Val.{SFits}
use Rattle.std.proofs.lemmas.Int.{to_z-of_z}
use Rattle.std.specs.Prelude.{◌-ℤ◌, codes}
use Rattle.reading_texts.proofs.Adding.{joined-more}
use Rattle.reading_overviews.specs.Numbers.{number, signed}
use Rattle.reading_overviews.proofs.Texts.{joined-none, joined-two}
use Rattle.reading_shows.proofs.heading.put_left_text.Goals as goal

pub returns : goal.returns
returns c =
    let first = c.args.text.now.items in
    let sum_fits : SFits w128 c.args.sum = search rules in
    let mark_fits : SFits w128 c.args.mark = search rules in
    let units = number c.args.is_human c.args.units in
    let sum = signed c.args.is_human (c.args.sum -ℤ c.args.mark) in
    let summed = rw (to_z-of_z w128 c.args.sum sum_fits, to_z-of_z w128 c.args.mark mark_fits) at c.in_ok-put_difference.ensures in
    let p1 = codes "  not yet taken by deltas: units " ∷ units ∷ [] in
    let p2 = p1 ++ codes ", sum " ∷ sum ∷ [] in
    let a1 = joined-two first [] (codes "  not yet taken by deltas: units ") units (joined-none first) c.in_ok-extend_from_slice.ensures.items c.in_ok-put_number.ensures in
    let a2 = joined-two first p1 (codes ", sum ") sum a1 c.in_ok-extend_from_slice-2.ensures.items summed in
    joined-more first p2 (codes "\n") a2 c.in_ok-extend_from_slice-3.ensures.items

use Rattle.std.proofs.Common.{rules}
use mir.Syntax.{w128}
use mir.Val.{SFits}
use Rattle.std.proofs.lemmas.Int.{to_z-of_z}
use Rattle.std.specs.Prelude.{unsigned_abs}
use Rattle.reading_texts.proofs.Adding.{written-both}
use Rattle.reading_overviews.specs.Numbers.{sign}
use Rattle.reading_shows.specs.Shares.{size_of_mean}
use Rattle.reading_shows.proofs.shares.put_mean_of_some.Goals as goal

pub returns : goal.returns
returns c =
    let fits : SFits w128 c.args.sum = search rules in
    let signed = rw (to_z-of_z w128 c.args.sum fits) at c.in_ok-put_sign.ensures in
    let sized = rw (c.unsigned_abs.ensures.value, to_z-of_z w128 c.args.sum fits) at c.in_ok-put_size_of_mean.ensures in
    written-both c.args.text.now.items (sign c.args.sum) (size_of_mean c.args.is_human (unsigned_abs c.args.sum) c.args.units) signed sized

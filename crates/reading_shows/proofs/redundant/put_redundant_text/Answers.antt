use Rattle.std.proofs.Common.{[], ◌∷◌}
use Rattle.std.specs.Prelude.{codes}
use Rattle.reading_texts.proofs.Adding.{joined-more}
use Rattle.reading_overviews.specs.Numbers.{number}
use Rattle.reading_overviews.proofs.Texts.{joined-none, joined-two}
use Rattle.reading_shows.proofs.redundant.put_redundant_text.Goals as goal

pub returns : goal.returns
returns c =
    let first = c.args.text.now.items in
    let units = number c.args.is_human c.args.units in
    let told = joined-two first [] (codes "  counted once more: ") units (joined-none first) c.in_ok-extend_from_slice.ensures.items c.in_ok-put_number.ensures in
    joined-more first (codes "  counted once more: " ∷ units ∷ []) (codes "\n") told c.in_ok-extend_from_slice-2.ensures.items

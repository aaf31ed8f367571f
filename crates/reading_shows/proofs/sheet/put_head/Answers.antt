use Rattle.std.proofs.Common.{◌++◌}
use Rattle.reading_texts.proofs.Adding.{written-both}
use Rattle.reading_shows.specs.Sheet.{colours, narrow_shapes, opening, shapes, top}
use Rattle.reading_shows.proofs.sheet.put_head.Goals as goal

pub returns : goal.returns
returns c =
    let first = c.args.text.now.items in
    let title = c.args.title.now in
    let coloured = written-both first (opening title) colours c.in_ok-put_opening.ensures c.in_ok-put_colours.ensures in
    let shaped = written-both first (opening title ++ colours) shapes coloured c.in_ok-put_shapes.ensures in
    let narrowed = written-both first (opening title ++ colours ++ shapes) narrow_shapes shaped c.in_ok-put_narrow_shapes.ensures in
    written-both first (opening title ++ colours ++ shapes ++ narrow_shapes) (top title) narrowed c.in_ok-put_top.ensures

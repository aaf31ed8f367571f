use Rattle.std.proofs.Common.{◌++◌, codes}
use Rattle.reading_texts.proofs.Adding.{written-both}
use Rattle.reading_shows.proofs.page_lists.put_page_overview.Goals as goal

pub returns : goal.returns
returns c =
    let first = c.args.text.now.items in
    let told = c.args.lines.now in
    let begun = written-both first (codes "<header>\n<p>") told c.in_ok-extend_from_slice.ensures.items c.in_ok-extend_from_slice-2.ensures.items in
    written-both first (codes "<header>\n<p>" ++ told) (codes "</p>\n</header>\n") begun c.in_ok-extend_from_slice-3.ensures.items

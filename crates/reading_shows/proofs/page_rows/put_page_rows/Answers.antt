use Rattle.std.proofs.Common.{◌≡◌, ◌∙◌, ◌++◌, length, ap, sym, arith}
use Rattle.std.specs.List.{flat_map, range_with_len}
use Rattle.reading_texts.proofs.Adding.{written-both}
use Rattle.reading_shows.specs.PageRows.{row_in_page}
use Rattle.reading_overviews.proofs.Texts.{texts-more}
use Rattle.reading_shows.proofs.page_rows.put_page_rows.Goals as goal

pub loop-i-preserved : goal.loop-i-preserved
loop-i-preserved c =
    let line = row_in_page c.args.frame c.args.rows.now in
    let first = c.args.text.now.items in
    written-both first (flat_map line (range_with_len 0 c.loop-i.i)) (line c.loop-i.i) c.loop-i.invariant c.in_ok-put_row.ensures
    ∙ ap (λ s. first ++ s) (sym (texts-more line c.loop-i.i))

pub returns : goal.returns
returns c =
    let all : c.loop-i.i ≡ length c.args.rows.now = omega (arith, c.loop-i-test.false, c.loop-i.auto.i-end) in
    c.loop-i.invariant ∙ ap (λ n. c.args.text.now.items ++ flat_map (row_in_page c.args.frame c.args.rows.now) (range_with_len 0 n)) all

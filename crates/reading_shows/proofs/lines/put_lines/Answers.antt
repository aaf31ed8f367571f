use Rattle.std.proofs.Common.{◌≡◌, ◌∙◌, ◌++◌, length, ap, sym, arith}
use Rattle.std.specs.List.{flat_map, range_with_len}
use Rattle.reading_texts.proofs.Adding.{written-both}
use Rattle.reading_shows.specs.Showing.{head_line, line_at}
use Rattle.reading_overviews.proofs.Texts.{texts-more}
use Rattle.reading_shows.proofs.lines.put_lines.Goals as goal

pub loop-i-preserved : goal.loop-i-preserved
loop-i-preserved c =
    let line = line_at c.args.style c.args.columns c.args.frame c.args.cames.now c.args.rows.now in
    let headed = c.put_head_line.new.text.items in
    written-both headed (flat_map line (range_with_len 0 c.loop-i.i)) (line c.loop-i.i) c.loop-i.invariant c.in_ok-put_row.ensures
    ∙ ap (λ s. headed ++ s) (sym (texts-more line c.loop-i.i))

pub returns : goal.returns
returns c =
    let line = line_at c.args.style c.args.columns c.args.frame c.args.cames.now c.args.rows.now in
    let all : c.loop-i.i ≡ length c.args.rows.now = omega (arith, c.loop-i-test.false, c.loop-i.auto.i-end) in
    let headed = c.put_head_line.new.text.items in
    written-both c.args.text.now.items (head_line c.args.columns) (flat_map line (range_with_len 0 (length c.args.rows.now))) c.in_ok-put_head_line.ensures
    (c.loop-i.invariant ∙ ap (λ n. headed ++ flat_map line (range_with_len 0 n)) all)

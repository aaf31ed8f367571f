use Rattle.std.proofs.Common.{◌≡◌, ◌∙◌, ◌++◌, ap}
use Rattle.image_reader.specs.Views.{histogram_view}
use Rattle.reading_texts.proofs.Adding.{written-both}
use Rattle.reading_texts.specs.Rows.{rows_of, units_of}
use Rattle.reading_shows.specs.RowNames.{row_names_of}
use Rattle.reading_texts.specs.Text.{kind_word}
use Rattle.reading_shows.specs.Showing.{number_line, rank_lines, taken_line}
use Rattle.reading_shows.proofs.heading.put_numbers.Goals as goal

pub returns : goal.returns
returns c =
    let first = c.args.text.now.items in
    let hist = histogram_view c.args.hist.now in
    let ranks = rank_lines (row_names_of hist.spec) (units_of hist) (rows_of hist) in
    let line = number_line c.args.is_human (kind_word hist.spec) hist.sum (units_of hist) c.args.came in
    let begun = rw c.units-total.ensures at c.in_ok-put_summary.ensures in
    let same : rank_lines c.row_names_of.result c.units-total.result c.args.rows.now ≡ ranks =
    ap (λ row_names. rank_lines row_names c.units-total.result c.args.rows.now) c.row_names_of.ensures
    ∙ (ap (λ units. rank_lines (row_names_of hist.spec) units c.args.rows.now) c.units-total.ensures
    ∙ ap (rank_lines (row_names_of hist.spec) (units_of hist)) c.requires.rows) in
    let ranked = c.in_ok-put_ranks.ensures ∙ ap (λ s. c.put_summary.new.text.items ++ s) same in
    let numbered = written-both first line ranks begun ranked in
    written-both first (line ++ ranks) (taken_line c.args.is_human hist) numbered c.in_ok-put_taken.ensures

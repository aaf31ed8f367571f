use Rattle.std.proofs.Common.{◌∙◌, ◌++◌, ap, sym}
use Rattle.reading_texts.proofs.Adding.{written-both}
use Rattle.reading_shows.specs.Columns.{times}
use Rattle.reading_shows.proofs.Steps.{times-more}
use Rattle.reading_shows.proofs.columns.put_times.Goals as goal

pub loop-i-preserved : goal.loop-i-preserved
loop-i-preserved c =
    let first = c.args.text.now.items in
    written-both first (times c.loop-i._i c.args.piece.now) c.args.piece.now c.loop-i.invariant c.in_ok-extend_from_slice.ensures.items
    ∙ ap (λ s. first ++ s) (sym (times-more c.loop-i._i c.args.piece.now))

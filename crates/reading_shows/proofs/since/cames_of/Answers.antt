use Rattle.std.proofs.Common.{◌≡◌, ◌∙◌, ◌++◌, [], ◌∷◌, take, map, get_or, pos, ap, sym, rules, w32}
use mir.Val.{SFits}
use Rattle.std.proofs.lemmas.Int.{to_z-of_z}
use Rattle.std.proofs.lemmas.List.{map_more}
use Rattle.reading_texts.specs.declared.rows.HistRow.{HistRow}
use Rattle.reading_shows.specs.Since.{came_to}
use Rattle.reading_shows.proofs.since.cames_of.Goals as goal

pub loop-row-preserved : goal.loop-row-preserved
loop-row-preserved c =
    let rows = c.args.rows.now in
    let i = c.loop-row.row-index in
    let none : HistRow = record { low = pos 0; high = pos 0; units = 0; up_to = 0 } in
    let row : HistRow = get_or rows i none in
    let fits : SFits w32 row.low = search rules in
    let had = rw (to_z-of_z w32 row.low fits) at c.came_to.ensures in
    let came : c.came_to.result ≡ came_to c.args.before.now row = rw (c.in_ok-units.ensures row.low) at had in
    c.in_ok-push.ensures.items
    ∙ (ap (λ s. s ++ c.came_to.result ∷ []) c.loop-row.invariant
    ∙ (ap (λ n. map (came_to c.args.before.now) (take i rows) ++ n ∷ []) came ∙ sym (map_more (came_to c.args.before.now) rows i none c.loop-row-test.true)))

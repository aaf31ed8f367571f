-- One more that is shown.
use Rattle.std.proofs.Common.{◌∷◌, [], map, ap, sym, subst, ◌∙◌}
use Rattle.std.specs.List.{All}
use Rattle.std.proofs.lemmas.List.{map-append}
use Rattle.std.proofs.lemmas.List.Elements.{All-push, All-drop, All-take}
use Rattle.image_reader.specs.Readable.{IsReadable}
use Rattle.image_reader.specs.Views.{histogram_view}
use Rattle.reading_sums.specs.Views.{part_of}
use Rattle.reading_sums.specs.Whole.{IsWholeHist}
use Rattle.reading_sums.specs.Shown.{groups_of, shown_at}
use Rattle.reading_sums.proofs.Groups.{group-shown, shown-step}
use Rattle.reading_sums.proofs.Readable.{shown-readable}
use Rattle.reading_sums.proofs.shown.readings_of.Goals as goal

pub loop-rest-preserved : goal.loop-rest-preserved
loop-rest-preserved c =
    let shown = c.index-run-least_of.result in
    let done = c.loop-rest.readings.items in
    let reading = c.in_ok-reading_of.field-0 in
    let group = c.run_length.ensures.group in
    record {
      readable = λ all.
          let before = c.loop-rest.invariant.readable all in
          let run : All IsWholeHist c.split_at.result.0.now =
          subst (All IsWholeHist) (sym c.split_at.ensures.front) (All-take IsWholeHist c.run_length.result c.loop-rest.rest.now before.1) in
          let whole : IsWholeHist shown = subst IsWholeHist (sym c.index-run-least_of.is) (run c.least_of.result shown c.least_of.ensures.0) in
          let here : IsReadable (histogram_view reading) =
          subst IsReadable (sym c.in_ok-reading_of.ensures) (shown-readable c.len-index.result (part_of shown) whole) in (
            subst (All IsReadable) (sym (ap (map histogram_view) c.in_ok-push.ensures.items ∙ map-append histogram_view done (reading ∷ [])))
                (All-push IsReadable (map histogram_view done) (histogram_view reading) before.0 here),
            subst (All IsWholeHist) (sym c.split_at.ensures.back) (All-drop IsWholeHist c.run_length.result c.loop-rest.rest.now before.1),
          );
      shown = shown-step done _ reading (part_of shown) group.0 c.loop-rest.rest.now c.split_at.result.1.now _ _ _ c.in_ok-push.ensures.items c.in_ok-push.ensures.len
          (c.in_ok-reading_of.ensures ∙ ap (λ n. shown_at n (part_of shown)) c.len-index.ensures)
          (group-shown group.0 c.split_at.result.0.now c.least_of.result shown (group.1 ∙ ap (map part_of) (sym c.split_at.ensures.front)) c.least_of.ensures c.index-run-least_of.is)
          (group.2 ∙ ap (λ z. group.0 ∷ groups_of (map part_of z)) (sym c.split_at.ensures.back)) c.loop-rest.invariant.shown;
    }

-- One more histogram.
use Rattle.std.proofs.Common.{◌≡◌, ◌<◌, ◌++◌, ◌∷◌, [], ℕ, All, List, get_or, length, map, subst, sym, ap, ◌∙◌}
use Rattle.std.proofs.lemmas.List.{map-append, map_more}
use Rattle.std.proofs.lemmas.List.Elements.{All-push}
use Rattle.bucket_ranges.specs.Reading.{Histogram}
use Rattle.image_reader.specs.Readable.{IsReadable}
use Rattle.image_reader.specs.Survey.{hist_at}
use Rattle.image_reader.specs.Views.{histogram_view}
use Rattle.image_reader.specs.declared.reading.HistReading.{HistReading}
use Rattle.image_reader.proofs.reader.hists_of.Goals as goal

pub loop-reference-preserved : goal.loop-reference-preserved
loop-reference-preserved c =
    let value = c.deref-reference-items.ensures.value in
    let references : List ℕ = c.args.survey.now.references.items in
    let read : List ℕ = c.args.survey.now.hists.items in
    let i : ℕ = c.loop-reference.reference-index in
    let below : i < length read = subst (λ (read : List ℕ). i < length read) value c.loop-reference-test.true in
    let view : ℕ → Histogram = hist_at c.args.words.now c.args.head.now references in
    let one : HistReading = c.in_ok-hist.field-0 in
    let so_far : List HistReading = c.loop-reference.hists.items in
    let is : histogram_view one ≡ view (get_or read i 0) = c.in_ok-hist.ensures.hist ∙ ap (λ (read : List ℕ). view (get_or read i 0)) value in
    let more : map histogram_view c.push.new.self.items ≡ map histogram_view so_far ++ histogram_view one ∷ [] =
    ap (map histogram_view) c.in_ok-push.ensures.items ∙ map-append histogram_view so_far (one ∷ []) in
    record {
      hists = more ∙ ((λ j. c.loop-reference.invariant.hists j ++ is j ∷ []) ∙ sym (map_more view read i 0 below));
      readable = subst (All IsReadable) (sym more)
          (All-push IsReadable (map histogram_view so_far) (histogram_view one) c.loop-reference.invariant.readable c.in_ok-hist.ensures.readable);
    }

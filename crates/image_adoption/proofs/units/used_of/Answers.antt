-- One more histogram.
use Rattle.std.proofs.Common.{◌≡◌, ℕ, ◌+◌, ◌<◌, ◌≤◌, List, get_or, length, map, min, sum_by, ap, subst, ◌∙◌}
use Rattle.std.proofs.lemmas.List.{take_all}
use Rattle.bucket_ranges.specs.Reading.{Histogram}
use Rattle.image_reader.specs.Survey.{hist_at}
use Rattle.image_reader.specs.Views.{histogram_view}
use Rattle.image_rules.specs.Adoption.{used_by}
use Rattle.image_adoption.proofs.Used.{used_more}
use Rattle.image_adoption.proofs.units.used_of.Goals as goal

pub used_by-requires : goal.used_by-requires
used_by-requires c = c.in_ok-hist.ensures.readable.small

pub loop-reference-preserved : goal.loop-reference-preserved
loop-reference-preserved c =
    let value = c.deref-reference-items.ensures.value in
    let read : List ℕ = c.args.survey.now.hists.items in
    let i : ℕ = c.loop-reference.reference-index in
    let view : ℕ → Histogram = hist_at c.args.words.now c.args.head.now c.args.survey.now.references.items in
    let below : i < length read = subst (λ (read : List ℕ). i < length read) value c.loop-reference-test.true in
    let is : histogram_view c.in_ok-hist.hist ≡ view (get_or read i 0) =
    c.in_ok-hist.ensures.hist ∙ ap (λ (read : List ℕ). view (get_or read i 0)) value in
    used_more view read i below (histogram_view c.in_ok-hist.hist) is c.loop-reference.used c.used_with-used.result c.loop-reference.invariant
    (c.used_with-used.ensures ∙ ap (λ n. min (c.loop-reference.used + n) 18446744073709551615) c.used_by.ensures)

pub returns : goal.returns
returns c =
    let value = c.deref-reference-items.ensures.value in
    let read : List ℕ = c.args.survey.now.hists.items in
    let i : ℕ = c.loop-reference.reference-index in
    let view : ℕ → Histogram = hist_at c.args.words.now c.args.head.now c.args.survey.now.references.items in
    let done : length read ≤ i = subst (λ (read : List ℕ). length read ≤ i) value c.loop-reference-test.false in
    c.loop-reference.invariant
    ∙ ap (λ (read : List ℕ). min (sum_by used_by (map view read)) 18446744073709551615) (take_all i read done ∙ c.requires.survey.hists_are)

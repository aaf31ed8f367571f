-- The histograms in their order are those of the reading in another.
use Rattle.std.proofs.Common.{◌≡◌, ◌≤◌, ◌<◌, ◌∷◌, ◌++◌, [], ℕ, List, Bor, nat_cmp, length, map, take, get_or, ap, sym, ◌∙◌, subst, arith, IsPermutation}
use Rattle.std.proofs.lemmas.Simd.{map-map}
use Rattle.std.proofs.lemmas.List.{map-append, map_more, take_all}
use Rattle.std.specs.List.{All}
use Rattle.std.proofs.lemmas.List.Elements.{All-push}
use Rattle.std.proofs.lemmas.List.Sorted.{IsPermutation-map, IsPermutation-sym}
use Rattle.image_reader.specs.Views.{histogram_view}
use Rattle.image_reader.specs.declared.reading.HistReading.{HistReading}
use Rattle.bucket_ranges.specs.Reading.{Histogram}
use Rattle.std.specs.Str.{bytes_eq}
use Rattle.std.specs.List.{IsDistinct}
use Rattle.std.specs.List.Sorted.{IsStrictlySortedBy}
use Rattle.std.specs.Cmp.Lexicographic.{slice_cmp}
use Rattle.reading_sums.specs.declared.hist.HistSum.{HistSum}
use Rattle.reading_sums.specs.Whole.{HasNamesOnce, IsInRange}
use Rattle.reading_sums.proofs.OneReading.{once-moved, names-ascend, by-name, one-whole}
use Rattle.reading_sums.specs.Totals.{Part, part_from}
use Rattle.reading_sums.specs.Views.{part_of}
use Rattle.reading_sums.proofs.Readings.{same-permutation}
use Rattle.reading_sums.proofs.sums.sums_of_one.Goals as goal

pub loop-hist-preserved : goal.loop-hist-preserved
loop-hist-preserved c =
    let part : Bor HistReading → Part = λ hist. part_from c.args.number (histogram_view hist.now) in
    let items : List (Bor HistReading) = c.deref-hist-items.result.now in
    let within : c.loop-hist.hist-index < length items = omega (arith, c.loop-hist-test.true) in
    let here : part_of c.in_ok-sum_of.field-0 ≡ part (get_or items c.loop-hist.hist-index c.hist-item.result) =
    c.in_ok-sum_of.ensures.part ∙ ap part c.hist-item.is in (
      ap (map part_of) c.in_ok-push.ensures.items
          ∙ (map-append part_of c.loop-hist.sums.items (c.in_ok-sum_of.field-0 ∷ [])
          ∙ ((λ i. c.loop-hist.invariant.0 i ++ here i ∷ [])
          ∙ sym (map_more part items c.loop-hist.hist-index c.hist-item.result within))),
      subst (All IsInRange) (sym c.in_ok-push.ensures.items)
          (All-push IsInRange c.loop-hist.sums.items c.in_ok-sum_of.field-0 c.loop-hist.invariant.1 c.in_ok-sum_of.ensures.range),
    )

-- what the loop has made, in the order of the names
parts-listed : (number : ℕ) (hists : List HistSum) (items listed : List (Bor HistReading)) (k : ℕ)
    → map part_of hists ≡ map (λ hist. part_from number (histogram_view hist.now)) (take k items) → length items ≤ k → items ≡ listed
    → map part_of hists ≡ map (part_from number) (map (λ hist. histogram_view hist.now) listed)
parts-listed number hists items listed k so all are =
    let part : Bor HistReading → Part = λ hist. part_from number (histogram_view hist.now) in
    let view : Bor HistReading → Histogram = λ hist. histogram_view hist.now in
    so ∙ (ap (map part) (take_all k items all ∙ are) ∙ sym (map-map (part_from number) view listed))

pub returns-clause-parts : goal.returns-clause-parts
returns-clause-parts c =
    let view : Bor HistReading → Histogram = λ hist. histogram_view hist.now in
    let listed : List (Bor HistReading) = c.in_ok-ordered.ordered.items in
    let sums : List HistSum = c.loop-hist.sums.items in
    let parts : map part_of sums ≡ map (part_from c.args.number) (map view listed) =
    parts-listed c.args.number sums c.deref-hist-items.result.now listed c.loop-hist.hist-index c.loop-hist.invariant.0
    (omega (arith, c.loop-hist-test.false)) c.deref-hist-items.ensures.value in
    let hists : List Histogram = map histogram_view c.args.hists.now in
    let P : List Part → Type 0 = λ z. IsPermutation (map part_of sums) z in
    let Q : List Part → Type 0 = λ z. IsPermutation z (map (part_from c.args.number) hists) in
    subst P (map-map (part_from c.args.number) histogram_view c.args.hists.now)
    (subst Q (sym parts) (IsPermutation-map (part_from c.args.number) (map view listed) hists c.in_ok-ordered.ensures.same))

pub returns-clause-same : goal.returns-clause-same
returns-clause-same c =
    same-permutation (map part_of c.loop-hist.sums.items) (map (λ hist. part_from c.args.number (histogram_view hist)) c.args.hists.now)
    (returns-clause-parts c)

pub returns-clause-whole : goal.returns-clause-whole
returns-clause-whole c = λ once whole.
    let view : Bor HistReading → Histogram = λ hist. histogram_view hist.now in
    let name : Bor HistReading → List ℕ = λ hist. hist.now.name.items in
    let listed : List (Bor HistReading) = c.in_ok-ordered.ordered.items in
    let sums : List HistSum = c.loop-hist.sums.items in
    let parts : map part_of sums ≡ map (part_from c.args.number) (map view listed) =
    parts-listed c.args.number sums c.deref-hist-items.result.now listed c.loop-hist.hist-index c.loop-hist.invariant.0
    (omega (arith, c.loop-hist-test.false)) c.deref-hist-items.ensures.value in
    let hists : List Histogram = map histogram_view c.args.hists.now in
    let named : map (λ (h : Histogram). h.name) (map view listed) ≡ map name listed = map-map (λ (h : Histogram). h.name) view listed in
    let there : HasNamesOnce (map view listed) =
    once-moved hists (map view listed) (IsPermutation-sym (map view listed) hists c.in_ok-ordered.ensures.same) once in
    let ascending : IsStrictlySortedBy (slice_cmp nat_cmp) (map name listed) =
    names-ascend name listed c.in_ok-ordered.ensures.ordered (subst (IsDistinct bytes_eq) named there) in
    let names : map (λ (h : HistSum). h.name.items) sums ≡ map name listed =
    sym (map-map (λ (p : Part). p.name) part_of sums) ∙ (ap (map (λ (p : Part). p.name)) parts
    ∙ (map-map (λ (p : Part). p.name) (part_from c.args.number) (map view listed) ∙ named)) in record {
      ascending = by-name sums (subst (IsStrictlySortedBy (slice_cmp nat_cmp)) (sym names) ascending);
      whole = one-whole c.args.number (map view listed) hists sums parts c.in_ok-ordered.ensures.same whole;
      range = c.loop-hist.invariant.1;
    }

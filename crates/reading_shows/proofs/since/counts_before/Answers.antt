use Rattle.std.proofs.Common.{◌≡◌, ◌∙◌, Bool, true, Some, ap, sym}
use Rattle.std.specs.List.{find}
use Rattle.std.specs.Option.{option_map}
use Rattle.std.proofs.lemmas.List.{take_all}
use Rattle.image_reader.specs.Views.{histogram_view}
use Rattle.image_reader.specs.declared.reading.HistReading.{HistReading}
use Rattle.reading_shows.specs.Since.{counts_found, is_same}
use Rattle.reading_shows.proofs.Came.{find-map}
use Rattle.reading_shows.proofs.Steps.{found_at, unfound-more}
use Rattle.reading_shows.proofs.since.counts_before.Goals as goal

pub returns-then-is_same : goal.returns-then-is_same
returns-then-is_same c =
    let all = c.args.since.hists.now in
    let hist = histogram_view c.args.hist.now in
    let test : HistReading → Bool = λ one. is_same hist (histogram_view one) in
    let here : test c.earlier-item.result ≡ true = sym c.is_same.ensures ∙ c.if-is_same.true in
    let found = found_at test all c.loop-earlier.earlier-index c.earlier-item.result c.loop-earlier-test.true c.loop-earlier.invariant (sym (ap test c.earlier-item.is) ∙ here) in
    c.as_slice.ensures.value
    ∙ sym (ap counts_found (find-map (is_same hist) histogram_view all ∙ ap (option_map histogram_view) (found ∙ ap Some (sym c.earlier-item.is))))

pub loop-earlier-preserved : goal.loop-earlier-preserved
loop-earlier-preserved c =
    let test : HistReading → Bool = λ one. is_same (histogram_view c.args.hist.now) (histogram_view one) in
    unfound-more test c.args.since.hists.now c.loop-earlier.earlier-index c.earlier-item.result c.loop-earlier-test.true c.loop-earlier.invariant
    (sym (ap test c.earlier-item.is) ∙ (sym c.is_same.ensures ∙ c.if-is_same.false))

pub returns : goal.returns
returns c =
    let all = c.args.since.hists.now in
    let hist = histogram_view c.args.hist.now in
    let test : HistReading → Bool = λ one. is_same hist (histogram_view one) in
    let none = ap (find test) (sym (take_all c.loop-earlier.earlier-index all c.loop-earlier-test.false)) ∙ c.loop-earlier.invariant in
    sym (ap counts_found (find-map (is_same hist) histogram_view all ∙ ap (option_map histogram_view) none))

use Rattle.std.proofs.Common.{◌≡◌, ◌∙◌, Bool, true, ap, sym}
use Rattle.std.specs.List.{list_any}
use Rattle.std.specs.Str.{bytes_eq}
use Rattle.std.proofs.lemmas.List.{take_all}
use Rattle.image_reader.specs.Views.{histogram_view}
use Rattle.image_reader.specs.declared.reading.HistReading.{HistReading}
use Rattle.reading_shows.proofs.AllThere.{list_any-map}
use Rattle.reading_shows.proofs.Steps.{any_at}
use Rattle.reading_shows.proofs.missing.is_there.Goals as goal

pub returns-then-eq : goal.returns-then-eq
returns-then-eq c =
    let all = c.args.reading.now.hists.items in
    let test : HistReading → Bool = λ hist. bytes_eq c.args.name.now hist.name.items in
    let within = rw c.deref-hist-items.ensures.value at c.loop-hist-test.true in
    let item = rw c.deref-hist-items.ensures.value at c.hist-item.is in
    let here : test c.hist-item.result ≡ true = cc (c.as_bytes.ensures.value, c.as_slice.ensures.value, c.eq.ensures, c.if-eq.true) in
    sym (list_any-map (λ hist. bytes_eq c.args.name.now hist.name) histogram_view all ∙ any_at test all c.loop-hist.hist-index c.hist-item.result within (sym (ap test item) ∙ here))

pub returns : goal.returns
returns c =
    let all = c.args.reading.now.hists.items in
    let test : HistReading → Bool = λ hist. bytes_eq c.args.name.now hist.name.items in
    let ended = rw c.deref-hist-items.ensures.value at c.loop-hist-test.false in
    sym (list_any-map (λ hist. bytes_eq c.args.name.now hist.name) histogram_view all ∙ (ap (list_any test) (sym (take_all c.loop-hist.hist-index all ended)) ∙ c.loop-hist.invariant))

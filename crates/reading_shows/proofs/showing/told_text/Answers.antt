use Rattle.std.proofs.Common.{◌≡◌, ◌∙◌, ◌++◌, map, ap}
use Rattle.std.specs.List.{filter, flat_map}
use Rattle.std.proofs.lemmas.List.Elements.{All-filter}
use Rattle.std.proofs.lemmas.List.Sorted.{All-permutation, IsPermutation-sym}
use Rattle.image_reader.specs.Views.{histogram_view}
use Rattle.image_reader.specs.Readable.{IsReadable}
use Rattle.reading_texts.proofs.Adding.{written-behind}
use Rattle.reading_shows.specs.Choice.{is_chosen}
use Rattle.reading_shows.specs.Showing.{histogram_text}
use Rattle.reading_shows.specs.SinceViews.{since_view}
use Rattle.reading_shows.proofs.showing.told_text.Goals as goal

pub put_histograms-requires : goal.put_histograms-requires
put_histograms-requires c =
    let hists = map (λ hist. histogram_view hist.now) c.in_ok-hists.hists.items in
    let all = map histogram_view c.args.reading.now.hists.items in
    let some = filter (is_chosen c.args.drawn.now.choice) all in
    rw c.as_slice.ensures.value
    (All-permutation IsReadable some hists (IsPermutation-sym hists some c.in_ok-hists.ensures.same) (All-filter (is_chosen c.args.drawn.now.choice) IsReadable all c.requires))

pub returns : goal.returns
returns c =
    let hists = map (λ hist. histogram_view hist.now) c.in_ok-hists.hists.items in
    let shown = rw c.as_slice.ensures.value at c.in_ok-put_histograms.ensures in
    let ended = rw c.as_slice-2.ensures.value at c.in_ok-put_ending.ensures in
    let begun : c.put_histograms.new.text.items ≡ flat_map (histogram_text c.args.drawn.now.style (since_view c.args.since)) hists = shown ∙ ap (λ s. s ++ flat_map (histogram_text c.args.drawn.now.style (since_view c.args.since)) hists) c.new-text.ensures.items in
    (hists, c.in_ok-hists.ensures, written-behind _ _ begun ended)

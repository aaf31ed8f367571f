use Rattle.std.proofs.Common.{◌≡◌, ◌∙◌, ◌++◌, map, ap, codes}
use Rattle.std.specs.List.{filter, flat_map, enumerate_from}
use Rattle.std.proofs.lemmas.List.Elements.{All-filter}
use Rattle.std.proofs.lemmas.List.Sorted.{All-permutation, IsPermutation-sym}
use Rattle.image_reader.specs.Views.{histogram_view, reading_view}
use Rattle.image_reader.specs.Readable.{IsReadable}
use Rattle.reading_texts.proofs.Adding.{written-behind}
use Rattle.reading_shows.specs.Choice.{is_chosen}
use Rattle.reading_shows.specs.Page.{section}
use Rattle.reading_shows.specs.PageLists.{page_list, page_overview, source_text}
use Rattle.reading_shows.specs.Sheet.{page_head}
use Rattle.reading_shows.specs.Showing.{ending}
use Rattle.reading_shows.proofs.page.page_with.Goals as goal

pub put_sections-requires : goal.put_sections-requires
put_sections-requires c =
    let hists = map (λ hist. histogram_view hist.now) c.in_ok-hists.hists.items in
    let all = map histogram_view c.args.reading.now.hists.items in
    let some = filter (is_chosen c.args.drawn.now.choice) all in
    rw c.as_slice-hists.ensures.value
    (All-permutation IsReadable some hists (IsPermutation-sym hists some c.in_ok-hists.ensures.same) (All-filter (is_chosen c.args.drawn.now.choice) IsReadable all c.requires))

pub put_page_list-requires : goal.put_page_list-requires
put_page_list-requires c =
    let hists = map (λ hist. histogram_view hist.now) c.in_ok-hists.hists.items in
    let all = map histogram_view c.args.reading.now.hists.items in
    let some = filter (is_chosen c.args.drawn.now.choice) all in
    rw c.as_slice-hists.ensures.value
    (All-permutation IsReadable some hists (IsPermutation-sym hists some c.in_ok-hists.ensures.same) (All-filter (is_chosen c.args.drawn.now.choice) IsReadable all c.requires))

pub returns : goal.returns
returns c =
    let hists = map (λ hist. histogram_view hist.now) c.in_ok-hists.hists.items in
    let source = source_text c.args.source in
    let reading = reading_view c.args.reading.now in
    let listed = rw c.as_slice-hists.ensures.value at c.in_ok-put_page_list.ensures in
    let sections = rw c.as_slice-hists.ensures.value at c.in_ok-put_sections.ensures in
    let ended = rw c.as_slice-hists.ensures.value at c.in_ok-put_ending.ensures in
    let headed = rw (c.as_slice.ensures.value, c.in_ok-named.ensures) at c.in_ok-put_head.ensures in
    let begun : c.put_head.new.text.items ≡ page_head source = headed ∙ ap (λ s. s ++ page_head source) c.new-text.ensures.items in
    let told = written-behind _ (page_overview c.args.lines.now) begun c.in_ok-put_page_overview.ensures in
    let named = written-behind _ (page_list hists) told listed in
    let opened = written-behind _ (codes "<main>\n") named c.in_ok-extend_from_slice.ensures.items in
    let shown = written-behind _ (flat_map (section c.args.drawn.now.style.shows_all) (enumerate_from 0 hists)) opened sections in
    let behind = written-behind _ (codes "</main>\n<footer>") shown c.in_ok-extend_from_slice-2.ensures.items in
    let all = written-behind _ (ending hists reading) behind ended in
    (hists, c.in_ok-hists.ensures, written-behind _ (codes "</footer>\n</body>\n</html>\n") all c.in_ok-extend_from_slice-3.ensures.items)

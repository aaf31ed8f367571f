use Rattle.std.proofs.Common.{◌≡◌, ◌∙◌, ◌++◌, map, ap, subst}
use Rattle.std.specs.List.{filter}
use Rattle.std.proofs.lemmas.List.Elements.{All-filter}
use Rattle.std.proofs.lemmas.List.Sorted.{All-permutation, IsPermutation-sym}
use Rattle.image_reader.specs.Views.{histogram_view}
use Rattle.image_reader.specs.Readable.{IsReadable}
use Rattle.reading_texts.proofs.Adding.{written-behind}
use Rattle.reading_shows.specs.Choice.{is_chosen}
use Rattle.reading_shows.specs.Listing.{AreOrdered, list_of_some}
use Rattle.reading_shows.specs.ListViews.{entry_view}
use Rattle.reading_shows.proofs.listing.list_text.Goals as goal

pub entries_of-requires : goal.entries_of-requires
entries_of-requires c =
    let hists = map (λ hist. histogram_view hist.now) c.in_ok-hists.hists.items in
    let all = map histogram_view c.args.reading.now.hists.items in
    let some = filter (is_chosen c.args.drawn.now.choice) all in
    rw c.as_slice.ensures.value
    (All-permutation IsReadable some hists (IsPermutation-sym hists some c.in_ok-hists.ensures.same) (All-filter (is_chosen c.args.drawn.now.choice) IsReadable all c.requires))

pub returns : goal.returns
returns c =
    let hists = map (λ hist. histogram_view hist.now) c.in_ok-hists.hists.items in
    let lines = map entry_view c.order.new.entries.items in
    let made = rw c.as_slice.ensures.value at c.in_ok-entries.ensures in
    let listed = list_of_some c.args.drawn.now.style.width lines in
    let begun : c.put_list.new.text.items ≡ listed = c.in_ok-put_list.ensures ∙ ap (λ s. s ++ listed) c.new-text.ensures.items in
    let ended = rw c.as_slice-2.ensures.value at c.in_ok-put_ending.ensures in
    record {
      hists = hists;
      lines = lines;
      shown = c.in_ok-hists.ensures;
      ordered = subst (λ found. AreOrdered c.args.drawn.now.is_by_units found lines) made c.in_ok-order.ensures;
      is = written-behind _ _ begun ended;
    }

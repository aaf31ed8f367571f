use Rattle.std.proofs.Common.{◌≡◌, ◌∙◌, ◌++◌, map, ap}
use Rattle.std.proofs.lemmas.List.Sorted.{All-permutation, IsPermutation-sym}
use Rattle.image_reader.specs.Views.{histogram_view}
use Rattle.image_reader.specs.Readable.{IsReadable}
use Rattle.reading_texts.specs.Table.{table_head}
use Rattle.reading_texts.proofs.Adding.{written-behind}
use Rattle.reading_texts.proofs.table.table_text.Goals as goal

pub put_tables-requires : goal.put_tables-requires
put_tables-requires c =
    let hists = map (λ hist. histogram_view hist.now) c.in_ok-hists.hists.items in
    let all = map histogram_view c.args.reading.now.hists.items in
    rw c.deref.ensures.value (All-permutation IsReadable all hists (IsPermutation-sym hists all c.in_ok-hists.ensures.same) c.requires)

pub returns : goal.returns
returns c =
    let hists = map (λ hist. histogram_view hist.now) c.in_ok-hists.hists.items in
    let rows = rw c.deref.ensures.value at c.in_ok-put_tables.ensures in
    let begun : c.put_head.new.text.items ≡ table_head = c.in_ok-put_head.ensures ∙ ap (λ s. s ++ table_head) c.new-text.ensures.items in
    (hists, c.in_ok-hists.ensures, written-behind _ _ begun rows)

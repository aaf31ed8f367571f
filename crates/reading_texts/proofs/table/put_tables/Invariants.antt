use Rattle.std.proofs.Common.{◌≡◌, ◌++◌, take}
use Rattle.std.specs.List.{flat_map}
use Rattle.image_reader.specs.Views.{histogram_view}
use Rattle.reading_texts.specs.Table.{table_rows}
use Rattle.reading_texts.proofs.table.put_tables.Given as goal

abbrev pub invariant-loop-hist : goal.invariant-loop-hist
invariant-loop-hist l = l.text.items ≡ l.initial.text.items ++ flat_map (λ hist. table_rows (histogram_view hist.now)) (take l.hist-index l.hists)

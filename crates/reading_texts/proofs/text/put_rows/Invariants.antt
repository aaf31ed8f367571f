use Rattle.std.proofs.Common.{◌≡◌, ◌++◌, take}
use Rattle.std.specs.List.{flat_map}
use Rattle.image_reader.specs.Views.{histogram_view}
use Rattle.reading_texts.specs.Text.{bucket_text}
use Rattle.reading_texts.proofs.text.put_rows.Given as goal

abbrev pub invariant-loop-row : goal.invariant-loop-row
invariant-loop-row l = l.text.items ≡ l.initial.text.items ++ flat_map (bucket_text (histogram_view l.hist)) (take l.row-index l.rows)

use Rattle.std.proofs.Common.{◌≡◌, ◌++◌, take}
use Rattle.std.specs.List.{flat_map}
use Rattle.reading_texts.specs.Lines.{bucket_row}
use Rattle.reading_texts.proofs.exporting.put_bucket_rows.Given as goal

abbrev pub invariant-loop-row : goal.invariant-loop-row
invariant-loop-row l = l.text.items ≡ l.initial.text.items ++ flat_map (bucket_row l.start) (take l.row-index l.rows)

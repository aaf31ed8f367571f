use Rattle.std.proofs.Common.{◌≡◌, ◌++◌, take}
use Rattle.std.specs.List.{flat_map}
use Rattle.reading_sums.specs.Views.{part_of}
use Rattle.sum_texts.specs.Lines as lines
use Rattle.sum_texts.specs.Lines.{line_text}
use Rattle.sum_texts.proofs.writing.put_parts.Given as goal

abbrev pub invariant-loop-hist : goal.invariant-loop-hist
invariant-loop-hist l = l.text.items ≡ l.initial.text.items ++ flat_map (λ hist. flat_map line_text (lines.part_lines (part_of hist))) (take l.hist-index l.hists)

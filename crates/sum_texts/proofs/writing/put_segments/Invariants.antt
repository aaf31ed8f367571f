use Rattle.std.proofs.Common.{◌≡◌, ◌++◌, take}
use Rattle.std.specs.List.{flat_map}
use Rattle.sum_texts.specs.Lines as lines
use Rattle.sum_texts.specs.Lines.{line_text}
use Rattle.sum_texts.proofs.writing.put_segments.Given as goal

abbrev pub invariant-loop-number : goal.invariant-loop-number
invariant-loop-number l = l.text.items ≡ l.initial.text.items ++ flat_map (λ segment. line_text (lines.segment_fields segment)) (take l.number-index l.segments)

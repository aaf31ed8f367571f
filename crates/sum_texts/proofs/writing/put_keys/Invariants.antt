use Rattle.std.proofs.Common.{◌≡◌, ◌++◌, take}
use Rattle.std.specs.List.{flat_map}
use Rattle.sum_texts.specs.Lines as lines
use Rattle.sum_texts.specs.Lines.{line_text}
use Rattle.sum_texts.proofs.writing.put_keys.Given as goal

abbrev pub invariant-loop-key : goal.invariant-loop-key
invariant-loop-key l = l.text.items ≡ l.initial.text.items ++ flat_map (λ key. line_text (lines.key_fields key)) (take l.key-index l.keys)

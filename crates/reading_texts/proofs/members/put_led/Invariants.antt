use Rattle.std.proofs.Common.{◌≡◌, ◌++◌, take}
use Rattle.std.specs.List.{flat_map}
use Rattle.reading_texts.specs.Labels.{label_view}
use Rattle.reading_texts.specs.Families.{led_label_text}
use Rattle.reading_texts.proofs.members.put_led.Given as goal

abbrev pub invariant-loop-label : goal.invariant-loop-label
invariant-loop-label l = l.text.items ≡ l.initial.text.items ++ flat_map (λ label. led_label_text (label_view label)) (take l.label-index l.labels)

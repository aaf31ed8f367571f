use Rattle.std.proofs.Common.{◌≡◌, length, map}
use Rattle.std.specs.List.{list_all}
use Rattle.reading_texts.specs.Labels.{label_view, is_own_label}
use Rattle.reading_texts.proofs.labels.are_own.Given as goal

abbrev pub invariant-loop-rest : goal.invariant-loop-rest
invariant-loop-rest l =
    list_all (is_own_label (map label_view l.taken)) (map label_view l.labels)
    ≡ list_all (is_own_label (map label_view l.taken)) (map label_view l.rest)

abbrev pub decreases-loop-rest : goal.decreases-loop-rest
decreases-loop-rest l = length l.rest

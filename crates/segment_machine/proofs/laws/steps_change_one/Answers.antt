use Rattle.std.proofs.Common.{ℕ, List, length, ◌∙◌, ap}
use lib.ListN.{get_elem?}
use Rattle.std.proofs.lemmas.List.{get_or-set_other}
use Rattle.atomic_table.proofs.Lists.{set_else}
use Rattle.segment_image.specs.Words.{word_at}
use Rattle.segment_machine.specs.declared.actor.Actor.{Actor}
use Rattle.segment_machine.specs.Event.{spot}
use Rattle.segment_machine.specs.State.{memory}
use Rattle.segment_machine.proofs.laws.steps_change_one.Goals as goal

pub returns : goal.returns
returns c version old new id event is = (
  λ at apart.
      ap (λ (words : List ℕ). word_at words at) is.memory_is
      ∙ get_or-set_other (memory old) (spot (length old.words) event) at _ 0 apart,
  λ other apart.
      ap (λ (actors : List Actor). get_elem? actors other) is.actors_are ∙ set_else old.actors id other is.then_is apart,
)

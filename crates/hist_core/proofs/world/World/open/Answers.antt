use Rattle.hist_core.specs.Start.{new_start}
use Rattle.hist_core.proofs.Worlds.NewWorldStates.{new_is_reached}
use Rattle.hist_core.proofs.world.World.open.Goals as goal

pub invariant_of-result : goal.invariant_of-result
invariant_of-result c =
    let reached = new_is_reached c.args.shape c.args.version c.args.id c.args.actors c.in_ok-new.field-0 c.in_ok-new.ensures c.requires.shaped c.requires.versioned c.requires.few in record {
      reached = ∣ (new_start c.args.shape c.args.version c.args.id, reached.0, reached.1) ∣₁;
    }

pub returns-clause-starts : goal.returns-clause-starts
returns-clause-starts c =
    ∣ new_is_reached c.args.shape c.args.version c.args.id c.args.actors c.in_ok-new.field-0 c.in_ok-new.ensures c.requires.shaped c.requires.versioned c.requires.few ∣₁

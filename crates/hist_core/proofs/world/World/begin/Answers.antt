use Rattle.segment_invariant.proofs.Prelude.Std.{∥∥₁_elim, props}
use Rattle.hist_core.proofs.Worlds.Moving.{no_word}
use Rattle.hist_core.proofs.world.World.begin.Goals as goal

pub begin-requires : goal.begin-requires
begin-requires c = record { reached = c.args.self.now.reached }

pub invariant_of-self : goal.invariant_of-self
invariant_of-self c = record {
  reached = ∥∥₁_elim c.args.self.now.reached (hlevel props) (λ (start, state, reach). let did = c.begin.ensures.begins start state reach in ∣ (start, did.0, did.2) ∣₁);
}

pub returns-clause-words : goal.returns-clause-words
returns-clause-words c = no_word c.args.self.now.world_state c.args.actor c.begin.new.self c.args.self.now.reached c.begin.ensures.begins

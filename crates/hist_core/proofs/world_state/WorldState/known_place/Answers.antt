use Rattle.segment_invariant.proofs.Prelude.Std.{ℕ, refl, rules, Ok}
use Rattle.hist_core.specs.declared.fault.WorldFault.TheVariants.{Unknown}
use Rattle.hist_core.proofs.Worlds.Faults.{err_is, first_still, knows_it, lacks_it, tells_fault, tells_none, the_fault}
use Rattle.hist_core.proofs.world_state.WorldState.known_place.Goals as goal

pub returns-in_err-resting-clause-faults : goal.returns-in_err-resting-clause-faults
returns-in_err-resting-clause-faults c =
    let fault = c.in_err-resting.field-0.0 in
    tells_fault _ _ fault (first_still _ _ _ fault (the_fault _ c.resting.result fault c.in_err-resting.was c.resting.ensures.faults))
    (err_is c.from_residual.result fault c.from_residual.ensures.0 (search rules))

pub returns-in_default-clause-faults : goal.returns-in_default-clause-faults
returns-in_default-clause-faults c =
    tells_fault _ _ Unknown (lacks_it c.args.self.now c.args.actor c.args.name.now c.in_ok-resting.field-0.now c.in_ok-resting.ensures.rests c.in_default.ensures.none) refl

pub returns-clause-faults : goal.returns-clause-faults
returns-clause-faults c =
    tells_none {A = ℕ} _ (Ok c.in-Some.place) (knows_it c.args.self.now c.args.actor c.args.name.now c.in_ok-resting.field-0.now c.in_ok-resting.ensures.rests c.in-Some.place c.in-Some.ensures.found) refl

pub returns-clause-ready : goal.returns-clause-ready
returns-clause-ready c =
    let found = c.in-Some.ensures.found in record {
      actor_run = c.in_ok-resting.field-0.now;
      resting = c.in_ok-resting.ensures.rests;
      known = found.0;
      there = found.1;
      named = found.2;
    }

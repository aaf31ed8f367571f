use Rattle.owned_recorder.proofs.owned.OwnedRecorder.limit_indexes.Goals as goal

pub invariant_of-self : goal.invariant_of-self
invariant_of-self c = record { at = c.limit_indexes.ensures.at _ c.args.self.now.at }

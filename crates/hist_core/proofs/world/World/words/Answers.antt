use Rattle.hist_core.proofs.Worlds.WorldStates.{has_sound_header, is_consistent_now, is_read_now, may_be_adopted_now, are_known_first}
use Rattle.hist_core.proofs.Worlds.Transits.{move_their_own}
use Rattle.hist_core.proofs.world.World.words.Goals as goal

pub returns-clause-consistent : goal.returns-clause-consistent
returns-clause-consistent c = is_consistent_now c.args.self.now.world_state

pub returns-clause-reads : goal.returns-clause-reads
returns-clause-reads c = is_read_now c.args.self.now.world_state

pub returns-clause-names : goal.returns-clause-names
returns-clause-names c = are_known_first c.args.self.now.world_state c.args.self.now.reached

pub returns-clause-moves : goal.returns-clause-moves
returns-clause-moves c = move_their_own c.args.self.now.world_state

pub returns-clause-header : goal.returns-clause-header
returns-clause-header c = has_sound_header c.args.self.now.world_state c.args.self.now.reached

pub returns-clause-adoptable : goal.returns-clause-adoptable
returns-clause-adoptable c = may_be_adopted_now c.args.self.now.world_state c.args.self.now.reached

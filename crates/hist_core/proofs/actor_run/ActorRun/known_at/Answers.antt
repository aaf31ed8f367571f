use Rattle.std.proofs.Common.{sym, subst, vec_len}
use Rattle.bucket_ranges.specs.Ranges.{AreBoundaries}
use Rattle.segment_promises.proofs.Calls.SpecBuckets.{are_always}
use Rattle.hist_core.proofs.Worlds.WorldStates.{is_there}
use Rattle.hist_core.proofs.actor_run.ActorRun.known_at.Goals as goal

pub returns-clause-at : goal.returns-clause-at
returns-clause-at c =
    let list = c.args.self.now.known in is_there list.items (vec_len list) c.args.i c.index.result.now list.ok.0 c.requires.near c.index.ensures

pub returns-clause-lawful : goal.returns-clause-lawful
returns-clause-lawful c =
    let list = c.args.self.now.known in let known = c.index.result.now in
    c.requires.lawful known (is_there list.items (vec_len list) c.args.i known list.ok.0 c.requires.near c.index.ensures)

pub returns-clause-ranges : goal.returns-clause-ranges
returns-clause-ranges c =
    let list = c.args.self.now.known in let known = c.index.result.now in
    c.requires.ranges known (is_there list.items (vec_len list) c.args.i known list.ok.0 c.requires.near c.index.ensures)

pub returns-clause-bounds : goal.returns-clause-bounds
returns-clause-bounds c =
    let list = c.args.self.now.known in let known = c.index.result.now in
    let at = is_there list.items (vec_len list) c.args.i known list.ok.0 c.requires.near c.index.ensures in
    subst AreBoundaries (sym (c.requires.ranges known at)) (are_always known.spec (c.requires.lawful known at))

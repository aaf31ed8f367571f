use Rattle.std.proofs.Common.{arith, ap, subst, ◌∙◌}
use Rattle.hist_core.specs.declared.snapshot_call.SnapshotStage.{SnapshotStage}
use Rattle.hist_core.specs.SnapshotCall.{IsTotalPut}
use Rattle.hist_core.specs.Mounted.{total_at}
use Rattle.hist_core.proofs.Left.Snapshots.{counts_less}
use Rattle.hist_core.proofs.SnapshotCall.Snapshots.{puts_count, some_count}
use Rattle.hist_core.proofs.DeltaCall.Counts.{where_count}
use Rattle.hist_core.proofs.snapshot_call.SnapshotCall.load_count.Goals as goal

pub overflow_add-count : goal.overflow_add-count
overflow_add-count c =
    let there = some_count c.args.self.now c.args.words.now c.args.mounted c.args.bucket c.requires.next c.requires.stands in omega (arith, there.0)

pub overflow_add-count-2 : goal.overflow_add-count-2
overflow_add-count-2 c =
    let there = some_count c.args.self.now c.args.words.now c.args.mounted c.args.bucket c.requires.next c.requires.stands in omega (arith, there.0)

pub offset_bounds-words-mounted : goal.offset_bounds-words-mounted
offset_bounds-words-mounted c =
    let there = some_count c.args.self.now c.args.words.now c.args.mounted c.args.bucket c.requires.next c.requires.stands in omega (arith, there.0)

pub bounds-words-mounted : goal.bounds-words-mounted
bounds-words-mounted c = (some_count c.args.self.now c.args.words.now c.args.mounted c.args.bucket c.requires.next c.requires.stands).0

pub behind_bucket-self-requires : goal.behind_bucket-self-requires
behind_bucket-self-requires c =
    let there = some_count c.args.self.now c.args.words.now c.args.mounted c.args.bucket c.requires.next c.requires.stands in
    omega (arith, there.1, there.2)

pub put-requires : goal.put-requires
put-requires c = (some_count c.args.self.now c.args.words.now c.args.mounted c.args.bucket c.requires.next c.requires.stands).1

pub returns-clause-steps : goal.returns-clause-steps
returns-clause-steps c = λ shape known a long order is.
    puts_count shape known c.args.self.now a c.args.words.now is c.args.mounted c.args.bucket c.requires.next c.total.result
    (c.total.ensures ∙ ap (total_at c.args.mounted c.args.bucket) (where_count c.args.words.now c.args.mounted.counts c.args.bucket)) _
    (subst (λ (stage : SnapshotStage). IsTotalPut c.args.bucket c.total.result (record c.args.self.now { stage = stage }) c.put.new.self) c.behind_bucket-self.ensures c.put.ensures)

pub returns-clause-less : goal.returns-clause-less
returns-clause-less c =
    counts_less c.args.self.now c.args.words.now c.args.mounted c.args.bucket c.total.result c.requires.next c.put.new.self
    (subst (λ (stage : SnapshotStage). IsTotalPut c.args.bucket c.total.result (record c.args.self.now { stage = stage }) c.put.new.self) c.behind_bucket-self.ensures c.put.ensures)

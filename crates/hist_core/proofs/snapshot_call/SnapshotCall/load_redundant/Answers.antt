use Rattle.segment_invariant.proofs.Prelude.Std.{refl, rules, sym, subst, ◌≡◌, ◌+◌, ℤ, cast_signed, cast_unsigned, w64}
use Rattle.segment_invariant.proofs.Prelude.Machine.{word_at}
use Rattle.hist_core.specs.declared.snapshot_call.SnapshotCallStep.TheVariants.{Done}
use Rattle.hist_core.specs.StepsBy.{StepsBy}
use Rattle.hist_core.specs.SnapshotCall.{SnapshotCallGives}
use Rattle.hist_core.proofs.SnapshotCall.Snapshots.{answers_so}
use Rattle.hist_core.proofs.snapshot_call.SnapshotCall.load_redundant.Goals as goal

pub returns-clause-steps : goal.returns-clause-steps
returns-clause-steps c = λ shape known a long order is.
    let snapshot_call = c.args.self.now in
    let words = c.args.words.now in
    let whole : cast_signed w64 (cast_unsigned w64 c.args.sum) ≡ c.args.sum = search rules in
    subst (λ (sum : ℤ). StepsBy shape.size snapshot_call.version a words words (SnapshotCallGives shape known snapshot_call.stage snapshot_call (Done sum (word_at words (snapshot_call.histogram + 13))) a)) (sym whole)
    (answers_so shape known snapshot_call a words is c.args.sum c.requires.next _ refl order)

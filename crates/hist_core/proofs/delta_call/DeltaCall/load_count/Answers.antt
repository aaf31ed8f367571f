use Rattle.std.proofs.Common.{arith, sym, subst, ◌∙◌, ◌≡◌, ◌+◌, length}
use Rattle.segment_image.specs.Words.{word_at}
use Rattle.hist_core.specs.declared.delta_call.DeltaStage.{DeltaStage}
use Rattle.hist_core.specs.declared.delta_call.DeltaCallStep.TheVariants.{More}
use Rattle.hist_core.specs.StepsBy.{StepsBy}
use Rattle.hist_core.specs.DeltaCall.{DeltaCallGives}
use Rattle.hist_core.specs.Mounted.{total_at}
use Rattle.hist_core.specs.Left.{DeltaLowers}
use Rattle.hist_core.proofs.Left.Deltas.{counts_none_less, counts_some_less}
use Rattle.hist_core.proofs.DeltaCall.Counts.{gives_none, gives_some, some_count}
use Rattle.hist_core.proofs.DeltaCall.Going.{some_ranges}
use Rattle.hist_core.proofs.delta_call.DeltaCall.load_count.Goals.{then-total-eq0, else-total-eq0}
use Rattle.hist_core.proofs.delta_call.DeltaCall.load_count.Goals as goal

pub overflow_add-count : goal.overflow_add-count
overflow_add-count c = let inside = some_count c.args.self.now c.args.words.now c.args.mounted c.args.bucket c.requires.next c.requires.stands in omega (arith, inside.0, inside.1)

pub overflow_add-count-2 : goal.overflow_add-count-2
overflow_add-count-2 c = let inside = some_count c.args.self.now c.args.words.now c.args.mounted c.args.bucket c.requires.next c.requires.stands in omega (arith, inside.0, inside.1)

pub offset_bounds-words-mounted : goal.offset_bounds-words-mounted
offset_bounds-words-mounted c = let inside = some_count c.args.self.now c.args.words.now c.args.mounted c.args.bucket c.requires.next c.requires.stands in omega (arith, inside.0, inside.1)

pub bounds-words-mounted : goal.bounds-words-mounted
bounds-words-mounted c = (some_count c.args.self.now c.args.words.now c.args.mounted c.args.bucket c.requires.next c.requires.stands).0

pub behind_bucket-self-requires : goal.behind_bucket-self-requires
behind_bucket-self-requires c =
    let inside = some_count c.args.self.now c.args.words.now c.args.mounted c.args.bucket c.requires.next c.requires.stands in
    let few = some_ranges c.args.self.now (length c.args.words.now) c.requires.stands in omega (arith, inside.2, few)

pub returns-clause-steps : goal.returns-clause-steps
returns-clause-steps c = λ shape known earlier a long order is.
    let delta_call = c.args.self.now in
    let total_is : c.total-total.result ≡ total_at c.args.mounted c.args.bucket (word_at c.args.words.now (c.args.mounted.counts + (4 + c.args.bucket))) = c.total-total.ensures in
    let gives : DeltaStage → Type 0 = λ stage. StepsBy shape.size delta_call.version a c.args.words.now c.args.words.now (DeltaCallGives shape known earlier (record delta_call { stage = stage }) More a) in
    elim c.if-total-eq0.branch [
      | then-total-eq0 w ↦ subst gives (sym (w.self-is ∙ w.behind_bucket-self.ensures))
          (gives_none shape known earlier delta_call a c.args.words.now is c.args.mounted c.args.bucket c.requires.next c.total-total.result total_is w.if-total-eq0.true)
      | else-total-eq0 w ↦ subst gives (sym w.self-is)
          (gives_some shape known earlier delta_call a c.args.words.now is c.args.mounted c.args.bucket c.requires.next c.total-total.result total_is w.if-total-eq0.false)
    ]

pub returns-clause-less : goal.returns-clause-less
returns-clause-less c =
    let delta_call = c.args.self.now in
    let gives : DeltaStage → Type 0 = λ stage. DeltaLowers delta_call c.args.words.now (record delta_call { stage = stage }) c.args.words.now More in
    elim c.if-total-eq0.branch [
      | then-total-eq0 w ↦ subst gives (sym (w.self-is ∙ w.behind_bucket-self.ensures)) (counts_none_less delta_call c.args.words.now c.args.mounted c.args.bucket c.requires.next)
      | else-total-eq0 w ↦ subst gives (sym w.self-is) (counts_some_less delta_call c.args.words.now c.args.mounted c.args.bucket c.total-total.result c.requires.next)
    ]

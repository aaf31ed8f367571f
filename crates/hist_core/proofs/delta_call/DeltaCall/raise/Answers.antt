use Rattle.segment_invariant.proofs.Prelude.Std.{arith, sym, ap, subst, ◌∙◌, ◌<◌, ℕ, length, max, pos, slice_index, slice_set}
use Rattle.segment_invariant.proofs.Prelude.Machine.{word_at}
use Rattle.hist_core.specs.declared.delta_call.DeltaStage.{DeltaStage}
use Rattle.hist_core.specs.DeltaCall.{TakesBucket}
use Rattle.hist_core.proofs.Left.Deltas.{raises_less}
use Rattle.hist_core.proofs.DeltaCall.Going.{some_ranges}
use Rattle.hist_core.proofs.DeltaCall.Marks.{gives_raised, mark_there, some_mark}
use Rattle.hist_core.proofs.delta_call.DeltaCall.raise.Goals as goal

pub mark_of-requires-clause-few : goal.mark_of-requires-clause-few
mark_of-requires-clause-few c =
    let few = some_ranges c.args.self.now (length c.args.words.now) c.requires.stands in
    let there = some_mark c.args.self.now c.args.words.now c.args.mounted c.args.bucket c.args.total c.requires.next c.requires.stands in
    (omega (arith, few), omega (arith, few, there.1))

pub mark_of-requires-clause-inside : goal.mark_of-requires-clause-inside
mark_of-requires-clause-inside c =
    let there = some_mark c.args.self.now c.args.words.now c.args.mounted c.args.bucket c.args.total c.requires.next c.requires.stands in
    (omega arith, omega (arith, there.0))

pub fetch_max-mark-requires : goal.fetch_max-mark-requires
fetch_max-mark-requires c =
    let there = some_mark c.args.self.now c.args.words.now c.args.mounted c.args.bucket c.args.total c.requires.next c.requires.stands in
    subst (λ (n : ℕ). n < length c.args.words.now) (sym c.mark_of.ensures) (mark_there c.args.self.now c.args.words.now c.args.mounted c.args.bucket c.requires.inside.within there.0)

pub behind_bucket-self-requires : goal.behind_bucket-self-requires
behind_bucket-self-requires c =
    let few = some_ranges c.args.self.now (length c.args.words.now) c.requires.stands in
    let there = some_mark c.args.self.now c.args.words.now c.args.mounted c.args.bucket c.args.total c.requires.next c.requires.stands in
    omega (arith, few, there.1)

pub take_bucket-requires-clause-inside : goal.take_bucket-requires-clause-inside
take_bucket-requires-clause-inside c = (some_mark c.args.self.now c.args.words.now c.args.mounted c.args.bucket c.args.total c.requires.next c.requires.stands).1

pub take_bucket-requires-clause-room : goal.take_bucket-requires-clause-room
take_bucket-requires-clause-room c =
    let room = (some_mark c.args.self.now c.args.words.now c.args.mounted c.args.bucket c.args.total c.requires.next c.requires.stands).2 in
    let ok = c.args.self.now.counts.ok.0 in omega (arith, room, ok)

pub returns-clause-steps : goal.returns-clause-steps
returns-clause-steps c = λ shape known earlier a long order is.
    gives_raised shape known earlier c.args.self.now a c.args.words.now is c.args.mounted c.args.bucket c.args.total c.requires.next c.take_bucket.new.self c.take_bucket.result c.fetch_max-mark.result
    (subst (λ (stage : DeltaStage). TakesBucket c.args.bucket c.args.total c.fetch_max-mark.result (record c.args.self.now { stage = stage }) c.take_bucket.new.self c.take_bucket.result) c.behind_bucket-self.ensures c.take_bucket.ensures)
    (c.fetch_max-mark.ensures.found ∙ ap (word_at c.args.words.now) c.mark_of.ensures) c.fetch_max-mark.new.words
    (c.fetch_max-mark.ensures.words ∙ ap (λ (n : ℕ). slice_set c.args.words.now n (max (word_at c.args.words.now n) c.args.total)) c.mark_of.ensures)

pub returns-clause-less : goal.returns-clause-less
returns-clause-less c =
    raises_less c.args.self.now c.args.words.now c.fetch_max-mark.new.words c.args.mounted c.args.bucket c.args.total (pos (slice_index c.args.self.now.ranges c.args.bucket))
    c.fetch_max-mark.result c.take_bucket.new.self c.take_bucket.result c.requires.next
    (subst (λ (stage : DeltaStage). TakesBucket c.args.bucket c.args.total c.fetch_max-mark.result (record c.args.self.now { stage = stage }) c.take_bucket.new.self c.take_bucket.result) c.behind_bucket-self.ensures c.take_bucket.ensures)

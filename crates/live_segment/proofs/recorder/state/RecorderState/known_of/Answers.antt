use Rattle.std.proofs.Common.{refl, ap, sym, ◌∙◌, arith}
use mathlib.Core.Option.{some-injective}
use Rattle.segment_machine.specs.declared.actor.Known.{Known}
use Rattle.live_segment.specs.Known.{known_view}
use Rattle.live_segment.proofs.lemmas.Hist.HistAnswered.{view_there}
use Rattle.live_segment.proofs.lemmas.Hist.KnownNames.{is_there}
use Rattle.live_segment.proofs.recorder.state.RecorderState.known_of.Goals as goal

pub returns-then-index-reference : goal.returns-then-index-reference
returns-then-index-reference c = λ known means same.
    let me = c.args.self.now in
    let read = c.index.result.now in
    let below = c.requires.index in
    let count = me.known.ok.0 in
    let there = is_there me.known.items me.known.len c.args.index read count (omega (arith, below, count)) c.index.ensures in
    let here = view_there me.known.items me.seat.me.0.answers.names c.args.index read c.requires.at.1.listed there in
    c.if-index-reference.true (ap (λ (k : Known). k.reference) (some-injective (known_view read) known (sym here ∙ means)) ∙ same)

pub returns : goal.returns
returns c = λ known means.
    let me = c.args.self.now in
    let read = c.index.result.now in
    let below = c.requires.index in
    let count = me.known.ok.0 in
    let there = is_there me.known.items me.known.len c.args.index read count (omega (arith, below, count)) c.index.ensures in
    let here = view_there me.known.items me.seat.me.0.answers.names c.args.index read c.requires.at.1.listed there in
    (refl, sym (ap (λ (k : Known). k.reference) (some-injective (known_view read) known (sym here ∙ means))) ∙ c.if-index-reference.false)

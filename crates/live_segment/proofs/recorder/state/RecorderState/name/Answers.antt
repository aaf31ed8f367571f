use Rattle.std.proofs.Common.{ap, ◌∙◌}
use Rattle.segment_machine.specs.declared.actor.Known.{Known}
use Rattle.live_segment.proofs.lemmas.Add.Adds.{meant}
use Rattle.live_segment.proofs.recorder.state.RecorderState.name.Goals as goal

pub returns : goal.returns
returns c = λ known means.
    let me = c.args.self.now in
    c.as_slice.ensures.value ∙ ap (λ (k : Known). k.name)
    (meant me.known.items me.seat.me.0.answers.names c.args.histogram.index c.index.result.now known c.requires.at.1.listed c.index.ensures c.requires.knows means)

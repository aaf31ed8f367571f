use Rattle.std.proofs.Common.{subst}
use Rattle.segment_machine.specs.declared.actor.Known.{Known}
use Rattle.live_segment.specs.List.Values.{AreMostKeys}
use Rattle.live_segment.proofs.lemmas.Add.Adds.{meant}
use Rattle.live_segment.proofs.recorder.state.RecorderState.most_keys.Goals as goal

pub returns : goal.returns
returns c = λ known means.
    let me = c.args.self.now in
    subst (λ (k : Known). AreMostKeys c.args.segment.now k c.keys_of.result)
    (meant me.known.items me.seat.me.0.answers.names c.args.histogram.index c.index.result.now known c.requires.at.listed c.index.ensures c.requires.knows means) c.keys_of.ensures

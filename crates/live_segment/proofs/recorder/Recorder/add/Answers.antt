use Rattle.std.proofs.Common.{ℤ, w32, subst}
use Rattle.std.proofs.lemmas.Int.{to_z-of_z}
use Rattle.live_segment.specs.Answers.{ClaimsAdd}
use Rattle.live_segment.proofs.recorder.Recorder.add.Goals as goal

pub returns-clause-claims : goal.returns-clause-claims
returns-clause-claims c =
    subst (λ (value : ℤ). ClaimsAdd c.args.histogram value c.args.self.now.state c.add.result c.add.new.self)
    (to_z-of_z w32 c.args.value c.ranges.value) c.add.ensures.claims

use Rattle.std.proofs.Common.{rules, ap}
use mathlib.Core.Option.{some}
use Rattle.live_segment.proofs.lemmas.Snapshot.Answered.{answers_said}
use Rattle.live_segment.proofs.segment.Segment.answer.Goals as goal

pub compare_exchange_with-requires : goal.compare_exchange_with-requires
compare_exchange_with-requires c =
    let may = c.requires.may in (
      search rules,
      search rules,
      answers_said c.args.self.now.table.shared.key _ _ _ may.recorder c.args.said.now may.known may.snapshot may.says may.alone may.may,
    )

pub returns : goal.returns
returns c = λ known snapshot said alone.
    let told = c.compare_exchange_with.ensures.2 known snapshot (ap some said) alone in
    ((c.compare_exchange_with.ensures.0, c.compare_exchange_with.ensures.1, told.1), told.0)

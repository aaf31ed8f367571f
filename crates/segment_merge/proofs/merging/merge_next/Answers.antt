use Rattle.std.proofs.Common.{arith}
use Rattle.segment_merge.proofs.merging.merge_next.Goals as goal

pub returns-in-Ok-clause-answer : goal.returns-in-Ok-clause-answer
returns-in-Ok-clause-answer c = record {
  line = (c.args.part.name, c.in-Ok.units);
  reported = c.push_reserved.ensures.items;
  named = c.requires.part.name;
  outcome = c.in-Ok.ensures.answer;
}

pub returns-in-Err-clause-answer : goal.returns-in-Err-clause-answer
returns-in-Err-clause-answer c =
    let share = c.in-Err.ensures.answer.share in record {
      line = (c.args.part.name, c.from.result);
      reported = c.push_reserved-in-Err.ensures.items;
      named = c.requires.part.name;
      outcome = (c.in-Err.ensures.answer, c.requires.part.stop_name, omega (arith, share, c.units-share.ensures, c.units.ensures, c.from.ensures));
    }

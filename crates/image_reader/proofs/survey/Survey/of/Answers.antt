-- What is gathered from the list.
use Rattle.std.proofs.Common.{List, ℕ, subst}
use Rattle.image_reader.specs.Gathering.{IsGathered}
use Rattle.image_reader.proofs.survey.Survey.of.Goals as goal

pub returns-clause-survey : goal.returns-clause-survey
returns-clause-survey c =
    let gathered = subst (λ (references : List ℕ). IsGathered c.args.words.now c.args.head.now references c.in_ok-gathered.gathered) c.deref.ensures.value
    c.in_ok-gathered.ensures.gathered in
    record {
      listed = c.requires.listed;
      stopped_is = c.requires.stopped;
      hists_are = gathered.hists_are;
      later_are = gathered.later_are;
      bad_are = gathered.bad_are;
      samples_are = gathered.samples_are;
      ordered = c.in_ok-gathered.ensures.ready.samples;
    }

-- Each record is gathered after those so far.
use Rattle.std.proofs.Common.{ℕ, List, take, sym, subst}
use Rattle.std.proofs.lemmas.List.{take_more}
use Rattle.image_reader.specs.Gathering.{IsGathered}
use Rattle.image_reader.proofs.survey.gather.Goals as goal

pub loop-reference-preserved : goal.loop-reference-preserved
loop-reference-preserved c =
    let references : List ℕ = c.args.references.now in
    let at : ℕ = c.loop-reference.reference-index in
    record {
      gathered = subst (λ listed. IsGathered c.args.words.now c.args.head.now listed c.add.new.self)
          (sym (take_more references at 0 c.loop-reference-test.true))
          (c.in_ok-add.ensures.gathered (take at references) c.loop-reference.invariant.gathered);
      ready = c.in_ok-add.ensures.ready;
    }

use Rattle.std.proofs.Common.{◌∙◌, List, ℕ, sym, ap, subst, length}
use Rattle.std.specs.Prelude.{OnOk, Result, slice_set}
use Rattle.hist_core.specs.declared.call.Stepped.{Stepped}
use Rattle.hist_core.specs.declared.fault.WorldFault.{WorldFault}
use Rattle.hist_core.specs.World.{ChangesOneWord}
use Rattle.stepped.specs.declared.fault.ReplayFault.{ReplayFault}
use Rattle.stepped.specs.Replay.{IsDifference}
use Rattle.stepped.proofs.Shown.{differs_in, is_stepped, new_words, same_length, same_ok}
use Rattle.stepped.proofs.replay.Replay.advance.Goals as goal

pub change_of-requires : goal.change_of-requires
change_of-requires c =
    let old = c.args.self.now.world.world_state.words.items in let new = c.step.new.self.world_state.words.items in
    let ok = same_ok ReplayFault c.step.result c.in_ok-said.said c.in_ok-said.ensures.cases in
    let changes = subst (λ (made : Result Stepped WorldFault). OnOk made (∥ ChangesOneWord old new ∥₁)) ok c.step.ensures.word in
    ap length (c.deref.ensures.value ∙ c.args.self.now.in_step) ∙ (same_length old new changes ∙ ap length (sym c.words.ensures.words))

pub invariant_of-self-in-Some : goal.invariant_of-self-in-Some
invariant_of-self-in-Some c =
    let before = c.args.self.now.before.items in let old = c.args.self.now.world.world_state.words.items in let new = c.step.new.self.world_state.words.items in
    let change = c.in-Some.change in
    let differs : IsDifference old new change = differs_in c.deref.result.now c.words.result.now old new change
    (c.deref.ensures.value ∙ c.args.self.now.in_step) c.words.ensures.words c.in-Some.ensures in
    record {
      in_step = ap (λ (l : List ℕ). slice_set l change.at change.new) c.args.self.now.in_step ∙ sym (new_words old new change (subst (λ (made : Result Stepped WorldFault). OnOk made (∥ ChangesOneWord old new ∥₁)) (same_ok ReplayFault c.step.result c.in_ok-said.said c.in_ok-said.ensures.cases) c.step.ensures.word) differs);
    }

pub returns-in-Some-clause-ok : goal.returns-in-Some-clause-ok
returns-in-Some-clause-ok c =
    let old = c.args.self.now.world.world_state in let new = c.step.new.self.world_state in let change = c.in-Some.change in
    let said = c.in_ok-said.said in let ok = same_ok ReplayFault c.step.result said c.in_ok-said.ensures.cases in
    let differs : IsDifference old.words.items new.words.items change = differs_in c.deref.result.now c.words.result.now old.words.items new.words.items change
    (c.deref.ensures.value ∙ c.args.self.now.in_step) c.words.ensures.words c.in-Some.ensures in
    let changes = subst (λ (made : Result Stepped WorldFault). OnOk made (∥ ChangesOneWord old.words.items new.words.items ∥₁)) ok c.step.ensures.word in (
      is_stepped c.args.place.actor old new c.step.result said ok (c.step.ensures.faults, c.step.ensures.others, c.step.ensures.says, c.step.ensures.steps),
      record {
        near = differs.near;
        was = differs.was;
        is = new_words old.words.items new.words.items change changes differs;
        other = differs.other;
      },
    )

pub returns-in-None-clause-ok : goal.returns-in-None-clause-ok
returns-in-None-clause-ok c =
    let old = c.args.self.now.world.world_state in let new = c.step.new.self.world_state in let said = c.in_ok-said.said in (
      is_stepped c.args.place.actor old new c.step.result said (same_ok ReplayFault c.step.result said c.in_ok-said.ensures.cases)
          (c.step.ensures.faults, c.step.ensures.others, c.step.ensures.says, c.step.ensures.steps),
      sym c.words.ensures.words ∙ (c.in-None.ensures ∙ (c.deref.ensures.value ∙ c.args.self.now.in_step)),
    )

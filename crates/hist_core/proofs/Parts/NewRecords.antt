-- A `hist` makes its record.
use Rattle.segment_invariant.proofs.Prelude.Std.{◌≡◌, Bool, false, ℕ, ◌+◌, List, length, inl, sym, ap, subst, ◌∙◌, All, Contains}
use Rattle.segment_invariant.proofs.Prelude.Machine.{Dimensions, Actor}
use Rattle.list_core.proofs.Prefixes.{prefix_of_prefix}
use Rattle.hist_core.specs.declared.hist.Hist.{Hist}
use Rattle.hist_core.specs.declared.hist.HistStep.{HistStep}
use Rattle.hist_core.specs.declared.hist.HistStage.{HistStage}
use Rattle.hist_core.specs.declared.hist.HistStage.TheVariants.{Making, Walking}
use Rattle.hist_core.specs.declared.new_record.NewRecord.{NewRecord as NewRecordOf}
use Rattle.hist_core.specs.declared.new_record.NewRecordStep.{NewRecordStep}
use Rattle.hist_core.specs.declared.new_record.NewRecordStep.TheVariants as made
use Rattle.list_core.specs.Walk.{stands_behind}
use Rattle.segment_machine.specs.Made.{SawOtherName}
use Rattle.hist_core.specs.StepsBy.{SharedEffect, links, raises, DoesOnly, FrameOfStep, SawEnd, StepsBy}
use Rattle.hist_core.specs.Hist.{wanted_of, IsHist, StandsAtStage, HistGives, IsMade, serves_asked}
use Rattle.hist_core.specs.NewRecord.{IsCause, NewRecordGives, is_full, serves_wanted}
use Rattle.hist_core.proofs.Parts.Allocations.{goes_with}
use Rattle.hist_core.proofs.Parts.Deeds.{does_less}
use Rattle.hist_core.proofs.Parts.Walks.{others_still, asks_on}

module _ (shape : Dimensions) (version : ℕ) (h : Hist) (a : Actor) (words : List ℕ) (is : IsHist shape h a) (m : NewRecordOf) (makes : h.stage ≡ Making m) where
  pub stood_making : StandsAtStage shape h a is.given (Making m)
  stood_making = subst (StandsAtStage shape h a is.given) makes is.stands

  -- it continues at another stage
  on : (stage : HistStage) (b : Actor) → FrameOfStep a b → StandsAtStage shape (record h { stage = stage }) b is.given stage → IsHist shape (record h { stage = stage }) b
  on stage b beside stands = record {
    asking = asks_on shape h is.asking h.reference h.walk stage;
    segment = ap (λ s. s.shape) beside.segment ∙ is.segment;
    lawful_shape = is.lawful_shape;
    given = is.given;
    walk = is.walk;
    reach = is.reach;
    front = prefix_of_prefix is.given a.seen.chain b.seen.chain is.front beside.chain;
    stands = stands;
  }

  -- it has still seen the end of the list
  seen_still : (b : Actor) → b.seen.chain ≡ a.seen.chain → b.seen.ends ≡ a.seen.ends → SawEnd b.seen
  seen_still b chain ends = subst (λ (p : List ℕ × List ℕ). Contains p.0 (stands_behind p.1 + 3)) (λ i. (sym ends i, sym chain i)) stood_making.1

  -- it makes the record that is asked for
  serves_it : (full : Bool) (b : Actor) → DoesOnly false full (serves_wanted (wanted_of h)) a b → DoesOnly false full (serves_asked h a) a b
  serves_it full b = does_less false full (serves_wanted (wanted_of h)) (serves_asked h a) a b so
    where
      so : (deed : SharedEffect) → serves_wanted (wanted_of h) deed → serves_asked h a deed
      so (links made) it = it
      so (raises words) it = (
        (subst (All (SawOtherName a.seen h.asked.name.items)) stood_making.0 stood_making.2, stood_making.1),
        (is.asking.letters, is.asking.spells, it ∙ ap (λ (l : List ℕ). 4 + length l) is.asking.payload),
      )

  -- for each result of a step of the new record
  pub makes_so : (x : NewRecordOf) (new_words : List ℕ) (says : NewRecordStep) (new : Hist) (result : HistStep)
      → StepsBy shape.size version a words new_words (NewRecordGives shape (wanted_of h) x says a) → IsMade (record h { stage = Making x }) says new result
      → StepsBy shape.size version a words new_words (HistGives shape new result a)
  makes_so x new_words made.More new result goes (new_is, result_is) =
      subst (λ (p : Hist × HistStep). StepsBy shape.size version a words new_words (HistGives shape p.0 p.1 a)) (λ i. (sym new_is i, sym result_is i))
      (goes_with goes (λ b (beside, does, (chain, ends, singles), makes_on). (
        beside,
        serves_it false b does,
        on (Making x) b beside (
          stood_making.0 ∙ sym chain,
          seen_still b chain ends,
          others_still a b beside h is.given stood_making.2,
          makes_on,
        ),
      )))
  makes_so x new_words made.Done new result goes (new_is, result_is) =
      subst (λ (p : Hist × HistStep). StepsBy shape.size version a words new_words (HistGives shape p.0 p.1 a)) (λ i. (sym new_is i, sym result_is i))
      (goes_with goes (λ b (beside, does, turns). (beside, serves_it false b does, on Walking b beside (turns, others_still a b beside h is.given stood_making.2))))
  makes_so x new_words (made.Refused cause) new result goes (new_is, result_is) =
      subst (λ (p : Hist × HistStep). StepsBy shape.size version a words new_words (HistGives shape p.0 p.1 a)) (λ i. (sym new_is i, sym result_is i))
      (goes_with goes (λ b (beside, does, (chain, ends, singles), turns, is_cause). (
        beside,
        serves_it (is_full cause) b does,
        turns,
        inl (
          (
            subst (All (SawOtherName b.seen h.asked.name.items)) (stood_making.0 ∙ sym chain) (others_still a b beside h is.given stood_making.2),
            seen_still b chain ends,
          ),
          is.asking.letters,
          is.asking.spells,
          subst (λ (l : List ℕ). IsCause cause (4 + length l) a b) is.asking.payload is_cause,
        ),
      )))

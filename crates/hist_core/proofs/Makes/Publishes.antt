-- A record that is made is put on the list.
use Rattle.segment_invariant.proofs.Prelude.Std.{◌≡◌, ℕ, true, false, List, length, refl, sym, ap, subst, ◌∙◌, props}
use Rattle.segment_invariant.proofs.Prelude.Machine.{Dimensions, Actor, Made}
use Rattle.std.specs.Prelude.{is_some}
use Rattle.list_core.specs.declared.publish.PubStep.{PubStep}
use Rattle.list_core.specs.declared.publish.PubStep.TheVariants as put
use Rattle.list_core.specs.declared.publish.PubStage.{PubStage}
use Rattle.list_core.specs.declared.publish.PubStage.TheVariants.{StoreOwnNext, LoadTail, Link, MoveTail, Published, Strayed}
use Rattle.list_core.specs.Publish.{Publishing as PublishingOf, IsReach, IsWithin, answer}
use Rattle.list_core.specs.Publish as publish
use Rattle.segment_machine.specs.Stages.{PublishesAt}
use Rattle.hist_core.specs.declared.new_record.NewRecord.{NewRecord}
use Rattle.hist_core.specs.declared.new_record.NewRecordStep.{NewRecordStep}
use Rattle.hist_core.specs.declared.new_record.NewRecordStep.TheVariants.{More, Done}
use Rattle.hist_core.specs.declared.new_record.NewRecordStage.TheVariants.{Publishing}
use Rattle.hist_core.specs.StepsBy.{DoesOnly, FrameOfStep, SeesNoMore, StepsBy, IsFree, is_tied}
use Rattle.hist_core.specs.NewRecord.{Wanted, IsNewRecord, StandsAtStage, NewRecordGives, IsPublished, serves_wanted}
use Rattle.hist_core.proofs.Makes.Drafts.{may_still}
use Rattle.hist_core.proofs.Parts.Allocations.{goes_with, publishes_on}

-- what a publish stores into lies within the words in one way at most
pub one_way : (n : ℕ) (stage : PubStage) → IsProp (IsWithin n stage)
one_way n StoreOwnNext = hlevel props
one_way n LoadTail = hlevel props
one_way n (Link tail) = hlevel props
one_way n (MoveTail old new linked) = hlevel props
one_way n Published = hlevel props
one_way n Strayed = hlevel props

-- a publish that has ended has published, and it never strays
rests_at : (b : Actor) (reference : ℕ) (made : Made) (stage : PubStage) → answer stage ≡ put.Done → PublishesAt b reference made stage → IsFree b
rests_at b reference made Published ends stands = ap is_tied stands.0
rests_at b reference made StoreOwnNext ends stands = cc ends
rests_at b reference made LoadTail ends stands = cc ends
rests_at b reference made (Link tail) ends stands = cc ends
rests_at b reference made (MoveTail old new linked) ends stands = cc ends
rests_at b reference made Strayed ends stands = absurd stands

never_strays : (b : Actor) (reference : ℕ) (made : Made) (stage : PubStage) → answer stage ≡ put.Stray → PublishesAt b reference made stage → ⊥
never_strays b reference made Published ends stands = cc ends
never_strays b reference made StoreOwnNext ends stands = cc ends
never_strays b reference made LoadTail ends stands = cc ends
never_strays b reference made (Link tail) ends stands = cc ends
never_strays b reference made (MoveTail old new linked) ends stands = cc ends
never_strays b reference made Strayed ends stands = stands

module _ (shape : Dimensions) (version : ℕ) (wanted : Wanted) (m : NewRecord) (a : Actor) (words : List ℕ) (long : length words ≡ shape.size)
    (is : IsNewRecord shape wanted m a) (x : PublishingOf) (publishes : m.stage ≡ Publishing x) where
  stands : StandsAtStage shape wanted a (Publishing x)
  stands = subst (StandsAtStage shape wanted a) publishes is.stands

  module _ (y : PublishingOf) (new_words : List ℕ) (says : PubStep) (step : publish.IsStep x words y new_words says) where
    puts : StepsBy shape.size version a words new_words (λ b. FrameOfStep a b × DoesOnly false false (serves_wanted wanted) a b × SeesNoMore a b × PublishesAt b y.reference wanted.made y.stage)
    puts =
        let size = ap (λ (d : Dimensions). d.size) is.segment in
        subst (λ (n : ℕ). StepsBy n version a words new_words (λ b. FrameOfStep a b × DoesOnly false false (serves_wanted wanted) a b × SeesNoMore a b × PublishesAt b y.reference wanted.made y.stage)) size
        (publishes_on (serves_wanted wanted) version a wanted.made x y words new_words says refl stands.0 (long ∙ sym size) step)

    -- it continues
    still_puts : is_some (publish.next_event y) ≡ true → IsReach shape.size y
        → StepsBy shape.size version a words new_words (NewRecordGives shape wanted (record { stage = Publishing y }) More a)
    still_puts more reach = goes_with puts (λ b (beside, does, list, goes). (
      beside,
      does,
      list,
      record {
        segment = ap (λ s. s.shape) beside.segment ∙ is.segment;
        lawful_shape = is.lawful_shape;
        draft = may_still shape wanted a b beside is.draft;
        stands = (goes, more, reach);
      },
    ))

    -- the record is on the list
    has_put : (new : NewRecord) → says ≡ put.Done → StepsBy shape.size version a words new_words (NewRecordGives shape wanted new Done a)
    has_put new done = goes_with puts (λ b (beside, does, list, goes). (beside, does, rests_at b y.reference wanted.made y.stage (sym step.answers ∙ done) goes))

  -- for each result of a step of the publish
  pub publishes_so : (y : PublishingOf) (new_words : List ℕ) (says : PubStep) (result : NewRecordStep) → publish.IsStep x words y new_words says
      → (says ≡ put.More → is_some (publish.next_event y) ≡ true) → IsReach shape.size y → IsPublished says result
      → StepsBy shape.size version a words new_words (NewRecordGives shape wanted (record { stage = Publishing y }) result a)
  publishes_so y new_words put.More result step more reach result_is =
      subst (λ (r : NewRecordStep). StepsBy shape.size version a words new_words (NewRecordGives shape wanted (record { stage = Publishing y }) r a)) (sym result_is)
      (still_puts y new_words put.More step (more refl) reach)
  publishes_so y new_words put.Done result step more reach result_is =
      subst (λ (r : NewRecordStep). StepsBy shape.size version a words new_words (NewRecordGives shape wanted (record { stage = Publishing y }) r a)) (sym result_is)
      (has_put y new_words put.Done step (record { stage = Publishing y }) refl)
  publishes_so y new_words put.Stray result step more reach result_is =
      goes_with (puts y new_words put.Stray step) (λ b (beside, does, list, goes). absurd (never_strays b y.reference wanted.made y.stage (sym step.answers) goes))

  -- what the step of its publish asks for
  pub asks_reach : IsReach (length words) x
  asks_reach = subst (λ (n : ℕ). IsReach n x) (sym long) stands.2

  pub asks_more : is_some (publish.next_event x) ≡ true
  asks_more = stands.1

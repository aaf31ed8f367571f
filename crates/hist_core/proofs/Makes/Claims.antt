-- The words of a record that is made are claimed.
use Rattle.segment_invariant.proofs.Prelude.Std.{◌≡◌, ℕ, ◌+◌, ◌≤◌, Bool, true, false, List, [], ◌∷◌, length, refl, sym, ap, subst, ◌∙◌, arith, Some}
use Rattle.segment_invariant.proofs.Prelude.Machine.{Dimensions, word_at, Actor, Own, Idle, Note, Notes, noted, Refusal}
use Rattle.std.specs.Prelude.{is_some}
use Rattle.alloc_core.specs.declared.alloc.AllocStep.{AllocStep}
use Rattle.alloc_core.specs.declared.alloc.AllocStep.TheVariants as said
use Rattle.alloc_core.specs.declared.alloc.AllocStage.TheVariants.{Claimed}
use Rattle.alloc_core.specs.Alloc.{Allocation, IsAimed, IsLawful}
use Rattle.alloc_core.specs.Alloc as alloc
use Rattle.alloc_core.specs.Event as atomic
use Rattle.segment_machine.specs.Actor.{AreOwnBlocksApart}
use Rattle.segment_machine.specs.Allocating.{new_own}
use Rattle.segment_machine.specs.Note.{asks}
use Rattle.segment_machine.specs.Stages.{FollowsAllocation, StandsAtAllocStage}
use Rattle.segment_invariant.proofs.Lists.Elements.{at_from}
use Rattle.segment_invariant.proofs.Lists.Ends.{own_found}
use Rattle.segment_calls.specs.declared.refusal.Refusal.TheVariants as why
use Rattle.hist_core.specs.declared.new_record.NewRecord.{NewRecord}
use Rattle.hist_core.specs.declared.new_record.NewRecordStep.{NewRecordStep}
use Rattle.hist_core.specs.declared.new_record.NewRecordStep.TheVariants.{More, Refused}
use Rattle.hist_core.specs.declared.new_record.NewRecordStage.TheVariants.{Allocating, Filling}
use Rattle.hist_core.specs.StepsBy.{DoesOnly, FrameOfStep, SeesNoMore, StepsBy, is_tied}
use Rattle.hist_core.specs.NewRecord.{Wanted, IsNewRecord, StandsAtStage, NewRecordGives, IsAllocated, IsCause, is_full, serves_wanted}
use Rattle.hist_core.proofs.Makes.Drafts.{may_still}
use Rattle.hist_core.proofs.Parts.Allocations.{allocates_on, goes_with}
use Rattle.hist_core.proofs.Parts.Deeds.{does_still, is_full_end}
use Rattle.hist_core.proofs.Parts.Claims.{IsEnd, changed_at, claimed_of, claimed_suits, goes_noting, rests_at}
use Rattle.hist_core.proofs.Parts.Alone.{frame_of}

module _ (shape : Dimensions) (version : ℕ) (wanted : Wanted) (m : NewRecord) (a : Actor) (words : List ℕ) (long : length words ≡ shape.size)
    (is : IsNewRecord shape wanted m a) (x : Allocation) (allocates : m.stage ≡ Allocating x) where
  stands : StandsAtStage shape wanted a (Allocating x)
  stands = subst (StandsAtStage shape wanted a) allocates is.stands

  module _ (y : Allocation) (new_words : List ℕ) (says : AllocStep) (step : alloc.IsStep x words y new_words says) where
    claims : StepsBy shape.size version a words new_words (λ b. FrameOfStep a b × DoesOnly false (is_full_end says) (serves_wanted wanted) a b × AreOwnBlocksApart b × FollowsAllocation b y × (b.seen.words ≡ a.seen.words) × SeesNoMore a b × IsEnd says x.size a b)
    claims =
        let size = ap (λ (d : Dimensions). d.size) is.segment in
        subst (λ (n : ℕ). StepsBy n version a words new_words (λ b. FrameOfStep a b × DoesOnly false (is_full_end says) (serves_wanted wanted) a b × AreOwnBlocksApart b × FollowsAllocation b y × (b.seen.words ≡ a.seen.words) × SeesNoMore a b × IsEnd says x.size a b)) size
        (allocates_on (serves_wanted wanted) version a x y words new_words says stands.0 stands.3 (long ∙ sym size) step)

    -- it continues
    still_claims : says ≡ said.More → is_some (alloc.next_event y) ≡ true → StepsBy shape.size version a words new_words (NewRecordGives shape wanted (record { stage = Allocating y }) More a)
    still_claims goes_on more = goes_with claims (λ b (beside, does, apart, goes, words_same, list, ends). (
      beside,
      subst (λ (s : AllocStep). DoesOnly false (is_full_end s) (serves_wanted wanted) a b) goes_on does,
      list,
      record {
        segment = ap (λ s. s.shape) beside.segment ∙ is.segment;
        lawful_shape = is.lawful_shape;
        draft = may_still shape wanted a b beside is.draft;
        stands = (
          goes,
          more,
          ap (λ (z : Allocation). z.tag) step.new_is ∙ stands.2,
          ap (λ (z : Allocation). z.size) step.new_is ∙ stands.3,
        );
      },
    ))

    -- it is refused
    is_refused : (why : Refusal) (new : NewRecord) → is_full_end says ≡ is_full why → ((b : Actor) → FollowsAllocation b y → b.hand.place ≡ Idle) → ((b : Actor) → IsEnd says x.size a b → IsCause why x.size a b)
        → StepsBy shape.size version a words new_words (NewRecordGives shape wanted new (Refused why) a)
    is_refused why new fills idle cause = goes_with claims (λ b (beside, does, apart, goes, words_same, list, ends).
        (beside, subst (λ (full : Bool). DoesOnly false full (serves_wanted wanted) a b) fills does, list, ap is_tied (idle b goes), subst (λ (n : ℕ). IsCause why n a b) stands.3 (cause b ends)))

    -- it has a block, which is to be the record: it stores the payload there
    has_claimed : (at : ℕ) → says ≡ said.Done at → StepsBy shape.size version a words new_words (NewRecordGives shape wanted (record { stage = Filling at 0 }) More a)
    has_claimed at done = goes_noting claims (λ b (beside, does, apart, goes, words_same, list, ends). claimed b beside does list apart goes (claimed_of y.stage at (sym done ∙ step.answers)))
      where
        claimed : (b : Actor) → FrameOfStep a b → DoesOnly false (is_full_end says) (serves_wanted wanted) a b → SeesNoMore a b → AreOwnBlocksApart b → FollowsAllocation b y → (size : ℕ) × (y.stage ≡ Claimed at size)
            → (notes : List Note) × (c : Actor) × Notes b notes c × NewRecordGives shape wanted (record { stage = Filling at 0 }) More a c
        claimed b beside does list apart goes (size, ends) =
            let has = subst (StandsAtAllocStage b y) ends goes.stands in
            let place = subst (IsAimed y) ends goes.lawful.aimed in
            let suits : x.size ≤ size = claimed_suits x x.stage (word_at words (atomic.spot step.event)) at size step.event step.next stands.0.lawful.aimed
            (sym (ap (λ (z : Allocation). z.stage) step.new_is) ∙ ends) in
            let own : Own = new_own at size y.tag in
            let there = at_from b.hand.own own has.1 in
            let found = own_found b.hand.own there.0 own (apart (λ spent. cc (sym has.0 ∙ spent))) there.1 in
            let c : Actor = noted b (asks at wanted.made) in
            let enough = stands.3 in
            let ends_within = subst (λ (d : Dimensions). at + size ≤ d.size) (goes.shape ∙ ap (λ s. s.shape) beside.segment ∙ is.segment) place.within in
            let then_beside = frame_of a c beside.role beside.segment beside.units beside.entries beside.deltas beside.names beside.chain beside.words in (
              asks at wanted.made ∷ [],
              c,
              ((own, has.1, refl, refl), refl),
              (
                then_beside,
                does_still false false (serves_wanted wanted) a a b c refl refl
                    (subst (λ (s : AllocStep). DoesOnly false (is_full_end s) (serves_wanted wanted) a b) done does),
                list,
                record {
                  segment = ap (λ s. s.shape) beside.segment ∙ is.segment;
                  lawful_shape = is.lawful_shape;
                  draft = may_still shape wanted a c then_beside is.draft;
                  stands = (
                    ap is_tied has.0,
                    is.draft.some,
                    is.draft.first,
                    (place.from, omega (arith, suits, enough, ends_within)),
                    (
                      record own { made = Some wanted.made },
                      (
                        changed_at b.hand.own at (λ o. record o { made = Some wanted.made }) own (λ o. refl) found,
                        refl,
                        refl,
                        ap (λ (z : Allocation). z.tag) step.new_is ∙ stands.2,
                        omega (arith, suits, enough),
                      ),
                      record { short = omega arith; words = refl },
                    ),
                  );
                },
              ),
            )

  -- for each result of a step of the allocation
  pub allocates_so : (y : Allocation) (new_words : List ℕ) (says : AllocStep) (new : NewRecord) (result : NewRecordStep) → alloc.IsStep x words y new_words says
      → (says ≡ said.More → is_some (alloc.next_event y) ≡ true) → IsAllocated (record { stage = Allocating y }) says new result
      → StepsBy shape.size version a words new_words (NewRecordGives shape wanted new result a)
  allocates_so y new_words said.More new result step more (new_is, result_is) =
      subst (λ (p : NewRecord × NewRecordStep). StepsBy shape.size version a words new_words (NewRecordGives shape wanted p.0 p.1 a)) (λ i. (sym new_is i, sym result_is i))
      (still_claims y new_words said.More step refl (more refl))
  allocates_so y new_words (said.Done at) new result step more (new_is, result_is) =
      subst (λ (p : NewRecord × NewRecordStep). StepsBy shape.size version a words new_words (NewRecordGives shape wanted p.0 p.1 a)) (λ i. (sym new_is i, sym result_is i))
      (has_claimed y new_words (said.Done at) step at refl)
  allocates_so y new_words said.Full new result step more result_is =
      subst (λ (r : NewRecordStep). StepsBy shape.size version a words new_words (NewRecordGives shape wanted new r a)) (sym result_is)
      (is_refused y new_words said.Full step why.Full new refl (λ b goes. rests_at b y y.stage (λ e. cc (step.answers ∙ e)) goes.stands) (λ b ends. ends))
  allocates_so y new_words said.Corrupt new result step more result_is =
      subst (λ (r : NewRecordStep). StepsBy shape.size version a words new_words (NewRecordGives shape wanted new r a)) (sym result_is)
      (is_refused y new_words said.Corrupt step why.Corrupt new refl (λ b goes. rests_at b y y.stage (λ e. cc (step.answers ∙ e)) goes.stands) (λ b ends. ends))

  -- what the step of its allocation asks for
  pub asks_long : length words ≡ x.shape.size
  asks_long = long ∙ sym (ap (λ (d : Dimensions). d.size) (stands.0.shape ∙ is.segment))

  pub asks_more : is_some (alloc.next_event x) ≡ true
  asks_more = stands.1

  -- its allocation had a valid start
  pub asks_lawful : IsLawful x
  asks_lawful = stands.0.lawful

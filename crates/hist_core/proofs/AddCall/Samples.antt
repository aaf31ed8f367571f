-- An `add` looks for the sample of its value.
use Rattle.segment_invariant.proofs.Prelude.Std.{◌≡◌, ℕ, ◌+◌, ◌*◌, ◌%◌, ◌^◌, ℤ, Bool, true, false, true≢false, List, ◌∷◌, ◌++◌, inr, refl, sym, ap, subst, ◌∙◌, arith, Contains, if◌then◌else◌}
use Rattle.segment_invariant.proofs.Prelude.Machine.{Dimensions, IsShape, is_reference, Actor, Known, has_buckets, IsFirstSample, buckets_of}
use Rattle.segment_machine.specs.declared.actor.Made.TheVariants.{Sample}
use Rattle.hist_core.specs.declared.add.Add.{Add}
use Rattle.hist_core.specs.declared.add.AddStep.{AddStep}
use Rattle.hist_core.specs.declared.add.AddStage.{AddStage}
use Rattle.hist_core.specs.declared.add.AddStage.TheVariants as stage
use Rattle.hist_core.specs.declared.sample_search.SampleSearch.{SampleSearch}
use Rattle.hist_core.specs.declared.sample_search.SampleSearchStep.{SampleSearchStep}
use Rattle.hist_core.specs.declared.sample_search.SampleSearchStep.TheVariants as found
use Rattle.hist_core.specs.Add.{Amid, HasEntry, IsAdd, IsSampled, OpensWith, StandsAtStage, SawNeedOfBlock, StaysOpen, AddGives, block_words, serves_counted}
use Rattle.hist_core.specs.StepsBy.{SharedEffect, links, raises, DoesOnly, FrameOfStep, StepsBy, IsFree}
use Rattle.hist_core.specs.SampleSearch.{SampleSearchGives, SawNoSample, serves_sample}
use Rattle.hist_core.specs.NewRecord.{IsCause, is_full}
use Rattle.hist_core.proofs.AddCall.Entries.{counting_of}
use Rattle.hist_core.proofs.AddCall.Going.{goes_still}
use Rattle.hist_core.proofs.AddCall.Refusals.{beside_aside, refuses}
use Rattle.hist_core.proofs.Worlds.Free.{free_turns}
use Rattle.hist_core.proofs.Parts.Allocations.{goes_with}
use Rattle.hist_core.proofs.Parts.Deeds.{does_less}
use Rattle.hist_core.proofs.AddCall.Searches.{begins_at}

-- ---- it begins

-- an actor that is free, knows the histogram and has visited its record is where an `add` begins
pub stands_first : (shape : Dimensions) (known : Known) (amid : Amid) (add : Add) (a : Actor) (at : AddStage) → OpensWith shape known add at → a.segment.shape ≡ shape
    → IsShape shape → Contains a.answers.names known → is_reference shape.size known.reference ≡ true
    → (front behind : List ℕ) × (a.seen.chain ≡ front ++ known.reference ∷ behind) → HasEntry known amid add a false false → IsFree a
    → StandsAtStage shape known amid add a at
stands_first shape known amid add a stage.LoadingSingle bucketed segment lawful knows reach met has free = (bucketed, has, free_turns a.hand.place free)
stands_first shape known amid add a (stage.Sampling sample_search) (sparse, valued, starts) segment lawful knows reach met has free = (
  has,
  sparse,
  starts.of,
  starts.counts,
  begins_at shape known.reference add.value sample_search a starts segment lawful free (known, (knows, refl, sparse)) valued
      (λ none. true≢false (sym (sym (ap (is_reference shape.size) none) ∙ reach))) reach met,
)
stands_first shape known amid add a (stage.Packing old new) none segment lawful knows reach met has free = absurd none
stands_first shape known amid add a stage.LoadingCounts none segment lawful knows reach met has free = absurd none
stands_first shape known amid add a stage.SeekingCounts none segment lawful knows reach met has free = absurd none
stands_first shape known amid add a (stage.Allocating alloc) none segment lawful knows reach met has free = absurd none
stands_first shape known amid add a (stage.Mounting at) none segment lawful knows reach met has free = absurd none
stands_first shape known amid add a (stage.Purging at counts) none segment lawful knows reach met has free = absurd none
stands_first shape known amid add a (stage.LoadingAgain counts) none segment lawful knows reach met has free = absurd none
stands_first shape known amid add a (stage.Disabling counts old) none segment lawful knows reach met has free = absurd none
stands_first shape known amid add a (stage.Moving counts bucket units) none segment lawful knows reach met has free = absurd none
stands_first shape known amid add a (stage.Counting at) none segment lawful knows reach met has free = absurd none
stands_first shape known amid add a stage.Summing none segment lawful knows reach met has free = absurd none
stands_first shape known amid add a stage.Noting none segment lawful knows reach met has free = absurd none

-- ---- a step

module _ (shape : Dimensions) (known : Known) (amid : Amid) (add : Add) (a : Actor) (words : List ℕ) (is : IsAdd shape known amid add a) (s : SampleSearch)
    (samples : add.stage ≡ stage.Sampling s) where
  pub stood_sampling : StandsAtStage shape known amid add a (stage.Sampling s)
  stood_sampling = subst (StandsAtStage shape known amid add a) samples is.stands

  -- an event that leaves its frame leaves this open
  still_open : (b : Actor) → FrameOfStep a b → StaysOpen a b
  still_open b beside = (beside.units, beside.entries ∙ ap (λ e. record a.entries { running = e.running }) (sym beside.entries))

  -- the block that it may need is a sample
  words_are : block_words known ≡ 8
  words_are = ap (λ (t : Bool). if t then 4 + 2 * buckets_of known.spec else 8) (ap has_buckets stood_sampling.1)

  has_still : (b : Actor) → FrameOfStep a b → HasEntry known amid add b false false
  has_still b beside = ap (λ e. e.running) beside.entries ∙ stood_sampling.0

  -- if it has seen no sample of its value, it needs one
  needs_sample : (x : SampleSearch) → x ≡ record s { walk = x.walk; stage = x.stage } → (b : Actor) → SawNoSample x.histogram x.value b.seen
      → SawNeedOfBlock known (add.value, add.units) b
  needs_sample x same b none = record {
    counts = λ bucketed. absurd (true≢false (sym bucketed ∙ ap has_buckets stood_sampling.1));
    value = λ sparse. subst (λ (p : ℕ × ℤ). SawNoSample p.0 p.1 b.seen)
        (λ i. ((ap (λ (y : SampleSearch). y.histogram) same ∙ stood_sampling.2) i, (ap (λ (y : SampleSearch). y.value) same ∙ stood_sampling.3) i)) none;
  }

  -- its search makes the sample of its value
  serves_it : (full : Bool) (x : SampleSearch) → x ≡ record s { walk = x.walk; stage = x.stage } → (b : Actor) → DoesOnly false full (serves_sample x a) a b
      → DoesOnly false full (serves_counted known add a) a b
  serves_it full x same b = does_less false full (serves_sample x a) (serves_counted known add a) a b so
    where
      so : (deed : SharedEffect) → serves_sample x a deed → serves_counted known add a deed
      so (links made) it = it ∙ (λ i. Sample
          ((ap (λ (y : SampleSearch). y.histogram) same ∙ (stood_sampling.2 ∙ is.counting.reference)) i)
          ((ap (λ (y : SampleSearch). y.value) same ∙ stood_sampling.3) i))
      so (raises words) (it, none) = (it ∙ sym words_are, needs_sample x same a none)

  -- for each result of a step of the search
  pub samples_so : (x : SampleSearch) → x ≡ record s { walk = x.walk; stage = x.stage } → (new_words : List ℕ) (says : SampleSearchStep) (new : Add) (result : AddStep)
      → StepsBy shape.size add.version a words new_words (SampleSearchGives shape x says a) → IsSampled (record add { stage = stage.Sampling x }) says new result
      → StepsBy shape.size add.version a words new_words (AddGives shape known amid new result a)
  samples_so x same new_words found.More new result goes (new_is, result_is) =
      subst (λ (p : Add × AddStep). StepsBy shape.size add.version a words new_words (AddGives shape known amid p.0 p.1 a)) (λ i. (sym new_is i, sym result_is i))
      (goes_with goes (λ b (beside, does, searches). goes_still shape known amid add a is (stage.Sampling x) b (beside_aside a b beside) (still_open b beside) (serves_it false x same b does) (
        has_still b beside,
        stood_sampling.1,
        ap (λ (y : SampleSearch). y.histogram) same ∙ stood_sampling.2,
        ap (λ (y : SampleSearch). y.value) same ∙ stood_sampling.3,
        searches,
      )))
  samples_so x same new_words (found.Found sample) new result goes (new_is, result_is) =
      subst (λ (p : Add × AddStep). StepsBy shape.size add.version a words new_words (AddGives shape known amid p.0 p.1 a)) (λ i. (sym new_is i, sym result_is i))
      (goes_with goes (λ b (beside, does, free, first, within).
      let many = is.lawful_shape.many in
      let here : (sample + 6) % 2 ^ 64 ≡ sample + 6 = omega (arith, within, many) in
      goes_still shape known amid add a is (stage.Counting ((sample + 6) % 2 ^ 64)) b (beside_aside a b beside) (still_open b beside) (serves_it false x same b does) (
        has_still b beside,
        inr (
          sample,
          free_turns b.hand.place free,
          (subst (λ (l : List Known). Contains l known) (sym beside.names) is.knows, refl, stood_sampling.1),
          subst (λ (p : ℕ × _). IsFirstSample b.seen p.0 p.1 sample)
              (λ i. ((ap (λ (y : SampleSearch). y.histogram) same ∙ stood_sampling.2) i, (ap (λ (y : SampleSearch). y.value) same ∙ stood_sampling.3) i)) first,
          here,
        ),
        omega (arith, here, within),
      )))
  samples_so x same new_words (found.Refused cause) new result goes (new_is, result_is) =
      subst (λ (r : AddStep). StepsBy shape.size add.version a words new_words (AddGives shape known amid new r a)) (sym result_is)
      (goes_with goes (λ b (beside, does, free, is_cause, none).
      refuses shape known amid add new a stood_sampling.0 b beside cause (subst (λ (n : Add). DoesOnly false (is_full cause) (serves_counted known n a) a b) (sym new_is) (serves_it (is_full cause) x same b does)) (subst (λ (n : Add). SawNeedOfBlock known (n.value, n.units) b) (sym new_is) (needs_sample x same b none)) (ap (λ (n : Add). counting_of known n false false) new_is) free
      (subst (λ (n : ℕ). IsCause cause n a b) (sym words_are) is_cause)))

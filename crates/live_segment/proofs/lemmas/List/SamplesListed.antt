-- What a recorder lists of the samples of a sparse histogram that its index has, sample by sample.
use Rattle.std.proofs.Common.{◌≡◌, ◌≢◌, ℕ, ◌<◌, ℤ, Bool, true, false, List, [], ◌∷◌, ◌++◌, length, zero, suc, true≢false, ◌⊎◌, inl, inr, refl, sym, ap, subst, ◌∙◌, arith}
use Rattle.std.specs.List.{All, AllByRecursion, Contains}
use Rattle.std.specs.Ordering.{int_eq}
use mathlib.Core.Logic.{dite}
use native.Mathlib.Decide.{ℕ_discrete}
use Rattle.std.proofs.Math.ListN.{get_or}
use Rattle.std.proofs.lemmas.Bool.Decides.{Decides-int_eq}
use Rattle.std.proofs.lemmas.List.{length_push}
use Rattle.std.proofs.lemmas.List.Elements.{All-cons, All-nil, All-push, Contains-append_left, Contains-push}
use Rattle.segment_machine.specs.declared.actor.Actor.{Actor}
use Rattle.segment_machine.specs.declared.actor.Known.{Known}
use Rattle.segment_machine.specs.declared.seen.Seen.{Seen}
use Rattle.segment_machine.specs.Actor.{Sparse}
use Rattle.bucket_ranges.specs.Reading.{is_i32}
use Rattle.segment_machine.specs.Firsts.{ComesFirst}
use Rattle.segment_machine.specs.Made.{IsFirstSample, SawOther, SawSample}
use Rattle.segment_machine.specs.Taking.{IsLaterSample}
use Rattle.segment_promises.specs.Onward.{Grows}
use Rattle.segment_promises.specs.Values.{PassesRecord}
use Rattle.segment_promises.proofs.FirstValues.{Shows, not_both, other_value}
use Rattle.segment_promises.proofs.Growing.{all_push, others_still}
use Rattle.segment_promises.proofs.ListedValues.{once_then, passes_still, sample_still}
use Rattle.live_segment.specs.List.Keys.{HasLookedForSample}
use Rattle.live_segment.specs.List.IndexedValues.{ListsSamples}
use Rattle.live_segment.proofs.lemmas.Add.SampleKeys.{all_behind}
use Rattle.live_segment.proofs.lemmas.List.OwnSamples.{shows_all}

-- ---- what was seen stays

module _ (a b : Seen) (grows : Grows a.words b.words) (chain : b.chain ≡ a.chain) (histogram : ℕ) where
  first_still : (value : ℤ) (at : ℕ) → IsFirstSample a histogram value at → IsFirstSample b histogram value at
  first_still value at (front, rest, split, (before, behind, parts, others, it)) = (
    front,
    rest,
    chain ∙ split,
    (before, behind, parts, others_still a b grows histogram value before others, sample_still a b grows histogram value at it),
  )

  module _ (Does Then : ℤ → ℕ → Type 0) (does : (value : ℤ) (at : ℕ) → Does value at → Then value at) where
    passes_on : (list : List ℕ) → AllByRecursion (PassesRecord Does a histogram) list → AllByRecursion (PassesRecord Then b histogram) list
    passes_on [] all = tt
    passes_on (r ∷ rest) (first, all) = (passes_still a b grows histogram Does Then does r first, passes_on rest all)

    pub lists_still : (Had Has : ℕ → ℕ → Type 0) → ((sample units : ℕ) → Had sample units → Has sample units) → (passed : List ℕ) (listed : List (ℤ × ℕ))
        → ListsSamples Does Had histogram passed listed a → ListsSamples Then Has histogram passed listed b
    lists_still Had Has has passed listed lists = record {
      passes = passes_on passed lists.passes;
      firsts = λ k d low.
          let (sample, there, first, had) = lists.firsts k d low in
          (sample, there, first_still (get_or listed k d).0 sample first, has sample (get_or listed k d).1 had);
      once = lists.once;
      few = lists.few;
    }

-- ---- a sample more

module _ (Does : ℤ → ℕ → Type 0) (Has : ℕ → ℕ → Type 0) (histogram : ℕ) (seen : Seen) where
  pub lists_nothing : ListsSamples Does Has histogram [] [] seen
  lists_nothing = record { passes = tt; firsts = All-nil _; once = λ key. omega arith; few = omega arith }

  module _ (passed : List ℕ) (listed : List (ℤ × ℕ)) (lists : ListsSamples Does Has histogram passed listed seen) (at : ℕ) where
    -- it lists nothing of it
    pub lists_on : PassesRecord Does seen histogram at → ListsSamples Does Has histogram (passed ++ at ∷ []) listed seen
    lists_on passes = record {
      passes = all_push (PassesRecord Does seen histogram) passed at lists.passes passes;
      firsts = λ k d low.
          let (sample, there, first, has) = lists.firsts k d low in (sample, Contains-append_left passed (at ∷ []) sample there, first, has);
      once = lists.once;
      few = let few = lists.few in let one = length_push passed at in omega (arith, few, one);
    }

    -- it lists the value, whose only first sample it is
    pub lists_one : (value : ℤ) (units : ℕ) → SawSample seen histogram value at → Does value at → Has at units → IsFirstSample seen histogram value at
        → ((other : ℕ) → IsFirstSample seen histogram value other → other ≡ at) → ¬ (Contains passed at)
        → ListsSamples Does Has histogram (passed ++ at ∷ []) (listed ++ (value, units) ∷ []) seen
    lists_one value units saw does has first lone new =
        let on = lists_on (inl (value, saw, does)) in record {
          passes = on.passes;
          firsts = All-push
              (λ (count : ℤ × ℕ). (sample : ℕ) × Contains (passed ++ at ∷ []) sample × IsFirstSample seen histogram count.0 sample × Has sample count.1)
              listed (value, units) on.firsts (at, Contains-push passed at, first, has);
          once = once_then listed value units not_listed lists.once;
          few = let few = lists.few in let one = length_push passed at in let more = length_push listed (value, units) in omega (arith, few, one, more);
        }
      where
        not_listed : (k : ℕ) (d : ℤ × ℕ) → k < length listed → (get_or listed k d).0 ≢ value
        not_listed k d low same =
            let (sample, there, its, had) = lists.firsts k d low in
            let here : sample ≡ at = lone sample (subst (λ (v : ℤ). IsFirstSample seen histogram v sample) same its) in
            new (subst (Contains passed) here there)

-- ---- the first of a value

module _ (seen : Seen) (histogram : ℕ) (value : ℤ) (fits : is_i32 value ≡ true) where
  -- a record is a sample of the value, or another one
  is_or_other : (at : ℕ) → Shows seen histogram at → SawSample seen histogram value at ⊎ SawOther seen histogram value at
  is_or_other at (inr none) = inr (none value fits)
  is_or_other at (inl (v, saw)) = by (int_eq v value) refl
    where
      by : (b : Bool) → int_eq v value ≡ b → SawSample seen histogram value at ⊎ SawOther seen histogram value at
      by true same = inl (subst (λ (x : ℤ). SawSample seen histogram x at) ((Decides-int_eq v value).0 same) saw)
      by false apart = inr (other_value seen histogram v value at saw fits (λ same. true≢false (sym ((Decides-int_eq v value).1 same) ∙ apart)))

  abbrev IsFirstOf : List ℕ → ℕ → Type 0
  IsFirstOf list at = ComesFirst (SawOther seen histogram value) (SawSample seen histogram value) list at

  -- if one is among records, one is the first
  first_in : (list : List ℕ) → AllByRecursion (Shows seen histogram) list → (at : ℕ) → Contains list at → SawSample seen histogram value at
      → (first : ℕ) × IsFirstOf list first
  first_in [] shown at (k, low, is) saw = absurd (omega (arith, low))
  first_in (r ∷ rest) (shows, shown) at has saw = by (λ there. first_in rest shown at there saw) (is_or_other r shows) has
    where
      by : (Contains rest at → (first : ℕ) × IsFirstOf rest first) → SawSample seen histogram value r ⊎ SawOther seen histogram value r
          → Contains (r ∷ rest) at → (first : ℕ) × IsFirstOf (r ∷ rest) first
      by again (inl here) there = (r, ([], rest, refl, All-nil (SawOther seen histogram value), here))
      by again (inr other) (zero, low, is) = absurd (not_both seen histogram value at saw (subst (SawOther seen histogram value) is other))
      by again (inr other) (suc k, low, is) =
          let (first, (before, behind, split, others, it)) = again (k, omega (arith, low), is) in
          (first, (r ∷ before, behind, ap (λ (l : List ℕ). r ∷ l) split, All-cons (SawOther seen histogram value) r before other others, it))

-- ---- a sample that is not a later one

module _ (known : Known) (a : Actor) (looked : All (HasLookedForSample a.seen) a.seen.chain) (sparse : Sparse a known.reference known)
    (front behind : List ℕ) (split : a.seen.chain ≡ front ++ known.reference ∷ behind)
    (value : ℤ) (at : ℕ) (met : Contains a.seen.chain at) (there : Contains behind at) (saw : SawSample a.seen known.reference value at) (first : ¬ (IsLaterSample a at)) where
  -- another is not the first
  pub lone_first : (other : ℕ) → IsFirstSample a.seen known.reference value other → other ≡ at
  lone_first other its = dite (ℕ_discrete other at) (λ same. same) (λ apart. absurd (first (known, value, other, sparse, met, saw, its, apart)))

  -- it is the first of its value
  pub is_first : IsFirstSample a.seen known.reference value at
  is_first =
      let shown = shows_all a.seen known.reference behind
      (all_behind (HasLookedForSample a.seen) front known.reference behind (subst (All (HasLookedForSample a.seen)) split looked)) in
      let (one, comes) = first_in a.seen known.reference value saw.3 behind shown at there saw in
      let its : IsFirstSample a.seen known.reference value one = (front, behind, split, comes) in
      subst (IsFirstSample a.seen known.reference value) (lone_first one its) its

  module _ (Does : ℤ → ℕ → Type 0) (Has : ℕ → ℕ → Type 0) (passed : List ℕ) (listed : List (ℤ × ℕ))
      (lists : ListsSamples Does Has known.reference passed listed a.seen) (new : ¬ (Contains passed at)) where
    pub lists_first : (units : ℕ) → Does value at → Has at units
        → ListsSamples Does Has known.reference (passed ++ at ∷ []) (listed ++ (value, units) ∷ []) a.seen
    lists_first units does has = lists_one Does Has known.reference a.seen passed listed lists at value units saw does has is_first lone_first new

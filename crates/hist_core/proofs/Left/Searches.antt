-- A step of a search for a sample leaves less.
use Rattle.segment_invariant.proofs.Prelude.Std.{◌≡◌, ℕ, ◌+◌, ◌==◌, Bool, true, false, List, [], ◌∷◌, length, refl, sym, ap, subst, arith, if◌then◌else◌}
use Rattle.segment_invariant.proofs.Prelude.Machine.{word_at, IsStop}
use Rattle.list_core.specs.declared.walk.WalkStep.TheVariants.{Record, Stray}
use Rattle.list_core.specs.Walk.{said_of}
use Rattle.hist_core.specs.declared.sample_search.SampleSearch.{SampleSearch}
use Rattle.hist_core.specs.declared.sample_search.SampleSearchStep.{SampleSearchStep}
use Rattle.hist_core.specs.declared.sample_search.SampleSearchStep.TheVariants.{More}
use Rattle.hist_core.specs.declared.sample_search.SampleSearchStage.{SampleSearchStage}
use Rattle.hist_core.specs.declared.sample_search.SampleSearchStage.TheVariants.{Walking, LoadingType, LoadingHistogram, LoadingValue, Making}
use Rattle.hist_core.specs.declared.new_record.NewRecord.{NewRecord as NewRecordOf}
use Rattle.hist_core.specs.declared.new_record.NewRecordStep.{NewRecordStep}
use Rattle.hist_core.specs.declared.new_record.NewRecordStep.TheVariants as made
use Rattle.hist_core.specs.declared.new_record.NewRecordStage.{NewRecordStage}
use Rattle.hist_core.specs.NewRecord.{IsStarted}
use Rattle.hist_core.specs.SampleSearch.{behind_type, IsMade, wanted_of}
use Rattle.hist_core.specs.Left.{ahead, is_less, record_left, RecordLowers, room, search_left, SearchIsOn, SearchLowers}
use Rattle.hist_core.proofs.Left.Less.{less_next}
use Rattle.hist_core.proofs.Left.Lists.{never_stray, record_ahead}
use Rattle.hist_core.proofs.Left.Hists.{looks_further, walks_further}

module _ (s : SampleSearch) (words : List ℕ) where
  at_stage : (stage : SampleSearchStage) (now : List ℕ) → s.stage ≡ stage → is_less now (search_left words s stage) ≡ true → is_less now (search_left words s s.stage) ≡ true
  at_stage stage now is less = subst (λ (t : SampleSearchStage). is_less now (search_left words s t) ≡ true) (sym is) less

  -- ---- it walks

  module _ (walks : s.stage ≡ Walking) where
    on_walk : (chain : List ℕ) → SearchIsOn chain s s.stage → IsStop chain s.walk
    on_walk chain on = subst (SearchIsOn chain s) walks on

    pub meets_less : (at walk : ℕ) → Record at ≡ said_of (length words) (word_at words (s.walk + 3)) → walk ≡ at
        → SearchLowers s words (record s { walk = walk; stage = LoadingType at }) words More
    meets_less at walk says here = λ chain has on.
        let fewer = record_ahead words chain has s.walk at (on_walk chain on) says in
        let same : ahead words walk ≡ ahead words at = ap (ahead words) here in
        at_stage Walking (room words ∷ 2 ∷ ahead words walk ∷ 3 ∷ []) walks
        (walks_further (room words) (ahead words walk) (ahead words s.walk) 3 0 (omega (arith, fewer, same)))

    pub ends_less : (walk room_wanted tag : ℕ) (new_record : NewRecordOf) → IsStarted s.shape room_wanted tag new_record
        → SearchLowers s words (record s { walk = walk; stage = Making new_record }) words More
    ends_less walk room_wanted tag new_record starts = λ chain has on.
        at_stage Walking (room words ∷ record_left words (wanted_of s).payload new_record.stage) walks
        (subst (λ (t : NewRecordStage). is_less (room words ∷ record_left words (wanted_of s).payload t) (room words ∷ 2 ∷ ahead words s.walk ∷ 0 ∷ []) ≡ true) (sym starts)
        (less_next (room words) (room words) (1 ∷ 3 ∷ 0 ∷ []) (2 ∷ ahead words s.walk ∷ 0 ∷ []) refl refl))

    pub strays_less : (walk : ℕ) → Stray ≡ said_of (length words) (word_at words (s.walk + 3)) → SearchLowers s words (record s { walk = walk }) words More
    strays_less walk says = λ chain has on. absurd (never_stray words chain has s.walk (on_walk chain on) says)

  -- ---- it looks at a record

  pub types_less : (at tag : ℕ) → s.stage ≡ LoadingType at → SearchLowers s words (record s { stage = behind_type at tag }) words More
  types_less at tag is = λ chain has on.
      at_stage (LoadingType at) (search_left words (record s { stage = behind_type at tag }) (behind_type at tag)) is (by (tag == 3))
    where
      by : (b : Bool) → is_less (search_left words (record s { stage = if b then LoadingHistogram at else Walking }) (if b then LoadingHistogram at else Walking))
          (room words ∷ 2 ∷ ahead words s.walk ∷ 3 ∷ []) ≡ true
      by true = looks_further (room words) (ahead words s.walk) 2 3 (omega arith)
      by false = looks_further (room words) (ahead words s.walk) 0 3 (omega arith)

  pub histograms_less : (at of : ℕ) → s.stage ≡ LoadingHistogram at → SearchLowers s words (record s { stage = LoadingValue at of }) words More
  histograms_less at of is = λ chain has on.
      at_stage (LoadingHistogram at) (room words ∷ 2 ∷ ahead words s.walk ∷ 1 ∷ []) is (looks_further (room words) (ahead words s.walk) 1 2 (omega arith))

  pub others_less : (at of : ℕ) → s.stage ≡ LoadingValue at of → SearchLowers s words (record s { stage = Walking }) words More
  others_less at of is = λ chain has on.
      at_stage (LoadingValue at of) (room words ∷ 2 ∷ ahead words s.walk ∷ 0 ∷ []) is (looks_further (room words) (ahead words s.walk) 0 1 (omega arith))

  -- ---- it makes its sample

  module _ (m m' : NewRecordOf) (makes : s.stage ≡ Making m) (payload new_words : List ℕ) (its : payload ≡ (wanted_of s).payload) where
    pub makes_less : (says : NewRecordStep) (new : SampleSearch) (result : SampleSearchStep) → RecordLowers payload m words m' new_words says
        → IsMade (record s { stage = Making m' }) says new result → SearchLowers s words new new_words result
    makes_less made.More new result lowers (new_is, result_is) =
        subst (λ (p : SampleSearch × SampleSearchStep). SearchLowers s words p.0 new_words p.1) (λ i. (sym new_is i, sym result_is i))
        (λ chain has on. at_stage (Making m) (room new_words ∷ record_left new_words (wanted_of s).payload m'.stage) makes
        (subst (λ (l : List ℕ). is_less (room new_words ∷ record_left new_words l m'.stage) (room words ∷ record_left words l m.stage) ≡ true) its
        (lowers chain has (subst (SearchIsOn chain s) makes on))))
    makes_less made.Done new result lowers (new_is, result_is) =
        subst (λ (p : SampleSearch × SampleSearchStep). SearchLowers s words p.0 new_words p.1) (λ i. (sym new_is i, sym result_is i))
        (λ chain has on. at_stage (Making m) (room new_words ∷ 2 ∷ ahead new_words s.walk ∷ 0 ∷ []) makes
        (subst (λ (l : List ℕ). is_less (room new_words ∷ 2 ∷ ahead new_words s.walk ∷ 0 ∷ []) (room words ∷ record_left words l m.stage) ≡ true) its
        (lowers (ahead new_words s.walk ∷ 0 ∷ []))))
    makes_less (made.Refused why) new result lowers (new_is, result_is) =
        subst (λ (r : SampleSearchStep). SearchLowers s words new new_words r) (sym result_is) tt

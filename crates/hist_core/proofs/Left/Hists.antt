-- A step of a `hist` leaves less.
use Rattle.segment_invariant.proofs.Prelude.Std.{◌≡◌, ℕ, suc, ◌+◌, ◌-◌, ◌<◌, true, List, [], ◌∷◌, length, refl, sym, ap, subst, arith, Some}
use Rattle.segment_invariant.proofs.Prelude.Machine.{word_at, IsStop}
use Rattle.list_core.specs.declared.walk.WalkStep.TheVariants.{Record, Stray}
use Rattle.list_core.specs.Walk.{said_of}
use Rattle.hist_core.specs.declared.hist.Hist.{Hist}
use Rattle.hist_core.specs.declared.hist.HistStep.{HistStep}
use Rattle.hist_core.specs.declared.hist.HistStep.TheVariants.{More, Done, Refused}
use Rattle.hist_core.specs.declared.hist.HistStage.{HistStage}
use Rattle.hist_core.specs.declared.hist.HistStage.TheVariants.{Walking, Comparing, Making}
use Rattle.hist_core.specs.declared.new_record.NewRecord.{NewRecord as NewRecordOf}
use Rattle.hist_core.specs.declared.new_record.NewRecordStep.{NewRecordStep}
use Rattle.hist_core.specs.declared.new_record.NewRecordStep.TheVariants as made
use Rattle.hist_core.specs.declared.new_record.NewRecordStage.{NewRecordStage}
use Rattle.hist_core.specs.declared.call.Stepped.{Stepped}
use Rattle.hist_core.specs.declared.actor_run.ActorRun.{ActorRun}
use Rattle.hist_core.specs.declared.actor_run.Running.TheVariants as runs
use Rattle.hist_core.specs.ActorRun.{IsHistAnnounced}
use Rattle.hist_core.specs.Hist.{comparisons, IsDifferent, IsMade, IsMatched}
use Rattle.hist_core.specs.NewRecord.{IsStarted}
use Rattle.hist_core.specs.Left.{ahead, hist_left, HistIsOn, HistLowers, is_less, record_left, RecordLowers, room, RunningLowers}
use Rattle.hist_core.proofs.Left.Less.{less_first, less_next}
use Rattle.hist_core.proofs.Left.Lists.{never_stray, record_ahead}

-- ---- numbers of a walk

-- fewer records are ahead
pub walks_further : (r a b s t : ℕ) → a < b → is_less (r ∷ 2 ∷ a ∷ s ∷ []) (r ∷ 2 ∷ b ∷ t ∷ []) ≡ true
walks_further r a b s t below =
    less_next r r (2 ∷ a ∷ s ∷ []) (2 ∷ b ∷ t ∷ []) refl (less_next 2 2 (a ∷ s ∷ []) (b ∷ t ∷ []) refl (less_first a b (s ∷ []) (t ∷ []) below))

-- less is left at the record where it is
pub looks_further : (r a s t : ℕ) → s < t → is_less (r ∷ 2 ∷ a ∷ s ∷ []) (r ∷ 2 ∷ a ∷ t ∷ []) ≡ true
looks_further r a s t below =
    less_next r r (2 ∷ a ∷ s ∷ []) (2 ∷ a ∷ t ∷ []) refl
    (less_next 2 2 (a ∷ s ∷ []) (a ∷ t ∷ []) refl (less_next a a (s ∷ []) (t ∷ []) refl (less_first s t [] [] below)))

module _ (h : Hist) (words : List ℕ) where
  -- what was left at its stage
  at_stage : (stage : HistStage) (now : List ℕ) → h.stage ≡ stage → is_less now (hist_left words h stage) ≡ true → is_less now (hist_left words h h.stage) ≡ true
  at_stage stage now is less = subst (λ (s : HistStage). is_less now (hist_left words h s) ≡ true) (sym is) less

  -- ---- it walks

  module _ (walks : h.stage ≡ Walking) where
    on_walk : (chain : List ℕ) → HistIsOn chain h h.stage → IsStop chain h.walk
    on_walk chain on = subst (HistIsOn chain h) walks on

    pub meets_less : (reference walk : ℕ) → Record reference ≡ said_of (length words) (word_at words (h.walk + 3)) → walk ≡ reference
        → HistLowers h words (record h { reference = reference; walk = walk; stage = Comparing 0 }) words More
    meets_less reference walk says here = λ chain has on.
        let fewer = record_ahead words chain has h.walk reference (on_walk chain on) says in
        let same : ahead words walk ≡ ahead words reference = ap (ahead words) here in
        at_stage Walking (room words ∷ 2 ∷ ahead words walk ∷ suc (comparisons h - 0) ∷ []) walks
        (walks_further (room words) (ahead words walk) (ahead words h.walk) (suc (comparisons h - 0)) 0 (omega (arith, fewer, same)))

    pub ends_less : (walk room_wanted tag : ℕ) (new_record : NewRecordOf) → IsStarted h.shape room_wanted tag new_record
        → HistLowers h words (record h { walk = walk; stage = Making new_record }) words More
    ends_less walk room_wanted tag new_record starts = λ chain has on.
        at_stage Walking (room words ∷ record_left words h.payload.items new_record.stage) walks
        (subst (λ (s : NewRecordStage). is_less (room words ∷ record_left words h.payload.items s) (room words ∷ 2 ∷ ahead words h.walk ∷ 0 ∷ []) ≡ true) (sym starts)
        (less_next (room words) (room words) (1 ∷ 3 ∷ 0 ∷ []) (2 ∷ ahead words h.walk ∷ 0 ∷ []) refl refl))

    pub strays_less : (walk : ℕ) → Stray ≡ said_of (length words) (word_at words (h.walk + 3)) → HistLowers h words (record h { walk = walk }) words More
    strays_less walk says = λ chain has on. absurd (never_stray words chain has h.walk (on_walk chain on) says)

  -- ---- it compares

  module _ (k : ℕ) (compares : h.stage ≡ Comparing k) where
    pub matches_less : (new : Hist) (result : HistStep) → IsMatched h k new result → HistLowers h words new words result
    matches_less new More (more, new_is) = λ chain has on.
        at_stage (Comparing k) (hist_left words new new.stage) compares
        (subst (λ (n : Hist). is_less (hist_left words n n.stage) (hist_left words h (Comparing k)) ≡ true) (sym new_is)
        (looks_further (room words) (ahead words h.walk) (suc (comparisons h - (k + 1))) (suc (comparisons h - k)) (omega (arith, more))))
    matches_less new Done is = tt
    matches_less new (Refused why) is = tt

    pub differs_less : (new : Hist) (result : HistStep) → IsDifferent h k new result → HistLowers h words new words result
    differs_less new More (early, new_is) = λ chain has on.
        at_stage (Comparing k) (hist_left words new new.stage) compares
        (subst (λ (n : Hist). is_less (hist_left words n n.stage) (hist_left words h (Comparing k)) ≡ true) (sym new_is)
        (looks_further (room words) (ahead words h.walk) 0 (suc (comparisons h - k)) (omega arith)))
    differs_less new Done is = tt
    differs_less new (Refused why) is = tt

  -- ---- it makes its record

  module _ (m m' : NewRecordOf) (makes : h.stage ≡ Making m) (payload new_words : List ℕ) (its : payload ≡ h.payload.items) where
    pub makes_less : (says : NewRecordStep) (new : Hist) (result : HistStep) → RecordLowers payload m words m' new_words says → IsMade (record h { stage = Making m' }) says new result
        → HistLowers h words new new_words result
    makes_less made.More new result lowers (new_is, result_is) =
        subst (λ (p : Hist × HistStep). HistLowers h words p.0 new_words p.1) (λ i. (sym new_is i, sym result_is i))
        (λ chain has on. at_stage (Making m) (room new_words ∷ record_left new_words h.payload.items m'.stage) makes
        (subst (λ (l : List ℕ). is_less (room new_words ∷ record_left new_words l m'.stage) (room words ∷ record_left words l m.stage) ≡ true) its
        (lowers chain has (subst (HistIsOn chain h) makes on))))
    makes_less made.Done new result lowers (new_is, result_is) =
        subst (λ (p : Hist × HistStep). HistLowers h words p.0 new_words p.1) (λ i. (sym new_is i, sym result_is i))
        (λ chain has on. at_stage (Making m) (room new_words ∷ 2 ∷ ahead new_words h.walk ∷ 0 ∷ []) makes
        (subst (λ (l : List ℕ). is_less (room new_words ∷ 2 ∷ ahead new_words h.walk ∷ 0 ∷ []) (room words ∷ record_left words l m.stage) ≡ true) its
        (lowers (ahead new_words h.walk ∷ 0 ∷ []))))
    makes_less (made.Refused why) new result lowers (new_is, result_is) =
        subst (λ (r : HistStep). HistLowers h words new new_words r) (sym result_is) tt

-- ---- its actor

-- what a step of its `hist` leads to
pub hist_less : (h h' : Hist) (old : ActorRun) (words new_words : List ℕ) (says : HistStep) (new : ActorRun) (result : Stepped) → HistLowers h words h' new_words says
    → IsHistAnnounced (record old { running = Some (runs.Hist h') }) says new result → RunningLowers (Some (runs.Hist h)) words new.running new_words result
hist_less h h' old words new_words More new result lowers (new_is, result_is) =
    subst (λ (p : ActorRun × Stepped). RunningLowers (Some (runs.Hist h)) words p.0.running new_words p.1) (λ i. (sym new_is i, sym result_is i)) (λ chain has on. lowers chain has on)
hist_less h h' old words new_words Done new result lowers (asked, is_asked, new_is, items, result_is) =
    subst (λ (r : Stepped). RunningLowers (Some (runs.Hist h)) words new.running new_words r) (sym result_is) (λ chain has on. tt)
hist_less h h' old words new_words (Refused why) new result lowers (new_is, result_is) =
    subst (λ (r : Stepped). RunningLowers (Some (runs.Hist h)) words new.running new_words r) (sym result_is) (λ chain has on. tt)

-- A step of a walk along the samples of a histogram leaves less.
use Rattle.segment_invariant.proofs.Prelude.Std.{◌≡◌, ℕ, ◌+◌, ◌<◌, ◌==◌, Bool, true, false, List, [], ◌∷◌, refl, sym, ap, subst, arith, if◌then◌else◌, eqb-false}
use Rattle.segment_invariant.proofs.Prelude.Machine.{word_at, IsStop}
use Rattle.hist_core.specs.declared.walk.Met.{Met}
use Rattle.hist_core.specs.declared.walk.Met.TheVariants.{Nothing, Sample, End}
use Rattle.hist_core.specs.declared.walk.SampleWalk.{SampleWalk}
use Rattle.hist_core.specs.declared.walk.SampleWalk.TheVariants.{LoadingFirst, LoadingType, LoadingHistogram, LoadingValue, LoadingNext}
use Rattle.hist_core.specs.Walk.{behind_next, Meets, spot_of}
use Rattle.hist_core.specs.Left.{ahead, LeadsAlong, is_less, walk_left, WalkIsOn}
use Rattle.hist_core.proofs.Left.Less.{less_first, less_next}
use Rattle.hist_core.proofs.Left.Lists.{ahead_next, next_neighbour}

-- fewer records are ahead
pub further : (n a b s t : ℕ) → a < b → is_less (n ∷ a ∷ s ∷ []) (n ∷ b ∷ t ∷ []) ≡ true
further n a b s t below = less_next n n (a ∷ s ∷ []) (b ∷ t ∷ []) refl (less_first a b (s ∷ []) (t ∷ []) below)

-- less is left at the same place
pub later : (n a b s t : ℕ) → a ≡ b → s < t → is_less (n ∷ a ∷ s ∷ []) (n ∷ b ∷ t ∷ []) ≡ true
later n a b s t same below = less_next n n (a ∷ s ∷ []) (b ∷ t ∷ []) refl (less_next a b (s ∷ []) (t ∷ []) same (less_first s t [] [] below))

-- what is left of a call, in the part of its walk, after what this found
abbrev pub met_left : List ℕ → ℕ → Met → List ℕ
met_left words histogram (Nothing walk) = 2 ∷ walk_left words histogram walk
met_left words histogram (Sample at value) = 2 ∷ ahead words at ∷ 2 ∷ []
met_left words histogram End = 1 ∷ 0 ∷ 0 ∷ []

module _ (words chain : List ℕ) (has : LeadsAlong words chain) (histogram : ℕ) where
  -- from the next of a record
  next_less : (at : ℕ) → IsStop chain at → (met : Met) → met ≡ behind_next (word_at words (at + 3)) → is_less (met_left words histogram met) (2 ∷ ahead words at ∷ 0 ∷ []) ≡ true
  next_less at stop met is = subst (λ (m : Met). is_less (met_left words histogram m) (2 ∷ ahead words at ∷ 0 ∷ []) ≡ true) (sym is) (by (word_at words (at + 3) == 12) refl)
    where
      by : (b : Bool) → (word_at words (at + 3) == 12) ≡ b
          → is_less (met_left words histogram (if b then End else Nothing (LoadingType (word_at words (at + 3))))) (2 ∷ ahead words at ∷ 0 ∷ []) ≡ true
      by true e = refl
      by false e = further 2 (ahead words (word_at words (at + 3))) (ahead words at) 5 0
          (ahead_next words chain has at (word_at words (at + 3)) (next_neighbour words chain has at stop (eqb-false (word_at words (at + 3)) 12 e)))

  pub meets_less : (walk : SampleWalk) (met : Met) → Meets walk histogram (word_at words (spot_of histogram walk)) met → WalkIsOn chain histogram walk
      → is_less (met_left words histogram met) (2 ∷ walk_left words histogram walk) ≡ true
  meets_less LoadingFirst met is on = next_less histogram on met is
  meets_less (LoadingNext at) met is on = next_less at on met is
  meets_less (LoadingType at) met is on =
      subst (λ (m : Met). is_less (met_left words histogram m) (2 ∷ ahead words at ∷ 5 ∷ []) ≡ true) (sym is) (by (word_at words (at + 2) == 3))
    where
      by : (b : Bool) → is_less (met_left words histogram (Nothing (if b then LoadingHistogram at else LoadingNext at))) (2 ∷ ahead words at ∷ 5 ∷ []) ≡ true
      by true = later 2 (ahead words at) (ahead words at) 4 5 refl (omega arith)
      by false = later 2 (ahead words at) (ahead words at) 0 5 refl (omega arith)
  meets_less (LoadingHistogram at) met is on =
      subst (λ (m : Met). is_less (met_left words histogram m) (2 ∷ ahead words at ∷ 4 ∷ []) ≡ true) (sym is) (later 2 (ahead words at) (ahead words at) 3 4 refl (omega arith))
  meets_less (LoadingValue at of) (Sample r value) is on = later 2 (ahead words r) (ahead words at) 2 3 (ap (ahead words) is.0) (omega arith)
  meets_less (LoadingValue at of) (Nothing (LoadingNext r)) is on = later 2 (ahead words r) (ahead words at) 0 3 (ap (ahead words) is.0) (omega arith)
  meets_less (LoadingValue at of) (Nothing LoadingFirst) is on = absurd is
  meets_less (LoadingValue at of) (Nothing (LoadingType r)) is on = absurd is
  meets_less (LoadingValue at of) (Nothing (LoadingHistogram r)) is on = absurd is
  meets_less (LoadingValue at of) (Nothing (LoadingValue r o)) is on = absurd is
  meets_less (LoadingValue at of) End is on = absurd is

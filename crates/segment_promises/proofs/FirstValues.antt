-- The samples of a sparse histogram along the list: if a recorder saw for each record which value it is a sample of, or that it is no
-- sample, then a sample after another of its value is a later one.
use Rattle.segment_invariant.proofs.Prelude.Std.{◌≡◌, ◌≢◌, ◌⊎◌, ℕ, zero, suc, ℤ, Bool, true, false, true≢false, List, [], ◌∷◌, ◌++◌, Some, inl, inr, refl, sym, ap, subst, ◌∙◌, arith, cast_signed, cast_unsigned, w64, All, AllByRecursion, Contains, int_eq, Decides-int_eq, append_assoc, Contains-append_right}
use Rattle.segment_invariant.proofs.Prelude.Machine.{Actor, Known, Seen, SawOther, SawSample}
use Rattle.bucket_ranges.specs.Reading.{is_i32}
use Rattle.segment_machine.specs.Actor.{Sparse}
use Rattle.list_lemmas.specs.Firsts.{ComesFirst}
use Rattle.segment_machine.specs.Taking.{IsLaterSample}
use Rattle.segment_machine.proofs.Values.{value_word}

module _ (seen : Seen) (reference : ℕ) where
  -- which value a record is a sample of, or that it is no sample
  abbrev pub Shows : ℕ → Type 0
  Shows at = ((value : ℤ) × SawSample seen reference value at) ⊎ ((value : ℤ) → is_i32 value ≡ true → SawOther seen reference value at)

  -- a sample of one value is no sample of another
  pub other_value : (value beside : ℤ) (at : ℕ) → SawSample seen reference value at → is_i32 beside ≡ true → value ≢ beside → SawOther seen reference beside at
  other_value value beside at (tag, of, word, fits) fit apart =
      inr (inr (
        cast_unsigned w64 value,
        word,
        (λ same. apart (sym (value_word value fits) ∙ (ap (cast_signed w64) same ∙ value_word beside fit))),
      ))

  -- a record is not both
  pub not_both : (value : ℤ) (at : ℕ) → SawSample seen reference value at → SawOther seen reference value at → ⊥
  not_both value at (tag, of, word, fits) (inl (t, is, apart)) = let same : Some t ≡ Some 3 = sym is ∙ tag in let one : t ≡ 3 = cc in apart one
  not_both value at (tag, of, word, fits) (inr (inl (o, is, apart))) = let same : Some o ≡ Some reference = sym is ∙ of in let one : o ≡ reference = cc in apart one
  not_both value at (tag, of, word, fits) (inr (inr (w, is, apart))) =
      let same : Some w ≡ Some (cast_unsigned w64 value) = sym is ∙ word in let one : w ≡ cast_unsigned w64 value = cc in apart one

  -- if a sample of a value is among records, one of these is the first of the value
  first_among : (value : ℤ) → is_i32 value ≡ true → (walked : List ℕ) → AllByRecursion Shows walked → (at : ℕ) → Contains walked at
      → SawSample seen reference value at → (first : ℕ) × ComesFirst (SawOther seen reference value) (SawSample seen reference value) walked first
  first_among value fits [] shown at (k, low, is) saw = absurd (omega (arith, low))
  first_among value fits (r ∷ rest) (shows, shown) at has saw = by_case (λ there. first_among value fits rest shown at there saw) shows
    where
      IsFirst : List ℕ → ℕ → Type 0
      IsFirst list first = ComesFirst (SawOther seen reference value) (SawSample seen reference value) list first

      all_cons : (front : List ℕ) → SawOther seen reference value r → All (SawOther seen reference value) front → All (SawOther seen reference value) (r ∷ front)
      all_cons front one others zero d low = one
      all_cons front one others (suc j) d low = others j d (omega (arith, low))

      later : (Contains rest at → (first : ℕ) × IsFirst rest first) → SawOther seen reference value r → Contains (r ∷ rest) at
          → (first : ℕ) × IsFirst (r ∷ rest) first
      later again other (zero, low, is) = absurd (not_both value at saw (subst (SawOther seen reference value) is other))
      later again other (suc k, low, is) =
          let (first, (front, behind, split, others, it)) = again (k, omega (arith, low), is) in
          (first, (r ∷ front, behind, ap (λ (l : List ℕ). r ∷ l) split, all_cons front other others, it))

      differ : (b : Bool) → b ≡ false → b ≡ true → ⊥
      differ b low high = true≢false (sym high ∙ low)

      by_value : (Contains rest at → (first : ℕ) × IsFirst rest first) → (v : ℤ) → SawSample seen reference v r → (b : Bool) → int_eq v value ≡ b
          → (first : ℕ) × IsFirst (r ∷ rest) first
      by_value again v here true same =
          (r, ([], rest, refl, (λ k d low. absurd (omega (arith, low))), subst (λ (x : ℤ). SawSample seen reference x r) ((Decides-int_eq v value).0 same) here))
      by_value again v here false apart =
          later again (other_value v value r here fits (λ same. differ (int_eq v value) apart ((Decides-int_eq v value).1 same))) has

      by_case : (Contains rest at → (first : ℕ) × IsFirst rest first) → Shows r → (first : ℕ) × IsFirst (r ∷ rest) first
      by_case again (inl (v, here)) = by_value again v here (int_eq v value) refl
      by_case again (inr none) = later again (none value fits) has

-- a sample after another of its value
pub later_sample : (a : Actor) (known : Known) (value : ℤ) (front walked more : List ℕ) (at other : ℕ) → Sparse a known.reference known
    → a.seen.chain ≡ front ++ known.reference ∷ (walked ++ at ∷ more) → AllByRecursion (Shows a.seen known.reference) walked
    → ((r : ℕ) → Contains walked r → r ≢ at) → SawSample a.seen known.reference value at → Contains walked other
    → SawSample a.seen known.reference value other → IsLaterSample a at
later_sample a known value front walked more at other sparse chain shown apart saw has before =
    let (first, (ahead, behind, split, others, it)) = first_among a.seen known.reference value saw.3 walked shown other has before in
    let there : Contains walked first = subst (λ (l : List ℕ). Contains l first) (sym split) (Contains-append_right ahead (first ∷ behind) first (0, omega arith, refl)) in (
      known,
      value,
      first,
      sparse,
      subst (λ (l : List ℕ). Contains l at) (sym chain)
          (Contains-append_right front (known.reference ∷ (walked ++ at ∷ more)) at
          (Contains-append_right (known.reference ∷ walked) (at ∷ more) at (0, omega arith, refl))),
      saw,
      (
        front,
        walked ++ at ∷ more,
        chain,
        (ahead, behind ++ at ∷ more, ap (λ (l : List ℕ). l ++ at ∷ more) split ∙ append_assoc ahead (first ∷ behind) (at ∷ more), others, it),
      ),
      apart first there,
    )

use Rattle.std.proofs.Common.{◌≡◌, ◌∙◌, ◌⊎◌, ℕ, zero, suc, ◌+◌, List, [], ◌∷◌, Contains, inr, refl, sym, ap, subst, true≢false, arith, Option}
use Rattle.std.specs.Prelude.{ℤ, pos, negsuc, slice_index, unwrap_or}
use Rattle.std.specs.Int.{w64, cast_unsigned, cast_signed}
use mathlib.Core.Option.{some}
use lib.ListN.{get_elem?}
use Rattle.std.proofs.lemmas.List.Elements.{All-nil, All-cons, All-contains}
use Rattle.bucket_ranges.specs.declared.spec.Spec.TheVariants as spec
use Rattle.segment_machine.specs.declared.actor.Actor.{Actor}
use Rattle.segment_machine.specs.declared.actor.Known.{Known}
use Rattle.segment_machine.specs.Note.{SawAll}
use Rattle.segment_machine.specs.Actor.{SawCount}
use Rattle.segment_machine.specs.Made.{SawSample, IsFirstSample}
use Rattle.segment_machine.specs.Examples.{run, known_a, letter_s}
use Rattle.segment_machine.specs.Refused.{snaps, snapping, answering}
use Rattle.segment_machine.proofs.Values.{value_word}
use Rattle.segment_machine.proofs.laws.honest_answers.Goals as goal

abbrev known_s : Known
known_s = record { name = letter_s; spec = spec.Sparse; reference = 40 }

-- after its loads
abbrev done : Actor
done = run snaps snapping

-- an answer with one value has it once
once : {X : Type 0} (first x y : X) (i j : ℕ) → get_elem? (first ∷ []) i ≡ some x → get_elem? (first ∷ []) j ≡ some y → i ≡ j
once first x y zero zero here there = refl
once first x y zero (suc j) here there = cc there
once first x y (suc i) j here there = cc here

-- a sample that it visited and saw is that of -5
the_value : (value : ℤ) (sample : ℕ) → Contains {X = ℕ} (16 ∷ 40 ∷ 56 ∷ []) sample → SawSample done.seen 40 value sample
    → (count : ℕ) × SawCount done (sample + 6) count × ((count ≡ 0) ⊎ Contains (negsuc 4 ∷ []) value)
the_value value sample (zero, below, is) saw =
    let none = subst (λ (n : ℕ). SawSample done.seen 40 value n) (sym is) saw in absurd (cc none.0)
the_value value sample (suc zero, below, is) saw =
    let none = subst (λ (n : ℕ). SawSample done.seen 40 value n) (sym is) saw in absurd (cc none.0)
the_value value sample (suc (suc zero), below, is) saw =
    let here = subst (λ (n : ℕ). SawSample done.seen 40 value n) (sym is) saw in
    let word : 18446744073709551611 ≡ cast_unsigned w64 value = ap (λ (o : Option ℕ). unwrap_or o 0) here.2 in
    let five : negsuc 4 ≡ value = ap (cast_signed w64) word ∙ value_word value here.3 in
    subst (λ (n : ℕ). (count : ℕ) × SawCount done (n + 6) count × ((count ≡ 0) ⊎ Contains (negsuc 4 ∷ []) value)) is
    (1, (0, omega arith, refl), inr (0, omega arith, five))
the_value value sample (suc (suc (suc k)), below, is) saw = absurd (omega (arith, below))

saw_all : SawAll done known_s (answering ((negsuc 4, 1) ∷ []))
saw_all = record {
  buckets = λ has. absurd (true≢false (sym has));
  samples = λ sparse. All-cons
      (λ count. (sample : ℕ) × IsFirstSample done.seen 40 count.0 sample × SawCount done (sample + 6) count.1)
      (negsuc 4, 1)
      []
      (56, (16 ∷ [], 56 ∷ [], refl, ([], [], refl, All-nil _, (refl, refl, refl, refl))), (0, omega arith, refl))
      (All-nil _);
  once = λ sparse i j x y here there same. once (negsuc 4, 1) x y i j here there;
  values = λ sparse value sample met saw. the_value value sample met saw;
  sum = refl;
  redundant = (record { at = 62; word = 1 } ∷ [], refl);
}

-- the histogram of that name is sparse
sparse : (known : Known) → Contains (known_a ∷ known_s ∷ []) known → known.name ≡ letter_s → known.spec ≡ spec.Sparse
sparse known (zero, below, is) named =
    let same = ap (λ (l : List ℕ). slice_index l 0) (ap (λ (k : Known). k.name) is ∙ named) in absurd (omega (arith, same))
sparse known (suc zero, below, is) named = ap (λ (k : Known). k.spec) (sym is)
sparse known (suc (suc k), below, is) named = absurd (omega (arith, below))

pub returns : goal.returns
returns c = (
  (
    inr (known_s, 56, negsuc 4, ((1, omega arith, refl), refl, refl), (2, omega arith, refl), (refl, refl, refl, refl), refl, refl, refl),
    ((refl, (known_s, (1, omega arith, refl), refl)), (((negsuc 4, refl), (known_s, (1, omega arith, refl), refl)), tt)),
  ),
  (known_s, (1, omega arith, refl), refl, saw_all, refl),
  λ t.
      let all = t.3.samples (sparse t.0 t.1 t.2) in
      let wrong = All-contains (λ count. (sample : ℕ) × IsFirstSample done.seen t.0.reference count.0 sample × SawCount done (sample + 6) count.1)
      ((negsuc 4, 1) ∷ (pos 18446744073709551611, 1) ∷ []) (pos 18446744073709551611, 1) all (1, omega arith, refl) in
      true≢false (sym wrong.1.3.4.3),
)

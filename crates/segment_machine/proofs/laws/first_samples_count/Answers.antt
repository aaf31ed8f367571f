use Rattle.std.proofs.Common.{◌≡◌, ◌∙◌, ℕ, List, [], ◌∷◌, ◌++◌, length, inr, refl, sym, ap, subst, ⊎_elim, arith, Contains, Some, Option, length-append}
use Rattle.std.specs.Prelude.{ℤ, pos, negsuc, slice_index, unwrap_or}
use Rattle.std.proofs.lemmas.List.Elements.{All-nil, All-contains}
use Rattle.bucket_ranges.specs.declared.spec.Spec.TheVariants as spec
use Rattle.segment_machine.specs.declared.actor.Known.{Known}
use Rattle.segment_machine.specs.declared.entry.EntryProgress.{EntryProgress}
use Rattle.segment_machine.specs.Entry.{fresh}
use Rattle.segment_machine.specs.Made.{SawSample, SawOther, IsFirstSample}
use Rattle.segment_machine.specs.Examples.{letter_s}
use Rattle.segment_machine.specs.Refused.{met_twice}
use Rattle.segment_machine.proofs.laws.first_samples_count.Goals as goal

abbrev known_s : Known
known_s = record { name = letter_s; spec = spec.Sparse; reference = 40 }

abbrev counting : EntryProgress
counting = fresh (record { name = letter_s; key = negsuc 4; units = 1; amount = pos 0 })

-- the first sample is between the histogram and the later one
between_them : (front between behind : List ℕ) (histogram at : ℕ) → histogram ≡ 40 → at ≡ 64
    → 16 ∷ 40 ∷ 56 ∷ 64 ∷ [] ≡ front ++ histogram ∷ (between ++ at ∷ behind) → Contains between 56
between_them [] between behind histogram at forty later is =
    let e = ap (λ (l : List ℕ). slice_index l 0) is in absurd (omega (arith, e, forty))
between_them (x ∷ []) [] behind histogram at forty later is =
    let e = ap (λ (l : List ℕ). slice_index l 2) is in absurd (omega (arith, e, later))
between_them (x ∷ []) (y ∷ ys) behind histogram at forty later is =
    let e : 56 ≡ y = ap (λ (l : List ℕ). slice_index l 2) is in (0, omega arith, sym e)
between_them (x ∷ y ∷ []) between behind histogram at forty later is =
    let e = ap (λ (l : List ℕ). slice_index l 2) is in absurd (omega (arith, e, forty))
between_them (x ∷ y ∷ z ∷ []) between behind histogram at forty later is =
    let e = ap (λ (l : List ℕ). slice_index l 3) is in absurd (omega (arith, e, forty))
between_them (x ∷ y ∷ z ∷ w ∷ front) between behind histogram at forty later is =
    let e = ap length is in
    absurd (omega (arith, e, length-append front (histogram ∷ (between ++ at ∷ behind)), length-append between (at ∷ behind)))

-- what was seen, as a number
seen : {n m : ℕ} → Some n ≡ Some m → n ≡ m
seen e = ap (λ (o : Option ℕ). unwrap_or o 0) e

-- which is not seen as something other than a sample of this value
no_other : (histogram : ℕ) (value : ℤ) → SawSample met_twice.seen histogram value 64 → SawOther met_twice.seen histogram value 56 → ⊥
no_other histogram value saw other = ⊎_elim
    (λ t. t.2 (sym (seen t.1)))
    (λ more. ⊎_elim (λ t. t.2 (sym (seen t.1) ∙ seen saw.1)) (λ t. t.2 (sym (seen t.1) ∙ seen saw.2)) more)
    other

later : (histogram at : ℕ) (value : ℤ) → at ≡ 64 → IsFirstSample met_twice.seen histogram value at → ⊥
later histogram at value is (front, rest, chain, (between, behind, within, others, saw)) =
    let here : SawSample met_twice.seen histogram value 64 = subst (λ (n : ℕ). SawSample met_twice.seen histogram value n) is saw in
    no_other histogram value here
    (All-contains (SawOther met_twice.seen histogram value) between 56 others (between_them front between behind histogram at (sym (seen here.1)) is
    (chain ∙ ap (λ (list : List ℕ). front ++ histogram ∷ list) within)))

pub returns : goal.returns
returns c = (
  (
    counting,
    known_s,
    (([], refl), refl),
    refl,
    refl,
    inr (56, refl, ((1, omega arith, refl), refl, refl), (16 ∷ [], 56 ∷ 64 ∷ [], refl, ([], 64 ∷ [], refl, All-nil _, (refl, refl, refl, refl))), refl),
  ),
  λ t. ⊎_elim
      (λ off. cc off.2.0)
      (λ sample. let at = sample.4 in later t.1.reference sample.0 t.0.entry.key (omega (arith, at)) sample.3)
      t.5,
)

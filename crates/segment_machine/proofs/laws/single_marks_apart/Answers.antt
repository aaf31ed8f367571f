use Rattle.std.proofs.Common.{◌≡◌, ◌∙◌, ℕ, [], inr, refl, sym, ap, ⊎_elim, arith, Some, Option}
use Rattle.std.specs.Prelude.{unwrap_or}
use Rattle.bucket_ranges.specs.Single.{packed_bucket}
use Rattle.segment_machine.specs.declared.place.Look.{Look}
use Rattle.segment_machine.specs.declared.place.Place.{Place}
use Rattle.segment_machine.specs.declared.place.Place.TheVariants.{CountLoaded}
use Rattle.segment_machine.specs.Calls.{form_seen, nothing_of}
use Rattle.segment_machine.specs.Examples.{known_a}
use Rattle.segment_machine.specs.Refused.{look, loaded}
use Rattle.segment_machine.proofs.laws.single_marks_apart.Goals as goal

-- what was loaded of the histogram, and of which bucket the count was
abbrev look_in : Place → Look
look_in (CountLoaded look bucket count) = look
look_in _ = nothing_of 0

abbrev bucket_in : Place → ℕ
bucket_in (CountLoaded look bucket count) = bucket
bucket_in _ = 0

packed : (seen : Look) (bucket word count : ℕ) → CountLoaded (look 9223372036854775809 32) 1 2 ≡ CountLoaded seen bucket count → seen.single ≡ Some word
    → packed_bucket (form_seen (loaded 1 2) seen.histogram word) ≡ Some bucket
packed seen bucket word count is single =
    let same : look 9223372036854775809 32 ≡ seen = ap look_in is in
    let words : 9223372036854775809 ≡ word = ap (λ (o : Option ℕ). unwrap_or o 0) (ap (λ (l : Look). l.single) same ∙ single) in
    let histograms : 16 ≡ seen.histogram = ap (λ (l : Look). l.histogram) same in
    ap (λ (p : ℕ × ℕ). packed_bucket (form_seen (loaded 1 2) p.0 p.1)) (λ i. (sym histograms i, sym words i)) ∙ ap (λ (n : ℕ). Some n) (ap bucket_in is)

pub returns : goal.returns
returns c = (
  (
    omega arith,
    (known_a, (refl, (0, omega arith, refl), refl, ([], _, refl, refl))),
    inr (look 9223372036854775809 32, 1, 2, 9223372036854775809, refl, refl, refl, refl, refl),
  ),
  λ t. ⊎_elim (λ counts. counts.7 (packed counts.0 counts.2 counts.3 2 counts.4 counts.6)) (λ sample. cc sample.3) t.1,
)

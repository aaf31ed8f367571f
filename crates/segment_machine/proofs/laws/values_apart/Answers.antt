use Rattle.std.proofs.Common.{◌≡◌, [], ◌∷◌, inr, refl, sym, ap, ◌∙◌, true≢false, ⊎_elim, arith}
use Rattle.std.specs.Prelude.{pos, negsuc}
use Rattle.std.proofs.lemmas.List.Elements.{All-nil}
use Rattle.bucket_ranges.specs.Reading.{is_i32}
use Rattle.bucket_ranges.specs.declared.spec.Spec.TheVariants as spec
use Rattle.segment_machine.specs.declared.actor.Known.{Known}
use Rattle.segment_machine.specs.declared.entry.EntryProgress.{EntryProgress}
use Rattle.segment_machine.specs.Entry.{fresh}
use Rattle.segment_machine.specs.Examples.{letter_s}
use Rattle.segment_machine.proofs.laws.values_apart.Goals as goal

abbrev known_s : Known
known_s = record { name = letter_s; spec = spec.Sparse; reference = 40 }

abbrev minus_five : EntryProgress
minus_five = fresh (record { name = letter_s; key = negsuc 4; units = 1; amount = pos 0 })

abbrev too_large : EntryProgress
too_large = fresh (record { name = letter_s; key = pos 18446744073709551611; units = 1; amount = pos 0 })

pub returns : goal.returns
returns c = (
  (
    minus_five,
    known_s,
    (([], refl), refl),
    refl,
    refl,
    inr (56, refl, ((1, omega arith, refl), refl, refl), (16 ∷ [], 56 ∷ [], refl, ([], [], refl, All-nil _, (refl, refl, refl, refl))), refl),
  ),
  λ (counted, known, first, named, units, either). ⊎_elim
      (λ t. cc t.2.0)
      (λ t.
      let same : too_large ≡ counted = cc first.0.1 in
      true≢false (sym t.3.3.4.3 ∙ ap (λ (x : EntryProgress). is_i32 x.entry.key) (sym same)))
      either,
)

use Rattle.std.proofs.Common.{◌≡◌, List, [], ◌∷◌, refl, sym, ap, ◌∙◌, true, false, true≢false, arith}
use Rattle.std.proofs.lemmas.List.Elements.{All-head}
use Rattle.segment_machine.specs.declared.entry.EntryProgress.{EntryProgress}
use Rattle.segment_machine.specs.Entry.{is_summed, has_ended}
use Rattle.segment_machine.specs.Examples.{one, known_a}
use Rattle.segment_machine.proofs.laws.sums_stay.Goals as goal

-- its entry, counted and not in the sum
abbrev counted : EntryProgress
counted = record { entry = one 1; counted = true; summed = false; noted = false }

not_summed : (c : EntryProgress) (rest : List EntryProgress) → counted ∷ [] ≡ c ∷ rest → is_summed c ≡ false
not_summed c rest is = let same : counted ≡ c = cc is in ap is_summed (sym same)

pub returns : goal.returns
returns c = (
  (refl, counted, known_a, (([], refl), refl, refl), refl, (0, omega arith, refl), refl, refl),
  λ t. true≢false (sym t.3.2 ∙ not_summed t.1 t.3.0.0 t.3.0.1),
  λ t. true≢false (sym (All-head (λ (x : EntryProgress). has_ended x ≡ true) counted [] t.1)),
)

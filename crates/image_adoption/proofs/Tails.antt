-- The tail of a list.
use Rattle.std.proofs.Common.{◌≡◌, true, ℕ, zero, suc, List, arith, sym, ◌∙◌}
use Rattle.std.specs.Prelude.{◌==◌, Decides}
use Rattle.std.specs.List.{list_any}
use Rattle.std.proofs.lemmas.Bool.{eqb-true, eq-eqb}
use Rattle.std.proofs.lemmas.List.{get_or_default}
use Rattle.std.proofs.lemmas.List.Folds.{Any-from_list_any, list_any_at}
use Rattle.list_core.specs.Chain.{IsStop}

-- if it is not the queue block, it is one of the records
pub tail_decides : (references : List ℕ) (tail : ℕ) → (tail ≡ 12 → ⊥) → Decides (list_any (λ at. at == tail) references) (IsStop references tail)
tail_decides references tail other = (found, there)
  where
    found : list_any (λ at. at == tail) references ≡ true → IsStop references tail
    found any =
        let (k, x, below, is, same) = Any-from_list_any (λ at. at == tail) references any in
        (suc k, omega (arith, below), get_or_default references k 0 x below ∙ (is ∙ eqb-true x tail same))

    there : IsStop references tail → list_any (λ at. at == tail) references ≡ true
    there (zero, within, is) = absurd (other (sym is))
    there (suc k, within, is) = list_any_at (λ at. at == tail) references k 0 (omega (arith, within)) (eq-eqb _ tail is)

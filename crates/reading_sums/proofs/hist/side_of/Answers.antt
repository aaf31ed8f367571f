-- If the first of the left list is above that of the right one, this is below that.
use Rattle.std.proofs.Common.{◌≡◌, ◌<◌, ◌==◌, false, ℕ, sym, ◌∙◌, arith}
use Rattle.std.proofs.lemmas.Bool.Decides.{nat_tests}
use Rattle.reading_sums.proofs.HistOrder.{first-above}
use Rattle.reading_sums.proofs.hist.side_of.Goals as goal

some-there : (n : ℕ) → (n == 0) ≡ false → 0 < n
some-there n e = grind (arith, nat_tests)

pub returns-in-Greater : goal.returns-in-Greater
returns-in-Greater c =
    let right = some-there _ (sym c.is_empty.ensures ∙ c.if-is_empty.false) in (
      right,
      λ d some. first-above c.args.left.now c.args.right.now c.index-left-0.result c.index-right-0.result some right
          c.index-left-0.is c.index-right-0.is (sym c.in-Greater.ensures.order) d,
    )

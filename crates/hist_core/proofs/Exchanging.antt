-- Where no actor is, nothing is exchanged.
use Rattle.segment_invariant.proofs.Prelude.Std.{◌≡◌, ◌≤◌, arith, length, List, refl, ℕ, some, none, get_elem?}
use mathlib.Core.Option.{Option}
use Rattle.hist_core.proofs.HistCall.Asking.{place_below}

-- what holds of nothing holds of what is beyond a list
pub beyond : {A X : Type 0} (said : Option A → X) (l : List A) (i : ℕ) → length l ≤ i → said none ≡ said (get_elem? l i)
beyond {A} said l i far = by (get_elem? l i) refl
  where
    by : (found : Option A) → get_elem? l i ≡ found → said none ≡ said found
    by none at = refl
    by (some x) at = absurd (let below = place_below l i x at in omega (arith, below, far))

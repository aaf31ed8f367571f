-- Which of the histograms that a recorder knows has a name.
use Rattle.std.proofs.Common.{◌≡◌, ◌≢◌, ℕ, ◌+◌, ◌<◌, List, length, get_or, sym, ap, ◌∙◌, arith}
use mathlib.Core.Logic.{dite}
use mathlib.Core.Option.{some, some-injective}
use lib.ListN.{get_elem?}
use native.Mathlib.Decide.{ℕ_discrete}
use Rattle.segment_invariant.proofs.Lists.Pairs.{element_at}
use Rattle.live_segment.specs.declared.recorder.KnownHistogram.{KnownHistogram}

-- what is read at a place is there
pub is_there : {A : Type 0} (l : List A) (n i : ℕ) (x : A) → n ≡ length l → i < n → x ≡ get_or l i x → get_elem? l i ≡ some x
is_there l n i x count near read = element_at l i x (omega (arith, count, near)) ∙ ap some (sym read)

-- the next has another name, too
pub none_further : (list : List KnownHistogram) (name : List ℕ) (i : ℕ) (next : KnownHistogram)
    → ((j : ℕ) (known : KnownHistogram) → j < i → get_elem? list j ≡ some known → known.name.items ≢ name) → get_elem? list i ≡ some next
    → next.name.items ≢ name → (j : ℕ) (known : KnownHistogram) → j < i + 1 → get_elem? list j ≡ some known → known.name.items ≢ name
none_further list name i next before here other j known below at = dite (ℕ_discrete j i)
    (λ same. λ named. other (ap (λ (k : KnownHistogram). k.name.items) (some-injective next known (sym here ∙ (ap (get_elem? list) (sym same) ∙ at))) ∙ named))
    (λ apart. before j known (omega (arith, below, apart)) at)

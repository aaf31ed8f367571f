-- A recorder knows at most one histogram of each name.
use Rattle.std.proofs.Common.{◌≡◌, ◌≢◌, ℕ, List, map, get_or, ⊎_elim, sym, ap, subst, ◌∙◌}
use Rattle.std.specs.List.{AllPairs}
use Rattle.std.proofs.lemmas.Bool.{cases_order}
use mathlib.Core.Option.{some, some-injective}
use lib.ListN.{get_elem?}
use Rattle.bucket_ranges.specs.declared.spec.Spec.{Spec}
use Rattle.bucket_ranges.specs.Spec.{SameSpec}
use Rattle.segment_invariant.proofs.Lists.Elements.{below_length, from_map, index_at}
use Rattle.segment_machine.specs.declared.actor.Actor.{Actor}
use Rattle.segment_machine.specs.declared.actor.Known.{Known}
use Rattle.live_segment.specs.declared.recorder.KnownHistogram.{KnownHistogram}
use Rattle.live_segment.specs.Known.{known_view}
use Rattle.live_segment.specs.Hist.Answer.{KnowsNoSame}

-- two places with the same name are one
one_place : (list : List KnownHistogram) → AllPairs (λ one other. one.name.items ≢ other.name.items) list → (i j : ℕ) (one other : KnownHistogram)
    → get_elem? list i ≡ some one → get_elem? list j ≡ some other → one.name.items ≡ other.name.items → i ≡ j
one_place list once i j one other at there same = ⊎_elim (λ is. is)
    (λ apart. ⊎_elim
    (λ before. absurd (once i j one before (below_length list j other there) (named i j one other at there same)))
    (λ behind. absurd (once j i one behind (below_length list i one at) (named j i other one there at (sym same))))
    apart) (cases_order i j)
  where
    named : (i j : ℕ) (x y : KnownHistogram) → get_elem? list i ≡ some x → get_elem? list j ≡ some y → x.name.items ≡ y.name.items
        → (get_or list i one).name.items ≡ (get_or list j one).name.items
    named i j x y at there same =
        ap (λ (k : KnownHistogram). k.name.items) (index_at list i x one at)
        ∙ (same ∙ sym (ap (λ (k : KnownHistogram). k.name.items) (index_at list j y one there)))

-- if that one has another spec, none has the name and the spec
pub none_same : (list : List KnownHistogram) (a : Actor) → AllPairs (λ one other. one.name.items ≢ other.name.items) list
    → map known_view list ≡ a.answers.names → (name : List ℕ) (spec : Spec) (index : ℕ) (one : KnownHistogram) → get_elem? list index ≡ some one
    → one.name.items ≡ name → ¬ (SameSpec one.spec spec) → KnowsNoSame name spec a
none_same list a once listed name spec index one at named unlike place known (there, its) same =
    let (other, stands, is) = from_map known_view list place known (subst (λ (l : List Known). get_elem? l place ≡ some known) (sym listed) there) in
    let here = one_place list once place index other one stands at (ap (λ (k : Known). k.name) is ∙ (its ∙ sym named)) in
    let both : other ≡ one = some-injective other one (sym stands ∙ (ap (get_elem? list) here ∙ at)) in
    unlike (subst (λ (s : Spec). SameSpec s spec) (sym (ap (λ (k : Known). k.spec) is) ∙ ap (λ (k : KnownHistogram). k.spec) both) same)

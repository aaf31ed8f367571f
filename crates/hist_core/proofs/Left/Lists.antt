-- How many records are ahead on a list.
use Rattle.std.proofs.Common.{◌≡◌, ◌≢◌, ℕ, zero, suc, ◌+◌, ◌-◌, ◌<◌, ◌≤◌, ◌==◌, Bool, true, false, List, length, ⊎_elim, refl, sym, ap, ◌∙◌, arith, eq-eqb}
use Rattle.std.specs.Prelude.{slice_index, if◌then◌else◌}
use Rattle.std.proofs.lemmas.Bool.{ne_eqb}
use mathlib.Core.Logic.{dite}
use native.Mathlib.Decide.{ℕ_discrete}
use Rattle.segment_image.specs.Words.{word_at}
use Rattle.list_core.specs.declared.walk.WalkStep.TheVariants.{Record, End, Stray}
use Rattle.list_core.specs.Chain.{is_reference, stops, AreNeighbours, IsLinked, IsStop}
use Rattle.list_core.specs.Walk.{said_of}
use Rattle.list_core.proofs.Chains.{next_inside, next_last, no_queue}
use Rattle.list_core.proofs.EventKinds.{next_loaded}
use Rattle.hist_core.specs.Left.{ahead, ahead_of, LeadsAlong}

-- ahead of a stop are the records after it
ahead_at : (words chain : List ℕ) → IsLinked words chain → (most k : ℕ) → k ≤ length chain → length chain - k ≤ most
    → ahead_of most words (slice_index (stops chain) k) ≡ length chain - k
ahead_at words chain linked zero k inside fits = omega (arith, fits)
ahead_at words chain linked (suc most) k inside fits = dite (ℕ_discrete k (length chain))
    (λ last.
    let end : word_at words (slice_index (stops chain) k + 3) ≡ 12 = ap (λ (n : ℕ). word_at words (slice_index (stops chain) n + 3)) last ∙ next_last words chain linked in
    ap (λ (b : Bool). if b then 0 else suc (ahead_of most words (word_at words (slice_index (stops chain) k + 3)))) (eq-eqb _ 12 end)
    ∙ (let none : 0 ≡ length chain - k = omega (arith, last) in none))
    (λ apart.
    let before : k < length chain = omega (arith, inside, apart) in
    let next : word_at words (slice_index (stops chain) k + 3) ≡ slice_index (stops chain) (suc k) = next_inside words chain k linked before in
    let more : word_at words (slice_index (stops chain) k + 3) ≢ 12 = λ end. no_queue words chain k linked before (sym next ∙ end) in
    let rest = ahead_at words chain linked most (suc k) (omega (arith, before)) (omega (arith, fits, before)) in
    ap (λ (b : Bool). if b then 0 else suc (ahead_of most words (word_at words (slice_index (stops chain) k + 3)))) (ne_eqb _ 12 more)
    ∙ (ap (λ (n : ℕ). suc (ahead_of most words n)) next
    ∙ (let one : suc (ahead_of most words (slice_index (stops chain) (suc k))) ≡ length chain - k = omega (arith, rest, before) in one)))

module _ (words chain : List ℕ) (has : LeadsAlong words chain) where
  pub ahead_is : (k at : ℕ) → k ≤ length chain → slice_index (stops chain) k ≡ at → ahead words at ≡ length chain - k
  ahead_is k at inside is =
      let few = has.few in
      ap (ahead words) (sym is) ∙ ahead_at words chain has.linked (length words) k inside (omega (arith, few))

  -- fewer are ahead of the next stop
  pub ahead_next : (at next : ℕ) → AreNeighbours chain at next → ahead words next < ahead words at
  ahead_next at next (k, inside, is, follows) =
      let here = ahead_is k at (omega (arith, inside)) is in
      let there = ahead_is (suc k) next (omega (arith, inside)) follows in
      omega (arith, here, there, inside)

  pub next_neighbour : (at : ℕ) → IsStop chain at → word_at words (at + 3) ≢ 12 → AreNeighbours chain at (word_at words (at + 3))
  next_neighbour at (k, inside, is) more = dite (ℕ_discrete k (length chain))
      (λ last. absurd (more (ap (λ (n : ℕ). word_at words (n + 3)) (sym is ∙ ap (slice_index (stops chain)) last) ∙ next_last words chain has.linked)))
      (λ apart.
      let before : k < length chain = omega (arith, inside, apart) in
      (k, before, is, sym (next_inside words chain k has.linked before) ∙ ap (λ (n : ℕ). word_at words (n + 3)) is))

  good : (k : ℕ) → k < length chain → is_reference (length words) (slice_index chain k) ≡ true
  good k inside = has.references (slice_index chain k) (suc k, omega (arith, inside), refl)

  -- a walk at a stop comes to a record that has fewer ahead
  pub record_ahead : (at reference : ℕ) → IsStop chain at → Record reference ≡ said_of (length words) (word_at words (at + 3)) → ahead words reference < ahead words at
  record_ahead at reference (k, inside, is) says = ⊎_elim
      (λ (before, gives).
      let both : Record reference ≡ Record (slice_index chain k) = says ∙ gives in
      let one : slice_index chain k ≡ reference = cc in
      ahead_next at reference (k, before, is, one))
      (λ (last, gives). absurd (let both : Record reference ≡ End = says ∙ gives in cc))
      (next_loaded words chain k at has.linked inside is (good k))

  -- and never strays
  pub never_stray : (at : ℕ) → IsStop chain at → Stray ≡ said_of (length words) (word_at words (at + 3)) → ⊥
  never_stray at (k, inside, is) says = ⊎_elim
      (λ (before, gives). let both : Stray ≡ Record (slice_index chain k) = says ∙ gives in cc)
      (λ (last, gives). let both : Stray ≡ End = says ∙ gives in cc)
      (next_loaded words chain k at has.linked inside is (good k))

-- no more are ahead than there are words
pub ahead_most : (most : ℕ) (words : List ℕ) (at : ℕ) → ahead_of most words at ≤ most
ahead_most zero words at = omega arith
ahead_most (suc most) words at = by (word_at words (at + 3) == 12) (ahead_of most words (word_at words (at + 3))) (ahead_most most words (word_at words (at + 3)))
  where
    by : (b : Bool) (n : ℕ) → n ≤ most → (if b then 0 else suc n) ≤ suc most
    by true n few = omega arith
    by false n few = omega (arith, few)

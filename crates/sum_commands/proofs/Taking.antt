-- Inputs that are taken in their order.
use Rattle.std.proofs.Common.{◌≡◌, ◌≢◌, ◌++◌, Bool, true, false, ◌&&◌, ◌||◌, nat_lt, ℕ, ◌+◌, ◌<◌, ◌≤◌, List, [], ◌∷◌, length, suc, All, slice_index_or, Result, Ok, Err, inl, inr, refl, ap, sym, subst, ◌∙◌, arith, append_assoc, ◌⊎◌, ⊎_elim}
use Rattle.std.specs.Prelude.{IfOk, IfErr, OnErr, ⊤}
use Rattle.std.proofs.lemmas.Bool.Decides.{nat_tests}
use Rattle.std.proofs.lemmas.List.{length-append, append-nil}
use Rattle.std.proofs.lemmas.List.Elements.{All-head, All-tail}
use Rattle.std.proofs.lemmas.Result.{IfOk-weaker}
use Rattle.std.specs.declared.alloc.AllocError.{AllocError}
use Rattle.reading_sums.specs.declared.sums.Sums.{Sums}
use Rattle.reading_sums.specs.Addends.{Addend, AddsAddend, IsSumInTurn, addend_of, no_addend}
use Rattle.reading_sums.specs.Fitting.{AddendsDoNotFit}
use Rattle.reading_sums.specs.Views.{parts_of}
use Rattle.reading_sums.specs.Whole.{IsWellFormed}
use Rattle.reading_sums.proofs.FitInTurn.{both-fit}
use Rattle.sum_commands.specs.declared.fault.InputFault.{InputFault}
use Rattle.sum_commands.specs.declared.fault.InputFault.TheVariants.{Image, BadTotals, TooMany}
use Rattle.sum_commands.specs.declared.summing.Left.{Left}
use Rattle.sum_commands.specs.declared.summing.Summed.{Summed}
use Rattle.sum_commands.specs.declared.working.Run.{Run}
use Rattle.sum_commands.specs.Inputs.{DoesNotFitAfter, DoesNotFitBehind}
use Rattle.sum_commands.specs.Sources.{Input, AddsInput, MayBeTaken, IsTakenAfter, IsTakenBehind, AreSmallAddends, AreSmallInputs, AreTakenInputs, EndsAtFault, IsSmallAfter, IsSmallSum, IsSumOfInputs, IsSumOfRun, IsSumSoFar, IsNoneAt, HasNotedInput, HasTakenInput, HasAppended, HasSummedRun, IsOpenedRun, SumEndsWithin, MayHaveAppended, IsOpenedAt, AreOpenedFrom, AddsTaken, MayNotBeAdded, SomeMayNotBeAdded, addends_of, addends_in, left_at, left_from, is_damaged_in, are_damaged, has_ended}
use Rattle.sum_commands.specs.Sources.Input.{Added, LeftOut}
use Rattle.sum_commands.proofs.Fits.{all-fit, none-small, small-append, small-end, sum-small-addends, taken-after, taken-later}
use Rattle.sum_commands.proofs.InTurn.{next-in-turn, both-in-turn}

-- ---- lists of inputs, one after the other

taken-append : (whole : Type 0) (may_be : ℕ → Input → Type 0) (before : List Addend) (place : ℕ) (xs ys : List Input)
    → AreTakenInputs whole may_be before place xs → AreTakenInputs whole may_be (before ++ addends_in xs) (place + length xs) ys
    → AreTakenInputs whole may_be before place (xs ++ ys)
taken-append whole may_be before place [] ys first second =
    let e : place + 0 ≡ place = omega arith in
    subst (λ n. AreTakenInputs whole may_be before n ys) e (subst (λ z. AreTakenInputs whole may_be z (place + 0) ys) (append-nil before) second)
taken-append whole may_be before place (x ∷ xs) ys first second =
    let e : place + suc (length xs) ≡ (place + 1) + length xs = omega arith in
    let behind : AreTakenInputs whole may_be ((before ++ addends_of x) ++ addends_in xs) (place + suc (length xs)) ys =
    subst (λ z. AreTakenInputs whole may_be z (place + suc (length xs)) ys) (sym (append_assoc before (addends_of x) (addends_in xs))) second in (
      first.0,
      taken-append whole may_be (before ++ addends_of x) (place + 1) xs ys first.1
          (subst (λ n. AreTakenInputs whole may_be ((before ++ addends_of x) ++ addends_in xs) n ys) e behind),
    )

addends-append : (xs ys : List Input) → addends_in (xs ++ ys) ≡ addends_in xs ++ addends_in ys
addends-append [] ys = refl
addends-append (x ∷ xs) ys = ap (λ z. addends_of x ++ z) (addends-append xs ys) ∙ sym (append_assoc (addends_of x) (addends_in xs) (addends_in ys))

left-append : (place : ℕ) (xs ys : List Input) → left_from place (xs ++ ys) ≡ left_from place xs ++ left_from (place + length xs) ys
left-append place [] ys = let e : place ≡ place + 0 = omega arith in ap (λ n. left_from n ys) e
left-append place (x ∷ xs) ys =
    let e : (place + 1) + length xs ≡ place + suc (length xs) = omega arith in
    ap (λ z. left_at place x ++ z) (left-append (place + 1) xs ys ∙ ap (λ n. left_from (place + 1) xs ++ left_from n ys) e)
    ∙ sym (append_assoc (left_at place x) (left_from (place + 1) xs) (left_from (place + suc (length xs)) ys))

or-assoc : (a b c : Bool) → (a || (b || c)) ≡ ((a || b) || c)
or-assoc true b c = refl
or-assoc false b c = refl

or-false : (a : Bool) → (a || false) ≡ a
or-false true = refl
or-false false = refl

damaged-append : (xs ys : List Input) → are_damaged (xs ++ ys) ≡ (are_damaged xs || are_damaged ys)
damaged-append [] ys = refl
damaged-append (x ∷ xs) ys = ap (λ z. is_damaged_in x || z) (damaged-append xs ys) ∙ or-assoc (is_damaged_in x) (are_damaged xs) (are_damaged ys)

-- others may come after inputs none of which is left out
ends-append : (place : ℕ) (xs ys : List Input) → left_from place xs ≡ [] → EndsAtFault ys → EndsAtFault (xs ++ ys)
ends-append place [] ys none ends = ends
ends-append place (Added is_damaged addend ∷ xs) ys none ends = ends-append (place + 1) xs ys none ends
ends-append place (LeftOut fault ∷ xs) ys none ends = absurd (cc)

ends-alone : (input : Input) → EndsAtFault (input ∷ [])
ends-alone (Added is_damaged addend) = tt
ends-alone (LeftOut fault) = refl

no-elements : {A : Type 0} (xs : List A) → nat_lt 0 (length xs) ≡ false → xs ≡ []
no-elements [] none = refl
no-elements (x ∷ xs) none = let e : suc (length xs) ≡ 0 = grind (arith, nat_tests, none) in absurd (omega (arith, e))

and-true : (a b : Bool) → (a && b) ≡ false → a ≡ true → b ≡ false
and-true true b both is = both
and-true false b both is = absurd (cc)

-- a sum that is strict and has not ended leaves no input out
none-left : (is_strict : Bool) (summed : Summed) → has_ended is_strict summed ≡ false → is_strict ≡ true → summed.left.items ≡ []
none-left is_strict summed goes_on strict = no-elements summed.left.items (and-true is_strict (nat_lt 0 (length summed.left.items)) goes_on strict)

-- ---- steps

adds-in-turn : (xs : List Addend) (input : Input) (a c : Sums) → IsSumInTurn xs a → AddsTaken input a c → IsSumInTurn (xs ++ addends_of input) c
adds-in-turn xs (Added is_damaged addend) a c is adds = next-in-turn xs addend a c is adds
adds-in-turn xs (LeftOut fault) a c is adds =
    subst (λ z. IsSumInTurn z c) (sym (append-nil xs)) (subst (λ s. IsSumInTurn xs s) (sym adds) is)

left-alone : (place : ℕ) (input : Input) → left_from place (input ∷ []) ≡ left_at place input
left-alone place input = append-nil (left_at place input)

-- what was left out is listed with its places
left-behind : (first place reached : ℕ) (before more after : List Left) (xs ys : List Input) → first ≡ place → reached ≡ place + length xs
    → before ≡ left_from place xs → more ≡ left_from reached ys → after ≡ before ++ more → after ≡ left_from first (xs ++ ys)
left-behind first place reached before more after xs ys same is first_left more_left both =
    both ∙ ((λ i. first_left i ++ more_left i) ∙ (ap (λ n. left_from place xs ++ left_from n ys) is
    ∙ (sym (left-append place xs ys) ∙ ap (λ n. left_from n (xs ++ ys)) (sym same))))

taken-behind : (whole : Type 0) (may_be : ℕ → Input → Type 0) (first place reached : ℕ) (xs ys : List Input) → first ≡ place → reached ≡ place + length xs
    → AreTakenInputs whole may_be [] place xs → AreTakenInputs whole may_be (addends_in xs) reached ys → AreTakenInputs whole may_be [] first (xs ++ ys)
taken-behind whole may_be first place reached xs ys same is before more =
    subst (λ n. AreTakenInputs whole may_be [] n (xs ++ ys)) (sym same)
    (taken-append whole may_be [] place xs ys before (subst (λ n. AreTakenInputs whole may_be (addends_in xs) n ys) is more))

-- ---- no inputs

none-taken : (whole : Type 0) (may_be : ℕ → Input → Type 0) (is_strict : Bool) (place : ℕ) (summed : Summed) → IsNoneAt place summed
    → (is : IsSumOfInputs whole may_be is_strict summed) × (is.inputs ≡ [])
none-taken whole may_be is_strict place summed none = (
  record {
    inputs = [];
    taken = tt;
    reached = let first = none.first in let reached = none.reached in omega arith;
    sum = none.sum;
    left = none.left;
    damaged = none.damaged;
    ends = λ strict. tt;
    well_formed = λ w. none.well_formed;
  },
  refl,
)

pub none-of-run : (whole : Type 0) (may_be : ℕ → Input → Type 0) (is_strict : Bool) (place : ℕ) (summed : Summed) → IsNoneAt place summed
    → IsSumOfRun whole may_be is_strict summed
none-of-run whole may_be is_strict place summed none =
    let is = none-taken whole may_be is_strict place summed none in record {
      sum = is.0;
      small = λ w fits. subst (AreSmallInputs []) (sym is.1) tt;
    }

pub none-so-far : (whole : Type 0) (may_be : ℕ → Input → Type 0) (is_strict : Bool) (place : ℕ) (summed : Summed) → IsNoneAt place summed
    → IsSumSoFar whole may_be is_strict summed
none-so-far whole may_be is_strict place summed none =
    let is = none-taken whole may_be is_strict place summed none in record {
      sum = is.0;
      small = λ w fits. subst (λ z. AreSmallAddends (addends_in z)) (sym is.1) none-small;
    }

-- ---- the next input is taken

addends-next : (xs : List Input) (one : Input) → addends_in (xs ++ one ∷ []) ≡ addends_in xs ++ addends_of one
addends-next xs one = addends-append xs (one ∷ []) ∙ ap (λ z. addends_in xs ++ z) (append-nil (addends_of one))

next-taken : (whole : Type 0) (may_be : ℕ → Input → Type 0) (is_strict : Bool) (before after : Summed) (is : IsSumOfInputs whole may_be is_strict before)
    → has_ended is_strict before ≡ false → (step : HasTakenInput whole (may_be before.reached) before after)
    → (next : IsSumOfInputs whole may_be is_strict after) × (next.inputs ≡ is.inputs ++ step.input ∷ [])
next-taken whole may_be is_strict before after is goes_on step =
    let xs : List Input = is.inputs in
    let one : Input = step.input in (
      record {
        inputs = xs ++ one ∷ [];
        taken = taken-behind whole may_be after.first before.first before.reached xs (one ∷ []) step.first is.reached is.taken
            (taken-after whole (may_be before.reached) before.sums (addends_in xs) one is.well_formed is.sum step.taken, tt);
        reached = let e = is.reached in let f = step.first in let r = step.reached in omega (arith, length-append xs (one ∷ []));
        sum = subst (λ z. IsSumInTurn z after.sums) (sym (addends-next xs one)) (adds-in-turn (addends_in xs) one before.sums after.sums is.sum step.sum);
        left = left-behind after.first before.first before.reached before.left.items (left_at before.reached one) after.left.items xs (one ∷ []) step.first is.reached is.left
            (sym (left-alone before.reached one)) step.left;
        damaged = step.damaged ∙ ((λ i. is.damaged i || sym (or-false (is_damaged_in one)) i) ∙ sym (damaged-append xs (one ∷ [])));
        ends = λ strict. ends-append before.first xs (one ∷ []) (sym is.left ∙ none-left is_strict before goes_on strict) (ends-alone one);
        well_formed = λ w. step.well_formed w (is.well_formed w);
      },
      refl,
    )

-- addends that were small are still small after an input with which the sum is small
small-next : (sums : Sums) (xs : List Addend) (one : Input) → IsWellFormed sums → IsSumInTurn (xs ++ addends_of one) sums → AreSmallAddends xs → IsSmallAfter one sums
    → AreSmallAddends (xs ++ addends_of one)
small-next sums xs (Added is_damaged addend) formed is before small = sum-small-addends sums (xs ++ addend ∷ []) formed is small
small-next sums xs (LeftOut fault) formed is before small = subst AreSmallAddends (sym (append-nil xs)) before

-- the same for a sum that has taken its next input
small-taken : (whole : Type 0) (may_be : ℕ → Input → Type 0) (is_strict : Bool) (before after : Summed) (is : IsSumOfInputs whole may_be is_strict before)
    (step : HasTakenInput whole (may_be before.reached) before after) → whole → after.was_large ≡ false → (before.was_large ≡ false → AreSmallAddends (addends_in is.inputs))
    → AreSmallAddends (addends_in is.inputs ++ addends_of step.input)
small-taken whole may_be is_strict before after is step w fits before_small =
    let small = step.small fits in
    small-next after.sums (addends_in is.inputs) step.input (step.well_formed w (is.well_formed w))
    (adds-in-turn (addends_in is.inputs) step.input before.sums after.sums is.sum step.sum) (before_small small.0) small.1

pub next-so-far : (whole : Type 0) (may_be : ℕ → Input → Type 0) (is_strict : Bool) (before after : Summed) → IsSumSoFar whole may_be is_strict before
    → has_ended is_strict before ≡ false → HasTakenInput whole (may_be before.reached) before after → IsSumSoFar whole may_be is_strict after
next-so-far whole may_be is_strict before after is goes_on step =
    let next = next-taken whole may_be is_strict before after is.sum goes_on step in record {
      sum = next.0;
      small = λ w fits.
          subst AreSmallAddends (sym (ap addends_in next.1 ∙ addends-next is.sum.inputs step.input))
          (small-taken whole may_be is_strict before after is.sum step w fits (is.small w));
    }

pub next-of-run : (whole : Type 0) (may_be : ℕ → Input → Type 0) (is_strict : Bool) (before after : Summed) → IsSumOfRun whole may_be is_strict before
    → has_ended is_strict before ≡ false → HasTakenInput whole (may_be before.reached) before after → IsSumOfRun whole may_be is_strict after
next-of-run whole may_be is_strict before after is goes_on step =
    let next = next-taken whole may_be is_strict before after is.sum goes_on step in record {
      sum = next.0;
      small = λ w fits.
          let each : AreSmallInputs [] is.sum.inputs = is.small w (step.small fits).0 in
          subst (AreSmallInputs []) (sym next.1)
          (small-append [] is.sum.inputs (step.input ∷ []) each
          (small-taken whole may_be is_strict before after is.sum step w fits (λ e. small-end [] is.sum.inputs none-small each), tt));
    }

-- ---- the inputs of another sum are appended

-- they are taken the same after those before them, since all fit together
more-behind : (whole : Type 0) (may_be : ℕ → Input → Type 0) (is_strict : Bool) (more before after : Summed) (is : IsSumSoFar whole may_be is_strict before)
    (behind : IsSumOfRun whole may_be is_strict more) → before.reached ≡ more.first → HasAppended more before after
    → AreTakenInputs whole may_be (addends_in is.sum.inputs) before.reached behind.sum.inputs
more-behind whole may_be is_strict more before after is behind place step =
    let xs : List Addend = addends_in is.sum.inputs in
    let ys : List Input = behind.sum.inputs in
    let fit : (whole → ¬ AddendsDoNotFit (xs ++ addends_in ys)) =
    λ w.
    both-fit before.sums more.sums xs (addends_in ys) is.sum.sum behind.sum.sum
    (λ long. step.fits (is.sum.well_formed w) (behind.sum.well_formed w) (inl long)) in
    subst (λ z. AreTakenInputs whole may_be z before.reached ys) (append-nil xs)
    (subst (λ n. AreTakenInputs whole may_be (xs ++ []) n ys) (sym place)
    (taken-later whole may_be xs [] more.first ys fit (λ w. is.small w step.were_small.0) (λ w. behind.small w step.were_small.1)
    (all-fit more.first ys (subst (All (λ (left : Left). left.fault ≢ TooMany)) behind.sum.left step.room)) behind.sum.taken))

pub more-taken : (whole : Type 0) (may_be : ℕ → Input → Type 0) (is_strict : Bool) (more before after : Summed) → IsSumSoFar whole may_be is_strict before
    → has_ended is_strict before ≡ false → IsSumOfRun whole may_be is_strict more → before.reached ≡ more.first → HasAppended more before after
    → IsSumSoFar whole may_be is_strict after
more-taken whole may_be is_strict more before after so_far goes_on run place step =
    let is = so_far.sum in
    let behind = run.sum in
    let xs : List Input = is.inputs in
    let ys : List Input = behind.inputs in
    let sum : IsSumInTurn (addends_in (xs ++ ys)) after.sums =
    subst (λ z. IsSumInTurn z after.sums) (sym (addends-append xs ys))
    (both-in-turn (addends_in xs) (addends_in ys) before.sums more.sums after.sums is.sum behind.sum step.sum) in
    let formed : (whole → IsWellFormed after.sums) = λ w. step.well_formed (is.well_formed w) (behind.well_formed w) in record {
      sum = record {
        inputs = xs ++ ys;
        taken = taken-behind whole may_be after.first before.first before.reached xs ys step.first is.reached is.taken
            (more-behind whole may_be is_strict more before after so_far run place step);
        reached = let e = is.reached in let f = step.first in let r = step.reached in let b = behind.reached in omega (arith, place, length-append xs ys);
        sum = sum;
        left = left-behind after.first before.first before.reached before.left.items more.left.items after.left.items xs ys step.first is.reached is.left
            (behind.left ∙ ap (λ n. left_from n ys) (sym place)) step.left;
        damaged = step.damaged ∙ ((λ i. is.damaged i || behind.damaged i) ∙ sym (damaged-append xs ys));
        ends = λ strict. ends-append before.first xs ys (sym is.left ∙ none-left is_strict before goes_on strict) (behind.ends strict);
        well_formed = formed;
      };
      small = λ w fits. sum-small-addends after.sums (addends_in (xs ++ ys)) (formed w) sum (step.small fits);
    }

-- ---- inputs that were opened

pub may-more : (whole known : Type 0) (P Q : Input → Type 0) (D : Addend → Type 0) (input : Input) → (known → whole) → ((one : Input) → P one → Q one)
    → MayBeTaken whole P D input → MayBeTaken known Q D input
may-more whole known P Q D (Added is_damaged addend) is more may = (more (Added is_damaged addend) may.0, λ k. may.1 (is k))
may-more whole known P Q D (LeftOut (Image fault)) is more may = more (LeftOut (Image fault)) may
may-more whole known P Q D (LeftOut (BadTotals line)) is more may = more (LeftOut (BadTotals line)) may
may-more whole known P Q D (LeftOut TooMany) is more may = record {
  is_damaged = may.is_damaged;
  addend = may.addend;
  is = more (Added may.is_damaged may.addend) may.is;
  many = λ k. may.many (is k);
}

taken-more : (whole known : Type 0) (P Q : ℕ → Input → Type 0) (before : List Addend) (place : ℕ) (xs : List Input) → (known → whole)
    → ((at : ℕ) (one : Input) → P at one → Q at one) → AreTakenInputs whole P before place xs → AreTakenInputs known Q before place xs
taken-more whole known P Q before place [] is more are = tt
taken-more whole known P Q before place (x ∷ xs) is more are =
    (may-more whole known (P place) (Q place) (DoesNotFitAfter before) x is (more place) are.0, taken-more whole known P Q (before ++ addends_of x) (place + 1) xs is more are.1)

opened-may : {O : Type 0} (opened_may_be : O → Input → Type 0) (may_be : ℕ → Input → Type 0) (place : ℕ) (front : List O) (one : O) (behind : List O)
    → AreOpenedFrom opened_may_be may_be place (front ++ one ∷ behind) → (input : Input) → opened_may_be one input → may_be (place + length front) input
opened-may {O} opened_may_be may_be place [] one behind are input is =
    let e : place ≡ place + 0 = omega arith in subst (λ n. may_be n input) e (are.0 input is)
opened-may {O} opened_may_be may_be place (x ∷ front) one behind are input is =
    let e : (place + 1) + length front ≡ place + suc (length front) = omega arith in
    subst (λ n. may_be n input) e (opened-may opened_may_be may_be (place + 1) front one behind are.1 input is)

pub opened-append : {O : Type 0} (opened_may_be : O → Input → Type 0) (may_be : ℕ → Input → Type 0) (place : ℕ) (xs : List O) (one : O)
    → AreOpenedFrom opened_may_be may_be place xs → ((input : Input) → opened_may_be one input → may_be (place + length xs) input)
    → AreOpenedFrom opened_may_be may_be place (xs ++ one ∷ [])
opened-append {O} opened_may_be may_be place [] one are more =
    let e : place + 0 ≡ place = omega arith in ((λ input is. subst (λ n. may_be n input) e (more input is)), tt)
opened-append {O} opened_may_be may_be place (x ∷ xs) one are more =
    let e : place + suc (length xs) ≡ (place + 1) + length xs = omega arith in
    (are.0, opened-append opened_may_be may_be (place + 1) xs one are.1 (λ input is. subst (λ n. may_be n input) e (more input is)))

-- a sum of inputs about which more is known
sum-known : (whole known : Type 0) (P Q : ℕ → Input → Type 0) (is_strict : Bool) (summed : Summed) → (known → whole)
    → ((at : ℕ) (one : Input) → P at one → Q at one) → IsSumOfInputs whole P is_strict summed → IsSumOfInputs known Q is_strict summed
sum-known whole known P Q is_strict summed each more is = record {
  inputs = is.inputs;
  taken = taken-more whole known P Q [] summed.first is.inputs each more is.taken;
  reached = is.reached;
  sum = is.sum;
  left = is.left;
  damaged = is.damaged;
  ends = is.ends;
  well_formed = λ k. is.well_formed (each k);
}

-- a run of opened inputs was added up, and each may only be what the input at its place may be
run-taken : {O : Type 0} (is_whole : O → Type 0) (opened_may_be : O → Input → Type 0) (whole : Type 0) (may_be : ℕ → Input → Type 0) (is_strict : Bool) (first : ℕ)
    (opened : List O) (summed : Summed) → AreOpenedFrom opened_may_be may_be first opened → (whole → All is_whole opened)
    → IsSumOfRun (All is_whole opened) (IsOpenedAt opened_may_be first opened) is_strict summed → IsSumOfRun whole may_be is_strict summed
unfolding sum-known
run-taken {O} is_whole opened_may_be whole may_be is_strict first opened summed are each run = record {
  sum = sum-known (All is_whole opened) whole (IsOpenedAt opened_may_be first opened) may_be is_strict summed each
      (λ at one there.
      subst (λ n. may_be n one) (sym there.at)
      (opened-may opened_may_be may_be first there.front there.one there.behind
      (subst (AreOpenedFrom opened_may_be may_be first) there.split are) one there.is)) run.sum;
  small = λ w. run.small (each w);
}

all-middle : {O : Type 0} (P : O → Type 0) (front : List O) (one : O) (behind : List O) → All P (front ++ one ∷ behind) → P one
all-middle {O} P [] one behind all = All-head P one behind all
all-middle {O} P (x ∷ front) one behind all = all-middle P front one behind (All-tail P x (front ++ one ∷ behind) all)

-- the next of the inputs that were opened is taken as what it may be
pub opened-taken : {O : Type 0} (is_whole : O → Type 0) (opened_may_be : O → Input → Type 0) (first : ℕ) (opened front : List O) (one : O) (behind : List O)
    (before after : Summed) → before.reached ≡ first + length front → opened ≡ front ++ one ∷ behind → HasTakenInput (is_whole one) (opened_may_be one) before after
    → HasTakenInput (All is_whole opened) (IsOpenedAt opened_may_be first opened before.reached) before after
opened-taken {O} is_whole opened_may_be first opened front one behind before after at split step =
    let here : (All is_whole opened → is_whole one) = λ all. all-middle is_whole front one behind (subst (All is_whole) split all) in record {
      input = step.input;
      taken = may-more (is_whole one × IsWellFormed before.sums) (All is_whole opened × IsWellFormed before.sums) (opened_may_be one)
          (IsOpenedAt opened_may_be first opened before.reached) (DoesNotFitBehind before.sums) step.input (λ both. (here both.0, both.1))
          (λ input is. record { front = front; one = one; behind = behind; split = split; at = at; is = is }) step.taken;
      first = step.first;
      reached = step.reached;
      sum = step.sum;
      left = step.left;
      damaged = step.damaged;
      well_formed = λ all. step.well_formed (here all);
      small = step.small;
    }

-- ---- an input was added and noted

pub noted-taken : (whole : Type 0) (may_be : Input → Type 0) (added : Result Bool InputFault) (before after : Summed) (sums : Sums)
    → IfOk added (λ is_damaged. AddsInput whole may_be is_damaged before.sums sums) → IfErr added (MayNotBeAdded whole may_be before.sums)
    → OnErr added (sums ≡ before.sums) → HasNotedInput added (record before { sums = sums }) after → HasTakenInput whole may_be before after
noted-taken whole may_be (Ok is_damaged) before after sums adds cause refused noted = record {
  input = Added is_damaged adds.addend;
  taken = adds.taken;
  first = noted.first;
  reached = noted.reached;
  sum = subst (λ z. AddsAddend adds.addend before.sums z) (sym noted.sums) adds.added;
  left = noted.left;
  damaged = noted.damaged;
  well_formed = λ w formed. subst IsWellFormed (sym noted.sums) (adds.well_formed w formed);
  small = noted.small;
}
noted-taken whole may_be (Err fault) before after sums adds cause refused noted = record {
  input = LeftOut fault;
  taken = elim cause as (λ _. IsTakenBehind whole may_be before.sums (LeftOut fault)) [ inl none ↦ absurd (noted.goes_on none) | inr may ↦ may ];
  first = noted.first;
  reached = noted.reached;
  sum = noted.sums ∙ refused;
  left = noted.left;
  damaged = noted.damaged;
  well_formed = λ w formed. subst IsWellFormed (sym (noted.sums ∙ refused)) formed;
  small = λ fits. ((noted.small fits).0, tt);
}

-- ---- sums that workers made

pub may-more-taken : (whole : Type 0) (may_be : ℕ → Input → Type 0) (is_strict : Bool) (more before after : Summed) → IsSumSoFar whole may_be is_strict before
    → IsSumOfRun whole may_be is_strict more → MayHaveAppended is_strict more before after → IsSumSoFar whole may_be is_strict after
may-more-taken whole may_be is_strict more before after is behind step =
    elim step as (λ _. IsSumSoFar whole may_be is_strict after) [
      | inl same ↦ subst (IsSumSoFar whole may_be is_strict) (sym same) is
      | inr goes ↦ more-taken whole may_be is_strict more before after is goes.1 behind goes.0 goes.2
    ]

pub may-more-first : (is_strict : Bool) (more before after : Summed) → MayHaveAppended is_strict more before after → after.first ≡ before.first
may-more-first is_strict more before after step =
    elim step as (λ _. after.first ≡ before.first) [ inl same ↦ ap (λ (s : Summed). s.first) same | inr goes ↦ goes.2.first ]

pub may-more-within : (is_strict : Bool) (more before after : Summed) (most : ℕ) → MayHaveAppended is_strict more before after
    → before.reached ≤ most → more.reached ≤ most → after.reached ≤ most
may-more-within is_strict more before after most step first second =
    elim step as (λ _. after.reached ≤ most) [
      | inl same ↦ subst (λ (s : Summed). s.reached ≤ most) (sym same) first
      | inr goes ↦ subst (λ n. n ≤ most) (sym goes.2.reached) second
    ]

-- what the workers of runs have made: sums of inputs that end before a place
pub all-within : {O : Type 0} (is_whole : O → Type 0) (opened_may_be : O → Input → Type 0) (whole : Type 0) (may_be : ℕ → Input → Type 0) (end : ℕ)
    (is_strict : Bool) (runs : List (Run O)) (done : List (Result Summed AllocError))
    → All (IsOpenedRun is_whole opened_may_be whole may_be end is_strict) runs → length done ≡ length runs
    → ((k : ℕ) (d : Run O) (e : Result Summed AllocError) → k < length runs
    → IfOk (slice_index_or done k e)
    (HasSummedRun is_whole opened_may_be (slice_index_or runs k d).first (slice_index_or runs k d).opened.items (slice_index_or runs k d).is_strict))
    → All (λ one. IfOk one (SumEndsWithin whole may_be is_strict end)) done
all-within {O} is_whole opened_may_be whole may_be end is_strict [] done are len each k e lt = absurd (omega (arith, len, lt))
all-within {O} is_whole opened_may_be whole may_be end is_strict (run ∷ runs) done are len each k e lt =
    let here : k < length (run ∷ runs) = omega (arith, len, lt) in
    let one : Run O = slice_index_or (run ∷ runs) k run in
    let is : IsOpenedRun is_whole opened_may_be whole may_be end is_strict one = are k run here in
    IfOk-weaker (slice_index_or done k e) (HasSummedRun is_whole opened_may_be one.first one.opened.items one.is_strict)
    (SumEndsWithin whole may_be is_strict end)
    (λ summed has. record {
      sum = subst (λ b. IsSumOfRun whole may_be b summed) is.strict
          (run-taken is_whole opened_may_be whole may_be one.is_strict one.first one.opened.items summed is.are is.each has.sum);
      within = let w = has.within in let v = is.within in omega arith;
    })
    (each k run e here)

-- ---- inputs of which nothing is known

any-left : (before : Sums) (fault : InputFault) → IsTakenBehind ⊥ (λ input. ⊤) before (LeftOut fault)
any-left before (Image fault) = tt
any-left before (BadTotals line) = tt
any-left before TooMany = record { is_damaged = false; addend = no_addend; is = tt; many = λ known. absurd known.0 }

pub any-fault : (before : Sums) (added : Result Bool InputFault) → IfErr added (SomeMayNotBeAdded before)
any-fault before (Ok is_damaged) = tt
any-fault before (Err fault) = inr (any-left before fault)

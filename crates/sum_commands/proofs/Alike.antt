-- All inputs have one sum, if each can only be one thing.
use Rattle.std.proofs.Common.{◌≡◌, ◌≢◌, Bool, true, false, nat_lt, ℕ, ◌+◌, ◌≤◌, List, [], ◌∷◌, ◌++◌, length, zero, suc, All, ◌⊎◌, ⊎_elim, inl, inr, refl, ap, sym, subst, ◌∙◌, arith}
use Rattle.reading_sums.specs.declared.notes.Notes.{Notes}
use Rattle.reading_sums.specs.declared.sums.Sums.{Sums}
use Rattle.reading_sums.specs.Addends.{Addend, IsSumInTurn, parts_in_turn}
use Rattle.reading_sums.specs.Shown.{shown_parts, other_parts, IsOtherOf}
use Rattle.reading_sums.specs.Sums.{HaveSameSum}
use Rattle.reading_sums.specs.Totals.{Part}
use Rattle.reading_sums.specs.Views.{parts_of}
use Rattle.reading_sums.proofs.OneSum.{one-sum}
use Rattle.reading_sums.proofs.Totals.{same-sym, same-trans}
use Rattle.std.specs.Prelude.{⊤}
use Rattle.std.specs.List.{AllZip}
use Rattle.sum_texts.specs.Endings.{IsSumReport, ending_text}
use Rattle.sum_commands.specs.declared.fault.InputFault.{InputFault}
use Rattle.sum_commands.specs.declared.fault.InputFault.TheVariants.{Image, BadTotals, TooMany}
use Rattle.sum_commands.specs.declared.summing.Left.{Left}
use Rattle.sum_commands.specs.declared.summing.Summed.{Summed}
use Rattle.sum_commands.specs.Inputs.{DoesNotFitAfter}
use Rattle.sum_commands.specs.Sources.{Input, MayBeTaken, MayBeTooMany, AreTakenInputs, EndsAtFault, IsSumOfAllInputs, IsSumOfInputs, AreFixedInputs, HasRoom, AreAlike, addends_in, addends_of, left_from, are_damaged}
use Rattle.sum_commands.specs.Sources.Input.{Added, LeftOut}
use Rattle.sum_commands.proofs.Fits.{AllFit, all-fit}

-- ---- the same inputs

-- it is known what an input is taken as if it is fixed, and is whole or not left out with `TooMany`
abbrev IsSure : Type 0 → Input → Type 0
IsSure whole input = whole ⊎ (input ≢ LeftOut TooMany)

-- an input that is left out for a fault that it may have, or because an addend that it may be does not fit
left-is : (whole : Type 0) (may_be : Input → Type 0) (D : Addend → Type 0) (fault : InputFault) → MayBeTaken whole may_be D (LeftOut fault)
    → ((fault ≢ TooMany) × may_be (LeftOut fault)) ⊎ ((fault ≡ TooMany) × MayBeTooMany whole may_be D)
left-is whole may_be D (Image fault) may = inl ((λ e. absurd (cc)), may)
left-is whole may_be D (BadTotals line) may = inl ((λ e. absurd (cc)), may)
left-is whole may_be D TooMany may = inr (refl, may)

-- one input is never both added and left out
not-both : (whole : Type 0) (may_be : Input → Type 0) (D : Addend → Type 0) (is_damaged : Bool) (addend : Addend) (fault : InputFault)
    → ((one other : Input) → may_be one → may_be other → one ≡ other) → IsSure whole (LeftOut fault)
    → MayBeTaken whole may_be D (Added is_damaged addend) → MayBeTaken whole may_be D (LeftOut fault) → ⊥
not-both whole may_be D is_damaged addend fault fixed sure added left =
    ⊎_elim (λ may. let wrong = fixed (Added is_damaged addend) (LeftOut fault) added.0 may.1 in absurd (cc))
    (λ many.
    let same : addend ≡ many.1.addend = let e = fixed (Added is_damaged addend) (Added many.1.is_damaged many.1.addend) added.0 many.1.is in cc in
    ⊎_elim (λ w. added.1 w (subst D (sym same) (many.1.many w))) (λ other. other (ap LeftOut many.0)) sure)
    (left-is whole may_be D fault left)

-- nor is it left out for two faults
same-fault : (whole : Type 0) (may_be : Input → Type 0) (D : Addend → Type 0) (one other : InputFault)
    → ((one other : Input) → may_be one → may_be other → one ≡ other) → MayBeTaken whole may_be D (LeftOut one) → MayBeTaken whole may_be D (LeftOut other) → one ≡ other
same-fault whole may_be D one other fixed first second =
    ⊎_elim
    (λ may.
    ⊎_elim (λ also. let e = fixed (LeftOut one) (LeftOut other) may.1 also.1 in cc)
    (λ many. let wrong = fixed (LeftOut one) (Added many.1.is_damaged many.1.addend) may.1 many.1.is in absurd (cc)) (left-is whole may_be D other second))
    (λ many.
    ⊎_elim (λ may. let wrong = fixed (LeftOut other) (Added many.1.is_damaged many.1.addend) may.1 many.1.is in absurd (cc))
    (λ also. many.0 ∙ sym also.0) (left-is whole may_be D other second)) (left-is whole may_be D one first)

same-first : (whole : Type 0) (may_be : Input → Type 0) (D : Addend → Type 0) (x y : Input) → ((one other : Input) → may_be one → may_be other → one ≡ other)
    → IsSure whole x → IsSure whole y → MayBeTaken whole may_be D x → MayBeTaken whole may_be D y → x ≡ y
same-first whole may_be D (Added is_damaged addend) (Added other_damaged other) fixed sure also first second =
    fixed (Added is_damaged addend) (Added other_damaged other) first.0 second.0
same-first whole may_be D (Added is_damaged addend) (LeftOut fault) fixed sure also first second =
    absurd (not-both whole may_be D is_damaged addend fault fixed also first second)
same-first whole may_be D (LeftOut fault) (Added is_damaged addend) fixed sure also first second =
    absurd (not-both whole may_be D is_damaged addend fault fixed sure second first)
same-first whole may_be D (LeftOut fault) (LeftOut other) fixed sure also first second = ap LeftOut (same-fault whole may_be D fault other fixed first second)

-- the same holds of each of some inputs
abbrev AreSure : Type 0 → List Input → Type 0
AreSure whole [] = ⊤
AreSure whole (input ∷ rest) = IsSure whole input × AreSure whole rest

whole-sure : (whole : Type 0) (xs : List Input) → whole → AreSure whole xs
whole-sure whole [] w = tt
whole-sure whole (x ∷ xs) w = (inl w, whole-sure whole xs w)

fit-sure : (whole : Type 0) (xs : List Input) → AllFit xs → AreSure whole xs
fit-sure whole [] fit = tt
fit-sure whole (x ∷ xs) fit = (inr fit.0, fit-sure whole xs fit.1)

-- both have as many inputs
same-many : (whole : Type 0) (may_be : ℕ → Input → Type 0) (before : List Addend) (place : ℕ) (xs ys : List Input) → AreFixedInputs may_be
    → AreSure whole xs → AreSure whole ys → AreTakenInputs whole may_be before place xs → AreTakenInputs whole may_be before place ys → length xs ≡ length ys → xs ≡ ys
same-many whole may_be before place [] [] fixed sure also first second many = refl
same-many whole may_be before place [] (y ∷ ys) fixed sure also first second many = absurd (omega (arith, many))
same-many whole may_be before place (x ∷ xs) [] fixed sure also first second many = absurd (omega (arith, many))
same-many whole may_be before place (x ∷ xs) (y ∷ ys) fixed sure also first second many =
    let here : x ≡ y = same-first whole (may_be place) (DoesNotFitAfter before) x y (fixed place) sure.0 also.0 first.0 second.0 in
    let other : AreTakenInputs whole may_be (before ++ addends_of x) (place + 1) ys =
    subst (λ z. AreTakenInputs whole may_be (before ++ addends_of z) (place + 1) ys) (sym here) second.1 in
    let rest : xs ≡ ys = same-many whole may_be (before ++ addends_of x) (place + 1) xs ys fixed sure.1 also.1 first.1 other (omega (arith, many)) in
    λ i. here i ∷ rest i

-- inputs up to the first that is left out, or all of this number
abbrev EndsSo : ℕ → ℕ → List Input → Type 0
EndsSo place count xs = EndsAtFault xs × (length xs ≤ count) × (nat_lt 0 (length (left_from place xs)) ≡ false → length xs ≡ count)

ends-rest : (place count : ℕ) (is_damaged : Bool) (addend : Addend) (xs : List Input) → EndsSo place (count + 1) (Added is_damaged addend ∷ xs) → EndsSo (place + 1) count xs
ends-rest place count is_damaged addend xs ends =
    let within = ends.1 in (ends.0, omega (arith, within), λ none. let all = ends.2 none in omega (arith, all))

same-ends : (whole : Type 0) (may_be : ℕ → Input → Type 0) (before : List Addend) (place count : ℕ) (xs ys : List Input) → AreFixedInputs may_be
    → AreSure whole xs → AreSure whole ys → AreTakenInputs whole may_be before place xs → AreTakenInputs whole may_be before place ys
    → EndsSo place count xs → EndsSo place count ys → xs ≡ ys
same-ends whole may_be before place count [] [] fixed sure also first second ends other_ends = refl
same-ends whole may_be before place count [] (y ∷ ys) fixed sure also first second ends other_ends =
    let all = ends.2 refl in let within = other_ends.1 in absurd (omega (arith, all, within))
same-ends whole may_be before place count (x ∷ xs) [] fixed sure also first second ends other_ends =
    let all = other_ends.2 refl in let within = ends.1 in absurd (omega (arith, all, within))
same-ends whole may_be before place zero (x ∷ xs) (y ∷ ys) fixed sure also first second ends other_ends =
    let within = ends.1 in absurd (omega (arith, within))
same-ends whole may_be before place (suc count) (Added is_damaged addend ∷ xs) (Added other_damaged other ∷ ys) fixed sure also first second ends other_ends =
    let x : Input = Added is_damaged addend in
    let y : Input = Added other_damaged other in
    let here : x ≡ y = same-first whole (may_be place) (DoesNotFitAfter before) x y (fixed place) sure.0 also.0 first.0 second.0 in
    let behind : AreTakenInputs whole may_be (before ++ addends_of x) (place + 1) ys =
    subst (λ z. AreTakenInputs whole may_be (before ++ addends_of z) (place + 1) ys) (sym here) second.1 in
    let e : suc count ≡ count + 1 = omega arith in
    let rest : xs ≡ ys =
    same-ends whole may_be (before ++ addends_of x) (place + 1) count xs ys fixed sure.1 also.1 first.1 behind
    (ends-rest place count is_damaged addend xs (subst (λ n. EndsSo place n (x ∷ xs)) e ends))
    (ends-rest place count other_damaged other ys (subst (λ n. EndsSo place n (y ∷ ys)) e other_ends)) in
    λ i. here i ∷ rest i
same-ends whole may_be before place (suc count) (Added is_damaged addend ∷ xs) (LeftOut fault ∷ ys) fixed sure also first second ends other_ends =
    absurd (not-both whole (may_be place) (DoesNotFitAfter before) is_damaged addend fault (fixed place) also.0 first.0 second.0)
same-ends whole may_be before place (suc count) (LeftOut fault ∷ xs) (Added is_damaged addend ∷ ys) fixed sure also first second ends other_ends =
    absurd (not-both whole (may_be place) (DoesNotFitAfter before) is_damaged addend fault (fixed place) sure.0 second.0 first.0)
same-ends whole may_be before place (suc count) (LeftOut fault ∷ xs) (LeftOut other ∷ ys) fixed sure also first second ends other_ends =
    let here : LeftOut fault ≡ LeftOut other =
    same-first whole (may_be place) (DoesNotFitAfter before) (LeftOut fault) (LeftOut other) (fixed place) sure.0 also.0 first.0 second.0 in
    let rest : xs ≡ ys = ends.0 ∙ sym other_ends.0 in
    λ i. here i ∷ rest i

-- ---- the same sum

same-notes : (addends : List Addend) (a b : Sums) → IsSumInTurn addends a → IsSumInTurn addends b → a.notes ≡ b.notes
same-notes addends a b first second = λ i. record {
  images = (first.images ∙ sym second.images) i;
  full = (first.full ∙ sym second.full) i;
  corrupt = (first.corrupt ∙ sym second.corrupt) i;
  stopped = (first.stopped ∙ sym second.stopped) i;
  bad = (first.bad ∙ sym second.bad) i;
}

same-sum : (addends : List Addend) (a b : Sums) → IsSumInTurn addends a → IsSumInTurn addends b → HaveSameSum a b
same-sum addends a b first second = record {
  hists = same-trans (parts_of a) (parts_in_turn 0 addends) (parts_of b) first.hists (same-sym (parts_of b) (parts_in_turn 0 addends) second.hists);
  notes = same-notes addends a b first second;
}

-- the report depends only on the parts of a sum and its notes
same-report : (a b : Sums) (n m : ℕ) (text : List ℕ) → parts_of a ≡ parts_of b → a.notes ≡ b.notes → n ≡ m → IsSumReport a n text → IsSumReport b m text
same-report a b n m text parts notes many is = record {
  reading = is.reading;
  others = is.others;
  report = is.report;
  of_sum = record {
    hists = is.of_sum.hists ∙ ap shown_parts parts;
    full = is.of_sum.full ∙ ap (λ (z : Notes). nat_lt 0 z.full) notes;
    corrupt = is.of_sum.corrupt ∙ ap (λ (z : Notes). nat_lt 0 z.corrupt) notes;
    bad = is.of_sum.bad;
    stopped = is.of_sum.stopped;
  };
  told = subst (λ (z : List Part). AllZip IsOtherOf (other_parts z) is.others) parts is.told;
  written = is.written;
  behind = is.behind ∙ (λ i. is.report ++ ending_text (notes i).images is.others (many i));
}

-- ---- all inputs

ends-so : (whole : Type 0) (may_be : ℕ → Input → Type 0) (count : ℕ) (s : Summed) (is : IsSumOfAllInputs whole may_be true count s) → EndsSo 0 count is.sum.inputs
ends-so whole may_be count s is =
    let zs = is.sum.inputs in
    let r = is.sum.reached in let f = is.first in let w = is.within in (
      is.sum.ends refl,
      omega (arith, r, f, w),
      λ none.
          let same : s.left.items ≡ left_from 0 zs = is.sum.left ∙ ap (λ n. left_from n zs) is.first in
          let all = is.all (ap (λ (z : List Left). nat_lt 0 (length z)) same ∙ none) in omega (arith, all, r, f),
    )

same-inputs : (whole : Type 0) (may_be : ℕ → Input → Type 0) (is_strict : Bool) (count : ℕ) (a b : Summed) (first : IsSumOfAllInputs whole may_be is_strict count a)
    (second : IsSumOfAllInputs whole may_be is_strict count b) → AreFixedInputs may_be → AreSure whole first.sum.inputs → AreSure whole second.sum.inputs
    → first.sum.inputs ≡ second.sum.inputs
same-inputs whole may_be false count a b first second fixed sure also =
    let xs = first.sum.inputs in
    let ys = second.sum.inputs in
    let one = first.all refl in let other = second.all refl in
    let r = first.sum.reached in let q = second.sum.reached in let f = first.first in let g = second.first in
    same-many whole may_be [] 0 xs ys fixed sure also (subst (λ n. AreTakenInputs whole may_be [] n xs) first.first first.sum.taken)
    (subst (λ n. AreTakenInputs whole may_be [] n ys) second.first second.sum.taken) (omega (arith, one, other, r, q, f, g))
same-inputs whole may_be true count a b first second fixed sure also =
    let xs = first.sum.inputs in
    let ys = second.sum.inputs in
    same-ends whole may_be [] 0 count xs ys fixed sure also (subst (λ n. AreTakenInputs whole may_be [] n xs) first.first first.sum.taken)
    (subst (λ n. AreTakenInputs whole may_be [] n ys) second.first second.sum.taken) (ends-so whole may_be count a first) (ends-so whole may_be count b second)

sum-sure : (whole : Type 0) (may_be : ℕ → Input → Type 0) (is_strict : Bool) (s : Summed) (is : IsSumOfInputs whole may_be is_strict s) → whole ⊎ HasRoom s → AreSure whole is.inputs
sum-sure whole may_be is_strict s is sure =
    ⊎_elim (whole-sure whole is.inputs)
    (λ room. fit-sure whole is.inputs (all-fit s.first is.inputs (subst (All (λ (left : Left). left.fault ≢ TooMany)) is.left room))) sure

pub alike : (whole : Type 0) (may_be : ℕ → Input → Type 0) (is_strict : Bool) (count : ℕ) (a b : Summed) → AreFixedInputs may_be
    → whole ⊎ (HasRoom a × HasRoom b) → IsSumOfAllInputs whole may_be is_strict count a → IsSumOfAllInputs whole may_be is_strict count b → AreAlike a b
alike whole may_be is_strict count a b fixed sure first second =
    let same : first.sum.inputs ≡ second.sum.inputs =
    same-inputs whole may_be is_strict count a b first second fixed
    (sum-sure whole may_be is_strict a first.sum (⊎_elim (λ w. inl w) (λ room. inr room.0) sure))
    (sum-sure whole may_be is_strict b second.sum (⊎_elim (λ w. inl w) (λ room. inr room.1) sure)) in
    let sums : HaveSameSum a.sums b.sums =
    same-sum (addends_in second.sum.inputs) a.sums b.sums (subst (λ z. IsSumInTurn (addends_in z) a.sums) same first.sum.sum) second.sum.sum in
    let left : a.left.items ≡ b.left.items =
    first.sum.left ∙ ((λ i. left_from ((first.first ∙ sym second.first) i) (same i)) ∙ sym second.sum.left) in record {
      sums = sums;
      reached = first.sum.reached ∙ ((λ i. (first.first ∙ sym second.first) i + length (same i)) ∙ sym second.sum.reached);
      left = left;
      damaged = first.sum.damaged ∙ (ap are_damaged same ∙ sym second.sum.damaged);
      hists = λ one other. one-sum a.sums b.sums one other sums;
      report = λ one other text. same-report a.sums b.sums (length a.left.items) (length b.left.items) text (one-sum a.sums b.sums one other sums) sums.notes (ap length left);
    }

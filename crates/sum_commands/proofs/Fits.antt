-- Which inputs fit after others.
use Rattle.std.proofs.Common.{◌≡◌, ◌≢◌, ◌⊎◌, ⊎_elim, inl, inr, ◌<◌, ◌≤◌, ◌^◌, ◌+◌, ℕ, List, [], ◌∷◌, ◌++◌, All, sum_by, true, false, refl, ap, sym, subst, ◌∙◌, arith}
use Rattle.std.specs.Prelude.{⊤}
use Rattle.std.proofs.Math.Nat.{lt_of_not-le}
use Rattle.std.proofs.lemmas.List.{append_assoc, append-nil}
use Rattle.std.proofs.lemmas.List.Elements.{All-head, All-tail}
use Rattle.std.proofs.lemmas.List.Sums.{sum_by-append}
use Rattle.reading_sums.specs.declared.sums.Sums.{Sums}
use Rattle.reading_sums.specs.Addends.{Addend, IsSumInTurn, parts_in_turn}
use Rattle.reading_sums.specs.Fitting.{AddendsDoNotFit, HasSmallAmounts}
use Rattle.reading_sums.specs.Whole.{IsWellFormed}
use Rattle.reading_sums.specs.Views.{parts_of}
use Rattle.reading_sums.proofs.FitInTurn.{fits-behind, front-fits, small-known, too-many-behind}
use Rattle.sum_commands.specs.declared.fault.InputFault.TheVariants.{Image, BadTotals, TooMany}
use Rattle.sum_commands.specs.declared.summing.Left.{Left}
use Rattle.sum_commands.specs.Inputs.{DoesNotFitAfter, DoesNotFitBehind, NumbersDoNotFit, images_of}
use Rattle.sum_commands.specs.Sources.{Input, AreSmallAddends, AreSmallInputs, AreTakenInputs, IsSmallSum, IsTakenAfter, IsTakenBehind, addends_in, addends_of, left_at, left_from}
use Rattle.sum_commands.specs.Sources.Input.{Added, LeftOut}

-- ---- after a sum, and after the addends of that sum

behind-after : (sums : Sums) (xs : List Addend) (addend : Addend) → IsSumInTurn xs sums → DoesNotFitBehind sums addend → DoesNotFitAfter xs addend
behind-after sums xs addend is many =
    ⊎_elim (λ long. inl (too-many-behind sums xs addend is long)) (λ numbers. inr (subst (λ n. NumbersDoNotFit n addend.parts) is.images numbers)) many

fits-after : (sums : Sums) (xs : List Addend) (addend : Addend) → IsSumInTurn xs sums → ¬ DoesNotFitBehind sums addend → ¬ DoesNotFitAfter xs addend
fits-after sums xs addend is fits = λ many.
    ⊎_elim (fits-behind sums xs addend is (λ long. fits (inl long)))
    (λ numbers. fits (inr (subst (λ n. NumbersDoNotFit n addend.parts) (sym is.images) numbers))) many

-- an input that is taken after a sum is taken the same after its addends
pub taken-after : (whole : Type 0) (may_be : Input → Type 0) (sums : Sums) (xs : List Addend) (input : Input) → (whole → IsWellFormed sums) → IsSumInTurn xs sums
    → IsTakenBehind whole may_be sums input → IsTakenAfter whole may_be xs input
taken-after whole may_be sums xs (Added is_damaged addend) formed is taken = (taken.0, λ w. fits-after sums xs addend is (taken.1 (w, formed w)))
taken-after whole may_be sums xs (LeftOut (Image fault)) formed is taken = taken
taken-after whole may_be sums xs (LeftOut (BadTotals line)) formed is taken = taken
taken-after whole may_be sums xs (LeftOut TooMany) formed is taken = record {
  is_damaged = taken.is_damaged;
  addend = taken.addend;
  is = taken.is;
  many = λ w. behind-after sums xs taken.addend is (taken.many (w, formed w));
}

-- ---- inputs none of which is left out with `TooMany`

abbrev pub AllFit : List Input → Type 0
AllFit [] = ⊤
AllFit (input ∷ rest) = (input ≢ LeftOut TooMany) × AllFit rest

pub all-fit : (place : ℕ) (xs : List Input) → All (λ (left : Left). left.fault ≢ TooMany) (left_from place xs) → AllFit xs
all-fit place [] fit = tt
all-fit place (Added is_damaged addend ∷ xs) fit = ((λ e. absurd (cc)), all-fit (place + 1) xs fit)
all-fit place (LeftOut fault ∷ xs) fit =
    let here : fault ≢ TooMany = All-head (λ (left : Left). left.fault ≢ TooMany) (record { place = place; fault = fault }) (left_from (place + 1) xs) fit in
    ((λ e. here (cc)), all-fit (place + 1) xs (All-tail (λ (left : Left). left.fault ≢ TooMany) (record { place = place; fault = fault }) (left_from (place + 1) xs) fit))

-- ---- small sums

pub none-small : AreSmallAddends []
none-small = record { images = omega arith; amounts = λ name spec. (omega arith, omega arith) }

-- the addends of a small sum
pub sum-small-addends : (sums : Sums) (xs : List Addend) → IsWellFormed sums → IsSumInTurn xs sums → IsSmallSum sums → AreSmallAddends xs
sum-small-addends sums xs formed is small = record {
  images = subst (λ n. n < 2 ^ 62) is.images small.images;
  amounts = small-known sums.hists.items (parts_in_turn 0 xs) formed small.amounts is.hists.totals;
}

pub small-append : (before : List Addend) (xs ys : List Input) → AreSmallInputs before xs → AreSmallInputs (before ++ addends_in xs) ys → AreSmallInputs before (xs ++ ys)
small-append before [] ys first second = subst (λ z. AreSmallInputs z ys) (append-nil before) second
small-append before (x ∷ xs) ys first second =
    (first.0, small-append (before ++ addends_of x) xs ys first.1 (subst (λ z. AreSmallInputs z ys) (sym (append_assoc before (addends_of x) (addends_in xs))) second))

-- all of them together are small, too
pub small-end : (before : List Addend) (xs : List Input) → AreSmallAddends before → AreSmallInputs before xs → AreSmallAddends (before ++ addends_in xs)
small-end before [] here small = subst AreSmallAddends (sym (append-nil before)) here
small-end before (x ∷ xs) here small =
    subst AreSmallAddends (append_assoc before (addends_of x) (addends_in xs)) (small-end (before ++ addends_of x) xs small.0 small.1)

-- ---- what fits after some addends also fits if small ones come before them, provided that all fit together

fits-later : (xs zs more : List Addend) (addend : Addend) → ¬ AddendsDoNotFit (xs ++ ((zs ++ addend ∷ []) ++ more)) → AreSmallAddends xs
    → AreSmallAddends (zs ++ addend ∷ []) → ¬ DoesNotFitAfter zs addend → ¬ DoesNotFitAfter (xs ++ zs) addend
fits-later xs zs more addend all small here fits = λ many.
    ⊎_elim
    (λ long.
    front-fits xs (zs ++ addend ∷ []) more all small.amounts here.amounts (subst AddendsDoNotFit (append_assoc xs zs (addend ∷ [])) long))
    (λ numbers.
    let below : numbers.0.least < 2 ^ 62 = lt_of_not-le (λ far. fits (inr (numbers.0, numbers.1, inl far))) in
    let first = small.images in
    let second = here.images in
    let both : images_of (xs ++ zs) ≡ images_of xs + images_of zs = sum_by-append (λ (one : Addend). one.notes.images) xs zs in
    let more : images_of (zs ++ addend ∷ []) ≡ images_of zs + images_of (addend ∷ []) = sum_by-append (λ (one : Addend). one.notes.images) zs (addend ∷ []) in
    ⊎_elim (λ far. absurd (omega (arith, below, far))) (λ far. absurd (omega (arith, below, far, first, second, both, more))) numbers.2)
    many

later-one : (whole : Type 0) (may_be : Input → Type 0) (xs zs more : List Addend) (input : Input)
    → (whole → ¬ AddendsDoNotFit (xs ++ ((zs ++ addends_of input) ++ more))) → (whole → AreSmallAddends xs) → (whole → AreSmallAddends (zs ++ addends_of input))
    → (input ≢ LeftOut TooMany) → IsTakenAfter whole may_be zs input → IsTakenAfter whole may_be (xs ++ zs) input
later-one whole may_be xs zs more (Added is_damaged addend) all small here fit taken =
    (taken.0, λ w. fits-later xs zs more addend (all w) (small w) (here w) (taken.1 w))
later-one whole may_be xs zs more (LeftOut (Image fault)) all small here fit taken = taken
later-one whole may_be xs zs more (LeftOut (BadTotals line)) all small here fit taken = taken
later-one whole may_be xs zs more (LeftOut TooMany) all small here fit taken = absurd (fit refl)

pub taken-later : (whole : Type 0) (may_be : ℕ → Input → Type 0) (xs zs : List Addend) (place : ℕ) (ys : List Input)
    → (whole → ¬ AddendsDoNotFit (xs ++ (zs ++ addends_in ys))) → (whole → AreSmallAddends xs) → (whole → AreSmallInputs zs ys) → AllFit ys
    → AreTakenInputs whole may_be zs place ys → AreTakenInputs whole may_be (xs ++ zs) place ys
taken-later whole may_be xs zs place [] all small each fit taken = tt
taken-later whole may_be xs zs place (y ∷ ys) all small each fit taken =
    let P : List Addend → Type 0 = λ z. ¬ AddendsDoNotFit (xs ++ z) in
    let split : (whole → ¬ AddendsDoNotFit (xs ++ ((zs ++ addends_of y) ++ addends_in ys))) =
    λ w. subst P (sym (append_assoc zs (addends_of y) (addends_in ys))) (all w) in (
      later-one whole (may_be place) xs zs (addends_in ys) y split small (λ w. (each w).0) fit.0 taken.0,
      subst (λ z. AreTakenInputs whole may_be z (place + 1) ys) (sym (append_assoc xs zs (addends_of y)))
          (taken-later whole may_be xs (zs ++ addends_of y) (place + 1) ys split small (λ w. (each w).1) fit.1 taken.1),
    )

-- What the inputs of a source are, and which of them a sum has.
use Rattle.std.specs.Prelude.{◌≡◌, ◌≢◌, ◌⊎◌, Bool, true, false, ◌&&◌, ◌||◌, nat_lt, ℕ, ◌+◌, ◌<◌, ◌≤◌, ◌^◌, List, [], ◌∷◌, ◌++◌, length, All, unsigned_abs, Result, Ok, Err, IfOk, IfErr, ⊤}
use Rattle.persist_report_core.specs.declared.fault.CliFault.TheVariants.{NoMemory}
use Rattle.reading_sums.specs.declared.sums.Sums.{Sums}
use Rattle.reading_sums.specs.declared.hist.HistSum.{HistSum}
use Rattle.reading_sums.specs.Addends.{Addend, AddsAddend, IsSumInTurn, addend_of, parts_in_turn}
use Rattle.reading_sums.specs.Fitting.{HasSmallAmounts}
use Rattle.reading_sums.specs.Sums.{HaveSameSum}
use Rattle.reading_sums.specs.Views.{parts_of}
use Rattle.reading_sums.specs.Whole.{IsWellFormed}
use Rattle.sum_texts.specs.Endings.{IsSumReport}
use Rattle.sum_commands.specs.declared.fault.InputFault.{InputFault}
use Rattle.sum_commands.specs.declared.fault.InputFault.TheVariants.{Image, BadTotals, TooMany}
use Rattle.sum_commands.specs.declared.summing.Left.{Left}
use Rattle.sum_commands.specs.declared.summing.Summed.{Summed}
use Rattle.sum_commands.specs.declared.working.Run.{Run}
use Rattle.sum_commands.specs.Inputs.{DoesNotFitAfter, DoesNotFitBehind, images_of}

-- what an input is: an addend, of damaged images or not, or a fault for which it is left out
pub data Input : Type 0 where
  Added : (is_damaged : Bool) (addend : Addend) → Input
  LeftOut : (fault : InputFault) → Input

-- an addend that an input may be does not fit
pub record MayBeTooMany (whole : Type 0) (may_be : Input → Type 0) (does_not_fit : Addend → Type 0) : Type 0 where
  pub is_damaged : Bool
  pub addend : Addend
  pub is : may_be (Added is_damaged addend)
  pub many : whole → does_not_fit addend

-- An input is taken as what it may be: an addend, which fits, or a fault for which it is left out. It is left out with `TooMany` if an
-- addend that it may be does not fit. What fits is said only of inputs that are whole.
abbrev pub MayBeTaken : Type 0 → (Input → Type 0) → (Addend → Type 0) → Input → Type 0
MayBeTaken whole may_be does_not_fit (Added is_damaged addend) = may_be (Added is_damaged addend) × (whole → ¬ does_not_fit addend)
MayBeTaken whole may_be does_not_fit (LeftOut (Image fault)) = may_be (LeftOut (Image fault))
MayBeTaken whole may_be does_not_fit (LeftOut (BadTotals line)) = may_be (LeftOut (BadTotals line))
MayBeTaken whole may_be does_not_fit (LeftOut TooMany) = MayBeTooMany whole may_be does_not_fit

-- an input is taken as what it may be, after a sum; what fits is said only if that is well formed
abbrev pub IsTakenBehind : Type 0 → (Input → Type 0) → Sums → Input → Type 0
IsTakenBehind whole may_be before input = MayBeTaken (whole × IsWellFormed before) may_be (DoesNotFitBehind before) input

-- an input is taken as what it may be, after other addends
abbrev pub IsTakenAfter : Type 0 → (Input → Type 0) → List Addend → Input → Type 0
IsTakenAfter whole may_be before input = MayBeTaken whole may_be (DoesNotFitAfter before) input

-- a sum gained an input after its own, which is taken as what it may be; with a whole input it stays well formed
pub record AddsInput (whole : Type 0) (may_be : Input → Type 0) (is_damaged : Bool) (before after : Sums) : Type 0 where
  pub addend : Addend
  pub taken : IsTakenBehind whole may_be before (Added is_damaged addend)
  pub added : AddsAddend addend before after
  pub well_formed : whole → IsWellFormed before → IsWellFormed after

-- why an input is not added: memory ran out, or it is left out
abbrev pub MayNotBeAdded : Type 0 → (Input → Type 0) → Sums → InputFault → Type 0
MayNotBeAdded whole may_be before fault = (fault ≡ Image NoMemory) ⊎ IsTakenBehind whole may_be before (LeftOut fault)

-- a sum gained some input of which nothing is known, like that of a file
abbrev pub AddsSome : Bool → Sums → Sums → Type 0
AddsSome is_damaged before after = AddsInput ⊥ (λ input. ⊤) is_damaged before after

-- why an input of which nothing is known is not added
abbrev pub SomeMayNotBeAdded : Sums → InputFault → Type 0
SomeMayNotBeAdded before fault = MayNotBeAdded ⊥ (λ input. ⊤) before fault

-- ---- inputs in their order

-- the addends of an input, and of all
abbrev pub addends_of : Input → List Addend
addends_of (Added is_damaged addend) = addend ∷ []
addends_of (LeftOut fault) = []

abbrev pub addends_in : List Input → List Addend
addends_in [] = []
addends_in (input ∷ rest) = addends_of input ++ addends_in rest

-- an input at a place, if it is left out; and all that are left out from a place on, in their order
abbrev pub left_at : ℕ → Input → List Left
left_at place (Added is_damaged addend) = []
left_at place (LeftOut fault) = (record { place = place; fault = fault }) ∷ []

abbrev pub left_from : ℕ → List Input → List Left
left_from place [] = []
left_from place (input ∷ rest) = left_at place input ++ left_from (place + 1) rest

-- inputs from a place on, after addends, each taken as one that may be at its place
abbrev pub AreTakenInputs : Type 0 → (ℕ → Input → Type 0) → List Addend → ℕ → List Input → Type 0
AreTakenInputs whole may_be before place [] = ⊤
AreTakenInputs whole may_be before place (input ∷ rest) =
    IsTakenAfter whole (may_be place) before input × AreTakenInputs whole may_be (before ++ addends_of input) (place + 1) rest

-- whether an input is damaged, and whether one is
abbrev pub is_damaged_in : Input → Bool
is_damaged_in (Added is_damaged addend) = is_damaged
is_damaged_in (LeftOut fault) = false

abbrev pub are_damaged : List Input → Bool
are_damaged [] = false
are_damaged (input ∷ rest) = is_damaged_in input || are_damaged rest

-- none is left out but the last
abbrev pub EndsAtFault : List Input → Type 0
EndsAtFault [] = ⊤
EndsAtFault (Added is_damaged addend ∷ rest) = EndsAtFault rest
EndsAtFault (LeftOut fault ∷ rest) = rest ≡ []

-- ---- sums of them

-- A sum is that of inputs in their order: from its first place up to the one that it has reached, each as it may be. The totals are those
-- of the addends, and the sum says which inputs are left out, and whether one is damaged. If it is strict, no input comes after one that is
-- left out. If the inputs are whole, it is well formed.
pub record IsSumOfInputs (whole : Type 0) (may_be : ℕ → Input → Type 0) (is_strict : Bool) (summed : Summed) : Type 0 where
  pub inputs : List Input
  pub taken : AreTakenInputs whole may_be [] summed.first inputs
  pub reached : summed.reached ≡ summed.first + length inputs
  pub sum : IsSumInTurn (addends_in inputs) summed.sums
  pub left : summed.left.items ≡ left_from summed.first inputs
  pub damaged : summed.is_damaged ≡ are_damaged inputs
  pub ends : is_strict ≡ true → EndsAtFault inputs
  pub well_formed : whole → IsWellFormed summed.sums

-- whether a strict sum has ended: an input is left out
abbrev pub has_ended : Bool → Summed → Bool
has_ended is_strict summed = is_strict && nat_lt 0 (length summed.left.items)

-- a sum is that of all `count` inputs; or of those up to the first that is left out, if it is strict
pub record IsSumOfAllInputs (whole : Type 0) (may_be : ℕ → Input → Type 0) (is_strict : Bool) (count : ℕ) (summed : Summed) : Type 0 where
  pub sum : IsSumOfInputs whole may_be is_strict summed
  pub first : summed.first ≡ 0
  pub within : summed.reached ≤ count
  pub all : has_ended is_strict summed ≡ false → summed.reached ≡ count

-- ---- the same sum

-- the input at each place can only be one thing, like that of a file that does not change
abbrev pub AreFixedInputs : (ℕ → Input → Type 0) → Type 0
AreFixedInputs may_be = (place : ℕ) (one other : Input) → may_be place one → may_be place other → one ≡ other

-- no input is left out with `TooMany`
abbrev pub HasRoom : Summed → Type 0
HasRoom summed = All (λ left. left.fault ≢ TooMany) summed.left.items

-- two sums have the same totals and notes, leave out the same inputs for the same faults, and are damaged alike; if they are well
-- formed, they have the same histograms, and each text that is the report of one is that of the other
pub record AreAlike (a b : Summed) : Type 0 where
  pub sums : HaveSameSum a.sums b.sums
  pub reached : a.reached ≡ b.reached
  pub left : a.left.items ≡ b.left.items
  pub damaged : a.is_damaged ≡ b.is_damaged
  pub hists : IsWellFormed a.sums → IsWellFormed b.sums → parts_of a.sums ≡ parts_of b.sums
  pub report : IsWellFormed a.sums → IsWellFormed b.sums → (text : List ℕ) → IsSumReport a.sums (length a.left.items) text
      → IsSumReport b.sums (length b.left.items) text

-- ---- small sums

-- a sum has fewer images than 2^62, and amounts that are nearer to 0 than 2^126
pub record IsSmallSum (sums : Sums) : Type 0 where
  pub images : sums.notes.images < 2 ^ 62
  pub amounts : All (λ (hist : HistSum). (unsigned_abs hist.sum < 2 ^ 126) × (unsigned_abs hist.sum_mark < 2 ^ 126)) sums.hists.items

-- addends together have fewer images than 2^62, and amounts that are nearer to 0 than 2^126
pub record AreSmallAddends (addends : List Addend) : Type 0 where
  pub images : images_of addends < 2 ^ 62
  pub amounts : HasSmallAmounts (parts_in_turn 0 addends)

-- addends are small together with those of the first input after them, of the first two, and so on
abbrev pub AreSmallInputs : List Addend → List Input → Type 0
AreSmallInputs before [] = ⊤
AreSmallInputs before (input ∷ rest) = AreSmallAddends (before ++ addends_of input) × AreSmallInputs (before ++ addends_of input) rest

-- ---- steps

-- what is noted of an input: at this place it is left out, or not
abbrev pub left_of : ℕ → Result Bool InputFault → List Left
left_of place (Ok is_damaged) = []
left_of place (Err fault) = (record { place = place; fault = fault }) ∷ []

-- whether an input that was added is damaged
abbrev pub damage_in : Result Bool InputFault → Bool
damage_in (Ok is_damaged) = is_damaged
damage_in (Err fault) = false

-- a sum gained what an input has, if that is not left out
abbrev pub AddsTaken : Input → Sums → Sums → Type 0
AddsTaken (Added is_damaged addend) before after = AddsAddend addend before after
AddsTaken (LeftOut fault) before after = after ≡ before

-- one more input was noted: how it was added, or why it is left out; memory did not run out
pub record HasNotedInput (added : Result Bool InputFault) (before after : Summed) : Type 0 where
  pub first : after.first ≡ before.first
  pub reached : after.reached ≡ before.reached + 1
  pub sums : after.sums ≡ before.sums
  pub left : after.left.items ≡ before.left.items ++ left_of before.reached added
  pub damaged : after.is_damaged ≡ (before.is_damaged || damage_in added)
  pub small : after.was_large ≡ false → (before.was_large ≡ false) × IfOk added (λ is_damaged. IsSmallSum after.sums)
  pub goes_on : IfErr added (λ fault. fault ≢ Image NoMemory)

-- an empty sum, which begins at a place
pub record IsNoneAt (place : ℕ) (summed : Summed) : Type 0 where
  pub first : summed.first ≡ place
  pub reached : summed.reached ≡ place
  pub sum : IsSumInTurn [] summed.sums
  pub left : summed.left.items ≡ []
  pub damaged : summed.is_damaged ≡ false
  pub well_formed : IsWellFormed summed.sums

-- an input after which a sum is small; one that is left out leaves it unchanged
abbrev pub IsSmallAfter : Input → Sums → Type 0
IsSmallAfter (Added is_damaged addend) after = IsSmallSum after
IsSmallAfter (LeftOut fault) after = ⊤

-- the next input was taken as one that it may be
pub record HasTakenInput (whole : Type 0) (may_be : Input → Type 0) (before after : Summed) : Type 0 where
  pub input : Input
  pub taken : IsTakenBehind whole may_be before.sums input
  pub first : after.first ≡ before.first
  pub reached : after.reached ≡ before.reached + 1
  pub sum : AddsTaken input before.sums after.sums
  pub left : after.left.items ≡ before.left.items ++ left_at before.reached input
  pub damaged : after.is_damaged ≡ (before.is_damaged || is_damaged_in input)
  pub well_formed : whole → IsWellFormed before.sums → IsWellFormed after.sums
  pub small : after.was_large ≡ false → (before.was_large ≡ false) × IsSmallAfter input after.sums

-- the inputs of another sum were appended: both were small, and none of them is left out with `TooMany`
pub record HasAppended (more before after : Summed) : Type 0 where
  pub first : after.first ≡ before.first
  pub reached : after.reached ≡ more.reached
  pub sum : AddsAddend (addend_of more.sums) before.sums after.sums
  pub left : after.left.items ≡ before.left.items ++ more.left.items
  pub damaged : after.is_damaged ≡ (before.is_damaged || more.is_damaged)
  pub well_formed : IsWellFormed before.sums → IsWellFormed more.sums → IsWellFormed after.sums
  pub fits : IsWellFormed before.sums → IsWellFormed more.sums → ¬ DoesNotFitBehind before.sums (addend_of more.sums)
  pub were_small : (before.was_large ≡ false) × (more.was_large ≡ false)
  pub small : after.was_large ≡ false → IsSmallSum after.sums
  pub room : All (λ left. left.fault ≢ TooMany) more.left.items

-- the inputs of another sum were appended, since they follow and nothing has ended it; or nothing was done
abbrev pub MayHaveAppended : Bool → Summed → Summed → Summed → Type 0
MayHaveAppended is_strict more before after =
    (after ≡ before) ⊎ ((before.reached ≡ more.first) × (has_ended is_strict before ≡ false) × HasAppended more before after)

-- ---- workers

-- an input is what the one that was opened for its place may be; the first that was opened is that of `first`
pub record IsOpenedAt {O : Type 0} (may_be : O → Input → Type 0) (first : ℕ) (opened : List O) (place : ℕ) (input : Input) : Type 0 where
  pub front : List O
  pub one : O
  pub behind : List O
  pub split : opened ≡ front ++ one ∷ behind
  pub at : place ≡ first + length front
  pub is : may_be one input

-- inputs that were opened from a place on: each is only what the input at its place may be
abbrev pub AreOpenedFrom : {O : Type 0} → (O → Input → Type 0) → (ℕ → Input → Type 0) → ℕ → List O → Type 0
AreOpenedFrom opened_may_be may_be place [] = ⊤
AreOpenedFrom opened_may_be may_be place (one ∷ rest) =
    ((input : Input) → opened_may_be one input → may_be place input) × AreOpenedFrom opened_may_be may_be (place + 1) rest

-- a run of opened inputs, which ends before a place
pub record IsOpenedRun {O : Type 0} (is_whole : O → Type 0) (opened_may_be : O → Input → Type 0) (whole : Type 0) (may_be : ℕ → Input → Type 0) (end : ℕ) (is_strict : Bool) (run : Run O) : Type 0 where
  pub are : AreOpenedFrom opened_may_be may_be run.first run.opened.items
  pub each : whole → All is_whole run.opened.items
  pub within : run.first + length run.opened.items ≤ end
  pub strict : run.is_strict ≡ is_strict

-- a sum, and whether it is small up to each of its inputs
pub record IsSumOfRun (whole : Type 0) (may_be : ℕ → Input → Type 0) (is_strict : Bool) (summed : Summed) : Type 0 where
  pub sum : IsSumOfInputs whole may_be is_strict summed
  pub small : whole → summed.was_large ≡ false → AreSmallInputs [] sum.inputs

-- a run of opened inputs was added up
pub record HasSummedRun {O : Type 0} (is_whole : O → Type 0) (may_be : O → Input → Type 0) (first : ℕ) (opened : List O) (is_strict : Bool) (summed : Summed) : Type 0 where
  pub sum : IsSumOfRun (All is_whole opened) (IsOpenedAt may_be first opened) is_strict summed
  pub within : summed.reached ≤ first + length opened

-- a sum of inputs that end before a place, as a worker makes it
pub record SumEndsWithin (whole : Type 0) (may_be : ℕ → Input → Type 0) (is_strict : Bool) (end : ℕ) (summed : Summed) : Type 0 where
  pub sum : IsSumOfRun whole may_be is_strict summed
  pub within : summed.reached ≤ end

-- a sum so far, and whether it is small
pub record IsSumSoFar (whole : Type 0) (may_be : ℕ → Input → Type 0) (is_strict : Bool) (summed : Summed) : Type 0 where
  pub sum : IsSumOfInputs whole may_be is_strict summed
  pub small : whole → summed.was_large ≡ false → AreSmallAddends (addends_in sum.inputs)

-- a sum so far that begins at the first input, and whose inputs come before a place
pub record IsSumBefore (whole : Type 0) (may_be : ℕ → Input → Type 0) (is_strict : Bool) (end : ℕ) (summed : Summed) : Type 0 where
  pub sum : IsSumSoFar whole may_be is_strict summed
  pub first : summed.first ≡ 0
  pub within : summed.reached ≤ end

-- What is wrong with a scale, and that its spec is valid.
use Rattle.std.proofs.Common.{◌≡◌, Bool, true, false, not, ◌||◌, ◌==◌, nat_lt, nat_le, ℕ, ◌+◌, ◌-◌, ◌<◌, ◌≤◌, List, [], ◌∷◌, ◌++◌, length, Some, None, Ok, Err, refl, ap, ◌∙◌, arith, get_or}
use Rattle.std.specs.List.{All, list_any, range_with_len, filter}
use Rattle.std.specs.List.Sorted.{IsStrictlyIncreasing}
use Rattle.std.proofs.lemmas.Bool.{ltb-true, ltb-false, leb-false, eqb-false, or_parts}
use Rattle.std.proofs.lemmas.List.{get_or_push, length_push}
use Rattle.std.proofs.lemmas.List.Elements.{All-filter}
use Rattle.std.proofs.lemmas.List.Folds.{list_any_none, list_any_at}
use Rattle.std.proofs.lemmas.List.FromFn.{length-range_with_len, get_or-range_with_len}
use Rattle.segment_image.specs.Checks.{first_fault, checked}
use Rattle.bucket_ranges.specs.declared.spec.SpecFault.{SpecFault}
use Rattle.bucket_ranges.specs.declared.spec.SpecFault.TheVariants.{TooMany, BadRange, Empty, BadMin, BadMax, TooFew}
use Rattle.bucket_ranges.specs.declared.spec.Spec.TheVariants.{Custom}
use Rattle.bucket_ranges.specs.Spec.{spec_fault}
use Rattle.bucket_ranges.specs.Scale.{is_scale_value, values_up_to, bound_checks}
use Rattle.bucket_ranges.proofs.ScaleLists.{passing, passing-last, filtered-ascends}

-- ---- checks before others

first-after : (checks rest : List (Bool × SpecFault)) (u v : Unit {0}) → checked checks u ≡ Ok v
    → first_fault (checks ++ rest) ≡ first_fault rest
first-after [] rest u v is = refl
first-after ((true, fault) ∷ checks) rest u v is = absurd (cc)
first-after ((false, fault) ∷ checks) rest u v is = first-after checks rest u v is

pub first-before : (checks rest : List (Bool × SpecFault)) (u : Unit {0}) (fault : SpecFault) → checked checks u ≡ Err fault
    → first_fault (checks ++ rest) ≡ Some fault
first-before [] rest u fault is = absurd (cc)
first-before ((true, other) ∷ checks) rest u fault is = cc
first-before ((false, other) ∷ checks) rest u fault is = first-before checks rest u fault is

pub first-last : (checks : List (Bool × SpecFault)) (u v : Unit {0}) → checked checks u ≡ Ok v → (over : Bool) → over ≡ true
    → first_fault (checks ++ (over, TooMany) ∷ []) ≡ Some TooMany
first-last checks u v is true over = first-after checks ((true, TooMany) ∷ []) u v is
first-last checks u v is false over = absurd (cc)

pub first-none : (checks : List (Bool × SpecFault)) (u v : Unit {0}) → checked checks u ≡ Ok v → (over : Bool) → over ≡ false
    → first_fault (checks ++ (over, TooMany) ∷ []) ≡ None
first-none checks u v is true over = absurd (cc)
first-none checks u v is false over = first-after checks ((false, TooMany) ∷ []) u v is

-- ---- bounds without a fault

all_pass : (a b c d : Bool) (u v : Unit {0}) → checked ((a, BadMin) ∷ (b, BadMax) ∷ (c, TooFew) ∷ (d, TooMany) ∷ []) u ≡ Ok v
    → (a ≡ false) × (b ≡ false) × (c ≡ false) × (d ≡ false)
all_pass true b c d u v is = absurd (cc)
all_pass false true c d u v is = absurd (cc)
all_pass false false true d u v is = absurd (cc)
all_pass false false false true u v is = absurd (cc)
all_pass false false false false u v is = (refl, refl, refl, refl)

pub record AreBounds (min max bits : ℕ) : Type 0 where
  pub some : 0 < min
  pub less : min < max
  pub small : max ≤ 2147483646
  pub few : bits ≤ 8

pub bounds-from : (min max bits : ℕ) (u v : Unit {0}) → checked (bound_checks min max bits) u ≡ Ok v → AreBounds min max bits
bounds-from min max bits u v is =
    let passes = all_pass (min == 0) (nat_le max min || nat_lt 2147483646 max) (bits == 0) (nat_lt 8 bits) u v is in
    let parts = or_parts (nat_le max min) (nat_lt 2147483646 max) passes.1 in
    record {
      some = omega (arith, eqb-false min 0 passes.0);
      less = leb-false max min parts.0;
      small = ltb-false 2147483646 max parts.1;
      few = ltb-false 8 bits passes.3;
    }

-- ---- the spec is valid

custom_valid : (a b c : Bool) → a ≡ false → b ≡ false → c ≡ true
    → first_fault ((a, TooMany) ∷ (b, BadRange) ∷ (not c, Empty) ∷ []) ≡ None
custom_valid true b c few small some = absurd (cc)
custom_valid false true c few small some = absurd (cc)
custom_valid false false false few small some = absurd (cc)
custom_valid false false true few small some = refl

range-small : (low last most : ℕ) → last ≤ most → All (λ value. nat_lt most value ≡ false) (range_with_len low (last + 1 - low))
range-small low last most le k d lt =
    let within : k < last + 1 - low = omega (arith, lt, length-range_with_len low (last + 1 - low)) in
    let here = get_or-range_with_len low (last + 1 - low) k d within in
    not-above most (get_or (range_with_len low (last + 1 - low)) k d) (omega (arith, here, within, le))
  where
    by : (b : Bool) (a v : ℕ) → nat_lt a v ≡ b → v ≤ a → b ≡ false
    by true a v is le = absurd (omega (arith, ltb-true a v is, le))
    by false a v is le = refl

    not-above : (a v : ℕ) → v ≤ a → nat_lt a v ≡ false
    not-above a v le = by (nat_lt a v) a v refl le

above-none : (v : ℕ) → 0 < v → nat_lt 0 v ≡ true
above-none v lt = by (nat_lt 0 v) refl
  where
    by : (b : Bool) → nat_lt 0 v ≡ b → b ≡ true
    by true is = refl
    by false is = absurd (omega (arith, ltb-false 0 v is, lt))

push-some : (xs : List ℕ) (last : ℕ) → 0 < last → list_any (λ value. nat_lt 0 value) (xs ++ last ∷ []) ≡ true
push-some xs last some =
    let here : get_or (xs ++ last ∷ []) (length xs) 0 ≡ last = get_or_push xs last 0 (length xs) refl in
    list_any_at (λ value. nat_lt 0 value) (xs ++ last ∷ []) (length xs) 0 (omega (arith, length_push xs last))
    (ap (λ v. nat_lt 0 v) here ∙ above-none last some)

pub scale-valid : (min last bits : ℕ) → 0 < min → min ≤ last → last ≤ 2147483646
    → nat_lt 999 (length (values_up_to min last bits)) ≡ false → spec_fault (Custom (values_up_to min last bits)) ≡ None
unfolding values_up_to
scale-valid min last bits some le small few =
    let values : List ℕ = filter (λ value. is_scale_value bits value || value == last) (range_with_len min (last + 1 - min)) in
    let below = list_any_none (λ value. nat_lt 2147483646 value) values
    (All-filter (λ value. is_scale_value bits value || value == last) (λ value. nat_lt 2147483646 value ≡ false)
    (range_with_len min (last + 1 - min)) (range-small min last 2147483646 small)) in
    let all = passing-last (is_scale_value bits) min last le in
    let any = ap (list_any (λ value. nat_lt 0 value)) all
    ∙ push-some (passing (is_scale_value bits) min last) last (omega (arith, some, le)) in
    custom_valid (nat_lt 999 (length values)) (list_any (λ value. nat_lt 2147483646 value) values)
    (list_any (λ value. nat_lt 0 value) values) few below any

pub scale-ascends : (min last bits : ℕ) → IsStrictlyIncreasing (values_up_to min last bits)
unfolding values_up_to
scale-ascends min last bits =
    filtered-ascends (λ value. is_scale_value bits value || value == last) min (last + 1 - min)

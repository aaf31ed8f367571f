-- Where a loop over the values of a scale is.
use Rattle.std.proofs.Common.{◌≡◌, true, false, nat_lt, ℕ, ◌+◌, ◌<◌, ◌≤◌, inl, inr, List, [], ◌∷◌, ◌++◌, length, sym, ap, subst, ◌∙◌, arith}
use Rattle.std.proofs.lemmas.Bool.{cases_Bool, ltb-true, ltb-false}
use Rattle.std.proofs.lemmas.List.{length_push}
use Rattle.bucket_ranges.specs.Scale.{is_scale_value, values_up_to, scale_last, IsNextValue, HaveScaleSteps}
use Rattle.bucket_ranges.proofs.Scales.{IsFirstFrom, first-step}
use Rattle.bucket_ranges.proofs.ScaleLists.{passing, passing-first, passing-next, passing-last, passing-long, found-inside, found-outside, steps-first, steps-push}

-- where the loop is: the value of this turn, and the values before it
pub record StandsAt (bits low last value : ℕ) (before : List ℕ) : Type 0 where
  pub from : low ≤ value
  pub high : value ≤ last
  pub found : value < last → is_scale_value bits value ≡ true
  pub so_far : before ≡ passing (is_scale_value bits) low value

pub stands-first : (bits low last value : ℕ) → IsNextValue bits low last value → StandsAt bits low last value []
stands-first bits low last value is =
    record {
      from = is.low;
      high = is.high;
      found = is.found;
      so_far = sym (passing-first (is_scale_value bits) low value is.low is.first);
    }

pub stands-next : (bits low last value next : ℕ) (before : List ℕ) → StandsAt bits low last value before → value < last
    → IsNextValue bits (value + 1) last next → StandsAt bits low last next (before ++ value ∷ [])
stands-next bits low last value next before at less is =
    record {
      from = omega (arith, at.from, is.low);
      high = is.high;
      found = is.found;
      so_far = ap (λ xs. xs ++ value ∷ []) at.so_far
          ∙ sym (passing-next (is_scale_value bits) low value next at.from (omega (arith, is.low)) (at.found less) is.first);
    }

-- at the end the values are those before it and the last
pub stands-last : (bits low last value : ℕ) (before : List ℕ) → StandsAt bits low last value before → last ≤ value
    → before ++ last ∷ [] ≡ values_up_to low last bits
unfolding values_up_to
stands-last bits low last value before at ge =
    let e : value ≡ last = omega (arith, ge, at.high) in
    ap (λ xs. xs ++ last ∷ []) (at.so_far ∙ ap (passing (is_scale_value bits) low) e)
    ∙ sym (passing-last (is_scale_value bits) low last (omega (arith, at.from, at.high)))

-- before it there are at least those before, this one and the last
pub stands-long : (bits low last value : ℕ) (before : List ℕ) → StandsAt bits low last value before → value < last
    → length before + 2 ≤ length (values_up_to low last bits)
unfolding values_up_to
stands-long bits low last value before at less =
    let all = passing-last (is_scale_value bits) low last (omega (arith, at.from, less)) in
    omega (
      arith,
      ap length all,
      length_push (passing (is_scale_value bits) low last) last,
      ap length at.so_far,
      passing-long (is_scale_value bits) low value last at.from less (at.found less),
    )

-- ---- the count alone

pub record CountsTo (bits low last value count : ℕ) : Type 0 where
  pub values : (before : List ℕ) × StandsAt bits low last value before × (count ≡ length before + 1)
  pub few : count ≤ 999

pub counts-first : (bits low last value : ℕ) → IsNextValue bits low last value → CountsTo bits low last value 1
counts-first bits low last value is =
    record { values = ([], stands-first bits low last value is, omega arith); few = omega arith }

pub counts-next : (bits low last value next count : ℕ) → CountsTo bits low last value count → value < last → count < 999
    → IsNextValue bits (value + 1) last next → CountsTo bits low last next (count + 1)
counts-next bits low last value next count at less few is =
    record {
      values = (
        at.values.0 ++ value ∷ [],
        stands-next bits low last value next at.values.0 at.values.1 less is,
        omega (arith, at.values.2, length_push at.values.0 value),
      );
      few = omega (arith, few);
    }

over-true : (a b : ℕ) → a < b → true ≡ nat_lt a b
over-true a b lt = elim (cases_Bool (nat_lt a b)) [
  | inl is ↦ sym is
  | inr fails ↦ absurd (omega (arith, lt, ltb-false a b fails))
]

over-false : (a b : ℕ) → b ≤ a → false ≡ nat_lt a b
over-false a b le = elim (cases_Bool (nat_lt a b)) [
  | inl is ↦ absurd (omega (arith, le, ltb-true a b is))
  | inr fails ↦ sym fails
]

pub counts-over : (bits low last value count : ℕ) → CountsTo bits low last value count → value < last → count ≡ 999
    → true ≡ nat_lt 999 (length (values_up_to low last bits))
counts-over bits low last value count at less is =
    over-true 999 (length (values_up_to low last bits))
    (omega (arith, is, at.values.2, stands-long bits low last value at.values.0 at.values.1 less))

pub counts-done : (bits low last value count : ℕ) → CountsTo bits low last value count → last ≤ value
    → false ≡ nat_lt 999 (length (values_up_to low last bits))
counts-done bits low last value count at ge =
    over-false 999 (length (values_up_to low last bits))
    (omega (
      arith,
      at.few,
      at.values.2,
      ap length (stands-last bits low last value at.values.0 at.values.1 ge),
      length_push at.values.0 last,
    ))

-- ---- the list with its steps

pub record ListsTo (bits low last value : ℕ) (before : List ℕ) : Type 0 where
  pub stands : StandsAt bits low last value before
  pub steps : HaveScaleSteps bits (before ++ value ∷ [])

pub lists-first : (bits low last value : ℕ) (before : List ℕ) → before ≡ [] → IsNextValue bits low last value
    → ListsTo bits low last value before
lists-first bits low last value before none is =
    record {
      stands = subst (StandsAt bits low last value) (sym none) (stands-first bits low last value is);
      steps = steps-first bits value before none;
    }

pub lists-next : (bits low last value next : ℕ) (before after : List ℕ) → 0 < low → last ≤ 2147483646
    → ListsTo bits low last value before → value < last → after ≡ before ++ value ∷ [] → IsNextValue bits (value + 1) last next
    → ListsTo bits low last next after
lists-next bits low last value next before after some small at less pushed is =
    let step = first-step bits value next (at.stands.found less) (omega (arith, some, at.stands.from)) (omega (arith, less, small)) is.first in
    subst (ListsTo bits low last next) (sym pushed)
    (record {
      stands = stands-next bits low last value next before at.stands less is;
      steps = steps-push bits before value next at.steps step;
    })

pub lists-last : (bits low last value : ℕ) (before after : List ℕ) → ListsTo bits low last value before → last ≤ value
    → after ≡ before ++ last ∷ [] → after ≡ values_up_to low last bits
lists-last bits low last value before after at ge pushed = pushed ∙ stands-last bits low last value before at.stands ge

pub lists-steps : (bits low last value : ℕ) (before after : List ℕ) → ListsTo bits low last value before → last ≤ value
    → after ≡ before ++ last ∷ [] → HaveScaleSteps bits after
lists-steps bits low last value before after at ge pushed =
    let e : value ≡ last = omega (arith, ge, at.stands.high) in
    subst (HaveScaleSteps bits) (ap (λ v. before ++ v ∷ []) e ∙ sym pushed) at.steps

-- ---- the last value

pub last-inside : (bits max value : ℕ) → value ≤ 2147483646 → IsFirstFrom bits max value → value ≡ scale_last max bits
unfolding scale_last
last-inside bits max value small is =
    sym (found-inside (is_scale_value bits) max 2147483647 value is.above (omega (arith, small)) is.found is.first)

pub last-outside : (bits max value : ℕ) → 2147483646 < value → IsFirstFrom bits max value → max ≡ scale_last max bits
unfolding scale_last
last-outside bits max value large is =
    sym (found-outside (is_scale_value bits) max 2147483647 value (omega (arith, large)) is.first)

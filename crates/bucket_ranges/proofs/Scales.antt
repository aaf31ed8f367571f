-- The numbers of a scale: which they are, and which comes next.
use Rattle.std.proofs.Common.{◌≡◌, Bool, true, false, ◌==◌, ℕ, zero, suc, ◌+◌, ◌-◌, ◌*◌, ◌/◌, ◌%◌, ◌^◌, ◌<◌, ◌≤◌, ◌⊎◌, inl, inr, min, get_or, refl, sym, ap, subst, ◌∙◌, arith, add-one, eq-eqb}
use Rattle.std.specs.List.{range_with_len, list_any}
use Rattle.std.proofs.lemmas.Bool.{eqb-true, cases_lt}
use Rattle.std.proofs.lemmas.Nat.{pow-add, pow_pos}
use Rattle.std.proofs.lemmas.Grind.{div_ceil_times}
use Rattle.std.proofs.lemmas.List.Folds.{list_any_at, Any-from_list_any}
use Rattle.std.proofs.lemmas.List.FromFn.{length-range_with_len, get_or-range_with_len}
use Rattle.std.proofs.Math.Nat.{mul-le-mul_left, mul-le-mul_right, mul-div-le, lt-div-mul-add, pow-suc}
use Rattle.std.proofs.Math.Pow.{pow_mono}
use Rattle.bucket_ranges.specs.Scale.{is_scale_value, IsScaleDistance, IsScaleStep}

-- ---- a test over the first numbers

any_at : (p : ℕ → Bool) (n i : ℕ) → i < n → p i ≡ true → list_any p (range_with_len 0 n) ≡ true
any_at p n i within passes =
    list_any_at p (range_with_len 0 n) i 0 (omega (arith, length-range_with_len 0 n))
    (let here : get_or (range_with_len 0 n) i 0 ≡ i = omega (arith, get_or-range_with_len 0 n i 0 within) in ap p here ∙ passes)

-- one that passes
any_of : (p : ℕ → Bool) (n : ℕ) → list_any p (range_with_len 0 n) ≡ true → (i : ℕ) × (i < n) × (p i ≡ true)
any_of p n any =
    let found = Any-from_list_any p (range_with_len 0 n) any in
    let within : found.0 < n = omega (arith, found.2, length-range_with_len 0 n) in
    let here : get_or (range_with_len 0 n) found.0 found.1 ≡ found.0 = omega (arith, get_or-range_with_len 0 n found.0 found.1 within) in
    let is : found.1 ≡ found.0 = sym found.3 ∙ here in
    (found.0, within, ap p (sym is) ∙ found.4)

-- what is not true is false
pub false_from : (b : Bool) → (b ≡ true → ⊥) → b ≡ false
false_from true never = absurd (never refl)
false_from false never = refl

true_is_not_false : (b : Bool) → b ≡ true → b ≡ false → ⊥
true_is_not_false true t f = cc
true_is_not_false false t f = cc

-- ---- which numbers they are

pub scale-of : (bits m e value : ℕ) → m < 2 ^ (bits + 1) → e < 32 → m * 2 ^ e ≡ value → is_scale_value bits value ≡ true
unfolding is_scale_value
scale-of bits m e value below few is =
    any_at (λ e. list_any (λ m. m * 2 ^ e == value) (range_with_len 0 (2 ^ (bits + 1)))) 32 e few
    (any_at (λ m. m * 2 ^ e == value) (2 ^ (bits + 1)) m below (eq-eqb (m * 2 ^ e) value is))

pub scale-parts : (bits value : ℕ) → is_scale_value bits value ≡ true
    → (m : ℕ) × (e : ℕ) × (m < 2 ^ (bits + 1)) × (m * 2 ^ e ≡ value)
unfolding is_scale_value
scale-parts bits value is =
    let outer = any_of (λ e. list_any (λ m. m * 2 ^ e == value) (range_with_len 0 (2 ^ (bits + 1)))) 32 is in
    let inner = any_of (λ m. m * 2 ^ outer.0 == value) (2 ^ (bits + 1)) outer.2 in
    (inner.0, outer.0, inner.1, eqb-true (inner.0 * 2 ^ outer.0) value inner.2)

-- ---- the next number

two_more : (k : ℕ) → 2 ^ (k + 1) ≡ 2 * 2 ^ k
two_more k = omega (arith, ap (λ n. 2 ^ n) (add-one k), pow-suc 2 k)

two_suc : (k : ℕ) → 2 ^ suc k ≡ 2 * 2 ^ k
two_suc k = omega (arith, pow-suc 2 k)

-- m + 1 times a power of two, with m below 2^(bits + 1)
scale-next : (bits m e : ℕ) → m < 2 ^ (bits + 1) → e < 31 → is_scale_value bits ((m + 1) * 2 ^ e) ≡ true
scale-next bits m e below few = elim (cases_lt (m + 1) (2 ^ (bits + 1))) [
  | inl lt ↦ scale-of bits (m + 1) e _ lt (omega (arith, few)) refl
  | inr ge ↦
      let all : m + 1 ≡ 2 * 2 ^ bits = omega (arith, below, ge, two_more bits) in
      let half : 2 ^ bits < 2 ^ (bits + 1) = omega (arith, two_more bits, pow_pos bits) in
      scale-of bits (2 ^ bits) (e + 1) _ half (omega (arith, few))
      (ap (λ p. 2 ^ bits * p) (two_more e) ∙ (product (2 ^ bits) (2 ^ e) ∙ ap (λ n. n * 2 ^ e) (sym all)))
]
  where
    product : (b p : ℕ) → b * (2 * p) ≡ 2 * b * p
    product b p = omega arith

step_of : (b m p : ℕ) → b ≤ m → b * ((m + 1) * p) ≤ (b + 1) * (m * p)
step_of b m p le = omega (arith, mul-le-mul_right p le)

-- a number of the scale that is at most a step above another
abbrev pub HasNext : ℕ → ℕ → Type 0
HasNext bits value = (next : ℕ) × (value < next) × (is_scale_value bits next ≡ true) × IsScaleStep bits value next

above : (m p : ℕ) → 0 < p → m * p < (m + 1) * p
above m p lt = omega (arith, lt)

one_above : (m : ℕ) → (m + 1) * 2 ^ zero ≤ m * 2 ^ zero + 1
one_above m = omega arith

halved : (m e : ℕ) → (2 * m) * 2 ^ e ≡ m * 2 ^ suc e
halved m e = omega (arith, ap (λ p. m * p) (two_suc e))

next_of : (bits m e : ℕ) → m < 2 ^ (bits + 1) → e < 31 → HasNext bits (m * 2 ^ e)
next_of bits m zero below few =
    ((m + 1) * 2 ^ zero, above m (2 ^ zero) (pow_pos zero), scale-next bits m zero below few, inl (one_above m))
next_of bits m (suc e) below few = elim (cases_lt m (2 ^ bits)) [
  | inl lt ↦
      subst (HasNext bits) (halved m e)
      (next_of bits (2 * m) e (omega (arith, lt, two_more bits)) (omega (arith, few)))
  | inr ge ↦ (
    (m + 1) * 2 ^ suc e,
    above m (2 ^ suc e) (pow_pos (suc e)),
    scale-next bits m (suc e) below few,
    inr (step_of (2 ^ bits) m (2 ^ suc e) ge),
  )
]

at_least : (m p : ℕ) → 0 < m * p → p ≤ m * p
at_least zero p lt = absurd (omega (arith, lt))
at_least (suc m) p lt = omega arith

-- an exponent of a number below 2^31
pub small_exponent : (e : ℕ) → 2 ^ e < 2147483648 → e < 31
small_exponent e lt = elim (cases_lt e 31) [
  | inl less ↦ less
  | inr ge ↦
      let grows : 2147483648 ≤ 2 ^ e = pow_mono ge in
      absurd (omega (arith, lt, grows))
]

pub scale-has_next : (bits value : ℕ) → is_scale_value bits value ≡ true → 0 < value → value < 2147483648 → HasNext bits value
scale-has_next bits value is some small =
    let parts = scale-parts bits value is in
    let most : 2 ^ parts.1 ≤ parts.0 * 2 ^ parts.1 = at_least parts.0 (2 ^ parts.1) (omega (arith, some, parts.3)) in
    subst (HasNext bits) parts.3
    (next_of bits parts.0 parts.1 parts.2 (small_exponent parts.1 (omega (arith, most, small, parts.3))))

-- a step is one to any value that comes before
step-less : (bits before value next : ℕ) → value ≤ next → IsScaleStep bits before next → IsScaleStep bits before value
step-less bits before value next le (inl one) = inl (omega (arith, le, one))
step-less bits before value next le (inr share) = inr (omega (arith, mul-le-mul_left (2 ^ bits) le, share))

-- the first number of a scale from `from` on
pub record IsFirstFrom (bits from value : ℕ) : Type 0 where
  pub found : is_scale_value bits value ≡ true
  pub above : from ≤ value
  pub first : (n : ℕ) → from ≤ n → n < value → is_scale_value bits n ≡ false

-- the one after a number of the scale is at most a step above it
pub first-step : (bits before value : ℕ) → is_scale_value bits before ≡ true → 0 < before → before < 2147483648
    → ((n : ℕ) → before + 1 ≤ n → n < value → is_scale_value bits n ≡ false) → IsScaleStep bits before value
first-step bits before value is some small first =
    let next = scale-has_next bits before is some small in
    elim (cases_lt next.0 value) [
      | inl lt ↦ absurd (true_is_not_false _ next.2 (first next.0 (omega (arith, next.1)) lt))
      | inr ge ↦ step-less bits before value next.0 ge next.3
    ]

-- ---- the first from a number on

-- a product below another has a factor below
below_factor : (a b d : ℕ) → a * d < b * d → a < b
below_factor a b d lt = elim (cases_lt a b) [
  | inl less ↦ less
  | inr ge ↦ absurd (omega (arith, lt, mul-le-mul_right d ge))
]

-- no multiple of d lies between
no_multiple : (t q d number : ℕ) → number ≤ t * d → t * d < q * d → q * d < number + d → ⊥
no_multiple t q d number low high near =
    let more = below_factor t q d high in
    let least : t + 1 ≤ q = omega (arith, more) in
    omega (arith, low, near, mul-le-mul_right d least)

-- a multiple of a larger power of two
as_multiple : (m e k : ℕ) → m * 2 ^ k * 2 ^ e ≡ m * 2 ^ (e + k)
as_multiple m e k = omega (arith, ap (λ p. m * p) (pow-add 2 e k))

bound_of : (b m f : ℕ) → m < 2 * b → 0 < 2 ^ f → m * 2 ^ f < b * (2 * 2 ^ f)
bound_of b m f lt some =
    let least : m + 1 ≤ 2 * b = omega (arith, lt) in
    omega (arith, mul-le-mul_right (2 ^ f) least, some)

-- a number m * 2^f with f below e is below 2^bits * 2^e
too_low : (bits m f e : ℕ) → m < 2 ^ (bits + 1) → f < e → m * 2 ^ f < 2 ^ bits * 2 ^ e
too_low bits m f e below less =
    let bound = bound_of (2 ^ bits) m f (omega (arith, below, two_more bits)) (pow_pos f) in
    let le : f + 1 ≤ e = omega (arith, less) in
    let grows : 2 ^ (f + 1) ≤ 2 ^ e = pow_mono le in
    let twice : 2 * 2 ^ f ≤ 2 ^ e = omega (arith, grows, two_more f) in
    omega (arith, bound, mul-le-mul_left (2 ^ bits) twice)

-- a distance of 1 is 2^0
no_power : (f e : ℕ) → f < e → 2 ^ e ≡ 1 → ⊥
no_power f e less is =
    let le : 1 ≤ e = omega (arith, less) in
    let grows : 2 ≤ 2 ^ e = pow_mono le in
    omega (arith, grows, is)

none_between : (bits number e q n : ℕ) → (2 ^ e ≡ 1) ⊎ (2 ^ bits * 2 ^ e ≤ number)
    → q * 2 ^ e < number + 2 ^ e → number ≤ n → n < q * 2 ^ e → is_scale_value bits n ≡ true → ⊥
none_between bits number e q n least near low high is =
    let parts = scale-parts bits n is in
    elim (cases_lt parts.1 e) [
      | inl less ↦ elim least [
        | inl one ↦ no_power parts.1 e less one
        | inr octave ↦ omega (arith, too_low bits parts.0 parts.1 e parts.2 less, parts.3, octave, low)
      ]
      | inr ge ↦
          let k : ℕ = parts.1 - e in
          let same : e + k ≡ parts.1 = omega (arith, ge) in
          let multiple : parts.0 * 2 ^ k * 2 ^ e ≡ n =
          as_multiple parts.0 e k ∙ (ap (λ f. parts.0 * 2 ^ f) same ∙ parts.3) in
          no_multiple (parts.0 * 2 ^ k) q (2 ^ e) number (omega (arith, multiple, low)) (omega (arith, multiple, high)) near
    ]

-- such a multiple is a number of the scale
is_multiple : (bits number e q : ℕ) → e < 31 → number < 2 ^ (bits + 1) * 2 ^ e → q * 2 ^ e < number + 2 ^ e
    → is_scale_value bits (q * 2 ^ e) ≡ true
is_multiple bits number e zero few below near =
    scale-of bits zero e (zero * 2 ^ e) (pow_pos (bits + 1)) (omega (arith, few)) refl
is_multiple bits number e (suc m) few below near =
    let less : suc m < 2 ^ (bits + 1) + 1 =
    below_factor (suc m) (2 ^ (bits + 1) + 1) (2 ^ e) (omega (arith, below, near)) in
    let same : m + 1 ≡ suc m = omega arith in
    subst (λ q. is_scale_value bits (q * 2 ^ e) ≡ true) same (scale-next bits m e (omega (arith, less)) few)

first-at : (bits number e distance q : ℕ) → distance ≡ 2 ^ e → e < 31 → number < 2 ^ (bits + 1) * distance
    → (distance ≡ 1) ⊎ (2 ^ bits * distance ≤ number)
    → number ≤ q * distance → q * distance < number + distance → IsFirstFrom bits number (q * distance)
first-at bits number e distance q is few below least low near =
    let below' : number < 2 ^ (bits + 1) * 2 ^ e = subst (λ d. number < 2 ^ (bits + 1) * d) is below in
    let least' : (2 ^ e ≡ 1) ⊎ (2 ^ bits * 2 ^ e ≤ number) =
    subst (λ d. (d ≡ 1) ⊎ (2 ^ bits * d ≤ number)) is least in
    let near' : q * 2 ^ e < number + 2 ^ e = subst (λ d. q * d < number + d) is near in
    let low' : number ≤ q * 2 ^ e = subst (λ d. number ≤ q * d) is low in
    subst (λ d. IsFirstFrom bits number (q * d)) (sym is)
    (record {
      found = is_multiple bits number e q few below' near';
      above = low';
      first = λ n le lt. false_from _ (none_between bits number e q n least' near' le lt);
    })

positive : (e distance : ℕ) → distance ≡ 2 ^ e → 0 < distance
positive e distance is = omega (arith, is, pow_pos e)

-- the least multiple of the distance from a number on is the first of the scale
pub first-of_distance : (bits number distance : ℕ) → IsScaleDistance bits number distance
    → IsFirstFrom bits number ((number / distance + min 1 (number % distance)) * distance)
first-of_distance bits number distance is =
    let bounds = div_ceil_times number distance (positive is.power.0 distance is.power.2) in
    first-at bits number is.power.0 distance (number / distance + min 1 (number % distance)) is.power.2 is.power.1
    is.below is.least bounds.0 bounds.1

least_of : (b d number : ℕ) → 0 < b → b * d ≤ number → d ≤ number
least_of zero d number some le = absurd (omega (arith, some))
least_of (suc b) d number some le = omega (arith, le)

pub distance-small : (bits number distance : ℕ) → 0 < number → (distance ≡ 1) ⊎ (2 ^ bits * distance ≤ number)
    → distance ≤ number
distance-small bits number distance some (inl one) = omega (arith, one, some)
distance-small bits number distance some (inr le) = least_of (2 ^ bits) distance number (pow_pos bits) le

-- ---- doubling a distance

-- what the loop keeps: a power of two, with 2^bits of them in the number unless they are 1
pub record IsDoubled (bits number distance : ℕ) : Type 0 where
  pub power : (e : ℕ) × (distance ≡ 2 ^ e)
  pub least : (distance ≡ 1) ⊎ (2 ^ bits * distance ≤ number)

pub doubled-first : (bits number : ℕ) → IsDoubled bits number 1
doubled-first bits number = record { power = (zero, refl); least = inl refl }

double : (b d values number : ℕ) → values ≡ 2 * b → values * d ≤ number → b * (d * 2) ≤ number
double b d values number is le = omega (arith, subst (λ v. v * d ≤ number) is le)

pub doubled-more : (bits number values distance : ℕ) → values ≡ 2 ^ (bits + 1) → values * distance ≤ number
    → IsDoubled bits number distance → IsDoubled bits number (distance * 2)
doubled-more bits number values distance is le at =
    record {
      power = (at.power.0 + 1, omega (arith, at.power.1, two_more at.power.0));
      least = inr (double (2 ^ bits) distance values number (is ∙ two_more bits) le);
    }

pub doubled-done : (bits number values distance : ℕ) → 0 < number → number ≤ 2147483646 → values ≡ 2 ^ (bits + 1)
    → number < values * distance → IsDoubled bits number distance → IsScaleDistance bits number distance
doubled-done bits number values distance some small is below at =
    let le = distance-small bits number distance some at.least in
    record {
      power = (at.power.0, small_exponent at.power.0 (omega (arith, at.power.1, le, small)), at.power.1);
      below = subst (λ v. number < v * distance) is below;
      least = at.least;
    }

-- 2^(bits + 1) as it is computed
pub octave_values : (bits : ℕ) → bits ≤ 8 → 2 * 2 ^ bits % 4294967296 ≡ 2 ^ (bits + 1)
octave_values bits few =
    let small : 2 ^ bits ≤ 256 = pow_mono few in
    omega (arith, small, two_more bits)

-- a quotient compared, without division
pub reached : (number values distance : ℕ) → distance ≤ number / values → values * distance ≤ number
reached number values distance le = omega (arith, mul-div-le number values, mul-le-mul_left values le)

pub not_reached : (number values distance : ℕ) → 0 < values → number / values < distance → number < values * distance
not_reached number values distance some less =
    let least : number / values + 1 ≤ distance = omega (arith, less) in
    let near : number < number / values * values + values = lt-div-mul-add some in
    omega (arith, near, mul-le-mul_right values least)

-- The numbers of a range that pass a test, and lists with steps, as a loop builds them.
use Rattle.std.proofs.Common.{◌≡◌, Bool, true, false, ◌||◌, ◌==◌, ℕ, zero, suc, ◌+◌, ◌-◌, ◌<◌, ◌≤◌, inl, inr, List, [], ◌∷◌, ◌++◌, length, slice_index, Option, Some, None, unwrap_or, if◌then◌else◌, refl, sym, ap, subst, ◌∙◌, arith, eq-eqb}
use Rattle.std.specs.List.{range_with_len, filter, find}
use Rattle.std.specs.List.Sorted.{IsStrictlyIncreasing}
use Rattle.std.proofs.lemmas.Bool.{cases_lt, eqb-true}
use Rattle.std.proofs.lemmas.List.{get_or_push, get_or_append_left, length_push, append-nil, map-id, length-append}
use Rattle.std.proofs.lemmas.List.FromFn.{filter_of_map_range_with_len_more, length-range_with_len, get_or-range_with_len}
use Rattle.std.proofs.lemmas.List.Kept.{IsStrictlyIncreasing-filter}
use Rattle.bucket_ranges.specs.Scale.{IsScaleStep, HaveScaleSteps}

-- the numbers from `low` up to `high` that pass
abbrev pub passing : (ℕ → Bool) → ℕ → ℕ → List ℕ
passing p low high = filter p (range_with_len low (high - low))

if_true : (b : Bool) (xs ys : List ℕ) → b ≡ true → (if b then xs else ys) ≡ xs
if_true true xs ys is = refl
if_true false xs ys is = absurd (cc)

if_false : (b : Bool) (xs ys : List ℕ) → b ≡ false → (if b then xs else ys) ≡ ys
if_false true xs ys is = absurd (cc)
if_false false xs ys is = refl

-- one more number
passing-more : (p : ℕ → Bool) (low high : ℕ) → low ≤ high
    → passing p low (high + 1) ≡ passing p low high ++ (if p high then high ∷ [] else [])
passing-more p low high le =
    let e : high + 1 - low ≡ (high - low) + 1 = omega (arith, le) in
    ap (λ n. filter p (range_with_len low n)) e
    ∙ (ap (filter p) (sym (map-id (range_with_len low (high - low + 1))))
    ∙ (filter_of_map_range_with_len_more p (λ k. k) low (high - low) high (omega (arith, le))
    ∙ ap (λ xs. filter p xs ++ (if p high then high ∷ [] else [])) (map-id (range_with_len low (high - low)))))

passing-pass : (p : ℕ → Bool) (low high : ℕ) → low ≤ high → p high ≡ true
    → passing p low (high + 1) ≡ passing p low high ++ high ∷ []
passing-pass p low high le is =
    passing-more p low high le ∙ ap (λ xs. passing p low high ++ xs) (if_true (p high) (high ∷ []) [] is)

passing-fail : (p : ℕ → Bool) (low high : ℕ) → low ≤ high → p high ≡ false
    → passing p low (high + 1) ≡ passing p low high
passing-fail p low high le is =
    passing-more p low high le
    ∙ (ap (λ xs. passing p low high ++ xs) (if_false (p high) (high ∷ []) [] is) ∙ append-nil (passing p low high))

-- none from `high` on
passing-skip : (p : ℕ → Bool) (low high k : ℕ) → low ≤ high → ((n : ℕ) → high ≤ n → n < high + k → p n ≡ false)
    → passing p low (high + k) ≡ passing p low high
passing-skip p low high zero le fails =
    let e : high + zero ≡ high = omega arith in ap (passing p low) e
passing-skip p low high (suc k) le fails =
    let e : high + suc k ≡ high + k + 1 = omega arith in
    ap (passing p low) e
    ∙ (passing-fail p low (high + k) (omega (arith, le)) (fails (high + k) (omega arith) (omega arith))
    ∙ passing-skip p low high k le (λ n from below. fails n from (omega (arith, below))))

passing-none : (p : ℕ → Bool) (low : ℕ) → passing p low low ≡ []
passing-none p low = let e : low - low ≡ 0 = omega arith in ap (λ n. filter p (range_with_len low n)) e

-- none at all
pub passing-first : (p : ℕ → Bool) (low high : ℕ) → low ≤ high → ((n : ℕ) → low ≤ n → n < high → p n ≡ false)
    → passing p low high ≡ []
passing-first p low high le fails =
    let e : high ≡ low + (high - low) = omega (arith, le) in
    ap (passing p low) e
    ∙ (passing-skip p low low (high - low) (omega arith) (λ n from below. fails n from (omega (arith, below, le)))
    ∙ passing-none p low)

-- from one that passes to the next
pub passing-next : (p : ℕ → Bool) (low value next : ℕ) → low ≤ value → value < next → p value ≡ true
    → ((n : ℕ) → value + 1 ≤ n → n < next → p n ≡ false) → passing p low next ≡ passing p low value ++ value ∷ []
passing-next p low value next le less is fails =
    let e : next ≡ value + 1 + (next - (value + 1)) = omega (arith, less) in
    ap (passing p low) e
    ∙ (passing-skip p low (value + 1) (next - (value + 1)) (omega (arith, le)) (λ n from below. fails n from (omega (arith, below, less)))
    ∙ passing-pass p low value le is)

-- two tests that agree
passing-same : (p q : ℕ → Bool) (low k : ℕ) → ((n : ℕ) → n < low + k → p n ≡ q n)
    → passing p low (low + k) ≡ passing q low (low + k)
passing-same p q low zero same =
    let e : low + zero ≡ low = omega arith in
    ap (passing p low) e ∙ (passing-none p low ∙ (sym (passing-none q low) ∙ ap (passing q low) (sym e)))
passing-same p q low (suc k) same =
    let e : low + suc k ≡ low + k + 1 = omega arith in
    let before = passing-same p q low k (λ n below. same n (omega (arith, below))) in
    let here : p (low + k) ≡ q (low + k) = same (low + k) (omega arith) in
    ap (passing p low) e
    ∙ (passing-more p low (low + k) (omega arith)
    ∙ (ap (λ xs. xs ++ (if p (low + k) then (low + k) ∷ [] else [])) before
    ∙ (ap (λ b. passing q low (low + k) ++ (if b then (low + k) ∷ [] else [])) here
    ∙ (sym (passing-more q low (low + k) (omega arith)) ∙ ap (passing q low) (sym e)))))

or_same : (b c : Bool) → c ≡ false → b ≡ (b || c)
or_same true c is = refl
or_same false c is = sym is

or_last : (b c : Bool) → c ≡ true → (b || c) ≡ true
or_last true c is = refl
or_last false c is = is

not_equal : (b : Bool) → (b ≡ true → ⊥) → b ≡ false
not_equal true never = absurd (never refl)
not_equal false never = refl

-- those up to a last number, which passes for being the last
pub passing-last : (p : ℕ → Bool) (low last : ℕ) → low ≤ last
    → filter (λ value. p value || value == last) (range_with_len low (last + 1 - low)) ≡ passing p low last ++ last ∷ []
passing-last p low last le =
    let q : ℕ → Bool = λ value. p value || value == last in
    let e : low + (last - low) ≡ last = omega (arith, le) in
    let same = passing-same p q low (last - low) (λ n below. or_same (p n) (n == last)
    (not_equal (n == last) (λ is. omega (arith, below, eqb-true n last is, le)))) in
    passing-pass q low last le (or_last (p last) (last == last) (eq-eqb last last refl))
    ∙ ap (λ xs. xs ++ last ∷ []) (ap (passing q low) (sym e) ∙ (sym same ∙ ap (passing p low) e))

-- there are no fewer further up
passing-longer : (p : ℕ → Bool) (low high k : ℕ) → low ≤ high → length (passing p low high) ≤ length (passing p low (high + k))
passing-longer p low high zero le =
    let e : high + zero ≡ high = omega arith in
    omega (arith, ap (λ n. length (passing p low n)) e)
passing-longer p low high (suc k) le =
    let e : high + suc k ≡ high + k + 1 = omega arith in
    let more = passing-more p low (high + k) (omega (arith, le)) in
    omega (
      arith,
      passing-longer p low high k le,
      ap (λ n. length (passing p low n)) e,
      ap length more,
      length-append (passing p low (high + k)) (if p (high + k) then (high + k) ∷ [] else []),
    )

pub passing-long : (p : ℕ → Bool) (low value last : ℕ) → low ≤ value → value < last → p value ≡ true
    → length (passing p low value) + 1 ≤ length (passing p low last)
passing-long p low value last le less is =
    let e : value + 1 + (last - (value + 1)) ≡ last = omega (arith, less) in
    omega (
      arith,
      passing-longer p low (value + 1) (last - (value + 1)) (omega (arith, le)),
      ap (λ n. length (passing p low n)) e,
      ap length (passing-pass p low value le is),
      length_push (passing p low value) value,
    )

-- ---- the first of a range

find-here : (b : Bool) (a : ℕ) (rest : Option ℕ) → b ≡ true → (if b then Some a else rest) ≡ Some a
find-here true a rest is = refl
find-here false a rest is = absurd (cc)

find-later : (b : Bool) (a : ℕ) (rest : Option ℕ) → b ≡ false → (if b then Some a else rest) ≡ rest
find-later true a rest is = absurd (cc)
find-later false a rest is = refl

find-first : (p : ℕ → Bool) (low n value : ℕ) → low ≤ value → value < low + n → p value ≡ true
    → ((k : ℕ) → low ≤ k → k < value → p k ≡ false) → find p (range_with_len low n) ≡ Some value
find-first p low zero value from below is fails = absurd (omega (arith, from, below))
find-first p low (suc n) value from below is fails = elim (cases_lt low value) [
  | inl less ↦
      find-later (p low) low (find p (range_with_len (low + 1) n)) (fails low (omega arith) less)
      ∙ find-first p (low + 1) n value (omega (arith, less)) (omega (arith, below)) is
      (λ k at under. fails k (omega (arith, at)) under)
  | inr ge ↦
      let e : value ≡ low = omega (arith, ge, from) in
      find-here (p low) low (find p (range_with_len (low + 1) n)) (ap p (sym e) ∙ is) ∙ ap Some (sym e)
]

find-none : (p : ℕ → Bool) (low n : ℕ) → ((k : ℕ) → low ≤ k → k < low + n → p k ≡ false)
    → find p (range_with_len low n) ≡ None
find-none p low zero fails = refl
find-none p low (suc n) fails =
    find-later (p low) low (find p (range_with_len (low + 1) n)) (fails low (omega arith) (omega arith))
    ∙ find-none p (low + 1) n (λ k at under. fails k (omega (arith, at)) (omega (arith, under)))

-- the first from `max` on that is below an end, or `max`
pub found-inside : (p : ℕ → Bool) (max end value : ℕ) → max ≤ value → value < end → p value ≡ true
    → ((k : ℕ) → max ≤ k → k < value → p k ≡ false) → unwrap_or (find p (range_with_len max (end - max))) max ≡ value
found-inside p max end value from below is fails =
    ap (λ found. unwrap_or found max) (find-first p max (end - max) value from (omega (arith, from, below)) is fails)

pub found-outside : (p : ℕ → Bool) (max end value : ℕ) → end ≤ value
    → ((k : ℕ) → max ≤ k → k < value → p k ≡ false) → unwrap_or (find p (range_with_len max (end - max))) max ≡ max
found-outside p max end value above fails = elim (cases_lt max end) [
  | inl less ↦
      ap (λ found. unwrap_or found max)
      (find-none p max (end - max) (λ k at under. fails k at (omega (arith, under, above, less))))
  | inr ge ↦
      let e : end - max ≡ 0 = omega (arith, ge) in
      ap (λ n. unwrap_or (find p (range_with_len max n)) max) e
]

-- ---- steps

steps-one : (bits value : ℕ) → HaveScaleSteps bits ([] ++ value ∷ [])
steps-one bits value i lt = absurd (omega (arith, lt))

pub steps-first : (bits value : ℕ) (xs : List ℕ) → xs ≡ [] → HaveScaleSteps bits (xs ++ value ∷ [])
steps-first bits value xs is = subst (λ ys. HaveScaleSteps bits (ys ++ value ∷ [])) (sym is) (steps-one bits value)

pub steps-push : (bits : ℕ) (xs : List ℕ) (a b : ℕ) → HaveScaleSteps bits (xs ++ a ∷ []) → IsScaleStep bits a b
    → HaveScaleSteps bits ((xs ++ a ∷ []) ++ b ∷ [])
steps-push bits xs a b steps step i lt = elim (cases_lt (i + 1) (length (xs ++ a ∷ []))) [
  | inl inside ↦
      let this : slice_index ((xs ++ a ∷ []) ++ b ∷ []) i ≡ slice_index (xs ++ a ∷ []) i =
      get_or_append_left (xs ++ a ∷ []) (b ∷ []) 0 i (omega (arith, inside)) in
      let next : slice_index ((xs ++ a ∷ []) ++ b ∷ []) (i + 1) ≡ slice_index (xs ++ a ∷ []) (i + 1) =
      get_or_append_left (xs ++ a ∷ []) (b ∷ []) 0 (i + 1) inside in
      subst (λ x. IsScaleStep bits x (slice_index ((xs ++ a ∷ []) ++ b ∷ []) (i + 1))) (sym this)
      (subst (IsScaleStep bits (slice_index (xs ++ a ∷ []) i)) (sym next) (steps i inside))
  | inr ge ↦
      let last : length xs ≡ i = omega (arith, ge, lt, length_push xs a, length_push (xs ++ a ∷ []) b) in
      let end : length (xs ++ a ∷ []) ≡ i + 1 = omega (arith, last, length_push xs a) in
      let this : slice_index ((xs ++ a ∷ []) ++ b ∷ []) i ≡ a =
      get_or_append_left (xs ++ a ∷ []) (b ∷ []) 0 i (omega (arith, end)) ∙ get_or_push xs a 0 i last in
      let next : slice_index ((xs ++ a ∷ []) ++ b ∷ []) (i + 1) ≡ b = get_or_push (xs ++ a ∷ []) b 0 (i + 1) end in
      subst (λ x. IsScaleStep bits x (slice_index ((xs ++ a ∷ []) ++ b ∷ []) (i + 1))) (sym this)
      (subst (IsScaleStep bits a) (sym next) step)
]

-- ---- ascent

range-ascends : (low n : ℕ) → IsStrictlyIncreasing (range_with_len low n)
range-ascends low n k lt =
    let few : k + 1 < n = omega (arith, lt, length-range_with_len low n) in
    let this : slice_index (range_with_len low n) k ≡ low + k = get_or-range_with_len low n k 0 (omega (arith, few)) in
    let next : slice_index (range_with_len low n) (k + 1) ≡ low + (k + 1) = get_or-range_with_len low n (k + 1) 0 few in
    omega (arith, this, next)

pub filtered-ascends : (p : ℕ → Bool) (low n : ℕ) → IsStrictlyIncreasing (filter p (range_with_len low n))
filtered-ascends p low n = IsStrictlyIncreasing-filter p (range_with_len low n) (range-ascends low n)

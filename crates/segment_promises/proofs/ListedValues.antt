-- What a recorder lists of the samples of a sparse histogram, record by record.
use Rattle.segment_invariant.proofs.Prelude.Std.{◌≡◌, ◌≢◌, ℕ, suc, ◌+◌, ◌<◌, ◌≤◌, ℤ, if◌then◌else◌, sum_by, Bool, true, false, List, [], ◌∷◌, ◌++◌, length, inl, inr, refl, sym, ap, subst, ◌∙◌, arith, cast_unsigned, w64, All, AllByRecursion, Contains, int_eq, get_or, Decides-int_eq, append_assoc, length_push, All-nil, All-cons, All-push, Contains-append_right, sum_by-append}
use Rattle.segment_invariant.proofs.Prelude.Machine.{Seen, SawOther, SawSample}
use Rattle.std.proofs.lemmas.List.Sums.{sum_by_push}
use Rattle.list_lemmas.specs.Firsts.{ComesFirst}
use Rattle.segment_promises.specs.Onward.{Grows}
use Rattle.segment_promises.specs.Values.{NoKeyRepeats, ListsValues, PassesRecord}
use Rattle.segment_promises.proofs.Growing.{all_push, other_still, others_still, still}
use Rattle.segment_promises.proofs.FirstValues.{other_value}

-- ---- lists

-- what comes first still does if one more follows
first_behind : {X : Type 0} (other is : X → Type 0) (list : List X) (x y : X) → ComesFirst other is list x → ComesFirst other is (list ++ y ∷ []) x
first_behind other is list x y (front, behind, split, others, it) = (
  front,
  behind ++ y ∷ [],
  ap (λ (l : List _). l ++ y ∷ []) split ∙ append_assoc front (x ∷ behind) (y ∷ []),
  others,
  it,
)

-- ---- what was seen stays

module _ (a b : Seen) (grows : Grows a.words b.words) (histogram : ℕ) where
  pub sample_still : (value : ℤ) (at : ℕ) → SawSample a histogram value at → SawSample b histogram value at
  sample_still value at (tag, of, word, fits) = (
    still a.words b.words grows (at + 2) 3 tag,
    still a.words b.words grows (at + 4) histogram of,
    still a.words b.words grows (at + 5) (cast_unsigned w64 value) word,
    fits,
  )

  first_still : (value : ℤ) (list : List ℕ) (at : ℕ) → ComesFirst (SawOther a histogram value) (SawSample a histogram value) list at
      → ComesFirst (SawOther b histogram value) (SawSample b histogram value) list at
  first_still value list at (front, behind, split, others, it) =
      (front, behind, split, others_still a b grows histogram value front others, sample_still value at it)

  module _ (Does Then : ℤ → ℕ → Type 0) (does : (value : ℤ) (at : ℕ) → Does value at → Then value at) where
    pub passes_still : (at : ℕ) → PassesRecord Does a histogram at → PassesRecord Then b histogram at
    passes_still at (inl (value, saw, done)) = inl (value, sample_still value at saw, does value at done)
    passes_still at (inr none) = inr (λ value fits. other_still a b grows histogram value at (none value fits))

    all_pass_still : (list : List ℕ) → AllByRecursion (PassesRecord Does a histogram) list → AllByRecursion (PassesRecord Then b histogram) list
    all_pass_still [] all = all
    all_pass_still (r ∷ rest) (first, all) = (passes_still r first, all_pass_still rest all)

    pub lists_still : (Had Has : ℕ → ℕ → Type 0) → ((sample units : ℕ) → Had sample units → Has sample units) → (passed : List ℕ) (listed : List (ℤ × ℕ))
        → ListsValues Does Had histogram passed listed a → ListsValues Then Has histogram passed listed b
    lists_still Had Has has passed listed lists = record {
      passes = all_pass_still passed lists.passes;
      firsts = λ k d low.
          let (sample, first, had) = lists.firsts k d low in
          (sample, first_still (get_or listed k d).0 passed sample first, has sample (get_or listed k d).1 had);
      once = lists.once;
      few = lists.few;
    }

-- ---- one key more

-- each key is listed once, if the new one is not listed yet
module _ (listed : List (ℤ × ℕ)) (value : ℤ) (units : ℕ) (never : (k : ℕ) (d : ℤ × ℕ) → k < length listed → (get_or listed k d).0 ≢ value) where
  abbrev test : ℤ → ℤ × ℕ → ℕ
  test key count = if int_eq count.0 key then 1 else 0

  apart_false : (x y : ℤ) → x ≢ y → int_eq x y ≡ false
  apart_false x y apart = by (int_eq x y) refl
    where
      by : (b : Bool) → int_eq x y ≡ b → b ≡ false
      by true e = absurd (apart ((Decides-int_eq x y).0 e))
      by false e = refl

  none_of : (list : List (ℤ × ℕ)) → ((k : ℕ) (d : ℤ × ℕ) → k < length list → (get_or list k d).0 ≢ value) → sum_by (test value) list ≡ 0
  none_of [] never = refl
  none_of (c ∷ rest) never =
      let head : test value c ≡ 0 = ap (λ (b : Bool). if b then 1 else 0) (apart_false c.0 value (never 0 c (omega arith))) in
      let tail = none_of rest (λ k d low. never (suc k) d (omega (arith, low))) in
      let one : sum_by (test value) (c ∷ []) ≡ 0 = λ i. 0 + head i in
      sum_by-append (test value) (c ∷ []) rest ∙ (λ i. one i + tail i)

  pub once_then : NoKeyRepeats listed → NoKeyRepeats (listed ++ (value, units) ∷ [])
  once_then once key =
      let all = sum_by_push (test key) listed (value, units) in
      let was = once key in
      by (int_eq value key) refl all was
    where
      by : (b : Bool) → int_eq value key ≡ b → sum_by (test key) (listed ++ (value, units) ∷ []) ≡ sum_by (test key) listed + test key (value, units)
          → sum_by (test key) listed ≤ 1 → sum_by (test key) (listed ++ (value, units) ∷ []) ≤ 1
      by true e all was =
          let none = subst (λ (x : ℤ). sum_by (test x) listed ≡ 0) ((Decides-int_eq value key).0 e) (none_of listed never) in
          let one : test key (value, units) ≡ 1 = ap (λ (b : Bool). if b then 1 else 0) e in omega (arith, all, none, one)
      by false e all was = let one : test key (value, units) ≡ 0 = ap (λ (b : Bool). if b then 1 else 0) e in omega (arith, all, was, one)

-- ---- one record more

module _ (Does : ℤ → ℕ → Type 0) (Has : ℕ → ℕ → Type 0) (histogram : ℕ) (seen : Seen) where
  pub lists_nothing : ListsValues Does Has histogram [] [] seen
  lists_nothing = record { passes = tt; firsts = All-nil _; once = λ key. omega arith; few = omega arith }

  module _ (passed : List ℕ) (listed : List (ℤ × ℕ)) (lists : ListsValues Does Has histogram passed listed seen) (at : ℕ) where
    -- it lists nothing of it
    pub lists_on : PassesRecord Does seen histogram at → ListsValues Does Has histogram (passed ++ at ∷ []) listed seen
    lists_on passes = record {
      passes = all_push (PassesRecord Does seen histogram) passed at lists.passes passes;
      firsts = λ k d low.
          let (sample, first, has) = lists.firsts k d low in
          (sample, first_behind (SawOther seen histogram (get_or listed k d).0) (SawSample seen histogram (get_or listed k d).0) passed sample at first, has);
      once = lists.once;
      few = let few = lists.few in let one = length_push passed at in omega (arith, few, one);
    }

    -- it lists the value, of which it is the first sample
    module _ (value : ℤ) (units : ℕ) (saw : SawSample seen histogram value at) (does : Does value at) (has : Has at units)
        (first : (other : ℕ) → Contains passed other → SawSample seen histogram value other → ⊥) where
      others_of : (list : List ℕ) → AllByRecursion (PassesRecord Does seen histogram) list → ((other : ℕ) → Contains list other → SawSample seen histogram value other → ⊥)
          → All (SawOther seen histogram value) list
      others_of [] all never = All-nil _
      others_of (r ∷ rest) (one, all) never =
          All-cons (SawOther seen histogram value) r rest (by one) (others_of rest all (λ other there. never other (Contains-append_right (r ∷ []) rest other there)))
        where
          by : PassesRecord Does seen histogram r → SawOther seen histogram value r
          by (inl (v, shown, done)) =
              other_value seen histogram v value r shown saw.3 (λ same. never r (0, omega arith, refl) (subst (λ (x : ℤ). SawSample seen histogram x r) same shown))
          by (inr none) = none value saw.3

      -- it is not listed yet
      not_listed : (k : ℕ) (d : ℤ × ℕ) → k < length listed → (get_or listed k d).0 ≢ value
      not_listed k d low same =
          let (sample, (front, behind, split, others, it), had) = lists.firsts k d low in
          first sample (subst (λ (l : List ℕ). Contains l sample) (sym split) (Contains-append_right front (sample ∷ behind) sample (0, omega arith, refl)))
          (subst (λ (x : ℤ). SawSample seen histogram x sample) same it)

      pub lists_one : ListsValues Does Has histogram (passed ++ at ∷ []) (listed ++ (value, units) ∷ []) seen
      lists_one = let on = lists_on (inl (value, saw, does)) in record {
        passes = on.passes;
        firsts = All-push
            (λ (count : ℤ × ℕ). (sample : ℕ) × ComesFirst (SawOther seen histogram count.0) (SawSample seen histogram count.0) (passed ++ at ∷ []) sample × Has sample count.1)
            listed (value, units) on.firsts (at, (passed, [], refl, others_of passed lists.passes first, saw), has);
        once = once_then listed value units not_listed lists.once;
        few = let few = lists.few in let one = length_push passed at in let more = length_push listed (value, units) in omega (arith, few, one, more);
      }

-- The first samples of a histogram: their values ascend, and each is the first of its value.
use Rattle.std.proofs.Common.{◌≡◌, Bool, true, false, cond, ◌==◌, if◌then◌else◌, ℕ, ℤ, List, [], ◌∷◌, Option, Some, None, refl, ap, sym, ◌∙◌}
use Rattle.std.specs.Option.{option_or}
use Rattle.std.specs.List.{filter, find, fold, AllByRecursion}
use Rattle.std.specs.List.Sorted.{IsStrictlySortedBy}
use Rattle.std.specs.declared.cmp.Ordering.{Ordering}
use Rattle.std.specs.declared.cmp.Ordering.TheVariants.{Less, Equal, Greater}
use Rattle.std.specs.Ordering.{int_eq, is_eq, match_ordering, ordering_reverse}
use Rattle.std.specs.Cmp.{IsTotalOrder, on_total}
use Rattle.std.specs.BTreeSet.{insert_key}
use Rattle.std.proofs.lemmas.Cmp.{int_cmp_total}
use Rattle.segment_image.specs.Blocks.{field_at}
use Rattle.bucket_ranges.specs.Reading.{sample_value, by_value, first_samples}

by_value-total : (words : List ℕ) → IsTotalOrder (by_value words)
by_value-total words = on_total (sample_value words) int_cmp_total

-- ---- their order

all-step : {K : Type 0} (P : K → Type 0) (o : Ordering) (y x : K) (xs put : List K) → AllByRecursion P (x ∷ xs) → P y
    → AllByRecursion P put → AllByRecursion P (match_ordering o (y ∷ x ∷ xs) (x ∷ xs) (x ∷ put))
all-step P Less y x xs put all own more = (own, all)
all-step P Equal y x xs put all own more = all
all-step P Greater y x xs put all own more = (all.0, more)

-- what holds of all and of one more holds of all with it
all-insert : {K : Type 0} (P : K → Type 0) (cmp : K → K → Ordering) (xs : List K) (y : K) → AllByRecursion P xs → P y
    → AllByRecursion P (insert_key cmp xs y)
all-insert P cmp [] y all own = (own, tt)
all-insert P cmp (x ∷ xs) y all own =
    all-step P (cmp y x) y x xs (insert_key cmp xs y) all own (all-insert P cmp xs y all.1 own)

sorted-step : {K : Type 0} (cmp : K → K → Ordering) (o : Ordering) (a b c : List K)
    → (o ≡ Less → IsStrictlySortedBy cmp a) → IsStrictlySortedBy cmp b → (o ≡ Greater → IsStrictlySortedBy cmp c)
    → IsStrictlySortedBy cmp (match_ordering o a b c)
sorted-step cmp Less a b c l e g = l refl
sorted-step cmp Equal a b c l e g = e
sorted-step cmp Greater a b c l e g = g refl

all-above : {K : Type 0} (cmp : K → K → Ordering) → IsTotalOrder cmp → (y x : K) (xs : List K) → cmp y x ≡ Less
    → AllByRecursion (λ z. cmp x z ≡ Less) xs → AllByRecursion (λ z. cmp y z ≡ Less) xs
all-above cmp total y x [] less all = tt
all-above cmp total y x (z ∷ zs) less all = (total.trans y x z less all.0, all-above cmp total y x zs less all.1)

-- a list in order stays so
sorted-insert : {K : Type 0} (cmp : K → K → Ordering) → IsTotalOrder cmp → (xs : List K) (y : K) → IsStrictlySortedBy cmp xs
    → IsStrictlySortedBy cmp (insert_key cmp xs y)
unfolding IsStrictlySortedBy
sorted-insert cmp total [] y sorted = (tt, tt)
sorted-insert cmp total (x ∷ xs) y sorted =
    sorted-step cmp (cmp y x) (y ∷ x ∷ xs) (x ∷ xs) (x ∷ insert_key cmp xs y)
    (λ less. ((less, all-above cmp total y x xs less sorted.0), sorted))
    sorted
    (λ greater. (
      all-insert (λ z. cmp x z ≡ Less) cmp xs y sorted.0 (total.antisymm x y ∙ ap ordering_reverse greater),
      sorted-insert cmp total xs y sorted.1,
    ))

sorted-fold : {K : Type 0} (cmp : K → K → Ordering) → IsTotalOrder cmp → (kept xs : List K) → IsStrictlySortedBy cmp kept
    → IsStrictlySortedBy cmp (fold (insert_key cmp) kept xs)
sorted-fold cmp total kept [] sorted = sorted
sorted-fold cmp total kept (x ∷ xs) sorted =
    sorted-fold cmp total (insert_key cmp kept x) xs (sorted-insert cmp total kept x sorted)

nothing-sorted : {K : Type 0} (cmp : K → K → Ordering) → IsStrictlySortedBy cmp []
unfolding IsStrictlySortedBy
nothing-sorted cmp = tt

pub first_samples-ascend : (words samples : List ℕ) (histogram : ℕ) → IsStrictlySortedBy (by_value words) (first_samples words samples histogram)
first_samples-ascend words samples histogram =
    sorted-fold (by_value words) (by_value-total words) [] (filter (λ s. field_at words s 4 == histogram) samples)
    (nothing-sorted (by_value words))

-- ---- the first of each value

-- a test of a value: those that an order ties pass it alike, and none above one that passes does
record IsOfValue {K : Type 0} (cmp : K → K → Ordering) (test : K → Bool) : Type 0 where
  tied : (a b : K) → cmp a b ≡ Equal → test a ≡ true → test b ≡ true
  above : (a b : K) → cmp a b ≡ Less → test a ≡ true → test b ≡ false

or-none : {K : Type 0} (o : Option K) → o ≡ option_or o None
or-none None = refl
or-none (Some x) = refl

none-above : {K : Type 0} (cmp : K → K → Ordering) (test : K → Bool) → IsOfValue cmp test → (y : K) (xs : List K) → test y ≡ true
    → AllByRecursion (λ z. cmp y z ≡ Less) xs → find test xs ≡ None
none-above cmp test of y [] own all = refl
none-above cmp test of y (x ∷ xs) own all =
    ap (λ b. cond b (Some x) (find test xs)) (of.above y x all.0 own) ∙ none-above cmp test of y xs own all.1

find-step : {K : Type 0} (test : K → Bool) (o : Ordering) (mine here : Bool) (y x : K) (xs put : List K)
    → test y ≡ mine → test x ≡ here
    → (o ≡ Less → mine ≡ true → find test (x ∷ xs) ≡ None)
    → (o ≡ Equal → mine ≡ true → here ≡ true)
    → find test put ≡ option_or (find test xs) (if mine then Some y else None)
    → find test (match_ordering o (y ∷ x ∷ xs) (x ∷ xs) (x ∷ put)) ≡ option_or (find test (x ∷ xs)) (if mine then Some y else None)
find-step test Less true here y x xs put a b none same rest =
    ap (λ t. cond t (Some y) (find test (x ∷ xs))) a ∙ sym (ap (λ f. option_or f (Some y)) (none refl refl))
find-step test Less false here y x xs put a b none same rest =
    ap (λ t. cond t (Some y) (find test (x ∷ xs))) a ∙ or-none (find test (x ∷ xs))
find-step test Equal true here y x xs put a b none same rest =
    let found : find test (x ∷ xs) ≡ Some x = ap (λ t. cond t (Some x) (find test xs)) (b ∙ same refl refl) in
    found ∙ sym (ap (λ f. option_or f (Some y)) found)
find-step test Equal false here y x xs put a b none same rest = or-none (find test (x ∷ xs))
find-step test Greater mine true y x xs put a b none same rest =
    ap (λ t. cond t (Some x) (find test put)) b
    ∙ sym (ap (λ t. option_or (cond t (Some x) (find test xs)) (if mine then Some y else None)) b)
find-step test Greater mine false y x xs put a b none same rest =
    ap (λ t. cond t (Some x) (find test put)) b
    ∙ (rest ∙ sym (ap (λ t. option_or (cond t (Some x) (find test xs)) (if mine then Some y else None)) b))

-- one more is found if none before is
find-insert : {K : Type 0} (cmp : K → K → Ordering) → IsTotalOrder cmp → (test : K → Bool) → IsOfValue cmp test → (xs : List K) (y : K)
    → IsStrictlySortedBy cmp xs
    → find test (insert_key cmp xs y) ≡ option_or (find test xs) (if test y then Some y else None)
unfolding IsStrictlySortedBy
find-insert cmp total test of [] y sorted = refl
find-insert cmp total test of (x ∷ xs) y sorted =
    find-step test (cmp y x) (test y) (test x) y x xs (insert_key cmp xs y) refl refl
    (λ less own. none-above cmp test of y (x ∷ xs) own (less, all-above cmp total y x xs less sorted.0))
    (λ equal own. of.tied y x equal own)
    (find-insert cmp total test of xs y sorted.1)

or-assoc : {K : Type 0} (o : Option K) (b : Bool) (x : K) (rest : Option K)
    → option_or (option_or o (if b then Some x else None)) rest ≡ option_or o (cond b (Some x) rest)
or-assoc None true x rest = refl
or-assoc None false x rest = refl
or-assoc (Some k) true x rest = refl
or-assoc (Some k) false x rest = refl

find-fold : {K : Type 0} (cmp : K → K → Ordering) → IsTotalOrder cmp → (test : K → Bool) → IsOfValue cmp test → (kept xs : List K)
    → IsStrictlySortedBy cmp kept → find test (fold (insert_key cmp) kept xs) ≡ option_or (find test kept) (find test xs)
find-fold cmp total test of kept [] sorted = or-none (find test kept)
find-fold cmp total test of kept (x ∷ xs) sorted =
    find-fold cmp total test of (insert_key cmp kept x) xs (sorted-insert cmp total kept x sorted)
    ∙ (ap (λ o. option_or o (find test xs)) (find-insert cmp total test of kept x sorted)
    ∙ or-assoc (find test kept) (test x) x (find test xs))

eq-less : (o : Ordering) → is_eq o ≡ true → o ≡ Equal
eq-less Less e = absurd (cc)
eq-less Equal e = refl
eq-less Greater e = absurd (cc)

-- the test of a value
of-value : (words : List ℕ) (value : ℤ) → IsOfValue (by_value words) (λ s. int_eq value (sample_value words s))
of-value words value = record {
  tied = λ a b tied own.
      ap is_eq (int_cmp_total.congr value (sample_value words a) (sample_value words b) (eq-less _ own) ∙ tied);
  above = λ a b less own.
      ap is_eq (int_cmp_total.congr value (sample_value words a) (sample_value words b) (eq-less _ own) ∙ less);
}

pub first_samples-first : (words samples : List ℕ) (histogram : ℕ) (value : ℤ)
    → find (λ s. int_eq value (sample_value words s)) (first_samples words samples histogram)
    ≡ find (λ s. int_eq value (sample_value words s)) (filter (λ s. field_at words s 4 == histogram) samples)
first_samples-first words samples histogram value =
    find-fold (by_value words) (by_value-total words) (λ s. int_eq value (sample_value words s)) (of-value words value) []
    (filter (λ s. field_at words s 4 == histogram) samples) (nothing-sorted (by_value words))

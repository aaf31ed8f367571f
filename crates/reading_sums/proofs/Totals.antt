-- What lists of parts have together.
use Rattle.std.proofs.Common.{◌≡◌, Bool, true, false, ◌&&◌, ◌||◌, nat_le, if◌then◌else◌, ℕ, ◌+◌, min, ℤ, pos, ◌+ℤ◌, List, [], ◌∷◌, ◌++◌, refl, ap, sym, ◌∙◌, arith, append_assoc}
use Rattle.std.proofs.Common.{subst}
use Rattle.std.specs.Str.{bytes_eq}
use Rattle.std.specs.Ordering.{int_eq}
use Rattle.reading_sums.specs.Keys.{SameKeys}
use Rattle.std.proofs.lemmas.Bool.Decides.{nat_tests}
use Rattle.std.proofs.Math.IntN.{+ℤ_assoc, +ℤ_comm, +ℤ_idl}
use Rattle.std.proofs.lemmas.List.Sums.{sum_by-append}
use Rattle.std.proofs.lemmas.List.Folds.{list_any-append}
use Rattle.bucket_ranges.specs.declared.spec.Spec.{Spec}
use Rattle.reading_sums.specs.Totals.Quantity.{Units, Marks, Amounts, AmountMarks, Redundant, Images}
use Rattle.reading_sums.specs.Totals.Feature.{HasKey, IsUpTo}
use Rattle.reading_sums.specs.Totals.{Part, Quantity, SameTotals, IsBoth, total, share_of, Feature, is_had, has_feature, is_of, same_spec, quantity_of}

-- ---- two lists, one after the other

pub total-append : (quantity : Quantity) (name : List ℕ) (spec : Spec) (xs ys : List Part)
    → total quantity name spec (xs ++ ys) ≡ total quantity name spec xs +ℤ total quantity name spec ys
total-append quantity name spec [] ys = sym (+ℤ_idl (total quantity name spec ys))
total-append quantity name spec (x ∷ xs) ys =
    ap (λ n. share_of quantity name spec x +ℤ n) (total-append quantity name spec xs ys)
    ∙ sym (+ℤ_assoc (share_of quantity name spec x) (total quantity name spec xs) (total quantity name spec ys))

pub had-append : (feature : Feature) (name : List ℕ) (spec : Spec) (xs ys : List Part)
    → is_had feature name spec (xs ++ ys) ≡ (is_had feature name spec xs || is_had feature name spec ys)
had-append feature name spec xs ys = list_any-append (λ part. is_of name spec part && has_feature feature part) xs ys

-- ---- the same totals

pub same-refl : (a : List Part) → SameTotals a a
same-refl a = record { totals = λ quantity name spec. refl; features = λ feature name spec. refl }

pub same-sym : (a b : List Part) → SameTotals a b → SameTotals b a
same-sym a b same = record {
  totals = λ quantity name spec. sym (same.totals quantity name spec);
  features = λ feature name spec. sym (same.features feature name spec);
}

pub same-trans : (a b c : List Part) → SameTotals a b → SameTotals b c → SameTotals a c
same-trans a b c first second = record {
  totals = λ quantity name spec. first.totals quantity name spec ∙ second.totals quantity name spec;
  features = λ feature name spec. first.features feature name spec ∙ second.features feature name spec;
}

pub same-append : (a b c d : List Part) → SameTotals a b → SameTotals c d → SameTotals (a ++ c) (b ++ d)
same-append a b c d first second = record {
  totals = λ quantity name spec. total-append quantity name spec a c
      ∙ ((λ i. first.totals quantity name spec i +ℤ second.totals quantity name spec i) ∙ sym (total-append quantity name spec b d));
  features = λ feature name spec. had-append feature name spec a c
      ∙ ((λ i. first.features feature name spec i || second.features feature name spec i) ∙ sym (had-append feature name spec b d));
}

-- ---- one more part of two lists that are added up

pub totals-step : (done rest more all : List Part) (part : Part) → SameTotals (done ++ rest) all → SameTotals (part ∷ more) rest
    → SameTotals ((done ++ part ∷ []) ++ more) all
totals-step done rest more all part before here =
    rw append_assoc (same-trans (done ++ part ∷ more) (done ++ rest) all (same-append done done (part ∷ more) rest (same-refl done) here) before)

-- ---- which part comes next

or-swap : (a b c : Bool) → (a || (b || c)) ≡ (b || (a || c))
or-swap true true c = refl
or-swap true false c = refl
or-swap false b c = refl

-- the first part of the second list
pub second-first : (part : Part) (first rest : List Part) → SameTotals (part ∷ (first ++ rest)) (first ++ part ∷ rest)
second-first part first rest = record {
  totals = λ quantity name spec.
      let share = share_of quantity name spec part in
      let one = total quantity name spec first in
      let other = total quantity name spec rest in
      ap (λ n. share +ℤ n) (total-append quantity name spec first rest)
      ∙ (sym (+ℤ_assoc share one other) ∙ (ap (λ n. n +ℤ other) (+ℤ_comm share one) ∙ (+ℤ_assoc one share other
      ∙ sym (total-append quantity name spec first (part ∷ rest)))));
  features = λ feature name spec.
      let has = is_of name spec part && has_feature feature part in
      ap (λ b. has || b) (had-append feature name spec first rest)
      ∙ (or-swap has (is_had feature name spec first) (is_had feature name spec rest)
      ∙ sym (had-append feature name spec first (part ∷ rest)));
}

-- equal lists have the same totals
pub same-equal : (a b : List Part) → a ≡ b → SameTotals a b
same-equal a b e = let P : List Part → Type 0 = λ z. SameTotals a z in subst P e (same-refl a)

pub chosen-sum : (t : Bool) (x y z : ℤ) → z ≡ x +ℤ y → (if t then z else pos 0) ≡ (if t then x else pos 0) +ℤ (if t then y else pos 0)
chosen-sum true x y z e = e
chosen-sum false x y z e = refl

both-had : (t e a b : Bool) → e ≡ (a || b) → (t && e) ≡ ((t && a) || (t && b))
both-had true e a b is = is
both-had false e a b is = refl

min-up_to : (a b n : ℕ) → nat_le (min a b) n ≡ (nat_le a n || nat_le b n)
min-up_to a b n = grind (arith, nat_tests)

or-assoc : (a b c d : Bool) → d ≡ (a || b) → (d || c) ≡ (a || (b || c))
or-assoc true b c d e = ap (λ x. x || c) e
or-assoc false b c d e = ap (λ x. x || c) e

pub is_of-both : (name : List ℕ) (spec : Spec) (a b : Part) → a.name ≡ b.name → a.spec ≡ b.spec → is_of name spec a ≡ is_of name spec b
is_of-both name spec a b names specs = λ i. bytes_eq (names i) name && same_spec (specs i) spec

-- one part in place of two
pub two-in-one : (a b e : Part) (rest : List Part) → a.name ≡ b.name → a.spec ≡ b.spec → IsBoth a b e
    → SameTotals (e ∷ rest) (a ∷ (b ∷ rest))
two-in-one a b e rest names specs both = record {
  totals = λ quantity name spec.
      let of_a = is_of name spec a in
      let first : is_of name spec e ≡ of_a = is_of-both name spec e a both.name both.spec in
      let second : is_of name spec b ≡ of_a = sym (is_of-both name spec a b names specs) in
      let here : share_of quantity name spec e ≡ share_of quantity name spec a +ℤ share_of quantity name spec b =
      ap (λ t. if t then quantity_of quantity e else pos 0) first
      ∙ (chosen-sum of_a (quantity_of quantity a) (quantity_of quantity b) (quantity_of quantity e) (both.quantities quantity)
      ∙ ap (λ t. share_of quantity name spec a +ℤ (if t then quantity_of quantity b else pos 0)) (sym second)) in
      ap (λ n. n +ℤ total quantity name spec rest) here
      ∙ +ℤ_assoc (share_of quantity name spec a) (share_of quantity name spec b) (total quantity name spec rest);
  features = λ feature name spec.
      let of_a = is_of name spec a in
      let first : is_of name spec e ≡ of_a = is_of-both name spec e a both.name both.spec in
      let second : is_of name spec b ≡ of_a = sym (is_of-both name spec a b names specs) in
      let here : (is_of name spec e && has_feature feature e)
      ≡ ((is_of name spec a && has_feature feature a) || (is_of name spec b && has_feature feature b)) =
      ap (λ t. t && has_feature feature e) first
      ∙ (both-had of_a (has_feature feature e) (has_feature feature a) (has_feature feature b)
      (both.features feature)
      ∙ ap (λ t. (of_a && has_feature feature a) || (t && has_feature feature b)) (sym second)) in
      or-assoc (is_of name spec a && has_feature feature a) (is_of name spec b && has_feature feature b)
      (is_had feature name spec rest) (is_of name spec e && has_feature feature e) here;
}

-- the first parts of both lists, as one
pub both-first : (a b e : Part) (first second : List Part) → a.name ≡ b.name → a.spec ≡ b.spec → IsBoth a b e
    → SameTotals (e ∷ (first ++ second)) ((a ∷ first) ++ (b ∷ second))
both-first a b e first second names specs both =
    same-trans (e ∷ (first ++ second)) (a ∷ (b ∷ (first ++ second))) (a ∷ (first ++ b ∷ second))
    (two-in-one a b e (first ++ second) names specs both)
    (same-append (a ∷ []) (a ∷ []) (b ∷ (first ++ second)) (first ++ b ∷ second) (same-refl (a ∷ [])) (second-first b first second))

-- ---- two parts together

-- everything that is added up, if the fields are
pub quantities-both : (a b e : Part) → SameKeys e.keys (a.keys ++ b.keys) → e.sum ≡ a.sum +ℤ b.sum
    → e.sum_mark ≡ a.sum_mark +ℤ b.sum_mark → e.redundant ≡ a.redundant + b.redundant → e.images ≡ a.images + b.images
    → (quantity : Quantity) → quantity_of quantity e ≡ quantity_of quantity a +ℤ quantity_of quantity b
quantities-both a b e keys sum mark redundant images (Units key) =
    ap pos (keys.units key ∙ sum_by-append (λ k. if int_eq k.value key then k.units else 0) a.keys b.keys)
quantities-both a b e keys sum mark redundant images (Marks key) =
    ap pos (keys.marks key ∙ sum_by-append (λ k. if int_eq k.value key then k.marks else 0) a.keys b.keys)
quantities-both a b e keys sum mark redundant images Amounts = sum
quantities-both a b e keys sum mark redundant images AmountMarks = mark
quantities-both a b e keys sum mark redundant images Redundant = ap pos redundant
quantities-both a b e keys sum mark redundant images Images = ap pos images

-- every feature, if the keys are those of both and the least number is the lesser one
pub features-both : (a b e : Part) → SameKeys e.keys (a.keys ++ b.keys) → e.least ≡ min a.least b.least
    → (feature : Feature) → has_feature feature e ≡ (has_feature feature a || has_feature feature b)
features-both a b e keys least (HasKey key) = keys.values key ∙ list_any-append (λ k. int_eq k.value key) a.keys b.keys
features-both a b e keys least (IsUpTo number) = ap (λ n. nat_le n number) least ∙ min-up_to a.least b.least number

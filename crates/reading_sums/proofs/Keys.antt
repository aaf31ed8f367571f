-- What lists of keys have together.
use Rattle.std.proofs.Common.{◌≡◌, Bool, ◌||◌, ap, sym, ◌∙◌, append_assoc, ℕ, List, [], ◌∷◌, ◌++◌, if◌then◌else◌, sum_by, arith}
use Rattle.std.proofs.lemmas.List.Sums.{sum_by-append, sum_by_push, sum_by-cons}
use Rattle.std.specs.Ordering.{int_eq}
use Rattle.std.specs.List.{list_any}
use Rattle.std.proofs.lemmas.List.Folds.{list_any-append}
use Rattle.reading_sums.specs.declared.key.KeySum.{KeySum}
use Rattle.reading_sums.specs.Keys.{SameKeys, has_key, units_at, marks_at}

-- one more element of a list that is added up so far
pub sum-step : {X : Type 0} (f : X → ℕ) (done rest more : List X) (key : X) (all : ℕ) → sum_by f (done ++ rest) ≡ all
    → sum_by f (key ∷ more) ≡ sum_by f rest → sum_by f ((done ++ key ∷ []) ++ more) ≡ all
sum-step f done rest more key all before here =
    omega (arith, sum_by-append f (done ++ key ∷ []) more, sum_by_push f done key, sum_by-append f done rest, sum_by-cons f key more)

-- or looked through
any-step : {X : Type 0} (p : X → Bool) (done rest more : List X) (key : X) (all : Bool) → list_any p (done ++ rest) ≡ all
    → list_any p (key ∷ more) ≡ list_any p rest → list_any p ((done ++ key ∷ []) ++ more) ≡ all
any-step p done rest more key all before here =
    ap (list_any p) (append_assoc done (key ∷ []) more) ∙ (list_any-append p done (key ∷ more)
    ∙ (ap (λ b. list_any p done || b) here ∙ (sym (list_any-append p done rest) ∙ before)))

-- one more key
pub keys-step : (done rest more all : List KeySum) (key : KeySum) → SameKeys (done ++ rest) all → SameKeys (key ∷ more) rest
    → SameKeys ((done ++ key ∷ []) ++ more) all
keys-step done rest more all key before here = record {
  values = λ value. any-step (λ key. int_eq key.value value) done rest more key (has_key all value) (before.values value) (here.values value);
  units = λ value. sum-step (λ key. if int_eq key.value value then key.units else 0) done rest more key (units_at all value)
      (before.units value) (here.units value);
  marks = λ value. sum-step (λ key. if int_eq key.value value then key.marks else 0) done rest more key (marks_at all value)
      (before.marks value) (here.marks value);
}

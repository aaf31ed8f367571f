-- Specs that are the same are equal, if their values ascend.
use Rattle.std.proofs.Common.{◌≡◌, true, ◌&&◌, ℕ, ◌<◌, inl, inr, List, [], ◌∷◌, slice_index, refl, ap, sym, ◌∙◌, arith, nat_cmp}
use Rattle.std.specs.Str.{bytes_eq}
use Rattle.std.specs.List.{AllByRecursion}
use Rattle.std.specs.List.Sorted.{IsStrictlySortedBy}
use Rattle.std.proofs.lemmas.Bool.{and_parts, and_from}
use Rattle.std.proofs.lemmas.Cmp.{ranked}
use Rattle.std.proofs.lemmas.Slice.Eq.{bytes_eq-Decides}
use Rattle.std.specs.declared.cmp.Ordering.TheVariants.{Less}
use Rattle.std.proofs.lemmas.Map.Keys.{IsStrictlyIncreasing-from_sorted}
use Rattle.bucket_ranges.specs.declared.spec.Spec.{Spec}
use Rattle.bucket_ranges.specs.declared.spec.Spec.TheVariants.{Linear, Boolean, Custom, Sparse}
use Rattle.bucket_ranges.specs.Spec.{spec_fields, spec_ranges, distinct_values}
use Rattle.bucket_ranges.proofs.Distinct.{Member, ascends-from, distinct-of_ascending}
use Rattle.reading_sums.specs.Totals.{Part, is_of, same_spec}
use Rattle.reading_sums.specs.Whole.{IsInForm}

member-above : (values : List ℕ) → AllByRecursion (λ y. nat_cmp 0 y ≡ Less) values → (y : ℕ) → Member y values → 0 < y
member-above [] above y m = absurd m
member-above (x ∷ xs) above y (inl e) = let here : 0 < x = ranked 0 x Less (sym above.0) in omega (arith, here, e)
member-above (x ∷ xs) above y (inr m) = member-above xs above.1 y m

-- values that ascend from 1 are their own distinct values
in-form : (values : List ℕ) → IsInForm (Custom values) → distinct_values values ≡ values
unfolding IsStrictlySortedBy
in-form values form =
    distinct-of_ascending values (ascends-from values (IsStrictlyIncreasing-from_sorted values form.1)) (member-above values form.0)

field : (a b : Spec) → spec_fields a ≡ spec_fields b → (i : ℕ) → slice_index (spec_fields a) i ≡ slice_index (spec_fields b) i
field a b same i = ap (λ (l : List ℕ). slice_index l i) same

equal-specs : (a b : Spec) → spec_fields a ≡ spec_fields b → spec_ranges a ≡ spec_ranges b → IsInForm a → IsInForm b → a ≡ b
equal-specs (Linear min max n) (Linear low high m) fields ranges one other =
    let first = field (Linear min max n) (Linear low high m) fields 1 in
    let second = field (Linear min max n) (Linear low high m) fields 2 in
    let third = field (Linear min max n) (Linear low high m) fields 3 in λ i. Linear (first i) (second i) (third i)
equal-specs (Linear min max n) Boolean fields ranges one other = let e = field (Linear min max n) Boolean fields 0 in absurd (omega (arith, e))
equal-specs (Linear min max n) (Custom others) fields ranges one other = let e = field (Linear min max n) (Custom others) fields 0 in absurd (omega (arith, e))
equal-specs (Linear min max n) Sparse fields ranges one other = let e = field (Linear min max n) Sparse fields 0 in absurd (omega (arith, e))
equal-specs Boolean (Linear low high m) fields ranges one other = let e = field Boolean (Linear low high m) fields 0 in absurd (omega (arith, e))
equal-specs Boolean Boolean fields ranges one other = refl
equal-specs Boolean (Custom others) fields ranges one other = let e = field Boolean (Custom others) fields 0 in absurd (omega (arith, e))
equal-specs Boolean Sparse fields ranges one other = let e = field Boolean Sparse fields 0 in absurd (omega (arith, e))
equal-specs (Custom values) (Linear low high m) fields ranges one other = let e = field (Custom values) (Linear low high m) fields 0 in absurd (omega (arith, e))
equal-specs (Custom values) Boolean fields ranges one other = let e = field (Custom values) Boolean fields 0 in absurd (omega (arith, e))
equal-specs (Custom values) (Custom others) fields ranges one other = ap Custom (sym (in-form values one) ∙ (ranges ∙ in-form others other))
equal-specs (Custom values) Sparse fields ranges one other = let e = field (Custom values) Sparse fields 0 in absurd (omega (arith, e))
equal-specs Sparse (Linear low high m) fields ranges one other = let e = field Sparse (Linear low high m) fields 0 in absurd (omega (arith, e))
equal-specs Sparse Boolean fields ranges one other = let e = field Sparse Boolean fields 0 in absurd (omega (arith, e))
equal-specs Sparse (Custom others) fields ranges one other = let e = field Sparse (Custom others) fields 0 in absurd (omega (arith, e))
equal-specs Sparse Sparse fields ranges one other = refl

-- a part of a name and a spec
pub record IsPartOf (of : List ℕ) (by : Spec) (part : Part) : Type 0 where
  pub name : part.name ≡ of
  pub fields : spec_fields part.spec ≡ spec_fields by
  pub ranges : spec_ranges part.spec ≡ spec_ranges by

pub is_of-true : (name : List ℕ) (spec : Spec) (part : Part) → is_of name spec part ≡ true → IsPartOf name spec part
is_of-true name spec part is =
    let parts = and_parts (bytes_eq part.name name) (same_spec part.spec spec) is in
    let specs = and_parts (bytes_eq (spec_fields part.spec) (spec_fields spec)) (bytes_eq (spec_ranges part.spec) (spec_ranges spec)) parts.1 in record {
      name = (bytes_eq-Decides part.name name).0 parts.0;
      fields = (bytes_eq-Decides (spec_fields part.spec) (spec_fields spec)).0 specs.0;
      ranges = (bytes_eq-Decides (spec_ranges part.spec) (spec_ranges spec)).0 specs.1;
    }

-- a part is of its own name and its own spec
pub is_of-itself : (part : Part) → is_of part.name part.spec part ≡ true
is_of-itself part =
    and_from (bytes_eq part.name part.name) (same_spec part.spec part.spec) ((bytes_eq-Decides part.name part.name).1 refl)
    (and_from (bytes_eq (spec_fields part.spec) (spec_fields part.spec)) (bytes_eq (spec_ranges part.spec) (spec_ranges part.spec))
    ((bytes_eq-Decides (spec_fields part.spec) (spec_fields part.spec)).1 refl) ((bytes_eq-Decides (spec_ranges part.spec) (spec_ranges part.spec)).1 refl))

-- what is of the name and the spec of such a part is of its own
pub is_of-moved : (name : List ℕ) (spec : Spec) (part other : Part) → IsPartOf name spec part → is_of name spec other ≡ is_of part.name part.spec other
is_of-moved name spec part other is = λ i.
    bytes_eq other.name (sym is.name i) && (bytes_eq (spec_fields other.spec) (sym is.fields i) && bytes_eq (spec_ranges other.spec) (sym is.ranges i))

-- its spec is this one, if both are in form
pub spec-is : (name : List ℕ) (spec : Spec) (part : Part) → IsPartOf name spec part → IsInForm part.spec → IsInForm spec → part.spec ≡ spec
spec-is name spec part is one other = equal-specs part.spec spec is.fields is.ranges one other

-- Custom specs are the same exactly if each has the other's values above 0.
use Rattle.std.proofs.Common.{◌≡◌, true, ◌||◌, ◌==◌, ℕ, ◌<◌, List, [], ◌∷◌, inl, inr, refl, sym, subst, arith}
use Rattle.std.specs.List.{list_any}
use Rattle.std.proofs.lemmas.Bool.{and_parts, and_from, or_cases, or_left, or_right, eqb-true, eq-eqb, cases_eq}
use Rattle.bucket_ranges.specs.Spec.{distinct_values, has_values}
use Rattle.bucket_ranges.proofs.Distinct.{Member, ascending-unique, distinct-ascends, distinct-member, member-distinct}

-- a value that is found among the others
found-member : (others : List ℕ) (y : ℕ) → list_any (λ other. other == y) others ≡ true → Member y others
found-member [] y e = absurd (cc)
found-member (x ∷ xs) y e = elim (or_cases (x == y) (list_any (λ other. other == y) xs) e) [
  | inl here ↦ inl (sym (eqb-true x y here))
  | inr later ↦ inr (found-member xs y later)
]

member-found : (others : List ℕ) (y : ℕ) → Member y others → list_any (λ other. other == y) others ≡ true
member-found [] y m = absurd m
member-found (x ∷ xs) y (inl e) = or_left (x == y) (list_any (λ other. other == y) xs) (eq-eqb x y (sym e))
member-found (x ∷ xs) y (inr m) = or_right (x == y) (list_any (λ other. other == y) xs) (member-found xs y m)

-- the test says that the values above 0 are members of the others
pub has_values-members : (others values : List ℕ) → has_values others values ≡ true
    → (y : ℕ) → Member y values → 0 < y → Member y others
has_values-members others [] e y m above = absurd m
has_values-members others (x ∷ xs) e y m above =
    let parts = and_parts ((x == 0) || list_any (λ other. other == x) others) (has_values others xs) e in
    elim m [
      | inl same ↦ elim (or_cases (x == 0) (list_any (λ other. other == x) others) parts.0) [
        | inl zero ↦ let none : x ≡ 0 = eqb-true x 0 zero in absurd (omega (arith, above, same, none))
        | inr found ↦ let P : ℕ → Type 0 = λ z. Member z others in subst P (sym same) (found-member others x found)
      ]
      | inr n ↦ has_values-members others xs parts.1 y n above
    ]

pub members-has_values : (others values : List ℕ) → ((y : ℕ) → Member y values → 0 < y → Member y others)
    → has_values others values ≡ true
members-has_values others [] to = refl
members-has_values others (x ∷ xs) to =
    and_from ((x == 0) || list_any (λ other. other == x) others) (has_values others xs)
    (elim (cases_eq x 0) [
      | inl zero ↦ or_left (x == 0) (list_any (λ other. other == x) others) (eq-eqb x 0 zero)
      | inr some ↦ or_right (x == 0) (list_any (λ other. other == x) others)
          (member-found others x (to x (inl refl) (omega (arith, some))))
    ])
    (members-has_values others xs (λ y m. to y (inr m)))

-- both ways, they are the same
pub same-distinct : (a b : List ℕ) → has_values b a ≡ true → has_values a b ≡ true → distinct_values a ≡ distinct_values b
same-distinct a b to from = ascending-unique (distinct_values a) (distinct_values b) (distinct-ascends a) (distinct-ascends b)
    (λ y m. let d = distinct-member a y m in member-distinct b y (has_values-members b a to y d.0 d.1) d.1)
    (λ y m. let d = distinct-member b y m in member-distinct a y (has_values-members a b from y d.0 d.1) d.1)

pub distinct-has_values : (a b : List ℕ) → distinct_values a ≡ distinct_values b → has_values b a ≡ true
distinct-has_values a b e = members-has_values b a
    (λ y m above. let P : List ℕ → Type 0 = λ ds. Member y ds in
    (distinct-member b y (subst P e (member-distinct a y m above))).0)

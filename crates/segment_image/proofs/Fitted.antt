-- The shape that is chosen for a number of words is valid, and loses few of them.
use Rattle.std.proofs.Common.{◌≡◌, Bool, true, false, not, ◌&&◌, nat_le, ℕ, zero, suc, ◌+◌, ◌*◌, ◌/◌, ◌%◌, ◌<◌, ◌≤◌, inl, inr, [], ◌∷◌, Result, Ok, IfOk, if◌then◌else◌, refl, sym, ap, subst, ◌∙◌, arith, eq-eqb}
use Rattle.std.proofs.lemmas.Bool.{cases_lt, le-leb}
use Rattle.std.proofs.Math.Nat.{mul-div-le, lt-div-mul-add, div-le_of_le-mul, mul-mod_left, mul-le-mul_left, mul-le-mul_right}
use Rattle.segment_image.specs.Checks.{checked}
use Rattle.segment_image.specs.declared.fault.ImageFault.{ImageFault}
use Rattle.segment_image.specs.declared.fault.ImageFault.TheVariants.{BadPage, BadSize}
use Rattle.segment_image.specs.Shape.{Dimensions, is_page, is_size, shape_checks}
use Rattle.segment_image.specs.Fitting.{fitted_pages, fitted_page, fitted}

-- how many pages there are
pages-some : (words : ℕ) → 0 < words → 1 ≤ fitted_pages words
pages-some words some = omega (arith, some)

pages-hold : (words : ℕ) → words ≤ fitted_pages words * 4096
pages-hold words = omega arith

pages-few : (words : ℕ) → 4096 < words → 2048 * fitted_pages words ≤ words
pages-few words more = omega (arith, more)

pages-one : (words : ℕ) → 0 < words → words ≤ 4096 → fitted_pages words ≡ 1
pages-one words some few = omega (arith, some, few)

-- the part of each
part-large : (words pages least : ℕ) → least * pages ≤ words → 1 ≤ pages → least ≤ words / pages
part-large words pages least le some = elim (cases_lt (words / pages) least) [
  | inl lt ↦
      let more : words / pages + 1 ≤ least = omega (arith, lt) in
      let near : words < words / pages * pages + pages = lt-div-mul-add (omega (arith, some)) in
      absurd (omega (arith, near, le, mul-le-mul_right pages more))
  | inr ge ↦ ge
]

part-small : (words pages : ℕ) → words ≤ pages * 4096 → words / pages ≤ 4096
part-small words pages le = div-le_of_le-mul pages le

pub page-small : (words : ℕ) → fitted_page words ≤ 4096
page-small words = omega (arith, part-small words (fitted_pages words) (pages-hold words))

pub page-large : (words : ℕ) → 4096 ≤ words → 2048 ≤ fitted_page words
page-large words many = elim (cases_lt 4096 words) [
  | inl more ↦
      omega (arith, part-large words (fitted_pages words) 2048 (pages-few words more) (pages-some words (omega (arith, many))))
  | inr few ↦
      let e : words ≡ 4096 = omega (arith, many, few) in
      let one = pages-one words (omega (arith, many)) few in
      omega (arith, part-large words (fitted_pages words) 4096 (omega (arith, one, many)) (omega (arith, one)))
]

pub page-least : (words : ℕ) → 64 ≤ words → 64 ≤ fitted_page words
page-least words many = elim (cases_lt words 4096) [
  | inl few ↦
      let one = pages-one words (omega (arith, many)) (omega (arith, few)) in
      omega (arith, part-large words (fitted_pages words) 64 (omega (arith, one, many)) (omega (arith, one)))
  | inr more ↦ omega (arith, page-large words more)
]

-- ---- the words of the segment

pub size-most : (words : ℕ) → fitted_pages words * fitted_page words ≤ words
size-most words =
    let part = words / fitted_pages words in
    let rounded : fitted_page words ≤ words / fitted_pages words = omega arith in
    omega (arith, mul-div-le words (fitted_pages words), mul-le-mul_left (fitted_pages words) rounded)

pub size-near : (words : ℕ) → 0 < words → words < fitted_pages words * fitted_page words + 16 * fitted_pages words
size-near words some =
    let rounded : words / fitted_pages words + 1 ≤ fitted_page words + 16 = omega arith in
    let near : words < words / fitted_pages words * fitted_pages words + fitted_pages words =
    lt-div-mul-add (omega (arith, pages-some words some)) in
    omega (arith, near, mul-le-mul_right (fitted_pages words) rounded)

pub size-one : (words : ℕ) → 0 < words → words ≤ 4096 → fitted_pages words * fitted_page words ≡ fitted_page words
size-one words some few = omega (arith, ap (λ n. n * fitted_page words) (pages-one words some few))

page-in_size : (pages page : ℕ) → 1 ≤ pages → page ≤ pages * page
page-in_size zero page some = absurd (omega (arith, some))
page-in_size (suc pages) page some = omega arith

-- ---- the shape is valid

passes : (a b c d e f : Bool) → a ≡ true → b ≡ true → c ≡ true → d ≡ true → e ≡ true → f ≡ true
    → (a && b && c ≡ true) × (d && e && f ≡ true)
passes true true true true true true a b c d e f = (refl, refl)
passes false x y z u v a b c d e f = absurd (cc)
passes true false y z u v a b c d e f = absurd (cc)
passes true true false z u v a b c d e f = absurd (cc)
passes true true true false u v a b c d e f = absurd (cc)
passes true true true true false v a b c d e f = absurd (cc)
passes true true true true true false a b c d e f = absurd (cc)

pub fitted-page : (words : ℕ) → 64 ≤ words → is_page (fitted_page words) ≡ true
fitted-page words many =
    (passes _ _ _ _ _ _ (le-leb 64 (fitted_page words) (page-least words many))
    (le-leb (fitted_page words) 65536 (omega (arith, page-small words)))
    (eq-eqb (fitted_page words % 16) 0 (mul-mod_left (words / fitted_pages words / 16) 16)) refl refl refl).0

pub fitted-size : (words : ℕ) → 64 ≤ words → words ≤ 1048576
    → is_size (fitted_pages words * fitted_page words) (fitted_page words) ≡ true
fitted-size words many few =
    (passes _ _ _ _ _ _
    (le-leb (fitted_page words) (fitted_pages words * fitted_page words)
    (page-in_size (fitted_pages words) (fitted_page words) (pages-some words (omega (arith, many)))))
    (le-leb (fitted_pages words * fitted_page words) 1048576 (omega (arith, size-most words, few)))
    (eq-eqb (fitted_pages words * fitted_page words % fitted_page words) 0
    (mul-mod_left (fitted_pages words) (fitted_page words))) refl refl refl).0

checks-pass : (size page : ℕ) (shape : Dimensions) (a b : Bool) → a ≡ true → b ≡ true → is_page page ≡ a → is_size size page ≡ b
    → checked (shape_checks size page) shape ≡ Ok shape
checks-pass size page shape true true a b is-page is-size = by (is_page page) (is_size size page) is-page is-size
  where
    by : (a b : Bool) → a ≡ true → b ≡ true → checked ((not a, BadPage) ∷ (not b, BadSize) ∷ []) shape ≡ Ok shape
    by true true a b = refl
    by false b a c = absurd (cc)
    by true false a c = absurd (cc)
checks-pass size page shape false b a c is-page is-size = absurd (cc)
checks-pass size page shape true false a c is-page is-size = absurd (cc)

-- the shape of this many pages
abbrev pub of_pages : ℕ → ℕ → Dimensions
of_pages words pages = record { size = pages * (words / pages / 16 * 16); page = words / pages / 16 * 16 }

pub fitted-is : (words pages : ℕ) → pages ≡ fitted_pages words → 64 ≤ words → words ≤ 1048576 → (result : Result Dimensions ImageFault)
    → result ≡ checked (shape_checks (of_pages words pages).size (of_pages words pages).page) (of_pages words pages)
    → result ≡ Ok (fitted words)
fitted-is words pages is many few result made =
    subst (λ p. result ≡ checked (shape_checks (of_pages words p).size (of_pages words p).page) (of_pages words p)) is made
    ∙ checks-pass (fitted_pages words * fitted_page words) (fitted_page words) (fitted words) true true refl refl
    (fitted-page words many) (fitted-size words many few)

both : (a b : Bool) → a ≡ true → b ≡ true → (a && b) ≡ true
both true true a b = refl
both false b a c = absurd (cc)
both true false a c = absurd (cc)

pub in_range : (words : ℕ) → 64 ≤ words → words ≤ 1048576 → (nat_le 64 words && nat_le words 1048576) ≡ true
in_range words many few =
    both (nat_le 64 words) (nat_le words 1048576) (le-leb 64 words many) (le-leb words 1048576 few)

pub if-true : (b : Bool) (x y : Result Dimensions ImageFault) → b ≡ true → (if b then x else y) ≡ x
if-true true x y is = refl
if-true false x y is = absurd (cc)

pub fitted-most : (words : ℕ) (result : Result Dimensions ImageFault) → 64 ≤ words → result ≡ Ok (fitted words)
    → IfOk result (λ shape. (shape.size ≤ words) × (words < shape.size + 16 * fitted_pages words))
fitted-most words result many is =
    subst (λ r. IfOk r (λ shape. (shape.size ≤ words) × (words < shape.size + 16 * fitted_pages words))) (sym is)
    (size-most words, size-near words (omega (arith, many)))

pub fitted-pages : (words : ℕ) (result : Result Dimensions ImageFault) → 64 ≤ words → result ≡ Ok (fitted words)
    → IfOk result (λ shape. (4096 ≤ words → 2048 ≤ shape.page) × (words ≤ 4096 → shape.size ≡ shape.page))
fitted-pages words result many is =
    subst (λ r. IfOk r (λ shape. (4096 ≤ words → 2048 ≤ shape.page) × (words ≤ 4096 → shape.size ≡ shape.page))) (sym is)
    (page-large words, size-one words (omega (arith, many)))

-- Runs of words, and the marks of those that are taken.
use Rattle.std.proofs.Common.{◌≡◌, Bool, true, false, ℕ, ◌+◌, ◌<◌, ◌≤◌, List, [], ◌∷◌, ◌++◌, length, get_or, take, inl, inr, ◌⊎◌, sym, ap, subst, ◌∙◌, arith, true≢false}
use Rattle.std.specs.Prelude.{Decides, nat_le, nat_lt}
use Rattle.std.specs.List.{list_any}
use Rattle.std.proofs.lemmas.Bool.{and_parts, and_from, cases_Bool, cases_lt, le-leb, leb-true, lt-ltb, ltb-true}
use Rattle.std.proofs.lemmas.List.{get_or-take, length-take}
use Rattle.std.proofs.lemmas.List.Folds.{Any-from_list_any, list_any_at}
use mathlib.Core.Option.{some}
use lib.ListN.{get_elem?}
use Rattle.segment_image.specs.Blocks.{field_at}
use Rattle.alloc_core.specs.Laws.{Apart}
use Rattle.list_lemmas.proofs.Elements.{at_snoc_index, below_length, index_at}
use Rattle.list_lemmas.proofs.Pairs.{element_at}
use Rattle.image_rules.specs.Adoption.{run_at}
use Rattle.image_adoption.specs.Conditions.{AreApart}
use Rattle.image_adoption.specs.Runs.{is_in}

pub in_decides : (at size word : ℕ) → Decides (is_in at size word) ((at ≤ word) × (word < at + size))
in_decides at size word = (to, from)
  where
    to : is_in at size word ≡ true → (at ≤ word) × (word < at + size)
    to inside = let parts = and_parts (nat_le at word) (nat_lt word (at + size)) inside in (leb-true at word parts.0, ltb-true word (at + size) parts.1)

    from : (at ≤ word) × (word < at + size) → is_in at size word ≡ true
    from (least, below) = and_from _ _ (le-leb at word least) (lt-ltb word (at + size) below)

-- ---- the runs of blocks

abbrev pub covered : List ℕ → List ℕ → ℕ → Bool
covered words blocks word = list_any (λ at. is_in at (field_at words at 0) word) blocks

-- two runs with a word in common are not apart
pub common : (a s b t word : ℕ) → is_in a s word ≡ true → is_in b t word ≡ true → Apart (a, s) (b, t) → ⊥
common a s b t word in_a in_b (inl before) = let x = (in_decides a s word).0 in_a in let y = (in_decides b t word).0 in_b in omega (arith, x, y, before)
common a s b t word in_a in_b (inr behind) = let x = (in_decides a s word).0 in_a in let y = (in_decides b t word).0 in_b in omega (arith, x, y, behind)

-- two runs of some words with none in common are
pub apart_of : (a s b t : ℕ) → 1 ≤ s → 1 ≤ t → ((word : ℕ) → is_in b t word ≡ true → is_in a s word ≡ true → ⊥) → Apart (a, s) (b, t)
apart_of a s b t long wide none = elim (cases_lt b (a + s)) [
  | inr before ↦ inl before
  | inl over ↦ elim (cases_lt a (b + t)) [
    | inr behind ↦ inr behind
    | inl also ↦ elim (cases_lt a b) [
      | inl first ↦ absurd (none b ((in_decides b t b).1 (omega arith, omega (arith, wide))) ((in_decides a s b).1 (omega (arith, first), over)))
      | inr later ↦ absurd (none a ((in_decides b t a).1 (later, also)) ((in_decides a s a).1 (omega arith, omega (arith, long))))
    ]
  ]
]

-- one more block, of which no word is covered
pub apart_push : (words blocks : List ℕ) (b : ℕ) → ((i a : ℕ) → get_elem? blocks i ≡ some a → 1 ≤ field_at words a 0) → 1 ≤ field_at words b 0
    → AreApart words blocks → ((word : ℕ) → is_in b (field_at words b 0) word ≡ true → covered words blocks word ≡ false)
    → AreApart words (blocks ++ b ∷ [])
apart_push words blocks b long wide apart free i j x y before here there =
    by_places (at_snoc_index blocks b x i here) (at_snoc_index blocks b y j there)
  where
    by_places : (get_elem? blocks i ≡ some x) ⊎ ((i ≡ length blocks) × (b ≡ x)) → (get_elem? blocks j ≡ some y) ⊎ ((j ≡ length blocks) × (b ≡ y))
        → Apart (run_at words x) (run_at words y)
    by_places (inl one) (inl two) = apart i j x y before one two
    by_places (inl one) (inr (place, is)) =
        subst (λ (y : ℕ). Apart (run_at words x) (run_at words y)) is
        (apart_of x (field_at words x 0) b (field_at words b 0) (long i x one) wide
        (λ word in_b in_x. true≢false
        (sym (list_any_at (λ at. is_in at (field_at words at 0) word) blocks i 0 (below_length blocks i x one)
        (ap (λ (at : ℕ). is_in at (field_at words at 0) word) (index_at blocks i x 0 one) ∙ in_x)) ∙ free word in_b)))
    by_places (inr (place, is)) (inl two) = let below = below_length blocks j y two in absurd (omega (arith, before, place, below))
    by_places (inr (place, is)) (inr (other, also)) = absurd (omega (arith, before, place, other))

-- if blocks are apart, no word of the next one is covered by those before it
pub apart_clear : (words blocks : List ℕ) (n : ℕ) → n < length blocks → AreApart words blocks
    → (word : ℕ) → is_in (get_or blocks n 0) (field_at words (get_or blocks n 0) 0) word ≡ true → covered words (take n blocks) word ≡ false
apart_clear words blocks n below apart word inside = elim (cases_Bool (covered words (take n blocks) word)) [
  | inr clear ↦ clear
  | inl found ↦
      let (k, x, within, is, in_x) = Any-from_list_any (λ at. is_in at (field_at words at 0) word) (take n blocks) found in
      let first : k < n = omega (arith, within, length-take n blocks) in
      let here : get_or blocks k x ≡ x = sym (get_or-take n blocks k x first) ∙ is in
      absurd (common x (field_at words x 0) (get_or blocks n 0) (field_at words (get_or blocks n 0) 0) word in_x inside
      (apart k n x (get_or blocks n 0) first (element_at blocks k x (omega (arith, first, below)) ∙ ap some here) (element_at blocks n 0 below)))
]

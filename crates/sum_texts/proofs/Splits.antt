-- Lines that are cut at their commas, and texts that are cut at their line feeds.
use Rattle.std.proofs.Common.{◌≡◌, ◌∙◌, ℕ, zero, suc, ◌<◌, ◌≤◌, ◌^◌, ◌==◌, true, false, eqb, ℤ, pos, negsuc, List, [], ◌∷◌, map, codes, FitsSigned, ap, sym, arith, rules}
use Rattle.std.specs.Fmt.{decimal, signed_decimal}
use Rattle.std.specs.Int.{w128, w32}
use Rattle.std.specs.List.{All, AllByRecursion, slice_split, join_with_byte}
use Rattle.std.specs.Str.Parse.{AllDigits}
use Rattle.std.proofs.lemmas.Bool.Decides.{nat_tests}
use Rattle.std.proofs.lemmas.Fmt.{decimal_is_IsNumeral_wide}
use Rattle.std.proofs.lemmas.List.Splits.{slice_split_none, slice_split_at, join_with_byte-slice_split}
use Rattle.std.proofs.lemmas.Str.Parse.{tells_digits}
use Rattle.reading_texts.specs.Text.{kind_word}
use Rattle.bucket_ranges.specs.declared.spec.Spec.{Spec}
use Rattle.bucket_ranges.specs.declared.spec.Spec.TheVariants.{Linear, Boolean, Custom, Sparse}
use Rattle.sum_texts.specs.Lines.{line_bytes}

-- a byte is not in a text
abbrev pub Lacks : ℕ → List ℕ → Type 0
Lacks c text = AllByRecursion (λ b. eqb b c ≡ false) text

-- what holds of each element, by its index
pub to_all : {X : Type 0} (P : X → Type 0) (xs : List X) → AllByRecursion P xs → All P xs
to_all P [] all k d within = absurd (omega arith)
to_all P (x ∷ xs) all zero d within = all.0
to_all P (x ∷ xs) all (suc k) d within = to_all P xs all.1 k d (omega arith)

-- ---- cuts

-- fields that lack a byte, joined by it and cut at it
pub split_joined : (c : ℕ) (first : List ℕ) (rest : List (List ℕ)) → AllByRecursion (Lacks c) (first ∷ rest)
    → slice_split (λ b. eqb b c) (join_with_byte c (first ∷ rest)) ≡ first ∷ rest
split_joined c first [] all = slice_split_none (λ b. eqb b c) first (to_all (λ b. eqb b c ≡ false) first all.0)
split_joined c first (next ∷ rest) all =
    slice_split_at (λ b. eqb b c) first c (join_with_byte c (next ∷ rest)) (to_all (λ b. eqb b c ≡ false) first all.0) (same c)
    ∙ ap (λ s. first ∷ s) (split_joined c next rest all.1)
  where
    same : (c : ℕ) → eqb c c ≡ true
    same c = grind (arith, nat_tests)

-- what a line says that is cut into these fields
pub said : (line : List ℕ) (fields texts : List (List ℕ)) → fields ≡ slice_split (λ b. b == 44) line → fields ≡ texts → line ≡ line_bytes texts
said line fields texts cut is = sym (join_with_byte-slice_split 44 line) ∙ ap (join_with_byte 44) (sym cut ∙ is)

-- the fields of a line that says these, once it is cut
pub unsaid : (line : List ℕ) (fields : List (List ℕ)) (first : List ℕ) (rest : List (List ℕ)) → AllByRecursion (Lacks 44) (first ∷ rest)
    → fields ≡ slice_split (λ b. b == 44) line → line ≡ line_bytes (first ∷ rest) → fields ≡ first ∷ rest
unsaid line fields first rest lacks cut is = cut ∙ (ap (slice_split (λ b. b == 44)) is ∙ split_joined 44 first rest lacks)

-- ---- what numbers and words lack

-- a greater byte is another
pub above : (b c : ℕ) → c < 45 → 45 ≤ b → eqb b c ≡ false
above b c small great = grind (arith, nat_tests)

lacks_digits : (c : ℕ) (digits : List ℕ) → c < 45 → AllDigits 10 digits → Lacks c digits
lacks_digits c [] small all = tt
lacks_digits c (digit ∷ digits) small all =
    let parts = tells_digits.parts digit digits all in
    (above digit c small (omega (arith, parts.0)), lacks_digits c digits small parts.1)

pub lacks_decimal : (c n : ℕ) → c < 45 → n < 2 ^ 128 → Lacks c (decimal n)
lacks_decimal c n small fits = lacks_digits c (decimal n) small (decimal_is_IsNumeral_wide n (omega arith)).0.1

pub lacks_signed : (c : ℕ) (z : ℤ) → c < 45 → FitsSigned w128 z → Lacks c (signed_decimal z)
lacks_signed c (pos n) small fits = lacks_decimal c n small (omega arith)
lacks_signed c (negsuc n) small fits = (above 45 c small (omega arith), lacks_decimal c (suc n) small (omega arith))

pub lacks_small_signed : (c : ℕ) (z : ℤ) → c < 45 → FitsSigned w32 z → Lacks c (signed_decimal z)
lacks_small_signed c (pos n) small fits = lacks_decimal c n small (omega arith)
lacks_small_signed c (negsuc n) small fits = (above 45 c small (omega arith), lacks_decimal c (suc n) small (omega arith))

-- a word of great bytes
pub lacks_word : (c : ℕ) (word : List ℕ) → c < 45 → AllByRecursion (λ b. 45 ≤ b) word → Lacks c word
lacks_word c [] small all = tt
lacks_word c (b ∷ word) small all = (above b c small all.0, lacks_word c word small all.1)

-- the word for a kind
pub lacks_kind : (c : ℕ) (spec : Spec) → c < 45 → Lacks c (kind_word spec)
lacks_kind c (Linear min max n) small = lacks_word c (codes "linear") small (search rules)
lacks_kind c Boolean small = lacks_word c (codes "boolean") small (search rules)
lacks_kind c (Custom values) small = lacks_word c (codes "custom") small (search rules)
lacks_kind c Sparse small = lacks_word c (codes "sparse") small (search rules)

-- numbers as fields
pub lacks_numbers : (c : ℕ) (numbers : List ℕ) → c < 45 → AllByRecursion (λ number. number < 2 ^ 32) numbers → AllByRecursion (Lacks c) (map decimal numbers)
lacks_numbers c [] small all = tt
lacks_numbers c (number ∷ numbers) small all = (lacks_decimal c number small (omega (arith, all.0)), lacks_numbers c numbers small all.1)

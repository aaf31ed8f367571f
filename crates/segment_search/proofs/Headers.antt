-- What a valid header says of the words, and when there is none.
use Rattle.std.proofs.Common.{◌≡◌, ◌≢◌, ◌⊎◌, inl, inr, Bool, true, false, not, ◌&&◌, ◌==◌, is_ok, ℕ, ◌<◌, ◌≤◌, ◌%◌, List, [], ◌∷◌, ◌++◌, length, take, Option, None, Some, IfSome, append-nil, subst, refl, sym, ap, ◌∙◌, arith}
use Rattle.std.specs.Prelude.{nat_le}
use Rattle.std.specs.List.{AllByRecursion}
use Rattle.std.proofs.lemmas.Bool.{not-false, or_parts, and_parts, leb-true, ltb-false, eqb-true, false_from_ne_true}
use Rattle.std.proofs.lemmas.List.{get_or-take, length-take, take-append-le, get_or_append_left}
use Rattle.std.specs.Io.KnownBytes.{IsAtEnd, Keeps}
use Rattle.segment_image.specs.Checks.{checked}
use Rattle.segment_image.specs.Words.{word_at}
use Rattle.segment_image.specs.Shape.{is_size}
use Rattle.segment_image.specs.Head.{header_of, header_checks, head_of}
use Rattle.segment_search.specs.Places.{said_words, words_in, ahead}

-- if checks give a value, none of them fails
passed : {F X : Type 0} (checks : List (Bool × F)) (x : X) → is_ok (checked checks x) ≡ true → AllByRecursion (λ check. check.0 ≡ false) checks
passed [] x e = tt
passed ((true, fault) ∷ rest) x e = absurd (cc)
passed ((false, fault) ∷ rest) x e = (refl, passed rest x e)

-- what a valid header says of its words
pub record IsLawful (words : List ℕ) : Type 0 where
  pub long : 16 ≤ length words
  pub cookie : word_at words 0 ≡ 1082328540
  pub size : word_at words 2 ≡ length words
  pub few : length words ≤ 1048576

pub IsLawful-from_header : (words : List ℕ) → is_ok (header_of words) ≡ true → IsLawful words
IsLawful-from_header words e =
    let p = passed (header_checks words) (head_of words) e in
    let sized = or_parts (not (word_at words 2 == length words)) (not (is_size (word_at words 2) (word_at words 3))) p.1.1.1.1.0 in
    let size : word_at words 2 ≡ length words = eqb-true (word_at words 2) (length words) (not-false (word_at words 2 == length words) sized.0) in
    let parts = and_parts (nat_le (word_at words 3) (word_at words 2) && nat_le (word_at words 2) 1048576) (word_at words 2 % word_at words 3 == 0)
    (not-false (is_size (word_at words 2) (word_at words 3)) sized.1) in
    let most : word_at words 2 ≤ 1048576 = leb-true (word_at words 2) 1048576
    (and_parts (nat_le (word_at words 3) (word_at words 2)) (nat_le (word_at words 2) 1048576) parts.0).1 in
    record {
      long = ltb-false (length words) 16 p.0;
      cookie = eqb-true (word_at words 0) 1082328540 (not-false (word_at words 0 == 1082328540) p.1.0);
      size = size;
      few = omega (arith, size, most);
    }

-- what words say at the beginning of a segment
pub record Begins (words : List ℕ) : Type 0 where
  pub long : 16 ≤ length words
  pub cookie : word_at words 0 ≡ 1082328540
  pub few : word_at words 2 ≤ 1048576
  pub there : word_at words 2 ≤ length words

pub Begins-from_header : (words : List ℕ) → is_ok (header_of (said_words words)) ≡ true → Begins words
Begins-from_header words e =
    let lawful = IsLawful-from_header (said_words words) e in
    let n = word_at words 2 in
    let long = lawful.long in
    let cut = length-take n words in
    let first : word_at (take n words) 0 ≡ word_at words 0 = get_or-take n words 0 0 (omega (arith, long, cut)) in
    let third : word_at (take n words) 2 ≡ word_at words 2 = get_or-take n words 2 0 (omega (arith, long, cut)) in
    let size = lawful.size in
    let few = lawful.few in
    record {
      long = omega (arith, long, cut);
      cookie = sym first ∙ lawful.cookie;
      few = omega (arith, third, size, few);
      there = omega (arith, third, size, cut);
    }

-- there is no segment if the first words say so
pub none-from_first : (front more : List ℕ) → 16 ≤ length front → (word_at front 0 ≢ 1082328540) ⊎ (1048576 < word_at front 2)
    → is_ok (header_of (said_words (front ++ more))) ≡ false
none-from_first front more long (inl other) = false_from_ne_true _ (λ e. other
    (sym (get_or_append_left front more 0 0 (omega (arith, long))) ∙ (Begins-from_header (front ++ more) e).cookie))
none-from_first front more long (inr many) = false_from_ne_true _ (λ e. let few = (Begins-from_header (front ++ more) e).few in
    let same : word_at (front ++ more) 2 ≡ word_at front 2 = get_or_append_left front more 0 2 (omega (arith, long)) in
    omega (arith, few, same, many))

-- there is none if words are missing
pub none-from_short : (words : List ℕ) → (length words < 16) ⊎ (length words < word_at words 2) → is_ok (header_of (said_words words)) ≡ false
none-from_short words (inl short) = false_from_ne_true _ (λ e. let long = (Begins-from_header words e).long in omega (arith, long, short))
none-from_short words (inr short) = false_from_ne_true _ (λ e. let there = (Begins-from_header words e).there in omega (arith, there, short))

-- the words that a segment has are those that its valid header says
pub said_words-from_header : (front more : List ℕ) (n : ℕ) → n ≤ length front → is_ok (header_of (take n front)) ≡ true → said_words (front ++ more) ≡ take n front
said_words-from_header front more n there e =
    let lawful = IsLawful-from_header (take n front) e in
    let long = lawful.long in
    let cut = length-take n front in
    let third : word_at (take n front) 2 ≡ word_at front 2 = get_or-take n front 2 0 (omega (arith, long, cut)) in
    let same : word_at (front ++ more) 2 ≡ word_at front 2 = get_or_append_left front more 0 2 (omega (arith, long, cut, there)) in
    let size = lawful.size in
    let said : word_at (front ++ more) 2 ≡ n = omega (arith, third, same, size, cut, there) in
    ap (λ k. take k (front ++ more)) said ∙ take-append-le n front more there

-- the same for the words ahead, some of which a reader still has
pub none-ahead_first : (front : List ℕ) (left : Option (List ℕ)) → 16 ≤ length front → (word_at front 0 ≢ 1082328540) ⊎ (1048576 < word_at front 2)
    → IfSome (ahead front left) (λ words. is_ok (header_of (said_words words)) ≡ false)
none-ahead_first front None long other = tt
none-ahead_first front (Some rest) long other = none-from_first front (words_in rest) long other

pub none-ahead_short : (front now : List ℕ) (left after : Option (List ℕ)) (n : ℕ) → Keeps (ahead front left) (ahead now after) → 16 ≤ length front
    → n ≡ word_at front 2 → length now < n → IsAtEnd after → IfSome (ahead front left) (λ words. is_ok (header_of (said_words words)) ≡ false)
none-ahead_short front now None after n kept long size short end = tt
none-ahead_short front now (Some rest) None n kept long size short end = absurd kept
none-ahead_short front now (Some rest) (Some more) n kept long size short end =
    let words = front ++ words_in rest in
    let all : now ≡ words = sym (append-nil now) ∙ ap (λ l. now ++ words_in l) (sym end) ∙ kept in
    let few : length words < n = subst (λ (l : List ℕ). length l < n) all short in
    let said : word_at words 2 ≡ n = get_or_append_left front (words_in rest) 0 2 (omega (arith, long)) ∙ sym size in
    none-from_short words (inr (omega (arith, few, said)))

pub none-ahead_faulty : (front now : List ℕ) (left after : Option (List ℕ)) (n : ℕ) → Keeps (ahead front left) (ahead now after) → 16 ≤ length front
    → n ≡ word_at front 2 → n ≤ length now → is_ok (header_of (take n now)) ≡ false
    → IfSome (ahead front left) (λ words. is_ok (header_of (said_words words)) ≡ false)
none-ahead_faulty front now None after n kept long size there faulty = tt
none-ahead_faulty front now (Some rest) None n kept long size there faulty = absurd kept
none-ahead_faulty front now (Some rest) (Some more) n kept long size there faulty =
    let words = front ++ words_in rest in
    let said : word_at words 2 ≡ n = get_or_append_left front (words_in rest) 0 2 (omega (arith, long)) ∙ sym size in
    let same : said_words words ≡ take n now = ap (λ k. take k words) said ∙ ap (take n) (sym kept) ∙ take-append-le n now (words_in more) there in
    ap (λ l. is_ok (header_of l)) same ∙ faulty

-- What each kind of event of an allocation does to a layout. A machine with more kinds of events cites these.
use Rattle.std.proofs.Common.{◌≡◌, ◌≢◌, ℕ, zero, suc, ◌+◌, ◌-◌, ◌<◌, ◌≤◌, Bool, true, eq-eqb, ne_eqb, List, ◌∷◌, length, replicate, set, sym, refl, ap, ◌∙◌, subst, arith}
use Rattle.std.specs.Prelude.{if◌then◌else◌}
use Rattle.std.proofs.lemmas.List.{length-replicate}
use mathlib.Core.Option.{some, some-injective, some-ne-none}
use lib.ListN.{get_elem?}
use lib.Seq.{set-get_or}
use Rattle.segment_image.specs.Shape.{Dimensions}
use Rattle.segment_image.specs.Words.{word_at}
use Rattle.alloc_core.specs.Layout.{Block, Layout, free_of, IsShown, put, grown}
use Rattle.alloc_core.specs.Event.{load_flags, load_free, exchange_free, store_size, store_cookie, store_type, store_payload, set_flag, after}
use Rattle.alloc_core.specs.Alloc.{IsRise}
use Rattle.alloc_core.specs.Laws.{own, claimed_words}
use Rattle.alloc_core.proofs.Layouts.{shown_put, shown_grown, shown_corrupt, shown_full, free_word}

-- a raw block after its size is stored, and after its cookie is
abbrev pub sized : ℕ → List ℕ
sized size = size ∷ replicate (size - 1) 0

abbrev pub marked : ℕ → ℕ → List ℕ
marked size cookie = size ∷ cookie ∷ replicate (size - 2) 0

pub length-sized : (size : ℕ) → 5 ≤ size → length (sized size) ≡ size
length-sized size five = omega (arith, length-replicate {A = ℕ} (size - 1) 0, five)

pub length-marked : (size cookie : ℕ) → 5 ≤ size → length (marked size cookie) ≡ size
length-marked size cookie five = omega (arith, length-replicate {A = ℕ} (size - 2) 0, five)

pub length-claimed : (size tag : ℕ) → 5 ≤ size → length (claimed_words size tag) ≡ size
length-claimed size tag five = omega (arith, length-replicate {A = ℕ} (size - 3) 0, five)

-- the first three words of zeros, one after the other
first_zero : (n v : ℕ) → 0 < n → set (replicate n 0) 0 v ≡ v ∷ replicate (n - 1) 0
first_zero zero v h = absurd (omega arith)
first_zero (suc n) v h = ap (λ (m : ℕ). v ∷ replicate m 0) (omega arith)

second_zero : (n v : ℕ) → 1 < n → set (n ∷ replicate (n - 1) 0) 1 v ≡ n ∷ v ∷ replicate (n - 2) 0
second_zero n v h =
    let less : n - 1 - 1 ≡ n - 2 = omega arith in
    ap (λ (l : List ℕ). n ∷ l) (first_zero (n - 1) v (omega arith) ∙ ap (λ (m : ℕ). v ∷ replicate m 0) less)

third_zero : (n c v : ℕ) → 2 < n → set (n ∷ c ∷ replicate (n - 2) 0) 2 v ≡ n ∷ c ∷ v ∷ replicate (n - 3) 0
third_zero n c v h =
    let less : n - 2 - 1 ≡ n - 3 = omega arith in
    ap (λ (l : List ℕ). n ∷ c ∷ l) (first_zero (n - 2) v (omega arith) ∙ ap (λ (m : ℕ). v ∷ replicate m 0) less)

-- a load leaves the words as they are
pub flags_loaded : (words : List ℕ) → after load_flags words ≡ words
flags_loaded words = set-get_or words 6 0

pub free_loaded : (words : List ℕ) → after load_free words ≡ words
free_loaded words = set-get_or words 7 0

-- so does an exchange that finds another free pointer
pub free_kept : (words : List ℕ) (old new : ℕ) → word_at words 7 ≢ old → after (exchange_free old new) words ≡ words
free_kept words old new other =
    ap (λ (b : Bool). set words 7 (if b then new else word_at words 7)) (ne_eqb (word_at words 7) old other) ∙ set-get_or words 7 0

-- one that finds the old one makes a block
pub free_exchanged : (shape : Dimensions) (words : List ℕ) (layout : Layout) (owner old new : ℕ) → IsShown shape words layout
    → word_at words 7 ≡ old → IsRise shape old new → IsShown shape (after (exchange_free old new) words) (grown layout owner (new - old))
free_exchanged shape words layout owner old new shown hit up =
    let is : old ≡ free_of layout = sym hit ∙ free_word shape words layout shown in
    let made = shown_grown shape words layout owner new shown (subst (λ (n : ℕ). IsRise shape n new) is up) in
    let through : set words 7 new ≡ after (exchange_free old new) words =
    ap (λ (b : Bool). set words 7 (if b then new else word_at words 7)) (sym (eq-eqb (word_at words 7) old hit)) in
    subst (λ (p : List ℕ × ℕ). IsShown shape p.0 (grown layout owner (new - p.1))) (λ i. (through i, sym is i)) made

-- a flag that is set: corrupt, and full
pub corrupt_set : (shape : Dimensions) (words : List ℕ) (layout : Layout) → IsShown shape words layout
    → IsShown shape (after (set_flag 1) words) (record layout { corrupt = true })
corrupt_set = shown_corrupt

pub full_set : (shape : Dimensions) (words : List ℕ) (layout : Layout) → IsShown shape words layout
    → IsShown shape (after (set_flag 2) words) (record layout { full = true })
full_set = shown_full

-- a word of somebody's own block is stored
own_put : (shape : Dimensions) (words : List ℕ) (layout : Layout) (owner at k : ℕ) (ws ws' : List ℕ) (i j v : ℕ) → IsShown shape words layout
    → get_elem? layout.blocks k ≡ some (own owner at ws) → i ≡ at + j → j < length ws → ws' ≡ set ws j v
    → IsShown shape (set words i v) (put layout k (own owner at ws'))
own_put shape words layout owner at k ws ws' i j v shown there place lt is =
    let b : Block = own owner at ws in
    let other : k ≢ 0 = λ (z : k ≡ 0). absurd (some-ne-none owner (ap (λ (x : Block). x.owner)
    (some-injective b _ (sym there ∙ (ap (get_elem? layout.blocks) z ∙ shown.sound.queue.1))))) in
    subst (λ (m : ℕ). IsShown shape (set words m v) (put layout k (own owner at ws'))) (sym place)
    (shown_put shape words layout k b (own owner at ws') j v shown there other lt is refl)

module _ (shape : Dimensions) (words : List ℕ) (layout : Layout) (owner at size : ℕ) where
  pub size_stored : (k : ℕ) → IsShown shape words layout → get_elem? layout.blocks k ≡ some (own owner at (replicate size 0)) → 5 ≤ size
      → IsShown shape (after (store_size at size) words) (put layout k (own owner at (sized size)))
  size_stored k shown there five =
      own_put shape words layout owner at k (replicate size 0) (sized size) at 0 size shown there (omega arith)
      (omega (arith, length-replicate {A = ℕ} size 0, five)) (sym (first_zero size size (omega (arith, five))))

  pub cookie_stored : (cookie k : ℕ) → IsShown shape words layout → get_elem? layout.blocks k ≡ some (own owner at (sized size)) → 5 ≤ size
      → IsShown shape (after (store_cookie at cookie) words) (put layout k (own owner at (marked size cookie)))
  cookie_stored cookie k shown there five =
      own_put shape words layout owner at k (sized size) (marked size cookie) (at + 1) 1 cookie shown there refl
      (omega (arith, length-sized size five, five)) (sym (second_zero size cookie (omega (arith, five))))

  pub type_stored : (tag k : ℕ) → IsShown shape words layout → get_elem? layout.blocks k ≡ some (own owner at (marked size 0xC8799269)) → 5 ≤ size
      → IsShown shape (after (store_type at tag) words) (put layout k (own owner at (claimed_words size tag)))
  type_stored tag k shown there five =
      own_put shape words layout owner at k (marked size 0xC8799269) (claimed_words size tag) (at + 2) 2 tag shown there refl
      (omega (arith, length-marked size 0xC8799269 five, five)) (sym (third_zero size 0xC8799269 tag (omega (arith, five))))

  -- after the size and the cookie any words may follow
  pub behind_stored : (cookie index v : ℕ) (behind : List ℕ) (k : ℕ) → IsShown shape words layout
      → get_elem? layout.blocks k ≡ some (own owner at (size ∷ cookie ∷ behind)) → index < length behind
      → IsShown shape (set words (at + (2 + index)) v) (put layout k (own owner at (size ∷ cookie ∷ set behind index v)))
  behind_stored cookie index v behind k shown there lt =
      let index_is : suc (suc index) ≡ 2 + index = omega arith in
      own_put shape words layout owner at k (size ∷ cookie ∷ behind) (size ∷ cookie ∷ set behind index v) (at + (2 + index)) (2 + index) v
      shown there refl (omega (arith, lt)) (ap (λ (j : ℕ). set (size ∷ cookie ∷ behind) j v) index_is)

  pub payload_stored : (cookie index v : ℕ) (behind : List ℕ) (k : ℕ) → IsShown shape words layout
      → get_elem? layout.blocks k ≡ some (own owner at (size ∷ cookie ∷ behind)) → 2 + index < length behind
      → IsShown shape (after (store_payload at index v) words) (put layout k (own owner at (size ∷ cookie ∷ set behind (2 + index) v)))
  payload_stored cookie index v behind k shown there lt =
      let place : at + (2 + (2 + index)) ≡ at + (4 + index) = omega arith in
      subst (λ (i : ℕ). IsShown shape (set words i v) (put layout k (own owner at (size ∷ cookie ∷ set behind (2 + index) v)))) place
      (behind_stored cookie (2 + index) v behind k shown there lt)

-- Words that are shown by a layout of version 1 or 2 have a valid header; so have those of a kept state.
use Rattle.segment_invariant.proofs.Prelude.Std.{◌≡◌, ◌⊎◌, true, false, ℕ, [], ◌∷◌, get_or, get_or-drop, ◌+◌, ◌<◌, List, length, inl, inr, sym, ap, ◌∙◌, arith, eq-eqb, not, ◌&&◌, ◌||◌, ◌==◌, nat_lt, ◌%◌, Ok, slice_index, and_from, le-leb, le-ltb}
use Rattle.segment_invariant.proofs.Prelude.Machine.{Dimensions, word_at, head_of, IsShown, IsShape, State}
use Rattle.segment_invariant.proofs.Prelude.Invariant.{Anatomy, layout_of, Invariant}
use Rattle.std.proofs.Common.{get_or-take}
use Rattle.std.proofs.lemmas.Bool.{or_from}
use Rattle.segment_image.specs.Checks.{checked}
use Rattle.segment_image.specs.Shape.{is_page, is_size}
use Rattle.segment_image.specs.Head.{header_of, is_version, is_queue}
use Rattle.segment_image.specs.declared.fault.ImageFault.TheVariants.{TooShort, BadCookie, BadVersion, BadPage, BadSize, NotReady, Deleted, BadFree, BadQueue}
use Rattle.alloc_core.specs.Layout.{Layout, queue_block}
use Rattle.alloc_core.proofs.Layouts.{free_word, free_from, length_shown, slice_shown}

-- a valid shape is one that a header may have
pub page_lawful : (shape : Dimensions) → IsShape shape → is_page shape.page ≡ true
page_lawful shape lawful =
    and_from _ _ (and_from _ _ (le-leb 64 shape.page lawful.wide) (le-leb shape.page 65536 lawful.narrow)) (eq-eqb (shape.page % 16) 0 lawful.even)

pub size_lawful : (shape : Dimensions) → IsShape shape → is_size shape.size shape.page ≡ true
size_lawful shape lawful =
    and_from _ _ (and_from _ _ (le-leb shape.page shape.size lawful.one) (le-leb shape.size 1048576 lawful.many)) (eq-eqb (shape.size % shape.page) 0 lawful.whole)

-- the words of the queue block, except for its next
pub queue_word : (shape : Dimensions) (words : List ℕ) (layout : Layout) (shown : IsShown shape words layout) (j : ℕ) → j < 4
    → word_at words (12 + j) ≡ slice_index (4 ∷ 1 ∷ 0 ∷ shown.sound.queue.0 ∷ []) j
queue_word shape words layout shown j below =
    let (next, first) = shown.sound.queue in
    sym (get_or-drop 12 words j 0)
    ∙ (sym (get_or-take 4 _ j 0 below) ∙ ap (λ (ws : List ℕ). get_or ws j 0) (slice_shown shape words layout 0 (queue_block next) shown first))

module _ (shape : Dimensions) (words : List ℕ) (layout : Layout) (shown : IsShown shape words layout) (versions : (layout.version ≡ 1) ⊎ (layout.version ≡ 2)) where
  long : length words ≡ shape.size
  long = length_shown shape words layout shown

  -- a word of the header
  word : (i n : ℕ) → word_at words i ≡ n → not (word_at words i == n) ≡ false
  word i n is = ap not (eq-eqb (word_at words i) n is)

  short : nat_lt (length words) 16 ≡ false
  short = let size = long in let wide = shown.sound.lawful.wide in let one = shown.sound.lawful.one in le-ltb (length words) 16 (omega (arith, size, wide, one))

  versioned : not (is_version (word_at words 1)) ≡ false
  versioned = ap (λ (v : ℕ). not (is_version v)) (ap (λ (ws : List ℕ). word_at ws 1) shown.shows) ∙ either
    where
      either : not (is_version layout.version) ≡ false
      either = elim versions [
        | inl one ↦ ap (λ (v : ℕ). not (is_version v)) one
        | inr two ↦ ap (λ (v : ℕ). not (is_version v)) two
      ]

  paged : not (is_page (word_at words 3)) ≡ false
  paged = ap (λ (page : ℕ). not (is_page page)) (ap (λ (ws : List ℕ). word_at ws 3) shown.shows) ∙ ap not (page_lawful shape shown.sound.lawful)

  sized : (not (word_at words 2 == length words) || not (is_size (word_at words 2) (word_at words 3))) ≡ false
  sized =
      let size = ap (λ (ws : List ℕ). word_at ws 2) shown.shows in
      let page = ap (λ (ws : List ℕ). word_at ws 3) shown.shows in
      or_from _ _ (word 2 (length words) (size ∙ sym long)) ((λ i. not (is_size (size i) (page i))) ∙ ap not (size_lawful shape shown.sound.lawful))

  freed : (nat_lt (word_at words 7) 16 || nat_lt (word_at words 2) (word_at words 7)) ≡ false
  freed =
      let free = free_word shape words layout shown in
      let from = free_from shape words layout shown in
      let ends = shown.sound.ends in
      let size : word_at words 2 ≡ shape.size = ap (λ (ws : List ℕ). word_at ws 2) shown.shows in
      or_from _ _ (le-ltb (word_at words 7) 16 (omega (arith, free, from))) (le-ltb (word_at words 2) (word_at words 7) (omega (arith, free, size, ends)))

  queued : not (is_queue words) ≡ false
  queued = ap not (and_from _ _ (and_from _ _ (eq-eqb (word_at words 12) 4 (queue_word shape words layout shown 0 (omega arith))) (eq-eqb (word_at words 13) 1 (queue_word shape words layout shown 1 (omega arith))))
      (eq-eqb (word_at words 14) 0 (queue_word shape words layout shown 2 (omega arith))))

  state_word : word_at words 5 ≡ 1
  state_word = ap (λ (ws : List ℕ). word_at ws 5) shown.shows

  -- so none of the checks of a header finds a fault
  pub header_shown : header_of words ≡ Ok (head_of words)
  header_shown = λ i. checked (
      (short i, TooShort)
      ∷ (word 0 0x408305DC (ap (λ (ws : List ℕ). word_at ws 0) shown.shows) i, BadCookie)
      ∷ (versioned i, BadVersion)
      ∷ (paged i, BadPage)
      ∷ (sized i, BadSize)
      ∷ (not (state_word i == 1) && not (state_word i == 2), NotReady)
      ∷ (state_word i == 2, Deleted)
      ∷ (freed i, BadFree)
      ∷ (queued i, BadQueue)
      ∷ []) (head_of words)

pub header_is : (shape : Dimensions) (opened : Anatomy) (state : State) (kept : Invariant shape opened state) → header_of state.words ≡ Ok (head_of state.words)
header_is shape opened state kept = header_shown shape state.words (layout_of kept.anatomy) kept.shown kept.versions

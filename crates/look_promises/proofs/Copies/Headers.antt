-- The header of the third copy: each of its words is valid, whenever it was loaded.
use Rattle.segment_invariant.proofs.Prelude.Std.{◌≡◌, false, ℕ, [], ◌∷◌, ◌+◌, ◌<◌, ◌≤◌, List, length, sym, ap, ◌∙◌, arith, eq-eqb, not, ◌&&◌, ◌||◌, ◌==◌, nat_lt, Ok, slice_index, and_from, le-ltb, bit_and}
use Rattle.segment_invariant.proofs.Prelude.Machine.{word_at, head_of, IsShape}
use Rattle.segment_invariant.proofs.Prelude.Invariant.{layout_of, Invariant}
use Rattle.std.proofs.lemmas.Bool.{or_from}
use Rattle.segment_image.specs.Checks.{checked}
use Rattle.segment_image.specs.Shape.{is_page, is_size}
use Rattle.segment_image.specs.Head.{header_of, is_version, is_queue}
use Rattle.segment_image.specs.declared.fault.ImageFault.TheVariants.{TooShort, BadCookie, BadVersion, BadPage, BadSize, NotReady, Deleted, BadFree, BadQueue}
use Rattle.alloc_core.proofs.Layouts.{free_word, free_from}
use Rattle.segment_looks.specs.Looks.{head_of_copies, checked_copies}
use Rattle.segment_looks.specs.declared.fault.LookFault.TheVariants.{Image, OldVersion}
use Rattle.segment_promises.proofs.Adopting.Headers.{page_lawful, queue_word, size_lawful}
use Rattle.look_promises.specs.Looks.{head_loaded, LooksHaveHeaders}
use Rattle.look_promises.proofs.Moments.Runs.{kept_at}
use Rattle.look_promises.proofs.Copies.ThreeCopies.{ThreeCopies, three_copies}

module _ (copies : ThreeCopies) where
  open copies use {run, shape, opened, at, moments, one, two, three, loaded}

  lawful : IsShape shape
  lawful = run.kept.shown.sound.lawful

  pub wide : 64 ≤ shape.size
  wide = let page = lawful.wide in let one = lawful.one in omega (arith, page, one)

  kept : (i : ℕ) → Invariant shape opened (at (moments.three i))
  kept i = kept_at run (moments.three i)

  -- a word of the header is that of a kept state
  pub of_state : (i : ℕ) → i < 16 → word_at three i ≡ word_at (at (moments.three i)).words i
  of_state i below = let many = wide in loaded.copy_three.each i (omega (arith, below, many))

  long : length three ≡ shape.size
  long = loaded.copy_three.long

  cookie : word_at three 0 ≡ 0x408305DC
  cookie = of_state 0 (omega arith) ∙ ap (λ (ws : List ℕ). word_at ws 0) (kept 0).shown.shows

  version : word_at three 1 ≡ 2
  version = of_state 1 (omega arith) ∙ (ap (λ (ws : List ℕ). word_at ws 1) (kept 1).shown.shows ∙ ((kept 1).same.0 ∙ run.version))

  size : word_at three 2 ≡ shape.size
  size = of_state 2 (omega arith) ∙ ap (λ (ws : List ℕ). word_at ws 2) (kept 2).shown.shows

  page : word_at three 3 ≡ shape.page
  page = of_state 3 (omega arith) ∙ ap (λ (ws : List ℕ). word_at ws 3) (kept 3).shown.shows

  id : word_at three 4 ≡ opened.id
  id = of_state 4 (omega arith) ∙ (ap (λ (ws : List ℕ). word_at ws 4) (kept 4).shown.shows ∙ (kept 4).same.1)

  state_word : word_at three 5 ≡ 1
  state_word = of_state 5 (omega arith) ∙ ap (λ (ws : List ℕ). word_at ws 5) (kept 5).shown.shows

  short : nat_lt (length three) 16 ≡ false
  short = let size = long in let many = wide in le-ltb (length three) 16 (omega (arith, size, many))

  sized : (not (word_at three 2 == length three) || not (is_size (word_at three 2) (word_at three 3))) ≡ false
  sized =
      or_from _ _ (ap not (eq-eqb (word_at three 2) (length three) (size ∙ sym long)))
      ((λ i. not (is_size (size i) (page i))) ∙ ap not (size_lawful shape lawful))

  -- the free pointer lies in the segment
  pub free_within : (16 ≤ word_at three 7) × (word_at three 7 ≤ shape.size)
  free_within =
      let is = of_state 7 (omega arith) in
      let free = free_word shape (at (moments.three 7)).words (layout_of (kept 7).anatomy) (kept 7).shown in
      let from = free_from shape (at (moments.three 7)).words (layout_of (kept 7).anatomy) (kept 7).shown in
      let ends = (kept 7).shown.sound.ends in
      (omega (arith, is, free, from), omega (arith, is, free, ends))

  freed : (nat_lt (word_at three 7) 16 || nat_lt (word_at three 2) (word_at three 7)) ≡ false
  freed =
      let (from, ends) = free_within in
      let many = size in
      or_from _ _ (le-ltb (word_at three 7) 16 from) (le-ltb (word_at three 2) (word_at three 7) (omega (arith, ends, many)))

  queued : not (is_queue three) ≡ false
  queued =
      let word : (j : ℕ) (lt : j < 3) → word_at three (12 + j) ≡ slice_index (4 ∷ 1 ∷ 0 ∷ (kept (12 + j)).shown.sound.queue.0 ∷ []) j
      = λ j lt. of_state (12 + j) (omega (arith, lt)) ∙ queue_word shape (at (moments.three (12 + j))).words (layout_of (kept (12 + j)).anatomy) (kept (12 + j)).shown j (omega (arith, lt)) in
      ap not (and_from _ _ (and_from _ _ (eq-eqb (word_at three 12) 4 (word 0 (omega arith))) (eq-eqb (word_at three 13) 1 (word 1 (omega arith))))
      (eq-eqb (word_at three 14) 0 (word 2 (omega arith))))

  -- so none of the checks of a header finds a fault
  header : header_of three ≡ Ok (head_of three)
  header = λ i. checked (
      (short i, TooShort)
      ∷ (ap not (eq-eqb (word_at three 0) 0x408305DC cookie) i, BadCookie)
      ∷ (not (is_version (version i)), BadVersion)
      ∷ ((ap (λ (n : ℕ). not (is_page n)) page ∙ ap not (page_lawful shape lawful)) i, BadPage)
      ∷ (sized i, BadSize)
      ∷ (not (state_word i == 1) && not (state_word i == 2), NotReady)
      ∷ (state_word i == 2, Deleted)
      ∷ (freed i, BadFree)
      ∷ (queued i, BadQueue)
      ∷ []) (head_of three)

  -- what it says
  head_is : head_of three ≡ head_loaded shape opened at moments.three
  head_is = λ i. record {
    shape = record { size = size i; page = page i };
    version = version i;
    id = id i;
    free = of_state 7 (omega arith) i;
    tail = of_state 8 (omega arith) i;
    corrupt = not (bit_and (of_state 6 (omega arith) i) 1 == 0);
    full = not (bit_and (of_state 6 (omega arith) i) 2 == 0);
  }

  lengths : (not (length one == length three) || not (length two == length three)) ≡ false
  lengths = or_from _ _
      (ap not (eq-eqb (length one) (length three) (loaded.copy_one.long ∙ sym long)))
      (ap not (eq-eqb (length two) (length three) (loaded.copy_two.long ∙ sym long)))

  pub head_copied : head_of_copies one two three ≡ Ok (head_loaded shape opened at moments.three)
  head_copied =
      (λ i. checked_copies (header i) one two three)
      ∙ ((λ i. checked_copies (Ok (head_is i)) one two three)
      ∙ λ i. checked ((lengths i, Image BadSize) ∷ (false, OldVersion) ∷ []) (head_loaded shape opened at moments.three))

pub looks_have_headers : LooksHaveHeaders
looks_have_headers shape opened at first last moments one two three run loaded = head_copied (three_copies shape opened at first last moments one two three run loaded)

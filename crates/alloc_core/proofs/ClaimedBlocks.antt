-- A claimed block is valid, as a reader of images sees it.
use Rattle.std.proofs.Common.{◌≡◌, ◌≢◌, ℕ, ◌+◌, ◌-◌, ◌*◌, ◌/◌, ◌%◌, ◌<◌, ◌≤◌, true, List, ◌∷◌, get_or, take, drop, sym, ap, ◌∙◌, subst, arith, div-add-mod'}
use Rattle.std.specs.Prelude.{◌&&◌, nat_le}
use Rattle.std.proofs.lemmas.Bool.{and_from, le-leb, eq-eqb}
use Rattle.std.proofs.lemmas.Nat.{div-mul-add}
use Rattle.std.proofs.lemmas.List.{get_or-take, get_or-drop}
use mathlib.Core.Option.{some, some-injective}
use lib.ListN.{get_elem?}
use Rattle.segment_image.specs.Shape.{Dimensions}
use Rattle.segment_image.specs.Words.{word_at}
use Rattle.segment_image.specs.Head.{head_of}
use Rattle.segment_image.specs.Blocks.{is_placed, is_claimed, field_at}
use Rattle.alloc_core.specs.Layout.{Block, extent}
use Rattle.alloc_core.specs.Laws.{own, taken, Apart, State, StateKeeps, IsRecord, Has}
use Rattle.alloc_core.specs.declared.alloc.AllocStage.TheVariants.{Claimed}
use Rattle.alloc_core.specs.Alloc.{Allocation, IsAimed}
use Rattle.alloc_core.proofs.Layouts.{slice_shown, free_word, ends_within}
use Rattle.alloc_core.proofs.Steps.{taken_apart}

-- two places in one page
one_page : (a b page : ℕ) → a % page + b < page → a / page ≡ (a + b) / page
one_page a b page h =
    let e = div-add-mod' a page in
    let q : ℕ = a / page * page in
    let r : ℕ = a % page in
    let split : q + (r + b) ≡ a + b = omega arith in
    sym (div-mul-add (a / page) page (r + b) h) ∙ ap (λ (n : ℕ). n / page) split

-- a word of the words of a block
word_of : (words : List ℕ) (at n j : ℕ) (ws : List ℕ) → take n (drop at words) ≡ ws → j < n → word_at words (at + j) ≡ get_or ws j 0
word_of words at n j ws is lt =
    sym (get_or-drop at words j 0) ∙ (sym (get_or-take n (drop at words) j 0 lt) ∙ ap (λ (l : List ℕ). get_or l j 0) is)

-- what is known of a claimed block: its first words, where it lies, and its page
pub record IsClaimedAt (shape : Dimensions) (words : List ℕ) (reference size : ℕ) : Type 0 where
  pub size_word : field_at words reference 0 ≡ size
  pub cookie_word : field_at words reference 1 ≡ 0xC8799269
  pub from : 16 ≤ reference
  pub five : 5 ≤ size
  pub below : reference + size ≤ word_at words 7
  pub page : word_at words 3 ≡ shape.page
  pub in_page : reference % shape.page + size ≤ shape.page

claimed_at : (shape : Dimensions) (state : State) (owner : ℕ) (a : Allocation) (reference size : ℕ) → StateKeeps shape state
    → get_elem? state.allocations owner ≡ some a → a.stage ≡ Claimed reference size → IsClaimedAt shape state.words reference size
claimed_at shape state owner a reference size keeps mine stage =
    let fits = keeps.each owner a mine in
    let aimed : IsAimed a (Claimed reference size) = subst (IsAimed a) stage fits.lawful.aimed in
    let (behind, long, (k, there)) = subst (Has keeps.layout.blocks owner) stage fits.has in
    let block : Block = own owner reference (size ∷ 0xC8799269 ∷ behind) in
    let whole : extent block ≡ size = omega (arith, long) in
    let slice : take size (drop reference state.words) ≡ size ∷ 0xC8799269 ∷ behind =
    subst (λ (n : ℕ). take n (drop reference state.words) ≡ size ∷ 0xC8799269 ∷ behind) whole (slice_shown shape state.words keeps.layout k block keeps.shown there) in
    let ends = ends_within shape.page 12 keeps.layout.blocks k block keeps.shown.sound.laid there in
    let free = free_word shape state.words keeps.layout keeps.shown in
    let five = aimed.five in
    record {
      size_word = word_of state.words reference size 0 (size ∷ 0xC8799269 ∷ behind) slice (omega (arith, five));
      cookie_word = word_of state.words reference size 1 (size ∷ 0xC8799269 ∷ behind) slice (omega (arith, five));
      from = aimed.from;
      five = five;
      below = omega (arith, ends, free, whole);
      page = ap (λ (ws : List ℕ). get_or ws 3 0) keeps.shown.shows;
      in_page = subst (λ (s : Dimensions). reference % s.page + size ≤ s.page) fits.shaped aimed.one_page;
    }

-- so it is a valid block
pub lawful_at : (shape : Dimensions) (words : List ℕ) (reference size : ℕ) → IsClaimedAt shape words reference size
    → (is_placed (head_of words) reference && is_claimed words (head_of words) reference) ≡ true
lawful_at shape words reference size is =
    let five = is.five in
    let below = is.below in
    let size_word = is.size_word in
    let in_page = is.in_page in
    let last : reference + (size - 1) ≡ reference + size - 1 = omega (arith, five) in
    let same : reference / word_at words 3 ≡ (reference + field_at words reference 0 - 1) / word_at words 3 =
    rw (is.page, size_word) (one_page reference (size - 1) shape.page (omega (arith, five, in_page)) ∙ ap (λ (n : ℕ). n / shape.page) last) in
    and_from (is_placed (head_of words) reference) _
    (and_from (nat_le 16 reference) _ (le-leb 16 reference is.from) (le-leb (reference + 5) (word_at words 7) (omega (arith, below, five))))
    (and_from _ _ (and_from _ _ (and_from _ _ (eq-eqb (field_at words reference 1) 0xC8799269 is.cookie_word)
    (le-leb 5 (field_at words reference 0) (omega (arith, size_word, five))))
    (le-leb (reference + field_at words reference 0) (word_at words 7) (omega (arith, size_word, below))))
    (eq-eqb _ _ same))

pub block_lawful : (shape : Dimensions) (state : State) (reference : ℕ) → StateKeeps shape state → IsRecord state.allocations reference
    → (is_placed (head_of state.words) reference && is_claimed state.words (head_of state.words) reference) ≡ true
block_lawful shape state reference keeps (owner, a, size, mine, stage) =
    lawful_at shape state.words reference size (claimed_at shape state owner a reference size keeps mine stage)

-- two claimed blocks do not overlap, by the sizes that their first words say
pub records_apart : (shape : Dimensions) (state : State) (one other : ℕ) → StateKeeps shape state → IsRecord state.allocations one
    → IsRecord state.allocations other → one ≢ other → Apart (one, field_at state.words one 0) (other, field_at state.words other 0)
records_apart shape state one other keeps (i, a, size, mine, stage) (j, b, size', yours, stage') ne =
    let two : i ≢ j = λ same.
    let is : a ≡ b = some-injective a b (sym mine ∙ (ap (get_elem? state.allocations) same ∙ yours)) in
    ne (cc (sym stage ∙ (ap (λ (x : Allocation). x.stage) is ∙ stage'))) in
    let first = (claimed_at shape state i a one size keeps mine stage).size_word in
    let second = (claimed_at shape state j b other size' keeps yours stage').size_word in
    subst (λ (t : ℕ × ℕ). Apart (one, t.0) (other, t.1)) (λ k. (sym first k, sym second k))
    (taken_apart shape state.words state.allocations i j a b (one, size) (other, size') keeps two mine yours (ap taken stage) (ap taken stage'))

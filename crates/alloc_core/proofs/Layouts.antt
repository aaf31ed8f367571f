-- The words of a layout: a word of a block among all words, a block more, and the flags.
use Rattle.std.proofs.Common.{◌≡◌, ◌≢◌, ℕ, zero, suc, ◌+◌, ◌-◌, ◌%◌, ◌<◌, ◌≤◌, Bool, true, List, [], ◌∷◌, ◌++◌, length, replicate, get_or, set, sym, refl, ap, ap₂, ◌∙◌, subst, arith, length-set, length-append}
use Rattle.std.specs.Prelude.{bit_or}
use Rattle.std.proofs.lemmas.List.{set-append_left, set-append_right, length-replicate, replicate-append-replicate, get_or-append_right}
use Rattle.std.specs.Prelude.{take, drop}
use Rattle.std.proofs.Math.Seq.{take-append_seam, drop-append-add}
use mathlib.Core.Option.{some, some-injective, some-ne-none}
use lib.ListN.{get_elem?}
use Rattle.atomic_table.proofs.Lists.{at_longer, set_else}
use Rattle.segment_image.specs.Shape.{Dimensions}
use Rattle.segment_image.specs.Words.{word_at}
use Rattle.alloc_core.specs.Layout.{Block, extent, Layout, spread, end_of, free_of, flags_of, head_words, render, IsLaid, queue_block, IsShown, put, raw_block, grown}
use Rattle.alloc_core.specs.Event.{set_flag, after}
use Rattle.alloc_core.specs.Alloc.{IsRise}
use Rattle.alloc_core.proofs.Flags.{corrupts, fills}
use Rattle.alloc_core.proofs.Owners.{set_at}

-- a block begins at the first place or after it
at_from : (page at : ℕ) (blocks : List Block) (k : ℕ) (b : Block) → IsLaid page at blocks → get_elem? blocks k ≡ some b → at ≤ b.at
at_from page at [] k b laid e = absurd (some-ne-none b (sym e))
at_from page at (x ∷ xs) zero b laid e =
    let same : x.at ≡ b.at = ap (λ (z : Block). z.at) (some-injective x b e) in
    let here : x.at ≡ at = laid.0 in
    omega arith
at_from page at (x ∷ xs) (suc k) b laid e = let h = at_from page (at + extent x) xs k b laid.3 e in omega arith

-- the places of blocks do not pass their end
pub from_end : (at : ℕ) (blocks : List Block) → at ≤ end_of at blocks
from_end at [] = omega arith
from_end at (x ∷ xs) = let h = from_end (at + extent x) xs in omega arith

-- a block ends where the last one ends, or before
pub ends_within : (page at : ℕ) (blocks : List Block) (k : ℕ) (b : Block) → IsLaid page at blocks → get_elem? blocks k ≡ some b
    → b.at + extent b ≤ end_of at blocks
ends_within page at [] k b laid e = absurd (some-ne-none b (sym e))
ends_within page at (x ∷ xs) zero b laid e =
    let same : x ≡ b = some-injective x b e in
    let here : b.at ≡ at = sym (ap (λ (z : Block). z.at) same) ∙ laid.0 in
    let long : extent x ≡ extent b = ap extent same in
    let h = from_end (at + extent x) xs in
    omega arith
ends_within page at (x ∷ xs) (suc k) b laid e = ends_within page (at + extent x) xs k b laid.3 e

-- a block lies in one page
pub in_one_page : (page at : ℕ) (blocks : List Block) (k : ℕ) (b : Block) → IsLaid page at blocks → get_elem? blocks k ≡ some b
    → b.at % page + extent b ≤ page
in_one_page page at [] k b laid e = absurd (some-ne-none b (sym e))
in_one_page page at (x ∷ xs) zero b laid e =
    let same : x ≡ b = some-injective x b e in
    subst (λ (z : Block). z.at % page + extent z ≤ page) same (subst (λ (n : ℕ). n % page + extent x ≤ page) (sym laid.0) laid.2)
in_one_page page at (x ∷ xs) (suc k) b laid e = in_one_page page (at + extent x) xs k b laid.3 e

-- of two blocks the one ends before the other begins
pub apart : (page at : ℕ) (blocks : List Block) (k j : ℕ) (b c : Block) → IsLaid page at blocks → get_elem? blocks k ≡ some b
    → get_elem? blocks j ≡ some c → k < j → b.at + extent b ≤ c.at
apart page at [] k j b c laid e f lt = absurd (some-ne-none b (sym e))
apart page at (x ∷ xs) k zero b c laid e f lt = absurd (omega arith)
apart page at (x ∷ xs) zero (suc j) b c laid e f lt =
    let same : x ≡ b = some-injective x b e in
    let here : b.at ≡ at = sym (ap (λ (z : Block). z.at) same) ∙ laid.0 in
    let long : extent x ≡ extent b = ap extent same in
    let h = at_from page (at + extent x) xs j c laid.3 f in
    omega arith
apart page at (x ∷ xs) (suc k) (suc j) b c laid e f lt = apart page (at + extent x) xs k j b c laid.3 e f (omega arith)

-- the j-th word of a block becomes v
set_spread : (page at : ℕ) (others : List ℕ) (blocks : List Block) (k : ℕ) (b b' : Block) (i j v : ℕ) → IsLaid page at blocks
    → get_elem? blocks k ≡ some b → at + i ≡ b.at → j < extent b → b'.words ≡ set b.words j v
    → set (spread others blocks) (i + j) v ≡ spread others (set blocks k b')
set_spread page at others [] k b b' i j v laid e here lt is = absurd (some-ne-none b (sym e))
set_spread page at others (x ∷ xs) zero b b' i j v laid e here lt is =
    let same : x ≡ b = some-injective x b e in
    let s : x.at ≡ b.at = ap (λ (z : Block). z.at) same in
    let t : x.at ≡ at = laid.0 in
    let index : i + j ≡ j = omega arith in
    let long : extent x ≡ extent b = ap extent same in
    let near : j < length x.words = omega arith in
    ap (λ (n : ℕ). set (x.words ++ spread others xs) n v) index
    ∙ (set-append_left x.words (spread others xs) j v near
    ∙ ap (λ (l : List ℕ). l ++ spread others xs) (ap (λ (z : Block). set z.words j v) same ∙ sym is))
set_spread page at others (x ∷ xs) (suc k) b b' i j v laid e here lt is =
    let from = at_from page (at + extent x) xs k b laid.3 e in
    let n : ℕ = extent x in
    let from' : at + n ≤ b.at = from in
    let here' : at + i ≡ b.at = here in
    let step : i + j - n ≡ i - n + j = omega arith in
    set-append_right x.words (spread others xs) n (i + j) v refl (omega arith)
    ∙ ap (λ (l : List ℕ). x.words ++ l) (ap (λ (m : ℕ). set (spread others xs) m v) step
    ∙ set_spread page (at + n) others xs k b b' (i - n) j v laid.3 e (omega arith) lt is)

end_of-set : (at : ℕ) (blocks : List Block) (k : ℕ) (b b' : Block) → get_elem? blocks k ≡ some b → extent b' ≡ extent b
    → end_of at (set blocks k b') ≡ end_of at blocks
end_of-set at [] k b b' e long = refl
end_of-set at (x ∷ xs) zero b b' e long = ap (λ (n : ℕ). end_of (at + n) xs) (long ∙ sym (ap extent (some-injective x b e)))
end_of-set at (x ∷ xs) (suc k) b b' e long = end_of-set (at + extent x) xs k b b' e long

laid-set : (page at : ℕ) (blocks : List Block) (k : ℕ) (b b' : Block) → get_elem? blocks k ≡ some b → extent b' ≡ extent b → b'.at ≡ b.at
    → IsLaid page at blocks → IsLaid page at (set blocks k b')
laid-set page at [] k b b' e long place laid = laid
laid-set page at (x ∷ xs) zero b b' e long place laid =
    let same : x ≡ b = some-injective x b e in
    let len : extent b' ≡ extent x = long ∙ sym (ap extent same) in (
      place ∙ (sym (ap (λ (z : Block). z.at) same) ∙ laid.0),
      subst (λ (n : ℕ). 0 < n) (sym len) laid.1,
      subst (λ (n : ℕ). at % page + n ≤ page) (sym len) laid.2,
      subst (λ (n : ℕ). IsLaid page (at + n) xs) (sym len) laid.3,
    )
laid-set page at (x ∷ xs) (suc k) b b' e long place laid =
    (laid.0, laid.1, laid.2, laid-set page (at + extent x) xs k b b' e long place laid.3)

-- the words of a layout, with another word of flags, another free pointer and other words from the queue block on
abbrev with_words : Dimensions → Layout → ℕ → ℕ → List ℕ → List ℕ
with_words shape layout flags free body =
    0x408305DC ∷ layout.version ∷ shape.size ∷ shape.page ∷ layout.id ∷ 1 ∷ flags ∷ free ∷ layout.tail
    ∷ layout.reserved.0 ∷ layout.reserved.1 ∷ layout.reserved.2 ∷ body

abbrev flags_in : Layout → ℕ
flags_in layout = flags_of layout.corrupt layout.full layout.other_flags

-- a word of a block of a layout is that word among all words
set_render : (shape : Dimensions) (layout : Layout) (k : ℕ) (b b' : Block) (j v : ℕ) → IsLaid shape.page 12 layout.blocks
    → get_elem? layout.blocks k ≡ some b → j < extent b → b'.words ≡ set b.words j v
    → set (render shape layout) (b.at + j) v ≡ render shape (put layout k b')
set_render shape layout k b b' j v laid e lt is =
    let from = at_from shape.page 12 layout.blocks k b laid e in
    let step : b.at + j - 12 ≡ b.at - 12 + j = omega arith in
    let body : List ℕ = spread (replicate layout.spare 0) layout.blocks in
    let long : extent b' ≡ extent b = ap length is ∙ length-set b.words j v in
    let ends : free_of layout ≡ free_of (put layout k b') = sym (end_of-set 12 layout.blocks k b b' e long) in
    set-append_right (head_words shape layout) body 12 (b.at + j) v refl (omega arith)
    ∙ (ap (λ (l : List ℕ). head_words shape layout ++ l) (ap (λ (m : ℕ). set body m v) step
    ∙ set_spread shape.page 12 (replicate layout.spare 0) layout.blocks k b b' (b.at - 12) j v laid e (omega arith) lt is)
    ∙ ap (λ (n : ℕ). with_words shape layout (flags_in layout) n (spread (replicate layout.spare 0) (set layout.blocks k b'))) ends)

-- a store into a block that leaves the queue block one
shown_put_at : (shape : Dimensions) (words : List ℕ) (layout : Layout) (k : ℕ) (b b' : Block) (j v : ℕ) → IsShown shape words layout
    → get_elem? layout.blocks k ≡ some b → (next : ℕ) × (get_elem? (set layout.blocks k b') 0 ≡ some (queue_block next))
    → j < extent b → b'.words ≡ set b.words j v → b'.at ≡ b.at → IsShown shape (set words (b.at + j) v) (put layout k b')
shown_put_at shape words layout k b b' j v shown e queue lt is place =
    let long : extent b' ≡ extent b = ap length is ∙ length-set b.words j v in
    let ends : free_of (put layout k b') ≡ free_of layout = end_of-set 12 layout.blocks k b b' e long in
    let sound = shown.sound in
    record {
      shows = ap (λ (ws : List ℕ). set ws (b.at + j) v) shown.shows ∙ set_render shape layout k b b' j v sound.laid e lt is;
      sound = record {
        lawful = sound.lawful;
        queue = queue;
        laid = laid-set shape.page 12 layout.blocks k b b' e long place sound.laid;
        ends = ap (λ (n : ℕ). n + layout.spare) ends ∙ sound.ends;
        leaves = subst (λ (n : ℕ). n % shape.page + 5 ≤ shape.page) (sym ends) sound.leaves;
      };
    }

-- a store into another block, which can leave it to another owner
pub shown_put : (shape : Dimensions) (words : List ℕ) (layout : Layout) (k : ℕ) (b b' : Block) (j v : ℕ) → IsShown shape words layout
    → get_elem? layout.blocks k ≡ some b → k ≢ 0 → j < extent b → b'.words ≡ set b.words j v → b'.at ≡ b.at
    → IsShown shape (set words (b.at + j) v) (put layout k b')
shown_put shape words layout k b b' j v shown e other =
    shown_put_at shape words layout k b b' j v shown e
    (shown.sound.queue.0, set_else layout.blocks k 0 b' (λ same. other (sym same)) ∙ shown.sound.queue.1)

end_of-snoc : (at : ℕ) (blocks : List Block) (b : Block) → end_of at (blocks ++ b ∷ []) ≡ end_of at blocks + extent b
end_of-snoc at [] b = refl
end_of-snoc at (x ∷ xs) b = end_of-snoc (at + extent x) xs b

laid-snoc : (page at : ℕ) (blocks : List Block) (b : Block) → IsLaid page at blocks → b.at ≡ end_of at blocks → 0 < extent b
    → end_of at blocks % page + extent b ≤ page → IsLaid page at (blocks ++ b ∷ [])
laid-snoc page at [] b laid place positive fits = (place, positive, fits, tt)
laid-snoc page at (x ∷ xs) b laid place positive fits =
    (laid.0, laid.1, laid.2, laid-snoc page (at + extent x) xs b laid.3 place positive fits)

spread-snoc : (others rest : List ℕ) (blocks : List Block) (b : Block) → others ≡ b.words ++ rest → spread others blocks ≡ spread rest (blocks ++ b ∷ [])
spread-snoc others rest [] b e = e
spread-snoc others rest (x ∷ xs) b e = ap (λ (l : List ℕ). x.words ++ l) (spread-snoc others rest xs b e)

zeros : (m n : ℕ) → m ≤ n → replicate {A = ℕ} n 0 ≡ replicate {A = ℕ} m 0 ++ replicate {A = ℕ} (n - m) 0
zeros m n le =
    let e : n ≡ m + (n - m) = omega arith in
    ap (λ (k : ℕ). replicate {A = ℕ} k 0) e ∙ sym (replicate-append-replicate m (n - m) 0)

-- the free pointer of a layout with a block more, and with another block
pub free_grown : (layout : Layout) (owner size : ℕ) → free_of (grown layout owner size) ≡ free_of layout + size
free_grown layout owner size =
    let e = end_of-snoc 12 layout.blocks (raw_block (free_of layout) owner size) in
    omega (arith, e, length-replicate {A = ℕ} size 0)

pub free_put : (layout : Layout) (k : ℕ) (b b' : Block) → get_elem? layout.blocks k ≡ some b → extent b' ≡ extent b
    → free_of (put layout k b') ≡ free_of layout
free_put layout k b b' = end_of-set 12 layout.blocks k b b'

-- an exchange of the free pointer that went through: one block more
pub shown_grown : (shape : Dimensions) (words : List ℕ) (layout : Layout) (owner new : ℕ) → IsShown shape words layout
    → IsRise shape (free_of layout) new → IsShown shape (set words 7 new) (grown layout owner (new - free_of layout))
shown_grown shape words layout owner new shown up =
    let sound = shown.sound in
    let old : ℕ = free_of layout in
    let n : ℕ = new - old in
    let b : Block = raw_block old owner n in
    let five : old + 5 ≤ new = up.five in
    let within = up.within in
    let ends = sound.ends in
    let long : extent b ≡ n = length-replicate {A = ℕ} n 0 in
    let end : new ≡ free_of (grown layout owner n) = let e = end_of-snoc 12 layout.blocks b in omega (arith, e, long) in
    record {
      shows = ap (λ (ws : List ℕ). set ws 7 new) shown.shows
          ∙ ap₂ (λ (m : ℕ) (rest : List ℕ). with_words shape layout (flags_in layout) m rest) end
          (spread-snoc (replicate layout.spare 0) (replicate (layout.spare - n) 0) layout.blocks b (zeros n layout.spare (omega arith)));
      sound = record {
        lawful = sound.lawful;
        queue = (sound.queue.0, at_longer layout.blocks (b ∷ []) 0 (queue_block sound.queue.0) sound.queue.1);
        laid = laid-snoc shape.page 12 layout.blocks b sound.laid refl (omega (arith, long))
            (subst (λ (m : ℕ). old % shape.page + m ≤ shape.page) (sym long) up.one_page);
        ends = omega (arith, end, ends, five, within);
        leaves = subst (λ (m : ℕ). m % shape.page + 5 ≤ shape.page) end up.leaves;
      };
    }

-- the layout with other words before the queue block
abbrev pub headed : Layout → (version id : ℕ) → (corrupt full : Bool) → (other_flags tail : ℕ) → ℕ × ℕ × ℕ → Layout
headed layout version id corrupt full other_flags tail reserved = record layout {
  version = version;
  id = id;
  corrupt = corrupt;
  full = full;
  other_flags = other_flags;
  tail = tail;
  reserved = reserved;
}

pub shown_headed : (shape : Dimensions) (words words' : List ℕ) (layout : Layout) (version id : ℕ) (corrupt full : Bool) (other_flags tail : ℕ)
    (reserved : ℕ × ℕ × ℕ) → IsShown shape words layout → words' ≡ render shape (headed layout version id corrupt full other_flags tail reserved)
    → IsShown shape words' (headed layout version id corrupt full other_flags tail reserved)
shown_headed shape words words' layout version id corrupt full other_flags tail reserved shown shows = record {
  shows = shows;
  sound = record {
    lawful = shown.sound.lawful;
    queue = shown.sound.queue;
    laid = shown.sound.laid;
    ends = shown.sound.ends;
    leaves = shown.sound.leaves;
  };
}

-- the words with a word of the flags in the place of theirs
pub flags_put : (shape : Dimensions) (words : List ℕ) (layout : Layout) (v flags : ℕ) → IsShown shape words layout → v ≡ flags
    → set words 6 v ≡ with_words shape layout flags (free_of layout) (spread (replicate layout.spare 0) layout.blocks)
flags_put shape words layout v flags shown is =
    ap (λ (ws : List ℕ). set ws 6 v) shown.shows
    ∙ ap (λ (m : ℕ). with_words shape layout m (free_of layout) (spread (replicate layout.spare 0) layout.blocks)) is

-- other flags
flagged : (shape : Dimensions) (words : List ℕ) (layout : Layout) (flag : ℕ) (corrupt full : Bool) → IsShown shape words layout
    → bit_or (flags_in layout) flag ≡ flags_of corrupt full layout.other_flags
    → IsShown shape (after (set_flag flag) words) (record layout { corrupt = corrupt; full = full })
flagged shape words layout flag corrupt full shown is =
    shown_headed shape words (after (set_flag flag) words) layout layout.version layout.id corrupt full layout.other_flags layout.tail layout.reserved shown
    (flags_put shape words layout (bit_or (get_or words 6 0) flag) (flags_of corrupt full layout.other_flags) shown
    (ap (λ (ws : List ℕ). bit_or (get_or ws 6 0) flag) shown.shows ∙ is))

-- the corrupt flag is set
pub shown_corrupt : (shape : Dimensions) (words : List ℕ) (layout : Layout) → IsShown shape words layout
    → IsShown shape (after (set_flag 1) words) (record layout { corrupt = true })
shown_corrupt shape words layout shown = flagged shape words layout 1 true layout.full shown (corrupts layout.corrupt layout.full layout.other_flags)

-- the full flag is set
pub shown_full : (shape : Dimensions) (words : List ℕ) (layout : Layout) → IsShown shape words layout
    → IsShown shape (after (set_flag 2) words) (record layout { full = true })
shown_full shape words layout shown = flagged shape words layout 2 layout.corrupt true shown (fills layout.corrupt layout.full layout.other_flags)

-- another tail
pub shown_tail : (shape : Dimensions) (words : List ℕ) (layout : Layout) (v : ℕ) → IsShown shape words layout
    → IsShown shape (set words 8 v) (record layout { tail = v })
shown_tail shape words layout v shown =
    shown_headed shape words (set words 8 v) layout layout.version layout.id layout.corrupt layout.full layout.other_flags v layout.reserved shown
    (ap (λ (ws : List ℕ). set ws 8 v) shown.shows)

-- another next of the queue block
pub shown_queue : (shape : Dimensions) (words : List ℕ) (layout : Layout) (v : ℕ) → IsShown shape words layout
    → IsShown shape (set words 15 v) (put layout 0 (queue_block v))
shown_queue shape words layout v shown =
    let old : Block = queue_block shown.sound.queue.0 in
    shown_put_at shape words layout 0 old (queue_block v) 3 v shown shown.sound.queue.1
    (v, set_at layout.blocks 0 old (queue_block v) shown.sound.queue.1) (omega arith) refl refl

-- the word of the free pointer
pub free_word : (shape : Dimensions) (words : List ℕ) (layout : Layout) → IsShown shape words layout → word_at words 7 ≡ free_of layout
free_word shape words layout shown = ap (λ (ws : List ℕ). get_or ws 7 0) shown.shows

-- the word of the flags
pub flags_word : (shape : Dimensions) (words : List ℕ) (layout : Layout) → IsShown shape words layout
    → word_at words 6 ≡ flags_of layout.corrupt layout.full layout.other_flags
flags_word shape words layout shown = ap (λ (ws : List ℕ). get_or ws 6 0) shown.shows

length-spread : (at : ℕ) (others : List ℕ) (blocks : List Block) → at + length (spread others blocks) ≡ end_of at blocks + length others
length-spread at others [] = refl
length-spread at others (x ∷ xs) =
    let h = length-spread (at + extent x) others xs in
    let e = length-append x.words (spread others xs) in
    omega arith

-- the words are as many as the shape says
pub length_shown : (shape : Dimensions) (words : List ℕ) (layout : Layout) → IsShown shape words layout → length words ≡ shape.size
length_shown shape words layout shown =
    let h = length-spread 12 (replicate layout.spare 0) layout.blocks in
    let e = length-replicate {A = ℕ} layout.spare 0 in
    let f = length-append (head_words shape layout) (spread (replicate layout.spare 0) layout.blocks) in
    let ends = shown.sound.ends in
    let all = ap length shown.shows in
    omega (arith, h, e, f, ends, all)

-- the free pointer is after the queue block
pub free_from : (shape : Dimensions) (words : List ℕ) (layout : Layout) → IsShown shape words layout → 16 ≤ free_of layout
free_from shape words layout shown =
    ends_within shape.page 12 layout.blocks 0 (queue_block shown.sound.queue.0) shown.sound.laid shown.sound.queue.1

slice_spread : (page at : ℕ) (others : List ℕ) (blocks : List Block) (k : ℕ) (b : Block) (i : ℕ) → IsLaid page at blocks
    → get_elem? blocks k ≡ some b → at + i ≡ b.at → take (extent b) (drop i (spread others blocks)) ≡ b.words
slice_spread page at others [] k b i laid e here = absurd (some-ne-none b (sym e))
slice_spread page at others (x ∷ xs) zero b i laid e here =
    let same : x ≡ b = some-injective x b e in
    let s : x.at ≡ b.at = ap (λ (z : Block). z.at) same in
    let t : x.at ≡ at = laid.0 in
    let index : i ≡ 0 = omega arith in
    ap₂ (λ (n : ℕ) (m : ℕ). take n (drop m (x.words ++ spread others xs))) (sym (ap extent same)) index
    ∙ (take-append_seam x.words (spread others xs) ∙ ap (λ (z : Block). z.words) same)
slice_spread page at others (x ∷ xs) (suc k) b i laid e here =
    let from = at_from page (at + extent x) xs k b laid.3 e in
    let n : ℕ = extent x in
    let from' : at + n ≤ b.at = from in
    let step : i ≡ n + (i - n) = omega arith in
    ap (λ (m : ℕ). take (extent b) (drop m (x.words ++ spread others xs))) step
    ∙ (ap (take (extent b)) (drop-append-add x.words (spread others xs) (i - n))
    ∙ slice_spread page (at + n) others xs k b (i - n) laid.3 e (omega arith))

-- the words of a block among all words
pub slice_shown : (shape : Dimensions) (words : List ℕ) (layout : Layout) (k : ℕ) (b : Block) → IsShown shape words layout
    → get_elem? layout.blocks k ≡ some b → take (extent b) (drop b.at words) ≡ b.words
slice_shown shape words layout k b shown e =
    let from = at_from shape.page 12 layout.blocks k b shown.sound.laid e in
    let body : List ℕ = spread (replicate layout.spare 0) layout.blocks in
    let step : b.at ≡ 12 + (b.at - 12) = omega arith in
    ap (λ (ws : List ℕ). take (extent b) (drop b.at ws)) shown.shows
    ∙ (ap (λ (m : ℕ). take (extent b) (drop m (head_words shape layout ++ body))) step
    ∙ (ap (take (extent b)) (drop-append-add (head_words shape layout) body (b.at - 12))
    ∙ slice_spread shape.page 12 (replicate layout.spare 0) layout.blocks k b (b.at - 12) shown.sound.laid e (omega arith)))

zero_at : (n i : ℕ) → get_or (replicate {A = ℕ} n 0) i 0 ≡ 0
zero_at zero i = refl
zero_at (suc n) zero = refl
zero_at (suc n) (suc i) = zero_at n i

behind_spread : (at n : ℕ) (blocks : List Block) (i : ℕ) → end_of at blocks ≤ at + i → get_or (spread (replicate n 0) blocks) i 0 ≡ 0
behind_spread at n [] i le = zero_at n i
behind_spread at n (x ∷ xs) i le =
    let end = from_end (at + extent x) xs in
    let step : at + extent x + (i - extent x) ≡ at + i = omega (arith, end, le) in
    get_or-append_right x.words (spread (replicate n 0) xs) (extent x) i 0 refl (omega (arith, end, le))
    ∙ behind_spread (at + extent x) n xs (i - extent x) (omega (arith, le, step))

-- the words from the free pointer on are 0
pub behind_shown : (shape : Dimensions) (words : List ℕ) (layout : Layout) (at : ℕ) → IsShown shape words layout → free_of layout ≤ at
    → word_at words at ≡ 0
behind_shown shape words layout at shown le =
    let from = from_end 12 layout.blocks in
    let body : List ℕ = spread (replicate layout.spare 0) layout.blocks in
    let step : 12 + (at - 12) ≡ at = omega (arith, from, le) in
    ap (λ (ws : List ℕ). get_or ws at 0) shown.shows
    ∙ (get_or-append_right (head_words shape layout) body 12 at 0 refl (omega (arith, from, le))
    ∙ behind_spread 12 layout.spare layout.blocks (at - 12) (omega (arith, le, step)))

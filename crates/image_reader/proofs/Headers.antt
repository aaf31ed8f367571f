-- What a valid header and a valid block say of the words.
use Rattle.std.proofs.Common.{◌≡◌, Bool, true, false, not, ◌&&◌, ◌==◌, if◌then◌else◌, ℕ, ◌+◌, ◌%◌, ◌≤◌, List, [], ◌∷◌, length, Option, Some, None, Ok, Err, refl, arith, ap, sym, ◌∙◌}
use Rattle.std.specs.Prelude.{nat_lt, nat_le}
use Rattle.std.specs.List.{AllByRecursion, list_any}
use Rattle.std.proofs.lemmas.Bool.{not-false, or_parts, and_parts, and_from, leb-true, ltb-false, eqb-true, eq-eqb, ne_eqb}
use Rattle.segment_image.specs.Checks.{checked, first_fault}
use Rattle.segment_image.specs.Words.{word_at}
use Rattle.segment_image.specs.Shape.{is_size}
use Rattle.segment_image.specs.Head.{header_of, header_checks, head_of}
use Rattle.segment_image.specs.Blocks.{block_of, block_checks, block_head_of, field_at, is_placed, is_claimed}
use Rattle.segment_image.specs.declared.head.SegmentHead.{SegmentHead}
use Rattle.segment_image.specs.declared.blocks.BlockHead.{BlockHead}
use Rattle.segment_image.specs.declared.fault.ImageFault.{ImageFault}
use Rattle.segment_image.specs.declared.fault.ImageFault.TheVariants.{BadRef, BadBlock, Loop}
use Rattle.bucket_ranges.specs.Reading.{before, is_block, next_of, stop_of}
use Rattle.bucket_ranges.proofs.Walks.{is_block-within}

-- if checks give a value, none of them fails, and it is the value that they were given
pub checked_ok : {F X : Type 0} (checks : List (Bool × F)) (x y : X) → checked checks x ≡ Ok y
    → AllByRecursion (λ check. check.0 ≡ false) checks × (x ≡ y)
checked_ok [] x y e = (tt, cc)
checked_ok ((true, fault) ∷ rest) x y e = absurd (cc)
checked_ok ((false, fault) ∷ rest) x y e = let more = checked_ok rest x y e in ((refl, more.0), more.1)

-- what a valid header says of its words
pub record IsHeaded (words : List ℕ) (head : SegmentHead) : Type 0 where
  pub long : 16 ≤ length words
  pub free_within : head.free ≤ length words
  pub few : length words ≤ 1048576

pub IsHeaded-from_header : (words : List ℕ) (head : SegmentHead) → header_of words ≡ Ok head → IsHeaded words head
IsHeaded-from_header words head e =
    let passed = checked_ok (header_checks words) (head_of words) head e in
    let p = passed.0 in
    let long : 16 ≤ length words = ltb-false (length words) 16 p.0 in
    let size : word_at words 2 ≡ length words = eqb-true (word_at words 2) (length words)
    (not-false (word_at words 2 == length words)
    (or_parts (not (word_at words 2 == length words)) (not (is_size (word_at words 2) (word_at words 3))) p.1.1.1.1.0).0) in
    let free : word_at words 7 ≤ word_at words 2 = ltb-false (word_at words 2) (word_at words 7)
    (or_parts (nat_lt (word_at words 7) 16) (nat_lt (word_at words 2) (word_at words 7)) p.1.1.1.1.1.1.1.0).1 in
    let same : (head_of words).free ≡ head.free = ap (λ (h : SegmentHead). h.free) passed.1 in
    let sized : is_size (word_at words 2) (word_at words 3) ≡ true = not-false (is_size (word_at words 2) (word_at words 3))
    (or_parts (not (word_at words 2 == length words)) (not (is_size (word_at words 2) (word_at words 3))) p.1.1.1.1.0).1 in
    let paged : (nat_le (word_at words 3) (word_at words 2) && nat_le (word_at words 2) 1048576) ≡ true =
    (and_parts (nat_le (word_at words 3) (word_at words 2) && nat_le (word_at words 2) 1048576)
    (word_at words 2 % word_at words 3 == 0) sized).0 in
    let most : word_at words 2 ≤ 1048576 = leb-true (word_at words 2) 1048576
    (and_parts (nat_le (word_at words 3) (word_at words 2)) (nat_le (word_at words 2) 1048576) paged).1 in
    record { long = long; free_within = omega (arith, size, free, same); few = omega (arith, size, most) }

-- what the head of a valid block is
pub record IsBlockHead (words : List ℕ) (head : SegmentHead) (reference : ℕ) (found : BlockHead) : Type 0 where
  pub lawful : is_block words head reference ≡ true
  pub found_is : block_head_of words reference ≡ found

pub IsBlockHead-from_block : (words : List ℕ) (head : SegmentHead) (reference : ℕ) (found : BlockHead)
    → block_of words head reference ≡ Ok found → IsBlockHead words head reference found
IsBlockHead-from_block words head reference found e =
    let passed = checked_ok (block_checks words head reference) (block_head_of words reference) found e in
    record {
      lawful = and_from (is_placed head reference) (is_claimed words head reference)
          (not-false (is_placed head reference) passed.0.0) (not-false (is_claimed words head reference) passed.0.1.0);
      found_is = passed.1;
    }

-- a valid block lies in the words
pub block_in_words : (words : List ℕ) (head : SegmentHead) (reference : ℕ) → header_of words ≡ Ok head
    → is_block words head reference ≡ true
    → (5 ≤ field_at words reference 0) × (reference + field_at words reference 0 ≤ length words)
block_in_words words head reference h lawful =
    let headed = IsHeaded-from_header words head h in
    let (from, least, extent) = is_block-within words head reference lawful in
    let free = headed.free_within in
    (least, omega (arith, extent, free))

-- all of a block that was found lies in the words
pub block_extent : (words : List ℕ) (head : SegmentHead) (reference : ℕ) (found : BlockHead)
    → header_of words ≡ Ok head → block_of words head reference ≡ Ok found
    → (5 ≤ found.size) × (reference + found.size ≤ length words)
block_extent words head reference found h e =
    let block = IsBlockHead-from_block words head reference found e in
    let lies = block_in_words words head reference h block.lawful in
    let same : field_at words reference 0 ≡ found.size = ap (λ (b : BlockHead). b.size) block.found_is in
    (omega arith, omega arith)

-- why a list stops at its last next, from what is known of that next
stop_at-fault : (end placed claimed again : Bool) (found : BlockHead) (fault : ImageFault) → end ≡ false
    → checked ((not placed, BadRef) ∷ (not claimed, BadBlock) ∷ []) found ≡ Err fault
    → (if end then None else first_fault ((not placed, BadRef) ∷ (not claimed, BadBlock) ∷ (again, Loop) ∷ [])) ≡ Some fault
stop_at-fault true placed claimed again found fault p q = absurd (cc)
stop_at-fault false false claimed again found fault p q = cc
stop_at-fault false true false again found fault p q = cc
stop_at-fault false true true again found fault p q = absurd (cc)

-- the last next is not 12
going_on : (next last : ℕ) → next ≡ last → (next ≡ 12 → ⊥) → (last == 12) ≡ false
going_on next last is going = ne_eqb last 12 (λ e. going (is ∙ e))

-- if the block at the last next has a fault, this is why the list stops
pub stop_of-bad_block : (words : List ℕ) (head : SegmentHead) (references : List ℕ) (next : ℕ) (fault : ImageFault)
    → next ≡ next_of words (before references (length references)) → (next ≡ 12 → ⊥)
    → block_of words head next ≡ Err fault
    → stop_of words head references ≡ Some fault
stop_of-bad_block words head references next fault is going e =
    let last : ℕ = next_of words (before references (length references)) in
    stop_at-fault (last == 12) (is_placed head last) (is_claimed words head last) (list_any (λ (x : ℕ). x == last) references)
    (block_head_of words last) fault (going_on next last is going) (ap (block_of words head) (sym is) ∙ e)

stop_at-loop : (end placed claimed again : Bool) → end ≡ false → (placed && claimed) ≡ true → again ≡ true
    → (if end then None else first_fault ((not placed, BadRef) ∷ (not claimed, BadBlock) ∷ (again, Loop) ∷ [])) ≡ Some Loop
stop_at-loop true placed claimed again p q r = absurd (cc)
stop_at-loop false false claimed again p q r = absurd (cc)
stop_at-loop false true false again p q r = absurd (cc)
stop_at-loop false true true true p q r = refl
stop_at-loop false true true false p q r = absurd (cc)

-- if the next block is valid but was visited before, this is why the list stops
pub stop_of-loop : (words : List ℕ) (head : SegmentHead) (references : List ℕ) (next : ℕ)
    → next ≡ next_of words (before references (length references)) → (next ≡ 12 → ⊥)
    → is_block words head next ≡ true
    → list_any (λ reference. reference == next) references ≡ true
    → stop_of words head references ≡ Some Loop
stop_of-loop words head references next is going block again =
    let last : ℕ = next_of words (before references (length references)) in
    stop_at-loop (last == 12) (is_placed head last) (is_claimed words head last)
    (list_any (λ (x : ℕ). x == last) references)
    (going_on next last is going)
    (ap (is_block words head) (sym is) ∙ block)
    (ap (λ (n : ℕ). list_any (λ (x : ℕ). x == n) references) (sym is) ∙ again)

stop_at-end : (end : Bool) (other : Option ImageFault) → end ≡ true → (if end then None else other) ≡ None
stop_at-end true other e = refl
stop_at-end false other e = absurd (cc)

-- at 12 the list ends
pub stop_of-end : (words : List ℕ) (head : SegmentHead) (references : List ℕ) (next : ℕ)
    → next ≡ next_of words (before references (length references)) → next ≡ 12
    → stop_of words head references ≡ None
stop_of-end words head references next is end =
    let last : ℕ = next_of words (before references (length references)) in
    stop_at-end (last == 12) (first_fault (
    (not (is_placed head last), BadRef)
    ∷ (not (is_claimed words head last), BadBlock)
    ∷ (list_any (λ (x : ℕ). x == last) references, Loop)
    ∷ [])) (eq-eqb last 12 (sym is ∙ end))

no_block : (placed claimed : Bool) (found : BlockHead) (fault : ImageFault)
    → checked ((not placed, BadRef) ∷ (not claimed, BadBlock) ∷ []) found ≡ Err fault → (placed && claimed) ≡ false
no_block false claimed found fault e = refl
no_block true false found fault e = refl
no_block true true found fault e = absurd (cc)

-- if a block has a fault, there is no valid block
pub is_block-from_fault : (words : List ℕ) (head : SegmentHead) (reference : ℕ) (fault : ImageFault)
    → block_of words head reference ≡ Err fault → is_block words head reference ≡ false
is_block-from_fault words head reference fault e =
    no_block (is_placed head reference) (is_claimed words head reference) (block_head_of words reference) fault e

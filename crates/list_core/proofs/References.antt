-- Which words can be references of a list.
use Rattle.std.proofs.Common.{◌≡◌, ◌⊎◌, ℕ, ◌+◌, ◌≤◌, ◌==◌, true, List, length, inl, inr, ⊎_elim, arith}
use Rattle.std.specs.Prelude.{nat_le}
use Rattle.std.proofs.lemmas.Bool.{le-leb, leb-true, eqb-true, and_from, and_parts, or_right, or_cases}
use Rattle.segment_image.specs.Blocks.{is_block}
use Rattle.segment_image.specs.declared.head.SegmentHead.{SegmentHead}
use Rattle.bucket_ranges.proofs.Walks.{is_block-within}
use Rattle.list_core.specs.Chain.{is_reference}

-- a reference is the queue block, or a place where a smallest block ends within the words
pub reference_place : (n at : ℕ) → is_reference n at ≡ true → (at ≡ 12) ⊎ ((16 ≤ at) × (at + 5 ≤ n))
reference_place n at is = ⊎_elim
    (λ queue. inl (eqb-true at 12 queue))
    (λ block. let (low, high) = and_parts _ _ block in inr (leb-true 16 at low, leb-true (at + 5) n high))
    (or_cases _ _ is)

-- and a place where one ends so is a reference
pub place_reference : (n at : ℕ) → 16 ≤ at → at + 5 ≤ n → is_reference n at ≡ true
place_reference n at low high = or_right (at == 12) _ (and_from (nat_le 16 at) _ (le-leb 16 at low) (le-leb (at + 5) n high))

-- so a valid block is one
pub block_reference : (words : List ℕ) (head : SegmentHead) (at : ℕ) → is_block words head at ≡ true → head.free ≤ length words
    → is_reference (length words) at ≡ true
block_reference words head at lawful free =
    let (from, five, within) = is_block-within words head at lawful in place_reference (length words) at from (omega (arith, five, within, free))

-- The blocks of an image, with one more record.
use Rattle.std.proofs.Common.{◌≡◌, Bool, false, not, ◌&&◌, [], ◌∷◌, refl, subst, true, ℕ, ◌+◌, ◌<◌, ◌≤◌, List, ◌++◌, length, get_or, take, flat_map, All, Ok, arith, sym, ap, ◌∙◌}
use Rattle.std.specs.Prelude.{is_ok}
use Rattle.std.proofs.lemmas.List.{flat_map_more, get_or_default, take_more}
use Rattle.std.proofs.lemmas.List.Elements.{All-take}
use mathlib.Core.Option.{some}
use lib.ListN.{get_elem?}
use Rattle.segment_image.specs.Head.{header_of}
use Rattle.segment_image.specs.Blocks.{block_head_of, block_of, field_at, is_block, is_claimed, is_placed}
use Rattle.segment_image.specs.Checks.{checked}
use Rattle.segment_image.specs.declared.blocks.BlockHead.{BlockHead}
use Rattle.segment_image.specs.declared.fault.ImageFault.TheVariants.{BadBlock, BadRef}
use Rattle.bucket_ranges.specs.Reading.{IsListed, reading_along}
use Rattle.segment_image.specs.declared.head.SegmentHead.{SegmentHead}
use Rattle.image_reader.proofs.Headers.{block_in_words}
use Rattle.list_lemmas.proofs.Elements.{all_at}
use Rattle.image_rules.specs.Adoption.{IsUndamaged, named_counts}
use Rattle.image_reader.proofs.Sound.{IsReadable-from_none}
use Rattle.image_adoption.specs.Records.{HasApartBlocks, IsFaultless, NamesBlock}
use Rattle.image_adoption.proofs.Faultless.{counts_block, faultless_of}

pub more_blocks : (words references blocks new : List ℕ) (i : ℕ) → i < length references
    → blocks ≡ references ++ flat_map (named_counts words) (take i references)
    → new ≡ blocks ++ named_counts words (get_or references i 0)
    → new ≡ references ++ flat_map (named_counts words) (take (i + 1) references)
more_blocks words references blocks new i below so_far is =
    is
    ∙ (ap (λ (front : List ℕ). front ++ named_counts words (get_or references i 0)) so_far
    ∙ (flat_map_more (named_counts words) references (take i references) (get_or references i 0)
    ∙ ap (λ (front : List ℕ). references ++ flat_map (named_counts words) front) (sym (take_more references i 0 below))))

-- the blocks so far have some words
pub blocks_long : (words : List ℕ) (head : SegmentHead) (blocks : List ℕ) (n : ℕ) → header_of words ≡ Ok head
    → All (λ at. is_block words head at ≡ true) blocks → (i a : ℕ) → get_elem? (take n blocks) i ≡ some a → 1 ≤ field_at words a 0
blocks_long words head blocks n header lawful i a here =
    let block = all_at (λ at. is_block words head at ≡ true) (take n blocks) i a (All-take (λ at. is_block words head at ≡ true) n blocks lawful) here in
    let lies = block_in_words words head a header block in
    omega (arith, lies)

tested : (placed claimed : Bool) (found : BlockHead)
    → is_ok (checked ((not placed, BadRef) ∷ (not claimed, BadBlock) ∷ []) found) ≡ (placed && claimed)
tested false claimed found = refl
tested true false found = refl
tested true true found = refl

-- there is a block at a reference exactly if its header can be read
pub is_ok-block : (words : List ℕ) (head : SegmentHead) (reference : ℕ) → is_ok (block_of words head reference) ≡ is_block words head reference
is_ok-block words head reference = tested (is_placed head reference) (is_claimed words head reference) (block_head_of words reference)

-- a record without a fault names a block as counts, or none
pub names_of : (words : List ℕ) (head : SegmentHead) (at : ℕ) → IsFaultless words head at → NamesBlock words head at
names_of words head at good = record {
  block = good.block;
  fields = λ one. (IsReadable-from_none words head at (good.histogram one)).long;
  counts = λ one some. counts_block words head at (good.histogram one) some;
}

-- and so all on a list that is not damaged do, and the blocks are apart
pub apart_of : (words : List ℕ) (head : SegmentHead) (references : List ℕ) → IsListed words head references
    → IsUndamaged words references (reading_along words head references) → HasApartBlocks words head references
apart_of words head references listed undamaged = record {
  named = λ k d below. names_of words head (get_or references k d) (faultless_of words head references listed.walk.lawful undamaged.lawful.0 k d below);
  apart = undamaged.apart;
}

-- each record on a list is a block
pub blocks_listed : (words : List ℕ) (head : SegmentHead) (references : List ℕ) → IsListed words head references
    → All (λ at. is_block words head at ≡ true) references
blocks_listed words head references listed k d below =
    subst (λ (at : ℕ). is_block words head at ≡ true) (get_or_default references k 0 d below) (listed.walk.lawful k below)

-- The counts and marks follow the header of the block.
use Rattle.std.proofs.Common.{◌≡◌, false, ℕ, ◌+◌, ◌*◌, ◌≤◌, arith, sym, ap, ◌∙◌, get_or, length}
use Rattle.std.proofs.lemmas.Bool.{and_parts, lt-leb, not-true, eq-eqb}
use Rattle.std.proofs.lemmas.Bool.Decides.{Decides-at, Decides-like}
use Rattle.segment_image.specs.Blocks.{field_at}
use Rattle.bucket_ranges.specs.Reading.{is_sparse}
use Rattle.image_adoption.proofs.Zeros.{zeros_in}
use Rattle.image_adoption.proofs.counts.has_unused_counts.Goals as goal

pub returns : goal.returns
returns c =
    let words = c.args.words.now in
    let counts = field_at words c.args.at 8 in
    let n = field_at words c.args.at 7 in
    let tests = and_parts _ _ (sym c.has_block.ensures ∙ c.if-not-has_block.false) in
    let bucketed : is_sparse words c.args.at ≡ false = not-true _ tests.0 in
    let named = λ (none : counts ≡ 0). absurd (cc (tests.1, eq-eqb counts 0 none)) in
    let on = lt-leb 9223372036854775808 (field_at words c.args.at 9) c.if-words-at-ge-DISABLED_BIT.false in
    let room = c.requires.counts bucketed (omega (arith, named)) in
    let within : counts + 4 + 2 * n ≤ length words = omega (arith, room) in
    let place = λ (i : ℕ). ap (λ (at : ℕ). get_or words at 0) (regroup counts i) in
    Decides-at c.are_zeros.result _ c.are_zeros.ensures
    (Decides-like _
    (λ each i sparse some off below. place i ∙ each i (omega (arith, below, c.requires.buckets)))
    (λ zeros i below. sym (place i) ∙ zeros i bucketed named on (omega (arith, below, c.requires.buckets)))
    (zeros_in words (counts + 4) (2 * n) within))
  where
    regroup : (a i : ℕ) → a + (4 + i) ≡ a + 4 + i
    regroup a i = omega arith

-- The marks follow the counts in the block.
use Rattle.std.proofs.Common.{◌≡◌, false, ℕ, ◌+◌, Some, arith, refl, sym, ap, ◌∙◌, get_or}
use Rattle.std.proofs.lemmas.Bool.{and_parts, eq-eqb, not-true}
use Rattle.std.proofs.lemmas.Bool.Decides.{Decides-eqb, Decides-like}
use Rattle.segment_image.specs.Blocks.{field_at}
use Rattle.bucket_ranges.specs.Single.{packed_bucket}
use Rattle.bucket_ranges.specs.Reading.{is_sparse, record_buckets, record_single}
use Rattle.image_adoption.proofs.counts.has_packed_mark.Goals as goal

pub returns : goal.returns
returns c =
    let words = c.args.words.now in
    let counts = field_at words c.args.at 8 in
    let bucket = c.in-Some.bucket in
    let tests = and_parts _ _ (sym c.has_block.ensures ∙ c.if-not-has_block.false) in
    let bucketed : is_sparse words c.args.at ≡ false = not-true _ tests.0 in
    let named = λ (none : counts ≡ 0). absurd (cc (tests.1, eq-eqb counts 0 none)) in
    let packs : packed_bucket (record_single 2 words c.args.at) ≡ Some bucket = sym c.packed_bucket.ensures.bucket ∙ c.in-Some.is in
    let place = λ (i : ℕ) (same : i ≡ bucket). ap (λ (at : ℕ). get_or words at 0) (regroup counts (record_buckets words c.args.at) (field_at words c.args.at 7) i bucket c.requires.buckets same) in
    Decides-like _
    (λ zero i sparse some packed. place i (inside i bucket (sym packed ∙ packs)) ∙ zero)
    (λ mark. sym (place bucket refl) ∙ mark bucket bucketed named packs)
    (Decides-eqb _ 0)
  where
    regroup : (a n m i b : ℕ) → n ≡ m → i ≡ b → a + (4 + (n + i)) ≡ a + (4 + m) + b
    regroup a n m i b same equal = omega (arith, same, equal)

    inside : (i b : ℕ) → Some i ≡ Some b → i ≡ b
    inside i b same = cc same

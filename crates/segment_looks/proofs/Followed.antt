-- How the records that are followed continue.
use Rattle.std.proofs.Common.{◌≡◌, true, false, ℕ, zero, suc, ◌+◌, ◌-◌, ◌<◌, ◌≤◌, List, [], ◌∷◌, ◌++◌, length, arith, refl, sym, ap, ◌∙◌}
use Rattle.std.proofs.lemmas.List.{append-nil, append_assoc, length-append}
use Rattle.segment_image.specs.Blocks.{is_placed}
use Rattle.segment_image.specs.declared.head.SegmentHead.{SegmentHead}
use Rattle.bucket_ranges.specs.Listed.{next_of}
use Rattle.segment_looks.specs.Looks.{records_from}

-- no more records are asked for
pub records_from-none : (head : SegmentHead) (two : List ℕ) (most reference : ℕ) → most ≤ 0 → records_from head two most reference ≡ []
records_from-none head two zero reference e = refl
records_from-none head two (suc most) reference e = absurd (omega (arith, e))

-- there is no room for a block at the reference
pub records_from-end : (head : SegmentHead) (two : List ℕ) (most reference : ℕ) → is_placed head reference ≡ false
    → records_from head two most reference ≡ []
records_from-end head two zero reference e = refl
records_from-end head two (suc most) reference e = rw e refl

-- there is room for a block there
pub records_from-more : (head : SegmentHead) (two : List ℕ) (most reference : ℕ) → 0 < most → is_placed head reference ≡ true
    → records_from head two most reference ≡ reference ∷ records_from head two (most - 1) (next_of two reference)
records_from-more head two zero reference some e = absurd (omega (arith, some))
records_from-more head two (suc most) reference some e =
    let less : suc most - 1 ≡ most = omega arith in rw (less, e) refl

-- one more record is known
pub records_from-push : (head : SegmentHead) (two records all : List ℕ) (most next : ℕ) → length records < most → is_placed head next ≡ true
    → records ++ records_from head two (most - length records) next ≡ all
    → (records ++ next ∷ []) ++ records_from head two (most - length (records ++ next ∷ [])) (next_of two next) ≡ all
records_from-push head two records all most next few placed e =
    let long : length (records ++ next ∷ []) ≡ length records + 1 = length-append records (next ∷ []) in
    let less : most - length (records ++ next ∷ []) ≡ most - length records - 1 = omega (arith, long) in
    let more = records_from-more head two (most - length records) next (omega (arith, few)) placed in
    rw less (append_assoc records (next ∷ []) (records_from head two (most - length records - 1) (next_of two next))
    ∙ ap (λ (rest : List ℕ). records ++ rest) (sym more) ∙ e)

-- no more is: all are known
pub records_from-all : (head : SegmentHead) (two records all : List ℕ) (most next : ℕ)
    → records_from head two (most - length records) next ≡ []
    → records ++ records_from head two (most - length records) next ≡ all → records ≡ all
records_from-all head two records all most next none e =
    sym (append-nil records) ∙ ap (λ (rest : List ℕ). records ++ rest) (sym none) ∙ e

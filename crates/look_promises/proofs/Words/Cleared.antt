-- A look is 0 from its free pointer on: no patch of a record reaches there, and the last patch is of zeros.
use Rattle.segment_invariant.proofs.Prelude.Std.{◌≡◌, ℕ, suc, ◌+◌, ◌-◌, ◌*◌, ◌<◌, ◌≤◌, ◌==◌, ◌&&◌, ◌||◌, Bool, true, false, List, [], ◌∷◌, ◌++◌, length, inr, refl, sym, ap, ◌∙◌, arith, slice_index, if◌then◌else◌, nat_le, leb-true, and_parts, length-replicate}
use Rattle.segment_invariant.proofs.Prelude.Machine.{word_at}
use Rattle.std.specs.List.{slice_range}
use Rattle.std.proofs.lemmas.List.{get_or-replicate}
use Rattle.segment_image.specs.declared.head.SegmentHead.{SegmentHead}
use Rattle.bucket_ranges.specs.Listed.{before}
use Rattle.segment_looks.specs.Patches.{Patch, patched_word}
use Rattle.segment_looks.specs.Looks.{IsLook, counts_looked, counts_patches, counts_reference, has_room, histogram_patches, histogram_words, is_frozen, link, list_start, record_patches, records_patches, sample_patches, unclaimed}
use Rattle.segment_looks.proofs.Patched.{patched_word-append}
use Rattle.look_promises.specs.Images.{LooksEndInZeros}
use Rattle.look_promises.proofs.Copies.ThreeCopies.{ThreeCopies, three_copies, seen_in}
use Rattle.look_promises.proofs.Copies.Headers.{free_within, of_state}
use Rattle.look_promises.proofs.Words.Patches.{HaveNone, first_has, first_not, looked_most, none_joined, none_more, none_of_none, none_unless, range_most}
use Rattle.look_promises.proofs.Words.Images.{followed_is}

-- ---- what is taken of records, of any copies

none_where : (b : Bool) (ps : List Patch) (n : ℕ) → (b ≡ true → HaveNone ps n) → HaveNone (if b then ps else []) n
none_where true ps n none = none refl
none_where false ps n none = none_of_none n

module _ (head : SegmentHead) (one two three : List ℕ) (n : ℕ) (behind : head.free ≤ n) where
  counts_before : (x named buckets : ℕ) → ((named == 0) ≡ false → named + (4 + 2 * buckets) ≤ head.free) → HaveNone (counts_patches one two x named buckets) n
  counts_before x named buckets room =
      none_unless (named == 0) (record { from = named + 4; words = counts_looked two x (named + 4) buckets }
      ∷ record { from = named + 4 + buckets; words = slice_range one (named + 4 + buckets) (named + 4 + buckets + buckets) } ∷ []) n (λ some.
      let fits = room some in
      let units = looked_most (is_frozen two x) two (named + 4) buckets in
      let marks = range_most one (named + 4 + buckets) buckets in
      none_more (record { from = named + 4; words = counts_looked two x (named + 4) buckets })
      (record { from = named + 4 + buckets; words = slice_range one (named + 4 + buckets) (named + 4 + buckets + buckets) } ∷ []) n (inr (omega (arith, fits, units, behind)))
      (none_more (record { from = named + 4 + buckets; words = slice_range one (named + 4 + buckets) (named + 4 + buckets + buckets) }) [] n
      (inr (omega (arith, fits, marks, behind))) (none_of_none n)))

  -- a record whose words are patched has room, and so have its counts
  has_fit : (x named buckets : ℕ) → (nat_le (x + 16) head.free && has_room head named buckets) ≡ true
      → (x + 16 ≤ head.free) × ((named == 0) ≡ false → named + (4 + 2 * buckets) ≤ head.free)
  has_fit x named buckets is =
      let (record_fits, room) = and_parts (nat_le (x + 16) head.free) (has_room head named buckets) is in
      let (few, counts_fit) = and_parts (nat_le buckets 1000) ((named == 0) || (nat_le 16 named && nat_le (named + (4 + 2 * buckets)) head.free)) room in (
        leb-true (x + 16) head.free record_fits,
        λ some.
            let both : (nat_le 16 named && nat_le (named + (4 + 2 * buckets)) head.free) ≡ true =
            ap (λ (b : Bool). b || (nat_le 16 named && nat_le (named + (4 + 2 * buckets)) head.free)) (sym some) ∙ counts_fit in
            leb-true (named + (4 + 2 * buckets)) head.free (and_parts (nat_le 16 named) (nat_le (named + (4 + 2 * buckets)) head.free) both).1,
      )

  record_before : (x : ℕ) → HaveNone (record_patches head one two three x) n
  record_before x = by_type (word_at three (x + 2) == 1) (word_at three (x + 2) == 3)
    where
      by_type : (b c : Bool) → HaveNone (if b then histogram_patches head one two three x else (if c then sample_patches head one two x else [])) n
      by_type true c =
          none_where (nat_le (x + 16) head.free && has_room head (counts_reference two three x) (word_at three (x + 7)))
          (record { from = x + 8; words = histogram_words one two three x } ∷ counts_patches one two x (counts_reference two three x) (word_at three (x + 7))) n (λ is.
          let (fits, room) = has_fit x (counts_reference two three x) (word_at three (x + 7)) is in
          none_more (record { from = x + 8; words = histogram_words one two three x }) (counts_patches one two x (counts_reference two three x) (word_at three (x + 7))) n
          (inr (omega (arith, fits, behind))) (counts_before x (counts_reference two three x) (word_at three (x + 7)) room))
      by_type false true =
          none_where (nat_le (x + 8) head.free) (record { from = x + 6; words = word_at two (x + 6) ∷ word_at one (x + 7) ∷ [] } ∷ []) n (λ is.
          let fits = leb-true (x + 8) head.free is in
          none_more (record { from = x + 6; words = word_at two (x + 6) ∷ word_at one (x + 7) ∷ [] }) [] n (inr (omega (arith, fits, behind))) (none_of_none n))
      by_type false false = none_of_none n

  all_before : (records : List ℕ) → ((j : ℕ) → j < length records → slice_index records j + 5 ≤ head.free) → HaveNone (records_patches head one two three records) n
  all_before [] placed = none_of_none n
  all_before (x ∷ rest) placed =
      let here = placed 0 (omega arith) in
      none_more (link x (list_start rest)) (record_patches head one two three x ++ records_patches head one two three rest) n (inr (omega (arith, here, behind)))
      (none_joined (record_patches head one two three x) (records_patches head one two three rest) n (record_before x)
      (all_before rest (λ j lt. placed (suc j) (omega (arith, lt)))))

-- ---- a look

module _ (copies : ThreeCopies) (image : List ℕ) where
  open copies use {shape, one, two, three, loaded}
  open seen_in copies use {list, hd, records}

  abbrev rest : List Patch
  rest = records_patches hd one two three records ++ unclaimed hd (length three) ∷ []

  abbrev tail : Patch
  tail = record { from = 8; words = before records (length records) ∷ [] }

  placed : (j : ℕ) → j < length records → slice_index records j + 5 ≤ hd.free
  placed j lt =
      let (same, g) = followed_is copies image j lt in
      let fits = leb-true (slice_index list j + 5) hd.free
      (and_parts (nat_le 16 (slice_index list j))
      (nat_le (slice_index list j + 5) hd.free) g.placed).1 in
      omega (arith, same, fits)

  pub cleared : IsLook hd one two three image → (n : ℕ) → hd.free ≤ n → n < shape.size → word_at image n ≡ 0
  cleared look n behind below =
      let free = (free_within copies).0 in
      let is = of_state copies 7 (omega arith) in
      let size = loaded.copy_three.long in
      let many = length-replicate {A = ℕ} (length three - hd.free) 0 in
      look.each n
      ∙ (first_not (link 12 (list_start records)) (tail ∷ rest) n (word_at three n) (inr (omega (arith, free, is, behind)))
      ∙ (first_not tail rest n (word_at three n) (inr (omega (arith, free, is, behind)))
      ∙ (patched_word-append (records_patches hd one two three records) (unclaimed hd (length three) ∷ []) n (word_at three n)
      ∙ (all_before hd one two three n behind records placed (patched_word (unclaimed hd (length three) ∷ []) n (word_at three n))
      ∙ (first_has (unclaimed hd (length three)) [] n (word_at three n) behind (omega (arith, below, size, many, behind))
      ∙ get_or-replicate (length three - hd.free) (n - hd.free) 0 0 (omega (arith, below, size, behind)))))))

pub looks_end_in_zeros : LooksEndInZeros
looks_end_in_zeros shape opened at first last moments one two three image run loaded look n behind below =
    cleared (three_copies shape opened at first last moments one two three run loaded) image look n behind below

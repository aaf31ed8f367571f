-- Which word patches give at an index: none of them has one there, or one has it.
use Rattle.segment_invariant.proofs.Prelude.Std.{◌≡◌, ◌≢◌, ◌⊎◌, ℕ, zero, suc, ◌+◌, ◌-◌, ◌<◌, ◌≤◌, ◌==◌, ◌&&◌, Bool, true, false, List, [], ◌∷◌, ◌++◌, drop, length, inl, inr, refl, ap, ◌∙◌, arith, slice_index, if◌then◌else◌, nat_le, and_from, le-leb, lt-ltb, eqb-true, eqb-false, replicate, length-replicate}
use Rattle.segment_invariant.proofs.Prelude.Machine.{word_at}
use Rattle.std.specs.List.{slice_range}
use Rattle.std.proofs.Math.Decide.{dec_lt}
use Rattle.std.proofs.lemmas.List.{length-take}
use Rattle.segment_image.specs.declared.head.SegmentHead.{SegmentHead}
use Rattle.segment_looks.specs.Patches.{Patch, has_word, patched_word}
use Rattle.segment_looks.specs.Looks.{counts_looked, counts_patches, counts_reference, has_room, histogram_patches, histogram_words, is_frozen, link, list_start, record_patches, records_patches, sample_patches}
use Rattle.segment_looks.proofs.Patched.{patched_word-append}

-- ---- one patch

-- a patch begins after an index, or ends before it
pub beside : (p : Patch) (n : ℕ) → (n < p.from) ⊎ (p.from + length p.words ≤ n) → has_word p n ≡ false
beside p n (inl before) = grind arith
beside p n (inr behind) = grind arith

pub inside : (p : Patch) (n : ℕ) → p.from ≤ n → n < p.from + length p.words → has_word p n ≡ true
inside p n from below = and_from _ _ (le-leb p.from n from) (lt-ltb n (p.from + length p.words) below)

-- ---- patches that have no word at an index

abbrev pub HaveNone : List Patch → ℕ → Type 0
HaveNone patches n = (other : ℕ) → patched_word patches n other ≡ other

pub none_of_none : (n : ℕ) → HaveNone [] n
none_of_none n other = refl

pub none_more : (p : Patch) (rest : List Patch) (n : ℕ) → (n < p.from) ⊎ (p.from + length p.words ≤ n) → HaveNone rest n → HaveNone (p ∷ rest) n
none_more p rest n apart none other =
    ap (λ (b : Bool). if b then word_at p.words (n - p.from) else patched_word rest n other) (beside p n apart) ∙ none other

pub none_joined : (ps qs : List Patch) (n : ℕ) → HaveNone ps n → HaveNone qs n → HaveNone (ps ++ qs) n
none_joined ps qs n one other w = patched_word-append ps qs n w ∙ (one (patched_word qs n w) ∙ other w)

none_if : (b : Bool) (ps : List Patch) (n : ℕ) → HaveNone ps n → HaveNone (if b then ps else []) n
none_if true ps n none = none
none_if false ps n none = none_of_none n

pub none_unless : (b : Bool) (ps : List Patch) (n : ℕ) → (b ≡ false → HaveNone ps n) → HaveNone (if b then [] else ps) n
none_unless true ps n none = none_of_none n
none_unless false ps n none = none refl

-- the first patch has the word
pub first_has : (p : Patch) (rest : List Patch) (n other : ℕ) → p.from ≤ n → n < p.from + length p.words
    → patched_word (p ∷ rest) n other ≡ word_at p.words (n - p.from)
first_has p rest n other from below =
    ap (λ (b : Bool). if b then word_at p.words (n - p.from) else patched_word rest n other) (inside p n from below)

-- it has none
pub first_not : (p : Patch) (rest : List Patch) (n other : ℕ) → (n < p.from) ⊎ (p.from + length p.words ≤ n)
    → patched_word (p ∷ rest) n other ≡ patched_word rest n other
first_not p rest n other apart = ap (λ (b : Bool). if b then word_at p.words (n - p.from) else patched_word rest n other) (beside p n apart)

-- ---- those of a record

-- consecutive numbers are all before an index, or all after it
pub apart : (from many n : ℕ) → ((i : ℕ) → i < many → from + i ≢ n) → (n < from) ⊎ (from + many ≤ n)
apart from many n not = elim (dec_lt n from) [
  | yes before ↦ inl before
  | no far ↦ elim (dec_lt n (from + many)) [
    | yes below ↦ absurd (not (n - from) (omega (arith, far, below)) (omega (arith, far)))
    | no behind ↦ inr (omega (arith, behind))
  ]
]

-- a range has no more words than it says
pub range_most : (words : List ℕ) (from many : ℕ) → length (slice_range words from (from + many)) ≤ many
range_most words from many = let most = length-take (from + many - from) (drop from words) in omega (arith, most)

pub looked_most : (b : Bool) (two : List ℕ) (from many : ℕ) → length (if b then slice_range two from (from + many) else replicate {A = ℕ} many 0) ≤ many
looked_most true two from many = range_most two from many
looked_most false two from many = let long = length-replicate {A = ℕ} many 0 in omega (arith, long)

-- if an index lies apart from all numbers of a range, it lies apart from fewer of them
fewer : (from many few n : ℕ) → few ≤ many → (n < from) ⊎ (from + many ≤ n) → (n < from) ⊎ (from + few ≤ n)
fewer from many few n le (inl before) = inl before
fewer from many few n le (inr behind) = inr (omega (arith, behind, le))

module _ (head : SegmentHead) (one two three : List ℕ) (x n : ℕ) where
  abbrev pub named : ℕ
  named = counts_reference two three x

  abbrev pub buckets : ℕ
  buckets = word_at three (x + 7)

  -- an index is outside all that a look takes of a record, whose block has `long` words
  pub record LiesBeside (long : ℕ) : Type 0 where
    pub four : 4 ≤ long
    pub block : (i : ℕ) → i < long → x + i ≢ n
    pub histogram : word_at three (x + 2) ≡ 1 → 15 ≤ long
    pub sample : word_at three (x + 2) ≡ 3 → 8 ≤ long
    pub counts : word_at three (x + 2) ≡ 1 → named ≢ 0 → (i : ℕ) → 4 ≤ i → i < 4 + (buckets + buckets) → named + i ≢ n

  -- those of its counts
  pub counts_apart : (named ≢ 0 → (i : ℕ) → 4 ≤ i → i < 4 + (buckets + buckets) → named + i ≢ n) → HaveNone (counts_patches one two x named buckets) n
  counts_apart not =
      none_unless (named == 0) (record { from = named + 4; words = counts_looked two x (named + 4) buckets }
      ∷ record { from = named + 4 + buckets; words = slice_range one (named + 4 + buckets) (named + 4 + buckets + buckets) } ∷ []) n (λ some.
      none_more (record { from = named + 4; words = counts_looked two x (named + 4) buckets }) (record { from = named + 4 + buckets; words = slice_range one (named + 4 + buckets) (named + 4 + buckets + buckets) } ∷ []) n
      (fewer (named + 4) buckets (length (counts_looked two x (named + 4) buckets)) n (looked_most (is_frozen two x) two (named + 4) buckets)
      (apart (named + 4) buckets n (λ i below same. not (eqb-false named 0 some) (4 + i) (omega arith) (omega (arith, below)) (omega (arith, same)))))
      (none_more (record { from = named + 4 + buckets; words = slice_range one (named + 4 + buckets) (named + 4 + buckets + buckets) }) [] n
      (fewer (named + 4 + buckets) buckets (length (slice_range one (named + 4 + buckets) (named + 4 + buckets + buckets))) n (range_most one (named + 4 + buckets) buckets)
      (apart (named + 4 + buckets) buckets n (λ i below same. not (eqb-false named 0 some) (4 + (buckets + i)) (omega arith) (omega (arith, below)) (omega (arith, same)))))
      (none_of_none n)))

  -- none of a record's patches has the index
  pub record_none : (long : ℕ) → LiesBeside long → HaveNone (record_patches head one two three x) n
  record_none long lies = by_histogram (word_at three (x + 2) == 1) refl
    where
      by_sample : (b : Bool) → (word_at three (x + 2) == 3) ≡ b → HaveNone (if b then sample_patches head one two x else []) n
      by_sample true is =
          let long = lies.sample (eqb-true (word_at three (x + 2)) 3 is) in
          none_if (nat_le (x + 8) head.free) (record { from = x + 6; words = word_at two (x + 6) ∷ word_at one (x + 7) ∷ [] } ∷ []) n
          (none_more (record { from = x + 6; words = word_at two (x + 6) ∷ word_at one (x + 7) ∷ [] }) [] n (apart (x + 6) 2 n (λ i below same. lies.block (6 + i) (omega (arith, below, long)) (omega (arith, same)))) (none_of_none n))
      by_sample false is = none_of_none n

      by_histogram : (b : Bool) → (word_at three (x + 2) == 1) ≡ b
          → HaveNone (if b then histogram_patches head one two three x else (if word_at three (x + 2) == 3 then sample_patches head one two x else [])) n
      by_histogram true is =
          let one_is = eqb-true (word_at three (x + 2)) 1 is in
          let long = lies.histogram one_is in
          none_if (nat_le (x + 16) head.free && has_room head named buckets)
          (record { from = x + 8; words = histogram_words one two three x } ∷ counts_patches one two x named buckets) n
          (none_more (record { from = x + 8; words = histogram_words one two three x }) (counts_patches one two x named buckets) n (apart (x + 8) 6 n (λ i below same. lies.block (8 + i) (omega (arith, below, long)) (omega (arith, same))))
          (counts_apart (lies.counts one_is)))
      by_histogram false is = by_sample (word_at three (x + 2) == 3) refl

-- ---- those of all records

module _ (head : SegmentHead) (one two three : List ℕ) (n : ℕ) where
  -- an index lies apart from what is taken of a record, and from its next
  abbrev pub IsApart : ℕ → Type 0
  IsApart x = (long : ℕ) × LiesBeside head one two three x n long

  pub linked_none : (x next : ℕ) (rest : List Patch) → IsApart x → HaveNone rest n → HaveNone (link x next ∷ rest) n
  linked_none x next rest (long, lies) none =
      none_more (link x next) rest n (apart (x + 3) 1 n (λ i below same. let four = lies.four in lies.block (3 + i) (omega (arith, below, four)) (omega (arith, same)))) none

  pub all_none : (records : List ℕ) → ((j : ℕ) → j < length records → IsApart (slice_index records j)) → HaveNone (records_patches head one two three records) n
  all_none [] apart_all = none_of_none n
  all_none (x ∷ rest) apart_all =
      let here = apart_all 0 (omega arith) in
      linked_none x (list_start rest) _ here
      (none_joined (record_patches head one two three x) (records_patches head one two three rest) n (record_none head one two three x n here.0 here.1)
      (all_none rest (λ j lt. apart_all (suc j) (omega (arith, lt)))))

  -- an index that lies apart from all records but one has what the patches of that one give
  pub one_has : (records : List ℕ) (k other : ℕ) → k < length records → ((j : ℕ) → j < length records → j ≢ k → IsApart (slice_index records j))
      → patched_word (records_patches head one two three records) n other
      ≡ patched_word (link (slice_index records k) (list_start (drop (suc k) records)) ∷ record_patches head one two three (slice_index records k)) n other
  one_has [] k other below apart_all = absurd (omega (arith, below))
  one_has (x ∷ rest) zero other below apart_all =
      patched_word-append (link x (list_start rest) ∷ record_patches head one two three x) (records_patches head one two three rest) n other
      ∙ ap (patched_word (link x (list_start rest) ∷ record_patches head one two three x) n)
      (all_none rest (λ j lt. apart_all (suc j) (omega (arith, lt)) (λ e. cc e)) other)
  one_has (x ∷ rest) (suc k) other below apart_all =
      let here = apart_all 0 (omega arith) (λ e. cc e) in
      patched_word-append (link x (list_start rest) ∷ record_patches head one two three x) (records_patches head one two three rest) n other
      ∙ (linked_none x (list_start rest) (record_patches head one two three x) here (record_none head one two three x n here.0 here.1)
      (patched_word (records_patches head one two three rest) n other)
      ∙ one_has rest k other (omega (arith, below)) (λ j lt ne. apart_all (suc j) (omega (arith, lt)) (λ e. ne (cc e))))

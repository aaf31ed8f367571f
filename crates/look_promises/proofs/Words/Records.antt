-- The words that the patches of a followed record give in its block.
use Rattle.segment_invariant.proofs.Prelude.Std.{◌≡◌, ◌≢◌, ◌⊎◌, ℕ, zero, suc, ◌+◌, ◌-◌, ◌<◌, ◌≤◌, ◌==◌, ◌&&◌, Bool, true, false, List, [], ◌∷◌, length, inl, inr, ⊎_elim, refl, sym, ap, subst, ◌∙◌, arith, slice_index, if◌then◌else◌, nat_le, eq-eqb, ne_eqb, eqb-true, le-leb, None, none, dite, ℕ_discrete, Contains}
use Rattle.segment_invariant.proofs.Prelude.Machine.{word_at, buckets_of}
use Rattle.segment_invariant.proofs.Prelude.Invariant.{Body, Record, Sample, queue, plain, held, histogram, counts, sample, other, words_of, record_words, Stands}
use Rattle.std.proofs.Math.Decide.{dec_lt}
use Rattle.segment_looks.specs.Patches.{Patch, patched_word}
use Rattle.segment_looks.specs.Looks.{counts_patches, counts_reference, has_room, histogram_patches, histogram_words, is_frozen, link, record_patches, sample_patches}
use Rattle.look_promises.specs.Images.{looked_block}
use Rattle.look_promises.proofs.Copies.ThreeCopies.{ThreeCopies, seen_in}
use Rattle.look_promises.proofs.Copies.Walks.{Gives}
use Rattle.look_promises.proofs.Moments.Unchanged.{IsOfList, IsUnchanging, record_but, sample_but, other_but}
use Rattle.look_promises.proofs.Moments.Listed.{ends_at}
use Rattle.look_promises.proofs.Copies.Shown.{third_word}
use Rattle.look_promises.proofs.Words.Patches.{HaveNone, first_has, first_not, counts_apart}
use Rattle.look_promises.proofs.Moments.Grounds.{buckets_said, other_listed, still_word}
use Rattle.look_promises.proofs.Copies.Named.{fifteen, one_within, two_within}
use Rattle.look_promises.proofs.Words.Apart.{own_apart}
use Rattle.look_promises.proofs.Words.Mounted.{record_below, has_its_room}

-- a word of a record is its next, one of those that change, or one that never does
record_kinds : (r : Record) (i : ℕ) → i ≢ 3 → IsUnchanging (histogram r) i ⊎ ((8 ≤ i) × (i < 14))
record_kinds r i ne = elim (dec_lt i 8) [
  | no far ↦ elim (dec_lt i 14) [ yes below ↦ inr (omega (arith, far), below) | no behind ↦ inl (inr (inr (omega (arith, behind)))) ]
  | yes below ↦ elim (dec_lt i 3) [ yes low ↦ inl (inl low) | no high ↦ inl (inr (inl (omega (arith, high, ne), below))) ]
]

sample_kinds : (s : Sample) (i : ℕ) → i ≢ 3 → IsUnchanging (sample s) i ⊎ ((6 ≤ i) × (i < 8))
sample_kinds s i ne = elim (dec_lt i 6) [
  | no far ↦ elim (dec_lt i 8) [ yes below ↦ inr (omega (arith, far), below) | no behind ↦ inl (inr (inr (omega (arith, behind)))) ]
  | yes below ↦ elim (dec_lt i 3) [ yes low ↦ inl (inl low) | no high ↦ inl (inr (inl (omega (arith, high, ne), below))) ]
]

module _ (one two three : List ℕ) (x next : ℕ) where
  abbrev shown_record : Record → Record
  shown_record r = record r {
    next = next;
    counts = counts_reference two three x;
    single = word_at two (x + 9);
    mark = word_at one (x + 10);
    sum = word_at two (x + 11);
    sum_mark = word_at one (x + 12);
    noted = word_at one (x + 13);
  }

  abbrev shown_sample : Sample → Sample
  shown_sample s = record s { next = next; units = word_at two (x + 6); mark = word_at one (x + 7) }

  -- the words of a record that are patched
  record_patched : (r : Record) (p : ℕ) → p < 6
      → word_at (histogram_words one two three x) p ≡ slice_index (words_of (looked_block one two three x next (histogram r))) (8 + p)
  record_patched r zero lt = refl
  record_patched r (suc zero) lt = refl
  record_patched r (suc (suc zero)) lt = refl
  record_patched r (suc (suc (suc zero))) lt = refl
  record_patched r (suc (suc (suc (suc zero)))) lt = refl
  record_patched r (suc (suc (suc (suc (suc zero))))) lt = refl
  record_patched r (suc (suc (suc (suc (suc (suc p)))))) lt = absurd (omega (arith, lt))

  sample_patched : (s : Sample) (p : ℕ) → p < 2
      → word_at (word_at two (x + 6) ∷ word_at one (x + 7) ∷ []) p ≡ slice_index (words_of (looked_block one two three x next (sample s))) (6 + p)
  sample_patched s zero lt = refl
  sample_patched s (suc zero) lt = refl
  sample_patched s (suc (suc p)) lt = absurd (omega (arith, lt))

  -- its next
  pub next_shown : (body : Body) → IsOfList body → slice_index (words_of (looked_block one two three x next body)) 3 ≡ next
  next_shown (histogram r) list = refl
  next_shown (sample s) list = refl
  next_shown (other size tag n payload) list = refl
  next_shown (queue n) list = absurd list
  next_shown (plain words) list = absurd list
  next_shown (held block) list = absurd list
  next_shown (counts c) list = absurd list

  -- it is as long
  pub shown_long : (body : Body) → length (words_of (looked_block one two three x next body)) ≡ length (words_of body)
  shown_long (histogram r) = refl
  shown_long (sample s) = refl
  shown_long (other size tag n payload) = refl
  shown_long (queue n) = refl
  shown_long (plain words) = refl
  shown_long (held block) = refl
  shown_long (counts c) = refl

  next_patched : (rest : List Patch) (w : ℕ) → patched_word (link x next ∷ rest) (x + 3) w ≡ next
  next_patched rest w = first_has (link x next) rest (x + 3) w (omega arith) (omega arith)
      ∙ (let none : x + 3 - (x + 3) ≡ 0 = omega arith in ap (word_at (next ∷ [])) none)

  beside_next : (i : ℕ) → i ≢ 3 → (x + i < x + 3) ⊎ (x + 3 + 1 ≤ x + i)
  beside_next i ne = elim (dec_lt i 3) [ yes low ↦ inl (omega (arith, low)) | no high ↦ inr (omega (arith, high, ne)) ]

module _ (copies : ThreeCopies) where
  open copies use {run, shape, opened, last, moments, one, two, three, loaded}
  open seen_in copies use {late, list, hd}

  module _ (k next : ℕ) (g : Gives hd two list k) where
    abbrev x : ℕ
    x = slice_index list k

    abbrev named : ℕ
    named = counts_reference two three x

    abbrev buckets : ℕ
    buckets = word_at three (x + 7)

    abbrev patches : List Patch
    patches = record_patches hd one two three x

    third : (i : ℕ) (body : Body) → Stands late.anatomy.pieces x none body → IsUnchanging body i → i < length (words_of body)
        → word_at three (x + i) ≡ slice_index (words_of body) i
    third i body has = third_word copies k i body g has

    -- the counts of a record have no word of its block
    counts_beside : (i : ℕ) (body : Body) → Stands late.anatomy.pieces x none body → IsOfList body → word_at three (x + 2) ≡ 1 → i < length (words_of body)
        → HaveNone (counts_patches one two x named buckets) (x + i)
    counts_beside i body has of_list is_histogram inside =
        counts_apart hd one two three x (x + i) (λ some_there m from few.
        own_apart copies k i m body g is_histogram some_there has of_list inside few)

    -- ---- a histogram

    module _ (r : Record) (has : Stands late.anatomy.pieces x none (histogram r)) where
      type_one : word_at three (x + 2) ≡ 1
      type_one = third 2 (histogram r) has (inl (omega arith)) (omega arith)

      pub buckets_its : buckets ≡ buckets_of r.spec
      buckets_its = third 7 (histogram r) has (inr (inl (omega arith))) (omega arith) ∙ buckets_said r.spec

      pub patches_are : patches ≡ record { from = x + 8; words = histogram_words one two three x } ∷ counts_patches one two x named buckets
      patches_are =
          ap (λ (b : Bool). if b then histogram_patches hd one two three x else (if word_at three (x + 2) == 3 then sample_patches hd one two x else []))
          (eq-eqb (word_at three (x + 2)) 1 type_one)
          ∙ ap (λ (b : Bool). if b then record { from = x + 8; words = histogram_words one two three x } ∷ counts_patches one two x named buckets else [])
          (has_its_room copies k g.within r has buckets buckets_its g)

      histogram_word : (i : ℕ) → i ≢ 3 → i < length (record_words r)
          → patched_word patches (x + i) (word_at three (x + i)) ≡ slice_index (words_of (looked_block one two three x next (histogram r))) i
      histogram_word i ne inside = ap (λ (ps : List Patch). patched_word ps (x + i) (word_at three (x + i))) patches_are ∙ ⊎_elim stays changes (record_kinds r i ne)
        where
          stays : IsUnchanging (histogram r) i
              → patched_word (record { from = x + 8; words = histogram_words one two three x } ∷ counts_patches one two x named buckets) (x + i) (word_at three (x + i))
              ≡ slice_index (words_of (looked_block one two three x next (histogram r))) i
          stays still =
              first_not (record { from = x + 8; words = histogram_words one two three x }) (counts_patches one two x named buckets) (x + i) (word_at three (x + i))
              (outside still)
              ∙ (counts_beside i (histogram r) has tt type_one inside (word_at three (x + i))
              ∙ (third i (histogram r) has still inside ∙ sym (record_but r (shown_record one two three x next r) i still)))
            where
              outside : IsUnchanging (histogram r) i → (x + i < x + 8) ⊎ (x + 8 + 6 ≤ x + i)
              outside (inl low) = inl (omega (arith, low))
              outside (inr (inl mid)) = inl (omega (arith, mid))
              outside (inr (inr high)) = inr (omega (arith, high))

          changes : (8 ≤ i) × (i < 14)
              → patched_word (record { from = x + 8; words = histogram_words one two three x } ∷ counts_patches one two x named buckets) (x + i) (word_at three (x + i))
              ≡ slice_index (words_of (looked_block one two three x next (histogram r))) i
          changes (from, below) =
              first_has (record { from = x + 8; words = histogram_words one two three x }) (counts_patches one two x named buckets) (x + i) (word_at three (x + i))
              (omega (arith, from)) (omega (arith, below))
              ∙ (ap (word_at (histogram_words one two three x)) (omega (arith, from))
              ∙ (record_patched one two three x next r (i - 8) (omega (arith, from, below))
              ∙ ap (slice_index (words_of (looked_block one two three x next (histogram r)))) (omega (arith, from))))

    -- ---- a sample

    module _ (s : Sample) (has : Stands late.anatomy.pieces x none (sample s)) where
      type_three : word_at three (x + 2) ≡ 3
      type_three = third 2 (sample s) has (inl (omega arith)) (omega arith)

      sample_are : patches ≡ record { from = x + 6; words = word_at two (x + 6) ∷ word_at one (x + 7) ∷ [] } ∷ []
      sample_are =
          let below = record_below copies k (sample s) g has in
          ap (λ (b : Bool). if b then histogram_patches hd one two three x else (if word_at three (x + 2) == 3 then sample_patches hd one two x else []))
          (ne_eqb (word_at three (x + 2)) 1 (λ e. omega (arith, e, type_three)))
          ∙ (ap (λ (b : Bool). if b then sample_patches hd one two x else []) (eq-eqb (word_at three (x + 2)) 3 type_three)
          ∙ ap (λ (b : Bool). if b then record { from = x + 6; words = word_at two (x + 6) ∷ word_at one (x + 7) ∷ [] } ∷ [] else [])
          (le-leb (x + 8) hd.free (omega (arith, below))))

      sample_word : (i : ℕ) → i ≢ 3 → i < length (words_of (sample s))
          → patched_word patches (x + i) (word_at three (x + i)) ≡ slice_index (words_of (looked_block one two three x next (sample s))) i
      sample_word i ne inside = ap (λ (ps : List Patch). patched_word ps (x + i) (word_at three (x + i))) sample_are ∙ ⊎_elim stays changes (sample_kinds s i ne)
        where
          stays : IsUnchanging (sample s) i
              → patched_word (record { from = x + 6; words = word_at two (x + 6) ∷ word_at one (x + 7) ∷ [] } ∷ []) (x + i) (word_at three (x + i))
              ≡ slice_index (words_of (looked_block one two three x next (sample s))) i
          stays still =
              first_not (record { from = x + 6; words = word_at two (x + 6) ∷ word_at one (x + 7) ∷ [] }) [] (x + i) (word_at three (x + i)) (outside still)
              ∙ (third i (sample s) has still inside ∙ sym (sample_but s (shown_sample one two three x next s) i still))
            where
              outside : IsUnchanging (sample s) i → (x + i < x + 6) ⊎ (x + 6 + 2 ≤ x + i)
              outside (inl low) = inl (omega (arith, low))
              outside (inr (inl mid)) = inl (omega (arith, mid))
              outside (inr (inr high)) = inr (omega (arith, high))

          changes : (6 ≤ i) × (i < 8)
              → patched_word (record { from = x + 6; words = word_at two (x + 6) ∷ word_at one (x + 7) ∷ [] } ∷ []) (x + i) (word_at three (x + i))
              ≡ slice_index (words_of (looked_block one two three x next (sample s))) i
          changes (from, below) =
              first_has (record { from = x + 6; words = word_at two (x + 6) ∷ word_at one (x + 7) ∷ [] }) [] (x + i) (word_at three (x + i)) (omega (arith, from)) (omega (arith, below))
              ∙ (ap (word_at (word_at two (x + 6) ∷ word_at one (x + 7) ∷ [])) (omega (arith, from))
              ∙ (sample_patched one two three x next s (i - 6) (omega (arith, from, below))
              ∙ ap (slice_index (words_of (looked_block one two three x next (sample s)))) (omega (arith, from))))

    -- ---- a block of which nothing changes but its next

    module _ (size tag n : ℕ) (payload : List ℕ) (has : Stands late.anatomy.pieces x none (other size tag n payload)) where
      abbrev block : Body
      block = other size tag n payload

      nothing_given : Contains opened.records (record { reference = x; made = None })
      nothing_given = (other_listed run last k size tag n payload g.within has).0

      spot : (i : ℕ) → i < length (words_of block) → x + i < shape.size
      spot i inside = let ends = ends_at run last x block has in omega (arith, ends, inside)

      -- its words are the same in each copy
      in_one : (i : ℕ) → 4 ≤ i → i < length (words_of block) → word_at one (x + i) ≡ slice_index (words_of block) i
      in_one i from inside =
          loaded.copy_one.each (x + i) (spot i inside)
          ∙ still_word run last (moments.one (x + i)) x i size tag n payload
          (one_within copies (x + i) (spot i inside)).1 nothing_given has (inr from) (omega (arith, inside))

      in_two : (i : ℕ) → 4 ≤ i → i < length (words_of block) → word_at two (x + i) ≡ slice_index (words_of block) i
      in_two i from inside =
          loaded.copy_two.each (x + i) (spot i inside)
          ∙ still_word run last (moments.two (x + i)) x i size tag n payload
          (two_within copies (x + i) (spot i inside)).1 nothing_given has (inr from) (omega (arith, inside))

      type_tag : word_at three (x + 2) ≡ tag
      type_tag = third 2 block has (inl (omega arith)) (omega arith)

      either : (b : Bool) (early later c : ℕ) → early ≡ c → later ≡ c → (if b then early else later) ≡ c
      either true early later c e f = e
      either false early later c e f = f

      passed_words : (p : ℕ) → p < 6 → 15 ≤ length (words_of block) → word_at (histogram_words one two three x) p ≡ slice_index (words_of block) (8 + p)
      passed_words zero lt long =
          either ((word_at two (x + 8) == 0) && is_frozen two x) (word_at three (x + 8)) (word_at two (x + 8)) (slice_index (words_of block) 8)
          (third 8 block has (inr (omega arith)) (omega (arith, long))) (in_two 8 (omega arith) (omega (arith, long)))
      passed_words (suc zero) lt long = in_two 9 (omega arith) (omega (arith, long))
      passed_words (suc (suc zero)) lt long = in_one 10 (omega arith) (omega (arith, long))
      passed_words (suc (suc (suc zero))) lt long = in_two 11 (omega arith) (omega (arith, long))
      passed_words (suc (suc (suc (suc zero)))) lt long = in_one 12 (omega arith) (omega (arith, long))
      passed_words (suc (suc (suc (suc (suc zero))))) lt long = in_one 13 (omega arith) (omega (arith, long))
      passed_words (suc (suc (suc (suc (suc (suc p)))))) lt long = absurd (omega (arith, lt))

      module _ (i : ℕ) (ne : i ≢ 3) (inside : i < length (words_of block)) where
        still_unchanging : IsUnchanging block i
        still_unchanging = elim (dec_lt i 3) [ yes low ↦ inl low | no high ↦ inr (omega (arith, high, ne)) ]

        in_three : word_at three (x + i) ≡ slice_index (words_of block) i
        in_three = third i block has still_unchanging inside

        -- of one that is passed over
        passed_word : word_at three (x + 2) ≡ 1
            → patched_word (record { from = x + 8; words = histogram_words one two three x } ∷ counts_patches one two x named buckets) (x + i) (word_at three (x + i))
            ≡ slice_index (words_of block) i
        passed_word one_is = elim (dec_lt i 8) [
          | yes low ↦
              first_not (record { from = x + 8; words = histogram_words one two three x }) (counts_patches one two x named buckets) (x + i) (word_at three (x + i))
              (inl (omega (arith, low))) ∙ (counts_beside i block has tt one_is inside (word_at three (x + i)) ∙ in_three)
          | no far ↦ elim (dec_lt i 14) [
            | no behind ↦
                first_not (record { from = x + 8; words = histogram_words one two three x }) (counts_patches one two x named buckets) (x + i) (word_at three (x + i))
                (inr (omega (arith, behind))) ∙ (counts_beside i block has tt one_is inside (word_at three (x + i)) ∙ in_three)
            | yes below ↦
                first_has (record { from = x + 8; words = histogram_words one two three x }) (counts_patches one two x named buckets) (x + i) (word_at three (x + i))
                (omega (arith, far)) (omega (arith, below))
                ∙ (ap (word_at (histogram_words one two three x)) (omega (arith, far))
                ∙ (passed_words (i - 8) (omega (arith, far, below)) (fifteen copies k g one_is block has)
                ∙ ap (slice_index (words_of block)) (omega (arith, far))))
          ]
        ]

        room_word : (b : Bool) → word_at three (x + 2) ≡ 1
            → patched_word (if b then record { from = x + 8; words = histogram_words one two three x } ∷ counts_patches one two x named buckets else []) (x + i) (word_at three (x + i))
            ≡ slice_index (words_of block) i
        room_word true one_is = passed_word one_is
        room_word false one_is = in_three

        other_word : patched_word patches (x + i) (word_at three (x + i)) ≡ slice_index (words_of block) i
        other_word = by_type (word_at three (x + 2) == 1) (word_at three (x + 2) == 3) (eqb-true (word_at three (x + 2)) 1) (eqb-true (word_at three (x + 2)) 3)
          where
            by_type : (b c : Bool) → (b ≡ true → word_at three (x + 2) ≡ 1) → (c ≡ true → word_at three (x + 2) ≡ 3)
                → patched_word (if b then histogram_patches hd one two three x else (if c then sample_patches hd one two x else [])) (x + i) (word_at three (x + i))
                ≡ slice_index (words_of block) i
            by_type true c one_is three_is = room_word (nat_le (x + 16) hd.free && has_room hd named buckets) (one_is refl)
            by_type false true one_is three_is =
                absurd ((other_listed run last k size tag n payload g.within has).1 (sym type_tag ∙ three_is refl))
            by_type false false one_is three_is = in_three

    -- ---- any of these

    pub other_shown : (size tag n : ℕ) (payload : List ℕ) (i : ℕ) → i ≢ 3
        → slice_index (words_of (other size tag n payload)) i ≡ slice_index (words_of (other size tag next payload)) i
    other_shown size tag n payload i ne =
        sym (other_but size tag n next payload i (elim (dec_lt i 3) [ yes low ↦ inl low | no high ↦ inr (omega (arith, high, ne)) ]))

    block_word : (body : Body) → IsOfList body → Stands late.anatomy.pieces x none body → (i : ℕ) → i ≢ 3 → i < length (words_of body)
        → patched_word patches (x + i) (word_at three (x + i)) ≡ slice_index (words_of (looked_block one two three x next body)) i
    block_word (histogram r) of_list has i ne inside = histogram_word r has i ne inside
    block_word (sample s) of_list has i ne inside = sample_word s has i ne inside
    block_word (other size tag n payload) of_list has i ne inside = other_word size tag n payload has i ne inside ∙ other_shown size tag n payload i ne
    block_word (queue n) of_list has i ne inside = absurd of_list
    block_word (plain words) of_list has i ne inside = absurd of_list
    block_word (held own) of_list has i ne inside = absurd of_list
    block_word (counts c) of_list has i ne inside = absurd of_list

    -- the link and the patches of a record give the block that is shown
    pub record_word : (body : Body) → IsOfList body → Stands late.anatomy.pieces x none body → (i : ℕ) → i < length (words_of body)
        → patched_word (link x next ∷ patches) (x + i) (word_at three (x + i)) ≡ slice_index (words_of (looked_block one two three x next body)) i
    record_word body of_list has i inside = dite (ℕ_discrete i 3)
        (λ here. subst (λ (i : ℕ). patched_word (link x next ∷ patches) (x + i) (word_at three (x + i)) ≡ slice_index (words_of (looked_block one two three x next body)) i) (sym here)
        (next_patched one two three x next patches (word_at three (x + 3)) ∙ sym (next_shown one two three x next body of_list)))
        (λ ne. first_not (link x next) patches (x + i) (word_at three (x + i)) (beside_next one two three x next i ne) ∙ block_word body of_list has i ne inside)

-- The counts block that a look takes of a record, whether it is of a histogram or passed over: the record's own.
use Rattle.segment_invariant.proofs.Prelude.Std.{◌≡◌, ◌≢◌, ℕ, ◌+◌, ◌<◌, ◌≤◌, ◌==◌, ◌&&◌, Bool, true, false, if◌then◌else◌, List, length, inl, inr, sym, ap, subst, ◌∙◌, arith, slice_index, None, none, Contains}
use Rattle.segment_invariant.proofs.Prelude.Machine.{word_at, buckets_of}
use Rattle.segment_invariant.proofs.Prelude.Invariant.{Body, other, words_of, record_words, Stands}
use Rattle.std.proofs.lemmas.List.Elements.{Contains-get_or}
use Rattle.segment_looks.specs.Looks.{is_frozen}
use Rattle.segment_invariant.proofs.Blocks.Pieces.{piece_word, one_stands}
use Rattle.look_promises.proofs.Copies.ThreeCopies.{ThreeCopies, seen_in}
use Rattle.look_promises.proofs.Copies.Walks.{Gives}
use Rattle.look_promises.proofs.Moments.Unchanged.{IsOfList}
use Rattle.look_promises.proofs.Moments.Listed.{listed_at, ends_at}
use Rattle.look_promises.proofs.Copies.Shown.{third_word}
use Rattle.look_promises.proofs.Copies.References.{looked}
use Rattle.look_promises.proofs.Moments.Grounds.{buckets_said, four_words, type_stays, seven_stays, still_word, HasCountsBlock, HasHistogram, histogram_at}

module _ (copies : ThreeCopies) where
  open copies use {run, shape, opened, at, first, last, moments, two, three, loaded}
  open seen_in copies use {late, list, hd, reference_of, buckets_at}

  -- ---- when words were loaded

  all_within : (n : ℕ) → n < shape.size → (first ≤ moments.one n) × (moments.one n ≤ moments.two n) × (moments.two n ≤ last)
  all_within n lt =
      let over = loaded.ordered.third n n lt lt in
      let ends = loaded.ordered.ends n lt in
      (loaded.ordered.begins n lt, loaded.ordered.second n n lt lt, omega (arith, over, ends))

  pub one_within : (n : ℕ) → n < shape.size → (first ≤ moments.one n) × (moments.one n ≤ last)
  one_within n lt = let (begins, on, ends) = all_within n lt in (begins, omega (arith, on, ends))

  pub two_within : (n : ℕ) → n < shape.size → (first ≤ moments.two n) × (moments.two n ≤ last)
  two_within n lt = let (begins, on, ends) = all_within n lt in (omega (arith, begins, on), ends)

  -- ---- a followed record of a histogram

  module _ (k : ℕ) (g : Gives hd two list k) (is_histogram : word_at three (slice_index list k + 2) ≡ 1) where
    abbrev x : ℕ
    x = slice_index list k

    abbrev its : (body : Body) × Stands late.anatomy.pieces x none body × IsOfList body
    its = listed_at run last k g.within

    type_at_last : word_at (at last).words (x + 2) ≡ 1
    type_at_last =
        let (body, stands, of_list) = its in
        let four = four_words body of_list in
        piece_word shape (at last).words late.anatomy late.shown stands.0 (record { at = x; owner = none; body = body }) 2 stands.1 (omega (arith, four))
        ∙ (sym (third_word copies k 2 body g stands (type_stays body of_list) (omega (arith, four))) ∙ is_histogram)

    pub its_histogram : HasHistogram run last x
    its_histogram = histogram_at run last x (Contains-get_or list k 0 g.within) type_at_last

    own_list : (h : HasHistogram run last x) → IsOfList h.body
    own_list h = elim h.is_one [
      | inl is ↦ subst IsOfList (sym is) tt
      | inr (has, size, tag, next, payload, is) ↦ subst IsOfList (sym is) tt
    ]

    pub buckets_are : buckets_at k ≡ buckets_of its_histogram.of.spec
    buckets_are =
        let h = its_histogram in
        let long = ap length h.same in
        third_word copies k 7 h.body g h.stands
        (seven_stays h.body (own_list h) (ap (λ (ws : List ℕ). slice_index ws 2) h.same)) (omega (arith, long))
        ∙ (ap (λ (ws : List ℕ). slice_index ws 7) h.same ∙ buckets_said h.of.spec)

    -- a word of a record that is passed over, in any copy
    still : (h : HasHistogram run last x) (m i size tag next : ℕ) (payload : List ℕ) → m ≤ last
        → Contains opened.records (record { reference = x; made = None }) → h.body ≡ other size tag next payload → 4 ≤ i → i < 15
        → word_at (at m).words (x + i) ≡ slice_index (record_words h.of) i
    still h m i size tag next payload le has is from below =
        let long = ap length h.same in
        let all = ap (λ (b : Body). length (words_of b)) is in
        still_word run last m x i size tag next payload le has (subst (Stands late.anatomy.pieces x none) is h.stands) (inr from) (omega (arith, below, long, all))
        ∙ (ap (λ (b : Body). slice_index (words_of b) i) (sym is) ∙ ap (λ (ws : List ℕ). slice_index ws i) h.same)

    within : (h : HasHistogram run last x) (i : ℕ) → i < 15 → x + i < shape.size
    within h i below =
        let ends = ends_at run last x h.body h.stands in
        let long = ap length h.same in
        omega (arith, ends, long, below)

    pub names_own : reference_of k ≢ 0 → reference_of k ≡ its_histogram.of.counts
    names_own ne =
        let h = its_histogram in
        elim h.is_one [
          | inl is ↦ elim (looked copies k g.within h.of (subst (Stands late.anatomy.pieces x none) is h.stands)) [
            | inl nothing ↦ absurd (ne nothing)
            | inr same ↦ same
          ]
          | inr (has, size, tag, next, payload, is) ↦
              let spot = within h 8 (omega arith) in
              let second = loaded.copy_two.each (x + 8) spot ∙ still h (moments.two (x + 8)) 8 size tag next payload (two_within (x + 8) spot).1 has is (omega arith) (omega arith) in
              let third = loaded.copy_three.each (x + 8) spot ∙ still h (moments.three (x + 8)) 8 size tag next payload (loaded.ordered.ends (x + 8) spot) has is (omega arith) (omega arith) in
              either (word_at two (x + 8)) (word_at three (x + 8)) ((word_at two (x + 8) == 0) && is_frozen two x) h.of.counts second third
        ]
      where
        either : (a b : ℕ) (test : Bool) (n : ℕ) → a ≡ n → b ≡ n → (if test then b else a) ≡ n
        either a b true n second third = third
        either a b false n second third = second

    -- the counts block that it names
    pub counts_block : reference_of k ≢ 0 → HasCountsBlock run last x (reference_of k) (buckets_at k)
    counts_block ne =
        let same = names_own ne in
        subst (HasCountsBlock run last x (reference_of k)) (sym buckets_are)
        (subst (λ (n : ℕ). HasCountsBlock run last x n (buckets_of its_histogram.of.spec)) (sym same) (its_histogram.mounted (λ none_there. ne (same ∙ none_there))))

    pub fifteen : (body : Body) → Stands late.anatomy.pieces x none body → 15 ≤ length (words_of body)
    fifteen body stands =
        let h = its_histogram in
        let long = ap length h.same in
        let same = (one_stands shape (at last).words late.anatomy late.shown x none none body h.body stands h.stands).1 in
        let all = ap (λ (b : Body). length (words_of b)) same in
        omega (arith, long, all)

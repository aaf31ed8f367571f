-- The records of an image that are passed over, since one before them has their name: they stay as they are.
use Rattle.segment_invariant.proofs.Prelude.Std.{◌≡◌, ◌≢◌, ◌⊎◌, inl, inr, Bool, true, false, ℕ, ◌+◌, ◌-◌, ◌^◌, ◌<◌, ◌≤◌, List, ◌∷◌, ◌++◌, map, length, take, drop, All, Contains, refl, sym, ap, ◌∙◌, subst, arith, Some, None, get_or-drop, if◌then◌else◌, slice_index, bytes_eq, eqb-true, eqb-false, Contains-append_right, bytes_eq-Decides, none, contains_at, first_longer, contains_mapped}
use Rattle.segment_invariant.proofs.Prelude.Machine.{field_at, head_of, Spec, buckets_of, name_of, spec_of, is_of_type, IsListed, Reading, reading_along, Made}
use Rattle.segment_invariant.proofs.Prelude.Invariant.{Body, Record, Counts, counts, other, words_of, Listed, Anatomy, IsHistogram, Stands, IsFirst, IsCountsOf, IsPassedOver}
use Rattle.std.proofs.Common.{get_or-take}
use Rattle.std.proofs.lemmas.Bool.{both_ways}
use Rattle.segment_invariant.specs.Consistent.{HasName}
use Rattle.segment_invariant.specs.Seen.{HoldsAs}
use Rattle.segment_invariant.specs.Invariant.{IsOfOtherType, HasPassedOver, ArePassedOver, total_in, mark_in}
use Rattle.list_lemmas.proofs.Elements.{split_map}
use Rattle.list_lemmas.proofs.Firsts.{first_or_none}
use Rattle.segment_promises.specs.Adoption.{IsAdoptable}
use Rattle.segment_promises.proofs.Readings.Firsts.{read_to}
use Rattle.segment_promises.proofs.Adopting.Bodies.{record_at, counts_at, other_at, size_at}
use Rattle.segment_promises.proofs.Adopting.Images.{no_record_fault, block_page, listed_block}
use Rattle.segment_promises.proofs.Adopting.Opened.Anatomy.{made_by, listed_at, opened, placed}
use Rattle.segment_promises.proofs.Adopting.Opened.Blocks.{is_read, record_body, test_there}
use Rattle.segment_promises.proofs.Adopting.Opened.KeptRecords.{split_place}
use Rattle.segment_promises.proofs.Adopting.Opened.Lawful.{is_lawful, packed_small, are_counts, as_other, counts_as_other, bucketed, total_is, mark_is, marks_small, totals_small, sums_bounded}
use Rattle.segment_promises.proofs.Adopting.Opened.Names.{read, first_among}
use Rattle.segment_promises.proofs.Adopting.Opened.NoRepeats.{one_owner, owned_unlisted}
use Rattle.segment_promises.proofs.Adopting.Opened.Pieces.{record_cases, stood_block, listed_body, owned_body}

-- a record has a name or not
has_name_or_not : (words name : List ℕ) (at : ℕ) → HasName words name at ⊎ (¬ (HasName words name at))
has_name_or_not words name at =
    by_tests (is_of_type words 1 at) (bytes_eq (name_of words at) name) (eqb-true (field_at words at 2) 1) (eqb-false (field_at words at 2) 1) (bytes_eq-Decides (name_of words at) name)
  where
    by_tests : (one same : Bool) → (one ≡ true → field_at words at 2 ≡ 1) → (one ≡ false → field_at words at 2 ≢ 1)
        → (same ≡ true → name_of words at ≡ name) × (name_of words at ≡ name → same ≡ true) → HasName words name at ⊎ (¬ (HasName words name at))
    by_tests true true is un named = inl (is refl, named.0 refl)
    by_tests true false is un named = inr (λ has. cc (named.1 has.1))
    by_tests false same is un named = inr (λ has. un refl has.0)

given_none : (b c : Body) (made_there : Made) → b ≡ c → made_by c ≡ Some made_there → made_by b ≢ None
given_none b c made_there is given nothing = cc (sym nothing ∙ (ap made_by is ∙ given))

module _ (words references : List ℕ) (reading : Reading) (narrow : All (λ word. word < 2 ^ 64) words) (listed : IsListed words (head_of words) references)
    (reads : reading ≡ reading_along words (head_of words) references) (adoptable : IsAdoptable words references reading) where
  abbrev its : Anatomy
  its = opened words references reading narrow listed reads adoptable

  -- ---- a record that is passed over

  module _ (xs ys : List ℕ) (at : ℕ) (split : references ≡ xs ++ at ∷ ys) (one : field_at words at 2 ≡ 1) (over : is_read words references at ≡ false) where
    there : Contains references at
    there = subst (λ (l : List ℕ). Contains l at) (sym split) (Contains-append_right xs (at ∷ ys) at (0, omega arith, refl))

    -- the first of its name comes before it
    named_before : (kind : Spec) × (first : ℕ) × IsFirst (map (listed_at words references) xs) (name_of words at) kind first
    named_before = by_first (first_or_none (HasName words (name_of words at)) (has_name_or_not words (name_of words at)) xs)
      where
        by_first : ((first : ℕ) × IsHistogram words xs (name_of words at) first) ⊎ All (λ x. ¬ (HasName words (name_of words at) x)) xs
            → (kind : Spec) × (first : ℕ) × IsFirst (map (listed_at words references) xs) (name_of words at) kind first
        by_first (inl (first, its)) =
            let longer = first_longer (HasName words (name_of words at)) xs (at ∷ ys) first its in
            let among = read_to words (head_of words) references (no_record_fault words references reading listed reads adoptable) (name_of words at) first
            (subst (λ (chain : List ℕ). IsHistogram words chain (name_of words at) first) (sym split) longer) in
            (spec_of words first, first, first_among words references reading narrow listed reads adoptable xs first (name_of words at) its among)
        by_first (inr nobody) =
            let among = read_to words (head_of words) references (no_record_fault words references reading listed reads adoptable) (name_of words at) at (xs, ys, split, nobody, (one, refl)) in
            absurd (both_ways (is_read words references at) over (test_there (read words references reading narrow listed reads adoptable) at among))

    other_stands : Stands its.pieces at none (other_at words at)
    other_stands =
        subst (Stands its.pieces at none) (elim (record_cases words references reading narrow listed reads adoptable at) [
          | inl (tag, first, is) ↦ absurd (both_ways (is_read words references at) over first)
          | inr (inl (tag, first, is)) ↦ is
          | inr (inr (inl (three, is))) ↦ absurd (omega (arith, one, three))
          | inr (inr (inr (un, third, is))) ↦ absurd (un one)
        ])
        (listed_body words references reading narrow listed reads adoptable at there)

    counted : (some_there : field_at words at 8 ≢ 0) → (c : Counts) × HoldsAs its.pieces (field_at words at 8) (counts c) × IsCountsOf 2 at (record_at words at) c
        × ((i : ℕ) → i < buckets_of (spec_of words at) → (total_in 2 (record_at words at) c i ≤ 4294967295) × (mark_in 2 (record_at words at) c i ≤ total_in 2 (record_at words at) c i))
    counted some_there =
        let place : ℕ = field_at words at 8 in
        let stands : Stands its.pieces place none (other_at words place) =
        subst (Stands its.pieces place none) (ap (λ (b : Bool). if b then counts (counts_at words at place) else other_at words place) over)
        (owned_body words references reading narrow listed reads adoptable place at (record { there = there; one = one; some = some_there; is = refl })) in (
          counts_at words at place,
          (
            size_at words place,
            field_at words place 2,
            field_at words place 3,
            take (size_at words place - 4) (drop (place + 4) words),
            stands,
            counts_as_other words references reading narrow listed reads adoptable at there one some_there,
          ),
          are_counts words references reading narrow listed reads adoptable at there one some_there,
          λ i below.
              let total = total_is words references reading narrow listed reads adoptable at there one some_there i below in
              let mark = mark_is words references reading narrow listed reads adoptable at there one some_there i below in
              let few = totals_small words references reading narrow listed reads adoptable at there one
              (bucketed words references reading narrow listed reads adoptable at there one some_there) i below in
              let small = marks_small words references reading narrow listed reads adoptable at there one i below in
              (omega (arith, total, few), omega (arith, total, mark, small)),
        )

    is_passed_over : IsPassedOver 2 (head_of words).shape.page its.pieces (map (listed_at words references) xs) at (record_at words at)
    is_passed_over = record {
      stands = (
        size_at words at,
        field_at words at 2,
        field_at words at 3,
        take (size_at words at - 4) (drop (at + 4) words),
        other_stands,
        as_other words references reading narrow listed reads adoptable at there one,
      );
      lawful = is_lawful words references reading narrow listed reads adoptable at there one;
      named = named_before;
      counted = counted;
      packed = packed_small words references reading narrow listed reads adoptable at there one;
      sums = sums_bounded words references reading narrow listed reads adoptable at there one;
    }

  -- ---- all of them

  -- a record that is passed over holds its words
  passed_words : (at : ℕ) (r : Record) → HasPassedOver its at r → Contains references at × (field_at words at 2 ≡ 1) × (field_at words at 8 ≡ r.counts)
  passed_words at r (among, (size, tag, next, payload, stands, holds)) =
      let (begun, unowned_there, is) = stood_block words references reading narrow listed reads adoptable at none (other size tag next payload) stands refl in
      let p = placed words references reading narrow listed reads adoptable at begun in
      let all = holds ∙ (ap words_of is ∙ p.holds) in
      let long = ap length (holds ∙ ap words_of is) ∙ p.long in
      let word = λ (j : ℕ) (below : j < 15).
      sym (get_or-drop at words j 0) ∙ (sym (get_or-take (size_at words at) (drop at words) j 0 (omega (arith, below, long))) ∙ ap (λ (ws : List ℕ). slice_index ws j) (sym all)) in
      let (place, there, same) = contains_mapped (listed_at words references) references _ among in
      (subst (Contains references) (ap (λ (l : Listed). l.reference) same) there, word 2 (omega arith), word 8 (omega arith))

  pub passed_over : ArePassedOver (head_of words).shape.page its its.pieces
  passed_over = record {
    stay = λ at size tag payload still. still;
    fixed = λ s was. was;
    each = λ front behind at split.
        let (xs, ys, place, is, before, here) = split_map (listed_at words references) references front behind _ split in
        let same : place ≡ at = ap (λ (l : Listed). l.reference) here in
        let nothing : made_by (record_body words references place) ≡ None = ap (λ (l : Listed). l.made) here in
        let (there, front_is) = split_place xs ys place references is in
        let kinds : IsOfOtherType its.pieces place ⊎ ((r : Record) × IsPassedOver 2 (head_of words).shape.page its.pieces front place r) =
        elim (record_cases words references reading narrow listed reads adoptable place) [
          | inl (one, first, body) ↦ absurd (given_none _ _ _ body refl nothing)
          | inr (inl (one, first, body)) ↦ inr (
            record_at words place,
            subst (λ (front : List Listed). IsPassedOver 2 (head_of words).shape.page its.pieces front place (record_at words place)) before (is_passed_over xs ys place is one first),
          )
          | inr (inr (inl (three, body))) ↦ absurd (given_none _ _ _ body refl nothing)
          | inr (inr (inr (un, third, body))) ↦ inl (
            size_at words place,
            field_at words place 2,
            field_at words place 3,
            take (size_at words place - 4) (drop (place + 4) words),
            subst (Stands its.pieces place none) body (listed_body words references reading narrow listed reads adoptable place (contains_at references (length xs) place there)),
            un,
          )
        ] in
        subst (λ (at : ℕ). IsOfOtherType its.pieces at ⊎ ((r : Record) × IsPassedOver 2 (head_of words).shape.page its.pieces front at r)) same kinds;
    apart = λ at place r q first second some_there same.
        let (there, one, is) = passed_words at r first in
        let (among, also, that) = passed_words place q second in
        one_owner words references reading narrow listed reads adoptable r.counts at place
        (record { there = there; one = one; some = (λ e. some_there (sym is ∙ e)); is = is })
        (record { there = among; one = also; some = (λ e. some_there (same ∙ (sym that ∙ e))); is = that ∙ sym same });
    unlisted = λ at r first named.
        let (there, one, is) = passed_words at r first in
        let (place, among, same) = contains_mapped (listed_at words references) references _ named in
        let here : Contains references r.counts = subst (Contains references) (ap (λ (l : Listed). l.reference) same) among in
        let from = (block_page words references reading listed reads adoptable r.counts (listed_block words references reading listed reads adoptable r.counts here)).0 in
        owned_unlisted words references reading narrow listed reads adoptable r.counts at
        (record { there = there; one = one; some = (λ e. omega (arith, from, is, e)); is = is }) here;
  }

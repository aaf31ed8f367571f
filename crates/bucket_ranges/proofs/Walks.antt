-- Walks along the list of records: the longest one is the only list.
use Rattle.std.proofs.Common.{◌≡◌, ◌≢◌, Bool, true, false, not, ◌&&◌, ◌==◌, nat_le, if◌then◌else◌, ℕ, zero, suc, ◌+◌, ◌<◌, ◌≤◌, List, [], ◌∷◌, ◌++◌, length, slice_index, Some, None, ◌⊎◌, inl, inr, refl, ap, sym, ◌∙◌, arith}
use Rattle.std.specs.List.{list_any}
use Rattle.std.proofs.lemmas.List.{get_or_push, get_or_append_left, get_or_default, length_push, same_lists}
use Rattle.std.proofs.lemmas.Grind.{get_or_default_zero}
use Rattle.std.proofs.lemmas.List.Folds.{Any-from_list_any, list_any_at}
use Rattle.std.proofs.lemmas.Bool.{cases_lt, both_ways, and_parts, leb-true, eqb-true, eq-eqb}
use Rattle.std.proofs.lemmas.Bool.Decides.{Decides-eqb}
use Rattle.std.proofs.lemmas.Map.Made.{IsDistinct-from_AllPairs}
use Rattle.std.proofs.lemmas.Map.Steps.{length-le_from_distinct_below}
use Rattle.segment_image.specs.declared.fault.ImageFault.{ImageFault}
use Rattle.segment_image.specs.declared.fault.ImageFault.TheVariants.{BadRef, BadBlock, Loop}
use Rattle.segment_image.specs.Checks.{first_fault}
use Rattle.segment_image.specs.Blocks.{field_at, is_placed, is_claimed}
use Rattle.segment_image.specs.declared.head.SegmentHead.{SegmentHead}
use Rattle.bucket_ranges.specs.Reading.{before, next_of, is_block, IsWalk, IsListed, stop_of, Reading, reading_along, IsReading}

-- two walks have the same reference at each place that both have
pub walks_agree : (words : List ℕ) (head : SegmentHead) (xs ys : List ℕ)
    → IsWalk words head xs → IsWalk words head ys
    → (i : ℕ) → i < length xs → i < length ys → slice_index xs i ≡ slice_index ys i
walks_agree words head xs ys v w zero a b = sym (v.linked 0 a) ∙ w.linked 0 b
walks_agree words head xs ys v w (suc i) a b =
    sym (v.linked (suc i) a)
    ∙ (ap (next_of words) (walks_agree words head xs ys v w i (omega arith) (omega arith)) ∙ w.linked (suc i) b)

-- and the same block before each place that both reach
pub walks_agree_before : (words : List ℕ) (head : SegmentHead) (xs ys : List ℕ)
    → IsWalk words head xs → IsWalk words head ys
    → (i : ℕ) → i ≤ length xs → i ≤ length ys → before xs i ≡ before ys i
walks_agree_before words head xs ys v w zero a b = refl
walks_agree_before words head xs ys v w (suc i) a b =
    walks_agree words head xs ys v w i (omega arith) (omega arith)

-- a longer walk continues where the next after the last leads
pub longer_walk-next : (words : List ℕ) (head : SegmentHead) (xs ys : List ℕ)
    → IsWalk words head xs → IsWalk words head ys → length xs < length ys
    → next_of words (before xs (length xs)) ≡ slice_index ys (length xs)
longer_walk-next words head xs ys v w longer =
    ap (next_of words) (walks_agree_before words head xs ys v w (length xs) (omega arith) (omega arith))
    ∙ w.linked (length xs) longer

-- which is a valid block
pub longer_walk-block : (words : List ℕ) (head : SegmentHead) (xs ys : List ℕ)
    → IsWalk words head xs → IsWalk words head ys → length xs < length ys
    → is_block words head (next_of words (before xs (length xs))) ≡ true
longer_walk-block words head xs ys v w longer =
    ap (is_block words head) (longer_walk-next words head xs ys v w longer) ∙ w.lawful (length xs) longer

-- and differs from all before
pub longer_walk-new : (words : List ℕ) (head : SegmentHead) (xs ys : List ℕ)
    → IsWalk words head xs → IsWalk words head ys → length xs < length ys
    → (i : ℕ) → i < length xs → slice_index xs i ≢ next_of words (before xs (length xs))
longer_walk-new words head xs ys v w longer i lt same =
    w.distinct i (length xs) lt longer
    (sym (walks_agree words head xs ys v w i lt (omega arith)) ∙ (same ∙ longer_walk-next words head xs ys v w longer))

-- no block is valid at 12
pub queue_is_no_block : (words : List ℕ) (head : SegmentHead) → is_block words head 12 ≡ false
queue_is_no_block words head = refl

-- a walk is the list if no walk is longer
pub IsListed-from_walk : (words : List ℕ) (head : SegmentHead) (references : List ℕ) → IsWalk words head references
    → ((others : List ℕ) → IsWalk words head others → length references < length others → ⊥)
    → IsListed words head references
IsListed-from_walk words head references walk none = record {
  walk = walk;
  longest = λ others w. elim (cases_lt (length references) (length others)) [
    | inl longer ↦ absurd (none others w longer)
    | inr le ↦ le
  ];
}

-- a walk is the list if there is no valid block at its end
pub IsListed-from_no_block : (words : List ℕ) (head : SegmentHead) (references : List ℕ) → IsWalk words head references
    → is_block words head (next_of words (before references (length references))) ≡ false
    → IsListed words head references
IsListed-from_no_block words head references walk unlawful =
    IsListed-from_walk words head references walk
    (λ others w longer. both_ways _ unlawful (longer_walk-block words head references others walk w longer))

-- a walk whose last next is 12 is the list
pub IsListed-from_end : (words : List ℕ) (head : SegmentHead) (references : List ℕ) → IsWalk words head references
    → (next_of words (before references (length references)) == 12) ≡ true
    → IsListed words head references
IsListed-from_end words head references walk end =
    IsListed-from_no_block words head references walk
    (ap (is_block words head) (eqb-true _ 12 end) ∙ queue_is_no_block words head)

-- a walk whose last next is in it is the list
pub IsListed-from_loop : (words : List ℕ) (head : SegmentHead) (references : List ℕ) → IsWalk words head references
    → list_any (λ reference. reference == next_of words (before references (length references))) references ≡ true
    → IsListed words head references
IsListed-from_loop words head references walk again =
    let next : ℕ = next_of words (before references (length references)) in
    let found = Any-from_list_any (λ (x : ℕ). x == next) references again in
    let same : slice_index references found.0 ≡ next =
    sym (get_or_default_zero references found.0 found.1 found.2) ∙ (found.3 ∙ eqb-true found.1 next found.4) in
    IsListed-from_walk words head references walk
    (λ others w longer. longer_walk-new words head references others walk w longer found.0 found.2 same)

-- what a fault says of the checks that it comes from
stop_fault : (end placed claimed again : Bool) (fault : ImageFault)
    → (if end then None else first_fault ((not placed, BadRef) ∷ (not claimed, BadBlock) ∷ (again, Loop) ∷ [])) ≡ Some fault
    → ((placed && claimed) ≡ false) ⊎ (again ≡ true)
stop_fault true placed claimed again fault e = absurd (cc)
stop_fault false false claimed again fault e = inl refl
stop_fault false true false again fault e = inl refl
stop_fault false true true true fault e = inr refl
stop_fault false true true false fault e = absurd (cc)

-- a walk that stops with a fault is the list
pub IsListed-from_fault : (words : List ℕ) (head : SegmentHead) (references : List ℕ) (fault : ImageFault)
    → IsWalk words head references → stop_of words head references ≡ Some fault
    → IsListed words head references
IsListed-from_fault words head references fault walk stop =
    let next : ℕ = next_of words (before references (length references)) in
    elim (stop_fault (next == 12) (is_placed head next) (is_claimed words head next)
    (list_any (λ (x : ℕ). x == next) references) fault stop) [
      | inl unlawful ↦ IsListed-from_no_block words head references walk unlawful
      | inr again ↦ IsListed-from_loop words head references walk again
    ]

-- no reference is a walk
pub IsWalk-none : (words : List ℕ) (head : SegmentHead) → IsWalk words head []
IsWalk-none words head = record {
  linked = λ i lt. absurd (omega arith);
  lawful = λ i lt. absurd (omega arith);
  distinct = λ i j lt within. absurd (omega arith);
}

-- what comes before a place of a list is unchanged when one more comes at the end
before-push : (references : List ℕ) (reference : ℕ) (i : ℕ) → i ≤ length references
    → before (references ++ reference ∷ []) i ≡ before references i
before-push references reference zero le = refl
before-push references reference (suc i) le = get_or_append_left references (reference ∷ []) 0 i (omega arith)

-- a place of a list with one more at its end is a place of the list, or the last
push_cases : (references : List ℕ) (reference : ℕ) (i : ℕ) → i < length (references ++ reference ∷ [])
    → ((i < length references) × (slice_index (references ++ reference ∷ []) i ≡ slice_index references i))
    ⊎ ((i ≡ length references) × (slice_index (references ++ reference ∷ []) i ≡ reference))
push_cases references reference i within = elim (cases_lt i (length references)) [
  | inl lt ↦ inl (lt, get_or_append_left references (reference ∷ []) 0 i lt)
  | inr le ↦
      let last : i ≡ length references = omega (arith, length_push references reference) in
      inr (last, get_or_push references reference 0 i (sym last))
]

-- a walk stays one with one more reference at its end: the next after its last, of a valid block, and not in it
pub IsWalk-push : (words : List ℕ) (head : SegmentHead) (references : List ℕ) (reference : ℕ)
    → IsWalk words head references
    → next_of words (before references (length references)) ≡ reference
    → is_block words head reference ≡ true
    → list_any (λ other. other == reference) references ≡ false
    → IsWalk words head (references ++ reference ∷ [])
IsWalk-push words head references reference walk next block new = record {
  linked = λ i within. elim (push_cases references reference i within) [
    | inl kept ↦ ap (next_of words) (before-push references reference i (omega arith))
        ∙ (walk.linked i kept.0 ∙ sym kept.1)
    | inr last ↦ ap (next_of words) (before-push references reference i (omega arith))
        ∙ (ap (λ k. next_of words (before references k)) last.0 ∙ (next ∙ sym last.1))
  ];
  lawful = λ i within. elim (push_cases references reference i within) [
    | inl kept ↦ ap (is_block words head) kept.1 ∙ walk.lawful i kept.0
    | inr last ↦ ap (is_block words head) last.1 ∙ block
  ];
  distinct = λ i j lt within same. elim (push_cases references reference j within) [
    | inl kept ↦
        let front = get_or_append_left references (reference ∷ []) 0 i (omega arith) in
        walk.distinct i j lt kept.0 (sym front ∙ (same ∙ kept.1))
    | inr last ↦
        let inside : i < length references = omega arith in
        let front = get_or_append_left references (reference ∷ []) 0 i inside in
        both_ways _ new
        (list_any_at (λ (x : ℕ). x == reference) references i 0 inside
        (eq-eqb _ reference (sym front ∙ (same ∙ last.1))))
  ];
}

-- two lists of the same words are one
pub listed_agree : (words : List ℕ) (head : SegmentHead) (xs ys : List ℕ)
    → IsListed words head xs → IsListed words head ys → xs ≡ ys
listed_agree words head xs ys v w =
    let long : length xs ≡ length ys = omega (arith, v.longest ys w.walk, w.longest xs v.walk) in
    same_lists xs ys long
    (λ k d lt.
    get_or_default xs k d 0 lt
    ∙ (walks_agree words head xs ys v.walk w.walk k lt (omega arith) ∙ get_or_default ys k 0 d (omega arith)))

-- two readings of the same words are one
pub readings_agree : (words : List ℕ) (head : SegmentHead) (a b : Reading)
    → IsReading words head a → IsReading words head b → a ≡ b
readings_agree words head a b v w =
    v.2 ∙ (ap (reading_along words head) (listed_agree words head v.0 w.0 v.1 w.1) ∙ sym w.2)

-- where a valid block lies: it has five words or more, after the header and below the free pointer
pub is_block-within : (words : List ℕ) (head : SegmentHead) (reference : ℕ) → is_block words head reference ≡ true
    → (16 ≤ reference) × (5 ≤ field_at words reference 0) × (reference + field_at words reference 0 ≤ head.free)
is_block-within words head reference lawful =
    let size : ℕ = field_at words reference 0 in
    let parts = and_parts (is_placed head reference) (is_claimed words head reference) lawful in
    let placed = and_parts (nat_le 16 reference) (nat_le (reference + 5) head.free) parts.0 in
    let three = (and_parts _ _ parts.1).0 in
    let two = and_parts _ (nat_le (reference + size) head.free) three in
    let one = and_parts (field_at words reference 1 == 0xC8799269) (nat_le 5 size) two.0 in
    (leb-true 16 reference placed.0, leb-true 5 size one.1, leb-true (reference + size) head.free two.1)

-- a walk has at most as many references as there are words below the free pointer
pub IsWalk-length : (words : List ℕ) (head : SegmentHead) (xs : List ℕ) → IsWalk words head xs → length xs ≤ head.free
IsWalk-length words head xs walk =
    length-le_from_distinct_below xs head.free
    (IsDistinct-from_AllPairs Decides-eqb xs
    (λ i j d lt within same.
    walk.distinct i j lt within
    (get_or_default xs i 0 d (omega arith) ∙ (same ∙ get_or_default xs j d 0 within))))
    (λ q found.
    let at = Any-from_list_any (λ (x : ℕ). q == x) xs found in
    let block = is_block-within words head (slice_index xs at.0) (walk.lawful at.0 at.2) in
    let is : q ≡ slice_index xs at.0 =
    eqb-true q at.1 at.4 ∙ (sym at.3 ∙ get_or_default_zero xs at.0 at.1 at.2) in
    omega (arith, block.1, block.2))

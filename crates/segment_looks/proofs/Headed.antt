-- The header of a look: what it says of its words, and that it stays valid.
use Rattle.std.proofs.Common.{◌≡◌, Bool, true, false, not, ◌&&◌, ◌||◌, ◌==◌, if◌then◌else◌, ℕ, suc, ◌+◌, ◌<◌, ◌≤◌, List, [], ◌∷◌, ◌++◌, length, All, Ok, refl, arith, ap, ◌∙◌}
use Rattle.std.specs.Prelude.{nat_lt, nat_le, is_ok}
use Rattle.std.specs.List.{AllByRecursion}
use Rattle.std.proofs.lemmas.Bool.{not-false, or_parts, and_parts, leb-true, ltb-false, eqb-true}
use Rattle.segment_image.specs.Checks.{checked}
use Rattle.segment_image.specs.Words.{word_at}
use Rattle.segment_image.specs.Shape.{is_size}
use Rattle.segment_image.specs.Head.{header_of, header_checks, head_of}
use Rattle.segment_image.specs.Blocks.{is_placed}
use Rattle.segment_image.specs.declared.head.SegmentHead.{SegmentHead}
use Rattle.segment_image.specs.declared.fault.ImageFault.{ImageFault}
use Rattle.segment_looks.specs.Patches.{Patch, IsPatched, has_word, patched_word}
use Rattle.segment_looks.specs.Looks.{AreCopies, counts_patches, counts_reference, has_room, histogram_patches, list_patches, record_patches, records_patches}

-- ---- what a valid header says

-- if checks give a value, none of them fails, and it is the value that they were given
checked_ok : {F X : Type 0} (checks : List (Bool × F)) (x y : X) → checked checks x ≡ Ok y
    → AllByRecursion (λ check. check.0 ≡ false) checks × (x ≡ y)
checked_ok [] x y e = (tt, cc)
checked_ok ((true, fault) ∷ rest) x y e = absurd (cc)
checked_ok ((false, fault) ∷ rest) x y e = let more = checked_ok rest x y e in ((refl, more.0), more.1)

pub AreCopies-from_header : (head : SegmentHead) (one two three : List ℕ) → header_of three ≡ Ok head
    → length one ≡ length three → length two ≡ length three → AreCopies head one two three
AreCopies-from_header head one two three e same_one same_two =
    let passed = checked_ok (header_checks three) (head_of three) head e in
    let p = passed.0 in
    let long : 16 ≤ length three = ltb-false (length three) 16 p.0 in
    let size : word_at three 2 ≡ length three = eqb-true (word_at three 2) (length three)
    (not-false (word_at three 2 == length three)
    (or_parts (not (word_at three 2 == length three)) (not (is_size (word_at three 2) (word_at three 3))) p.1.1.1.1.0).0) in
    let free = or_parts (nat_lt (word_at three 7) 16) (nat_lt (word_at three 2) (word_at three 7)) p.1.1.1.1.1.1.1.0 in
    let least : 16 ≤ word_at three 7 = ltb-false (word_at three 7) 16 free.0 in
    let most : word_at three 7 ≤ word_at three 2 = ltb-false (word_at three 2) (word_at three 7) free.1 in
    let same : (head_of three).free ≡ head.free = ap (λ (h : SegmentHead). h.free) passed.1 in
    record {
      header = e;
      long_one = same_one;
      long_two = same_two;
      long = long;
      free_least = omega (arith, least, same);
      free_most = omega (arith, most, same, size);
    }

-- ---- patches after the header

abbrev IsBehind : List Patch → Type 0
IsBehind patches = AllByRecursion (λ patch. 16 ≤ patch.from) patches

none-before : (from many k : ℕ) → k < from → (nat_le from k && nat_lt k (from + many)) ≡ false
none-before from many k lt = grind arith

-- they have no word of it
patched_word-behind : (patches : List Patch) (k other : ℕ) → IsBehind patches → k < 16 → patched_word patches k other ≡ other
patched_word-behind [] k other behind lt = refl
patched_word-behind (patch ∷ rest) k other behind lt =
    let none : has_word patch k ≡ false = none-before patch.from (length patch.words) k (omega (arith, lt, behind.0)) in
    rw none (patched_word-behind rest k other behind.1 lt)

IsBehind-append : (ps qs : List Patch) → IsBehind ps → IsBehind qs → IsBehind (ps ++ qs)
IsBehind-append [] qs p q = q
IsBehind-append (patch ∷ ps) qs p q = (p.0, IsBehind-append ps qs p.1 q)

IsBehind-if : (b : Bool) (ps : List Patch) → (b ≡ true → IsBehind ps) → IsBehind (if b then ps else [])
IsBehind-if true ps p = p refl
IsBehind-if false ps p = tt

IsBehind-unless : (b : Bool) (ps : List Patch) → (b ≡ false → IsBehind ps) → IsBehind (if b then [] else ps)
IsBehind-unless true ps p = tt
IsBehind-unless false ps p = p refl

IsBehind-either : (b : Bool) (ps qs : List Patch) → IsBehind ps → IsBehind qs → IsBehind (if b then ps else qs)
IsBehind-either true ps qs p q = p
IsBehind-either false ps qs p q = q

room-behind : (few none behind below : Bool) → (few && (none || (behind && below))) ≡ true → none ≡ false → behind ≡ true
room-behind few none behind below e f = grind arith

IsBehind-counts : (head : SegmentHead) (one two : List ℕ) (at counts n : ℕ) → has_room head counts n ≡ true
    → IsBehind (counts_patches one two at counts n)
IsBehind-counts head one two at counts n room = IsBehind-unless (counts == 0) _ (λ some.
    let behind : 16 ≤ counts = leb-true 16 counts (room-behind _ (counts == 0) (nat_le 16 counts) _ room some) in
    (omega (arith, behind), (omega (arith, behind), tt)))

IsBehind-histogram : (head : SegmentHead) (one two three : List ℕ) (at : ℕ) → 16 ≤ at → IsBehind (histogram_patches head one two three at)
IsBehind-histogram head one two three at behind = IsBehind-if
    (nat_le (at + 16) head.free && has_room head (counts_reference two three at) (word_at three (at + 7))) _ (λ room. (
      omega (arith, behind),
      IsBehind-counts head one two at (counts_reference two three at) (word_at three (at + 7))
          (and_parts (nat_le (at + 16) head.free) (has_room head (counts_reference two three at) (word_at three (at + 7))) room).1,
    ))

IsBehind-record : (head : SegmentHead) (one two three : List ℕ) (at : ℕ) → 16 ≤ at → IsBehind (record_patches head one two three at)
IsBehind-record head one two three at behind = IsBehind-either (word_at three (at + 2) == 1) _ _
    (IsBehind-histogram head one two three at behind)
    (IsBehind-if (word_at three (at + 2) == 3) _ (λ _. IsBehind-if (nat_le (at + 8) head.free) _ (λ _. (omega (arith, behind), tt))))

IsBehind-records : (head : SegmentHead) (one two three records : List ℕ) → All (λ at. is_placed head at ≡ true) records
    → IsBehind (records_patches head one two three records)
IsBehind-records head one two three [] placed = tt
IsBehind-records head one two three (at ∷ rest) placed =
    let here : is_placed head at ≡ true = placed 0 at (omega arith) in
    let behind : 16 ≤ at = leb-true 16 at (and_parts (nat_le 16 at) (nat_le (at + 5) head.free) here).0 in (
      omega (arith, behind),
      IsBehind-append (record_patches head one two three at) (records_patches head one two three rest)
          (IsBehind-record head one two three at behind)
          (IsBehind-records head one two three rest (λ k d lt. placed (suc k) d (omega (arith, lt)))),
    )

-- ---- the header stays

none-beside : (from k : ℕ) → (k ≡ from → ⊥) → (nat_le from k && nat_lt k (from + 1)) ≡ false
none-beside from k other = grind arith

-- each of its words except the tail and the start of the list
stays : (head : SegmentHead) (one two three records words : List ℕ) → 16 ≤ head.free → All (λ at. is_placed head at ≡ true) records
    → IsPatched (list_patches head one two three records) three words → (k : ℕ) → k < 16 → (k ≡ 15 → ⊥) → (k ≡ 8 → ⊥)
    → word_at words k ≡ word_at three k
stays head one two three records words free placed patched k lt no_start no_tail =
    let start = none-beside 15 k no_start in
    let tail = none-beside 8 k no_tail in
    let behind = IsBehind-append (records_patches head one two three records) _ (IsBehind-records head one two three records placed) (free, tt) in
    patched.each k ∙ rw (start, tail) (patched_word-behind _ k (word_at three k) behind lt)

is_ok-checked : {F X : Type 0} (checks : List (Bool × F)) (x y : X) → is_ok (checked checks x) ≡ is_ok (checked checks y)
is_ok-checked [] x y = refl
is_ok-checked ((true, fault) ∷ rest) x y = refl
is_ok-checked ((false, fault) ∷ rest) x y = is_ok-checked rest x y

pub header-patched : (head : SegmentHead) (one two three records words : List ℕ) → AreCopies head one two three
    → All (λ at. is_placed head at ≡ true) records
    → IsPatched (list_patches head one two three records) three words → is_ok (header_of words) ≡ true
header-patched head one two three records words copies placed patched =
    let s : (k : ℕ) → k < 16 → (k ≡ 15 → ⊥) → (k ≡ 8 → ⊥) → word_at words k ≡ word_at three k =
    stays head one two three records words copies.free_least placed patched in
    let same : header_checks words ≡ header_checks three =
    rw (
      patched.long,
      s 0 (omega arith) (omega arith) (omega arith),
      s 1 (omega arith) (omega arith) (omega arith),
      s 2 (omega arith) (omega arith) (omega arith),
      s 3 (omega arith) (omega arith) (omega arith),
      s 5 (omega arith) (omega arith) (omega arith),
      s 7 (omega arith) (omega arith) (omega arith),
      s 12 (omega arith) (omega arith) (omega arith),
      s 13 (omega arith) (omega arith) (omega arith),
      s 14 (omega arith) (omega arith) (omega arith),
    ) refl in
    ap (λ (checks : List (Bool × ImageFault)). is_ok (checked checks (head_of words))) same
    ∙ is_ok-checked (header_checks three) (head_of words) (head_of three) ∙ ap is_ok copies.header

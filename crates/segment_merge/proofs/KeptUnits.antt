-- What is noted of the keys of a histogram is what was noted, and the items that were added.
use Rattle.std.proofs.Common.{◌≡◌, ℕ, zero, suc, ◌+◌, ◌-◌, ◌≤◌, ℤ, Bool, true, false, if◌then◌else◌, List, [], ◌∷◌, ◌++◌, map, length, take, replicate, Some, None, inl, inr, refl, ap, arith}
use Rattle.std.specs.Prelude.{◌&&◌, ◌==◌, nat_lt}
use Rattle.std.specs.List.{All, cons_option, filter_map, zip}
use Rattle.std.specs.Ordering.{int_eq}
use Rattle.std.proofs.lemmas.Bool.{cases_lt, lt-ltb, ne_eqb}
use Rattle.std.proofs.lemmas.List.{length-append, length-replicate, take_all}
use Rattle.std.proofs.lemmas.List.Elements.{All-head, All-tail}
use Rattle.std.proofs.lemmas.List.Sums.{sum_by-cons}
use Rattle.bucket_ranges.specs.Reading.{Histogram}
use Rattle.segment_machine.specs.Actor.{units_listed}
use Rattle.segment_promises.specs.Reads.{mark_read, units_read}
use Rattle.segment_merge.specs.Cut.{cut_at, kept}
use Rattle.segment_merge.specs.Marks.{ReachesItsMark, key_marks}
use Rattle.segment_merge.specs.Merge.{items_left}
use Rattle.segment_merge.specs.Noted.{HasRisen}
use Rattle.segment_merge.specs.Remainder.{left_of, marked}

-- a key with its mark, in the place of its units
abbrev pub beside : (ℤ × ℕ) × ℕ → ℤ × ℕ
beside each = (each.0.0, each.1)

-- nothing, whichever way a test goes
none_either : (b : Bool) → ◌≡◌ {A = ℕ} (if b then 0 else 0) 0
none_either true = refl
none_either false = refl

-- units are those that are marked and those above
parted : (b : Bool) (units mark : ℕ) → mark ≤ units → (if b then units else 0) ≡ (if b then mark else 0) + (if b then units - mark else 0)
parted true units mark room = omega arith
parted false units mark room = refl

module _ (key : ℤ) where
  -- the units of an entry, if it is of the key
  abbrev unit : ℤ × ℕ → ℕ
  unit count = if int_eq count.0 key then count.1 else 0

  units_cons : (x : ℤ × ℕ) (xs : List (ℤ × ℕ)) → units_listed (x ∷ xs) key ≡ unit x + units_listed xs key
  units_cons x xs = sum_by-cons (λ (count : ℤ × ℕ). if int_eq count.0 key then count.1 else 0) x xs

  -- one key more of those that are noted
  kept_one : (b : Bool) (k : ℤ) (units mark n : ℕ) (rest : List ((ℤ × ℕ) × ℕ)) → mark ≤ units → (b ≡ false → mark ≡ units)
      → ((m : ℕ) → units_listed (kept m rest) key ≡ units_listed (map beside rest) key + units_listed (take m (filter_map left_of rest)) key)
      → units_listed ((k, if b && (n == 0) then mark else units) ∷ kept (if b then n - 1 else n) rest) key
      ≡ units_listed ((k, mark) ∷ map beside rest) key
      + units_listed (take n (cons_option (if b then Some (k, units - mark) else None) (filter_map left_of rest))) key
  kept_one false k units mark n rest room same further =
      let whole = units_cons (k, units) (kept n rest) in
      let marks = units_cons (k, mark) (map beside rest) in
      let behind = further n in
      let its : unit (k, mark) ≡ unit (k, units) = ap (λ (m : ℕ). unit (k, m)) (same refl) in
      omega (arith, whole, marks, behind, its)
  kept_one true k units mark zero rest room same further =
      let whole = units_cons (k, mark) (kept 0 rest) in
      let marks = units_cons (k, mark) (map beside rest) in
      let behind = further 0 in
      omega (arith, whole, marks, behind)
  kept_one true k units mark (suc m) rest room same further =
      let some : (suc m == 0) ≡ false = ne_eqb (suc m) 0 (λ e. absurd (omega (arith, e))) in
      let fewer : suc m - 1 ≡ m = omega arith in
      let turned : units_listed ((k, if suc m == 0 then mark else units) ∷ kept (suc m - 1) rest) key ≡ units_listed ((k, units) ∷ kept m rest) key =
      (λ i. units_listed ((k, if some i then mark else units) ∷ kept (fewer i) rest) key) in
      let whole = units_cons (k, units) (kept m rest) in
      let marks = units_cons (k, mark) (map beside rest) in
      let items = units_cons (k, units - mark) (take m (filter_map left_of rest)) in
      let behind = further m in
      let parts = parted (int_eq k key) units mark room in
      omega (arith, turned, whole, marks, items, behind, parts)

  -- where a mark is not below the units it is the same
  same_mark : (mark units : ℕ) → mark ≤ units → nat_lt mark units ≡ false → mark ≡ units
  same_mark mark units room not_below = elim (cases_lt mark units) [
    | inl more ↦ let below = lt-ltb mark units more in absurd (cc (below, not_below))
    | inr past ↦ omega (arith, past, room)
  ]

  -- what is noted once some items were added
  pub kept_units : (n : ℕ) (pairs : List ((ℤ × ℕ) × ℕ)) → All ReachesItsMark pairs
      → units_listed (kept n pairs) key ≡ units_listed (map beside pairs) key + units_listed (take n (filter_map left_of pairs)) key
  kept_units n [] all =
      let none : take {A = ℤ × ℕ} n [] ≡ [] = take_all n [] (omega arith) in
      let empty = ap (λ (list : List (ℤ × ℕ)). units_listed list key) none in
      omega (arith, empty)
  kept_units n (((k, units), mark) ∷ rest) all =
      let room : mark ≤ units = All-head ReachesItsMark ((k, units), mark) rest all in
      kept_one (nat_lt mark units) k units mark n rest room (same_mark mark units room)
      (λ m. kept_units m rest (All-tail ReachesItsMark ((k, units), mark) rest all))

  -- one key more of those of which all was added
  whole_one : (b : Bool) (k : ℤ) (units mark : ℕ) (rest : List ((ℤ × ℕ) × ℕ)) → mark ≤ units → (b ≡ false → mark ≡ units)
      → units_listed (map (λ each. each.0) rest) key ≡ units_listed (map beside rest) key + units_listed (filter_map left_of rest) key
      → units_listed ((k, units) ∷ map (λ each. each.0) rest) key
      ≡ units_listed ((k, mark) ∷ map beside rest) key
      + units_listed (cons_option (if b then Some (k, units - mark) else None) (filter_map left_of rest)) key
  whole_one false k units mark rest room same further =
      let whole = units_cons (k, units) (map (λ (each : (ℤ × ℕ) × ℕ). each.0) rest) in
      let marks = units_cons (k, mark) (map beside rest) in
      let its : unit (k, mark) ≡ unit (k, units) = ap (λ (m : ℕ). unit (k, m)) (same refl) in
      omega (arith, whole, marks, further, its)
  whole_one true k units mark rest room same further =
      let whole = units_cons (k, units) (map (λ (each : (ℤ × ℕ) × ℕ). each.0) rest) in
      let marks = units_cons (k, mark) (map beside rest) in
      let items = units_cons (k, units - mark) (filter_map left_of rest) in
      let parts = parted (int_eq k key) units mark room in
      omega (arith, whole, marks, items, further, parts)

  -- what is noted once all items were added
  whole_units : (pairs : List ((ℤ × ℕ) × ℕ)) → All ReachesItsMark pairs
      → units_listed (map (λ each. each.0) pairs) key ≡ units_listed (map beside pairs) key + units_listed (filter_map left_of pairs) key
  whole_units [] all = refl
  whole_units (((k, units), mark) ∷ rest) all =
      let room : mark ≤ units = All-head ReachesItsMark ((k, units), mark) rest all in
      whole_one (nat_lt mark units) k units mark rest room (same_mark mark units room) (whole_units rest (All-tail ReachesItsMark ((k, units), mark) rest all))

  -- the marks of keys that have none are 0
  no_marks : (counts : List (ℤ × ℕ)) (more : ℕ) → units_listed (map beside (zip counts (replicate more 0))) key ≡ 0
  no_marks [] more = refl
  no_marks (count ∷ counts) zero = refl
  no_marks (count ∷ counts) (suc more) =
      let first = units_cons (count.0, 0) (map beside (zip counts (replicate more 0))) in
      let zero_either = none_either (int_eq count.0 key) in
      let rest = no_marks counts more in
      omega (arith, first, zero_either, rest)

  -- so the marks are those that are listed
  marks_are : (counts : List (ℤ × ℕ)) (marks : List ℕ) (more : ℕ)
      → units_listed (map beside (zip counts (marks ++ replicate more 0))) key ≡ units_listed (key_marks counts marks) key
  marks_are [] marks more = refl
  marks_are (count ∷ counts) [] more = no_marks (count ∷ counts) more
  marks_are (count ∷ counts) (mark ∷ marks) more =
      let first = units_cons (count.0, mark) (map beside (zip counts (marks ++ replicate more 0))) in
      let other = units_cons (count.0, mark) (key_marks counts marks) in
      let rest = marks_are counts marks more in
      omega (arith, first, other, rest)

  -- the keys are those that are beside the marks
  counts_are : (counts : List (ℤ × ℕ)) (marks : List ℕ) → length counts ≤ length marks → map (λ (each : (ℤ × ℕ) × ℕ). each.0) (zip counts marks) ≡ counts
  counts_are [] marks long = refl
  counts_are (count ∷ counts) [] long = absurd (omega (arith, long))
  counts_are (count ∷ counts) (mark ∷ marks) long = ap (λ (list : List (ℤ × ℕ)). count ∷ list) (counts_are counts marks (omega (arith, long)))

  -- ---- of a histogram

  -- of which some items were added
  pub cut_units : (h : Histogram) (n : ℕ) → HasRisen h → units_read (cut_at n h) key ≡ mark_read h key + units_listed (take n (items_left h)) key
  cut_units h n risen =
      let all = kept_units n (marked h.counts h.marks) risen in
      let marks = marks_are h.counts h.marks (length h.counts) in
      omega (arith, all, marks)

  -- of which all was added
  pub read_units : (h : Histogram) → HasRisen h → units_read h key ≡ mark_read h key + units_listed (items_left h) key
  read_units h risen =
      let all = whole_units (marked h.counts h.marks) risen in
      let marks = marks_are h.counts h.marks (length h.counts) in
      let long = length-append h.marks (replicate (length h.counts) 0) in
      let many : length (replicate {A = ℕ} (length h.counts) 0) ≡ length h.counts = length-replicate (length h.counts) 0 in
      let counts = ap (λ (list : List (ℤ × ℕ)). units_listed list key)
      (counts_are h.counts (h.marks ++ replicate (length h.counts) 0) (omega (arith, long, many))) in
      omega (arith, all, marks, counts)

-- If no amount of a name is negative, its sum rises: it is as large as that of the amounts above 0, and none is below.
use Rattle.segment_invariant.proofs.Prelude.Std.{◌≡◌, ◌&&◌, ◌||◌, ℕ, zero, suc, ◌+◌, ◌<◌, ◌≤◌, ℤ, pos, ◌+ℤ◌, Bool, true, false, cond, if◌then◌else◌, List, [], ◌∷◌, ◌++◌, map, filter, flat_map, sum_by, sum_by-append, sum_by-cons, refl, sym, ap, subst, ◌∙◌, arith, +ℤ_idl, +ℤ_idr, bytes_eq-Decides, All, All-head, All-tail, some, get_elem?, and_parts, filter-append, map-append}
use Rattle.segment_invariant.proofs.Prelude.Machine.{Dimensions, State, Entry, EntryProgress, Actor, Histogram, Reading, head_of, has_ended, is_counted, is_noted, is_summed, is_of, all_summed, summed_of, tally_sum}
use Rattle.segment_invariant.proofs.Prelude.Invariant.{Anatomy, Invariant}
use Rattle.std.specs.Prelude.{negsuc, ◌≤ℤ◌}
use Rattle.std.proofs.lemmas.Int.{ints}
use Rattle.bucket_ranges.specs.Reading.{IsReading}
use Rattle.segment_looks.specs.Looks.{IsLook}
use Rattle.segment_machine.specs.Actor.{log_of}
use Rattle.segment_machine.specs.Entry.{summed_among}
use Rattle.segment_invariant.proofs.Lists.Countings.{sum_total}
use Rattle.segment_promises.specs.Reads.{begun_of}
use Rattle.look_promises.specs.Sums.{NoneNegative, ReadingsBoundTheirSums, ReadingsRaiseTheirSums}
use Rattle.look_promises.proofs.Moments.Runs.{Run, run_of, kept_at, reached}
use Rattle.look_promises.proofs.Copies.ThreeCopies.{ThreeCopies, three_copies, hd_of}
use Rattle.look_promises.proofs.Copies.Named.{two_within}
use Rattle.look_promises.proofs.Kept.Added.{added_rises}
use Rattle.look_promises.proofs.Kept.Noted.{logged_ended}
use Rattle.look_promises.proofs.Kept.Sums.{says_its_sums, sum_inside}

-- how far a number is above 0, and below
abbrev pub above : ℤ → ℕ
above (pos n) = n
above (negsuc n) = 0

abbrev pub below : ℤ → ℕ
below (pos n) = 0
below (negsuc n) = suc n

apart : (z : ℤ) → z +ℤ pos (below z) ≡ pos (above z)
apart (pos n) = +ℤ_idr (pos n)
apart (negsuc n) = omega (arith, ints)

not_below : (z : ℤ) → pos 0 ≤ℤ z → below z ≡ 0
not_below (pos n) up = refl
not_below (negsuc n) up = absurd (omega (arith, ints, up))

module _ (name : List ℕ) where
  -- of an entry of the name
  abbrev pub up : Entry → ℕ
  up e = if is_of name e then above e.amount else 0

  abbrev pub down : Entry → ℕ
  down e = if is_of name e then below e.amount else 0

  light_up : (e : Entry) → e.amount ≡ pos 0 → up e ≡ 0
  light_up e none = by_test (is_of name e) (ap above none)
    where
      by_test : (b : Bool) → above e.amount ≡ 0 → (if b then above e.amount else 0) ≡ 0
      by_test true is = is
      by_test false is = refl

  light_down : (e : Entry) → e.amount ≡ pos 0 → down e ≡ 0
  light_down e none = by_test (is_of name e) (ap below none)
    where
      by_test : (b : Bool) → below e.amount ≡ 0 → (if b then below e.amount else 0) ≡ 0
      by_test true is = is
      by_test false is = refl

  one_apart : (b : Bool) (z : ℤ) → (if b then z else pos 0) +ℤ pos (if b then below z else 0) ≡ pos (if b then above z else 0)
  one_apart true z = apart z
  one_apart false z = refl

  -- a sum is that of the amounts above 0, less those below
  balance : (entries : List Entry) → tally_sum entries name +ℤ pos (sum_by down entries) ≡ pos (sum_by up entries)
  balance [] = refl
  balance (e ∷ rest) =
      let parts = sum_total name (e ∷ []) rest in
      let first : tally_sum (e ∷ []) name ≡ (if is_of name e then e.amount else pos 0) = +ℤ_idl (if is_of name e then e.amount else pos 0) in
      let one = one_apart (is_of name e) e.amount in
      let others = balance rest in
      let downs = sum_by-cons down e rest in
      let ups = sum_by-cons up e rest in
      omega (arith, ints, parts, first, one, others, downs, ups)

  none_down : (entries : List Entry) → NoneNegative entries name → sum_by down entries ≡ 0
  none_down [] all = refl
  none_down (e ∷ rest) all =
      let first = by_test (is_of name e) (bytes_eq-Decides e.name name).0 (All-head (λ (e : Entry). e.name ≡ name → pos 0 ≤ℤ e.amount) e rest all) in
      let others = none_down rest (All-tail (λ (e : Entry). e.name ≡ name → pos 0 ≤ℤ e.amount) e rest all) in
      let whole = sum_by-cons down e rest in
      omega (arith, first, others, whole)
    where
      by_test : (b : Bool) → (b ≡ true → e.name ≡ name) → (e.name ≡ name → pos 0 ≤ℤ e.amount) → (if b then below e.amount else 0) ≡ 0
      by_test true same higher = not_below e.amount (higher (same refl))
      by_test false same higher = refl

  -- of two lists without a negative amount, the heavier one has the greater sum
  pub sum_more : (xs ys : List Entry) → sum_by down xs ≡ 0 → sum_by down ys ≡ 0 → sum_by up xs ≤ sum_by up ys → tally_sum xs name ≤ℤ tally_sum ys name
  sum_more xs ys none_x none_y more =
      let first = balance xs in
      let second = balance ys in
      omega (arith, ints, first, second, none_x, none_y, more)

-- ---- what has ended, was added, has begun

module _ (weight : Entry → ℕ) where
  few : (test : EntryProgress → Bool) (list : List EntryProgress)
      → sum_by weight (map (λ c. c.entry) (filter test list)) ≤ sum_by weight (map (λ c. c.entry) list)
  few test [] = omega arith
  few test (c ∷ rest) =
      let others = few test rest in
      let whole = sum_by-cons weight c.entry (map (λ c. c.entry) rest) in
      let front = by_test (test c) in
      omega (arith, others, whole, front)
    where
      by_test : (b : Bool) → sum_by weight (map (λ c. c.entry) (cond b (c ∷ filter test rest) (filter test rest)))
          ≤ weight c.entry + sum_by weight (map (λ c. c.entry) (filter test rest))
      by_test true = let e = sum_by-cons weight c.entry (map (λ c. c.entry) (filter test rest)) in omega (arith, e)
      by_test false = omega arith

  -- all pass
  all_pass : (list : List EntryProgress) → All (λ c. has_ended c ≡ true) list → summed_among list ≡ map (λ c. c.entry) list
  all_pass [] all = refl
  all_pass (c ∷ rest) all =
      ap (λ (b : Bool). map (λ c. c.entry) (cond b (c ∷ filter is_summed rest) (filter is_summed rest))) (summed c (All-head (λ c. has_ended c ≡ true) c rest all))
      ∙ ap (λ (l : List Entry). c.entry ∷ l) (all_pass rest (All-tail (λ c. has_ended c ≡ true) c rest all))
    where
      summed : (c : EntryProgress) → has_ended c ≡ true → is_summed c ≡ true
      summed c ended = (and_parts (is_counted c) (is_summed c) (and_parts (is_counted c && is_summed c) (is_noted c) ended).0).1

  of_log : (a : Actor) → All (λ c. has_ended c ≡ true) a.entries.log → sum_by weight (log_of a) ≤ sum_by weight (summed_of a)
  of_log a ended =
      let logged = sum_by-append weight a.entries.first (map (λ c. c.entry) a.entries.log) in
      let summed = sum_by-append weight a.entries.first (summed_among (a.entries.log ++ a.entries.running)) in
      let split = ap (sum_by weight) (ap (map (λ c. c.entry)) (filter-append is_summed a.entries.log a.entries.running)
      ∙ map-append (λ c. c.entry) (filter is_summed a.entries.log) (filter is_summed a.entries.running)) in
      let parts = sum_by-append weight (summed_among a.entries.log) (summed_among a.entries.running) in
      let same = ap (sum_by weight) (all_pass a.entries.log ended) in
      omega (arith, logged, summed, split, parts, same)

  of_begun : (a : Actor) → sum_by weight (summed_of a) ≤ sum_by weight (begun_of a)
  of_begun a =
      let summed = sum_by-append weight a.entries.first (summed_among (a.entries.log ++ a.entries.running)) in
      let less = few is_summed (a.entries.log ++ a.entries.running) in
      let split = ap (sum_by weight) (map-append (λ c. c.entry) a.entries.log a.entries.running) in
      let parts = sum_by-append weight (map (λ c. c.entry) a.entries.log) (map (λ c. c.entry) a.entries.running) in
      let begun = sum_by-append weight (log_of a) (map (λ c. c.entry) a.entries.running) in
      let logged = sum_by-append weight a.entries.first (map (λ c. c.entry) a.entries.log) in
      omega (arith, summed, less, split, parts, begun, logged)

  rows_less : (f g : Actor → List Entry) (actors : List Actor) → ((i : ℕ) (a : Actor) → get_elem? actors i ≡ some a → sum_by weight (f a) ≤ sum_by weight (g a))
      → sum_by weight (flat_map f actors) ≤ sum_by weight (flat_map g actors)
  rows_less f g [] each = omega arith
  rows_less f g (a ∷ rest) each =
      let first = each 0 a refl in
      let others = rows_less f g rest (λ i b there. each (suc i) b there) in
      let less = sum_by-append weight (f a) (flat_map f rest) in
      let more = sum_by-append weight (g a) (flat_map g rest) in
      omega (arith, first, others, less, more)

  module _ (shape : Dimensions) (opened : Anatomy) (state : State) (kept : Invariant shape opened state) where
    pub ended_less : sum_by weight (flat_map log_of state.actors) ≤ sum_by weight (all_summed state.actors)
    ended_less = rows_less log_of summed_of state.actors (λ i a there. of_log a (logged_ended shape opened state kept i a there))

    pub begun_more : sum_by weight (all_summed state.actors) ≤ sum_by weight (flat_map begun_of state.actors)
    begun_more = rows_less summed_of begun_of state.actors (λ i a there. of_begun a)

-- ---- a run

module _ (run : Run) (name : List ℕ) (last : ℕ) (higher : NoneNegative (flat_map begun_of (run.at last).actors) name) where
  open run use {shape, opened, at}

  rises : (weight : Entry → ℕ) → ((e : Entry) → e.amount ≡ pos 0 → weight e ≡ 0) → (m n : ℕ) → m ≤ n
      → sum_by weight (all_summed (at m).actors) ≤ sum_by weight (all_summed (at n).actors)
  rises weight light m n le = added_rises weight light shape opened (at m) (kept_at run m) (at n) (reached run m n le)

  -- nothing below 0 was added before
  none_added : (m : ℕ) → m ≤ last → sum_by (down name) (all_summed (at m).actors) ≡ 0
  none_added m le =
      let none = none_down name (flat_map begun_of (at last).actors) higher in
      let begun = begun_more (down name) shape opened (at last) (kept_at run last) in
      let more = rises (down name) (light_down name) m last le in
      omega (arith, none, begun, more)

  pub sums_rise : (m n : ℕ) → m ≤ n → n ≤ last → tally_sum (all_summed (at m).actors) name ≤ℤ tally_sum (all_summed (at n).actors) name
  sums_rise m n le down_to =
      sum_more name (all_summed (at m).actors) (all_summed (at n).actors) (none_added m (omega (arith, le, down_to))) (none_added n down_to)
      (rises (up name) (light_up name) m n le)

  pub at_least_ended : (m : ℕ) → m ≤ last → tally_sum (flat_map log_of (at m).actors) name ≤ℤ tally_sum (all_summed (at m).actors) name
  at_least_ended m le =
      let none = none_added m le in
      let less = ended_less (down name) shape opened (at m) (kept_at run m) in
      sum_more name (flat_map log_of (at m).actors) (all_summed (at m).actors) (omega (arith, none, less)) (none_added m le)
      (ended_less (up name) shape opened (at m) (kept_at run m))

  pub at_most_begun : tally_sum (all_summed (at last).actors) name ≤ℤ tally_sum (flat_map begun_of (at last).actors) name
  at_most_begun =
      sum_more name (all_summed (at last).actors) (flat_map begun_of (at last).actors) (none_added last (omega arith))
      (none_down name (flat_map begun_of (at last).actors) higher) (begun_more (up name) shape opened (at last) (kept_at run last))

-- ---- looks

pub readings_bound_their_sums : ReadingsBoundTheirSums
readings_bound_their_sums shape opened at first last moments one two three image reading h run loaded look is there higher =
    let copies = three_copies shape opened at first last moments one two three run loaded in
    let m : ℕ = moments.two (h.reference + 11) in
    let inside = sum_inside copies image look reading is h there in
    let (from, upto) = two_within copies (h.reference + 11) inside in
    let sum = (says_its_sums copies image look reading is h there).sum in
    let ended = at_least_ended copies.run h.name last higher first (omega (arith, from, upto)) in
    let before = sums_rise copies.run h.name last higher first (moments.two (h.reference + 11)) from upto in
    let behind = sums_rise copies.run h.name last higher (moments.two (h.reference + 11)) last upto (omega arith) in
    let begun = at_most_begun copies.run h.name last higher in
    (omega (arith, ints, sum, ended, before), omega (arith, ints, sum, behind, begun))

pub readings_raise_their_sums : ReadingsRaiseTheirSums
readings_raise_their_sums shape opened at first other last moments later one two three four five six image next reading beyond g h run loaded loaded_later order look look_later is is_later there there_later named higher =
    let copies = three_copies shape opened at first last moments one two three run loaded in
    let next_copies = three_copies shape opened at other last later four five six run loaded_later in
    let inside = sum_inside copies image look reading is g there in
    let inside_later = sum_inside next_copies next look_later beyond is_later h there_later in
    let sum = (says_its_sums copies image look reading is g there).sum in
    let sum_later = (says_its_sums next_copies next look_later beyond is_later h there_later).sum in
    let up = order (g.reference + 11) (h.reference + 11) inside inside_later in
    let upto = (two_within next_copies (h.reference + 11) inside_later).1 in
    let more = sums_rise copies.run g.name last higher (moments.two (g.reference + 11)) (later.two (h.reference + 11)) up upto in
    let same : tally_sum (all_summed (at (later.two (h.reference + 11))).actors) h.name ≡ tally_sum (all_summed (at (later.two (h.reference + 11))).actors) g.name =
    ap (tally_sum (all_summed (at (later.two (h.reference + 11))).actors)) named in
    omega (arith, ints, sum, sum_later, more, same)

-- What the histograms that are read of a look have used is no more than all units: it is no more than what was spent on them at the last
-- moment, or is held.
use Rattle.segment_invariant.proofs.Prelude.Std.{◌≡◌, ℕ, ◌+◌, ◌*◌, ◌/◌, ◌<◌, ◌≤◌, ℤ, pos, ◌-ℤ◌, +ℤ_idr, unsigned_abs, max, List, length, sum_by, if◌then◌else◌, inl, inr, refl, sym, ap, subst, ◌∙◌, arith, slice_index, w64, cast_signed, none, Contains, sum_at_least}
use Rattle.segment_invariant.proofs.Prelude.Machine.{word_at, head_of, name_of, Histogram, Reading, Entry, is_of, cost_of, all_counted}
use Rattle.segment_invariant.proofs.Prelude.Invariant.{Body, Piece, Record, histogram, words_of, Stands, HasRecord, summed_cost, noted_held}
use Rattle.std.proofs.Math.Decide.{dec_lt}
use Rattle.std.proofs.lemmas.List.Sums.{sum_by-le-sum_by}
use Rattle.bucket_ranges.specs.Reading.{IsReading}
use Rattle.image_rules.specs.Adoption.{units_for, used_by, used_of}
use Rattle.segment_machine.specs.Actor.{all_costs}
use Rattle.segment_looks.specs.Looks.{IsLook}
use Rattle.segment_invariant.specs.Invariant.{RecordsAreKept, IsSumOf, summed_costs}
use Rattle.segment_invariant.specs.Words.{AreInBounds, WordsAreKept}
use Rattle.segment_invariant.proofs.Blocks.Pieces.{piece_word}
use Rattle.segment_invariant.proofs.Consistency.Firsts.{record_of_first}
use Rattle.segment_invariant.proofs.Consistency.Records.{record_word}
use Rattle.segment_invariant.proofs.Consistency.Sums.{of_mine}
use Rattle.segment_invariant.proofs.Counting.Bounds.{counted_covered, noted_covered}
use Rattle.segment_invariant.proofs.Frames.OneActor.{summed_most}
use Rattle.segment_invariant.proofs.Frames.SumsRise.{distance_through}
use Rattle.segment_promises.proofs.Reached.{states_rise}
use Rattle.segment_promises.proofs.Readings.Blocks.{words_read}
use Rattle.segment_promises.proofs.Readings.Names.{read_first}
use Rattle.segment_promises.proofs.Adopting.Sums.{covered}
use Rattle.segment_promises.proofs.Adopting.Units.{under_key, spent_spread, sum_below}
use Rattle.look_promises.proofs.Moments.Runs.{Run, kept_at, chain_at, reached}
use Rattle.look_promises.proofs.Copies.ThreeCopies.{ThreeCopies, seen_in, hd_of}
use Rattle.look_promises.proofs.Copies.Following.{place_of}
use Rattle.look_promises.proofs.Moments.Listed.{ends_at}
use Rattle.look_promises.proofs.NewRecords.Starts.{not_yet}
use Rattle.look_promises.proofs.Copies.Between.{between}
use Rattle.look_promises.proofs.Moments.Room.{record_was, word_was}
use Rattle.look_promises.proofs.Looked.Anatomy.{seen_of, shown, is_taken_so}
use Rattle.look_promises.proofs.Looked.Counting.{units_counted}
use Rattle.look_promises.proofs.Looked.Reading.{kept}

-- units of 2^31 for an amount
rounded : (size units : ℕ) → size ≤ 2147483648 * units → (size + 2147483647) / 2147483648 ≤ units
rounded size units most = omega (arith, most)

-- ---- sums that are loaded

module _ (run : Run) (last k : ℕ) (below : k < length (chain_at run last))
    (r : Record) (has : HasRecord (kept_at run last).anatomy.pieces (slice_index (chain_at run last) k) r) where
  open run use {shape, opened, at}

  abbrev h : ℕ
  h = slice_index (chain_at run last) k

  -- what the sums of its name have cost at a moment
  abbrev pub costs : ℕ → ℕ
  costs t = summed_costs r.name (at t).actors

  pub costs_rise : (s t : ℕ) → s ≤ t → costs s ≤ costs t
  costs_rise s t le = (states_rise shape opened (at s) (at t) (kept_at run s) (reached run s t le)).2.costs r.name

  -- a sum, or its mark, is at most 2^31 times that in size; i is its word
  abbrev IsNear : ℕ → ℕ → Type 0
  IsNear t i = unsigned_abs (cast_signed w64 (word_at (at t).words (h + i))) ≤ 2147483648 * costs t

  nothing_near : (t i : ℕ) → word_at (at t).words (h + i) ≡ 0 → IsNear t i
  nothing_near t i nothing = subst (λ (n : ℕ). unsigned_abs (cast_signed w64 n) ≤ 2147483648 * costs t) (sym nothing) (omega arith)

  word_near : (t i : ℕ) → t ≤ last → 8 ≤ i → i ≤ 13 → ((q : Record) → IsSumOf (at t).actors h q (cast_signed w64 (slice_index (words_of (histogram q)) i))) → IsNear t i
  word_near t i le from most is_sum = elim (dec_lt k (length (chain_at run t))) [
    | yes there ↦
        let was = record_was run t last k le r has there in
        let value : ℤ = cast_signed w64 (slice_index (words_of (histogram was.of)) i) in
        let word = word_was run t last k le r has there i (omega (arith, most)) in
        let name : r.name ≡ was.of.name = ap (λ (z : Record). z.name) was.goes.is in
        let near = (kept_at run t).sums h was.of value (pos 0) was.stands (is_sum was.of) (inl refl) in
        subst (λ (name : List ℕ). unsigned_abs (cast_signed w64 (word_at (at t).words (h + i))) ≤ 2147483648 * summed_costs name (at t).actors) (sym name)
        (subst (λ (n : ℕ). unsigned_abs (cast_signed w64 n) ≤ 2147483648 * summed_costs was.of.name (at t).actors) (sym word)
        (subst (λ (z : ℤ). unsigned_abs z ≤ 2147483648 * summed_costs was.of.name (at t).actors) (+ℤ_idr value) near))
    | no far ↦ nothing_near t i (not_yet run t last k i le (histogram r) below (omega (arith, far)) has (from, most))
  ]

  pub sum_near : (t : ℕ) → t ≤ last → IsNear t 11
  sum_near t le = word_near t 11 le (omega arith) (omega arith) (λ q. inr (inl refl))

  pub mark_near : (t : ℕ) → t ≤ last → IsNear t 12
  mark_near t le = word_near t 12 le (omega arith) (omega arith) (λ q. inr (inr (inl refl)))

  -- nor is their difference
  pub difference_near : (m n : ℕ) → m ≤ n → n ≤ last
      → unsigned_abs (cast_signed w64 (word_at (at n).words (h + 11)) -ℤ cast_signed w64 (word_at (at m).words (h + 12))) ≤ 2147483648 * costs n
  difference_near m n order le = elim (dec_lt k (length (chain_at run m))) [
    | yes there ↦
        let early : m ≤ last = omega (arith, order, le) in
        let was = record_was run m last k early r has there in
        let before = kept_at run m in
        let (next, rises, sums) = states_rise shape opened (at m) (at n) before (reached run m n order) in
        let (body, stands, (s, is, goes)) = rises.goes h (histogram was.of) refl was.stands in
        let now : HasRecord next.anatomy.pieces h s = subst (λ (b : Body). Stands next.anatomy.pieces h none b) is stands in
        let sum_word : word_at (at n).words (h + 11) ≡ s.sum =
        piece_word shape (at n).words next.anatomy next.shown now.0 (record { at = h; owner = none; body = histogram s }) 11 now.1 (omega arith) in
        let mark_word : word_at (at m).words (h + 12) ≡ was.of.sum_mark = word_was run m last k early r has there 12 (omega arith) in
        let name : r.name ≡ was.of.name = ap (λ (z : Record). z.name) was.goes.is in
        let way = distance_through (cast_signed w64 s.sum) (cast_signed w64 was.of.sum) (cast_signed w64 was.of.sum_mark) in
        let moved = sums.sums h was.of s was.stands now in
        let near = before.sums h was.of (cast_signed w64 was.of.sum) (cast_signed w64 was.of.sum_mark) was.stands (inr (inl refl)) (inr (inr (inl refl))) in
        let most : unsigned_abs (cast_signed w64 s.sum -ℤ cast_signed w64 was.of.sum_mark) ≤ 2147483648 * summed_costs was.of.name (at n).actors = omega (arith, way, moved, near) in
        subst (λ (name : List ℕ). unsigned_abs (cast_signed w64 (word_at (at n).words (h + 11)) -ℤ cast_signed w64 (word_at (at m).words (h + 12))) ≤ 2147483648 * summed_costs name (at n).actors) (sym name)
        (subst (λ (p : ℕ × ℕ). unsigned_abs (cast_signed w64 p.0 -ℤ cast_signed w64 p.1) ≤ 2147483648 * summed_costs was.of.name (at n).actors) (λ i. (sym sum_word i, sym mark_word i)) most)
    | no far ↦
        let early : m ≤ last = omega (arith, order, le) in
        let nothing = not_yet run m last k 12 early (histogram r) below (omega (arith, far)) has (omega arith, omega arith) in
        subst (λ (n' : ℕ). unsigned_abs (cast_signed w64 (word_at (at n).words (h + 11)) -ℤ cast_signed w64 n') ≤ 2147483648 * costs n) (sym nothing)
        (subst (λ (z : ℤ). unsigned_abs z ≤ 2147483648 * costs n) (sym (+ℤ_idr (cast_signed w64 (word_at (at n).words (h + 11))))) (sum_near n le))
  ]

-- ---- a look

module _ (copies : ThreeCopies) (image : List ℕ) (look : IsLook (hd_of copies) copies.one copies.two copies.three image) where
  open copies use {run, shape, opened, at, last, moments, one, two, loaded}
  open seen_in copies use {late, list}
  open seen_of copies image look use {of_look}

  abbrev spent_on : List ℕ → ℕ
  spent_on name = all_costs (at last).actors name

  costs_most : (name : List ℕ) → summed_costs name (at last).actors ≤ spent_on name
  costs_most name = sum_by-le-sum_by (summed_cost name) (λ a. cost_of a.units.costs name + cost_of a.units.held name) (at last).actors (summed_most name)

  -- the sums that a look takes of a record on the list cost no more than was spent on its name, and its redundant count is no more than
  -- that
  module _ (k : ℕ) (below : k < length list) (r : Record) (has : HasRecord late.anatomy.pieces (slice_index list k) r) where
    abbrev x : ℕ
    x = slice_index list k

    spot : (i : ℕ) → i < 15 → x + i < shape.size
    spot i lt = let ends = ends_at run last x (histogram r) has in omega (arith, ends, lt)

    mark_moment : ℕ
    mark_moment = moments.one (x + 12)

    in_order : (moments.one (x + 12) ≤ moments.two (x + 11)) × (moments.two (x + 11) ≤ last) × (moments.one (x + 12) ≤ last)
    in_order =
        let order = loaded.ordered.second (x + 12) (x + 11) (spot 12 (omega arith)) (spot 11 (omega arith)) in
        let more = loaded.ordered.third (x + 11) (x + 11) (spot 11 (omega arith)) (spot 11 (omega arith)) in
        let done = loaded.ordered.ends (x + 11) (spot 11 (omega arith)) in
        (order, omega (arith, more, done), omega (arith, order, more, done))

    pub sums_spent : (units_for (cast_signed w64 (word_at two (x + 11))) ≤ spent_on r.name)
        × (units_for (cast_signed w64 (word_at one (x + 12))) ≤ spent_on r.name)
        × (units_for (cast_signed w64 (word_at two (x + 11)) -ℤ cast_signed w64 (word_at one (x + 12))) ≤ spent_on r.name)
    sums_spent =
        let (order, le, early) = in_order in
        let sum_word = loaded.copy_two.each (x + 11) (spot 11 (omega arith)) in
        let mark_word = loaded.copy_one.each (x + 12) (spot 12 (omega arith)) in
        let most = costs_most r.name in
        let n : ℕ = moments.two (x + 11) in
        let m : ℕ = moments.one (x + 12) in
        let sum = sum_near run last k below r has n le in
        let mark = mark_near run last k below r has m early in
        let difference = difference_near run last k below r has m n order le in
        let rise = costs_rise run last k below r has n last le in
        let rise_mark = costs_rise run last k below r has m last early in
        let sum_is : unsigned_abs (cast_signed w64 (word_at (at n).words (x + 11))) ≤ 2147483648 * spent_on r.name = omega (arith, sum, rise, most) in
        let mark_is : unsigned_abs (cast_signed w64 (word_at (at m).words (x + 12))) ≤ 2147483648 * spent_on r.name = omega (arith, mark, rise_mark, most) in
        let difference_is : unsigned_abs (cast_signed w64 (word_at (at n).words (x + 11)) -ℤ cast_signed w64 (word_at (at m).words (x + 12))) ≤ 2147483648 * spent_on r.name =
        omega (arith, difference, rise, most) in (
          rounded (unsigned_abs (cast_signed w64 (word_at two (x + 11)))) (spent_on r.name)
              (subst (λ (w : ℕ). unsigned_abs (cast_signed w64 w) ≤ 2147483648 * spent_on r.name) (sym sum_word) sum_is),
          rounded (unsigned_abs (cast_signed w64 (word_at one (x + 12)))) (spent_on r.name)
              (subst (λ (w : ℕ). unsigned_abs (cast_signed w64 w) ≤ 2147483648 * spent_on r.name) (sym mark_word) mark_is),
          rounded (unsigned_abs (cast_signed w64 (word_at two (x + 11)) -ℤ cast_signed w64 (word_at one (x + 12)))) (spent_on r.name)
              (subst (λ (p : ℕ × ℕ). unsigned_abs (cast_signed w64 p.0 -ℤ cast_signed w64 p.1) ≤ 2147483648 * spent_on r.name) (λ i. (sym sum_word i, sym mark_word i)) difference_is),
        )

    pub noted_spent : word_at one (x + 13) ≤ spent_on r.name
    noted_spent =
        let up = (between copies k 13 (histogram r) below has (inr refl)).0.1 in
        let mine = of_mine r.name r.name r.noted refl in
        let least = sum_at_least (λ (p : Piece). noted_held r.name p.body) late.anatomy.pieces has.0 (record { at = x; owner = none; body = histogram r }) has.1 in
        let balance = late.balanced.noted r.name in
        let begun = late.first_noted r.name in
        let most = noted_covered shape opened (at last) late r.name in
        omega (arith, up, mine, least, balance, begun, most)

  module _ (kept_records : RecordsAreKept shape.page of_look) (bounds : AreInBounds image of_look) (reading : Reading) (is : IsReading image (head_of image) reading) where
    abbrev words_kept : WordsAreKept shape opened image
    words_kept = kept copies image look kept_records bounds

    module _ (h : Histogram) (there : Contains reading.hists h) where
      counts_spent : sum_by (λ count. count.1) h.counts ≤ spent_on h.name
      counts_spent =
          let reads = words_read shape opened image reading words_kept is in
          let blocks = reads.2 h there in
          let (kind, its, same) = reads.1.given h there in
          let entries = all_counted (at last).actors in
          let of_name = λ (e : Entry). if is_of h.name e then e.units else 0 in
          let most = covered (λ (count : ℤ × ℕ). count.0) (λ (count : ℤ × ℕ). count.1) (λ (e : Entry). e.key) of_name h.counts entries
          (λ key.
          let read = blocks.units key in
          let counted = units_counted copies image look kept_records h.name key kind h.reference its in
          let under = under_key h.name entries key in
          omega (arith, read, counted, under)) in
          let spent = counted_covered shape opened (at last) late h.name in
          omega (arith, most, spent)

      used_spent : used_by h ≤ spent_on h.name
      used_spent =
          let (kind, x, made, its, same) = read_first shape opened image words_kept reading is h there in
          let (q, (stands, called, specified)) = record_of_first shape opened image words_kept.laid (name_of image x) kind x its in
          let it = (is_taken_so copies image look).record_from x q stands in
          let r : Record = it.of in
          let shows = shown copies image look in
          let sum_is : cast_signed w64 (word_at two (x + 11)) ≡ h.sum =
          sym (ap (cast_signed w64) (record_word shape image of_look shows x q 11 stands (omega arith) ∙ ap (λ (z : Record). z.sum) it.is)) ∙ ap (λ (h : Histogram). h.sum) made in
          let mark_is : cast_signed w64 (word_at one (x + 12)) ≡ h.sum_mark =
          sym (ap (cast_signed w64) (record_word shape image of_look shows x q 12 stands (omega arith) ∙ ap (λ (z : Record). z.sum_mark) it.is)) ∙ ap (λ (h : Histogram). h.sum_mark) made in
          let noted_is : word_at one (x + 13) ≡ h.redundant =
          sym (record_word shape image of_look shows x q 13 stands (omega arith) ∙ ap (λ (z : Record). z.noted) it.is) ∙ ap (λ (h : Histogram). h.redundant) made in
          let name : r.name ≡ h.name = ap (λ (z : Record). z.name) (sym it.is) ∙ (called ∙ ap (λ (h : Histogram). h.name) made) in
          let (k, below, place) = place_of copies x it.followed in
          let has = subst (λ (n : ℕ). HasRecord late.anatomy.pieces n r) (sym place) it.stands in
          let (sum, mark, difference) = sums_spent k below r has in
          let noted = noted_spent k below r has in
          let sum_here : units_for h.sum ≤ spent_on h.name =
          subst (λ (p : ℤ × List ℕ). units_for p.0 ≤ spent_on p.1) (λ i. ((ap (λ (n : ℕ). cast_signed w64 (word_at two (n + 11))) place ∙ sum_is) i, name i)) sum in
          let mark_here : units_for h.sum_mark ≤ spent_on h.name =
          subst (λ (p : ℤ × List ℕ). units_for p.0 ≤ spent_on p.1) (λ i. ((ap (λ (n : ℕ). cast_signed w64 (word_at one (n + 12))) place ∙ mark_is) i, name i)) mark in
          let difference_here : units_for (h.sum -ℤ h.sum_mark) ≤ spent_on h.name =
          subst (λ (p : (ℤ × ℤ) × List ℕ). units_for (p.0.0 -ℤ p.0.1) ≤ spent_on p.1)
          (λ i. (((ap (λ (n : ℕ). cast_signed w64 (word_at two (n + 11))) place ∙ sum_is) i, (ap (λ (n : ℕ). cast_signed w64 (word_at one (n + 12))) place ∙ mark_is) i), name i)) difference in
          let noted_here : h.redundant ≤ spent_on h.name =
          subst (λ (p : ℕ × List ℕ). p.0 ≤ spent_on p.1) (λ i. ((ap (λ (n : ℕ). word_at one (n + 13)) place ∙ noted_is) i, name i)) noted in
          let counts = counts_spent in
          max_most _ _ _ counts (max_most _ _ _ noted_here (max_most _ _ _ sum_here (max_most _ _ _ mark_here difference_here)))
        where
          max_most : (a b n : ℕ) → a ≤ n → b ≤ n → max a b ≤ n
          max_most a b n one_is other_is = omega (arith, one_is, other_is)

    pub used_fits : used_of reading ≤ 4294967295
    used_fits =
        let names = (words_read shape opened image reading words_kept is).1 in
        let each = sum_below used_by (λ (h : Histogram). all_costs (at last).actors h.name) reading.hists used_spent in
        let all = spent_spread reading.hists names.once (at last).actors in
        let pool = late.pool in
        omega (arith, each, all, pool)

-- What the histograms that are read of a kept state have used is no more than all units.
use Rattle.segment_invariant.proofs.Prelude.Std.{◌≡◌, ℕ, suc, ◌+◌, ◌*◌, ◌/◌, ◌≤◌, ℤ, Bool, true, false, ◌&&◌, if◌then◌else◌, List, [], ◌∷◌, sum_by, Contains, inl, inr, refl, sym, ap, ◌∙◌, subst, arith, max, unsigned_abs, ◌-ℤ◌, w64, cast_signed, bytes_eq, int_eq, bytes_eq-Decides, sum_by-cons, some, get_elem?}
use Rattle.segment_invariant.proofs.Prelude.Machine.{Dimensions, head_of, Histogram, Reading, name_of, Actor, Cost, Entry, is_of, tally_units, cost_of, cost_total, units_of, all_counted, State}
use Rattle.segment_invariant.proofs.Prelude.Invariant.{Anatomy, IsSumOf, Invariant}
use Rattle.std.proofs.lemmas.List.Sums.{sum_by-le-sum_by}
use Rattle.bucket_ranges.specs.Reading.{IsReading}
use Rattle.segment_machine.specs.Actor.{all_costs}
use Rattle.segment_invariant.proofs.Frames.LaidOut.{laid_out}
use Rattle.segment_invariant.proofs.Lists.FewTerms.{sum_none}
use Rattle.segment_invariant.proofs.Consistency.Firsts.{record_of_first}
use Rattle.segment_invariant.proofs.Consistency.Records.{record_word}
use Rattle.segment_invariant.proofs.Counting.Bounds.{counted_covered, noted_covered, sums_covered, sum_covered}
use Rattle.segment_promises.specs.Adoption.{units_for, used_by, used_of}
use Rattle.segment_promises.proofs.Readings.Kept.{words_kept}
use Rattle.segment_promises.proofs.Readings.Names.{read_first}
use Rattle.segment_promises.proofs.Readings.Stopped.{stopped_reads}
use Rattle.segment_promises.proofs.Adopting.Sums.{covered, sum_both, spread_out}

-- ---- one histogram

-- units of 2^31 for an amount
rounded : (size units : ℕ) → size ≤ 2147483648 * units → (size + 2147483647) / 2147483648 ≤ units
rounded size units most = omega (arith, most)

-- the units of a key of a name are under that key, among those of the name
pub under_key : (name : List ℕ) (entries : List Entry) (key : ℤ)
    → tally_units entries name key ≤ sum_by (λ (e : Entry). if int_eq e.key key then (if is_of name e then e.units else 0) else 0) entries
under_key name entries key = sum_by-le-sum_by (λ (e : Entry). if is_of name e && int_eq e.key key then e.units else 0)
    (λ (e : Entry). if int_eq e.key key then (if is_of name e then e.units else 0) else 0) entries
    (λ e. by_tests (is_of name e) (int_eq e.key key) e.units)
  where
    by_tests : (b c : Bool) (n : ℕ) → (if b && c then n else 0) ≤ (if c then (if b then n else 0) else 0)
    by_tests true true n = omega arith
    by_tests true false n = omega arith
    by_tests false c n = omega arith

module _ (shape : Dimensions) (opened : Anatomy) (state : State) (kept : Invariant shape opened state) (reading : Reading)
    (is : IsReading state.words (head_of state.words) reading) where
  abbrev spent_on : List ℕ → ℕ
  spent_on name = all_costs state.actors name

  -- the units that are read of a histogram were spent on it, or are held
  counts_covered : (h : Histogram) → Contains reading.hists h → sum_by (λ count. count.1) h.counts ≤ spent_on h.name
  counts_covered h there =
      let reads = (stopped_reads shape opened state reading kept is).3 h there in
      let entries = all_counted state.actors in
      let of_name = λ (e : Entry). if is_of h.name e then e.units else 0 in
      let most = covered (λ (count : ℤ × ℕ). count.0) (λ (count : ℤ × ℕ). count.1) (λ (e : Entry). e.key) of_name h.counts entries
      (λ key. let read = reads.0.counted key in let below = under_key h.name entries key in omega (arith, read, below)) in
      let spent = counted_covered shape opened state kept h.name in
      omega (arith, most, spent)

  -- so were those that its redundant count has
  redundant_covered : (h : Histogram) → Contains reading.hists h → h.redundant ≤ spent_on h.name
  redundant_covered h there =
      let reads = (stopped_reads shape opened state reading kept is).3 h there in
      let read = reads.1.redundant in
      let begun = kept.first_noted h.name in
      let spent = noted_covered shape opened state kept h.name in
      omega (arith, read, begun, spent)

  -- and those that its sums have cost
  sums_are_covered : (h : Histogram) → Contains reading.hists h
      → (units_for h.sum ≤ spent_on h.name) × (units_for h.sum_mark ≤ spent_on h.name) × (units_for (h.sum -ℤ h.sum_mark) ≤ spent_on h.name)
  sums_are_covered h there =
      let (kind, at, made, first, same) = read_first shape opened state.words (words_kept shape opened state kept) reading is h there in
      let (r, (has, named, specified)) = record_of_first shape opened state.words (laid_out shape opened state kept) (name_of state.words at) kind at first in
      let sum_is : cast_signed w64 r.sum ≡ h.sum =
      sym (ap (cast_signed w64) (record_word shape state.words kept.anatomy kept.shown at r 11 has (omega arith))) ∙ ap (λ (h : Histogram). h.sum) made in
      let mark_is : cast_signed w64 r.sum_mark ≡ h.sum_mark =
      sym (ap (cast_signed w64) (record_word shape state.words kept.anatomy kept.shown at r 12 has (omega arith))) ∙ ap (λ (h : Histogram). h.sum_mark) made in
      let its_name : r.name ≡ h.name = named ∙ ap (λ (h : Histogram). h.name) made in
      let sum : IsSumOf state.actors at r (cast_signed w64 r.sum) = inr (inl refl) in
      let mark : IsSumOf state.actors at r (cast_signed w64 r.sum_mark) = inr (inr (inl refl)) in
      let enough = λ (x y : ℤ) (e : x ≡ y) (most : unsigned_abs x ≤ 2147483648 * spent_on r.name).
      subst (λ (p : ℤ × List ℕ). units_for p.0 ≤ spent_on p.1) (λ i. (e i, its_name i)) (rounded (unsigned_abs x) (spent_on r.name) most) in (
        enough (cast_signed w64 r.sum) h.sum sum_is (sum_covered shape opened state kept at r (cast_signed w64 r.sum) has sum),
        enough (cast_signed w64 r.sum_mark) h.sum_mark mark_is (sum_covered shape opened state kept at r (cast_signed w64 r.sum_mark) has mark),
        enough (cast_signed w64 r.sum -ℤ cast_signed w64 r.sum_mark) (h.sum -ℤ h.sum_mark) (λ i. sum_is i -ℤ mark_is i)
            (sums_covered shape opened state kept at r (cast_signed w64 r.sum) (cast_signed w64 r.sum_mark) has sum mark),
      )

  used_covered : (h : Histogram) → Contains reading.hists h → used_by h ≤ spent_on h.name
  used_covered h there =
      let counts = counts_covered h there in
      let redundant = redundant_covered h there in
      let (sum, mark, difference) = sums_are_covered h there in
      max_most _ _ _ counts (max_most _ _ _ redundant (max_most _ _ _ sum (max_most _ _ _ mark difference)))
    where
      max_most : (a b n : ℕ) → a ≤ n → b ≤ n → max a b ≤ n
      max_most a b n one two = omega (arith, one, two)

-- ---- all of them

-- histograms of which no two have the same name
module _ (hists : List Histogram)
    (once : (i j : ℕ) (g h : Histogram) → get_elem? hists i ≡ some g → get_elem? hists j ≡ some h → g.name ≡ h.name → i ≡ j) where
  -- of costs theirs are no more than all
  costs_spread : (costs : List Cost) → sum_by (λ (h : Histogram). cost_of costs h.name) hists ≤ cost_total costs
  costs_spread costs =
      spread_out (λ (h : Histogram) (cost : Cost). bytes_eq cost.name h.name) (λ (cost : Cost). cost.units) hists costs
      (λ cost i j g h here there one other. once i j g h here there
      (sym ((bytes_eq-Decides cost.name g.name).0 one) ∙ (bytes_eq-Decides cost.name h.name).0 other))

  -- nor are what actors spent on them and hold
  pub spent_spread : (actors : List Actor) → sum_by (λ (h : Histogram). all_costs actors h.name) hists ≤ sum_by units_of actors
  spent_spread [] = let none = sum_none (λ (h : Histogram). 0) hists (λ j h there _. refl) in omega (arith, none)
  spent_spread (a ∷ rest) =
      let costs = λ (h : Histogram). cost_of a.units.costs h.name in
      let held = λ (h : Histogram). cost_of a.units.held h.name in
      let behind = λ (h : Histogram). all_costs rest h.name in
      let each = sum_by-le-sum_by (λ h. all_costs (a ∷ rest) h.name) (λ h. (costs h + held h) + behind h) hists
      (λ h. let one = sum_by-cons (λ (a : Actor). cost_of a.units.costs h.name + cost_of a.units.held h.name) a rest in omega (arith, one)) in
      let both = sum_both (λ h. costs h + held h) behind hists in
      let own = sum_both costs held hists in
      let first = costs_spread a.units.costs in
      let second = costs_spread a.units.held in
      let others = spent_spread rest in
      let whole = sum_by-cons units_of a rest in
      omega (arith, each, both, own, first, second, others, whole)

pub sum_below : {X : Type 0} (f g : X → ℕ) (list : List X) → ((x : X) → Contains list x → f x ≤ g x) → sum_by f list ≤ sum_by g list
sum_below f g [] each = omega arith
sum_below f g (x ∷ rest) each =
    let one = sum_by-cons f x rest in
    let other = sum_by-cons g x rest in
    let first = each x (0, omega arith, refl) in
    let behind = sum_below f g rest (λ y (k, below, is). each y (suc k, omega (arith, below), is)) in
    omega (arith, one, other, first, behind)

pub used_fits : (shape : Dimensions) (opened : Anatomy) (state : State) (kept : Invariant shape opened state) (reading : Reading)
    → IsReading state.words (head_of state.words) reading → used_of reading ≤ 4294967295
used_fits shape opened state kept reading is =
    let names = (stopped_reads shape opened state reading kept is).2 in
    let each = sum_below used_by (λ (h : Histogram). all_costs state.actors h.name) reading.hists (used_covered shape opened state kept reading is) in
    let all = spent_spread reading.hists names.once state.actors in
    let pool = kept.pool in
    omega (arith, each, all, pool)

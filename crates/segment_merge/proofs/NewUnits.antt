-- The units that a reading has above what is noted, and those by which what is noted grew.
use Rattle.std.proofs.Common.{◌≡◌, ◌∙◌, ℕ, ◌+◌, ◌-◌, ℤ, ◌-ℤ◌, Bool, true, false, if◌then◌else◌, List, [], ◌∷◌, map, refl, sym, ap, arith}
use Rattle.std.specs.Prelude.{IsPermutation, Some, None, sum_by}
use Rattle.std.specs.List.{All, flat_map}
use Rattle.std.specs.Str.{bytes_eq}
use Rattle.std.specs.declared.alloc.Global.{Global}
use Rattle.std.specs.declared.vec.Vec.{Vec}
use Rattle.std.proofs.lemmas.List.Elements.{All-head, All-tail}
use Rattle.std.proofs.lemmas.List.Sorted.{sum_by-IsPermutation}
use Rattle.std.proofs.lemmas.List.Sums.{sum_by-append, sum_by-cons}
use Rattle.bucket_ranges.specs.Reading.{Histogram}
use Rattle.bucket_ranges.specs.Tally.{units_of}
use Rattle.segment_machine.specs.Actor.{units_listed}
use Rattle.segment_promises.specs.Reads.{mark_read, units_read}
use Rattle.segment_promises.proofs.Counts.{sum_of_map}
use Rattle.segment_merge.specs.Follow.{Step, has_new, items_added, lines_of, seen_added}
use Rattle.segment_merge.specs.Merge.{items_left, units_left}
use Rattle.segment_merge.specs.Noted.{AreMarkedBy, HasRisen, HaveNotes, marks_among, units_among, units_in_all, unmarked}
use Rattle.segment_merge.proofs.AddsUp.{either, no_items}
use Rattle.segment_merge.proofs.KeptUnits.{read_units}
use Rattle.segment_merge.proofs.Totals.{among, together_in_all}

-- ---- above what is noted

-- of a name and a key, histograms have their marks and what is above them
above_marks : (name : List ℕ) (key : ℤ) (hists : List Histogram) → All HasRisen hists
    → units_among hists name key ≡ marks_among hists name key + among (λ (h : Histogram). h.name) items_left hists name key
above_marks name key [] all = refl
above_marks name key (h ∷ hists) all =
    let units = sum_by-cons (λ (one : Histogram). if bytes_eq one.name name then units_read one key else 0) h hists in
    let marks = sum_by-cons (λ (one : Histogram). if bytes_eq one.name name then mark_read one key else 0) h hists in
    let left = sum_by-cons (λ (one : Histogram). if bytes_eq one.name name then units_listed (items_left one) key else 0) h hists in
    let its = either (bytes_eq h.name name) (units_read h key) (mark_read h key) (units_listed (items_left h) key)
    (read_units key h (All-head HasRisen h hists all)) in
    let rest = above_marks name key hists (All-tail HasRisen h hists all) in
    omega (arith, units, marks, left, its, rest)

-- histograms that have what is noted as their marks have in all what is noted and what is above it
above_notes : (noted hists : List Histogram) → AreMarkedBy noted hists → units_in_all hists ≡ units_in_all noted + sum_by units_left hists
above_notes noted hists by =
    together_in_all (λ (h : Histogram). h.name) (λ (h : Histogram). h.counts) (λ (h : Histogram). h.name) (λ (h : Histogram). h.counts)
    (λ (h : Histogram). h.name) items_left hists noted hists
    (λ name key. let above = above_marks name key hists by.risen in let notes = by.units name key in omega (arith, above, notes))

-- marks and the order make no difference to the units
same_units : (hists others : List Histogram) → IsPermutation (map unmarked hists) (map unmarked others) → units_in_all hists ≡ units_in_all others
same_units hists others moved =
    sym (sum_of_map (λ (h : Histogram). units_of h.counts) unmarked hists)
    ∙ (sym (sum_by-IsPermutation (λ (h : Histogram). units_of h.counts) (map unmarked hists) (map unmarked others) moved)
    ∙ sum_of_map (λ (h : Histogram). units_of h.counts) unmarked others)

pub new_units : (noted hists marked : List Histogram) → HaveNotes noted hists marked → sum_by units_left marked ≡ units_in_all hists - units_in_all noted
new_units noted hists marked have =
    let same = same_units hists marked have.same in
    let above = above_notes noted marked have.by in
    omega (arith, same, above)

-- ---- by what it grew

-- the units in the line of a step, if it has one
line_units : (step : Step) → sum_by (λ (line : List ℕ × ℕ). line.1) (lines_of step) ≡ units_of (items_added step)
line_units (h, None) = by (has_new h) refl
  where
    by : (b : Bool) → has_new h ≡ b → sum_by (λ (line : List ℕ × ℕ). line.1) (if b then (h.name, units_left h) ∷ [] else []) ≡ units_left h
    by true new = omega arith
    by false none = sym (ap units_of (no_items (items_left h) (h.sum -ℤ h.sum_mark) none).0)
line_units (h, Some (items, why)) = omega arith

lines_units : (steps : List Step) → sum_by (λ (line : List ℕ × ℕ). line.1) (flat_map lines_of steps) ≡ sum_by (λ (step : Step). units_of (items_added step)) steps
lines_units [] = refl
lines_units (step ∷ steps) =
    let parts = sum_by-append (λ (line : List ℕ × ℕ). line.1) (lines_of step) (flat_map lines_of steps) in
    let first = line_units step in
    let cons = sum_by-cons (λ (one : Step). units_of (items_added one)) step steps in
    let rest = lines_units steps in
    omega (arith, parts, first, cons, rest)

pub grew_as_reported : (steps : List Step) (noted later : List Histogram) (added : List (Vec ℕ Global × ℕ))
    → ((name : List ℕ) (key : ℤ) → units_among later name key ≡ units_among noted name key + among (λ (step : Step). step.0.name) items_added steps name key)
    → seen_added added ≡ flat_map lines_of steps
    → units_in_all later ≡ units_in_all noted + sum_by (λ (line : Vec ℕ Global × ℕ). line.1) added
grew_as_reported steps noted later added each lines =
    let grew = together_in_all (λ (h : Histogram). h.name) (λ (h : Histogram). h.counts) (λ (h : Histogram). h.name) (λ (h : Histogram). h.counts)
    (λ (step : Step). step.0.name) items_added later noted steps each in
    let listed = lines_units steps in
    let seen = ap (sum_by (λ (line : List ℕ × ℕ). line.1)) lines in
    let same = sum_of_map (λ (line : List ℕ × ℕ). line.1) (λ (line : Vec ℕ Global × ℕ). (line.0.items, line.1)) added in
    omega (arith, grew, listed, seen, same)

-- What came to the rows of a histogram.
use Rattle.std.proofs.Common.{◌≡◌, ◌∙◌, ℕ, ℤ, ◌+◌, ◌≤◌, ◌<◌, Bool, true, false, ◌&&◌, cond, Decides, List, [], ◌∷◌, length, take, get_or, map, Option, Some, refl, ap, sym, arith}
use Rattle.std.specs.List.{find, sum_by}
use Rattle.std.specs.Option.{option_map, unwrap_or}
use Rattle.std.specs.Ordering.{int_eq}
use Rattle.std.specs.Str.{bytes_eq}
use Rattle.std.proofs.lemmas.List.{take_more}
use Rattle.std.proofs.lemmas.List.Sums.{fold-append, sum-map, sum_by-le-sum_by}
use Rattle.std.proofs.lemmas.Slice.Eq.{bytes_eq-Decides}
use Rattle.bucket_ranges.specs.declared.spec.Spec.{Spec}
use Rattle.bucket_ranges.specs.Spec.{SameSpec, spec_fields, spec_ranges}
use Rattle.bucket_ranges.specs.Reading.{Histogram}
use Rattle.reading_texts.specs.declared.rows.HistRow.{HistRow}
use Rattle.reading_texts.specs.Rows.{rows_of, units_of}
use Rattle.reading_shows.specs.Since.{came_to, came_to_all, same_spec, units_at}
use Rattle.reading_shows.proofs.Totals.{units-all}

-- what is found among images of elements is the image of what is found among these
find-step : {X Y : Type 0} (f : X → Y) (b : Bool) (x : X) (others : Option Y) (rest : Option X) → others ≡ option_map f rest
    → cond b (Some (f x)) others ≡ option_map f (cond b (Some x) rest)
find-step f true x others rest same = refl
find-step f false x others rest same = same

pub find-map : {X Y : Type 0} (p : Y → Bool) (f : X → Y) (xs : List X) → find p (map f xs) ≡ option_map f (find (λ x. p (f x)) xs)
find-map p f [] = refl
find-map p f (x ∷ xs) = find-step f (p (f x)) x (find p (map f xs)) (find (λ y. p (f y)) xs) (find-map p f xs)

-- the units of a value with one more count
pub units_at-more : (counts : List (ℤ × ℕ)) (i : ℕ) (d : ℤ × ℕ) (value : ℤ) → i < length counts
    → units_at (take (i + 1) counts) value ≡ cond (int_eq (get_or counts i d).0 value) (get_or counts i d).1 (units_at (take i counts) value)
units_at-more counts i d value within =
    ap (λ (some : List (ℤ × ℕ)). units_at some value) (take_more counts i d within)
    ∙ fold-append (λ units count. cond (int_eq count.0 value) count.1 units) 0 (take i counts) (get_or counts i d ∷ [])

-- so a map of the units of values has them too, when one more count is put in
unwrap-cond : (b : Bool) (x : ℕ) (o : Option ℕ) → unwrap_or (cond b (Some x) o) 0 ≡ cond b x (unwrap_or o 0)
unwrap-cond true x o = refl
unwrap-cond false x o = refl

pub counted-more : (counts : List (ℤ × ℕ)) (i : ℕ) (d : ℤ × ℕ) (value : ℤ) (new old : Option ℕ) → i < length counts
    → new ≡ cond (int_eq (get_or counts i d).0 value) (Some (get_or counts i d).1) old → unwrap_or old 0 ≡ units_at (take i counts) value
    → unwrap_or new 0 ≡ units_at (take (i + 1) counts) value
counted-more counts i d value new old within put before =
    let here = int_eq (get_or counts i d).0 value in
    let units = (get_or counts i d).1 in
    ap (λ (o : Option ℕ). unwrap_or o 0) put
    ∙ (unwrap-cond here units old ∙ (ap (cond here units) before ∙ sym (units_at-more counts i d value within)))

-- no more came to rows than they have
pub came-within : (is_told : Bool) (before : List (ℤ × ℕ)) (rows : List HistRow) → came_to_all is_told before rows ≤ sum_by (λ row. row.units) rows
came-within true before rows =
    let all = sum-map (came_to before) rows in
    let each = sum_by-le-sum_by (came_to before) (λ (row : HistRow). row.units) rows (λ row. omega arith) in
    omega (arith, all, each)
came-within false before rows = omega arith

-- so it fits if the units of the histogram do
pub came-fits : (is_told : Bool) (before : List (ℤ × ℕ)) (hist : Histogram) (bound : ℕ) → units_of hist < bound → came_to_all is_told before (rows_of hist) < bound
came-fits is_told before hist bound h = omega (arith, came-within is_told before (rows_of hist), units-all hist, h)

-- ---- the same specs

and-decides : (p q : Bool) {P Q : Type 0} → Decides p P → Decides q Q → Decides (p && q) (P × Q)
and-decides true true here there = (λ _. (here.0 refl, there.0 refl), λ _. refl)
and-decides true false here there = (λ wrong. absurd (cc wrong), λ both. there.1 both.1)
and-decides false q here there = (λ wrong. absurd (cc wrong), λ both. here.1 both.0)

-- the test for the same specs
pub same_spec-decides : (a b : Spec) → Decides (same_spec a b) (SameSpec a b)
same_spec-decides a b =
    and-decides (bytes_eq (spec_fields a) (spec_fields b)) (bytes_eq (spec_ranges a) (spec_ranges b)) (bytes_eq-Decides (spec_fields a) (spec_fields b))
    (bytes_eq-Decides (spec_ranges a) (spec_ranges b))

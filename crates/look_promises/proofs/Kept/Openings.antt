-- What a segment had noted when it was opened is no more than what it was opened with: it was nothing, or that of an image for which this
-- holds.
use Rattle.segment_invariant.proofs.Prelude.Std.{◌≡◌, ◌≢◌, ℕ, zero, suc, ◌≤◌, Bool, true, false, List, [], ◌∷◌, map, refl, sym, ap, arith, if◌then◌else◌, sum_by-cons, bytes_eq, bytes_eq-Decides, Contains, Contains-append_left, Contains-append_right, some, some-injective, some-ne-none, get_elem?}
use Rattle.segment_invariant.proofs.Prelude.Machine.{Actor, Histogram, Cost, Reading, cost_of, head_of}
use Rattle.segment_invariant.proofs.Prelude.Invariant.{Anatomy, Invariant}
use Rattle.segment_promises.specs.Adoption.{adopter, adopted}
use Rattle.segment_promises.specs.Reads.{noted_at_opening}
use Rattle.segment_promises.proofs.Adopting.FirstEntries.{of_name, first_noted}
use Rattle.look_promises.specs.OneMoment.{all_units_read, units_at_opening, OpeningsNoteNoMore}
use Rattle.look_promises.proofs.Kept.Certificate.{of_opener}

-- what the histograms of a name have noted is no more than their units, if it is so of each
noted_below : (name : List ℕ) (hists : List Histogram) → ((h : Histogram) → Contains hists h → h.name ≡ name → h.redundant ≤ all_units_read h)
    → cost_of (map (λ (h : Histogram). record { name = h.name; units = h.redundant }) hists) name ≤ of_name all_units_read hists name
noted_below name [] each = omega arith
noted_below name (h ∷ rest) each =
    let others = noted_below name rest (λ g among. each g (Contains-append_right (h ∷ []) rest g among)) in
    let cost : Histogram → Cost = λ h. record { name = h.name; units = h.redundant } in
    let less = sum_by-cons (λ (c : Cost). if bytes_eq c.name name then c.units else 0) (cost h) (map cost rest) in
    let more = sum_by-cons (λ (h : Histogram). if bytes_eq h.name name then all_units_read h else 0) h rest in
    let here = by_name (bytes_eq h.name name) refl in
    omega (arith, others, less, more, here)
  where
    by_name : (b : Bool) → bytes_eq h.name name ≡ b → (if b then h.redundant else 0) ≤ (if b then all_units_read h else 0)
    by_name true is = each h (Contains-append_left (h ∷ []) rest h (0, omega arith, refl)) ((bytes_eq-Decides h.name name).0 is)
    by_name false is = omega arith

no_other : (a b : Actor) (i : ℕ) → get_elem? (a ∷ []) i ≡ some b → i ≢ 0 → b.entries.first ≡ []
no_other a b zero there ne = absurd (ne refl)
no_other a b (suc i) there ne = absurd (some-ne-none b (sym there))

of_adopted : (words references name : List ℕ) (reading : Reading) (cursors : ℕ) (opened : Anatomy)
    → Invariant (head_of words).shape opened (adopted words references reading cursors)
    → ((h : Histogram) → Contains reading.hists h → h.name ≡ name → h.redundant ≤ all_units_read h)
    → noted_at_opening opened name ≤ units_at_opening (adopted words references reading cursors).actors name
of_adopted words references name reading cursors opened kept each =
    let a = adopter words references reading cursors in
    let same : a ≡ kept.roles.opener = some-injective a kept.roles.opener kept.roles.stands in
    let noted = kept.first_noted name in
    let its = ap (λ (b : Actor). cost_of b.entries.first_noted name) same in
    let below = noted_below name reading.hists each in
    let units = first_noted reading.hists name in
    let opens = of_opener name (a ∷ []) a refl (λ i b there ne. no_other a b i there ne) in
    omega (arith, noted, its, below, units, opens)

pub openings_note_no_more : OpeningsNoteNoMore
openings_note_no_more = (λ version id size name. refl, of_adopted)

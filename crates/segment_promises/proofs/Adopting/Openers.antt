-- What holds of the opener of an adopted image: it has all units, it is the only opener, its shared cursors are at the start, it set no
-- flag, and it fits if what it knows and has seen is the present or an earlier state.
use Rattle.segment_invariant.proofs.Prelude.Std.{◌≡◌, ℕ, ◌<◌, ◌≤◌, Bool, true, false, List, [], ◌∷◌, map, replicate, sum_by, refl, sym, arith, All, Contains}
use Rattle.segment_invariant.proofs.Prelude.Machine.{Histogram, Reading, IsStop, Actor, Cost, Entry, units_of, SawSample}
use Rattle.segment_invariant.proofs.Prelude.Invariant.{Anatomy, order_of, IsFirst, IsFirstOf, Sees, IsRightlyKnown, RolesAreKept, Fits, IsSetBy}
use Rattle.bucket_ranges.specs.declared.spec.Spec.TheVariants as spec
use Rattle.segment_invariant.specs.Invariant.{CursorsAreKept}
use Rattle.segment_invariant.proofs.Openings.FirstActors.{first_roles, first_cursors, first_fits}
use Rattle.segment_promises.specs.Adoption.{used_by, used_of, adopter}
use Rattle.segment_promises.proofs.Counts.{sum_of_map}
use Rattle.segment_promises.proofs.Adopting.FirstEntries.{used_covers}

module _ (words references : List ℕ) (reading : Reading) (cursors : ℕ) where
  abbrev pub opener : Actor
  opener = adopter words references reading cursors

  abbrev pub actors : List Actor
  actors = opener ∷ []

  -- its share and what was used are all units
  pub all_units : used_of reading ≤ 4294967295 → sum_by units_of actors ≡ 4294967295
  all_units enough =
      let spent = sum_of_map (λ (cost : Cost). cost.units) (λ (h : Histogram). record { name = h.name; units = used_by h }) reading.hists in
      omega (arith, enough, spent)

  abbrev pub opener_roles : RolesAreKept actors
  opener_roles = first_roles opener.segment.shape 2 cursors opener.units.share opener.units.costs opener.entries.first_noted opener.entries.first
      opener.deltas.first_taken opener.answers.names opener.seen

  pub cursors_stand : (chain : List ℕ) → CursorsAreKept chain (replicate cursors 12) actors
  cursors_stand = first_cursors opener.segment.shape 2 cursors opener.units.share opener.units.costs opener.entries.first_noted opener.entries.first
      opener.deltas.first_taken opener.answers.names opener.seen

  -- it has set no flag
  pub flags_stand : (corrupt full : Bool) → IsSetBy corrupt corrupt (map (λ a. a.done.spoiled) actors) × IsSetBy full full (map (λ a. a.done.filled) actors)
  flags_stand corrupt full = (as_it_was corrupt, as_it_was full)
    where
      as_it_was : (b : Bool) → IsSetBy b b (false ∷ [])
      as_it_was true = refl
      as_it_was false = refl

  -- it fits if it sees what is there, knows the first record of each name, and saw the sample of each of its entries
  pub opener_fits : (anatomy : Anatomy) → anatomy.version ≡ 2 → Sees anatomy (replicate cursors 12) opener.seen → IsStop (order_of anatomy) anatomy.tail
      → All (IsRightlyKnown anatomy) opener.answers.names
      → ((entry : Entry) (of : ℕ) → Contains opener.entries.first entry → 0 < entry.units → IsFirst anatomy.records entry.name spec.Sparse of
      → (at : ℕ) × IsFirstOf anatomy.records of entry.key at × Contains references at × SawSample opener.seen of entry.key at)
      → Fits opener.segment.shape anatomy (replicate cursors 12) actors opener 0 opener
  opener_fits anatomy frozen sees stop knows met =
      first_fits opener.segment.shape 2 cursors opener.units.share opener.units.costs opener.entries.first_noted opener.entries.first
      opener.deltas.first_taken opener.answers.names opener.seen anatomy sees stop knows (used_covers reading.hists) met (sym frozen)

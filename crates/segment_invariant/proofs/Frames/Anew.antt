-- What holds of a record, of its counts, and of an actor, when some of it is shown again and the rest follows from what stays.
use Rattle.segment_invariant.proofs.Prelude.Std.{◌≡◌, ◌≢◌, ℕ, ◌+◌, ◌<◌, ◌≤◌, ℤ, List, ◌++◌, length, true, false, ◌^◌, max, slice_index, Some, None, w64, cast_signed, All, Contains}
use Rattle.segment_invariant.proofs.Prelude.Machine.{packed_bucket, units_packed, Dimensions, Behind, Entry, Place, SumLoaded, Actor, Seen, Sighting, counted_of, is_opener, is_off, SawSample}
use Rattle.segment_invariant.proofs.Prelude.Invariant.{Record, Counts, Anatomy, order_of, free_of, IsWithinCounts, form_at, HasRecord, IsFirst, IsFirstOf, IsNoLater, Sees, IsLawfulRecord, IsCountsOf, IsAlone, CallsRight, LooksBack, FinalsAreExact, Fits}
use Rattle.bucket_ranges.specs.declared.spec.Spec.TheVariants as spec
use Rattle.segment_machine.specs.declared.actor.Role.{Role}

-- ---- a record

-- a record is valid with other words that change, if what these have to satisfy is shown
pub lawful_anew : (version page : ℕ) (r : Record) (counts single mark sum sum_mark noted : ℕ) → IsLawfulRecord version page r
    → form_at version (record r { single = single }) ≢ None → (packed_bucket (form_at version (record r { single = single })) ≡ None → mark ≡ 0)
    → (is_off single ≡ true → counts ≢ 0) → (r.spec ≡ spec.Sparse → (counts ≡ 0) × (single ≡ 0) × (mark ≡ 0))
    → (sum < 2 ^ 64) × (sum_mark < 2 ^ 64)
    → IsLawfulRecord version page (record r { counts = counts; single = single; mark = mark; sum = sum; sum_mark = sum_mark; noted = noted })
lawful_anew version page r counts single mark sum sum_mark noted is formed unpacked off sparse narrow = record {
  sized = is.sized;
  least = is.least;
  named = is.named;
  lettered = is.lettered;
  lawful = is.lawful;
  fields = is.fields;
  fits = is.fits;
  formed = formed;
  unpacked = unpacked;
  off = off;
  sparse = sparse;
  narrow = narrow;
}

-- and its counts are those of the record with another single word and single mark
pub counts_anew : (version at : ℕ) (r : Record) (single mark : ℕ) (c : Counts) → IsCountsOf version at r c
    → ((i : ℕ) → packed_bucket (form_at version (record r { single = single })) ≡ Some i → slice_index c.marks i ≡ 0)
    → (is_off single ≡ false → All (λ n. n ≡ 0) c.units × All (λ n. n ≡ 0) c.marks)
    → (version ≡ 1 → (i : ℕ) → packed_bucket (form_at version (record r { single = single })) ≡ Some i
    → mark ≤ max (slice_index c.units i + units_packed (form_at version (record r { single = single })) i) 65535)
    → IsCountsOf version at (record r { single = single; mark = mark }) c
counts_anew version at r single mark c is packed unused low = record {
  mine = is.mine;
  named = is.named;
  same = is.same;
  units = is.units;
  marks = is.marks;
  sized = is.sized;
  packed = packed;
  unused = unused;
  mark = low;
}

-- ---- an actor

-- what it saw is right with another free pointer, other ends and other sightings of cursors, if what these have to satisfy is shown
pub sees_anew : (anatomy : Anatomy) (old new : List ℕ) (seen : Seen) (free : ℕ) (ends : List ℕ) (shared : List Sighting) → Sees anatomy old seen → Behind free (free_of anatomy)
    → All (λ s. (s.at < length new) × IsNoLater (order_of anatomy) s.word (slice_index new s.at)) shared
    → Sees anatomy new (record seen { free = free; ends = ends; cursors = shared })
sees_anew anatomy old new seen free ends shared sees behind later = record {
  free = behind;
  walked = sees.walked;
  tails = sees.tails;
  singles = sees.singles;
  counters = sees.counters;
  in_use = sees.in_use;
  met = sees.met;
  fixed = sees.fixed;
  shared = later;
}

-- its calls are right on the records of another list, with what it saw of the samples there
pub calls_anew : (old new : Anatomy) (a : Actor) (seen : Seen) → CallsRight old a
    → ((entry : Entry) (of : ℕ) → Contains (a.entries.inherited ++ counted_of a) entry → 0 < entry.units → IsFirst new.records entry.name spec.Sparse of
    → (at : ℕ) × IsFirstOf new.records of entry.key at × Contains seen.chain at × SawSample seen of entry.key at)
    → CallsRight new (record a { seen = seen })
calls_anew old new a seen calls met = record {
  ordered = calls.ordered;
  within = calls.within;
  held = calls.held;
  ended = calls.ended;
  spent = calls.spent;
  met = met;
  taking = calls.taking;
}

-- at another place it looks back at the same, but for a sum that it has loaded there
pub looks_anew_at : (anatomy : Anatomy) (actors : List Actor) (opener a : Actor) (place : Place) → LooksBack anatomy actors opener a
    → ((reference : ℕ) (sum : ℤ) (r : Record) → place ≡ SumLoaded reference sum → IsAlone actors a → HasRecord anatomy.pieces reference r
    → sum ≡ cast_signed w64 r.sum)
    → LooksBack anatomy actors opener (record a { hand = record a.hand { place = place } })
looks_anew_at anatomy actors opener a place looks sum = record {
  most = looks.most;
  packed = looks.packed;
  counted = looks.counted;
  samples = looks.samples;
  rising = looks.rising;
  leading = looks.leading;
  closed = looks.closed;
  begun = looks.begun;
  noted = looks.noted;
  sum = sum;
}

-- among other actors, with another share and another role, it fits if what depends on these is shown
pub fits_anew : (shape : Dimensions) (anatomy : Anatomy) (cursors : List ℕ) (old new : List Actor) (opener later : Actor) (id : ℕ) (a : Actor) (share : ℕ) (role : Role)
    → let b = record a { units = record a.units { share = share }; role = role } in Fits shape anatomy cursors old opener id a
    → (is_opener role ≡ false → LooksBack anatomy new later b) → FinalsAreExact new later id b → All (IsWithinCounts new) a.deltas.snapshots
    → Fits shape anatomy cursors new later id b
fits_anew shape anatomy cursors old new opener later id a share role fit looks finals snapshots = record {
  shaped = fit.shaped;
  versioned = fit.versioned;
  numbered = fit.numbered;
  sees = fit.sees;
  ahead = fit.ahead;
  names = fit.names;
  own = fit.own;
  apart = fit.apart;
  owes = fit.owes;
  calls = fit.calls;
  looks = looks;
  finals = finals;
  snapshots = snapshots;
}

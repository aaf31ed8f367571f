-- What is published continues from one state to a later one: fixed words stay, counters rise, single words lead on, the list becomes longer
-- at its end, flags and the free pointer rise; a sum changes by no more than what was spent on it.
use Rattle.std.specs.Prelude.{◌≡◌, ◌≢◌, ◌⊎◌, true, ℕ, ◌+◌, ◌*◌, ◌<◌, ◌≤◌, ◌-ℤ◌, unsigned_abs, List, ◌++◌, length, slice_index}
use Rattle.std.specs.Int.{w64, cast_signed}
use mathlib.Core.Option.{none}
use Rattle.bucket_ranges.specs.Spec.{buckets_of}
use Rattle.segment_calls.specs.Form.{Leads}
use Rattle.segment_machine.specs.declared.actor.Actor.{Actor}
use Rattle.segment_invariant.specs.Body.{Record, Counts, Sample, Body, queue, plain, held, histogram, counts, sample, other, words_of, is_claimed, Piece, Listed, Anatomy, order_of, free_of}
use Rattle.segment_invariant.specs.Seen.{Stands, HasRecord, IsNoLater}
use Rattle.segment_invariant.specs.Invariant.{summed_costs}

-- A record continues as another: what was given to its maker stays, and so does its counts reference once it has one; its single word leads
-- on to the new one; its mark and its redundant count rise.
pub record RecordGoes (version : ℕ) (r s : Record) : Type 0 where
  pub is : s ≡ record r {
    next = s.next;
    counts = s.counts;
    single = s.single;
    mark = s.mark;
    sum = s.sum;
    sum_mark = s.sum_mark;
    noted = s.noted;
  }
  pub counts : r.counts ≢ 0 → s.counts ≡ r.counts
  pub single : Leads version (buckets_of r.spec) r.single s.single
  pub mark : r.mark ≤ s.mark
  pub noted : r.noted ≤ s.noted

-- A counts block continues as another: its counts and marks rise.
pub record CountsGo (c d : Counts) : Type 0 where
  pub is : d ≡ record c { units = d.units; marks = d.marks }
  pub long : (length d.units ≡ length c.units) × (length d.marks ≡ length c.marks)
  pub rise : (i : ℕ) → slice_index (words_of (counts c)) i ≤ slice_index (words_of (counts d)) i

-- A sample continues as another: its count and its mark rise.
pub record SampleGoes (s t : Sample) : Type 0 where
  pub is : t ≡ record s { next = t.next; units = t.units; mark = t.mark }
  pub units : s.units ≤ t.units
  pub mark : s.mark ≤ t.mark

-- a block continues as one of its kind
abbrev pub GoesAs : ℕ → Body → Body → Type 0
GoesAs version (histogram r) body = (s : Record) × (body ≡ histogram s) × RecordGoes version r s
GoesAs version (counts c) body = (d : Counts) × (body ≡ counts d) × CountsGo c d
GoesAs version (sample s) body = (t : Sample) × (body ≡ sample t) × SampleGoes s t
GoesAs version (other size tag next payload) body = (n : ℕ) × (body ≡ other size tag n payload)
GoesAs version (queue next) body = body ≡ queue next
GoesAs version (plain words) body = body ≡ plain words
GoesAs version (held block) body = body ≡ held block

-- a block lies where there was no published one
abbrev pub LiesApart : List Piece → ℕ → Body → Type 0
LiesApart pieces at body =
    (other i j : ℕ) (before : Body) → is_claimed before ≡ true → Stands pieces other none before → i < length (words_of body)
    → j < length (words_of before) → at + i ≢ other + j

-- Published blocks continue, and those that are added lie where there was none; the list becomes longer at its end, and what was no later
-- than the tail still is; the free pointer and the flags rise.
pub record Rises (old new : Anatomy) : Type 0 where
  pub version : new.version ≡ old.version
  pub id : new.id ≡ old.id
  pub goes : (at : ℕ) (body : Body) → is_claimed body ≡ true → Stands old.pieces at none body
      → (then_is : Body) × Stands new.pieces at none then_is × GoesAs old.version body then_is
  pub came : (at : ℕ) (body : Body) → is_claimed body ≡ true → Stands new.pieces at none body
      → ((before : Body) × Stands old.pieces at none before × GoesAs old.version before body) ⊎ LiesApart old.pieces at body
  pub records : (more : List Listed) × (new.records ≡ old.records ++ more)
  pub free : free_of old ≤ free_of new
  pub tail : (seen : ℕ) → IsNoLater (order_of old) seen old.tail → IsNoLater (order_of new) seen new.tail
  pub corrupt : old.corrupt ≡ true → new.corrupt ≡ true
  pub full : old.full ≡ true → new.full ≡ true

-- What is spent on a name does not come back, and the sum of a record changes by at most 2^31 times what was spent on its name since.
pub record SumsRise (old new : List Piece) (before after : List Actor) : Type 0 where
  pub costs : (name : List ℕ) → summed_costs name before ≤ summed_costs name after
  pub sums : (at : ℕ) (r s : Record) → HasRecord old at r → HasRecord new at s
      → unsigned_abs (cast_signed w64 s.sum -ℤ cast_signed w64 r.sum) + 2147483648 * summed_costs r.name before ≤ 2147483648 * summed_costs r.name after

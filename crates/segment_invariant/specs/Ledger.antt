-- The ledger: for each name and key, what the blocks of a segment hold, what is in transit with actors, and what actors did. An event
-- changes one block and one actor at most, so it keeps these sums if it keeps one equation between the two.
use Rattle.std.specs.Prelude.{◌≡◌, ℕ, ◌+◌, ◌≤◌, ℤ, pos, ◌+ℤ◌, if◌then◌else◌, List, map, fold, sum_by, length, slice_index, Option, Some, None}
use Rattle.std.specs.Int.{w64, cast_signed}
use Rattle.std.specs.List.{range_with_len}
use Rattle.std.specs.Str.{bytes_eq}
use Rattle.std.specs.Ordering.{int_eq}
use Rattle.bucket_ranges.specs.declared.spec.Spec.{Spec}
use Rattle.bucket_ranges.specs.Spec.{buckets_of}
use Rattle.bucket_ranges.specs.Ranges.{boundaries_of}
use Rattle.bucket_ranges.specs.declared.single.SingleWord.{SingleWord}
use Rattle.bucket_ranges.specs.Single.{single_of, packed_bucket}
use Rattle.segment_machine.specs.declared.actor.Actor.{Actor}
use Rattle.segment_machine.specs.declared.actor.Known.{Known}
use Rattle.segment_machine.specs.declared.place.Place.{Place}
use Rattle.segment_machine.specs.declared.place.Place.TheVariants.{Moving}
use Rattle.segment_machine.specs.Entry.{tally_units, tally_sum, tally_noted}
use Rattle.segment_calls.specs.Form.{units_in}
use Rattle.segment_machine.specs.Actor.{known_at, bucket_key, all_counted, all_summed, all_noted, all_taken, taken_units, taken_sum}
use Rattle.segment_invariant.specs.Body.{Record, Body, histogram, counts, sample, Piece}

-- ---- what blocks hold

-- the key of a bucket
abbrev pub key_of_bucket : Spec → ℕ → ℤ
key_of_bucket spec i = pos (slice_index (boundaries_of spec) i)

-- a number that belongs to a bucket, if that bucket has the key; otherwise 0
abbrev pub at_bucket : Spec → ℤ → Option ℕ → ℕ → ℕ
at_bucket spec key None n = 0
at_bucket spec key (Some bucket) n = if int_eq (key_of_bucket spec bucket) key then n else 0

-- numbers, one for each bucket: the sum of those of the buckets that have the key
abbrev pub keyed : Spec → ℤ → List ℕ → ℕ
keyed spec key numbers =
    sum_by (λ i. if int_eq (key_of_bucket spec i) key then slice_index numbers i else 0) (range_with_len 0 (length numbers))

-- a number that belongs to a name, if that is the name; otherwise 0
abbrev pub of_name : List ℕ → List ℕ → ℕ → ℕ
of_name mine name n = if bytes_eq mine name then n else 0

-- an amount that belongs to a name, if that is the name; otherwise 0
abbrev pub amount_of_name : List ℕ → List ℕ → ℤ → ℤ
amount_of_name mine name n = if bytes_eq mine name then n else pos 0

-- the form of a record's single word
abbrev pub form_at : ℕ → Record → Option SingleWord
form_at version r = single_of version (buckets_of r.spec) r.single

-- the units of a key: packed, counted, and of a sample
abbrev pub units_held : ℕ → List ℕ → ℤ → Body → ℕ
units_held version name key (histogram r) =
    of_name r.name name (at_bucket r.spec key (packed_bucket (form_at version r)) (units_in (form_at version r)))
units_held version name key (counts c) = of_name c.name name (keyed c.spec key c.units)
units_held version name key (sample s) = of_name s.name name (if int_eq s.value key then s.units else 0)
units_held version name key _ = 0

-- the marks of a key: that of the packed bucket, those after the counts, and that of a sample
abbrev pub marks_held : ℕ → List ℕ → ℤ → Body → ℕ
marks_held version name key (histogram r) = of_name r.name name (at_bucket r.spec key (packed_bucket (form_at version r)) r.mark)
marks_held version name key (counts c) = of_name c.name name (keyed c.spec key c.marks)
marks_held version name key (sample s) = of_name s.name name (if int_eq s.value key then s.mark else 0)
marks_held version name key _ = 0

-- the sum that a block has for a name
abbrev pub sum_held : List ℕ → Body → ℤ
sum_held name (histogram r) = amount_of_name r.name name (cast_signed w64 r.sum)
sum_held name _ = pos 0

-- the sum mark that a block has for a name
abbrev pub sum_mark_held : List ℕ → Body → ℤ
sum_mark_held name (histogram r) = amount_of_name r.name name (cast_signed w64 r.sum_mark)
sum_mark_held name _ = pos 0

-- the units that a block has noted for a name
abbrev pub noted_held : List ℕ → Body → ℕ
noted_held name (histogram r) = of_name r.name name r.noted
noted_held name _ = 0

-- ---- all blocks together

-- what all blocks hold together
abbrev pub all_held : (Body → ℕ) → List Piece → ℕ
all_held holds pieces = sum_by (λ piece. holds piece.body) pieces

-- the amounts that all blocks hold together
abbrev pub all_amounts : (Body → ℤ) → List Piece → ℤ
all_amounts holds pieces = fold ◌+ℤ◌ (pos 0) (map (λ piece. holds piece.body) pieces)

-- ---- what is in transit with an actor

-- the units that a move of a bucket's units has in transit for a key of a name
abbrev pub moving_of : List ℕ → ℤ → Option Known → ℕ → ℕ → ℕ
moving_of name key None bucket units = 0
moving_of name key (Some known) bucket units = of_name known.name name (if int_eq (bucket_key (Some known) bucket) key then units else 0)

-- the units of a key of a name that an actor at this place has in transit
abbrev pub moving_at : Actor → List ℕ → ℤ → Place → ℕ
moving_at a name key (Moving look bucket units) = moving_of name key (known_at a.answers.names look.histogram) bucket units
moving_at a name key _ = 0

-- the units of a key that all actors have in transit
abbrev pub all_moving : List ℕ → ℤ → List Actor → ℕ
all_moving name key actors = sum_by (λ a. moving_at a name key a.hand.place) actors

-- ---- the ledger

-- What blocks hold and what is in transit is what actors did: counted units, taken units, amounts, taken sums and redundant units. The
-- redundant units that were there at the opening come on top: there is no entry for them.
pub record IsBalanced (version : ℕ) (opened pieces : List Piece) (actors : List Actor) : Type 0 where
  pub units : (name : List ℕ) (key : ℤ)
      → all_held (units_held version name key) pieces + all_moving name key actors ≡ tally_units (all_counted actors) name key
  pub marks : (name : List ℕ) (key : ℤ)
      → all_held (marks_held version name key) pieces ≡ taken_units (all_taken actors) name key
  pub sums : (name : List ℕ) → all_amounts (sum_held name) pieces ≡ tally_sum (all_summed actors) name
  pub sum_marks : (name : List ℕ) → all_amounts (sum_mark_held name) pieces ≡ taken_sum (all_taken actors) name
  pub noted : (name : List ℕ)
      → all_held (noted_held name) pieces ≡ all_held (noted_held name) opened + tally_noted (all_noted actors) name
  -- what was taken was counted
  pub taken : (name : List ℕ) (key : ℤ) → taken_units (all_taken actors) name key ≤ tally_units (all_counted actors) name key

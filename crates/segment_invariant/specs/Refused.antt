-- States that no segment can be in; each is refused.
use Rattle.std.specs.Prelude.{[], ◌∷◌, slice_set}
use Rattle.bucket_ranges.specs.declared.spec.Spec.TheVariants as spec
use Rattle.segment_machine.specs.declared.actor.Made.TheVariants as made
use Rattle.segment_machine.specs.declared.place.Place.TheVariants.{CountLoaded, SampleLoaded}
use Rattle.segment_machine.specs.Seats.{opener_of}
use Rattle.segment_invariant.specs.Consistent.{HoldsMade}
use Rattle.segment_invariant.specs.Seen.{WasSingle}
use Rattle.segment_invariant.specs.Invariant.{StandsRight, CallsRight, LooksBack}
use Rattle.segment_machine.specs.Examples.{shape, letter_a, one, whole, maker, packed_segment, known_a}
use Rattle.segment_invariant.specs.Accounts.{settled, mounted_anatomy}
use Rattle.segment_machine.specs.Refused.{recorder, look}
use Rattle.segment_machine.specs.declared.actor.Role.TheVariants.{Opener}

-- what was loaded as a count of a bucket is the count of a bucket, and what was loaded as one of a sample is the count of a sample
abbrev pub CountsLoaded : Type 0
CountsLoaded =
    (¬ (StandsRight shape (mounted_anatomy settled) 1 (record recorder { answers = record recorder.answers { names = known_a ∷ [] } }) (CountLoaded (look 9223372036854775809 32) 3 0)))
    × (¬ (StandsRight shape (mounted_anatomy settled) 1 recorder (SampleLoaded 57 1)))

-- a unit that is logged is spent
abbrev pub UnitsSpent : Type 0
UnitsSpent = ¬ (CallsRight (mounted_anatomy settled) (record (maker (1 ∷ [])) { units = record (maker (1 ∷ [])).units { costs = [] } }))

-- a count that was seen of a known record has at least what was accepted, whether the counts reference was seen or not
abbrev pub CountsOwe : Type 0
CountsOwe =
    let opener = record (opener_of shape 1 1) { role = Opener 1 1 0 } in
    let who = record recorder { entries = record recorder.entries { log = whole (one 0) ∷ [] }; seen = record recorder.seen { counts = record { at = 36; word = 0 } ∷ [] } } in
    ¬ (LooksBack (mounted_anatomy settled) (opener ∷ who ∷ []) opener who)

-- a single word that was seen has a form
abbrev pub WordsFormed : Type 0
WordsFormed = ¬ (WasSingle 1 settled (record { at = 25; word = 65541 }))

-- a record's kind is one of those that are read
abbrev pub KindsRead : Type 0
KindsRead = ¬ (HoldsMade (slice_set (packed_segment 0 0 0 0 0) 20 5) (16 ∷ []) 16 (made.Histogram letter_a (spec.Linear 1 2 3)))

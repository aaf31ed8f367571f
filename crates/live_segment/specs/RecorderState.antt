-- All that a recorder has except its segment: what it has done and seen, and what it knows.
use Rattle.std.specs.Prelude.{◌≡◌, true, ◌<◌, ◌≤◌, ℕ, List, [], MatchOption, Option, drop, length, map}
use mathlib.Core.Option.{some}
use lib.ListN.{get_elem?}
use Rattle.std.specs.List.{All}
use Rattle.bucket_ranges.specs.declared.spec.Spec.{Spec}
use Rattle.bucket_ranges.specs.Spec.{SameSpec}
use Rattle.segment_machine.specs.declared.actor.Actor.{Actor}
use Rattle.segment_machine.specs.declared.actor.Known.{Known}
use Rattle.segment_machine.specs.Actor.{has_buckets}
use Rattle.list_index.specs.Firsts.{limit_of}
use Rattle.segment_promises.specs.Onward.{Grows}
use Rattle.live_segment.specs.declared.recorder.Hist.{Hist}
use Rattle.live_segment.specs.declared.recorder.state.RecorderState.{RecorderState}
use Rattle.live_segment.specs.declared.list.index.KeyKind.TheVariants.{Name, Sample}
use Rattle.live_segment.specs.declared.segment.Segment.{Segment}
use Rattle.live_segment.specs.Known.{known_view, KnowsRight}
use Rattle.live_segment.specs.List.Index.{IsIndexed}
use Rattle.live_segment.specs.List.Records.{HasWalked}
use Rattle.live_segment.specs.List.Walk.{HasCome}
use Rattle.live_segment.specs.Hist.KnownNames.{HasNames}
use Rattle.live_segment.specs.Seated.{IsSeated}
use Rattle.live_segment.specs.Steps.{IsAtRest}

-- it is that of a recorder at a segment, of which no call runs
pub record IsRecorderAt (segment : Segment) (state : RecorderState) : Type 0 where
  pub seated : IsSeated segment state.seat
  pub rests : IsAtRest state.seat.me.0
  pub counted : state.units ≡ state.seat.me.0.units.share
  pub listed : map known_view state.known.items ≡ state.seat.me.0.answers.names
  pub right : All (KnowsRight segment.setting state.seat.me.0) state.known.items
  pub free : state.seat.me.1 ≡ []
  pub come : HasCome segment.setting.shape.size state.seat.me.0.seen.chain state.fresh
  pub named : HasNames state.known.items state.names
  pub indexed : IsIndexed Name segment.setting.shape.size state.seat.me.0.seen state.index
  pub sampled : IsIndexed Sample segment.setting.shape.size state.seat.me.0.seen state.samples

-- it is that of a recorder at some segment, of which no call runs
abbrev pub IsRecorderSomewhere : RecorderState → Type 0
IsRecorderSomewhere state = (segment : Segment) × IsRecorderAt segment state

-- it stays that of a recorder at each segment at which it is that of one
abbrev pub StaysRecorder : RecorderState → RecorderState → Type 0
StaysRecorder old new = (segment : Segment) → IsRecorderAt segment old → IsRecorderAt segment new

-- what its recorder has done and seen
abbrev pub view_of_state : RecorderState → Actor
view_of_state state = state.seat.me.0

-- each of its three indexes may have this many entries in all
abbrev pub HasLimit : ℕ → RecorderState → Type 0
HasLimit entries state =
    (limit_of state.names.places ≡ entries) × (limit_of state.index.firsts ≡ entries) × (limit_of state.samples.firsts ≡ entries)

-- ---- the histograms that it knows

-- a histogram is one of these
abbrev pub Knows : RecorderState → Hist → Type 0
Knows state histogram = histogram.index < length (view_of_state state).answers.names

-- a histogram that it knows is this one
abbrev pub Means : RecorderState → Hist → Known → Type 0
Means state histogram known = get_elem? (view_of_state state).answers.names histogram.index ≡ some known

-- it knows a histogram, which is of the name and has the same spec
abbrev pub IsNamed : List ℕ → Spec → RecorderState → Hist → Type 0
IsNamed name spec state histogram =
    Knows state histogram × ((known : Known) × Means state histogram known × (known.name ≡ name) × SameSpec known.spec spec)

-- it finds the histogram that it knows at a place, or knows none there
abbrev pub IsFoundAt : ℕ → RecorderState → Option Hist → Type 0
IsFoundAt place state found =
    MatchOption found (length (view_of_state state).answers.names ≤ place) (λ histogram. (histogram.index ≡ place) × Knows state histogram)

-- this is the name of a histogram that it knows
abbrev pub IsKnownName : RecorderState → Hist → List ℕ → Type 0
IsKnownName state histogram name = (known : Known) → Means state histogram known → name ≡ known.name

-- this is the spec of a histogram that it knows, as the first `hist` of its name gave it
abbrev pub IsKnownSpec : RecorderState → Hist → Spec → Type 0
IsKnownSpec state histogram spec = (known : Known) → Means state histogram known → spec ≡ known.spec

-- ---- before a call and after it

-- it records into the same segment, knows the same histograms, and was given no fresh records
pub record IsSameRecorder (old new : RecorderState) : Type 0 where
  pub table : new.seat.table_id ≡ old.seat.table_id
  pub known : new.known ≡ old.known
  pub names : (view_of_state new).answers.names ≡ (view_of_state old).answers.names
  pub fresh : new.fresh ≡ old.fresh

-- It records into the same segment and was given no fresh records. It still knows each histogram that it knew, at the same place.
pub record KnowsOn (old new : RecorderState) : Type 0 where
  pub table : new.seat.table_id ≡ old.seat.table_id
  pub fresh : new.fresh ≡ old.fresh
  pub known : Grows (view_of_state old).answers.names (view_of_state new).answers.names

-- it is unchanged by a call on a histogram, if that has buckets
abbrev pub IsSameIfBucketed : Hist → RecorderState → RecorderState → Type 0
IsSameIfBucketed histogram old new = (known : Known) → Means old histogram known → has_buckets known.spec ≡ true → new ≡ old

-- ---- fresh records

-- how many records of the list it was given as fresh ones
abbrev pub given_fresh : RecorderState → ℕ
given_fresh state = state.fresh.given

-- It has walked to the end of the list, and is given what comes after the records that it was given before: from then on it was given
-- the whole list.
pub record GivesFresh (old : RecorderState) (records : List ℕ) (new : RecorderState) : Type 0 where
  pub table : new.seat.table_id ≡ old.seat.table_id
  pub known : new.known ≡ old.known
  pub list : List ℕ
  pub walked : HasWalked (view_of_state old) list (view_of_state new)
  pub fresh : records ≡ drop (given_fresh old) list
  pub given : given_fresh new ≡ length list

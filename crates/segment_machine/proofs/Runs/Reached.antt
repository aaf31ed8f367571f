-- A run whose actions may be done, each in its turn, leads from a state that is reached to one that is.
use Rattle.std.proofs.Common.{◌⊎◌, ◌≤◌, ◌≡◌, ◌≢◌, ◌∙◌, ℕ, ◌+◌, true, Bool, ◌&&◌, List, [], ◌∷◌, length, refl, arith, length-append, length-set, take-append-drop, Option, Some, None, false}
use Rattle.std.specs.Option.{is_some}
use Rattle.std.proofs.lemmas.Bool.{and_parts}
use Rattle.std.proofs.lemmas.List.{length-take-le}
use mathlib.Core.Option as core
use lib.ListN.{get_elem?}
use Rattle.segment_image.specs.Words.{word_at}
use Rattle.segment_machine.specs.declared.actor.Actor.{Actor}
use Rattle.segment_machine.specs.declared.place.Place.{Place}
use Rattle.segment_machine.specs.declared.place.Place.TheVariants.{Idle}
use Rattle.segment_machine.specs.Actor.{is_bound, is_opener, offered_of, outstanding_of}
use Rattle.segment_machine.specs.Event.{Event, allocating_event, publishing_event, walking_event, counting_event, packing_event, taking_event, cursor_event, Ready, next, spot, after}
use Rattle.segment_machine.specs.Note.{Note, Notes}
use Rattle.segment_machine.specs.Seats.{MayOffer, MaySplit, MayJoin, spent}
use Rattle.segment_machine.specs.State.{State, memory}
use Rattle.segment_machine.specs.Reached.{IsReached, IsState, new_state, started, stepped, offered, split, joined_in}
use Rattle.segment_machine.specs.Examples.{shape, AreReady}
use Rattle.segment_machine.specs.Worked.{RunAction, acts, offers, makes, joins, noted_by, actor_of, done, played}
use Rattle.segment_machine.proofs.Runs.Tests.{then, is_false, apart, at_most, below, empty, found_in, is_true}
use Rattle.segment_machine.proofs.Runs.Blocks.{may_allocate, may_publish, may_walk, may_share}
use Rattle.segment_machine.proofs.Runs.Counts.{may_count, may_pack, may_take}
use Rattle.segment_machine.proofs.Runs.Notes.{may_note_all}

abbrev pub may : (a : Actor) (event : Event) → Option (Ready a event)
may a (allocating_event event) = may_allocate a event
may a (publishing_event event) = may_publish a event
may a (walking_event event) = may_walk a event
may a (counting_event event) = may_count a event
may a (packing_event event) = may_pack a event
may a (taking_event event) = may_take a event
may a (cursor_event event) = may_share a event

-- events of one actor, one after the other
abbrev pub may_all : (a : Actor) (events : List (Event × ℕ)) → Option (AreReady a events)
may_all a [] = Some tt
may_all a (e ∷ rest) = then (may a e.0) (λ ready. then (may_all (next a e.0 e.1) rest) (λ others. Some (ready, others)))

-- an actor with a number is there
abbrev there_in : (o : core.Option Actor) → Option (o ≡ core.some (elim o [ core.some a ↦ a | core.none ↦ spent ]))
there_in (core.some a) = Some refl
there_in core.none = None

abbrev there : (state : State) (id : ℕ) → Option (get_elem? state.actors id ≡ core.some (actor_of state id))
there state id = there_in (get_elem? state.actors id)

abbrev idles : (place : Place) → Option (place ≡ Idle)
idles Idle = Some refl
idles _ = None

-- from each start from which the old state is reached, the new one is reached too
abbrev LeadsOn : ℕ → State → State → Type 0
LeadsOn version old new = (start : State) → IsReached version start old → IsReached version start new

pub steps : (version : ℕ) (old : State) (id : ℕ) (before : List Note) (event : Event) (behind : List Note)
    → get_elem? old.actors id ≡ core.some (actor_of old id) → is_opener (actor_of old id).role ≡ false → Notes (actor_of old id) before (noted_by (actor_of old id) before)
    → Ready (noted_by (actor_of old id) before) event
    → (let a = next (noted_by (actor_of old id) before) event (word_at (memory old) (spot (length old.words) event)) in Notes a behind (noted_by a behind))
    → LeadsOn version old (done version old (acts id before event behind))
steps version old id before event behind is recorder noted_before ready noted_behind start reached =
    let words = after (length old.words) version event (memory old) in
    let long : length words ≡ length old.words + length old.cursors = length-set (memory old) _ _ ∙ length-append old.words old.cursors in
    stepped old (done version old (acts id before event behind)) id event reached (record {
      actor = actor_of old id;
      there = is;
      is_recorder = recorder;
      before = before;
      at = noted_by (actor_of old id) before;
      notes_before = noted_before;
      ready = ready;
      behind = behind;
      then_is = noted_by (next (noted_by (actor_of old id) before) event (word_at (memory old) (spot (length old.words) event))) behind;
      notes_behind = noted_behind;
      size = length-take-le (length old.words) words (omega (arith, long));
      memory_is = take-append-drop (length old.words) words;
      actors_are = refl;
    })

pub offers_more : (version : ℕ) (old : State) (units : ℕ) → get_elem? old.actors 0 ≡ core.some (actor_of old 0) → MayOffer (actor_of old 0) units
    → LeadsOn version old (done version old (offers units))
offers_more version old units is may start reached = offered old (done version old (offers units)) 0 units reached (actor_of old 0, is, may, refl)

pub splits : (version : ℕ) (old : State) → get_elem? old.actors 0 ≡ core.some (actor_of old 0) → MaySplit (actor_of old 0)
    → LeadsOn version old (done version old makes)
splits version old is may start reached = split old (done version old makes) 0 reached (actor_of old 0, is, may, refl)

pub joins_in : (version : ℕ) (old : State) (id : ℕ) → 0 ≢ id → get_elem? old.actors 0 ≡ core.some (actor_of old 0)
    → get_elem? old.actors id ≡ core.some (actor_of old id) → MayJoin (actor_of old 0) (actor_of old id)
    → LeadsOn version old (done version old (joins id))
joins_in version old id other is that may start reached =
    joined_in old (done version old (joins id)) 0 id reached (actor_of old 0, actor_of old id, other, is, that, may, refl)

-- whether an action may be done
abbrev may_do : (version : ℕ) (state : State) (deed : RunAction) → Option (LeadsOn version state (done version state deed))
may_do version state (acts id before event behind) =
    let a = actor_of state id in
    then (there state id) (λ is. then (is_false (is_opener a.role)) (λ recorder. then (may_note_all a before) (λ noted_before.
    then (may (noted_by a before) event) (λ ready.
    then (may_note_all (next (noted_by a before) event (word_at (memory state) (spot (length state.words) event))) behind) (λ noted_behind.
    Some (steps version state id before event behind is recorder noted_before ready noted_behind))))))
may_do version state (offers units) =
    let a = actor_of state 0 in
    then (there state 0) (λ is. then (idles a.hand.place) (λ idle. then (is_true (is_opener a.role)) (λ opener. then (at_most units a.units.share) (λ fits.
    Some (offers_more version state units is (idle, opener, fits))))))
may_do version state makes =
    let a = actor_of state 0 in
    then (there state 0) (λ is. then (idles a.hand.place) (λ idle. then (is_true (is_opener a.role)) (λ opener. then (at_most (offered_of a.role) a.units.share) (λ fits.
    then (below (outstanding_of a.role) 256) (λ few. Some (splits version state is (idle, opener, fits, few)))))))
may_do version state (joins id) =
    let a = actor_of state 0 in
    let b = actor_of state id in
    then (apart 0 id) (λ other. then (there state 0) (λ is. then (there state id) (λ that. then (idles a.hand.place) (λ idle. then (is_true (is_opener a.role)) (λ opener.
    then (at_most 1 (outstanding_of a.role)) (λ some. then (is_false (is_bound b.hand.place)) (λ turns. then (is_false (is_opener b.role)) (λ recorder. then (empty b.units.held) (λ free.
    then (empty b.entries.running) (λ none. then (is_false b.deltas.taking) (λ no_delta. then (empty b.answers.owed) (λ nothing.
    Some (joins_in version state id other is that (idle, opener, some, turns, recorder, free, none, no_delta, nothing))))))))))))))

abbrev pub may_play : ℕ → State → List RunAction → Bool
may_play version state [] = true
may_play version state (deed ∷ rest) = is_some (may_do version state deed) && may_play version (done version state deed) rest

pub played_reached : (version : ℕ) (start state : State) (deeds : List RunAction) → may_play version state deeds ≡ true
    → IsReached version start state → IsReached version start (played version state deeds)
played_reached version start state [] may reached = reached
played_reached version start state (deed ∷ rest) may reached =
    let both = and_parts (is_some (may_do version state deed)) _ may in
    played_reached version start (done version state deed) rest both.1 (found_in (may_do version state deed) both.0 start reached)

-- a run of a new segment of a small shape, in version 1 or 2
pub is_state : (version id cursors : ℕ) (deeds : List RunAction) → (version ≡ 1) ⊎ (version ≡ 2) → cursors ≤ 8
    → may_play version (new_state shape version id cursors) deeds ≡ true → IsState shape version id cursors (played version (new_state shape version id cursors) deeds)
is_state version id cursors deeds versions few may = (
  record { wide = omega arith; narrow = omega arith; even = refl; one = omega arith; many = omega arith; whole = refl },
  versions,
  few,
  played_reached version (new_state shape version id cursors) (new_state shape version id cursors) deeds may started,
)

use Rattle.std.proofs.Common.{◌≡◌, ◌≢◌, ℕ, [], ◌∷◌, inl, refl, arith}
use Rattle.alloc_core.specs.Layout.{IsShape}
use Rattle.segment_machine.specs.declared.actor.Actor.{Actor}
use Rattle.segment_machine.specs.Allocating.{load_flags}
use Rattle.segment_machine.specs.Event.{allocating_event, cursor_event, next}
use Rattle.segment_machine.specs.Cursors.{load_cursor}
use Rattle.segment_machine.specs.Seats.{opener_of, giver, getter}
use Rattle.segment_machine.specs.State.{State, IsStep}
use Rattle.segment_machine.specs.Reached.{IsOffered, IsSplit, IsLent, IsReturned, IsJoin, IsReached, started, stepped, offered, split, lent, returned, joined_in}
use Rattle.segment_machine.specs.Examples.{shape}
use Rattle.segment_machine.specs.Lives as lives
use Rattle.segment_machine.proofs.laws.recorder_is_joined.Goals as goal

abbrev opener : Actor
opener = getter (giver lives.split_opener 3) 1

abbrev loaded : Actor
loaded = next lives.lent (allocating_event load_flags) 0

-- the states one after the other
abbrev said : State
said = lives.with_actors (lives.offers ∷ [])

abbrev made : State
made = lives.with_actors (lives.split_opener ∷ lives.recorder ∷ [])

abbrev lending : State
lending = lives.with_actors (giver lives.split_opener 3 ∷ getter lives.recorder 3 ∷ [])

abbrev holding : State
holding = lives.with_actors (opener ∷ lives.lent ∷ [])

abbrev flagged : State
flagged = lives.with_actors (opener ∷ loaded ∷ [])

abbrev looked : State
looked = lives.with_actors (opener ∷ lives.looked ∷ [])

offers : IsOffered lives.opened 0 5 said
offers = (opener_of shape 1 1, refl, (refl, refl, omega arith), refl)

splits : IsSplit said 0 made
splits = (lives.offers, refl, (refl, refl, omega arith, omega arith), refl)

apart : (n : ℕ) → n ≡ 0 → n ≢ 1
apart n is e = omega (arith, is, e)

lends : IsLent made 0 1 3 lending
lends = (lives.split_opener, lives.recorder, apart 0 refl, refl, refl, (refl, refl, (λ e. cc e), omega arith), refl)

returns_one : IsReturned lending 0 1 1 holding
returns_one = (giver lives.split_opener 3, getter lives.recorder 3, apart 0 refl, refl, refl, (refl, refl, (λ e. cc e), omega arith), refl)

loads : IsStep 1 holding 1 (allocating_event load_flags) flagged
loads = record {
  actor = lives.lent;
  there = refl;
  is_recorder = refl;
  before = [];
  at = lives.lent;
  notes_before = refl;
  ready = refl;
  behind = [];
  then_is = loaded;
  notes_behind = refl;
  size = refl;
  memory_is = refl;
  actors_are = refl;
}

looks : IsStep 1 flagged 1 (cursor_event (load_cursor 0)) looked
looks = record {
  actor = loaded;
  there = refl;
  is_recorder = refl;
  before = [];
  at = loaded;
  notes_before = refl;
  ready = (refl, omega arith);
  behind = [];
  then_is = lives.looked;
  notes_behind = refl;
  size = refl;
  memory_is = refl;
  actors_are = refl;
}

joins : IsJoin looked 0 1 lives.joined_state
joins = (opener, lives.looked, apart 0 refl, refl, refl, (refl, refl, omega arith, refl, refl, refl, refl, refl, refl), refl)

reached : IsReached 1 lives.opened lives.joined_state
reached =
    joined_in looked lives.joined_state 0 1
    (stepped flagged looked 1 (cursor_event (load_cursor 0))
    (stepped holding flagged 1 (allocating_event load_flags) (returned lending holding 0 1 1
    (lent made lending 0 1 3 (split said made 0 (offered lives.opened said 0 5 started offers) splits) lends) returns_one) loads) looks)
    joins

lawful : IsShape shape
lawful = record { wide = omega arith; narrow = omega arith; even = refl; one = omega arith; many = omega arith; whole = refl }

pub returns : goal.returns
returns c = ((lawful, inl refl, omega arith, reached), (refl, refl), refl, refl, refl, refl, refl)

-- A state: the words, the shared cursors and the actors; and what a step makes of it.
use Rattle.std.specs.Prelude.{◌≡◌, ℕ, List, ◌++◌, length, slice_set, false}
use mathlib.Core.Option.{some}
use lib.ListN.{get_elem?}
use Rattle.segment_image.specs.Words.{word_at}
use Rattle.segment_machine.specs.declared.actor.Actor.{Actor}
use Rattle.segment_machine.specs.Event.{Event, spot, after, Ready, next}
use Rattle.segment_machine.specs.Note.{Note, Notes}
use Rattle.segment_machine.specs.Actor.{is_opener}

-- the words of a segment, those of its shared cursors, and one record for each actor
pub record State : Type 0 where
  pub words : List ℕ
  pub cursors : List ℕ
  pub actors : List Actor

-- the words of the segment and then those of the cursors
abbrev pub memory : State → List ℕ
memory state = state.words ++ state.cursors

-- One step: a recorder does an event that it may do, with notes before and after it. The event changes one word at most, by what it finds
-- there, and only this recorder's record. An opener does no events: it makes recorders, lends them units, gets units back, and joins them.
pub record IsStep (version : ℕ) (old : State) (id : ℕ) (event : Event) (new : State) : Type 0 where
  pub actor : Actor
  pub there : get_elem? old.actors id ≡ some actor
  pub is_recorder : is_opener actor.role ≡ false
  pub before : List Note
  pub at : Actor
  pub notes_before : Notes actor before at
  pub ready : Ready at event
  pub behind : List Note
  pub then_is : Actor
  pub notes_behind : Notes (next at event (word_at (memory old) (spot (length old.words) event))) behind then_is
  pub size : length new.words ≡ length old.words
  pub memory_is : memory new ≡ after (length old.words) version event (memory old)
  pub actors_are : new.actors ≡ slice_set old.actors id then_is

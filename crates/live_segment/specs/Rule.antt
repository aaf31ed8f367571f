-- What a segment is opened as and with, what holds for its table, and what its words are when it is closed.
use Rattle.std.specs.Prelude.{◌≡◌, Bool, false, not, ◌||◌, nat_lt, ℕ, List, [], ◌∷◌, take, drop, replicate}
use mathlib.Core.Option.{some}
use lib.ListN.{get_elem?}
use Rattle.atomic_table.specs.Table as table
use Rattle.segment_image.specs.Shape.{is_page, is_size}
use Rattle.segment_image.specs.Head.{head_of, is_version}
use Rattle.segment_image.specs.declared.layout.TheConstants.{QUEUE}
use Rattle.bucket_ranges.specs.Reading.{reading_along}
use Rattle.segment_machine.specs.declared.actor.Actor.{Actor}
use Rattle.segment_machine.specs.Seats.{opener_of}
use Rattle.segment_machine.specs.State.{State, memory}
use Rattle.segment_machine.specs.Reached.{IsReached}
use Rattle.segment_invariant.specs.Body.{Anatomy}
use Rattle.segment_invariant.specs.Invariant.{Invariant}
use Rattle.segment_invariant.specs.Keeps.{IsOpening, opening_of}
use Rattle.segment_promises.specs.Adoption.{adopter}
use Rattle.segment_promises.specs.Follows.{Running}
use Rattle.segment_calls.specs.declared.open_fault.OpenFault.{OpenFault}
use Rattle.segment_calls.specs.declared.open_fault.OpenFault.TheVariants.{BadShape, BadCursors}
use Rattle.live_segment.specs.declared.rule.Announcement.{Announcement}
use Rattle.live_segment.specs.declared.rule.Opening.{Opening}
use Rattle.live_segment.specs.declared.rule.Setting.{Setting}

-- what can be wrong with the shape, the version and the cursors of a new segment, in order
abbrev pub open_checks : ℕ → ℕ → ℕ → ℕ → List (Bool × OpenFault)
open_checks size page cursors version =
    (not (is_page page) || not (is_size size page) || not (is_version version), BadShape) ∷ (nat_lt 8 cursors, BadCursors) ∷ []

-- the opener of a new segment
abbrev pub first_view : Setting → Actor
first_view setting = opener_of setting.shape setting.version setting.cursors

-- ---- as it is opened

-- the words of the segment, which follow the first word of the table
abbrev pub words_of : Opening → List ℕ
words_of opening = take opening.setting.shape.size (drop 1 opening.words.items)

-- The opener of words with this list: it stands for all that they read as along it. The opener of blank words, which have no list, has done
-- nothing.
abbrev pub opener_of_words : Setting → List ℕ → List ℕ → Actor
opener_of_words setting words references =
    record (adopter words references (reading_along words (head_of words) references) setting.cursors) {
      segment = record { shape = setting.shape; version = setting.version; cursors = setting.cursors };
    }

abbrev pub opener_for : Opening → Actor
opener_for opening = opener_of_words opening.setting (words_of opening) opening.references.items

abbrev pub opening_state : Opening → State
opening_state opening =
    record { words = words_of opening; cursors = replicate opening.setting.cursors QUEUE; actors = opener_for opening ∷ [] }

-- These blocks may open a segment, and are those of one with this opening: their words are the ones that it is opened with, and its header
-- has the version, the id and the full flag of its setting, and no corrupt flag.
pub record IsOpenedAs (opening : Opening) (opened : Anatomy) : Type 0 where
  pub opens : IsOpening opening.setting.shape opened
  pub words : (opening_of opening.setting.shape opened).words ≡ words_of opening
  pub version : opened.version ≡ opening.setting.version
  pub id : opened.id ≡ opening.setting.id
  pub intact : opened.corrupt ≡ false
  pub full : opened.full ≡ opening.setting.full

-- the words are those of a kept state, in which the opener is the only actor
pub record IsKeptOpening (opening : Opening) : Type 0 where
  pub opened : Anatomy
  pub as_said : IsOpenedAs opening opened
  pub kept : Invariant opening.setting.shape opened (opening_state opening)
  pub words : opening.words.items ≡ 0 ∷ memory (opening_state opening)

-- ---- from then on

-- what holds for its table: the words and the views are those of a kept state, to which a segment with this opening came
pub record Runs (opening : Opening) (s : table.State Announcement Actor) : Type 0 where
  pub opened : Anatomy
  pub as_said : IsOpenedAs opening opened
  pub start : Invariant opening.setting.shape opened (opening_state opening)
  pub running : Running Announcement opening.setting.shape opened (opening_state opening) s

-- a segment with this opening came to a state: from the one in which it was opened, by steps of its recorders, and with recorders made and
-- joined and units lent, in any order
abbrev pub CameTo : Opening → State → Type 0
CameTo opening state = IsReached opening.setting.version (opening_state opening) state

-- an actor is one of a segment with this setting
pub record IsOf (setting : Setting) (a : Actor) : Type 0 where
  pub shape : a.segment.shape ≡ setting.shape
  pub version : a.segment.version ≡ setting.version
  pub cursors : a.segment.cursors ≡ setting.cursors

-- the words of a closed segment with this opening: those of a kept state to which it came, in which its opener has done and seen this
pub record Closes (opening : Opening) (opener : Actor) (words : List ℕ) : Type 0 where
  pub state : State
  pub words_are : words ≡ state.words
  pub opened : Anatomy
  pub as_said : IsOpenedAs opening opened
  pub start : Invariant opening.setting.shape opened (opening_state opening)
  pub come : CameTo opening state
  pub kept : Invariant opening.setting.shape opened state
  pub stands : get_elem? state.actors 0 ≡ some opener

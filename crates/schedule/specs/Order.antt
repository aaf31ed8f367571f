-- What a record of a schedule asks for, by its fields.
use Rattle.std.specs.Prelude.{if◌then◌else◌, nat_le, ℕ, List, [], ◌∷◌, codes, Option, Some, None, option_map}
use Rattle.std.specs.Option.{option_and_then, option_or}
use Rattle.std.specs.Str.{bytes_eq}
use Rattle.persist_report_core.specs.Number.{long_number}
use Rattle.persist_report_core.specs.Request.{from_two}
use Rattle.schedule.specs.declared.order.NewWorld.{NewWorld}
use Rattle.schedule.specs.declared.order.Opening as code_opening
use Rattle.schedule.specs.declared.order.Opening.TheVariants as opening
use Rattle.schedule.specs.declared.order.Order.{Order}
use Rattle.schedule.specs.declared.order.OrderKind as code
use Rattle.schedule.specs.declared.order.OrderKind.TheVariants as kind
use Rattle.schedule.specs.Call.{Call, call_in, call_view}

-- a value made of five parts, if all are there
abbrev pub from_five : {A B C D E X : Type 0} → (A → B → C → D → E → X) → Option A → Option B → Option C → Option D → Option E → Option X
from_five make (Some a) (Some b) (Some c) (Some d) (Some e) = Some (make a b c d e)
from_five make _ _ _ _ _ = None

-- a world of a new segment: its words, the words of a page, its id, how many actors it has, and its version
abbrev pub new_world_of : ℕ → ℕ → ℕ → ℕ → ℕ → NewWorld
new_world_of size page id actors version = record { size = size; page = page; id = id; actors = actors; version = version }

-- what the first record asks for if it makes a new segment
abbrev pub new_world_in : List (List ℕ) → Option NewWorld
new_world_in (word ∷ size ∷ page ∷ id ∷ actors ∷ version ∷ []) =
    if bytes_eq word (codes "world") then from_five new_world_of (long_number size) (long_number page) (long_number id) (long_number actors) (long_number version)
    else None
new_world_in _ = None

-- and if it continues from an image: its file, and how many actors
abbrev pub image_in : List (List ℕ) → Option (List ℕ × ℕ)
image_in (word ∷ file ∷ actors ∷ []) = if bytes_eq word (codes "adopt") then option_map (λ actors. (file, actors)) (long_number actors) else None
image_in _ = None

-- what a world starts with: a new segment, or the image in a file
pub data WorldOpening : Type 0 where
  New : NewWorld → WorldOpening
  Adopt : (file : List ℕ) (actors : ℕ) → WorldOpening

-- what the first record asks for, by either form
abbrev pub opening_in : List (List ℕ) → Option WorldOpening
opening_in fields = option_or (option_map New (new_world_in fields)) (option_map (λ image. Adopt image.0 image.1) (image_in fields))

-- how many events: one or more
abbrev pub some_number : ℕ → Option ℕ
some_number times = if nat_le 1 times then Some times else None

-- the one field that says how many events
abbrev pub times_in : List (List ℕ) → Option ℕ
times_in (times ∷ []) = option_and_then some_number (long_number times)
times_in _ = None

-- the one field that says which word
abbrev pub word_in : List (List ℕ) → Option ℕ
word_in (word ∷ []) = long_number word
word_in _ = None

-- what an actor is to do: begin a call, or continue its call by at most this many events; or, apart from the actors, a word is loaded into
-- a copy
pub data Kind : Type 0 where
  Begin : Call → Kind
  Step : (times : ℕ) → Kind
  Look : (at : ℕ) → Kind

-- what is to be done, by a word and the fields after the actor
abbrev pub kind_in : List ℕ → List (List ℕ) → Option Kind
kind_in word behind =
    if bytes_eq word (codes "step") then option_map Step (times_in behind)
    else (if bytes_eq word (codes "look") then option_map Look (word_in behind)
    else option_map Begin (call_in word behind))

-- what a later record asks for: its actor or its copy, and what is to be done
abbrev pub order_in : List (List ℕ) → Option (ℕ × Kind)
order_in (word ∷ actor ∷ behind) = from_two (λ actor kind. (actor, kind)) (long_number actor) (kind_in word behind)
order_in _ = None

-- ---- the program's values

-- what a world of the code starts with, as it is defined here
abbrev pub opening_view : code_opening.Opening → WorldOpening
opening_view (opening.New segment) = New segment
opening_view (opening.Adopt file actors) = Adopt file.items actors

-- what an actor of the code is to do, as it is defined here
abbrev pub kind_view : code.OrderKind → Kind
kind_view (kind.Begin call) = Begin (call_view call)
kind_view (kind.Step times) = Step times
kind_view (kind.Look at) = Look at

-- an order of the code: its actor, and what that is to do
abbrev pub order_view : Order → ℕ × Kind
order_view order = (order.actor, kind_view order.kind)

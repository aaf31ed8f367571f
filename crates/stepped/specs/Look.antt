-- A look in a replayed schedule: three copies of the words of its segment, which records load, and the image that they give.
use Rattle.std.specs.Prelude.{◌≡◌, ◌&&◌, ◌||◌, ◌+◌, ◌==◌, Bool, false, ℕ, zero, suc, nat_le, nat_lt, if◌then◌else◌, List, [], ◌∷◌, slice_set, Option, Some, None, Ok, max}
use Rattle.hist_core.specs.declared.world_state.WorldState.{WorldState}
use Rattle.segment_image.specs.Words.{word_at}
use Rattle.segment_image.specs.declared.head.SegmentHead.{SegmentHead}
use Rattle.segment_looks.specs.Looks.{IsLook, head_of_copies}
use Rattle.schedule.specs.declared.order.Order.{Order}
use Rattle.schedule.specs.declared.order.OrderKind.{OrderKind}
use Rattle.schedule.specs.declared.order.OrderKind.TheVariants as kind
use Rattle.stepped.specs.declared.look.Copies.{Copies}
use Rattle.stepped.specs.Lines.{Deed}
use Rattle.stepped.specs.Replay.{DoesOrder}

-- ---- which loads are valid

-- whether a record loads into a copy that is none of 1 to 3, or one before the last that was begun, or loads a word that is not there
abbrev pub is_bad_load : ℕ → ℕ → ℕ → OrderKind → Bool
is_bad_load size begun copy (kind.Look at) = nat_lt copy (max begun 1) || nat_lt 3 copy || nat_le size at
is_bad_load size begun actor (kind.Begin call) = false
is_bad_load size begun actor (kind.Step times) = false

-- the last copy that is begun after a record
abbrev pub begun_behind : ℕ → ℕ → OrderKind → ℕ
begun_behind begun copy (kind.Look at) = copy
begun_behind begun actor (kind.Begin call) = begun
begun_behind begun actor (kind.Step times) = begun

-- the number of the first record with a load that is not valid, from a number on, if there is one
abbrev pub first_bad : ℕ → ℕ → ℕ → List Order → Option ℕ
first_bad size number begun [] = None
first_bad size number begun (order ∷ rest) =
    if is_bad_load size begun order.actor order.kind then Some number
    else first_bad size (number + 1) (begun_behind begun order.actor order.kind) rest

-- ---- copies

-- three copies, and how many of them are begun
pub record Look : Type 0 where
  pub begun : ℕ
  pub one : List ℕ
  pub two : List ℕ
  pub three : List ℕ

-- the program's copies
abbrev pub look_of : Copies → Look
look_of c = record { begun = c.begun; one = c.one.items; two = c.two.items; three = c.three.items }

-- the words of a copy with a number when the copies up to another are begun: one that is begun now has all words as they are
abbrev pub begun_words : Look → ℕ → ℕ → List ℕ → List ℕ → List ℕ
begun_words look upto copy words old = if nat_lt look.begun copy && nat_le copy upto then words else old

-- the copies up to one of this number are begun
abbrev pub begun_look : Look → ℕ → List ℕ → Look
begun_look look upto words = record {
  begun = max look.begun upto;
  one = begun_words look upto 1 words look.one;
  two = begun_words look upto 2 words look.two;
  three = begun_words look upto 3 words look.three;
}

-- a word is put into a copy of a number, if it is this one
abbrev pub put_word : ℕ → ℕ → ℕ → List ℕ → List ℕ → List ℕ
put_word into copy at words old = if into == copy then slice_set old at (word_at words at) else old

-- a word is loaded into a copy, which is begun before, and all copies before it
abbrev pub loaded_look : Look → ℕ → ℕ → List ℕ → Look
loaded_look look copy at words = let begun = begun_look look copy words in record {
  begun = begun.begun;
  one = put_word copy 1 at words begun.one;
  two = put_word copy 2 at words begun.two;
  three = put_word copy 3 at words begun.three;
}

-- what a record makes of the copies, when the words of the segment are these
abbrev pub look_behind : Look → ℕ → OrderKind → List ℕ → Look
look_behind look copy (kind.Look at) words = loaded_look look copy at words
look_behind look actor (kind.Begin call) words = look
look_behind look actor (kind.Step times) words = look

-- what records lead to, how many events they leave, and what they make of the copies
abbrev pub TakesLook : List Order → ℕ → WorldState → WorldState → ℕ → Look → Look → Type 0
TakesLook [] left old new then_left look then_look = (new ≡ old) × (then_left ≡ left) × (then_look ≡ look)
TakesLook (order ∷ rest) zero old new then_left look then_look = (new ≡ old) × (then_left ≡ 0) × (then_look ≡ look)
TakesLook (order ∷ rest) (suc left) old new then_left look then_look =
    (mid : WorldState) × (left_then : ℕ) × (deeds : List Deed) × DoesOrder order.actor order.kind (suc left) old mid left_then deeds
    × TakesLook rest left_then mid new then_left (look_behind look order.actor order.kind old.words.items) then_look

-- before the first record no copy is begun
abbrev pub no_look : Look
no_look = record { begun = 0; one = []; two = []; three = [] }

-- the image that three copies give
abbrev pub GivesImage : Look → List ℕ → Type 0
GivesImage look image =
    (head : SegmentHead) × (head_of_copies look.one look.two look.three ≡ Ok head) × IsLook head look.one look.two look.three image

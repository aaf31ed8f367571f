-- The rows of a picture of what is done: a column for each actor, a row for each begin, each event and each answer.
use Rattle.std.specs.Prelude.{ℕ, zero, suc, List, [], ◌++◌, codes}
use Rattle.std.specs.Fmt.{decimal, signed_decimal}
use Rattle.hist_core.specs.declared.call.Answer.{Answer}
use Rattle.segment_calls.specs.declared.call.Call.{Call}
use Rattle.segment_calls.specs.declared.call.Call.TheVariants.{Hist, Add, Delta, Snapshot, Batch, SetCorrupt}
use Rattle.stepped.specs.declared.lines.Effect.{Effect}
use Rattle.stepped.specs.declared.lines.Effect.TheVariants.{Quiet, Changed, Missed, Loaded}
use Rattle.stepped.specs.declared.lines.Load.{Load}
use Rattle.stepped.specs.Meaning.{meaning}
use Rattle.stepped.specs.Said.{answer_text}
use Rattle.stepped.specs.Value.{value_text}

-- what a call asks for
abbrev pub call_text : Call → List ℕ
call_text (Hist name spec) = codes "hist " ++ name.items
call_text (Add name value count) = codes "add " ++ name.items ++ codes " " ++ signed_decimal value ++ codes " " ++ decimal count
call_text (Delta name) = codes "delta " ++ name.items
call_text (Snapshot name) = codes "snapshot " ++ name.items
call_text (Batch name items sum) = codes "batch " ++ name.items
call_text SetCorrupt = codes "set_corrupt"

-- a call that begins
abbrev pub begin_cell : ℕ → Call → List ℕ
begin_cell actor call = codes "actor " ++ decimal actor ++ codes ": " ++ call_text call

-- An event: what the word that it changed means as the words are then, what it was and what it is; or, for an exchange that failed, what
-- its word means, what it expected and what it found; or, for a load, what its word means and what it found; or that it changed none.
abbrev pub event_cell : List ℕ → Effect → List ℕ
event_cell words Quiet = codes "-"
event_cell words (Loaded load) = meaning words load.at ++ codes ": loaded " ++ value_text words load.at load.value
event_cell words (Missed miss) =
    meaning words miss.at ++ codes ": wanted " ++ value_text words miss.at miss.wanted ++ codes ", found " ++ value_text words miss.at miss.found
event_cell words (Changed change) =
    meaning words change.at ++ codes " " ++ value_text words change.at change.old ++ codes " -> " ++ value_text words change.at change.new

-- a load of a look, into a copy of this number: what the word means, and what it found
abbrev pub load_cell : ℕ → List ℕ → Load → List ℕ
load_cell copy words load = codes "copy " ++ decimal copy ++ codes ": " ++ event_cell words (Loaded load)

-- a call's answer
abbrev pub answer_cell : Answer → List ℕ
answer_cell answer = codes "answer: " ++ answer_text answer

-- the way to the column of an actor: 32 spaces for each before
abbrev pub column : ℕ → List ℕ
column zero = []
column (suc actor) = column actor ++ codes "                                "

-- how a row begins: a number, or none, and the way to the column
abbrev pub row_start : List ℕ → ℕ → List ℕ
row_start number actor = number ++ codes "\t" ++ column actor

-- a row, with what is in the column
abbrev pub row : List ℕ → ℕ → List ℕ → List ℕ
row number actor cell = row_start number actor ++ cell ++ codes "\n"

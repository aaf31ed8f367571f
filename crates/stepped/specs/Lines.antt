-- The lines that show what was done.
use Rattle.std.specs.Prelude.{ℕ, ℤ, List, [], ◌∷◌, ◌++◌, codes, Option, Some, None}
use Rattle.std.specs.Fmt.{decimal, signed_decimal}
use Rattle.std.specs.List.{flat_map}
use Rattle.segment_image.specs.Words.{word_at}
use Rattle.bucket_ranges.specs.declared.spec.SpecFault.{SpecFault}
use Rattle.bucket_ranges.specs.declared.spec.SpecFault.TheVariants as spec
use Rattle.segment_calls.specs.declared.refusal.Refusal.{Refusal}
use Rattle.segment_calls.specs.declared.refusal.Refusal.TheVariants as refusal
use Rattle.segment_calls.specs.declared.call.Call.{Call}
use Rattle.hist_core.specs.declared.call.Answer.{Answer}
use Rattle.hist_core.specs.declared.call.Answer.TheVariants.{Hist, Added, Flagged, Delta, Snapshot, Refused, BatchRefused}
use Rattle.stepped.specs.declared.lines.Change.{Change}
use Rattle.stepped.specs.declared.lines.Effect.{Effect}
use Rattle.stepped.specs.declared.lines.Effect.TheVariants.{Quiet, Changed, Missed, Loaded}
use Rattle.stepped.specs.declared.lines.Load.{Load}
use Rattle.stepped.specs.declared.lines.Miss.{Miss}
use Rattle.stepped.specs.declared.lines.LinePlace.{LinePlace}

-- ---- refusals

-- the word for a fault of a spec
abbrev pub spec_fault_word : SpecFault → List ℕ
spec_fault_word spec.BadMin = codes "BadMin"
spec_fault_word spec.BadMax = codes "BadMax"
spec_fault_word spec.TooFew = codes "TooFew"
spec_fault_word spec.TooMany = codes "TooMany"
spec_fault_word spec.BadRange = codes "BadRange"
spec_fault_word spec.Empty = codes "Empty"
spec_fault_word spec.NoMemory = codes "NoMemory"

-- the word for a refusal
abbrev pub refusal_word : Refusal → List ℕ
refusal_word refusal.BadName = codes "BadName"
refusal_word (refusal.BadSpec fault) = codes "BadSpec"
refusal_word refusal.ZeroCount = codes "ZeroCount"
refusal_word refusal.NoUnits = codes "NoUnits"
refusal_word refusal.TooMany = codes "TooMany"
refusal_word refusal.NoMemory = codes "NoMemory"
refusal_word refusal.TooLarge = codes "TooLarge"
refusal_word refusal.Corrupt = codes "Corrupt"
refusal_word refusal.Full = codes "Full"
refusal_word refusal.OtherSpec = codes "OtherSpec"

-- it, and the fault of a spec
abbrev pub refusal_fields : Refusal → List (List ℕ)
refusal_fields (refusal.BadSpec fault) = codes "BadSpec" ∷ spec_fault_word fault ∷ []
refusal_fields why = refusal_word why ∷ []

-- ---- what is shown of a call

-- what an event did that changed this, or, if it changed nothing, that missed this, or else loaded this
abbrev pub effect_of : Option Change → Option Miss → Option Load → Effect
effect_of (Some change) miss load = Changed change
effect_of None (Some miss) load = Missed miss
effect_of None None (Some load) = Loaded load
effect_of None None None = Quiet

-- a load of a word of these, and what it finds
abbrev pub load_of : List ℕ → ℕ → Load
load_of words at = record { at = at; value = word_at words at }

-- A call begins; it begins and ends at once with an answer, without an event; an event of it happens, which does this and leads to these
-- words; or it has ended by its last event, with an answer. Or, apart from all calls, one of these words is loaded into a copy.
pub data Deed : Type 0 where
  Begins : (call : Call) → Deed
  AtOnce : (call : Call) → (answer : Answer) → Deed
  Steps : (words : List ℕ) → (effect : Effect) → Deed
  Ends : (answer : Answer) → Deed
  Looks : (words : List ℕ) → (at : ℕ) → Deed

-- each key with its units
abbrev pub units_fields : List (ℤ × ℕ) → List (List ℕ)
units_fields counts = flat_map (λ count. signed_decimal count.0 ∷ decimal count.1 ∷ []) counts

-- the fields of an answer
abbrev pub answer_fields : Answer → List (List ℕ)
answer_fields (Hist reference) = codes "hist" ∷ decimal reference ∷ []
answer_fields Added = codes "added" ∷ []
answer_fields Flagged = codes "flagged" ∷ []
answer_fields (Delta delta) = codes "delta" ∷ signed_decimal delta.sum ∷ units_fields delta.counts.items
answer_fields (Snapshot snapshot) =
    codes "snapshot" ∷ signed_decimal snapshot.sum ∷ decimal snapshot.redundant ∷ units_fields snapshot.counts.items
answer_fields (Refused why) = codes "refused" ∷ refusal_fields why
answer_fields (BatchRefused refused) = codes "batch_refused" ∷ decimal refused.added ∷ refusal_fields refused.why

-- the fields of an event
abbrev pub step_fields : Effect → List (List ℕ)
step_fields Quiet = codes "step" ∷ []
step_fields (Missed miss) = codes "step" ∷ []
step_fields (Loaded load) = codes "step" ∷ []
step_fields (Changed change) = codes "step" ∷ decimal change.at ∷ decimal change.old ∷ decimal change.new ∷ []

-- the fields after those of the place
abbrev pub deed_fields : Deed → List (List ℕ)
deed_fields (Begins call) = codes "begin" ∷ []
deed_fields (AtOnce call answer) = codes "answer" ∷ answer_fields answer
deed_fields (Steps words effect) = step_fields effect
deed_fields (Ends answer) = codes "answer" ∷ answer_fields answer
deed_fields (Looks words at) = codes "look" ∷ decimal at ∷ decimal (word_at words at) ∷ []

-- ---- texts

-- fields, each after a comma
abbrev pub behind : List (List ℕ) → List ℕ
behind fields = flat_map (λ field. 44 ∷ field) fields

-- the number of a record, and its actor or its copy
abbrev pub place_text : LinePlace → List ℕ
place_text place = decimal place.number ++ behind (decimal place.actor ∷ [])

-- the line with these fields
abbrev pub line : LinePlace → List (List ℕ) → List ℕ
line place fields = place_text place ++ behind fields ++ 10 ∷ []

-- the line of what is shown
abbrev pub deed_line : LinePlace → Deed → List ℕ
deed_line place deed = line place (deed_fields deed)

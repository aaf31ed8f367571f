-- A call's answer in words.
use Rattle.std.specs.Prelude.{ℕ, ℤ, if◌then◌else◌, ◌==◌, List, [], ◌++◌, codes}
use Rattle.std.specs.Fmt.{decimal, signed_decimal}
use Rattle.std.specs.List.{flat_map}
use Rattle.bucket_ranges.specs.declared.spec.SpecFault.{SpecFault}
use Rattle.segment_calls.specs.declared.refusal.Refusal.{Refusal}
use Rattle.segment_calls.specs.declared.refusal.Refusal.TheVariants.{BadSpec}
use Rattle.hist_core.specs.declared.call.Answer.{Answer}
use Rattle.hist_core.specs.declared.call.Answer.TheVariants.{Hist, Added, Flagged, Delta, Snapshot, Refused, BatchRefused}
use Rattle.stepped.specs.Lines.{refusal_word, spec_fault_word}
use Rattle.stepped.specs.Value.{units_text}

-- units of a key, if there are any
abbrev pub key_text : ℤ × ℕ → List ℕ
key_text count = if count.1 == 0 then [] else codes ", " ++ units_text count.1 ++ codes " at " ++ signed_decimal count.0

-- units of each key
abbrev pub keys_text : List (ℤ × ℕ) → List ℕ
keys_text counts = flat_map key_text counts

-- that a call is refused for its spec, with the fault of the spec
abbrev pub bad_spec_text : SpecFault → List ℕ
bad_spec_text fault = codes "refused, BadSpec " ++ spec_fault_word fault

-- why a call is refused
abbrev pub refusal_text : Refusal → List ℕ
refusal_text (BadSpec fault) = bad_spec_text fault
refusal_text why = codes "refused, " ++ refusal_word why

-- that a batch is refused after this many items
abbrev pub items_text : ℕ → List ℕ
items_text items = codes ", after " ++ decimal items ++ (if items == 1 then codes " item" else codes " items")

-- why a batch is refused, and after how many items
abbrev pub stopped_text : Refusal → ℕ → List ℕ
stopped_text why items = refusal_text why ++ items_text items

-- how an answer begins
abbrev pub head_text : Answer → List ℕ
head_text (Hist reference) = codes "histogram at " ++ decimal reference
head_text Added = codes "added"
head_text Flagged = codes "corrupt flag set"
head_text (Delta delta) = codes "took a sum of " ++ signed_decimal delta.sum
head_text (Snapshot snapshot) = codes "saw a sum of " ++ signed_decimal snapshot.sum
head_text (Refused why) = refusal_text why
head_text (BatchRefused refused) = stopped_text refused.why refused.added

-- the redundant count that a snapshot saw
abbrev pub redundant_text : Answer → List ℕ
redundant_text (Snapshot snapshot) = codes ", redundant " ++ decimal snapshot.redundant
redundant_text answer = []

-- the units that a delta took, or that a snapshot saw
abbrev pub counts_text : Answer → List ℕ
counts_text (Delta delta) = keys_text delta.counts.items
counts_text (Snapshot snapshot) = keys_text snapshot.counts.items
counts_text answer = []

-- an answer
abbrev pub answer_text : Answer → List ℕ
answer_text answer = head_text answer ++ redundant_text answer ++ counts_text answer

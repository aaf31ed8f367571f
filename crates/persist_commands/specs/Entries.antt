-- What the calls of a script do.
use Rattle.std.specs.Prelude.{ℕ, List, [], ◌∷◌, slice_get, Option, Some, None}
use Rattle.std.specs.List.{filter_map, flat_map}
use Rattle.bucket_ranges.specs.Ranges.{boundaries_of}
use Rattle.persist_report_core.specs.declared.script.CallKind.{CallKind}
use Rattle.persist_report_core.specs.declared.script.CallKind.TheVariants as kind
use Rattle.persist_report_core.specs.declared.script.ScriptCall.{ScriptCall}
use Rattle.persist_report_core.specs.Script.{HistRecord}
use Rattle.segment_machine.specs.declared.entry.Entry.{Entry}
use Rattle.segment_machine.specs.Entry.{sample_entry}

-- what a call of a script does: it records an entry, or takes a delta of the histogram of a name
pub data ScriptAction : Type 0 where
  Records : (entry : Entry) → ScriptAction
  Takes : (name : List ℕ) → ScriptAction

-- what a call does on the histogram of a `hist` record
abbrev pub deeds_in : Option HistRecord → CallKind → List ScriptAction
deeds_in (Some hist) (kind.Add value count) = Records (sample_entry hist.name (boundaries_of hist.spec) (value, count)) ∷ []
deeds_in (Some hist) kind.Delta = Takes hist.name ∷ []
deeds_in None _ = []

-- what a call does, which names its histogram by the place of its `hist` record
abbrev pub deeds_of_call : List HistRecord → ScriptCall → List ScriptAction
deeds_of_call hists call = deeds_in (slice_get hists call.hist) call.kind

-- what calls do, in their order
abbrev pub deeds_of : List HistRecord → List ScriptCall → List ScriptAction
deeds_of hists calls = flat_map (deeds_of_call hists) calls

-- the entries that are recorded
abbrev pub entry_in : ScriptAction → Option Entry
entry_in (Records entry) = Some entry
entry_in (Takes name) = None

abbrev pub entries_among : List ScriptAction → List Entry
entries_among deeds = filter_map entry_in deeds

-- the names of which deltas are taken
abbrev pub delta_in : ScriptAction → Option (List ℕ)
delta_in (Records entry) = None
delta_in (Takes name) = Some name

abbrev pub deltas_among : List ScriptAction → List (List ℕ)
deltas_among deeds = filter_map delta_in deeds

-- the entries of calls, and the names of which they take deltas
abbrev pub entries_of : List HistRecord → List ScriptCall → List Entry
entries_of hists calls = entries_among (deeds_of hists calls)

abbrev pub deltas_of : List HistRecord → List ScriptCall → List (List ℕ)
deltas_of hists calls = deltas_among (deeds_of hists calls)

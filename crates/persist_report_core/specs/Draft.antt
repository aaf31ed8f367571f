-- A script while it is read.
use Rattle.std.specs.Prelude.{◌≡◌, true, false, if◌then◌else◌, ℕ, ◌≤◌, List, [], ◌++◌, Option, Some, None, option_to_list, Result, MatchResult, ⊤}
use Rattle.std.specs.declared.alloc.Global.{Global}
use Rattle.std.specs.declared.vec.Vec.{Vec}
use Rattle.std.specs.HashMap.{HashMap, get_by}
use Rattle.std.specs.Str.{bytes_eq}
use Rattle.persist_report_core.specs.declared.script.draft.Draft.{Draft}
use Rattle.persist_report_core.specs.declared.script.fault.ScriptFault.{ScriptFault}
use Rattle.persist_report_core.specs.declared.script.fault.ScriptFault.TheVariants.{Read, TooLong, NoMemory, BadLine, ZeroCount, NoUnits}
use Rattle.persist_report_core.specs.Request.{ScriptRequest}
use Rattle.persist_report_core.specs.Script.{Script, HistRecord, is_known, place_of, units_of, hist_from, call_from, opening_of, opening_fault, later_fault, script_view}

-- the place of a name
abbrev pub found : {X S : Type 0} → HashMap (Vec ℕ Global) X S → List ℕ → Option X
found names name = get_by (λ key. bytes_eq name key.items) names

-- the index of the first `hist` record of a name, if there is one
abbrev pub known_place : List HistRecord → List ℕ → Option ℕ
known_place hists name = if is_known name hists then Some (place_of name hists) else None

-- a name is looked up: it is known and has this place, or the record with it is a bad line
abbrev pub FindsPlace : List HistRecord → List ℕ → ℕ → Result ℕ ScriptFault → Type 0
FindsPlace hists name number result = MatchResult result
    (λ place. (is_known name hists ≡ true) × (place_of name hists ≡ place))
    (λ fault. (is_known name hists ≡ false) × (fault ≡ BadLine number))

-- what a draft keeps in addition to its script: the place of each name's first `hist` record, and the units taken from the pool
pub record IsDraft (draft : Draft) : Type 0 where
  pub placed : (name : List ℕ) → found draft.names name ≡ known_place (script_view draft.script).hists name
  pub taken : draft.taken ≡ units_of draft.script.calls.items
  pub within : draft.taken ≤ draft.pool

-- the script of a first record alone
abbrev pub opened_script : Option ScriptRequest → Script
opened_script request = record { shape = (opening_of request).0; id = (opening_of request).1; hists = []; calls = [] }

-- a script with one more record
abbrev pub extended : ℕ → Script → Option ScriptRequest → Script
extended number script request = record script {
  hists = script.hists ++ option_to_list (hist_from number request);
  calls = script.calls ++ option_to_list (call_from script.hists number request);
}

-- a call that finds this fault returns it, or memory ran out
abbrev pub TellsFault : Option ScriptFault → ScriptFault → Type 0
TellsFault fault Read = ⊥
TellsFault fault TooLong = ⊥
TellsFault fault NoMemory = ⊤
TellsFault fault (BadLine number) = fault ≡ Some (BadLine number)
TellsFault fault (ZeroCount number) = fault ≡ Some (ZeroCount number)
TellsFault fault (NoUnits number) = fault ≡ Some (NoUnits number)

-- a draft of one record without a fault, by what it asks for
pub record IsDraftOpened (pool : ℕ) (request : Option ScriptRequest) (draft : Draft) : Type 0 where
  pub lawful : opening_fault request ≡ None
  pub script_is : script_view draft.script ≡ opened_script request
  pub keeps : IsDraft draft
  pub pool_is : draft.pool ≡ pool

-- the first record opens a draft, or its fault is returned
abbrev pub Opens : ℕ → Option ScriptRequest → Result Draft ScriptFault → Type 0
Opens pool request result = MatchResult result (IsDraftOpened pool request) (TellsFault (opening_fault request))

-- a draft with one more record, which has no fault
pub record IsExtended (old new : Draft) (number : ℕ) (request : Option ScriptRequest) : Type 0 where
  pub lawful : later_fault old.pool number (script_view old.script) request ≡ None
  pub script_is : script_view new.script ≡ extended number (script_view old.script) request
  pub keeps : IsDraft new
  pub pool_is : new.pool ≡ old.pool

-- a record is put into a draft, or its fault is returned
abbrev pub Puts : Draft → Draft → ℕ → Option ScriptRequest → Result (Unit {0}) ScriptFault → Type 0
Puts old new number request result =
    MatchResult result (λ _. IsExtended old new number request) (TellsFault (later_fault old.pool number (script_view old.script) request))

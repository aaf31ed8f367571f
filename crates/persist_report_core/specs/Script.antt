-- What the bytes of a script mean, or their first fault.
use Rattle.std.specs.Prelude.{◌≡◌, ◌<◌, ◌≤◌, ⊤, Bool, false, not, ◌&&◌, ◌==◌, nat_lt, if◌then◌else◌, ℕ, ◌+◌, List, [], ◌∷◌, ◌++◌, length, map, sum_by, slice_index_or, Option, Some, None, Result, Ok, Err}
use Rattle.std.specs.List.{enumerate_from, filter_map, position_or_len, scan}
use Rattle.std.specs.Str.{bytes_eq}
use Rattle.csv.specs.Reading.{records, default_config, strip_bom}
use Rattle.segment_image.specs.Checks.{first_fault}
use Rattle.segment_image.specs.Shape.{Dimensions, is_page, is_size}
use Rattle.bucket_ranges.specs.declared.spec.Spec.{Spec}
use Rattle.persist_report_core.specs.declared.script.CallKind.{CallKind}
use Rattle.persist_report_core.specs.declared.script.CallKind.TheVariants as kind
use Rattle.persist_report_core.specs.declared.script.ScriptCall.{ScriptCall}
use Rattle.persist_report_core.specs.declared.script.ScriptHist.{ScriptHist}
use Rattle.persist_report_core.specs.declared.script.Script as code
use Rattle.persist_report_core.specs.declared.script.fault.ScriptFault.{ScriptFault}
use Rattle.persist_report_core.specs.declared.script.fault.ScriptFault.TheVariants.{Read, TooLong, NoMemory, BadLine, ZeroCount, NoUnits}
use Rattle.persist_report_core.specs.Request.{ScriptRequest, Segment, Hist, Add, Delta, request_in}

-- ---- a script

-- a `hist` record: the name and the spec, and the number of the record
pub record HistRecord : Type 0 where
  pub name : List ℕ
  pub spec : Spec
  pub number : ℕ

-- a script: the shape and the id of its segment, its `hist` records, and its `add` and `delta` records
pub record Script : Type 0 where
  pub shape : Dimensions
  pub id : ℕ
  pub hists : List HistRecord
  pub calls : List ScriptCall

-- the index of the first `hist` record of a name, or their number if there is none
abbrev pub place_of : List ℕ → List HistRecord → ℕ
place_of name hists = position_or_len (λ hist. bytes_eq name hist.name) hists

-- whether a `hist` record has this name
abbrev pub is_known : List ℕ → List HistRecord → Bool
is_known name hists = nat_lt (place_of name hists) (length hists)

-- the units that an `add` record adds
abbrev pub units_in : CallKind → ℕ
units_in (kind.Add value count) = count
units_in kind.Delta = 0

-- the units that all `add` records add
abbrev pub units_of : List ScriptCall → ℕ
units_of calls = sum_by (λ call. units_in call.kind) calls

-- the number of a fault
abbrev pub script_fault_number : ScriptFault → ℕ
script_fault_number Read = 1
script_fault_number TooLong = 2
script_fault_number NoMemory = 3
script_fault_number (BadLine number) = 4
script_fault_number (ZeroCount number) = 5
script_fault_number (NoUnits number) = 6

-- ---- the script that records make

-- the `hist` record that a record is, if it is one
abbrev pub hist_from : ℕ → Option ScriptRequest → Option HistRecord
hist_from number (Some (Hist name spec)) = Some (record { name = name; spec = spec; number = number })
hist_from number _ = None

-- the `add` or `delta` record that a record is, if it is one
abbrev pub call_from : List HistRecord → ℕ → Option ScriptRequest → Option ScriptCall
call_from hists number (Some (Add name value count)) =
    Some (record { hist = place_of name hists; kind = kind.Add value count; number = number })
call_from hists number (Some (Delta name)) = Some (record { hist = place_of name hists; kind = kind.Delta; number = number })
call_from hists number _ = None

-- the shape and the id that the first record names
abbrev pub opening_of : Option ScriptRequest → Dimensions × ℕ
opening_of (Some (Segment size page id)) = (record { size = size; page = page }, id)
opening_of _ = (record { size = 0; page = 0 }, 0)

-- the script that records without a fault make
abbrev pub script_along : List (List (List ℕ)) → Script
script_along records =
    let opening = opening_of (request_in (slice_index_or records 0 [])) in
    let hists = filter_map (λ numbered. hist_from numbered.0 (request_in numbered.1)) (enumerate_from 1 records) in record {
      shape = opening.0;
      id = opening.1;
      hists = hists;
      calls = filter_map (λ numbered. call_from hists numbered.0 (request_in numbered.1)) (enumerate_from 1 records);
    }

-- ---- the faults of records

-- the fault of the first record, which has to name a valid shape
abbrev pub opening_fault : Option ScriptRequest → Option ScriptFault
opening_fault (Some (Segment size page id)) = if is_page page && is_size size page then None else Some (BadLine 1)
opening_fault _ = Some (BadLine 1)

-- the fault of a later record, by the script that those before it make: `hist` records come before all calls, a call names a known
-- histogram, and an `add` record adds units, and no more than the pool has left
abbrev pub later_fault : ℕ → ℕ → Script → Option ScriptRequest → Option ScriptFault
later_fault pool number script None = Some (BadLine number)
later_fault pool number script (Some (Segment size page id)) = Some (BadLine number)
later_fault pool number script (Some (Hist name spec)) = first_fault ((not (length script.calls == 0), BadLine number) ∷ [])
later_fault pool number script (Some (Add name value count)) =
    let checks : List (Bool × ScriptFault) =
    (not (is_known name script.hists), BadLine number)
    ∷ (count == 0, ZeroCount number)
    ∷ (nat_lt pool (units_of script.calls + count), NoUnits number)
    ∷ [] in
    first_fault checks
later_fault pool number script (Some (Delta name)) = first_fault ((not (is_known name script.hists), BadLine number) ∷ [])

-- the fault of a record, given those before it
abbrev pub fault_of : ℕ → List (List (List ℕ)) → List (List ℕ) → Option ScriptFault
fault_of pool [] fields = opening_fault (request_in fields)
fault_of pool (first ∷ more) fields =
    later_fault pool (length (first ∷ more) + 1) (script_along (first ∷ more)) (request_in fields)

-- the faults of all records in order, each given those before it
abbrev pub faults_of : ℕ → List (List (List ℕ)) → List ScriptFault
faults_of pool records = filter_map (λ fault. fault) (scan (λ earlier fields. earlier ++ fields ∷ []) (fault_of pool) [] records)

-- ---- what is returned

-- the first of the faults, or the value if there is none
abbrev pub unless_faults : {F X : Type 0} → List F → X → Result X F
unless_faults [] x = Ok x
unless_faults (fault ∷ more) x = Err fault

-- the script that records make, or their first fault; if there are no records, the first is missing
abbrev pub script_from : ℕ → List (List (List ℕ)) → Result Script ScriptFault
script_from pool [] = Err (BadLine 1)
script_from pool (first ∷ more) = unless_faults (faults_of pool (first ∷ more)) (script_along (first ∷ more))

-- what bytes mean as a script that may take this many units, or their first fault
abbrev pub script_of : ℕ → List ℕ → Result Script ScriptFault
script_of pool bytes = script_from pool (records default_config (strip_bom bytes))

-- the first of the records that bytes are; no fields if there is none
abbrev pub first_record : List ℕ → List (List ℕ)
first_record bytes = slice_index_or (records default_config (strip_bom bytes)) 0 []

-- whether a record names the segment of this shape and id
abbrev pub names_segment : Dimensions → ℕ → Option ScriptRequest → Bool
names_segment shape id (Some (Segment size page other)) = size == shape.size && page == shape.page && other == id
names_segment shape id _ = false

-- what bytes mean as a script for the segment of this shape and id, which the first record has to name
abbrev pub script_for : Dimensions → ℕ → ℕ → List ℕ → Result Script ScriptFault
script_for shape id pool bytes =
    if names_segment shape id (request_in (first_record bytes)) then script_of pool bytes else Err (BadLine 1)

-- A fault of a call that reads a script of at most 16,777,216 bytes, which mean this, has its cause in the bytes that the reader had left.
-- Running out of memory and a failing device have no cause there.
abbrev pub IsFaultOfBytes : Result Script ScriptFault → List ℕ → ScriptFault → Type 0
IsFaultOfBytes meaning bytes Read = ⊤
IsFaultOfBytes meaning bytes TooLong = 16777216 < length bytes
IsFaultOfBytes meaning bytes NoMemory = ⊤
IsFaultOfBytes meaning bytes (BadLine number) = (length bytes ≤ 16777216) × (meaning ≡ Err (BadLine number))
IsFaultOfBytes meaning bytes (ZeroCount number) = (length bytes ≤ 16777216) × (meaning ≡ Err (ZeroCount number))
IsFaultOfBytes meaning bytes (NoUnits number) = (length bytes ≤ 16777216) × (meaning ≡ Err (NoUnits number))

-- a fault has its cause in bytes that are read as a script for any segment
abbrev pub IsScriptFault : ℕ → List ℕ → ScriptFault → Type 0
IsScriptFault pool bytes fault = IsFaultOfBytes (script_of pool bytes) bytes fault

-- ---- the program's values

-- a `hist` record of the code, as it is defined here
abbrev pub hist_view : ScriptHist → HistRecord
hist_view hist = record { name = hist.name.items; spec = hist.spec; number = hist.number }

-- a script of the code, as it is defined here
abbrev pub script_view : code.Script → Script
script_view script = record {
  shape = script.shape;
  id = script.id;
  hists = map hist_view script.hists.items;
  calls = script.calls.items;
}

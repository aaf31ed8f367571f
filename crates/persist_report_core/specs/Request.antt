-- What a record of a script asks for, by its fields alone.
use Rattle.std.specs.Prelude.{if◌then◌else◌, ℕ, ℤ, List, [], ◌∷◌, codes, Option, Some, None, option_map}
use Rattle.std.specs.Str.{bytes_eq}
use Rattle.bucket_ranges.specs.declared.spec.Spec.{Spec}
use Rattle.bucket_ranges.specs.declared.spec.Spec.TheVariants.{Linear, Boolean, Custom, Sparse}
use Rattle.persist_report_core.specs.Number.{unsigned_number, long_number, signed_number}
use Rattle.persist_report_core.specs.declared.script.request.ScriptRequest as code
use Rattle.persist_report_core.specs.declared.script.request.ScriptRequest.TheVariants as variants

-- a segment of a shape and an id; a histogram; units of a value for the histogram of a name; its delta
pub data ScriptRequest : Type 0 where
  Segment : (size page id : ℕ) → ScriptRequest
  Hist : (name : List ℕ) (spec : Spec) → ScriptRequest
  Add : (name : List ℕ) (value : ℤ) (count : ℕ) → ScriptRequest
  Delta : (name : List ℕ) → ScriptRequest

-- a value made of two parts, if both are there
abbrev pub from_two : {A B X : Type 0} → (A → B → X) → Option A → Option B → Option X
from_two make (Some a) (Some b) = Some (make a b)
from_two make _ _ = None

-- a value made of three parts, if all are there
abbrev pub from_three : {A B C X : Type 0} → (A → B → C → X) → Option A → Option B → Option C → Option X
from_three make (Some a) (Some b) (Some c) = Some (make a b c)
from_three make _ _ _ = None

-- ---- the fields after the word `segment`, `add` or `delta`

-- a size, a page and an id
abbrev pub segment_in : List (List ℕ) → Option ScriptRequest
segment_in (size ∷ page ∷ id ∷ []) = from_three Segment (unsigned_number size) (unsigned_number page) (long_number id)
segment_in _ = None

-- a name, a value, and how often it is counted
abbrev pub add_in : List (List ℕ) → Option ScriptRequest
add_in (name ∷ value ∷ count ∷ []) = from_two (Add name) (signed_number value) (unsigned_number count)
add_in _ = None

-- a name
abbrev pub delta_in : List (List ℕ) → Option ScriptRequest
delta_in (name ∷ []) = Some (Delta name)
delta_in _ = None

-- ---- the fields after a kind of histogram

-- the numbers in fields, if each is one
abbrev pub numbers_in : List (List ℕ) → Option (List ℕ)
numbers_in [] = Some []
numbers_in (field ∷ rest) = from_two (λ number more. number ∷ more) (unsigned_number field) (numbers_in rest)

-- the least and the greatest value, and the number of buckets
abbrev pub linear_in : List (List ℕ) → Option Spec
linear_in (min ∷ max ∷ buckets ∷ []) = from_three Linear (unsigned_number min) (unsigned_number max) (unsigned_number buckets)
linear_in _ = None

-- one value or more
abbrev pub custom_in : List (List ℕ) → Option Spec
custom_in [] = None
custom_in (value ∷ rest) = option_map Custom (numbers_in (value ∷ rest))

-- a kind with no fields after it
abbrev pub alone : Spec → List (List ℕ) → Option Spec
alone spec [] = Some spec
alone spec _ = None

-- the spec that a kind and the fields after it name
abbrev pub spec_in : List ℕ → List (List ℕ) → Option Spec
spec_in kind behind =
    if bytes_eq kind (codes "linear") then linear_in behind
    else (if bytes_eq kind (codes "boolean") then alone Boolean behind
    else (if bytes_eq kind (codes "custom") then custom_in behind
    else (if bytes_eq kind (codes "sparse") then alone Sparse behind else None)))

-- ---- a whole record

-- the fields after the word `hist`: a name, and a kind with its fields
abbrev pub hist_in : List (List ℕ) → Option ScriptRequest
hist_in (name ∷ kind ∷ behind) = option_map (Hist name) (spec_in kind behind)
hist_in _ = None

-- what a word and the fields after it ask for
abbrev pub request_behind : List ℕ → List (List ℕ) → Option ScriptRequest
request_behind word behind =
    if bytes_eq word (codes "add") then add_in behind
    else (if bytes_eq word (codes "delta") then delta_in behind
    else (if bytes_eq word (codes "hist") then hist_in behind
    else (if bytes_eq word (codes "segment") then segment_in behind else None)))

-- what a record asks for, or nothing if it is malformed
abbrev pub request_in : List (List ℕ) → Option ScriptRequest
request_in [] = None
request_in (word ∷ behind) = request_behind word behind

-- ---- the program's values

-- a request of the code, as it is defined here
abbrev pub request_view : code.ScriptRequest → ScriptRequest
request_view (variants.Segment size page id) = Segment size page id
request_view (variants.Hist name spec) = Hist name.now spec
request_view (variants.Add name value count) = Add name.now value count
request_view (variants.Delta name) = Delta name.now

-- What call a record of a schedule begins, by its word and the fields after its actor.
use Rattle.std.specs.Prelude.{if◌then◌else◌, ℕ, ℤ, List, [], ◌∷◌, codes, Option, Some, None, option_map}
use Rattle.std.specs.Str.{bytes_eq}
use Rattle.bucket_ranges.specs.declared.spec.Spec.{Spec}
use Rattle.segment_calls.specs.declared.call.Call as code
use Rattle.segment_calls.specs.declared.call.Call.TheVariants as variants
use Rattle.persist_report_core.specs.Number.{unsigned_number, signed_number, signed_long_number}
use Rattle.persist_report_core.specs.Request.{from_two, spec_in}

-- a call, by the bytes of its name
pub data Call : Type 0 where
  Hist : (name : List ℕ) (spec : Spec) → Call
  Add : (name : List ℕ) (value : ℤ) (count : ℕ) → Call
  Delta : (name : List ℕ) → Call
  Snapshot : (name : List ℕ) → Call
  Batch : (name : List ℕ) (items : List (ℤ × ℕ)) (sum : ℤ) → Call
  SetCorrupt : Call

-- a name alone
abbrev pub name_in : List (List ℕ) → Option (List ℕ)
name_in (name ∷ []) = Some name
name_in _ = None

-- a name, and a kind of histogram with what follows it
abbrev pub hist_in : List (List ℕ) → Option Call
hist_in (name ∷ kind ∷ behind) = option_map (Hist name) (spec_in kind behind)
hist_in _ = None

-- a value and how often it is counted
abbrev pub item_in : List ℕ → List ℕ → Option (ℤ × ℕ)
item_in value count = from_two (λ value count. (value, count)) (signed_number value) (unsigned_number count)

-- a name, a value, and how often it is counted
abbrev pub sample_in : List (List ℕ) → Option (List ℕ × ℤ × ℕ)
sample_in (name ∷ value ∷ count ∷ []) = option_map (λ item. (name, item.0, item.1)) (item_in value count)
sample_in _ = None

-- the call that counts a sample
abbrev pub add_in : List (List ℕ) → Option Call
add_in fields = option_map (λ sample. Add sample.0 sample.1 sample.2) (sample_in fields)

-- values, each followed by how often it is counted, and nothing after them
abbrev pub items_in : List (List ℕ) → Option (List (ℤ × ℕ))
items_in [] = Some []
items_in (value ∷ []) = None
items_in (value ∷ count ∷ rest) = from_two (λ item more. item ∷ more) (item_in value count) (items_in rest)

-- a name, a sum, and the values
abbrev pub batch_in : List (List ℕ) → Option Call
batch_in (name ∷ sum ∷ values) = from_two (λ sum items. Batch name items sum) (signed_long_number sum) (items_in values)
batch_in _ = None

-- nothing
abbrev pub set_corrupt_in : List (List ℕ) → Option Call
set_corrupt_in [] = Some SetCorrupt
set_corrupt_in _ = None

-- the call that a word and the fields after the actor begin, if they begin one
abbrev pub call_in : List ℕ → List (List ℕ) → Option Call
call_in word behind =
    if bytes_eq word (codes "hist") then hist_in behind
    else (if bytes_eq word (codes "add") then add_in behind
    else (if bytes_eq word (codes "batch") then batch_in behind
    else (if bytes_eq word (codes "delta") then option_map Delta (name_in behind)
    else (if bytes_eq word (codes "snapshot") then option_map Snapshot (name_in behind)
    else (if bytes_eq word (codes "set_corrupt") then set_corrupt_in behind else None)))))

-- the program's values
abbrev pub call_view : code.Call → Call
call_view (variants.Hist name spec) = Hist name.items spec
call_view (variants.Add name value count) = Add name.items value count
call_view (variants.Delta name) = Delta name.items
call_view (variants.Snapshot name) = Snapshot name.items
call_view (variants.Batch name items sum) = Batch name.items items.items sum
call_view variants.SetCorrupt = SetCorrupt

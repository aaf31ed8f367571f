-- What may be in a field of a script.
use Rattle.std.specs.Prelude.{Bool, ◌||◌, ℕ, List, codes, is_some}
use Rattle.std.specs.Str.{bytes_eq}
use Rattle.persist_report_core.specs.Number.{unsigned_number, long_number, signed_number}
use Rattle.fault_texts.specs.declared.field.Wanted.{Wanted}
use Rattle.fault_texts.specs.declared.field.Wanted.TheVariants.{Word, Kind, Unsigned, Long, Signed}

-- one of the words with which records begin
abbrev pub is_word : List ℕ → Bool
is_word field =
    bytes_eq field (codes "segment") || bytes_eq field (codes "hist") || bytes_eq field (codes "add") || bytes_eq field (codes "delta")

-- one of the kinds of histograms
abbrev pub is_kind : List ℕ → Bool
is_kind field =
    bytes_eq field (codes "boolean") || bytes_eq field (codes "linear") || bytes_eq field (codes "custom") || bytes_eq field (codes "sparse")

-- whether the bytes may be in a field that needs this
abbrev pub may_stand : Wanted → List ℕ → Bool
may_stand Word field = is_word field
may_stand Kind field = is_kind field
may_stand Unsigned field = is_some (unsigned_number field)
may_stand Long field = is_some (long_number field)
may_stand Signed field = is_some (signed_number field)

-- What records ask for, by their first field, and what the first record opens.
use Rattle.std.proofs.Common.{◌≡◌, ℕ, List, [], ◌∷◌, drop, Option, Some, None, ap, refl}
use Rattle.csv.specs.Records.{field_at}
use Rattle.persist_report_core.specs.Request.{ScriptRequest, Segment, Hist, Add, Delta, request_behind, request_in}
use Rattle.persist_report_core.specs.Script.{opening_fault, script_along}
use Rattle.persist_report_core.specs.Draft.{opened_script}

-- a record that has a first field
pub request_in-word : (fields : List (List ℕ)) (word : List ℕ) → field_at fields 0 ≡ Some word → request_in fields ≡ request_behind word (drop 1 fields)
unfolding field_at
request_in-word [] word there = cc there
request_in-word (first ∷ rest) word there = let same : first ≡ word = cc there in ap (λ x. request_behind x rest) same

-- a record that has none asks for nothing
pub request_in-empty : (fields : List (List ℕ)) → field_at fields 0 ≡ None → request_in fields ≡ None
unfolding field_at
request_in-empty [] missing = refl
request_in-empty (first ∷ rest) missing = cc missing

-- the script that a first record without a fault makes
pub script_along-one : (fields : List (List ℕ)) (request : Option ScriptRequest) → request ≡ request_in fields → opening_fault request ≡ None
    → script_along (fields ∷ []) ≡ opened_script request
script_along-one fields (Some (Segment size page id)) is fine = rw (← is) refl
script_along-one fields (Some (Hist name spec)) is fine = cc fine
script_along-one fields (Some (Add name value count)) is fine = cc fine
script_along-one fields (Some (Delta name)) is fine = cc fine
script_along-one fields None is fine = cc fine

-- What is returned for a script whose bytes are read whole, whatever they mean.
use Rattle.std.proofs.Common.{◌≡◌, ◌≤◌, ℕ, List, length, Option, Some, None, Result, Ok, Err, IfSome, IsErrAnd, MatchResult, sym, subst}
use Rattle.persist_report_core.specs.declared.script.Script as code
use Rattle.persist_report_core.specs.declared.script.fault.ScriptFault.{ScriptFault}
use Rattle.persist_report_core.specs.Script.{IsFaultOfBytes, Script, script_view}

-- what the result says of the bytes
abbrev pub Answers : (List ℕ → Result Script ScriptFault) → Result code.Script ScriptFault → List ℕ → Type 0
Answers meaning result bytes =
    MatchResult result (λ script. (length bytes ≤ 16777216) × (meaning bytes ≡ Ok (script_view script))) (IsFaultOfBytes (meaning bytes) bytes)

-- the bytes could not be read
pub unread : (known : Option (List ℕ)) (meaning : List ℕ → Result Script ScriptFault) (result : Result code.Script ScriptFault) (fault : ScriptFault)
    → IsErrAnd result (λ passed. passed ≡ fault) → IfSome known (λ bytes. (meant : Result Script ScriptFault) → IsFaultOfBytes meant bytes fault)
    → IfSome known (Answers meaning result)
unread None meaning result fault same cause = tt
unread (Some bytes) meaning (Ok script) fault same cause = absurd same
unread (Some bytes) meaning (Err passed) fault same cause = subst (IsFaultOfBytes (meaning bytes) bytes) (sym same) (cause (meaning bytes))

-- the bytes were read
pub read_whole : (known : Option (List ℕ)) (meaning : List ℕ → Result Script ScriptFault) (result : Result code.Script ScriptFault) (read : List ℕ)
    → IfSome known (λ bytes. (read ≡ bytes) × (length bytes ≤ 16777216))
    → MatchResult result (λ script. meaning read ≡ Ok (script_view script)) (IsFaultOfBytes (meaning read) read) → IfSome known (Answers meaning result)
read_whole None meaning result read same answer = tt
read_whole (Some bytes) meaning (Ok script) read same answer = (same.1, subst (λ (all : List ℕ). meaning all ≡ Ok (script_view script)) same.0 answer)
read_whole (Some bytes) meaning (Err fault) read same answer = subst (λ (all : List ℕ). IsFaultOfBytes (meaning all) all fault) same.0 answer

-- What a command returns for a script that was read, or was not.
use Rattle.std.proofs.Common.{◌≡◌, ◌≤◌, ℕ, List, length, Option, Some, None, Result, Ok, Err, refl, sym, subst}
use Rattle.std.specs.Prelude.{MatchResult, ⊤, IfErr, IfOk, IfSome}
use Rattle.persist_report_core.specs.declared.fault.CliFault.{CliFault}
use Rattle.persist_report_core.specs.declared.fault.CliFault.TheVariants as cli
use Rattle.persist_report_core.specs.declared.script.Script as code
use Rattle.persist_report_core.specs.declared.script.fault.ScriptFault.{ScriptFault}
use Rattle.persist_report_core.specs.declared.script.fault.ScriptFault.TheVariants as told
use Rattle.persist_report_core.specs.Script.{IsFaultOfBytes, Script, script_view}
use Rattle.persist_commands.specs.Run.{IsFaultOfScript, fault_of_script}

-- what the result says of the script's bytes
abbrev Answers : (List ℕ → Result Script ScriptFault) → Result code.Script ScriptFault → List ℕ → Type 0
Answers meaning read bytes =
    MatchResult read (λ script. (length bytes ≤ 16777216) × (meaning bytes ≡ Ok (script_view script))) (IsFaultOfBytes (meaning bytes) bytes)

-- it is the script of the bytes
pub taken_so : (remaining : Option (List ℕ)) (meaning : List ℕ → Result Script ScriptFault) (read : Result code.Script ScriptFault) (result : Result code.Script CliFault)
    → IfSome remaining (Answers meaning read) → IfOk result (λ script. read ≡ Ok script)
    → IfOk result (λ script. IfSome remaining (λ bytes. (length bytes ≤ 16777216) × (meaning bytes ≡ Ok (script_view script))))
taken_so remaining meaning read (Err fault) answer is = tt
taken_so None meaning read (Ok script) answer is = tt
taken_so (Some bytes) meaning read (Ok script) answer is = subst (λ (r : Result code.Script ScriptFault). Answers meaning r bytes) is answer

-- its fault has its cause in the bytes
fault_in : (fault : ScriptFault) (meaning : Result Script ScriptFault) (bytes : List ℕ) → IsFaultOfBytes meaning bytes fault → IsFaultOfScript meaning bytes (fault_of_script fault)
fault_in told.Read meaning bytes is = tt
fault_in told.TooLong meaning bytes is = is
fault_in told.NoMemory meaning bytes is = tt
fault_in (told.BadLine number) meaning bytes is =
    (is.0, subst (λ (m : Result Script ScriptFault). MatchResult m (λ script. ⊥) (λ why. cli.BadLine number ≡ fault_of_script why)) (sym is.1) refl)
fault_in (told.ZeroCount number) meaning bytes is =
    (is.0, subst (λ (m : Result Script ScriptFault). MatchResult m (λ script. ⊤) (λ why. fault_of_script (told.ZeroCount number) ≡ fault_of_script why)) (sym is.1) refl)
fault_in (told.NoUnits number) meaning bytes is =
    (is.0, subst (λ (m : Result Script ScriptFault). MatchResult m (λ script. ⊤) (λ why. fault_of_script (told.NoUnits number) ≡ fault_of_script why)) (sym is.1) refl)

pub untaken_so : (remaining : Option (List ℕ)) (meaning : List ℕ → Result Script ScriptFault) (read : Result code.Script ScriptFault) (result : Result code.Script CliFault)
    → IfSome remaining (Answers meaning read) → IfErr result (λ fault. (why : ScriptFault) × (read ≡ Err why) × (fault ≡ fault_of_script why))
    → IfErr result (λ fault. IfSome remaining (λ bytes. IsFaultOfScript (meaning bytes) bytes fault))
untaken_so remaining meaning read (Ok script) answer is = tt
untaken_so None meaning read (Err fault) answer is = tt
untaken_so (Some bytes) meaning read (Err fault) answer is =
    let (why, was, same) = is in
    subst (IsFaultOfScript (meaning bytes) bytes) (sym same)
    (fault_in why (meaning bytes) bytes (subst (λ (r : Result code.Script ScriptFault). Answers meaning r bytes) was answer))

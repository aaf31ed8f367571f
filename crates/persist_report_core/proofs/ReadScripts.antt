-- A script while its records are read.
use Rattle.std.proofs.Common.{◌≡◌, ◌≢◌, ◌∙◌, ℕ, ◌+◌, ◌<◌, ◌≤◌, List, [], ◌∷◌, ◌++◌, length, map, Option, Some, None, Ok, Err, append_assoc, ap, refl, sym, arith}
use Rattle.std.proofs.lemmas.List.{length-append, length-map}
use Rattle.csv.specs.Reading.{records, default_config, strip_bom}
use Rattle.persist_report_core.specs.declared.script.draft.Draft.{Draft}
use Rattle.persist_report_core.specs.declared.script.fault.ScriptFault.{ScriptFault}
use Rattle.persist_report_core.specs.declared.script.fault.ScriptFault.TheVariants.{Read, TooLong, NoMemory, BadLine, ZeroCount, NoUnits}
use Rattle.persist_report_core.specs.Request.{ScriptRequest, request_in}
use Rattle.persist_report_core.proofs.Requests.{script_along-one}
use Rattle.persist_report_core.specs.Script.{IsScriptFault, faults_of, hist_view, later_fault, opening_fault, script_along, script_from, script_of, script_view}
use Rattle.persist_report_core.specs.Draft.{IsDraft, IsExtended, IsDraftOpened, TellsFault, extended}
use Rattle.persist_report_core.proofs.ScriptRows.{fault_of-later, faultless-more, length-hists, script_along-more, script_from-fault, script_from-lawful}

-- a draft has these records, none of which has a fault
pub record IsRead (pool : ℕ) (rows : List (List (List ℕ))) (draft : Draft) (number : ℕ) : Type 0 where
  pub some : 0 < length rows
  pub numbered : number ≡ length rows
  pub faultless : faults_of pool rows ≡ []
  pub script_is : script_view draft.script ≡ script_along rows
  pub keeps : IsDraft draft
  pub pool_is : draft.pool ≡ pool

-- the first record
pub read-first : (pool : ℕ) (fields : List (List ℕ)) (request : Option ScriptRequest) (draft : Draft) → request ≡ request_in fields → IsDraftOpened pool request draft
    → IsRead pool (fields ∷ []) draft 1
read-first pool fields request draft is opened = record {
  some = omega arith;
  numbered = refl;
  faultless = faultless-more pool [] fields refl (ap opening_fault (sym is) ∙ opened.lawful);
  script_is = opened.script_is ∙ sym (script_along-one fields request is opened.lawful);
  keeps = opened.keeps;
  pool_is = opened.pool_is;
}

-- the fault of the next record, by the draft and by the records
next_fault : (pool : ℕ) (rows : List (List (List ℕ))) (draft : Draft) (number : ℕ) (fields : List (List ℕ)) (request : Option ScriptRequest) → IsRead pool rows draft number
    → request ≡ request_in fields
    → later_fault draft.pool (number + 1) (script_view draft.script) request ≡ later_fault pool (length rows + 1) (script_along rows) (request_in fields)
next_fault pool rows draft number fields request read is =
    λ i. later_fault (read.pool_is i) (read.numbered i + 1) (read.script_is i) (is i)

-- one more record
pub read-more : (pool : ℕ) (rows : List (List (List ℕ))) (old new : Draft) (number : ℕ) (fields : List (List ℕ)) (request : Option ScriptRequest)
    → IsRead pool rows old number → request ≡ request_in fields → IsExtended old new (number + 1) request → IsRead pool (rows ++ fields ∷ []) new (number + 1)
read-more pool rows old new number fields request read is more =
    let fine : later_fault pool (length rows + 1) (script_along rows) (request_in fields) ≡ None = sym (next_fault pool rows old number fields request read is) ∙ more.lawful in
    let longer = length-append rows (fields ∷ []) in record {
      some = omega arith;
      numbered = omega (arith, read.numbered);
      faultless = faultless-more pool rows fields read.faultless (fault_of-later pool rows fields read.some ∙ fine);
      script_is =
          more.script_is
          ∙ ((λ i. extended (read.numbered i + 1) (read.script_is i) (is i))
          ∙ sym (script_along-more pool rows fields read.some fine));
      keeps = more.keeps;
      pool_is = more.pool_is ∙ read.pool_is;
    }

-- a draft has fewer `hist` records than the number of the next record
pub few_hists : (pool : ℕ) (rows : List (List (List ℕ))) (draft : Draft) (number : ℕ) → IsRead pool rows draft number
    → length draft.script.hists.items < number + 1
few_hists pool rows draft number read =
    let same : length (map hist_view draft.script.hists.items) ≡ length (script_along rows).hists = ap (λ script. length script.hists) read.script_is in
    omega (arith, read.numbered, length-hists rows, length-map draft.script.hists.items hist_view)

-- ---- what is returned

-- no records at all
pub script_of-empty : (pool : ℕ) (bytes : List ℕ) → records default_config (strip_bom bytes) ≡ [] → script_of pool bytes ≡ Err (BadLine 1)
script_of-empty pool bytes none = ap (script_from pool) none

-- all records are read
pub script_of-read : (pool : ℕ) (bytes : List ℕ) (rows : List (List (List ℕ))) (draft : Draft) (number : ℕ) → records default_config (strip_bom bytes) ≡ rows
    → IsRead pool rows draft number → script_of pool bytes ≡ Ok (script_view draft.script)
script_of-read pool bytes rows draft number all read =
    ap (script_from pool) all ∙ (script_from-lawful pool rows read.some read.faultless ∙ ap Ok (sym read.script_is))

-- the first record has a fault
pub script_of-first : (pool : ℕ) (bytes : List ℕ) (fields : List (List ℕ)) (request : Option ScriptRequest) (more : List (List (List ℕ))) (fault : ScriptFault)
    → records default_config (strip_bom bytes) ≡ (fields ∷ []) ++ more → request ≡ request_in fields → opening_fault request ≡ Some fault → script_of pool bytes ≡ Err fault
script_of-first pool bytes fields request more fault all asked is =
    ap (script_from pool) all ∙ script_from-fault pool [] fields more fault refl (ap opening_fault (sym asked) ∙ is)

-- a later record has a fault
pub script_of-later : (pool : ℕ) (bytes : List ℕ) (rows : List (List (List ℕ))) (draft : Draft) (number : ℕ) (fields : List (List ℕ)) (request : Option ScriptRequest)
    (more : List (List (List ℕ))) (fault : ScriptFault)
    → IsRead pool rows draft number → records default_config (strip_bom bytes) ≡ (rows ++ fields ∷ []) ++ more → request ≡ request_in fields
    → later_fault draft.pool (number + 1) (script_view draft.script) request ≡ Some fault → script_of pool bytes ≡ Err fault
script_of-later pool bytes rows draft number fields request more fault read all asked is =
    ap (script_from pool) (all ∙ append_assoc rows (fields ∷ []) more)
    ∙ script_from-fault pool rows fields more fault read.faultless
    (fault_of-later pool rows fields read.some ∙ (sym (next_fault pool rows draft number fields request read asked) ∙ is))

-- a fault that is returned is that of the script
pub fault_told : (pool : ℕ) (bytes : List ℕ) (expected : Option ScriptFault) (fault : ScriptFault) → length bytes ≤ 16777216
    → ((other : ScriptFault) → expected ≡ Some other → script_of pool bytes ≡ Err other) → TellsFault expected fault → IsScriptFault pool bytes fault
fault_told pool bytes expected Read within answers told = tt
fault_told pool bytes expected TooLong within answers told = absurd told
fault_told pool bytes expected NoMemory within answers told = tt
fault_told pool bytes expected (BadLine number) within answers told = (within, answers (BadLine number) told)
fault_told pool bytes expected (ZeroCount number) within answers told = (within, answers (ZeroCount number) told)
fault_told pool bytes expected (NoUnits number) within answers told = (within, answers (NoUnits number) told)

-- a failed read is never returned
pub not_read : (expected : Option ScriptFault) (fault : ScriptFault) → TellsFault expected fault → fault ≢ Read
not_read expected Read told = absurd told
not_read expected TooLong told = absurd told
not_read expected NoMemory told = λ e. cc e
not_read expected (BadLine number) told = λ e. cc e
not_read expected (ZeroCount number) told = λ e. cc e
not_read expected (NoUnits number) told = λ e. cc e

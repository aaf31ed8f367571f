use Rattle.std.proofs.Common.{◌≡◌, ℕ, List, true, Result, Ok, Err, MatchResult, sym, ap, ◌∙◌, subst}
use Rattle.std.specs.Prelude.{Bool, if◌then◌else◌}
use Rattle.segment_image.specs.Shape.{Dimensions}
use Rattle.segment_image.specs.Watched.{watched_inner}
use Rattle.persist_report_core.specs.declared.script.Script as code
use Rattle.persist_report_core.specs.declared.script.fault.ScriptFault.{ScriptFault}
use Rattle.persist_report_core.specs.declared.script.fault.ScriptFault.TheVariants.{BadLine}
use Rattle.persist_report_core.specs.Request.{request_in}
use Rattle.persist_report_core.specs.Script.{IsFaultOfBytes, IsScriptFault, Script, first_record, names_segment, script_for, script_of, script_view}
use Rattle.persist_report_core.proofs.ReadWhole.{read_whole, unread}
use Rattle.persist_report_core.proofs.script.existing_segment.read_script_for.Goals as goal

-- a script that names the segment means what it means for any
named : (shape : Dimensions) (id pool : ℕ) (result : Result code.Script ScriptFault) (read : List ℕ) → names_segment shape id (request_in (first_record read)) ≡ true
    → MatchResult result (λ script. script_of pool read ≡ Ok (script_view script)) (IsScriptFault pool read)
    → MatchResult result (λ script. script_for shape id pool read ≡ Ok (script_view script)) (IsFaultOfBytes (script_for shape id pool read) read)
named shape id pool result read is answer =
    let same : script_for shape id pool read ≡ script_of pool read = ap (λ (b : Bool). if b then script_of pool read else Err (BadLine 1)) is in
    subst (λ (meant : Result Script ScriptFault). MatchResult result (λ script. meant ≡ Ok (script_view script)) (IsFaultOfBytes meant read)) (sym same) answer

pub returns-in_err-bytes-clause-answer : goal.returns-in_err-bytes-clause-answer
returns-in_err-bytes-clause-answer g c =
    unread (g.R.Read.remaining (watched_inner c.args.reader.now)) (script_for c.args.shape c.args.id c.args.pool) c.from_residual.result c.in_err-bytes.field-0.0
    c.from_residual.ensures.1 c.in_err-bytes.ensures.bytes

pub returns-clause-answer : goal.returns-clause-answer
returns-clause-answer g c =
    let items = c.in_ok-bytes.bytes.items in
    let first : c.in_ok-names.field-0 ≡ names_segment c.args.shape c.args.id (request_in (first_record items)) =
    c.in_ok-names.ensures ∙ ap (λ (l : List ℕ). names_segment c.args.shape c.args.id (request_in (first_record l))) c.deref.ensures.value in
    read_whole (g.R.Read.remaining (watched_inner c.args.reader.now)) (script_for c.args.shape c.args.id c.args.pool) c.script_in.result items c.in_ok-bytes.ensures.bytes
    (named c.args.shape c.args.id c.args.pool c.script_in.result items (sym first ∙ c.if-not-branch.false) (rw c.deref-2.ensures.value at c.script_in.ensures.answer))

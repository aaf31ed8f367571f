use Rattle.std.proofs.Common.{List, ℕ}
use Rattle.std.specs.Io.KnownBytes.{Appends}
use Rattle.segment_image.specs.Watched.{has_failed, watched_inner}
use Rattle.segment_image.specs.Words.{bytes_of_words}
use Rattle.std.proofs.lemmas.Result.{err_from_is_err_and}
use Rattle.persist_report_core.specs.Script.{script_for, script_view}
use Rattle.persist_commands.proofs.MergeOutcomes.{not_failed}
use Rattle.persist_commands.proofs.Outcomes.{adopted_has_only_opened, base_sound, both_read_late, resume_cause, resumed_so, run_cause, script_cause}
use Rattle.persist_commands.proofs.resuming.resume_script.Goals as goal

pub run_in-requires-clause-made : goal.run_in-requires-clause-made
run_in-requires-clause-made g c = λ κs within.
    let (image, adopted, head_is, words_are) = c.in_ok-based.ensures.base in
    adopted.opened.made

pub run_in-requires-clause-opened : goal.run_in-requires-clause-opened
run_in-requires-clause-opened g c = λ κs within.
    let (image, adopted, head_is, words_are) = c.in_ok-based.ensures.base in
    adopted_has_only_opened image c.in_ok-based.based.head c.in_ok-based.based.segment c.in_ok-based.based.opener adopted head_is

pub returns-in_err-script-clause-cause : goal.returns-in_err-script-clause-cause
returns-in_err-script-clause-cause g c =
    let (image, adopted, head_is, words_are) = c.in_ok-based.ensures.base in
    let p = err_from_is_err_and c.from_residual-in_err-script.result c.from_residual-in_err-script.ensures.1 in
    rw (p.1, p.2)
    (script_cause image c.in_ok-based.based.head c.in_ok-based.based.segment c.in_ok-based.based.opener adopted head_is
    (g.B.Read.remaining (watched_inner c.args.base.now)) (g.S.Read.remaining (watched_inner c.args.script.now)) c.units.result c.units.ensures words_are
    c.in_err-script.field-0.0 c.in_err-script.ensures.cause)

pub returns-in_err-script-clause-base_first : goal.returns-in_err-script-clause-base_first
returns-in_err-script-clause-base_first g c = λ failed.
    let (image, adopted, head_is, words_are) = c.in_ok-based.ensures.base in
    base_sound image c.in_ok-based.based.head c.in_ok-based.based.segment c.in_ok-based.based.opener adopted head_is
    (g.B.Read.remaining (watched_inner c.args.base.now)) (g.S.Read.remaining (watched_inner c.args.script.now)) c.units.result c.units.ensures words_are
    (has_failed c.read_base.new.reader)
    (not_failed c.read_base.result c.in_ok-based.based (has_failed c.read_base.new.reader) c.in_ok-based.was c.read_base.ensures.read)

pub returns-clause-recorded : goal.returns-clause-recorded
returns-clause-recorded g c =
    let (image, adopted, head_is, words_are) = c.in_ok-based.ensures.base in
    resumed_so image c.in_ok-based.based.head c.in_ok-based.based.segment c.in_ok-based.based.opener adopted head_is
    (g.B.Read.remaining (watched_inner c.args.base.now)) (g.S.Read.remaining (watched_inner c.args.script.now)) c.units.result c.units.ensures words_are
    c.run_in.result (script_view c.in_ok-script.script) c.args.workers
    (λ (words : List ℕ). Appends (g.I.Write.contents (watched_inner c.args.image_out.now)) (g.I.Write.contents (watched_inner c.run_in.new.image_out)) (bytes_of_words words))
    (λ (text : List ℕ). Appends (g.W.Write.contents (watched_inner c.args.report_out.now)) (g.W.Write.contents (watched_inner c.run_in.new.report_out)) text)
    c.in_ok-script.ensures.script c.run_in.ensures.recorded

pub returns-clause-cause : goal.returns-clause-cause
returns-clause-cause g c =
    let (image, adopted, head_is, words_are) = c.in_ok-based.ensures.base in
    resume_cause image c.in_ok-based.based.head c.in_ok-based.based.segment c.in_ok-based.based.opener adopted head_is
    (g.B.Read.remaining (watched_inner c.args.base.now)) (g.S.Read.remaining (watched_inner c.args.script.now)) c.units.result c.units.ensures words_are
    c.run_in.result
    (run_cause c.run_in.result (g.S.Read.remaining (watched_inner c.args.script.now))
    (script_for c.in_ok-based.based.head.shape c.in_ok-based.based.head.id c.units.result) (script_view c.in_ok-script.script) c.run_in.ensures.late c.in_ok-script.ensures.script)

pub returns-clause-read : goal.returns-clause-read
returns-clause-read g c =
    both_read_late c.run_in.result (has_failed c.read_base.new.reader) (has_failed c.take_script_for.new.reader) c.run_in.ensures.late
    (not_failed c.read_base.result c.in_ok-based.based (has_failed c.read_base.new.reader) c.in_ok-based.was c.read_base.ensures.read)
    (not_failed c.take_script_for.result c.in_ok-script.script (has_failed c.take_script_for.new.reader) c.in_ok-script.was c.take_script_for.ensures.read)

pub returns-clause-base_first : goal.returns-clause-base_first
returns-clause-base_first g c = λ failed.
    let (image, adopted, head_is, words_are) = c.in_ok-based.ensures.base in
    base_sound image c.in_ok-based.based.head c.in_ok-based.based.segment c.in_ok-based.based.opener adopted head_is
    (g.B.Read.remaining (watched_inner c.args.base.now)) (g.S.Read.remaining (watched_inner c.args.script.now)) c.units.result c.units.ensures words_are
    (has_failed c.read_base.new.reader)
    (not_failed c.read_base.result c.in_ok-based.based (has_failed c.read_base.new.reader) c.in_ok-based.was c.read_base.ensures.read)

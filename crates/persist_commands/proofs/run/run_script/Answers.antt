use Rattle.std.proofs.Common.{List, ℕ}
use Rattle.std.specs.Io.KnownBytes.{Appends}
use Rattle.segment_image.specs.Watched.{has_failed, watched_inner}
use Rattle.segment_image.specs.Words.{bytes_of_words}
use Rattle.persist_report_core.specs.Script.{script_of, script_view}
use Rattle.persist_commands.proofs.MergeOutcomes.{not_failed}
use Rattle.persist_commands.proofs.Outcomes.{new_has_only_opened, reads_late, run_cause, run_so}
use Rattle.persist_commands.proofs.run.run_script.Goals as goal

pub run_in-requires-clause-opened : goal.run_in-requires-clause-opened
run_in-requires-clause-opened g c = λ κs within.
    new_has_only_opened (script_view c.in_ok-script.script) c.in_ok-made.made.0 c.in_ok-made.made.1 c.in_ok-made.ensures.made

pub returns-clause-recorded : goal.returns-clause-recorded
returns-clause-recorded g c =
    run_so c.run_in.result (g.S.Read.remaining (watched_inner c.args.script.now)) (script_view c.in_ok-script.script) c.args.workers c.in_ok-made.made.0 c.in_ok-made.made.1
    (λ (words : List ℕ). Appends (g.I.Write.contents (watched_inner c.args.image_out.now)) (g.I.Write.contents (watched_inner c.run_in.new.image_out)) (bytes_of_words words))
    (λ (text : List ℕ). Appends (g.W.Write.contents (watched_inner c.args.report_out.now)) (g.W.Write.contents (watched_inner c.run_in.new.report_out)) text)
    c.in_ok-made.ensures.made c.in_ok-script.ensures.script c.run_in.ensures.recorded

pub returns-clause-cause : goal.returns-clause-cause
returns-clause-cause g c =
    run_cause c.run_in.result (g.S.Read.remaining (watched_inner c.args.script.now)) (script_of 4294967295) (script_view c.in_ok-script.script) c.run_in.ensures.late
    c.in_ok-script.ensures.script

pub returns-clause-read : goal.returns-clause-read
returns-clause-read g c =
    reads_late c.run_in.result (has_failed c.take_script.new.reader) c.run_in.ensures.late
    (not_failed c.take_script.result c.in_ok-script.script (has_failed c.take_script.new.reader) c.in_ok-script.was c.take_script.ensures.read)

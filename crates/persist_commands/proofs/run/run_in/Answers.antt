use Rattle.std.proofs.Common.{List, ℕ, OnOk, subst}
use Rattle.std.specs.Io.KnownBytes.{Appends}
use Rattle.segment_image.specs.Watched.{watched_inner}
use Rattle.segment_image.specs.Words.{bytes_of_words}
use Rattle.live_segment.specs.Holders.{view_of_opener}
use Rattle.persist_report_core.specs.Script.{script_view}
use Rattle.persist_commands.proofs.Outcomes.{wrote_so}
use Rattle.persist_commands.proofs.run.run_in.Goals as goal

pub returns-clause-recorded : goal.returns-clause-recorded
returns-clause-recorded g c =
    wrote_so c.write_both.result c.args.segment.setting (view_of_opener c.args.opener) (script_view c.args.script.now) c.args.workers c.in_ok-image.image c.words.result.now
    c.words-2.result.now c.in_ok-text.text.items
    (λ (words : List ℕ). Appends (g.I.Write.contents (watched_inner c.args.image_out.now)) (g.I.Write.contents (watched_inner c.write_both.new.image_out)) (bytes_of_words words))
    (λ (text : List ℕ). Appends (g.W.Write.contents (watched_inner c.args.report_out.now)) (g.W.Write.contents (watched_inner c.write_both.new.report_out)) text)
    c.write_both.ensures.image
    (subst (λ (t : List ℕ). OnOk c.write_both.result (Appends (g.W.Write.contents (watched_inner c.args.report_out.now)) (g.W.Write.contents (watched_inner c.write_both.new.report_out)) t)) c.deref.ensures.value
    c.write_both.ensures.report)
    c.in_ok-image.ensures.image c.in_ok-text.ensures.text c.words.ensures c.words-2.ensures

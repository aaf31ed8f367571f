use Rattle.segment_image.specs.Watched.{watched_inner}
use Rattle.persist_report_core.specs.Script.{script_of}
use Rattle.persist_report_core.proofs.ReadWhole.{read_whole, unread}
use Rattle.persist_report_core.proofs.script.reading.read_script.Goals as goal

pub returns-in_err-bytes-clause-answer : goal.returns-in_err-bytes-clause-answer
returns-in_err-bytes-clause-answer g c =
    unread (g.R.Read.remaining (watched_inner c.args.reader.now)) (script_of c.args.pool) c.from_residual.result c.in_err-bytes.field-0.0 c.from_residual.ensures.1 c.in_err-bytes.ensures.bytes

pub returns-clause-answer : goal.returns-clause-answer
returns-clause-answer g c =
    read_whole (g.R.Read.remaining (watched_inner c.args.reader.now)) (script_of c.args.pool) c.script_in.result c.in_ok-bytes.bytes.items c.in_ok-bytes.ensures.bytes
    (rw c.deref.ensures.value at c.script_in.ensures.answer)

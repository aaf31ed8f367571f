use Rattle.segment_image.specs.Watched.{watched_inner}
use Rattle.persist_report_core.specs.Script.{script_for}
use Rattle.persist_commands.proofs.TakenScripts.{taken_so, untaken_so}
use Rattle.persist_commands.proofs.scripts.take_script_for.Goals as goal

pub returns-clause-script : goal.returns-clause-script
returns-clause-script g c =
    taken_so (g.S.Read.remaining (watched_inner c.args.reader.now)) (script_for c.args.head.now.shape c.args.head.now.id c.args.units) c.read_script_for.result c.taken.result
    c.read_script_for.ensures.answer c.taken.ensures.script

pub returns-clause-cause : goal.returns-clause-cause
returns-clause-cause g c =
    untaken_so (g.S.Read.remaining (watched_inner c.args.reader.now)) (script_for c.args.head.now.shape c.args.head.now.id c.args.units) c.read_script_for.result c.taken.result
    c.read_script_for.ensures.answer c.taken.ensures.fault

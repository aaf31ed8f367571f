use Rattle.segment_image.specs.Watched.{watched_inner}
use Rattle.persist_report_core.specs.Script.{script_of}
use Rattle.persist_commands.proofs.TakenScripts.{taken_so, untaken_so}
use Rattle.persist_commands.proofs.scripts.take_script.Goals as goal

pub returns-clause-script : goal.returns-clause-script
returns-clause-script g c =
    taken_so (g.S.Read.remaining (watched_inner c.args.reader.now)) (script_of 4294967295) c.read_script.result c.taken.result c.read_script.ensures.answer c.taken.ensures.script

pub returns-clause-cause : goal.returns-clause-cause
returns-clause-cause g c =
    untaken_so (g.S.Read.remaining (watched_inner c.args.reader.now)) (script_of 4294967295) c.read_script.result c.taken.result c.read_script.ensures.answer c.taken.ensures.fault

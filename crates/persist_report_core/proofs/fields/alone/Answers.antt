use Rattle.std.proofs.Common.{sym, arith}
use Rattle.csv.specs.Records.{fields_of}
use Rattle.persist_report_core.proofs.FieldLemmas.{alone-more}
use Rattle.persist_report_core.proofs.fields.alone.Goals as goal

pub returns-else-len-start : goal.returns-else-len-start
returns-else-len-start c = sym (alone-more c.args.spec (fields_of c.args.fields.now) c.args.start (omega arith))

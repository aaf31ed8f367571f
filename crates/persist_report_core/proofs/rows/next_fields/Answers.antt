use Rattle.csv.specs.Records.{fields_of}
use Rattle.persist_report_core.proofs.Records.{next_read}
use Rattle.persist_report_core.proofs.rows.next_fields.Goals as goal

pub returns-in-Ok-clause-next : goal.returns-in-Ok-clause-next
returns-in-Ok-clause-next c text rows behind =
    next_read text rows c.args.reader.now c.read_byte_record.new.self c.in-Ok.found (fields_of c.read_byte_record.new.row) behind
    (c.in-Ok.ensures.reads behind.plain c.requires.ready)

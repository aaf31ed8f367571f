use Rattle.std.proofs.Common.{◌∙◌, ap, sym, arith}
use Rattle.csv.specs.Records.{fields_of}
use Rattle.persist_report_core.specs.Request.{delta_in}
use Rattle.persist_report_core.proofs.FieldLemmas.{field_at-missing, one_field}
use Rattle.persist_report_core.proofs.script.request.read_delta.Goals as goal

pub returns-in_err-name : goal.returns-in_err-name
returns-in_err-name c = field_at-missing (fields_of c.args.fields.now) 1 (omega (arith, c.len.ensures, c.if-len-ne2.false)) (sym c.in_err-name.ensures.value)

pub returns : goal.returns
returns c = sym (ap delta_in (one_field (fields_of c.args.fields.now) c.in_ok-name.name.now (sym c.len.ensures ∙ c.if-len-ne2.false) (sym c.in_ok-name.ensures.value)))

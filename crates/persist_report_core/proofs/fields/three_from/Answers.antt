use Rattle.std.proofs.Common.{sym, arith}
use Rattle.csv.specs.Records.{fields_of}
use Rattle.persist_report_core.proofs.FieldLemmas.{field_at-missing, three_fields}
use Rattle.persist_report_core.proofs.fields.three_from.Goals as goal

pub returns-in_err-first-clause-none : goal.returns-in_err-first-clause-none
returns-in_err-first-clause-none c =
    field_at-missing (fields_of c.args.fields.now) c.args.start (omega arith) (sym c.in_err-first.ensures.value)

pub returns-in_err-second-clause-none : goal.returns-in_err-second-clause-none
returns-in_err-second-clause-none c =
    field_at-missing (fields_of c.args.fields.now) _ (omega arith) (sym c.in_err-second.ensures.value)

pub returns-in_err-third-clause-none : goal.returns-in_err-third-clause-none
returns-in_err-third-clause-none c =
    field_at-missing (fields_of c.args.fields.now) _ (omega arith) (sym c.in_err-third.ensures.value)

pub returns-clause-some : goal.returns-clause-some
returns-clause-some c =
    three_fields (fields_of c.args.fields.now) c.args.start c.in_ok-first.first.now c.in_ok-second.second.now c.in_ok-third.third.now (omega arith)
    (sym c.in_ok-first.ensures.value) (sym c.in_ok-second.ensures.value) (sym c.in_ok-third.ensures.value)

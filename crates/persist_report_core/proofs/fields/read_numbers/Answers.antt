use Rattle.std.proofs.Common.{◌∙◌, ◌+◌, ◌++◌, ap, drop, option_map, sym, arith}
use Rattle.csv.specs.Records.{fields_of}
use Rattle.persist_report_core.specs.Request.{numbers_in}
use Rattle.persist_report_core.proofs.FieldLemmas.{field_at-missing, numbers_in-none, numbers_in-more}
use Rattle.persist_report_core.proofs.fields.read_numbers.Goals as goal

pub returns-in_default : goal.returns-in_default
returns-in_default c = field_at-missing (fields_of c.args.fields.now) c.loop-i.i (omega arith) (sym c.in_default.ensures.value)

pub returns-in_default-unsigned_number : goal.returns-in_default-unsigned_number
returns-in_default-unsigned_number c =
    sym (
    c.loop-i.invariant
    ∙ numbers_in-none (fields_of c.args.fields.now) c.loop-i.i c.in-Some.field.now c.loop-i.values.items (sym c.in-Some.ensures.value)
    (sym c.unsigned_number.ensures ∙ c.in_default-unsigned_number.is)
    )

pub loop-i-preserved : goal.loop-i-preserved
loop-i-preserved c =
    c.loop-i.invariant
    ∙ (numbers_in-more (fields_of c.args.fields.now) c.loop-i.i c.in-Some.field.now c.loop-i.values.items c.in-Some-unsigned_number.value
    (sym c.in-Some.ensures.value) (sym c.unsigned_number.ensures ∙ c.in-Some-unsigned_number.is)
    ∙ ap (λ so_far. option_map (λ more. so_far ++ more) (numbers_in (drop (c.loop-i.i + 1) (fields_of c.args.fields.now)))) (sym c.in_ok-push.ensures.items))

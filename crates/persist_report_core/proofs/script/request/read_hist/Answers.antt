use Rattle.std.proofs.Common.{◌∙◌, ap, option_map, sym, arith}
use Rattle.csv.specs.Records.{fields_of}
use Rattle.persist_report_core.specs.Request.{Hist}
use Rattle.persist_report_core.proofs.FieldLemmas.{length-field_at, within-field_at, hist_in-few, hist_in-fields}
use Rattle.persist_report_core.proofs.script.request.read_hist.Goals as goal

pub returns-in_default : goal.returns-in_default
returns-in_default c =
    let few = length-field_at (fields_of c.args.fields.now) 1 (sym c.in_default.ensures.value) in
    sym (hist_in-few (fields_of c.args.fields.now) (omega arith))

pub returns-in_default-get : goal.returns-in_default-get
returns-in_default-get c =
    let few = length-field_at (fields_of c.args.fields.now) 2 (sym c.in_default-get.ensures.value) in
    sym (hist_in-few (fields_of c.args.fields.now) few)

pub read_spec-requires : goal.read_spec-requires
read_spec-requires c =
    let within = within-field_at (fields_of c.args.fields.now) 2 c.in-Some-get.kind.now (sym c.in-Some-get.ensures.value) in
    omega arith

pub returns-in-Some-2 : goal.returns-in-Some-2
returns-in-Some-2 c =
    ap (option_map (Hist c.in-Some.name.now)) (sym c.in-Some-2.is)
    ∙ sym (hist_in-fields (fields_of c.args.fields.now) c.in-Some.name.now c.in-Some-get.kind.now c.in_ok-spec.field-0
    (sym c.in-Some.ensures.value) (sym c.in-Some-get.ensures.value) c.in_ok-spec.ensures)

pub returns-in-None : goal.returns-in-None
returns-in-None c =
    ap (option_map (Hist c.in-Some.name.now)) (sym c.in-None.is)
    ∙ sym (hist_in-fields (fields_of c.args.fields.now) c.in-Some.name.now c.in-Some-get.kind.now c.in_ok-spec.field-0
    (sym c.in-Some.ensures.value) (sym c.in-Some-get.ensures.value) c.in_ok-spec.ensures)

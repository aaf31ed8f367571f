use Rattle.std.proofs.Common.{◌∙◌, Some, ap, sym, option_map, arith}
use Rattle.csv.specs.Records.{fields_of}
use Rattle.bucket_ranges.specs.declared.spec.Spec.TheVariants.{Custom}
use Rattle.persist_report_core.proofs.FieldLemmas.{custom_in-more}
use Rattle.persist_report_core.proofs.fields.read_custom.Goals as goal

pub returns-in-Some : goal.returns-in-Some
returns-in-Some c =
    ap (λ values. Some (Custom values)) c.from.ensures
    ∙ ap (λ numbers. option_map Custom (option_map (λ values. values.items) numbers)) (sym c.in-Some.is)
    ∙ ap (option_map Custom) c.in_ok-values.ensures
    ∙ sym (custom_in-more (fields_of c.args.fields.now) c.args.start (omega arith))

use Rattle.std.proofs.Common.{◌∙◌, ◌+◌, ◌++◌, ◌∷◌, [], drop, append_assoc, ap, sym, arith}
use Rattle.std.proofs.lemmas.List.{map-append}
use Rattle.csv.specs.Records.{fields_of}
use Rattle.persist_report_core.proofs.FieldLemmas.{drop-field_at, field_at-missing}
use Rattle.schedule.specs.Fields.{texts}
use Rattle.schedule.proofs.fields.list_fields.Goals as goal
use Rattle.schedule.proofs.fields.list_fields.Goals.{in-Some+in_ok-push, in_default}

pub loop-i-preserved : goal.loop-i-preserved
loop-i-preserved c = elim c.match-get.branch [
  | in-Some+in_ok-push w ↦
      ap (λ fields. texts fields.items ++ drop (c.loop-i.i + 1) (fields_of c.args.csv_record.now)) w.fields-is
      ∙ ap (λ items. texts items ++ drop (c.loop-i.i + 1) (fields_of c.args.csv_record.now)) w.in_ok-push.ensures.items
      ∙ ap (λ front. front ++ drop (c.loop-i.i + 1) (fields_of c.args.csv_record.now)) (map-append (λ field. field.now) c.loop-i.fields.items (w.in-Some.field ∷ []))
      ∙ append_assoc (texts c.loop-i.fields.items) (w.in-Some.field.now ∷ []) (drop (c.loop-i.i + 1) (fields_of c.args.csv_record.now))
      ∙ ap (λ behind. texts c.loop-i.fields.items ++ behind) (sym (drop-field_at (fields_of c.args.csv_record.now) c.loop-i.i w.in-Some.field.now (sym w.in-Some.ensures.value)))
      ∙ c.loop-i.invariant
  | in_default w ↦ field_at-missing (fields_of c.args.csv_record.now) c.loop-i.i (omega (arith, c.loop-i-test.true, c.len-i-end.ensures)) (sym w.in_default.ensures.value)
]

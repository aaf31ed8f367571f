use Rattle.std.proofs.Common.{◌∷◌}
use Rattle.reading_texts.proofs.Adding.{written-all}
use Rattle.sum_texts.proofs.writing.put_fields.Goals as goal

pub returns : goal.returns
returns c = written-all (λ field. 44 ∷ field) (λ field. field.now) c.args.fields.now c.loop-field.field-index c.args.text.now.items c.loop-field-test.false c.loop-field.invariant

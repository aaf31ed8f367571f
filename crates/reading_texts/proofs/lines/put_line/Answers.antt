use Rattle.std.proofs.Common.{◌∷◌, map}
use Rattle.reading_texts.proofs.Adding.{written-all, line-written}
use Rattle.reading_texts.proofs.lines.put_line.Goals as goal

pub returns : goal.returns
returns c =
    let others = written-all (λ field. 44 ∷ field) (λ field. field.now) c.args.others.now c.loop-field.field-index c.extend_from_slice.new.self.items c.loop-field-test.false c.loop-field.invariant in
    line-written c.args.text.now.items c.args.first.now (map (λ field. field.now) c.args.others.now) c.in_ok-extend_from_slice.ensures.items others c.in_ok-push-2.ensures.items

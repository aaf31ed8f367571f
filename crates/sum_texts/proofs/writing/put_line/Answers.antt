use Rattle.std.proofs.Common.{map}
use Rattle.reading_texts.proofs.Adding.{line-written}
use Rattle.sum_texts.proofs.writing.put_line.Goals as goal

pub returns : goal.returns
returns c =
    line-written c.args.text.now.items c.args.word.now (map (λ field. field.now) c.args.others.now) c.in_ok-extend_from_slice.ensures.items c.in_ok-put_fields.ensures c.in_ok-push.ensures.items

use Rattle.std.proofs.Common.{codes}
use Rattle.reading_sums.specs.Views.{part_of}
use Rattle.sum_texts.specs.Lines.{hist_front, spec_numbers}
use Rattle.sum_texts.proofs.Writings.{numbers_written}
use Rattle.sum_texts.proofs.writing.put_hist.Goals as goal

pub returns : goal.returns
returns c =
    numbers_written c.args.text.now.items (codes "hist") (hist_front (part_of c.args.hist.now)) (spec_numbers c.args.hist.now.spec)
    c.in_ok-extend_from_slice.ensures.items c.in_ok-put_hist_front.ensures c.in_ok-put_spec_numbers.ensures c.in_ok-push.ensures.items

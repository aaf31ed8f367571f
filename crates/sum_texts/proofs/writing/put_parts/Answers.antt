use Rattle.std.specs.List.{flat_map}
use Rattle.reading_sums.specs.Views.{part_of}
use Rattle.reading_texts.proofs.Adding.{written-all}
use Rattle.sum_texts.specs.Lines.{line_text, part_lines}
use Rattle.sum_texts.proofs.writing.put_parts.Goals as goal

pub returns : goal.returns
returns c = written-all (λ part. flat_map line_text (part_lines part)) part_of c.args.hists.now c.loop-hist.hist-index c.args.text.now.items c.loop-hist-test.false c.loop-hist.invariant

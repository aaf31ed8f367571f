use Rattle.reading_texts.specs.Labels.{label_view}
use Rattle.reading_texts.specs.Exporting.{next_label_text}
use Rattle.reading_texts.proofs.Adding.{written-all}
use Rattle.reading_texts.proofs.labels.put_labels.Goals as goal

pub returns : goal.returns
returns c = written-all next_label_text label_view c.args.labels.now c.loop-label.label-index c.args.text.now.items c.loop-label-test.false c.loop-label.invariant

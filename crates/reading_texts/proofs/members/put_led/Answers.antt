use Rattle.reading_texts.specs.Labels.{label_view}
use Rattle.reading_texts.specs.Families.{led_label_text}
use Rattle.reading_texts.proofs.Adding.{written-all}
use Rattle.reading_texts.proofs.members.put_led.Goals as goal

pub returns : goal.returns
returns c = written-all led_label_text label_view c.args.labels.now c.loop-label.label-index c.args.text.now.items c.loop-label-test.false c.loop-label.invariant

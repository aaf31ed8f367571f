-- The text of the subject of a sum is that of the sum.
use Rattle.image_reader.specs.Views.{reading_view}
use Rattle.povundiri_c.proofs.Summing.{said_of_sum}
use Rattle.povundiri_c.proofs.sums.text_of_sums.Goals as goal

pub returns-in-Ok-Some : goal.returns-in-Ok-Some
returns-in-Ok-Some c =
    said_of_sum c.args.asked c.args.sums.now c.in-Ok-Some.subject.head (reading_view c.in-Ok-Some.subject.reading) c.text_of.result
    (rw c.in-Ok-Some.field-0-is at c.in-Ok-Some.ensures.sum) c.in-Ok-Some.subject.readable c.text_of.ensures.text c.text_of.ensures.status

use Rattle.image_reader.specs.Views.{reading_view}
use Rattle.text_forms.proofs.Pages.{page_of_said}
use Rattle.text_forms.proofs.headed.page_in.Goals as goal

pub returns-in-Sum : goal.returns-in-Sum
returns-in-Sum c =
    page_of_said c.args.source c.args.drawn.now c.in-Sum.said c.args.subject.now.head c.sum_head.result (reading_view c.args.subject.now.reading) c.page_of_sum.result
    c.in-Sum.is c.sum_head.ensures c.page_of_sum.ensures

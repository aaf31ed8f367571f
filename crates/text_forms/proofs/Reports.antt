-- The report of the subject of a sum is that of the sum.
use Rattle.std.proofs.Common.{◌++◌, ◌∙◌, ℕ, List, ap, subst}
use Rattle.bucket_ranges.specs.Reading.{Reading}
use Rattle.reading_sums.specs.declared.notes.Notes.{Notes}
use Rattle.reading_sums.specs.declared.sums.Sums.{Sums}
use Rattle.sum_texts.specs.Endings.{ending_text, IsSumReport}
use Rattle.text_forms.specs.declared.head.Head.{Head}
use Rattle.text_forms.specs.Forms.{IsReportIn, IsReportOfSum}
use Rattle.text_forms.specs.Subjects.{IsSubjectOfSum}

pub report_of_sum : (sums : Sums) (left : ℕ) (head : Head) (reading : Reading) → IsSubjectOfSum sums left head reading → (text : List ℕ) → IsReportIn head reading text → IsSumReport sums left text
report_of_sum sums left head reading of text is =
    let written : IsReportOfSum of.said reading text = subst (λ (one : Head). IsReportIn one reading text) of.head_is is in
    record {
      reading = reading;
      others = of.said.others.items;
      report = written.report;
      of_sum = of.reading_is;
      told = of.said_is.others;
      written = written.written;
      behind = written.behind
          ∙ ap (λ (notes : Notes). written.report ++ ending_text notes.images of.said.others.items of.said.left) of.said_is.notes
          ∙ ap (λ (n : ℕ). written.report ++ ending_text sums.notes.images of.said.others.items n) of.said_is.left_is;
    }

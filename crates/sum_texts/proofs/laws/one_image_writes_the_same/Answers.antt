-- The reading of the sum is that of the image except for the references, which no text shows.
use Rattle.sum_texts.proofs.OneImage.{is-the-same, sum-report-same, table-same, export-same, families-same, clash-same}
use Rattle.sum_texts.proofs.laws.one_image_writes_the_same.Goals as goal

pub returns-clause-report : goal.returns-clause-report
returns-clause-report c = sum-report-same

pub returns-clause-table : goal.returns-clause-table
returns-clause-table c = λ number reading sums one no_bad no_stop shown of.
    table-same reading shown (is-the-same number reading sums one no_bad no_stop shown of)

pub returns-clause-export : goal.returns-clause-export
returns-clause-export c = λ number reading sums one no_bad no_stop shown of.
    export-same reading shown (is-the-same number reading sums one no_bad no_stop shown of)

pub returns-clause-families : goal.returns-clause-families
returns-clause-families c = λ number reading sums one no_bad no_stop shown of.
    families-same reading shown (is-the-same number reading sums one no_bad no_stop shown of)

pub returns-clause-clash : goal.returns-clause-clash
returns-clause-clash c = λ number reading sums one no_bad no_stop shown of.
    clash-same reading shown (is-the-same number reading sums one no_bad no_stop shown of)

use Rattle.std.proofs.Common.{◌∙◌, ap, arith}
use Rattle.std.proofs.lemmas.Option.{IfSome_then}
use Rattle.reading_sums.specs.Views.{part_of}
use Rattle.sum_texts.specs.Lines.{hist_fields}
use Rattle.sum_texts.specs.Runs.{bytes_of}
use Rattle.sum_texts.proofs.Splits.{said, unsaid}
use Rattle.sum_texts.proofs.LineLacks.{lacks_hist, no_comma}
use Rattle.sum_texts.proofs.lines.hist_at.Goals as goal

pub returns-clause-found : goal.returns-clause-found
returns-clause-found c = IfSome_then c.in_ok-hist.hist c.in_ok-hist.ensures.found (λ hist. said c.args.line.now _ (hist_fields (part_of hist)) (ap bytes_of c.deref.ensures.value ∙ c.in_ok-fields.ensures))

pub returns-clause-only : goal.returns-clause-only
returns-clause-only c part fits is = c.in_ok-hist.ensures.only part fits (unsaid c.args.line.now _ _ _ (lacks_hist 44 part (omega arith) (no_comma part.name fits.name) fits) (ap bytes_of c.deref.ensures.value ∙ c.in_ok-fields.ensures) is)

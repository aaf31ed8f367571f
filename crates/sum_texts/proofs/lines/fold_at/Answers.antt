use Rattle.std.proofs.Common.{◌∙◌, ap, arith}
use Rattle.std.proofs.lemmas.Option.{IfSome_then}
use Rattle.sum_texts.specs.Lines.{fold_fields}
use Rattle.sum_texts.specs.Runs.{bytes_of}
use Rattle.sum_texts.proofs.Splits.{said, unsaid}
use Rattle.sum_texts.proofs.LineLacks.{lacks_fold}
use Rattle.sum_texts.proofs.lines.fold_at.Goals as goal

pub returns-clause-found : goal.returns-clause-found
returns-clause-found c = IfSome_then c.fold_in.result c.fold_in.ensures.found (λ serial. said c.args.line.now _ (fold_fields serial) (ap bytes_of c.deref.ensures.value ∙ c.in_ok-fields.ensures))

pub returns-clause-only : goal.returns-clause-only
returns-clause-only c serial fits is = c.fold_in.ensures.only serial fits (unsaid c.args.line.now _ _ _ (lacks_fold 44 serial (omega arith) fits) (ap bytes_of c.deref.ensures.value ∙ c.in_ok-fields.ensures) is)

use Rattle.std.proofs.Common.{◌∙◌, ap, arith}
use Rattle.std.proofs.lemmas.Option.{IfSome_then}
use Rattle.sum_texts.specs.Lines.{end_fields}
use Rattle.sum_texts.specs.Runs.{bytes_of}
use Rattle.sum_texts.proofs.Splits.{said, unsaid}
use Rattle.sum_texts.proofs.LineLacks.{lacks_end}
use Rattle.sum_texts.proofs.lines.end_at.Goals as goal

pub returns-clause-found : goal.returns-clause-found
returns-clause-found c = IfSome_then c.end_in.result c.end_in.ensures.found (λ parts. said c.args.line.now _ (end_fields parts) (ap bytes_of c.deref.ensures.value ∙ c.in_ok-fields.ensures))

pub returns-clause-only : goal.returns-clause-only
returns-clause-only c parts fits is = c.end_in.ensures.only parts fits (unsaid c.args.line.now _ _ _ (lacks_end 44 parts (omega arith) fits) (ap bytes_of c.deref.ensures.value ∙ c.in_ok-fields.ensures) is)

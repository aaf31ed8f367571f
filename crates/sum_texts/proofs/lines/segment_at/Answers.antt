use Rattle.std.proofs.Common.{◌∙◌, ap, arith}
use Rattle.std.proofs.lemmas.Option.{IfSome_then}
use Rattle.sum_texts.specs.Lines.{segment_fields}
use Rattle.sum_texts.specs.Runs.{bytes_of}
use Rattle.sum_texts.proofs.Splits.{said, unsaid}
use Rattle.sum_texts.proofs.LineLacks.{lacks_segment}
use Rattle.sum_texts.proofs.lines.segment_at.Goals as goal

pub returns-clause-found : goal.returns-clause-found
returns-clause-found c = IfSome_then c.segment_in.result c.segment_in.ensures.found (λ segment. said c.args.line.now _ (segment_fields segment) (ap bytes_of c.deref.ensures.value ∙ c.in_ok-fields.ensures))

pub returns-clause-only : goal.returns-clause-only
returns-clause-only c segment fits is = c.segment_in.ensures.only segment fits (unsaid c.args.line.now _ _ _ (lacks_segment 44 segment (omega arith) fits) (ap bytes_of c.deref.ensures.value ∙ c.in_ok-fields.ensures) is)

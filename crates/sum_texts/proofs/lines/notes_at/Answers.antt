use Rattle.std.proofs.Common.{◌∙◌, ap, arith}
use Rattle.std.proofs.lemmas.Option.{IfSome_then}
use Rattle.sum_texts.specs.Lines.{notes_fields}
use Rattle.sum_texts.specs.Runs.{bytes_of}
use Rattle.sum_texts.proofs.Splits.{said, unsaid}
use Rattle.sum_texts.proofs.LineLacks.{lacks_notes}
use Rattle.sum_texts.proofs.lines.notes_at.Goals as goal

pub returns-clause-found : goal.returns-clause-found
returns-clause-found c = IfSome_then c.notes_in.result c.notes_in.ensures.found (λ notes. said c.args.line.now _ (notes_fields notes) (ap bytes_of c.deref.ensures.value ∙ c.in_ok-fields.ensures))

pub returns-clause-only : goal.returns-clause-only
returns-clause-only c notes fits is = c.notes_in.ensures.only notes fits (unsaid c.args.line.now _ _ _ (lacks_notes 44 notes (omega arith) fits) (ap bytes_of c.deref.ensures.value ∙ c.in_ok-fields.ensures) is)

use Rattle.std.proofs.Common.{◌∙◌, ap, arith}
use Rattle.std.proofs.lemmas.Option.{IfSome_then}
use Rattle.sum_texts.specs.Lines.{key_fields}
use Rattle.sum_texts.specs.Runs.{bytes_of}
use Rattle.sum_texts.proofs.Splits.{said, unsaid}
use Rattle.sum_texts.proofs.LineLacks.{lacks_key}
use Rattle.sum_texts.proofs.lines.key_at.Goals as goal

pub returns-clause-found : goal.returns-clause-found
returns-clause-found c = IfSome_then c.key_in.result c.key_in.ensures.found (λ key. said c.args.line.now _ (key_fields key) (ap bytes_of c.deref.ensures.value ∙ c.in_ok-fields.ensures))

pub returns-clause-only : goal.returns-clause-only
returns-clause-only c key fits is = c.key_in.ensures.only key fits (unsaid c.args.line.now _ _ _ (lacks_key 44 key (omega arith) fits) (ap bytes_of c.deref.ensures.value ∙ c.in_ok-fields.ensures) is)

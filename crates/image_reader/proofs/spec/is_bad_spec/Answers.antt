use Rattle.std.proofs.Common.{sym, ◌∙◌}
use Rattle.image_reader.proofs.SpecWords.{has_spec-buckets, is_bad_spec-lawful}
use Rattle.image_reader.proofs.spec.is_bad_spec.Goals as goal

pub returns-clause-value : goal.returns-clause-value
returns-clause-value c =
    sym (is_bad_spec-lawful c.args.words.now c.args.page c.args.at (sym c.has_spec.ensures.value ∙ c.if-not-has_spec.false))

pub returns-clause-buckets : goal.returns-clause-buckets
returns-clause-buckets c fits =
    has_spec-buckets c.args.words.now c.args.at (sym c.has_spec.ensures.value ∙ c.if-not-has_spec.false)

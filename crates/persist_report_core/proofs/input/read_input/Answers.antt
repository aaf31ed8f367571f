use Rattle.std.proofs.Common.{rules, arith}
use Rattle.std.proofs.lemmas.Result.{err_from_is_err_and}
use Rattle.segment_image.specs.Watched.{watched_inner}
use Rattle.persist_report_core.proofs.Inputs.{cause_after}
use Rattle.persist_report_core.proofs.input.read_input.Goals as goal

pub returns-in_err-read_more_words-clause-cause : goal.returns-in_err-read_more_words-clause-cause
returns-in_err-read_more_words-clause-cause g c =
    let p = err_from_is_err_and c.from_residual-in_err-read_more_words.result c.from_residual-in_err-read_more_words.ensures.1 in
    rw (p.1, p.2)
    (cause_after (g.R.Read.remaining (watched_inner c.args.reader.now)) (g.R.Read.remaining (watched_inner c.fill.new.reader)) _ c.push_words.new.words.items
    c.most_words-most.result c.in_err-read_more_words.field-0.0 c.in_ok-came.ensures.bytes (search rules) (search rules) (search rules) (search rules) (search rules))

use Rattle.std.proofs.Common.{◌∙◌, sym}
use Rattle.std.proofs.lemmas.Bool.{eqb-true}
use Rattle.recording_folders.proofs.Sound.{reading_counts_once}
use Rattle.recording_folders.proofs.reading.stands.Goals as goal

pub returns-clause-once : goal.returns-clause-once
returns-clause-once c first listed last sound before after first_is last_is is =
    reading_counts_once first listed last sound before after (first_is ∙ eqb-true c.args.before c.args.after is ∙ sym last_is)

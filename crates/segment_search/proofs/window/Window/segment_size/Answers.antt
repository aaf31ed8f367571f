use Rattle.std.proofs.Common.{rules, ◌≢◌, ◌⊎◌, inl, inr, ◌<◌}
use Rattle.segment_image.specs.Words.{word_at}
use Rattle.segment_image.specs.Watched.{watched_inner}
use Rattle.segment_search.proofs.Headers.{none-ahead_first, none-ahead_short, none-ahead_faulty}
use Rattle.segment_search.proofs.window.Window.segment_size.Goals as goal
use Rattle.segment_search.proofs.window.Window.segment_size.Goals.{then-words-ne-SEGMENT_COOKIE-via-then-words-ne-SEGMENT_COOKIE, then-words-ne-SEGMENT_COOKIE-via-else-words-ne-SEGMENT_COOKIE+then-size-gt-MAX_SIZE}

pub returns-then-words-ne-SEGMENT_COOKIE-clause-none : goal.returns-then-words-ne-SEGMENT_COOKIE-clause-none
returns-then-words-ne-SEGMENT_COOKIE-clause-none g c =
    let other : (word_at c.args.self.now 0 ≢ 1082328540) ⊎ (1048576 < word_at c.args.self.now 2) =
    elim c.then-words-ne-SEGMENT_COOKIE.branch [
      | then-words-ne-SEGMENT_COOKIE-via-then-words-ne-SEGMENT_COOKIE w ↦ inl (search rules)
      | then-words-ne-SEGMENT_COOKIE-via-else-words-ne-SEGMENT_COOKIE+then-size-gt-MAX_SIZE w ↦ inr (search rules)
    ] in
    none-ahead_first c.args.self.now (g.R.Read.remaining (watched_inner c.args.reader.now)) c.requires.header other

pub returns-then-not-branch-clause-none : goal.returns-then-not-branch-clause-none
returns-then-not-branch-clause-none g c =
    none-ahead_short c.args.self.now c.has_words.new.self (g.R.Read.remaining (watched_inner c.args.reader.now)) (g.R.Read.remaining (watched_inner c.has_words.new.reader))
    (word_at c.args.self.now 2) (search rules) c.requires.header (search rules) (search rules) (search rules)

pub returns-in-Err-clause-none : goal.returns-in-Err-clause-none
returns-in-Err-clause-none g c =
    none-ahead_faulty c.args.self.now c.has_words.new.self (g.R.Read.remaining (watched_inner c.args.reader.now)) (g.R.Read.remaining (watched_inner c.has_words.new.reader))
    (word_at c.args.self.now 2) (search rules) c.requires.header (search rules) (search rules) (search rules)

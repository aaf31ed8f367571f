use Rattle.std.proofs.Common.{rules, ◌≤◌, length}
use Rattle.segment_image.specs.Watched.{watched_inner}
use Rattle.segment_search.specs.Places.{ahead}
use Rattle.segment_search.proofs.Here.{Here, Here-kept, Here-ended, Here-found, Here-passed, Here-counted, Here-long}
use Rattle.segment_search.proofs.search.find_segment.Goals as goal
use Rattle.segment_search.proofs.search.find_segment.Goals.{in-Some+else-left-eq1, in_default}

pub returns-then-not-branch-clause-answer : goal.returns-then-not-branch-clause-answer
returns-then-not-branch-clause-answer g c =
    let start = g.R.Read.remaining (watched_inner c.args.reader.now) in
    let old = g.R.Read.remaining (watched_inner c.loop-word.reader) in
    let left = g.R.Read.remaining (watched_inner c.has_words.new.reader) in
    Here-ended start c.loop-word.word c.args.nth c.loop-word.left c.has_words.new.self left
    (Here-kept start (ahead c.loop-word.window old) (ahead c.has_words.new.self left) c.loop-word.word c.args.nth c.loop-word.left c.loop-word.invariant.here (search rules))
    (search rules) (search rules) c.loop-word.invariant.wanted

pub returns-then-left-eq1-clause-answer : goal.returns-then-left-eq1-clause-answer
returns-then-left-eq1-clause-answer g c =
    let start = g.R.Read.remaining (watched_inner c.args.reader.now) in
    let old = g.R.Read.remaining (watched_inner c.loop-word.reader) in
    let more = g.R.Read.remaining (watched_inner c.has_words.new.reader) in
    let left = g.R.Read.remaining (watched_inner c.segment_size.new.reader) in
    Here-found start c.loop-word.word c.args.nth c.loop-word.left c.in-Some.size c.segment_size.new.self c.into_image-image.result left
    (Here-kept start (ahead c.has_words.new.self more) (ahead c.segment_size.new.self left) c.loop-word.word c.args.nth c.loop-word.left
    (Here-kept start (ahead c.loop-word.window old) (ahead c.has_words.new.self more) c.loop-word.word c.args.nth c.loop-word.left c.loop-word.invariant.here (search rules))
    (search rules))
    (search rules) (search rules) (search rules) (search rules)

pub loop-word-preserved : goal.loop-word-preserved
loop-word-preserved g c =
    let start = g.R.Read.remaining (watched_inner c.args.reader.now) in
    let old = g.R.Read.remaining (watched_inner c.loop-word.reader) in
    let more = g.R.Read.remaining (watched_inner c.has_words.new.reader) in
    let left = g.R.Read.remaining (watched_inner c.segment_size.new.reader) in
    let before : Here start c.loop-word.word c.args.nth c.loop-word.left (ahead c.has_words.new.self more) =
    Here-kept start (ahead c.loop-word.window old) (ahead c.has_words.new.self more) c.loop-word.word c.args.nth c.loop-word.left c.loop-word.invariant.here (search rules) in
    let here : Here start c.loop-word.word c.args.nth c.loop-word.left (ahead c.segment_size.new.self left) =
    Here-kept start (ahead c.has_words.new.self more) (ahead c.segment_size.new.self left) c.loop-word.word c.args.nth c.loop-word.left before (search rules) in
    let some : 1 ≤ length c.segment_size.new.self = search rules in
    elim c.match-branch-3.branch [
      | in-Some+else-left-eq1 w ↦ record {
        here = Here-counted start c.loop-word.word c.args.nth c.loop-word.left c.match-branch-3.left w.in-Some.size c.segment_size.new.self c.pass.new.self left here some
            (search rules) (search rules) c.loop-word.invariant.wanted (search rules) (search rules);
        wanted = search rules;
        went = search rules;
      }
      | in_default w ↦ record {
        here = Here-passed start c.loop-word.word c.args.nth c.loop-word.left c.match-branch-3.left c.has_words.new.self c.segment_size.new.self c.pass.new.self more left before
            (search rules) some (search rules) (search rules) (search rules);
        wanted = search rules;
        went = search rules;
      }
    ]

pub returns-clause-answer : goal.returns-clause-answer
returns-clause-answer g c =
    Here-long (g.R.Read.remaining (watched_inner c.args.reader.now)) (ahead c.loop-word.window (g.R.Read.remaining (watched_inner c.loop-word.reader)))
    c.loop-word.word c.args.nth c.loop-word.left c.loop-word.invariant.here (search rules)

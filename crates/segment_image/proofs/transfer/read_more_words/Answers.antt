use Rattle.std.proofs.Common.{rules}
use Rattle.segment_image.specs.Watched.{watched_inner}
use Rattle.segment_image.proofs.ReadWords.{TakesAtMost-more, too_long, not_words}
use Rattle.segment_image.proofs.transfer.read_more_words.Goals as goal

pub returns-in_err-filled-clause-taken : goal.returns-in_err-filled-clause-taken
returns-in_err-filled-clause-taken g c =
    TakesAtMost-more (g.R.Read.remaining (watched_inner c.args.reader.now)) (g.R.Read.remaining (watched_inner c.loop-wanted.reader))
    (g.R.Read.remaining (watched_inner c.fill.new.reader)) c.args.words.now.items c.loop-wanted.words.items _ _ c.loop-wanted.invariant.bytes c.fill.ensures.taken (search rules)

pub returns-then-div_ceil-room-clause-taken : goal.returns-then-div_ceil-room-clause-taken
returns-then-div_ceil-room-clause-taken g c =
    TakesAtMost-more (g.R.Read.remaining (watched_inner c.args.reader.now)) (g.R.Read.remaining (watched_inner c.loop-wanted.reader))
    (g.R.Read.remaining (watched_inner c.fill.new.reader)) c.args.words.now.items c.loop-wanted.words.items _ _ c.loop-wanted.invariant.bytes c.fill.ensures.taken (search rules)

pub returns-then-filled-ne0-clause-taken : goal.returns-then-filled-ne0-clause-taken
returns-then-filled-ne0-clause-taken g c =
    TakesAtMost-more (g.R.Read.remaining (watched_inner c.args.reader.now)) (g.R.Read.remaining (watched_inner c.loop-wanted.reader))
    (g.R.Read.remaining (watched_inner c.fill.new.reader)) c.args.words.now.items c.loop-wanted.words.items _ _ c.loop-wanted.invariant.bytes c.fill.ensures.taken (search rules)

pub returns-in_err-map_err-clause-taken : goal.returns-in_err-map_err-clause-taken
returns-in_err-map_err-clause-taken g c =
    TakesAtMost-more (g.R.Read.remaining (watched_inner c.args.reader.now)) (g.R.Read.remaining (watched_inner c.loop-wanted.reader))
    (g.R.Read.remaining (watched_inner c.fill.new.reader)) c.args.words.now.items c.loop-wanted.words.items _ _ c.loop-wanted.invariant.bytes c.fill.ensures.taken (search rules)

pub returns-then-filled-wanted-clause-taken : goal.returns-then-filled-wanted-clause-taken
returns-then-filled-wanted-clause-taken g c =
    TakesAtMost-more (g.R.Read.remaining (watched_inner c.args.reader.now)) (g.R.Read.remaining (watched_inner c.loop-wanted.reader))
    (g.R.Read.remaining (watched_inner c.fill.new.reader)) c.args.words.now.items c.loop-wanted.words.items _ _ c.loop-wanted.invariant.bytes c.fill.ensures.taken (search rules)

pub returns-then-div_ceil-room-clause-answer : goal.returns-then-div_ceil-room-clause-answer
returns-then-div_ceil-room-clause-answer g c =
    too_long (g.R.Read.remaining (watched_inner c.args.reader.now)) (g.R.Read.remaining (watched_inner c.loop-wanted.reader))
    (g.R.Read.remaining (watched_inner c.fill.new.reader)) c.args.words.now.items c.loop-wanted.words.items c.fill.new.block c.in_ok-filled.filled c.args.limit
    c.loop-wanted.invariant.bytes c.in_ok-filled.ensures.bytes c.in_ok-filled.ensures.within c.requires.fewer (search rules)

pub returns-then-filled-ne0-clause-answer : goal.returns-then-filled-ne0-clause-answer
returns-then-filled-ne0-clause-answer g c =
    not_words (g.R.Read.remaining (watched_inner c.args.reader.now)) (g.R.Read.remaining (watched_inner c.loop-wanted.reader))
    (g.R.Read.remaining (watched_inner c.fill.new.reader)) c.args.words.now.items c.loop-wanted.words.items c.fill.new.block c.in_ok-filled.filled c.args.limit
    c.loop-wanted.invariant.bytes c.in_ok-filled.ensures.bytes (c.in_ok-filled.ensures.end (search rules)) c.in_ok-filled.ensures.within c.requires.fewer
    (search rules) c.if-filled-ne0.true

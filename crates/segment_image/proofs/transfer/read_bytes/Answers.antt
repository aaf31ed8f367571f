use Rattle.std.proofs.Common.{rules}
use Rattle.segment_image.specs.Watched.{watched_inner}
use Rattle.segment_image.proofs.ReadWords.{TakesAtMost-after}
use Rattle.segment_image.proofs.transfer.read_bytes.Goals as goal

pub returns-in_err-came-clause-taken : goal.returns-in_err-came-clause-taken
returns-in_err-came-clause-taken g c =
    TakesAtMost-after (g.R.Read.remaining (watched_inner c.args.reader.now)) (g.R.Read.remaining (watched_inner c.loop-wanted.reader))
    (g.R.Read.remaining (watched_inner c.fill.new.reader)) c.loop-wanted.bytes.items _ _ c.loop-wanted.invariant.read c.fill.ensures.taken (search rules)

pub returns-then-came-room-clause-taken : goal.returns-then-came-room-clause-taken
returns-then-came-room-clause-taken g c =
    TakesAtMost-after (g.R.Read.remaining (watched_inner c.args.reader.now)) (g.R.Read.remaining (watched_inner c.loop-wanted.reader))
    (g.R.Read.remaining (watched_inner c.fill.new.reader)) c.loop-wanted.bytes.items _ _ c.loop-wanted.invariant.read c.fill.ensures.taken (search rules)

pub returns-in_err-map_err-clause-taken : goal.returns-in_err-map_err-clause-taken
returns-in_err-map_err-clause-taken g c =
    TakesAtMost-after (g.R.Read.remaining (watched_inner c.args.reader.now)) (g.R.Read.remaining (watched_inner c.loop-wanted.reader))
    (g.R.Read.remaining (watched_inner c.fill.new.reader)) c.loop-wanted.bytes.items _ _ c.loop-wanted.invariant.read c.fill.ensures.taken (search rules)

pub returns-then-came-wanted-clause-taken : goal.returns-then-came-wanted-clause-taken
returns-then-came-wanted-clause-taken g c =
    TakesAtMost-after (g.R.Read.remaining (watched_inner c.args.reader.now)) (g.R.Read.remaining (watched_inner c.loop-wanted.reader))
    (g.R.Read.remaining (watched_inner c.fill.new.reader)) c.loop-wanted.bytes.items _ _ c.loop-wanted.invariant.read c.fill.ensures.taken (search rules)

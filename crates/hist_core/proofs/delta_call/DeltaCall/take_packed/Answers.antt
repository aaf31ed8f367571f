use Rattle.segment_invariant.proofs.Prelude.Std.{arith, pos, slice_index}
use Rattle.hist_core.proofs.Left.Deltas.{packed_less}
use Rattle.hist_core.proofs.DeltaCall.Singles.{gives_packed, packed_room}
use Rattle.hist_core.proofs.delta_call.DeltaCall.take_packed.Goals as goal

pub take_bucket-requires-clause-inside : goal.take_bucket-requires-clause-inside
take_bucket-requires-clause-inside c = (packed_room c.args.self.now c.args.words.now c.args.bucket c.args.units c.requires.next c.requires.stands).0

pub take_bucket-requires-clause-room : goal.take_bucket-requires-clause-room
take_bucket-requires-clause-room c = let room = (packed_room c.args.self.now c.args.words.now c.args.bucket c.args.units c.requires.next c.requires.stands).1 in let ok = c.args.self.now.counts.ok.0 in omega (arith, room, ok)

pub returns-clause-steps : goal.returns-clause-steps
returns-clause-steps c = λ shape known earlier a long order is.
    gives_packed shape known earlier c.args.self.now a c.args.words.now is c.args.bucket c.args.units c.requires.next c.take_bucket.new.self c.take_bucket.result c.fetch_max-mark.result c.take_bucket.ensures
    c.fetch_max-mark.ensures.found c.fetch_max-mark.new.words c.fetch_max-mark.ensures.words

pub returns-clause-less : goal.returns-clause-less
returns-clause-less c =
    packed_less c.args.self.now c.args.words.now c.fetch_max-mark.new.words c.args.bucket c.args.units (pos (slice_index c.args.self.now.ranges c.args.bucket)) c.args.units
    c.fetch_max-mark.result c.take_bucket.new.self c.take_bucket.result c.requires.next c.take_bucket.ensures

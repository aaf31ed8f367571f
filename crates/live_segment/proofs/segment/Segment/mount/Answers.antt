use Rattle.live_segment.specs.Known.{known_view}
use Rattle.live_segment.proofs.lemmas.Add.Mounted.{may_mount, mounts_first, may_purge, mounts_late, claims_first, claims_late}
use Rattle.live_segment.proofs.segment.Segment.mount.Goals as goal

pub mount_counts-found-requires-clause-may : goal.mount_counts-found-requires-clause-may
mount_counts-found-requires-clause-may c =
    may_mount c.args.self.now (known_view c.args.histogram.now) c.args.seat.now c.args.at c.requires.seat.table c.requires.may c.requires.blank c.requires.within

pub returns-then-found-eq0-clause-mounted : goal.returns-then-found-eq0-clause-mounted
returns-then-found-eq0-clause-mounted c =
    mounts_first c.args.self.now (known_view c.args.histogram.now) c.args.seat.now c.args.at c.requires.seat.table c.requires.may c.requires.blank c.requires.within
    _ c.mount_counts-found.new.seat c.mount_counts-found.ensures c.if-found-eq0.true

pub purge_block-requires-clause-may : goal.purge_block-requires-clause-may
purge_block-requires-clause-may c =
    may_purge c.args.self.now (known_view c.args.histogram.now) c.args.seat.now c.args.at c.requires.seat.table c.requires.may c.requires.blank c.requires.within
    _ c.mount_counts-found.new.seat c.mount_counts-found.ensures c.if-found-eq0.false

pub returns-clause-mounted : goal.returns-clause-mounted
returns-clause-mounted c =
    mounts_late c.args.self.now (known_view c.args.histogram.now) c.args.seat.now c.args.at c.requires.seat.table c.requires.may c.requires.blank c.requires.within
    _ c.mount_counts-found.new.seat c.mount_counts-found.ensures c.if-found-eq0.false c.purge_block.new.seat c.purge_block.ensures

pub returns-then-found-eq0-clause-claims : goal.returns-then-found-eq0-clause-claims
returns-then-found-eq0-clause-claims c =
    claims_first c.args.self.now (known_view c.args.histogram.now) c.args.seat.now c.args.at c.requires.seat.table c.requires.may c.requires.blank c.requires.within
    _ c.mount_counts-found.new.seat c.mount_counts-found.ensures c.if-found-eq0.true

pub returns-clause-claims : goal.returns-clause-claims
returns-clause-claims c =
    claims_late c.args.self.now (known_view c.args.histogram.now) c.args.seat.now c.args.at c.requires.seat.table c.requires.may c.requires.blank c.requires.within
    _ c.mount_counts-found.new.seat c.mount_counts-found.ensures c.if-found-eq0.false c.purge_block.new.seat c.purge_block.ensures

-- Each event that packs, or that makes room for more, keeps what holds, and its actor learns of what it found.
use Rattle.std.proofs.Common.{ℕ}
use Rattle.segment_machine.specs.Event.{packing_event}
use Rattle.segment_machine.specs.Packing.{load_single, pack, mount_counts, purge_block, disable, add_moved}
use Rattle.segment_invariant.specs.Keeps.{EventKeeps, PackingKeeps}
use Rattle.segment_invariant.proofs.Packing.Disables.{disable_kept}
use Rattle.segment_invariant.proofs.Packing.Loads.{single_kept}
use Rattle.segment_invariant.proofs.Packing.MountWins.{mount_kept}
use Rattle.segment_invariant.proofs.Packing.Moved.{moved_added}
use Rattle.segment_invariant.proofs.Packing.Packs.{pack_kept}
use Rattle.segment_invariant.proofs.Packing.Purges.{block_purged}

purge_kept : (at : ℕ) → EventKeeps (packing_event (purge_block at))
purge_kept at shape opened state id a kept mine records ready = block_purged shape opened state kept id a mine records at ready

moved_kept : (counts bucket units : ℕ) → EventKeeps (packing_event (add_moved counts bucket units))
moved_kept counts bucket units shape opened state id a kept mine records ready =
    moved_added shape opened state kept id a mine records counts bucket units ready

pub packing_keeps : PackingKeeps
packing_keeps (load_single histogram) = single_kept histogram
packing_keeps (pack histogram old new) = pack_kept histogram old new
packing_keeps (mount_counts histogram at) = mount_kept histogram at
packing_keeps (purge_block at) = purge_kept at
packing_keeps (disable histogram old) = disable_kept histogram old
packing_keeps (add_moved counts bucket units) = moved_kept counts bucket units

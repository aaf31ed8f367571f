-- Each event of shared cursors keeps what holds, and its actor learns where the cursor was.
use Rattle.segment_machine.specs.Cursors.{load_cursor, move_cursor}
use Rattle.segment_invariant.specs.Keeps.{CursorsKeep}
use Rattle.segment_invariant.proofs.Cursors.Loads.{cursor_loaded}
use Rattle.segment_invariant.proofs.Cursors.Moves.{cursor_moved}

pub cursors_keep : CursorsKeep
cursors_keep (load_cursor cursor) shape opened state id a kept mine records ready = cursor_loaded shape opened state kept id a mine records cursor ready
cursors_keep (move_cursor cursor old new) shape opened state id a kept mine records ready =
    cursor_moved shape opened state kept id a mine records cursor old new ready

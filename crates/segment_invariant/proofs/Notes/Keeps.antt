-- Each note keeps what holds.
use Rattle.segment_machine.specs.Note.{begins, goes_on, amounts, asks, knows, takes, has_taken, looks, answers, ends, refused, declines}
use Rattle.segment_invariant.specs.Keeps.{NotesKeep}
use Rattle.segment_invariant.proofs.Notes.Asks.{asks_kept}
use Rattle.segment_invariant.proofs.Notes.Begins.{looks_kept, begins_kept}
use Rattle.segment_invariant.proofs.Notes.Ends.{ends_kept, refused_kept}
use Rattle.segment_invariant.proofs.Notes.GoesOn.{goes_on_kept}
use Rattle.segment_invariant.proofs.Notes.Names.{knows_kept, declines_kept}
use Rattle.segment_invariant.proofs.Notes.Deltas.{takes_kept}
use Rattle.segment_invariant.proofs.Notes.Amounts.{amounts_kept}
use Rattle.segment_invariant.proofs.Notes.Snapshots.{answers_kept}
use Rattle.segment_invariant.proofs.Notes.Taken.{has_taken_kept}

pub notes_keep : NotesKeep
notes_keep (begins name cost entries) = begins_kept name cost entries
notes_keep (goes_on entry cost) = goes_on_kept entry cost
notes_keep (amounts amount) = amounts_kept amount
notes_keep (asks at made) = asks_kept at made
notes_keep (knows known) = knows_kept known
notes_keep (declines mine) = declines_kept mine
notes_keep (takes name) = takes_kept name
notes_keep has_taken = has_taken_kept
notes_keep looks = looks_kept
notes_keep (answers answered) = answers_kept answered
notes_keep ends = ends_kept
notes_keep (refused added) = refused_kept added

-- Which words a recorder found to lead to no block since it was in an earlier state: the end of the list, or a histogram without counts.
use Rattle.std.specs.Prelude.{ℕ, ◌+◌, drop, length}
use Rattle.std.specs.List.{Contains}
use Rattle.segment_image.specs.declared.layout.TheConstants.{BLOCK_NEXT, HISTOGRAM_COUNTS}
use Rattle.list_core.specs.Walk.{stands_behind}
use Rattle.segment_machine.specs.declared.seen.Seen.{Seen}

-- it has loaded a word since then, and that led to no block
abbrev pub FoundNone : ℕ → Seen → Seen → Type 0
FoundNone word old new = Contains (drop (length old.ends) new.ends) word

-- The next of a block, or of the queue block, was the end of the list when it loaded that.
abbrev pub FoundEndAt : ℕ → Seen → Seen → Type 0
FoundEndAt at old new = FoundNone (at + BLOCK_NEXT) old new

-- The records that it has seen on the list were all of it at a load since then: the list ended after the last of them, or at the queue
-- block if there are none.
abbrev pub SawAllOfList : Seen → Seen → Type 0
SawAllOfList old new = FoundEndAt (stands_behind new.chain) old new

-- A histogram had no counts when it loaded their reference.
abbrev pub FoundNoCounts : ℕ → Seen → Seen → Type 0
FoundNoCounts histogram old new = FoundNone (histogram + HISTOGRAM_COUNTS) old new

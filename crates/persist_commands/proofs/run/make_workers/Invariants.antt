use Rattle.std.proofs.Common.{◌≡◌, ℕ, ◌<◌, length, slice_index_or}
use Rattle.live_segment.specs.Holders.{IsMadeWith, table_of, view_of_opener}
use Rattle.persist_commands.specs.Recording.{HandsOut, IsWorkerReady}
use Rattle.persist_commands.proofs.run.make_workers.Given as goal

abbrev pub invariant-loop-number : goal.invariant-loop-number
invariant-loop-number g l =
    IsMadeWith l.segment l.opener × HandsOut l.number (view_of_opener l.fn.opener) (view_of_opener l.opener) × (length l.all.items ≡ l.number)
    × ((k : ℕ) (d : _) → k < length l.all.items → IsWorkerReady (table_of l.segment) (view_of_opener l.fn.opener) l.script l.workers k (slice_index_or l.all.items k d).part (slice_index_or l.all.items k d).script.now (slice_index_or l.all.items k d).recorder)

use Rattle.std.proofs.Common.{◌≡◌, ℕ, length, get_or, false}
use Rattle.std.specs.Prelude.{◌==◌}
use Rattle.std.specs.List.{list_any}
use Rattle.bucket_ranges.specs.Reading.{IsWalk, next_of, before}
use Rattle.image_reader.proofs.Marks.{unmet}
use Rattle.image_reader.proofs.walk.list_of.Given as goal

-- What was visited is a walk of distinct blocks, the next reference follows from it, and each word's mark says whether it was visited.
abbrev pub invariant-loop-next : goal.invariant-loop-next
invariant-loop-next l = record {
  walk : IsWalk l.words l.head l.references.items;
  next : l.next ≡ next_of l.words (before l.references.items (length l.references.items));
  marks : (r : ℕ) → get_or l.met.items r false ≡ list_any (λ reference. reference == r) l.references.items;
  long : length l.met.items ≡ length l.words;
}

abbrev pub decreases-loop-next : goal.decreases-loop-next
decreases-loop-next l = unmet l.met.items

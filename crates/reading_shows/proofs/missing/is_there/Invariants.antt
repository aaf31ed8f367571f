use Rattle.std.proofs.Common.{◌≡◌, false, take}
use Rattle.std.specs.List.{list_any}
use Rattle.std.specs.Str.{bytes_eq}
use Rattle.reading_shows.proofs.missing.is_there.Given as goal

abbrev pub invariant-loop-hist : goal.invariant-loop-hist
invariant-loop-hist l = list_any (λ hist. bytes_eq l.name hist.name.items) (take l.hist-index l.reading.hists.items) ≡ false

use Rattle.std.proofs.Common.{◌≡◌, ◌+◌, length, min, sum_by, take}
use Rattle.reading_sums.specs.declared.hist.HistSum.{HistSum}
use Rattle.sum_texts.proofs.reading_back.line_behind.Given as goal

-- the lines so far, as far as 64 bits go
abbrev pub invariant-loop-hist : goal.invariant-loop-hist
invariant-loop-hist l = l.line ≡ min (3 + sum_by (λ (hist : HistSum). length hist.keys.items + 1) (take l.hist-index l.hists)) 18446744073709551615

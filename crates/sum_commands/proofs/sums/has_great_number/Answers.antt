-- The number is that of a histogram, or all are below the limit.
use Rattle.std.proofs.Common.{◌≡◌, ◌<◌, ◌^◌, ◌≤◌, ◌+◌, ℕ, List, length, map, take, get_or, ap, subst, sym, ◌∙◌, arith}
use Rattle.std.specs.List.{All, Contains}
use Rattle.std.proofs.lemmas.List.{length-map, take_all}
use Rattle.std.proofs.lemmas.List.Elements.{All-map, All-more}
use Rattle.std.proofs.lemmas.List.{get_or-map}
use Rattle.reading_sums.specs.declared.hist.HistSum.{HistSum}
use Rattle.reading_sums.specs.Totals.{Part}
use Rattle.reading_sums.specs.Views.{part_of, parts_of}
use Rattle.sum_commands.proofs.sums.has_great_number.Goals as goal

-- a histogram's part is one of the parts
part-there : (hists all : List HistSum) (k : ℕ) (x : HistSum) → hists ≡ all → k < length hists → x ≡ get_or hists k x → Contains (map part_of all) (part_of x)
part-there hists all k x same within is =
    subst (λ z. Contains (map part_of z) (part_of x)) same
    (let long = length-map hists part_of in (k, omega (arith, within, long), get_or-map part_of hists k x (part_of x) within ∙ ap part_of (sym is)))

abbrev IsLow : HistSum → Type 0
IsLow hist = hist.least < 2 ^ 62

pub loop-hist-preserved : goal.loop-hist-preserved
loop-hist-preserved c =
    let here = c.if-hist-ge-NUMBER_LIMIT.false in
    let low : IsLow c.hist-item.result = omega (arith, here) in
    All-more IsLow c.hists-hist-items.result.now c.loop-hist.hist-index c.hist-item.result c.loop-hist-test.true c.loop-hist.invariant (subst IsLow c.hist-item.is low)

pub returns-then-hist-ge-NUMBER_LIMIT-clause-some : goal.returns-then-hist-ge-NUMBER_LIMIT-clause-some
returns-then-hist-ge-NUMBER_LIMIT-clause-some c = λ yes. (
  part_of c.hist-item.result,
  part-there c.hists-hist-items.result.now c.args.sums.now.hists.items c.loop-hist.hist-index c.hist-item.result c.hists-hist-items.ensures c.loop-hist-test.true c.hist-item.is,
  c.if-hist-ge-NUMBER_LIMIT.true,
)

pub returns-clause-none : goal.returns-clause-none
returns-clause-none c = λ none.
    All-map (λ (part : Part). part.least < 2 ^ 62) part_of c.args.sums.now.hists.items
    (subst (All IsLow) (take_all c.loop-hist.hist-index c.hists-hist-items.result.now (omega (arith, c.loop-hist-test.false)) ∙ c.hists-hist-items.ensures)
    c.loop-hist.invariant)

-- The histograms so far are readable; and if one is not, not all are.
use Rattle.std.proofs.Common.{rules, ◌<◌, ℕ, List, get_or, length, map, arith, refl, sym, subst, ◌∙◌}
use Rattle.std.specs.List.{All}
use Rattle.std.proofs.lemmas.List.{get_or-map, length-map, take_all}
use Rattle.std.proofs.lemmas.List.Elements.{All-map, All-more}
use Rattle.image_reader.specs.Readable.{IsReadable}
use Rattle.image_reader.specs.Views.{histogram_view}
use Rattle.image_reader.specs.declared.reading.HistReading.{HistReading}
use Rattle.live_texts.proofs.readable.are_readable.Goals as goal

-- a histogram of the code that can be one of a segment
abbrev can_be : HistReading → Type 0
can_be hist = IsReadable (histogram_view hist)

-- each of the code's histograms is readable if all of their views are
one_of_all : (hists : List HistReading) (i : ℕ) (hist : HistReading) → i < length hists → All IsReadable (map histogram_view hists)
    → can_be (get_or hists i hist)
one_of_all hists i hist below all =
    subst IsReadable (get_or-map histogram_view hists i hist (histogram_view hist) below)
    (all i (histogram_view hist) (omega (arith, length-map hists histogram_view, below)))

pub loop-hist-preserved : goal.loop-hist-preserved
loop-hist-preserved c =
    All-more can_be c.args.hists.now c.loop-hist.hist-index c.hist-item.result c.loop-hist-test.true c.loop-hist.invariant
    (subst can_be c.hist-item.is (c.in_ok-is_readable.ensures.0 c.if-not-branch.false))

pub returns-then-not-branch : goal.returns-then-not-branch
returns-then-not-branch c =
    let read : All IsReadable (map histogram_view c.args.hists.now) → can_be c.hist-item.result = λ all.
    subst can_be (sym c.hist-item.is) (one_of_all c.args.hists.now c.loop-hist.hist-index c.hist-item.result c.loop-hist-test.true all) in
    (λ is. search rules, λ all. sym c.if-not-branch.true ∙ c.in_ok-is_readable.ensures.1 (read all))

pub returns : goal.returns
returns c = (
  λ _. All-map IsReadable histogram_view c.args.hists.now
      (subst (All can_be) (take_all c.loop-hist.hist-index c.args.hists.now c.loop-hist-test.false) c.loop-hist.invariant),
  λ _. refl,
)

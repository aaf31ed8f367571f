-- What both have together is the sum of both lists.
use Rattle.std.proofs.Common.{⊎_elim, ◌++◌, List, map, subst, sym}
use Rattle.reading_sums.specs.declared.sums.Sums.{Sums}
use Rattle.reading_sums.specs.Totals.{Part, SameTotals}
use Rattle.reading_sums.specs.Views.{part_of, parts_of}
use Rattle.reading_sums.specs.Whole.{AreWhole}
use Rattle.reading_sums.proofs.FitInTurn.{whole-parts-fit}
use Rattle.reading_sums.proofs.Readings.{sum-both}
use Rattle.std.proofs.lemmas.Result.{err_from_is_err_and}
use Rattle.reading_sums.proofs.LongSums.{sums-long}
use Rattle.reading_sums.proofs.sums.Sums.append.Goals as goal

pub returns-clause-both : goal.returns-clause-both
returns-clause-both c =
    let P : List Part → Type 0 = λ z. SameTotals (map part_of c.in_ok-hists.hists.items) z in record {
      hists = subst P (λ i. map part_of (c.deref.ensures.value i) ++ map part_of (c.deref-2.ensures.value i)) c.in_ok-hists.ensures.same;
      notes = c.in_ok-notes.ensures.both;
    }

pub returns-clause-added : goal.returns-clause-added
returns-clause-added c = λ readings more first second.
    let after : Sums = record { alloc = c.args.self.now.alloc; notes = c.in_ok-notes.notes; hists = c.in_ok-hists.hists } in
    sum-both readings more c.args.self.now c.args.other.now after first second (returns-clause-both c)

pub returns-clause-well_formed : goal.returns-clause-well_formed
returns-clause-well_formed c = λ first second.
    c.in_ok-hists.ensures.whole (subst AreWhole (sym c.deref.ensures.value) first) (subst AreWhole (sym c.deref-2.ensures.value) second)

pub returns-clause-fits : goal.returns-clause-fits
returns-clause-fits c = λ first second does_not.
    ⊎_elim
    (λ notes. c.in_ok-notes.ensures.fits notes)
    (λ parts.
    whole-parts-fit c.in_ok-hists.hists.items (parts_of c.args.self.now ++ parts_of c.args.other.now) (returns-clause-well_formed c first second)
    (returns-clause-both c).hists.totals parts)
    does_not

pub returns-in_err-hists-clause-too_many : goal.returns-in_err-hists-clause-too_many
returns-in_err-hists-clause-too_many c =
    let p = err_from_is_err_and c.from_residual-in_err-hists.result c.from_residual-in_err-hists.ensures.1 in
    rw (p.1, p.2) (sums-long _ c.args.self.now c.args.other.now _ _ c.deref.ensures.value c.deref-2.ensures.value c.in_err-hists.ensures.too_many)

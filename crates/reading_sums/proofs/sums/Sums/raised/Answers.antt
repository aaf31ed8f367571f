-- The parts of the sum, raised, are those of the readings, raised.
use Rattle.std.proofs.Common.{◌<◌, ◌^◌, ◌+◌, List, map, ap, subst, sym, ◌∙◌, arith}
use Rattle.std.proofs.lemmas.List.Elements.{All-contains, All-map}
use Rattle.reading_sums.specs.declared.hist.HistSum.{HistSum}
use Rattle.std.specs.List.{All}
use Rattle.reading_sums.specs.Totals.{Part, SameTotals, raised_part}
use Rattle.reading_sums.specs.Views.{part_of, parts_of}
use Rattle.reading_sums.specs.Sums.{parts_in, raised as raised_reading}
use Rattle.reading_sums.proofs.Alike.{raised-whole}
use Rattle.reading_sums.proofs.RaisedSums.{parts-raised, notes-raised}
use Rattle.reading_sums.proofs.sums.Sums.raised.Goals as goal

pub returns-clause-parts : goal.returns-clause-parts
returns-clause-parts c = c.in_ok-raised_hists.ensures.raised ∙ ap (λ z. map (raised_part c.args.by) (map part_of z)) c.deref.ensures.value

pub returns-clause-raised : goal.returns-clause-raised
returns-clause-raised c = λ readings before.
    let P : List Part → Type 0 = λ z. SameTotals z (parts_in (map (raised_reading c.args.by) readings)) in record {
      hists = subst P (sym (returns-clause-parts c)) (parts-raised (parts_of c.args.self.now) c.args.by readings before.hists);
      notes = notes-raised c.args.by readings c.args.self.now.notes before.notes;
    }

pub returns-clause-well_formed : goal.returns-clause-well_formed
returns-clause-well_formed c =
    raised-whole c.args.by c.args.self.now.hists.items c.in_ok-raised_hists.field-0.items (returns-clause-parts c)

pub returns-clause-fits : goal.returns-clause-fits
returns-clause-fits c = λ many.
    let low = subst (λ z. All (λ (hist : HistSum). hist.least + c.args.by < 2 ^ 64) z) c.deref.ensures.value c.in_ok-raised_hists.ensures.fits in
    let here : many.0.least + c.args.by < 2 ^ 64 =
    All-contains (λ (part : Part). part.least + c.args.by < 2 ^ 64) (parts_of c.args.self.now) many.0
    (All-map (λ (part : Part). part.least + c.args.by < 2 ^ 64) part_of c.args.self.now.hists.items low) many.1 in
    let long = many.2 in absurd (omega (arith, here, long))

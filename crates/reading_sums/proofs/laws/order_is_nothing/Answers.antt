-- The totals and the notes are sums.
use Rattle.reading_sums.specs.Sums.{parts_in}
use Rattle.reading_sums.specs.Views.{parts_of}
use Rattle.reading_sums.proofs.Readings.{readings-permutation, notes-permutation}
use Rattle.reading_sums.proofs.Totals.{same-trans}
use Rattle.reading_sums.proofs.laws.order_is_nothing.Goals as goal

pub returns : goal.returns
returns c = λ readings others moved sums is. record {
  hists = same-trans (parts_of sums) (parts_in readings) (parts_in others) is.hists (readings-permutation readings others moved);
  notes = notes-permutation readings others sums.notes moved is.notes;
}

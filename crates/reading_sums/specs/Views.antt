-- The values of this crate as values of the definitions.
use Rattle.std.specs.Prelude.{◌≡◌, ◌<◌, List, length, map, get_or}
use Rattle.reading_sums.specs.declared.hist.HistSum.{HistSum}
use Rattle.reading_sums.specs.declared.sums.Sums.{Sums}
use Rattle.reading_sums.specs.declared.order.Side.{Side}
use Rattle.reading_sums.specs.declared.order.Side.TheVariants.{Left, Right, Both}
use Rattle.std.specs.declared.cmp.Ordering.TheVariants.{Less}
use Rattle.reading_sums.specs.Orders.{hist_cmp}
use Rattle.reading_sums.specs.Totals.{Part}

-- a histogram of a sum, as a part
abbrev pub part_of : HistSum → Part
part_of hist = record {
  name = hist.name.items;
  spec = hist.spec;
  keys = hist.keys.items;
  sum = hist.sum;
  sum_mark = hist.sum_mark;
  redundant = hist.redundant;
  images = hist.images;
  least = hist.least;
}

-- the parts of a sum
abbrev pub parts_of : Sums → List Part
parts_of sums = map part_of sums.hists.items

-- which list begins with the least histogram: it is not empty, and its first one is below the first of the other list, if there is one; or
-- both begin with histograms of one name and one spec
abbrev pub IsSideOf : List HistSum → List HistSum → Side → Type 0
IsSideOf a b Left = (0 < length a) × ((d : HistSum) → 0 < length b → hist_cmp (get_or a 0 d) (get_or b 0 d) ≡ Less)
IsSideOf a b Right = (0 < length b) × ((d : HistSum) → 0 < length a → hist_cmp (get_or b 0 d) (get_or a 0 d) ≡ Less)
IsSideOf a b Both = (0 < length a) × (0 < length b)
    × ((d : HistSum) → (get_or a 0 d).name.items ≡ (get_or b 0 d).name.items)
    × ((d : HistSum) → (get_or a 0 d).spec ≡ (get_or b 0 d).spec)

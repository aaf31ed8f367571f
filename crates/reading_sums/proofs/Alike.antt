-- Histograms that are the same except for their least numbers.
use Rattle.std.proofs.Common.{◌≡◌, ◌<◌, ◌^◌, ℕ, List, map, FitsSigned, nat_cmp, sym, subst, ap, ◌∙◌}
use Rattle.std.specs.Int.{w128}
use Rattle.std.specs.Ordering.{ordering_then}
use Rattle.std.specs.Cmp.Lexicographic.{slice_cmp}
use Rattle.std.specs.List.{All}
use Rattle.std.specs.declared.cmp.Ordering.{Ordering}
use Rattle.std.proofs.lemmas.Simd.{map-map}
use Rattle.std.proofs.lemmas.List.Elements.{All-map, All-weaker}
use Rattle.reading_sums.specs.declared.hist.HistSum.{HistSum}
use Rattle.reading_sums.specs.declared.key.KeySum.{KeySum}
use Rattle.reading_sums.specs.Orders.{spec_cmp}
use Rattle.reading_sums.specs.Totals.{Part, raised_part}
use Rattle.reading_sums.specs.Views.{part_of}
use Rattle.reading_sums.specs.Whole.{AreWhole, IsInRange, IsWholeList}
use Rattle.reading_sums.proofs.OneReading.{all-values}
use Rattle.reading_sums.proofs.Walk.{alike-ascend}

-- ---- what all have by what is seen of each

alike-all : {X Y : Type 0} (P : Y → Type 0) (f : X → Y) (xs ys : List X) → map f xs ≡ map f ys → All (λ x. P (f x)) ys → All (λ x. P (f x)) xs
alike-all P f xs ys same all = all-values P f xs (subst (All P) (sym same) (All-map P f ys all))

-- ---- numbers in range

-- the numbers of a part are in range, except for the least number
abbrev IsPartInRange : Part → Type 0
IsPartInRange part =
    All (λ (key : KeySum). key.marks < 2 ^ 64) part.keys × FitsSigned w128 part.sum × FitsSigned w128 part.sum_mark
    × (part.redundant < 2 ^ 64) × (part.images < 2 ^ 64)

part-range : (hist : HistSum) → IsInRange hist → IsPartInRange (part_of hist)
part-range hist range = (range.marks, range.sum, range.sum_mark, range.redundant, range.images)

range-part : (hist : HistSum) → IsPartInRange (part_of hist) → IsInRange hist
range-part hist range = record { marks = range.0; sum = range.1; sum_mark = range.2; redundant = range.3; images = range.4 }

-- a copy of a histogram
pub copy-range : (e x : HistSum) → part_of e ≡ part_of x → IsInRange x → IsInRange e
copy-range e x same range = range-part e (subst IsPartInRange (sym same) (part-range x range))

-- ---- histograms of a well-formed sum

unnumbered : Part → Part
unnumbered part = record part { least = 0 }

part_cmp : Part → Part → Ordering
part_cmp a b = ordering_then (slice_cmp nat_cmp a.name b.name) (spec_cmp a.spec b.spec)

seen-whole : (a b : List HistSum) → map unnumbered (map part_of a) ≡ map unnumbered (map part_of b) → AreWhole b → AreWhole a
unfolding unnumbered part_cmp
seen-whole a b known are =
    let seen : HistSum → Part = λ hist. unnumbered (part_of hist) in
    let same : map seen a ≡ map seen b = sym (map-map unnumbered part_of a) ∙ (known ∙ map-map unnumbered part_of b) in record {
      ascending = alike-ascend part_cmp seen a b same are.ascending;
      whole = alike-all (λ (part : Part). IsWholeList part.spec part.keys) seen a b same are.whole;
      range = All-weaker (λ hist. IsPartInRange (seen hist)) IsInRange range-part a
          (alike-all IsPartInRange seen a b same (All-weaker IsInRange (λ hist. IsPartInRange (seen hist)) part-range b are.range));
    }

-- histograms with the same parts as whole ones are whole
pub alike-whole : (a b : List HistSum) → map part_of a ≡ map part_of b → AreWhole b → AreWhole a
alike-whole a b same are = seen-whole a b (ap (map unnumbered) same) are

-- whole histograms are whole with the numbers of their images raised
pub raised-whole : (by : ℕ) (hists raised : List HistSum) → map part_of raised ≡ map (raised_part by) (map part_of hists) → AreWhole hists → AreWhole raised
unfolding unnumbered
raised-whole by hists raised is are =
    seen-whole raised hists (ap (map unnumbered) is ∙ map-map unnumbered (raised_part by) (map part_of hists)) are

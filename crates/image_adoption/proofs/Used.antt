-- The units of one more histogram.
use Rattle.std.proofs.Common.{◌≡◌, ℕ, ◌+◌, ◌<◌, List, length, map, min, sum_by, get_or, take, sym, ap, ◌∙◌, arith}
use Rattle.std.proofs.lemmas.List.{map_more}
use Rattle.std.proofs.lemmas.List.Sums.{sum_by_push}
use Rattle.bucket_ranges.specs.Reading.{Histogram}
use Rattle.image_rules.specs.Adoption.{used_by}

-- if each of these records reads as what a view gives
module _ (view : ℕ → Histogram) (read : List ℕ) (k : ℕ) (below : k < length read) (hist : Histogram) (is : hist ≡ view (get_or read k 0)) where
  pub used_more : (used now : ℕ) → used ≡ min (sum_by used_by (map view (take k read))) 18446744073709551615
      → now ≡ min (used + used_by hist) 18446744073709551615
      → now ≡ min (sum_by used_by (map view (take (k + 1) read))) 18446744073709551615
  used_more used now so_far more =
      let front = sum_by used_by (map view (take k read)) in
      let one = used_by hist in
      let sum : sum_by used_by (map view (take (k + 1) read)) ≡ front + one =
      ap (sum_by used_by) (map_more view read k 0 below)
      ∙ (sum_by_push used_by (map view (take k read)) (view (get_or read k 0)) ∙ ap (λ (h : Histogram). front + used_by h) (sym is)) in
      capped used now front one (sum_by used_by (map view (take (k + 1) read))) so_far more sum
    where
      capped : (used now front one sum : ℕ) → used ≡ min front 18446744073709551615 → now ≡ min (used + one) 18446744073709551615 → sum ≡ front + one
          → now ≡ min sum 18446744073709551615
      capped used now front one sum so_far more is = omega (arith, so_far, more, is)

-- Which histograms are shown.
use Rattle.std.specs.Prelude.{Bool, true, ℕ, List, length, drop, nat_eq}
use Rattle.std.specs.Borrow.{Bor}
use Rattle.std.specs.List.{list_any, range_with_len, starts_with}
use Rattle.std.specs.Str.{bytes_eq}
use Rattle.bucket_ranges.specs.Reading.{Histogram}
use Rattle.text_styles.specs.declared.choice.Choice.{Choice}
use Rattle.text_styles.specs.declared.choice.Choice.TheVariants.{All, Named, Part}

-- whether a part is anywhere in a name
abbrev pub has_part : List ℕ → List ℕ → Bool
has_part part name = list_any (λ i. starts_with nat_eq (drop i name) part) (range_with_len 0 (length name))

-- whether a histogram has one of these names
abbrev pub has_name : List (Bor (List ℕ)) → Histogram → Bool
has_name names hist = list_any (λ name. bytes_eq name.now hist.name) names

-- whether a histogram is chosen: by its name, or by a part of it
abbrev pub is_chosen : Choice → Histogram → Bool
is_chosen All hist = true
is_chosen (Named names) hist = has_name names.items hist
is_chosen (Part part) hist = has_part part.now hist.name

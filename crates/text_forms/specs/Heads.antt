-- What a subject says beside its reading.
use Rattle.std.specs.Prelude.{◌≡◌, Bool, true, false, ℕ, length}
use Rattle.std.specs.List.{AllZip}
use Rattle.reading_overviews.specs.declared.sum_overview.SumHead.{SumHead}
use Rattle.reading_sums.specs.declared.sums.Sums.{Sums}
use Rattle.reading_sums.specs.Shown.{other_parts, IsOtherOf}
use Rattle.reading_sums.specs.Views.{parts_of}
use Rattle.text_forms.specs.declared.head.Head.{Head}
use Rattle.text_forms.specs.declared.head.Head.TheVariants.{Image, Sum, Unknown}
use Rattle.text_forms.specs.declared.head.SumSaid.{SumSaid}

-- what a sum says of which this many inputs were left out: its notes, and what its reading leaves out
pub record IsSaidOf (sums : Sums) (left : ℕ) (said : SumSaid) : Type 0 where
  pub notes : said.notes ≡ sums.notes
  pub others : AllZip IsOtherOf (other_parts (parts_of sums)) said.others.items
  pub left_is : said.left ≡ left

-- what the overview of a sum says of its inputs
abbrev pub sum_head : SumSaid → SumHead
sum_head said = record {
  images = said.notes.images;
  left = said.left;
  full = said.notes.full;
  corrupt = said.notes.corrupt;
  stopped = said.notes.stopped;
  bad = said.notes.bad;
  others = length said.others.items;
}

-- it is that of an image
abbrev pub is_of_image : Head → Bool
is_of_image (Image header) = true
is_of_image (Sum said) = false
is_of_image Unknown = false

-- it is that of an image or of a sum
abbrev pub is_known : Head → Bool
is_known (Image header) = true
is_known (Sum said) = true
is_known Unknown = false

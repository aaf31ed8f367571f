-- The shape of a segment: how many words it has, and how many each of its pages has.
use Rattle.std.specs.Prelude.{Bool, not, ◌&&◌, ◌==◌, nat_le, ℕ, ◌%◌, List, [], ◌∷◌}
use Rattle.segment_image.specs.declared.fault.ImageFault.{ImageFault}
use Rattle.segment_image.specs.declared.fault.ImageFault.TheVariants.{BadPage, BadSize}
use Rattle.segment_image.specs.declared.layout.TheConstants.{MIN_PAGE, MAX_PAGE, PAGE_STEP, MAX_SIZE}

-- the words of a segment, and of each page
pub record Dimensions : Type 0 where
  pub size : ℕ
  pub page : ℕ

-- a page has a multiple of 16 words, from 64 to 65,536
abbrev pub is_page : ℕ → Bool
is_page page = nat_le MIN_PAGE page && nat_le page MAX_PAGE && (page % PAGE_STEP == 0)

-- a segment has one or more whole pages, and at most 1,048,576 words
abbrev pub is_size : ℕ → ℕ → Bool
is_size size page = nat_le page size && nat_le size MAX_SIZE && (size % page == 0)

-- what can be wrong with a shape, in order
abbrev pub shape_checks : ℕ → ℕ → List (Bool × ImageFault)
shape_checks size page = (not (is_page page), BadPage) ∷ (not (is_size size page), BadSize) ∷ []

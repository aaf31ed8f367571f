-- Which answer is the right one for the words of an image and a number of shared cursors.
use Rattle.std.specs.Prelude.{◌≡◌, ◌≢◌, true, false, ℕ, ◌<◌, ◌≤◌, List, Result, Ok, Err, ⊤}
use Rattle.segment_image.specs.declared.layout.TheConstants.{VERSION_FROZEN}
use Rattle.segment_image.specs.Head.{header_of, head_of}
use Rattle.bucket_ranges.specs.Reading.{Reading, IsListed, reading_along}
use Rattle.image_rules.specs.Adoption.{IsAdoptable, IsUndamaged, used_of}
use Rattle.image_adoption.specs.declared.checking.Adoptable.{Adoptable}
use Rattle.segment_calls.specs.declared.adopt_fault.AdoptFault.{AdoptFault}
use Rattle.segment_calls.specs.declared.adopt_fault.AdoptFault.TheVariants.{Image, OldVersion, Corrupt, Damaged, NoUnits, BadCursors, NoMemory}

-- the references on the list of an image, and what it reads as; words have one such list and one such reading
pub record Reads (words references : List ℕ) (reading : Reading) : Type 0 where
  pub listed : IsListed words (head_of words) references
  pub along : reading ≡ reading_along words (head_of words) references

-- what holds of words when more than their header is looked at: the header is valid, of version 2 and not corrupt
pub record IsIntact (words : List ℕ) : Type 0 where
  pub header : header_of words ≡ Ok (head_of words)
  pub version : (head_of words).version ≡ VERSION_FROZEN
  pub intact : (head_of words).corrupt ≡ false

-- The cause of a fault holds, and those of all faults before it do not. Running out of memory has no cause in the words.
abbrev pub IsFaultOf : List ℕ → ℕ → AdoptFault → Type 0
IsFaultOf words cursors (Image fault) = header_of words ≡ Err fault
IsFaultOf words cursors OldVersion = (header_of words ≡ Ok (head_of words)) × ((head_of words).version ≢ VERSION_FROZEN)
IsFaultOf words cursors Corrupt =
    (header_of words ≡ Ok (head_of words)) × ((head_of words).version ≡ VERSION_FROZEN) × ((head_of words).corrupt ≡ true)
IsFaultOf words cursors Damaged =
    IsIntact words × (references : List ℕ) × (reading : Reading) × Reads words references reading × (¬ (IsUndamaged words references reading))
IsFaultOf words cursors NoUnits =
    IsIntact words × (references : List ℕ) × (reading : Reading) × Reads words references reading × IsUndamaged words references reading
    × (4294967295 < used_of reading)
IsFaultOf words cursors BadCursors =
    (references : List ℕ) × (reading : Reading) × Reads words references reading × IsAdoptable words references reading × (8 < cursors)
IsFaultOf words cursors NoMemory = ⊤

-- the image may be adopted with this many cursors; this is its list, and these are the units that it has used by its reading
pub record IsAdoption (words : List ℕ) (cursors : ℕ) (adoptable : Adoptable) : Type 0 where
  pub listed : IsListed words (head_of words) adoptable.references.items
  pub lawful : IsAdoptable words adoptable.references.items (reading_along words (head_of words) adoptable.references.items)
  pub used : adoptable.used ≡ used_of (reading_along words (head_of words) adoptable.references.items)
  pub few : cursors ≤ 8

-- the right answer
abbrev pub AdoptionOf : List ℕ → ℕ → Result Adoptable AdoptFault → Type 0
AdoptionOf words cursors (Ok adoptable) = IsAdoption words cursors adoptable
AdoptionOf words cursors (Err fault) = IsFaultOf words cursors fault

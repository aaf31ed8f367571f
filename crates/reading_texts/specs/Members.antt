-- A member of a family as a value of the definitions.
use Rattle.std.specs.Prelude.{◌≡◌, ⊤, ℕ, List, Some}
use Rattle.image_reader.specs.Views.{histogram_view}
use Rattle.reading_texts.specs.declared.members.Member.{Member}
use Rattle.reading_texts.specs.declared.members.Clash.{Clash}
use Rattle.reading_texts.specs.declared.families.FamilyFault.{FamilyFault}
use Rattle.reading_texts.specs.declared.families.FamilyFault.TheVariants.{Clash as Clashed, NoMemory}
use Rattle.bucket_ranges.specs.Reading.{Reading}
use Rattle.reading_texts.specs.Families.{FamilyMember, first_clash, IsFirstClashOf}

-- a member as the definition of families has it
abbrev pub member_view : Member → FamilyMember
member_view member = record { hist = histogram_view member.hist.now; family = member.family.items; labels = member.labels.items }

-- a clash as both names
abbrev pub clash_view : Clash → List ℕ × List ℕ
clash_view clash = (clash.first.now, clash.second.now)

-- a fault names the first clash of members; running out of memory has no cause in them
abbrev pub IsClashOf : List FamilyMember → FamilyFault → Type 0
IsClashOf members (Clashed first second) = first_clash members ≡ Some (first.items, second.items)
IsClashOf members NoMemory = ⊤

-- a fault names the first clash of a reading; running out of memory has no cause there
abbrev pub IsCauseIn : List (List ℕ × List ℕ) → Reading → FamilyFault → Type 0
IsCauseIn line_labels reading (Clashed first second) = IsFirstClashOf line_labels reading first.items second.items
IsCauseIn line_labels reading NoMemory = ⊤

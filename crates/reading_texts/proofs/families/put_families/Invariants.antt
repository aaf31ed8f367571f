use Rattle.std.proofs.Common.{◌≡◌, ◌++◌, map, take}
use Rattle.std.specs.List.{flat_map}
use Rattle.bucket_ranges.specs.Reading.{first_of_each}
use Rattle.reading_texts.specs.Members.{member_view}
use Rattle.reading_texts.specs.Families.{same_family}
use Rattle.reading_texts.specs.FamilyLines.{lines_with}
use Rattle.reading_texts.proofs.families.put_families.Given as goal

abbrev pub invariant-loop-i : goal.invariant-loop-i
invariant-loop-i l =
    l.text.items ≡ l.initial.text.items
    ++ flat_map (lines_with l.prefix (map member_view l.members)) (first_of_each same_family (map member_view (take l.i l.members)))

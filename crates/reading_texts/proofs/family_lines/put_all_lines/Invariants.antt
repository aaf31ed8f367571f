use Rattle.std.proofs.Common.{◌≡◌, ◌++◌, take}
use Rattle.std.specs.List.{flat_map}
use Rattle.reading_texts.specs.Members.{member_view}
use Rattle.reading_texts.specs.FamilyLines.{lines_of, of_family}
use Rattle.reading_texts.proofs.family_lines.put_all_lines.Given as goal

abbrev pub invariant-loop-member : goal.invariant-loop-member
invariant-loop-member l =
    l.text.items ≡ l.initial.text.items ++ flat_map (λ member. of_family (member_view l.one) (lines_of l.lines l.name) (member_view member)) (take l.member-index l.members)

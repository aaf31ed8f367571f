use Rattle.std.proofs.Common.{◌∙◌, List, ℕ, [], ◌∷◌, ◌++◌, ap, map}
use Rattle.std.specs.Prelude.{codes}
use Rattle.std.specs.List.{flat_map, filter}
use Rattle.reading_texts.specs.Exporting.{joined, heading_text}
use Rattle.reading_texts.specs.Members.{member_view}
use Rattle.reading_texts.specs.Families.{FamilyMember, same_family}
use Rattle.reading_texts.specs.FamilyLines.{values_lines, sum_line}
use Rattle.reading_texts.proofs.Adding.{written-both}
use Rattle.reading_texts.proofs.family_lines.put_sparse_family.Goals as goal

pub returns : goal.returns
returns c =
    let name = c.args.name.now in
    let before : List ℕ = c.args.text.now.items in
    let members : List FamilyMember = filter (same_family (member_view c.args.one.now)) (map member_view c.args.members.now) in
    let head : List ℕ = heading_text name (codes "Units of each value of a sparse histogram.") (codes "untyped") in
    let values : List ℕ = flat_map (values_lines name) members in
    let behind : List ℕ = heading_text (name ++ codes "_sum") (codes "Sum of the values of a sparse histogram, which may fall.") (codes "untyped") in
    let all : List ℕ = flat_map (sum_line name) members in
    let sums = c.in_ok-put_parts.ensures ∙ ap (λ s. s ++ joined (name ∷ codes "_sum" ∷ [])) c.new-sums.ensures.items in
    let second = rw (c.deref.ensures.value, sums) at c.in_ok-put_heading-2.ensures in
    written-both before ((head ++ values) ++ behind) all
    (written-both before (head ++ values) behind (written-both before head values c.in_ok-put_heading.ensures c.in_ok-put_all_lines.ensures) second)
    c.in_ok-put_all_lines-2.ensures

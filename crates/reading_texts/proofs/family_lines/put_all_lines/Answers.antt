use Rattle.std.proofs.Common.{◌≡◌, ◌∙◌, ◌++◌, ap, map, subst}
use Rattle.image_reader.specs.Readable.{IsReadable}
use Rattle.reading_texts.specs.Members.{member_view}
use Rattle.reading_texts.specs.FamilyLines.{lines_of, of_family}
use Rattle.reading_texts.proofs.Adding.{All-image_at, written-all, written-more}
use Rattle.reading_texts.proofs.Filtered.{of_family-all}
use Rattle.reading_texts.proofs.family_lines.put_all_lines.Goals as goal

pub returns : goal.returns
returns c =
    written-all (of_family (member_view c.args.one.now) (lines_of c.args.lines c.args.name.now)) member_view c.args.members.now c.loop-member.member-index c.args.text.now.items
    c.loop-member-test.false c.loop-member.invariant
    ∙ ap (λ s. c.args.text.now.items ++ s) (of_family-all (member_view c.args.one.now) (lines_of c.args.lines c.args.name.now) (map member_view c.args.members.now))

pub put_lines_within-requires : goal.put_lines_within-requires
put_lines_within-requires c =
    All-image_at (λ member. IsReadable member.hist) member_view c.args.members.now c.loop-member.member-index c.member-item.result c.requires c.loop-member-test.true
    c.member-item.is

pub loop-member-preserved : goal.loop-member-preserved
loop-member-preserved c =
    let put = of_family (member_view c.args.one.now) (lines_of c.args.lines c.args.name.now) in
    written-more (λ member. put (member_view member)) c.args.members.now c.loop-member.member-index c.member-item.result c.args.text.now.items
    c.loop-member-test.true c.loop-member.invariant
    (subst (λ one. c.put_lines_within.new.text.items ≡ c.loop-member.text.items ++ put (member_view one)) c.member-item.is c.in_ok-put_lines_within.ensures)

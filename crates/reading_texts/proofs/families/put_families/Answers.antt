use Rattle.std.proofs.Common.{◌≡◌, ◌∙◌, ◌++◌, [], ap, sym, map, rules, false, true}
use Rattle.std.proofs.lemmas.List.{append-nil}
use Rattle.std.specs.Prelude.{if◌then◌else◌}
use Rattle.reading_texts.specs.Members.{member_view}
use Rattle.reading_texts.specs.FamilyLines.{lines_with}
use Rattle.reading_texts.proofs.Filtered.{firsts-written}
use Rattle.reading_texts.proofs.families.put_families.Goals.{then-not-has_family+in_ok-put_family, else-not-has_family}
use Rattle.reading_texts.proofs.families.put_families.Goals as goal

pub loop-i-preserved : goal.loop-i-preserved
loop-i-preserved c =
    let lines = lines_with c.args.prefix.now (map member_view c.args.members.now) in
    let written = firsts-written member_view lines c.args.members.now c.loop-i.i c.index-members-i.result c.has_family.result c.args.text.now.items
    c.loop-i-test.true c.index-members-i.is c.has_family.ensures c.loop-i.invariant in
    elim c.if-not-has_family.branch [
      | then-not-has_family+in_ok-put_family w ↦
          let found : c.has_family.result ≡ false = search rules in
          written
          (rw w.text-is w.in_ok-put_family.ensures
          ∙ ap (λ b. c.loop-i.text.items ++ (if b then [] else lines (member_view c.index-members-i.result))) (sym found))
      | else-not-has_family w ↦
          let found : c.has_family.result ≡ true = search rules in
          written
          (rw w.text-is (sym (append-nil c.loop-i.text.items))
          ∙ ap (λ b. c.loop-i.text.items ++ (if b then [] else lines (member_view c.index-members-i.result))) (sym found))
    ]

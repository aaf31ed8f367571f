use Rattle.std.proofs.Common.{◌≡◌, ◌∙◌, [], ◌∷◌, ◌++◌, ap, sym, true}
use Rattle.std.specs.Prelude.{codes}
use Rattle.reading_texts.specs.Exporting.{joined, is_sparse}
use Rattle.reading_texts.specs.Members.{member_view}
use Rattle.reading_texts.proofs.family_lines.put_family.Goals as goal

pub returns-then-is_sparse : goal.returns-then-is_sparse
returns-then-is_sparse c =
    let one = member_view c.args.one.now in
    let parts = rw c.deref.ensures.value at c.in_ok-put_parts.ensures in
    let name = parts ∙ ap (λ s. s ++ joined (c.args.prefix.now ∷ codes "_" ∷ one.family ∷ [])) c.new-name.ensures.items in
    let sparse : is_sparse one.hist.spec ≡ true = sym c.is_sparse.ensures ∙ c.if-is_sparse.true in
    rw sparse (rw (c.deref-then-is_sparse.ensures.value, name) at c.put_sparse_family.ensures)

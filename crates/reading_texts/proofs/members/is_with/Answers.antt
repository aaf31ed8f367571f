use Rattle.std.proofs.Common.{◌∙◌, ◌≤◌, ◌&&◌, ap, sym, arith, length, drop}
use Rattle.std.specs.Str.{bytes_eq}
use Rattle.reading_texts.proofs.Filtered.{with-parts}
use Rattle.reading_texts.proofs.members.is_with.Goals as goal

pub returns-then-eq : goal.returns-then-eq
returns-then-eq c =
    let family = c.args.family.now in
    let other = c.args.other.now in
    let suffix = c.args.suffix.now in
    let within : length other ≤ length family = omega (arith, c.if-family-other.false) in
    let first = sym (rw c.split_at.ensures.front at c.eq.ensures) ∙ c.if-eq.true in
    let last = rw c.split_at.ensures.back at c.eq-then-eq.ensures in
    last ∙ sym (with-parts family other suffix within ∙ ap (λ b. b && bytes_eq (drop (length other) family) suffix) first)

pub returns-else-eq : goal.returns-else-eq
returns-else-eq c =
    let family = c.args.family.now in
    let other = c.args.other.now in
    let suffix = c.args.suffix.now in
    let within : length other ≤ length family = omega (arith, c.if-family-other.false) in
    let first = sym (rw c.split_at.ensures.front at c.eq.ensures) ∙ c.if-eq.false in
    c.if-eq.false ∙ sym (with-parts family other suffix within ∙ ap (λ b. b && bytes_eq (drop (length other) family) suffix) first)

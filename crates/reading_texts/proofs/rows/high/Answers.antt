use Rattle.std.proofs.Common.{◌+◌, ◌∙◌, ap, sym, length, arith, rules, List, ℤ, ℕ, get_or, pos}
use Rattle.std.specs.Prelude.{◌+ℤ◌}
use mir.Syntax.{w32, w64}
use mir.Val.{SFits}
use Rattle.std.proofs.lemmas.Int.{to_z-of_z}
use Rattle.reading_texts.specs.Rows.{highs_of}
use Rattle.reading_texts.proofs.Buckets.{bucket_behind, has_behind, value_behind}
use Rattle.reading_texts.proofs.rows.high.Goals as goal

pub high-requires : goal.high-requires
high-requires c =
    let within = has_behind c.args.hist.now.spec c.args.hist.now.counts.items c.args.i c.requires.readable.lawful c.in_default.not-Sparse
    c.requires.readable.counted c.requires.within in
    omega (arith, within, ap length c.requires.ranges)

pub returns-in-Sparse : goal.returns-in-Sparse
returns-in-Sparse c =
    let fits : SFits w32 c.index.result.now.0 = search rules in
    let whole : SFits w64 c.behind.result = search rules in
    to_z-of_z w64 c.behind.result whole
    ∙ (c.behind.ensures
    ∙ (ap (λ (z : ℤ). z +ℤ pos 1) (to_z-of_z w32 c.index.result.now.0 fits)
    ∙ (sym (value_behind c.args.hist.now.counts.items c.args.i c.index.result.now c.requires.within c.index.ensures)
    ∙ ap (λ spec. get_or (highs_of spec c.args.hist.now.counts.items) c.args.i (pos 0)) (sym c.in-Sparse.is))))

pub returns-in_default : goal.returns-in_default
returns-in_default c =
    let within = has_behind c.args.hist.now.spec c.args.hist.now.counts.items c.args.i c.requires.readable.lawful c.in_default.not-Sparse
    c.requires.readable.counted c.requires.within in
    let whole : SFits w64 c.from.result = search rules in
    let half : SFits w32 c.high.result = search rules in
    to_z-of_z w64 c.from.result whole
    ∙ (c.from.ensures
    ∙ (to_z-of_z w32 c.high.result half
    ∙ (c.high.ensures
    ∙ (ap (λ (bs : List ℕ). pos (get_or bs (c.args.i + 1) 0)) c.requires.ranges
    ∙ sym (bucket_behind c.args.hist.now.spec c.args.hist.now.counts.items c.args.i c.in_default.not-Sparse within)))))

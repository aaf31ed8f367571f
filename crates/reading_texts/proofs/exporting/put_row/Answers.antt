use Rattle.std.proofs.Common.{◌∙◌, [], ◌∷◌, ◌++◌, ap, sym, arith, rules}
use mir.Syntax.{w64}
use mir.Val.{SFits}
use Rattle.std.specs.Prelude.{codes}
use Rattle.std.specs.Fmt.{decimal, signed_decimal}
use Rattle.std.proofs.lemmas.Int.{to_z-of_z}
use Rattle.std.proofs.lemmas.List.{append-nil}
use Rattle.std.proofs.lemmas.Int.{ints}
use Rattle.reading_texts.specs.Labels.{quoted}
use Rattle.reading_texts.proofs.Adding.{joined-more}
use Rattle.reading_texts.proofs.Rendered.{quoted-number}
use Rattle.reading_texts.proofs.exporting.put_row.Goals as goal

pub returns : goal.returns
returns c =
    let first = c.args.text.now.items in
    let start = c.args.start.now in
    let number = quoted (signed_decimal c.args.number) in
    let units = decimal c.args.units in
    let fits : SFits w64 c.args.number = search rules in
    let plain = quoted-number c.args.number (omega (arith, ints, fits)) in
    let a = c.in_ok-extend_from_slice.ensures.items ∙ ap (λ s. first ++ s) (sym (append-nil start)) in
    let numbered = rw (c.as_bytes.ensures.value, c.format.ensures.text, to_z-of_z w64 c.args.number fits, ← plain) at c.in_ok-extend_from_slice-2.ensures.items in
    let counted = rw (c.as_bytes-2.ensures.value, c.format-2.ensures.text) at c.in_ok-extend_from_slice-4.ensures.items in
    let b = joined-more first (start ∷ []) number a numbered in
    let d = joined-more first (start ∷ number ∷ []) (codes "\"} ") b c.in_ok-extend_from_slice-3.ensures.items in
    let e = joined-more first (start ∷ number ∷ codes "\"} " ∷ []) units d counted in
    joined-more first (start ∷ number ∷ codes "\"} " ∷ units ∷ []) (codes "\n") e c.in_ok-push.ensures.items

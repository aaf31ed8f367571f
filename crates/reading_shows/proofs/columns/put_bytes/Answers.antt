use Rattle.std.proofs.Common.{◌≡◌, ◌∙◌, ◌+◌, ◌-◌, ◌++◌, ap, sym, length, replicate, vec_len, arith}
use Rattle.std.proofs.lemmas.List.{take_all}
use Rattle.reading_shows.proofs.Cells.{times-byte}
use Rattle.reading_shows.proofs.columns.put_bytes.Goals as goal

pub returns : goal.returns
returns c =
    let first = c.args.text.now.items in
    let len = c.in-Some.len in
    let is : len ≡ length first + c.args.count = omega (arith, c.in-Some.ensures, c.len.ensures) in
    let more : len - vec_len c.args.text.now ≡ c.args.count = omega (arith, c.in-Some.ensures, c.len.ensures) in
    c.in_ok-resize.ensures.items
    ∙ (ap (λ s. s ++ replicate (len - vec_len c.args.text.now) c.args.byte) (take_all len first (omega (arith, is)))
    ∙ ap (λ s. first ++ s) (ap (λ n. replicate n c.args.byte) more ∙ sym (times-byte c.args.count c.args.byte)))

use Rattle.std.proofs.Common.{◌≡◌, ◌-◌, ℤ, w64, to_z, of_z, ap, vec_len, arith, rules}
use Rattle.hist_core.specs.declared.entry.Taken.{Taken}
use Rattle.hist_core.proofs.DeltaCall.Deltas.{last_set_at}
use Rattle.hist_core.proofs.drawing.draw_sum.Goals as goal

pub returns : goal.returns
returns c =
    let list = c.args.taken.now in let last = c.index_mut.result.now in
    let whole : to_z w64 (of_z w64 c.args.sum) ≡ c.args.sum = search rules in
    let now : Taken = record last { sum = to_z w64 (of_z w64 c.args.sum) } in
    let parts = last_set_at list.items (vec_len list) (c.len-last.result - 1) last now list.ok.0 (omega (arith, c.len-last.ensures)) (omega (arith, c.requires.some)) c.index_mut.ensures.value in
    (parts.0, last, now, parts.1, parts.2, ap (λ (z : ℤ). record last { sum = z }) whole)

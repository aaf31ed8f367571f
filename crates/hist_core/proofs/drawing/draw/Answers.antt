use Rattle.segment_invariant.proofs.Prelude.Std.{◌≡◌, ◌-◌, ℤ, w32, to_z, of_z, rules, length, refl, subst, ap, ◌∙◌, vec_len, arith, some, get_elem?}
use Rattle.hist_core.specs.declared.entry.Taken.{Taken}
use Rattle.hist_core.specs.DeltaCall.{insert_by_key}
use Rattle.hist_core.proofs.Worlds.WorldStates.{is_there}
use Rattle.hist_core.proofs.DeltaCall.Deltas.{last_set_at}
use Rattle.hist_core.proofs.drawing.draw.Goals as goal

pub list_by_key-requires : goal.list_by_key-requires
list_by_key-requires c =
    let list = c.args.taken.now in let last = c.index_mut.result.now in
    let at = is_there list.items (vec_len list) (c.len-last.result - 1) last list.ok.0 (omega (arith, c.len-last.ensures, c.requires.some)) c.index_mut.ensures.value in
    let same : c.len-last.result - 1 ≡ length list.items - 1 = (let ok = list.ok.0 in omega (arith, ok, c.len-last.ensures)) in
    c.requires.room last (subst (λ n. get_elem? list.items n ≡ some last) same at)

pub returns : goal.returns
returns c =
    let list = c.args.taken.now in let last = c.index_mut.result.now in
    let whole : to_z w32 (of_z w32 c.args.key) ≡ c.args.key = search rules in
    let now : Taken = record last { counts = c.list_by_key.new.counts } in
    let parts = last_set_at list.items (vec_len list) (c.len-last.result - 1) last now list.ok.0 (omega (arith, c.len-last.ensures)) (omega (arith, c.requires.some)) c.index_mut.ensures.value in
    (parts.0, last, now, parts.1, parts.2, (refl, c.list_by_key.ensures.items ∙ ap (λ (k : ℤ). insert_by_key (k, c.args.units) last.counts.items) whole, c.list_by_key.ensures.room))

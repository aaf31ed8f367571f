use Rattle.std.proofs.Common.{◌≡◌, ◌++◌, ◌∷◌, [], ℕ, ℤ, pos, map, get_or, sym, ap, ◌∙◌, rules, to_z, of_z, w32}
use Rattle.std.proofs.lemmas.List.{map-append, map_more}
use Rattle.segment_machine.specs.Entry.{item_entry, key_of}
use Rattle.hist_core.specs.ActorRun.{entry_of as machine_entry}
use Rattle.hist_core.proofs.call_entries.batch_entries.Goals as goal

pub loop-value-preserved : goal.loop-value-preserved
loop-value-preserved c =
    let known = c.args.known.now in let items = c.args.items.now in let i = c.loop-value.value-index in
    let item : ℤ × ℕ = get_or items i (pos 0, 0) in
    let value_held : to_z w32 (of_z w32 item.0) ≡ item.0 = search rules in
    let key_held : to_z w32 (of_z w32 c.key_of-key.result) ≡ c.key_of-key.result = search rules in
    let one : machine_entry c.in_ok-entry_of.field-0 ≡ item_entry known.name.items known.ranges item =
    c.in_ok-entry_of.ensures ∙ (λ j. record {
      name = known.name.items;
      key = (key_held ∙ (c.key_of-key.ensures ∙ ap (key_of known.ranges) value_held)) j;
      units = item.1;
      amount = pos 0;
    }) in
    ap (map machine_entry) c.in_ok-push.ensures.items
    ∙ (map-append machine_entry c.loop-value.entries.items (c.in_ok-entry_of.field-0 ∷ [])
    ∙ ((λ j. c.loop-value.invariant j ++ one j ∷ []) ∙ sym (map_more (item_entry known.name.items known.ranges) items i (pos 0, 0) c.loop-value-test.true)))

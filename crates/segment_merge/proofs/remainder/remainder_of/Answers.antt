use Rattle.std.proofs.Common.{◌∙◌, ◌-◌, ◌<◌, ◌≤◌, ℕ, ℤ, ◌∷◌, ◌++◌, [], length, vec_capacity, rules, arith, ap, sym}
use Rattle.std.proofs.lemmas.Bool.Decides.{nat_tests}
use Rattle.std.proofs.lemmas.List.{take_all}
use Rattle.std.proofs.lemmas.List.Elements.{All-contains}
use Rattle.std.specs.List.{filter_map}
use Rattle.segment_merge.specs.Remainder.{items_of, left_of, marked}
use Rattle.segment_merge.proofs.Items.{item_among, items_before-none, items_before-some, length-marked}
use Rattle.segment_merge.proofs.remainder.remainder_of.Goals as goal
use Rattle.segment_merge.proofs.remainder.remainder_of.Goals.{then-mark-units+in-Ok, else-mark-units}

-- more is left of a key than a segment has
pub returns-in_default-try_from : goal.returns-in_default-try_from
returns-in_default-try_from c = λ has.
    let h = c.args.histogram.now in
    let key : ℤ = c.index.result.now.0 in
    let units : ℕ = c.index.result.now.1 in
    let mark : ℕ = c.mark_beside-mark.result in
    let near : c.loop-i.i < length h.counts.items = omega (arith, c.loop-i-test.true) in
    let few = All-contains (λ (item : ℤ × ℕ). item.1 ≤ 4294967295) (items_of h.counts.items h.marks.items) (key, units - mark) has.few
    (item_among h.counts.items h.marks.items c.loop-i.i (key, units) key units mark near (sym c.index.ensures) (sym c.mark_beside-mark.ensures) (grind (arith, nat_tests))) in
    c.in_default-try_from.ensures (omega (arith, few))

pub loop-i-preserved : goal.loop-i-preserved
loop-i-preserved c =
    let h = c.args.histogram.now in
    let key : ℤ = c.index.result.now.0 in
    let units : ℕ = c.index.result.now.1 in
    let mark : ℕ = c.mark_beside-mark.result in
    let near : c.loop-i.i < length h.counts.items = omega (arith, c.loop-i-test.true) in
    elim c.if-mark-units.branch [
      | then-mark-units+in-Ok w ↦ record {
        items = ap (λ items. items.items) w.items-is ∙ w.push_reserved.ensures.items
            ∙ search rules
            ∙ ap (λ items. items ++ (key, units - mark) ∷ []) c.loop-i.invariant.items
            ∙ sym (items_before-some h.counts.items h.marks.items c.loop-i.i (key, units) key units mark near (sym c.index.ensures) (sym c.mark_beside-mark.ensures) (grind (arith, nat_tests)));
        few = omega (arith, ap (λ items. length items.items) w.items-is, ap length w.push_reserved.ensures.items, c.loop-i.invariant.few);
        room = omega (arith, ap vec_capacity w.items-is, w.push_reserved.ensures.capacity, c.loop-i.invariant.room);
      }
      | else-mark-units w ↦ record {
        items = ap (λ items. items.items) w.items-is ∙ c.loop-i.invariant.items
            ∙ sym (items_before-none h.counts.items h.marks.items c.loop-i.i (key, units) key units mark near (sym c.index.ensures) (sym c.mark_beside-mark.ensures) (grind (arith, nat_tests)));
        few = omega (arith, ap (λ items. length items.items) w.items-is, c.loop-i.invariant.few);
        room = omega (arith, ap vec_capacity w.items-is, c.loop-i.invariant.room);
      }
    ]

pub returns : goal.returns
returns c =
    let h = c.args.histogram.now in record {
      items = c.loop-i.invariant.items ∙ ap (filter_map left_of)
          (take_all c.loop-i.i (marked h.counts.items h.marks.items)
          (omega (arith, length-marked h.counts.items h.marks.items, c.loop-i-test.false)));
      sum = search rules;
    }

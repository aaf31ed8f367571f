use Rattle.std.proofs.Common.{◌∙◌, ◌++◌, ◌-◌, length, take, drop, option_map, ap, sym, rules, arith}
use Rattle.std.proofs.lemmas.List.{length-drop, length-take}
use Rattle.schedule.specs.Call.{items_in}
use Rattle.schedule.specs.Fields.{texts}
use Rattle.schedule.proofs.Items.{items_in-all, items_in-front, items_in-more, items_in-none, items_in-one}
use Rattle.schedule.proofs.call.read_items.Goals as goal

pub items-init : goal.items-init
items-init c = items_in-front c.new-items.result.items (items_in (texts c.args.behind.now)) c.new-items.ensures.items

pub returns-in_default-item_of : goal.returns-in_default-item_of
returns-in_default-item_of c =
    sym (c.items.invariant ∙ items_in-none c.items.items.items c.items.rest.now _ _ c.in-len2-up.len_at_least (sym c.item_of.ensures ∙ c.in_default-item_of.is))

pub items-smaller : goal.items-smaller
items-smaller c = omega (arith, length-take (length c.items.rest.now - 2) (drop 2 c.items.rest.now), length-drop 2 c.items.rest.now)

pub items-preserved : goal.items-preserved
items-preserved c =
    c.items.invariant ∙ items_in-more c.items.items.items c.items.rest.now _ _ c.in-Some.item c.in-len2-up.len_at_least (sym c.item_of.ensures ∙ c.in-Some.is)
    ∙ ap (λ so_far. option_map (λ more. so_far ++ more) (items_in (texts (take (length c.items.rest.now - 2) (drop 2 c.items.rest.now))))) (sym c.in_ok-push.ensures.items)

pub returns-then-is_empty : goal.returns-then-is_empty
returns-then-is_empty c = sym (c.items.invariant ∙ items_in-all c.items.items.items c.items.rest.now (search rules))

pub returns-else-is_empty : goal.returns-else-is_empty
returns-else-is_empty c = sym (c.items.invariant ∙ items_in-one c.items.items.items c.items.rest.now c.in_default.len_below (search rules))

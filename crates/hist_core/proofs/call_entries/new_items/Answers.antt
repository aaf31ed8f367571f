use Rattle.std.proofs.Common.{◌≡◌, ℕ, ℤ, List, pos, take, get_or, sym, subst, rules, to_z, of_z, w32, ◌+◌}
use Rattle.std.specs.List.{AllZip}
use Rattle.hist_core.specs.declared.add.Add.{Add}
use Rattle.hist_core.specs.Add.{IsStarted}
use Rattle.hist_core.specs.ActorRun.{known_of}
use Rattle.hist_core.proofs.Worlds.Zips.{zip_more}
use Rattle.hist_core.proofs.call_entries.new_items.Goals as goal

pub loop-value-preserved : goal.loop-value-preserved
loop-value-preserved c =
    let items = c.args.items.now in let i = c.loop-value.value-index in
    let item : ℤ × ℕ = get_or items i (pos 0, 0) in
    let value_held : to_z w32 (of_z w32 item.0) ≡ item.0 = search rules in
    let Starts : ℤ × ℕ → Add → Type 0 = λ item add. IsStarted c.args.shape c.args.version (known_of c.args.known.now) item.0 item.1 (pos 0) add in
    subst (λ (l : List Add). AllZip Starts (take (i + 1) items) l) (sym c.in_ok-push.ensures.items)
    (zip_more Starts items c.loop-value.adds.items i (pos 0, 0) c.start.result c.loop-value-test.true c.loop-value.invariant
    (subst (λ (v : ℤ). IsStarted c.args.shape c.args.version (known_of c.args.known.now) v item.1 (pos 0) c.start.result) value_held c.start.ensures))

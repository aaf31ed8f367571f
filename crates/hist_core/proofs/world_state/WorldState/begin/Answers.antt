use Rattle.segment_invariant.proofs.Prelude.Std.{◌≡◌, ℤ, w32, w64, to_z, of_z, List, ℕ, sym, subst, rules, Ok, ⊤, none, some}
use Rattle.hist_core.specs.WorldState.{AddBegins, BatchBegins, DeltaBegins, HistBegins, SnapshotBegins}
use Rattle.hist_core.specs.World.{BeginSays, BeginsCall, TakesMemory, named_by}
use Rattle.segment_calls.specs.declared.call.Call.{Call}
use Rattle.hist_core.proofs.world_state.WorldState.begin.Goals as goal

pub returns-in-Add : goal.returns-in-Add
returns-in-Add c =
    let old = c.args.self.now in let new = c.begin_add.new.self in let result = c.begin_add.result in
    subst (λ (call : Call). BeginsCall c.args.actor (named_by call) (TakesMemory call) (BeginSays c.args.actor call old new) old result new) (sym c.in-Add.is)
    (subst (λ (p : List ℕ × ℤ). BeginsCall c.args.actor (some p.0) ⊤ (AddBegins c.args.actor p.0 p.1 c.in-Add.count old new) old result new)
    (λ i. (c.deref-in-Add.ensures.value i, (let held : to_z w32 (of_z w32 c.in-Add.value) ≡ c.in-Add.value = search rules in held i))) c.begin_add.ensures)

pub returns-in-Hist : goal.returns-in-Hist
returns-in-Hist c =
    let old = c.args.self.now in let new = c.begin_hist.new.self in let result = c.begin_hist.result in
    subst (λ (call : Call). BeginsCall c.args.actor (named_by call) (TakesMemory call) (BeginSays c.args.actor call old new) old result new) (sym c.in-Hist.is)
    (subst (λ (name : List ℕ). BeginsCall c.args.actor none ⊤ (λ said. HistBegins c.args.actor name c.in-Hist.spec old new (Ok said)) old result new)
    c.deref.ensures.value c.begin_hist.ensures)

pub returns-in-Delta : goal.returns-in-Delta
returns-in-Delta c =
    let old = c.args.self.now in let new = c.begin_delta.new.self in let result = c.begin_delta.result in
    subst (λ (call : Call). BeginsCall c.args.actor (named_by call) (TakesMemory call) (BeginSays c.args.actor call old new) old result new) (sym c.in-Delta.is)
    (subst (λ (name : List ℕ). BeginsCall c.args.actor (some name) ⊤ (DeltaBegins c.args.actor name old new) old result new) c.deref-in-Delta.ensures.value
    c.begin_delta.ensures)

pub returns-in-Snapshot : goal.returns-in-Snapshot
returns-in-Snapshot c =
    let old = c.args.self.now in let new = c.begin_snapshot.new.self in let result = c.begin_snapshot.result in
    subst (λ (call : Call). BeginsCall c.args.actor (named_by call) (TakesMemory call) (BeginSays c.args.actor call old new) old result new) (sym c.in-Snapshot.is)
    (subst (λ (name : List ℕ). BeginsCall c.args.actor (some name) ⊤ (SnapshotBegins c.args.actor name old new) old result new) c.deref-in-Snapshot.ensures.value
    c.begin_snapshot.ensures)

pub returns-in-Batch : goal.returns-in-Batch
returns-in-Batch c =
    let old = c.args.self.now in let new = c.begin_batch.new.self in let result = c.begin_batch.result in
    subst (λ (call : Call). BeginsCall c.args.actor (named_by call) (TakesMemory call) (BeginSays c.args.actor call old new) old result new) (sym c.in-Batch.is)
    (subst (λ (p : List ℕ × List (ℤ × ℕ) × ℤ). BeginsCall c.args.actor (some p.0) ⊤ (BatchBegins c.args.actor p.0 p.1 p.2 old new) old result new)
    (λ i. (c.deref-in-Batch.ensures.value i, c.deref-in-Batch-2.ensures.value i, (let held : to_z w64 (of_z w64 c.in-Batch.sum) ≡ c.in-Batch.sum = search rules in held i)))
    c.begin_batch.ensures)

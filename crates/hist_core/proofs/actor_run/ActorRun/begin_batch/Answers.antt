use Rattle.segment_invariant.proofs.Prelude.Std.{◌≡◌, pos, refl, sym, subst, ◌∙◌, w64, to_z, of_z, to_z-of_z, some-injective}
use Rattle.std.specs.List.{AllZip}
use Rattle.hist_core.specs.Add.{IsStarted}
use Rattle.segment_machine.specs.Entry.{batch_entries}
use Rattle.hist_core.specs.declared.batch.Batch.{Batch}
use Rattle.hist_core.specs.declared.hist.KnownHist.{KnownHist}
use Rattle.hist_core.specs.ActorRun.{known_of}
use Rattle.hist_core.proofs.actor_run.ActorRun.begin_batch.Goals as goal

pub returns-clause-begins : goal.returns-clause-begins
returns-clause-begins c = λ known at.
    let here = c.known_at-known.result.now in let items = c.args.items.now in
    let same : here ≡ known = some-injective here known (sym c.known_at-known.ensures.at ∙ at) in
    let sum_held : to_z w64 (of_z w64 c.args.sum) ≡ c.args.sum = to_z-of_z w64 c.args.sum c.ranges.sum in
    let ranges_are = (λ j. (same j).ranges) ∙ c.requires.ranges known at in
    let call : Batch = record {
      histogram = here.reference;
      items = c.in_ok-new_items.field-0;
      added = 0;
      sum = to_z w64 (of_z w64 c.args.sum);
      cost = c.args.cost;
      left = c.args.cost;
    } in
    record {
      call = call;
      started = subst (λ (k : KnownHist). AllZip (λ item add. IsStarted c.args.shape c.args.version (known_of k) item.0 item.1 (pos 0) add) items c.in_ok-new_items.field-0.items) same
          c.in_ok-new_items.ensures;
      fresh = λ j. record call { histogram = (same j).reference; sum = sum_held j };
      begins = record {
        pending = c.in_ok-entries.entries.items;
        pending_are = c.in_ok-entries.ensures ∙ (λ j. batch_entries (same j).name.items (ranges_are j) items (sum_held j));
        entries_are = c.in_ok-append.ensures.items;
        is = refl;
      };
    }

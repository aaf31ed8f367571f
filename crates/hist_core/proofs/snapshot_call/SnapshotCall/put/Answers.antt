use Rattle.segment_invariant.proofs.Prelude.Std.{ℕ, ℤ, refl, sym, ap, inl, inr, ⊎_elim, length-set, at_set}
use Rattle.std.proofs.Math.Seq.{map-set_same}
use Rattle.hist_core.proofs.snapshot_call.SnapshotCall.put.Goals as goal

pub returns : goal.returns
returns c =
    let totals = c.args.self.now.totals.items in record {
      same = refl;
      long = length-set totals c.args.bucket _;
      keys = map-set_same (λ (total : ℤ × ℕ). total.0) totals c.args.bucket _ c.index_mut.result.now (ap (λ (total : ℤ × ℕ). total.0) c.index_mut.ensures.value);
      units = λ i x there.
          ⊎_elim
          (λ (is, same). inl (is, ap (λ (total : ℤ × ℕ). total.1) (sym same)))
          (λ other. inr other)
          (at_set totals c.args.bucket i _ x there);
    }

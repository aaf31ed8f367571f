use Rattle.std.proofs.Common.{◌≡◌, ◌<◌, ◌-◌, slice_index, ℕ, List, length, arith, ap, sym, subst, ◌∙◌}
use Rattle.std.proofs.lemmas.List.{length_push}
use Rattle.bucket_ranges.specs.Ranges.{AreValues, IsAscending, inner_boundary}
use Rattle.bucket_ranges.proofs.Boundaries.{values-push, so_far-push, so_far-last}
use Rattle.bucket_ranges.proofs.Ascent.{linear_boundaries-ascending, linear_boundaries-ends}
use Rattle.bucket_ranges.proofs.ranges.linear.Goals as goal

-- The boundary of this turn goes after those so far.
pub loop-i-preserved : goal.loop-i-preserved
loop-i-preserved c =
    let pushed = c.in_ok-push-2.ensures.items in
    record {
      so_far = ◌∙◌ {A = List ℕ} pushed
          (so_far-push (inner_boundary c.args.min c.args.max c.args.n) c.loop-i.i _ _ (omega arith)
          c.loop-i.invariant.so_far c.inner_boundary.ensures.value);
      len = ◌∙◌ {A = ℕ} (ap length pushed) (omega (arith, length_push c.loop-i.boundaries.items c.inner_boundary.result));
      small = subst AreValues (sym pushed)
          (values-push _ _ c.loop-i.invariant.small (omega (arith, c.inner_boundary.ensures.small)));
    }

-- The last boundary is 2,147,483,647, and the boundaries are all of the spec's.
pub invariant_of-result : goal.invariant_of-result
invariant_of-result c =
    let pushed = c.in_ok-push-3.ensures.items in
    let all = so_far-last (inner_boundary c.args.min c.args.max c.args.n) c.args.n c.loop-i.i _ (omega arith)
    c.loop-i.invariant.so_far in
    record {
      few = omega (arith, ap length pushed, length_push c.loop-i.boundaries.items 2147483647, c.loop-i.invariant.len, c.requires.many);
      small = subst AreValues (sym pushed) (values-push _ 2147483647 c.loop-i.invariant.small (omega arith));
      ascending = subst IsAscending (sym (◌∙◌ {A = List ℕ} pushed all))
          (linear_boundaries-ascending c.args.min c.args.max c.args.n c.requires);
      ends = subst (λ (xs : List ℕ). 0 < length xs → (slice_index xs 0 ≡ 0) × (slice_index xs (length xs - 1) ≡ 2147483647))
          (sym (◌∙◌ {A = List ℕ} pushed all)) (linear_boundaries-ends c.args.min c.args.max c.args.n c.requires);
    }

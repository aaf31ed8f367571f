-- Only the bucket of a value has the value's key.
use Rattle.std.proofs.Common.{◌≡◌, ℕ, ◌<◌, true, ℤ, pos, List, subst, w32, of_z, to_z, FitsSigned, sym, ap, ◌∙◌, None}
use Rattle.bucket_ranges.specs.declared.spec.Spec.{Spec}
use Rattle.bucket_ranges.specs.Ranges.{boundaries_of, clamped, IsBucketOf}
use Rattle.bucket_ranges.specs.Spec.{buckets_of, spec_fault}
use Rattle.segment_machine.specs.declared.actor.Known.{Known}
use Rattle.segment_machine.specs.Actor.{has_buckets}
use Rattle.segment_promises.proofs.Calls.SpecBuckets.{apart, below, key_is, found_is as found_at_run_time}
use Rattle.live_segment.specs.Add.Finish.{item_of}
use Rattle.live_segment.specs.Steps.GhostNotes.{bucket_entry}
use Rattle.segment_machine.specs.Entry.{key_of}
use Rattle.segment_invariant.specs.Ledger.{key_of_bucket}
use Rattle.segment_invariant.proofs.Consistency.Keys.{one_key}

-- no other bucket has the key of a value
pub one_bucket : (spec : Spec) (lawful : spec_fault spec ≡ None) (bucketed : has_buckets spec ≡ true) (value : ℤ) (bucket : ℕ)
    → IsBucketOf (boundaries_of spec) (clamped value) bucket → (other : ℕ) → other < buckets_of spec
    → key_of_bucket spec other ≡ key_of (boundaries_of spec) value → other ≡ bucket
one_bucket spec lawful bucketed value bucket is other within same =
    one_key spec other bucket lawful (apart spec lawful bucketed) within (below spec lawful bucketed value bucket is)
    (same ∙ key_is spec lawful bucketed value bucket is)

-- units of that bucket are units of the value
pub item_is : (known : Known) (lawful : spec_fault known.spec ≡ None) (bucketed : has_buckets known.spec ≡ true) (value : ℤ) (bucket units : ℕ)
    → IsBucketOf (boundaries_of known.spec) (clamped value) bucket → bucket_entry known bucket units ≡ item_of known value units
item_is known lawful bucketed value bucket units is =
    ap (λ (key : ℤ). record { name = known.name; key = key; units = units; amount = pos 0 }) (sym (key_is known.spec lawful bucketed value bucket is))

-- the bucket that was found for a value is the value's
pub found_is : (spec : Spec) (ranges : List ℕ) (value : ℤ) (bucket : ℕ) → ranges ≡ boundaries_of spec → FitsSigned w32 value
    → IsBucketOf ranges (clamped (to_z w32 (of_z w32 value))) bucket → IsBucketOf (boundaries_of spec) (clamped value) bucket
found_is spec ranges value bucket are fits is =
    subst (λ (l : List ℕ). IsBucketOf l (clamped value) bucket) are (found_at_run_time ranges value bucket fits is)

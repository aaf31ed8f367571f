use Rattle.std.proofs.Common.{◌≡◌, ◌≢◌, ◌+◌, ◌<◌, ℕ, zero, suc, [], ◌∷◌, Contains, sym, ap, subst, true, true≢false, ⊎_elim, arith}
use Rattle.bucket_ranges.specs.Spec.{buckets_of}
use Rattle.bucket_ranges.specs.declared.spec.Spec.TheVariants as spec
use Rattle.alloc_core.specs.Event as atomic
use Rattle.segment_machine.specs.declared.actor.Known.{Known}
use Rattle.segment_machine.specs.declared.place.Look.{Look}
use Rattle.segment_machine.specs.declared.place.Place.{Place}
use Rattle.segment_machine.specs.declared.place.Place.TheVariants.{CountLoaded}
use Rattle.segment_machine.specs.Operation.{single}
use Rattle.segment_machine.specs.Actor.{Buckets, has_buckets}
use Rattle.segment_machine.specs.Calls.{nothing_of}
use Rattle.segment_machine.specs.Taking.{TakingEvent, operation, load_count, raise_mark, raise_single_mark, load_sum, swap_sum_mark, load_redundant}
use Rattle.segment_machine.specs.Examples.{known_a, letter_s}
use Rattle.segment_machine.specs.Refused.{look, loaded}
use Rattle.segment_machine.proofs.laws.marks_rise.Goals as goal

abbrev look_in : Place → Look
look_in (CountLoaded look bucket count) = look
look_in _ = nothing_of 0

abbrev known_s : Known
known_s = record { name = letter_s; spec = spec.Sparse; reference = 40 }

-- the histograms that it knows have three buckets at most
three : (known : Known) → Contains (known_a ∷ known_s ∷ []) known → has_buckets known.spec ≡ true → buckets_of known.spec ≡ 3
three known (zero, below, is) has = ap (λ (k : Known). buckets_of k.spec) (sym is)
three known (suc zero, below, is) has =
    absurd (true≢false (sym (subst (λ (k : Known). has_buckets k.spec ≡ true) (sym is) has)))
three known (suc (suc k), below, is) has = absurd (omega (arith, below))

past : (seen : Look) (known : Known) (bucket b count : ℕ) → CountLoaded (look 9223372036854775809 32) 0 3 ≡ CountLoaded seen b count
    → Buckets (loaded 0 3) seen.histogram known → bucket < buckets_of known.spec → 39 ≡ seen.counts + 4 + bucket → ⊥
past seen known bucket b count is (there, at, has) below here =
    let counts : 32 ≡ seen.counts = ap (λ (place : Place). (look_in place).counts) is in
    let most = three known there has in
    omega (arith, counts, most, below, here)

stores_none : (size version at value : ℕ) (event : TakingEvent) → operation size version event ≢ single (atomic.store at value)
stores_none size version at value (load_count word) e = cc e
stores_none size version at value (raise_mark word least) e = cc e
stores_none size version at value (raise_single_mark histogram least) e = cc e
stores_none size version at value (load_sum histogram) e = cc e
stores_none size version at value (swap_sum_mark histogram sum) e = cc e
stores_none size version at value (load_redundant histogram) e = cc e

exchanges_none : (size version at old new : ℕ) (event : TakingEvent) → operation size version event ≢ single (atomic.exchange at old new)
exchanges_none size version at old new (load_count word) e = cc e
exchanges_none size version at old new (raise_mark word least) e = cc e
exchanges_none size version at old new (raise_single_mark histogram least) e = cc e
exchanges_none size version at old new (load_sum histogram) e = cc e
exchanges_none size version at old new (swap_sum_mark histogram sum) e = cc e
exchanges_none size version at old new (load_redundant histogram) e = cc e

pub returns : goal.returns
returns c = (
  λ t. ⊎_elim
      (λ bucket. ⊎_elim
      (λ off. cc off.0)
      (λ counts. past bucket.0 bucket.1 bucket.2 counts.0 counts.1 counts.2 counts.3 bucket.4 bucket.5)
      bucket.3)
      (λ sample. true≢false sample.8)
      t,
  stores_none,
  exchanges_none,
)

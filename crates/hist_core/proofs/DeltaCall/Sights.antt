-- Counts that an actor has loaded it has loaded still when it has seen more.
use Rattle.segment_invariant.proofs.Prelude.Std.{ℕ, ◌+◌, ◌*◌, ◌≤◌, sym, subst}
use Rattle.segment_invariant.proofs.Prelude.Machine.{buckets_of, Actor, Known}
use Rattle.segment_machine.specs.Form.{SaysPacked}
use Rattle.segment_promises.specs.Calls.{BeganBefore, SeesMore}
use Rattle.segment_promises.proofs.Calls.Sights.{began_still, saw_single, saw_word, version}
use Rattle.hist_core.specs.declared.mounted.Mounted.{Mounted}
use Rattle.hist_core.specs.Mounted.{AreMounted, StandsAt, look_at}

pub mounted_still : (a b : Actor) → SeesMore a b → BeganBefore a → (known : Known) (mounted : Mounted) (word : ℕ) → AreMounted known mounted word a
    → StandsAt b (look_at known mounted word) known → AreMounted known mounted word b
mounted_still a b sees began known mounted word are stands = record {
  began = began_still a b sees began;
  saw = saw_single a b sees began (known.reference + 9) word are.saw;
  off = are.off;
  says = subst (λ (v : ℕ). SaysPacked v (buckets_of known.spec) word mounted.packed mounted.kept) (sym (version a b sees began)) are.says;
  few = are.few;
  stands = stands;
  there = saw_word a b sees began (known.reference + 8) mounted.counts are.there;
  used = are.used;
  within = subst (λ s. mounted.counts + (4 + 2 * buckets_of known.spec) ≤ s.shape.size) (sym sees.segment) are.within;
}

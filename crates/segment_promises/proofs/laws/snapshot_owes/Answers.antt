use Rattle.segment_invariant.proofs.Prelude.Std.{pos, ◌≡◌, ℕ, ℤ, zero, suc, [], inl, refl, sym, subst, arith, some, some-injective, some-ne-none, get_elem?}
use Rattle.segment_invariant.proofs.Prelude.Machine.{Actor, Buckets, SawBucket}
use Rattle.segment_machine.specs.Actor.{SawSingle}
use Rattle.segment_machine.specs.Note.{SawAll}
use Rattle.segment_machine.specs.Examples.{known_a}
use Rattle.segment_promises.specs.Examples.{snaps, snapping, snapshot}
use Rattle.segment_machine.specs.Examples.{run}
use Rattle.segment_promises.proofs.laws.snapshot_owes.Goals as goal

-- after its events
abbrev done : Actor
done = run snaps snapping

knows : Buckets snaps 16 known_a
knows = ((0, omega arith, refl), refl, refl)

saw : SawSingle done 25 4294967298
saw = (0, omega arith, refl)

saw_bucket : (bucket : ℕ) (count : ℤ × ℕ) → get_elem? snapshot.counts bucket ≡ some count → SawBucket done known_a bucket count.1
saw_bucket zero count is =
    subst (λ (c : ℤ × ℕ). SawBucket done known_a 0 c.1) (some-injective _ count is) (4294967298, saw, inl (refl, refl))
saw_bucket (suc zero) count is =
    subst (λ (c : ℤ × ℕ). SawBucket done known_a 1 c.1) (some-injective _ count is) (4294967298, saw, inl (refl, refl))
saw_bucket (suc (suc zero)) count is =
    subst (λ (c : ℤ × ℕ). SawBucket done known_a 2 c.1) (some-injective _ count is) (4294967298, saw, inl (refl, refl))
saw_bucket (suc (suc (suc k))) count is = absurd (some-ne-none count (sym is))

saw_all : SawAll done known_a snapshot
saw_all = record {
  buckets = λ has. (refl, saw_bucket);
  samples = λ sparse. cc sparse;
  once = λ sparse. cc sparse;
  values = λ sparse. cc sparse;
  sum = refl;
  redundant = ([], refl);
}

pub returns : goal.returns
returns c = (
  ((refl, (known_a, knows)), ((refl, (known_a, (0, omega arith, refl), refl)), (((pos 2, refl), (known_a, (0, omega arith, refl), refl)), tt))),
  (known_a, (0, omega arith, refl), refl, saw_all, refl),
  refl,
  refl,
)

-- The delta of a packed word, of the worked examples.
use Rattle.std.proofs.Common.{ℕ, ◌<◌, [], inl, inr, refl, arith}
use Rattle.segment_machine.specs.declared.actor.Actor.{Actor}
use Rattle.segment_machine.specs.Actor.{SawSingle}
use Rattle.segment_machine.specs.Note.{TookAll, TookBucket}
use Rattle.segment_machine.specs.Examples.{takes_all, taking, run}
use Rattle.segment_machine.specs.Examples.{known_a}
use Rattle.segment_machine.proofs.SmallNumbers.{below_three}

-- after its events
abbrev pub done : Actor
done = run takes_all taking

pub saw : SawSingle done 25 4294967298
saw = (0, omega arith, refl)

took : (bucket : ℕ) → bucket < 3 → TookBucket done known_a bucket
took bucket below = below_three
    (TookBucket done known_a)
    (0, (4294967298, saw, inl (refl, refl)), inl refl)
    (2, (4294967298, saw, inl (refl, refl)), inr (26, 2, inl (4294967298, saw, refl, refl), (0, omega arith, refl), omega arith))
    (0, (4294967298, saw, inl (refl, refl)), inl refl)
    bucket
    below

pub took_all : TookAll done known_a
took_all = record {
  buckets = λ has bucket below. took bucket below;
  samples = λ sparse. cc sparse;
  summed = ([], _, refl, refl, refl);
}

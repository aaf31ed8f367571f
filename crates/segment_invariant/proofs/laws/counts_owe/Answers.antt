use Rattle.std.proofs.Common.{[], ◌∷◌, inl, inr, refl, arith}
use Rattle.bucket_ranges.specs.declared.spec.Spec.TheVariants as spec
use Rattle.segment_machine.specs.declared.actor.Actor.{Actor}
use Rattle.segment_machine.specs.Seats.{opener_of}
use Rattle.segment_invariant.specs.Body.{Record}
use Rattle.segment_machine.specs.Examples.{shape, letter_a}
use Rattle.segment_machine.specs.Examples.{known_a}
use Rattle.segment_invariant.proofs.laws.counts_owe.Goals as goal
use Rattle.segment_machine.specs.declared.actor.Role.TheVariants.{Opener}

-- the record that it looks at
abbrev r : Record
r = record {
  name = letter_a;
  spec = spec.Boolean;
  size = 16;
  next = 12;
  counts = 32;
  single = 9223372036854775809;
  mark = 0;
  sum = 2;
  sum_mark = 0;
  noted = 3;
  letters = 65 ∷ [];
  rest = [];
}

abbrev opener : Actor
opener = record (opener_of shape 1 1) { role = Opener 1 1 0 }

pub returns : goal.returns
returns c looks =
    let owes = looks.counted known_a 0 0 r (0, omega arith, refl) (omega arith) (1, refl) (λ e. omega (arith, e)) (0, omega arith, refl)
    (inr (inl (opener, refl, refl, refl))) in
    omega (arith, owes)

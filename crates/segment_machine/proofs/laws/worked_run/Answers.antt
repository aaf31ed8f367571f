use Rattle.std.proofs.Common.{true, List, [], ◌∷◌, ◌++◌, inl, refl, arith}
use Rattle.std.specs.Prelude.{pos, take}
use Rattle.std.proofs.lemmas.List.Elements.{All-nil}
use Rattle.segment_machine.specs.declared.actor.Taken.{Taken}
use Rattle.segment_machine.specs.Examples.{letter_a}
use Rattle.segment_machine.specs.Worked.{worked, actor_of, packing, mounting, sampling, batching, last_delta}
use Rattle.segment_machine.proofs.Runs.Reached.{is_state}
use Rattle.segment_machine.proofs.laws.worked_run.Goals as goal

-- the last of its deltas, and those before
abbrev before : List Taken
before = take 3 (actor_of (worked 1) 0).deltas.taken

abbrev final : Taken
final = record {
  name = letter_a;
  counts = (pos 0, 2) ∷ (pos 1, 3) ∷ [];
  sum = pos 3;
  swapped = true;
  moment = record { log = 7; before = 2; outstanding = 0 };
}

pub returns : goal.returns
returns c = (
  record {
    reached = is_state 1 7 0 (packing ++ mounting 1 ++ sampling ++ batching ++ last_delta) (inl refl) (omega arith) refl;
    joined = (refl, refl);
    counted = refl;
    sparse = refl;
    summed = (refl, refl);
    noted = (refl, refl);
    taken = (refl, refl);
    taken_sums = (refl, refl);
    last = (before, final, refl, refl, refl, record { alone = refl; youngest = refl; quiet = All-nil _ });
    units = (refl, refl);
  },
  refl,
)

-- Which actor may turn to any other call.
use Rattle.segment_invariant.proofs.Prelude.Std.{◌≡◌, ℕ, Bool, true, false, true≢false, refl, ◌||◌}
use Rattle.segment_invariant.proofs.Prelude.Machine.{Place, is_bound}
use Rattle.segment_machine.specs.Taking.{is_looking}
use Rattle.segment_machine.specs.Walking.{behind}
use Rattle.hist_core.specs.StepsBy.{has_pointer, is_tied}
use Rattle.segment_promises.proofs.Calls.Places.{behind_is}

neither : (a b : Bool) → (a || b) ≡ false → (a ≡ false) × (b ≡ false)
neither true b none = absurd (true≢false none)
neither false b none = (refl, none)

pub free_turns : (p : Place) → is_tied p ≡ false → is_bound p ≡ false
free_turns p free = (neither (is_bound p) (is_looking p || has_pointer p) free).0

pub free_apart : (p : Place) → is_tied p ≡ false → is_looking p ≡ false
free_apart p free = (neither (is_looking p) (has_pointer p) (neither (is_bound p) (is_looking p || has_pointer p) free).1).0

pub free_holds_none : (p : Place) → is_tied p ≡ false → has_pointer p ≡ false
free_holds_none p free = (neither (is_looking p) (has_pointer p) (neither (is_bound p) (is_looking p || has_pointer p) free).1).1

-- so may one that has loaded a next there
pub free_behind : (p : Place) (from found : ℕ) → is_tied p ≡ false → is_tied (behind p from found) ≡ false
free_behind = behind_is is_tied refl (λ cursor from next. refl)

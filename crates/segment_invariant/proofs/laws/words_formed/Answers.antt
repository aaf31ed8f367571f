use Rattle.segment_invariant.proofs.Prelude.Std.{◌≡◌, ℕ, Bool, true, false, ◌&&◌, Some, None, if◌then◌else◌, refl, nat_lt}
use Rattle.segment_invariant.proofs.Prelude.Machine.{Packed, single_of}
use Rattle.segment_invariant.proofs.laws.words_formed.Goals as goal

-- 65,541 units are more than a word has
too_many : (b : Bool) → (if b && true && false then Some (Packed 0 65541) else None) ≡ None
too_many true = refl
too_many false = refl

no_form : (n : ℕ) → single_of 1 n 65541 ≡ None
no_form n = too_many (nat_lt 0 n)

pub returns : goal.returns
returns c (at, r, has, is, formed, leads) = formed (no_form _)

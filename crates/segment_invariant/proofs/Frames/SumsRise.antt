-- A sum changes by no more than what was spent on it, from one state to the next, and so from one to any that is reached from it.
use Rattle.segment_invariant.proofs.Prelude.Std.{◌≡◌, ℕ, ◌+◌, ◌≤◌, ℤ, ◌-ℤ◌, unsigned_abs, List, refl, ap, ◌∙◌, subst, arith, w64, cast_signed, none}
use Rattle.segment_invariant.proofs.Prelude.Machine.{Dimensions, IsShown, Actor}
use Rattle.segment_invariant.proofs.Prelude.Invariant.{Record, histogram, Piece, Anatomy, layout_of, Stands, HasRecord}
use Rattle.std.proofs.Math.IntN.{+ℤ_invr}
use Rattle.std.proofs.lemmas.Int.{ints}
use Rattle.segment_invariant.specs.Invariant.{summed_costs}
use Rattle.segment_invariant.specs.Rises.{Rises, SumsRise}
use Rattle.segment_invariant.proofs.Blocks.Pieces.{one_stands}

-- what is spent on each name does not come back
abbrev pub CostsRise : List Actor → List Actor → Type 0
CostsRise before after = (name : List ℕ) → summed_costs name before ≤ summed_costs name after

-- a sum differs from itself by nothing
pub no_distance : (m n : ℕ) → m ≡ n → unsigned_abs (cast_signed w64 n -ℤ cast_signed w64 m) ≡ 0
no_distance m n same =
    ap (λ (k : ℕ). unsigned_abs (cast_signed w64 n -ℤ cast_signed w64 k)) same ∙ ap unsigned_abs (+ℤ_invr (cast_signed w64 n))

-- and from a third by no more than through a second
pub distance_through : (x y z : ℤ) → unsigned_abs (x -ℤ z) ≤ unsigned_abs (x -ℤ y) + unsigned_abs (y -ℤ z)
distance_through x y z = omega (arith, ints)

-- if each sum is what it was
pub sums_same : (old new : List Piece) (before after : List Actor) → CostsRise before after
    → ((at : ℕ) (r s : Record) → HasRecord old at r → HasRecord new at s → r.sum ≡ s.sum) → SumsRise old new before after
sums_same old new before after more same = record {
  costs = more;
  sums = λ at r s there now.
      let none_of = no_distance r.sum s.sum (same at r s there now) in
      let costs = more r.name in
      omega (arith, none_of, costs);
}

module _ (shape : Dimensions) (words : List ℕ) (anatomy : Anatomy) (shown : IsShown shape words (layout_of anatomy)) where
  -- there is one record at a place
  pub one_there : (at : ℕ) (r s : Record) → HasRecord anatomy.pieces at r → HasRecord anatomy.pieces at s → r ≡ s
  one_there at r s first second = cc (one_stands shape words anatomy shown at none none (histogram r) (histogram s) first second).1

  -- if each record has the sum of one that was there
  pub sums_come : (new : List Piece) (before after : List Actor) → CostsRise before after
      → ((at : ℕ) (s : Record) → HasRecord new at s → (r : Record) × HasRecord anatomy.pieces at r × (r.sum ≡ s.sum))
      → SumsRise anatomy.pieces new before after
  sums_come new before after more came = sums_same anatomy.pieces new before after more (λ at r s there now.
      let (q, stood, same) = came at s now in
      ap (λ (z : Record). z.sum) (one_there at r q there stood) ∙ same)

  -- and if no block changes
  pub sums_rest : (before after : List Actor) → CostsRise before after → SumsRise anatomy.pieces anatomy.pieces before after
  sums_rest before after more = sums_come anatomy.pieces before after more (λ at s there. (s, there, refl))

-- one after the other
pub sums_again : (old mid new : Anatomy) (before between after : List Actor) → Rises old mid → SumsRise old.pieces mid.pieces before between
    → SumsRise mid.pieces new.pieces between after → SumsRise old.pieces new.pieces before after
sums_again old mid new before between after rises first then = record {
  costs = λ name. let one = first.costs name in let two = then.costs name in omega (arith, one, two);
  sums = λ at r s there now.
      let (body, stands, (m, is, goes)) = rises.goes at (histogram r) refl there in
      let stood : HasRecord mid.pieces at m = subst (Stands mid.pieces at none) is stands in
      let named : m.name ≡ r.name = ap (λ (z : Record). z.name) goes.is in
      let one = first.sums at r m there stood in
      let two = then.sums at m s stood now in
      let then_costs = ap (λ (n : List ℕ). summed_costs n between) named in
      let last_costs = ap (λ (n : List ℕ). summed_costs n after) named in
      let far = distance_through (cast_signed w64 s.sum) (cast_signed w64 m.sum) (cast_signed w64 r.sum) in
      omega (arith, one, two, then_costs, last_costs, far);
}

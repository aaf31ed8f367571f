-- Sums of a record stay near, and change by no more than what was spent, if none of them becomes another.
use Rattle.segment_invariant.proofs.Prelude.Std.{◌≡◌, ℕ, ℤ, List, inl, inr, sym, ap, ◌∙◌, arith, w64, cast_signed}
use Rattle.segment_invariant.proofs.Prelude.Machine.{Dimensions, IsShown, Actor}
use Rattle.segment_invariant.proofs.Prelude.Invariant.{Record, Piece, Anatomy, layout_of, HasRecord, IsSumOf, SumsAreNear}
use Rattle.segment_invariant.specs.Invariant.{summed_costs}
use Rattle.segment_invariant.specs.Rises.{SumsRise}
use Rattle.segment_invariant.proofs.Frames.SumsRise.{CostsRise, sums_come}
use Rattle.segment_invariant.proofs.Frames.Together.{LoadedBefore}

-- a record has the sums of one that was there before, of its name
abbrev pub SameSum : List Piece → List Piece → Type 0
SameSum old new = (at : ℕ) (s : Record) → HasRecord new at s
    → (r : Record) × HasRecord old at r × (r.name ≡ s.name) × (r.sum ≡ s.sum) × (r.sum_mark ≡ s.sum_mark)

-- sums stay near, and change by no more than what was spent
abbrev pub SumsGoOn : List Piece → List Piece → List Actor → List Actor → Type 0
SumsGoOn old new before after = SumsAreNear new after × SumsRise old new before after

pub sums_on : (shape : Dimensions) (words : List ℕ) (old : Anatomy) → IsShown shape words (layout_of old) → (new : List Piece) (before after : List Actor)
    → SameSum old.pieces new → LoadedBefore before after → CostsRise before after → SumsAreNear old.pieces before → SumsGoOn old.pieces new before after
sums_on shape words old shown new before after same loaded more near = (
  λ at s x y there first last.
      let (r, stood, named, sum, mark) = same at s there in
      let bound = near at r x y stood (was r s sum mark at x first) (was r s sum mark at y last) in
      let names = ap (λ (n : List ℕ). summed_costs n before) named in
      let costs = more s.name in
      omega (arith, bound, names, costs),
  sums_come shape words old shown new before after more (λ at s there. let (r, stood, named, sum, mark) = same at s there in (r, stood, sum)),
)
  where
    was : (r s : Record) → r.sum ≡ s.sum → r.sum_mark ≡ s.sum_mark → (at : ℕ) (z : ℤ) → IsSumOf after at s z → IsSumOf before at r z
    was r s sum mark at z (inl e) = inl e
    was r s sum mark at z (inr (inl e)) = inr (inl (e ∙ ap (cast_signed w64) (sym sum)))
    was r s sum mark at z (inr (inr (inl e))) = inr (inr (inl (e ∙ ap (cast_signed w64) (sym mark))))
    was r s sum mark at z (inr (inr (inr (id, a, is, stands)))) = inr (inr (inr (loaded at z id a is stands)))

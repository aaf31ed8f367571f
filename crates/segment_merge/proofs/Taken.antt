-- A list that is taken one element after the other.
use Rattle.std.proofs.Common.{◌≡◌, ◌∙◌, ℕ, suc, ◌+◌, ◌<◌, List, [], ◌∷◌, ◌++◌, length, take, drop, get_or, sym, ap, arith}
use Rattle.std.proofs.Math.Numerals.{add-one}
use Rattle.std.proofs.Math.Seq.{drop-cons}
use Rattle.std.proofs.lemmas.List.{length-drop, length_push, take_more}

-- the first of a list that was dropped to
pub next_of : {X : Type 0} (list rest : List X) (n : ℕ) (x : X) → drop n list ≡ x ∷ rest
    → (n < length list) × (get_or list n x ≡ x) × (rest ≡ drop (n + 1) list)
next_of list rest n x is =
    let long = ap length is in
    let dropped = length-drop n list in
    let below : n < length list = omega (arith, long, dropped) in
    let both : get_or list n x ∷ drop (suc n) list ≡ x ∷ rest = sym (drop-cons list n x below) ∙ is in
    (below, cc both, rw add-one (cc both))

-- For each element that is taken of a list, one is put to another list. One more is: then so many are taken, and the rest is behind them.
pub record IsTaken {X Y : Type 0} (list rest : List X) (before after : List Y) (x : X) : Type 0 where
  pub here : drop (length before) list ≡ x ∷ rest
  pub below : length before < length list
  pub long : length after ≡ length before + 1
  pub behind : rest ≡ drop (length after) list
  pub taken : take (length after) list ≡ take (length before) list ++ x ∷ []

pub one_taken : {X Y : Type 0} (list left rest : List X) (before after : List Y) (x : X) (y : Y) → left ≡ drop (length before) list → left ≡ x ∷ rest
    → after ≡ before ++ y ∷ [] → IsTaken list rest before after x
one_taken list left rest before after x y so_far first put =
    let here : drop (length before) list ≡ x ∷ rest = sym so_far ∙ first in
    let (below, is, behind) = next_of list rest (length before) x here in
    let long : length after ≡ length before + 1 = ap length put ∙ length_push before y in record {
      here = here;
      below = below;
      long = long;
      behind = behind ∙ ap (λ k. drop k list) (sym long);
      taken = ap (λ k. take k list) long ∙ (take_more list (length before) x below ∙ ap (λ one. take (length before) list ++ one ∷ []) is);
    }

-- Two lists, of which a relation holds place by place.
use Rattle.segment_invariant.proofs.Prelude.Std.{◌<◌, ◌+◌, ℕ, List, [], ◌∷◌, ◌++◌, length, take, get_or, sym, subst, All, All-nil, All-cons, All-head, All-tail}
use Rattle.std.specs.List.{AllZip}
use Rattle.std.proofs.lemmas.List.{take_more}

module _ {X Y : Type 0} (R : X → Y → Type 0) where
  zip_push : (xs : List X) (ys : List Y) (x : X) (y : Y) → AllZip R xs ys → R x y → AllZip R (xs ++ x ∷ []) (ys ++ y ∷ [])
  zip_push [] [] x y all one = (one, tt)
  zip_push [] (b ∷ ys) x y all one = absurd all
  zip_push (a ∷ xs) [] x y all one = absurd all
  zip_push (a ∷ xs) (b ∷ ys) x y all one = (all.0, zip_push xs ys x y all.1 one)

  -- one more of a front
  pub zip_more : (xs : List X) (ys : List Y) (i : ℕ) (d : X) (y : Y) → i < length xs → AllZip R (take i xs) ys → R (get_or xs i d) y
      → AllZip R (take (i + 1) xs) (ys ++ y ∷ [])
  zip_more xs ys i d y less all one = subst (λ (l : List X). AllZip R l (ys ++ y ∷ [])) (sym (take_more xs i d less)) (zip_push (take i xs) ys (get_or xs i d) y all one)

  -- if the relation carries something from the first of a pair to the second, and it holds of all first ones, it holds of all second ones
  pub zip_all : (P : X → Type 0) (Q : Y → Type 0) → ((x : X) (y : Y) → R x y → P x → Q y) → (xs : List X) (ys : List Y) → AllZip R xs ys → All P xs → All Q ys
  zip_all P Q from [] [] zip all = All-nil Q
  zip_all P Q from [] (b ∷ ys) zip all = absurd zip
  zip_all P Q from (a ∷ xs) [] zip all = absurd zip
  zip_all P Q from (a ∷ xs) (b ∷ ys) zip all = All-cons Q b ys (from a b zip.0 (All-head P a xs all)) (zip_all P Q from xs ys zip.1 (All-tail P a xs all))

-- The key of one word more.
use Rattle.std.proofs.Common.{◌≡◌, ℕ, List, [], ◌∷◌, ◌++◌, refl}
use Rattle.list_index.specs.Keys.{key_behind}

pub key_more : (then_key : ℕ → ℕ → ℕ) (key : ℕ) (xs : List ℕ) (x : ℕ) → key_behind then_key key (xs ++ x ∷ []) ≡ then_key (key_behind then_key key xs) x
key_more then_key key [] x = refl
key_more then_key key (y ∷ xs) x = key_more then_key (then_key key y) xs x

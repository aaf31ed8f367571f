-- Records with too few fields.
use Rattle.std.proofs.Common.{◌≡◌, ◌<◌, ℕ, List, [], ◌∷◌, length, None, refl, arith}
use Rattle.schedule.specs.Call.{batch_in, sample_in}
use Rattle.schedule.specs.Order.{image_in, order_in}

-- a batch has two or more
pub batch_in-few : (fields : List (List ℕ)) → length fields < 2 → batch_in fields ≡ None
batch_in-few [] few = refl
batch_in-few (a ∷ []) few = refl
batch_in-few (a ∷ b ∷ rest) few = absurd (omega arith)

-- and so has what an actor is to do
pub order_in-few : (fields : List (List ℕ)) → length fields < 2 → order_in fields ≡ None
order_in-few [] few = refl
order_in-few (a ∷ []) few = refl
order_in-few (a ∷ b ∷ rest) few = absurd (omega arith)

-- a value with its name has three
pub sample_in-other : (fields : List (List ℕ)) → (length fields ≡ 3 → ⊥) → sample_in fields ≡ None
sample_in-other [] other = refl
sample_in-other (a ∷ []) other = refl
sample_in-other (a ∷ b ∷ []) other = refl
sample_in-other (a ∷ b ∷ c ∷ []) other = absurd (other refl)
sample_in-other (a ∷ b ∷ c ∷ d ∷ rest) other = refl

-- an image with the word before it has three
pub image_in-other : (fields : List (List ℕ)) → (length fields ≡ 3 → ⊥) → image_in fields ≡ None
image_in-other [] other = refl
image_in-other (a ∷ []) other = refl
image_in-other (a ∷ b ∷ []) other = refl
image_in-other (a ∷ b ∷ c ∷ []) other = absurd (other refl)
image_in-other (a ∷ b ∷ c ∷ d ∷ rest) other = refl

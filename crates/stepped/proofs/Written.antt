-- What is written after a replay.
use Rattle.std.proofs.Common.{◌≡◌, ℕ, List, subst}
use Rattle.std.specs.Prelude.{Result, Ok, Err, OnOk, ⊤}

-- a text of the words that a replay left
pub text_behind : {F D : Type 0} (r : Result ⊤ F) (Replayed : D → Type 0) (Is : List ℕ → List ℕ → Type 0) (Put : List ℕ → Type 0)
    (done : D) (shown words : List ℕ) → Replayed done → shown ≡ words → OnOk r ((text : List ℕ) × Is shown text × Put text)
    → OnOk r ((done : D) × (text : List ℕ) × Replayed done × Is words text × Put text)
text_behind (Ok x) Replayed Is Put done shown words replayed same (text, is, put) = (done, text, replayed, subst (λ (l : List ℕ). Is l text) same is, put)
text_behind (Err fault) Replayed Is Put done shown words replayed same written = tt

-- the words themselves
pub words_behind : {F D : Type 0} (r : Result ⊤ F) (Replayed : D → Type 0) (Put : List ℕ → Type 0) (done : D) (shown words : List ℕ) → Replayed done
    → shown ≡ words → OnOk r (Put shown) → OnOk r ((done : D) × Replayed done × Put words)
words_behind (Ok x) Replayed Put done shown words replayed same put = (done, replayed, subst Put same put)
words_behind (Err fault) Replayed Put done shown words replayed same put = tt

-- an image of a look that a replay took
pub image_behind : {F D : Type 0} (r : Result ⊤ F) (Took : D → Type 0) (Is : D → List ℕ → Type 0) (Put : List ℕ → Type 0) (look : D) (shown image : List ℕ)
    → Took look → Is look image → shown ≡ image → OnOk r (Put shown) → OnOk r ((look : D) × (image : List ℕ) × Took look × Is look image × Put image)
image_behind (Ok x) Took Is Put look shown image took is same put = (look, image, took, is, subst Put same put)
image_behind (Err fault) Took Is Put look shown image took is same put = tt

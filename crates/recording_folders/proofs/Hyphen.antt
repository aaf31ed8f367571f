-- The parts of a text that ends with a hyphen and 16 further bytes.
use Rattle.std.proofs.Common.{◌≡◌, ℕ, ◌-◌, List, ◌++◌, length, take, drop, codes, ap, ◌∙◌, arith, length-append}
use Rattle.std.proofs.Math.Seq.{take-append_seam, drop-append_seam}

-- how many bytes are before those at the end
before_last : (front random : List ℕ) → length random ≡ 16 → length (front ++ random) - 16 ≡ length front
before_last front random long = omega (arith, long, length-append front random)

-- what is before them
pub front_of : (process random text : List ℕ) → length random ≡ 16 → text ≡ process ++ codes "-" ++ random → take (length text - 16) text ≡ process ++ codes "-"
front_of process random text long is =
    ap (λ t. take (length t - 16) t) is
    ∙ ap (λ n. take n (process ++ codes "-" ++ random)) (before_last (process ++ codes "-") random long)
    ∙ take-append_seam (process ++ codes "-") random

-- and they themselves
pub back_of : (process random text : List ℕ) → length random ≡ 16 → text ≡ process ++ codes "-" ++ random → drop (length text - 16) text ≡ random
back_of process random text long is =
    ap (λ t. drop (length t - 16) t) is
    ∙ ap (λ n. drop n (process ++ codes "-" ++ random)) (before_last (process ++ codes "-") random long)
    ∙ drop-append_seam (process ++ codes "-") random

-- What the words of 4,096 bytes say is what the bytes say.
use Rattle.std.proofs.Common.{◌≡◌, ℕ, List, length, ap, arith, inr, subst, sym}
use Rattle.segment_image.specs.Words.{words_in}
use Rattle.recording_folders.specs.declared.mark.Mark.{Mark}
use Rattle.recording_folders.specs.declared.mark.Mark.TheVariants.{Empty, Whole, Foreign}
use Rattle.recording_folders.specs.Mark.{IsMarkIn, IsMarkOf}

of_own_words : (bytes : List ℕ) (mark : Mark) → length bytes ≡ 4096 → IsMarkIn (words_in bytes) mark → IsMarkOf bytes mark
of_own_words bytes Empty long h = inr (long, h)
of_own_words bytes (Whole id) long h = (long, h)
of_own_words bytes Foreign long h = (λ none. omega (arith, long, ap length none), λ same. h)

pub of_words : (bytes words : List ℕ) (mark : Mark) → length bytes ≡ 4096 → words ≡ words_in bytes → IsMarkIn words mark → IsMarkOf bytes mark
of_words bytes words mark long is h = of_own_words bytes mark long (subst (λ w. IsMarkIn w mark) is h)

-- What is left of a segment that ended.
use Rattle.std.proofs.Common.{◌≡◌, ℕ, List, length, sym, ap, ◌∙◌, subst, Option, Some, Result}
use Rattle.std.proofs.lemmas.Bool.{eqb-true, not-false, or_parts}
use Rattle.segment_image.specs.Head.{head_of, header_checks}
use Rattle.segment_image.specs.Shape.{Dimensions}
use Rattle.segment_image.specs.Words.{word_at}
use Rattle.image_reader.proofs.Headers.{checked_ok}
use Rattle.live_segment.specs.Closing.{IsImageOf}
use Rattle.live_segment.specs.declared.rule.Setting.{Setting}
use Rattle.povundiri_c.specs.declared.contents.Contents.{Contents}
use Rattle.povundiri_c.specs.declared.status.Refused.{Refused}
use Rattle.povundiri_c.specs.Segments.{AnswersClose, AnswersCloseCall, IsClosedWith}

-- an image has as many words as the segment
pub whole : (setting : Setting) (words : List ℕ) → IsImageOf setting words → length words ≡ setting.shape.size
whole setting words is =
    let passed = (checked_ok (header_checks words) (head_of words) (head_of words) is.header).0 in
    let size : word_at words 2 ≡ length words = eqb-true (word_at words 2) (length words) (not-false _ (or_parts _ _ passed.1.1.1.1.0).0) in
    sym size ∙ ap (λ (shape : Dimensions). shape.size) is.shape

-- the contents of a handle were closed
pub answers_some : (old new : Option Contents) (it : Contents) (answer : Result (List ℕ) Refused) (status needed needed' : ℕ) (words words' : List ℕ) → old ≡ Some it
    → AnswersClose (length words) it answer → IsClosedWith it answer status needed' words words' new
    → AnswersCloseCall old status needed needed' words words' new
answers_some old new it answer status needed needed' words words' is answers closed =
    subst (λ (one : Option Contents). AnswersCloseCall one status needed needed' words words' new) (sym is) (answer, answers, closed)

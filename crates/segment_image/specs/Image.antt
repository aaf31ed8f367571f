-- The first words of a segment.
use Rattle.std.specs.Prelude.{ℕ, ◌-◌, List, [], ◌∷◌, ◌++◌, replicate}
use Rattle.segment_image.specs.declared.layout.TheConstants.{HEADER_WORDS, SEGMENT_COOKIE, VERSION_MOVING, STATE_READY, QUEUE, QUEUE_SIZE, QUEUE_COOKIE, TYPE_PURGED}

-- the header of a ready segment without blocks, in a version of the format: the free pointer is 16, and the list is empty
abbrev pub ready_header : ℕ → ℕ → ℕ → ℕ → List ℕ
ready_header version size page id =
    SEGMENT_COOKIE ∷ version ∷ size ∷ page ∷ id ∷ STATE_READY ∷ 0 ∷ HEADER_WORDS ∷ QUEUE ∷ 0 ∷ 0 ∷ 0
    ∷ QUEUE_SIZE ∷ QUEUE_COOKIE ∷ TYPE_PURGED ∷ QUEUE ∷ []

-- all words of one in version 1: after the header they are 0
abbrev pub blank_words : ℕ → ℕ → ℕ → List ℕ
blank_words size page id = ready_header VERSION_MOVING size page id ++ replicate (size - HEADER_WORDS) 0

-- What a `hist` asks for.
use Rattle.std.specs.Prelude.{◌≡◌, ◌≢◌, ◌⊎◌, ℕ, ◌+◌, ◌-◌, ◌*◌, ◌<◌, ◌≤◌, true, false, List, ◌∷◌, ◌++◌, length, replicate, slice_index, Some, None}
use Rattle.segment_image.specs.Words.{bytes_of_words}
use Rattle.bucket_ranges.specs.declared.spec.Spec.{Spec}
use Rattle.bucket_ranges.specs.Ranges.{boundaries_of}
use Rattle.bucket_ranges.specs.Reading.{is_name, name_words}
use Rattle.bucket_ranges.specs.Spec.{spec_fault, spec_fields, spec_ranges, buckets_of}
use Rattle.segment_image.specs.declared.layout.TheConstants.{BLOCK_HEADER, HISTOGRAM_NAME}
use Rattle.segment_image.specs.Shape.{Dimensions}
use Rattle.segment_calls.specs.declared.asked.Asked.{Asked}
use Rattle.segment_calls.specs.declared.refusal.Refusal.{Refusal}
use Rattle.segment_calls.specs.declared.refusal.Refusal.TheVariants.{BadName, BadSpec, NoMemory, TooLarge}

-- ---- the words of its record

-- words that have the bytes of a name, followed by zeros up to a whole word
abbrev pub AreNameWords : List ℕ → List ℕ → Type 0
AreNameWords name words = (k : ℕ) × (k < 8) × (bytes_of_words words ≡ name ++ replicate k 0)

-- the words after the header of a histogram's record, with these words as those of its name
abbrev pub payload_words : List ℕ → Spec → List ℕ → List ℕ
payload_words name spec letters = spec_fields spec ++ 0 ∷ 0 ∷ 0 ∷ 0 ∷ 0 ∷ 0 ∷ length name ∷ (letters ++ spec_ranges spec)

-- The payload is these words, and `count` of them are the name's.
pub record IsPayloadFor (name : List ℕ) (spec : Spec) (payload : List ℕ) (count : ℕ) : Type 0 where
  pub letters : List ℕ
  pub spells : AreNameWords name letters
  pub count_is : count ≡ length letters
  pub words : payload ≡ payload_words name spec letters

-- ---- what it asks for

-- its record, or its counts, have more words than a page
abbrev pub IsTooLarge : ℕ → List ℕ → Spec → Type 0
IsTooLarge page name spec =
    (page < HISTOGRAM_NAME + (name_words (length name) + length (spec_ranges spec))) ⊎ (page < BLOCK_HEADER + 2 * buckets_of spec)

-- It asks for the histogram of a valid name and a valid spec. The record and its counts fit in a page, and the last word of the record
-- is not 0.
pub record IsAskedFor (shape : Dimensions) (name : List ℕ) (spec : Spec) (asked : Asked) : Type 0 where
  pub named : asked.name.items ≡ name
  pub specified : asked.spec ≡ spec
  pub ranges : asked.ranges ≡ boundaries_of spec
  pub lawful_name : is_name name ≡ true
  pub lawful_spec : spec_fault spec ≡ None
  pub fits : BLOCK_HEADER + 2 * buckets_of spec ≤ shape.page
  pub one_page : BLOCK_HEADER + length asked.payload.items ≤ shape.page
  pub last : slice_index asked.payload.items (length asked.payload.items - 1) ≢ 0
  pub payload : IsPayloadFor name spec asked.payload.items asked.letters

-- Why this may not be asked for: the first of these that holds. If memory runs out, it is not known whether it is too large.
abbrev pub IsRefusedFor : Dimensions → List ℕ → Spec → Refusal → Type 0
IsRefusedFor shape name spec BadName = is_name name ≡ false
IsRefusedFor shape name spec (BadSpec fault) = (is_name name ≡ true) × (spec_fault spec ≡ Some fault)
IsRefusedFor shape name spec NoMemory = (is_name name ≡ true) × (spec_fault spec ≡ None)
IsRefusedFor shape name spec TooLarge = (is_name name ≡ true) × (spec_fault spec ≡ None) × IsTooLarge shape.page name spec
IsRefusedFor shape name spec _ = ⊥

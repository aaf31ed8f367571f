-- What is found in the words of an image of version 2 with a valid header.
use Rattle.std.specs.Prelude.{ℕ, List, ⊤}
use Rattle.segment_image.specs.declared.head.SegmentHead.{SegmentHead}
use Rattle.bucket_ranges.specs.Reading.{IsListed, reading_along}
use Rattle.image_rules.specs.Adoption.{IsUndamaged}
use Rattle.image_reader.specs.declared.survey.Survey.{Survey}
use Rattle.image_reader.specs.Survey.{IsSurvey}
use Rattle.segment_calls.specs.declared.adopt_fault.AdoptFault.{AdoptFault}
use Rattle.segment_calls.specs.declared.adopt_fault.AdoptFault.TheVariants.{Image, OldVersion, Corrupt, Damaged, NoUnits, BadCursors, NoMemory}

-- they are not damaged, and this is what their list has
pub record IsUndamagedSurvey (words : List ℕ) (head : SegmentHead) (survey : Survey) : Type 0 where
  pub survey_is : IsSurvey words head survey
  pub undamaged : IsUndamaged words survey.references.items (reading_along words head survey.references.items)

-- they are damaged, or memory ran out before all of them were checked
abbrev pub IsDamageOf : List ℕ → SegmentHead → AdoptFault → Type 0
IsDamageOf words head (Image fault) = ⊥
IsDamageOf words head OldVersion = ⊥
IsDamageOf words head Corrupt = ⊥
IsDamageOf words head Damaged =
    (references : List ℕ) × IsListed words head references × (¬ (IsUndamaged words references (reading_along words head references)))
IsDamageOf words head NoUnits = ⊥
IsDamageOf words head BadCursors = ⊥
IsDamageOf words head NoMemory = ⊤

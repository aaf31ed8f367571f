-- A segment that continues from the words of an image, and which images it can continue from.
use Rattle.std.specs.Prelude.{◌≡◌, false, ℕ, ◌≤◌, List, MatchResult, Result}
use Rattle.segment_image.specs.Head.{head_of}
use Rattle.segment_image.specs.declared.head.SegmentHead.{SegmentHead}
use Rattle.segment_image.specs.declared.layout.TheConstants.{VERSION_FROZEN}
use Rattle.bucket_ranges.specs.Reading.{IsListed, reading_along}
use Rattle.segment_calls.specs.declared.adopt_fault.AdoptFault.{AdoptFault}
use Rattle.image_adoption.specs.Checking.{IsFaultOf}
use Rattle.segment_promises.specs.Adoption.{IsAdoptable, adopter}
use Rattle.live_segment.specs.declared.opener.Opener.{Opener}
use Rattle.live_segment.specs.declared.rule.Setting.{Setting}
use Rattle.live_segment.specs.declared.segment.Segment.{Segment}
use Rattle.live_segment.specs.Holders.{IsOpened}

-- what an image with such a header is opened as, with this many shared cursors
abbrev pub setting_of : SegmentHead → ℕ → Setting
setting_of head cursors =
    record { shape = head.shape; version = head.version; id = head.id; cursors = cursors; full = head.full }

-- An image may be adopted, and a segment was opened as it and with its words: its opener stands for all that these read as along their list.
pub record IsAdopted (words : List ℕ) (cursors : ℕ) (segment : Segment) (opener : Opener) : Type 0 where
  pub references : List ℕ
  pub listed : IsListed words (head_of words) references
  pub adoptable : IsAdoptable words references (reading_along words (head_of words) references)
  pub few : cursors ≤ 8
  pub opened : IsOpened (setting_of (head_of words) cursors) words (adopter words references (reading_along words (head_of words) references) cursors)
      segment opener

-- `adopt` returns a segment that continues from the words of an image, and its opener; or the first fault
abbrev pub AnswersAdopt : List ℕ → ℕ → Result (Segment × Opener) AdoptFault → Type 0
AnswersAdopt words cursors result =
    MatchResult result (λ made. IsAdopted words cursors made.0 made.1) (λ fault. IsFaultOf words cursors fault)

-- Words of version 2 that are not marked as corrupt may be adopted.
abbrev pub MayGoOn : List ℕ → Type 0
MayGoOn words = (head_of words).version ≡ VERSION_FROZEN → (head_of words).corrupt ≡ false → (references : List ℕ) → IsListed words (head_of words) references
    → IsAdoptable words references (reading_along words (head_of words) references)

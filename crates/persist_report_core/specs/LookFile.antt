-- What is written of three reads of a file that is in use, or why nothing is.
use Rattle.std.specs.Prelude.{◌≡◌, ◌⊎◌, ℕ, ◌+◌, List, take, Ok, Err}
use Rattle.segment_image.specs.declared.layout.TheConstants.{ID_WORD}
use Rattle.segment_image.specs.declared.head.SegmentHead.{SegmentHead}
use Rattle.segment_calls.specs.declared.adopt_fault.AdoptFault.TheVariants as adopting
use Rattle.segment_looks.specs.Looks.{IsLook, head_of_copies}
use Rattle.segment_looks.specs.declared.fault.LookFault.{LookFault}
use Rattle.segment_looks.specs.declared.fault.LookFault.TheVariants as look
use Rattle.persist_report_core.specs.Report.{AreWordsOf, IsCausedByImage}
use Rattle.persist_report_core.specs.declared.fault.CliFault.{CliFault}
use Rattle.persist_report_core.specs.declared.fault.CliFault.TheVariants.{Image, Adopt, NoMemory, Changed}

-- what distinguishes a segment from others while it is in use: its cookie, version, size, page and id
abbrev pub identity : List ℕ → List ℕ
identity words = take (ID_WORD + 1) words

-- three copies are of one segment
abbrev pub AreOfOneSegment : List ℕ → List ℕ → List ℕ → Type 0
AreOfOneSegment one two three = (identity one ≡ identity three) × (identity two ≡ identity three)

-- words are the look that the images in three inputs with these bytes give, which are of one segment
pub record IsLookOfFiles (first second third words : List ℕ) : Type 0 where
  pub one : List ℕ
  pub two : List ℕ
  pub three : List ℕ
  pub first_is : AreWordsOf first one
  pub second_is : AreWordsOf second two
  pub third_is : AreWordsOf third three
  pub head : SegmentHead
  pub head_is : head_of_copies one two three ≡ Ok head
  pub look_is : IsLook head one two three words
  pub same : AreOfOneSegment one two three

-- the fault of a call whose copies give no look; in an old version recording cannot continue
abbrev pub fault_of_look : LookFault → CliFault
fault_of_look (look.Image fault) = Image fault
fault_of_look look.OldVersion = Adopt adopting.OldVersion
fault_of_look look.NoMemory = NoMemory

-- the images in three inputs with these bytes give no look, for this fault
pub record HaveNoLook (first second third : List ℕ) (fault : CliFault) : Type 0 where
  pub one : List ℕ
  pub two : List ℕ
  pub three : List ℕ
  pub first_is : AreWordsOf first one
  pub second_is : AreWordsOf second two
  pub third_is : AreWordsOf third three
  pub why : LookFault
  pub why_is : head_of_copies one two three ≡ Err why
  pub fault_is : fault ≡ fault_of_look why

-- the images in three inputs with these bytes would give a look, but are not of one segment
pub record AreOfSeveral (first second third : List ℕ) : Type 0 where
  pub one : List ℕ
  pub two : List ℕ
  pub three : List ℕ
  pub first_is : AreWordsOf first one
  pub second_is : AreWordsOf second two
  pub third_is : AreWordsOf third three
  pub head : SegmentHead
  pub head_is : head_of_copies one two three ≡ Ok head
  pub differ : ¬ (AreOfOneSegment one two three)

-- why three images give no look: they have a fault, or are not of one segment
abbrev pub IsFaultOfCopies : List ℕ → List ℕ → List ℕ → CliFault → Type 0
IsFaultOfCopies first second third fault =
    HaveNoLook first second third fault ⊎ ((fault ≡ Changed) × AreOfSeveral first second third)

-- A fault has its cause in the bytes of one read, or in all of them. If a device fails or memory runs out, the cause is not there.
abbrev pub IsFaultOfLook : List ℕ → List ℕ → List ℕ → CliFault → Type 0
IsFaultOfLook first second third fault =
    IsCausedByImage first fault ⊎ (IsCausedByImage second fault ⊎ (IsCausedByImage third fault ⊎ IsFaultOfCopies first second third fault))

-- What a run of a script results in, by how its parts ended.
use Rattle.std.proofs.Common.{◌≡◌, ◌⊎◌, ℕ, ◌-◌, ◌≤◌, Bool, true, false, List, length, Option, Some, None, Result, Ok, Err, inl, inr, refl, sym, ap, ◌∙◌, subst}
use Rattle.std.specs.Prelude.{MatchResult, ◌≢◌, ◌↔◌, ⊤, IfErr, IfOk, IfSome, IsErrOf, OnOk}
use Rattle.segment_image.specs.Head.{head_of}
use Rattle.segment_image.specs.Words.{bytes_of_words}
use Rattle.segment_image.specs.declared.head.SegmentHead.{SegmentHead}
use Rattle.bucket_ranges.specs.Reading.{Reading, reading_along}
use Rattle.segment_machine.specs.declared.actor.Actor.{Actor}
use Rattle.segment_promises.specs.Adoption.{used_of}
use Rattle.live_segment.specs.declared.opener.Opener.{Opener}
use Rattle.live_segment.specs.declared.rule.Setting.{Setting}
use Rattle.live_segment.specs.declared.segment.Segment.{Segment}
use Rattle.live_segment.specs.Adopted.{IsAdopted}
use Rattle.live_segment.specs.Holders.{IsNew, view_of_opener}
use Rattle.persist_report_core.specs.declared.fault.CliFault.{CliFault}
use Rattle.persist_report_core.specs.declared.fault.CliFault.TheVariants as cli
use Rattle.persist_report_core.specs.declared.script.fault.ScriptFault.{ScriptFault}
use Rattle.persist_report_core.specs.Input.{image_in}
use Rattle.persist_report_core.specs.Report.{AreWordsOf}
use Rattle.persist_report_core.specs.Script.{Script, script_for, script_of}
use Rattle.persist_commands.specs.Recorded.{HasOnlyOpened, IsRecordedImage, setting_for}
use Rattle.persist_commands.specs.Resume.{IsBase, IsBaseOf, IsFaultOfResume, IsImageOfResume, IsResumeOf}
use Rattle.persist_commands.specs.Run.{IsFaultOfScript, IsReportOfImage, IsRunOf, MayEndRun, fault_of_script}
use Rattle.persist_commands.proofs.Began.{adopted_only, is_image_of_resume, is_image_of_run, new_only}
use Rattle.persist_commands.proofs.MergeOutcomes.{sound}

-- ---- faults of a run

-- the script has no fault, so the fault is one with which the run of a valid script may end
told : (fault : CliFault) (meaning : Result Script ScriptFault) (script : Script) → meaning ≡ Ok script → MayEndRun fault
    → MatchResult meaning (λ script. MayEndRun fault) (λ why. fault ≡ fault_of_script why)
told fault meaning script is may =
    subst (λ (m : Result Script ScriptFault). MatchResult m (λ script. MayEndRun fault) (λ why. fault ≡ fault_of_script why)) (sym is) may

late_fault : (fault : CliFault) (meaning : Result Script ScriptFault) (bytes : List ℕ) (script : Script) → length bytes ≤ 16777216 → meaning ≡ Ok script
    → MayEndRun fault → IsFaultOfScript meaning bytes fault
late_fault cli.Read meaning bytes script few is may = absurd may
late_fault cli.NoMemory meaning bytes script few is may = tt
late_fault cli.TooLong meaning bytes script few is may = absurd may
late_fault cli.Write meaning bytes script few is may = (few, told cli.Write meaning script is may)
late_fault cli.NotWords meaning bytes script few is may = absurd may
late_fault (cli.Image fault) meaning bytes script few is may = absurd may
late_fault (cli.BadLine number) meaning bytes script few is may = absurd may
late_fault (cli.Refused number why) meaning bytes script few is may = (few, told (cli.Refused number why) meaning script is may)
late_fault cli.Gate meaning bytes script few is may = (few, told cli.Gate meaning script is may)
late_fault (cli.Merge name why) meaning bytes script few is may = absurd may
late_fault cli.NoThread meaning bytes script few is may = (few, told cli.NoThread meaning script is may)
late_fault (cli.Adopt fault) meaning bytes script few is may = absurd may
late_fault cli.NoSegment meaning bytes script few is may = absurd may
late_fault (cli.NoHistogram name) meaning bytes script few is may = absurd may
late_fault (cli.Bad reference fault) meaning bytes script few is may = absurd may
late_fault (cli.Stopped fault) meaning bytes script few is may = absurd may
late_fault cli.Changed meaning bytes script few is may = absurd may
late_fault (cli.Clash first second) meaning bytes script few is may = absurd may

pub run_cause : (r : Result ⊤ CliFault) (remaining : Option (List ℕ)) (meaning : List ℕ → Result Script ScriptFault) (script : Script) → IfErr r MayEndRun
    → IfSome remaining (λ bytes. (length bytes ≤ 16777216) × (meaning bytes ≡ Ok script))
    → IfErr r (λ fault. IfSome remaining (λ bytes. IsFaultOfScript (meaning bytes) bytes fault))
run_cause (Ok x) remaining meaning script late is = tt
run_cause (Err fault) None meaning script late is = tt
run_cause (Err fault) (Some bytes) meaning script late is = late_fault fault (meaning bytes) bytes script is.0 is.1 late

-- it is none of a reader
not_read : (fault : CliFault) → MayEndRun fault → fault ≢ cli.Read
not_read cli.Read may = absurd may
not_read cli.NoMemory may = λ e. cc e
not_read cli.TooLong may = λ e. cc e
not_read cli.Write may = λ e. cc e
not_read cli.NotWords may = λ e. cc e
not_read (cli.Image fault) may = λ e. cc e
not_read (cli.BadLine number) may = λ e. cc e
not_read (cli.Refused number why) may = λ e. cc e
not_read cli.Gate may = λ e. cc e
not_read (cli.Merge name why) may = λ e. cc e
not_read cli.NoThread may = λ e. cc e
not_read (cli.Adopt fault) may = λ e. cc e
not_read cli.NoSegment may = λ e. cc e
not_read (cli.NoHistogram name) may = λ e. cc e
not_read (cli.Bad reference fault) may = λ e. cc e
not_read (cli.Stopped fault) may = λ e. cc e
not_read cli.Changed may = λ e. cc e
not_read (cli.Clash first second) may = λ e. cc e

pub reads_late : (r : Result ⊤ CliFault) (failed : Bool) → IfErr r MayEndRun → (failed ≡ true → ⊥) → IsErrOf r cli.Read ↔ (failed ≡ true)
reads_late (Ok x) failed late well = (λ is. absurd (cc is), λ e. absurd (well e))
reads_late (Err fault) failed late well = (λ is. let same : fault ≡ cli.Read = cc is in absurd (not_read fault late same), λ e. absurd (well e))

pub both_read_late : (r : Result ⊤ CliFault) (base script : Bool) → IfErr r MayEndRun → (base ≡ true → ⊥) → (script ≡ true → ⊥)
    → IsErrOf r cli.Read ↔ ((base ≡ true) ⊎ (script ≡ true))
both_read_late (Ok x) base script late first second = (λ is. absurd (cc is), λ either. elim either [ inl e ↦ absurd (first e) | inr e ↦ absurd (second e) ])
both_read_late (Err fault) base script late first second = (
  λ is. let same : fault ≡ cli.Read = cc is in absurd (not_read fault late same),
  λ either. elim either [ inl e ↦ absurd (first e) | inr e ↦ absurd (second e) ],
)

-- ---- a new segment

-- what a run in a segment has written, whatever is known of the segment
abbrev pub Wrote : Setting → Actor → Script → ℕ → (List ℕ → Type 0) → (List ℕ → Type 0) → Type 0
Wrote setting first script workers A B =
    (words : List ℕ) × (text : List ℕ) × IsRecordedImage setting first script workers words × IsReportOfImage words text × A words × B text

pub wrote_so : (r : Result ⊤ CliFault) (setting : Setting) (first : Actor) (script : Script) (workers : ℕ) (image words again text : List ℕ) (A B : List ℕ → Type 0)
    → OnOk r (A again) → OnOk r (B text) → IsRecordedImage setting first script workers image → IsReportOfImage words text → words ≡ image → again ≡ image
    → OnOk r (Wrote setting first script workers A B)
wrote_so (Err fault) setting first script workers image words again text A B a b run report one two = tt
wrote_so (Ok x) setting first script workers image words again text A B a b run report one two = (
  again,
  text,
  subst (IsRecordedImage setting first script workers) (sym two) run,
  subst (λ (l : List ℕ). IsReportOfImage l text) (one ∙ sym two) report,
  a,
  b,
)

pub new_has_only_opened : (script : Script) (segment : Segment) (opener : Opener) → IsNew (setting_for script) segment opener → HasOnlyOpened (view_of_opener opener)
new_has_only_opened script segment opener new = subst HasOnlyOpened (sym new.view) (new_only (setting_for script))

pub run_so : (r : Result ⊤ CliFault) (remaining : Option (List ℕ)) (script : Script) (workers : ℕ) (segment : Segment) (opener : Opener) (A B : List ℕ → Type 0)
    → IsNew (setting_for script) segment opener → IfSome remaining (λ bytes. (length bytes ≤ 16777216) × (script_of 4294967295 bytes ≡ Ok script))
    → OnOk r (Wrote segment.setting (view_of_opener opener) script workers A B)
    → OnOk r (IfSome remaining (λ bytes. (words : List ℕ) × (text : List ℕ) × IsRunOf workers bytes words text × A words × B text))
run_so (Err fault) remaining script workers segment opener A B new is wrote = tt
run_so (Ok x) None script workers segment opener A B new is wrote = tt
run_so (Ok x) (Some bytes) script workers segment opener A B new is wrote =
    let (words, text, image, report, a, b) = wrote in (
      words,
      text,
      record {
        few = is.0;
        script = script;
        script_is = is.1;
        image = is_image_of_run script workers (setting_for script) words refl refl refl refl
            (subst (λ (p : Setting × Actor). IsRecordedImage p.0 p.1 script workers words) (λ i. (new.setting_is i, new.view i)) image);
        report = report;
      },
      a,
      b,
    )

-- ---- a segment that continues from an image

-- the image in words that were read, and something of it, by their bytes
pub based_so : {T F : Type 0} (r : Result T F) (remaining : Option (List ℕ)) (words : List ℕ) (P Q : List ℕ → T → Type 0)
    → IfSome remaining (λ bytes. bytes_of_words words ≡ bytes)
    → IfOk r (λ base. P (image_in words) base × Q (image_in words) base × AreWordsOf (bytes_of_words words) (image_in words))
    → IfOk r (λ base. (image : List ℕ) × P image base × Q image base × IfSome remaining (λ bytes. AreWordsOf bytes image))
based_so (Err fault) remaining words P Q same is = tt
based_so (Ok base) None words P Q same is = (image_in words, is.0, is.1, tt)
based_so (Ok base) (Some bytes) words P Q same is = (image_in words, is.0, is.1, subst (λ (bytes : List ℕ). AreWordsOf bytes (image_in words)) same is.2)

-- the image of these words was adopted, and this is its header
module _ (image : List ℕ) (head : SegmentHead) (segment : Segment) (opener : Opener) (adopted : IsAdopted image 0 segment opener) (head_is : head ≡ head_of image) where
  abbrev pub read : Reading
  read = reading_along image (head_of image) adopted.references

  pub is_base : (bytes : List ℕ) → AreWordsOf bytes image → IsBaseOf bytes head read
  is_base bytes words_are = record {
    words = image;
    words_are = words_are;
    head_is = head_is;
    references = adopted.references;
    reads = record { listed = adopted.listed; along = refl };
    adoptable = adopted.adoptable;
  }

  pub adopted_has_only_opened : HasOnlyOpened (view_of_opener opener)
  adopted_has_only_opened = subst HasOnlyOpened (sym adopted.opened.view) (adopted_only image adopted.references)

  units_left : (units : ℕ) → units ≡ (view_of_opener opener).units.share → units ≡ 4294967295 - used_of read
  units_left units is = is ∙ ap (λ (a : Actor). a.units.share) adopted.opened.view

  module _ (a b : Option (List ℕ)) (units : ℕ) (are_units : units ≡ (view_of_opener opener).units.share) (words_are : IfSome a (λ bytes. AreWordsOf bytes image)) where
    -- the script was not read, or its run has failed
    pub script_cause : (fault : CliFault) → IfSome b (λ bytes. IsFaultOfScript (script_for head.shape head.id units bytes) bytes fault)
        → IfSome a (λ first. IfSome b (λ bytes. IsFaultOfResume first bytes fault))
    script_cause fault cause = by a words_are b cause
      where
        by : (a : Option (List ℕ)) → IfSome a (λ bytes. AreWordsOf bytes image) → (b : Option (List ℕ))
            → IfSome b (λ bytes. IsFaultOfScript (script_for head.shape head.id units bytes) bytes fault)
            → IfSome a (λ first. IfSome b (λ bytes. IsFaultOfResume first bytes fault))
        by None words_are b cause = tt
        by (Some first) words_are None cause = tt
        by (Some first) words_are (Some bytes) cause = inr (
          head,
          read,
          is_base first words_are,
          subst (λ (units : ℕ). IsFaultOfScript (script_for head.shape head.id units bytes) bytes fault) (units_left units are_units) cause,
        )

    pub resume_cause : (r : Result ⊤ CliFault) → IfErr r (λ fault. IfSome b (λ bytes. IsFaultOfScript (script_for head.shape head.id units bytes) bytes fault))
        → IfErr r (λ fault. IfSome a (λ first. IfSome b (λ bytes. IsFaultOfResume first bytes fault)))
    resume_cause (Ok x) cause = tt
    resume_cause (Err fault) cause = script_cause fault cause

    -- the run has written its image and the report
    pub resumed_so : (r : Result ⊤ CliFault) (script : Script) (workers : ℕ) (A B : List ℕ → Type 0)
        → IfSome b (λ bytes. (length bytes ≤ 16777216) × (script_for head.shape head.id units bytes ≡ Ok script))
        → OnOk r (Wrote segment.setting (view_of_opener opener) script workers A B)
        → OnOk r (IfSome a (λ first. IfSome b (λ bytes. (words : List ℕ) × (text : List ℕ) × IsResumeOf workers first bytes words text × A words × B text)))
    resumed_so (Err fault) script workers A B is wrote = tt
    resumed_so (Ok x) script workers A B is wrote = by a words_are b is
      where
        by : (a : Option (List ℕ)) → IfSome a (λ bytes. AreWordsOf bytes image) → (b : Option (List ℕ))
            → IfSome b (λ bytes. (length bytes ≤ 16777216) × (script_for head.shape head.id units bytes ≡ Ok script))
            → IfSome a (λ first. IfSome b (λ bytes. (words : List ℕ) × (text : List ℕ) × IsResumeOf workers first bytes words text × A words × B text))
        by None words_are b is = tt
        by (Some first) words_are None is = tt
        by (Some first) words_are (Some bytes) is =
            let (words, text, written, report, one, other) = wrote in (
              words,
              text,
              record {
                head = head;
                reading = read;
                base_is = is_base first words_are;
                few = is.0;
                script = script;
                script_is = subst (λ (units : ℕ). script_for head.shape head.id units bytes ≡ Ok script) (units_left units are_units) is.1;
                image = subst (λ (h : SegmentHead). IsImageOfResume h read script workers words) (sym head_is)
                    (is_image_of_resume image adopted.references script workers words adopted.adoptable.version
                    (subst (λ (p : Setting × Actor). IsRecordedImage p.0 p.1 script workers words) (λ i. (adopted.opened.setting_is i, adopted.opened.view i)) written));
                report = report;
              },
              one,
              other,
            )

    -- a reader of a script is read only if BASE was an image that may be adopted
    pub base_sound : (failed : Bool) → (failed ≡ true → ⊥) → (failed ≡ false) × IfSome a IsBase
    base_sound failed well = (sound failed well, by a words_are)
      where
        by : (a : Option (List ℕ)) → IfSome a (λ bytes. AreWordsOf bytes image) → IfSome a IsBase
        by None words_are = tt
        by (Some first) words_are = (head, read, is_base first words_are)

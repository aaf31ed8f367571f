-- What the image of a segment in which a script was run reads as: of a new segment, and of one that continues from an image.
use Rattle.std.proofs.Common.{◌≡◌, ℕ, ◌+◌, ℤ, List, [], map, false, Contains, sym, ap, ◌∙◌, refl, arith, ⊎_elim, inl, inr}
use Rattle.std.specs.Prelude.{◌+ℤ◌, ◌⊎◌, pos}
use Rattle.std.proofs.Math.IntN.{+ℤ_idl}
use Rattle.segment_image.specs.Head.{head_of}
use Rattle.bucket_ranges.specs.Reading.{Histogram, Reading, reading_along}
use Rattle.segment_machine.specs.declared.actor.Actor.{Actor}
use Rattle.segment_machine.specs.declared.actor.Known.{Known}
use Rattle.segment_machine.specs.Entry.{tally_sum}
use Rattle.segment_invariant.proofs.Lists.Elements.{none_in}
use Rattle.segment_invariant.proofs.Lists.Maps.{contains_map, contains_mapped}
use Rattle.segment_promises.specs.Adoption.{adopter}
use Rattle.segment_promises.proofs.Adopting.FirstEntries.{costs_are, first_sum, first_units, portions_sum, portions_units}
use Rattle.live_segment.specs.declared.rule.Setting.{Setting}
use Rattle.live_segment.specs.Adopted.{setting_of}
use Rattle.live_segment.specs.Rule.{first_view}
use Rattle.persist_report_core.specs.Script.{HistRecord, Script}
use Rattle.persist_commands.specs.Entries.{entries_among, entries_of}
use Rattle.persist_commands.specs.Recorded.{HasOnlyOpened, IsRecordedImage}
use Rattle.persist_commands.specs.Resume.{IsImageOfResume}
use Rattle.persist_commands.specs.Run.{IsImageOfRun}

-- ---- a new segment

pub new_only : (setting : Setting) → HasOnlyOpened (first_view setting)
new_only setting = record { log = refl; taken = refl; spoiled = refl; filled = refl; alone = refl }

-- its opener began with nothing
pub is_image_of_run : (script : Script) (workers : ℕ) (setting : Setting) (words : List ℕ) → setting.shape ≡ script.shape → setting.version ≡ 2
    → setting.id ≡ script.id → setting.full ≡ false → IsRecordedImage setting (first_view setting) script workers words → IsImageOfRun script workers words
is_image_of_run script workers setting words shape version id empty image = record {
  header = image.header;
  shape = image.shape ∙ shape;
  version = image.version ∙ version;
  id = image.id ∙ id;
  reads = λ reading is.
      let read = image.reads reading is in record {
        lawful = read.lawful;
        named = λ name. (
          λ there. ⊎_elim (λ old. absurd (none_in old.0 old.1)) (λ new. new) ((read.named name).0 there),
          λ new. (read.named name).1 (inr new),
        );
        specified = read.specified;
        once = read.once;
        tallies = λ h there.
            let tally = read.tallies h there in record {
              units = λ key. let units = tally.units key in omega (arith, units);
              sum = tally.sum ∙ +ℤ_idl (tally_sum (entries_of script.hists script.calls) h.name);
              redundant = let redundant = tally.redundant in omega (arith, redundant);
            };
        id = read.id ∙ id;
        corrupt = read.corrupt;
        full = read.full ∙ empty;
        unmarked = λ h there none. let marks = read.unmarked h there none in record { marks = marks.marks; sum_mark = marks.sum_mark };
        taken = λ one h there last.
            let taken = read.taken one h there last in record {
              marks = λ key. let marks = taken.marks key in omega (arith, marks);
              sum_mark = taken.sum_mark ∙ +ℤ_idl (tally_sum (entries_among last.front) h.name);
            };
      };
}

-- ---- a segment that continues from an image

module _ (image references : List ℕ) where
  abbrev base : Reading
  base = reading_along image (head_of image) references

  abbrev first : Actor
  first = adopter image references base 0

  abbrev known_as : Histogram → Known
  known_as h = record { name = h.name; spec = h.spec; reference = h.reference }

  pub adopted_only : HasOnlyOpened first
  adopted_only = record { log = refl; taken = refl; spoiled = refl; filled = refl; alone = refl }

  -- its opener began with what the image has
  pub is_image_of_resume : (script : Script) (workers : ℕ) (words : List ℕ) → (head_of image).version ≡ 2
      → IsRecordedImage (setting_of (head_of image) 0) first script workers words → IsImageOfResume (head_of image) base script workers words
  is_image_of_resume script workers words version written = record {
    header = written.header;
    shape = written.shape;
    version = written.version ∙ version;
    id = written.id;
    reads = λ reading is.
        let read = written.reads reading is in record {
          lawful = read.lawful;
          named = λ name. (
            λ there. ⊎_elim
                (λ old.
                let (known, has, called) = old in
                let (g, among, same) = contains_mapped known_as base.hists known has in
                inl (g, among, ap (λ (k : Known). k.name) same ∙ called))
                (λ new. inr new) ((read.named name).0 there),
            λ either. (read.named name).1 (⊎_elim
                (λ old. let (g, among, called) = old in inl (known_as g, contains_map known_as base.hists g among, called))
                (λ new. inr new) either),
          );
          kept = λ h g there among called. read.kept h (known_as g) there (contains_map known_as base.hists g among) called;
          specified = read.specified;
          once = read.once;
          tallies = λ h there.
              let tally = read.tallies h there in record {
                units = λ key.
                    let units = tally.units key in
                    let had = first_units base.hists h.name key in omega (arith, units, had);
                sum = tally.sum ∙ ap (λ (z : ℤ). z +ℤ tally_sum (entries_of script.hists script.calls) h.name) (first_sum base.hists h.name);
                redundant =
                    let redundant = tally.redundant in
                    let had = costs_are base.hists h.name (λ g. g.redundant) in omega (arith, redundant, had);
              };
          id = read.id;
          corrupt = read.corrupt;
          full = read.full;
          unmarked = λ h there none.
              let marks = read.unmarked h there none in record {
                marks = λ key. marks.marks key ∙ portions_units base.hists h.name key;
                sum_mark = marks.sum_mark ∙ portions_sum base.hists h.name;
              };
          taken = λ one h there last.
              let taken = read.taken one h there last in record {
                marks = λ key.
                    let marks = taken.marks key in
                    let had = first_units base.hists h.name key in omega (arith, marks, had);
                sum_mark = taken.sum_mark ∙ ap (λ (z : ℤ). z +ℤ tally_sum (entries_among last.front) h.name) (first_sum base.hists h.name);
              };
        };
  }

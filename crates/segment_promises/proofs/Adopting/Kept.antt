-- Words of version 2 that satisfy all that the invariant says of words alone may be adopted, if they are not corrupt and have used no more
-- units than a segment has; so may those of a kept state.
use Rattle.segment_invariant.proofs.Prelude.Std.{◌≡◌, ℕ, ◌+◌, ◌≤◌, true, false, List, length, refl, sym, ap, ◌∙◌, subst, arith, inl, inr, Contains}
use Rattle.segment_invariant.proofs.Prelude.Machine.{Dimensions, word_at, head_of, field_at, name_words, record_buckets, record_single, Reading, reading_along, name_of, packed_bucket, IsStop, AreNameWords, IsListed}
use Rattle.segment_invariant.proofs.Prelude.Invariant.{Anatomy, layout_of, order_of, Record, histogram}
use Rattle.std.specs.List.{slice_range}
use Rattle.alloc_core.specs.Planned.{is_pointer}
use Rattle.alloc_core.proofs.Layouts.{free_word, behind_shown}
use Rattle.alloc_core.proofs.Runs.{free_is_pointer}
use Rattle.bucket_ranges.specs.Reading.{IsReading}
use Rattle.bucket_ranges.proofs.Walks.{listed_agree}
use Rattle.segment_machine.specs.declared.actor.Made.TheVariants as made
use Rattle.segment_invariant.specs.Consistent.{HasForm, HoldsMade}
use Rattle.segment_invariant.specs.Words.{WordsAreKept}
use Rattle.segment_invariant.proofs.Consistency.Firsts.{record_on_list}
use Rattle.segment_invariant.proofs.Consistency.Forms.{formed_as, passed_as}
use Rattle.segment_invariant.proofs.Consistency.Made.{record_holds}
use Rattle.segment_invariant.proofs.Consistency.PassedOver.{told, told_shown, told_stands}
use Rattle.segment_promises.specs.Adoption.{IsUndamaged, IsAdoptable, KeptAreAdoptable, used_of}
use Rattle.segment_promises.proofs.Readings.Faults.{no_fault}
use Rattle.segment_promises.proofs.Readings.Heads.{version_shown}
use Rattle.segment_promises.proofs.Readings.Kept.{words_kept}
use Rattle.segment_promises.proofs.Readings.Lists.{list_laid}
use Rattle.segment_promises.proofs.Adopting.Blocks.{blocks_apart}
use Rattle.segment_promises.proofs.Adopting.Headers.{header_shown}
use Rattle.segment_promises.proofs.Adopting.Owned.{later_sample}
use Rattle.segment_promises.proofs.Adopting.Units.{used_fits}

module _ (shape : Dimensions) (opened : Anatomy) (words : List ℕ) (kept : WordsAreKept shape opened words) (frozen : kept.laid.anatomy.version ≡ 2) where
  abbrev order : List ℕ
  order = order_of kept.laid.anatomy

  abbrev its_reading : Reading
  its_reading = reading_along words (head_of words) order

  listed : IsListed words (head_of words) order
  listed = list_laid shape opened words kept.laid

  reads : IsReading words (head_of words) its_reading
  reads = (order, listed, refl)

  -- the name of each histogram's record on the list is padded with zeros
  names_padded : (at : ℕ) → Contains order at → field_at words at 2 ≡ 1
      → AreNameWords (name_of words at) (slice_range words (at + 15) (at + 15 + name_words (length (name_of words at))))
  names_padded at there one = elim (record_on_list shape opened words kept.laid at there one) [
    | inl (l, name, kind, r, among, place, made, (has, named, specified)) ↦
        padded_by at r (record_holds shape words kept.laid.anatomy kept.laid.shown kept.laid.anatomy.version order at r has (kept.laid.records.lawful at r has))
    | inr (l, front, r, among, nothing, over) ↦
        padded_by at r (record_holds shape words (told shape opened words kept.laid at (histogram r) over.0.stands)
        (told_shown shape opened words kept.laid at (histogram r) over.0.stands) kept.laid.anatomy.version order at r
        (told_stands shape opened words kept.laid at (histogram r) over.0.stands) over.0.lawful)
  ]
    where
      padded_by : (at : ℕ) (r : Record) → HoldsMade words order at (made.Histogram r.name r.spec)
          → AreNameWords (name_of words at) (slice_range words (at + 15) (at + 15 + name_words (length (name_of words at))))
      padded_by at r (tag, lawful, its_name, of_kind, spec_there, same, fits, letters) =
          subst (λ (name : List ℕ). AreNameWords name (slice_range words (at + 15) (at + 15 + name_words (length name)))) (sym its_name) letters

  -- and it has a valid form
  listed_form : (at : ℕ) → Contains order at → field_at words at 2 ≡ 1 → HasForm opened.version words at
  listed_form at there one = elim (record_on_list shape opened words kept.laid at there one) [
    | inl (l, name, kind, r, among, place, made, (has, named, specified)) ↦ formed_as shape opened words kept.laid at r has
    | inr (l, front, r, among, nothing, over) ↦ passed_as shape opened words kept.laid front at r over.0
  ]

  shape_is : (head_of words).shape ≡ shape
  shape_is =
      let size = ap (λ (ws : List ℕ). word_at ws 2) kept.laid.shown.shows in
      let page = ap (λ (ws : List ℕ). word_at ws 3) kept.laid.shown.shows in
      λ i. record { size = size i; page = page i }

  undamaged : IsUndamaged words order its_reading
  undamaged = record {
    lawful = no_fault shape opened words kept its_reading reads;
    apart = blocks_apart shape opened words kept.laid;
    zeros = λ i from below. behind_shown shape words (layout_of kept.laid.anatomy) i kept.laid.shown
        (let free = free_word shape words (layout_of kept.laid.anatomy) kept.laid.shown in omega (arith, from, free));
    room = subst (λ (s : Dimensions). is_pointer s (word_at words 7) ≡ true) (sym shape_is) (free_is_pointer shape words (layout_of kept.laid.anatomy) kept.laid.shown);
    tail = subst (IsStop order) (sym (ap (λ (ws : List ℕ). word_at ws 8) kept.laid.shown.shows)) kept.laid.list.tail;
    later = later_sample shape opened words kept.laid;
    padded = names_padded;
    unused = λ at there one i bucketed counts on below. (listed_form at there one).unused bucketed on counts i below;
    packed = λ at there one i bucketed counts packed.
        let n : ℕ = record_buckets words at in
        let place : 4 + (n + i) ≡ 4 + n + i = omega arith in
        ap (field_at words (field_at words at 8)) place
        ∙ (listed_form at there one).packed bucketed counts i
        (ap (λ (v : ℕ). packed_bucket (record_single v words at)) (sym kept.laid.same ∙ frozen) ∙ packed);
  }

  -- whatever list a reader finds
  pub adoptable : (references : List ℕ) → (head_of words).corrupt ≡ false → IsListed words (head_of words) references
      → ((reading : Reading) → IsReading words (head_of words) reading → used_of reading ≤ 4294967295)
      → IsAdoptable words references (reading_along words (head_of words) references)
  adoptable references intact found fits =
      subst (λ (list : List ℕ). IsAdoptable words list (reading_along words (head_of words) list))
      (listed_agree words (head_of words) order references listed found) record {
        header = header_shown shape words (layout_of kept.laid.anatomy) kept.laid.shown kept.laid.versions;
        version = version_shown shape words kept.laid.anatomy kept.laid.shown ∙ frozen;
        intact = intact;
        undamaged = undamaged;
        units = fits its_reading reads;
      }

pub kept_are_adoptable : KeptAreAdoptable
kept_are_adoptable shape opened state references kept frozen intact listed =
    adoptable shape opened state.words (words_kept shape opened state kept) (kept.same.0 ∙ frozen) references intact listed (used_fits shape opened state kept)

-- Units of a value of a sparse histogram are counted in the first sample of the value; if there is none and none can be made, the call ends
-- without it.
use Rattle.std.proofs.Common.{◌≡◌, ℕ, ◌+◌, ◌*◌, ◌≤◌, if◌then◌else◌, true≢false, ℤ, pos, [], inr, refl, sym, ap, ◌∙◌, subst}
use Rattle.segment_image.specs.Shape.{Dimensions}
use Rattle.bucket_ranges.specs.declared.spec.Spec.{Spec}
use Rattle.bucket_ranges.specs.declared.spec.Spec.TheVariants.{Sparse}
use Rattle.bucket_ranges.specs.Ranges.{boundaries_of}
use Rattle.bucket_ranges.specs.Spec.{buckets_of}
use Rattle.segment_calls.specs.declared.refusal.Refusal.{Refusal}
use Rattle.segment_machine.specs.declared.actor.Actor.{Actor}
use Rattle.segment_machine.specs.declared.actor.Known.{Known}
use Rattle.segment_machine.specs.declared.entry.Entry.{Entry}
use Rattle.segment_machine.specs.Actor.{has_buckets, is_bound}
use Rattle.segment_machine.specs.Actor.{Sparse as KnowsSparse}
use Rattle.segment_machine.specs.Counting.{add_count}
use Rattle.segment_machine.specs.Entry.{fresh, key_of}
use Rattle.segment_machine.specs.Event.{counting_event}
use Rattle.segment_machine.specs.Made.{IsFirstSample}
use Rattle.segment_promises.specs.Follows.{noted_by}
use Rattle.segment_promises.specs.Onward.{Grows}
use Rattle.segment_promises.proofs.Growing.{grows_on}
use Rattle.live_segment.specs.declared.segment.Segment.{Segment}
use Rattle.live_segment.specs.Add.Sample.{HasNoRoom}
use Rattle.live_segment.specs.Alloc.Claims.{ClaimsFor, KeepsBlocks}
use Rattle.live_segment.specs.Add.Finish.{item_of}
use Rattle.live_segment.specs.Add.Refusal.{IsNotCounted}
use Rattle.live_segment.specs.Rule.{IsOf}
use Rattle.live_segment.specs.Add.SampleSearch.{HasSampleOf, LacksSampleOf}
use Rattle.live_segment.specs.Steps.{IsSame, Pass}
use Rattle.live_segment.specs.Steps.GhostNotes.{HasSampled, MaySample, Noted, entry_notes, value_entry}
use Rattle.live_segment.specs.Add.Progress.{CountsAlone, HasCounted, LooksFor}
use Rattle.live_segment.proofs.lemmas.Add.Beginning.{counted_behind, known_there, looks_for, may_still, may_tell, only_begun}
use Rattle.live_segment.proofs.lemmas.Add.Blocks.{keeps_counted, makes_kept}
use Rattle.live_segment.proofs.lemmas.Add.CountsAlone.{counted_at, counts_next}

-- units of a value are what a sparse histogram counts for it
pub is_value : (known : Known) (value : ℤ) (units : ℕ) → known.spec ≡ Sparse → value_entry known value units ≡ item_of known value units
is_value known value units sparse =
    ap (λ (spec : Spec). record { name = known.name; key = key_of (boundaries_of spec) value; units = units; amount = pos 0 }) (sym sparse)

module _ (known : Known) (value : ℤ) (units sample : ℕ) (old mid : Pass) (may_item : CountsAlone old.me.0 known (item_of known value units))
    (sparse : known.spec ≡ Sparse) (has : HasSampleOf known value sample old.me.0 mid.me.0) where
  abbrev entry : Entry
  entry = value_entry known value units

  abbrev a : Actor
  a = mid.me.0

  abbrev x : Actor
  x = noted_by a (entry_notes a entry)

  may : CountsAlone old.me.0 known entry
  may = subst (CountsAlone old.me.0 known) (sym (is_value known value units sparse)) may_item

  looks : LooksFor entry old.me.0 a
  looks = looks_for entry old.me.0 a has.looks

  may_mid : CountsAlone a known entry
  may_mid = may_still old.me.0 a known entry may looks

  only : x ≡ record a { units = x.units; entries = x.entries }
  only = only_begun a known entry may_mid

  pub sample_within : (segment : Segment) → IsOf segment.setting old.me.0 → sample + 8 ≤ segment.setting.shape.size
  sample_within segment of = subst (λ (shape : Dimensions). sample + 8 ≤ shape.size) (ap (λ (b : Actor). b.segment.shape) has.looks.proceeds.same ∙ of.shape) has.within

  pub may_sample : MaySample mid sample units
  may_sample =
      let (front, rest, chain, (before, behind, list, others, saw)) = has.first in (
        record { known = known; sample = sample; value = value; units = units },
        (refl, may_mid.alone, saw, refl),
        record {
          recorder = may_mid.recorder;
          may = may_tell a known entry may_mid;
          ready = (
            fresh entry,
            known,
            counts_next a known entry may_mid,
            refl,
            refl,
            inr (
              sample,
              ap (λ (y : Actor). is_bound y.hand.place) only ∙ may_mid.free,
              subst (λ (y : Actor). KnowsSparse y known.reference known) (sym only)
                  ((known_there a.answers.names known.reference known may_mid.alone).0, refl, sparse),
              subst (λ (y : Actor). IsFirstSample y.seen known.reference value sample) (sym only) has.first,
              refl,
            ),
          );
          goes = λ found told. refl;
        },
      )

  module _ (found : ℕ) (after : Pass) (sampled : HasSampled mid sample units found after) where
    told : Noted mid (entry_notes a entry) (counting_event (add_count (sample + 6) units)) [] found after
    told =
        let (front, rest, chain, (before, behind, list, others, saw)) = has.first in
        sampled (record { known = known; sample = sample; value = value; units = units }) (refl, may_mid.alone, saw, refl)

    pub same_counted : IsSame old mid → IsSame old after
    same_counted same = (told.same.0 ∙ same.0, told.same.1 ∙ same.1, told.same.2 ∙ same.2)

    pub keeps_sampled : KeepsBlocks a after.me.0
    keeps_sampled = keeps_counted known entry (sample + 6) found mid after may_mid told

    pub value_claims : ClaimsFor known value old.me.0 after.me.0
    value_claims =
        let behind = keeps_counted known entry (sample + 6) found mid after may_mid told in record {
          segment = behind.segment ∙ ap (λ (b : Actor). b.segment) has.looks.proceeds.same;
          buckets = λ bucketed. absurd (true≢false (sym bucketed ∙ ap has_buckets sparse));
          values = λ is. makes_kept known.reference value old.me.0 a after.me.0 has.looks.proceeds.seen.ends has.claims behind;
          words = subst (Grows old.me.0.seen.words) (sym behind.words) has.looks.proceeds.seen.words;
          ends = grows_on old.me.0.seen.ends a.seen.ends after.me.0.seen.ends has.looks.proceeds.seen.ends behind.ends;
        }

    pub value_counted : HasCounted (item_of known value units) old.me.0 after.me.0
    value_counted = subst (λ (e : Entry). HasCounted e old.me.0 after.me.0) (is_value known value units sparse)
        (counted_behind old.me.0 a after.me.0 known entry may looks has.filled (counted_at known entry (sample + 6) found mid after may_mid told))

-- none was there, and none could be made
pub value_lacks : (why : Refusal) (known : Known) (value : ℤ) (units : ℕ) (old new : Actor) → known.spec ≡ Sparse
    → LacksSampleOf why known value old new → IsNotCounted why known value units old new
value_lacks why known value units old new sparse lacks = record {
  last = lacks.last;
  looks = looks_for (item_of known value units) old lacks.last lacks.looks;
  untouched = lacks.untouched;
  ends = lacks.ends;
  idle = lacks.idle;
  lacks = (
    record {
      buckets = λ bucketed. absurd (true≢false (sym bucketed ∙ ap has_buckets sparse));
      values = λ is. let (front, behind, parts, others) = lacks.none in (front, behind, parts, others, lacks.all);
    },
    subst (λ (spec : Spec). HasNoRoom why (if has_buckets spec then 4 + 2 * buckets_of spec else 8) old new) (sym sparse) lacks.room,
  );
}

-- An attempt to pack units of a bucket: the single word is loaded, and exchanged if it can take them. An exchange that comes too late finds
-- it further on.
use Rattle.std.proofs.Common.{◌≡◌, ◌≢◌, ◌⊎◌, ℕ, ◌+◌, ◌-◌, ◌%◌, ◌^◌, ◌<◌, ◌≤◌, ◌||◌, nat_le, Bool, true, false, List, [], ◌∷◌, ◌++◌, length, drop, Some, None, inl, inr, refl, sym, ap, ◌∙◌, subst, arith}
use Rattle.std.specs.List.{Contains}
use Rattle.std.proofs.lemmas.Bool.{eq-eqb, ne_eqb, le-leb, leb-true}
use Rattle.std.proofs.lemmas.List.{append_assoc}
use Rattle.std.proofs.lemmas.List.Elements.{Contains-append_right}
use Rattle.std.proofs.Math.Seq.{drop-append_seam}
use Rattle.bucket_ranges.specs.Single.{single_of}
use Rattle.bucket_ranges.specs.Spec.{buckets_of}
use Rattle.segment_machine.specs.declared.actor.Actor.{Actor}
use Rattle.segment_machine.specs.declared.actor.Known.{Known}
use Rattle.segment_machine.specs.declared.entry.Entry.{Entry}
use Rattle.segment_machine.specs.declared.place.Look.{Look}
use Rattle.segment_machine.specs.declared.place.Place.TheVariants.{Looking, Idle}
use Rattle.segment_machine.specs.declared.seen.Sighting.{Sighting}
use Rattle.segment_machine.specs.Actor.{Buckets, is_bound}
use Rattle.segment_machine.specs.Calls.{look_of, sight}
use Rattle.segment_machine.specs.Entry.{fresh}
use Rattle.segment_machine.specs.Event.{packing_event, next}
use Rattle.segment_machine.specs.Form.{is_off, IsPacking, Leads}
use Rattle.segment_machine.specs.Packing.{load_single, pack, after_pack, IsSingleOf}
use Rattle.segment_promises.specs.Follows.{noted_by}
use Rattle.live_segment.specs.declared.segment.Segment.{Segment}
use Rattle.live_segment.specs.declared.add.bucket.PackAttempt.TheVariants.{Packed, Off, Passed}
use Rattle.live_segment.specs.Holders.{MayStep}
use Rattle.live_segment.specs.Seated.{IsSeated}
use Rattle.live_segment.specs.Steps.{Pass, IsSame, Stepped}
use Rattle.segment_promises.specs.Onward.{SeesOn}
use Rattle.segment_promises.proofs.Growing.{grows_not}
use Rattle.live_segment.specs.Steps.GhostNotes.{MayPack, HasPacked, Noted, bucket_entry, bucket_notes}
use Rattle.live_segment.specs.Add.Progress.{LooksOn, LooksFor, MayCountInBucket, Tries}
use Rattle.live_segment.proofs.lemmas.Steps.Proceeding.{does_not, sees_not, sees_single}
use Rattle.live_segment.specs.Alloc.Claims.{KeepsBlocks}
use Rattle.live_segment.proofs.lemmas.Add.Blocks.{keeps_begun, keeps_on}
use Rattle.live_segment.proofs.lemmas.Add.Beginning.{singled, may_tell, is_next, only_begun, knows, looks_for, may_yet, looks_for_on, late, counted, counted_behind}
use Rattle.segment_promises.proofs.Ranks.{rank, on_units, leads_higher, last_rank, last_most, last_is, last_leads}
use Rattle.segment_promises.proofs.Calls.Places.{looks_there}

-- whether a word is off
pub is_on : (word : ℕ) → word < 2 ^ 63 → is_off word ≡ false
is_on word below = by_test (nat_le (2 ^ 63) word) refl
  where
    by_test : (b : Bool) → nat_le (2 ^ 63) word ≡ b → b ≡ false
    by_test true e = let le = leb-true (2 ^ 63) word e in absurd (omega (arith, le, below))
    by_test false e = refl

-- between two attempts: what was asked, and what has become of it
pub record IsPackingOn (segment : Segment) (known : Known) (bucket units : ℕ) (first old : Pass) : Type 0 where
  pub seated : IsSeated segment first
  pub may : MayCountInBucket first.me.0 known bucket units
  pub same : IsSame first old
  pub looks : LooksFor (bucket_entry known bucket units) first.me.0 old.me.0
  pub keeps : KeepsBlocks first.me.0 old.me.0
  pub counts : old.me.0.seen.counts ≡ first.me.0.seen.counts

module _ {segment : Segment} {known : Known} {bucket units : ℕ} {first old : Pass} (attempt : IsPackingOn segment known bucket units first old) where
  abbrev pub at : ℕ
  at = known.reference + 9

  abbrev pub n : ℕ
  n = buckets_of known.spec

  abbrev version : ℕ
  version = old.me.0.segment.version

  still : MayCountInBucket old.me.0 known bucket units
  still = may_yet first.me.0 old.me.0 known bucket units attempt.may attempt.looks

  pub may_load : MayStep segment old (packing_event (load_single known.reference))
  may_load = record {
    table = attempt.same.0 ∙ attempt.seated.table;
    recorder = still.counts.recorder;
    ready = (still.counts.free, (known, knows old.me.0 known bucket units still));
  }

  module _ {word : ℕ} {seat : Pass} (step : Stepped old (packing_event (load_single known.reference)) word seat) where
    abbrev look : Look
    look = record (look_of old.me.0.hand.place known.reference) { single = Some word }

    abbrev seen_here : Sighting
    seen_here = record { at = known.reference + 9; word = word }

    learned : (single_of version n word ≢ None) × ((w : ℕ) → Contains old.me.0.seen.singles (record { at = known.reference + 9; word = w }) → Leads version n w word)
    learned = step.learned known (knows old.me.0 known bucket units still)

    pub same_seat : IsSame first seat
    same_seat = (step.same.0 ∙ attempt.same.0, step.same.1 ∙ attempt.same.1, step.same.2 ∙ attempt.same.2)

    pub looks_at : LooksFor (bucket_entry known bucket units) first.me.0 seat.me.0
    looks_at = looks_for_on first.me.0 old.me.0 seat.me.0 known (bucket_entry known bucket units) attempt.may.counts attempt.looks
        (looks_for (bucket_entry known bucket units) old.me.0 seat.me.0
        (subst (LooksOn old.me.0) (sym step.view) (singled old.me.0 (Looking look) (seen_here ∷ []) refl)))

    pub keeps_still : KeepsBlocks first.me.0 seat.me.0
    keeps_still = keeps_on first.me.0 old.me.0 seat.me.0 attempt.keeps (subst (KeepsBlocks old.me.0) (sym step.view) (record { segment = refl; done = refl; own = refl; chain = refl; words = refl; ends = grows_not old.me.0.seen.ends }))

    pub counts_still : seat.me.0.seen.counts ≡ first.me.0.seen.counts
    counts_still = ap (λ (x : Actor). x.seen.counts) step.view ∙ attempt.counts

    loaded_may : MayCountInBucket seat.me.0 known bucket units
    loaded_may = may_yet first.me.0 seat.me.0 known bucket units attempt.may looks_at

    singles : seat.me.0.seen.singles ≡ old.me.0.seen.singles ++ seen_here ∷ []
    singles = ap (λ (x : Actor). x.seen.singles) step.view

    contained : Contains seat.me.0.seen.singles seen_here
    contained = subst (λ (l : List Sighting). Contains l seen_here) (sym singles)
        (Contains-append_right old.me.0.seen.singles (seen_here ∷ []) seen_here (0, omega arith, refl))

    since : Contains (drop (length first.me.0.seen.singles) seat.me.0.seen.singles) seen_here
    since =
        let (more, is) = attempt.looks.proceeds.seen.singles in
        let begin = first.me.0.seen.singles in
        let all : seat.me.0.seen.singles ≡ begin ++ (more ++ seen_here ∷ []) =
        singles ∙ (ap (λ (l : List Sighting). l ++ seen_here ∷ []) is ∙ append_assoc begin more (seen_here ∷ [])) in
        let later : drop (length begin) seat.me.0.seen.singles ≡ more ++ seen_here ∷ [] =
        ap (drop (length begin)) all ∙ drop-append_seam begin (more ++ seen_here ∷ []) in
        subst (λ (l : List Sighting). Contains l seen_here) (sym later) (Contains-append_right more (seen_here ∷ []) seen_here (0, omega arith, refl))

    placed : seat.me.0.hand.place ≡ Looking look
    placed = ap (λ (x : Actor). x.hand.place) step.view

    pub tries_off : 2 ^ 63 ≤ word → Tries known bucket units first.me.0 Off seat.me.0
    tries_off off =
        let there : seat.me.0.hand.place ≡ Looking (record { histogram = known.reference; single = Some word; counts = look.counts }) =
        placed ∙ ap (λ (h : ℕ). Looking (record { histogram = h; single = Some word; counts = look.counts })) (looks_there old.me.0.hand.place known.reference) in
        (looks_at, keeps_still, counts_still, (word, look.counts, there, le-leb (2 ^ 63) word off, contained))

    pub tries_passed : word < 2 ^ 63 → ((packed : ℕ) → ¬ (IsPacking bucket units word packed)) → Tries known bucket units first.me.0 Passed seat.me.0
    tries_passed on none = (looks_at, keeps_still, counts_still, (word, since, is_on word on, none))

    -- the word has a form that can be packed
    formed : word < 2 ^ 63 → (word ≡ 0) ⊎ (1 ≤ word % 2 ^ 32)
    formed on = by (on_units version n word learned.0 (is_on word on))
      where
        by : {X : Type 0} → (word ≡ 0) ⊎ ((1 ≤ word % 2 ^ 32) × X) → (word ≡ 0) ⊎ (1 ≤ word % 2 ^ 32)
        by (inl none) = inl none
        by (inr (some, form)) = inr some

    module _ (on : word < 2 ^ 63) {packed : ℕ} (would_pack : (word ≡ 0) ⊎ (1 ≤ word % 2 ^ 32) → IsPacking bucket units word packed) where
      packs : IsPacking bucket units word packed
      packs = would_pack (formed on)

      abbrev x : Actor
      x = noted_by seat.me.0 (bucket_notes seat.me.0 known bucket units)

      only : x ≡ record seat.me.0 { units = x.units; entries = x.entries }
      only = only_begun seat.me.0 known (bucket_entry known bucket units) loaded_may.counts

      keeps_begins : KeepsBlocks first.me.0 x
      keeps_begins = keeps_on first.me.0 seat.me.0 x keeps_still (keeps_begun seat.me.0 known (bucket_entry known bucket units) loaded_may.counts)

      knows_still : Buckets x known.reference known
      knows_still = subst (λ (y : Actor). Buckets y known.reference known) (sym only) (knows seat.me.0 known bucket units loaded_may)

      pub may_pack : bucket < buckets_of known.spec → MayPack seat known.reference word packed
      may_pack below = (
        record { known = known; bucket = bucket; units = units },
        (refl, loaded_may.counts.alone, packs),
        record {
          recorder = loaded_may.counts.recorder;
          may = may_tell seat.me.0 known (bucket_entry known bucket units) loaded_may.counts;
          ready = (
            fresh (bucket_entry known bucket units),
            look,
            known,
            bucket,
            (is_next seat.me.0 known (bucket_entry known bucket units) loaded_may.counts, ap (λ (z : Bool). false || z) (ne_eqb units 0 (let some = attempt.may.counts.some in λ e. omega (arith, e, some)))),
            (ap (λ (y : Actor). y.hand.place) only ∙ placed, looks_there old.me.0.hand.place known.reference, refl, is_on word on, knows_still),
            refl,
            (below, refl),
            packs,
          );
          goes = λ found told. refl;
        },
      )

      module _ (found : ℕ) (after : Pass) (has : HasPacked seat known.reference word packed found after) where
        told : Noted seat (bucket_notes seat.me.0 known bucket units) (packing_event (pack known.reference word packed)) [] found after
        told = has (record { known = known; bucket = bucket; units = units }) (refl, loaded_may.counts.alone, packs)

        pub same_after : IsSame first after
        same_after = (told.same.0 ∙ same_seat.0, told.same.1 ∙ same_seat.1, told.same.2 ∙ same_seat.2)

        pub tries_packed : found ≡ word → Tries known bucket units first.me.0 Packed after.me.0
        tries_packed won =
            let view : after.me.0 ≡ after_pack true x known.reference packed found =
            told.view ∙ ap (λ (b : Bool). after_pack b x known.reference packed found) (eq-eqb found word won) in (
              counted_behind first.me.0 seat.me.0 after.me.0 known (bucket_entry known bucket units) attempt.may.counts looks_at (ap (λ d. d.filled) keeps_still.done)
                  (counted seat.me.0 after.me.0 known (bucket_entry known bucket units) (record x.hand { place = Idle }) (record x.seen { singles = x.seen.singles ++ sight at packed })
                  loaded_may.counts refl
                  (subst (λ (y : Actor). SeesOn seat.me.0.seen (record y.seen { singles = y.seen.singles ++ sight at packed })) (sym only) (sees_single seat.me.0.seen (sight at packed)))
                  view),
              keeps_on first.me.0 x after.me.0 keeps_begins (subst (KeepsBlocks x) (sym view) (record { segment = refl; done = refl; own = refl; chain = refl; words = refl; ends = grows_not x.seen.ends })),
            )

        module _ (lost : found ≢ word) where
          view : after.me.0 ≡ after_pack false x known.reference packed found
          view = told.view ∙ ap (λ (b : Bool). after_pack b x known.reference packed found) (ne_eqb found word lost)

          came_late : LooksFor (bucket_entry known bucket units) seat.me.0 after.me.0 × (after.me.0.done ≡ seat.me.0.done)
              × (after.me.0.seen.counts ≡ seat.me.0.seen.counts) × (after.me.0.seen.singles ≡ seat.me.0.seen.singles ++ sight at found)
          came_late = late seat.me.0 after.me.0 known (bucket_entry known bucket units) (record x.hand { place = Idle }) (sight at found) loaded_may.counts refl view

          -- it tries again
          pub attempted : IsPackingOn segment known bucket units first after
          attempted = record {
            seated = attempt.seated;
            may = attempt.may;
            same = same_after;
            looks = looks_for_on first.me.0 seat.me.0 after.me.0 known (bucket_entry known bucket units) attempt.may.counts looks_at came_late.0;
            keeps = keeps_on first.me.0 x after.me.0 keeps_begins (subst (KeepsBlocks x) (sym view) (record { segment = refl; done = refl; own = refl; chain = refl; words = refl; ends = grows_not x.seen.ends }));
            counts = came_late.2 ∙ counts_still;
          }

          -- what the exchange found is further on
          further : rank version n word < rank version n found
          further =
              let here : IsSingleOf (record seat.me.0 { units = x.units; entries = x.entries }) known.reference found =
              subst (λ (y : Actor). IsSingleOf y known.reference found) only told.learned in
              let at_old : IsSingleOf (next old.me.0 (packing_event (load_single known.reference)) word) known.reference found =
              subst (λ (y : Actor). IsSingleOf y known.reference found) step.view here in
              let (form, leads) = at_old known (knows old.me.0 known bucket units still) in
              leads_higher version n word found learned.0 form (is_on word on)
              (leads word (Contains-append_right old.me.0.seen.singles (seen_here ∷ []) seen_here (0, omega arith, refl))) (λ e. lost (sym e))

          pub falls : 65536 - last_rank segment.setting.version n at after.me.0.seen.singles
              < 65536 - last_rank segment.setting.version n at old.me.0.seen.singles
          falls = subst (λ (v : ℕ). 65536 - last_rank v n at after.me.0.seen.singles < 65536 - last_rank v n at old.me.0.seen.singles)
              (ap (λ (y : Actor). y.segment.version) attempt.looks.proceeds.same ∙ attempt.seated.of.version) less
            where
              less : 65536 - last_rank version n at after.me.0.seen.singles < 65536 - last_rank version n at old.me.0.seen.singles
              less =
                  let low : last_rank version n at old.me.0.seen.singles ≤ rank version n word = last_leads version n at word old.me.0.seen.singles learned.1 in
                  let last : last_rank version n at after.me.0.seen.singles ≡ rank version n found =
                  ap (last_rank version n at) came_late.3 ∙ last_is version n at found seat.me.0.seen.singles in
                  let most = last_most version n at after.me.0.seen.singles in
                  let rises = further in
                  omega (arith, low, last, most, rises)

-- before the first attempt it has not even looked
pub begun_not : (entry : Entry) (a : Actor) → is_bound a.hand.place ≡ false → LooksFor entry a a
begun_not entry a free = record {
  proceeds = record { same = refl; free = free; done = does_not a.done; seen = sees_not a.seen };
  begun = inl (refl, refl);
}

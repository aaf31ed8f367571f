-- A single word is disabled once counts are there: it is loaded, and exchanged if it is not off. An exchange that comes too late finds it
-- further on. The units that it had are added to the count of their bucket.
use Rattle.std.proofs.Common.{◌≡◌, ◌≢◌, ◌⊎◌, ℕ, ◌+◌, ◌-◌, ◌*◌, ◌/◌, ◌%◌, ◌^◌, ◌<◌, ◌≤◌, ◌==◌, ◌&&◌, nat_lt, nat_le, if◌then◌else◌, Bool, true, false, [], ◌∷◌, ◌++◌, Option, Some, None, inl, inr, refl, sym, ap, ◌∙◌, subst, arith}
use Rattle.std.specs.Prelude.{unwrap_or}
use Rattle.std.specs.List.{Contains}
use Rattle.std.proofs.lemmas.Bool.{eq-eqb, ne_eqb, le-leb, ltb-true, and_parts}
use Rattle.std.proofs.lemmas.List.Elements.{Contains-append_right}
use Rattle.bucket_ranges.specs.declared.single.SingleWord.{SingleWord}
use Rattle.bucket_ranges.specs.declared.single.SingleWord.TheVariants as single
use Rattle.bucket_ranges.specs.Single.{single_of, is_packed_word, packed_bucket}
use Rattle.bucket_ranges.specs.Spec.{buckets_of}
use Rattle.segment_machine.specs.declared.actor.Actor.{Actor}
use Rattle.segment_machine.specs.declared.actor.Known.{Known}
use Rattle.segment_machine.specs.declared.place.Look.{Look}
use Rattle.segment_machine.specs.declared.place.Place.{Place}
use Rattle.segment_machine.specs.declared.place.Place.TheVariants.{Looking, Moving}
use Rattle.segment_machine.specs.declared.seen.Sighting.{Sighting}
use Rattle.segment_machine.specs.Actor.{is_opener, known_buckets}
use Rattle.segment_machine.specs.Calls.{form_seen, look_of, sight}
use Rattle.segment_machine.specs.Event.{packing_event, next}
use Rattle.segment_machine.specs.Form.{is_off, off_word, units_in, Leads}
use Rattle.segment_machine.specs.Packing.{load_single, disable, add_moved, after_disable, after_disabling, IsSingleOf}
use Rattle.segment_invariant.proofs.Packing.OffForms.{on_form}
use Rattle.live_segment.specs.declared.segment.Segment.{Segment}
use Rattle.live_segment.specs.Holders.{MayStep}
use Rattle.live_segment.specs.Seated.{IsSeated}
use Rattle.live_segment.specs.Add.Counts.{MayMount, HasDisabled, LooksAtCounts}
use Rattle.live_segment.specs.Steps.{Pass, IsSame, Stepped}
use Rattle.live_segment.specs.Add.Progress.{CountsWithin, LooksAt, LooksOn}
use Rattle.live_segment.proofs.lemmas.Steps.Proceeding.{does_not, looks_on, sees_lists, sees_not}
use Rattle.segment_promises.proofs.Growing.{grows_by, grows_not}
use Rattle.live_segment.proofs.lemmas.Add.Beginning.{singled}
use Rattle.live_segment.proofs.lemmas.Add.Attempts.{is_on}
use Rattle.live_segment.specs.Alloc.Claims.{KeepsBlocks}
use Rattle.live_segment.proofs.lemmas.Add.Blocks.{keeps_none, keeps_on}
use Rattle.live_segment.proofs.lemmas.Add.Mounted.{mounts_on}
use Rattle.segment_promises.proofs.Ranks.{rank, leads_higher, last_rank, last_most, last_is, last_leads}
use Rattle.segment_promises.proofs.Calls.Places.{looks_again}

-- a word with which one is disabled is off
off_is : (version word : ℕ) → is_off (off_word version word) ≡ true
off_is version word = le-leb (2 ^ 63) (off_word version word) (by (version == 2) (word == 0))
  where
    by : (two none : Bool) → 2 ^ 63 ≤ (if two then 2 ^ 63 + word else (if none then 2 ^ 63 + 65535 else 2 ^ 63 + word / 2 ^ 32))
    by true none = omega arith
    by false true = omega arith
    by false false = omega arith

-- between two attempts: what was asked, and what has become of it
pub record IsDisabling (segment : Segment) (known : Known) (counts : ℕ) (first old : Pass) : Type 0 where
  pub seated : IsSeated segment first
  pub may : MayMount first.me.0 known
  pub within : CountsWithin first.me.0 known counts
  pub same : IsSame first old
  pub looks : LooksOn first.me.0 old.me.0
  pub keeps : KeepsBlocks first.me.0 old.me.0
  pub stands : (single : Option ℕ) × LooksAt old.me.0 known.reference single counts

-- before the first attempt it has not even looked
pub disabling : {segment : Segment} {known : Known} {counts : ℕ} {first : Pass} → IsSeated segment first → MayMount first.me.0 known
    → LooksAtCounts first.me.0 known counts → IsDisabling segment known counts first first
disabling {first = first} seated may stands = record {
  seated = seated;
  may = may;
  within = stands.1;
  same = (refl, refl, refl);
  looks = record {
    proceeds = record { same = refl; free = may.free; done = does_not first.me.0.done; seen = sees_not first.me.0.seen };
    units = refl;
    entries = refl;
  };
  keeps = keeps_none first.me.0;
  stands = stands.0;
}

module _ {segment : Segment} {known : Known} {counts : ℕ} {first old : Pass} (attempt : IsDisabling segment known counts first old) where
  abbrev at : ℕ
  at = known.reference + 9

  abbrev n : ℕ
  n = buckets_of known.spec

  abbrev version : ℕ
  version = old.me.0.segment.version

  still : MayMount old.me.0 known
  still = mounts_on first.me.0 old.me.0 known attempt.may attempt.looks

  pub may_load : MayStep segment old (packing_event (load_single known.reference))
  may_load = record { table = attempt.same.0 ∙ attempt.seated.table; recorder = still.recorder; ready = (still.free, (known, still.knows)) }

  module _ (word : ℕ) (seat : Pass) (step : Stepped old (packing_event (load_single known.reference)) word seat) where
    abbrev b : Actor
    b = seat.me.0

    -- what it looks at then
    abbrev look : Option ℕ → Look
    look single = record { histogram = known.reference; single = single; counts = counts }

    abbrev seen_here : Sighting
    seen_here = record { at = known.reference + 9; word = word }

    learned : (single_of version n word ≢ None) × ((w : ℕ) → Contains old.me.0.seen.singles (record { at = known.reference + 9; word = w }) → Leads version n w word)
    learned = step.learned known still.knows

    placed : b.hand.place ≡ Looking (look (Some word))
    placed = ap (λ (x : Actor). x.hand.place) step.view
        ∙ ap (λ (l : Look). Looking (record l { single = Some word })) (looks_again old.me.0.hand.place (look attempt.stands.0) known.reference attempt.stands.1 refl)

    looks_here : look_of b.hand.place known.reference ≡ look (Some word)
    looks_here = looks_again b.hand.place (look (Some word)) known.reference placed refl

    loads : LooksOn old.me.0 b
    loads = subst (LooksOn old.me.0) (sym step.view)
        (singled old.me.0 (next old.me.0 (packing_event (load_single known.reference)) word).hand.place (sight (known.reference + 9) word) refl)

    looks_still : LooksOn first.me.0 b
    looks_still = looks_on first.me.0 old.me.0 b attempt.looks loads

    keeps_still : KeepsBlocks first.me.0 b
    keeps_still = keeps_on first.me.0 old.me.0 b attempt.keeps (subst (KeepsBlocks old.me.0) (sym step.view) (record { segment = refl; done = refl; own = refl; chain = refl; words = refl; ends = grows_not old.me.0.seen.ends }))

    pub same_seat : IsSame first seat
    same_seat = (step.same.0 ∙ attempt.same.0, step.same.1 ∙ attempt.same.1, step.same.2 ∙ attempt.same.2)

    -- counts are where they were
    within_on : (c : Actor) → LooksOn first.me.0 c → CountsWithin c known counts
    within_on c on = (
      attempt.within.0,
      subst (λ (size : ℕ). counts + (4 + 2 * buckets_of known.spec) ≤ size) (sym (ap (λ (x : Actor). x.segment.shape.size) on.proceeds.same)) attempt.within.1,
    )

    pub finds_off : 2 ^ 63 ≤ word → HasDisabled known counts first.me.0 b
    finds_off off = record { looks = looks_still; keeps = keeps_still; stands = ((word, placed, le-leb (2 ^ 63) word off), within_on b looks_still) }

    module _ (on : word < 2 ^ 63) where
      pub may_disable : MayStep segment seat (packing_event (disable known.reference word))
      may_disable =
          let it = mounts_on first.me.0 b known attempt.may looks_still in record {
            table = step.same.0 ∙ (attempt.same.0 ∙ attempt.seated.table);
            recorder = it.recorder;
            ready = (look (Some word), known, (placed, refl, refl, is_on word on, it.knows), attempt.within.0, it.counts);
          }

      module _ (found : ℕ) (after : Pass) (tried : Stepped seat (packing_event (disable known.reference word)) found after) where
        pub same_after : IsSame first after
        same_after = (tried.same.0 ∙ same_seat.0, tried.same.1 ∙ same_seat.1, tried.same.2 ∙ same_seat.2)

        -- ---- it is disabled

        module _ (won : found ≡ word) where
          abbrev off : ℕ
          off = off_word b.segment.version word

          abbrev place_by : Bool → Place
          place_by moves = if moves
              then Moving (look (Some off)) (unwrap_or (packed_bucket (form_seen b known.reference word)) 0) (units_in (form_seen b known.reference word))
              else Looking (look (Some off))

          abbrev with_place : Place → Actor
          with_place place = record b { hand = record b.hand { place = place }; seen = record b.seen { singles = b.seen.singles ++ sight (known.reference + 9) off } }

          view : after.me.0 ≡ with_place (place_by ((b.segment.version == 1) && nat_lt 0 word))
          view = tried.view
              ∙ (ap (λ (x : Bool). after_disable x b known.reference word found) (eq-eqb found word won)
              ∙ ap (λ (l : Look). with_place (after_disabling b.segment.version l word (form_seen b known.reference word))) looks_here)

          versions : segment.setting.version ≡ b.segment.version
          versions = sym (ap (λ (x : Actor). x.segment.version) looks_still.proceeds.same ∙ attempt.seated.of.version)

          view_as : (moves : Bool) → moves ≡ ((segment.setting.version == 1) && nat_lt 0 word) → after.me.0 ≡ with_place (place_by moves)
          view_as moves is = view ∙ ap (λ (x : Bool). with_place (place_by x)) (sym (is ∙ ap (λ (v : ℕ). (v == 1) && nat_lt 0 word) versions))

          -- no units are in transit
          pub rests : false ≡ ((segment.setting.version == 1) && nat_lt 0 word) → HasDisabled known counts first.me.0 after.me.0
          rests is =
              let all = view_as false is in
              let on_it = looks_on first.me.0 b after.me.0 looks_still
              (subst (LooksOn b) (sym all) (singled b (place_by false) (sight (known.reference + 9) off) refl)) in record {
                looks = on_it;
                keeps = keeps_on first.me.0 b after.me.0 keeps_still (subst (KeepsBlocks b) (sym all) (record { segment = refl; done = refl; own = refl; chain = refl; words = refl; ends = grows_not b.seen.ends }));
                stands = ((off, ap (λ (x : Actor). x.hand.place) all, off_is b.segment.version word), within_on after.me.0 on_it);
              }

          -- units of a bucket are
          module _ (is : true ≡ ((segment.setting.version == 1) && nat_lt 0 word)) where
            formed : (word / 2 ^ 32 < n) × (single_of version n word ≡ Some (single.Packed (word / 2 ^ 32) (word % 2 ^ 32)))
            formed = by (on_form version n word learned.0 (is_on word on))
              where
                by : (word ≡ 0) ⊎ ((is_packed_word n word ≡ true) × (single_of version n word ≡ Some (single.Packed (word / 2 ^ 32) (word % 2 ^ 32))))
                    → (word / 2 ^ 32 < n) × (single_of version n word ≡ Some (single.Packed (word / 2 ^ 32) (word % 2 ^ 32)))
                by (inl none) = let some_there = ltb-true 0 word (and_parts (segment.setting.version == 1) (nat_lt 0 word) (sym is)).1 in absurd (omega (arith, none, some_there))
                by (inr (packed, form)) =
                    let parts = and_parts (nat_lt (word / 2 ^ 32) n && nat_le 1 (word % 2 ^ 32)) (nat_le (word % 2 ^ 32) 65535) packed in
                    let both = and_parts (nat_lt (word / 2 ^ 32) n) (nat_le 1 (word % 2 ^ 32)) parts.0 in
                    (ltb-true (word / 2 ^ 32) n both.0, form)

            form : form_seen b known.reference word ≡ Some (single.Packed (word / 2 ^ 32) (word % 2 ^ 32))
            form =
                let it = mounts_on first.me.0 b known attempt.may looks_still in
                (λ i. single_of (ap (λ (x : Actor). x.segment.version) loads.proceeds.same i) (known_buckets (it.alone i)) word) ∙ formed.1

            moving : after.me.0.hand.place ≡ Moving (look (Some off)) (word / 2 ^ 32) (word % 2 ^ 32)
            moving = ap (λ (x : Actor). x.hand.place) (view_as true is)
                ∙ ap (λ (f : Option SingleWord). Moving (look (Some off)) (unwrap_or (packed_bucket f) 0) (units_in f)) form

            pub may_move : MayStep segment after (packing_event (add_moved counts (word / 2 ^ 32) (word % 2 ^ 32)))
            may_move = record {
              table = same_after.0 ∙ attempt.seated.table;
              recorder = ap (λ (x : Actor). is_opener x.role) (view_as true is) ∙ (mounts_on first.me.0 b known attempt.may looks_still).recorder;
              ready = (look (Some off), moving, refl);
            }

            pub moves_within : counts + 4 + word / 2 ^ 32 < first.me.0.segment.shape.size
            moves_within = let below = formed.0 in let most = attempt.within.1 in omega (arith, below, most)

            pub moved : (count : ℕ) (last : Pass) → Stepped after (packing_event (add_moved counts (word / 2 ^ 32) (word % 2 ^ 32))) count last
                → HasDisabled known counts first.me.0 last.me.0
            moved count last adds =
                let place = λ (p : Place). next (with_place p) (packing_event (add_moved counts (word / 2 ^ 32) (word % 2 ^ 32))) count in
                let all : last.me.0 ≡ place (Moving (look (Some off)) (word / 2 ^ 32) (word % 2 ^ 32)) =
                adds.view ∙ (ap (λ (x : Actor). next x (packing_event (add_moved counts (word / 2 ^ 32) (word % 2 ^ 32))) count) (view_as true is)
                ∙ ap (λ (f : Option SingleWord). place (Moving (look (Some off)) (unwrap_or (packed_bucket f) 0) (units_in f))) form) in
                let on_it : LooksOn first.me.0 last.me.0 = looks_on first.me.0 b last.me.0 looks_still (subst (LooksOn b) (sym all) (record {
                  proceeds = record {
                    same = refl;
                    free = refl;
                    done = does_not b.done;
                    seen = sees_lists b.seen (grows_not b.seen.chain) (grows_not b.seen.ends) (grows_not b.seen.tails) (grows_by b.seen.singles (sight (known.reference + 9) off))
                        (grows_by b.seen.counts (sight (counts + 4 + word / 2 ^ 32) (count + word % 2 ^ 32))) (grows_not b.seen.words) (grows_not b.seen.cursors);
                  };
                  units = refl;
                  entries = refl;
                })) in record {
                  looks = on_it;
                  keeps = keeps_on first.me.0 b last.me.0 keeps_still (subst (KeepsBlocks b) (sym all) (record { segment = refl; done = refl; own = refl; chain = refl; words = refl; ends = grows_not b.seen.ends }));
                  stands = ((off, ap (λ (x : Actor). x.hand.place) all, off_is b.segment.version word), within_on last.me.0 on_it);
                }

        -- ---- it was not

        module _ (lost : found ≢ word) where
          abbrev behind : Actor
          behind = record b { hand = record b.hand { place = Looking (look None) }; seen = record b.seen { singles = b.seen.singles ++ sight (known.reference + 9) found } }

          late : after.me.0 ≡ behind
          late = tried.view
              ∙ (ap (λ (x : Bool). after_disable x b known.reference word found) (ne_eqb found word lost)
              ∙ ap (λ (l : Look). record b { hand = record b.hand { place = Looking (record l { single = None }) }; seen = record b.seen { singles = b.seen.singles ++ sight (known.reference + 9) found } })
              looks_here)

          pub looks_after : LooksOn first.me.0 after.me.0
          looks_after = looks_on first.me.0 b after.me.0 looks_still
              (subst (LooksOn b) (sym late) (singled b (Looking (look None)) (sight (known.reference + 9) found) refl))

          pub keeps_after : KeepsBlocks first.me.0 after.me.0
          keeps_after = keeps_on first.me.0 b after.me.0 keeps_still (subst (KeepsBlocks b) (sym late) (record { segment = refl; done = refl; own = refl; chain = refl; words = refl; ends = grows_not b.seen.ends }))

          pub stands_after : (single : Option ℕ) × LooksAt after.me.0 known.reference single counts
          stands_after = (None, ap (λ (x : Actor). x.hand.place) late)

          further : rank version n word < rank version n found
          further =
              let at_old : IsSingleOf (next old.me.0 (packing_event (load_single known.reference)) word) known.reference found =
              subst (λ (y : Actor). IsSingleOf y known.reference found) step.view tried.learned in
              let (formed, leads) = at_old known still.knows in
              leads_higher version n word found learned.0 formed (is_on word on)
              (leads word (Contains-append_right old.me.0.seen.singles (seen_here ∷ []) seen_here (0, omega arith, refl))) (λ e. lost (sym e))

          pub falls : 65536 - last_rank segment.setting.version n at after.me.0.seen.singles
              < 65536 - last_rank segment.setting.version n at old.me.0.seen.singles
          falls = subst (λ (v : ℕ). 65536 - last_rank v n at after.me.0.seen.singles < 65536 - last_rank v n at old.me.0.seen.singles)
              (ap (λ (y : Actor). y.segment.version) attempt.looks.proceeds.same ∙ attempt.seated.of.version) less
            where
              less : 65536 - last_rank version n at after.me.0.seen.singles < 65536 - last_rank version n at old.me.0.seen.singles
              less =
                  let low : last_rank version n at old.me.0.seen.singles ≤ rank version n word = last_leads version n at word old.me.0.seen.singles learned.1 in
                  let last : last_rank version n at after.me.0.seen.singles ≡ rank version n found =
                  ap (λ (x : Actor). last_rank version n at x.seen.singles) late ∙ last_is version n at found b.seen.singles in
                  let most = last_most version n at after.me.0.seen.singles in
                  let rises = further in
                  omega (arith, low, last, most, rises)

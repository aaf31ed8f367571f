-- A recorder looks at the buckets of a histogram: it loads the single word and, if that is off, the counts of all buckets.
use Rattle.std.proofs.Common.{◌≡◌, ◌≢◌, ℕ, ◌+◌, ◌*◌, ◌^◌, ◌<◌, ◌≤◌, ◌==◌, Bool, true, false, true≢false, if◌then◌else◌, ℤ, List, [], ◌∷◌, ◌++◌, drop, length, get_or, Some, inl, inr, ⊎_elim, refl, sym, ap, ◌∙◌, subst, arith}
use Rattle.std.specs.List.{All, Contains}
use Rattle.std.proofs.lemmas.Bool.{ne_eqb, le-leb}
use Rattle.std.proofs.lemmas.List.Elements.{All-contains, Contains-append_right}
use Rattle.std.proofs.Math.Seq.{drop-append_seam}
use Rattle.segment_image.specs.Shape.{Dimensions}
use Rattle.bucket_ranges.specs.Single.{single_of, units_packed}
use Rattle.bucket_ranges.specs.Spec.{buckets_of}
use Rattle.segment_machine.specs.declared.actor.Actor.{Actor}
use Rattle.segment_machine.specs.declared.actor.Known.{Known}
use Rattle.segment_machine.specs.declared.place.Look.{Look}
use Rattle.segment_machine.specs.declared.place.Place.{Place}
use Rattle.segment_machine.specs.declared.seen.Seen.{Seen}
use Rattle.segment_machine.specs.declared.seen.Sighting.{Sighting}
use Rattle.segment_machine.specs.Actor.{Buckets, has_buckets, is_bound, is_opener, looking, word_seen, SawSingle}
use Rattle.segment_machine.specs.Calls.{IsUnits, look_of, sight, sight_counts}
use Rattle.segment_machine.specs.Counting.{load_counts}
use Rattle.segment_machine.specs.Event.{Event, next, Learned, Ready, counting_event, packing_event}
use Rattle.segment_machine.specs.Form.{is_off}
use Rattle.segment_machine.specs.Note.{looks}
use Rattle.segment_machine.specs.Packing.{load_single}
use Rattle.segment_invariant.proofs.Lists.Elements.{contains_at, below_length}
use Rattle.segment_invariant.proofs.Lists.Pairs.{element_at}
use Rattle.live_segment.specs.declared.segment.Segment.{Segment}
use Rattle.live_segment.specs.Holders.{MayStep}
use Rattle.live_segment.specs.Seated.{IsSeated}
use Rattle.live_segment.specs.Snapshot.Counts.{StandsAt, MayLookAt, HasLookedAt}
use Rattle.segment_promises.specs.Onward.{SeesOn}
use Rattle.live_segment.specs.Snapshot.Outcome.{HavePacked, HasLooked, HasSeenBuckets}
use Rattle.live_segment.specs.Steps.{Pass, IsAtRest, Stepped}
use Rattle.live_segment.specs.Steps.GhostNotes.{KnowsAlone, MayDo, Noted}
use Rattle.live_segment.proofs.lemmas.Add.Attempts.{is_on}
use Rattle.live_segment.proofs.lemmas.Add.Beginning.{known_there}
use Rattle.live_segment.proofs.lemmas.Steps.Proceeding.{sees_lists, sees_single}
use Rattle.segment_promises.proofs.Growing.{ended_grows, grows_by, grows_not}
use Rattle.segment_promises.proofs.Calls.Places.{looks_again, looks_there}
use Rattle.segment_promises.proofs.Calls.SeenWords.{seen_now}

-- a place at the counts of a histogram is free
pub free_at : (a : Actor) (look : Look) (known : Known) → StandsAt a look known → is_bound a.hand.place ≡ false
free_at a look known stands =
    ⊎_elim
    (λ (place, used, off, knows). ap is_bound place)
    (λ (bucket, count, place, knows). ap is_bound place) stands

-- a reference that is not 0 is seen as it was found
pub counts_there : (words : List Sighting) (histogram found : ℕ) → found ≢ 0 → ((counts : ℕ) → word_seen words (histogram + 8) ≡ Some counts → found ≡ counts)
    → word_seen (words ++ sight_counts histogram found) (histogram + 8) ≡ Some found
counts_there words histogram found used same =
    ap (λ (b : Bool). word_seen (words ++ (if b then [] else sight (histogram + 8) found)) (histogram + 8)) (ne_eqb found 0 used)
    ∙ seen_now words (histogram + 8) found same

-- it has looked again
pub has_looked : (a b : Actor) (place : Place) (seen : Seen) → b ≡ record (looking a) { hand = record a.hand { place = place }; seen = seen }
    → is_bound place ≡ false → SeesOn a.seen seen → HasLooked a b
has_looked a b place seen is free sees = subst (HasLooked a) (sym is) (record { same = refl; free = free; seen = sees })

module _ {segment : Segment} (known : Known) {first : Pass} (seated : IsSeated segment first) (rests : IsAtRest first.me.0)
    (alone : KnowsAlone first.me.0 known) (bucketed : has_buckets known.spec ≡ true) where
  abbrev a : Actor
  a = first.me.0

  abbrev single : Event
  single = packing_event (load_single known.reference)

  abbrev reference : Event
  reference = counting_event (load_counts known.reference)

  knows : Buckets a known.reference known
  knows = ((known_there a.answers.names known.reference known alone).0, refl, bucketed)

  pub may_look : MayDo first (looks ∷ []) single []
  may_look = record {
    recorder = rests.recorder;
    may = ((λ e. true≢false (sym (ap is_bound e) ∙ rests.free), rests.recorder, rests.runs, rests.takes), refl);
    ready = (rests.free, (known, knows));
    goes = λ found learned. refl;
  }

  module _ (word : ℕ) (one : Pass) (looked : Noted first (looks ∷ []) single [] word one) where
    -- it has loaded the single word
    abbrev at_word : Actor
    at_word = next (looking a) single word

    saw_word : (b : Actor) → b.since ≡ (looking a).since → b.seen.singles ≡ a.seen.singles ++ sight (known.reference + 9) word
        → SawSingle b (known.reference + 9) word
    saw_word b since singles =
        let seen : Sighting = record { at = known.reference + 9; word = word } in
        subst (λ (l : List Sighting). Contains l seen)
        (sym ((λ i. drop (since i).singles (singles i)) ∙ drop-append_seam a.seen.singles (sight (known.reference + 9) word))) (0, omega arith, refl)

    -- the units that the word holds of a bucket
    abbrev packed_of : List (ℤ × ℕ) → ℕ → ℕ
    packed_of totals bucket = units_packed (single_of segment.setting.version (length totals) word) bucket

    form_same : (totals : List (ℤ × ℕ)) (bucket : ℕ) → length totals ≡ buckets_of known.spec
        → packed_of totals bucket ≡ units_packed (single_of a.segment.version (buckets_of known.spec) word) bucket
    form_same totals bucket long = λ i. units_packed (single_of (sym seated.of.version i) (long i) word) bucket

    pub may_load : MayStep segment one reference
    may_load = record {
      table = looked.same.0 ∙ seated.table;
      recorder = ap (λ (b : Actor). is_opener b.role) looked.view ∙ rests.recorder;
      ready = subst (λ (b : Actor). Ready b reference) (sym looked.view) (refl, (known, knows));
    }

    -- the word is not off, and the buckets had no other units
    pub saw_on : word < 2 ^ 63 → (before totals : List (ℤ × ℕ)) → length before ≡ buckets_of known.spec → All (λ total. total.1 ≡ 0) before
        → HavePacked segment.setting.version word before totals → HasSeenBuckets known a totals one.me.0
    saw_on on before totals long blank packed = subst (HasSeenBuckets known a totals) (sym looked.view) (record {
      looked = has_looked a at_word at_word.hand.place at_word.seen refl refl (sees_single a.seen (sight (known.reference + 9) word));
      saw = λ bucket total there.
          let (was, there_was, sum) = packed.units bucket total there in
          let none = All-contains (λ (t : ℤ × ℕ). t.1 ≡ 0) before was blank (contains_at before bucket was there_was) in
          let form = form_same before bucket long in (word, saw_word at_word refl refl, inl (is_on word on, omega (arith, sum, none, form)));
    })

    module _ (off : 2 ^ 63 ≤ word) (counts : ℕ) (two : Pass) (loaded : Stepped one reference counts two) where
      -- it has loaded the counts reference
      abbrev at_counts : Actor
      at_counts = next at_word reference counts

      view_two : two.me.0 ≡ at_counts
      view_two = loaded.view ∙ ap (λ (b : Actor). next b reference counts) looked.view

      learned : Learned at_word reference counts
      learned = subst (λ (b : Actor). Learned b reference counts) looked.view loaded.learned

      is_off_word : is_off word ≡ true
      is_off_word = le-leb (2 ^ 63) word off

      used : counts ≢ 0
      used = learned.1.1 word (Contains-append_right a.seen.singles (sight (known.reference + 9) word) _ (0, omega arith, refl)) is_off_word

      pub within : counts + (4 + 2 * buckets_of known.spec) ≤ segment.setting.shape.size
      within = subst (λ (s : Dimensions). counts + (4 + 2 * buckets_of known.spec) ≤ s.size) seated.of.shape (learned.0 known knows used)

      abbrev look : Look
      look = record (look_of at_word.hand.place known.reference) { counts = counts }

      abbrev look_before : Look
      look_before = record (look_of a.hand.place known.reference) { single = Some word }

      look_is : look ≡ record look_before { counts = counts }
      look_is = ap (λ (l : Look). record l { counts = counts }) (looks_again at_word.hand.place look_before known.reference refl (looks_there a.hand.place known.reference))

      stands : StandsAt at_counts look known
      stands = inl (
        refl,
        used,
        (word, ap (λ (l : Look). l.single) look_is, is_off_word),
        subst (λ (h : ℕ). Buckets at_counts h known) (sym (ap (λ (l : Look). l.histogram) look_is ∙ looks_there a.hand.place known.reference)) knows,
      )

      pub may_look_at : (n : ℕ) → n ≡ buckets_of known.spec → MayLookAt segment two counts n
      may_look_at n long = record {
        table = loaded.same.0 ∙ (looked.same.0 ∙ seated.table);
        recorder = ap (λ (b : Actor). is_opener b.role) view_two ∙ rests.recorder;
        look = look;
        known = known;
        stands = subst (λ (b : Actor). StandsAt b look known) (sym view_two) stands;
        where_is = refl;
        all = long;
        since = subst (λ (b : Actor). b.since.counts ≤ length b.seen.counts) (sym view_two) (omega arith);
      }

      module _ (before after : List (ℤ × ℕ)) (three : Pass) (long : length before ≡ buckets_of known.spec)
          (has : HasLookedAt counts two.me.0 (length before) before three.me.0) (packed : HavePacked segment.setting.version word before after) where
        now : HasLookedAt counts at_counts (length before) before three.me.0
        now = subst (λ (b : Actor). HasLookedAt counts b (length before) before three.me.0) view_two has

        abbrev seen : Seen
        seen = record at_counts.seen { counts = three.me.0.seen.counts }

        view : three.me.0 ≡ record (looking a) { hand = record a.hand { place = three.me.0.hand.place }; seen = seen }
        view = now.view

        sees : SeesOn a.seen seen
        sees = sees_lists a.seen (grows_not a.seen.chain) (ended_grows a.seen.ends (known.reference + 8) (counts == 0)) (grows_not a.seen.tails)
            (grows_by a.seen.singles (sight (known.reference + 9) word)) now.more (grows_by a.seen.words (sight_counts known.reference counts)) (grows_not a.seen.cursors)

        pub saw_off : HasSeenBuckets known a after three.me.0
        saw_off = record {
          looked = has_looked a three.me.0 three.me.0.hand.place seen view (free_at three.me.0 look known (now.stands look known stands)) sees;
          saw = λ bucket total there.
              let (was, there_was, sum) = packed.units bucket total there in
              let there_now = ap (λ (b : Actor). word_seen b.seen.words (known.reference + 8)) view ∙ counts_there a.seen.words known.reference counts used learned.1.0 in
              let form = form_same before bucket long ∙ ap (λ (b : Actor). units_packed (single_of b.segment.version (buckets_of known.spec) word) bucket) (sym view) in (
                word,
                saw_word three.me.0 (ap (λ (b : Actor). b.since) view) (ap (λ (b : Actor). b.seen.singles) view),
                inr (is_off_word, (counts, was.1, there_now, now.saw bucket was (below_length before bucket was there_was) there_was, sum ∙ ap (λ (n : ℕ). was.1 + n) form)),
              );
        }

-- counts that are added to are not more than all units
pub few_blank : (totals : List (ℤ × ℕ)) → All (λ total. total.1 ≡ 0) totals → All (λ total. IsUnits total.1) totals
few_blank totals blank k d below = let none = blank k d below in omega (arith, none)

pub few_loaded : (counts : ℕ) (a b : Actor) (totals : List (ℤ × ℕ)) → HasLookedAt counts a (length totals) totals b → All (λ total. IsUnits total.1) totals
few_loaded counts a b totals has k d below = has.few k (get_or totals k d) below (element_at totals k d below)

-- An `add` puts the counts in use: it loads their reference, claims a block for them, and mounts it, or marks it as purged.
use Rattle.segment_invariant.proofs.Prelude.Std.{◌≡◌, ◌≢◌, ◌≤◌, ℕ, ◌+◌, ◌*◌, ◌==◌, Bool, true, false, true≢false, List, [], length, ◌++◌, refl, sym, ap, subst, ◌∙◌, arith, None, if◌then◌else◌, max, Contains, set-get_or, append-nil, Contains-push, eq-eqb}
use Rattle.segment_invariant.proofs.Prelude.Machine.{IsShape, buckets_of, Dimensions, word_at, Actor, Known, Looking, Sighting, has_buckets, is_bound, word_seen, Buckets, look_of, sight_counts, back, load_counts, Event, next, counting_event, packing_event, Note, Notes, mount_counts, purge_block, after_mount, Refusal}
use Rattle.std.specs.Prelude.{is_some}
use Rattle.alloc_core.specs.declared.alloc.AllocStep.{AllocStep}
use Rattle.alloc_core.specs.declared.alloc.AllocStep.TheVariants as said
use Rattle.alloc_core.specs.declared.alloc.AllocStage.TheVariants.{Claimed}
use Rattle.alloc_core.specs.Alloc.{Allocation, IsAimed, IsLawful}
use Rattle.alloc_core.specs.Alloc as alloc
use Rattle.alloc_core.specs.Event as atomic
use Rattle.segment_machine.specs.declared.actor.Segment.{Segment}
use Rattle.segment_machine.specs.Actor.{AreOwnBlocksApart}
use Rattle.segment_machine.specs.Allocating.{new_own}
use Rattle.segment_machine.specs.Calls.{ended, AreCountsOf, CountsStay}
use Rattle.segment_machine.specs.Packing.{PackingEvent}
use Rattle.segment_machine.specs.Stages.{FollowsAllocation, StandsAtAllocStage}
use Rattle.segment_promises.proofs.Calls.Places.{looks_there}
use Rattle.hist_core.specs.declared.add.Add.{Add}
use Rattle.hist_core.specs.declared.add.AddStep.{AddStep}
use Rattle.hist_core.specs.declared.add.AddStep.TheVariants.{More, Done, Refused}
use Rattle.hist_core.specs.declared.add.AddStage.{AddStage}
use Rattle.hist_core.specs.declared.add.AddStage.TheVariants.{SeekingCounts, Allocating, Mounting, Purging, LoadingAgain}
use Rattle.segment_calls.specs.declared.refusal.Refusal.TheVariants as why
use Rattle.hist_core.specs.StepsBy.{DoesOnly, FrameOfStep, SeesNoMore, StepsBy, is_tied}
use Rattle.hist_core.specs.Add.{Amid, HasEntry, HasMetNoCounts, CountsLieWithin, SawNeedOfBlock, NeedsCounts, StandsAtStage, IsAdd, AddGives, BeginsToAllocate, IsAllocated, block_words, serves_counted}
use Rattle.hist_core.specs.NewRecord.{IsCause}
use Rattle.hist_core.proofs.AddCall.Counts.{counts_in}
use Rattle.hist_core.proofs.AddCall.Entries.{counting_of}
use Rattle.hist_core.proofs.AddCall.Going.{acts_on, packs_on, goes_still, aside_counts}
use Rattle.hist_core.proofs.AddCall.Packs.{has_them}
use Rattle.hist_core.proofs.AddCall.Refusals.{refuses, beside_aside}
use Rattle.hist_core.proofs.Parts.Allocations.{allocates_on, goes_with}
use Rattle.hist_core.proofs.Parts.Alone.{makes_so}
use Rattle.hist_core.proofs.Parts.Claims.{IsEnd, claimed_suits, claimed_of, goes_noting, rests_at}
use Rattle.hist_core.proofs.Parts.Deeds.{is_full_end}

module _ (shape : Dimensions) (known : Known) (amid : Amid) (add : Add) (a : Actor) (words : List ℕ) (is : IsAdd shape known amid add a) where
  -- counts that it learns of lie within the segment
  counts_learned : (counts : ℕ) → Buckets a known.reference known → AreCountsOf a known.reference counts → counts ≢ 0 → CountsLieWithin shape add counts
  counts_learned counts has learned some = (
    some,
    subst (λ (n : ℕ). counts + (4 + 2 * n) ≤ shape.size) (sym is.counting.buckets)
        (subst (λ (d : Dimensions). counts + (4 + 2 * buckets_of known.spec) ≤ d.size) is.segment (learned known has some)),
  )

  -- ---- it loads the counts reference

  module _ (seeks : add.stage ≡ SeekingCounts) where
    stood_seeking : StandsAtStage shape known amid add a SeekingCounts
    stood_seeking = subst (StandsAtStage shape known amid add a) seeks is.stands

    abbrev load : Event
    load = counting_event (load_counts known.reference)

    abbrev sought : ℕ
    sought = word_at words (known.reference + 8)

    abbrev loaded : Actor
    loaded = next a load sought

    looks_loaded : loaded.hand.place ≡ Looking (record { histogram = known.reference; single = (look_of a.hand.place known.reference).single; counts = sought })
    looks_loaded = ap (λ (n : ℕ). Looking (record { histogram = n; single = (look_of a.hand.place known.reference).single; counts = sought })) (looks_there a.hand.place known.reference)

    seeks_on : (stage : AddStage) → (AreCountsOf a known.reference sought → CountsStay a.seen known.reference sought → StandsAtStage shape known amid (record add { stage = stage }) loaded stage)
        → StepsBy shape.size add.version a words words (AddGives shape known amid (record add { stage = stage }) More a)
    seeks_on stage stands = acts_on shape known amid add a is stage words words load
        (stood_seeking.2.0, (known, has_them shape known amid add a words is stood_seeking.0))
        (sym (set-get_or words (known.reference + 8) 0))
        (aside_counts a loaded known.reference sought refl refl refl refl refl refl, (refl, refl), refl)
        (λ learned. stands learned.0 learned.1)

    -- there are some
    pub seeks_some : word_at words (add.histogram + 8) ≢ 0 → let stage = LoadingAgain (word_at words (add.histogram + 8)) in
        StepsBy shape.size add.version a words words (AddGives shape known amid (record add { stage = stage }) More a)
    seeks_some some =
        subst (λ (r : ℕ). StepsBy shape.size add.version a words words (AddGives shape known amid (record add { stage = LoadingAgain (word_at words (r + 8)) }) More a)) is.counting.reference
        (seeks_on (LoadingAgain sought) (λ learned stays. (
          stood_seeking.0,
          stood_seeking.1,
          (
            counts_learned sought (has_them shape known amid add a words is stood_seeking.0) learned (λ none. some (ap (λ (r : ℕ). word_at words (r + 8)) (sym is.counting.reference) ∙ none)),
            ((look_of a.hand.place known.reference).single, looks_loaded),
          ),
        )))

    -- if there are none, it has found none
    none_met : sought ≡ 0 → CountsStay a.seen known.reference sought → HasMetNoCounts known loaded
    none_met none stays bucketed counts seen =
        let same : loaded.seen.words ≡ a.seen.words = ap (λ (n : ℕ). a.seen.words ++ sight_counts known.reference n) none ∙ append-nil a.seen.words in
        sym (stays.0 counts (ap (λ (l : List Sighting). word_seen l (known.reference + 8)) (sym same) ∙ seen)) ∙ none

    -- so it needs some
    needs_counts : sought ≡ 0 → CountsStay a.seen known.reference sought → NeedsCounts known (add.value, add.units) loaded
    needs_counts none stays =
        let (turns, (word, saw, on, packs)) = stood_seeking.2 in (
          (word, saw, on, packs),
          subst (λ (b : Bool). Contains (ended a.seen.ends (known.reference + 8) b) (known.reference + 8)) (sym (eq-eqb sought 0 none))
              (Contains-push a.seen.ends (known.reference + 8)),
          none_met none stays,
        )

    -- there are none: it begins to allocate
    pub seeks_none : word_at words (add.histogram + 8) ≡ 0 → (new : Add) (result : AddStep) → BeginsToAllocate add new result → StepsBy shape.size add.version a words words (AddGives shape known amid new result a)
    seeks_none none new More begins = subst (λ (n : Add). StepsBy shape.size add.version a words words (AddGives shape known amid n More a)) (sym begins)
        (seeks_on (Allocating (alloc.first_of add.shape (2 * add.buckets) 2)) (λ learned stays.
        let some = (is.counting.bucket stood_seeking.0).0 in
        let count : 1 ≤ add.buckets = subst (λ (n : ℕ). 1 ≤ n) (sym is.counting.buckets) (omega (arith, some)) in
        let fits = is.counting.fits in
        let same : max (2 * add.buckets) 1 ≡ 2 * add.buckets = omega (arith, count) in (
          stood_seeking.0,
          stood_seeking.1,
          (
            record {
              lawful = record {
                shaped = subst IsShape (sym is.counting.shaped) is.lawful_shape;
                least = omega (arith, same, count);
                most = subst (λ (d : Dimensions). max (2 * add.buckets) 1 + 4 ≤ d.page) (sym is.counting.shaped) (omega (arith, same, fits));
                aimed = tt;
              };
              shape = is.counting.shaped ∙ sym is.segment;
              least = omega arith;
              most = omega arith;
              stands = ap is_bound looks_loaded;
            },
            refl,
            refl,
            omega (arith, same),
            needs_counts (ap (λ (r : ℕ). word_at words (r + 8)) is.counting.reference ∙ none) stays,
          ),
        )))
    seeks_none none new Done begins = absurd begins
    seeks_none none new (Refused why) begins = absurd begins

  -- ---- it claims a block

  module _ (x : Allocation) (allocates : add.stage ≡ Allocating x) where
    stood_allocating : StandsAtStage shape known amid add a (Allocating x)
    stood_allocating = subst (StandsAtStage shape known amid add a) allocates is.stands

    -- the block that it allocates is that of the counts
    its_words : x.size ≡ block_words known
    its_words = stood_allocating.2.3
        ∙ (ap (λ (n : ℕ). 4 + 2 * n) is.counting.buckets ∙ ap (λ (t : Bool). if t then 4 + 2 * buckets_of known.spec else 8) (sym stood_allocating.0))

    -- it needs it
    needs_here : SawNeedOfBlock known (add.value, add.units) a
    needs_here = record {
      counts = λ bucketed. stood_allocating.2.4;
      value = λ sparse. absurd (true≢false (sym stood_allocating.0 ∙ ap has_buckets sparse));
    }

    module _ (long : length words ≡ shape.size) (y : Allocation) (new_words : List ℕ) (says : AllocStep) (step : alloc.IsStep x words y new_words says) where
      claims : StepsBy shape.size add.version a words new_words (λ b. FrameOfStep a b × DoesOnly false (is_full_end says) (serves_counted known add a) a b × AreOwnBlocksApart b × FollowsAllocation b y × (b.seen.words ≡ a.seen.words) × SeesNoMore a b × IsEnd says x.size a b)
      claims =
          let size = ap (λ (d : Dimensions). d.size) is.segment in
          subst (λ (n : ℕ). StepsBy n add.version a words new_words (λ b. FrameOfStep a b × DoesOnly false (is_full_end says) (serves_counted known add a) a b × AreOwnBlocksApart b × FollowsAllocation b y × (b.seen.words ≡ a.seen.words) × SeesNoMore a b × IsEnd says x.size a b)) size
          (allocates_on (serves_counted known add a) add.version a x y words new_words says stood_allocating.2.0 (its_words, needs_here) (long ∙ sym size) step)

      -- its entry is unchanged
      entry_still : (b : Actor) → FrameOfStep a b → HasEntry known amid add b false false
      entry_still b beside = ap (λ e. e.running) beside.entries ∙ stood_allocating.1

      -- it still needs counts
      needs_still : (b : Actor) → b.seen.words ≡ a.seen.words → SeesNoMore a b → NeedsCounts known (add.value, add.units) b
      needs_still b same (chain, ends, singles) =
          let (claims_so, more, tag, size, ((word, saw, on, packs), none, met_none)) = stood_allocating.2 in (
            (word, subst (λ (l : List Sighting). Contains l (record { at = known.reference + 9; word = word })) (sym singles) saw, on, packs),
            subst (λ (l : List ℕ). Contains l (known.reference + 8)) (sym ends) none,
            λ bucketed counts seen. met_none bucketed counts (ap (λ (l : List Sighting). word_seen l (known.reference + 8)) (sym same) ∙ seen),
          )

      needs_block : (b : Actor) → b.seen.words ≡ a.seen.words → SeesNoMore a b → SawNeedOfBlock known (add.value, add.units) b
      needs_block b same list = record {
        counts = λ bucketed. needs_still b same list;
        value = λ sparse. absurd (true≢false (sym stood_allocating.0 ∙ ap has_buckets sparse));
      }

      still : (b : Actor) → FrameOfStep a b → DoesOnly false false (serves_counted known add a) a b → (stage : AddStage) → StandsAtStage shape known amid (record add { stage = stage }) b stage
          → AddGives shape known amid (record add { stage = stage }) More a b
      still b beside does stage stands =
          goes_still shape known amid add a is stage b (beside_aside a b beside) (beside.units, beside.entries ∙ ap (λ e. record a.entries { running = e.running }) (sym beside.entries)) does stands

      -- it continues
      still_claims : says ≡ said.More → is_some (alloc.next_event y) ≡ true → StepsBy shape.size add.version a words new_words (AddGives shape known amid (record add { stage = Allocating y }) More a)
      still_claims goes_on more = goes_noting claims (λ b (beside, does, apart, goes, same, list, ends). (
        [],
        b,
        refl,
        still b beside (subst (λ (s : AllocStep). DoesOnly false (is_full_end s) (serves_counted known add a) a b) goes_on does) (Allocating y) (
          stood_allocating.0,
          entry_still b beside,
          (
            goes,
            more,
            ap (λ (z : Allocation). z.tag) step.new_is ∙ stood_allocating.2.2,
            ap (λ (z : Allocation). z.size) step.new_is ∙ stood_allocating.2.3,
            needs_still b same list,
          ),
        ),
      ))

      -- it has a block, which it mounts
      has_claimed : (at : ℕ) → says ≡ said.Done at → StepsBy shape.size add.version a words new_words (AddGives shape known amid (record add { stage = Mounting at }) More a)
      has_claimed at done = goes_noting claims (λ b (beside, does, apart, goes, same, list, ends). claimed b beside (subst (λ (s : AllocStep). DoesOnly false (is_full_end s) (serves_counted known add a) a b) done does) goes (claimed_of y.stage at (sym done ∙ step.answers)))
        where
          claimed : (b : Actor) → FrameOfStep a b → DoesOnly false false (serves_counted known add a) a b → FollowsAllocation b y → (size : ℕ) × (y.stage ≡ Claimed at size)
              → (notes : List Note) × (c : Actor) × Notes b notes c × AddGives shape known amid (record add { stage = Mounting at }) More a c
          claimed b beside does goes (size, ends) =
              let has = subst (StandsAtAllocStage b y) ends goes.stands in
              let place = subst (IsAimed y) ends goes.lawful.aimed in
              let suits : x.size ≤ size = claimed_suits x x.stage (word_at words (atomic.spot step.event)) at size step.event step.next stood_allocating.2.0.lawful.aimed
              (sym (ap (λ (z : Allocation). z.stage) step.new_is) ∙ ends) in
              let enough = stood_allocating.2.3 in
              let ends_within = subst (λ (d : Dimensions). at + size ≤ d.size) (goes.shape ∙ ap (λ (s : Segment). s.shape) beside.segment ∙ is.segment) place.within in (
                [],
                b,
                refl,
                still b beside does (Mounting at) (
                  stood_allocating.0,
                  entry_still b beside,
                  (
                    ap is_bound has.0,
                    (
                      (new_own at size y.tag, has.1, refl, (ap (λ (z : Allocation). z.tag) step.new_is ∙ stood_allocating.2.2, refl, refl, omega (arith, suits, enough))),
                      place.from,
                      omega (arith, suits, enough, ends_within),
                    ),
                  ),
                ),
              )

    -- it is refused for the words of the counts
    needed : (why : Refusal) (b : Actor) → IsCause why x.size a b → IsCause why (block_words known) a b
    needed why b = subst (λ (n : ℕ). IsCause why n a b) its_words

    -- for each result of a step of the allocation
    pub allocates_so : length words ≡ shape.size → (y : Allocation) (new_words : List ℕ) (says : AllocStep) (new : Add) (result : AddStep) → alloc.IsStep x words y new_words says
        → (says ≡ said.More → is_some (alloc.next_event y) ≡ true) → IsAllocated (record add { stage = Allocating y }) says new result
        → StepsBy shape.size add.version a words new_words (AddGives shape known amid new result a)
    allocates_so long y new_words said.More new result step more (new_is, result_is) =
        subst (λ (p : Add × AddStep). StepsBy shape.size add.version a words new_words (AddGives shape known amid p.0 p.1 a)) (λ i. (sym new_is i, sym result_is i))
        (still_claims long y new_words said.More step refl (more refl))
    allocates_so long y new_words (said.Done at) new result step more (new_is, result_is) =
        subst (λ (p : Add × AddStep). StepsBy shape.size add.version a words new_words (AddGives shape known amid p.0 p.1 a)) (λ i. (sym new_is i, sym result_is i))
        (has_claimed long y new_words (said.Done at) step at refl)
    allocates_so long y new_words said.Full new result step more (new_is, result_is) =
        subst (λ (r : AddStep). StepsBy shape.size add.version a words new_words (AddGives shape known amid new r a)) (sym result_is)
        (goes_with (claims long y new_words said.Full step) (λ b (beside, does, apart, goes, same, list, ends).
        refuses shape known amid add new a stood_allocating.1 b beside why.Full (subst (λ (n : Add). DoesOnly false true (serves_counted known n a) a b) (sym new_is) does) (subst (λ (n : Add). SawNeedOfBlock known (n.value, n.units) b) (sym new_is) (needs_block long y new_words said.Full step b same list)) (ap (λ (n : Add). counting_of known n false false) new_is)
        (ap is_tied (rests_at b y y.stage (λ e. cc (step.answers ∙ e)) goes.stands)) (needed why.Full b ends)))
    allocates_so long y new_words said.Corrupt new result step more (new_is, result_is) =
        subst (λ (r : AddStep). StepsBy shape.size add.version a words new_words (AddGives shape known amid new r a)) (sym result_is)
        (goes_with (claims long y new_words said.Corrupt step) (λ b (beside, does, apart, goes, same, list, ends).
        refuses shape known amid add new a stood_allocating.1 b beside why.Corrupt (subst (λ (n : Add). DoesOnly false false (serves_counted known n a) a b) (sym new_is) does) (subst (λ (n : Add). SawNeedOfBlock known (n.value, n.units) b) (sym new_is) (needs_block long y new_words said.Corrupt step b same list)) (ap (λ (n : Add). counting_of known n false false) new_is)
        (ap is_tied (rests_at b y y.stage (λ e. cc (step.answers ∙ e)) goes.stands)) (needed why.Corrupt b ends)))

    -- what the step of its allocation asks for
    pub asks_long : length words ≡ shape.size → length words ≡ x.shape.size
    asks_long long = long ∙ sym (ap (λ (d : Dimensions). d.size) (stood_allocating.2.0.shape ∙ is.segment))

    pub asks_more : is_some (alloc.next_event x) ≡ true
    asks_more = stood_allocating.2.1

    -- it had a valid start
    pub asks_lawful : IsLawful x
    asks_lawful = stood_allocating.2.0.lawful

  -- ---- it mounts its block

  module _ (at : ℕ) (mounts : add.stage ≡ Mounting at) where
    stood_mounting : StandsAtStage shape known amid add a (Mounting at)
    stood_mounting = subst (StandsAtStage shape known amid add a) mounts is.stands

    abbrev mount : PackingEvent
    mount = mount_counts known.reference at

    abbrev met : ℕ
    met = word_at words (known.reference + 8)

    -- where it lies
    block_within : at + 5 ≤ shape.size
    block_within =
        let some = (is.counting.bucket stood_mounting.0).0 in
        let count : 1 ≤ add.buckets = subst (λ (n : ℕ). 1 ≤ n) (sym is.counting.buckets) (omega (arith, some)) in
        let ends = stood_mounting.2.1.2 in omega (arith, count, ends)

    stands_mounted : (none : Bool) → (met == 0) ≡ none → AreCountsOf a known.reference met
        → let stage = if none then LoadingAgain at else Purging at met in StandsAtStage shape known amid (record add { stage = stage }) (after_mount none a known.reference at met) stage
    stands_mounted true e learned = (
      stood_mounting.0,
      stood_mounting.1,
      (((λ (none : at ≡ 0). let from = stood_mounting.2.1.1 in omega (arith, none, from)), stood_mounting.2.1.2), (None, refl)),
    )
    stands_mounted false e learned = (
      stood_mounting.0,
      stood_mounting.1,
      (counts_learned met (has_them shape known amid add a words is stood_mounting.0) learned (λ none. cc (sym e ∙ eq-eqb met 0 none)), refl, block_within),
    )

    pub mounts_so : (new_words : List ℕ) (none : Bool) → (word_at words (add.histogram + 8) == 0) ≡ none
        → new_words ≡ atomic.after (atomic.exchange (add.histogram + 8) 0 at) words
        → let stage = if none then LoadingAgain at else Purging at (word_at words (add.histogram + 8)) in
        StepsBy shape.size add.version a words new_words (AddGives shape known amid (record add { stage = stage }) More a)
    mounts_so new_words none is_none are =
        subst (λ (r : ℕ). StepsBy shape.size add.version a words new_words (AddGives shape known amid (record add { stage = if none then LoadingAgain at else Purging at (word_at words (r + 8)) }) More a))
        is.counting.reference
        (packs_on shape known amid add a is (if none then LoadingAgain at else Purging at met) words new_words mount (
          stood_mounting.2.1.0.0,
          known,
          stood_mounting.2.0,
          stood_mounting.2.1.0.1,
          stood_mounting.2.1.0.2,
          has_them shape known amid add a words is stood_mounting.0,
          counts_in shape known amid add a is stood_mounting.1,
          let blank = stood_mounting.2.1.0.3 in (blank.0, blank.1, blank.2, subst (λ (n : ℕ). 4 + 2 * n ≤ stood_mounting.2.1.0.0.size) is.counting.buckets blank.3),
        )
        (are ∙ ap (λ (r : ℕ). atomic.after (atomic.exchange (r + 8) 0 at) words) (sym is.counting.reference)
        ∙ sym (makes_so shape.size add.version (packing_event mount) (atomic.exchange (known.reference + 8) 0 at) refl refl words))
        (λ learned. let here = ap (λ (r : ℕ). word_at words (r + 8) == 0) is.counting.reference ∙ is_none in
        subst (λ (b : Bool). StandsAtStage shape known amid (record add { stage = if none then LoadingAgain at else Purging at met }) (after_mount b a known.reference at met)
        (if none then LoadingAgain at else Purging at met)) (sym here) (stands_mounted none here learned.0)))

  -- ---- it marks its block as of no use

  module _ (at counts : ℕ) (purges : add.stage ≡ Purging at counts) where
    stood_purging : StandsAtStage shape known amid add a (Purging at counts)
    stood_purging = subst (StandsAtStage shape known amid add a) purges is.stands

    pub purges_so : (new_words : List ℕ) → new_words ≡ atomic.after (atomic.store (at + 2) 0) words
        → StepsBy shape.size add.version a words new_words (AddGives shape known amid (record add { stage = LoadingAgain counts }) More a)
    purges_so new_words are = packs_on shape known amid add a is (LoadingAgain counts) words new_words (purge_block at)
        (record { histogram = known.reference; single = None; counts = counts }, stood_purging.2.1)
        (are ∙ sym (makes_so shape.size add.version (packing_event (purge_block at)) (atomic.store (at + 2) 0) refl refl words))
        (λ learned. (stood_purging.0, stood_purging.1, (stood_purging.2.0, (None, ap back stood_purging.2.1))))

    pub purge_inside : length words ≡ shape.size → at + 5 ≤ length words
    purge_inside long = subst (λ (n : ℕ). at + 5 ≤ n) (sym long) stood_purging.2.2

-- An `add` loads the single word, and packs its units into it.
use Rattle.segment_invariant.proofs.Prelude.Std.{◌≡◌, ◌≢◌, ◌⊎◌, ◌<◌, ◌≤◌, ℕ, ◌+◌, ◌%◌, ◌^◌, true, false, List, [], refl, sym, ap, subst, ◌∙◌, arith, inl, inr, ◌∷◌, if◌then◌else◌, Bool, ◌==◌, Some, None, Contains-append_right, set-get_or, props, ∥∥₁_elim}
use Rattle.segment_invariant.proofs.Prelude.Machine.{single_of, Dimensions, word_at, Actor, Known, Looking, is_bound, Buckets, has_buckets, look_of, next, packing_event, load_single, after_pack, pack}
use Rattle.alloc_core.specs.Event as atomic
use Rattle.segment_invariant.proofs.Lists.Elements.{contains_at}
use Rattle.segment_invariant.proofs.Packing.OffForms.{few_buckets}
use Rattle.segment_machine.specs.Form.{is_off, IsPacking}
use Rattle.segment_machine.specs.Packing.{IsSingleOf, PackingEvent}
use Rattle.segment_promises.proofs.Calls.Places.{looks_there}
use Rattle.segment_promises.proofs.Calls.SpecBuckets.{apart}
use Rattle.segment_invariant.proofs.Consistency.Keys.{one_key}
use Rattle.hist_core.specs.declared.add.Add.{Add}
use Rattle.hist_core.specs.declared.add.AddStep.TheVariants.{More}
use Rattle.hist_core.specs.declared.add.AddStage.{AddStage}
use Rattle.hist_core.specs.declared.add.AddStage.TheVariants.{LoadingSingle, Packing, LoadingCounts, SeekingCounts, Allocating, Mounting, Purging, LoadingAgain, Disabling, Moving, Sampling, Counting, Summing, Noting}
use Rattle.hist_core.specs.StepsBy.{StepsBy}
use Rattle.hist_core.specs.Add.{Amid, IsCounting, Looks, HasSeenSingle, HasEntry, IsBehindSingle, StandsAtStage, IsAdd, AddGives, IsSomeAdd, behind_count}
use Rattle.hist_core.proofs.AddCall.Going.{packs_on}
use Rattle.hist_core.proofs.SnapshotCall.Looks.{on_units, HasUnits}
use Rattle.hist_core.proofs.AddCall.Counts.{behind_stands, changed_is, next_is}
use Rattle.hist_core.proofs.AddCall.Entries.{counting_of}
use Rattle.hist_core.proofs.Parts.Alone.{makes_so}

-- its bucket is one of at most 1,000
pub few_such : (shape : Dimensions) (known : Known) (add : Add) → IsCounting shape known add → has_buckets known.spec ≡ true → add.bucket < 1000
few_such shape known add counting has =
    let inside = (counting.bucket has).0 in let few = few_buckets known.spec counting.lawful in omega (arith, inside, few)

-- ---- the single word is loaded

module _ (shape : Dimensions) (known : Known) (amid : Amid) (add : Add) (a : Actor) (words : List ℕ) (is : IsAdd shape known amid add a) where
  abbrev load : PackingEvent
  load = load_single known.reference

  abbrev found : ℕ
  found = word_at words (known.reference + 9)

  abbrev looking : Actor
  looking = next a (packing_event load) found

  -- it looks at the histogram then
  pub looks_then : Looks known looking found (look_of a.hand.place known.reference).counts
  looks_then = ap (λ (n : ℕ). Looking (record { histogram = n; single = Some found; counts = (look_of a.hand.place known.reference).counts })) (looks_there a.hand.place known.reference)

  pub seen_then : HasSeenSingle known looking found
  seen_then = Contains-append_right a.seen.singles (record { at = known.reference + 9; word = found } ∷ []) (record { at = known.reference + 9; word = found })
      (contains_at (record { at = known.reference + 9; word = found } ∷ []) 0 (record { at = known.reference + 9; word = found }) refl)

  module _ (has : has_buckets known.spec ≡ true) where
    pub has_them : Buckets a known.reference known
    has_them = (is.knows, refl, has)

    -- a word with a form
    pub formed : IsSingleOf a known.reference found → single_of add.version add.buckets found ≢ None
    formed learned = subst (λ (n : ℕ). single_of n add.buckets found ≢ None) is.version
        (subst (λ (n : ℕ). single_of a.segment.version n found ≢ None) (sym is.counting.buckets) (learned known has_them).0)

    packable : IsSingleOf a known.reference found → is_off found ≡ false → (found ≡ 0) ⊎ (1 ≤ found % 2 ^ 32)
    packable learned on = by (on_units add.version add.buckets found (formed learned) on)
      where
        by : (found ≡ 0) ⊎ HasUnits add.version add.buckets found → (found ≡ 0) ⊎ (1 ≤ found % 2 ^ 32)
        by (inl none) = inl none
        by (inr units) = inr units.some

    -- when it continues to a stage at which nothing is counted yet
    module _ (entry : HasEntry known amid add a false false) where
      stood : (stage : AddStage) → IsBehindSingle add found stage → IsSingleOf a known.reference found → StandsAtStage shape known amid (record add { stage = stage }) looking stage
      stood LoadingCounts off learned = (has, entry, (found, (look_of a.hand.place known.reference).counts, looks_then, seen_then, off))
      stood (Packing old new) (on, same, packs) learned = (
        has,
        entry,
        (
          ((look_of a.hand.place known.reference).counts, subst (λ (w : ℕ). Looks known looking w (look_of a.hand.place known.reference).counts) (sym same) looks_then),
          ap is_off same ∙ on,
          subst (λ (w : ℕ). IsPacking add.bucket add.units w new) (sym same) (packs (packable learned on)),
        ),
      )
      stood SeekingCounts (on, none) learned = (
        has,
        entry,
        (
          ap is_bound looks_then,
          (
            found,
            seen_then,
            on,
            λ bucket packed key packs.
                let its = is.counting.bucket has in
                let same : bucket ≡ add.bucket = one_key known.spec bucket add.bucket is.counting.lawful (apart known.spec is.counting.lawful has) key.0 its.0 (key.1 ∙ sym its.1) in
                none packed (subst (λ (n : ℕ). IsPacking n add.units found packed) same packs),
          ),
        ),
      )
      stood LoadingSingle is learned = absurd is
      stood (Allocating x) is learned = absurd is
      stood (Mounting at) is learned = absurd is
      stood (Purging at counts) is learned = absurd is
      stood (LoadingAgain counts) is learned = absurd is
      stood (Disabling counts old) is learned = absurd is
      stood (Moving counts bucket units) is learned = absurd is
      stood (Sampling sample_search) is learned = absurd is
      stood (Counting at) is learned = absurd is
      stood Summing is learned = absurd is
      stood Noting is learned = absurd is

  module _ (loads : add.stage ≡ LoadingSingle) where
    stands : StandsAtStage shape known amid add a LoadingSingle
    stands = subst (StandsAtStage shape known amid add a) loads is.stands

    pub loads_single_so : (stage : AddStage) → IsBehindSingle add (word_at words (add.histogram + 9)) stage
        → StepsBy shape.size add.version a words words (AddGives shape known amid (record add { stage = stage }) More a)
    loads_single_so stage behind = packs_on shape known amid add a is stage words words load (stands.2, (known, has_them stands.0)) (sym (set-get_or words (known.reference + 9) 0))
        (λ learned. stood stands.0 stands.1 stage (subst (λ (r : ℕ). IsBehindSingle add (word_at words (r + 9)) stage) (sym is.counting.reference) behind) learned)

  -- ---- its units are packed

  module _ (old new : ℕ) (packs : add.stage ≡ Packing old new) where
    stood_to_pack : StandsAtStage shape known amid add a (Packing old new)
    stood_to_pack = subst (StandsAtStage shape known amid add a) packs is.stands

    abbrev pack_them : PackingEvent
    pack_them = pack known.reference old new

    -- where it is after the exchange, which has succeeded or failed
    stands_packed : (same : Bool) → let b = after_pack same a known.reference new found in let stage = if same then behind_count add.amount else LoadingSingle in
        StandsAtStage shape known amid (record add { stage = stage }) b stage
    stands_packed true = behind_stands shape known amid add (after_pack true a known.reference new found) refl (changed_is shape known amid add a is false false stood_to_pack.1 (λ c. record c { counted = true }))
    stands_packed false = (stood_to_pack.0, stood_to_pack.1, refl)

    pub packs_so : (new_words : List ℕ) (same : Bool) → (word_at words (add.histogram + 9) == old) ≡ same
        → new_words ≡ atomic.after (atomic.exchange (add.histogram + 9) old new) words
        → let stage = if same then behind_count add.amount else LoadingSingle in StepsBy shape.size add.version a words new_words (AddGives shape known amid (record add { stage = stage }) More a)
    packs_so new_words same is_same are = let stage = if same then behind_count add.amount else LoadingSingle in
        packs_on shape known amid add a is stage words new_words pack_them (
          counting_of known add false false,
          record { histogram = known.reference; single = Some old; counts = stood_to_pack.2.0.0 },
          known,
          add.bucket,
          (next_is shape known amid add a is false false stood_to_pack.1, is.counting.some),
          (stood_to_pack.2.0.1, refl, refl, stood_to_pack.2.1, has_them stood_to_pack.0),
          refl,
          is.counting.bucket stood_to_pack.0,
          stood_to_pack.2.2,
        )
        (are ∙ ap (λ (r : ℕ). atomic.after (atomic.exchange (r + 9) old new) words) (sym is.counting.reference)
        ∙ sym (makes_so shape.size add.version (packing_event pack_them) (atomic.exchange (known.reference + 9) old new) refl refl words))
        (λ learned. subst (λ (b : Bool). StandsAtStage shape known amid (record add { stage = stage }) (after_pack b a known.reference new found) stage)
        (sym (ap (λ (r : ℕ). word_at words (r + 9) == old) is.counting.reference ∙ is_same)) (stands_packed same))

-- the bucket of an `add` that some actor runs, in a histogram with buckets, is one of at most 1,000
pub small_bucket : (add : Add) (n : ℕ) → ((shape : Dimensions) (known : Known) (amid : Amid) (a : Actor) → IsAdd shape known amid add a → has_buckets known.spec ≡ true)
    → ∥ IsSomeAdd n add ∥₁ → add.bucket < 1000
small_bucket add n has stands =
    ∥∥₁_elim stands (hlevel props) (λ (shape, known, amid, a, long, is). few_such shape known add is.counting (has shape known amid a is))

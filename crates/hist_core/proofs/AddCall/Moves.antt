-- An `add` whose counts are there loads the single word once more, disables it, and moves the units that it had to the counts.
use Rattle.segment_invariant.proofs.Prelude.Std.{◌≡◌, ◌⊎◌, ◌<◌, ℕ, ◌+◌, ◌/◌, ◌%◌, ◌^◌, ◌==◌, Bool, true, false, List, length, refl, sym, ap, subst, ◌∙◌, arith, inl, inr, Some, None, ◌&&◌, nat_lt, if◌then◌else◌, Option, unwrap_or, slice_set, set-get_or, ltb-true, and_parts, Contains}
use Rattle.segment_invariant.proofs.Prelude.Machine.{SingleWord, single_of, packed_bucket, buckets_of, Dimensions, word_at, Actor, Known, Look, Looking, has_buckets, is_bound, look_of, back, next, packing_event, load_single, disable, add_moved, after_disable}
use Rattle.std.proofs.lemmas.Bool.{leb-false}
use Rattle.alloc_core.specs.Event as atomic
use Rattle.segment_invariant.proofs.Packing.OffForms.{few_buckets, disabling}
use Rattle.segment_machine.specs.declared.place.Place.TheVariants.{Moving as PlaceMoving}
use Rattle.segment_machine.specs.Actor.{known_buckets}
use Rattle.segment_machine.specs.Calls.{form_seen}
use Rattle.segment_machine.specs.Form.{is_off, off_word, units_in}
use Rattle.segment_machine.specs.Packing.{PackingEvent, after_disabling, IsSingleOf}
use Rattle.segment_promises.proofs.Calls.Places.{looks_again}
use Rattle.hist_core.specs.declared.add.Add.{Add}
use Rattle.hist_core.specs.declared.add.AddStep.TheVariants.{More}
use Rattle.hist_core.specs.declared.add.AddStage.{AddStage}
use Rattle.hist_core.specs.declared.add.AddStage.TheVariants.{LoadingAgain, Disabling, Moving, Counting}
use Rattle.hist_core.specs.StepsBy.{StepsBy}
use Rattle.hist_core.specs.Add.{Amid, HasEntry, CountsLieWithin, StandsAtStage, IsAdd, AddGives, behind_disabling, count_in}
use Rattle.hist_core.proofs.AddCall.Counts.{counts_in}
use Rattle.hist_core.proofs.AddCall.Going.{packs_on}
use Rattle.hist_core.proofs.AddCall.Packs.{has_them, formed}
use Rattle.hist_core.proofs.SnapshotCall.Looks.{HasUnits, on_units}

module _ (shape : Dimensions) (known : Known) (amid : Amid) (add : Add) (a : Actor) (words : List ℕ) (is : IsAdd shape known amid add a) where
  -- a look at the histogram whose counts are there
  abbrev look_at : Option ℕ → ℕ → Look
  look_at single counts = record { histogram = known.reference; single = single; counts = counts }

  -- where it counts: the word is off
  module _ (has : has_buckets known.spec ≡ true) (entry : HasEntry known amid add a false false) (counts : ℕ) (there : CountsLieWithin shape add counts) where
    -- where its count is
    pub inside_counts : (bucket : ℕ) → bucket < add.buckets → counts + 4 + bucket < shape.size
    inside_counts bucket inside = let ends = there.1 in omega (arith, inside, ends)

    bucket_is : add.bucket < add.buckets
    bucket_is = subst (λ (n : ℕ). add.bucket < n) (sym is.counting.buckets) (is.counting.bucket has).0

    count_is : count_in add counts ≡ counts + 4 + add.bucket
    count_is = let inside = inside_counts add.bucket bucket_is in let many = is.lawful_shape.many in omega (arith, inside, many)

    pub then_counts : (b : Actor) → b.entries ≡ a.entries → b.answers ≡ a.answers → (word : ℕ) → is_off word ≡ true → b.hand.place ≡ Looking (look_at (Some word) counts)
        → StandsAtStage shape known amid (record add { stage = Counting (count_in add counts) }) b (Counting (count_in add counts))
    then_counts b entries answers word off place = (
      ap (λ e. e.running) entries ∙ entry,
      inl (
        look_at (Some word) counts,
        (place, there.0, (word, refl, off), (subst (λ n. Contains n.names known) (sym answers) is.knows, refl, has)),
        count_is,
      ),
      subst (λ (n : ℕ). n < shape.size) (sym count_is) (inside_counts add.bucket bucket_is),
    )

  -- ---- it loads the single word once more

  module _ (counts : ℕ) (loads : add.stage ≡ LoadingAgain counts) where
    stood_loading : StandsAtStage shape known amid add a (LoadingAgain counts)
    stood_loading = subst (StandsAtStage shape known amid add a) loads is.stands

    abbrev load : PackingEvent
    load = load_single known.reference

    abbrev found : ℕ
    found = word_at words (known.reference + 9)

    abbrev looking : Actor
    looking = next a (packing_event load) found

    looks_on : looking.hand.place ≡ Looking (look_at (Some found) counts)
    looks_on = ap (λ (l : Look). Looking (record l { single = Some found })) (looks_again a.hand.place (look_at stood_loading.2.1.0 counts) known.reference stood_loading.2.1.1 refl)

    loads_on : (stage : AddStage) → (IsSingleOf a known.reference found → StandsAtStage shape known amid (record add { stage = stage }) looking stage)
        → StepsBy shape.size add.version a words words (AddGives shape known amid (record add { stage = stage }) More a)
    loads_on stage stands = packs_on shape known amid add a is stage words words load
        (ap is_bound stood_loading.2.1.1, (known, has_them shape known amid add a words is stood_loading.0))
        (sym (set-get_or words (known.reference + 9) 0)) stands

    -- the word is off
    pub loads_off : is_off (word_at words (add.histogram + 9)) ≡ true
        → StepsBy shape.size add.version a words words (AddGives shape known amid (record add { stage = Counting (count_in add counts) }) More a)
    loads_off off = loads_on (Counting (count_in add counts)) (λ learned.
        then_counts stood_loading.0 stood_loading.1 counts stood_loading.2.0 looking refl refl found
        (ap (λ (r : ℕ). is_off (word_at words (r + 9))) is.counting.reference ∙ off) looks_on)

    -- it is on
    pub loads_on_word : is_off (word_at words (add.histogram + 9)) ≡ false
        → let stage = Disabling counts (word_at words (add.histogram + 9)) in
        StepsBy shape.size add.version a words words (AddGives shape known amid (record add { stage = stage }) More a)
    loads_on_word on =
        subst (λ (r : ℕ). StepsBy shape.size add.version a words words (AddGives shape known amid (record add { stage = Disabling counts (word_at words (r + 9)) }) More a)) is.counting.reference
        (loads_on (Disabling counts found) (λ learned. (
          stood_loading.0,
          stood_loading.1,
          (
            stood_loading.2.0,
            looks_on,
            ap (λ (r : ℕ). is_off (word_at words (r + 9))) is.counting.reference ∙ on,
            formed shape known amid add a words is stood_loading.0 learned,
          ),
        )))

  -- ---- it disables the single word

  module _ (counts old : ℕ) (disables : add.stage ≡ Disabling counts old) where
    stood_disabling : StandsAtStage shape known amid add a (Disabling counts old)
    stood_disabling = subst (StandsAtStage shape known amid add a) disables is.stands

    abbrev event : PackingEvent
    event = disable known.reference old

    abbrev met : ℕ
    met = word_at words (known.reference + 9)

    pub old_on : old < 2 ^ 63
    old_on = leb-false (2 ^ 63) old stood_disabling.2.2

    looked : look_of a.hand.place known.reference ≡ look_at (Some old) counts
    looked = looks_again a.hand.place (look_at (Some old) counts) known.reference stood_disabling.2.1 refl

    -- the form that it saw
    form_is : form_seen a known.reference old ≡ single_of add.version (buckets_of known.spec) old
    form_is i = single_of (is.version i) (known_buckets (is.alone i)) old

    form_here : form_seen a known.reference old ≡ single_of add.version add.buckets old
    form_here = form_is ∙ ap (λ (n : ℕ). single_of add.version n old) (sym is.counting.buckets)

    is_off_then : is_off (off_word add.version old) ≡ true
    is_off_then =
        let few = few_buckets known.spec is.counting.lawful in
        let same = is.counting.buckets in
        (disabling add.version add.buckets old is.counting.versions (omega (arith, few, same)) stood_disabling.2.3 stood_disabling.2.2).off

    abbrev off_look : Look
    off_look = look_at (Some (off_word add.version old)) counts

    -- the place after that
    place_is : after_disabling a.segment.version (look_of a.hand.place known.reference) old (form_seen a known.reference old)
        ≡ after_disabling add.version (look_at (Some old) counts) old (single_of add.version add.buckets old)
    place_is i = after_disabling (is.version i) (looked i) old (form_here i)

    abbrev disabled : Actor
    disabled = after_disable true a known.reference old met

    stands_disabled : (moves : Bool) → ((add.version == 1) && nat_lt 0 old) ≡ moves
        → let stage = if moves then Moving counts (old / 2 ^ 32) (old % 2 ^ 32) else Counting (count_in add counts) in
        StandsAtStage shape known amid (record add { stage = stage }) disabled stage
    stands_disabled false stays = then_counts stood_disabling.0 stood_disabling.1 counts stood_disabling.2.0 disabled refl refl (off_word add.version old) is_off_then
        (place_is ∙ ap (λ (b : Bool). if b then PlaceMoving off_look (unwrap_or (packed_bucket (single_of add.version add.buckets old)) 0) (units_in (single_of add.version add.buckets old)) else Looking off_look) stays)
    stands_disabled true moves = by (on_units add.version add.buckets old stood_disabling.2.3 stood_disabling.2.2)
      where
        some : 0 < old
        some = ltb-true 0 old (and_parts (add.version == 1) (nat_lt 0 old) moves).1

        by : (old ≡ 0) ⊎ HasUnits add.version add.buckets old → StandsAtStage shape known amid (record add { stage = Moving counts (old / 2 ^ 32) (old % 2 ^ 32) }) disabled (Moving counts (old / 2 ^ 32) (old % 2 ^ 32))
        by (inl none) = absurd (let more = some in omega (arith, none, more))
        by (inr units) = (
          stood_disabling.0,
          stood_disabling.1,
          (
            stood_disabling.2.0,
            units.inside,
            (
              off_word add.version old,
              is_off_then,
              place_is
                  ∙ ap (λ (b : Bool). if b then PlaceMoving off_look (unwrap_or (packed_bucket (single_of add.version add.buckets old)) 0) (units_in (single_of add.version add.buckets old)) else Looking off_look) moves
                  ∙ ap (λ (form : Option SingleWord). PlaceMoving off_look (unwrap_or (packed_bucket form) 0) (units_in form)) units.form,
            ),
          ),
        )

    stands_then : (same : Bool) → let stage = if same then behind_disabling add counts old else LoadingAgain counts in
        StandsAtStage shape known amid (record add { stage = stage }) (after_disable same a known.reference old met) stage
    stands_then true = stands_disabled ((add.version == 1) && nat_lt 0 old) refl
    stands_then false = (
      stood_disabling.0,
      stood_disabling.1,
      (stood_disabling.2.0, (None, ap (λ (l : Look). Looking (record l { single = None })) looked)),
    )

    pub disables_so : (new_words : List ℕ) (same : Bool) → (word_at words (add.histogram + 9) == old) ≡ same
        → new_words ≡ atomic.after (atomic.exchange (add.histogram + 9) old (off_word add.version old)) words
        → let stage = if same then behind_disabling add counts old else LoadingAgain counts in
        StepsBy shape.size add.version a words new_words (AddGives shape known amid (record add { stage = stage }) More a)
    disables_so new_words same is_same are = let stage = if same then behind_disabling add counts old else LoadingAgain counts in
        packs_on shape known amid add a is stage words new_words event (
          look_at (Some old) counts,
          known,
          (stood_disabling.2.1, refl, refl, stood_disabling.2.2, has_them shape known amid add a words is stood_disabling.0),
          stood_disabling.2.0.0,
          counts_in shape known amid add a is stood_disabling.1,
        )
        (are ∙ ap (λ (r : ℕ). atomic.after (atomic.exchange (r + 9) old (off_word add.version old)) words) (sym is.counting.reference))
        (λ learned. subst (λ (b : Bool). StandsAtStage shape known amid (record add { stage = stage }) (after_disable b a known.reference old met) stage)
        (sym (ap (λ (r : ℕ). word_at words (r + 9) == old) is.counting.reference ∙ is_same)) (stands_then same))

  -- ---- it moves the units that the word had

  module _ (counts bucket units : ℕ) (moves : add.stage ≡ Moving counts bucket units) where
    stood_moving : StandsAtStage shape known amid add a (Moving counts bucket units)
    stood_moving = subst (StandsAtStage shape known amid add a) moves is.stands

    abbrev moved : PackingEvent
    moved = add_moved counts bucket units

    pub moves_so : (new_words : List ℕ)
        → new_words ≡ slice_set words (counts + (4 + bucket)) ((word_at words (counts + (4 + bucket)) + units) % 2 ^ 64)
        → StepsBy shape.size add.version a words new_words (AddGives shape known amid (record add { stage = Counting (count_in add counts) }) More a)
    moves_so new_words are =
        let there : counts + (4 + bucket) ≡ counts + 4 + bucket = omega arith in
        packs_on shape known amid add a is (Counting (count_in add counts)) words new_words moved
        (look_at (Some stood_moving.2.2.0) counts, stood_moving.2.2.2, refl)
        (are ∙ ap (λ (n : ℕ). slice_set words n ((word_at words n + units) % 2 ^ 64)) there)
        (λ learned. then_counts stood_moving.0 stood_moving.1 counts stood_moving.2.0
        (next a (packing_event moved) (word_at words (counts + 4 + bucket))) refl refl stood_moving.2.2.0 stood_moving.2.2.1 (ap back stood_moving.2.2.2))

    pub move_inside : length words ≡ shape.size → counts + (4 + bucket) < length words
    move_inside long = let ends = stood_moving.2.0.1 in let inside = stood_moving.2.1 in omega (arith, ends, inside, long)

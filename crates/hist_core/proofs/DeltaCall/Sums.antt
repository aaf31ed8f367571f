-- A delta takes what is new of the sum, and ends.
use Rattle.segment_invariant.proofs.Prelude.Std.{◌≡◌, ℕ, ◌+◌, ◌*◌, ◌-◌, ◌%◌, ◌^◌, ◌<◌, ◌≤◌, ℤ, List, [], ◌∷◌, ◌++◌, inl, inr, ⊎_elim, refl, sym, ap, ◌∙◌, subst, true≢false, arith, ◌-ℤ◌, ◌+ℤ◌, slice_set, unsigned_abs, cast_signed, cast_unsigned, w64, set-get_or, +ℤ_idl}
use Rattle.segment_invariant.proofs.Prelude.Machine.{Dimensions, word_at, Actor, Known, Taken, has_buckets, is_bound, SumLoaded, change_last, Event, next, taking_event, Learned, noted, load_sum, swap_sum_mark}
use Rattle.std.proofs.Common.{FitsSigned}
use Rattle.std.specs.Int.{int_wrap}
use Rattle.std.proofs.lemmas.Int.{fits_signed_from_abs, int_wrap_fits, wrapping_sub_onto}
use Rattle.segment_invariant.proofs.Notes.Amounts.{last_changed}
use Rattle.segment_machine.specs.Note.{TookAll, has_taken}
use Rattle.segment_machine.specs.Taking.{swap_sum}
use Rattle.hist_core.specs.declared.delta_call.DeltaStage.TheVariants.{LoadingSum, Swapping}
use Rattle.hist_core.specs.declared.delta_call.DeltaCall.{DeltaCall}
use Rattle.hist_core.specs.declared.delta_call.DeltaCallStep.TheVariants.{More, Done}
use Rattle.hist_core.specs.StepsBy.{StepsBy, WalksInOrder}
use Rattle.hist_core.specs.DeltaCall.{DeltaHasEnded, IsDeltaCall, IsUnderWay, StandsAtStage, DeltaCallGives, FrameOfDelta, TookEach}
use Rattle.hist_core.proofs.Walks.Passing.{way_still}
use Rattle.hist_core.proofs.Worlds.Quiet.{not_spent}
use Rattle.hist_core.proofs.DeltaCall.Going.{acts_on, takes_it, taking_aside, taking_sees}
use Rattle.hist_core.proofs.DeltaCall.Values.{took_samples}

-- a difference that fits is what is left of it in 64 bits
pub difference : (sum found mark : ℤ) → cast_signed w64 (cast_unsigned w64 sum) ≡ sum → cast_unsigned w64 sum < 2 ^ 64 → FitsSigned w64 found → found ≡ mark
    → unsigned_abs (sum -ℤ mark) ≤ 2147483648 * 4294967295
    → cast_signed w64 ((cast_unsigned w64 sum + (2 ^ 64 - cast_unsigned w64 found)) % 2 ^ 64) ≡ sum -ℤ mark
difference sum found mark whole low fits same few =
    wrapping_sub_onto w64 (cast_unsigned w64 sum) found low fits
    ∙ (ap (λ (z : ℤ). int_wrap w64 (z -ℤ found)) whole
    ∙ (ap (λ (z : ℤ). int_wrap w64 (sum -ℤ z)) same
    ∙ int_wrap_fits w64 (sum -ℤ mark) (fits_signed_from_abs w64 (sum -ℤ mark) (omega (arith, few)))))

module _ (shape : Dimensions) (known : Known) (earlier : List Taken) (delta_call : DeltaCall) (a : Actor) (words : List ℕ) (is : IsDeltaCall shape known earlier delta_call a) where
  -- ---- the sum is loaded
  module _ (loads : delta_call.stage ≡ LoadingSum) where
    before_sum : StandsAtStage shape known earlier delta_call a LoadingSum
    before_sum = subst (StandsAtStage shape known earlier delta_call a) loads is.stands

    abbrev summed : Actor
    summed = next a (taking_event (load_sum known.reference)) (word_at words (known.reference + 11))

    -- what it took is still taken
    took_still : (sum : ℤ) → TookEach known delta_call a → TookEach known (record delta_call { stage = Swapping sum }) summed
    took_still sum (inl took) = inl took
    took_still sum (inr all) = inr (record {
      passed = all.passed;
      way = way_still known a summed (taking_sees a (load_sum known.reference) (word_at words (known.reference + 11))) all.passed 12 refl refl all.way;
      lists = all.lists;
    })

    pub loads_sum : (sum : ℤ) → sum ≡ cast_signed w64 (word_at words (delta_call.histogram + 11))
        → StepsBy shape.size delta_call.version a words words (DeltaCallGives shape known earlier (record delta_call { stage = Swapping sum }) More a)
    loads_sum sum is_sum =
        acts_on shape known earlier delta_call a is words words (load_sum known.reference) (record delta_call { stage = Swapping sum })
        (record { version = refl; histogram = refl; ranges = refl; room = refl })
        (is.turns, (known, is.knows, refl)) (sym (set-get_or words (known.reference + 11) 0)) refl is.units
        (λ learned. (
          (let way = before_sum.0 in record { taking = way.taking; last = way.last; taken = way.taken; name = way.name; counts = way.counts; sum = way.sum }),
          took_still sum before_sum.1,
          ap (λ (h : ℕ). SumLoaded known.reference (cast_signed w64 (word_at words (h + 11)))) is.reference ∙ ap (SumLoaded known.reference) (sym is_sum),
        ))

  -- ---- it is swapped into the sum mark
  module _ (sum : ℤ) (swaps : delta_call.stage ≡ Swapping sum) (order : WalksInOrder a) where
    stands : StandsAtStage shape known earlier delta_call a (Swapping sum)
    stands = subst (StandsAtStage shape known earlier delta_call a) swaps is.stands

    abbrev way : IsUnderWay known earlier delta_call a
    way = stands.0

    abbrev mark : ℤ
    mark = cast_signed w64 (word_at words (known.reference + 12))

    abbrev event : Event
    event = taking_event (swap_sum_mark known.reference sum)

    abbrev acted : Actor
    acted = next a event (word_at words (known.reference + 12))

    abbrev last : Taken
    last = swap_sum sum mark way.last

    taken_is : acted.deltas.taken ≡ earlier ++ last ∷ []
    taken_is = ap (change_last (swap_sum sum mark)) way.taken ∙ last_changed (swap_sum sum mark) earlier way.last

    took_all : TookAll acted known
    took_all = record {
      buckets = λ bucketed. ⊎_elim (λ took. took.1) (λ all. absurd (true≢false (sym bucketed ∙ ap has_buckets all.way.sparse))) stands.1;
      samples = λ sparse.
          ⊎_elim (λ took. absurd (true≢false (sym took.0 ∙ ap has_buckets sparse)))
          (λ all. took_samples known delta_call a (order (not_spent a.hand.place (ap is_bound stands.2))) all) stands.1;
      summed = (earlier, last, taken_is, way.name, refl);
    }

    ended : (amount : ℤ) → amount ≡ sum -ℤ mark → DeltaHasEnded known earlier delta_call amount (noted acted has_taken)
    ended amount is_amount = record {
      taking = refl;
      last = last;
      taken = taken_is;
      name = way.name;
      counts = way.counts;
      sum_is = ap (λ (s : ℤ). s +ℤ (sum -ℤ mark)) way.sum ∙ (+ℤ_idl (sum -ℤ mark) ∙ sym is_amount);
      swapped = refl;
      all = record { buckets = took_all.buckets; samples = took_all.samples; summed = took_all.summed };
      units = is.units;
    }

    aside : FrameOfDelta a (noted acted has_taken)
    aside = let first = taking_aside a (swap_sum_mark known.reference sum) (word_at words (known.reference + 12)) in record {
      role = first.role;
      segment = first.segment;
      units = first.units;
      entries = first.entries;
      names = first.names;
      snapshots = first.snapshots;
      first = first.first;
      chain = first.chain;
      words = first.words;
      done = first.done;
    }

    pub swaps_so : (amount : ℤ) → (Learned a event (word_at words (known.reference + 12)) → amount ≡ sum -ℤ mark) → (new_words : List ℕ)
        → new_words ≡ slice_set words (delta_call.histogram + 12) (cast_unsigned w64 sum)
        → StepsBy shape.size delta_call.version a words new_words (DeltaCallGives shape known earlier delta_call (Done amount) a)
    swaps_so amount is_amount new_words are = record {
      before = [];
      at = a;
      told = refl;
      event = event;
      ready = (known, takes_it shape known earlier delta_call a is way, stands.2);
      words_are = are ∙ ap (λ (h : ℕ). slice_set words (h + 12) (cast_unsigned w64 sum)) (sym is.reference);
      goes = λ learned apart ordered. (
        has_taken ∷ [],
        noted acted has_taken,
        ((way.taking, (known, is.knows, took_all)), refl),
        (aside, refl, ended amount (is_amount learned)),
      );
    }

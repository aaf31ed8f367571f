-- An `add` counts its units, adds its amount to the sum, and notes its units in the redundant count.
use Rattle.segment_invariant.proofs.Prelude.Std.{◌≡◌, ℕ, ◌+◌, ◌%◌, ◌^◌, ◌<◌, ◌≤◌, ℤ, pos, Bool, true, false, not, List, [], ◌∷◌, ◌++◌, map, filter, length, refl, sym, ap, subst, arith, inl, inr, ⊎_elim, ◌∙◌, slice_set, if◌then◌else◌, int_eq, props, ∥∥₁_elim, append-nil}
use Rattle.segment_invariant.proofs.Prelude.Machine.{Dimensions, word_at, Actor, Known, EntryProgress, MayTurn, add_count, boundaries_of, Spec, IsFirstSample, fresh, key_of, has_ended, is_counted, Event, next, counting_event}
use Rattle.segment_machine.specs.Calls.{IsNext, change_next}
use Rattle.hist_core.proofs.Parts.Alone.{by_event}
use Rattle.hist_core.specs.declared.add.Add.{Add}
use Rattle.hist_core.specs.declared.add.AddStep.TheVariants.{More}
use Rattle.hist_core.specs.declared.add.AddStage.{AddStage}
use Rattle.hist_core.specs.declared.add.AddStage.TheVariants.{Counting, Summing, Noting}
use Rattle.hist_core.specs.StepsBy.{StepsBy, LiesWithin}
use Rattle.hist_core.specs.Add.{Amid, IsCounting, HasEntry, IsSomeAdd, StandsAtStage, IsAdd, AddGives, behind_count, serves_counted}
use Rattle.hist_core.proofs.Parts.Deeds.{does_nothing}
use Rattle.hist_core.proofs.AddCall.Entries.{still_open, only_open, only_changed, counting_of}
use Rattle.segment_machine.specs.Packing.{CountsIn}

-- it counts the same at any stage
pub counts_on : (shape : Dimensions) (known : Known) (add : Add) (stage : AddStage) → IsCounting shape known add → IsCounting shape known (record add { stage = stage })
counts_on shape known add stage counting = record {
  shaped = counting.shaped;
  versions = counting.versions;
  reference = counting.reference;
  within = counting.within;
  some = counting.some;
  lawful = counting.lawful;
  buckets = counting.buckets;
  fits = counting.fits;
  bucket = counting.bucket;
}

-- once its units are counted, its amount comes next, or its units
pub behind_stands : (shape : Dimensions) (known : Known) (amid : Amid) (add : Add) (b : Actor) → MayTurn b → HasEntry known amid add b true false
    → StandsAtStage shape known amid (record add { stage = behind_count add.amount }) b (behind_count add.amount)
behind_stands shape known amid add b turns has = by (int_eq add.amount (pos 0)) refl
  where
    by : (none : Bool) → int_eq add.amount (pos 0) ≡ none → let stage = if none then Noting else Summing in StandsAtStage shape known amid (record add { stage = stage }) b stage
    by true e = (turns, subst (λ (n : Bool). HasEntry known amid add b true (not n)) (sym e) has)
    by false e = (turns, has, e)

module _ (shape : Dimensions) (known : Known) (amid : Amid) (add : Add) (a : Actor) (is : IsAdd shape known amid add a) (counted summed : Bool) (has : HasEntry known amid add a counted summed) where
  -- its entry has not ended
  goes_on : has_ended (counting_of known add counted summed) ≡ false
  goes_on = still_open (counting_of known add counted summed) refl is.counting.some

  pub next_is : IsNext a (counting_of known add counted summed)
  next_is = (
    filter (λ c. not (has_ended c)) (map fresh amid.behind),
    ap (filter (λ c. not (has_ended c))) has ∙ only_open (counting_of known add counted summed) (map fresh amid.behind) goes_on amid.before is.over,
  )

  pub changed_is : (f : EntryProgress → EntryProgress) → change_next f a.entries.running ≡ amid.before ++ f (counting_of known add counted summed) ∷ map fresh amid.behind
  changed_is f = ap (change_next f) has ∙ only_changed (counting_of known add counted summed) (map fresh amid.behind) goes_on f amid.before is.over

-- it may make room: nothing is counted of its entry, and it takes nothing
pub counts_in : (shape : Dimensions) (known : Known) (amid : Amid) (add : Add) (a : Actor) → IsAdd shape known amid add a → HasEntry known amid add a false false → CountsIn a known
counts_in shape known amid add a is has = (is.rests, λ c first. by c (first_is c first))
  where
    first_is : (c : EntryProgress) → IsNext a c → counting_of known add false false ≡ c
    first_is c first = let mine = next_is shape known amid add a is false false has in
        let same : counting_of known add false false ∷ mine.0 ≡ c ∷ first.0 = sym mine.1 ∙ first.1 in cc same

    by : (c : EntryProgress) → counting_of known add false false ≡ c → (is_counted c ≡ false) × (c.entry.name ≡ known.name)
    by c same = subst (λ (d : EntryProgress). (is_counted d ≡ false) × (d.entry.name ≡ known.name)) same (is.counting.some, refl)

module _ (shape : Dimensions) (known : Known) (amid : Amid) (add : Add) (a : Actor) (words : List ℕ) (is : IsAdd shape known amid add a) where
  -- its record lies in the words
  pub is_inside : length words ≡ shape.size → (add.histogram + 15 ≤ length words) × (length words ≤ 1048576)
  is_inside long =
      let within = is.counting.within in let many = is.lawful_shape.many in (omega (arith, long, within), omega (arith, long, many))

  -- ---- a count
  module _ (at : ℕ) (counts : add.stage ≡ Counting at) where
    stands : StandsAtStage shape known amid add a (Counting at)
    stands = subst (StandsAtStage shape known amid add a) counts is.stands

    pub count_inside : length words ≡ shape.size → at < length words
    count_inside long = subst (λ (n : ℕ). at < n) (sym long) stands.2

    abbrev event : Event
    event = counting_event (add_count at add.units)

    abbrev acted : Actor
    acted = next a event (word_at words at)

    is_counted_then : HasEntry known amid add acted true false
    is_counted_then = changed_is shape known amid add a is false false stands.0 (λ c. record c { counted = true })

    pub counts_so : (new_words : List ℕ) → new_words ≡ slice_set words at ((word_at words at + add.units) % 2 ^ 64)
        → StepsBy shape.size add.version a words new_words (AddGives shape known amid (record add { stage = behind_count add.amount }) More a)
    counts_so new_words are = by_event event (
      counting_of known add false false,
      known,
      (next_is shape known amid add a is false false stands.0, is.counting.some),
      refl,
      refl,
      ⊎_elim (λ (look, (place, some, off, (knows, here, has)), there). inl (look, add.bucket, (place, some, off, (knows, here, has)), is.counting.bucket has, there))
          (λ (sample, turns, (knows, here, sparse), first, there). inr (
            sample,
            turns,
            (knows, here, sparse),
            subst (λ (key : ℤ). IsFirstSample a.seen known.reference key sample) (ap (λ (kind : Spec). key_of (boundaries_of kind) add.value) (sym sparse)) first,
            there,
          ))
          stands.1,
    )
        are
        (λ learned apart ordered. (
          record {
            role = refl;
            segment = refl;
            deltas = refl;
            names = refl;
            chain = ([], sym (append-nil a.seen.chain));
            words = ([], sym (append-nil a.seen.words));
          },
          (refl, refl),
          does_nothing (serves_counted known add a) a acted refl,
          record {
            counting = counts_on shape known add (behind_count add.amount) is.counting;
            segment = is.segment;
            version = is.version;
            lawful_shape = is.lawful_shape;
            knows = is.knows;
            alone = is.alone;
            rests = is.rests;
            held = is.held;
            over = is.over;
            stands = behind_stands shape known amid add acted refl is_counted_then;
          },
        ))

-- the record of an `add` that some actor runs lies within the words, which are at most 2^20
pub lies_within : (add : Add) (words : List ℕ) → ∥ IsSomeAdd (length words) add ∥₁ → LiesWithin (length words) add.histogram
lies_within add words stands = ∥∥₁_elim stands (hlevel props) (λ (shape, known, amid, a, long, is).
    let inside = is_inside shape known amid add a words is long in record { within = inside.0; few = inside.1 })

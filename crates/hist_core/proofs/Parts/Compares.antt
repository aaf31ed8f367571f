-- A `hist` loads one more word of the record where its walk is, and compares it with its own.
use Rattle.segment_invariant.proofs.Prelude.Std.{◌≡◌, ◌≢◌, ◌⊎◌, ℕ, ◌+◌, ◌-◌, ◌<◌, ◌≤◌, ◌^◌, false, List, [], ◌∷◌, ◌++◌, length, inl, inr, refl, sym, ap, subst, ◌∙◌, arith, Some, slice_index, Contains, All-push, Contains-append_left, Contains-append_right, dite, ℕ_discrete, set-get_or}
use Rattle.segment_invariant.proofs.Prelude.Machine.{Dimensions, word_at, name_words, spec_fields, spec_ranges, Actor, word_seen, sight, Event, next, walking_event, load_published, Refusal}
use Rattle.segment_machine.specs.Made.{SawOtherName}
use Rattle.segment_machine.specs.Note.{MayNote, knows}
use Rattle.segment_machine.specs.Walking.{IsFixed, EndsWithin, StaysAsSeen}
use Rattle.segment_promises.proofs.Calls.SeenWords.{seen_now}
use Rattle.hist_core.specs.NewRecord.{is_full}
use Rattle.hist_core.proofs.Parts.Alone.{by_event, seen_words}
use Rattle.hist_core.proofs.Parts.Deeds.{does_nothing}
use Rattle.hist_core.specs.declared.hist.Hist.{Hist}
use Rattle.hist_core.specs.declared.hist.HistStep.{HistStep}
use Rattle.hist_core.specs.declared.hist.HistStep.TheVariants.{More, Done, Refused}
use Rattle.hist_core.specs.declared.hist.HistStage.TheVariants.{Walking, Comparing}
use Rattle.hist_core.specs.StepsBy.{DoesOnly, FrameOfStep, StepsBy}
use Rattle.hist_core.proofs.Worlds.Free.{free_turns}
use Rattle.hist_core.specs.Hist.{IsHist, StandsAtStage, HaveOtherNames, AreSame, Reaches, HistGives, IsMatched, IsDifferent, IsHistCause, HasOtherSpec, asked_of, serves_asked, compared_place, compared_index, compared_word}
use Rattle.segment_invariant.proofs.Walking.Words.{letters_long}
use Rattle.hist_core.proofs.Parts.Comparisons.{Part, part_of, index_of_rest, then_length, letter_word, field_word, range_word, ranges_if_custom, payload_long, compared_all}
use Rattle.hist_core.proofs.Parts.Differences.{saw_word, saw_spec, first_named, saw_other_name, saw_other_spec}
use Rattle.hist_core.proofs.Parts.Walks.{still, others_still, asks_on}
use Rattle.hist_core.proofs.Parts.Records.{some_to_compare_is}

module _ (shape : Dimensions) (h : Hist) (a : Actor) (is : IsHist shape h a) (k : ℕ) (compares : h.stage ≡ Comparing k) where
  stands : StandsAtStage shape h a is.given (Comparing k)
  stands = subst (StandsAtStage shape h a is.given) compares is.stands

  -- the word that is loaded lies within the words
  loads_within : h.reference + compared_index h.letters k < shape.size
  loads_within = by (part_of shape h is.asking k stands.3)
    where
      by : Part shape h is.asking k → h.reference + compared_index h.letters k < shape.size
      by (inl e) = let index = ap (compared_index h.letters) e in let within = stands.2.header in omega (arith, index, within)
      by (inr (inl e)) =
          let index = ap (compared_index h.letters) e in let within = stands.2.fixed (omega (arith, e)) in omega (arith, index, within)
      by (inr (inr (inl (i, e, below)))) =
          let index = ap (compared_index h.letters) e ∙ (letter_word shape h is.asking i below).0 in let count = is.asking.count in
          let within = stands.2.name (omega (arith, e)) in omega (arith, index, within, below, count)
      by (inr (inr (inr (inl (i, e, below))))) =
          let index = ap (compared_index h.letters) e ∙ (field_word shape h is.asking i below).0 in
          let within = stands.2.name (omega (arith, e)) in omega (arith, index, within, below)
      by (inr (inr (inr (inr (i, e, below))))) =
          let index = ap (compared_index h.letters) e ∙ (range_word shape h is.asking i).0 in let long = payload_long shape h is.asking in
          let within = stands.2.ranges (omega (arith, e)) in omega (arith, index, within, below, long)

  -- its own word lies within the payload
  place_within : 0 < k → compared_place h.letters k < length h.payload.items
  place_within some = by (part_of shape h is.asking k stands.3)
    where
      rest : compared_index h.letters k ≡ 4 + compared_place h.letters k
      rest = index_of_rest h.letters k (omega (arith, some))

      long : length h.payload.items ≡ 11 + (h.letters + length (spec_ranges h.asked.spec))
      long = payload_long shape h is.asking

      by : Part shape h is.asking k → compared_place h.letters k < length h.payload.items
      by (inl e) = absurd (omega (arith, e, some))
      by (inr (inl e)) = let index = ap (compared_index h.letters) e in let whole = long in let at = rest in omega (arith, index, whole, at)
      by (inr (inr (inl (i, e, below)))) =
          let index = ap (compared_index h.letters) e ∙ (letter_word shape h is.asking i below).0 in let count = is.asking.count in
          let whole = long in let at = rest in omega (arith, index, whole, at, below, count)
      by (inr (inr (inr (inl (i, e, below))))) =
          let index = ap (compared_index h.letters) e ∙ (field_word shape h is.asking i below).0 in let whole = long in let at = rest in omega (arith, index, whole, at, below)
      by (inr (inr (inr (inr (i, e, below))))) =
          let index = ap (compared_index h.letters) e ∙ (range_word shape h is.asking i).0 in let whole = long in let at = rest in omega (arith, index, whole, at, below)

  -- what it loads lies in the words, which are few, and what it compares that with in the payload
  pub compare_bounds : (h.reference + compared_index h.letters k < shape.size) × (shape.size ≤ 1048576) × (0 < k → compared_place h.letters k < length h.payload.items)
      × (k < length h.payload.items) × (h.letters < 1048576) × (k < 1048576)
  compare_bounds =
      let inside = stands.3 in
      let long = payload_long shape h is.asking in
      let many = is.lawful_shape.many in
      let one = is.lawful_shape.one in
      let page = is.asking.one_page in (
        loads_within,
        many,
        place_within,
        omega (arith, inside),
        omega (arith, long, many, one, page),
        omega (arith, inside, many, one, page),
      )

  -- what was the same stays so, and with the word that is found one more is
  one_more : (b : Actor) → FrameOfStep a b → (found : ℕ) → word_seen b.seen.words (h.reference + compared_index h.letters k) ≡ Some found
      → found ≡ compared_word h k → AreSame b.seen h (k + 1)
  one_more b beside found seen same j below = dite (ℕ_discrete j k)
      (λ here. subst (λ (n : ℕ). word_seen b.seen.words (h.reference + compared_index h.letters n) ≡ Some (compared_word h n)) (sym here) (seen ∙ ap Some same))
      (λ apart. still a b beside (h.reference + compared_index h.letters j) (compared_word h j) (stands.4 j (omega (arith, below, apart))))

  -- it is a word that never changes
  is_fixed : IsFixed a h.reference (compared_index h.letters k)
  is_fixed = by (part_of shape h is.asking k stands.3)
    where
      type_seen : 0 < k → word_seen a.seen.words (h.reference + 2) ≡ Some 1
      type_seen some = stands.4 0 some

      length_seen : 1 < k → word_seen a.seen.words (h.reference + 14) ≡ Some (length h.asked.name.items)
      length_seen some = stands.4 1 some ∙ ap Some (then_length shape h is.asking).1

      field_seen : (j : ℕ) → j < 4 → h.letters + 6 ≤ k → word_seen a.seen.words (h.reference + (4 + j)) ≡ Some (slice_index (spec_fields h.asked.spec) j)
      field_seen j low from =
          let is_field = field_word shape h is.asking j low in
          ap (λ (n : ℕ). word_seen a.seen.words (h.reference + n)) (sym is_field.0)
          ∙ (stands.4 (j + (h.letters + 2)) (omega (arith, low, from)) ∙ ap Some is_field.1)

      custom : (i : ℕ) → k ≡ i + (h.letters + 6) → i < length (spec_ranges h.asked.spec)
          → (length (spec_ranges h.asked.spec) ≡ 0)
          ⊎ ((slice_index (spec_fields h.asked.spec) 0 ≡ 3) × (length (spec_ranges h.asked.spec) ≡ slice_index (spec_fields h.asked.spec) 3 - 1))
          → IsFixed a h.reference (compared_index h.letters k)
      custom i e below (inl none) = absurd (omega (arith, none, below))
      custom i e below (inr (kind, count)) =
          let index = ap (compared_index h.letters) e ∙ (range_word shape h is.asking i).0 in
          let long = letters_long h.asked.name.items is.asking.letters is.asking.spells in
          let letters_are = is.asking.count in
          let from : h.letters + 6 ≤ k = omega (arith, e) in
          inr (inl (
            type_seen (omega (arith, e)),
            inr (inr (
              length h.asked.name.items,
              length_seen (omega (arith, e)),
              omega (arith, index),
              inr (slice_index (spec_fields h.asked.spec) 3, field_seen 0 (omega arith) from ∙ ap Some kind, field_seen 3 (omega arith) from, omega (arith, index, below, long, letters_are, count)),
            )),
          ))

      by : Part shape h is.asking k → IsFixed a h.reference (compared_index h.letters k)
      by (inl e) = inl (ap (compared_index h.letters) e)
      by (inr (inl e)) = inr (inl (type_seen (omega (arith, e)), inr (inl (ap (compared_index h.letters) e))))
      by (inr (inr (inl (i, e, below)))) =
          let index = ap (compared_index h.letters) e ∙ (letter_word shape h is.asking i below).0 in
          let long = letters_long h.asked.name.items is.asking.letters is.asking.spells in
          inr (inl (type_seen (omega (arith, e)), inr (inr (length h.asked.name.items, length_seen (omega (arith, e)), omega (arith, index), inl (omega (arith, index, below, long))))))
      by (inr (inr (inr (inl (i, e, below))))) =
          let index = ap (compared_index h.letters) e ∙ (field_word shape h is.asking i below).0 in
          inr (inl (type_seen (omega (arith, e)), inl (omega (arith, index), omega (arith, index, below))))
      by (inr (inr (inr (inr (i, e, below))))) = custom i e below (ranges_if_custom h.asked.spec)

  -- ---- one word more is the same

  letters_are : name_words (length h.asked.name.items) ≡ h.letters
  letters_are = letters_long h.asked.name.items is.asking.letters is.asking.spells ∙ sym is.asking.count

  -- so the record reaches as far as that word shows
  module _ (ends : EndsWithin a h.reference (compared_index h.letters k) (compared_word h k)) where
    within_size : (n : ℕ) → n ≤ a.segment.shape.size → n ≤ shape.size
    within_size n = subst (λ (d : Dimensions). n ≤ d.size) is.segment

    fixed_then : h.reference + 15 ≤ shape.size
    fixed_then = dite (ℕ_discrete k 0)
        (λ first. within_size (h.reference + 15) (ends.0 (ap (compared_index h.letters) first) (ap (compared_word h) first)))
        (λ later. stands.2.fixed (omega (arith, later)))

    name_then : 0 < k → h.reference + (15 + h.letters) ≤ shape.size
    name_then some = dite (ℕ_discrete k 1)
        (λ second.
        let word = ap (compared_word h) second ∙ (then_length shape h is.asking).1 in
        let within = within_size (h.reference + 15 + name_words (compared_word h k)) (ends.2 (ap (compared_index h.letters) second)) in
        let many = ap name_words word ∙ letters_are in
        omega (arith, within, many))
        (λ later. stands.2.name (omega (arith, some, later)))

    ranges_then : h.letters + 5 ≤ k → h.reference + (4 + length h.payload.items) ≤ shape.size
    ranges_then last = dite (ℕ_discrete k (h.letters + 5)) (λ now. by now (ranges_if_custom h.asked.spec)) (λ later. stands.2.ranges (omega (arith, last, later)))
      where
        by : k ≡ h.letters + 5
            → (length (spec_ranges h.asked.spec) ≡ 0)
            ⊎ ((slice_index (spec_fields h.asked.spec) 0 ≡ 3) × (length (spec_ranges h.asked.spec) ≡ slice_index (spec_fields h.asked.spec) 3 - 1))
            → h.reference + (4 + length h.payload.items) ≤ shape.size
        by now (inl none) =
            let name = stands.2.name (omega (arith, now)) in let long = payload_long shape h is.asking in omega (arith, name, long, none)
        by now (inr (kind, count)) =
            let place : k ≡ 3 + (h.letters + 2) = omega (arith, now) in
            let is_field = field_word shape h is.asking 3 (omega arith) in
            let is_kind = field_word shape h is.asking 0 (omega arith) in
            let word = ap (compared_word h) place ∙ is_field.1 in
            let kind_seen = saw_word shape h is.asking a.seen k stands.4 (0 + (h.letters + 2)) (omega (arith, now)) 4 3 is_kind.0 (is_kind.1 ∙ kind) in
            let length_seen = saw_word shape h is.asking a.seen k stands.4 1 (omega (arith, now)) 14 (length h.asked.name.items) refl (then_length shape h is.asking).1 in
            let within = within_size _ (ends.3 (length h.asked.name.items) (ap (compared_index h.letters) place ∙ is_field.0) kind_seen length_seen) in
            let many = letters_are in
            let long = payload_long shape h is.asking in
            omega (arith, within, many, long, count, word)

    then_reaches : Reaches shape.size h (k + 1)
    then_reaches = record {
      header = stands.2.header;
      fixed = λ some. fixed_then;
      name = λ some. name_then (omega (arith, some));
      ranges = λ some. ranges_then (omega (arith, some));
    }

  -- ---- the event

  abbrev front : List ℕ
  front = stands.1.0

  is_given : is.given ≡ front ++ h.reference ∷ []
  is_given = stands.1.1

  is_met : Contains a.seen.chain h.reference
  is_met =
      subst (λ (l : List ℕ). Contains l h.reference) (sym is.front.1)
      (Contains-append_left is.given is.front.0 h.reference
      (subst (λ (l : List ℕ). Contains l h.reference) (sym is_given) (Contains-append_right front (h.reference ∷ []) h.reference (0, omega arith, refl))))

  abbrev event : Event
  event = walking_event (load_published h.reference (compared_index h.letters k))

  module _ (version : ℕ) (words : List ℕ) where
    abbrev found : ℕ
    found = word_at words (h.reference + compared_index h.letters k)

    abbrev acted : Actor
    acted = next a event found

    beside : FrameOfStep a acted
    beside = seen_words a acted (sight (h.reference + compared_index h.letters k) found) refl refl refl refl refl refl refl refl

    -- nothing is done to the segment
    none : (new : Hist) → DoesOnly false false (serves_asked new a) a acted
    none new = does_nothing (serves_asked new a) a acted refl

    abbrev Learns : Type 0
    Learns = EndsWithin a h.reference (compared_index h.letters k) found × StaysAsSeen a (h.reference + compared_index h.letters k) found

    -- the word is seen then
    saw_found : Learns → word_seen acted.seen.words (h.reference + compared_index h.letters k) ≡ Some found
    saw_found learned = seen_now a.seen.words (h.reference + compared_index h.letters k) found learned.1

    does : (new : Hist) (said : HistStep) → (Learns → HistGives shape new said a acted) → StepsBy shape.size version a words words (HistGives shape new said a)
    does new said gives = by_event event (free_turns a.hand.place stands.0, is_met, is_fixed)
        (sym (set-get_or words (h.reference + compared_index h.letters k) 0))
        (λ learned apart ordered. gives learned)

    -- it was the same: the next is compared, or all were the same
    pub matches_so : (new : Hist) (said : HistStep) → found ≡ compared_word h k → IsMatched h k new said → StepsBy shape.size version a words words (HistGives shape new said a)
    matches_so new More same (more, new_is) = does new More (λ learned. (beside, none new, subst (λ (n : Hist). IsHist shape n acted) (sym new_is) (goes_on learned)))
      where
        goes_on : Learns → IsHist shape (record h { stage = Comparing (k + 1) }) acted
        goes_on learned = record {
          asking = asks_on shape h is.asking h.reference h.walk (Comparing (k + 1));
          segment = is.segment;
          lawful_shape = is.lawful_shape;
          given = is.given;
          walk = is.walk;
          reach = is.reach;
          front = is.front;
          stands = (
            stands.0,
            (front, is_given, others_still a acted beside h front stands.1.2),
            let reaches = then_reaches (subst (EndsWithin a h.reference (compared_index h.letters k)) same learned.0) in
                record { header = reaches.header; fixed = reaches.fixed; name = reaches.name; ranges = reaches.ranges },
            more,
            one_more acted beside found (saw_found learned) same,
          );
        }
    matches_so new Done same (all, new_is) =
        does new Done (λ learned. subst (λ (n : Hist). HistGives shape n Done a acted) (sym new_is) (beside, none h, stands.0, known learned, is.asking, there))
      where
        known : Learns → MayNote acted (knows (asked_of h))
        known learned =
            let then_same = one_more acted beside found (saw_found learned) same in
            let many = compared_all shape h is.asking in (
              first_named shape h is.asking acted.seen (k + 1) then_same front is.given is_given is.front (others_still a acted beside h front stands.1.2) (omega (arith, all, many)),
              (is.asking.letters, is.asking.spells, saw_spec shape h is.asking acted.seen (k + 1) then_same all),
            )

        -- the last comparison is after that of the type
        there : h.reference + 15 ≤ shape.size
        there = let some = some_to_compare_is shape h is.asking in let long = payload_long shape h is.asking in stands.2.fixed (omega (arith, some, all, long))
    matches_so new (Refused why) same matched = absurd matched

    -- it was another: the record has another name, or it is the first of the name and has another spec
    pub differs_so : (new : Hist) (said : HistStep) → found ≢ compared_word h k → found < 2 ^ 64 → compared_word h k < 2 ^ 64 → IsDifferent h k new said
        → StepsBy shape.size version a words words (HistGives shape new said a)
    differs_so new More other small small_own (early, new_is) = does new More (λ learned. (beside, none new, subst (λ (n : Hist). IsHist shape n acted) (sym new_is) (walks_on learned)))
      where
        walks_on : Learns → IsHist shape (record h { stage = Walking }) acted
        walks_on learned = record {
          asking = asks_on shape h is.asking h.reference h.walk Walking;
          segment = is.segment;
          lawful_shape = is.lawful_shape;
          given = is.given;
          walk = is.walk;
          reach = is.reach;
          front = is.front;
          stands = (
            stands.0,
            subst (HaveOtherNames h acted) (sym is_given)
                (All-push (SawOtherName acted.seen h.asked.name.items) front h.reference (others_still a acted beside h front stands.1.2)
                (saw_other_name shape h is.asking acted.seen k found stands.3 (saw_found learned) other early small small_own)),
          );
        }
    differs_so new Done other small small_own differs = absurd differs
    differs_so new (Refused cause) other small small_own (late, new_is, why_is) =
        does new (Refused cause) (λ learned. (
          beside,
          subst (λ (c : Refusal). DoesOnly false (is_full c) (serves_asked new a) a acted) (sym why_is) (none new),
          stands.0,
          subst (λ (p : Hist × Refusal). IsHistCause p.0.asked.name.items p.0.asked.spec p.1 a acted) (λ i. (sym new_is i, sym why_is i)) (inr (refl, declined learned)),
        ))
      where
        declined : Learns → HasOtherSpec h.asked.name.items h.asked.spec acted.seen
        declined learned =
            let still_same : AreSame acted.seen h k = λ j below. still a acted beside (h.reference + compared_index h.letters j) (compared_word h j) (stands.4 j below) in (
              h.reference,
              is.asking.letters,
              first_named shape h is.asking acted.seen k still_same front is.given is_given is.front (others_still a acted beside h front stands.1.2) late,
              is.asking.spells,
              saw_other_spec shape h is.asking acted.seen k found stands.3 (saw_found learned) other late,
            )

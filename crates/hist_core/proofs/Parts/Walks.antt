-- A `hist` walks along the list.
use Rattle.segment_invariant.proofs.Prelude.Std.{◌≡◌, ℕ, ◌+◌, ◌<◌, ◌≤◌, ◌==◌, vec_len, Bool, true, false, true≢false, List, [], ◌∷◌, ◌++◌, length, inl, inr, refl, sym, ap, subst, ◌∙◌, arith, Some, ◌&&◌, ◌||◌, nat_le, leb-true, eqb-true}
use Rattle.segment_invariant.proofs.Prelude.Machine.{Dimensions, word_at, is_reference, Actor, Sighting, word_seen, IsPrefix}
use Rattle.list_core.specs.declared.walk.WalkStep.{WalkStep}
use Rattle.list_core.specs.declared.walk.WalkStep.TheVariants.{Record, End, Stray}
use Rattle.list_core.specs.Walk.{said_of, given_after, stands_behind}
use Rattle.segment_machine.specs.Made.{SawOtherName}
use Rattle.segment_invariant.proofs.Walking.Words.{word_still}
use Rattle.hist_core.specs.declared.hist.Hist.{Hist}
use Rattle.hist_core.specs.declared.hist.HistStep.TheVariants.{More}
use Rattle.hist_core.specs.declared.hist.HistStage.{HistStage}
use Rattle.hist_core.specs.declared.hist.HistStage.TheVariants.{Walking, Comparing, Making}
use Rattle.hist_core.specs.declared.new_record.NewRecord.{NewRecord as NewRecordOf}
use Rattle.hist_core.specs.NewRecord.{IsStarted}
use Rattle.hist_core.proofs.Makes.Drafts.{begins, is_wide}
use Rattle.hist_core.proofs.Parts.Records.{may_make, some_to_compare_is}
use Rattle.hist_core.specs.StepsBy.{FrameOfStep, StepsBy, IsFree}
use Rattle.hist_core.proofs.Worlds.Free.{free_turns}
use Rattle.hist_core.specs.Hist.{IsAsking, IsHist, HaveOtherNames, StandsAtStage, HistGives, comparisons, serves_asked, wanted_of}
use Rattle.hist_core.proofs.Parts.Allocations.{EndsWith, goes_with, walks_saying}
use Rattle.hist_core.proofs.Parts.Deeds.{does_nothing}

-- ---- what is seen stays

module _ (a b : Actor) (beside : FrameOfStep a b) where
  pub still : (at word : ℕ) → word_seen a.seen.words at ≡ Some word → word_seen b.seen.words at ≡ Some word
  still at word seen = ap (λ (l : List Sighting). word_seen l at) beside.words.1 ∙ word_still a.seen.words at word beside.words.0 seen

  other_still : (name : List ℕ) (at : ℕ) → SawOtherName a.seen name at → SawOtherName b.seen name at
  other_still name at (inl (tag, seen, other)) = inl (tag, still (at + 2) tag seen, other)
  other_still name at (inr (inl (len, seen, other))) = inr (inl (len, still (at + 14) len seen, other))
  other_still name at (inr (inr (letters, i, word, spells, inside, seen, other))) =
      inr (inr (letters, i, word, spells, inside, still (at + 15 + i) word seen, other))

  pub others_still : (h : Hist) (given : List ℕ) → HaveOtherNames h a given → HaveOtherNames h b given
  others_still h given others k d inside = other_still h.asked.name.items _ (others k d inside)

-- ---- a next

-- a reference lies within the words
second_of : (x y : Bool) → (x && y) ≡ true → y ≡ true
second_of true y both = both
second_of false y both = absurd (true≢false (sym both))

reference_within : (n r : ℕ) → 64 ≤ n → is_reference n r ≡ true → r + 5 ≤ n
reference_within n r wide is = by (r == 12) refl is
  where
    by : (queue : Bool) → (r == 12) ≡ queue → (queue || (nat_le 16 r && nat_le (r + 5) n)) ≡ true → r + 5 ≤ n
    by true e within = let at = eqb-true r 12 e in omega (arith, wide, at)
    by false e within = leb-true (r + 5) n (second_of (nat_le 16 r) (nat_le (r + 5) n) within)

module _ (shape : Dimensions) (h : Hist) (asking : IsAsking shape h) where
  -- it asks for the same, wherever its walk is
  pub asks_on : (reference walk : ℕ) (stage : HistStage) → IsAsking shape (record h { reference = reference; walk = walk; stage = stage })
  asks_on reference walk stage = record {
    shaped = asking.shaped;
    name = asking.name;
    lawful = asking.lawful;
    ranges = asking.ranges;
    fits = asking.fits;
    one_page = asking.one_page;
    last = asking.last;
    letters = asking.letters;
    spells = asking.spells;
    count = asking.count;
    payload = asking.payload;
  }

module _ (shape : Dimensions) (version : ℕ) (h : Hist) (a : Actor) (words : List ℕ) (long : length words ≡ shape.size) (is : IsHist shape h a) (walks : h.stage ≡ Walking) where
  stands : IsFree a × HaveOtherNames h a is.given
  stands = subst (StandsAtStage shape h a is.given) walks is.stands

  some_to_compare : 0 < comparisons h
  some_to_compare = let some = some_to_compare_is shape h is.asking in omega (arith, some)

  -- the event, and what it makes of the walk
  abbrev Walked : WalkStep → Actor → Type 0
  Walked said b = FrameOfStep a b × (b.done ≡ a.done) × EndsWith is.given said b × IsFree b × IsPrefix (given_after is.given said) b.seen.chain

  loads : (said : WalkStep) → said ≡ said_of (length words) (word_at words (h.walk + 3)) → StepsBy shape.size version a words words (Walked said)
  loads = walks_saying shape version a is.given words h.walk is.segment long is.walk stands.0 is.front

  -- it found a record, which it compares next
  pub meets : (reference walk : ℕ) → Record reference ≡ said_of (length words) (word_at words (h.walk + 3))
      → walk ≡ stands_behind (is.given ++ reference ∷ []) → is_reference (length words) walk ≡ true → walk ≡ reference
      → StepsBy shape.size version a words words (HistGives shape (record h { reference = reference; walk = walk; stage = Comparing 0 }) More a)
  meets reference walk says walked reach here =
      let within = reference_within shape.size reference (is_wide shape is.lawful_shape) (subst (λ (p : ℕ × ℕ). is_reference p.0 p.1 ≡ true) (λ i. (long i, here i)) reach) in
      goes_with (loads (Record reference) says) (λ b (beside, done, ends_so, free, front). (
        beside,
        does_nothing (serves_asked h a) a b done,
        record {
          asking = asks_on shape h is.asking reference walk (Comparing 0);
          segment = ap (λ s. s.shape) beside.segment ∙ is.segment;
          lawful_shape = is.lawful_shape;
          given = is.given ++ reference ∷ [];
          walk = walked;
          reach = subst (λ (n : ℕ). is_reference n walk ≡ true) long reach;
          front = front;
          stands = (
            free,
            (is.given, refl, others_still a b beside h is.given stands.1),
            record {
              header = within;
              fixed = λ some. absurd (omega (arith, some));
              name = λ some. absurd (omega (arith, some));
              ranges = λ some. absurd (omega (arith, some));
            },
            some_to_compare,
            λ j below. absurd (omega (arith, below)),
          );
        },
      ))

  -- a word that no list has: it is where it was
  pub strays : (walk : ℕ) → Stray ≡ said_of (length words) (word_at words (h.walk + 3)) → walk ≡ h.walk
      → StepsBy shape.size version a words words (HistGives shape (record h { walk = walk }) More a)
  strays walk says here =
      goes_with (loads Stray says) (λ b (beside, done, ends_so, free, front). (
        beside,
        does_nothing (serves_asked h a) a b done,
        record {
          asking = asks_on shape h is.asking h.reference walk h.stage;
          segment = ap (λ s. s.shape) beside.segment ∙ is.segment;
          lawful_shape = is.lawful_shape;
          given = is.given;
          walk = here ∙ is.walk;
          reach = ap (is_reference shape.size) here ∙ is.reach;
          front = front;
          stands = subst (StandsAtStage shape (record h { walk = walk }) b is.given) (sym walks) (free, others_still a b beside h is.given stands.1);
        },
      ))

  -- at the end of the list it begins to make its record
  pub ends : (walk : ℕ) (new_record : NewRecordOf) → End ≡ said_of (length words) (word_at words (h.walk + 3)) → walk ≡ h.walk
      → IsStarted h.shape (vec_len h.payload) 1 new_record
      → StepsBy shape.size version a words words (HistGives shape (record h { walk = walk; stage = Making new_record }) More a)
  ends walk new_record says here starts = goes_with (loads End says) (λ b (beside, done, ends_so, free, front). (
    beside,
    does_nothing (serves_asked h a) a b done,
    record {
      asking = asks_on shape h is.asking h.reference walk (Making new_record);
      segment = ap (λ s. s.shape) beside.segment ∙ is.segment;
      lawful_shape = is.lawful_shape;
      given = is.given;
      walk = here ∙ is.walk;
      reach = ap (is_reference shape.size) here ∙ is.reach;
      front = front;
      stands = (
        ends_so.0,
        ends_so.1,
        others_still a b beside h is.given stands.1,
        begins shape (wanted_of h) new_record b (ap (λ s. s.shape) beside.segment ∙ is.segment) is.lawful_shape
            (may_make shape h is.asking b (ap (λ s. s.shape) beside.segment ∙ is.segment)) (free_turns b.hand.place free)
            (subst (λ (p : Dimensions × ℕ). IsStarted p.0 p.1 1 new_record) (λ i. (is.asking.shaped i, h.payload.ok.0 i)) starts),
      );
    },
  ))

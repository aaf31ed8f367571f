-- A new segment with its opener is kept: it has the queue block alone, and its one actor has done nothing.
use Rattle.segment_invariant.proofs.Prelude.Std.{◌≡◌, ◌≢◌, ◌⊎◌, ℕ, ◌+◌, List, [], ◌∷◌, replicate, inl, refl, sym, subst, arith, slice_index, All-nil, IsPermutation-refl, none, none_in}
use Rattle.segment_invariant.proofs.Prelude.Machine.{Dimensions, word_at, IsShape, stops, Actor, Spent}
use Rattle.segment_invariant.proofs.Prelude.Invariant.{Body, queue, histogram, counts, sample, Record, Counts, Sample, Piece, Anatomy, Stands, HasRecord, HasCounts, HasSample, Sees, RecordsAreKept, Fits, Invariant, ClaimedRight, StandsRight}
use mathlib.Core.Option.{Option}
use Rattle.alloc_core.proofs.Runs.{fresh_sound}
use Rattle.segment_machine.specs.Reached.{new_state}
use Rattle.segment_machine.specs.Seats.{opener_of}
use Rattle.segment_invariant.specs.Body.{blank}
use Rattle.segment_invariant.specs.Invariant.{ListIsKept, IsOnList, ArePassedOver}
use Rattle.segment_invariant.specs.Keeps.{OpeningIsKept, NewIsOpening}
use Rattle.segment_invariant.proofs.Openings.FirstActors.{first_roles, first_cursors, first_fits}
use Rattle.list_lemmas.proofs.Elements.{not_empty, each_of_one}

-- ---- the queue block alone

abbrev the_queue : Piece
the_queue = record { at = 12; owner = none; body = queue 12 }

abbrev only : List Piece
only = the_queue ∷ []

-- a block that is there is the queue block
stands_queue : (at : ℕ) (owner : Option ℕ) (body : Body) → Stands only at owner body → queue 12 ≡ body
stands_queue at owner body (k, there) = each_of_one the_queue (λ k piece. queue 12 ≡ piece.body) refl k _ there

no_record : (at : ℕ) (r : Record) → HasRecord only at r → ⊥
no_record at r there = cc (stands_queue at none (histogram r) there)

no_counts : (at : ℕ) (c : Counts) → HasCounts only at c → ⊥
no_counts at c there = cc (stands_queue at none (counts c) there)

no_sample : (at : ℕ) (s : Sample) → HasSample only at s → ⊥
no_sample at s there = cc (stands_queue at none (sample s) there)

module _ (shape : Dimensions) (version id cursors : ℕ) (lawful : IsShape shape) where
  abbrev opened : Anatomy
  opened = blank version id shape.size

  abbrev opener : Actor
  opener = opener_of shape version cursors

  abbrev actors : List Actor
  actors = opener ∷ []

  list : ListIsKept (new_state shape version id cursors).words opened opened actors
  list = record {
    linked = record {
      linked = λ i le.
          let first : 0 ≡ i = omega (arith, le) in
          subst (λ (i : ℕ). word_at (new_state shape version id cursors).words (slice_index (stops []) i + 3) ≡ slice_index (12 ∷ []) i) first refl;
      distinct = λ i j below within same. absurd (omega (arith, below, within));
    };
    once = ([], refl, IsPermutation-refl []);
    standing = All-nil _;
    alone = λ at body there. subst (IsOnList [] at) (stands_queue at none body there) tt;
    tail = (0, omega arith, refl);
  }

  records : RecordsAreKept shape.page opened
  records = record {
    lawful = λ at r there. absurd (no_record at r there);
    mounted = λ at r there. absurd (no_record at r there);
    named = λ at c there. absurd (no_counts at c there);
    packed = λ at r there. absurd (no_record at r there);
    valued = λ at s there. absurd (no_sample at s there);
    sampled = λ front behind at of value e. absurd (not_empty front behind _ (sym e));
    later = λ at other r first there. absurd (no_record at r there);
    later_samples = λ at other s there. absurd (no_sample at s there);
  }

  passed_over : ArePassedOver shape.page opened opened.pieces
  passed_over = record {
    stay = λ at size tag payload still. still;
    fixed = λ s was. was;
    each = λ front behind at e. absurd (not_empty front behind _ (sym e));
    apart = λ at place r q first. absurd (none_in _ first.0);
    unlisted = λ at r over among. none_in _ among;
  }

  sees : Sees opened (replicate cursors 12) opener.seen
  sees = record {
    free = inl refl;
    walked = ([], refl);
    tails = All-nil _;
    singles = All-nil _;
    counters = All-nil _;
    in_use = All-nil _;
    met = All-nil _;
    fixed = All-nil _;
    shared = All-nil _;
  }

  fits : Fits shape opened (replicate cursors 12) actors opener 0 opener
  fits = first_fits shape version cursors 4294967295 [] [] [] [] [] opener.seen opened sees (0, omega arith, refl) (All-nil _) (λ name. omega arith)
      (λ entry of there. absurd (none_in entry there)) refl

  kept : (version ≡ 1) ⊎ (version ≡ 2) → Invariant shape opened (new_state shape version id cursors)
  kept versions = record {
    anatomy = opened;
    shown = record { shows = refl; sound = fresh_sound shape version id lawful };
    same = (refl, refl, refl, refl);
    versions = versions;
    still = λ k p there. (p, there, refl);
    blocks = each_of_one the_queue (λ k piece. ClaimedRight piece) (λ e. cc e);
    list = list;
    claims = IsPermutation-refl [];
    records = records;
    passed_over = passed_over;
    balanced = record {
      units = λ name key. refl;
      marks = λ name key. refl;
      sums = λ name. refl;
      sum_marks = λ name. refl;
      noted = λ name. refl;
      taken = λ name key. omega arith;
    };
    keys = λ entry there. absurd (none_in entry there);
    taken_keys = λ t count there. absurd (none_in t there);
    sums = λ at r x y there. absurd (no_record at r there);
    pool = refl;
    corrupt = refl;
    full = refl;
    noticed = λ seen. seen;
    roles = first_roles shape version cursors 4294967295 [] [] [] [] [] opener.seen;
    first_noted = λ name. refl;
    answered = λ name kind at first. absurd (not_empty first.0 first.1 _ (sym first.2));
    cursors = first_cursors shape version cursors 4294967295 [] [] [] [] [] opener.seen [];
    standing = each_of_one opener (λ k a. StandsRight shape opened k a a.hand.place) tt;
    each = each_of_one opener (λ k a. a.hand.place ≢ Spent → Fits shape opened (replicate cursors 12) actors opener k a) (λ lives. fits);
  }

pub opening_is_kept : OpeningIsKept
opening_is_kept shape version id cursors lawful versions = kept shape version id cursors lawful versions

pub new_is_opening : NewIsOpening
unfolding kept
new_is_opening shape version id lawful versions = ((new_state shape version id 0, kept shape version id 0 lawful versions, refl), refl)

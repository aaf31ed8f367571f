-- A recorder sees more words that stay, such as a counts reference: it moves on to a place, and no word of the segment changes.
use Rattle.segment_invariant.proofs.Prelude.Std.{◌≡◌, ◌≢◌, ℕ, ◌+◌, ◌<◌, ◌≤◌, ℤ, List, ◌++◌, set, All, Contains, inl, inr, false, refl, ap, arith, All-contains, All-weaker, some, get_elem?, Some}
use Rattle.segment_invariant.proofs.Prelude.Machine.{Dimensions, buckets_of, Actor, Known, Place, Spent, SumLoaded, Seen, Sighting, tally_units, all_counted, bucket_key, is_bound, is_opener, SawBucket, State}
use Rattle.segment_invariant.proofs.Prelude.Invariant.{Anatomy, order_of, moving_at, WasFixed, WasMet, StandsRight, LooksBack, Invariant, KeptOn}
use Rattle.segment_invariant.proofs.Frames.Ahead.{ahead_at, unbound_unbeaten}
use Rattle.segment_invariant.proofs.Frames.Books.{noticed_there}
use Rattle.segment_invariant.proofs.Frames.SeesMore.{seer, near_on, given_on, later_itself, calls_more, sees_more}
use Rattle.segment_invariant.proofs.Frames.Standing.{met_more}
use Rattle.segment_invariant.proofs.Walking.Words.{word_contains, word_still}
use Rattle.segment_invariant.proofs.Counting.Looks.{fixed_most}
use Rattle.segment_invariant.proofs.Counting.Seen.{count_most, off_is}

module _ (shape : Dimensions) (opened : Anatomy) (state : State) (kept : Invariant shape opened state) (id : ℕ) (a : Actor)
    (mine : get_elem? state.actors id ≡ some a) (recorder : is_opener a.role ≡ false) (unbound : is_bound a.hand.place ≡ false) (place : Place) (free : place ≢ Spent)
    (unsummed : (reference : ℕ) (sum : ℤ) → place ≢ SumLoaded reference sum)
    (moves : (name : List ℕ) (key : ℤ) → moving_at a name key place ≡ moving_at a name key a.hand.place) (more : List Sighting) (ends : List ℕ)
    (fixed : All (WasFixed kept.anatomy.pieces) (a.seen.words ++ more)) where
  abbrev pub with_words : Seen
  with_words = record a.seen { words = a.seen.words ++ more; ends = ends }

  abbrev b : Actor
  b = seer a place with_words a.done.given a.done.lost

  lives : a.hand.place ≢ Spent
  lives spent = cc (unbound, ap is_bound spent)

  abbrev looks : LooksBack kept.anatomy state.actors kept.roles.opener a
  looks = (kept.each id a mine lives).looks recorder

  most_now : (known : Known) (bucket total : ℕ) → Contains a.answers.names known → bucket < buckets_of known.spec → SawBucket b known bucket total
      → total ≤ tally_units (all_counted state.actors) known.name (bucket_key (Some known) bucket)
  most_now known bucket total has below (word, single, inl on) = looks.most known bucket total has below (word, single, inl on)
  most_now known bucket total has below (word, single, inr (off, (refers, count, seen, saw, total_is))) =
      let up = fixed_most shape opened state kept id a mine recorder lives known bucket word refers count has below
      (λ r there. off_is shape opened state kept id a mine lives known.reference word r there single off)
      (All-contains (WasFixed kept.anatomy.pieces) with_words.words _ fixed (word_contains with_words.words (known.reference + 8) refers seen))
      (λ c mounted low. count_most shape opened state kept id a mine lives refers bucket count c mounted low saw) in
      omega (arith, up, total_is)

  looks_words : LooksBack kept.anatomy state.actors kept.roles.opener b
  looks_words = record {
    most = most_now;
    packed = looks.packed;
    counted = looks.counted;
    samples = looks.samples;
    rising = looks.rising;
    leading = looks.leading;
    closed = looks.closed;
    begun = looks.begun;
    noted = looks.noted;
    sum = λ reference sum r loaded. absurd (unsummed reference sum loaded);
  }

  -- the state that is left is kept
  pub words_seen : StandsRight shape kept.anatomy id b place
      → KeptOn shape opened kept (record { words = state.words; cursors = state.cursors; actors = set state.actors id b })
  words_seen stands =
      let fits = kept.each id a mine lives in
      sees_more shape opened state kept id a mine recorder place with_words a.done.given a.done.lost lives free moves state.cursors
      (later_itself (order_of kept.anatomy) state.cursors)
      (near_on shape opened state kept id a mine recorder place with_words a.done.given a.done.lost lives free moves (λ reference sum is. absurd (unsummed reference sum is)))
      (given_on shape opened state kept id a mine recorder place with_words a.done.given a.done.lost lives free moves refl)
      (record {
        free = fits.sees.free;
        walked = fits.sees.walked;
        tails = fits.sees.tails;
        singles = fits.sees.singles;
        counters = fits.sees.counters;
        in_use = fits.sees.in_use;
        met = All-weaker (WasMet kept.anatomy.pieces a.seen) (WasMet kept.anatomy.pieces with_words)
            (met_more kept.anatomy.pieces a.seen with_words (λ at has. has) (λ at word. word_still a.seen.words at word more)) a.seen.counts fits.sees.met;
        fixed = fixed;
        shared = fits.sees.shared;
      })
      (ahead_at (order_of kept.anatomy) kept.anatomy.tail state.cursors a.hand.place a.done.beaten a.done.lost fits.ahead place (λ no. unbound_unbeaten a.hand.place unbound))
      stands
      (noticed_there kept.anatomy.corrupt state.actors id a mine kept.noticed)
      (calls_more kept.anatomy a place with_words a.done.given a.done.lost (λ at has. has) (λ at word. word_still a.seen.words at word more) fits.calls)
      looks_words

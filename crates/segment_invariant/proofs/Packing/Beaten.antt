-- An exchange of a single word came too late: no word changes, and its actor sees the word that was there.
use Rattle.segment_invariant.proofs.Prelude.Std.{◌≡◌, ◌≢◌, Bool, false, ◌==◌, if◌then◌else◌, ℕ, ◌+◌, ℤ, List, [], ◌∷◌, ◌++◌, set, None, inl, refl, sym, ap, ◌∙◌, subst, arith, All-push, some, get_elem?}
use Rattle.segment_invariant.proofs.Prelude.Machine.{Dimensions, word_at, Actor, Known, Look, Place, Spent, Idle, Looking, SumLoaded, Moving, Seen, Sighting, is_bound, Buckets, is_opener, packing_event, Ready, look_of, pack, disable, after_pack, after_disable, State}
use Rattle.segment_invariant.proofs.Prelude.Invariant.{Record, histogram, Anatomy, order_of, moving_at, HasRecord, WasSingle, StandsRight, Invariant, KeptOn}
use Rattle.segment_calls.specs.Form.{off_word}
use Rattle.segment_invariant.proofs.Frames.GoesOn.{happens}
use Rattle.segment_invariant.proofs.Frames.OneActor.{rests_at}
use Rattle.segment_invariant.proofs.Frames.Ahead.{KeepsUp, ahead_at, unbound_unbeaten}
use Rattle.segment_invariant.proofs.Frames.Books.{noticed_there}
use Rattle.segment_invariant.proofs.Frames.SeesMore.{seer, calls_more, later_itself, near_on, given_on, sees_more}
use Rattle.segment_invariant.proofs.Frames.Shown.{Goes, loaded}
use Rattle.segment_invariant.proofs.Counting.Looks.{knows_of, body_word, looks_single}
use Rattle.segment_invariant.proofs.Counting.Sights.{word_within}
use Rattle.segment_invariant.proofs.Packing.Loads.{look_right, learns_single}

module _ (shape : Dimensions) (opened : Anatomy) (state : State) (kept : Invariant shape opened state) (id : ℕ) (a : Actor)
    (mine : get_elem? state.actors id ≡ some a) (recorder : is_opener a.role ≡ false) (lived : a.hand.place ≢ Spent) (h : ℕ) (known : Known) (buckets : Buckets a h known) where
  abbrev sight_more : ℕ → Seen
  sight_more word = record a.seen { singles = a.seen.singles ++ record { at = h + 9; word = word } ∷ [] }

  abbrev with_sight : Place → ℕ → Actor
  with_sight place word = seer a place (sight_more word) a.done.given a.done.lost

  -- the state is kept when it sees the single word as it is, and moves on to a place with the same units in transit
  pub now_seen : (place : Place) → place ≢ Spent → ((name : List ℕ) (key : ℤ) → moving_at a name key place ≡ moving_at a name key a.hand.place)
      → ((reference : ℕ) (sum : ℤ) → place ≢ SumLoaded reference sum) → KeepsUp a.hand.place place
      → (word : ℕ) → word_at state.words (h + 9) ≡ word → StandsRight shape kept.anatomy id (with_sight place word) place
      → KeptOn shape opened kept (record { words = state.words; cursors = state.cursors; actors = set state.actors id (with_sight place word) })
  now_seen place lives moves no_sum up found is stood =
      let fits = kept.each id a mine lived in
      let (r, first, there, named, many, keys) = knows_of shape opened state kept id a mine recorder lived known buckets.0 in
      let stands : HasRecord kept.anatomy.pieces h r = subst (λ (n : ℕ). HasRecord kept.anatomy.pieces n r) buckets.1 there in
      let word : r.single ≡ found = sym (body_word shape opened state kept h 9 (histogram r) stands (omega arith)) ∙ is in
      let y : Sighting = record { at = h + 9; word = r.single } in
      subst (λ (n : ℕ). KeptOn shape opened kept (record {
        words = state.words;
        cursors = state.cursors;
        actors = set state.actors id (with_sight place n);
      })) word
      (sees_more shape opened state kept id a mine recorder place (sight_more r.single) a.done.given a.done.lost lived lives moves state.cursors
      (later_itself (order_of kept.anatomy) state.cursors)
      (near_on shape opened state kept id a mine recorder place (sight_more r.single) a.done.given a.done.lost lived lives moves
      (λ reference sum loads. absurd (no_sum reference sum loads)))
      (given_on shape opened state kept id a mine recorder place (sight_more r.single) a.done.given a.done.lost lived lives moves refl)
      (record {
        free = fits.sees.free;
        walked = fits.sees.walked;
        tails = fits.sees.tails;
        singles = All-push (WasSingle kept.anatomy.version kept.anatomy.pieces) a.seen.singles y fits.sees.singles
            (h, r, stands, refl, (kept.records.lawful h r stands).formed, inl refl);
        counters = fits.sees.counters;
        in_use = fits.sees.in_use;
        met = fits.sees.met;
        fixed = fits.sees.fixed;
        shared = fits.sees.shared;
      })
      (ahead_at (order_of kept.anatomy) kept.anatomy.tail state.cursors a.hand.place a.done.beaten a.done.lost fits.ahead place up)
      (subst (λ (n : ℕ). StandsRight shape kept.anatomy id (with_sight place n) place) (sym word) stood)
      (noticed_there kept.anatomy.corrupt state.actors id a mine kept.noticed)
      (calls_more kept.anatomy a place (sight_more r.single) a.done.given a.done.lost (λ at has. has) (λ at word has. has) fits.calls)
      (looks_single shape opened state kept id a mine recorder lived h r stands place a.done.given no_sum))

module _ (shape : Dimensions) (opened : Anatomy) (state : State) (kept : Invariant shape opened state) (id : ℕ) (a : Actor)
    (mine : get_elem? state.actors id ≡ some a) (recorder : is_opener a.role ≡ false) (unbound : is_bound a.hand.place ≡ false) (h : ℕ) (known : Known) (buckets : Buckets a h known) where
  lives : a.hand.place ≢ Spent
  lives spent = cc (unbound, ap is_bound spent)

  the_record : (r : Record) × HasRecord kept.anatomy.pieces h r × (word_at state.words (h + 9) ≡ r.single)
  the_record =
      let (r, first, there, named, many, keys) = knows_of shape opened state kept id a mine recorder lives known buckets.0 in
      let stands : HasRecord kept.anatomy.pieces h r = subst (λ (n : ℕ). HasRecord kept.anatomy.pieces n r) buckets.1 there in
      (r, stands, body_word shape opened state kept h 9 (histogram r) stands (omega arith))

  abbrev pub sees_single : ℕ → Seen
  sees_single word = record a.seen { singles = a.seen.singles ++ record { at = h + 9; word = word } ∷ [] }

  -- the state is kept when it sees the single word as it is, and moves on to a place
  pub single_seen : (place : Place) → is_bound place ≡ false → ((reference : ℕ) (sum : ℤ) → place ≢ SumLoaded reference sum)
      → ((word : ℕ) → StandsRight shape kept.anatomy id (seer a place (sees_single word) a.done.given a.done.lost) place)
      → KeptOn shape opened kept (record {
        words = state.words;
        cursors = state.cursors;
        actors = set state.actors id (seer a place (sees_single (word_at state.words (h + 9))) a.done.given a.done.lost);
      })
  single_seen place free no_sum stood =
      let still : (look : Look) (bucket units : ℕ) → a.hand.place ≢ Moving look bucket units = λ look bucket units moving. cc (unbound, ap is_bound moving) in
      let moves : (name : List ℕ) (key : ℤ) → _ = λ name key. rests_at a name key place (λ look bucket units moving. cc (free, ap is_bound moving))
      ∙ sym (rests_at a name key a.hand.place still) in
      now_seen shape opened state kept id a mine recorder lives h known buckets place (λ spent. cc (free, ap is_bound spent)) moves no_sum
      (λ no. unbound_unbeaten a.hand.place unbound) (word_at state.words (h + 9)) refl (stood (word_at state.words (h + 9)))

module _ (shape : Dimensions) (opened : Anatomy) (state : State) (kept : Invariant shape opened state) (id : ℕ) (a : Actor)
    (mine : get_elem? state.actors id ≡ some a) (recorder : is_opener a.role ≡ false) where
  -- so packing that came too late keeps what holds
  pub pack_beaten : (h old new : ℕ) → Ready a (packing_event (pack h old new)) → (word_at state.words (h + 9) == old) ≡ false
      → Goes shape opened state kept id a mine recorder (packing_event (pack h old new))
  pack_beaten h old new (c, look, known, bucket, next, (placed, of_it, single, on, buckets), named, keyed, packs) late =
      let found : ℕ = word_at state.words (h + 9) in
      let unbound = ap is_bound placed in
      let lives : a.hand.place ≢ Spent = λ spent. cc (sym placed ∙ spent) in
      let (r, stands, word) = the_record shape opened state kept id a mine recorder unbound h known buckets in
      happens opened.version state id a (packing_event (pack h old new)) (word_within shape opened state kept h 9 (histogram r) stands refl (omega arith)) shape opened kept (
        subst (λ (b : Bool). KeptOn shape opened kept (record {
          words = set state.words (h + 9) (if b then new else found);
          cursors = state.cursors;
          actors = set state.actors id (after_pack b a h new found);
        })) (sym late)
            (loaded shape opened state kept id a mine recorder (h + 9) (after_pack false a h new found)
            (single_seen shape opened state kept id a mine recorder unbound h known buckets Idle refl (λ reference sum is. cc is) (λ word. tt))),
        learns_single shape opened state kept id a mine recorder lives h,
      )

  -- and disabling that came too late
  pub disable_beaten : (h old : ℕ) → Ready a (packing_event (disable h old)) → (word_at state.words (h + 9) == old) ≡ false
      → Goes shape opened state kept id a mine recorder (packing_event (disable h old))
  disable_beaten h old (look, known, (placed, of_it, single, on, buckets), some_counts, counts_in) late =
      let found : ℕ = word_at state.words (h + 9) in
      let unbound = ap is_bound placed in
      let lives : a.hand.place ≢ Spent = λ spent. cc (sym placed ∙ spent) in
      let (r, stands, word) = the_record shape opened state kept id a mine recorder unbound h known buckets in
      let (histogram_is, counts_are) = look_right shape kept.anatomy id a a.hand.place h (kept.standing id a mine) in
      let place : Place = Looking (record (look_of a.hand.place h) { single = None }) in
      happens opened.version state id a (packing_event (disable h old)) (word_within shape opened state kept h 9 (histogram r) stands refl (omega arith)) shape opened kept (
        subst (λ (b : Bool). KeptOn shape opened kept (record {
          words = set state.words (h + 9) (if b then off_word opened.version old else found);
          cursors = state.cursors;
          actors = set state.actors id (after_disable b a h old found);
        })) (sym late)
            (loaded shape opened state kept id a mine recorder (h + 9) (after_disable false a h old found)
            (single_seen shape opened state kept id a mine recorder unbound h known buckets place refl (λ reference sum is. cc is) (λ word. record {
              known = known;
              knows = (buckets.0, buckets.1 ∙ sym histogram_is, buckets.2);
              single = λ w is. absurd (cc is);
              counts = counts_are;
            }))),
        learns_single shape opened state kept id a mine recorder lives h,
      )

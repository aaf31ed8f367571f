-- A shared cursor is loaded.
use Rattle.segment_invariant.proofs.Prelude.Std.{◌≡◌, ◌≢◌, ℕ, ◌<◌, ℤ, List, ◌++◌, length, set, refl, sym, subst, arith, false, slice_index, All-push, Contains-push, some, get_elem?, set-get_or}
use Rattle.segment_invariant.proofs.Prelude.Machine.{Dimensions, IsStop, Actor, Given, Place, SumLoaded, Seen, Sighting, sight, State, Ready, is_opener}
use Rattle.segment_invariant.proofs.Prelude.Invariant.{Anatomy, order_of, IsNoLater, Sees, LooksBack, Invariant, KeptOn}
use Rattle.segment_machine.specs.declared.place.Place.TheVariants.{CursorLoaded}
use Rattle.segment_machine.specs.Cursors.{load_cursor}
use Rattle.segment_machine.specs.Event.{cursor_event}
use Rattle.segment_invariant.proofs.Frames.Ahead.{ahead_at, unbound_unbeaten}
use Rattle.segment_invariant.proofs.Frames.OneActor.{turns_unbound}
use Rattle.segment_invariant.proofs.Frames.Books.{noticed_there}
use Rattle.segment_invariant.proofs.Frames.SeesMore.{seer, calls_more, later_itself, near_on, given_on, sees_more, happens_there}
use Rattle.segment_invariant.proofs.Frames.Shown.{Goes}
use Rattle.segment_invariant.proofs.Walking.Walks.{reference_is}
use Rattle.segment_invariant.proofs.Walking.Nexts.{no_later_itself}
use Rattle.segment_invariant.proofs.Frames.Anew.{looks_anew_at, sees_anew}

-- what an actor looks back at, if it sees no more than cursors and has loaded no sum
pub looks_past : (anatomy : Anatomy) (actors : _) (opener a : Actor) (place : Place) (cursors : List Sighting) (given : List Given) (lost : List ℕ)
    → ((reference : ℕ) (sum : ℤ) → place ≢ SumLoaded reference sum) → LooksBack anatomy actors opener a
    → LooksBack anatomy actors opener (seer a place (record a.seen { cursors = cursors }) given lost)
looks_past anatomy actors opener a place cursors given lost none looks =
    looks_anew_at anatomy actors opener a place looks (λ reference sum r loaded. absurd (none reference sum loaded))

-- it has seen one more cursor
pub sees_cursor : (anatomy : Anatomy) (cursors : List ℕ) (seen : Seen) (s : Sighting) → Sees anatomy cursors seen
    → (s.at < length cursors) × IsNoLater (order_of anatomy) s.word (slice_index cursors s.at)
    → Sees anatomy cursors (record seen { cursors = seen.cursors ++ sight s.at s.word })
sees_cursor anatomy cursors seen s sees is = sees_anew anatomy cursors cursors seen seen.free seen.ends (seen.cursors ++ sight s.at s.word) sees sees.free
    (All-push (λ s. (s.at < length cursors) × IsNoLater (order_of anatomy) s.word (slice_index cursors s.at)) seen.cursors s sees.shared is)

module _ (shape : Dimensions) (opened : Anatomy) (state : State) (kept : Invariant shape opened state) (id : ℕ) (a : Actor)
    (mine : get_elem? state.actors id ≡ some a) (records : is_opener a.role ≡ false) where
  -- a cursor is on the list
  pub cursor_stop : (cursor : ℕ) → cursor < length state.cursors → IsStop (order_of kept.anatomy) (slice_index state.cursors cursor)
  cursor_stop cursor below = let (place, within, is, gave) = kept.cursors.stand cursor below in (place, within, is)

  pub cursor_loaded : (cursor : ℕ) → Ready a (cursor_event (load_cursor cursor)) → Goes shape opened state kept id a mine records (cursor_event (load_cursor cursor))
  cursor_loaded cursor (unbound, below) =
      let found : ℕ = slice_index state.cursors cursor in
      let place : Place = CursorLoaded cursor found in
      let turns = turns_unbound a place unbound refl in
      let fits = kept.each id a mine turns.lived in
      let within : cursor < length state.cursors = let n = fits.numbered in omega (arith, n, below) in
      let stop = cursor_stop cursor within in
      let s : Sighting = record { at = cursor; word = found } in
      let seen : Seen = record a.seen { cursors = a.seen.cursors ++ sight cursor found } in
      happens_there opened.version state id a (cursor_event (load_cursor cursor)) cursor refl shape opened kept (
        subst (λ (cursors : List ℕ). KeptOn shape opened kept (record {
          words = state.words;
          cursors = cursors;
          actors = set state.actors id (seer a place seen a.done.given a.done.lost);
        })) (sym (set-get_or state.cursors cursor 0))
            (sees_more shape opened state kept id a mine records place seen a.done.given a.done.lost turns.lived turns.lives turns.moves state.cursors
            (later_itself (order_of kept.anatomy) state.cursors)
            (near_on shape opened state kept id a mine records place seen a.done.given a.done.lost turns.lived turns.lives turns.moves turns.sums)
            (given_on shape opened state kept id a mine records place seen a.done.given a.done.lost turns.lived turns.lives turns.moves refl)
            (sees_cursor kept.anatomy state.cursors a.seen s fits.sees (within, no_later_itself (order_of kept.anatomy) found stop))
            (ahead_at (order_of kept.anatomy) kept.anatomy.tail state.cursors a.hand.place a.done.beaten a.done.lost fits.ahead place (λ no. unbound_unbeaten a.hand.place unbound))
            (fits.ahead.exchanges cursor within, Contains-push a.seen.cursors s)
            (noticed_there kept.anatomy.corrupt state.actors id a mine kept.noticed)
            (calls_more kept.anatomy a place seen a.done.given a.done.lost (λ at has. has) (λ at word has. has) fits.calls)
            (looks_past kept.anatomy state.actors kept.roles.opener a place (a.seen.cursors ++ sight cursor found) a.done.given a.done.lost
            (λ reference sum loaded. cc loaded) (fits.looks records))),
        reference_is shape opened state kept id a mine records found turns.lived stop,
      )

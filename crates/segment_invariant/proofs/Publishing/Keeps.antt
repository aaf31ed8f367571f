-- Each event of the list keeps what holds, and its actor learns that it found the end or a record.
use Rattle.segment_invariant.proofs.Prelude.Std.{◌≡◌, ℕ, ◌+◌, Bool, set, refl, sym, subst, arith, eq-eqb, false, Some, if◌then◌else◌, some, dite, ℕ_discrete, get_elem?, at_from}
use Rattle.segment_invariant.proofs.Prelude.Machine.{Dimensions, word_at, Actor, Made, Own, State, store_own_next, load_tail, link, move_tail, after_link, publishing_event, Ready, is_opener}
use Rattle.segment_invariant.proofs.Prelude.Invariant.{Anatomy, Invariant, KeptOn}
use Rattle.segment_machine.specs.declared.actor.Made.TheVariants.{Histogram, Sample}
use Rattle.segment_machine.specs.declared.place.Place.TheVariants.{TailLoaded}
use Rattle.segment_machine.specs.Made.{IsPayload}
use Rattle.segment_machine.specs.Publishing.{MayPublish}
use Rattle.segment_invariant.specs.Keeps.{PublishingKeeps}
use Rattle.segment_invariant.proofs.Frames.GoesOn.{happens}
use Rattle.segment_invariant.proofs.Publishing.Linkable.{Onward, histogram_linked, sample_linked}
use Rattle.segment_invariant.proofs.Frames.Shown.{Goes}
use Rattle.segment_invariant.proofs.Publishing.Tails.{tail_loaded, tail_moved_on, link_beaten}
use Rattle.segment_invariant.proofs.Publishing.Links.{stop, turns}
use Rattle.segment_invariant.proofs.Publishing.OwnNext.{own_next_stored}
use Rattle.segment_invariant.proofs.Walking.Walks.{stop_within, reference_is}

module _ (shape : Dimensions) (opened : Anatomy) (state : State) (kept : Invariant shape opened state) (id : ℕ) (a : Actor)
    (mine : get_elem? state.actors id ≡ some a) (records : is_opener a.role ≡ false) where
  -- a record is published as what it is to hold
  module _ (tail : ℕ) (own : Own) (placed : a.hand.place ≡ TailLoaded tail) (i : ℕ) (there : get_elem? a.hand.own i ≡ some own) (ended : own.next ≡ 12)
      (ends : word_at state.words (tail + 3) ≡ 12) where
    links_as : (given : Made) → (asked : own.made ≡ Some given) → IsPayload given own.payload → MayPublish a own given
        → Onward shape opened state kept id a mine records tail own given placed i there ended asked ends
    links_as (Histogram name spec) asked (letters, lettered, payload_is) (tag, named, lawful, fits) =
        histogram_linked shape opened state kept id a mine records tail own (Histogram name spec) placed i there ended asked ends
        name spec letters refl lettered payload_is tag named lawful fits
    links_as (Sample of value) asked (k, payload_is) (tag, room, valued, (known, sparse)) =
        sample_linked shape opened state kept id a mine records tail own (Sample of value) placed i there ended asked ends
        of value k known refl payload_is tag room valued sparse.0 sparse.1 sparse.2

  -- a link puts its record on the list, or finds another one there
  pub linked : (tail at : ℕ) → Ready a (publishing_event (link tail at)) → Goes shape opened state kept id a mine records (publishing_event (link tail at))
  linked tail at (own, given, placed, waits, here, asked, payload, may) =
      let found : ℕ = word_at state.words (tail + 3) in
      dite (ℕ_discrete found 12)
      (λ ends.
      let (i, there) = at_from a.hand.own own waits.0 in
      let is_stop = stop shape opened state kept id a mine records tail own given placed i there waits.1 asked ends in
      let lives = (turns shape opened state kept id a mine records tail own given placed i there waits.1 asked ends).lived in
      happens opened.version state id a (publishing_event (link tail at)) (stop_within shape opened state kept tail is_stop) shape opened kept (
        subst (λ (p : Bool × ℕ). KeptOn shape opened kept (record {
          words = set state.words (tail + 3) (if p.0 then p.1 else found);
          cursors = state.cursors;
          actors = set state.actors id (after_link p.0 a tail p.1 found);
        })) (λ j. (sym (eq-eqb found 12 ends) j, here j)) (links_as tail own placed i there waits.1 ends given asked payload may),
        (
          reference_is shape opened state kept id a mine records found lives (0, omega arith, sym ends),
          λ other. absurd (other ends),
        ),
      ))
      (λ other. link_beaten shape opened state kept id a mine records tail at (own, given, placed, waits, here, asked, payload, may) other)

pub publishing_keeps : PublishingKeeps
publishing_keeps (store_own_next at) shape opened state id a kept mine records ready = own_next_stored shape opened state kept id a mine records at ready
publishing_keeps load_tail shape opened state id a kept mine records ready = tail_loaded shape opened state kept id a mine records ready
publishing_keeps (link tail at) shape opened state id a kept mine records ready = linked shape opened state kept id a mine records tail at ready
publishing_keeps (move_tail old new) shape opened state id a kept mine records ready = tail_moved_on shape opened state kept id a mine records old new ready

-- The list stays ahead of what came too late: when an actor turns to another place, when the tail is moved on, and when the list becomes
-- longer.
use Rattle.segment_invariant.proofs.Prelude.Std.{◌≡◌, ℕ, false, List, ◌++◌, length, replicate, refl, sym, ◌∙◌, subst, arith, ◌<◌, slice_index, length-replicate}
use Rattle.segment_invariant.proofs.Prelude.Machine.{IsStop, IsLinked, Place, Idle, is_bound}
use Rattle.segment_invariant.proofs.Prelude.Invariant.{IsNoLater, is_beaten, IsAhead}
use Rattle.std.proofs.lemmas.List.{get_or-replicate}
use Rattle.list_core.proofs.Chains.{one_place}
use Rattle.segment_machine.specs.declared.place.Place.TheVariants.{Beaten}
use Rattle.segment_invariant.specs.Seen.{IsReachedAt}
use Rattle.segment_invariant.proofs.Frames.Growth.{reached_longer}

-- ---- places

-- if its link has not come too late, it had not at the place before
abbrev pub KeepsUp : Place → Place → Type 0
KeepsUp old new = is_beaten new ≡ false → is_beaten old ≡ false

-- an actor that may turn to another part of a call has no tail to move on
pub unbound_unbeaten : (place : Place) → is_bound place ≡ false → is_beaten place ≡ false
unbound_unbeaten (Beaten tail behind) bound = absurd (cc bound)
unbound_unbeaten place bound = refl

-- ---- one place of the list

-- what is reached is on the list, and is reached after no records at least
pub reached_stop : (chain : List ℕ) (n at : ℕ) → IsReachedAt chain n at → IsStop chain at
reached_stop chain n at (k, low, within, is) = (k, within, is)

pub stop_reached : (chain : List ℕ) (at : ℕ) → IsStop chain at → IsReachedAt chain 0 at
stop_reached chain at (k, within, is) = (k, omega arith, within, is)

-- a later place is reached as late
pub reached_later : (words chain : List ℕ) (n old new : ℕ) → IsLinked words chain
    → ((seen : ℕ) → IsNoLater chain seen old → IsNoLater chain seen new) → IsReachedAt chain n old → IsReachedAt chain n new
reached_later words chain n old new linked later (k, low, within, is) =
    let (i, j, le, inside, first, second) = later old (k, k, omega arith, within, is, is) in
    let same = one_place words chain i k linked (omega (arith, le, inside)) within (first ∙ sym is) in
    (j, omega (arith, low, same, le), inside, second)

-- ---- what came too late

-- of an actor that has tried nothing
pub ahead_anew : (chain : List ℕ) (present : ℕ) (cursors : List ℕ) (n : ℕ) → IsStop chain present → n ≡ length cursors
    → ((k : ℕ) → k < length cursors → IsStop chain (slice_index cursors k)) → IsAhead chain present cursors Idle 0 (replicate n 0)
ahead_anew chain present cursors n stop long stops = record {
  links = λ no. stop_reached chain present stop;
  many = length-replicate {A = ℕ} n 0 ∙ long;
  exchanges = λ k below. subst (λ (m : ℕ). IsReachedAt chain m (slice_index cursors k)) (sym (get_or-replicate n k 0 0 (omega (arith, below, long))))
      (stop_reached chain (slice_index cursors k) (stops k below));
}

module _ (chain : List ℕ) (present : ℕ) (cursors : List ℕ) (place : Place) (beaten : ℕ) (lost : List ℕ) (ahead : IsAhead chain present cursors place beaten lost) where
  pub ahead_at : (p : Place) → KeepsUp place p → IsAhead chain present cursors p beaten lost
  ahead_at p up = record { links = λ no. ahead.links (up no); many = ahead.many; exchanges = ahead.exchanges }

  pub ahead_later : (words : List ℕ) (new : ℕ) → IsLinked words chain → ((seen : ℕ) → IsNoLater chain seen present → IsNoLater chain seen new)
      → IsAhead chain new cursors place beaten lost
  ahead_later words new linked later = record {
    links = λ no. reached_later words chain beaten present new linked later (ahead.links no);
    many = ahead.many;
    exchanges = ahead.exchanges;
  }

  pub ahead_longer : (more : List ℕ) → IsAhead (chain ++ more) present cursors place beaten lost
  ahead_longer more = record {
    links = λ no. reached_longer chain more beaten present (ahead.links no);
    many = ahead.many;
    exchanges = λ k below. reached_longer chain more _ _ (ahead.exchanges k below);
  }

-- A call that claims a block, or is refused one, has looked: what that leaves unchanged.
use Rattle.std.proofs.Common.{◌≡◌, ◌∙◌, ℕ, ◌≤◌, Bool, true, false, List, [], ◌∷◌, ◌++◌, append_assoc, true≢false, refl, sym, subst, arith}
use Rattle.std.specs.Prelude.{Ok}
use Rattle.segment_machine.specs.declared.actor.Actor.{Actor}
use Rattle.segment_machine.specs.declared.actor.Rise.{Rise}
use Rattle.segment_machine.specs.declared.place.Place.TheVariants.{Idle}
use Rattle.segment_machine.specs.declared.seen.Seen.{Seen}
use Rattle.live_segment.specs.Alloc.Allocation.{Allocates}
use Rattle.segment_promises.specs.Onward.{Grows, SeesOn}
use Rattle.live_segment.specs.Add.Progress.{LooksOn}
use Rattle.segment_promises.proofs.Growing.{grows_by, grows_not}

-- it has seen a free pointer that is no earlier, and flags
pub sees_header : (a : Seen) (free : ℕ) (corrupt : Bool) (warned : ℕ) → a.free ≤ free → (a.corrupt ≡ true → corrupt ≡ true) → a.warned ≤ warned
    → SeesOn a (record a { free = free; corrupt = corrupt; warned = warned })
sees_header a free corrupt warned later saw more = record {
  free = later;
  corrupt = saw;
  warned = more;
  chain = grows_not a.chain;
  ends = grows_not a.ends;
  tails = grows_not a.tails;
  singles = grows_not a.singles;
  counts = grows_not a.counts;
  words = grows_not a.words;
  cursors = grows_not a.cursors;
}

-- a block is claimed
pub looks_claimed : (size tag at : ℕ) (old new : Actor) → old.done.spoiled ≡ false → Allocates size tag old (Ok at) new → LooksOn old new
looks_claimed size tag at old new unspoiled (behind, view, later, enough, few, place, (wastes, are, all)) =
    subst (LooksOn old) (sym view) (record {
      proceeds = record {
        same = refl;
        free = refl;
        done = record {
          same = refl;
          claimed = grows_by old.done.claimed _;
          raised = (wastes ++ _ ∷ [], are ∙ append_assoc old.done.raised wastes _);
          published = grows_not old.done.published;
          filled = λ e. e;
          lacked = grows_not old.done.lacked;
          spoiled = λ e. absurd (true≢false (sym e ∙ unspoiled));
        };
        seen = sees_header old.seen behind old.seen.corrupt old.seen.warned (omega (arith, later, enough)) (λ saw. saw) (omega arith);
      };
      units = refl;
      entries = refl;
    })

-- none is; the corrupt flag may have been seen, or the full flag set
pub looks_refused : (old last : Actor) (free : ℕ) (raised : List Rise) (filled corrupt : Bool) (lacked : List ℕ) (warned : ℕ)
    → last ≡ record old {
      hand = record old.hand { place = Idle };
      done = record old.done { raised = raised; filled = filled; lacked = lacked };
      seen = record old.seen { free = free; corrupt = corrupt; warned = warned };
    }
    → old.seen.free ≤ free → Grows old.done.raised raised → (old.done.filled ≡ true → filled ≡ true) → (old.seen.corrupt ≡ true → corrupt ≡ true)
    → Grows old.done.lacked lacked → old.seen.warned ≤ warned → LooksOn old last
looks_refused old last free raised filled corrupt lacked warned is later rises still saw longer more =
    subst (LooksOn old) (sym is) (record {
      proceeds = record {
        same = refl;
        free = refl;
        done = record {
          same = refl;
          claimed = grows_not old.done.claimed;
          raised = rises;
          published = grows_not old.done.published;
          filled = still;
          lacked = longer;
          spoiled = λ e. refl;
        };
        seen = sees_header old.seen free corrupt warned later saw more;
      };
      units = refl;
      entries = refl;
    })

-- What a call of a recorder leaves unchanged, and what only grows.
use Rattle.std.specs.Prelude.{◌≡◌, ◌≤◌, Bool, true, false, List, ◌++◌}
use Rattle.segment_machine.specs.declared.actor.Actor.{Actor}
use Rattle.segment_machine.specs.declared.actor.Done.{Done}
use Rattle.segment_machine.specs.declared.place.Place.{Place}
use Rattle.segment_machine.specs.declared.place.Place.TheVariants.{FreeLoaded}
use Rattle.segment_machine.specs.declared.seen.Seen.{Seen}
use Rattle.segment_machine.specs.Taking.{is_looking}

-- a list has grown at its end
abbrev pub Grows : {X : Type 0} → List X → List X → Type 0
Grows {X} old new = (more : List X) × (new ≡ old ++ more)

-- whether a call at this place holds what it has loaded: a free pointer, or the single word or the counts of a histogram
abbrev pub is_holding : Place → Bool
is_holding (FreeLoaded free) = true
is_holding place = is_looking place

-- a recorder that held none of these still holds none
abbrev pub StaysApart : Actor → Actor → Type 0
StaysApart old new = is_holding old.hand.place ≡ false → is_holding new.hand.place ≡ false

-- what an actor had seen stays seen, and it may have seen more
pub record SeesOn (old new : Seen) : Type 0 where
  pub free : old.free ≤ new.free
  pub corrupt : old.corrupt ≡ true → new.corrupt ≡ true
  pub warned : old.warned ≤ new.warned
  pub chain : Grows old.chain new.chain
  pub ends : Grows old.ends new.ends
  pub tails : Grows old.tails new.tails
  pub singles : Grows old.singles new.singles
  pub counts : Grows old.counts new.counts
  pub words : Grows old.words new.words
  pub cursors : Grows old.cursors new.cursors

-- it may have raised the free pointer, claimed and published more, and set the full flag; once it has set the corrupt flag, it claims nothing
pub record DoesOn (old new : Done) : Type 0 where
  pub same : new ≡ record old { claimed = new.claimed; raised = new.raised; published = new.published; filled = new.filled; lacked = new.lacked; beaten = new.beaten }
  pub claimed : Grows old.claimed new.claimed
  pub raised : Grows old.raised new.raised
  pub published : Grows old.published new.published
  pub filled : old.filled ≡ true → new.filled ≡ true
  pub lacked : Grows old.lacked new.lacked
  pub spoiled : old.spoiled ≡ true → new.claimed ≡ old.claimed

-- A recorder continues with a call that counts: its segment, its role, what its calls returned, took and were given, and the entries before
-- its log are unchanged. It has seen and done no less.
pub record GoesOn (old new : Actor) : Type 0 where
  pub same : new ≡ record old {
    units = new.units;
    entries = record old.entries { log = new.entries.log };
    hand = new.hand;
    done = new.done;
    seen = new.seen;
    since = new.since;
  }
  pub done : DoesOn old.done new.done
  pub seen : SeesOn old.seen new.seen

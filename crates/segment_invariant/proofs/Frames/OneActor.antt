-- Actors together, when one moves on with a call and neither counts, takes nor gives back anything: what all of them did is the same.
use Rattle.segment_invariant.proofs.Prelude.Std.{◌⊎◌, ◌≡◌, ◌≢◌, ℕ, ◌+◌, ◌≤◌, ℤ, Bool, true, false, ◌&&◌, List, set, sum_by, inl, inr, ⊎_elim, refl, sym, ap, ◌∙◌, arith, not, if◌then◌else◌, ◌==◌, length, filter, some, get_elem?, rows, sum_same}
use Rattle.segment_invariant.proofs.Prelude.Machine.{Dimensions, Known, Actor, Claim, Own, Published, Sighting, Look, Place, Spent, Idle, Looking, Moving, CountLoaded, SumLoaded, tally_units, tally_sum, tally_noted, is_bound, cost_of, counted_of, summed_of, noted_of, units_of, all_counted, all_summed, all_noted, all_taken, taken_units, taken_sum, taken_of, is_opener}
use Rattle.segment_invariant.proofs.Prelude.Invariant.{moving_at, summed_cost, is_living, Fits, Anatomy}
use Rattle.segment_machine.specs.declared.actor.Rise.{Rise}
use Rattle.segment_machine.specs.declared.place.Place.TheVariants.{FlagsLoaded, FreeLoaded, Raised, Sized, Marked, TailLoaded, Beaten, Linked, Losing, SampleLoaded, CursorLoaded, BehindCursor}
use Rattle.segment_machine.specs.Actor.{transit_at}
use Rattle.segment_invariant.specs.Ledger.{all_moving}
use Rattle.segment_invariant.specs.Invariant.{summed_costs}
use Rattle.segment_invariant.proofs.Frames.Deeds.{SameSums}
use Rattle.segment_invariant.proofs.Frames.Together.{LoadedBefore, loaded_set}
use Rattle.segment_invariant.proofs.Frames.Roles.{SameRole, SameRoles, role_kept, same_roles, fits_beside}

-- ---- one actor

-- what changes of an actor that moves on like this: its place, its blocks, the rises that it made, the flags that it set and the words that
-- it lacked, how often its link came too late, and what it saw of the free pointer, the list and words that stay
pub record Doing : Type 0 where
  pub place : Place
  pub own : List Own
  pub claimed : List Claim
  pub raised : List Rise
  pub published : List Published
  pub owed : List Known
  pub spoiled : Bool
  pub filled : Bool
  pub lacked : List ℕ
  pub beaten : ℕ
  pub seen_free : ℕ
  pub seen_chain : List ℕ
  pub seen_ends : List ℕ
  pub seen_tails : List ℕ
  pub seen_words : List Sighting

-- the actor with that
abbrev pub doing : Actor → Doing → Actor
doing a d = record a {
  hand = record { place = d.place; own = d.own };
  done = record a.done {
    claimed = d.claimed;
    raised = d.raised;
    published = d.published;
    spoiled = d.spoiled;
    filled = d.filled;
    lacked = d.lacked;
    beaten = d.beaten;
  };
  answers = record a.answers { owed = d.owed };
  seen = record a.seen { free = d.seen_free; chain = d.seen_chain; ends = d.seen_ends; tails = d.seen_tails; words = d.seen_words };
}

-- what it has of that
abbrev pub doing_of : Actor → Doing
doing_of a = record {
  place = a.hand.place;
  own = a.hand.own;
  claimed = a.done.claimed;
  raised = a.done.raised;
  published = a.done.published;
  owed = a.answers.owed;
  spoiled = a.done.spoiled;
  filled = a.done.filled;
  lacked = a.done.lacked;
  beaten = a.done.beaten;
  seen_free = a.seen.free;
  seen_chain = a.seen.chain;
  seen_ends = a.seen.ends;
  seen_tails = a.seen.tails;
  seen_words = a.seen.words;
}

-- the actor may be there next: it lives on, moves no units but those that it moved, and has loaded no sum but the one that it had
pub record TurnsTo (a : Actor) (p : Place) : Type 0 where
  pub lived : a.hand.place ≢ Spent
  pub lives : p ≢ Spent
  pub moves : (name : List ℕ) (key : ℤ) → moving_at a name key p ≡ moving_at a name key a.hand.place
  pub sums : (at : ℕ) (sum : ℤ) → p ≡ SumLoaded at sum → a.hand.place ≡ SumLoaded at sum

-- whether there is neither a sum nor units on their way, at a place where an actor lives
abbrev pub is_plain : Place → Bool
is_plain Spent = false
is_plain (Moving look bucket units) = false
is_plain (SumLoaded reference sum) = false
is_plain _ = true

plain_lives : (p : Place) → is_plain p ≡ true → p ≢ Spent
plain_lives p plain spent = cc (plain, ap is_plain spent)

-- an actor moves units, or has none in transit
abbrev pub Still : Place → Type 0
Still place = ((a : Actor) (name : List ℕ) (key : ℤ) → moving_at a name key place ≡ 0) × ((at i : ℕ) → transit_at place at i ≡ 0)

pub moves_or_not : (place : Place) → ((look : Look) × (bucket units : ℕ) × (place ≡ Moving look bucket units)) ⊎ Still place
moves_or_not (Moving look bucket units) = inl (look, bucket, units, refl)
moves_or_not Spent = inr (λ a name key. refl, λ at i. refl)
moves_or_not Idle = inr (λ a name key. refl, λ at i. refl)
moves_or_not FlagsLoaded = inr (λ a name key. refl, λ at i. refl)
moves_or_not (FreeLoaded free) = inr (λ a name key. refl, λ at i. refl)
moves_or_not (Raised place size wanted) = inr (λ a name key. refl, λ at i. refl)
moves_or_not (Sized place size wanted) = inr (λ a name key. refl, λ at i. refl)
moves_or_not (Marked place size) = inr (λ a name key. refl, λ at i. refl)
moves_or_not (TailLoaded tail) = inr (λ a name key. refl, λ at i. refl)
moves_or_not (Beaten tail behind) = inr (λ a name key. refl, λ at i. refl)
moves_or_not (Linked place tail) = inr (λ a name key. refl, λ at i. refl)
moves_or_not (Looking look) = inr (λ a name key. refl, λ at i. refl)
moves_or_not (Losing look place) = inr (λ a name key. refl, λ at i. refl)
moves_or_not (CountLoaded look bucket count) = inr (λ a name key. refl, λ at i. refl)
moves_or_not (SampleLoaded reference count) = inr (λ a name key. refl, λ at i. refl)
moves_or_not (SumLoaded reference sum) = inr (λ a name key. refl, λ at i. refl)
moves_or_not (CursorLoaded cursor place) = inr (λ a name key. refl, λ at i. refl)
moves_or_not (BehindCursor cursor place next) = inr (λ a name key. refl, λ at i. refl)

pub rests_at : (a : Actor) (name : List ℕ) (key : ℤ) (p : Place) → ((look : Look) (bucket units : ℕ) → p ≢ Moving look bucket units) → moving_at a name key p ≡ 0
rests_at a name key p rests = ⊎_elim (λ moves. absurd (rests moves.0 moves.1 moves.2 moves.3)) (λ still. still.0 a name key) (moves_or_not p)

plain_rests : (p : Place) → is_plain p ≡ true → (look : Look) (bucket units : ℕ) → p ≢ Moving look bucket units
plain_rests p plain look bucket units moving = cc (plain, ap is_plain moving)

plain_sums : (p : Place) (at : ℕ) (sum : ℤ) → is_plain p ≡ true → p ≢ SumLoaded at sum
plain_sums p at sum plain is = cc (plain, ap is_plain is)

-- it may turn to a plain place from one where it lives and moves nothing: from another plain one, and from any where it is free to move on
turns_to : (a : Actor) (p : Place) → a.hand.place ≢ Spent → ((look : Look) (bucket units : ℕ) → a.hand.place ≢ Moving look bucket units)
    → is_plain p ≡ true → TurnsTo a p
turns_to a p lived rests plain = record {
  lived = lived;
  lives = plain_lives p plain;
  moves = λ name key. rests_at a name key p (plain_rests p plain) ∙ sym (rests_at a name key a.hand.place rests);
  sums = λ at sum is. absurd (plain_sums p at sum plain is);
}

pub turns_plain : (a : Actor) (p : Place) → is_plain a.hand.place ≡ true → is_plain p ≡ true → TurnsTo a p
turns_plain a p was = turns_to a p (plain_lives a.hand.place was) (plain_rests a.hand.place was)

pub turns_unbound : (a : Actor) (p : Place) → is_bound a.hand.place ≡ false → is_plain p ≡ true → TurnsTo a p
turns_unbound a p unbound =
    turns_to a p (λ spent. cc (unbound, ap is_bound spent)) (λ look bucket units moving. cc (unbound, ap is_bound moving))

-- it stays at its place
pub turns_not : (a : Actor) → a.hand.place ≢ Spent → TurnsTo a a.hand.place
turns_not a lived = record { lived = lived; lives = lived; moves = λ name key. refl; sums = λ at sum is. is }

-- what its sums have grown by it has spent, or holds
pub summed_most : (name : List ℕ) (a : Actor) → summed_cost name a ≤ cost_of a.units.costs name + cost_of a.units.held name
summed_most name a = by_test (length (filter (λ c. c.summed) a.entries.running) == 0)
  where
    by_test : (b : Bool) → cost_of a.units.costs name + (if b then 0 else cost_of a.units.held name) ≤ cost_of a.units.costs name + cost_of a.units.held name
    by_test true = omega arith
    by_test false = omega arith

-- ---- all actors

-- the same actors have done the same
pub record SameDeeds (old new : List Actor) : Type 0 where
  pub counted : all_counted new ≡ all_counted old
  pub summed : all_summed new ≡ all_summed old
  pub noted : all_noted new ≡ all_noted old
  pub taken : all_taken new ≡ all_taken old
  pub units : sum_by units_of new ≡ sum_by units_of old
  pub costs : (name : List ℕ) → summed_costs name new ≡ summed_costs name old
  pub moving : (name : List ℕ) (key : ℤ) → all_moving name key new ≡ all_moving name key old
  pub loaded : LoadedBefore old new
  pub roles : SameRoles old new

-- of an actor that lives it does not matter at which place it is
pub living_at : (a : Actor) (p : Place) → p ≢ Spent → is_living (record a { hand = record a.hand { place = p } }) ≡ is_living (record a { hand = record a.hand { place = Idle } })
living_at a Spent lives = absurd (lives refl)
living_at a Idle lives = refl
living_at a FlagsLoaded lives = refl
living_at a (FreeLoaded free) lives = refl
living_at a (Raised at size wanted) lives = refl
living_at a (Sized at size wanted) lives = refl
living_at a (Marked at size) lives = refl
living_at a (TailLoaded tail) lives = refl
living_at a (Beaten tail behind) lives = refl
living_at a (Linked at tail) lives = refl
living_at a (Looking look) lives = refl
living_at a (Losing look at) lives = refl
living_at a (Moving look bucket units) lives = refl
living_at a (CountLoaded look bucket count) lives = refl
living_at a (SampleLoaded sample count) lives = refl
living_at a (SumLoaded reference sum) lives = refl
living_at a (CursorLoaded cursor at) lives = refl
living_at a (BehindCursor cursor at behind) lives = refl

-- a recorder that is not spent lives
pub lives_on : (a : Actor) → is_opener a.role ≡ false → a.hand.place ≢ Spent → is_living a ≡ true
lives_on a records lives = living_at a a.hand.place lives ∙ ap (λ (b : Bool). b && true) (ap not records)

-- the actor that moves on has the role that it had
pub same_role : (a : Actor) (d : Doing) → TurnsTo a d.place → SameRole (doing a d) a
same_role a d turns = role_kept a (doing a d) (living_at a d.place turns.lives ∙ sym (living_at a a.hand.place turns.lived)) refl refl refl refl refl

module _ (actors : List Actor) (id : ℕ) (a : Actor) (mine : get_elem? actors id ≡ some a) (d : Doing) (turns : TurnsTo a d.place) where
  -- what all of them did is the same
  pub same_deeds : id ≢ 0 → SameDeeds actors (set actors id (doing a d))
  same_deeds records = record {
    counted = rows counted_of actors id a (doing a d) mine refl;
    summed = rows summed_of actors id a (doing a d) mine refl;
    noted = rows noted_of actors id a (doing a d) mine refl;
    taken = rows taken_of actors id a (doing a d) mine refl;
    units = sum_same units_of actors id a (doing a d) mine refl;
    costs = λ name. sum_same (summed_cost name) actors id a (doing a d) mine refl;
    moving = λ name key. sum_same (λ a. moving_at a name key a.hand.place) actors id a (doing a d) mine (turns.moves name key);
    loaded = loaded_set actors id a (doing a d) mine turns.sums;
    roles = same_roles actors id a (doing a d) mine (same_role a d turns) records;
  }

-- ---- what holds of what all of them did

module _ (old new : List Actor) (same : SameDeeds old new) where
  pub same_sums : SameSums old new
  same_sums = record {
    counted = λ name key. ap (λ entries. tally_units entries name key) same.counted;
    summed = λ name. ap (λ entries. tally_sum entries name) same.summed;
    noted = λ name. ap (λ entries. tally_noted entries name) same.noted;
    taken = λ name key. ap (λ taken. taken_units taken name key) same.taken;
    taken_sums = λ name. ap (λ taken. taken_sum taken name) same.taken;
    moving = same.moving;
    costs = λ name. let costs = same.costs name in omega (arith, costs);
  }

  -- an actor that fitted among the others still fits
  pub fits_same : (shape : Dimensions) (anatomy : Anatomy) (cursors : List ℕ) (opener : Actor) (id : ℕ) (a : Actor) → get_elem? old 0 ≡ some opener
      → Fits shape anatomy cursors old opener id a → Fits shape anatomy cursors new opener id a
  fits_same shape anatomy cursors opener id a first =
      fits_beside shape anatomy cursors old new opener opener id a first (same.roles.opener ∙ first) refl (refl, refl) same_sums same.roles.stood

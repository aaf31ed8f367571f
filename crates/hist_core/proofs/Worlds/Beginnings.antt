-- A call of a world begins: how the actors have changed, and what the begin says.
use Rattle.segment_invariant.proofs.Prelude.Std.{◌≡◌, ◌+◌, ℕ, Bool, false, List, ◌∷◌, ◌++◌, get_or, set, length, inl, ⊎_elim, refl, sym, ap, subst, ◌∙◌, vec_len, arith, length-append, Option, Some, None, Ok, nat_le, if◌then◌else◌, dite, some, none, some-injective, ℕ_discrete, get_elem?, set_else, set_here}
use Rattle.segment_invariant.proofs.Prelude.Machine.{Spec, Dimensions, spec_fields, spec_ranges, first_fault, Actor, State}
use Rattle.std.specs.Prelude.{Result, Err, IfErr, MatchOption}
use Rattle.std.specs.declared.alloc.AllocError.{AllocError}
use mathlib.Core.Option as maybe
use Rattle.segment_calls.specs.Asked.{IsAskedFor}
use Rattle.segment_invariant.proofs.Walking.Words.{letters_long}
use Rattle.hist_core.specs.Start.{Start}
use Rattle.hist_core.specs.World.{BeginsCall, lacks, name_checks, rest_checks, runs}
use Rattle.hist_core.specs.WorldState.{BeginsFrom, IsAsBefore, IsReachable, IsReachedAs, KnowsHistAt, IsResting, OthersStay, RunsHistOf, IsAnsweredAtOnce, HistBegins, MayBeAsked}
use Rattle.hist_core.specs.ActorRun.{IsAsItWas, IsKnownAnswer, IsActorRunOf, KnowsAt, BeginsHist}
use Rattle.hist_core.specs.declared.fault.WorldFault.{WorldFault}
use Rattle.hist_core.specs.declared.fault.WorldFault.TheVariants.{NoActor, Busy, Unknown, NoMemory}
use Rattle.segment_calls.specs.declared.asked.Asked.{Asked}
use Rattle.hist_core.specs.declared.world_state.WorldState.{WorldState}
use Rattle.hist_core.specs.declared.call.Answer.{Answer}
use Rattle.hist_core.specs.declared.call.Answer.TheVariants as answer
use Rattle.hist_core.specs.declared.call.Begun.{Begun}
use Rattle.hist_core.specs.declared.call.Begun.TheVariants.{Going, Ended}
use Rattle.hist_core.specs.declared.hist.KnownHist.{KnownHist}
use Rattle.segment_calls.specs.declared.refusal.Refusal.TheVariants as why
use Rattle.hist_core.specs.declared.actor_run.ActorRun.{ActorRun}
use Rattle.hist_core.proofs.HistCall.Asking.{as_it_stood, place_below}
use Rattle.hist_core.proofs.Worlds.WorldStates.{is_there, lawful_now, ranges_now, rests_without, same_there}
use Rattle.hist_core.proofs.Parts.Comparisons.{fields_long}

pub as_it_was : (world_state : WorldState) → IsAsBefore world_state world_state
as_it_was world_state = record {
  shape = refl;
  version = refl;
  words = refl;
  units = refl;
  count = refl;
  actor_runs = λ i before behind was is. subst (IsAsItWas before) (some-injective before behind (sym was ∙ is)) (refl, refl, refl, refl);
}

-- what is asked for may be asked for
may_be_asked : (shape : Dimensions) (name : List ℕ) (spec : Spec) (asked : Asked) → IsAskedFor shape name spec asked → MayBeAsked shape name spec
may_be_asked shape name spec asked asks =
    let letters = asks.payload.letters in
    let whole = ap length asks.payload.words in
    let front = length-append (spec_fields spec) (0 ∷ 0 ∷ 0 ∷ 0 ∷ 0 ∷ 0 ∷ length name ∷ (letters ++ spec_ranges spec)) in
    let behind = length-append letters (spec_ranges spec) in
    let four = fields_long spec in
    let named = letters_long name letters asks.payload.spells in
    let page = asks.one_page in
    let fits = asks.fits in (
      asks.lawful_name,
      asks.lawful_spec,
      λ large. ⊎_elim (λ more. omega (arith, more, whole, front, behind, four, named, page)) (λ more. omega (arith, more, fits)) large,
    )

-- what a `hist` of a known name returns, it returns at once
at_once : (shape : Dimensions) (known : List KnownHist) (name : List ℕ) (spec : Spec) (answered : Answer) → MayBeAsked shape name spec → IsKnownAnswer known name spec answered
    → IsAnsweredAtOnce shape known name spec answered
at_once shape known name spec (answer.Hist reference) may is = (is, may)
at_once shape known name spec (answer.Refused why.OtherSpec) may is = (is, may)
at_once shape known name spec (answer.Refused why.BadName) may is = absurd is
at_once shape known name spec (answer.Refused (why.BadSpec fault)) may is = absurd is
at_once shape known name spec (answer.Refused why.ZeroCount) may is = absurd is
at_once shape known name spec (answer.Refused why.NoUnits) may is = absurd is
at_once shape known name spec (answer.Refused why.TooMany) may is = absurd is
at_once shape known name spec (answer.Refused why.NoMemory) may is = absurd is
at_once shape known name spec (answer.Refused why.TooLarge) may is = absurd is
at_once shape known name spec (answer.Refused why.Corrupt) may is = absurd is
at_once shape known name spec (answer.Refused why.Full) may is = absurd is
at_once shape known name spec answer.Added may is = absurd is
at_once shape known name spec (answer.Delta delta) may is = absurd is
at_once shape known name spec (answer.Snapshot snapshot) may is = absurd is
at_once shape known name spec answer.Flagged may is = absurd is
at_once shape known name spec (answer.BatchRefused refused) may is = absurd is

-- ---- one actor becomes another

-- nothing else of the world has changed, except for the pool
pub record IsTurned (old new : WorldState) (actor : ℕ) (now : ActorRun) : Type 0 where
  pub shape : new.shape ≡ old.shape
  pub version : new.version ≡ old.version
  pub words : new.words ≡ old.words
  pub count : vec_len new.actor_runs ≡ vec_len old.actor_runs
  pub actor_runs : new.actor_runs.items ≡ set old.actor_runs.items actor now

module _ (old new : WorldState) (actor : ℕ) (r now : ActorRun) (resting : IsResting old actor r) (turned : IsTurned old new actor now) where
  pub is_now : get_elem? new.actor_runs.items actor ≡ some now
  is_now = ap (λ (l : List ActorRun). get_elem? l actor) turned.actor_runs ∙ set_here old.actor_runs.items actor now (place_below old.actor_runs.items actor r resting.at)

  -- no other actor has changed
  pub others_stay : OthersStay actor old new
  others_stay = record {
    shape = turned.shape;
    version = turned.version;
    count = turned.count;
    others = λ other apart. ap (λ (l : List ActorRun). get_elem? l other) turned.actor_runs ∙ set_else old.actor_runs.items actor other now apart;
  }

  -- it still stands for the same actor of the machine
  pub same_state : new.units ≡ old.units → ((start : Start) (state : State) → IsReachedAs start old state → (a : Actor) → get_elem? state.actors (actor + 1) ≡ some a
      → IsActorRunOf old.shape old.version r a → IsActorRunOf old.shape old.version now a) → (start : Start) (state : State) → IsReachedAs start old state → BeginsFrom start state actor new
  same_state pooled same start state reach = (
    state,
    inl refl,
    same_there start old state reach actor r now new resting.at (same start state reach) turned.shape turned.version pooled (ap (λ w. w.items) turned.words) turned.actor_runs,
  )

  pub as_before : new.units ≡ old.units → IsAsItWas r now → IsAsBefore old new
  as_before pooled same = record {
    shape = turned.shape;
    version = turned.version;
    words = turned.words;
    units = pooled;
    count = turned.count;
    actor_runs = λ i before behind was is. dite (ℕ_discrete i actor)
        (λ here. subst (λ (p : ActorRun × ActorRun). IsAsItWas p.0 p.1)
        (λ k. (some-injective r before (sym resting.at ∙ (ap (get_elem? old.actor_runs.items) (sym here) ∙ was)) k, some-injective now behind (sym is_now ∙ (ap (get_elem? new.actor_runs.items) (sym here) ∙ is)) k))
        same)
        (λ apart. subst (IsAsItWas before) (some-injective before behind (sym was ∙ (sym (others_stay.others i apart) ∙ is))) (refl, refl, refl, refl));
  }

  pub hist_begins : new.units ≡ old.units → (name : List ℕ) (spec : Spec) (asked : Asked) (result : Result Begun AllocError) → IsAskedFor old.shape name spec asked
      → BeginsHist old.shape asked r now result → HistBegins actor name spec old new result
  hist_begins pooled name spec asked (Ok Going) asks (hist, begun, now_is, items, room, other) = (
    now,
    is_now,
    subst (RunsHistOf name spec) (sym (ap (λ (x : ActorRun). x.running) now_is)) (ap (λ n. n.items) begun.named ∙ asks.named, begun.specified ∙ asks.specified),
  )
  hist_begins pooled name spec asked (Ok (Ended answered)) asks (now_is, known) = (
    as_before pooled (subst (IsAsItWas r) (sym now_is) (refl, refl, refl, refl)),
    λ actor_run is. at_once old.shape actor_run.known.items name spec answered (may_be_asked old.shape name spec asked asks)
        (subst (λ (p : ActorRun × List ℕ × Spec). let x : ActorRun = p.0 in IsKnownAnswer x.known.items p.1 p.2 answered)
        (λ i. (some-injective r actor_run (sym resting.at ∙ is) i, asks.named i, asks.specified i)) known),
  )
  hist_begins pooled name spec asked (Err error) asks same = as_before pooled same

-- ---- an actor that rests, and what it knows

-- the actor that is read there
pub rests_there : (old : WorldState) (actor : ℕ) (r x : ActorRun) → IsResting old actor r → x ≡ get_or old.actor_runs.items actor x → IsResting old actor x
rests_there old actor r x resting read =
    subst (IsResting old actor) (some-injective r x (sym resting.at ∙ is_there old.actor_runs.items (vec_len old.actor_runs) actor x old.actor_runs.ok.0 resting.near read)) resting

-- it is this, and knows a histogram of a name
pub record IsPlaced (old : WorldState) (actor : ℕ) (name : List ℕ) (place : ℕ) (r : ActorRun) : Type 0 where
  pub resting : IsResting old actor r
  pub known : KnownHist
  pub there : get_elem? r.known.items place ≡ some known
  pub named : known.name.items ≡ name

pub placed : (old : WorldState) (actor : ℕ) (name : List ℕ) (place : ℕ) → KnowsHistAt old actor name place → (x : ActorRun) → x ≡ get_or old.actor_runs.items actor x
    → IsPlaced old actor name place x
placed old actor name place ready x read =
    let there = is_there old.actor_runs.items (vec_len old.actor_runs) actor x old.actor_runs.ok.0 ready.resting.near read in
    let same = some-injective ready.actor_run x (sym ready.resting.at ∙ there) in record {
      resting = subst (IsResting old actor) same ready.resting;
      known = ready.known;
      there = subst (λ (r : ActorRun). get_elem? r.known.items place ≡ some ready.known) same ready.there;
      named = ready.named;
    }

-- so that is valid
pub knows_at : (old : WorldState) (actor : ℕ) (name : List ℕ) (place : ℕ) (r : ActorRun) → ∥ IsReachable old ∥₁ → IsPlaced old actor name place r → KnowsAt r place
knows_at old actor name place r reached its = record {
  near = (let below = place_below r.known.items place its.known its.there in let long = r.known.ok.0 in omega (arith, below, long));
  lawful = λ known there. lawful_now old reached actor r its.resting.at place known there;
  ranges = λ known there. ranges_now old reached actor r its.resting.at place known there;
}

-- ---- what the begin of a call comes to

-- a name that no call is of is not lacking
lacks_none : (found : maybe.Option ActorRun) → lacks found none ≡ false
lacks_none none = refl
lacks_none (some r) = refl

pub checks_alike : (old : WorldState) (actor : ℕ) → first_fault (name_checks old actor none) ≡ first_fault (rest_checks old actor)
checks_alike old actor = ap
    (λ (b : Bool). if nat_le (vec_len old.actor_runs) actor then Some NoActor
    else (if runs (get_elem? old.actor_runs.items actor) then Some Busy else (if b then Some Unknown else None)))
    (lacks_none (get_elem? old.actor_runs.items actor))

module _ (actor : ℕ) (name : maybe.Option (List ℕ)) (takes : Type 0) (says : Begun → Type 0) (old : WorldState) where
  abbrev Faults : Option WorldFault → Result Begun WorldFault → Type 0
  Faults first result = MatchOption first (IfErr result (λ fault. (fault ≡ NoMemory) × takes)) (λ fault. result ≡ Err fault)

  -- a check holds
  pub not_begun : (fault : WorldFault) → first_fault (name_checks old actor name) ≡ Some fault → (result : Result Begun WorldFault) → result ≡ Err fault
      → BeginsCall actor name takes says old result old
  not_begun fault first result is = subst (λ r. BeginsCall actor name takes says old r old) (sym is) (record {
    faults = subst (λ o. Faults o (Err fault)) (sym first) refl;
    fault = as_it_was old;
    begins = λ start state reach. (state, inl refl, reach);
    others = record { shape = refl; version = refl; count = refl; others = λ other apart. refl };
    loads = tt;
    answer = tt;
  })

  module _ (passes : first_fault (name_checks old actor name) ≡ None) (r : ActorRun) (resting : IsResting old actor r) where
    -- it runs
    pub begun : (new : WorldState) (said : Begun) → ((start : Start) (state : State) → IsReachedAs start old state → BeginsFrom start state actor new) → OthersStay actor old new
        → says said → BeginsCall actor name takes says old (Ok said) new
    begun new said begins others its = record {
      faults = subst (λ o. Faults o (Ok said)) (sym passes) tt;
      fault = tt;
      begins = begins;
      others = others;
      loads = rests_without old actor r resting;
      answer = its;
    }

    -- it returns at once
    pub answered : (said : Begun) → says said → BeginsCall actor name takes says old (Ok said) old
    answered said its = begun old said (λ start state reach. (state, inl refl, reach)) (record { shape = refl; version = refl; count = refl; others = λ other apart. refl }) its

    -- there is no memory, and there may be more room than before
    pub no_memory : (new : WorldState) (now : ActorRun) → IsTurned old new actor now → new.units ≡ old.units → IsAsItWas r now → takes → (result : Result Begun WorldFault)
        → result ≡ Err NoMemory → BeginsCall actor name takes says old result new
    no_memory new now turned pooled same some_takes result is = subst (λ r. BeginsCall actor name takes says old r new) (sym is) (record {
      faults = subst (λ o. Faults o (Err NoMemory)) (sym passes) (refl, some_takes);
      fault = as_before old new actor r now resting turned pooled same;
      begins = same_state old new actor r now resting turned pooled (λ start state reach a there run. as_it_stood old.shape old.version r now a resting.rests same run);
      others = others_stay old new actor r now resting turned;
      loads = tt;
      answer = tt;
    })

-- Of a call that counts nothing: none of its actor's entries is pending, and what it leaves unchanged.
use Rattle.segment_invariant.proofs.Prelude.Std.{◌≡◌, ◌≢◌, ◌≤◌, ◌-◌, false, true≢false, ℕ, List, [], ◌∷◌, ◌++◌, length, take, sym, ap, subst, ◌∙◌, arith, Contains, Contains-append_left, length-map, append-nil, Option, Some, None, ⊤}
use Rattle.segment_invariant.proofs.Prelude.Machine.{Dimensions, IsPrefix, Actor, Place, Spent, is_bound}
use Rattle.segment_invariant.proofs.Lists.Elements.{at_from, split_at}
use Rattle.std.proofs.lemmas.List.{length-drop, length-take-le, drop_all}
use Rattle.segment_machine.specs.declared.actor.Known.{Known}
use Rattle.segment_machine.specs.Seats.{giver}
use Rattle.hist_core.specs.declared.entry.Entry.{Entry}
use Rattle.hist_core.specs.declared.actor_run.ActorRun.{ActorRun}
use Rattle.hist_core.specs.declared.hist.KnownHist.{KnownHist}
use Rattle.hist_core.specs.declared.actor_run.Running.{Running}
use Rattle.hist_core.specs.declared.actor_run.Running.TheVariants.{SetCorrupt, Hist, Add, Delta, Snapshot, Batch}
use Rattle.hist_core.specs.declared.call.Stepped.{Stepped}
use Rattle.hist_core.specs.StepsBy.{HasMetKnown}
use Rattle.hist_core.specs.ActorRun.{entry_of, ended_by, begun_by, pending_by, CountsNoEntries, StandsIn, IsActorRunOf, IsSomeRun, TakenGoes}

-- it still counts nothing if units, entries and deltas are unchanged
pub quiet_on : (pending : List Entry) (a b : Actor) → b.units ≡ a.units → b.entries ≡ a.entries → b.deltas ≡ a.deltas → CountsNoEntries pending a → CountsNoEntries pending b
quiet_on pending a b units entries deltas quiet = record {
  none = quiet.none;
  runs = ap (λ e. e.running) entries ∙ quiet.runs;
  holds = ap (λ u. u.held) units ∙ quiet.holds;
  share = ap (λ u. u.share) units ∙ quiet.share;
  takes = ap (λ d. d.taking) deltas ∙ quiet.takes;
}

-- it has visited the records of the histograms that it knows, if it knows no more and has seen no less of the chain
pub met_on : (a b : Actor) → b.answers.names ≡ a.answers.names → IsPrefix a.seen.chain b.seen.chain → HasMetKnown a → HasMetKnown b
met_on a b names (rest, grown) met known inside =
    subst (λ (l : List ℕ). Contains l known.reference) (sym grown)
    (Contains-append_left a.seen.chain rest known.reference (met known (subst (λ (l : List Known). Contains l known) names inside)))

-- a record that was visited is somewhere on the list
pub met_split : (chain : List ℕ) (at : ℕ) → Contains chain at → (front behind : List ℕ) × (chain ≡ front ++ at ∷ behind)
met_split chain at met =
    let (i, there) = at_from chain at met in let (front, behind, is, others) = split_at chain i at there in (front, behind, is)

-- a place that is spent is bound
pub not_spent : (place : Place) → is_bound place ≡ false → place ≢ Spent
not_spent place free spent = true≢false (sym (ap is_bound spent) ∙ free)

-- an actor that gives nothing back is unchanged
pub gives_none : (shape : Dimensions) (version : ℕ) (r : ActorRun) (b : Actor) (units : ℕ) → units ≡ 0 → is_bound b.hand.place ≡ false → IsActorRunOf shape version r b
    → (b.hand.place ≢ Spent) × (units ≤ b.units.share) × IsActorRunOf shape version r (giver b units)
gives_none shape version r b units none free run =
    let same : b.units.share ≡ b.units.share - units = omega (arith, none) in (
      not_spent b.hand.place free,
      omega (arith, none),
      subst (λ n. IsActorRunOf shape version r (record b { units = record b.units { share = n } })) same run,
    )

module _ (shape : Dimensions) (version : ℕ) (r : ActorRun) (a : Actor) (run : IsActorRunOf shape version r a) where
  -- how many have ended, and how many have begun
  pub logged : length a.entries.log ≡ r.ended
  logged =
      let within = run.within in
      let fits : r.ended ≤ length r.entries.items = omega (arith, within) in
      sym (length-map a.entries.log (λ c. c.entry)) ∙ (sym (ap length run.ended) ∙ (length-map (ended_by r) entry_of ∙ length-take-le r.ended r.entries.items fits))

  pub started : length (a.entries.log ++ a.entries.running) ≡ r.begun
  started =
      sym (length-map (a.entries.log ++ a.entries.running) (λ c. c.entry))
      ∙ (sym (ap length run.begun) ∙ (length-map (begun_by r) entry_of ∙ length-take-le r.begun r.entries.items run.within.1))

  module _ (none : pending_by r ≡ []) where
    pub all_ended : length r.entries.items ≡ r.ended
    all_ended =
        let rest : length r.entries.items - r.ended ≡ 0 = sym (length-drop r.ended r.entries.items) ∙ ap length none in
        let within = run.within in
        omega (arith, rest, within)

  none_begun : a.entries.running ≡ [] → r.begun ≡ r.ended
  none_begun none = sym started ∙ (ap (λ l. length (a.entries.log ++ l)) none ∙ (ap length (append-nil a.entries.log) ∙ logged))

-- what has begun if it counts nothing: what has ended, and nothing is pending
pub begun_there : (r : ActorRun) → length r.entries.items ≡ r.ended → r.begun ≡ r.ended → begun_by r ≡ ended_by r ++ pending_by r
begun_there r all none =
    ap (λ n. take n r.entries.items) none ∙ sym (ap (λ l. ended_by r ++ l) (drop_all r.ended r.entries.items (omega (arith, all))) ∙ append-nil (ended_by r))

-- whether its call counts nothing
abbrev pub counts_none : Option Running → Type 0
counts_none (Some (Add add)) = ⊥
counts_none (Some (Batch batch)) = ⊥
counts_none running = ⊤

-- so no entry is pending of an actor that runs such a call, and none runs
quiet_in : (shape : Dimensions) (known : List KnownHist) (pending : List Entry) (running : Option Running) (a : Actor) → counts_none running
    → StandsIn shape known pending running a → (pending ≡ []) × (a.entries.running ≡ [])
quiet_in shape known pending None a none stands = (stands.1.none, stands.1.runs)
quiet_in shape known pending (Some SetCorrupt) a none stands = (stands.1.none, stands.1.runs)
quiet_in shape known pending (Some (Hist hist)) a none stands = (stands.1.none, stands.1.runs)
quiet_in shape known pending (Some (Delta delta_call fresh)) a none stands = (stands.0.none, stands.0.runs)
quiet_in shape known pending (Some (Snapshot snapshot_call)) a none stands = (stands.0.none, stands.0.runs)
quiet_in shape known pending (Some (Add add)) a none stands = absurd none
quiet_in shape known pending (Some (Batch batch)) a none stands = absurd none

pub some_quiet : (n : ℕ) (r : ActorRun) → counts_none r.running → IsSomeRun n r → (length r.entries.items ≡ r.ended) × (r.begun ≡ r.ended)
some_quiet n r none (shape, version, a, long, wide, run) =
    let quiet = quiet_in shape r.known.items (pending_by r) r.running a none run.stands in
    (all_ended shape version r a run quiet.0, none_begun shape version r a run quiet.1)

pub some_within : (n : ℕ) (r : ActorRun) → IsSomeRun n r → r.ended ≤ length r.entries.items
some_within n r (shape, version, a, long, wide, run) = let within = run.within in omega (arith, within)

-- whether its call takes no delta
abbrev pub takes_not : Option Running → Type 0
takes_not (Some (Delta delta_call fresh)) = ⊥
takes_not running = ⊤

-- such a call changes nothing of what deltas took
pub takes_none : (old new : ActorRun) (said : Stepped) → takes_not old.running → new.taken.items ≡ old.taken.items
    → TakenGoes old.running old.taken.items new.taken.items said
takes_none old new said none same = by old.running none
  where
    by : (running : Option Running) → takes_not running → TakenGoes running old.taken.items new.taken.items said
    by None none = same
    by (Some SetCorrupt) none = same
    by (Some (Hist hist)) none = same
    by (Some (Add add)) none = same
    by (Some (Batch batch)) none = same
    by (Some (Snapshot snapshot_call)) none = same
    by (Some (Delta delta_call fresh)) none = absurd none

-- A block is claimed.
use Rattle.segment_invariant.proofs.Prelude.Std.{◌≡◌, ◌≢◌, ℕ, ◌+◌, ◌-◌, ◌≤◌, ◌==◌, Bool, true, false, true≢false, List, [], ◌∷◌, ◌++◌, refl, sym, ap, subst, ◌∙◌, Some, if◌then◌else◌, bit_and, ⊤}
use Rattle.segment_invariant.proofs.Prelude.Machine.{Actor, Own, Place, Idle, Dimensions, load_flags, load_free, set_full, Note, Notes, noted}
use Rattle.alloc_core.specs.declared.alloc.AllocStep.{AllocStep}
use Rattle.alloc_core.specs.declared.alloc.AllocStep.TheVariants as said
use Rattle.alloc_core.specs.declared.alloc.Purpose.{Purpose}
use Rattle.alloc_core.specs.declared.alloc.Purpose.TheVariants as purpose
use Rattle.alloc_core.specs.declared.alloc.AllocStage.{AllocStage}
use Rattle.alloc_core.specs.declared.alloc.AllocStage.TheVariants.{LoadFlags, LoadFree, ExchangeFree, StoreSize, StoreCookie, StoreType, SetFull, Claimed, Full, Corrupt}
use Rattle.alloc_core.specs.declared.planned.Planned.{Planned}
use Rattle.alloc_core.specs.declared.planned.Planned.TheVariants as plan
use Rattle.alloc_core.specs.Alloc.{Allocation, IsAimed, event_at, answer, stage_after, stage_of_cookie, stage_of_plan}
use Rattle.alloc_core.specs.Planned.{planned, is_pointer}
use Rattle.alloc_core.specs.Event as atomic
use Rattle.segment_machine.specs.declared.place.Place.TheVariants.{FlagsLoaded}
use Rattle.segment_machine.specs.Allocating.{AllocatingEvent, Learned, Ready, free_at, next}
use Rattle.segment_machine.specs.Calls.{change_own}
use Rattle.segment_machine.specs.Publishing.{own_at}
use Rattle.segment_machine.specs.Stages.{StandsAtAllocStage, allocates}
use Rattle.segment_calls.specs.declared.refusal.Refusal.TheVariants as why
use Rattle.hist_core.specs.NewRecord.{IsCause}
use Rattle.hist_core.specs.StepsBy.{StepsBy}

-- ---- a block that is claimed

-- the last step of an allocation has a block in hand that suits it
module _ (x : Allocation) where
  from_plan : (found : ℕ) (way : Planned) (at size : ℕ) → stage_of_plan found way ≢ Claimed at size
  from_plan found (plan.Claim n end) at size is = cc is
  from_plan found (plan.Waste room) at size is = cc is
  from_plan found plan.Full at size is = cc is

  either : (b : Bool) (one other : AllocStage) (at size : ℕ) → one ≢ Claimed at size → other ≢ Claimed at size → (if b then one else other) ≢ Claimed at size
  either true one other at size first second is = first is
  either false one other at size first second is = second is

  pub claimed_suits : (stage : AllocStage) (found at size : ℕ) (event : atomic.Access) → event_at x stage ≡ Some event → IsAimed x stage
      → stage_after x found stage ≡ Claimed at size → x.size ≤ size
  claimed_suits LoadFlags found at size event goes aimed is = absurd (either (bit_and found 1 == 0) LoadFree Corrupt at size (λ e. cc e) (λ e. cc e) is)
  claimed_suits LoadFree found at size event goes aimed is = absurd (either (is_pointer x.shape found) (stage_of_plan found (planned found x.size x.shape)) Corrupt at size (λ e. from_plan found (planned found x.size x.shape) at size e) (λ e. cc e) is)
  claimed_suits (ExchangeFree next wants) found at size event goes aimed is = absurd (either (found == x.seen) (StoreSize found (next - found) wants) LoadFlags at size (λ e. cc e) (λ e. cc e) is)
  claimed_suits (StoreSize from n wants) found at size event goes aimed is = cc is
  claimed_suits (StoreCookie from n purpose.Claim) found at size event goes aimed is = cc is
  claimed_suits (StoreCookie from n purpose.Waste) found at size event goes aimed is = cc is
  claimed_suits (StoreType from n) found at size event goes aimed is = let same : n ≡ size = cc is in subst (λ (k : ℕ). x.size ≤ k) same aimed.2.0
  claimed_suits SetFull found at size event goes aimed is = cc is
  claimed_suits (Claimed from n) found at size event goes aimed is = cc goes
  claimed_suits Full found at size event goes aimed is = cc goes
  claimed_suits Corrupt found at size event goes aimed is = cc goes

pub claimed_of : (stage : AllocStage) (at : ℕ) → said.Done at ≡ answer stage → (size : ℕ) × (stage ≡ Claimed at size)
claimed_of (Claimed from size) at is = let same : from ≡ at = cc is in (size, ap (λ (n : ℕ). Claimed n size) same)
claimed_of LoadFlags at is = cc is
claimed_of LoadFree at is = cc is
claimed_of (ExchangeFree next wants) at is = cc is
claimed_of (StoreSize from n wants) at is = cc is
claimed_of (StoreCookie from n wants) at is = cc is
claimed_of (StoreType from n) at is = cc is
claimed_of SetFull at is = cc is
claimed_of Full at is = cc is
claimed_of Corrupt at is = cc is

-- ---- what it becomes

-- a block of its own that is changed and begins where it began
pub changed_at : (list : List Own) (at : ℕ) (change : Own → Own) (x : Own) → ((own : Own) → (change own).at ≡ own.at) → own_at list at ≡ Some x
    → own_at (change_own at change list) at ≡ Some (change x)
changed_at [] at change x keeps is = cc is
changed_at (own ∷ rest) at change x keeps is = by (own.at == at) refl (changed_at rest at change x keeps) is
  where
    by : (here : Bool) → (own.at == at) ≡ here → (own_at rest at ≡ Some x → own_at (change_own at change rest) at ≡ Some (change x)) → (if here then Some own else own_at rest at) ≡ Some x
        → own_at (if here then change own ∷ rest else own ∷ change_own at change rest) at ≡ Some (change x)
    by true e behind found =
        ap (λ (b : Bool). if b then Some (change own) else own_at rest at) (ap (λ (n : ℕ). n == at) (keeps own) ∙ e)
        ∙ ap (λ (o : Own). Some (change o)) (let same : own ≡ x = cc found in same)
    by false e behind found = ap (λ (b : Bool). if b then Some own else own_at (change_own at change rest) at) e ∙ behind found

notes_append : (a b c : Actor) (first second : List Note) → Notes a first b → Notes b second c → Notes a (first ++ second) c
notes_append a b c [] second is goes = subst (λ (x : Actor). Notes x second c) (sym is) goes
notes_append a b c (note ∷ first) second (may, rest) goes = (may, notes_append (noted a note) b c first second rest goes)

-- an actor performs an event, and notes what it knows then
pub goes_noting : {size version : ℕ} {a : Actor} {words new_words : List ℕ} {holds then_holds : Actor → Type 0} → StepsBy size version a words new_words holds
    → ((b : Actor) → holds b → (notes : List Note) × (c : Actor) × Notes b notes c × then_holds c) → StepsBy size version a words new_words then_holds
goes_noting go then_notes = record {
  before = go.before;
  at = go.at;
  told = go.told;
  event = go.event;
  ready = go.ready;
  words_are = go.words_are;
  goes = λ learned apart ordered.
      let did = go.goes learned apart ordered in let more = then_notes did.1 did.3 in
      (did.0 ++ more.0, more.1, notes_append _ did.1 more.1 did.0 more.0 did.2 more.2, more.3);
}

-- when an allocation has ended, its actor rests
pub rests_at : (b : Actor) (y : Allocation) (stage : AllocStage) → answer stage ≢ said.More → StandsAtAllocStage b y stage → b.hand.place ≡ Idle
rests_at b y (Claimed at size) ends stands = stands.0
rests_at b y Full ends stands = stands.0
rests_at b y Corrupt ends stands = stands.0
rests_at b y LoadFlags ends stands = absurd (ends refl)
rests_at b y LoadFree ends stands = absurd (ends refl)
rests_at b y (ExchangeFree next wants) ends stands = absurd (ends refl)
rests_at b y (StoreSize at n wants) ends stands = absurd (ends refl)
rests_at b y (StoreCookie at n wants) ends stands = absurd (ends refl)
rests_at b y (StoreType at n) ends stands = absurd (ends refl)
rests_at b y SetFull ends stands = absurd (ends refl)

-- why an allocation has ended, by its last event: what refuses its block
abbrev pub IsEnd : AllocStep → ℕ → Actor → Actor → Type 0
IsEnd said.Full words a b = IsCause why.Full words a b
IsEnd said.Corrupt words a b = IsCause why.Corrupt words a b
IsEnd says words a b = ⊤

module _ (a : Actor) (x : Allocation) (shaped : x.shape ≡ a.segment.shape) (found : ℕ) where
  flags_end : (clear : Bool) → IsEnd (answer (if clear then LoadFree else Corrupt)) x.size a (record a {
    hand = record a.hand { place = if clear then FlagsLoaded else Idle };
    seen = record a.seen { corrupt = if clear then a.seen.corrupt else true; warned = if clear then a.seen.warned else a.seen.warned + 1 };
  })
  flags_end true = tt
  flags_end false = (refl, refl, refl)

  plan_end : (way : Planned) (b : Actor) → IsEnd (answer (stage_of_plan found way)) x.size a b
  plan_end (plan.Claim n end) b = tt
  plan_end (plan.Waste room) b = tt
  plan_end plan.Full b = tt

  pointer_end : (good : Bool) → good ≡ true → (way : Planned) (b : Actor) → IsEnd (answer (if good then stage_of_plan found way else Corrupt)) x.size a b
  pointer_end true e way b = plan_end way b
  pointer_end false e way b = absurd (true≢false (sym e))

  exchange_end : (hit : Bool) (next : ℕ) (wants : Purpose) (b : Actor) → IsEnd (answer (if hit then StoreSize found (next - found) wants else LoadFlags)) x.size a b
  exchange_end true next wants b = tt
  exchange_end false next wants b = tt

  cookie_end : (at size : ℕ) (wants : Purpose) (b : Actor) → IsEnd (answer (stage_of_cookie at size wants)) x.size a b
  cookie_end at size purpose.Claim b = tt
  cookie_end at size purpose.Waste b = tt

  full_end : Ready a (set_full x.size) → IsCause why.Full x.size a (next a (set_full x.size) found)
  full_end (free, at, fits, beyond) = (free, at, beyond, ap (λ (p : Place). record a.done { filled = true; lacked = a.done.lacked ++ free_at p ∷ [] }) at)

  pub stage_ends : (stage : AllocStage) (act : AllocatingEvent) → allocates x stage ≡ Some act → Ready a act → Learned a act found
      → IsEnd (answer (stage_after x found stage)) x.size a (next a act found)
  stage_ends LoadFlags act is ready learned =
      subst (λ (e : AllocatingEvent). IsEnd (answer (stage_after x found LoadFlags)) x.size a (next a e found)) (let same : load_flags ≡ act = cc is in same)
      (flags_end (bit_and found 1 == 0))
  stage_ends LoadFree act is ready learned =
      let same : load_free ≡ act = cc is in
      pointer_end (is_pointer x.shape found) (ap (λ (shape : Dimensions). is_pointer shape found) shaped ∙ (subst (λ (e : AllocatingEvent). Learned a e found) (sym same) learned).1)
      (planned found x.size x.shape) (next a act found)
  stage_ends (ExchangeFree to wants) act is ready learned = exchange_end (found == x.seen) to wants (next a act found)
  stage_ends (StoreSize at n wants) act is ready learned = tt
  stage_ends (StoreCookie at n wants) act is ready learned = cookie_end at n wants (next a act found)
  stage_ends (StoreType at n) act is ready learned = tt
  stage_ends SetFull act is ready learned =
      let same : set_full x.size ≡ act = cc is in
      subst (λ (e : AllocatingEvent). IsEnd said.Full x.size a (next a e found)) same (full_end (subst (Ready a) (sym same) ready))
  stage_ends (Claimed at n) act is ready learned = tt
  stage_ends Full act is ready learned = cc is
  stage_ends Corrupt act is ready learned = cc is

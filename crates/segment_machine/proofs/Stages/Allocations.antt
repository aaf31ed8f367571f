-- An actor follows an allocation.
use Rattle.std.proofs.Common.{◌≡◌, ℕ, ◌+◌, ◌-◌, ◌<◌, ◌≤◌, ◌==◌, ◌⊎◌, Bool, true, false, ◌++◌, [], ◌∷◌, inl, inr, refl, sym, ap, ◌∙◌, subst, true≢false, eqb-true, Some, arith}
use Rattle.std.proofs.lemmas.Bool.Decides.{nat_tests}
use Rattle.std.specs.Prelude.{bit_and, nat_lt, if◌then◌else◌}
use Rattle.std.specs.List.{Contains}
use Rattle.std.proofs.lemmas.List.Elements.{Contains-push}
use Rattle.segment_image.specs.Shape.{Dimensions}
use Rattle.alloc_core.specs.declared.alloc.Purpose.{Purpose}
use Rattle.alloc_core.specs.declared.alloc.Purpose.TheVariants as purpose
use Rattle.alloc_core.specs.declared.alloc.AllocStage.{AllocStage}
use Rattle.alloc_core.specs.declared.alloc.AllocStage.TheVariants.{LoadFlags, LoadFree, ExchangeFree, StoreSize, StoreCookie, StoreType, SetFull, Claimed, Full, Corrupt}
use Rattle.alloc_core.specs.declared.planned.Planned.{Planned}
use Rattle.alloc_core.specs.declared.planned.Planned.TheVariants as plan
use Rattle.alloc_core.specs.Alloc.{Allocation, cookie_of, event_at, stage_of_plan, stage_of_cookie, stage_after, seen_after, IsAimed, Suits}
use Rattle.alloc_core.specs.Event as atomic
use Rattle.alloc_core.specs.Planned.{planned, is_pointer}
use Rattle.alloc_core.proofs.Lawful.{moved_lawful}
use Rattle.segment_machine.specs.declared.actor.Actor.{Actor}
use Rattle.segment_machine.specs.declared.place.Place.{Place}
use Rattle.segment_machine.specs.declared.place.Place.TheVariants.{Idle, FlagsLoaded, Raised, Sized, Marked}
use Rattle.segment_machine.specs.Operation.{single}
use Rattle.segment_machine.specs.Allocating.{AllocatingEvent, load_flags, load_free, exchange_free, store_size, store_cookie, store_type, store_payload, set_corrupt, set_full, operation, Ready, next, Learned, cookie_for, after_free, new_own, size_at, wanted_at}
use Rattle.segment_machine.specs.Stages.{allocates, StandsAtAllocStage, AllocationsAgree}

-- an actor stays in its segment
shape_exchanged : (hit : Bool) (a : Actor) (old new wanted found : ℕ) → (after_free hit a old new wanted found).segment.shape ≡ a.segment.shape
shape_exchanged true a old new wanted found = refl
shape_exchanged false a old new wanted found = refl

shape_stays : (a : Actor) (act : AllocatingEvent) (found : ℕ) → (next a act found).segment.shape ≡ a.segment.shape
shape_stays a load_flags found = refl
shape_stays a load_free found = refl
shape_stays a (exchange_free old new wanted) found = shape_exchanged (found == old) a old new wanted found
shape_stays a (store_size at size) found = refl
shape_stays a (store_cookie at cookie) found = refl
shape_stays a (store_type at tag) found = refl
shape_stays a (store_payload at index value) found = refl
shape_stays a set_corrupt found = refl
shape_stays a (set_full wanted) found = refl

-- a plan that leads to an exchange claims a block up to there, or wastes the words up to there
plan_rises : (shape : Dimensions) (old new wanted : ℕ) (way : Purpose) (p : Planned) → planned old wanted shape ≡ p → stage_of_plan old p ≡ ExchangeFree new way
    → ((size : ℕ) × (planned old wanted shape ≡ plan.Claim size new)) ⊎ ((room : ℕ) × (planned old wanted shape ≡ plan.Waste room) × (new ≡ old + room))
plan_rises shape old new wanted way (plan.Claim size end) is leads = let there : end ≡ new = cc leads in inl (size, is ∙ ap (plan.Claim size) there)
plan_rises shape old new wanted way (plan.Waste room) is leads = inr (room, is, cc leads)
plan_rises shape old new wanted way plan.Full is leads = cc leads

-- words that an allocation takes get the cookie of what they are taken for
suiting_cookie : (allocation : Allocation) (size : ℕ) (way : Purpose) → Suits allocation way size → cookie_of way ≡ cookie_for size allocation.size
suiting_cookie allocation size purpose.Claim suits =
    let enough : nat_lt size allocation.size ≡ false = let most = suits.0 in grind (arith, nat_tests) in ap (λ (few : Bool). if few then 0xFFFFFFFFFFFFFFFF else 0xC8799269) (sym enough)
suiting_cookie allocation size purpose.Waste suits =
    let less : nat_lt size allocation.size ≡ true = grind (arith, nat_tests) in ap (λ (few : Bool). if few then 0xFFFFFFFFFFFFFFFF else 0xC8799269) (sym less)

module _ (a : Actor) (allocation : Allocation) (same : allocation.shape ≡ a.segment.shape) (least : 1 ≤ allocation.tag) (most : allocation.tag ≤ 3)
    (least_words : 5 ≤ allocation.size) (most_words : allocation.size ≤ allocation.shape.page) where
  -- the allocation after an event at a stage that found a number
  abbrev behind : ℕ → AllocStage → Allocation
  behind found stage = record allocation { seen = seen_after allocation found stage; stage = stage_after allocation found stage }

  flags_loaded : (clear : Bool) (now : Allocation)
      → StandsAtAllocStage (record a { hand = record a.hand { place = if clear then FlagsLoaded else Idle }; seen = record a.seen { corrupt = if clear then a.seen.corrupt else true; warned = if clear then a.seen.warned else a.seen.warned + 1 } })
      now (if clear then LoadFree else Corrupt)
  flags_loaded true now = refl
  flags_loaded false now = (refl, refl)

  planned_so : (found : ℕ) (stage : AllocStage) → is_pointer a.segment.shape found ≡ true → (way : Planned) → planned found allocation.size a.segment.shape ≡ way
      → StandsAtAllocStage (next a load_free found) (record allocation { seen = found; stage = stage }) (stage_of_plan found way)
  planned_so found stage lawful (plan.Claim size end) is = (refl, lawful, ap (stage_of_plan found) is)
  planned_so found stage lawful (plan.Waste room) is = (refl, lawful, ap (stage_of_plan found) is)
  planned_so found stage lawful plan.Full is = refl

  free_loaded : (found : ℕ) (stage : AllocStage) → is_pointer a.segment.shape found ≡ true → (good : Bool) → good ≡ true → (way : Planned)
      → planned found allocation.size a.segment.shape ≡ way
      → StandsAtAllocStage (next a load_free found) (record allocation { seen = found; stage = stage }) (if good then stage_of_plan found way else Corrupt)
  free_loaded found stage lawful true e way is = planned_so found stage lawful way is
  free_loaded found stage lawful false e way is = absurd (true≢false (sym e))

  exchanged : (end found seen : ℕ) (stage : AllocStage) (way : Purpose) (hit : Bool) → (found == allocation.seen) ≡ hit
      → StandsAtAllocStage (after_free hit a allocation.seen end allocation.size found) (record allocation { seen = seen; stage = stage })
      (if hit then StoreSize found (end - found) way else LoadFlags)
  exchanged end found seen stage way true e = ap (λ (at : ℕ). Raised at (end - at) allocation.size) (sym (eqb-true found allocation.seen e))
  exchanged end found seen stage way false e = refl

  cookie_stored : (at size found : ℕ) (way : Purpose) (now : Allocation) → Suits allocation way size → a.hand.place ≡ Sized at size allocation.size
      → Ready a (store_cookie at (cookie_of way)) × StandsAtAllocStage (next a (store_cookie at (cookie_of way)) found) now (stage_of_cookie at size way)
  cookie_stored at size found purpose.Claim now suits stands =
      ((size, allocation.size, stands, suiting_cookie allocation size purpose.Claim suits), ap (λ (place : Place). Marked at (size_at place)) stands)
  cookie_stored at size found purpose.Waste now suits stands = ((size, allocation.size, stands, suiting_cookie allocation size purpose.Waste suits), refl)

  goes : (size version : ℕ) (event : atomic.Access) (stage : AllocStage) → IsAimed allocation stage → StandsAtAllocStage a allocation stage
      → event_at allocation stage ≡ Some event
      → (act : AllocatingEvent) × (allocates allocation stage ≡ Some act) × (operation size version act ≡ single event) × Ready a act
      × ((found : ℕ) → Learned a act found → StandsAtAllocStage (next a act found) (behind found stage) (stage_after allocation found stage))
  goes size version event LoadFlags aimed stands is =
      (load_flags, refl, cc is, stands, λ found learned. flags_loaded (bit_and found 1 == 0) (behind found LoadFlags))
  goes size version event LoadFree aimed stands is = (
    load_free,
    refl,
    cc is,
    stands,
    λ found learned. free_loaded found (stage_after allocation found LoadFree) learned.1 (is_pointer allocation.shape found)
        (ap (λ (shape : Dimensions). is_pointer shape found) same ∙ learned.1) (planned found allocation.size allocation.shape)
        (ap (planned found allocation.size) (sym same)),
  )
  goes size version event (ExchangeFree end way) aimed stands is = (
    exchange_free allocation.seen end allocation.size,
    refl,
    cc is,
    (
      stands.0,
      stands.1,
      (
        least_words,
        subst (λ (shape : Dimensions). allocation.size ≤ shape.page) same most_words,
        plan_rises a.segment.shape allocation.seen end allocation.size way _ refl stands.2,
      ),
    ),
    λ found learned. exchanged end found (seen_after allocation found (ExchangeFree end way)) (stage_after allocation found (ExchangeFree end way)) way (found == allocation.seen) refl,
  )
  goes size version event (StoreSize at words way) aimed stands is =
      (store_size at words, refl, cc is, (allocation.size, stands), λ found learned. ap (λ (place : Place). Sized at words (wanted_at place)) stands)
  goes size version event (StoreCookie at words way) aimed stands is = (
    store_cookie at (cookie_of way),
    refl,
    cc is,
    (cookie_stored at words 0 way allocation aimed.2 stands).0,
    λ found learned. (cookie_stored at words found way (behind found (StoreCookie at words way)) aimed.2 stands).1,
  )
  goes size version event (StoreType at words) aimed stands is = (
    store_type at allocation.tag,
    refl,
    cc is,
    ((words, stands), least, most),
    λ found learned. (
      refl,
      subst (λ (n : ℕ). Contains (a.hand.own ++ new_own at (size_at a.hand.place) allocation.tag ∷ []) (new_own at n allocation.tag)) (ap size_at stands) (Contains-push _ _),
    ),
  )
  goes size version event SetFull aimed stands is = (
    set_full allocation.size,
    refl,
    cc is,
    (allocation.seen, stands, subst (λ (shape : Dimensions). allocation.size ≤ shape.page) same most_words, subst (λ (shape : Dimensions). shape.size < allocation.seen + allocation.size) same aimed),
    λ found learned. (refl, refl),
  )
  goes size version event (Claimed at words) aimed stands is = cc is
  goes size version event Full aimed stands is = cc is
  goes size version event Corrupt aimed stands is = cc is

pub allocations_agree : AllocationsAgree
allocations_agree size version a allocation event goes_along is =
    let (act, acts, acted, ready, stands) = goes a allocation goes_along.shape goes_along.least goes_along.most goes_along.lawful.least goes_along.lawful.most size version event allocation.stage
    goes_along.lawful.aimed goes_along.stands is in (
      act,
      acts,
      acted,
      ready,
      λ found learned. record {
        lawful = moved_lawful allocation found goes_along.lawful;
        shape = goes_along.shape ∙ sym (shape_stays a act found);
        least = goes_along.least;
        most = goes_along.most;
        stands = stands found learned;
      },
    )

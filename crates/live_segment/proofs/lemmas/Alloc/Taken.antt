-- Words are taken from the free pointer on: they become a block, or a wasted rest of a page.
use Rattle.std.proofs.Common.{◌≡◌, ℕ, ◌-◌, ◌<◌, ◌≤◌, Bool, true, false, if◌then◌else◌, ap, ◌∙◌, sym, eq-eqb, arith}
use Rattle.std.specs.Prelude.{nat_lt}
use Rattle.std.proofs.lemmas.Bool.Decides.{nat_tests}
use Rattle.segment_machine.specs.declared.actor.Actor.{Actor}
use Rattle.segment_machine.specs.declared.place.Place.TheVariants.{Idle, Marked, Raised, Sized}
use Rattle.segment_machine.specs.Allocating.{after_free, cookie_for, exchange_free, store_cookie, store_size, store_type}
use Rattle.segment_machine.specs.Event.{allocating_event, next}
use Rattle.live_segment.specs.Alloc.Allocation.{claimed, raised_on, saw_free}

-- their cookie
pub enough_claim : (size words : ℕ) → words ≤ size → 0xC8799269 ≡ cookie_for size words
enough_claim size words enough =
    let not_few : nat_lt size words ≡ false = grind (arith, nat_tests) in ap (λ (few : Bool). if few then 0xFFFFFFFFFFFFFFFF else 0xC8799269) (sym not_few)

pub few_waste : (size words : ℕ) → size < words → 0xFFFFFFFFFFFFFFFF ≡ cookie_for size words
few_waste size words less =
    let few : nat_lt size words ≡ true = grind (arith, nat_tests) in ap (λ (few : Bool). if few then 0xFFFFFFFFFFFFFFFF else 0xC8799269) (sym few)

-- an exchange of the free pointer went through, and the size is stored
module _ (a : Actor) (free to words found : ℕ) (hit : found ≡ free) (b : Actor) (one : b ≡ next a (allocating_event (exchange_free free to words)) found) where
  taken : b ≡ after_free true a free to words found
  taken = one ∙ ap (λ (through : Bool). after_free through a free to words found) (eq-eqb found free hit)

  pub is_raised : b.hand.place ≡ Raised free (to - free) words
  is_raised = ap (λ (x : Actor). x.hand.place) taken

  module _ (c : Actor) (size : ℕ) (two : c ≡ next b (allocating_event (store_size free (to - free))) size) where
    sized : c ≡ next (after_free true a free to words found) (allocating_event (store_size free (to - free))) size
    sized = two ∙ ap (λ (x : Actor). next x (allocating_event (store_size free (to - free))) size) taken

    pub is_sized : c.hand.place ≡ Sized free (to - free) words
    is_sized = ap (λ (x : Actor). x.hand.place) sized

    -- the rest is wasted
    pub is_wasted : (d : Actor) (cookie : ℕ) → d ≡ next c (allocating_event (store_cookie free 0xFFFFFFFFFFFFFFFF)) cookie
        → d ≡ saw_free a Idle to (raised_on a free to words)
    is_wasted d cookie three = three ∙ ap (λ (x : Actor). next x (allocating_event (store_cookie free 0xFFFFFFFFFFFFFFFF)) cookie) sized

    -- a block is claimed
    module _ (d : Actor) (cookie : ℕ) (three : d ≡ next c (allocating_event (store_cookie free 0xC8799269)) cookie) where
      marked : d ≡ next (next (after_free true a free to words found) (allocating_event (store_size free (to - free))) size) (allocating_event (store_cookie free 0xC8799269)) cookie
      marked = three ∙ ap (λ (x : Actor). next x (allocating_event (store_cookie free 0xC8799269)) cookie) sized

      pub is_marked : d.hand.place ≡ Marked free (to - free)
      is_marked = ap (λ (x : Actor). x.hand.place) marked

      pub is_claimed : (e : Actor) (tag found_type : ℕ) → e ≡ next d (allocating_event (store_type free tag)) found_type
          → e ≡ claimed a free to tag (raised_on a free to words)
      is_claimed e tag found_type four = four ∙ ap (λ (x : Actor). next x (allocating_event (store_type free tag)) found_type) marked

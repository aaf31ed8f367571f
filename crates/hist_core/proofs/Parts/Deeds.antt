-- What an event does to the segment that others can see.
use Rattle.segment_invariant.proofs.Prelude.Std.{◌≡◌, ℕ, ◌==◌, Bool, true, false, List, [], ◌∷◌, ◌++◌, refl, sym, ap, subst, ◌∙◌, Option, Some, if◌then◌else◌, bit_and, ◌||◌, ◌-◌, append-nil, All-nil, All-cons, All-weaker}
use Rattle.segment_invariant.proofs.Prelude.Machine.{Actor, Made, Own, Published, load_flags, load_free, exchange_free, store_size, store_cookie, store_type, store_payload, set_full, next, allocating_event, publishing_event, store_own_next, load_tail, link, move_tail, after_link}
use Rattle.alloc_core.specs.declared.alloc.AllocStep.{AllocStep}
use Rattle.alloc_core.specs.declared.alloc.AllocStep.TheVariants as said
use Rattle.alloc_core.specs.declared.alloc.Purpose.{Purpose}
use Rattle.alloc_core.specs.declared.alloc.Purpose.TheVariants as purpose
use Rattle.alloc_core.specs.declared.alloc.AllocStage.{AllocStage}
use Rattle.alloc_core.specs.declared.alloc.AllocStage.TheVariants.{LoadFlags, LoadFree, ExchangeFree, StoreSize, StoreCookie, StoreType, SetFull, Claimed, Full, Corrupt}
use Rattle.alloc_core.specs.declared.planned.Planned.{Planned}
use Rattle.alloc_core.specs.declared.planned.Planned.TheVariants as plan
use Rattle.alloc_core.specs.Alloc.{Allocation, answer, cookie_of, stage_after, stage_of_cookie, stage_of_plan}
use Rattle.alloc_core.specs.Planned.{planned, is_pointer}
use Rattle.list_core.specs.declared.publish.PubStage.{PubStage}
use Rattle.list_core.specs.declared.publish.PubStage.TheVariants as publish
use Rattle.segment_machine.specs.declared.actor.Done.{Done}
use Rattle.segment_machine.specs.declared.actor.Rise.{Rise}
use Rattle.segment_machine.specs.Allocating.{AllocatingEvent, after_free}
use Rattle.segment_machine.specs.Publishing.{PublishingEvent, own_at, published_as}
use Rattle.segment_machine.specs.Stages.{OffersBlock, PublishesAt, allocates, publishes}
use Rattle.hist_core.specs.StepsBy.{SharedEffect, links, raises, DoesOnly}

-- it does nothing
pub does_nothing : (may : SharedEffect → Type 0) (a b : Actor) → b.done ≡ a.done → DoesOnly false false may a b
does_nothing may a b same = record {
  spoiled = ap (λ (d : Done). d.spoiled) same;
  filled = ap (λ (d : Done). d.filled) same;
  linked = ([], ap (λ (d : Done). d.published) same ∙ sym (append-nil a.done.published), All-nil (λ (p : Published). may (links p.made)));
  raised = ([], ap (λ (d : Done). d.raised) same ∙ sym (append-nil a.done.raised), All-nil (λ (r : Rise). may (raises r.wanted)));
}

-- what it may do is among what else it may do
pub does_less : (corrupt full : Bool) (may more : SharedEffect → Type 0) (a b : Actor) → ((deed : SharedEffect) → may deed → more deed) → DoesOnly corrupt full may a b
    → DoesOnly corrupt full more a b
does_less corrupt full may more a b weaker does = record {
  spoiled = does.spoiled;
  filled = does.filled;
  linked = let (list, is, all) = does.linked in
      (list, is, All-weaker (λ (p : Published). may (links p.made)) (λ (p : Published). more (links p.made)) (λ p lawful. weaker (links p.made) lawful) list all);
  raised = let (list, is, all) = does.raised in
      (list, is, All-weaker (λ (r : Rise). may (raises r.wanted)) (λ (r : Rise). more (raises r.wanted)) (λ r lawful. weaker (raises r.wanted) lawful) list all);
}

-- the same holds if its actors have noted something more
pub does_still : (corrupt full : Bool) (may : SharedEffect → Type 0) (a b c d : Actor) → b.done ≡ a.done → d.done ≡ c.done → DoesOnly corrupt full may b c
    → DoesOnly corrupt full may a d
does_still corrupt full may a b c d first last does = record {
  spoiled = subst (λ (x : Done × Done). x.1.spoiled ≡ (corrupt || x.0.spoiled)) (λ i. (first i, sym last i)) does.spoiled;
  filled = subst (λ (x : Done × Done). x.1.filled ≡ (full || x.0.filled)) (λ i. (first i, sym last i)) does.filled;
  linked = let (list, is, all) = does.linked in (list, subst (λ (x : Done × Done). x.1.published ≡ x.0.published ++ list) (λ i. (first i, sym last i)) is, all);
  raised = let (list, is, all) = does.raised in (list, subst (λ (x : Done × Done). x.1.raised ≡ x.0.raised ++ list) (λ i. (first i, sym last i)) is, all);
}

-- ---- an allocation

-- it has ended since the segment is full
abbrev pub is_full_end : AllocStep → Bool
is_full_end said.Full = true
is_full_end said = false

module _ (may : SharedEffect → Type 0) (a : Actor) where
  -- an event that sets no flag
  sets_none : (act : AllocatingEvent) (found : ℕ) → (next a (allocating_event act) found).done.spoiled ≡ a.done.spoiled
      → (next a (allocating_event act) found).done.filled ≡ a.done.filled → (next a (allocating_event act) found).done.published ≡ a.done.published
      → (next a (allocating_event act) found).done.raised ≡ a.done.raised → DoesOnly false false may a (next a (allocating_event act) found)
  sets_none act found spoiled filled published raised = record {
    spoiled = spoiled;
    filled = filled;
    linked = ([], published ∙ sym (append-nil a.done.published), All-nil (λ (p : Published). may (links p.made)));
    raised = ([], raised ∙ sym (append-nil a.done.raised), All-nil (λ (r : Rise). may (raises r.wanted)));
  }

  pub stores_payload : (at index value found : ℕ) → DoesOnly false false may a (next a (allocating_event (store_payload at index value)) found)
  stores_payload at index value found = sets_none (store_payload at index value) found refl refl refl refl

  module _ (x : Allocation) (found : ℕ) (its : may (raises x.size)) where
    loads_flags : (clear : Bool) → DoesOnly false (is_full_end (answer (if clear then LoadFree else Corrupt))) may a (next a (allocating_event load_flags) found)
    loads_flags true = sets_none load_flags found refl refl refl refl
    loads_flags false = sets_none load_flags found refl refl refl refl

    plans : (way : Planned) → DoesOnly false (is_full_end (answer (stage_of_plan found way))) may a (next a (allocating_event load_free) found)
    plans (plan.Claim n end) = sets_none load_free found refl refl refl refl
    plans (plan.Waste room) = sets_none load_free found refl refl refl refl
    plans plan.Full = sets_none load_free found refl refl refl refl

    loads_free : (good : Bool) (way : Planned)
        → DoesOnly false (is_full_end (answer (if good then stage_of_plan found way else Corrupt))) may a (next a (allocating_event load_free) found)
    loads_free true way = plans way
    loads_free false way = sets_none load_free found refl refl refl refl

    exchanges : (hit : Bool) (old to : ℕ) (wants : Purpose)
        → DoesOnly false (is_full_end (answer (if hit then StoreSize found (to - found) wants else LoadFlags))) may a (after_free hit a old to x.size found)
    exchanges true old to wants = record {
      spoiled = refl;
      filled = refl;
      linked = ([], sym (append-nil a.done.published), All-nil (λ (p : Published). may (links p.made)));
      raised = (
        record { from = old; to = to; wanted = x.size } ∷ [],
        refl,
        All-cons (λ (r : Rise). may (raises r.wanted)) (record { from = old; to = to; wanted = x.size }) [] its (All-nil (λ (r : Rise). may (raises r.wanted))),
      );
    }
    exchanges false old to wants = does_nothing may a (after_free false a old to x.size found) refl

    stores_cookie : (at size cookie : ℕ) (wants : Purpose)
        → DoesOnly false (is_full_end (answer (stage_of_cookie at size wants))) may a (next a (allocating_event (store_cookie at cookie)) found)
    stores_cookie at size cookie purpose.Claim = sets_none (store_cookie at cookie) found refl refl refl refl
    stores_cookie at size cookie purpose.Waste = sets_none (store_cookie at cookie) found refl refl refl refl

    -- whatever it is, it sets the full flag if the allocation has ended for that
    pub stage_does : (stage : AllocStage) (act : AllocatingEvent) → allocates x stage ≡ Some act
        → DoesOnly false (is_full_end (answer (stage_after x found stage))) may a (next a (allocating_event act) found)
    stage_does LoadFlags act is =
        subst (λ (e : AllocatingEvent). DoesOnly false (is_full_end (answer (stage_after x found LoadFlags))) may a (next a (allocating_event e) found))
        (let same : load_flags ≡ act = cc is in same) (loads_flags (bit_and found 1 == 0))
    stage_does LoadFree act is =
        subst (λ (e : AllocatingEvent). DoesOnly false (is_full_end (answer (stage_after x found LoadFree))) may a (next a (allocating_event e) found))
        (let same : load_free ≡ act = cc is in same) (loads_free (is_pointer x.shape found) (planned found x.size x.shape))
    stage_does (ExchangeFree to wants) act is =
        subst (λ (e : AllocatingEvent). DoesOnly false (is_full_end (answer (stage_after x found (ExchangeFree to wants)))) may a (next a (allocating_event e) found))
        (let same : exchange_free x.seen to x.size ≡ act = cc is in same) (exchanges (found == x.seen) x.seen to wants)
    stage_does (StoreSize at n wants) act is =
        subst (λ (e : AllocatingEvent). DoesOnly false false may a (next a (allocating_event e) found)) (let same : store_size at n ≡ act = cc is in same)
        (sets_none (store_size at n) found refl refl refl refl)
    stage_does (StoreCookie at n wants) act is =
        subst (λ (e : AllocatingEvent). DoesOnly false (is_full_end (answer (stage_of_cookie at n wants))) may a (next a (allocating_event e) found))
        (let same : store_cookie at (cookie_of wants) ≡ act = cc is in same) (stores_cookie at n (cookie_of wants) wants)
    stage_does (StoreType at n) act is =
        subst (λ (e : AllocatingEvent). DoesOnly false false may a (next a (allocating_event e) found)) (let same : store_type at x.tag ≡ act = cc is in same)
        (sets_none (store_type at x.tag) found refl refl refl refl)
    stage_does SetFull act is =
        subst (λ (e : AllocatingEvent). DoesOnly false true may a (next a (allocating_event e) found)) (let same : set_full x.size ≡ act = cc is in same)
        (record {
          spoiled = refl;
          filled = refl;
          linked = ([], sym (append-nil a.done.published), All-nil (λ (p : Published). may (links p.made)));
          raised = ([], sym (append-nil a.done.raised), All-nil (λ (r : Rise). may (raises r.wanted)));
        })
    stage_does (Claimed at n) act is = cc is
    stage_does Full act is = cc is
    stage_does Corrupt act is = cc is

-- ---- a publish

module _ (may : SharedEffect → Type 0) (a : Actor) (reference : ℕ) (made : Made) (its : may (links made)) where
  -- the record that its block becomes
  linked_as : OffersBlock a reference made 12 → published_as (own_at a.hand.own reference) reference ≡ record { reference = reference; made = made } ∷ []
  linked_as offers =
      let own = offers.0 in
      ap (λ (block : Option Own). published_as block reference) offers.1
      ∙ ap (λ (what : Option Made). published_as (Some (record own { made = what })) reference) offers.3

  links_it : (hit : Bool) (tail found : ℕ) → OffersBlock a reference made 12 → DoesOnly false false may a (after_link hit a tail reference found)
  links_it true tail found offers = record {
    spoiled = refl;
    filled = refl;
    linked = (
      record { reference = reference; made = made } ∷ [],
      ap (λ (list : List Published). a.done.published ++ list) (linked_as offers),
      All-cons (λ (p : Published). may (links p.made)) (record { reference = reference; made = made }) [] its (All-nil (λ (p : Published). may (links p.made))),
    );
    raised = ([], sym (append-nil a.done.raised), All-nil (λ (r : Rise). may (raises r.wanted)));
  }
  links_it false tail found offers = record {
    spoiled = refl;
    filled = refl;
    linked = ([], sym (append-nil a.done.published), All-nil (λ (p : Published). may (links p.made)));
    raised = ([], sym (append-nil a.done.raised), All-nil (λ (r : Rise). may (raises r.wanted)));
  }

  -- it links the record that it is of, and no other
  pub publish_does : (stage : PubStage) (act : PublishingEvent) (found : ℕ) → publishes reference stage ≡ Some act → PublishesAt a reference made stage
      → DoesOnly false false may a (next a (publishing_event act) found)
  publish_does publish.StoreOwnNext act found is stands =
      subst (λ (e : PublishingEvent). DoesOnly false false may a (next a (publishing_event e) found))
      (let same : store_own_next reference ≡ act = cc is in same) (does_nothing may a (next a (publishing_event (store_own_next reference)) found) refl)
  publish_does publish.LoadTail act found is stands =
      subst (λ (e : PublishingEvent). DoesOnly false false may a (next a (publishing_event e) found))
      (let same : load_tail ≡ act = cc is in same) (does_nothing may a (next a (publishing_event load_tail) found) refl)
  publish_does (publish.Link tail) act found is stands =
      subst (λ (e : PublishingEvent). DoesOnly false false may a (next a (publishing_event e) found))
      (let same : link tail reference ≡ act = cc is in same) (links_it (found == 12) tail found stands.1)
  publish_does (publish.MoveTail old new linked) act found is stands =
      subst (λ (e : PublishingEvent). DoesOnly false false may a (next a (publishing_event e) found))
      (let same : move_tail old new ≡ act = cc is in same) (does_nothing may a (next a (publishing_event (move_tail old new)) found) refl)
  publish_does publish.Published act found is stands = cc is
  publish_does publish.Strayed act found is stands = cc is

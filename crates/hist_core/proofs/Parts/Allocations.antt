-- An actor goes along with an allocation and with a publish.
use Rattle.segment_invariant.proofs.Prelude.Std.{◌≡◌, ◌<◌, ℕ, suc, ◌+◌, ◌==◌, Bool, true, false, true≢false, List, [], ◌∷◌, ◌++◌, length, refl, sym, ap, subst, ◌∙◌, arith, length-append, eqb-true, not, ◌&&◌, if◌then◌else◌, slice_index, ⊤, Contains, append-nil, Contains-push, set-get_or}
use Rattle.segment_invariant.proofs.Prelude.Machine.{is_reference, stops, Dimensions, IsPrefix, word_at, Actor, Made, spot, next, allocating_event, publishing_event, walking_event, load_next, load_flags, load_free, exchange_free, store_size, store_cookie, store_type, store_payload, set_corrupt, set_full, store_own_next, load_tail, link, move_tail, is_bound}
use Rattle.list_core.proofs.Walks.{place_of}
use Rattle.list_core.specs.declared.walk.WalkStep.TheVariants.{Record, End, Stray}
use Rattle.list_core.specs.declared.walk.WalkStep.{WalkStep}
use Rattle.list_core.specs.Walk.{said_of, given_after, stands_behind}
use Rattle.alloc_core.specs.Alloc.{Allocation, answer, stage_after}
use Rattle.alloc_core.specs.Alloc as alloc
use Rattle.alloc_core.specs.declared.alloc.AllocStep.{AllocStep}
use Rattle.list_core.specs.Publish.{Publishing}
use Rattle.list_core.specs.Publish as publish
use Rattle.list_core.specs.declared.publish.PubStep.{PubStep}
use Rattle.segment_machine.specs.Event.{operation}
use Rattle.segment_machine.specs.Calls.{ended}
use Rattle.segment_machine.specs.Walking.{IsNextOf, extended}
use Rattle.segment_machine.specs.Allocating.{AllocatingEvent}
use Rattle.segment_machine.specs.Publishing.{PublishingEvent}
use Rattle.segment_machine.specs.Stages.{FollowsAllocation, PublishesAt, Walks}
use Rattle.segment_machine.proofs.Stages.Allocations.{allocations_agree}
use Rattle.segment_machine.proofs.Stages.Publishes.{publishes_agree}
use Rattle.segment_machine.proofs.Stages.Walks.{walks_agree}
use Rattle.hist_core.proofs.Parts.Alone.{by_event, acts_there, makes_so, allocating_beside, allocating_list, allocating_words, publishing_beside, publishing_list, frame_of}
use Rattle.hist_core.specs.StepsBy.{SharedEffect, links, raises, DoesOnly, FrameOfStep, SawEnd, SeesNoMore, StepsBy, IsFree}
use Rattle.hist_core.proofs.Parts.Claims.{IsEnd, stage_ends, goes_noting}
use Rattle.hist_core.proofs.Parts.Deeds.{is_full_end, publish_does, stage_does}
use Rattle.hist_core.proofs.Worlds.Free.{free_behind, free_turns}
use Rattle.segment_machine.specs.Actor.{AreOwnBlocksApart}
use Rattle.segment_promises.specs.Values.{NoRepeats}
use Rattle.segment_promises.proofs.Calls.Places.{behind_free}

-- what holds then may be more than is asked
pub goes_with : {size version : ℕ} {a : Actor} {words new_words : List ℕ} {holds then_holds : Actor → Type 0} → StepsBy size version a words new_words holds
    → ((b : Actor) → holds b → then_holds b) → StepsBy size version a words new_words then_holds
goes_with go weaker = goes_noting go (λ b its. ([], b, refl, weaker b its))

-- what was seen of the chain is the front of what is seen of it after a next
longer : (more : Bool) (chain : List ℕ) (found : ℕ) → IsPrefix chain (if more then chain ++ found ∷ [] else chain)
longer true chain found = (found ∷ [], refl)
longer false chain found = ([], sym (append-nil chain))

extended_behind : (chain : List ℕ) (at found : ℕ) → IsPrefix chain (extended chain at found)
extended_behind chain at found = longer ((slice_index (stops chain) (length chain) == at) && not (found == 12)) chain found

-- ---- an allocation

-- what its events do depends neither on the size of the segment nor on its version
allocating_alike : (act : AllocatingEvent) (size version : ℕ) → operation 0 version (allocating_event act) ≡ operation size 1 (allocating_event act)
allocating_alike load_flags size version = refl
allocating_alike load_free size version = refl
allocating_alike (exchange_free old new wanted) size version = refl
allocating_alike (store_size at words) size version = refl
allocating_alike (store_cookie at cookie) size version = refl
allocating_alike (store_type at tag) size version = refl
allocating_alike (store_payload at index value) size version = refl
allocating_alike set_corrupt size version = refl
allocating_alike (set_full wanted) size version = refl

pub allocates_on : (may : SharedEffect → Type 0) (version : ℕ) (a : Actor) (old new : Allocation) (words new_words : List ℕ) (said : AllocStep) → FollowsAllocation a old
    → may (raises old.size) → length words ≡ a.segment.shape.size → alloc.IsStep old words new new_words said
    → StepsBy a.segment.shape.size version a words new_words (λ b. FrameOfStep a b × DoesOnly false (is_full_end said) may a b × AreOwnBlocksApart b × FollowsAllocation b new × (b.seen.words ≡ a.seen.words) × SeesNoMore a b × IsEnd said old.size a b)
allocates_on may version a old new words new_words said goes its long step =
    let size : ℕ = a.segment.shape.size in
    let agrees = allocations_agree size 1 a old step.event goes step.next in
    let act : AllocatingEvent = agrees.0 in
    let acts = agrees.2 in
    let changes = allocating_alike act size version ∙ acts in
    let there = acts_there size version (allocating_event act) step.event acts changes in
    let found : ℕ = word_at words (spot size (allocating_event act)) in
    let ends : answer (stage_after old found old.stage) ≡ said =
    ap (λ (n : ℕ). answer (alloc.moved old (word_at words n)).stage) there ∙ (ap (λ (y : Allocation). answer y.stage) (sym step.new_is) ∙ sym step.answers) in
    by_event (allocating_event act) agrees.3
    (step.words_are ∙ sym (makes_so size version (allocating_event act) step.event acts changes words))
    (λ learned apart ordered. (
      allocating_beside a act found,
      subst (λ (s : AllocStep). DoesOnly false (is_full_end s) may a (next a (allocating_event act) found)) ends (stage_does may a old found its old.stage act agrees.1),
      apart,
      subst (FollowsAllocation (next a (allocating_event act) found))
          (ap (λ (n : ℕ). alloc.moved old (word_at words n)) there ∙ sym step.new_is) (agrees.4 found learned),
      allocating_words a act found,
      allocating_list a act found,
      subst (λ (s : AllocStep). IsEnd s old.size a (next a (allocating_event act) found))
          ends
          (stage_ends a old goes.shape found old.stage act agrees.1 agrees.3 learned),
    ))

-- ---- a publish

publishing_alike : (act : PublishingEvent) (size version : ℕ) → operation 0 version (publishing_event act) ≡ operation size 1 (publishing_event act)
publishing_alike (store_own_next at) size version = refl
publishing_alike load_tail size version = refl
publishing_alike (link tail at) size version = refl
publishing_alike (move_tail old new) size version = refl

pub publishes_on : (may : SharedEffect → Type 0) (version : ℕ) (a : Actor) (made : Made) (old new : Publishing) (words new_words : List ℕ) (said : PubStep) → may (links made)
    → PublishesAt a old.reference made old.stage → length words ≡ a.segment.shape.size → publish.IsStep old words new new_words said
    → StepsBy a.segment.shape.size version a words new_words (λ b. FrameOfStep a b × DoesOnly false false may a b × SeesNoMore a b × PublishesAt b new.reference made new.stage)
publishes_on may version a made old new words new_words said its stands long step =
    let size : ℕ = a.segment.shape.size in
    let agrees = publishes_agree size 1 a made old step.event stands step.next in
    let act : PublishingEvent = agrees.0 in
    let acts = agrees.2 in
    let changes = publishing_alike act size version ∙ acts in
    let there = acts_there size version (publishing_event act) step.event acts changes in
    let found : ℕ = word_at words (spot size (publishing_event act)) in
    by_event (publishing_event act) agrees.3
    (step.words_are ∙ sym (makes_so size version (publishing_event act) step.event acts changes words))
    (λ learned apart ordered. (
      publishing_beside a act found,
      publish_does may a old.reference made its old.stage act found agrees.1 stands,
      publishing_list a act found,
      subst (λ (p : Publishing). PublishesAt (next a (publishing_event act) found) p.reference made p.stage)
          ((λ i. publish.moved (sym long i) old (word_at words (there i))) ∙ sym step.new_is) (agrees.4 found learned),
    ))

-- ---- a walk

-- A walk that has given these records and finds the end of the list has given all that its actor has visited, and its actor has seen the
-- list to the end.
abbrev pub EndsWith : List ℕ → WalkStep → Actor → Type 0
EndsWith given End b = (given ≡ b.seen.chain) × SawEnd b.seen
EndsWith given says b = ⊤

-- a walk that finds the end has given all that was seen
all_given : (given rest chain : List ℕ) (found : ℕ) → chain ≡ given ++ rest → NoRepeats chain
    → (length given < length chain → found ≡ slice_index chain (length given)) → found ≡ 12 → given ≡ chain
all_given given [] chain found is once again end = sym (is ∙ append-nil given)
all_given given (r ∷ rs) chain found is once again end =
    let long : length chain ≡ length given + length (r ∷ rs) = ap length is ∙ length-append given (r ∷ rs) in
    let passed : length given < length chain = omega (arith, long) in
    absurd (once 0 (suc (length given)) (omega arith) (omega (arith, passed)) (sym end ∙ again passed))

module _ (a : Actor) (given : List ℕ) (walks : Walks a given) (found : ℕ) (learned : IsNextOf a (stands_behind given) found)
    (once : NoRepeats (extended a.seen.chain (stands_behind given) found)) where
  abbrev gone : Actor
  gone = next a (walking_event (load_next (stands_behind given))) found

  -- nothing comes after what it has visited
  same_chain : (found == 12) ≡ true → gone.seen.chain ≡ a.seen.chain
  same_chain is =
      ap (λ (b : Bool). if (slice_index (stops a.seen.chain) (length a.seen.chain) == stands_behind given) && not b then a.seen.chain ++ found ∷ [] else a.seen.chain) is
      ∙ none_behind (slice_index (stops a.seen.chain) (length a.seen.chain) == stands_behind given)
    where
      none_behind : (b : Bool) → (if b && false then a.seen.chain ++ found ∷ [] else a.seen.chain) ≡ a.seen.chain
      none_behind true = refl
      none_behind false = refl

  ends_with : (end good : Bool) → (found == 12) ≡ end → EndsWith given (if end then End else if good then Record found else Stray) gone
  ends_with true good is =
      let end : found ≡ 12 = eqb-true found 12 is in
      let chain : gone.seen.chain ≡ a.seen.chain = same_chain is in
      let (rest, front) = walks.1 in
      let whole : given ≡ a.seen.chain = all_given given rest a.seen.chain found front (subst NoRepeats chain once)
      (λ passed. learned.again (length given) passed (place_of given rest a.seen.chain front)) end in (
        whole ∙ sym chain,
        subst (λ (l : List ℕ). Contains l (stands_behind gone.seen.chain + 3)) (ap (ended a.seen.ends (stands_behind given + 3)) (sym is))
            (subst (λ (n : ℕ). Contains (a.seen.ends ++ (stands_behind given + 3) ∷ []) (n + 3)) (ap stands_behind (whole ∙ sym chain))
            (Contains-push a.seen.ends (stands_behind given + 3))),
      )
  ends_with false true is = tt
  ends_with false false is = tt

-- the next of the record where a walk is
pub walks_on : (version : ℕ) (a : Actor) (given words : List ℕ) → Walks a given → length words ≡ a.segment.shape.size
    → StepsBy a.segment.shape.size version a words words
    (λ b. FrameOfStep a b × (b.done ≡ a.done) × EndsWith given (said_of (length words) (word_at words (stands_behind given + 3))) b × (IsFree a → IsFree b)
    × Walks b (given_after given (said_of (length words) (word_at words (stands_behind given + 3)))))
walks_on version a given words walks long =
    let size : ℕ = a.segment.shape.size in
    let agrees = walks_agree size 1 a given walks in
    let event = walking_event (load_next (stands_behind given)) in
    let found : ℕ = word_at words (stands_behind given + 3) in
    by_event event agrees.1
    (sym (set-get_or words (stands_behind given + 3) 0))
    (λ learned apart ordered. (
      frame_of a (next a event found) refl refl refl refl refl refl (extended_behind a.seen.chain (stands_behind given) found) ([], sym (append-nil a.seen.words)),
      refl,
      ends_with a given walks found learned (ordered (λ spent. true≢false (sym (ap is_bound spent) ∙ behind_free a.hand.place (stands_behind given) found walks.0))).once (found == 12) (is_reference (length words) found) refl,
      free_behind a.hand.place (stands_behind given) found,
      subst (λ (n : ℕ). Walks (next a event found) (given_after given (said_of n found))) (sym long) (agrees.2 found learned),
    ))

-- for each result of a step of a walk that has given these records
pub walks_saying : (shape : Dimensions) (version : ℕ) (a : Actor) (given words : List ℕ) (walk : ℕ) → a.segment.shape ≡ shape → length words ≡ shape.size
    → walk ≡ stands_behind given → IsFree a → IsPrefix given a.seen.chain → (said : WalkStep) → said ≡ said_of (length words) (word_at words (walk + 3))
    → StepsBy shape.size version a words words (λ b. FrameOfStep a b × (b.done ≡ a.done) × EndsWith given said b × IsFree b × IsPrefix (given_after given said) b.seen.chain)
walks_saying shape version a given words walk segment long stands free front said says =
    let size = ap (λ (d : Dimensions). d.size) segment in
    let same : said_of (length words) (word_at words (stands_behind given + 3)) ≡ said =
    ap (λ (w : ℕ). said_of (length words) (word_at words (w + 3))) (sym stands) ∙ sym says in
    goes_with (subst (λ (p : ℕ × WalkStep). StepsBy p.0 version a words words (λ b. FrameOfStep a b × (b.done ≡ a.done) × EndsWith given p.1 b × (IsFree a → IsFree b) × Walks b (given_after given p.1))) (λ i. (size i, same i))
    (walks_on version a given words (free_turns a.hand.place free, front) (long ∙ sym size)))
    (λ b (beside, same_done, ends, stays, walks). (beside, same_done, ends, stays free, walks.1))

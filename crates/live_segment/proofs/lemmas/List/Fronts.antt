-- What is true in a state of a segment in which a call ends: what its list has, which record is the first of a name, and what a shared cursor gave.
use Rattle.std.proofs.Common.{◌≡◌, ◌≢◌, ℕ, ◌+◌, ◌<◌, ◌≤◌, false, true≢false, List, ◌++◌, length, slice_index, sym, ap, subst, ◌∙◌, length-append, arith, Option, Some, None, MatchOption, Result, Ok, Err, IfOk}
use Rattle.std.specs.Prelude.{take, drop}
use Rattle.std.specs.List.{Contains}
use mathlib.Core.Option.{some}
use lib.ListN.{get_elem?}
use Rattle.std.proofs.lemmas.List.{drop_all, length-take-le, take-append-drop}
use Rattle.std.proofs.lemmas.List.Elements.{All-contains}
use Rattle.segment_image.specs.Head.{head_of}
use Rattle.segment_image.specs.Words.{word_at}
use Rattle.segment_image.specs.Shape.{Dimensions}
use Rattle.list_core.specs.Chain.{stops, IsChain}
use Rattle.list_core.specs.Walk.{IsPrefix, stands_behind}
use Rattle.list_core.proofs.Chains.{last_stop, one_place}
use Rattle.list_core.proofs.Walks.{place_of}
use Rattle.segment_machine.specs.declared.actor.Actor.{Actor}
use Rattle.segment_machine.specs.declared.actor.Known.{Known}
use Rattle.segment_machine.specs.declared.place.Place.TheVariants.{Spent}
use Rattle.segment_machine.specs.declared.seen.Sighting.{Sighting}
use Rattle.segment_machine.specs.Actor.{is_bound}
use Rattle.segment_machine.specs.State.{State}
use Rattle.segment_invariant.specs.Body.{Anatomy, order_of}
use Rattle.segment_invariant.specs.Invariant.{Invariant}
use Rattle.segment_invariant.specs.Seen.{IsNoLater}
use Rattle.segment_invariant.proofs.Frames.Growth.{stop_at}
use Rattle.segment_invariant.proofs.Walking.Learned.{whole_front}
use Rattle.segment_promises.proofs.Enough.{knower_lives}
use Rattle.segment_promises.proofs.Lists.{cursors_keep_order}
use Rattle.segment_promises.proofs.Names.{names_are_first}
use Rattle.segment_promises.proofs.Readings.Lists.{is_chain}
use Rattle.segment_invariant.proofs.Lists.Elements.{contains_at}
use Rattle.segment_calls.specs.declared.refusal.Refusal.{Refusal}
use Rattle.live_segment.specs.declared.recorder.Hist.{Hist}
use Rattle.live_segment.specs.declared.rule.Opening.{Opening}
use Rattle.live_segment.specs.List.SharedCursors.{IsAtEnd, IsGivenNext}
use Rattle.live_segment.specs.List.Records.{HasWalked}
use Rattle.live_segment.specs.Standing.{HasFirst, HasList, HasShared, SeesNext, Standing}

-- an actor that need not finish what a call has begun was not joined
pub lives_free : (a : Actor) → is_bound a.hand.place ≡ false → a.hand.place ≢ Spent
lives_free a free spent = true≢false (sym (ap is_bound spent) ∙ free)

module _ (shape : Dimensions) (opened : Anatomy) (state : State) (kept : Invariant shape opened state) where
  abbrev order : List ℕ
  order = order_of kept.anatomy

  -- a front at whose end the list ends is all of it
  whole : (front : List ℕ) → IsPrefix front order → word_at state.words (stands_behind front + 3) ≡ 12 → order ≡ front
  whole front (more, all) last =
      let long = ap length all in
      let parts = length-append front more in
      let stands = ap (λ (list : List ℕ). slice_index (stops list) (length front)) all ∙ stop_at front more (length front) (omega arith) in
      whole_front front more order all
      (last_stop state.words order (length front) kept.list.linked (omega (arith, long, parts)) (ap (λ (at : ℕ). word_at state.words (at + 3)) stands ∙ last))

  -- if a shared cursor was seen at a place and the list ends there, it is after all of the list
  at_the_end : (id : ℕ) (a : Actor) → get_elem? state.actors id ≡ some a → a.hand.place ≢ Spent → (cursor at : ℕ)
      → Contains a.seen.cursors (record { at = cursor; word = at }) → word_at state.words (at + 3) ≡ 12 → (place : ℕ) → place ≤ length order
      → slice_index (stops order) place ≡ slice_index state.cursors cursor → length order ≤ place
  at_the_end id a mine lives cursor at sighted last place low stands =
      let shared = All-contains (λ (s : Sighting). (s.at < length state.cursors) × IsNoLater order s.word (slice_index state.cursors s.at)) a.seen.cursors
      (record { at = cursor; word = at }) (kept.each id a mine lives).sees.shared sighted in
      let (i, j, le, within, first, second) = shared.1 in
      let end = last_stop state.words order i kept.list.linked (omega (arith, le, within)) (ap (λ (at : ℕ). word_at state.words (at + 3)) first ∙ last) in
      let same = one_place state.words order place j kept.list.linked low within (stands ∙ sym second) in
      omega (arith, same, le, end)

module _ (given : Opening) (number : ℕ) (a : Actor) where
  -- where a walk ends, the list has the records that it gave
  pub walk_ends : (at : ℕ) (old : Actor) (list : List ℕ) → SeesNext given number at 12 a → HasWalked old list a → at ≡ stands_behind list
      → HasList given number a list
  walk_ends at old list sees walked behind =
      let standing = sees.standing in
      let state = standing.state in
      let shape = given.setting.shape in
      let seen : a.seen.chain ≡ list = ap (λ (a : Actor). a.seen.chain) walked.view in
      let front = subst (λ (l : List ℕ). IsPrefix l (order shape standing.opened state standing.kept)) seen
      (standing.kept.each number a standing.stands (lives_free a walked.free)).sees.walked in
      let last = subst (λ (at : ℕ). word_at state.words (at + 3) ≡ 12) behind sees.next_is in
      let all = whole shape standing.opened state standing.kept list front last in record {
        standing = standing;
        list = subst (IsChain state.words (head_of state.words)) all (is_chain shape standing.opened state standing.kept);
      }

  -- a histogram that a recorder knows is the first of its name on the list
  pub first_there : (known : Known) → Contains a.answers.names known → Standing given number a → HasFirst given number a known
  first_there known among standing =
      let state = standing.state in
      let shape = given.setting.shape in
      let lives = knower_lives shape standing.opened state standing.kept number a standing.stands known among in
      let list = is_chain shape standing.opened state standing.kept in
      let (first, same) = names_are_first shape standing.opened state (order shape standing.opened state standing.kept) standing.kept list number a standing.stands lives known among in
      record {
        standing = standing;
        records = order shape standing.opened state standing.kept;
        list = list;
        first = first;
        same = same;
      }

  -- a shared cursor is after what it gave, which is all of the list if that ends where the cursor was seen
  pub shares : (cursor : ℕ) (answer : Option ℕ) (standing : Standing given number a) → a.hand.place ≢ Spent → cursor < a.segment.cursors
      → (answer ≡ None → (at : ℕ) × Contains a.seen.cursors (record { at = cursor; word = at }) × (word_at standing.state.words (at + 3) ≡ 12))
      → HasShared given number a cursor answer
  shares cursor answer standing lives few ends =
      let state = standing.state in
      let kept = standing.kept in
      let shape = given.setting.shape in
      let chain = order shape standing.opened state kept in
      let fits = kept.each number a standing.stands lives in
      let (place, low, stands, permuted) = kept.cursors.stand cursor (subst (λ (n : ℕ). cursor < n) fits.numbered few) in
      let cut : take place chain ++ drop place chain ≡ chain = take-append-drop place chain in
      let list = subst (IsChain state.words (head_of state.words)) (sym cut) (is_chain shape standing.opened state kept) in
      let long : length (take place chain) ≡ place = length-take-le place chain low in record {
        standing = standing;
        front = take place chain;
        behind = drop place chain;
        list = list;
        gave = permuted;
        stands_there = sym stands ∙ (ap (slice_index (stops chain)) (sym long) ∙ place_of (take place chain) (drop place chain) chain (sym cut));
        ordered = λ id b mine alive i j k l x y records.
            cursors_keep_order shape standing.opened state (take place chain ++ drop place chain) kept list id b mine alive cursor i j k l x y records;
        whole = λ none.
            let (at, sighted, last) = ends none in
            drop_all place chain (at_the_end shape standing.opened state kept number a standing.stands lives cursor at sighted last place low stands);
      }

  -- so it is once it gave a record
  pub shares_one : (cursor reference : ℕ) (old : Actor) → IsGivenNext cursor old reference a → cursor < old.segment.cursors → Standing given number a
      → HasShared given number a cursor (Some reference)
  shares_one cursor reference old is few standing =
      let idle = ap (λ (a : Actor). a.hand.place) is.view in
      let same = ap (λ (a : Actor). a.segment.cursors) is.view ∙ ap (λ (a : Actor). a.segment.cursors) is.before.same in
      shares cursor (Some reference) standing (λ spent. cc (idle, spent)) (subst (λ (n : ℕ). cursor < n) (sym same) few) (λ none. absurd (cc none))

  -- and if it gave none
  pub shares_none : (cursor at : ℕ) (old : Actor) → IsAtEnd cursor old a → cursor < old.segment.cursors → SeesNext given number at 12 a
      → Contains a.seen.cursors (record { at = cursor; word = at }) → HasShared given number a cursor None
  shares_none cursor at old is few sees sighted =
      let idle = ap (λ (a : Actor). a.hand.place) is.view in
      let same = ap (λ (a : Actor). a.segment.cursors) is.view ∙ ap (λ (a : Actor). a.segment.cursors) is.before.same in
      shares cursor None sees.standing (λ spent. cc (idle, spent)) (subst (λ (n : ℕ). cursor < n) (sym same) few) (λ none. (at, sighted, sees.next_is))

  -- the same for the histogram that a call returns
  pub answer_first : (answer : Result Hist Refusal) → Standing given number a
      → IfOk answer (λ histogram. (known : Known) → get_elem? a.answers.names histogram.index ≡ some known → HasFirst given number a known)
  answer_first (Err why) standing = tt
  answer_first (Ok histogram) standing = λ known means. first_there known (contains_at a.answers.names histogram.index known means) standing

  -- and for that of a record, or none
  pub open_first : (found : Option Hist) → Standing given number a
      → MatchOption found (Standing given number a)
      (λ histogram. (known : Known) → get_elem? a.answers.names histogram.index ≡ some known → HasFirst given number a known)
  open_first None standing = standing
  open_first (Some histogram) standing = λ known means. first_there known (contains_at a.answers.names histogram.index known means) standing

-- A sample of a value is made: its block is claimed and filled, and is published.
use Rattle.std.proofs.Common.{◌≡◌, ℕ, ◌+◌, ◌-◌, ◌<◌, ◌≤◌, Bool, true, false, true≢false, ℤ, w64, List, [], ◌∷◌, ◌++◌, length, None, refl, sym, ap, subst, ◌∙◌, arith}
use Rattle.std.specs.Prelude.{Ok, Err, Some}
use Rattle.std.specs.Int.{cast_unsigned}
use Rattle.std.specs.List.{Contains}
use Rattle.std.proofs.lemmas.List.{append-nil}
use Rattle.std.proofs.lemmas.List.Elements.{Contains-append_right}
use Rattle.bucket_ranges.specs.Reading.{is_i32}
use Rattle.segment_calls.specs.declared.refusal.Refusal.{Refusal}
use Rattle.segment_calls.specs.declared.refusal.Refusal.TheVariants.{Full, Corrupt}
use Rattle.segment_machine.specs.Actor.{AreOwnBlocksApart, Sparse, is_bound, is_opener}
use Rattle.segment_machine.specs.declared.actor.Actor.{Actor}
use Rattle.segment_machine.specs.declared.actor.Known.{Known}
use Rattle.segment_machine.specs.declared.actor.Made.TheVariants.{Sample}
use Rattle.segment_machine.specs.declared.actor.Own.{Own}
use Rattle.segment_machine.specs.declared.actor.Published.{Published}
use Rattle.segment_machine.specs.declared.actor.Rise.{Rise}
use Rattle.segment_machine.specs.declared.place.Place.TheVariants.{Idle}
use Rattle.segment_machine.specs.Allocating.{store_payload, stored}
use Rattle.segment_machine.specs.Calls.{change_own}
use Rattle.segment_machine.specs.Event.{allocating_event}
use Rattle.segment_machine.specs.Made.{IsPayload}
use Rattle.segment_machine.specs.Publishing.{own_at}
use Rattle.live_segment.specs.declared.segment.Segment.{Segment}
use Rattle.live_segment.specs.Add.Sample.{HasNoRoom}
use Rattle.live_segment.specs.Alloc.Allocation.{Allocates, claimed, filled, noticed, saw_free}
use Rattle.live_segment.specs.Holders.{table_of, MayStep}
use Rattle.live_segment.specs.Alloc.Rises.{RaisesFor}
use Rattle.segment_promises.specs.Onward.{DoesOn, Grows, SeesOn}
use Rattle.live_segment.specs.List.Publish.{HasPublished, IsFilledAs}
use Rattle.live_segment.specs.Add.Refusal.{given_up}
use Rattle.live_segment.specs.Add.SampleSearch.{HasMadeSample, HasNotMadeSample}
use Rattle.live_segment.specs.Steps.{Pass, Stepped}
use Rattle.live_segment.specs.Add.Progress.{LooksOn}
use Rattle.live_segment.proofs.lemmas.Alloc.Claimed.{looks_claimed, looks_refused}
use Rattle.live_segment.proofs.lemmas.List.Filled.{Apart, changed_there, found_there}
use Rattle.live_segment.proofs.lemmas.Steps.Proceeding.{does_not, looks_on, sees_not, sees_tails}
use Rattle.segment_promises.proofs.Growing.{grows_by, grows_not, grows_same}
use Rattle.live_segment.proofs.lemmas.Add.Refusing.{only_given_up}
use Rattle.live_segment.proofs.lemmas.Alloc.Rooms.{lacks_room}

-- ---- its words

-- the block of a sample, with a payload
abbrev block : ℕ → ℕ → List ℕ → Own
block at size payload = record { at = at; size = size; tag = 3; next = 0; payload = payload; made = None }

-- a block with one more word
abbrev with_word : ℕ → ℕ → Own → Own
with_word index value own = record own { payload = stored own.payload index value }

-- what has become of a recorder that claimed it and has stored the payload
abbrev with_block : Actor → ℕ → ℕ → List Rise → List ℕ → Actor
with_block a at behind raised payload = record (claimed a at behind 3 raised) { hand = record { place = Idle; own = a.hand.own ++ block at (behind - at) payload ∷ [] } }

module _ (a : Actor) (at behind : ℕ) (raised : List Rise) (enough : at + 8 ≤ behind) where
  -- it has a payload so far
  module _ (segment : Segment) (now : Pass) (payload : List ℕ) (is : now.me.0 ≡ with_block a at behind raised payload) (table : now.table_id ≡ table_of segment)
      (records : is_opener a.role ≡ false) where
    -- another word may be stored after it
    pub may_store : (index value : ℕ) → length payload ≤ index → index < 4 → MayStep segment now (allocating_event (store_payload at index value))
    may_store index value short inside = record {
      table = table;
      recorder = ap (λ (x : Actor). is_opener x.role) is ∙ records;
      ready = (
        block at (behind - at) payload,
        (
          subst (λ (x : Actor). Contains x.hand.own (block at (behind - at) payload)) (sym is)
              (Contains-append_right a.hand.own _ (block at (behind - at) payload) (0, omega arith, refl)),
          refl,
        ),
        refl,
        short,
        omega (arith, inside, enough),
      );
    }

    module _ (apart : AreOwnBlocksApart now.me.0) where
      apart_there : Apart (a.hand.own ++ block at (behind - at) payload ∷ [])
      apart_there = subst (λ (x : Actor). Apart x.hand.own) is
          (apart (λ spent. true≢false (sym (ap is_bound spent) ∙ ap (λ (x : Actor). is_bound x.hand.place) is)))

      -- and is
      pub stores : (index value : ℕ) (new : Pass) → Stepped now (allocating_event (store_payload at index value)) value new
          → new.me.0 ≡ with_block a at behind raised (stored payload index value)
      stores index value new step =
          step.view
          ∙ (ap (λ (x : Actor). record x { hand = record x.hand { own = change_own at (with_word index value) x.hand.own } }) is
          ∙ ap (λ (own : List Own). record (claimed a at behind 3 raised) { hand = record { place = Idle; own = own } })
          (changed_there a.hand.own (block at (behind - at) payload) at (with_word index value) apart_there refl))

      -- and it is at its word with any payload
      pub stands : (more : List ℕ) → own_at (a.hand.own ++ block at (behind - at) more ∷ []) at ≡ Some (block at (behind - at) more)
      stands more = found_there a.hand.own (block at (behind - at) payload) (block at (behind - at) more) at apart_there refl refl

-- ---- filled

-- the words of a sample are stored
pub record IsPut (a : Actor) (at behind : ℕ) (raised : List Rise) (histogram : ℕ) (value : ℤ) (now : Actor) : Type 0 where
  pub payload : List ℕ
  pub is : now ≡ with_block a at behind raised payload
  pub holds : IsPayload (Sample histogram value) payload
  pub stands : own_at (a.hand.own ++ block at (behind - at) payload ∷ []) at ≡ Some (block at (behind - at) payload)

module _ (segment : Segment) (old mid one : Pass) (at behind : ℕ) (raised : List Rise) (histogram : ℕ) (value : ℤ) (enough : at + 8 ≤ behind)
    (view : mid.me.0 ≡ claimed old.me.0 at behind 3 raised)
    (apart : AreOwnBlocksApart mid.me.0) (table : mid.table_id ≡ table_of segment) (records : is_opener old.me.0.role ≡ false)
    (first : Stepped mid (allocating_event (store_payload at 0 histogram)) histogram one) where
  with_first : one.me.0 ≡ with_block old.me.0 at behind raised (histogram ∷ [])
  with_first = stores old.me.0 at behind raised enough segment mid [] view table records apart 0 histogram one first

  -- a value of 0 needs no second word
  pub put_one : cast_unsigned w64 value ≡ 0 → IsPut old.me.0 at behind raised histogram value one.me.0
  put_one none = record {
    payload = histogram ∷ [];
    is = with_first;
    holds = (1, ap (λ (w : ℕ). histogram ∷ w ∷ []) (sym none));
    stands = stands old.me.0 at behind raised enough segment mid [] view table records apart (histogram ∷ []);
  }

  pub may_store_value : (word : ℕ) → MayStep segment one (allocating_event (store_payload at 1 word))
  may_store_value word =
      may_store old.me.0 at behind raised enough segment one (histogram ∷ []) with_first (first.same.0 ∙ table) records 1 word (omega arith) (omega arith)

  pub put_two : (word : ℕ) → word ≡ cast_unsigned w64 value → AreOwnBlocksApart one.me.0 → (two : Pass) → Stepped one (allocating_event (store_payload at 1 word)) word two
      → IsPut old.me.0 at behind raised histogram value two.me.0
  put_two word is_word apart_then two second = record {
    payload = histogram ∷ word ∷ [];
    is = stores old.me.0 at behind raised enough segment one (histogram ∷ []) with_first (first.same.0 ∙ table) records apart_then 1 word two second;
    holds = (0, ap (λ (w : ℕ). histogram ∷ w ∷ []) is_word);
    stands = stands old.me.0 at behind raised enough segment mid [] view table records apart (histogram ∷ word ∷ []);
  }

-- ---- published

-- it may be published as the sample of a value of a sparse histogram that is known
pub fills : (a : Actor) (at behind : ℕ) (raised : List Rise) (histogram : ℕ) (value : ℤ) (now : Actor) → at + 8 ≤ behind → IsPut a at behind raised histogram value now → is_i32 value ≡ true
    → (known : Known) × Sparse a histogram known → IsFilledAs now at (Sample histogram value)
fills a at behind raised histogram value now enough put valued (known, (has, refers, sparse)) = record {
  own = block at (behind - at) put.payload;
  stands = ap (λ (x : Actor). own_at x.hand.own at) put.is ∙ put.stands;
  next = refl;
  asked = refl;
  payload = put.holds;
  may = (refl, omega (arith, enough), valued, (known, (subst (λ (x : Actor). Contains x.answers.names known) (sym put.is) has, refers, sparse)));
}

-- only its blocks differ
looks_at_hand : (a b : Actor) → b ≡ record a { hand = b.hand } → is_bound b.hand.place ≡ false → LooksOn a b
looks_at_hand a b is free = record {
  proceeds = record {
    same = is
        ∙ (λ i. record a {
          units = sym (ap (λ (x : Actor). x.units) is) i;
          entries = sym (ap (λ (x : Actor). x.entries) is) i;
          hand = b.hand;
          done = sym (ap (λ (x : Actor). x.done) is) i;
          seen = sym (ap (λ (x : Actor). x.seen) is) i;
        });
    free = free;
    done = subst (DoesOn a.done) (sym (ap (λ (x : Actor). x.done) is)) (does_not a.done);
    seen = subst (SeesOn a.seen) (sym (ap (λ (x : Actor). x.seen) is)) (sees_not a.seen);
  };
  units = ap (λ (x : Actor). x.units) is;
  entries = ap (λ (x : Actor). x.entries) is;
}

-- a publish
looks_published : (at histogram : ℕ) (value : ℤ) (a b : Actor) → HasPublished at (Sample histogram value) a b → LooksOn a b
looks_published at histogram value a b has = record {
  proceeds = record {
    same = has.view
        ∙ (λ i. record a {
          units = sym (ap (λ (x : Actor). x.units) has.view) i;
          entries = sym (ap (λ (x : Actor). x.entries) has.view) i;
          hand = sym (ap (λ (x : Actor). x.hand) has.view) i;
          done = sym (ap (λ (x : Actor). x.done) has.view) i;
          seen = sym (ap (λ (x : Actor). x.seen) has.view) i;
          answers = record a.answers { owed = append-nil a.answers.owed i };
        });
    free = ap (λ (x : Actor). is_bound x.hand.place) has.view;
    done = record {
      same = ap (λ (x : Actor). x.done) has.view
          ∙ (λ i. record a.done {
            claimed = sym (ap (λ (x : Actor). x.done.claimed) has.view) i;
            raised = sym (ap (λ (x : Actor). x.done.raised) has.view) i;
            published = sym (ap (λ (x : Actor). x.done.published) has.view) i;
            filled = sym (ap (λ (x : Actor). x.done.filled) has.view) i;
            lacked = sym (ap (λ (x : Actor). x.done.lacked) has.view) i;
            beaten = b.done.beaten;
          });
      claimed = grows_same a.done.claimed b.done.claimed (ap (λ (x : Actor). x.done.claimed) has.view);
      raised = grows_same a.done.raised b.done.raised (ap (λ (x : Actor). x.done.raised) has.view);
      published = (_, ap (λ (x : Actor). x.done.published) has.view);
      filled = λ set. ap (λ (x : Actor). x.done.filled) has.view ∙ set;
      lacked = grows_same a.done.lacked b.done.lacked (ap (λ (x : Actor). x.done.lacked) has.view);
      spoiled = λ set. ap (λ (x : Actor). x.done.claimed) has.view;
    };
    seen = subst (SeesOn a.seen) (sym (ap (λ (x : Actor). x.seen) has.view)) (sees_tails a.seen has.tails);
  };
  units = ap (λ (x : Actor). x.units) has.view;
  entries = ap (λ (x : Actor). x.entries) has.view;
}

module _ (at histogram : ℕ) (value : ℤ) (old mid now new : Actor) (unspoiled : old.done.spoiled ≡ false) (allocates : Allocates 8 3 old (Ok at) mid) where
  pub made : IsPut old at allocates.0 mid.done.raised histogram value now → HasPublished at (Sample histogram value) now new → HasMadeSample histogram value old new
  made put has = record {
    looks = looks_on old mid new (looks_claimed 8 3 at old mid unspoiled allocates)
        (looks_on mid now new
        (looks_at_hand mid now
        (put.is ∙ (λ i. record (sym allocates.1 i) { hand = sym (ap (λ (x : Actor). x.hand) put.is) i }))
        (ap (λ (x : Actor). is_bound x.hand.place) put.is))
        (looks_published at histogram value now new has));
    chain = ap (λ (x : Actor). x.seen.chain) has.view ∙ ap (λ (x : Actor). x.seen.chain) put.is;
    words = ap (λ (x : Actor). x.seen.words) has.view ∙ ap (λ (x : Actor). x.seen.words) put.is;
    counts = ap (λ (x : Actor). x.seen.counts) has.view ∙ ap (λ (x : Actor). x.seen.counts) put.is;
    filled = ap (λ (x : Actor). x.done.filled) has.view ∙ ap (λ (x : Actor). x.done.filled) put.is;
    at = at;
    published = subst (λ (l : List Published). Contains l (record { reference = at; made = Sample histogram value }))
        (sym (ap (λ (x : Actor). x.done.published) has.view)) (Contains-append_right now.done.published _ _ (0, omega arith, refl));
    makes = record {
      claim = record { at = at; size = allocates.0 - at };
      block = let enough = allocates.3 in let few = allocates.4 in (omega (arith, enough), omega (arith, enough, few));
      raises = subst (RaisesFor old.segment.shape 8 (record { at = at; size = allocates.0 - at }) old.done.raised) (sym raised_is) allocates.6;
      done = ap (λ (x : Actor). x.done) has.view
          ∙ (ap (λ (x : Actor). record x.done { published = x.done.published ++ record { reference = at; made = Sample histogram value } ∷ []; beaten = new.done.beaten }) put.is
          ∙ (λ i. record old.done {
            claimed = old.done.claimed ++ record { at = at; size = allocates.0 - at } ∷ [];
            raised = sym raised_is i;
            published = old.done.published ++ record { reference = at; made = Sample histogram value } ∷ [];
            beaten = new.done.beaten;
          }));
    };
  }
    where
      raised_is : new.done.raised ≡ mid.done.raised
      raised_is = ap (λ (x : Actor). x.done.raised) has.view ∙ ap (λ (x : Actor). x.done.raised) put.is

-- ---- refused

not_made : (why : Refusal) (old last new : Actor) (free : ℕ) (raised : List Rise) (full corrupt : Bool) (lacked : List ℕ) (warned : ℕ)
    → last ≡ record old {
      hand = record old.hand { place = Idle };
      done = record old.done { raised = raised; filled = full; lacked = lacked };
      seen = record old.seen { free = free; corrupt = corrupt; warned = warned };
    }
    → old.seen.free ≤ free → Grows old.done.raised raised → (old.done.filled ≡ true → full ≡ true) → (old.seen.corrupt ≡ true → corrupt ≡ true) → Grows old.done.lacked lacked → old.seen.warned ≤ warned
    → new ≡ given_up last → HasNoRoom why 8 old new → HasNotMadeSample why old new
not_made why old last new free raised full corrupt lacked warned is later rises still saw longer more ends room = record {
  last = last;
  looks = looks_refused old last free raised full corrupt lacked warned is later rises still saw longer more;
  seen = ap (λ (x : Actor). x.seen) is ∙ (λ i. record old.seen { free = sym (ap (λ (x : Actor). x.seen.free) is) i; corrupt = sym (ap (λ (x : Actor). x.seen.corrupt) is) i; warned = sym (ap (λ (x : Actor). x.seen.warned) is) i });
  ends = ends;
  idle = ap (λ (x : Actor). x.hand.place) (ends ∙ only_given_up last) ∙ ap (λ (x : Actor). x.hand.place) is;
  room = room;
}

pub refused_sample : (why : Refusal) (old new : Actor) → Allocates 8 3 old (Err why) new → HasNotMadeSample why old new
refused_sample Full old new (free, view, later, passes, wastes) =
    let last = filled (saw_free old Idle free new.done.raised) in
    not_made Full old last new free new.done.raised true old.seen.corrupt last.done.lacked old.seen.warned refl later (wastes.0, wastes.1) (λ e. refl) (λ e. e)
    (grows_by old.done.lacked _) (omega arith) view (lacks_room Full 8 3 old new (free, view, later, passes, wastes))
refused_sample Corrupt old new (free, view, later, wastes) =
    let last = noticed (saw_free old Idle free new.done.raised) in
    not_made Corrupt old last new free new.done.raised old.done.filled true old.done.lacked last.seen.warned refl later (wastes.0, wastes.1) (λ e. e) (λ e. refl)
    (grows_not old.done.lacked) (omega arith) view (lacks_room Corrupt 8 3 old new (free, view, later, wastes))
refused_sample _ old new none = absurd none

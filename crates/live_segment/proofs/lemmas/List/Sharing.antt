-- A try of a call on a shared cursor: what a recorder knows once it has loaded the cursor and the next at it, and once its exchange
-- succeeded or came too late.
use Rattle.std.proofs.Common.{◌≡◌, ◌≢◌, ℕ, ◌+◌, ◌-◌, ◌*◌, ◌<◌, ◌≤◌, ◌==◌, Bool, true, false, if◌then◌else◌, List, [], ◌∷◌, ◌++◌, length, drop, set, slice_index, inr, refl, sym, ap, subst, ◌∙◌, eq-eqb, ne_eqb, arith, All, Option, Some, None}
use Rattle.std.specs.List.{Contains}
use Rattle.std.proofs.lemmas.List.{append-nil, append_assoc, set-set, set-get_or, get_or-set_same}
use Rattle.std.proofs.lemmas.List.Elements.{All-push, Contains-push}
use Rattle.segment_image.specs.Shape.{Dimensions}
use Rattle.list_core.specs.Chain.{is_reference}
use Rattle.list_core.specs.Walk.{IsPrefix}
use Rattle.segment_machine.specs.declared.actor.Actor.{Actor}
use Rattle.segment_machine.specs.declared.place.Place.{Place}
use Rattle.segment_machine.specs.declared.place.Place.TheVariants.{Idle, CursorLoaded, BehindCursor}
use Rattle.segment_machine.specs.declared.seen.Sighting.{Sighting}
use Rattle.segment_machine.specs.Actor.{is_bound, is_opener}
use Rattle.segment_machine.specs.Calls.{sight, ended as with_end}
use Rattle.segment_machine.specs.Cursors.{load_cursor, move_cursor, after_cursor}
use Rattle.segment_machine.specs.Event.{cursor_event, walking_event, next}
use Rattle.segment_machine.specs.Walking.{load_next, behind, records_met, IsNextOf}
use Rattle.live_segment.specs.declared.segment.Segment.{Segment}
use Rattle.live_segment.specs.Steps.{Pass, IsSame, Stepped}
use Rattle.live_segment.specs.Holders.{MayStep}
use Rattle.live_segment.specs.Seated.{IsSeated}
use Rattle.segment_promises.specs.Onward.{Grows}
use Rattle.segment_promises.proofs.Growing.{grows_on, extended_grows, extended_end, reference_within, reference_behind}
use Rattle.live_segment.specs.List.SharedCursors.{AnswersNext, IsLate, IsGivenNext, IsAtEnd, CursorMovesOn, at_cursor, ended_at, given_behind}
use Rattle.live_segment.proofs.lemmas.List.Ends.{found_now}

-- ---- what came before

pub late_not : (cursor : ℕ) (a : Actor) → is_bound a.hand.place ≡ false → IsLate cursor a a
late_not cursor a free = record {
  same = refl;
  free = free;
  lost = sym (set-get_or a.done.lost cursor 0);
  more = omega arith;
  chain = ([], sym (append-nil a.seen.chain));
  sights = [];
  cursors = sym (append-nil a.seen.cursors);
  of = λ k d low. absurd (omega arith);
}

-- a test whether a number is another
same_test : (n : ℕ) → (n == n) ≡ true
same_test n = eq-eqb n n refl

-- where a recorder is that has loaded the next at a shared cursor
behind_end : (cursor at found : ℕ) → found ≡ 12 → behind (CursorLoaded cursor at) at found ≡ Idle
behind_end cursor at found end =
    ap (λ (b : Bool). if b then (if found == 12 then Idle else BehindCursor cursor at found) else CursorLoaded cursor at) (same_test at)
    ∙ ap (λ (b : Bool). if b then Idle else BehindCursor cursor at found) (eq-eqb found 12 end)

behind_record : (cursor at found : ℕ) → found ≢ 12 → behind (CursorLoaded cursor at) at found ≡ BehindCursor cursor at found
behind_record cursor at found miss =
    ap (λ (b : Bool). if b then (if found == 12 then Idle else BehindCursor cursor at found) else CursorLoaded cursor at) (same_test at)
    ∙ ap (λ (b : Bool). if b then Idle else BehindCursor cursor at found) (ne_eqb found 12 miss)

-- ---- what it was given

pub gives_one : (cursor reference : ℕ) (old new : Actor) → IsGivenNext cursor old reference new
    → new.done.given ≡ old.done.given ++ record { cursor = cursor; reference = reference } ∷ []
gives_one cursor reference old new is =
    ap (λ (a : Actor). a.done.given) is.view
    ∙ ap (λ (a : Actor). a.done.given ++ record { cursor = cursor; reference = reference } ∷ []) is.before.same

pub gives_none : (cursor : ℕ) (old new : Actor) → IsAtEnd cursor old new → new.done.given ≡ old.done.given ++ []
gives_none cursor old new is =
    ap (λ (a : Actor). a.done.given) is.view ∙ (ap (λ (a : Actor). a.done.given) is.before.same ∙ sym (append-nil old.done.given))

-- ---- what it has seen

-- it has seen no less of the list
pub answer_grows : (cursor : ℕ) (old : Actor) (answer : Option ℕ) (new : Actor) → AnswersNext cursor old answer new → Grows old.seen.chain new.seen.chain
answer_grows cursor old (Some reference) new is =
    grows_on old.seen.chain is.late.seen.chain new.seen.chain is.before.chain
    (subst (Grows is.late.seen.chain) (sym (ap (λ (a : Actor). a.seen.chain) is.view)) (extended_grows is.late.seen.chain is.at reference))
answer_grows cursor old None new is = subst (Grows old.seen.chain) (sym (ap (λ (a : Actor). a.seen.chain) is.view)) is.before.chain

-- it knows the same histograms
pub answer_names : (cursor : ℕ) (old : Actor) (answer : Option ℕ) (new : Actor) → AnswersNext cursor old answer new → new.answers.names ≡ old.answers.names
answer_names cursor old (Some reference) new is = ap (λ (a : Actor). a.answers.names) is.view ∙ ap (λ (a : Actor). a.answers.names) is.before.same
answer_names cursor old None new is = ap (λ (a : Actor). a.answers.names) is.view ∙ ap (λ (a : Actor). a.answers.names) is.before.same

-- ---- a try

-- it is still the same seat
pub same_on : (a b c : Pass) → IsSame a b → IsSame b c → IsSame a c
same_on a b c one two = (two.0 ∙ one.0, two.1 ∙ one.1, two.2 ∙ one.2)

-- what it is once it has loaded a cursor and the next at it
abbrev followed : Actor → ℕ → ℕ → ℕ → Actor
followed a cursor at found = next (at_cursor a cursor at) (walking_event (load_next at)) found

-- between two tries: what was asked, and how often it has come too late
pub record IsSharing (segment : Segment) (cursor : ℕ) (first old : Pass) : Type 0 where
  pub seated : IsSeated segment first
  pub few : cursor < segment.setting.cursors
  pub same : IsSame first old
  pub late : IsLate cursor first.me.0 old.me.0

module _ {segment : Segment} {cursor : ℕ} {first old : Pass} (turn : IsSharing segment cursor first old) where
  numbered : old.me.0.segment.cursors ≡ segment.setting.cursors
  numbered = ap (λ (a : Actor). a.segment.cursors) turn.late.same ∙ turn.seated.of.cursors

  old_shape : old.me.0.segment.shape ≡ segment.setting.shape
  old_shape = ap (λ (a : Actor). a.segment.shape) turn.late.same ∙ turn.seated.of.shape

  old_records : is_opener old.me.0.role ≡ false
  old_records = ap (λ (a : Actor). is_opener a.role) turn.late.same ∙ turn.seated.recorder

  pub shape_is : old.me.0.segment.shape ≡ segment.setting.shape
  shape_is = old_shape

  pub may_load : MayStep segment old (cursor_event (load_cursor cursor))
  may_load = record {
    table = turn.same.0 ∙ turn.seated.table;
    recorder = old_records;
    ready = (turn.late.free, subst (λ (n : ℕ). cursor < n) (sym numbered) turn.few);
  }

  module _ (at : ℕ) (mid : Pass) (load : Stepped old (cursor_event (load_cursor cursor)) at mid) where
    place : mid.me.0.hand.place ≡ CursorLoaded cursor at
    place = ap (λ (a : Actor). a.hand.place) load.view

    pub may_follow : MayStep segment mid (walking_event (load_next at))
    may_follow = record {
      table = load.same.0 ∙ (turn.same.0 ∙ turn.seated.table);
      recorder = ap (λ (a : Actor). is_opener a.role) load.view ∙ old_records;
      ready = (ap is_bound place, inr (inr (cursor, place)));
    }

    pub room : at + 5 ≤ segment.setting.shape.size
    room =
        reference_within segment.setting.shape at segment.shaped
        (subst (λ (s : Dimensions). is_reference s.size at ≡ true) old_shape load.learned)

    module _ (found : ℕ) (new : Pass) (follow : Stepped mid (walking_event (load_next at)) found new) where
      view : new.me.0 ≡ followed old.me.0 cursor at found
      view = follow.view ∙ ap (λ (a : Actor). next a (walking_event (load_next at)) found) load.view

      -- it has seen the cursor there
      pub sighted : Contains new.me.0.seen.cursors (record { at = cursor; word = at })
      sighted =
          subst (λ (l : List Sighting). Contains l (record { at = cursor; word = at })) (sym (ap (λ (a : Actor). a.seen.cursors) view))
          (Contains-push old.me.0.seen.cursors (record { at = cursor; word = at }))

      learned : IsNextOf (at_cursor old.me.0 cursor at) at found
      learned = subst (λ (a : Actor). IsNextOf a at found) load.view follow.learned

      pub same_still : IsSame first new
      same_still = same_on first mid new (same_on first old mid turn.same load.same) follow.same

      pub new_shape : new.me.0.segment.shape ≡ segment.setting.shape
      new_shape = ap (λ (a : Actor). a.segment.shape) view ∙ old_shape

      -- the list ends there
      pub ended : found ≡ 12 → IsAtEnd cursor first.me.0 new.me.0
      ended end =
          let last : new.me.0 ≡ ended_at old.me.0 cursor at = view
          ∙ (λ i. record old.me.0 {
            hand = record old.me.0.hand { place = behind_end cursor at found end i };
            seen = record old.me.0.seen {
              chain = extended_end old.me.0.seen.chain at found end i;
              ends = with_end old.me.0.seen.ends (at + 3) (eq-eqb found 12 end i);
              cursors = old.me.0.seen.cursors ++ sight cursor at;
            };
          }) in
          let (chain, seen, ends, met) = learned.given cursor refl end in record {
            late = old.me.0;
            before = turn.late;
            at = at;
            next = subst (λ (n : ℕ). IsNextOf (at_cursor old.me.0 cursor at) at n) end learned;
            view = last;
            found = subst (λ (l : List ℕ). Contains (drop (length l) new.me.0.seen.ends) (at + 3)) (ap (λ (a : Actor). a.seen.ends) turn.late.same)
                (found_now old.me.0.seen new.me.0.seen (at + 3) true (ap (λ (a : Actor). a.seen.ends) last) refl);
            chain = chain;
            seen = subst (λ (a : Actor). IsPrefix a.seen.chain chain) (sym last) seen;
            ends = ends;
            met = subst (λ (a : Actor). All (Contains chain) (records_met a)) (sym last) met;
          }

      module _ (miss : found ≢ 12) where
        stands : new.me.0.hand.place ≡ BehindCursor cursor at found
        stands = ap (λ (a : Actor). a.hand.place) view ∙ behind_record cursor at found miss

        pub may_move : MayStep segment new (cursor_event (move_cursor cursor at found))
        may_move = record {
          table = follow.same.0 ∙ (load.same.0 ∙ (turn.same.0 ∙ turn.seated.table));
          recorder = ap (λ (a : Actor). is_opener a.role) view ∙ old_records;
          ready = stands;
        }

        module _ (other : ℕ) (last : Pass) (move : Stepped new (cursor_event (move_cursor cursor at found)) other last) where
          pub same_last : IsSame first last
          same_last = same_on first new last same_still move.same

          moved : last.me.0 ≡ after_cursor (other == at) (followed old.me.0 cursor at found) cursor found other
          moved = move.view ∙ ap (λ (a : Actor). after_cursor (other == at) a cursor found other) view

          -- the exchange succeeded
          pub given : other ≡ at → CursorMovesOn at found last.me.0 → IsGivenNext cursor first.me.0 found last.me.0
          given took (chain, neighbours, ordered) =
              let shape : old.me.0.segment.shape ≡ first.me.0.segment.shape = ap (λ (a : Actor). a.segment.shape) turn.late.same in
              let (low, high) = reference_behind first.me.0.segment.shape.size found
              (subst (λ (s : Dimensions). is_reference s.size found ≡ true) shape learned.reference) miss in record {
                late = old.me.0;
                before = turn.late;
                at = at;
                next = learned;
                behind = low;
                within = high;
                view = moved
                    ∙ (ap (λ (b : Bool). after_cursor b (followed old.me.0 cursor at found) cursor found other) (eq-eqb other at took)
                    ∙ ap (λ (b : Bool). let given = given_behind old.me.0 cursor at found in
                    record given { seen = record given.seen { ends = with_end old.me.0.seen.ends (at + 3) b } }) (ne_eqb found 12 miss));
                chain = chain;
                neighbours = neighbours;
                ordered = ordered;
              }

          -- it came too late
          module _ (beaten : other ≢ at) where
            again : last.me.0 ≡ after_cursor false (followed old.me.0 cursor at found) cursor found other
            again = moved ∙ ap (λ (b : Bool). after_cursor b (followed old.me.0 cursor at found) cursor found other) (ne_eqb other at beaten)

            losses : last.me.0.done.lost ≡ set old.me.0.done.lost cursor (slice_index old.me.0.done.lost cursor + 1)
            losses = ap (λ (a : Actor). a.done.lost) again

            counted : length old.me.0.done.lost ≡ old.me.0.segment.cursors
                → slice_index last.me.0.done.lost cursor ≡ slice_index old.me.0.done.lost cursor + 1
            counted many =
                ap (λ (l : List ℕ). slice_index l cursor) losses
                ∙ get_or-set_same old.me.0.done.lost cursor (slice_index old.me.0.done.lost cursor + 1) 0 (omega (arith, many, numbered, turn.few))

            pub later : length old.me.0.done.lost ≡ old.me.0.segment.cursors → IsLate cursor first.me.0 last.me.0
            later many =
                let sum = counted many in
                let were = turn.late.lost in
                let chains = ap (λ (a : Actor). a.seen.chain) again in record {
                  same = again ∙ ap (λ (a : Actor). after_cursor false (followed a cursor at found) cursor found other) turn.late.same
                      ∙ (λ i. record first.me.0 {
                        hand = record first.me.0.hand { place = Idle };
                        done = record first.me.0.done { lost = sym losses i };
                        seen = record first.me.0.seen {
                          chain = sym chains i;
                          ends = with_end first.me.0.seen.ends (at + 3) (ne_eqb found 12 miss i);
                          cursors = sym (ap (λ (a : Actor). a.seen.cursors) again) i;
                        };
                      })
                      ∙ ap (λ (p : Place). record first.me.0 {
                        hand = record first.me.0.hand { place = p };
                        done = record first.me.0.done { lost = last.me.0.done.lost };
                        seen = record first.me.0.seen { chain = last.me.0.seen.chain; cursors = last.me.0.seen.cursors };
                      }) (sym (ap (λ (a : Actor). a.hand.place) again));
                  free = ap (λ (a : Actor). is_bound a.hand.place) again;
                  lost = losses ∙ (ap (λ (l : List ℕ). set l cursor (slice_index old.me.0.done.lost cursor + 1)) were
                      ∙ (set-set first.me.0.done.lost cursor _ _
                      ∙ ap (set first.me.0.done.lost cursor) (sym sum)));
                  more = let rose = turn.late.more in omega (arith, sum, rose);
                  chain = grows_on first.me.0.seen.chain old.me.0.seen.chain last.me.0.seen.chain turn.late.chain
                      (subst (Grows old.me.0.seen.chain) (sym chains) (extended_grows old.me.0.seen.chain at found));
                  sights = (turn.late.sights ++ sight cursor at) ++ sight cursor other;
                  cursors = ap (λ (a : Actor). a.seen.cursors) again
                      ∙ (ap (λ (l : List Sighting). (l ++ sight cursor at) ++ sight cursor other) turn.late.cursors
                      ∙ (ap (λ (l : List Sighting). l ++ sight cursor other) (append_assoc first.me.0.seen.cursors turn.late.sights (sight cursor at))
                      ∙ append_assoc first.me.0.seen.cursors (turn.late.sights ++ sight cursor at) (sight cursor other)));
                  of = All-push (λ (s : Sighting). s.at ≡ cursor) (turn.late.sights ++ sight cursor at) (record { at = cursor; word = other })
                      (All-push (λ (s : Sighting). s.at ≡ cursor) turn.late.sights (record { at = cursor; word = at }) turn.late.of refl) refl;
                }

            -- that happens only few times
            pub falls : length old.me.0.done.lost ≡ old.me.0.segment.cursors
                → segment.setting.shape.size - slice_index last.me.0.done.lost cursor < segment.setting.shape.size - slice_index old.me.0.done.lost cursor
            falls many =
                let sum = counted many in
                let lost : new.me.0.done.lost ≡ old.me.0.done.lost = ap (λ (a : Actor). a.done.lost) view in
                let few_more : 5 * (slice_index old.me.0.done.lost cursor + 1) + 16 ≤ segment.setting.shape.size =
                subst (λ (p : Dimensions × List ℕ). 5 * (slice_index p.1 cursor + 1) + 16 ≤ p.0.size) (λ i. (new_shape i, lost i)) (move.learned.1 beaten) in
                omega (arith, sum, few_more)

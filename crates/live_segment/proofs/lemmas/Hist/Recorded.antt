-- The record of a histogram is made: its block is claimed, filled and published.
use Rattle.std.proofs.Common.{◌≡◌, ℕ, ◌+◌, ◌-◌, false, List, [], ◌∷◌, ◌++◌, length, sym, ap, subst, ◌∙◌, arith}
use Rattle.std.specs.Prelude.{Ok}
use Rattle.segment_machine.specs.declared.actor.Actor.{Actor}
use Rattle.segment_machine.specs.declared.actor.Made.TheVariants.{Histogram}
use Rattle.segment_machine.specs.declared.actor.Rise.{Rise}
use Rattle.segment_machine.specs.Actor.{is_bound}
use Rattle.segment_calls.specs.declared.asked.Asked.{Asked}
use Rattle.live_segment.specs.declared.rule.Announcement.{Announcement}
use Rattle.live_segment.specs.declared.segment.Segment.{Segment}
use Rattle.live_segment.specs.Alloc.Allocation.{Allocates, claimed}
use Rattle.live_segment.specs.Alloc.Rises.{RaisesFor}
use Rattle.live_segment.specs.Hist.ListSearch.{IsAsked}
use Rattle.live_segment.specs.Seated.{IsSeated}
use Rattle.live_segment.specs.Hist.NewRecord.{HasFilled, HasMade, SaysAsked}
use Rattle.live_segment.specs.List.Publish.{HasPublished, HasPublishedFor}
use Rattle.segment_promises.specs.Onward.{Grows, is_holding}
use Rattle.live_segment.specs.Hist.Search.{asked_at}
use Rattle.live_segment.specs.Steps.{Pass, IsSame}

module _ (segment : Segment) (asked : Asked) (is : IsAsked segment.setting.shape asked) (old mid : Pass)
    (seat : IsSeated segment old) (size at : ℕ)
    (sized : size ≡ 4 + length asked.payload.items) (same : IsSame old mid) (allocates : Allocates size 1 old.me.0 (Ok at) mid.me.0) where
  abbrev behind : ℕ
  behind = allocates.0

  abbrev raised : List Rise
  raised = mid.me.0.done.raised

  view_is : mid.me.0 ≡ claimed old.me.0 at behind 1 raised
  view_is = allocates.1

  module _ (full : Pass) (kept : IsSame mid full) (words : List ℕ) (all : words ≡ asked.payload.items) (filled : HasFilled at words mid.me.0 full.me.0) where
    full_is : full.me.0 ≡ record (claimed old.me.0 at behind 1 raised) { hand = full.me.0.hand }
    full_is = filled.view ∙ (λ i. record (view_is i) { hand = sym (ap (λ (a : Actor). a.hand) filled.view) i })

    pub made : (said : Announcement) → SaysAsked asked said → (new : Pass) → HasPublishedFor at said full.me.0 new.me.0 → old.me.0.done.spoiled ≡ false
        → HasMade asked old.me.0 new.me.0
    made said says new published unspoiled = record {
      at = at;
      view = whole ∙ (λ i. record old.me.0 {
        hand = new.me.0.hand;
        done = record old.me.0.done {
          claimed = sym claimed_is i;
          raised = sym raised_is i;
          published = old.me.0.done.published ++ record { reference = at; made = Histogram asked.name.items asked.spec } ∷ [];
          beaten = new.me.0.done.beaten;
        };
        seen = record old.me.0.seen { free = sym free_is i; tails = new.me.0.seen.tails };
        answers = record old.me.0.answers { owed = old.me.0.answers.owed ++ asked_at asked at ∷ [] };
      });
      free = ap (λ (a : Actor). is_bound a.hand.place) is_published.view;
      apart = ap (λ (a : Actor). is_holding a.hand.place) is_published.view;
      unspoiled = unspoiled;
      claimed = (record { at = at; size = behind - at } ∷ [], claimed_is);
      makes = record {
        claim = record { at = at; size = behind - at };
        block = let enough = allocates.3 in let few = allocates.4 in (omega (arith, sized, enough), omega (arith, sized, enough, few));
        raises = subst (λ (words : ℕ). RaisesFor old.me.0.segment.shape words (record { at = at; size = behind - at }) old.me.0.done.raised new.me.0.done.raised) sized
            (subst (RaisesFor old.me.0.segment.shape size (record { at = at; size = behind - at }) old.me.0.done.raised) (sym raised_is) allocates.6);
        done = ap (λ (a : Actor). a.done) whole ∙ (λ i. record old.me.0.done {
          claimed = old.me.0.done.claimed ++ record { at = at; size = behind - at } ∷ [];
          raised = sym raised_is i;
          published = old.me.0.done.published ++ record { reference = at; made = Histogram asked.name.items asked.spec } ∷ [];
          beaten = new.me.0.done.beaten;
        });
      };
      later = let first = allocates.2 in let enough = allocates.3 in omega (arith, first, enough, free_is);
      tails = subst (λ (a : Actor). Grows a.seen.tails new.me.0.seen.tails) full_is is_published.tails;
    }
      where
        is_published : HasPublished at (Histogram asked.name.items asked.spec) full.me.0 new.me.0
        is_published = published (Histogram asked.name.items asked.spec) says

        whole : new.me.0 ≡ record old.me.0 {
          hand = new.me.0.hand;
          done = record old.me.0.done {
            claimed = old.me.0.done.claimed ++ record { at = at; size = behind - at } ∷ [];
            raised = raised;
            published = old.me.0.done.published ++ record { reference = at; made = Histogram asked.name.items asked.spec } ∷ [];
            beaten = new.me.0.done.beaten;
          };
          seen = record old.me.0.seen { free = behind; tails = new.me.0.seen.tails };
          answers = record old.me.0.answers { owed = old.me.0.answers.owed ++ asked_at asked at ∷ [] };
        }
        whole = is_published.view ∙ (λ i. let a = full_is i in record a {
          hand = sym (ap (λ (b : Actor). b.hand) is_published.view) i;
          done = record a.done {
            published = a.done.published ++ record { reference = at; made = Histogram asked.name.items asked.spec } ∷ [];
            beaten = new.me.0.done.beaten;
          };
          seen = record a.seen { tails = new.me.0.seen.tails };
          answers = record a.answers { owed = a.answers.owed ++ asked_at asked at ∷ [] };
        })

        claimed_is : new.me.0.done.claimed ≡ old.me.0.done.claimed ++ record { at = at; size = behind - at } ∷ []
        claimed_is = ap (λ (a : Actor). a.done.claimed) whole

        raised_is : new.me.0.done.raised ≡ raised
        raised_is = ap (λ (a : Actor). a.done.raised) whole

        free_is : new.me.0.seen.free ≡ behind
        free_is = ap (λ (a : Actor). a.seen.free) whole

-- A publish: what a recorder knows between two of its steps, and at its end.
use Rattle.std.proofs.Common.{◌≡◌, ◌≢◌, ◌⊎◌, ℕ, ◌+◌, ◌-◌, ◌*◌, ◌<◌, ◌≤◌, ◌==◌, Bool, true, false, List, [], ◌∷◌, ◌++◌, inl, inr, refl, sym, ap, subst, ◌∙◌, eq-eqb, ne_eqb, arith, Option, Some, None}
use Rattle.std.specs.Prelude.{if◌then◌else◌}
use Rattle.segment_image.specs.Shape.{Dimensions}
use Rattle.list_core.specs.Chain.{is_reference}
use Rattle.segment_machine.specs.declared.actor.Actor.{Actor}
use Rattle.segment_machine.specs.declared.actor.Known.{Known}
use Rattle.segment_machine.specs.declared.actor.Made.{Made}
use Rattle.segment_machine.specs.declared.actor.Made.TheVariants.{Histogram, Sample}
use Rattle.segment_machine.specs.declared.actor.Own.{Own}
use Rattle.segment_machine.specs.declared.actor.Published.{Published}
use Rattle.segment_machine.specs.declared.place.Place.TheVariants.{Beaten, Idle}
use Rattle.segment_machine.specs.Actor.{is_bound, is_opener}
use Rattle.segment_machine.specs.Calls.{without}
use Rattle.segment_machine.specs.Event.{publishing_event, next}
use Rattle.segment_machine.specs.Note.{Note}
use Rattle.segment_machine.specs.Publishing.{store_own_next, load_tail, link, move_tail, own_at, owed_for, published_as, after_link, MayPublish}
use Rattle.segment_promises.specs.Follows.{MayNoteAll, noted_by}
use Rattle.live_segment.specs.declared.rule.Announcement.{Announcement}
use Rattle.live_segment.specs.declared.segment.Segment.{Segment}
use Rattle.live_segment.specs.Holders.{table_of, MayStep}
use Rattle.live_segment.specs.Seated.{IsSeated}
use Rattle.live_segment.specs.Steps.Listing.{asked_for, asking_notes, link_notes, MayLink, HasLinked}
use Rattle.segment_promises.specs.Onward.{Grows}
use Rattle.live_segment.specs.List.Publish.{IsFilledAs, HasPublished, owed_as}
use Rattle.live_segment.specs.Steps.{Pass, IsSame, Stepped}
use Rattle.live_segment.specs.Steps.GhostNotes.{Noted}
use Rattle.live_segment.proofs.lemmas.List.Owned.{own_there, own_changed, others_stay}
use Rattle.segment_promises.proofs.Growing.{grows_by, grows_not, grows_on, reference_within}
use Rattle.live_segment.proofs.lemmas.List.Sharing.{same_on}

-- the block as it waits: its next is stored, and what it is to hold may be noted
abbrev queued : Own → Option Made → Own
queued own what = record own { next = 12; made = what }

-- what may be published depends on the shape and on the histograms that are known
may_still : (a b : Actor) (own : Own) (what : Option Made) (made : Made) → b.segment.shape ≡ a.segment.shape → b.answers.names ≡ a.answers.names
    → MayPublish a own made → MayPublish b (queued own what) made
may_still a b own what (Histogram name spec) shape names (tag, named, lawful, fits) = (tag, named, lawful, rw shape fits)
may_still a b own what (Sample histogram value) shape names (tag, least, small, known) = (tag, least, small, rw names known)

-- a block waits at a word of a recorder's own, filled, and its record is not linked yet; tails were seen, and links came too late
pub record IsWaiting (first now : Pass) (at : ℕ) (made : Made) (own : Own) : Type 0 where
  pub same : IsSame first now
  pub view : now.me.0 ≡ record first.me.0 {
    hand = now.me.0.hand;
    done = record first.me.0.done { beaten = now.me.0.done.beaten };
    seen = record first.me.0.seen { tails = now.me.0.seen.tails };
  }
  pub free : is_bound now.me.0.hand.place ≡ false
  pub what : Option Made
  pub asked : (what ≡ None) ⊎ (what ≡ Some made)
  pub block : own_at now.me.0.hand.own at ≡ Some (queued own what)
  pub others : without at now.me.0.hand.own ≡ without at first.me.0.hand.own
  pub tails : Grows first.me.0.seen.tails now.me.0.seen.tails
  pub beaten : first.me.0.done.beaten ≤ now.me.0.done.beaten

-- ---- the next of its own

module _ {segment : Segment} {first : Pass} {at : ℕ} {made : Made} (is : IsFilledAs first.me.0 at made) (seated : IsSeated segment first) where
  pub may_store : MayStep segment first (publishing_event (store_own_next at))
  may_store =
      let there = own_there at first.me.0.hand.own is.own is.stands in record {
        table = seated.table;
        recorder = seated.recorder;
        ready = (is.own, (there.0, is.next), there.1);
      }

  pub begins : (found : ℕ) (new : Pass) → is_bound first.me.0.hand.place ≡ false → Stepped first (publishing_event (store_own_next at)) found new
      → IsWaiting first new at made is.own
  begins found new free step = record {
    same = step.same;
    view = step.view ∙ (λ i. record first.me.0 {
      hand = (sym (ap (λ (a : Actor). a.hand) step.view)) i;
      done = record first.me.0.done { beaten = (sym (ap (λ (a : Actor). a.done.beaten) step.view)) i };
      seen = record first.me.0.seen { tails = (sym (ap (λ (a : Actor). a.seen.tails) step.view)) i };
    });
    free = ap (λ (a : Actor). is_bound a.hand.place) step.view ∙ free;
    what = None;
    asked = inl refl;
    block =
        ap (λ (a : Actor). own_at a.hand.own at) step.view
        ∙ (own_changed at (λ (x : Own). record x { next = 12 }) first.me.0.hand.own is.own (λ x. refl) is.stands
        ∙ ap (λ (what : Option Made). Some (queued is.own what)) is.asked);
    others = ap (λ (a : Actor). without at a.hand.own) step.view ∙ others_stay at (λ (x : Own). record x { next = 12 }) first.me.0.hand.own (λ x. refl);
    tails = subst (Grows first.me.0.seen.tails) (sym (ap (λ (a : Actor). a.seen.tails) step.view)) (grows_not first.me.0.seen.tails);
    beaten = let e = ap (λ (a : Actor). a.done.beaten) step.view in omega (arith, e);
  }

-- ---- what it is to hold

-- notes before a link give what the block is to hold, unless that is noted already
record IsAsked (a : Actor) (at : ℕ) (made : Made) (own : Own) (notes : List Note) : Type 0 where
  may : MayNoteAll a notes
  only : noted_by a notes ≡ record a { hand = (noted_by a notes).hand }
  place : (noted_by a notes).hand.place ≡ a.hand.place
  block : own_at (noted_by a notes).hand.own at ≡ Some (queued own (Some made))
  others : without at (noted_by a notes).hand.own ≡ without at a.hand.own

asks_it : (a : Actor) (at : ℕ) (made : Made) (own : Own) (what : Option Made) → (what ≡ None) ⊎ (what ≡ Some made)
    → own_at a.hand.own at ≡ Some (queued own what) → IsAsked a at made own (link_notes a at made)
asks_it a at made own what (inl none) there =
    let found : own_at a.hand.own at ≡ Some (queued own None) = there ∙ ap (λ (w : Option Made). Some (queued own w)) none in
    let stands = own_there at a.hand.own (queued own None) found in
    let change : Own → Own = λ x. record x { made = Some made } in
    subst (IsAsked a at made own) (sym (ap (λ (block : Option Own). asking_notes block at made) found)) (record {
      may = ((queued own None, stands.0, stands.1, refl), refl);
      only = refl;
      place = refl;
      block = own_changed at change a.hand.own (queued own None) (λ x. refl) found;
      others = others_stay at change a.hand.own (λ x. refl);
    })
asks_it a at made own what (inr said) there =
    let found : own_at a.hand.own at ≡ Some (queued own (Some made)) = there ∙ ap (λ (w : Option Made). Some (queued own w)) said in
    subst (IsAsked a at made own) (sym (ap (λ (block : Option Own). asking_notes block at made) found))
    (record { may = refl; only = refl; place = refl; block = found; others = refl })

-- what is owed for it
owes : (own : Own) (at : ℕ) (made : Made) → owed_for (Some (queued own (Some made))) at ≡ owed_as at made
owes own at (Histogram name spec) = refl
owes own at (Sample histogram value) = refl

-- ---- between two tries

module _ {segment : Segment} {first old : Pass} {at : ℕ} {made : Made} (is : IsFilledAs first.me.0 at made) (seated : IsSeated segment first)
    (waits : IsWaiting first old at made is.own) where
  shape_is : old.me.0.segment.shape ≡ segment.setting.shape
  shape_is = ap (λ (a : Actor). a.segment.shape) waits.view ∙ seated.of.shape

  old_records : is_opener old.me.0.role ≡ false
  old_records = ap (λ (a : Actor). is_opener a.role) waits.view ∙ seated.recorder

  pub may_load : MayStep segment old (publishing_event load_tail)
  may_load =
      let there = own_there at old.me.0.hand.own (queued is.own waits.what) waits.block in record {
        table = waits.same.0 ∙ seated.table;
        recorder = old_records;
        ready = (waits.free, (queued is.own waits.what, (there.0, refl)));
      }

  module _ (tail : ℕ) (seat : Pass) (step : Stepped old (publishing_event load_tail) tail seat) where
    pub room : tail + 5 ≤ segment.setting.shape.size
    room = reference_within segment.setting.shape tail segment.shaped
        (subst (λ (s : Dimensions). is_reference s.size tail ≡ true) shape_is step.learned)

    pub table_still : seat.table_id ≡ table_of segment
    table_still = step.same.0 ∙ (waits.same.0 ∙ seated.table)

    block_still : own_at seat.me.0.hand.own at ≡ Some (queued is.own waits.what)
    block_still = ap (λ (a : Actor). own_at a.hand.own at) step.view ∙ waits.block

    abbrev notes : List Note
    notes = link_notes seat.me.0 at made

    abbrev x : Actor
    x = noted_by seat.me.0 notes

    asked : IsAsked seat.me.0 at made is.own notes
    asked = asks_it seat.me.0 at made is.own waits.what waits.asked block_still

    -- what it is then, except for its place
    viewed : x ≡ record first.me.0 {
      hand = x.hand;
      done = record first.me.0.done { beaten = old.me.0.done.beaten };
      seen = record first.me.0.seen { tails = old.me.0.seen.tails ++ tail ∷ [] };
    }
    viewed =
        asked.only
        ∙ (ap (λ (a : Actor). record a { hand = x.hand }) step.view
        ∙ ap (λ (a : Actor). record a { hand = x.hand; seen = record a.seen { tails = old.me.0.seen.tails ++ tail ∷ [] } }) waits.view)

    others : without at x.hand.own ≡ without at first.me.0.hand.own
    others = asked.others ∙ (ap (λ (a : Actor). without at a.hand.own) step.view ∙ waits.others)

    seat_records : is_opener seat.me.0.role ≡ false
    seat_records = ap (λ (a : Actor). is_opener a.role) step.view ∙ old_records

    pub may_link : (saying : Announcement) → asked_for saying ≡ Some made → MayLink seat tail at saying
    may_link saying says =
        let there = own_there at x.hand.own (queued is.own (Some made)) asked.block in (
          made,
          says,
          record {
            recorder = seat_records;
            may = asked.may;
            ready = (
              queued is.own (Some made),
              made,
              asked.place ∙ ap (λ (a : Actor). a.hand.place) step.view,
              (there.0, refl),
              there.1,
              refl,
              is.payload,
              may_still first.me.0 x is.own (Some made) made (ap (λ (a : Actor). a.segment.shape) viewed) (ap (λ (a : Actor). a.answers.names) viewed) is.may,
            );
            goes = λ found told. refl;
          },
        )

    module _ (saying : Announcement) (says : asked_for saying ≡ Some made) (found : ℕ) (after : Pass) (has : HasLinked seat tail at saying found after) where
      told : Noted seat notes (publishing_event (link tail at)) [] found after
      told = has made says

      after_records : is_opener after.me.0.role ≡ false
      after_records = ap (λ (a : Actor). is_opener a.role) told.view ∙ (by (found == 12) ∙ (ap (λ (a : Actor). is_opener a.role) asked.only ∙ seat_records))
        where
          by : (b : Bool) → is_opener (after_link b x tail at found).role ≡ is_opener x.role
          by true = refl
          by false = refl

      same_after : IsSame first after
      same_after = same_on first seat after (same_on first old seat waits.same step.same) told.same

      -- the record is linked
      module _ (end : found ≡ 12) where
        won : after.me.0 ≡ after_link true x tail at found
        won = told.view ∙ ap (λ (b : Bool). after_link b x tail at found) (eq-eqb found 12 end)

        pub may_end : MayStep segment after (publishing_event (move_tail tail at))
        may_end = record {
          table = same_after.0 ∙ seated.table;
          recorder = after_records;
          ready = inl (ap (λ (a : Actor). a.hand.place) won);
        }

        module _ (moved : ℕ) (new : Pass) (last : Stepped after (publishing_event (move_tail tail at)) moved new) where
          pub same_end : IsSame first new
          same_end = same_on first after new same_after last.same

          tails_are : new.me.0.seen.tails ≡ (old.me.0.seen.tails ++ tail ∷ []) ++ (if moved == tail then at else moved) ∷ []
          tails_are = ap (λ (a : Actor). a.seen.tails) last.view
              ∙ ap (λ (list : List ℕ). list ++ (if moved == tail then at else moved) ∷ [])
              (ap (λ (a : Actor). a.seen.tails) won ∙ ap (λ (a : Actor). a.seen.tails) viewed)

          beaten_is : new.me.0.done.beaten ≡ old.me.0.done.beaten
          beaten_is = ap (λ (a : Actor). a.done.beaten) last.view ∙ (ap (λ (a : Actor). a.done.beaten) won ∙ ap (λ (a : Actor). a.done.beaten) viewed)

          abbrev published_with : List Own → List Published → List Known → ℕ → List ℕ → Actor
          published_with own published owed beaten tails = record first.me.0 {
            hand = record { place = Idle; own = own };
            done = record first.me.0.done { published = first.me.0.done.published ++ published; beaten = beaten };
            seen = record first.me.0.seen { tails = tails };
            answers = record first.me.0.answers { owed = first.me.0.answers.owed ++ owed };
          }

          abbrev published : List Published
          published = published_as (own_at x.hand.own at) at

          abbrev owed : List Known
          owed = owed_for (own_at x.hand.own at) at

          ended : new.me.0 ≡ published_with (without at x.hand.own) published owed old.me.0.done.beaten new.me.0.seen.tails
          ended =
              last.view
              ∙ ((λ i. record after.me.0 { hand = record after.me.0.hand { place = Idle }; seen = record after.me.0.seen { tails = (sym (ap (λ (a : Actor). a.seen.tails) last.view)) i } })
              ∙ (ap (λ (a : Actor). record a { hand = record a.hand { place = Idle }; seen = record a.seen { tails = new.me.0.seen.tails } }) won
              ∙ ap (λ (a : Actor). record a {
                hand = record { place = Idle; own = without at x.hand.own };
                done = record a.done { published = a.done.published ++ published };
                seen = record a.seen { tails = new.me.0.seen.tails };
                answers = record a.answers { owed = a.answers.owed ++ owed };
              }) viewed))

          pub has_published : HasPublished at made first.me.0 new.me.0
          has_published = record {
            view = ended ∙ (λ i. published_with (others i) (ap (λ (block : Option Own). published_as block at) asked.block i)
                ((ap (λ (block : Option Own). owed_for block at) asked.block ∙ owes is.own at made) i) (sym beaten_is i) new.me.0.seen.tails);
            tails = grows_on first.me.0.seen.tails old.me.0.seen.tails new.me.0.seen.tails waits.tails
                (subst (Grows old.me.0.seen.tails) (sym tails_are)
                (grows_on old.me.0.seen.tails (old.me.0.seen.tails ++ tail ∷ []) _ (grows_by old.me.0.seen.tails (tail ∷ []))
                (grows_by (old.me.0.seen.tails ++ tail ∷ []) ((if moved == tail then at else moved) ∷ []))));
            beaten = let e = beaten_is in let more = waits.beaten in omega (arith, e, more);
          }

      -- another record was linked first
      module _ (miss : found ≢ 12) where
        lost : after.me.0 ≡ after_link false x tail at found
        lost = told.view ∙ ap (λ (b : Bool). after_link b x tail at found) (ne_eqb found 12 miss)

        pub may_go_on : MayStep segment after (publishing_event (move_tail tail found))
        may_go_on = record {
          table = same_after.0 ∙ seated.table;
          recorder = after_records;
          ready = inr (ap (λ (a : Actor). a.hand.place) lost);
        }

        module _ (moved : ℕ) (new : Pass) (last : Stepped after (publishing_event (move_tail tail found)) moved new) where
          more_beaten : new.me.0.done.beaten ≡ old.me.0.done.beaten + 1
          more_beaten = ap (λ (a : Actor). a.done.beaten) last.view
              ∙ (ap (λ (a : Actor). a.done.beaten) lost ∙ ap (λ (a : Actor). a.done.beaten + 1) viewed)

          more_tails : new.me.0.seen.tails ≡ (old.me.0.seen.tails ++ tail ∷ []) ++ (if moved == tail then found else moved) ∷ []
          more_tails = ap (λ (a : Actor). a.seen.tails) last.view
              ∙ ap (λ (list : List ℕ). list ++ (if moved == tail then found else moved) ∷ [])
              (ap (λ (a : Actor). a.seen.tails) lost ∙ ap (λ (a : Actor). a.seen.tails) viewed)

          own_is : new.me.0.hand.own ≡ x.hand.own
          own_is = ap (λ (a : Actor). a.hand.own) last.view ∙ ap (λ (a : Actor). a.hand.own) lost

          pub waits_on : IsWaiting first new at made is.own
          waits_on = record {
            same = same_on first after new same_after last.same;
            view =
                last.view
                ∙ (ap (λ (a : Actor). next a (publishing_event (move_tail tail found)) moved) lost
                ∙ (ap (λ (a : Actor). next (record (after_link false a tail at found) { hand = record x.hand { place = Beaten tail found } }) (publishing_event (move_tail tail found)) moved) viewed
                ∙ (λ i. record first.me.0 {
                  hand = record { place = (sym (ap (λ (a : Actor). a.hand.place) last.view)) i; own = sym own_is i };
                  done = record first.me.0.done { beaten = sym more_beaten i };
                  seen = record first.me.0.seen { tails = sym more_tails i };
                })));
            free = ap (λ (a : Actor). is_bound a.hand.place) last.view;
            what = Some made;
            asked = inr refl;
            block = ap (λ list. own_at list at) own_is ∙ asked.block;
            others = ap (without at) own_is ∙ others;
            tails = grows_on first.me.0.seen.tails old.me.0.seen.tails new.me.0.seen.tails waits.tails
                (subst (Grows old.me.0.seen.tails) (sym more_tails)
                (grows_on old.me.0.seen.tails (old.me.0.seen.tails ++ tail ∷ []) _ (grows_by old.me.0.seen.tails (tail ∷ []))
                (grows_by (old.me.0.seen.tails ++ tail ∷ []) ((if moved == tail then found else moved) ∷ []))));
            beaten = let e = more_beaten in let more = waits.beaten in omega (arith, e, more);
          }

          pub falls : segment.setting.shape.size - 5 * new.me.0.done.beaten < segment.setting.shape.size - 5 * old.me.0.done.beaten
          falls =
              let few : 5 * (x.done.beaten + 1) + 16 ≤ x.segment.shape.size = told.learned.1 miss in
              let size : x.segment.shape.size ≡ segment.setting.shape.size =
              ap (λ (a : Actor). a.segment.shape.size) viewed ∙ ap (λ (s : Dimensions). s.size) seated.of.shape in
              let times : x.done.beaten ≡ old.me.0.done.beaten = ap (λ (a : Actor). a.done.beaten) viewed in
              let more = more_beaten in
              omega (arith, few, size, times, more)

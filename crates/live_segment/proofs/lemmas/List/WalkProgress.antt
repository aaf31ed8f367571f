-- A walk along the list continues, whatever it looks for: what a recorder knows once it has loaded the next of the block where the walk is.
use Rattle.std.proofs.Common.{◌≡◌, ◌≢◌, ℕ, ◌+◌, ◌<◌, ◌≤◌, ◌==◌, Bool, true, List, [], ◌∷◌, ◌++◌, length, slice_index, refl, sym, ap, subst, ◌∙◌, arith, ne_eqb, length-append, eq-eqb}
use Rattle.std.specs.Prelude.{if◌then◌else◌}
use Rattle.std.specs.List.{All, Contains}
use Rattle.std.proofs.lemmas.List.{append-nil, get_or_push, get_or_append_left, length_push}
use Rattle.std.proofs.lemmas.List.Elements.{Contains-append_left, Contains-append_right}
use Rattle.segment_image.specs.Shape.{Dimensions}
use Rattle.list_core.specs.declared.walk.WalkStep.TheVariants.{Record, End, Stray}
use Rattle.list_core.specs.Chain.{is_reference, stops}
use Rattle.list_core.specs.Walk.{IsPrefix, given_after, said_of, stands_behind}
use Rattle.list_core.proofs.Walks.{place_of}
use Rattle.segment_machine.specs.declared.actor.Actor.{Actor}
use Rattle.segment_machine.specs.Actor.{is_bound}
use Rattle.segment_machine.specs.Calls.{ended}
use Rattle.segment_machine.specs.Event.{walking_event, Ready}
use Rattle.segment_machine.specs.Stages.{Walks}
use Rattle.segment_machine.specs.Walking.{load_next, extended, records_met}
use Rattle.segment_machine.proofs.Stages.Walks.{walks_agree}
use Rattle.live_segment.specs.declared.segment.Segment.{Segment}
use Rattle.live_segment.specs.Steps.{Pass, Stepped}
use Rattle.live_segment.specs.Holders.{MayStep}
use Rattle.live_segment.specs.Seated.{IsSeated}
use Rattle.segment_promises.specs.Onward.{Grows, is_holding}
use Rattle.segment_promises.specs.Values.{NoRepeats}
use Rattle.live_segment.specs.List.Ends.{FoundNone, SawAllOfList}
use Rattle.live_segment.specs.Hist.ListSearch.{MayLoadRecord, SeesWords}
use Rattle.live_segment.specs.Hist.Search.{HasSearched}
use Rattle.live_segment.specs.List.Walk.{IsWalkProgress}
use Rattle.segment_promises.proofs.Growing.{ended_grows, extended_end, extended_grows, reference_behind}
use Rattle.segment_promises.proofs.Furthest.{last_of, last_least, last_most, last_stands}
use Rattle.segment_promises.proofs.Calls.Places.{behind_apart}
use Rattle.live_segment.proofs.lemmas.List.Ends.{found_now}
use Rattle.live_segment.proofs.lemmas.List.Walked.{all_given}

module _ {segment : Segment} {old : Pass} {given : List ℕ} {at : ℕ} (seated : IsSeated segment old) (way : IsWalkProgress given at old.me.0) where
  abbrev chain : List ℕ
  chain = old.me.0.seen.chain

  pub may_follow : MayStep segment old (walking_event (load_next at))
  may_follow = record {
    table = seated.table;
    recorder = seated.recorder;
    ready = subst (λ (n : ℕ). Ready old.me.0 (walking_event (load_next n))) (sym way.stands) (walks_agree 0 1 old.me.0 given (way.free, way.front)).1;
  }

  pub room : at + 5 ≤ segment.setting.shape.size
  room = subst (λ (d : Dimensions). at + 5 ≤ d.size) seated.of.shape way.within

  module _ (found : ℕ) (new : Pass) (load : Stepped old (walking_event (load_next at)) found new) where
    chain_is : new.me.0.seen.chain ≡ extended chain at found
    chain_is = ap (λ (a : Actor). a.seen.chain) load.view

    words_are : new.me.0.seen.words ≡ old.me.0.seen.words
    words_are = ap (λ (a : Actor). a.seen.words) load.view

    ends_are : new.me.0.seen.ends ≡ ended old.me.0.seen.ends (at + 3) (found == 12)
    ends_are = ap (λ (a : Actor). a.seen.ends) load.view

    pub searched : HasSearched old.me.0 new.me.0
    searched = record {
      view = load.view ∙ (λ i. record old.me.0 {
        hand = record old.me.0.hand { place = sym (ap (λ (a : Actor). a.hand.place) load.view) i };
        seen = record old.me.0.seen { chain = sym chain_is i; ends = sym ends_are i; words = sym words_are i };
      });
      apart = λ was. ap (λ (a : Actor). is_holding a.hand.place) load.view ∙ behind_apart old.me.0.hand.place at found was;
      chain = subst (Grows chain) (sym chain_is) (extended_grows chain at found);
      ends = subst (Grows old.me.0.seen.ends) (sym ends_are) (ended_grows old.me.0.seen.ends (at + 3) (found == 12));
      words = ([], words_are ∙ sym (append-nil old.me.0.seen.words));
    }

    walks_on : Walks new.me.0 (given_after given (said_of old.me.0.segment.shape.size found))
    walks_on =
        let there : Stepped old (walking_event (load_next (stands_behind given))) found new =
        subst (λ (n : ℕ). Stepped old (walking_event (load_next n)) found new) way.stands load in
        subst (λ (a : Actor). Walks a (given_after given (said_of old.me.0.segment.shape.size found))) (sym there.view)
        ((walks_agree 0 1 old.me.0 given (way.free, way.front)).2 found there.learned)

    -- at the end of the list
    module _ (once : NoRepeats chain) (end : found ≡ 12) where
      pub whole : given ≡ chain
      whole =
          let (rest, front) = way.front in
          all_given given rest chain found front once (λ passed. load.learned.again (length given) passed (place_of given rest chain front ∙ sym way.stands)) end

      pub chain_still : new.me.0.seen.chain ≡ chain
      chain_still = chain_is ∙ extended_end chain at found end

      -- it has seen all of the list
      pub found_end : SawAllOfList old.me.0.seen new.me.0.seen
      found_end =
          subst (λ (n : ℕ). FoundNone (n + 3) old.me.0.seen new.me.0.seen) (way.stands ∙ ap stands_behind (whole ∙ sym chain_still))
          (found_now old.me.0.seen new.me.0.seen (at + 3) (found == 12) ends_are (eq-eqb found 12 end))

      -- all that it visited is there
      pub met_all : All (Contains chain) (records_met old.me.0)
      met_all = load.learned.all (ap stands_behind (sym whole) ∙ sym way.stands) end

      pub way_still : IsWalkProgress given at new.me.0
      way_still =
          let gave : given_after given (said_of old.me.0.segment.shape.size found) ≡ given =
          ap (λ (b : Bool). given_after given (if b then End else (if is_reference old.me.0.segment.shape.size found then Record found else Stray))) (eq-eqb found 12 end) in record {
            free = walks_on.0;
            front = (subst (Walks new.me.0) gave walks_on).1;
            stands = way.stands;
            within = subst (λ (d : Dimensions). at + 5 ≤ d.size) (sym (ap (λ (a : Actor). a.segment.shape) load.view)) way.within;
          }

    -- a record comes after
    module _ (miss : found ≢ 12) where
      gave_one : given_after given (said_of old.me.0.segment.shape.size found) ≡ given ++ found ∷ []
      gave_one =
          ap (λ (b : Bool × Bool). given_after given (if b.0 then End else if b.1 then Record found else Stray))
          (λ i. (ne_eqb found 12 miss i, load.learned.reference i))

      pub longer : Walks new.me.0 (given ++ found ∷ [])
      longer = subst (Walks new.me.0) gave_one walks_on

      pub meets : MayLoadRecord found new.me.0
      meets =
          let (rest, front) = longer.1 in (
            longer.0,
            subst (λ (l : List ℕ). Contains l found) (sym front)
                (Contains-append_left (given ++ found ∷ []) rest found (Contains-append_right given (found ∷ []) found (0, omega arith, refl))),
          )

      pub room_found : found + 5 ≤ segment.setting.shape.size
      room_found =
          (reference_behind segment.setting.shape.size found
          (subst (λ (d : Dimensions). is_reference d.size found ≡ true) seated.of.shape load.learned.reference) miss).1

      -- it continues after that record, once words of it were seen
      module _ (b : Actor) (sees : SeesWords new.me.0 b) where
        pub way_on : IsWalkProgress (given ++ found ∷ []) found b
        way_on =
            let long = length_push given found in
            let then_chain = ap (λ (x : Actor). x.seen.chain) sees.view in record {
              free = ap (λ (x : Actor). is_bound x.hand.place) sees.view ∙ longer.0;
              front = subst (IsPrefix (given ++ found ∷ [])) (sym then_chain) longer.1;
              stands = sym (get_or_push (stops given) found 0 (length (given ++ found ∷ [])) (omega (arith, long)));
              within = subst (λ (d : Dimensions). found + 5 ≤ d.size)
                  (sym (ap (λ (x : Actor). x.segment.shape) sees.view ∙ (ap (λ (x : Actor). x.segment.shape) load.view ∙ seated.of.shape))) room_found;
            }

        -- it has come further along the list, which fits in the segment
        pub comes_further : NoRepeats chain
            → (last_of chain at < last_of b.seen.chain found) × (last_of b.seen.chain found ≤ segment.setting.shape.size)
        comes_further once =
            let (rest, front) = way.front in
            let (behind, all_of) = longer.1 in
            let then_chain : b.seen.chain ≡ (given ++ found ∷ []) ++ behind = ap (λ (x : Actor). x.seen.chain) sees.view ∙ all_of in
            let long = length_push given found in
            let all : length b.seen.chain ≡ length (given ++ found ∷ []) + length behind = ap length then_chain ∙ length-append (given ++ found ∷ []) behind in
            let there : slice_index b.seen.chain (length given) ≡ found =
            ap (λ (l : List ℕ). slice_index l (length given)) then_chain
            ∙ (get_or_append_left (given ++ found ∷ []) behind 0 (length given) (omega (arith, long)) ∙ get_or_push given found 0 (length given) refl) in
            let far = last_least b.seen.chain (length given) found (omega (arith, all, long)) there in
            let near : last_of chain at ≤ length given = subst (λ (n : ℕ). last_of chain n ≤ length given) (sym way.stands) (last_stands given rest chain front once) in
            let most = last_most b.seen.chain found in
            let few = load.learned.few in
            let ends = ap length (ap (λ (x : Actor). x.seen.chain) sees.view ∙ chain_is) in
            let size = ap (λ (d : Dimensions). d.size) seated.of.shape in
            (omega (arith, far, near), omega (arith, most, few, ends, size))

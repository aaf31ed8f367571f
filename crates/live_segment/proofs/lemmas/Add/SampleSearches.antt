-- A search for the sample of a value: what a recorder knows once it has loaded the next of the block where its walk is, and once it has
-- looked at the record that it visited.
use Rattle.std.proofs.Common.{◌≡◌, ◌≢◌, ℕ, ◌+◌, ◌≤◌, ℤ, ◌==◌, true, not, List, [], ◌∷◌, ◌++◌, map, refl, sym, ap, subst, ◌∙◌}
use Rattle.std.specs.List.{All, Contains, filter}
use Rattle.std.proofs.lemmas.List.{append_assoc}
use Rattle.std.proofs.lemmas.List.Elements.{All-push, All-contains, Contains-append_left}
use Rattle.segment_machine.specs.declared.actor.Actor.{Actor}
use Rattle.segment_machine.specs.declared.actor.Given.{Given}
use Rattle.segment_machine.specs.declared.actor.Made.TheVariants as made
use Rattle.segment_machine.specs.declared.actor.Published.{Published}
use Rattle.segment_machine.specs.declared.seen.Sighting.{Sighting}
use Rattle.segment_machine.specs.Event.{walking_event}
use Rattle.segment_machine.specs.Made.{SawOther}
use Rattle.segment_machine.specs.Walking.{load_next, records_met}
use Rattle.segment_invariant.proofs.Lists.Maps.{contains_map}
use Rattle.live_segment.specs.declared.add.sample_search.SampleSearch.TheVariants as search
use Rattle.live_segment.specs.declared.segment.Segment.{Segment}
use Rattle.live_segment.specs.Steps.{Pass, Stepped}
use Rattle.live_segment.specs.Holders.{MayStep}
use Rattle.live_segment.specs.Seated.{IsSeated}
use Rattle.segment_promises.specs.Values.{NoRepeats}
use Rattle.live_segment.specs.List.Records.{KnowsOwnSamples}
use Rattle.live_segment.specs.Hist.ListSearch.{MayLoadRecord, SeesWords}
use Rattle.live_segment.specs.List.Ends.{SawAllOfList}
use Rattle.live_segment.specs.Hist.Search.{HasSearched}
use Rattle.live_segment.specs.Add.SampleSearch.{FindsSample, ShowsValue, WalksBehind}
use Rattle.live_segment.specs.List.Walk.{IsWalkProgress}
use Rattle.live_segment.proofs.lemmas.List.WalkProgress as way
use Rattle.segment_promises.proofs.Growing.{others_still}

-- ---- a next

module _ {segment : Segment} {old : Pass} {histogram : ℕ} {value : ℤ} {at : ℕ} (seated : IsSeated segment old) (walks : WalksBehind histogram value at old.me.0) where
  abbrev given : List ℕ
  given = walks.front ++ histogram ∷ walks.given

  pub may_follow : MayStep segment old (walking_event (load_next at))
  may_follow = way.may_follow seated walks.way

  pub room : at + 5 ≤ segment.setting.shape.size
  room = way.room seated walks.way

  module _ (found : ℕ) (new : Pass) (load : Stepped old (walking_event (load_next at)) found new) where
    pub searched : HasSearched old.me.0 new.me.0
    searched = way.searched seated walks.way found new load

    others_then : All (SawOther new.me.0.seen histogram value) walks.given
    others_then = others_still old.me.0.seen new.me.0.seen searched.words histogram value walks.given walks.others

    -- at the end of the list it has seen all of it
    pub found_end : NoRepeats old.me.0.seen.chain → found ≡ 12 → SawAllOfList old.me.0.seen new.me.0.seen
    found_end once end = way.found_end seated walks.way found new load once end

    -- at the end of the list there is none, and so it has published none
    pub ends : NoRepeats old.me.0.seen.chain → KnowsOwnSamples old.me.0 → found ≡ 12 → FindsSample histogram value (search.End at) new.me.0
    ends once knows end =
        let whole : given ≡ old.me.0.seen.chain = way.whole seated walks.way found new load once end in (
          record {
            front = walks.front;
            given = walks.given;
            way = way.way_still seated walks.way found new load once end;
            others = others_then;
          },
          (
            walks.front,
            walks.given,
            way.chain_still seated walks.way found new load once end ∙ sym whole,
            others_then,
          ),
          λ r has.
              let p : Published = record { reference = r; made = made.Sample histogram value } in
              let published : Contains old.me.0.done.published p =
              subst (λ (l : List Published). Contains l p) (ap (λ (a : Actor). a.done.published) load.view) has in
              let listed : Contains old.me.0.seen.chain r = All-contains (Contains old.me.0.seen.chain) (records_met old.me.0) r
              (way.met_all seated walks.way found new load once end)
              (Contains-append_left
              (map (λ (p : Published). p.reference) old.me.0.done.published ++ map (λ (g : Given). g.reference) old.me.0.done.given)
              (filter (λ at. not (at == 12)) (old.me.0.seen.tails ++ map (λ (s : Sighting). s.word) old.me.0.seen.cursors)) r
              (Contains-append_left (map (λ (p : Published). p.reference) old.me.0.done.published) (map (λ (g : Given). g.reference) old.me.0.done.given) r
              (contains_map (λ (p : Published). p.reference) old.me.0.done.published p published))) in
              let (never, behind) = knows histogram value r published in
              never (All-contains (SawOther old.me.0.seen histogram value) walks.given r walks.others (behind walks.front walks.given (sym whole) listed)),
        )

    module _ (miss : found ≢ 12) where
      pub meets : MayLoadRecord found new.me.0
      meets = way.meets seated walks.way found new load miss

      pub room_found : found + 5 ≤ segment.setting.shape.size
      room_found = way.room_found seated walks.way found new load miss

      module _ (b : Actor) (sees : SeesWords new.me.0 b) where
        on : IsWalkProgress (given ++ found ∷ []) found b
        on = way.way_on seated walks.way found new load miss b sees

        others_last : All (SawOther b.seen histogram value) walks.given
        others_last = others_still new.me.0.seen b.seen sees.words histogram value walks.given others_then

        -- it continues after another record
        pub walks_then : SawOther b.seen histogram value found → WalksBehind histogram value found b
        walks_then other = record {
          front = walks.front;
          given = walks.given ++ found ∷ [];
          way = subst (λ (l : List ℕ). IsWalkProgress l found b) (append_assoc walks.front (histogram ∷ walks.given) (found ∷ [])) on;
          others = All-push (SawOther b.seen histogram value) walks.given found others_last other;
        }

        -- it visited the first sample of the value
        pub met_first : ShowsValue histogram value found true b → FindsSample histogram value (search.Met found) b
        met_first (saw, within) =
            let (rest, front) = on.front in (
              on.free,
              (
                walks.front,
                walks.given ++ found ∷ rest,
                front
                    ∙ (append_assoc given (found ∷ []) rest ∙ append_assoc walks.front (histogram ∷ walks.given) (found ∷ rest)),
                (walks.given, rest, refl, others_last, saw),
              ),
              within,
            )

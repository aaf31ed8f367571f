-- A search by the index: it looks at the first record with the key of the name.
use Rattle.std.proofs.Common.{◌≡◌, ℕ, ◌+◌, ◌≤◌, List, ◌∷◌, ◌++◌, Some, true, false, sym, ap, subst, refl, ◌∙◌, arith}
use Rattle.std.specs.List.{All, Contains}
use Rattle.std.proofs.lemmas.List.Elements.{Contains-append_right}
use Rattle.segment_image.specs.Shape.{Dimensions}
use Rattle.segment_machine.specs.declared.actor.Actor.{Actor}
use Rattle.segment_machine.specs.Actor.{is_bound}
use Rattle.segment_machine.specs.Calls.{MayTurn}
use Rattle.segment_machine.specs.Made.{IsFirstNamed, SawOtherName}
use Rattle.segment_calls.specs.declared.asked.Asked.{Asked}
use Rattle.list_index.specs.Firsts.{first_of}
use Rattle.live_segment.specs.declared.list.index.RecordIndex.{RecordIndex}
use Rattle.live_segment.specs.declared.segment.Segment.{Segment}
use Rattle.live_segment.specs.declared.hist.search.Search.{Search}
use Rattle.live_segment.specs.declared.hist.search.Search.TheVariants as search
use Rattle.live_segment.specs.Hist.ListSearch.{IsAsked, MayLoadRecord, SeesWords, ShowsName, ShowsSpec}
use Rattle.live_segment.specs.declared.list.index.KeyKind.TheVariants.{Name}
use Rattle.live_segment.specs.List.Index.{IsIndexed}
use Rattle.live_segment.specs.List.Keys.{IsNameKey}
use Rattle.live_segment.specs.Seated.{IsSeated}
use Rattle.live_segment.specs.Hist.Search.{FoundEnd, HasSearched, Searches, SearchesAt}
use Rattle.live_segment.specs.Steps.{Pass}
use Rattle.live_segment.proofs.lemmas.Hist.Indexing.{first_here}
use Rattle.live_segment.proofs.lemmas.Hist.NameSearch.{first_with, first_without, name_still, others_still}
use Rattle.live_segment.proofs.lemmas.Hist.Settled.{walk_begins}
use Rattle.live_segment.proofs.lemmas.List.Ends.{all_on}
use Rattle.live_segment.proofs.lemmas.List.Showing.{sees_on}
use Rattle.segment_promises.proofs.Growing.{grows_not}

module _ {segment : Segment} {old : Pass} {asked : Asked} (is : IsAsked segment.setting.shape asked) (seated : IsSeated segment old) (free : MayTurn old.me.0)
    {index : RecordIndex} (indexed : IsIndexed Name segment.setting.shape.size old.me.0.seen index) {at : ℕ}
    (first : (key : ℕ) × IsNameKey asked.name.items key × (first_of index.firsts key ≡ Some at)) where
  -- where it is on the list
  splits : (before after : List ℕ) × (old.me.0.seen.chain ≡ before ++ at ∷ after) × All (SawOtherName old.me.0.seen asked.name.items) before
      × (at + 5 ≤ segment.setting.shape.size)
  splits =
      let (key, named, one) = first in first_here old.me.0.seen asked.name.items key named segment.setting.shape.size index indexed at one

  pub meets_it : MayLoadRecord at old.me.0
  meets_it =
      let (before, after, there, others, room) = splits in
      (free, subst (λ (l : List ℕ). Contains l at) (sym there) (Contains-append_right before (at ∷ after) at (0, omega arith, refl)))

  pub room_it : at + 5 ≤ segment.setting.shape.size
  room_it = let (before, after, there, others, room) = splits in room

  -- if it has another name, a walk begins again
  pub walk_anew : (b : Actor) → SeesWords old.me.0 b → SearchesAt asked.name.items 12 b
  walk_anew b sees =
      let from = segment.shaped.wide in
      let to = segment.shaped.one in
      let shape = ap (λ (a : Actor). a.segment.shape.size) sees.view ∙ ap (λ (d : Dimensions). d.size) seated.of.shape in
      walk_begins asked.name.items b (ap (λ (a : Actor). is_bound a.hand.place) sees.view ∙ free) (omega (arith, from, to, shape))

  module _ (named : Actor) (sees : SeesWords old.me.0 named) (name : ShowsName asked at true named) (last : Actor) (then_sees : SeesWords named last) where
    both : SeesWords old.me.0 last
    both = sees_on old.me.0 named last sees then_sees

    meets_last : MayLoadRecord at last
    meets_last = subst (MayLoadRecord at) (sym both.view) meets_it

    is_first : IsFirstNamed last.seen asked.name.items at
    is_first =
        let (before, after, there, others, room) = splits in (
          before,
          after,
          ap (λ (x : Actor). x.seen.chain) both.view ∙ there,
          others_still old.me.0.seen last.seen both.words asked.name.items before others,
          name_still named.seen last.seen then_sees.words asked.name.items at name.0,
        )

    pub met_here : ShowsSpec asked at true last.seen → Searches asked (search.Met at) last
    met_here =
        let within = name.1 in let size = ap (λ (a : Actor). a.segment.shape.size) then_sees.view in
        first_with is at last meets_last is_first (omega (arith, within, size))

    pub other_here : ShowsSpec asked at false last.seen → Searches asked search.OtherSpec last
    other_here = first_without is at last meets_last is_first

-- a search that came to the end has found the end since it began
pub ended_since : (found : Search) (a b c : Actor) → HasSearched a b → HasSearched b c → FoundEnd found b.seen c.seen → FoundEnd found a.seen c.seen
ended_since (search.End at) a b c one two end = all_on a.seen b.seen c.seen c.seen one.ends two.ends (grows_not c.seen.ends) refl end
ended_since (search.Met reference) a b c one two end = tt
ended_since search.OtherSpec a b c one two end = tt

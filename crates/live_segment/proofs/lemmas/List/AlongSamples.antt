-- A call on a sparse histogram goes along the list, record by record.
use Rattle.std.proofs.Common.{◌≡◌, ◌≢◌, ℕ, ◌+◌, ◌-◌, ◌*◌, ◌/◌, ◌<◌, ◌≤◌, ◌==◌, ℤ, List, [], ◌∷◌, ◌++◌, length, Option, inl, inr, refl, sym, ap, subst, ◌∙◌, arith}
use Rattle.std.specs.List.{Contains}
use Rattle.std.proofs.lemmas.List.{append-nil}
use Rattle.segment_image.specs.Shape.{Dimensions}
use Rattle.segment_machine.specs.declared.actor.Actor.{Actor}
use Rattle.segment_machine.specs.declared.actor.Known.{Known}
use Rattle.segment_machine.specs.Actor.{is_bound}
use Rattle.segment_machine.specs.Calls.{ended}
use Rattle.segment_machine.specs.Event.{Event, walking_event}
use Rattle.segment_machine.specs.Walking.{extended, load_next}
use Rattle.segment_promises.specs.Onward.{is_holding}
use Rattle.segment_promises.specs.Values.{NoRepeats, ComesTo, ListsValues, listed_of}
use Rattle.segment_promises.proofs.ListedValues.{lists_nothing, lists_still}
use Rattle.segment_promises.proofs.ValueWalks.{behind_it, left_of, passed_few, split_at_it}
use Rattle.segment_promises.proofs.Calls.Places.{behind_apart, behind_free}
use Rattle.segment_promises.proofs.ValueWalks as way
use Rattle.live_segment.specs.declared.segment.Segment.{Segment}
use Rattle.live_segment.specs.Holders.{MayStep}
use Rattle.live_segment.specs.List.Values.{Goes, HasDealtWith, HasUnitsOf, ListsAlong, ListsOn, SampleCall}
use Rattle.live_segment.specs.Ready.{LooksAtValues}
use Rattle.live_segment.specs.Steps.{Pass, Stepped}
use Rattle.live_segment.proofs.lemmas.Add.Beginning.{known_there}
use Rattle.live_segment.proofs.lemmas.List.SampleCalls.{ListsOne, done_still, goes_on, looks_of, on_by, on_not, on_then, seen_on, units_still}
use Rattle.live_segment.proofs.lemmas.List.Sharing.{same_on}
use Rattle.live_segment.proofs.lemmas.List.ValuesListed.{lists_then}
use Rattle.live_segment.proofs.lemmas.Steps.Proceeding.{sees_next}

-- it begins with nothing listed
pub begins : (call : SampleCall) (segment : Segment) (known : Known) (at : ℕ) (first : Pass) → Goes call segment known first
    → ComesTo known.reference [] at first.me.0 → ListsAlong call segment known [] at [] first first
begins call segment known at first goes comes = record {
  same = (refl, refl, refl);
  goes = goes;
  on = on_not call first.me.0;
  comes = comes;
  lists = lists_nothing (HasDealtWith call [] first.me.0) (HasUnitsOf call first.me.0) known.reference first.me.0.seen;
}

module _ {call : SampleCall} {segment : Segment} {known : Known} {passed : List ℕ} {at : ℕ} {listed : List (ℤ × ℕ)} {first old : Pass}
    (was : ListsAlong call segment known passed at listed first old) (miss : at ≢ 12) where
  looks_old : LooksAtValues segment known old
  looks_old = looks_of call segment known old was.goes

  abbrev rest : List ℕ
  rest = (behind_it old.me.0 known.reference passed at was.comes miss).0

  split : old.me.0.seen.chain ≡ was.comes.front ++ known.reference ∷ (passed ++ at ∷ rest)
  split = split_at_it old.me.0 known.reference passed at was.comes miss

  pub met : Contains old.me.0.seen.chain at
  met = way.met old.me.0 old.me.0 known.reference 0 refl was.comes.front passed at rest split

  pub room : at + 5 ≤ segment.setting.shape.size
  room = subst (λ (d : Dimensions). at + 5 ≤ d.size) looks_old.seated.of.shape (was.comes.within miss)

  -- there is room for one value more
  pub room_for_one : (capacity : ℕ) → (segment.setting.shape.size - 16) / 5 ≤ capacity → length listed < capacity
  room_for_one capacity enough =
      let few = subst (λ (d : Dimensions). 5 * (length passed + 1) + 16 ≤ d.size) looks_old.seated.of.shape
      (passed_few old.me.0 known.reference passed at was.comes miss) in
      let all = was.lists.few in omega (arith, enough, few, all)

  module _ {one : Option (ℤ × ℕ)} {mid : Pass} (value : ListsOne call segment known at listed one old mid) where
    looks_mid : LooksAtValues segment known mid
    looks_mid = looks_of call segment known mid value.goes

    split_mid : mid.me.0.seen.chain ≡ was.comes.front ++ known.reference ∷ (passed ++ at ∷ rest)
    split_mid = value.chain ∙ split

    abbrev event : Event
    event = walking_event (load_next at)

    pub may_load : MayStep segment mid event
    may_load = record {
      table = looks_mid.seated.table;
      recorder = looks_mid.seated.recorder;
      ready = (looks_mid.free, inr (inl (way.met mid.me.0 mid.me.0 known.reference 0 refl was.comes.front passed at rest split_mid)));
    }

    abbrev longer : List (ℤ × ℕ)
    longer = listed ++ listed_of one

    lists_mid : ListsValues (HasDealtWith call longer mid.me.0) (HasUnitsOf call mid.me.0) known.reference passed listed mid.me.0.seen
    lists_mid = let on = value.on in
        lists_still old.me.0.seen mid.me.0.seen (seen_on call segment known old mid (listed_of one) was.goes on).words known.reference
        (HasDealtWith call listed old.me.0) (HasDealtWith call longer mid.me.0) (done_still call segment known old mid (listed_of one) was.goes on listed)
        (HasUnitsOf call old.me.0) (HasUnitsOf call mid.me.0) (units_still call segment known old mid (listed_of one) was.goes on) passed listed was.lists

    module _ {found : ℕ} {new : Pass} (step : Stepped mid event found new) (once : NoRepeats mid.me.0.seen.chain) where
      on_step : ListsOn call [] mid.me.0 new.me.0
      on_step = on_by call mid.me.0 new.me.0 (record mid.me.0.seen { chain = extended mid.me.0.seen.chain at found; ends = ended mid.me.0.seen.ends (at + 3) (found == 12) })
          (step.view ∙ (λ i. record mid.me.0 {
            hand = record mid.me.0.hand { place = sym (ap (λ (a : Actor). a.hand.place) step.view) i };
            seen = record mid.me.0.seen { chain = extended mid.me.0.seen.chain at found; ends = ended mid.me.0.seen.ends (at + 3) (found == 12) };
          })) (sees_next mid.me.0.seen at found)

      goes_new : Goes call segment known new
      goes_new = goes_on call segment known mid new [] value.goes on_step step.same
          (ap (λ (a : Actor). is_bound a.hand.place) step.view ∙ behind_free mid.me.0.hand.place at found looks_mid.free)
          (ap (λ (a : Actor). is_holding a.hand.place) step.view ∙ behind_apart mid.me.0.hand.place at found looks_mid.apart)

      on_new : ListsOn call longer first.me.0 new.me.0
      on_new = subst (λ (l : List (ℤ × ℕ)). ListsOn call l first.me.0 new.me.0) (append-nil longer)
          (on_then call first.me.0 mid.me.0 new.me.0 longer [] (on_then call first.me.0 old.me.0 mid.me.0 listed (listed_of one) was.on value.on) on_step)

      pub along : ListsAlong call segment known (passed ++ at ∷ []) found longer first new
      along = record {
        same = same_on first old new was.same (same_on old mid new value.same step.same);
        goes = goes_new;
        on = on_new;
        comes = way.comes_on mid.me.0 new.me.0 known.reference found (ap (λ (a : Actor). a.segment.shape) step.view) was.comes.front passed at rest split_mid
            step.learned (ap (λ (a : Actor). a.seen.chain) step.view);
        lists = lists_then known mid.me.0 new.me.0.seen was.comes.front passed rest at
            ((known_there mid.me.0.answers.names known.reference known looks_mid.alone).0, refl, looks_mid.sparse) split_mid once
            (ap (λ (a : Actor). a.seen.words) step.view) (HasDealtWith call longer mid.me.0) (HasDealtWith call longer new.me.0)
            (λ v sample did. subst (λ (l : List (ℤ × ℕ)). HasDealtWith call l new.me.0 v sample) (append-nil longer)
            (done_still call segment known mid new [] value.goes on_step longer v sample did))
            (HasUnitsOf call mid.me.0) (HasUnitsOf call new.me.0) (units_still call segment known mid new [] value.goes on_step) listed one lists_mid value.lists;
      }

      pub comes_further : left_of segment.setting.shape.size new.me.0.seen.chain found < left_of segment.setting.shape.size old.me.0.seen.chain at
      comes_further =
          let less = way.comes_further mid.me.0 new.me.0 known.reference found (ap (λ (a : Actor). a.segment.shape) step.view) was.comes.front passed at rest split_mid
          step.learned (ap (λ (a : Actor). a.seen.chain) step.view) once miss in
          let there : mid.me.0.segment.shape.size ≡ segment.setting.shape.size = ap (λ (d : Dimensions). d.size) looks_mid.seated.of.shape in
          let here : new.me.0.segment.shape.size ≡ segment.setting.shape.size = ap (λ (d : Dimensions). d.size) (looks_of call segment known new goes_new).seated.of.shape in
          let after : left_of new.me.0.segment.shape.size new.me.0.seen.chain found ≡ left_of segment.setting.shape.size new.me.0.seen.chain found =
          ap (λ (n : ℕ). left_of n new.me.0.seen.chain found) here in
          let before : left_of mid.me.0.segment.shape.size mid.me.0.seen.chain at ≡ left_of segment.setting.shape.size old.me.0.seen.chain at =
          (λ i. left_of (there i) (value.chain i) at) in
          omega (arith, less, after, before)

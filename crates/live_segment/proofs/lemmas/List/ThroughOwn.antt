-- A call on a sparse histogram goes through the samples that its index has, one by one.
use Rattle.std.proofs.Common.{ℕ, ◌+◌, ◌<◌, ◌≤◌, ℤ, List, [], ◌∷◌, ◌++◌, length, slice_index, Option, Some, None, refl, sym, subst, ◌∙◌, arith}
use Rattle.std.specs.Prelude.{take}
use Rattle.std.specs.List.{Contains}
use Rattle.std.proofs.lemmas.List.{append-nil, length-take-le, take_more}
use Rattle.segment_machine.specs.declared.actor.Known.{Known}
use Rattle.segment_promises.specs.Calls.{SamplesStandBehind}
use Rattle.segment_promises.specs.Values.{ListsOf, NoRepeats, listed_of}
use Rattle.segment_promises.proofs.ValueWalks.{stands_there}
use Rattle.live_segment.specs.declared.recorder.KnownHistogram.{KnownHistogram}
use Rattle.live_segment.specs.declared.segment.Segment.{Segment}
use Rattle.live_segment.specs.Known.{KnowsRight, known_view}
use Rattle.live_segment.specs.List.IndexedValues.{AreOwn, HasPassedAll, ListsIndexed, ListsSamples}
use Rattle.live_segment.specs.List.Values.{Goes, HasDealtWith, HasUnitsOf, ListsOn, SampleCall}
use Rattle.live_segment.specs.Ready.{LooksAtValues}
use Rattle.live_segment.specs.Steps.{Pass}
use Rattle.live_segment.proofs.lemmas.Add.Beginning.{known_there}
use Rattle.live_segment.proofs.lemmas.List.OwnSamples.{all_looked_for, looked_at, met_own, new_own, passed_still, sample_was, within_own}
use Rattle.live_segment.proofs.lemmas.List.SampleCalls.{ListsOne, done_still, looks_of, on_not, on_then, on_view, seen_on, units_still}
use Rattle.live_segment.proofs.lemmas.List.SamplesListed.{lists_first, lists_nothing, lists_on, lists_still}
use Rattle.live_segment.proofs.lemmas.List.Sharing.{same_on}

-- it begins with nothing listed
pub begins : (call : SampleCall) (segment : Segment) (known : Known) (first : Pass) → Goes call segment known first → ListsIndexed call segment known [] [] first first
begins call segment known first goes = record {
  same = (refl, refl, refl);
  goes = goes;
  on = on_not call first.me.0;
  chain = refl;
  lists = lists_nothing (HasDealtWith call [] first.me.0) (HasUnitsOf call first.me.0) known.reference first.me.0.seen;
}

module _ {call : SampleCall} {segment : Segment} {histogram : KnownHistogram} {samples : List ℕ} {i : ℕ} {listed : List (ℤ × ℕ)} {first old : Pass}
    (right : KnowsRight segment.setting first.me.0 histogram) (own : AreOwn segment.setting.shape.size first.me.0.seen histogram.reference samples)
    (was : ListsIndexed call segment (known_view histogram) (take i samples) listed first old) (below : i < length samples) where
  abbrev known : Known
  known = known_view histogram

  abbrev size : ℕ
  size = segment.setting.shape.size

  abbrev at : ℕ
  at = slice_index samples i

  pub met : Contains old.me.0.seen.chain at
  met = subst (λ (l : List ℕ). Contains l at) (sym was.chain) (met_own size first.me.0.seen histogram.reference samples own i below)

  pub room : at + 5 ≤ size
  room = (within_own size first.me.0.seen histogram.reference samples own i below).1

  -- there is room for one value more
  pub room_for_one : length listed < length samples
  room_for_one = let long = length-take-le i samples (omega (arith, below)) in let few = was.lists.few in omega (arith, below, long, few)

  module _ {one : Option (ℤ × ℕ)} {mid : Pass} (value : ListsOne call segment known at listed one old mid) (stand : SamplesStandBehind old.me.0)
      (once : NoRepeats old.me.0.seen.chain) where
    looks_mid : LooksAtValues segment known mid
    looks_mid = looks_of call segment known mid value.goes

    has_old : HasPassedAll size old.me.0.seen own.0
    has_old = passed_still size first.me.0.seen old.me.0.seen own.0 was.chain (on_view call listed first.me.0 old.me.0 was.on).1.words own.1

    has_mid : HasPassedAll size mid.me.0.seen own.0
    has_mid = passed_still size old.me.0.seen mid.me.0.seen own.0 value.chain (seen_on call segment known old mid (listed_of one) was.goes value.on).words has_old

    abbrev Lists : List (ℤ × ℕ) → List ℕ → List (ℤ × ℕ) → Type 0
    Lists longer passed all = ListsSamples (HasDealtWith call longer mid.me.0) (HasUnitsOf call mid.me.0) known.reference passed all mid.me.0.seen

    lists_by : (o : Option (ℤ × ℕ)) → ListsOn call (listed_of o) old.me.0 mid.me.0
        → ListsOf (HasDealtWith call (listed ++ listed_of o) mid.me.0) (HasUnitsOf call mid.me.0) known.reference at o mid.me.0
        → Lists (listed ++ listed_of o) (take i samples ++ at ∷ []) (listed ++ listed_of o)
    lists_by o on = by o (lists_still old.me.0.seen mid.me.0.seen (seen_on call segment known old mid (listed_of o) was.goes on).words value.chain known.reference
        (HasDealtWith call listed old.me.0) (HasDealtWith call (listed ++ listed_of o) mid.me.0) (done_still call segment known old mid (listed_of o) was.goes on listed)
        (HasUnitsOf call old.me.0) (HasUnitsOf call mid.me.0) (units_still call segment known old mid (listed_of o) was.goes on) (take i samples) listed was.lists)
      where
        by : (o : Option (ℤ × ℕ)) → Lists (listed ++ listed_of o) (take i samples) listed
            → ListsOf (HasDealtWith call (listed ++ listed_of o) mid.me.0) (HasUnitsOf call mid.me.0) known.reference at o mid.me.0
            → Lists (listed ++ listed_of o) (take i samples ++ at ∷ []) (listed ++ listed_of o)
        by None lists passes = subst (Lists (listed ++ []) (take i samples ++ at ∷ [])) (sym (append-nil listed))
            (lists_on (HasDealtWith call (listed ++ []) mid.me.0) (HasUnitsOf call mid.me.0) known.reference mid.me.0.seen (take i samples) listed lists at passes)
        by (Some (v, units)) lists (saw, did, has, no_later) =
            let (front, behind, split) = stands_there first.me.0.seen.chain known.reference right.met in
            let there = stand known.reference at v front behind met
            (sample_was old.me.0.seen mid.me.0.seen (seen_on call segment known old mid (listed_of one) was.goes value.on).words known.reference v at
            (looked_at size old.me.0.seen own.0 has_old at met) saw) (was.chain ∙ split) in
            lists_first known mid.me.0 (all_looked_for size mid.me.0.seen own.0 has_mid)
            ((known_there mid.me.0.answers.names known.reference known looks_mid.alone).0, refl, looks_mid.sparse) front behind
            (value.chain ∙ (was.chain ∙ split)) v at (subst (λ (l : List ℕ). Contains l at) (sym value.chain) met) there saw no_later
            (HasDealtWith call (listed ++ (v, units) ∷ []) mid.me.0) (HasUnitsOf call mid.me.0) (take i samples) listed lists
            (new_own size first.me.0.seen histogram.reference samples own (subst NoRepeats was.chain once) i below) units did has

    pub lists_one : ListsIndexed call segment known (take (i + 1) samples) (listed ++ listed_of one) first mid
    lists_one = subst (λ (l : List ℕ). ListsIndexed call segment known l (listed ++ listed_of one) first mid) (sym (take_more samples i 0 below)) (record {
      same = same_on first old mid was.same value.same;
      goes = value.goes;
      on = on_then call first.me.0 old.me.0 mid.me.0 listed (listed_of one) was.on value.on;
      chain = value.chain ∙ was.chain;
      lists = lists_by one value.on value.lists;
    })

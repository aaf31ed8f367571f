-- What a delta and a snapshot of a sparse histogram have in common: step by step they continue, and what they did with samples stays done.
use Rattle.std.proofs.Common.{◌≡◌, ℕ, ◌+◌, false, ℤ, map, List, [], ◌∷◌, ◌++◌, Option, Some, None, inl, inr, ⊎_elim, refl, sym, ap, subst, ◌∙◌, arith}
use Rattle.std.specs.List.{Contains}
use Rattle.std.proofs.lemmas.List.{map-append}
use Rattle.std.proofs.lemmas.List.Elements.{Contains-append_left, Contains-push}
use Rattle.segment_machine.specs.declared.actor.Actor.{Actor}
use Rattle.segment_machine.specs.declared.actor.Known.{Known}
use Rattle.segment_machine.specs.declared.actor.Taken.{Taken}
use Rattle.segment_machine.specs.declared.seen.Seen.{Seen}
use Rattle.segment_machine.specs.Actor.{is_bound, is_opener, known_at}
use Rattle.segment_promises.specs.Calls as calls
use Rattle.segment_promises.specs.Onward.{SeesOn, is_holding}
use Rattle.segment_promises.specs.Values.{ListsOf, listed_of}
use Rattle.segment_promises.proofs.Growing.{grows_not}
use Rattle.segment_promises.proofs.Calls.Sights.{began_still, saw_count, sees_more, took_sample}
use Rattle.live_segment.specs.declared.segment.Segment.{Segment}
use Rattle.live_segment.specs.List.Values.{Goes, HasDealtWith, HasUnitsOf, ListsOn, SampleCall, OnlySeesMore, TakesValue}
use Rattle.live_segment.specs.List.Values.SampleCall.{OfDelta, OfSnapshot}
use Rattle.live_segment.specs.List.SampleRecords.{CountsSample, SeesSample}
use Rattle.live_segment.specs.Ready.{LooksAtValues}
use Rattle.live_segment.specs.Steps.{IsSame, Pass}
use Rattle.live_segment.proofs.lemmas.Delta.OneBucket.{nothing_more, takes_by, takes_not, takes_of, takes_then}
use Rattle.live_segment.proofs.lemmas.Steps.Proceeding.{sees_lists, sees_not, sees_on}

-- ---- its seat

-- a recorder's seat that looks at the samples of a sparse histogram still does when it is at another place, has seen more, and takes
pub looks_on : (segment : Segment) (known : Known) (old new : Pass) → LooksAtValues segment known old → IsSame old new
    → new.me.0 ≡ record old.me.0 { hand = record old.me.0.hand { place = new.me.0.hand.place }; deltas = new.me.0.deltas; seen = new.me.0.seen }
    → SeesOn old.me.0.seen new.me.0.seen → is_bound new.me.0.hand.place ≡ false → is_holding new.me.0.hand.place ≡ false → LooksAtValues segment known new
looks_on segment known old new was same view seen free apart =
    let sees = sees_more old.me.0 new.me.0 (ap (λ (a : Actor). a.segment) view) (ap (λ (a : Actor). a.since) view) seen in
    let still = began_still old.me.0 new.me.0 sees (record { singles = was.singles; counts = was.counts }) in record {
      seated = record {
        table = same.0 ∙ was.seated.table;
        recorder = ap (λ (a : Actor). is_opener a.role) view ∙ was.seated.recorder;
        of = record {
          shape = ap (λ (a : Actor). a.segment.shape) view ∙ was.seated.of.shape;
          version = ap (λ (a : Actor). a.segment.version) view ∙ was.seated.of.version;
          cursors = ap (λ (a : Actor). a.segment.cursors) view ∙ was.seated.of.cursors;
        };
      };
      alone = ap (λ (a : Actor). known_at a.answers.names known.reference) view ∙ was.alone;
      sparse = was.sparse;
      free = free;
      apart = apart;
      singles = still.singles;
      counts = still.counts;
    }

pub looks_of : (call : SampleCall) (segment : Segment) (known : Known) (seat : Pass) → Goes call segment known seat → LooksAtValues segment known seat
looks_of OfDelta segment known seat goes = goes.looks
looks_of OfSnapshot segment known seat goes = goes

-- ---- its recorder

-- a snapshot sees more
pub more_on : (a b c : Actor) → OnlySeesMore a b → OnlySeesMore b c → OnlySeesMore a c
more_on a b c one two = record {
  view = two.view ∙ ap (λ (x : Actor). record x { hand = record x.hand { place = c.hand.place }; seen = c.seen }) one.view;
  seen = sees_on a.seen b.seen c.seen one.seen two.seen;
}

pub on_not : (call : SampleCall) (a : Actor) → ListsOn call [] a a
on_not OfDelta a = takes_not a
on_not OfSnapshot a = record { view = refl; seen = sees_not a.seen }

pub on_then : (call : SampleCall) (a b c : Actor) (more rest : List (ℤ × ℕ)) → ListsOn call more a b → ListsOn call rest b c → ListsOn call (more ++ rest) a c
on_then OfDelta a b c more rest one two = takes_then a b c more rest one two
on_then OfSnapshot a b c more rest one two = more_on a b c one two

-- it lists nothing at a step that changes only what it has seen and where it is
pub on_by : (call : SampleCall) (a b : Actor) (seen : Seen) → b ≡ record a { hand = record a.hand { place = b.hand.place }; seen = seen } → SeesOn a.seen seen
    → ListsOn call [] a b
on_by OfDelta a b seen is sees =
    takes_by a b b.hand.place [] seen (is ∙ ap (λ (l : List Taken). record a {
      hand = record a.hand { place = b.hand.place };
      deltas = record a.deltas { taken = l };
      seen = seen;
    }) (sym (nothing_more a.deltas.taken))) sees
on_by OfSnapshot a b seen is sees = record {
  view = is ∙ (λ i. record a { hand = record a.hand { place = b.hand.place }; seen = sym (ap (λ (x : Actor). x.seen) is) i });
  seen = subst (SeesOn a.seen) (sym (ap (λ (x : Actor). x.seen) is)) sees;
}

-- it has seen words and counts of a record
pub seen_one : (call : SampleCall) (a b : Actor) → SeesSample a b → ListsOn call [] a b
seen_one call a b sees = on_by call a b (record a.seen { words = b.seen.words; counts = b.seen.counts }) sees.view (sees_lists a.seen (grows_not a.seen.chain)
    (grows_not a.seen.ends) (grows_not a.seen.tails) (grows_not a.seen.singles) sees.counts sees.words (grows_not a.seen.cursors))

pub on_view : (call : SampleCall) (more : List (ℤ × ℕ)) (a b : Actor) → ListsOn call more a b
    → (b ≡ record a { hand = record a.hand { place = b.hand.place }; deltas = b.deltas; seen = b.seen }) × SeesOn a.seen b.seen
on_view OfDelta more a b on = (
  on.view ∙ (λ i. record a { hand = record a.hand { place = b.hand.place }; deltas = sym (ap (λ (x : Actor). x.deltas) on.view) i; seen = b.seen }),
  on.seen,
)
on_view OfSnapshot more a b on = (
  on.view ∙ (λ i. record a { hand = record a.hand { place = b.hand.place }; deltas = sym (ap (λ (x : Actor). x.deltas) on.view) i; seen = b.seen }),
  on.seen,
)

-- ---- it continues

module _ (call : SampleCall) (segment : Segment) (known : Known) (old new : Pass) (more : List (ℤ × ℕ)) (goes : Goes call segment known old)
    (on : ListsOn call more old.me.0 new.me.0) where
  abbrev only : (new.me.0 ≡ record old.me.0 { hand = record old.me.0.hand { place = new.me.0.hand.place }; deltas = new.me.0.deltas; seen = new.me.0.seen })
      × SeesOn old.me.0.seen new.me.0.seen
  only = on_view call more old.me.0 new.me.0 on

  pub seen_on : SeesOn old.me.0.seen new.me.0.seen
  seen_on = only.1

  pub goes_on : IsSame old new → is_bound new.me.0.hand.place ≡ false → is_holding new.me.0.hand.place ≡ false → Goes call segment known new
  goes_on same free apart = by call goes on
    where
      by : (c : SampleCall) → Goes c segment known old → ListsOn c more old.me.0 new.me.0 → Goes c segment known new
      by OfDelta was taken = record {
        looks = looks_on segment known old new was.looks same only.0 only.1 free apart;
        takes = takes_of old.me.0 new.me.0 more known.reference known taken was.takes;
      }
      by OfSnapshot was saw = looks_on segment known old new was same only.0 only.1 free apart

  sees : calls.SeesMore old.me.0 new.me.0
  sees = sees_more old.me.0 new.me.0 (ap (λ (a : Actor). a.segment) only.0) (ap (λ (a : Actor). a.since) only.0) only.1

  began : calls.BeganBefore old.me.0
  began = let looks = looks_of call segment known old goes in record { singles = looks.singles; counts = looks.counts }

  -- what it did it has done still
  pub done_still : (listed : List (ℤ × ℕ)) (value : ℤ) (sample : ℕ) → HasDealtWith call listed old.me.0 value sample → HasDealtWith call (listed ++ more) new.me.0 value sample
  done_still listed value sample = by call
    where
      by : (c : SampleCall) → HasDealtWith c listed old.me.0 value sample → HasDealtWith c (listed ++ more) new.me.0 value sample
      by OfDelta took = took_sample old.me.0 new.me.0 sees began sample took
      by OfSnapshot (count, saw, either) = (
        count,
        saw_count old.me.0 new.me.0 sees began (sample + 6) count saw,
        ⊎_elim inl (λ there. inr (subst (λ (l : List ℤ). Contains l value) (sym (map-append (λ (c : ℤ × ℕ). c.0) listed more))
            (Contains-append_left (map (λ (c : ℤ × ℕ). c.0) listed) (map (λ (c : ℤ × ℕ). c.0) more) value there))) either,
      )

  pub units_still : (sample units : ℕ) → HasUnitsOf call old.me.0 sample units → HasUnitsOf call new.me.0 sample units
  units_still sample units = by call
    where
      by : (c : SampleCall) → HasUnitsOf c old.me.0 sample units → HasUnitsOf c new.me.0 sample units
      by OfDelta some = some
      by OfSnapshot (saw, some) = (saw_count old.me.0 new.me.0 sees began (sample + 6) units saw, some)

-- ---- what it lists of one record

-- it has seen no more of the list
pub record ListsOne (call : SampleCall) (segment : Segment) (known : Known) (at : ℕ) (listed : List (ℤ × ℕ)) (one : Option (ℤ × ℕ)) (old new : Pass) : Type 0 where
  pub same : IsSame old new
  pub goes : Goes call segment known new
  pub on : ListsOn call (listed_of one) old.me.0 new.me.0
  pub chain : new.me.0.seen.chain ≡ old.me.0.seen.chain
  pub lists : ListsOf (HasDealtWith call (listed ++ listed_of one) new.me.0) (HasUnitsOf call new.me.0) known.reference at one new.me.0

-- a delta took it
pub one_taken : {segment : Segment} {known : Known} {at : ℕ} (listed : List (ℤ × ℕ)) {one : Option (ℤ × ℕ)} {old new : Pass} → IsSame old new
    → TakesValue segment known at one old new → ListsOne OfDelta segment known at listed one old new
one_taken listed same value = record { same = same; goes = value.takes; on = value.on; chain = value.chain; lists = value.lists }

-- a snapshot looked at it
pub one_looked : {segment : Segment} {known : Known} {at : ℕ} (listed : List (ℤ × ℕ)) {one : Option (ℤ × ℕ)} {old new : Pass} → LooksAtValues segment known old
    → IsSame old new → SeesSample old.me.0 new.me.0 → CountsSample known.reference at one new.me.0 → ListsOne OfSnapshot segment known at listed one old new
one_looked {segment} {known} {at} listed {one} {old} {new} looks same sees counted =
    let on = seen_one OfSnapshot old.me.0 new.me.0 sees in record {
      same = same;
      goes = goes_on OfSnapshot segment known old new [] looks on same sees.free sees.apart;
      on = on;
      chain = ap (λ (a : Actor). a.seen.chain) sees.view;
      lists = by one counted;
    }
  where
    by : (o : Option (ℤ × ℕ)) → CountsSample known.reference at o new.me.0
        → ListsOf (HasDealtWith OfSnapshot (listed ++ listed_of o) new.me.0) (HasUnitsOf OfSnapshot new.me.0) known.reference at o new.me.0
    by None (inl none) = inr none
    by None (inr (value, saw, zero)) = inl (value, saw, (0, zero, inl refl))
    by (Some (value, units)) has = (
      has.saw,
      (
        units,
        has.counted,
        inr (subst (λ (l : List ℤ). Contains l value) (sym (map-append (λ (c : ℤ × ℕ). c.0) listed ((value, units) ∷ [])))
            (Contains-push (map (λ (c : ℤ × ℕ). c.0) listed) value)),
      ),
      (has.counted, let enough = has.some in omega (arith, enough)),
      has.first,
    )

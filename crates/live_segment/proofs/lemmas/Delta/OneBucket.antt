-- A delta takes what is counted in one bucket: the count is loaded, and the bucket's mark is raised to its total.
use Rattle.std.proofs.Common.{◌≡◌, ◌≢◌, ℕ, ◌+◌, ◌-◌, ◌*◌, ◌<◌, ◌≤◌, ℤ, max, nat_lt, if◌then◌else◌, Bool, true, false, true≢false, List, [], ◌∷◌, ◌++◌, drop, length, Option, Some, None, inl, inr, ⊎_elim, refl, sym, ap, subst, ◌∙◌, arith}
use Rattle.std.specs.Prelude.{nat_eq, unwrap_or}
use Rattle.std.specs.List.{Contains}
use Rattle.std.specs.Option.{option_eq}
use Rattle.std.proofs.lemmas.Bool.{eq-eqb, eqb-true, ne_eqb, lt-ltb, le-ltb, ltb-true, ltb-false}
use Rattle.std.proofs.lemmas.List.{append-nil, append_assoc}
use Rattle.bucket_ranges.specs.Spec.{buckets_of}
use Rattle.bucket_ranges.specs.Single.{single_of, packed_bucket, units_packed}
use Rattle.bucket_ranges.specs.declared.single.SingleWord.{SingleWord}
use Rattle.bucket_ranges.specs.declared.single.SingleWord.TheVariants.{Empty, Packed, Disabled, FrozenEmpty, Frozen}
use Rattle.segment_image.specs.Shape.{Dimensions}
use Rattle.segment_machine.specs.declared.actor.Actor.{Actor}
use Rattle.segment_machine.specs.declared.actor.Known.{Known}
use Rattle.segment_machine.specs.declared.actor.Taken.{Taken}
use Rattle.segment_machine.specs.declared.place.Look.{Look}
use Rattle.segment_machine.specs.declared.place.Place.{Place}
use Rattle.segment_machine.specs.declared.place.Place.TheVariants.{CountLoaded, Looking}
use Rattle.segment_machine.specs.declared.seen.Seen.{Seen}
use Rattle.segment_machine.specs.Actor.{Buckets, SawCount, bucket_key, is_opener, known_at, known_buckets}
use Rattle.segment_machine.specs.Calls.{back, change_last, form_seen, sight}
use Rattle.segment_machine.specs.Event.{taking_event}
use Rattle.segment_machine.specs.Form.{units_in}
use Rattle.segment_machine.specs.Note.{IsMarkOf, SawBucket, TookBucket}
use Rattle.segment_machine.specs.Taking.{Takes, load_count, raise_mark, raise_single_mark, take_units, taken_key, single_key, at_count}
use Rattle.segment_invariant.proofs.Consistency.Marks.{packed_all}
use Rattle.segment_invariant.proofs.Notes.Amounts.{last_changed}
use Rattle.live_segment.specs.declared.delta.buckets.Mounted.{Mounted}
use Rattle.live_segment.specs.declared.segment.Segment.{Segment}
use Rattle.live_segment.specs.Delta.Outcome.{TakesAt, TakesOn, units_of_key, with_units}
use Rattle.live_segment.specs.Holders.{MayStep}
use Rattle.live_segment.specs.Snapshot.Counts.{StandsAt}
use Rattle.segment_promises.specs.Onward.{SeesOn}
use Rattle.live_segment.specs.Steps.{IsSame, Pass, Stepped}
use Rattle.live_segment.proofs.lemmas.Steps.Proceeding.{sees_count, sees_on, sees_not}
use Rattle.segment_promises.proofs.Calls.Sights.{began_still, seen_here, saw_bucket, saw_single, saw_word}
use Rattle.live_segment.proofs.lemmas.Snapshot.Seeing.{began, takes_sees}

-- ---- units that are taken one after the other

pub nothing_more : (list : List Taken) → change_last (with_units []) list ≡ list
nothing_more [] = refl
nothing_more (x ∷ []) = λ i. record x { counts = append-nil x.counts i } ∷ []
nothing_more (x ∷ y ∷ rest) = ap (λ (l : List Taken). x ∷ l) (nothing_more (y ∷ rest))

then_more : (more rest : List (ℤ × ℕ)) (list : List Taken)
    → change_last (with_units rest) (change_last (with_units more) list) ≡ change_last (with_units (more ++ rest)) list
then_more more rest [] = refl
then_more more rest (x ∷ []) = λ i. record x { counts = append_assoc x.counts more rest i } ∷ []
then_more more rest (x ∷ y ∷ []) = λ i. x ∷ record y { counts = append_assoc y.counts more rest i } ∷ []
then_more more rest (x ∷ y ∷ z ∷ list) = ap (λ (l : List Taken). x ∷ l) (then_more more rest (y ∷ z ∷ list))

-- it is at another place, has taken units, and has seen more
abbrev taking_on : Actor → Place → List (ℤ × ℕ) → Seen → Actor
taking_on a place more seen = record a {
  hand = record a.hand { place = place };
  deltas = record a.deltas { taken = change_last (with_units more) a.deltas.taken };
  seen = seen;
}

pub takes_by : (a b : Actor) (place : Place) (more : List (ℤ × ℕ)) (seen : Seen) → b ≡ taking_on a place more seen → SeesOn a.seen seen → TakesOn more a b
takes_by a b place more seen is sees = subst (TakesOn more a) (sym is) (record { view = refl; seen = sees })

-- nothing happens
pub takes_not : (a : Actor) → TakesOn [] a a
takes_not a = takes_by a a a.hand.place [] a.seen (ap (λ (l : List Taken). record a { deltas = record a.deltas { taken = l } }) (sym (nothing_more a.deltas.taken))) (sees_not a.seen)

pub takes_then : (a b c : Actor) (more rest : List (ℤ × ℕ)) → TakesOn more a b → TakesOn rest b c → TakesOn (more ++ rest) a c
takes_then a b c more rest first second = record {
  view = second.view
      ∙ (ap (λ (d : Actor). taking_on d c.hand.place rest c.seen) first.view
      ∙ ap (λ (l : List Taken). record a { hand = record a.hand { place = c.hand.place }; deltas = record a.deltas { taken = l }; seen = c.seen })
      (then_more more rest a.deltas.taken));
  seen = sees_on a.seen b.seen c.seen first.seen second.seen;
}

pub saw_here : (a : Actor) (at word : ℕ) → a.since.counts ≤ length a.seen.counts
    → Contains (drop a.since.counts (a.seen.counts ++ sight at word)) (record { at = at; word = word })
saw_here a at word low = seen_here a.since.counts a.seen.counts at word low

-- a delta that has continued takes the same histogram
pub takes_of : (a b : Actor) (more : List (ℤ × ℕ)) (histogram : ℕ) (known : Known) → TakesOn more a b → Takes a histogram known → Takes b histogram known
takes_of a b more histogram known on (taking, has, of, (before, last, is, name)) = (
  ap (λ (x : Actor). x.deltas.taking) on.view ∙ taking,
  subst (λ (l : List Known). Contains l known) (sym (ap (λ (x : Actor). x.answers.names) on.view)) has,
  of,
  (
    before,
    with_units more last,
    ap (λ (x : Actor). x.deltas.taken) on.view ∙ (ap (change_last (with_units more)) is ∙ last_changed (with_units more) before last),
    name,
  ),
)

-- units between a mark and what it was raised to
units_between : (key : ℤ) (found least : ℕ) → (if nat_lt found least then (key, least - found) ∷ [] else []) ≡ units_of_key key (least - found)
units_between key found least = by_test (nat_lt found least) refl
  where
    by_test : (b : Bool) → nat_lt found least ≡ b → (if b then (key, least - found) ∷ [] else []) ≡ units_of_key key (least - found)
    by_test true lt =
        sym (ap (λ (b : Bool). if b then (key, least - found) ∷ [] else []) (lt-ltb 0 (least - found) (let below = ltb-true found least lt in omega (arith, below))))
    by_test false ge =
        sym (ap (λ (b : Bool). if b then (key, least - found) ∷ [] else []) (le-ltb 0 (least - found) (let above = ltb-false found least ge in omega (arith, above))))

-- what is taken of a mark
pub marked : (key mine : ℤ) (found least : ℕ) (list : List Taken) → key ≡ mine
    → change_last (take_units key least found) list ≡ change_last (with_units (units_of_key mine (least - found))) list
marked key mine found least list same =
    ap (λ (k : ℤ). change_last (take_units k least found) list) same
    ∙ ap (λ (more : List (ℤ × ℕ)). change_last (with_units more) list) (units_between mine found least)

-- ---- what a word keeps

pub none_packed : (form : Option SingleWord) (bucket : ℕ) → packed_bucket form ≢ Some bucket → units_packed form bucket ≡ 0
none_packed None bucket apart = refl
none_packed (Some Empty) bucket apart = refl
none_packed (Some (Packed b units)) bucket apart = ap (λ (t : Bool). if t then units else 0) (ne_eqb b bucket (λ same. apart (ap Some same)))
none_packed (Some (Disabled packed)) bucket apart = refl
none_packed (Some FrozenEmpty) bucket apart = refl
none_packed (Some (Frozen b units)) bucket apart = ap (λ (t : Bool). if t then units else 0) (ne_eqb b bucket (λ same. apart (ap Some same)))

-- ---- at the counts

module _ {segment : Segment} {known : Known} {mounted : Mounted} {old : Pass} (takes : TakesAt segment known mounted old) where
  abbrev look : Look
  look = record { histogram = known.reference; single = Some takes.word; counts = mounted.counts }

  abbrev form : Option SingleWord
  form = single_of old.me.0.segment.version (buckets_of known.spec) takes.word

  knows : Buckets old.me.0 known.reference known
  knows = ⊎_elim (λ (_, _, _, b). b) (λ (_, _, _, b). b) takes.stands

  -- it is still at them once its delta has continued
  pub stays : (new : Pass) (more : List (ℤ × ℕ)) → IsSame old new → TakesOn more old.me.0 new.me.0 → StandsAt new.me.0 look known
      → TakesAt segment known mounted new
  stays new more same on stands =
      let sees = takes_sees old.me.0 new.me.0 more on in
      let had = began old.me.0 takes.singles takes.counts in
      let still = began_still old.me.0 new.me.0 sees had in
      let version : new.me.0.segment.version ≡ old.me.0.segment.version = ap (λ (a : Actor). a.segment.version) on.view in record {
        table = same.0 ∙ takes.table;
        recorder = ap (λ (a : Actor). is_opener a.role) on.view ∙ takes.recorder;
        of = record {
          shape = ap (λ (a : Actor). a.segment.shape) on.view ∙ takes.of.shape;
          version = version ∙ takes.of.version;
          cursors = ap (λ (a : Actor). a.segment.cursors) on.view ∙ takes.of.cursors;
        };
        alone = ap (λ (a : Actor). known_at a.answers.names known.reference) on.view ∙ takes.alone;
        takes = takes_of old.me.0 new.me.0 more known.reference known on takes.takes;
        word = takes.word;
        saw = saw_single old.me.0 new.me.0 sees had (known.reference + 9) takes.word takes.saw;
        off = takes.off;
        packed = takes.packed ∙ ap (λ (v : ℕ). packed_bucket (single_of v (buckets_of known.spec) takes.word)) (sym version);
        kept = takes.kept ∙ ap (λ (v : ℕ). units_in (single_of v (buckets_of known.spec) takes.word)) (sym version);
        stands = stands;
        there = saw_word old.me.0 new.me.0 sees had (known.reference + 8) mounted.counts takes.there;
        within = (
          takes.within.0,
          subst (λ (s : Dimensions). mounted.counts + (4 + 2 * buckets_of known.spec) ≤ s.size) (sym (ap (λ (a : Actor). a.segment.shape) on.view)) takes.within.1,
        );
        singles = still.singles;
        counts = still.counts;
      }

  module _ (bucket : ℕ) (below : bucket < buckets_of known.spec) where
    abbrev at : ℕ
    at = mounted.counts + 4 + bucket

    pub may_load : MayStep segment old (taking_event (load_count at))
    may_load = record {
      table = takes.table;
      recorder = takes.recorder;
      ready = inl (look, known, bucket, takes.stands, below, refl);
    }

    pub room : at + (1 + buckets_of known.spec) ≤ segment.setting.shape.size
    room = let inside = subst (λ (s : Dimensions). mounted.counts + (4 + 2 * buckets_of known.spec) ≤ s.size) takes.of.shape takes.within.1 in
        omega (arith, inside, below)

    module _ {count : ℕ} {mid : Pass} (load : Stepped old (taking_event (load_count at)) count mid) where
      where_is : at_count old.me.0.hand.place at count ≡ CountLoaded look bucket count
      where_is =
          let bucket_is : at - (mounted.counts + 4) ≡ bucket = omega arith in
          ⊎_elim
          (λ (place, _, _, _). ap (λ (p : Place). at_count p at count) place ∙ ap (λ (b : ℕ). CountLoaded look b count) bucket_is)
          (λ (_, _, place, _). ap (λ (p : Place). at_count p at count) place ∙ ap (λ (b : ℕ). CountLoaded look b count) bucket_is) takes.stands

      pub placed : mid.me.0.hand.place ≡ CountLoaded look bucket count
      placed = ap (λ (a : Actor). a.hand.place) load.view ∙ where_is

      pub loads_on : TakesOn [] old.me.0 mid.me.0
      loads_on = takes_by old.me.0 mid.me.0 (at_count old.me.0.hand.place at count) [] (record old.me.0.seen { counts = old.me.0.seen.counts ++ sight at count })
          (load.view ∙ ap (λ (l : List Taken). record old.me.0 {
            hand = record old.me.0.hand { place = at_count old.me.0.hand.place at count };
            deltas = record old.me.0.deltas { taken = l };
            seen = record old.me.0.seen { counts = old.me.0.seen.counts ++ sight at count };
          }) (sym (nothing_more old.me.0.deltas.taken))) (sees_count old.me.0.seen (sight at count))

      knows_still : Buckets mid.me.0 known.reference known
      knows_still = subst (λ (a : Actor). Buckets a known.reference known) (sym loads_on.view) knows

      pub stays_loaded : TakesAt segment known mounted mid
      stays_loaded = stays mid [] load.same loads_on (inr (bucket, count, placed, knows_still))

      -- the total of the bucket was seen
      pub saw_total : SawBucket mid.me.0 known bucket (count + units_packed form bucket)
      unfolding stays_loaded stays
      saw_total =
          let low = takes.counts in (
            takes.word,
            stays_loaded.saw,
            inr (
              takes.off,
              (
                mounted.counts,
                count,
                stays_loaded.there,
                subst (λ (a : Actor). SawCount a at count) (sym load.view) (saw_here old.me.0 at count low),
                ap (λ (v : ℕ). count + units_packed (single_of v (buckets_of known.spec) takes.word) bucket)
                    (sym (ap (λ (a : Actor). a.segment.version) load.view)),
              ),
            ),
          )

      pub took_nothing : count + units_packed form bucket ≡ 0 → TookBucket mid.me.0 known bucket
      took_nothing none = (count + units_packed form bucket, saw_total, inl none)

      -- what becomes of it once a mark is raised
      module _ (new : Pass) (key mine : ℤ) (mark found least : ℕ) (same : IsSame mid new) (is_key : key ≡ mine)
          (view : new.me.0 ≡ record mid.me.0 {
            hand = record mid.me.0.hand { place = back mid.me.0.hand.place };
            deltas = record mid.me.0.deltas { taken = change_last (take_units key least found) mid.me.0.deltas.taken };
            seen = record mid.me.0.seen { counts = mid.me.0.seen.counts ++ sight mark (max found least) };
          }) where
        raised : TakesOn (units_of_key mine (least - found)) mid.me.0 new.me.0
        raised = takes_by mid.me.0 new.me.0 (back mid.me.0.hand.place) (units_of_key mine (least - found))
            (record mid.me.0.seen { counts = mid.me.0.seen.counts ++ sight mark (max found least) })
            (view ∙ ap (λ (l : List Taken). record mid.me.0 {
              hand = record mid.me.0.hand { place = back mid.me.0.hand.place };
              deltas = record mid.me.0.deltas { taken = l };
              seen = record mid.me.0.seen { counts = mid.me.0.seen.counts ++ sight mark (max found least) };
            }) (marked key mine found least mid.me.0.deltas.taken is_key)) (sees_count mid.me.0.seen (sight mark (max found least)))

        raises_on : TakesOn (units_of_key mine (least - found)) old.me.0 new.me.0
        raises_on = takes_then old.me.0 mid.me.0 new.me.0 [] (units_of_key mine (least - found)) loads_on raised

        pub same_raised : IsSame old new
        same_raised = (same.0 ∙ load.same.0, same.1 ∙ load.same.1, same.2 ∙ load.same.2)

        stays_raised : TakesAt segment known mounted new
        stays_raised =
            let there : new.me.0.hand.place ≡ Looking look = ap (λ (a : Actor). a.hand.place) view ∙ ap back placed in
            stays new (units_of_key mine (least - found)) same_raised raises_on
            (inl (there, takes.within.0, (takes.word, refl, takes.off), subst (λ (a : Actor). Buckets a known.reference known) (sym raises_on.view) knows))

        saw_mark : SawCount new.me.0 mark (max found least)
        saw_mark = subst (λ (a : Actor). SawCount a mark (max found least)) (sym view) (saw_here mid.me.0 mark (max found least) stays_loaded.counts)

        pub took : IsMarkOf new.me.0 known bucket mark → count + units_packed form bucket ≡ least → TookBucket new.me.0 known bucket
        took of is =
            let sees = takes_sees mid.me.0 new.me.0 (units_of_key mine (least - found)) raised in (
              count + units_packed form bucket,
              saw_bucket mid.me.0 new.me.0 sees (began mid.me.0 stays_loaded.singles stays_loaded.counts) known bucket (count + units_packed form bucket) saw_total,
              inr (mark, max found least, of, saw_mark, omega (arith, is)),
            )

      form_there : form_seen mid.me.0 known.reference takes.word ≡ form
      form_there =
          ap (λ (v : ℕ). single_of v (known_buckets (known_at mid.me.0.answers.names known.reference)) takes.word) (ap (λ (a : Actor). a.segment.version) loads_on.view)
          ∙ ap (λ (k : Option Known). single_of old.me.0.segment.version (known_buckets k) takes.word) stays_loaded.alone

      -- the packed bucket has the single mark
      module _ (packs : mounted.packed ≡ Some bucket) where
        holds : packed_bucket form ≡ Some bucket
        holds = sym takes.packed ∙ packs

        total_is : count + units_packed form bucket ≡ count + mounted.kept
        total_is = ap (λ (n : ℕ). count + n) (sym (packed_all form bucket holds) ∙ sym takes.kept)

        pub packed_nothing : count + mounted.kept ≡ 0 → TookBucket mid.me.0 known bucket
        packed_nothing none = took_nothing (total_is ∙ none)

        pub may_raise_single : count + mounted.kept ≢ 0 → MayStep segment mid (taking_event (raise_single_mark known.reference (count + mounted.kept)))
        may_raise_single some = record {
          table = stays_loaded.table;
          recorder = stays_loaded.recorder;
          ready = (
            omega (arith, some),
            (known, stays_loaded.takes),
            inr (
              look,
              bucket,
              count,
              takes.word,
              placed,
              refl,
              refl,
              ap packed_bucket form_there ∙ holds,
              ap (λ (n : ℕ). count + n) (takes.kept ∙ ap units_in (sym form_there)),
            ),
          );
        }

        key_packed : single_key mid.me.0 mid.me.0.hand.place ≡ bucket_key (Some known) bucket
        key_packed =
            let names = mid.me.0.answers.names in
            ap (single_key mid.me.0) placed
            ∙ (ap (λ (f : Option SingleWord). bucket_key (known_at names known.reference) (unwrap_or (packed_bucket f) 0)) form_there
            ∙ (ap (λ (p : Option ℕ). bucket_key (known_at names known.reference) (unwrap_or p 0)) holds
            ∙ ap (λ (k : Option Known). bucket_key k bucket) stays_loaded.alone))

        module _ {found : ℕ} {new : Pass} (raise : Stepped mid (taking_event (raise_single_mark known.reference (count + mounted.kept))) found new) where
          pub stays_packed : TakesAt segment known mounted new
          stays_packed = stays_raised new _ (bucket_key (Some known) bucket) _ found (count + mounted.kept) raise.same key_packed raise.view

          pub raises_packed : TakesOn (units_of_key (bucket_key (Some known) bucket) (count + mounted.kept - found)) old.me.0 new.me.0
          raises_packed = raises_on new _ (bucket_key (Some known) bucket) _ found (count + mounted.kept) raise.same key_packed raise.view

          pub took_packed : TookBucket new.me.0 known bucket
          took_packed =
              took new _ (bucket_key (Some known) bucket) _ found (count + mounted.kept) raise.same key_packed raise.view
              (inl (stays_packed.word, stays_packed.saw, sym stays_packed.packed ∙ packs, refl)) total_is

      -- each other one has its own mark after the counts
      module _ (apart : mounted.packed ≢ Some bucket) where
        other : packed_bucket form ≢ Some bucket
        other e = apart (takes.packed ∙ e)

        count_is : count + units_packed form bucket ≡ count
        count_is = let none = none_packed form bucket other in omega (arith, none)

        pub nothing_there : count ≡ 0 → TookBucket mid.me.0 known bucket
        nothing_there none = took_nothing (count_is ∙ none)

        key_other : taken_key mid.me.0 mid.me.0.hand.place ≡ bucket_key (Some known) bucket
        key_other = ap (taken_key mid.me.0) placed ∙ ap (λ (k : Option Known). bucket_key k bucket) stays_loaded.alone

        module _ (mark : ℕ) (where_mark : mark ≡ at + buckets_of known.spec) where
          stands_mark : mark ≡ mounted.counts + 4 + buckets_of known.spec + bucket
          stands_mark = omega (arith, where_mark)

          pub may_raise : count ≢ 0 → MayStep segment mid (taking_event (raise_mark mark count))
          may_raise some = record {
            table = stays_loaded.table;
            recorder = stays_loaded.recorder;
            ready = (
              omega (arith, some),
              inl (
                look,
                known,
                bucket,
                takes.word,
                placed,
                stays_loaded.takes,
                refl,
                (λ e. other (ap packed_bucket (sym form_there) ∙ e)),
                stands_mark,
              ),
            );
          }

          module _ {found : ℕ} {new : Pass} (raise : Stepped mid (taking_event (raise_mark mark count)) found new) where
            pub stays_other : TakesAt segment known mounted new
            stays_other = stays_raised new _ (bucket_key (Some known) bucket) mark found count raise.same key_other raise.view

            pub raises_other : TakesOn (units_of_key (bucket_key (Some known) bucket) (count - found)) old.me.0 new.me.0
            raises_other = raises_on new _ (bucket_key (Some known) bucket) mark found count raise.same key_other raise.view

            pub took_other : TookBucket new.me.0 known bucket
            took_other =
                took new _ (bucket_key (Some known) bucket) mark found count raise.same key_other raise.view (inr (mounted.counts, stays_other.there, stands_mark)) count_is

-- whether a bucket is the packed one
pub is_packed : (packed : Option ℕ) (bucket : ℕ) → option_eq nat_eq packed (Some bucket) ≡ true → packed ≡ Some bucket
is_packed None bucket is = absurd (cc is)
is_packed (Some b) bucket is = ap Some (eqb-true b bucket is)

pub is_other : (packed : Option ℕ) (bucket : ℕ) → option_eq nat_eq packed (Some bucket) ≡ false → packed ≢ Some bucket
is_other packed bucket is same = true≢false (sym (ap (λ (p : Option ℕ). option_eq nat_eq p (Some bucket)) same ∙ eq-eqb bucket bucket refl) ∙ is)

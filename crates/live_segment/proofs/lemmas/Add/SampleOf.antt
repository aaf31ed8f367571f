-- The first sample of a value is looked for, one is made if there is none, and the search continues: what becomes of the recorder.
use Rattle.std.proofs.Common.{◌≡◌, ℕ, ◌+◌, ◌≤◌, ◌==◌, ◌||◌, Bool, true, false, ℤ, List, [], ◌∷◌, ◌++◌, length, slice_index, eqb-true, inl, inr, refl, sym, ap, subst, ◌∙◌, arith, append_assoc}
use Rattle.std.specs.List.{Contains, list_any}
use Rattle.std.proofs.lemmas.List.{get_or_push, length_push}
use Rattle.std.proofs.lemmas.List.Elements.{All-nil}
use Rattle.segment_image.specs.Shape.{Dimensions}
use Rattle.bucket_ranges.specs.declared.spec.Spec.TheVariants as spec
use Rattle.list_core.specs.Chain.{stops}
use Rattle.list_core.specs.Walk.{IsPrefix, stands_behind}
use Rattle.segment_calls.specs.declared.refusal.Refusal.{Refusal}
use Rattle.segment_machine.specs.declared.actor.Actor.{Actor}
use Rattle.segment_machine.specs.declared.actor.Known.{Known}
use Rattle.segment_machine.specs.declared.actor.Made.TheVariants.{Sample}
use Rattle.segment_machine.specs.declared.actor.Published.{Published}
use Rattle.segment_machine.specs.declared.seen.Seen.{Seen}
use Rattle.segment_machine.specs.declared.seen.Sighting.{Sighting}
use Rattle.segment_machine.specs.Actor.{Sparse}
use Rattle.segment_machine.specs.Calls.{MayTurn}
use Rattle.live_segment.specs.declared.recorder.KnownHistogram.{KnownHistogram}
use Rattle.live_segment.specs.declared.rule.Setting.{Setting}
use Rattle.live_segment.specs.declared.add.sample_search.SampleSearch.TheVariants as search
use Rattle.live_segment.specs.Known.{known_view, KnowsRight}
use Rattle.live_segment.specs.Alloc.Claims.{MakesOne}
use Rattle.segment_promises.specs.Onward.{DoesOn, Grows, SeesOn}
use Rattle.live_segment.specs.Add.Refusal.{MayGiveUp}
use Rattle.live_segment.specs.Rule.{IsOf}
use Rattle.live_segment.specs.Add.SampleSearch.{FindsSample, HasMadeNoSample, HasMadeSample, HasNotMadeSample, HasSampleOf, LacksSampleOf, SawNone, WalksBehind}
use Rattle.live_segment.specs.List.Ends.{FoundEndAt, SawAllOfList}
use Rattle.live_segment.specs.Hist.Search.{HasSearched}
use Rattle.live_segment.specs.Add.Progress.{LooksOn}
use Rattle.live_segment.proofs.lemmas.Add.Beginning.{known_there}
use Rattle.live_segment.proofs.lemmas.List.Ends.{all_on, found_on}
use Rattle.live_segment.proofs.lemmas.Steps.Proceeding.{does_not, looks_on, sees_list}
use Rattle.segment_promises.proofs.Growing.{grows_not, grows_on, grows_same, others_still}
use Rattle.live_segment.proofs.lemmas.Add.Refusing.{only_given_up}
use Rattle.live_segment.proofs.lemmas.Alloc.Blocks.{makes_between}
use Rattle.live_segment.proofs.lemmas.Alloc.Rooms.{lacked_since}

-- ---- a walk begins

-- an element is between others
pub split_there : (list : List ℕ) (x : ℕ) → list_any (λ y. y == x) list ≡ true → (front behind : List ℕ) × (list ≡ front ++ x ∷ behind)
split_there [] x is = absurd (cc is)
split_there (y ∷ rest) x is = by (y == x) refl is (split_there rest x)
  where
    by : (here : Bool) → (y == x) ≡ here → (here || list_any (λ z. z == x) rest) ≡ true
        → (list_any (λ z. z == x) rest ≡ true → (front behind : List ℕ) × (rest ≡ front ++ x ∷ behind))
        → (front behind : List ℕ) × (y ∷ rest ≡ front ++ x ∷ behind)
    by true same found later = ([], rest, ap (λ (z : ℕ). z ∷ rest) (eqb-true y x same))
    by false apart found later =
        let (front, behind, parts) = later found in (y ∷ front, behind, ap (λ (l : List ℕ). y ∷ l) parts)

-- a walk is at the last record that it has given
stands_last : (given : List ℕ) (x : ℕ) → x ≡ slice_index (stops (given ++ x ∷ [])) (length (given ++ x ∷ []))
stands_last given x = let long = length_push given x in sym (get_or_push (stops given) x 0 (length (given ++ x ∷ [])) (omega (arith, long)))

-- it has given the histogram's record, and is there
pub walk_begins : (setting : Setting) (histogram : KnownHistogram) (value : ℤ) (a : Actor) → IsOf setting a → MayTurn a → KnowsRight setting a histogram
    → WalksBehind histogram.reference value histogram.reference a
walk_begins setting histogram value a of free right =
    let (front, behind, parts) = split_there a.seen.chain histogram.reference right.met in record {
      front = front;
      given = [];
      way = record {
        free = free;
        front = (behind, parts ∙ sym (append_assoc front (histogram.reference ∷ []) behind));
        stands = stands_last front histogram.reference;
        within = let room = right.room in subst (λ (d : Dimensions). histogram.reference + 5 ≤ d.size) (sym of.shape) (omega (arith, room));
      };
      others = All-nil _;
    }

-- ---- it continues

-- a search has looked
looks_searched : (a b : Actor) → MayTurn b → HasSearched a b → LooksOn a b
looks_searched a b free searched = record {
  proceeds = record {
    same = searched.view
        ∙ (λ i. record a {
          units = sym (ap (λ (x : Actor). x.units) searched.view) i;
          entries = sym (ap (λ (x : Actor). x.entries) searched.view) i;
          hand = sym (ap (λ (x : Actor). x.hand) searched.view) i;
          done = sym (ap (λ (x : Actor). x.done) searched.view) i;
          seen = sym (ap (λ (x : Actor). x.seen) searched.view) i;
        });
    free = free;
    done = subst (DoesOn a.done) (sym (ap (λ (x : Actor). x.done) searched.view)) (does_not a.done);
    seen = subst (SeesOn a.seen) (sym (ap (λ (x : Actor). x.seen) searched.view)) (sees_list a.seen searched.chain searched.ends searched.words);
  };
  units = ap (λ (x : Actor). x.units) searched.view;
  entries = ap (λ (x : Actor). x.entries) searched.view;
}

-- the histogram is still known, and its call may still end
pub knows_still : (setting : Setting) (histogram : KnownHistogram) (a b : Actor) → KnowsRight setting a histogram → histogram.spec ≡ spec.Sparse → HasSearched a b
    → (known : Known) × Sparse b histogram.reference known
knows_still setting histogram a b right sparse searched = (
  known_view histogram,
  (
    subst (λ (x : Actor). Contains x.answers.names (known_view histogram)) (sym searched.view)
        (known_there a.answers.names histogram.reference (known_view histogram) right.alone).0,
    refl,
    sparse,
  ),
)

pub gives_up_still : (a b : Actor) → MayGiveUp a → HasSearched a b → MayGiveUp b
gives_up_still a b may searched = subst (λ (x : Actor). MayGiveUp x) (sym searched.view) may

-- a walk continues after the end that it had reached, once a sample is made
pub walk_goes_on : (histogram : ℕ) (value : ℤ) (at : ℕ) (a b : Actor) → WalksBehind histogram value at a → HasMadeSample histogram value a b
    → WalksBehind histogram value at b
walk_goes_on histogram value at a b walks made = record {
  front = walks.front;
  given = walks.given;
  way = record {
    free = made.looks.proceeds.free;
    front = subst (IsPrefix (walks.front ++ histogram ∷ walks.given)) (sym made.chain) walks.way.front;
    stands = walks.way.stands;
    within = subst (λ (d : Dimensions). at + 5 ≤ d.size) (sym (ap (λ (x : Actor). x.segment.shape) made.looks.proceeds.same)) walks.way.within;
  };
  others = others_still a.seen b.seen (grows_same a.seen.words b.seen.words made.words) histogram value walks.given walks.others;
}

-- ---- how it ends

-- it visited a sample before it made one
pub met_before : (known : Known) (value : ℤ) (sample : ℕ) (a b : Actor) → HasSearched a b → FindsSample known.reference value (search.Met sample) b
    → HasSampleOf known value sample a b
met_before known value sample a b searched (free, first, within) = record {
  looks = looks_searched a b free searched;
  first = first;
  within = within;
  filled = ap (λ (x : Actor). x.done.filled) searched.view;
  untouched = ap (λ (x : Actor). x.seen.counts) searched.view;
  claims = inl (ap (λ (x : Actor). x.done) searched.view);
}

module _ (known : Known) (value : ℤ) (a b : Actor) (searched : HasSearched a b) (free : MayTurn b) where
  -- it visited one after that
  module _ (c d : Actor) (made : HasMadeSample known.reference value b c) (again : HasSearched c d) where
    pub met_then : (sample : ℕ) → SawNone known.reference value b → SawAllOfList a.seen b.seen → FindsSample known.reference value (search.Met sample) d
        → HasSampleOf known value sample a d
    met_then sample none all finds =
        let last = met_before known value sample c d again finds in record {
          looks = looks_on a b d (looks_searched a b free searched) (looks_on b c d made.looks last.looks);
          first = last.first;
          within = last.within;
          filled = last.filled ∙ (made.filled ∙ ap (λ (x : Actor). x.done.filled) searched.view);
          untouched = last.untouched ∙ (made.counts ∙ ap (λ (x : Actor). x.seen.counts) searched.view);
          claims = inr (
              let (front, behind, parts, others) = none in record {
                makes = makes_between a.segment.shape (Sample known.reference value) 8 a.done b.done c.done d.done (ap (λ (x : Actor). x.done) searched.view)
                    (subst (λ (s : Dimensions). MakesOne s (Sample known.reference value) 8 b.done c.done) (ap (λ (x : Actor). x.segment.shape) searched.view) made.makes)
                    (ap (λ (x : Actor). x.done) again.view);
                front = front;
                behind = behind;
                more = (
                  subst (Grows a.seen.chain) parts searched.chain,
                  subst (λ (l : List ℕ). Grows l d.seen.chain) (made.chain ∙ parts) again.chain,
                );
                all = found_on a.seen a.seen b.seen d.seen (grows_not a.seen.ends) searched.ends
                    (grows_on b.seen.ends c.seen.ends d.seen.ends made.looks.proceeds.seen.ends again.ends) (stands_behind (front ++ known.reference ∷ behind) + 3)
                    (subst (λ (l : List ℕ). FoundEndAt (stands_behind l) a.seen b.seen) parts all);
                others = others_still b.seen d.seen (subst (λ (l : List Sighting). Grows l d.seen.words) made.words again.words) known.reference value behind others;
              }
              );
        }

    -- its own at the latest
    pub meets_own : HasMadeNoSample known.reference value d → ⊥
    meets_own none =
        none made.at (subst (λ (l : List Published). Contains l (record { reference = made.at; made = Sample known.reference value }))
        (sym (ap (λ (x : Actor). x.done.published) again.view)) made.published)

  -- there is none, and none could be made
  pub lacks_sample : (why : Refusal) (c : Actor) → SawNone known.reference value b → SawAllOfList a.seen b.seen → HasNotMadeSample why b c → LacksSampleOf why known value a c
  lacks_sample why c none all refused =
      let seen : c.seen ≡ record b.seen { free = refused.last.seen.free; corrupt = refused.last.seen.corrupt; warned = refused.last.seen.warned } = ap (λ (x : Actor). x.seen) (refused.ends ∙ only_given_up refused.last) ∙ refused.seen in
      record {
        last = refused.last;
        looks = looks_on a b refused.last (looks_searched a b free searched) refused.looks;
        untouched = ap (λ (s : Seen). s.counts) refused.seen ∙ ap (λ (x : Actor). x.seen.counts) searched.view;
        ends = refused.ends;
        idle = refused.idle;
        none =
            let (front, behind, parts, others) = none in (
              front,
              behind,
              ap (λ (s : Seen). s.chain) seen ∙ parts,
              others_still b.seen c.seen (grows_same b.seen.words c.seen.words (ap (λ (s : Seen). s.words) seen)) known.reference value behind others,
            );
        all = all_on a.seen a.seen b.seen c.seen (grows_not a.seen.ends) searched.ends (grows_same b.seen.ends c.seen.ends (ap (λ (s : Seen). s.ends) seen))
            (ap (λ (s : Seen). s.chain) seen) all;
        room = lacked_since why 8 a b c (ap (λ (x : Actor). x.done) searched.view) (looks_searched a b free searched).proceeds.seen.warned refused.room;
      }

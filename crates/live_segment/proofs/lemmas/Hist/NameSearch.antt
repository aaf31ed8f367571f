-- A search for a name: what a recorder knows once it has loaded the next of the block where its walk is, and once it has compared the
-- record that it visited.
use Rattle.std.proofs.Common.{◌≡◌, ◌≢◌, ℕ, ◌+◌, ◌<◌, ◌≤◌, ◌==◌, true, false, List, [], ◌∷◌, ◌++◌, length, slice_index, inl, inr, refl, sym, ap, subst, ◌∙◌, arith, map, not}
use Rattle.std.specs.List.{All, Contains, filter}
use Rattle.std.proofs.Math.ListN.{get_or}
use Rattle.std.proofs.lemmas.List.{append-nil, append_assoc}
use Rattle.std.proofs.lemmas.List.Elements.{All-push, All-contains, Contains-append_left}
use Rattle.segment_image.specs.Shape.{Dimensions}
use Rattle.segment_machine.specs.declared.actor.Actor.{Actor}
use Rattle.segment_machine.specs.declared.actor.Given.{Given}
use Rattle.segment_machine.specs.declared.actor.Published.{Published}
use Rattle.segment_machine.specs.declared.seen.Sighting.{Sighting}
use Rattle.segment_machine.specs.declared.actor.Made.TheVariants as made
use Rattle.segment_machine.specs.declared.seen.Seen.{Seen}
use Rattle.segment_machine.specs.Actor.{is_opener}
use Rattle.segment_machine.specs.Event.{walking_event}
use Rattle.segment_machine.specs.Made.{IsFirstNamed, SawName, SawOtherName, SawSpec, SawOtherSpec}
use Rattle.segment_machine.specs.Stages.{Walks}
use Rattle.segment_machine.specs.Walking.{load_next, records_met}
use Rattle.segment_invariant.proofs.Lists.Maps.{contains_map}
use Rattle.segment_calls.specs.declared.asked.Asked.{Asked}
use Rattle.live_segment.specs.declared.hist.search.Search.TheVariants as search
use Rattle.live_segment.specs.declared.segment.Segment.{Segment}
use Rattle.live_segment.specs.Steps.{Pass, IsSame, Stepped}
use Rattle.live_segment.specs.Holders.{MayStep}
use Rattle.live_segment.specs.Seated.{IsSeated}
use Rattle.segment_promises.specs.Onward.{Grows, is_holding}
use Rattle.segment_promises.specs.Values.{NoRepeats}
use Rattle.live_segment.specs.List.Records.{KnowsOwnNames}
use Rattle.live_segment.specs.Hist.ListSearch.{IsAsked, MayLoadRecord, SeesWords, ShowsName, ShowsSpec}
use Rattle.live_segment.specs.Hist.Search.{SearchesAt, HasSearched, Searches, HasMadeNone}
use Rattle.segment_promises.proofs.Growing.{grows_on, still}
use Rattle.segment_promises.proofs.Furthest.{last_of}
use Rattle.live_segment.proofs.lemmas.List.Showing.{sees_on}
use Rattle.live_segment.proofs.lemmas.List.WalkProgress as way
use Rattle.live_segment.specs.List.Ends.{SawAllOfList}

-- ---- what was seen stays

pub other_still : (a b : Seen) → Grows a.words b.words → (name : List ℕ) (at : ℕ) → SawOtherName a name at → SawOtherName b name at
other_still a b grows name at (inl (tag, seen, other)) = inl (tag, still a.words b.words grows (at + 2) tag seen, other)
other_still a b grows name at (inr (inl (len, seen, other))) = inr (inl (len, still a.words b.words grows (at + 14) len seen, other))
other_still a b grows name at (inr (inr (letters, i, word, spells, inside, seen, other))) =
    inr (inr (letters, i, word, spells, inside, still a.words b.words grows (at + 15 + i) word seen, other))

pub others_still : (a b : Seen) → Grows a.words b.words → (name given : List ℕ) → All (SawOtherName a name) given → All (SawOtherName b name) given
others_still a b grows name given others k d inside = other_still a b grows name (get_or given k d) (others k d inside)

-- ---- on the way

pub searched_not : (a : Actor) → HasSearched a a
searched_not a = record { view = refl; apart = λ was. was; chain = ([], sym (append-nil a.seen.chain)); ends = ([], sym (append-nil a.seen.ends)); words = ([], sym (append-nil a.seen.words)) }

pub searched_on : (a b c : Actor) → HasSearched a b → HasSearched b c → HasSearched a c
searched_on a b c one two = record {
  view = two.view ∙ ap (λ (x : Actor). record x {
    hand = record x.hand { place = c.hand.place };
    seen = record x.seen { chain = c.seen.chain; ends = c.seen.ends; words = c.seen.words };
  }) one.view;
  apart = λ was. two.apart (one.apart was);
  chain = grows_on a.seen.chain b.seen.chain c.seen.chain one.chain two.chain;
  ends = grows_on a.seen.ends b.seen.ends c.seen.ends one.ends two.ends;
  words = grows_on a.seen.words b.seen.words c.seen.words one.words two.words;
}

pub sees_searched : (a b : Actor) → SeesWords a b → HasSearched a b
sees_searched a b sees = record {
  view = sees.view
      ∙ (λ i. record a {
        hand = record a.hand { place = sym (ap (λ (x : Actor). x.hand.place) sees.view) i };
        seen = record a.seen {
          chain = sym (ap (λ (x : Actor). x.seen.chain) sees.view) i;
          ends = sym (ap (λ (x : Actor). x.seen.ends) sees.view) i;
          words = b.seen.words;
        };
      });
  apart = λ was. ap (λ (x : Actor). is_holding x.hand.place) sees.view ∙ was;
  chain = ([], ap (λ (x : Actor). x.seen.chain) sees.view ∙ sym (append-nil a.seen.chain));
  ends = ([], ap (λ (x : Actor). x.seen.ends) sees.view ∙ sym (append-nil a.seen.ends));
  words = sees.words;
}

-- ---- a next

module _ {segment : Segment} {old : Pass} {name : List ℕ} {at : ℕ} (seated : IsSeated segment old) (walks : SearchesAt name at old.me.0) where
  abbrev given : List ℕ
  given = walks.given

  abbrev chain : List ℕ
  chain = old.me.0.seen.chain

  pub may_follow : MayStep segment old (walking_event (load_next at))
  may_follow = way.may_follow seated walks.way

  pub room : at + 5 ≤ segment.setting.shape.size
  room = way.room seated walks.way

  module _ (found : ℕ) (new : Pass) (load : Stepped old (walking_event (load_next at)) found new) where
    pub searched : HasSearched old.me.0 new.me.0
    searched = way.searched seated walks.way found new load

    -- at the end of the list it has seen all of it
    pub found_end : NoRepeats chain → found ≡ 12 → SawAllOfList old.me.0.seen new.me.0.seen
    found_end once end = way.found_end seated walks.way found new load once end

    others_then : All (SawOtherName new.me.0.seen name) given
    others_then = others_still old.me.0.seen new.me.0.seen searched.words name given walks.others

    -- at the end of the list, all of it was seen
    pub ends : NoRepeats chain → KnowsOwnNames old.me.0 → found ≡ 12
        → SearchesAt name at new.me.0 × All (SawOtherName new.me.0.seen name) new.me.0.seen.chain × HasMadeNone name new.me.0
    ends once names end =
        let whole : given ≡ chain = way.whole seated walks.way found new load once end in
        let same : new.me.0.seen.chain ≡ chain = way.chain_still seated walks.way found new load once end in
        let others : All (SawOtherName old.me.0.seen name) chain = subst (All (SawOtherName old.me.0.seen name)) whole walks.others in (
          record { given = given; way = way.way_still seated walks.way found new load once end; others = others_then },
          subst (All (SawOtherName new.me.0.seen name)) (whole ∙ sym same) others_then,
          λ spec r has.
              let published : Contains old.me.0.done.published (record { reference = r; made = made.Histogram name spec }) =
              subst (λ (l : List Published). Contains l (record { reference = r; made = made.Histogram name spec })) (ap (λ (a : Actor). a.done.published) load.view) has in
              let listed : Contains chain r = All-contains (Contains chain) (records_met old.me.0) r (way.met_all seated walks.way found new load once end)
              (Contains-append_left
              (map (λ (p : Published). p.reference) old.me.0.done.published ++ map (λ (g : Given). g.reference) old.me.0.done.given)
              (filter (λ at. not (at == 12)) (old.me.0.seen.tails ++ map (λ (s : Sighting). s.word) old.me.0.seen.cursors)) r
              (Contains-append_left (map (λ (p : Published). p.reference) old.me.0.done.published) (map (λ (g : Given). g.reference) old.me.0.done.given) r
              (contains_map (λ (p : Published). p.reference) old.me.0.done.published (record { reference = r; made = made.Histogram name spec }) published))) in
              names name spec r published (All-contains (SawOtherName old.me.0.seen name) chain r others listed),
        )

    module _ (miss : found ≢ 12) where
      longer : Walks new.me.0 (given ++ found ∷ [])
      longer = way.longer seated walks.way found new load miss

      pub meets : MayLoadRecord found new.me.0
      meets = way.meets seated walks.way found new load miss

      pub room_found : found + 5 ≤ segment.setting.shape.size
      room_found = way.room_found seated walks.way found new load miss

      -- what a walk that continues after a record of another name knows
      pub walks_then : (b : Actor) → SeesWords new.me.0 b → SawOtherName b.seen name found → SearchesAt name found b
      walks_then b sees other = record {
        given = given ++ found ∷ [];
        way = way.way_on seated walks.way found new load miss b sees;
        others = All-push (SawOtherName b.seen name) given found (others_still new.me.0.seen b.seen sees.words name given others_then) other;
      }

      -- the first of the name
      pub first_named : (b : Actor) → SeesWords new.me.0 b → SawName b.seen name found → IsFirstNamed b.seen name found
      first_named b sees saw =
          let (rest, front) = longer.1 in (
            given,
            rest,
            ap (λ (x : Actor). x.seen.chain) sees.view ∙ (front ∙ append_assoc given (found ∷ []) rest),
            others_still new.me.0.seen b.seen sees.words name given others_then,
            saw,
          )

      -- it has come further along the list, which fits in the segment
      pub comes_further : (b : Actor) → SeesWords new.me.0 b → NoRepeats chain
          → (last_of chain at < last_of b.seen.chain found) × (last_of b.seen.chain found ≤ segment.setting.shape.size)
      comes_further b sees once = way.comes_further seated walks.way found new load miss b sees once

-- ---- a record of the name

pub name_still : (a b : Seen) → Grows a.words b.words → (name : List ℕ) (at : ℕ) → SawName a name at → SawName b name at
name_still a b grows name at (tag, len, letters, spells, words) = (
  still a.words b.words grows (at + 2) 1 tag,
  still a.words b.words grows (at + 14) (length name) len,
  letters,
  spells,
  λ i below. still a.words b.words grows (at + 15 + i) (slice_index letters i) (words i below),
)

-- a recorder's seat is still one at its segment
pub seat_on : {segment : Segment} {first : Pass} (old : Pass) → IsSeated segment first → IsSame first old → HasSearched first.me.0 old.me.0 → IsSeated segment old
seat_on old seated same searched = record {
  table = same.0 ∙ seated.table;
  recorder = ap (λ (a : Actor). is_opener a.role) searched.view ∙ seated.recorder;
  of = record {
    shape = ap (λ (a : Actor). a.segment.shape) searched.view ∙ seated.of.shape;
    version = ap (λ (a : Actor). a.segment.version) searched.view ∙ seated.of.version;
    cursors = ap (λ (a : Actor). a.segment.cursors) searched.view ∙ seated.of.cursors;
  };
}

-- the first of the name, with the spec or another
module _ {shape : Dimensions} {asked : Asked} (is : IsAsked shape asked) (found : ℕ) (last : Actor) (met : MayLoadRecord found last)
    (first : IsFirstNamed last.seen asked.name.items found) where
  pub first_with : found + 15 + asked.letters ≤ last.segment.shape.size → ShowsSpec asked found true last.seen → Searches asked (search.Met found) last
  first_with within spec = (
    met.0,
    (first, (is.payload.letters, is.payload.spells, subst (λ (n : ℕ). SawSpec last.seen asked.spec n found) is.payload.count_is spec)),
    met.1,
    omega (arith, within),
  )

  pub first_without : ShowsSpec asked found false last.seen → Searches asked search.OtherSpec last
  first_without other = (
    met.0,
    (found, is.payload.letters, first, is.payload.spells, subst (λ (n : ℕ). SawOtherSpec last.seen asked.spec n found) is.payload.count_is other),
  )

module _ {segment : Segment} {old : Pass} {asked : Asked} (is : IsAsked segment.setting.shape asked) {at : ℕ} (seated : IsSeated segment old)
    (walks : SearchesAt asked.name.items at old.me.0) (found : ℕ) (new : Pass) (load : Stepped old (walking_event (load_next at)) found new) (miss : found ≢ 12)
    (named : Actor) (sees : SeesWords new.me.0 named) (name : ShowsName asked found true named) (last : Actor) (then_sees : SeesWords named last) where
  all_seen : SeesWords new.me.0 last
  all_seen = sees_on new.me.0 named last sees then_sees

  it_meets : MayLoadRecord found last
  it_meets = subst (MayLoadRecord found) (sym all_seen.view) (meets seated walks found new load miss)

  is_first : IsFirstNamed last.seen asked.name.items found
  is_first =
      first_named seated walks found new load miss last all_seen
      (name_still named.seen last.seen then_sees.words asked.name.items found name.0)

  pub met_spec : ShowsSpec asked found true last.seen → Searches asked (search.Met found) last
  met_spec =
      let within = name.1 in let size = ap (λ (a : Actor). a.segment.shape.size) then_sees.view in
      first_with is found last it_meets is_first (omega (arith, within, size))

  pub met_other : ShowsSpec asked found false last.seen → Searches asked search.OtherSpec last
  met_other = first_without is found last it_meets is_first

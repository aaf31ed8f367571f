-- A `hist` looks for the first record of its name, makes one if there is none, and looks further: what becomes of its recorder.
use Rattle.std.proofs.Common.{◌≡◌, ◌≢◌, ℕ, ◌+◌, ◌≤◌, Bool, false, List, [], ◌∷◌, ◌++◌, length, map, not, ◌&&◌, ◌==◌, if◌then◌else◌, eq-eqb, append_assoc, All, inl, inr, refl, sym, ap, subst, ◌∙◌, arith, true}
use Rattle.std.specs.Prelude.{Ok, Err}
use Rattle.std.specs.List.{Contains, filter}
use Rattle.std.specs.Str.{bytes_eq}
use Rattle.std.proofs.lemmas.Slice.Eq.{bytes_eq-Decides}
use Rattle.std.proofs.lemmas.List.Elements.{All-nil, Contains-append_right}
use Rattle.list_core.specs.Walk.{IsPrefix}
use Rattle.segment_image.specs.Shape.{Dimensions}
use Rattle.segment_machine.specs.declared.actor.Actor.{Actor}
use Rattle.segment_machine.specs.declared.actor.Done.{Done}
use Rattle.segment_machine.specs.declared.actor.Known.{Known}
use Rattle.segment_machine.specs.declared.actor.Made.TheVariants.{Histogram}
use Rattle.segment_machine.specs.declared.actor.Published.{Published}
use Rattle.segment_machine.specs.declared.actor.Rise.{Rise}
use Rattle.segment_machine.specs.declared.place.Place.TheVariants.{Idle}
use Rattle.segment_machine.specs.Actor.{looking}
use Rattle.segment_machine.specs.Note.{declines, knows, noted}
use Rattle.segment_promises.specs.Follows.{MayNoteAll, noted_by}
use Rattle.segment_machine.specs.Calls.{MayTurn}
use Rattle.segment_machine.specs.Made.{SawOtherName}
use Rattle.segment_calls.specs.declared.asked.Asked.{Asked}
use Rattle.segment_calls.specs.declared.refusal.Refusal.{Refusal}
use Rattle.segment_calls.specs.declared.refusal.Refusal.TheVariants as why
use Rattle.live_segment.specs.declared.hist.search.Search.TheVariants as search
use Rattle.live_segment.specs.Add.Sample.{HasNoRoom}
use Rattle.live_segment.specs.List.Ends.{SawAllOfList}
use Rattle.live_segment.specs.Alloc.Allocation.{Allocates, filled, noticed, saw_free}
use Rattle.live_segment.specs.Steps.Answering.{HaveOneName}
use Rattle.live_segment.specs.Hist.NewRecord.{HasMade, MakesRecord}
use Rattle.live_segment.specs.Hist.Outcome.{IsHistRefusal, LooksAround, LooksUp, Owes, OwesAs, Settles}
use Rattle.segment_promises.specs.Onward.{DoesOn, Grows, SeesOn}
use Rattle.live_segment.specs.Hist.Search.{HasMadeNone, HasSearched, Searches, SearchesAt, asked_at}
use Rattle.live_segment.proofs.lemmas.List.Ends.{all_on}
use Rattle.live_segment.proofs.lemmas.Alloc.Claimed.{sees_header}
use Rattle.live_segment.proofs.lemmas.Alloc.Rooms.{lacked_since, lacks_room}
use Rattle.live_segment.proofs.lemmas.Steps.Proceeding.{does_not, does_on, sees_list, sees_not, sees_on}
use Rattle.segment_promises.proofs.Growing.{grows_by, grows_not, grows_same}
use Rattle.live_segment.proofs.lemmas.Add.Refusing.{at_rest}
use Rattle.live_segment.proofs.lemmas.Hist.NameSearch.{others_still}

-- ---- what each part leaves unchanged

does_same : (old new : Done) → new ≡ old → DoesOn old new
does_same old new same = subst (DoesOn old) (sym same) (does_not old)

pub around_on : (a b c : Actor) → LooksAround a b → LooksAround b c → LooksAround a c
around_on a b c one two = record {
  same = two.same ∙ ap (λ (x : Actor). record x { hand = c.hand; done = c.done; seen = c.seen; answers = record x.answers { owed = c.answers.owed } }) one.same;
  free = two.free;
  apart = λ was. two.apart (one.apart was);
  done = does_on a.done b.done c.done one.done two.done;
  seen = sees_on a.seen b.seen c.seen one.seen two.seen;
  untouched = (two.untouched.0 ∙ one.untouched.0, two.untouched.1 ∙ one.untouched.1);
}

-- a search
pub searched_around : (a b : Actor) → MayTurn b → HasSearched a b → LooksAround a b
searched_around a b free searched = record {
  same = searched.view ∙ (λ i. record a {
    hand = sym (ap (λ (x : Actor). x.hand) searched.view) i;
    done = sym (ap (λ (x : Actor). x.done) searched.view) i;
    seen = sym (ap (λ (x : Actor). x.seen) searched.view) i;
    answers = record a.answers { owed = sym (ap (λ (x : Actor). x.answers.owed) searched.view) i };
  });
  free = free;
  apart = searched.apart;
  done = does_same a.done b.done (ap (λ (x : Actor). x.done) searched.view);
  seen = subst (SeesOn a.seen) (sym (ap (λ (x : Actor). x.seen) searched.view)) (sees_list a.seen searched.chain searched.ends searched.words);
  untouched = (ap (λ (x : Actor). x.seen.singles) searched.view, ap (λ (x : Actor). x.seen.counts) searched.view);
}

-- a record that is made
pub made_around : (asked : Asked) (a b : Actor) → HasMade asked a b → LooksAround a b
made_around asked a b made = record {
  same = made.view ∙ (λ i. record a {
    hand = b.hand;
    done = sym (ap (λ (x : Actor). x.done) made.view) i;
    seen = sym (ap (λ (x : Actor). x.seen) made.view) i;
    answers = record a.answers { owed = sym (ap (λ (x : Actor). x.answers.owed) made.view) i };
  });
  free = made.free;
  apart = λ was. made.apart;
  done = record {
    same = ap (λ (x : Actor). x.done) made.view ∙ (λ i. record a.done {
      claimed = b.done.claimed;
      raised = b.done.raised;
      published = sym (ap (λ (x : Actor). x.done.published) made.view) i;
      filled = sym (ap (λ (x : Actor). x.done.filled) made.view) i;
      lacked = sym (ap (λ (x : Actor). x.done.lacked) made.view) i;
      beaten = b.done.beaten;
    });
    claimed = made.claimed;
    raised = let (wastes, are, all) = made.makes.raises in (wastes ++ _ ∷ [], are ∙ append_assoc a.done.raised wastes _);
    published = (record { reference = made.at; made = Histogram asked.name.items asked.spec } ∷ [], ap (λ (x : Actor). x.done.published) made.view);
    filled = λ set. ap (λ (x : Actor). x.done.filled) made.view ∙ set;
    lacked = grows_same a.done.lacked b.done.lacked (ap (λ (x : Actor). x.done.lacked) made.view);
    spoiled = λ set. absurd (cc (sym made.unspoiled ∙ set));
  };
  seen = record {
    free = made.later;
    corrupt = λ saw. ap (λ (x : Actor). x.seen.corrupt) made.view ∙ saw;
    warned = let e = ap (λ (x : Actor). x.seen.warned) made.view in omega (arith, e);
    chain = grows_same a.seen.chain b.seen.chain (ap (λ (x : Actor). x.seen.chain) made.view);
    ends = grows_same a.seen.ends b.seen.ends (ap (λ (x : Actor). x.seen.ends) made.view);
    tails = made.tails;
    singles = grows_same a.seen.singles b.seen.singles (ap (λ (x : Actor). x.seen.singles) made.view);
    counts = grows_same a.seen.counts b.seen.counts (ap (λ (x : Actor). x.seen.counts) made.view);
    words = grows_same a.seen.words b.seen.words (ap (λ (x : Actor). x.seen.words) made.view);
    cursors = grows_same a.seen.cursors b.seen.cursors (ap (λ (x : Actor). x.seen.cursors) made.view);
  };
  untouched = (ap (λ (x : Actor). x.seen.singles) made.view, ap (λ (x : Actor). x.seen.counts) made.view);
}

-- an allocation that is refused, to a call that counts nothing
saw_around : (a : Actor) (free : ℕ) (raised : List Rise) (corrupt : Bool) (warned : ℕ) → a.seen.free ≤ free → Grows a.done.raised raised
    → (a.seen.corrupt ≡ true → corrupt ≡ true) → a.seen.warned ≤ warned
    → LooksAround a (record a {
      hand = record a.hand { place = Idle };
      done = record a.done { raised = raised };
      seen = record a.seen { free = free; corrupt = corrupt; warned = warned };
    })
saw_around a free raised corrupt warned later rises saw more = record {
  same = refl;
  free = refl;
  apart = λ was. refl;
  done = record {
    same = refl;
    claimed = grows_not a.done.claimed;
    raised = rises;
    published = grows_not a.done.published;
    filled = λ set. set;
    lacked = grows_not a.done.lacked;
    spoiled = λ set. refl;
  };
  seen = sees_header a.seen free corrupt warned later saw more;
  untouched = (refl, refl);
}

filled_around : (a : Actor) → MayTurn a → LooksAround a (filled a)
filled_around a free = record {
  same = refl;
  free = free;
  apart = λ was. was;
  done = record {
    same = refl;
    claimed = grows_not a.done.claimed;
    raised = grows_not a.done.raised;
    published = grows_not a.done.published;
    filled = λ set. refl;
    lacked = grows_by a.done.lacked _;
    spoiled = λ set. refl;
  };
  seen = sees_not a.seen;
  untouched = (refl, refl);
}

pub refused_around : (size : ℕ) (a b : Actor) (cause : Refusal) → a.entries.running ≡ [] → Allocates size 1 a (Err cause) b
    → LooksAround a b × HasNoRoom cause size a b × (b.seen.chain ≡ a.seen.chain) × (b.seen.words ≡ a.seen.words) × (b.answers.owed ≡ a.answers.owed) × (cause ≢ why.OtherSpec)
refused_around size a b why.Full none (free, view, later, beyond, wastes) =
    let last : Actor = saw_free a Idle free b.done.raised in
    let is : b ≡ filled last = view ∙ at_rest (filled last) none in
    let saw = saw_around a free b.done.raised a.seen.corrupt a.seen.warned later (wastes.0, wastes.1) (λ saw. saw) (omega arith) in (
      subst (LooksAround a) (sym is) (around_on a last (filled last) saw (filled_around last refl)),
      lacks_room why.Full size 1 a b (free, view, later, beyond, wastes),
      ap (λ (x : Actor). x.seen.chain) is,
      ap (λ (x : Actor). x.seen.words) is,
      ap (λ (x : Actor). x.answers.owed) is,
      λ e. cc e,
    )
refused_around size a b why.Corrupt none (free, view, later, wastes) =
    let last : Actor = saw_free a Idle free b.done.raised in
    let is : b ≡ noticed last = view ∙ at_rest (noticed last) none in (
      subst (LooksAround a) (sym is) (saw_around a free b.done.raised true (a.seen.warned + 1) later (wastes.0, wastes.1) (λ saw. refl) (omega arith)),
      lacks_room why.Corrupt size 1 a b (free, view, later, wastes),
      ap (λ (x : Actor). x.seen.chain) is,
      ap (λ (x : Actor). x.seen.words) is,
      ap (λ (x : Actor). x.answers.owed) is,
      λ e. cc e,
    )
refused_around size a b why.BadName none allocates = absurd allocates
refused_around size a b (why.BadSpec fault) none allocates = absurd allocates
refused_around size a b why.ZeroCount none allocates = absurd allocates
refused_around size a b why.NoUnits none allocates = absurd allocates
refused_around size a b why.TooMany none allocates = absurd allocates
refused_around size a b why.NoMemory none allocates = absurd allocates
refused_around size a b why.TooLarge none allocates = absurd allocates
refused_around size a b why.OtherSpec none allocates = absurd allocates

-- ---- all of it

-- a walk that has just begun
pub walk_begins : (name : List ℕ) (a : Actor) → MayTurn a → 17 ≤ a.segment.shape.size → SearchesAt name 12 a
walk_begins name a free wide = record {
  given = [];
  way = record { free = free; front = (a.seen.chain, refl); stands = refl; within = omega (arith, wide) };
  others = All-nil _;
}

-- a walk continues after the end that it had reached, once a record is made
pub walk_goes_on : (asked : Asked) (at : ℕ) (a b : Actor) → SearchesAt asked.name.items at a → HasMade asked a b → SearchesAt asked.name.items at b
walk_goes_on asked at a b walks made = record {
  given = walks.given;
  way = record {
    free = made.free;
    front = subst (IsPrefix walks.given) (sym (ap (λ (x : Actor). x.seen.chain) made.view)) walks.way.front;
    stands = walks.way.stands;
    within = subst (λ (d : Dimensions). at + 5 ≤ d.size) (sym (ap (λ (x : Actor). x.segment.shape) made.view)) walks.way.within;
  };
  others = others_still a.seen b.seen (grows_same a.seen.words b.seen.words (ap (λ (x : Actor). x.seen.words) made.view)) asked.name.items walks.given walks.others;
}

-- it visits the record that it made, at the end at the latest
pub meets_own : (asked : Asked) (a b c : Actor) → HasMade asked a b → HasSearched b c → HasMadeNone asked.name.items c → ⊥
meets_own asked a b c made searched none =
    none asked.spec made.at (subst (λ (l : List Published). Contains l (record { reference = made.at; made = Histogram asked.name.items asked.spec }))
    (sym (ap (λ (x : Actor). x.done.published) searched.view ∙ ap (λ (x : Actor). x.done.published) made.view))
    (Contains-append_right a.done.published _ _ (0, omega arith, refl)))

-- what it owes after a search
owes_not : (asked : Asked) (a b : Actor) → HasSearched a b → a.answers.owed ≡ [] → Owes asked b
owes_not asked a b searched none = inl (ap (λ (x : Actor). x.answers.owed) searched.view ∙ none)

owes_one : (asked : Asked) (a b c : Actor) → a.answers.owed ≡ [] → HasMade asked a b → HasSearched b c → Owes asked c
owes_one asked a b c none made searched = inr (
  made.at,
  ap (λ (x : Actor). x.answers.owed) searched.view
      ∙ (ap (λ (x : Actor). x.answers.owed) made.view ∙ ap (λ (l : List Known). l ++ asked_at asked made.at ∷ []) none),
)

-- a search that found the first record of the name ends the call
pub met_first : (asked : Asked) (a b : Actor) (reference : ℕ) → a.answers.owed ≡ [] → HasSearched a b → Searches asked (search.Met reference) b
    → LooksUp asked a (Ok reference) b
met_first asked a b reference none searched (free, known, met, room) =
    (searched_around a b free searched, owes_not asked a b searched none, (known, met, room), ap (λ (x : Actor). x.done.filled) searched.view)

pub met_another : (asked : Asked) (a b : Actor) → a.answers.owed ≡ [] → HasSearched a b → Searches asked search.OtherSpec b → LooksUp asked a (Err why.OtherSpec) b
met_another asked a b none searched (free, other) = (searched_around a b free searched, owes_not asked a b searched none, other)

-- the same after a record that it made
module _ (asked : Asked) (a b c d : Actor) (none : a.answers.owed ≡ []) (first : HasSearched a b) (walks : MayTurn b) (made : HasMade asked b c) (second : HasSearched c d) where
  around : MayTurn d → LooksAround a d
  around free = around_on a b d (searched_around a b walks first) (around_on b c d (made_around asked b c made) (searched_around c d free second))

  still_none : b.answers.owed ≡ []
  still_none = ap (λ (x : Actor). x.answers.owed) first.view ∙ none

  pub met_then : (reference : ℕ) → Searches asked (search.Met reference) d → LooksUp asked a (Ok reference) d
  met_then reference (free, known, met, room) = (
    around free,
    owes_one asked b c d still_none made second,
    (known, met, room),
    ap (λ (x : Actor). x.done.filled) second.view
        ∙ (ap (λ (x : Actor). x.done.filled) made.view ∙ ap (λ (x : Actor). x.done.filled) first.view),
  )

  pub met_another_then : Searches asked search.OtherSpec d → LooksUp asked a (Err why.OtherSpec) d
  met_another_then (free, other) = (around free, owes_one asked b c d still_none made second, other)

-- no block could be claimed for a record
pub not_made : (asked : Asked) (at : ℕ) (a b c : Actor) (cause : Refusal) → a.answers.owed ≡ [] → a.entries.running ≡ [] → HasSearched a b
    → Searches asked (search.End at) b → SawAllOfList a.seen b.seen → MakesRecord asked b (Err cause) c → LooksUp asked a (Err cause) c
not_made asked at a b c cause none rests searched (walks, others, made_none) all allocates =
    let (looks, room, chain, words, owed, not_other) =
    refused_around (4 + length asked.payload.items) b c cause (ap (λ (x : Actor). x.entries.running) searched.view ∙ rests) allocates in
    let looked = around_on a b c (searched_around a b walks.way.free searched) looks in
    let still = others_still b.seen c.seen (grows_same b.seen.words c.seen.words words) asked.name.items b.seen.chain others in
    let nothing : c.answers.owed ≡ [] = owed ∙ (ap (λ (x : Actor). x.answers.owed) searched.view ∙ none) in
    let began = searched_around a b walks.way.free searched in
    by cause (lacked_since cause (4 + length asked.payload.items) a b c (ap (λ (x : Actor). x.done) searched.view) began.seen.warned room) (subst (All (SawOtherName c.seen asked.name.items)) (sym chain) still)
    (all_on a.seen a.seen b.seen c.seen (grows_not a.seen.ends) began.seen.ends looks.seen.ends chain all) nothing looked not_other
  where
    by : (cause : Refusal) → HasNoRoom cause (4 + length asked.payload.items) a c → All (SawOtherName c.seen asked.name.items) c.seen.chain → SawAllOfList a.seen c.seen
        → c.answers.owed ≡ [] → LooksAround a c → cause ≢ why.OtherSpec → LooksUp asked a (Err cause) c
    by why.Full room others all nothing looked not_other = (looked, nothing, (others, all, room))
    by why.Corrupt room others all nothing looked not_other = (looked, nothing, (others, all, room))
    by why.OtherSpec room others all nothing looked not_other = absurd (not_other refl)
    by why.BadName room others all nothing looked not_other = absurd room
    by (why.BadSpec fault) room others all nothing looked not_other = absurd room
    by why.ZeroCount room others all nothing looked not_other = absurd room
    by why.NoUnits room others all nothing looked not_other = absurd room
    by why.TooMany room others all nothing looked not_other = absurd room
    by why.NoMemory room others all nothing looked not_other = absurd room
    by why.TooLarge room others all nothing looked not_other = absurd room

-- ---- what is announced of it

-- a call that owes answers may refuse them, if the first record of the name has another spec
pub may_decline : (asked : Asked) (cause : Refusal) (old a : Actor) → OwesAs asked cause a → IsHistRefusal asked cause old a → MayNoteAll a (map declines a.answers.owed)
may_decline asked why.OtherSpec old a (inl none) other = subst (λ (l : List Known). MayNoteAll a (map declines l)) (sym none) refl
may_decline asked why.OtherSpec old a (inr (at, one)) other =
    subst (λ (l : List Known). MayNoteAll a (map declines l)) (sym one)
    ((subst (λ (l : List Known). Contains l (asked_at asked at)) (sym one) (0, omega arith, refl), other), refl)
may_decline asked why.Full old a none cause = subst (λ (l : List Known). MayNoteAll a (map declines l)) (sym none) refl
may_decline asked why.Corrupt old a none cause = subst (λ (l : List Known). MayNoteAll a (map declines l)) (sym none) refl
may_decline asked why.BadName old a none cause = absurd cause.2
may_decline asked (why.BadSpec fault) old a none cause = absurd cause.2
may_decline asked why.ZeroCount old a none cause = absurd cause.2
may_decline asked why.NoUnits old a none cause = absurd cause.2
may_decline asked why.TooMany old a none cause = absurd cause.2
may_decline asked why.NoMemory old a none cause = absurd cause.2
may_decline asked why.TooLarge old a none cause = absurd cause.2

-- the same name and the same record
same_known : (k : Known) → (not (bytes_eq k.name k.name && (k.reference == k.reference))) ≡ false
same_known k = ap not (ap (λ (b : Bool). b && (k.reference == k.reference)) ((bytes_eq-Decides k.name k.name).1 refl) ∙ eq-eqb k.reference k.reference refl)

declined_one : (a : Actor) (k : Known) → a.answers.owed ≡ k ∷ [] → noted_by a (map declines a.answers.owed) ≡ record a { answers = record a.answers { owed = [] } }
declined_one a k one =
    ap (λ (l : List Known). noted_by a (map declines l)) one
    ∙ (λ i. record a { answers = record a.answers { owed = nothing i } })
  where
    test : Known → Bool
    test other = not (bytes_eq other.name k.name && (other.reference == k.reference))

    nothing : filter test a.answers.owed ≡ []
    nothing = ap (filter test) one ∙ ap (λ (b : Bool). if b then k ∷ [] else []) (same_known k)

declined_none : (a : Actor) → a.answers.owed ≡ [] → noted_by a (map declines a.answers.owed) ≡ record a { answers = record a.answers { owed = [] } }
declined_none a none =
    ap (λ (l : List Known). noted_by a (map declines l)) none ∙ (λ i. record a { answers = record a.answers { owed = none i } })

declined_all : (asked : Asked) (cause : Refusal) (old a : Actor) → OwesAs asked cause a → IsHistRefusal asked cause old a
    → noted_by a (map declines a.answers.owed) ≡ record a { answers = record a.answers { owed = [] } }
declined_all asked why.OtherSpec old a (inl none) other = declined_none a none
declined_all asked why.OtherSpec old a (inr (at, one)) other = declined_one a (asked_at asked at) one
declined_all asked why.Full old a none cause = declined_none a none
declined_all asked why.Corrupt old a none cause = declined_none a none
declined_all asked why.BadName old a none cause = absurd cause.2
declined_all asked (why.BadSpec fault) old a none cause = absurd cause.2
declined_all asked why.ZeroCount old a none cause = absurd cause.2
declined_all asked why.NoUnits old a none cause = absurd cause.2
declined_all asked why.TooMany old a none cause = absurd cause.2
declined_all asked why.NoMemory old a none cause = absurd cause.2
declined_all asked why.TooLarge old a none cause = absurd cause.2

-- the cause lies in what it has seen and done
cause_of : (asked : Asked) (cause : Refusal) (old a : Actor) (owed : List Known) → IsHistRefusal asked cause old a
    → IsHistRefusal asked cause old (record a { answers = record a.answers { owed = owed } })
cause_of asked why.OtherSpec old a owed other = other
cause_of asked why.Full old a owed cause = cause
cause_of asked why.Corrupt old a owed cause = cause
cause_of asked why.BadName old a owed cause = absurd cause.2
cause_of asked (why.BadSpec fault) old a owed cause = absurd cause.2
cause_of asked why.ZeroCount old a owed cause = absurd cause.2
cause_of asked why.NoUnits old a owed cause = absurd cause.2
cause_of asked why.TooMany old a owed cause = absurd cause.2
cause_of asked why.NoMemory old a owed cause = absurd cause.2
cause_of asked why.TooLarge old a owed cause = absurd cause.2

around_unowed : (a b : Actor) → LooksAround a b → LooksAround a (record b { answers = record b.answers { owed = [] } })
around_unowed a b looks = record {
  same = ap (λ (x : Actor). record x { answers = record x.answers { owed = [] } }) looks.same;
  free = looks.free;
  apart = looks.apart;
  done = looks.done;
  seen = looks.seen;
  untouched = looks.untouched;
}

pub refused_so : (asked : Asked) (a b c : Actor) (cause : Refusal) → LooksUp asked a (Err cause) b → c ≡ noted_by b (map declines b.answers.owed)
    → Settles asked a (Err cause) c
refused_so asked a b c cause (looks, owes, why_is) is =
    let all : c ≡ record b { answers = record b.answers { owed = [] } } = is ∙ declined_all asked cause a b owes why_is in
    subst (Settles asked a (Err cause)) (sym all) (around_unowed a b looks, refl, cause_of asked cause a b [] why_is)

-- the answer that it owes is given
known_one : (asked : Asked) (reference : ℕ) (b : Actor) → Owes asked b
    → filter (λ (mine : Known). not (bytes_eq mine.name asked.name.items)) b.answers.owed ≡ []
known_one asked reference b (inl none) = ap (filter (λ (mine : Known). not (bytes_eq mine.name asked.name.items))) none
known_one asked reference b (inr (at, one)) =
    ap (filter (λ (mine : Known). not (bytes_eq mine.name asked.name.items))) one
    ∙ ap (λ (t : Bool). if t then asked_at asked at ∷ [] else []) (ap not ((bytes_eq-Decides asked.name.items asked.name.items).1 refl))

pub known_so : (asked : Asked) (reference : ℕ) (a b c : Actor) → LooksUp asked a (Ok reference) b → c ≡ noted b (knows (asked_at asked reference))
    → HaveOneName (asked_at asked reference) b → Settles asked a (Ok reference) c
known_so asked reference a b c (looks, owes, found, unfilled) is one = record {
  last = b;
  looks = looks;
  found = found;
  view = is ∙ (λ i. record (looking b) { answers = record { names = ap (λ (x : Actor). x.answers.names) looks.same i ++ asked_at asked reference ∷ []; owed = known_one asked reference b owes i } });
  alone = subst (λ (l : List Known). All (λ (known : Known). known.reference ≡ reference → known.name ≡ asked.name.items) l) (ap (λ (x : Actor). x.answers.names) looks.same) one;
  filled = ap (λ (x : Actor). x.done.filled) is ∙ unfilled;
}

-- What an invariant says of all actors together, and of the blocks: the books of a segment.
use Rattle.segment_invariant.proofs.Prelude.Std.{◌≡◌, ◌≢◌, ◌⊎◌, ℕ, ◌<◌, ◌≤◌, Bool, true, ◌||◌, ⊎_elim, ℤ, List, ◌++◌, map, take, length, set, inl, inr, sym, ap, ◌∙◌, subst, false, sum_by, slice_index, IsPermutation, some, get_elem?, flat_map, Contains, All, IsPermutation-refl, Contains-permutation, at_set, at_map, rows}
use Rattle.segment_invariant.proofs.Prelude.Machine.{Dimensions, IsShown, stops, Entry, Spent, Actor, Portion, Given, cost_of, all_counted, all_taken, all_published, units_of, is_opener, State}
use Rattle.segment_invariant.proofs.Prelude.Invariant.{Piece, Anatomy, layout_of, order_of, claims_of, listed, noted_held, all_held, ClaimedRight, HasKey, RecordsAreKept, SumsAreNear, IsSetBy, StandStill, RolesAreKept, StandsRight, Fits, Invariant, KeptOn}
use Rattle.std.proofs.lemmas.List.Sorted.{IsPermutation-trans, IsPermutation-sym, IsPermutation-append_right, IsPermutation-map}
use Rattle.segment_invariant.specs.Rises.{Rises, SumsRise}
use Rattle.segment_invariant.proofs.Frames.Answers.{answered_by}
use Rattle.segment_machine.specs.Actor.{given_by, all_given, all_names, all_owed}
use Rattle.segment_invariant.specs.Ledger.{IsBalanced}
use Rattle.segment_invariant.specs.Invariant.{ListIsKept, ArePassedOver, IsSetWhereSeen, CursorsAreKept, AreAnswered}
use Rattle.list_lemmas.proofs.Elements.{any_there, any_from}
use Rattle.segment_invariant.proofs.Frames.Deeds.{Deeds, sums_of}
use Rattle.segment_invariant.proofs.Frames.Together.{LoadedBefore, balanced, sums_near, taken_keys}

-- shared cursors are on the list, and have given the records up to there
abbrev pub CursorsStand : List ℕ → List ℕ → List Actor → Type 0
CursorsStand chain cursors actors = (k : ℕ) → k < length cursors → (place : ℕ) × (place ≤ length chain)
    × (slice_index (stops chain) place ≡ slice_index cursors k) × IsPermutation (all_given actors k) (take place chain)

-- what a shared cursor gave an actor is in the order of the list
abbrev pub GivenInOrder : List ℕ → List Given → Type 0
GivenInOrder chain list = (i j k l : ℕ) (x y : Given) → i < j
    → get_elem? list i ≡ some x → get_elem? list j ≡ some y → x.cursor ≡ y.cursor
    → get_elem? chain k ≡ some x.reference → get_elem? chain l ≡ some y.reference → k < l

pub record Books (shape : Dimensions) (opened anatomy : Anatomy) (words cursors : List ℕ) (actors : List Actor) : Type 0 where
  pub shown : IsShown shape words (layout_of anatomy)
  pub same : (anatomy.version ≡ opened.version) × (anatomy.id ≡ opened.id) × (anatomy.other_flags ≡ opened.other_flags)
      × (anatomy.reserved ≡ opened.reserved)
  pub versions : (anatomy.version ≡ 1) ⊎ (anatomy.version ≡ 2)
  pub still : StandStill opened.pieces anatomy.pieces
  pub blocks : (k : ℕ) (piece : Piece) → get_elem? anatomy.pieces k ≡ some piece → ClaimedRight piece
  pub list : ListIsKept words opened anatomy actors
  pub claims : IsPermutation (claims_of anatomy.pieces) (claims_of opened.pieces ++ flat_map (λ a. a.done.claimed) actors)
  pub records : RecordsAreKept shape.page anatomy
  pub passed_over : ArePassedOver shape.page opened anatomy.pieces
  pub balanced : IsBalanced anatomy.version opened.pieces anatomy.pieces actors
  pub keys : (entry : Entry) → Contains (all_counted actors) entry → 0 < entry.units → HasKey anatomy.records entry.name entry.key
  pub taken_keys : (t : Portion) (count : ℤ × ℕ) → Contains (all_taken actors) t → Contains t.counts count
      → HasKey anatomy.records t.name count.0
  pub sums : SumsAreNear anatomy.pieces actors
  pub pool : sum_by units_of actors ≡ 4294967295
  pub corrupt : IsSetBy anatomy.corrupt opened.corrupt (map (λ a. a.done.spoiled) actors)
  pub full : IsSetBy anatomy.full opened.full (map (λ a. a.done.filled) actors)
  pub noticed : IsSetWhereSeen anatomy.corrupt (map (λ a. a.seen.corrupt) actors)
  pub answered : AreAnswered anatomy.records actors
  pub stand : CursorsStand (order_of anatomy) cursors actors

pub books_of : (shape : Dimensions) (opened : Anatomy) (state : State) (kept : Invariant shape opened state)
    → Books shape opened kept.anatomy state.words state.cursors state.actors
books_of shape opened state kept = record {
  shown = kept.shown;
  same = kept.same;
  versions = kept.versions;
  still = kept.still;
  blocks = kept.blocks;
  list = kept.list;
  claims = kept.claims;
  records = kept.records;
  passed_over = kept.passed_over;
  balanced = kept.balanced;
  keys = kept.keys;
  taken_keys = kept.taken_keys;
  sums = kept.sums;
  pool = kept.pool;
  corrupt = kept.corrupt;
  full = kept.full;
  noticed = kept.noticed;
  answered = kept.answered;
  stand = kept.cursors.stand;
}

-- with what holds of each actor, all is kept
pub kept_by : (shape : Dimensions) (opened anatomy : Anatomy) (words cursors : List ℕ) (actors : List Actor)
    → Books shape opened anatomy words cursors actors → (roles : RolesAreKept actors)
    → ((name : List ℕ) → cost_of roles.opener.entries.first_noted name ≡ all_held (noted_held name) opened.pieces)
    → ((id : ℕ) (a : Actor) → get_elem? actors id ≡ some a → is_opener a.role ≡ false → GivenInOrder (order_of anatomy) a.done.given)
    → ((id : ℕ) (a : Actor) → get_elem? actors id ≡ some a → All (λ g. Contains (order_of anatomy) g.reference) a.done.given)
    → ((id : ℕ) (a : Actor) → get_elem? actors id ≡ some a → StandsRight shape anatomy id a a.hand.place)
    → ((id : ℕ) (a : Actor) → get_elem? actors id ≡ some a → a.hand.place ≢ Spent → Fits shape anatomy cursors actors roles.opener id a)
    → {old : State} (kept : Invariant shape opened old) → Rises kept.anatomy anatomy → SumsRise kept.anatomy.pieces anatomy.pieces old.actors actors
    → KeptOn shape opened kept (record { words = words; cursors = cursors; actors = actors })
kept_by shape opened anatomy words cursors actors books roles first_noted ordered given standing each kept rises sums = (
  record {
    anatomy = anatomy;
    shown = books.shown;
    same = books.same;
    versions = books.versions;
    still = books.still;
    blocks = books.blocks;
    list = books.list;
    claims = books.claims;
    records = books.records;
    passed_over = books.passed_over;
    balanced = books.balanced;
    keys = books.keys;
    taken_keys = books.taken_keys;
    sums = books.sums;
    pool = books.pool;
    corrupt = books.corrupt;
    full = books.full;
    noticed = books.noticed;
    roles = roles;
    first_noted = first_noted;
    answered = books.answered;
    cursors = record { stand = books.stand; ordered = ordered; given = given };
    standing = standing;
    each = each;
  },
  rises,
  sums,
)

-- the list is kept when others published the same
listed_by : (words : List ℕ) (opened anatomy : Anatomy) (old new : List Actor) → IsPermutation (all_published new) (all_published old)
    → ListIsKept words opened anatomy old → ListIsKept words opened anatomy new
listed_by words opened anatomy old new same list = record {
  linked = list.linked;
  once = (
    list.once.0,
    list.once.1,
    IsPermutation-trans _ _ _ list.once.2 (IsPermutation-map listed _ _ (IsPermutation-sym _ _ same)),
  );
  standing = list.standing;
  alone = list.alone;
  tail = list.tail;
}

-- ---- when one actor becomes another

-- shared cursors are kept if they gave it the same
pub cursors_set : (chain cursors : List ℕ) (actors : List Actor) (id : ℕ) (a b : Actor) → get_elem? actors id ≡ some a → is_opener a.role ≡ false → b.done.given ≡ a.done.given
    → CursorsAreKept chain cursors actors → CursorsAreKept chain cursors (set actors id b)
cursors_set chain cursors actors id a b mine records same kept = record {
  stand = λ k below.
      let (place, within, is, gave) = kept.stand k below in (
        place,
        within,
        is,
        subst (λ given. IsPermutation given (take place chain)) (sym (rows (λ (a : Actor). given_by k a.done.given) actors id a b mine (ap (given_by k) same))) gave,
      );
  ordered = λ other c there. elim (at_set actors id other b c there) [
    | inl t ↦ λ recorder. subst (GivenInOrder chain) (sym same ∙ ap (λ (c : Actor). c.done.given) t.1) (kept.ordered id a mine records)
    | inr t ↦ kept.ordered other c t.1
  ];
  given = λ other c there. elim (at_set actors id other b c there) [
    | inl t ↦ subst (All (λ g. Contains chain g.reference)) (sym same ∙ ap (λ (c : Actor). c.done.given) t.1) (kept.given id a mine)
    | inr t ↦ kept.given other c t.1
  ];
}

-- a flag is set if one actor has seen it
pub noticed_there : (now : Bool) (actors : List Actor) (id : ℕ) (a : Actor) → get_elem? actors id ≡ some a
    → IsSetWhereSeen now (map (λ a. a.seen.corrupt) actors) → a.seen.corrupt ≡ true → now ≡ true
noticed_there now actors id a mine noticed is =
    noticed (any_there (map (λ (a : Actor). a.seen.corrupt) actors) id false (at_map (λ (a : Actor). a.seen.corrupt) actors id a mine ∙ ap some is))

-- and it still is if the actor has seen it rightly
pub noticed_set : (now : Bool) (actors : List Actor) (id : ℕ) (b : Actor) → (b.seen.corrupt ≡ true → now ≡ true)
    → IsSetWhereSeen now (map (λ a. a.seen.corrupt) actors) → IsSetWhereSeen now (map (λ a. a.seen.corrupt) (set actors id b))
noticed_set now actors id b rightly noticed seen = ⊎_elim noticed rightly (any_from (λ (a : Actor). a.seen.corrupt) actors id b false seen)

-- the list is kept if it published the same
pub listed_set : (words : List ℕ) (opened anatomy : Anatomy) (actors : List Actor) (id : ℕ) (a b : Actor) → get_elem? actors id ≡ some a
    → b.done.published ≡ a.done.published → ListIsKept words opened anatomy actors → ListIsKept words opened anatomy (set actors id b)
listed_set words opened anatomy actors id a b mine same = listed_by words opened anatomy actors (set actors id b)
    (subst (λ made. IsPermutation made (all_published actors)) (sym (rows (λ (a : Actor). a.done.published) actors id a b mine same)) (IsPermutation-refl _))

-- ---- when others did the same together

pub books_by : (shape : Dimensions) (opened anatomy : Anatomy) (words cursors : List ℕ) (old new : List Actor)
    → Deeds old new → LoadedBefore old new
    → Books shape opened anatomy words cursors old → Books shape opened anatomy words cursors new
books_by shape opened anatomy words cursors old new same loaded books = record {
  shown = books.shown;
  same = books.same;
  versions = books.versions;
  still = books.still;
  blocks = books.blocks;
  list = listed_by words opened anatomy old new same.published books.list;
  claims = IsPermutation-trans _ _ _ books.claims
      (IsPermutation-append_right (claims_of opened.pieces) _ _ (IsPermutation-sym _ _ same.claimed));
  records = books.records;
  passed_over = books.passed_over;
  balanced = balanced anatomy.version opened.pieces anatomy.pieces old new (sums_of old new same) books.balanced;
  keys = λ entry there. books.keys entry (Contains-permutation _ _ entry same.counted there);
  taken_keys = taken_keys anatomy.records old new same books.taken_keys;
  sums = sums_near anatomy.pieces old new (sums_of old new same) loaded books.sums;
  pool = same.units ∙ books.pool;
  corrupt = books.corrupt ∙ ap (λ (b : Bool). opened.corrupt || b) (sym same.spoiled);
  full = books.full ∙ ap (λ (b : Bool). opened.full || b) (sym same.filled);
  noticed = λ seen. books.noticed (sym same.noticed ∙ seen);
  answered = answered_by anatomy.records old new
      (λ known has. Contains-permutation (all_names old) (all_names new) known (IsPermutation-sym _ _ same.names) has)
      (λ mine has. Contains-permutation (all_owed old) (all_owed new) mine (IsPermutation-sym _ _ same.owed) has) books.answered;
  stand = λ k below.
      let stood = books.stand k below in
      (stood.0, stood.1, stood.2, IsPermutation-trans _ _ _ (same.given k) stood.3);
}

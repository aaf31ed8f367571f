-- A state is kept when a recorder counts, packs or takes: it changes a word of a published block, and itself.
use Rattle.segment_invariant.proofs.Prelude.Std.{append-nil, ◌≡◌, ◌≢◌, ℕ, ◌<◌, ◌≤◌, ℤ, true, List, [], ◌++◌, set, All, Contains, IsPermutation, inl, inr, ⊎_elim, refl, sym, ap, ◌∙◌, subst, arith, false, All-weaker, some, get_elem?, at_set, rows, column, sum_same}
use Rattle.segment_invariant.proofs.Prelude.Machine.{Dimensions, IsShown, Behind, IsLinked, Entry, Actor, Portion, Answered, Claim, Own, Spent, tally_units, counted_of, all_counted, units_of, taken_of, is_opener, State}
use Rattle.segment_invariant.proofs.Prelude.Invariant.{IsWithinCounts, Record, Body, plain, held, histogram, Piece, Anatomy, layout_of, order_of, free_of, claims_of, Stands, Sees, StandsAs, RecordsAreKept, StandsRight, HoldsOwn, CallsRight, HasKey, LooksBack, FinalsAreExact, Fits, IsSetBy, ClaimedRight, StandStill, is_living, Invariant, KeptOn}
use Rattle.segment_invariant.proofs.Frames.Ahead.{KeepsUp, ahead_at}
use Rattle.segment_invariant.specs.Ledger.{IsBalanced}
use Rattle.segment_invariant.specs.Invariant.{IsOnList}
use Rattle.list_lemmas.proofs.Elements.{row_from}
use Rattle.segment_invariant.proofs.Lists.Countings.{units_total}
use Rattle.segment_invariant.proofs.Frames.Answers.{answered_set}
use Rattle.segment_invariant.proofs.Frames.Anatomies.{calls_same}
use Rattle.segment_invariant.proofs.Frames.Books.{cursors_set, listed_set, noticed_there, noticed_set}
use Rattle.segment_invariant.proofs.Frames.GoesOn.{not_opener}
use Rattle.segment_invariant.proofs.Frames.OneActor.{lives_on}
use Rattle.segment_invariant.proofs.Frames.Onward.{Onward, record_on, stands_as_on, listed_on, sees_on, off_stays}
use Rattle.segment_invariant.proofs.Frames.Rises.{rises_onward}
use Rattle.segment_invariant.proofs.Frames.Roles.{SameRole, SameRoles, roles_set}
use Rattle.segment_invariant.proofs.Frames.Standing.{Grounds, follows_itself, own_stays, stands_on}
use Rattle.segment_invariant.proofs.Counting.Seen.{known_stands}
use Rattle.segment_invariant.proofs.Publishing.Links.{listed_claimed}
use Rattle.segment_invariant.proofs.Changes.Ledgers.{rows_beside}
use Rattle.segment_invariant.proofs.Changes.Sums.{SumsGoOn}
use Rattle.segment_invariant.proofs.Changes.Others.{Deed, deed_of, changed, changed_role, changed_roles, alone_was, none_alone, finals_else, looks_on}
use Rattle.segment_invariant.proofs.Frames.PassedOver.{passed_on, still_onward}

-- What has to be shown when a recorder changes what is published, and moves on with a deed: of the blocks and the words that are then
-- there; of the ledger, the keys and the sums; and of the recorder itself. Published blocks continue, and those that are new are `added`.
pub record Changes (shape : Dimensions) (opened : Anatomy) (state : State) (old new : Anatomy) (opener : Actor) (id : ℕ) (a : Actor) (d : Deed) (words : List ℕ)
    (added : ℕ → Body → Type 0) : Type 0 where
  pub shown : IsShown shape words (layout_of new)
  pub onward : Onward old new added
  pub bare : (at : ℕ) (s : Record) → added at (histogram s) → ⊥
  pub listed : (at : ℕ) (body : Body) → added at body → IsOnList old.records at body
  pub others : (other at : ℕ) (body : Body) → other ≢ id → Stands old.pieces at (some other) body → Stands new.pieces at (some other) body
  pub still : StandStill old.pieces new.pieces
  pub blocks : (k : ℕ) (piece : Piece) → get_elem? new.pieces k ≡ some piece → ClaimedRight piece
  pub linked : IsLinked words (order_of old)
  pub claims : claims_of new.pieces ≡ claims_of old.pieces
  pub free : free_of new ≡ free_of old
  pub records : RecordsAreKept shape.page new
  pub balanced : IsBalanced old.version opened.pieces new.pieces (set state.actors id (changed a d))
  pub counted : (name : List ℕ) (key : ℤ) → tally_units (counted_of a) name key ≤ tally_units (counted_of (changed a d)) name key
  pub keys : (entry : Entry) → Contains (counted_of (changed a d)) entry → 0 < entry.units → HasKey old.records entry.name entry.key
  pub taken_keys : (t : Portion) (count : ℤ × ℕ) → Contains (taken_of (changed a d)) t → Contains t.counts count → HasKey old.records t.name count.0
  pub sums : SumsGoOn old.pieces new.pieces state.actors (set state.actors id (changed a d))
  pub lives : d.place ≢ Spent
  pub stands : StandsRight shape new id (changed a d) d.place
  pub sees : Sees new state.cursors d.seen
  pub noticed : d.seen.corrupt ≡ true → a.seen.corrupt ≡ true
  pub up : KeepsUp a.hand.place d.place
  pub own : All (HoldsOwn shape new.pieces id) d.own
  pub apart : (i j : ℕ) (x y : Own) → get_elem? d.own i ≡ some x → get_elem? d.own j ≡ some y → x.at ≡ y.at → i ≡ j
  pub calls : CallsRight new (changed a d)
  pub looks : LooksBack new (set state.actors id (changed a d)) opener (changed a d)
  pub finals : FinalsAreExact (set state.actors id (changed a d)) opener id (changed a d)

module _ (shape : Dimensions) (opened : Anatomy) (state : State) (kept : Invariant shape opened state) (id : ℕ) (a : Actor)
    (mine : get_elem? state.actors id ≡ some a) (records : is_opener a.role ≡ false) (lived : a.hand.place ≢ Spent) (d : Deed) (pieces : List Piece) (words : List ℕ)
    (added : ℕ → Body → Type 0)
    (changes : Changes shape opened state kept.anatomy (record kept.anatomy { pieces = pieces }) kept.roles.opener id a d words added) where
  abbrev old : Anatomy
  old = kept.anatomy

  abbrev new : Anatomy
  new = record kept.anatomy { pieces = pieces }

  abbrev b : Actor
  b = changed a d

  abbrev actors : List Actor
  actors = set state.actors id b

  living : is_living a ≡ true
  living = lives_on a records lived

  role : SameRole b a
  role = changed_role shape opened state kept id a mine records lived d changes.lives

  beside : SameRoles state.actors actors
  beside = changed_roles shape opened state kept id a mine records lived d changes.lives

  more : (name : List ℕ) (key : ℤ) → tally_units (all_counted state.actors) name key ≤ tally_units (all_counted actors) name key
  more name key =
      let all = rows_beside (λ entries. tally_units entries name key) (units_total name key) counted_of state.actors id a b mine in
      let up = changes.counted name key in
      omega (arith, all, up)

  within : (list : List Answered) → All (IsWithinCounts state.actors) list → All (IsWithinCounts actors) list
  within list = All-weaker (IsWithinCounts state.actors) (IsWithinCounts actors)
      (λ s. All-weaker (λ (count : ℤ × ℕ). count.1 ≤ tally_units (all_counted state.actors) s.name count.0)
      (λ (count : ℤ × ℕ). count.1 ≤ tally_units (all_counted actors) s.name count.0)
      (λ count below. let up = more s.name count.0 in omega (arith, below, up)) s.counts) list

  grounds : (other : ℕ) → other ≢ id → Grounds old new other
  grounds other ne = record {
    version = refl;
    reached = λ n at reached. reached;
    near = λ at next near. near;
    recorded = λ at r there.
        let (s, stands, goes) = record_on old new added changes.onward at r there in
        (s, stands, ap (λ (z : Record). z.spec) goes.is, off_stays old.version r s goes);
    making = λ at words. changes.others other at (plain words) ne;
  }

  -- another actor
  fits_else : (other : ℕ) (c : Actor) → other ≢ id → get_elem? state.actors other ≡ some c → c.hand.place ≢ Spent → Fits shape new state.cursors actors kept.roles.opener other c
  fits_else other c ne there lives =
      let fits = kept.each other c there lives in record {
        shaped = fits.shaped;
        versioned = fits.versioned;
        numbered = fits.numbered;
        sees = sees_on old new added changes.onward state.cursors c.seen (subst (Behind c.seen.free) (sym changes.free) fits.sees.free) fits.sees.walked fits.sees.tails
            fits.sees.shared fits.sees;
        ahead = fits.ahead;
        names = fits.names;
        own = own_stays shape old new other (λ own. changes.others other own.at (held own) ne) c.hand.own fits.own;
        apart = fits.apart;
        owes = fits.owes;
        calls = calls_same old new c refl fits.calls;
        looks = λ recorder. looks_on shape state.words old new kept.shown added changes.onward refl shape.page kept.records changes.records c fits.sees.counters
            fits.sees.in_use state.actors actors kept.roles.opener (deed_of c) more (alone_was state.actors actors kept.roles beside c c refl refl)
            (λ known has. let (r, stands, named, bounds, many) = known_stands shape opened state kept other c there lives known has in (r, stands, many))
            (fits.looks recorder)
            (λ reference sum s loaded alone has. absurd (none_alone state.actors actors kept.roles beside id a mine living other c ne there
            (lives_on c recorder lives) (alone_was state.actors actors kept.roles beside c c refl refl alone)))
            changes.bare;
        finals = finals_else state.actors actors kept.roles beside id a mine living other c ne there lives fits.finals;
        snapshots = within c.deltas.snapshots fits.snapshots;
      }

  -- the recorder itself
  fits_mine : Fits shape new state.cursors actors kept.roles.opener id b
  fits_mine =
      let fits = kept.each id a mine lived in record {
        shaped = fits.shaped;
        versioned = fits.versioned;
        numbered = fits.numbered;
        sees = changes.sees;
        ahead = ahead_at (order_of old) old.tail state.cursors a.hand.place a.done.beaten a.done.lost fits.ahead d.place changes.up;
        names = fits.names;
        own = changes.own;
        apart = changes.apart;
        owes = fits.owes;
        calls = changes.calls;
        looks = λ recorder. changes.looks;
        finals = changes.finals;
        snapshots = within a.deltas.snapshots fits.snapshots;
      }

  -- the state that is left is kept
  pub changes_on : KeptOn shape opened kept (record { words = words; cursors = state.cursors; actors = actors })
  changes_on = (
    record {
      anatomy = new;
      shown = changes.shown;
      same = kept.same;
      versions = kept.versions;
      still = λ k p there.
          let (q, here, same_at) = kept.still k p there in
          let (r, now, still_at) = changes.still k q here in
          (r, now, still_at ∙ same_at);
      blocks = changes.blocks;
      list = listed_set words opened new state.actors id a b mine refl (record {
        linked = changes.linked;
        once = kept.list.once;
        standing = All-weaker (λ l. StandsAs old.pieces l l.made) (λ l. StandsAs pieces l l.made)
            (λ l. stands_as_on old new added changes.onward l l.made) old.records kept.list.standing;
        alone = λ at body there. listed_claimed old.records at body (λ claimed. ⊎_elim
            (λ t. listed_on old new added changes.onward old.records at t.0 body t.2 (kept.list.alone at t.0 t.1))
            (changes.listed at body)
            (changes.onward.came at body claimed there));
        tail = kept.list.tail;
      });
      claims = subst (λ (p : List Claim × List Claim). IsPermutation p.0 (claims_of opened.pieces ++ p.1))
          (λ i. (sym changes.claims i, sym (rows (λ (c : Actor). c.done.claimed) state.actors id a b mine refl) i)) kept.claims;
      records = changes.records;
      passed_over = passed_on shape.page opened old.pieces pieces (still_onward old new added changes.onward) kept.passed_over;
      balanced = changes.balanced;
      keys = λ entry there units. ⊎_elim (λ was. kept.keys entry was units) (λ own. changes.keys entry own units)
          (row_from counted_of state.actors id b entry there);
      taken_keys = λ t count there has. ⊎_elim (λ was. kept.taken_keys t count was has) (λ own. changes.taken_keys t count own has)
          (row_from taken_of state.actors id b t there);
      sums = changes.sums.0;
      pool = sum_same units_of state.actors id a b mine refl ∙ kept.pool;
      corrupt = subst (IsSetBy old.corrupt opened.corrupt) (sym (column (λ (c : Actor). c.done.spoiled) state.actors id a b mine refl)) kept.corrupt;
      full = subst (IsSetBy old.full opened.full) (sym (column (λ (c : Actor). c.done.filled) state.actors id a b mine refl)) kept.full;
      noticed = noticed_set old.corrupt state.actors id b (λ saw. noticed_there old.corrupt state.actors id a mine kept.noticed (changes.noticed saw)) kept.noticed;
      roles = roles_set state.actors id a b mine role (not_opener shape opened state kept id a mine records) kept.roles;
      first_noted = kept.first_noted;
      answered = answered_set old.records state.actors id a b mine refl refl kept.answered;
      cursors = cursors_set (order_of old) state.cursors state.actors id a b mine records refl kept.cursors;
      standing = λ other c there. elim (at_set state.actors id other b c there) [
        | inl t ↦ subst (λ (p : ℕ × Actor). StandsRight shape new p.0 p.1 p.1.hand.place) (λ i. (sym t.0 i, t.1 i)) changes.stands
        | inr t ↦ stands_on shape old new other c c (grounds other t.0) (follows_itself c) c.hand.place (kept.standing other c t.1)
      ];
      each = λ other c there lives. elim (at_set state.actors id other b c there) [
        | inl t ↦ subst (λ (p : ℕ × Actor). Fits shape new state.cursors actors kept.roles.opener p.0 p.1) (λ i. (sym t.0 i, t.1 i)) fits_mine
        | inr t ↦ fits_else other c t.0 t.1 lives
      ];
    },
    rises_onward old new added changes.onward refl [] (sym (append-nil old.records)) (let same = changes.free in omega (arith, same))
        (λ seen no_later. no_later) (λ set. set) (λ set. set),
    changes.sums.1,
  )

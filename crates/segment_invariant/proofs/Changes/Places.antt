-- A recorder turns to another place while one word of a published block becomes another, and has counted, taken and seen what it had.
use Rattle.segment_invariant.proofs.Prelude.Std.{◌≡◌, ◌≢◌, ℕ, ◌+◌, ℤ, List, set, refl, sym, ap, ◌∙◌, arith, false, some, none, get_elem?, rows, row_in}
use Rattle.segment_invariant.proofs.Prelude.Machine.{Dimensions, Actor, Place, Spent, SumLoaded, tally_units, tally_sum, tally_noted, counted_of, summed_of, noted_of, all_counted, all_summed, all_noted, all_taken, taken_units, taken_sum, taken_of, is_opener, State}
use Rattle.segment_invariant.proofs.Prelude.Invariant.{Body, Anatomy, Stands, RecordsAreKept, StandsRight, FinalsAreExact, Invariant, KeptOn}
use Rattle.segment_invariant.proofs.Frames.Ahead.{KeepsUp}
use Rattle.segment_invariant.proofs.Frames.Anatomies.{calls_same}
use Rattle.segment_invariant.proofs.Frames.Roles.{SameRoles}
use Rattle.segment_invariant.proofs.Frames.SeesMore.{calls_more}
use Rattle.segment_invariant.proofs.Frames.Together.{moment}
use Rattle.segment_invariant.proofs.Changes.Ledgers.{Balances, taken_on}
use Rattle.segment_invariant.proofs.Changes.Others.{Deed, deed_of, changed, changed_roles, alone_was, is_later}
use Rattle.segment_invariant.proofs.Changes.Sums.{SameSum}
use Rattle.segment_invariant.proofs.Changes.Words.{Turns, behind, sees_turned, turned_on, looks_turned, sums_turned}

module _ (shape : Dimensions) (opened : Anatomy) (state : State) (kept : Invariant shape opened state) (at : ℕ) (body then_is : Body) (j v : ℕ)
    (stands : Stands kept.anatomy.pieces at none body) (turns : Turns kept.anatomy.version body then_is j v) (id : ℕ) (a : Actor)
    (mine : get_elem? state.actors id ≡ some a) (recorder : is_opener a.role ≡ false) (lived : a.hand.place ≢ Spent) (place : Place) where
  abbrev pub deed : Deed
  deed = record (deed_of a) { place = place }

  abbrev pub b : Actor
  b = changed a deed

  abbrev actors : List Actor
  actors = set state.actors id b

  abbrev new : Anatomy
  new = behind shape opened state kept at body then_is j v stands turns

  -- What has to be shown: of the records, of the ledger, of the sums, and of the place.
  pub record Placed : Type 0 where
    pub records : RecordsAreKept shape.page new
    pub balances : Balances kept.anatomy.version body then_is a b
    pub sums : SameSum kept.anatomy.pieces new.pieces
    pub lives : place ≢ Spent
    pub no_sum : (reference : ℕ) (sum : ℤ) → place ≢ SumLoaded reference sum
    pub stood : StandsRight shape new id b place
    pub up : KeepsUp a.hand.place place

  module _ (shows : Placed) where
    beside : SameRoles state.actors actors
    beside = changed_roles shape opened state kept id a mine recorder lived deed shows.lives

    counted : (name : List ℕ) (key : ℤ) → tally_units (all_counted actors) name key ≡ tally_units (all_counted state.actors) name key
    counted name key = ap (λ entries. tally_units entries name key) (rows counted_of state.actors id a b mine refl)

    summed : (name : List ℕ) → tally_sum (all_summed actors) name ≡ tally_sum (all_summed state.actors) name
    summed name = ap (λ entries. tally_sum entries name) (rows summed_of state.actors id a b mine refl)

    noted : (name : List ℕ) → tally_noted (all_noted actors) name ≡ tally_noted (all_noted state.actors) name
    noted name = ap (λ entries. tally_noted entries name) (rows noted_of state.actors id a b mine refl)

    took : all_taken actors ≡ all_taken state.actors
    took = rows taken_of state.actors id a b mine refl

    -- what it took and returned is as exact as it was
    finals_on : FinalsAreExact state.actors kept.roles.opener id a → FinalsAreExact actors kept.roles.opener id b
    finals_on exact = record {
      deltas = λ t has eldest youngest quiet.
          let was = exact.deltas t has eldest youngest quiet in (
            λ key. ap (λ list. taken_units list t.name key) took ∙ (was.0 key ∙ sym (counted t.name key)),
            ap (λ list. taken_sum list t.name) took ∙ (was.1 ∙ sym (summed t.name)),
          );
      snapshots = λ s has eldest youngest quiet.
          let was = exact.snapshots s has eldest youngest quiet in (
            λ key. was.0 key ∙ sym (counted s.name key),
            was.1 ∙ sym (summed s.name),
            (let redundant = was.2 in let same = noted s.name in omega (arith, redundant, same)),
          );
      each = λ n t has eldest youngest.
          let was = exact.each n t has eldest youngest in (
            λ key. ap (λ list. taken_units list t.name key) took ∙ was.0 key,
            ap (λ list. taken_sum list t.name) took ∙ was.1,
          );
      moments = λ m of.
          moment state.actors actors kept.roles.opener kept.roles.opener id a m (is_later state.actors actors kept.roles beside) (exact.moments m of);
      swapped = λ before last taking is swapped alone.
          ap (λ list. taken_sum list last.name) took
          ∙ (exact.swapped before last taking is swapped (alone_was state.actors actors kept.roles beside b a refl refl alone) ∙ sym (summed last.name));
    }

    -- the state that is left is kept
    pub places_on : KeptOn shape opened kept (record { words = set state.words (at + j) v; cursors = state.cursors; actors = actors })
    places_on =
        let fits = kept.each id a mine lived in
        turned_on shape opened state kept at body then_is j v stands turns id a mine recorder lived deed (record {
          records = shows.records;
          balances = shows.balances;
          taken = taken_on kept.anatomy.pieces stands.0 _ (record { at = at; owner = none; body = then_is }) stands.1 state.actors id a b mine refl (λ name key. omega arith)
              kept.balanced.taken;
          counted = λ name key. omega arith;
          keys = λ entry has. kept.keys entry (row_in counted_of state.actors id a entry mine has);
          taken_keys = λ t count has. kept.taken_keys t count (row_in taken_of state.actors id a t mine has);
          sums = sums_turned shape opened state kept at body then_is j v stands turns id a mine recorder lived deed shows.lives shows.no_sum shows.sums (λ name. refl);
          lives = shows.lives;
          stood = shows.stood;
          sees = sees_turned shape opened state kept at body then_is j v stands turns a.seen fits.sees;
          noticed = λ saw. saw;
          up = shows.up;
          own = refl;
          calls = calls_same kept.anatomy new b refl (calls_more kept.anatomy a place a.seen a.done.given a.done.lost (λ place has. has) (λ place word saw. saw) fits.calls);
          looks = looks_turned shape opened state kept at body then_is j v stands turns id a mine recorder lived deed shows.lives shows.no_sum shows.records
              (λ name key. let same = counted name key in omega (arith, same));
          finals = finals_on fits.finals;
        })

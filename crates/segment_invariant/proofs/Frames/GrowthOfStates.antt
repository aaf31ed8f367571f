-- A kept state in which one actor puts a record on the list or walks along it: all that is kept, from what changes.
use Rattle.segment_invariant.proofs.Prelude.Std.{◌≡◌, ◌≢◌, ℕ, suc, ◌<◌, ℤ, Bool, true, List, [], ◌∷◌, ◌++◌, map, filter, All, Contains, ⊎_elim, refl, sym, ap, ◌∙◌, subst, arith, and_parts, All-contains, Contains-append_left, Contains-append_right, Contains-append_cases, some, some-injective, dite, ℕ_discrete, get_elem?, split_among, row_in}
use Rattle.segment_invariant.proofs.Prelude.Machine.{Dimensions, Entry, EntryProgress, Actor, Known, Own, Spent, SumLoaded, is_counted, has_ended, counted_among, log_of, counted_of, all_counted, State}
use Rattle.segment_invariant.proofs.Prelude.Invariant.{Record, Body, Anatomy, order_of, HasRecord, IsRightlyKnown, Sees, StandsAs, HasKey, StandsRight, HoldsOwn, Fits, Invariant, IsAhead}
use Rattle.std.specs.Prelude as std
use Rattle.segment_invariant.specs.Invariant.{OwesPublished}
use Rattle.segment_invariant.proofs.Frames.OneActor.{Doing, doing, lives_on}
use Rattle.segment_invariant.proofs.Frames.Growth.{Grows}
use Rattle.segment_invariant.proofs.Frames.GrowthOfActors.{SawMore, fits_grow}

-- ---- entries that were accepted are counted

pub ended_counted : (c : EntryProgress) → has_ended c ≡ true → is_counted c ≡ true
ended_counted c ended = (and_parts (is_counted c) _ (and_parts _ _ ended).0).0

pub among_all : (test : EntryProgress → Bool) → ((c : EntryProgress) → has_ended c ≡ true → test c ≡ true) → (list : List EntryProgress) → All (λ c. has_ended c ≡ true) list
    → (more : List EntryProgress) → map (λ c. c.entry) (filter test (list ++ more)) ≡ map (λ c. c.entry) list ++ map (λ c. c.entry) (filter test more)
among_all test passes [] ended more = refl
among_all test passes (c ∷ rest) ended more =
    ap (λ (b : Bool). map (λ (d : EntryProgress). d.entry) (std.cond b (c ∷ filter test (rest ++ more)) (filter test (rest ++ more))))
    (passes c (ended 0 c (omega arith)))
    ∙ ap (λ (entries : List Entry). c.entry ∷ entries) (among_all test passes rest (λ k d lt. ended (suc k) d (omega (arith, lt))) more)

counted_all : (list : List EntryProgress) → All (λ c. has_ended c ≡ true) list → (more : List EntryProgress)
    → counted_among (list ++ more) ≡ map (λ c. c.entry) list ++ counted_among more
counted_all = among_all is_counted ended_counted

-- ---- what a kept state says of its actors

module _ (shape : Dimensions) (opened : Anatomy) (state : State) (kept : Invariant shape opened state) where
  -- what was accepted before an actor was made, and what it has counted, is counted
  inherited_counted : (id : ℕ) (x : Actor) (entry : Entry) → get_elem? state.actors id ≡ some x → x.hand.place ≢ Spent → Contains x.entries.inherited entry
      → Contains (all_counted state.actors) entry
  inherited_counted id x entry there lives has = dite (ℕ_discrete id 0)
      (λ first.
      let opener : x ≡ kept.roles.opener = some-injective _ _ (sym there ∙ (ap (get_elem? state.actors) first ∙ kept.roles.stands)) in
      let lt = (subst (λ (l : List Entry). Contains l entry) (ap (λ (z : Actor). z.entries.inherited) opener ∙ kept.roles.rests.3) has).1 in
      absurd (omega (arith, lt)))
      (λ ne.
      let opener : Actor = kept.roles.opener in
      let (more, log, last) = kept.roles.heirs id x there (lives_on x (kept.roles.only id x there ne).0 lives) in
      let logged : Contains (log_of opener) entry = subst (λ (l : List Entry). Contains l entry) (sym log) (Contains-append_left x.entries.inherited more entry has) in
      let ended = (kept.each 0 opener kept.roles.stands (λ spent. cc (sym kept.roles.idle ∙ spent))).calls.ended in
      row_in counted_of state.actors 0 opener entry kept.roles.stands
      (⊎_elim
      (λ left. Contains-append_left opener.entries.first _ entry left)
      (λ right. Contains-append_right opener.entries.first _ entry
      (subst (λ (l : List Entry). Contains l entry) (sym (counted_all opener.entries.log ended opener.entries.running)) (Contains-append_left (map (λ c. c.entry) opener.entries.log) _ entry right)))
      (Contains-append_cases opener.entries.first (map (λ c. c.entry) opener.entries.log) entry logged)))

  -- so it has a key
  pub keyed : (id : ℕ) (x : Actor) → get_elem? state.actors id ≡ some x → x.hand.place ≢ Spent
      → (entry : Entry) → Contains (x.entries.inherited ++ counted_of x) entry → 0 < entry.units → HasKey kept.anatomy.records entry.name entry.key
  keyed id x there lives entry has units = kept.keys entry
      (⊎_elim
      (λ before. inherited_counted id x entry there lives before)
      (λ own. row_in counted_of state.actors id x entry there own)
      (Contains-append_cases x.entries.inherited (counted_of x) entry has))
      units

  -- a histogram that it knows is there as a record, and so is one whose sum it has loaded
  pub known_record : (id : ℕ) (x : Actor) → get_elem? state.actors id ≡ some x → x.hand.place ≢ Spent
      → (known : Known) → Contains x.answers.names known → (r : Record) × HasRecord kept.anatomy.pieces known.reference r
  known_record id x there lives known has =
      let knows = All-contains (IsRightlyKnown kept.anatomy) x.answers.names known (kept.each id x there lives).names has in
      let (r, stands, named, same) =
      All-contains (λ l. StandsAs kept.anatomy.pieces l l.made) kept.anatomy.records _ kept.list.standing (split_among knows.first.0 knows.first.1 knows.first.2) in
      (r, stands)

  pub loaded_record : (id : ℕ) (x : Actor) (reference : ℕ) (sum : ℤ) → get_elem? state.actors id ≡ some x → x.hand.place ≡ SumLoaded reference sum
      → (r : Record) × HasRecord kept.anatomy.pieces reference r
  loaded_record id x reference sum there is =
      let (known, has, same) = subst (StandsRight shape kept.anatomy id x) is (kept.standing id x there) in
      let (r, stands) = known_record id x there (λ spent. cc (sym is ∙ spent)) known has in
      (r, subst (λ (at : ℕ). HasRecord kept.anatomy.pieces at r) same stands)

  -- running calls, and what was seen since a delta or a snapshot began, when one actor moves on and the segment grows
  module _ (new : Anatomy) (added : ℕ → Body → Type 0) (grows : Grows kept.anatomy new added) where
    pub fits_on : (id : ℕ) (x : Actor) (d : Doing) → get_elem? state.actors id ≡ some x → x.hand.place ≢ Spent → SawMore x d
        → Sees new state.cursors (doing x d).seen → IsAhead (order_of new) new.tail state.cursors d.place d.beaten x.done.lost
        → All (HoldsOwn shape new.pieces id) d.own
        → ((i j : ℕ) (y z : Own) → get_elem? d.own i ≡ some y → get_elem? d.own j ≡ some z → y.at ≡ z.at → i ≡ j)
        → OwesPublished d.published d.owed
        → Fits shape new state.cursors state.actors kept.roles.opener id (doing x d)
    fits_on id x d there lives more sees ahead own apart owes =
        let fits = kept.each id x there lives in
        fits_grow shape kept.anatomy new added grows state.actors kept.roles.opener x d more (keyed id x there lives) (known_record id x there lives)
        (λ reference sum is. loaded_record id x reference sum there is) fits.sees.singles fits.sees.counters state.cursors id sees ahead own apart owes fits

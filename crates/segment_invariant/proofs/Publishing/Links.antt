-- A record is put on the list: the block at the tail gets its next, the actor's own block and the counts block that it names are
-- published, and all that holds is kept.
use Rattle.segment_invariant.proofs.Prelude.Std.{◌≡◌, ◌≢◌, ℕ, suc, ◌+◌, ◌≤◌, ℤ, Bool, true, false, List, [], ◌∷◌, ◌++◌, map, length, set, All, Contains, IsPermutation, inl, inr, ⊎_elim, refl, sym, ap, ◌∙◌, subst, arith, append_assoc, Some, map-append, All-weaker, All-push, Contains-append_left, Contains-append_right, IsPermutation-refl, some, none, some-injective, some-ne-none, get_elem?, at_set, at_longer, rows, column, at_from, below_length, index_at, all_at, row_in}
use Rattle.segment_invariant.proofs.Prelude.Machine.{Dimensions, word_at, IsShown, Behind, Spec, IsStop, IsLinked, Place, Known, Portion, Entry, Actor, Claim, Given, Made, Own, Published, Spent, all_published, is_opener, State}
use Rattle.segment_invariant.proofs.Prelude.Invariant.{Record, Counts, Sample, Body, queue, plain, held, histogram, counts, sample, other, words_of, is_claimed, Piece, extent_of, Listed, listed, Anatomy, layout_of, order_of, free_of, claims_of, Stands, Sees, IsRecordNamed, IsValued, IsNoLater, StandsAs, StandsRight, HoldsOwn, Fits, IsSetBy, ClaimedRight, Invariant, KeptOn, IsAhead, is_beaten}
use Rattle.std.proofs.lemmas.List.{take-append-le}
use Rattle.std.proofs.lemmas.List.Sorted.{IsPermutation-sym, IsPermutation-trans, IsPermutation-append, IsPermutation-map}
use Rattle.list_core.specs.Chain.{AreNeighbours}
use Rattle.list_core.proofs.Chains.{one_place}
use Rattle.list_core.proofs.EventKinds.{link_through}
use Rattle.alloc_core.proofs.Owners.{set_at}
use Rattle.segment_invariant.proofs.Frames.Ahead.{ahead_at, ahead_longer, reached_stop}
use Rattle.segment_invariant.proofs.Frames.Answers.{answered_more, owed_is, owes_both, owes_linked}
use Rattle.segment_machine.specs.declared.actor.Made.TheVariants as made
use Rattle.segment_machine.specs.declared.place.Place.TheVariants.{TailLoaded, Linked}
use Rattle.segment_machine.specs.Actor.{all_given, all_owed}
use Rattle.segment_machine.specs.Calls.{without}
use Rattle.segment_machine.specs.Publishing.{own_at, published_as, owed_for}
use Rattle.segment_invariant.specs.Invariant.{IsOnList, ListIsKept, CursorsAreKept, AreAnswered}
use Rattle.list_lemmas.proofs.Elements.{rows_more}
use Rattle.segment_invariant.proofs.Blocks.Pieces.{piece_word, first_piece, some_first, one_index, one_piece, with_piece, piece_stored, free_with, queue_piece, queue_stored, claims_same}
use Rattle.segment_invariant.proofs.Blocks.Stops.{stop_open}
use Rattle.segment_invariant.proofs.Frames.OneActor.{Doing, doing, doing_of, TurnsTo, turns_plain, is_plain, SameDeeds, same_deeds, same_role, same_sums, fits_same}
use Rattle.segment_invariant.proofs.Frames.Anatomies.{balanced_same}
use Rattle.segment_invariant.proofs.Frames.Together.{balanced, sums_near}
use Rattle.segment_invariant.proofs.Frames.Books.{cursors_set, noticed_there, noticed_set}
use Rattle.segment_invariant.proofs.Frames.Roles.{roles_set}
use Rattle.segment_invariant.proofs.Frames.GoesOn.{not_opener}
use Rattle.segment_invariant.proofs.Allocating.Claimers.{still_put, right_put}
use Rattle.segment_invariant.proofs.Frames.Growth.{grounds_grow, stands_as_grows, record_came, with_next, next_claimed, beside_next, Grows, stop_at, longer_by, stop_grows, no_later_grows, sees_grow, grows_on}
use Rattle.segment_invariant.proofs.Frames.GrowthOfActors.{saw_itself}
use Rattle.segment_invariant.proofs.Frames.Standing.{own_stays, follows_itself, stands_on}
use Rattle.segment_invariant.proofs.Frames.GrowthOfRecords.{AddedRight, records_grow, key_grows, sums_grow}
use Rattle.segment_invariant.proofs.Frames.GrowthOfStates.{loaded_record, fits_on}
use Rattle.segment_invariant.proofs.Frames.Rises.{rises_onward}
use Rattle.segment_invariant.proofs.Frames.SumsRise.{one_there, sums_same}
use Rattle.segment_invariant.proofs.Lists.Ends.{snoc_split, distinct_filter, all_without, own_found, published_is}
use Rattle.segment_invariant.proofs.Walking.Walks.{stop_stands, stop_within}
use Rattle.segment_invariant.proofs.Blocks.Published.{SameHeld, next_held, unclaimed_held, holdings_set, holdings_both, next_stays, next_came, next_owned, next_was_owned, Publishes}
use Rattle.segment_invariant.proofs.Frames.PassedOver.{passed_on, still_onward}

-- ---- the block at the tail gets its next

next_long : (body : Body) (n : ℕ) → length (words_of (with_next body n)) ≡ length (words_of body)
next_long (queue next) n = refl
next_long (plain words) n = refl
next_long (held block) n = refl
next_long (histogram r) n = refl
next_long (counts c) n = refl
next_long (sample s) n = refl
next_long (other size tag next payload) n = refl

pub record NextStored (shape : Dimensions) (anatomy : Anatomy) (words : List ℕ) (n : ℕ) : Type 0 where
  pub index : ℕ
  pub piece : Piece
  pub turned : Piece
  pub there : get_elem? anatomy.pieces index ≡ some piece
  pub free : piece.owner ≡ none
  pub still_free : turned.owner ≡ none
  pub place : turned.at ≡ piece.at
  pub long : extent_of turned ≡ extent_of piece
  pub claimed : is_claimed turned.body ≡ is_claimed piece.body
  pub kind : is_claimed piece.body ≡ true → turned.body ≡ with_next piece.body n
  pub held : SameHeld anatomy.version piece.body turned.body
  pub right : ClaimedRight turned
  pub shown : IsShown shape words (layout_of (with_piece anatomy index turned))

module _ (shape : Dimensions) (opened : Anatomy) (state : State) (kept : Invariant shape opened state) where
  -- the queue block is not claimed
  queue_unclaimed : (p : Piece) → get_elem? kept.anatomy.pieces 0 ≡ some p → (b : Bool) → is_claimed p.body ≡ b → b ≡ false
  queue_unclaimed p there true is =
      let five = (kept.blocks 0 p there is).1 in
      let four = (first_piece shape state.words kept.anatomy kept.shown p there).2 in
      absurd (omega (arith, five, four))
  queue_unclaimed p there false is = refl

  pub next_stored : (tail n : ℕ) → IsStop (order_of kept.anatomy) tail → NextStored shape kept.anatomy (set state.words (tail + 3) n) n
  next_stored tail n stop = elim (stop_stands shape opened state kept tail stop) [
    | inl at_queue ↦
        let (p, there) = some_first shape state.words kept.anatomy kept.shown in
        let (place, free, four) = first_piece shape state.words kept.anatomy kept.shown p there in
        let unclaimed : is_claimed p.body ≡ false = queue_unclaimed p there (is_claimed p.body) refl in
        let fifteen : 15 ≡ tail + 3 = omega (arith, at_queue) in
        record {
          index = 0;
          piece = p;
          turned = queue_piece n;
          there = there;
          free = free;
          still_free = refl;
          place = sym place;
          long = sym four;
          claimed = sym unclaimed;
          kind = λ is. absurd (cc (sym unclaimed ∙ is));
          held = unclaimed_held kept.anatomy.version p.body n unclaimed;
          right = λ is. absurd (cc is);
          shown = subst (λ (at : ℕ). IsShown shape (set state.words at n) (layout_of (with_piece kept.anatomy 0 (queue_piece n)))) fifteen
              (queue_stored shape state.words kept.anatomy n kept.shown);
        }
    | inr stands ↦
        let body : Body = stands.0 in
        let k : ℕ = stands.1.0 in
        let p : Piece = record { at = tail; owner = none; body = body } in
        let q : Piece = record { at = tail; owner = none; body = with_next body n } in
        let (says, five, whose) = kept.blocks k p stands.1.1 stands.2 in
        let long = next_long body n in
        record {
          index = k;
          piece = p;
          turned = q;
          there = stands.1.1;
          free = refl;
          still_free = refl;
          place = refl;
          long = long;
          claimed = next_claimed body n;
          kind = λ is. refl;
          held = next_held kept.anatomy.version body n;
          right = λ is. (
            beside_next body n 0 (λ (e : 0 ≡ 3). omega (arith, e)) ∙ (says ∙ sym long),
            subst (λ (m : ℕ). 5 ≤ m) (sym long) five,
            inl refl,
          );
          shown = piece_stored shape state.words kept.anatomy k p q 3 n kept.shown stands.1.1
              (λ first. let four = (first_piece shape state.words kept.anatomy kept.shown p
              (subst (λ (m : ℕ). get_elem? kept.anatomy.pieces m ≡ some p) first stands.1.1)).2 in omega (arith, five, four))
              (omega (arith, five)) (stands.3 n) refl;
        }
  ]

-- ---- what is to be shown of what is published

pub record Adds (page : ℕ) (own : Own) (given : Made) (old new : Anatomy) (added : ℕ → Body → Type 0) : Type 0 where
  pub right : AddedRight page old new added
  pub bare : (at : ℕ) (c : Counts) → added at (counts c) → ⊥
  pub new_record : (name : List ℕ) (spec : Spec) → given ≡ made.Histogram name spec → (r : Record) × added own.at (histogram r)
  pub new_sample : (of : ℕ) (value : ℤ) → given ≡ made.Sample of value → (s : Sample) × added own.at (sample s)
  pub stands : StandsAs new.pieces (record { reference = own.at; made = Some given }) (Some given)
  pub listed : (at : ℕ) (body : Body) → added at body → IsOnList new.records at body
  pub spared : (x : Own) → x.at ≢ own.at → (b : Body) → added x.at b → ⊥

-- ---- the list

listed_next : (records : List Listed) (at : ℕ) (before : Body) (n : ℕ) → IsOnList records at before → IsOnList records at (with_next before n)
listed_next records at (queue next) n is = tt
listed_next records at (plain words) n is = tt
listed_next records at (held block) n is = tt
listed_next records at (histogram r) n is = is
listed_next records at (counts c) n is = tt
listed_next records at (sample s) n is = is
listed_next records at (other size tag next payload) n is = is

listed_longer : (records more : List Listed) (at : ℕ) (body : Body) → IsOnList records at body → IsOnList (records ++ more) at body
listed_longer records more at (queue next) is = tt
listed_longer records more at (plain words) is = tt
listed_longer records more at (held block) is = tt
listed_longer records more at (histogram r) is = Contains-append_left records more _ is
listed_longer records more at (counts c) is = tt
listed_longer records more at (sample s) is = Contains-append_left records more _ is
listed_longer records more at (other size tag next payload) is = λ apart. Contains-append_left records more _ (is apart)

-- of what is not claimed nothing is to be listed
pub listed_claimed : (records : List Listed) (at : ℕ) (body : Body) → (is_claimed body ≡ true → IsOnList records at body) → IsOnList records at body
listed_claimed records at (queue next) is = tt
listed_claimed records at (plain words) is = tt
listed_claimed records at (held block) is = tt
listed_claimed records at (histogram r) is = is refl
listed_claimed records at (counts c) is = tt
listed_claimed records at (sample s) is = is refl
listed_claimed records at (other size tag next payload) is = is refl

-- ---- shared cursors

-- a record of the chain is where it was, in a longer chain in which none is twice
at_before : (words chain more : List ℕ) (k m : ℕ) → IsLinked words (chain ++ more) → get_elem? (chain ++ more) k ≡ some m → Contains chain m
    → get_elem? chain k ≡ some m
at_before words chain more k m linked there has =
    let (i, here) = at_from chain m has in
    let longer : get_elem? (chain ++ more) i ≡ some m = at_longer chain more i m here in
    let one = one_place words (chain ++ more) (suc k) (suc i) linked (below_length (chain ++ more) k m there) (below_length (chain ++ more) i m longer)
    (index_at (chain ++ more) k m 0 there ∙ sym (index_at (chain ++ more) i m 0 longer)) in
    let same : k ≡ i = omega (arith, one) in
    ap (get_elem? chain) same ∙ here

-- so shared cursors are kept
cursors_grow : (words chain more cursors : List ℕ) (actors : List Actor) → IsLinked words (chain ++ more) → CursorsAreKept chain cursors actors
    → CursorsAreKept (chain ++ more) cursors actors
cursors_grow words chain more cursors actors linked kept = record {
  stand = λ k below.
      let (place, within, is, gave) = kept.stand k below in
      let long = longer_by chain more in
      (place, omega (arith, within, long), stop_at chain more place within ∙ is, subst (IsPermutation (all_given actors k)) (sym (take-append-le place chain more within)) gave);
  ordered = λ who b there recorder i j k l x y lt one two cursor here next.
      let has : (m : ℕ) (g : Given) → get_elem? b.done.given m ≡ some g → Contains chain g.reference =
      λ m g at. all_at (λ g. Contains chain g.reference) b.done.given m g (kept.given who b there) at in
      kept.ordered who b there recorder i j k l x y lt one two cursor (at_before words chain more k x.reference linked here (has i x one))
      (at_before words chain more l y.reference linked next (has j y two));
  given = λ who b there. All-weaker (λ g. Contains chain g.reference) (λ g. Contains (chain ++ more) g.reference)
      (λ g has. Contains-append_left chain more g.reference has) b.done.given (kept.given who b there);
}

-- ---- the state with the record on the list

module _ (shape : Dimensions) (opened : Anatomy) (state : State) (kept : Invariant shape opened state) (id : ℕ) (a : Actor)
    (mine : get_elem? state.actors id ≡ some a) (records : is_opener a.role ≡ false) (tail : ℕ) (own : Own) (given : Made)
    (placed : a.hand.place ≡ TailLoaded tail) (i : ℕ) (there : get_elem? a.hand.own i ≡ some own) (ended : own.next ≡ 12) (asked : own.made ≡ Some given)
    (ends : word_at state.words (tail + 3) ≡ 12) where
  abbrev anatomy : Anatomy
  anatomy = kept.anatomy

  abbrev l : Listed
  l = record { reference = own.at; made = Some given }

  abbrev words' : List ℕ
  words' = set state.words (tail + 3) own.at

  pub stop : IsStop (order_of anatomy) tail
  stop = reached_stop (order_of anatomy) a.done.beaten tail (subst (StandsRight shape anatomy id a) placed (kept.standing id a mine)).1

  pub turns : TurnsTo a (Linked own.at tail)
  turns = turns_plain a (Linked own.at tail) (ap is_plain placed) refl

  pub mine_fits : Fits shape anatomy state.cursors state.actors kept.roles.opener id a
  mine_fits = kept.each id a mine turns.lived

  pub holds : HoldsOwn shape anatomy.pieces id own
  holds = all_at (HoldsOwn shape anatomy.pieces id) a.hand.own i own mine_fits.own there

  pub stored : NextStored shape anatomy words' own.at
  stored = next_stored shape opened state kept tail own.at stop

  -- with the next alone
  abbrev pub halfway : Anatomy
  halfway = with_piece anatomy stored.index stored.turned

  -- the record is not on the list yet, and its own next is the end
  off_list : IsStop (order_of anatomy) own.at → ⊥
  off_list on =
      let open_one = stop_open shape state.words anatomy kept.shown kept.list.standing own.at on in
      let one = one_piece shape state.words anatomy kept.shown holds.stands.0 open_one.index _ open_one.piece holds.stands.1 open_one.there (sym open_one.begins) in
      some-ne-none id (ap (λ (p : Piece). p.owner) one.1 ∙ open_one.free)

  own_end : word_at state.words (own.at + 3) ≡ 12
  own_end = piece_word shape state.words anatomy kept.shown holds.stands.0 _ 3 holds.stands.1 (omega arith) ∙ ended

  through : IsLinked words' (order_of anatomy ++ own.at ∷ []) × AreNeighbours (order_of anatomy ++ own.at ∷ []) tail own.at
  through = link_through state.words (order_of anatomy) tail own.at kept.list.linked (off_list, own_end) stop ends (stop_within shape opened state kept tail stop)

  abbrev d : Doing
  d = record (doing_of a) {
    place = Linked own.at tail;
    published = a.done.published ++ published_as (own_at a.hand.own own.at) own.at;
    owed = a.answers.owed ++ owed_for (own_at a.hand.own own.at) own.at;
    own = without own.at a.hand.own;
  }

  module _ (pieces : List Piece) (added : ℕ → Body → Type 0) (publishes : Publishes shape id halfway pieces added)
      (adds : Adds shape.page own given anatomy (record anatomy { pieces = pieces; records = anatomy.records ++ l ∷ [] }) added) where
    abbrev new : Anatomy
    new = record anatomy { pieces = pieces; records = anatomy.records ++ l ∷ [] }

    abbrev actors' : List Actor
    actors' = set state.actors id (doing a d)

    grows : Grows anatomy new added
    grows = record {
      version = refl;
      more = l ∷ [];
      records = refl;
      stays = λ at body is here.
          let (n, still) = next_stays anatomy.pieces stored.index stored.piece stored.turned stored.there stored.free stored.still_free stored.place own.at
          stored.claimed stored.kind at body is here in
          (n, publishes.stays at (with_next body n) still);
      came = λ at body is here. ⊎_elim
          (λ before. inl (next_came anatomy.pieces stored.index stored.piece stored.turned stored.there stored.free stored.still_free stored.place own.at
          stored.claimed stored.kind at body is before))
          (λ new_one. inr new_one)
          (publishes.came at body here);
      apart = λ at place j k body before new_one stands lt below same.
          let (block, was, long) = publishes.was at body new_one in
          let stood = next_was_owned anatomy.pieces stored.index stored.piece stored.turned stored.there stored.free stored.still_free stored.place own.at
          stored.claimed stored.kind id at (held block) was in
          let index = one_index shape state.words anatomy kept.shown stood.0 stands.0 _ _ j k stood.1 stands.1 (omega (arith, lt, long)) below same in
          some-ne-none id (ap (λ (p : Piece). p.owner) (some-injective _ _ (sym stood.1 ∙ (ap (get_elem? anatomy.pieces) index ∙ stands.1))));
      bare = adds.bare;
      first_came = λ name spec at first.
          let (front, behind, is, others, its) = first in
          ⊎_elim
          (λ t. inl (front, t.0, t.1, others, its))
          (λ t.
          let asked_for : given ≡ made.Histogram name spec = cc (ap (λ (z : Listed). z.made) t.0) in
          let (r, new_one) = adds.new_record name spec asked_for in
          inr (
            r,
            subst (λ (n : ℕ). added n (histogram r)) (ap (λ (z : Listed). z.reference) t.0) new_one,
            subst (λ (rs : List Listed). All (λ l. ¬ (IsRecordNamed name l)) rs) (sym t.1) others,
          ))
          (snoc_split anatomy.records front behind l (record { reference = at; made = Some (made.Histogram name spec) }) is);
      first_of_came = λ of at value first.
          let (front, behind, is, others, its) = first in
          ⊎_elim
          (λ t. inl (front, t.0, t.1, others, its))
          (λ t.
          let asked_for : given ≡ made.Sample of value = cc (ap (λ (z : Listed). z.made) t.0) in
          let (s, new_one) = adds.new_sample of value asked_for in
          inr (
            s,
            subst (λ (n : ℕ). added n (sample s)) (ap (λ (z : Listed). z.reference) t.0) new_one,
            subst (λ (rs : List Listed). All (λ l. ¬ (IsValued of value l)) rs) (sym t.1) others,
          ))
          (snoc_split anatomy.records front behind l (record { reference = at; made = Some (made.Sample of value) }) is);
    }

    same : SameDeeds state.actors actors'
    same = same_deeds state.actors id a mine d turns (not_opener shape opened state kept id a mine records)

    order_is : order_of new ≡ order_of anatomy ++ own.at ∷ []
    order_is = map-append (λ (l : Listed). l.reference) anatomy.records (l ∷ [])

    free_is : free_of new ≡ free_of anatomy
    free_is = publishes.free ∙ free_with anatomy stored.index stored.piece stored.turned stored.there stored.long

    linked_now : IsLinked words' (order_of new)
    linked_now = subst (IsLinked words') (sym order_is) through.0

    -- what it published
    published_more : IsPermutation (all_published actors') (all_published state.actors ++ record { reference = own.at; made = given } ∷ [])
    published_more =
        rows_more (λ (b : Actor). b.done.published) state.actors id a (doing a d) (record { reference = own.at; made = given } ∷ []) mine
        (ap (λ (more : List Published). a.done.published ++ more)
        (published_is (own_at a.hand.own own.at) own given own.at (own_found a.hand.own i own mine_fits.apart there) asked))

    list_now : ListIsKept words' opened new actors'
    list_now =
        let (front, is, permuted) = kept.list.once in
        let p : Published = record { reference = own.at; made = given } in
        record {
          linked = linked_now;
          once = (
            front ++ l ∷ [],
            ap (λ (rs : List Listed). rs ++ l ∷ []) is ∙ append_assoc opened.records front (l ∷ []),
            IsPermutation-trans _ _ _
                (IsPermutation-append _ _ (l ∷ []) (l ∷ []) permuted (IsPermutation-refl (l ∷ [])))
                (subst (λ (rs : List Listed). IsPermutation rs (map listed (all_published actors')))
                (map-append listed (all_published state.actors) (p ∷ []))
                (IsPermutation-map listed _ _ (IsPermutation-sym _ _ published_more))),
          );
          standing = All-push (λ l. StandsAs pieces l l.made) anatomy.records l
              (All-weaker (λ l. StandsAs anatomy.pieces l l.made) (λ l. StandsAs pieces l l.made)
              (λ l stands. stands_as_grows anatomy new added grows l l.made stands) anatomy.records kept.list.standing)
              adds.stands;
          alone = λ at body here. listed_claimed new.records at body (λ is. ⊎_elim
              (λ t. subst (IsOnList new.records at) (sym t.3)
              (listed_longer anatomy.records (l ∷ []) at (with_next t.0 t.1) (listed_next anatomy.records at t.0 t.1 (kept.list.alone at t.0 t.2))))
              (λ new_one. adds.listed at body new_one)
              (grows.came at body is here));
          tail = stop_grows anatomy new added grows anatomy.tail kept.list.tail;
        }

    -- the record is the first of its name and its maker owes the answer, or the first one stays
    answered_now : AreAnswered new.records actors'
    answered_now name kind at (front, behind, is, others, its) = ⊎_elim
        (λ t. answered_more anatomy.records state.actors id a (doing a d) mine refl
        (λ known has. Contains-append_left a.answers.owed (owed_for (own_at a.hand.own own.at) own.at) known has) kept.answered name kind at (front, t.0, t.1, others, its))
        (λ t.
        let asked_for : given ≡ made.Histogram name kind = cc (ap (λ (z : Listed). z.made) t.0) in
        let owes = owed_is (own_at a.hand.own own.at) own name kind own.at (own_found a.hand.own i own mine_fits.apart there) (asked ∙ ap (λ (g : Made). Some g) asked_for) in
        let entry : Known = record { name = name; spec = kind; reference = own.at } in
        inr (subst (λ (n : ℕ). Contains (all_owed actors') (record { name = name; spec = kind; reference = n })) (ap (λ (z : Listed). z.reference) t.0)
        (row_in (λ (b : Actor). b.answers.owed) actors' id (doing a d) entry (set_at state.actors id a (doing a d) mine)
        (Contains-append_right a.answers.owed (owed_for (own_at a.hand.own own.at) own.at) entry
        (subst (λ (list : List Known). Contains list entry) (sym owes) (0, omega arith, refl))))))
        (snoc_split anatomy.records front behind l (record { reference = at; made = Some (made.Histogram name kind) }) is)

    others_stay : (who at : ℕ) (body : Body) → who ≢ id → Stands anatomy.pieces at (some who) body → Stands pieces at (some who) body
    others_stay who at body ne stands = publishes.others who at body ne
        (next_owned anatomy.pieces stored.index stored.piece stored.turned stored.there stored.free stored.still_free stored.place own.at
        stored.claimed stored.kind who at body stands)

    -- its other blocks
    own_now : All (HoldsOwn shape pieces id) d.own
    own_now =
        let first = all_without (HoldsOwn shape anatomy.pieces id) own.at a.hand.own mine_fits.own in
        All-weaker (λ (x : Own). HoldsOwn shape anatomy.pieces id x × (x.at ≢ own.at)) (HoldsOwn shape pieces id)
        (λ x t. record {
          stands = publishes.mine x.at (held x) (adds.spared x t.1)
              (next_owned anatomy.pieces stored.index stored.piece stored.turned stored.there stored.free stored.still_free stored.place own.at
              stored.claimed stored.kind id x.at (held x) t.0.stands);
          placed = t.0.placed;
          room = t.0.room;
          tagged = t.0.tagged;
          ends = t.0.ends;
        })
        d.own first

    apart_now : (j k : ℕ) (x y : Own) → get_elem? d.own j ≡ some x → get_elem? d.own k ≡ some y → x.at ≡ y.at → j ≡ k
    apart_now = distinct_filter _ a.hand.own mine_fits.apart

    sees_now : (b : Actor) → Sees anatomy state.cursors b.seen → Sees new state.cursors b.seen
    sees_now b sees = sees_grow anatomy new added grows state.cursors b.seen (subst (Behind b.seen.free) (sym free_is) sees.free)
        (All-weaker (λ place. IsNoLater (order_of anatomy) place anatomy.tail) (λ place. IsNoLater (order_of new) place anatomy.tail)
        (λ place. no_later_grows anatomy new added grows place anatomy.tail) b.seen.tails sees.tails) sees

    -- the list is ahead of what came too late
    ahead_now : (place : Place) (beaten : ℕ) (lost : List ℕ) → IsAhead (order_of anatomy) anatomy.tail state.cursors place beaten lost
        → IsAhead (order_of new) new.tail state.cursors place beaten lost
    ahead_now place beaten lost ahead = subst (λ (chain : List ℕ). IsAhead chain anatomy.tail state.cursors place beaten lost) (sym order_is)
        (ahead_longer (order_of anatomy) anatomy.tail state.cursors place beaten lost ahead (own.at ∷ []))

    fits_mine : Fits shape new state.cursors state.actors kept.roles.opener id (doing a d)
    fits_mine =
        let old = sees_now a mine_fits.sees in
        fits_on shape opened state kept new added grows id a d mine turns.lived
        (record {
          chain = λ at has. has;
          words = λ at word seen. seen;
          counts = λ known word named seen. seen;
          loaded = turns.sums;
        })
        old
        (ahead_now (Linked own.at tail) a.done.beaten a.done.lost
        (ahead_at (order_of anatomy) anatomy.tail state.cursors a.hand.place a.done.beaten a.done.lost mine_fits.ahead (Linked own.at tail) (λ no. ap is_beaten placed)))
        own_now apart_now
        (owes_both a.done.published (published_as (own_at a.hand.own own.at) own.at) a.answers.owed (owed_for (own_at a.hand.own own.at) own.at)
        mine_fits.owes (owes_linked (own_at a.hand.own own.at) own.at))

    fits_else : (who : ℕ) (b : Actor) → who ≢ id → get_elem? state.actors who ≡ some b → b.hand.place ≢ Spent
        → Fits shape new state.cursors state.actors kept.roles.opener who b
    fits_else who b ne here lives =
        let fits = kept.each who b here lives in
        fits_on shape opened state kept new added grows who b (doing_of b) here lives (saw_itself b) (sees_now b fits.sees) (ahead_now b.hand.place b.done.beaten b.done.lost fits.ahead)
        (own_stays shape anatomy new who (λ x stands. others_stay who x.at (held x) ne stands) b.hand.own fits.own) fits.apart fits.owes

    pub links_on : KeptOn shape opened kept (record { words = words'; cursors = state.cursors; actors = actors' })
    links_on = (
      record {
        anatomy = new;
        shown = publishes.shown words' stored.shown;
        same = kept.same;
        first_noted = kept.first_noted;
        answered = answered_now;
        versions = kept.versions;
        still = λ k p here.
            let (q, now, same_at) = kept.still k p here in
            let (r, next, turned_at) = still_put anatomy.pieces stored.index stored.piece stored.turned stored.there stored.place k q now in
            let (s, last, still_at) = publishes.still k r next in
            (s, last, still_at ∙ (turned_at ∙ same_at));
        blocks = publishes.blocks (right_put anatomy.pieces stored.index stored.turned stored.right kept.blocks);
        list = list_now;
        claims = subst (λ (p : List Claim × List Claim). IsPermutation p.0 (claims_of opened.pieces ++ p.1))
            (λ j. (
              sym (publishes.claims ∙ claims_same anatomy.pieces stored.index stored.piece stored.turned stored.there stored.claimed stored.place stored.long) j,
              sym (rows (λ (b : Actor). b.done.claimed) state.actors id a (doing a d) mine refl) j,
            )) kept.claims;
        records = records_grow shape.page anatomy new added grows adds.right kept.list.standing kept.list.alone kept.records;
        passed_over = passed_on shape.page opened anatomy.pieces pieces (still_onward anatomy new added (grows_on anatomy new added grows)) kept.passed_over;
        balanced = balanced anatomy.version opened.pieces pieces state.actors actors' (same_sums state.actors actors' same)
            (balanced_same anatomy.version opened.pieces anatomy.pieces pieces state.actors
            (holdings_both anatomy.version anatomy.pieces halfway.pieces pieces
            (holdings_set anatomy.version anatomy.pieces stored.index stored.piece stored.turned stored.there stored.held) publishes.holdings)
            kept.balanced);
        keys = λ entry has units. key_grows anatomy new added grows entry.name entry.key
            (kept.keys entry (subst (λ (entries : List Entry). Contains entries entry) same.counted has) units);
        taken_keys = λ t count has counted. key_grows anatomy new added grows t.name count.0
            (kept.taken_keys t count (subst (λ (taken : List Portion). Contains taken t) same.taken has) counted);
        sums = sums_near pieces state.actors actors' (same_sums state.actors actors' same) same.loaded
            (sums_grow anatomy new added grows state.actors
            (λ who b reference sum here is. loaded_record shape opened state kept who b reference sum here is)
            (λ at r new_one. let nothing = adds.right.nothing at r new_one in (nothing.3, nothing.4)) kept.sums);
        pool = same.units ∙ kept.pool;
        corrupt = subst (IsSetBy anatomy.corrupt opened.corrupt) (sym (column (λ (b : Actor). b.done.spoiled) state.actors id a (doing a d) mine refl)) kept.corrupt;
        full = subst (IsSetBy anatomy.full opened.full) (sym (column (λ (b : Actor). b.done.filled) state.actors id a (doing a d) mine refl)) kept.full;
        noticed = noticed_set anatomy.corrupt state.actors id (doing a d) (noticed_there anatomy.corrupt state.actors id a mine kept.noticed) kept.noticed;
        roles = roles_set state.actors id a (doing a d) mine (same_role a d turns) (not_opener shape opened state kept id a mine records) kept.roles;
        cursors = subst (λ (chain : List ℕ). CursorsAreKept chain state.cursors actors') (sym order_is)
            (cursors_set (order_of anatomy ++ own.at ∷ []) state.cursors state.actors id a (doing a d) mine records refl
            (cursors_grow words' (order_of anatomy) (own.at ∷ []) state.cursors state.actors through.0 kept.cursors));
        standing = λ who b here. elim (at_set state.actors id who (doing a d) b here) [
          | inl t ↦ subst (λ (p : ℕ × Actor). StandsRight shape new p.0 p.1 p.1.hand.place) (λ j. (sym t.0 j, t.1 j))
              (subst (λ (chain : List ℕ). AreNeighbours chain tail own.at) (sym order_is) through.1)
          | inr t ↦ stands_on shape anatomy new who b b (grounds_grow anatomy new added grows who (λ at words. others_stay who at (plain words) t.0))
              (follows_itself b) b.hand.place (kept.standing who b t.1)
        ];
        each = λ who b here lives. fits_same state.actors actors' same shape new state.cursors kept.roles.opener who b kept.roles.stands
            (elim (at_set state.actors id who (doing a d) b here) [
              | inl t ↦ subst (λ (p : ℕ × Actor). Fits shape new state.cursors state.actors kept.roles.opener p.0 p.1) (λ j. (sym t.0 j, t.1 j)) fits_mine
              | inr t ↦ fits_else who b t.0 t.1 lives
            ]);
      },
      rises_onward anatomy new added (grows_on anatomy new added grows) refl (l ∷ []) refl (let same = free_is in omega (arith, same))
          (λ seen. no_later_grows anatomy new added grows seen anatomy.tail) (λ set. set) (λ set. set),
      sums_same anatomy.pieces pieces state.actors actors' (same_sums state.actors actors' same).costs (λ at r s here now. ⊎_elim
          (λ t. ap (λ (z : Record). z.sum) (one_there shape state.words anatomy kept.shown at r t.0 here t.2) ∙ ap (λ (z : Record). z.sum) (sym t.3))
          (λ new_one. absurd (grows.apart at at 0 0 (histogram s) (histogram r) new_one here (omega arith) (omega arith) refl))
          (record_came anatomy new added grows at s now)),
    )

-- The payload of a record that is made is stored, except for the words that are 0.
use Rattle.segment_invariant.proofs.Prelude.Std.{◌≡◌, ℕ, zero, suc, ◌+◌, ◌-◌, ◌<◌, ◌≤◌, ◌==◌, Bool, true, false, List, [], ◌∷◌, ◌++◌, length, take, get_or, replicate, refl, sym, ap, subst, ◌∙◌, arith, append_assoc, eqb-true, Some, if◌then◌else◌, slice_index, nat_lt, Contains, append-nil, ltb-true, ltb-false, some}
use Rattle.segment_invariant.proofs.Prelude.Machine.{Dimensions, Actor, Own, store_payload, Event, next, allocating_event}
use Rattle.std.proofs.lemmas.List.{replicate-append-replicate, length-take-le, take_all}
use Rattle.std.proofs.Math.Seq.{take-suc}
use Rattle.segment_invariant.proofs.Lists.Elements.{at_from, contains_at}
use Rattle.alloc_core.specs.Event as atomic
use Rattle.list_core.specs.Publish as publish
use Rattle.segment_machine.specs.Allocating.{stored}
use Rattle.segment_machine.specs.Publishing.{own_at}
use Rattle.hist_core.specs.declared.new_record.NewRecord.{NewRecord}
use Rattle.hist_core.specs.declared.new_record.NewRecordStep.TheVariants.{More}
use Rattle.hist_core.specs.declared.new_record.NewRecordStage.TheVariants.{Filling, Publishing}
use Rattle.hist_core.specs.StepsBy.{FrameOfStep, StepsBy}
use Rattle.hist_core.specs.NewRecord.{Wanted, IsNewRecord, IsFilledTo, IsNextFilled, IsPayloadFilled, StandsAtStage, NewRecordGives, serves_wanted}
use Rattle.hist_core.proofs.Worlds.Free.{free_turns}
use Rattle.hist_core.proofs.Makes.Drafts.{is_wide, may_still}
use Rattle.hist_core.proofs.Parts.Alone.{by_event, makes_so, allocating_beside}
use Rattle.hist_core.proofs.Parts.Claims.{changed_at}
use Rattle.hist_core.proofs.Parts.Deeds.{stores_payload}

-- ---- the words that are stored

-- words that are 0 follow a front
zeros_behind : (all : List ℕ) (n k : ℕ) → n + k ≤ length all → ((i : ℕ) → n ≤ i → i < n + k → get_or all i 0 ≡ 0) → take n all ++ replicate k 0 ≡ take (n + k) all
zeros_behind all n zero inside zeros = let none : n ≡ n + zero = omega arith in append-nil (take n all) ∙ ap (λ (m : ℕ). take m all) none
zeros_behind all n (suc k) inside zeros =
    let one : k + 1 ≡ suc k = omega arith in
    let last : suc (n + k) ≡ n + suc k = omega arith in
    ap (λ (l : List ℕ). take n all ++ l) (sym (replicate-append-replicate k 1 0 ∙ ap (λ (m : ℕ). replicate m 0) one))
    ∙ sym (append_assoc (take n all) (replicate k 0) (replicate 1 0))
    ∙ ap (λ (l : List ℕ). l ++ 0 ∷ []) (zeros_behind all n k (omega (arith, inside)) (λ i from to. zeros i from (omega (arith, to))))
    ∙ ap (λ (m : ℕ). take (n + k) all ++ m ∷ []) (sym (zeros (n + k) (omega arith) (omega arith)))
    ∙ sym (take-suc all (n + k) 0 (omega (arith, inside)))
    ∙ ap (λ (m : ℕ). take m all) last

-- a word more is stored
stored_is : (all front : List ℕ) (index : ℕ) → IsFilledTo all index front → index < length all → stored front index (get_or all index 0) ≡ take (suc index) all
stored_is all front index filled inside = ap (λ (l : List ℕ). l ++ get_or all index 0 ∷ []) filled.words ∙ sym (take-suc all index 0 inside)

-- the words before the next one are stored then
then_filled : (all : List ℕ) (index next : ℕ) → index < length all → IsNextFilled all (index + 1) next → IsFilledTo all next (take (suc index) all)
then_filled all index ends_at inside goes =
    let count = length-take-le (suc index) all (omega (arith, inside)) in
    let behind = goes.behind in
    let before = goes.before in
    let exact : suc index + (ends_at - suc index) ≡ ends_at = omega (arith, behind) in
    record {
      short = omega (arith, count, behind);
      words = ap (λ (n : ℕ). take (suc index) all ++ replicate (ends_at - n) 0) count
          ∙ zeros_behind all (suc index) (ends_at - suc index) (omega (arith, exact, before)) (λ i from to. goes.zeros i (omega (arith, from)) (omega (arith, to, exact)))
          ∙ ap (λ (n : ℕ). take n all) exact;
    }

-- ---- its own block

-- a block that is found is there
own_there : (list : List Own) (at : ℕ) (x : Own) → own_at list at ≡ Some x → Contains list x × (x.at ≡ at)
own_there [] at x is = cc is
own_there (own ∷ rest) at x is = by (own.at == at) refl (own_there rest at x) is
  where
    by : (here : Bool) → (own.at == at) ≡ here → (own_at rest at ≡ Some x → Contains rest x × (x.at ≡ at)) → (if here then Some own else own_at rest at) ≡ Some x
        → Contains (own ∷ rest) x × (x.at ≡ at)
    by true e behind found = let same : own ≡ x = cc found in (contains_at (own ∷ rest) 0 x (ap some same), subst (λ (o : Own). o.at ≡ at) same (eqb-true own.at at e))
    by false e behind found = let has = behind found in let there = at_from rest x has.0 in (contains_at (own ∷ rest) (suc there.0) x there.1, has.1)

-- ---- a step

module _ (shape : Dimensions) (version : ℕ) (wanted : Wanted) (m : NewRecord) (a : Actor) (words : List ℕ) (long : length words ≡ shape.size)
    (is : IsNewRecord shape wanted m a) (at index : ℕ) (fills : m.stage ≡ Filling at index) where
  stands : StandsAtStage shape wanted a (Filling at index)
  stands = subst (StandsAtStage shape wanted a) fills is.stands

  abbrev all : List ℕ
  all = wanted.payload

  abbrev own : Own
  own = stands.4.0

  abbrev value : ℕ
  value = slice_index all index

  -- what it does
  abbrev event : Event
  event = allocating_event (store_payload at index value)

  abbrev acted : Actor
  acted = next a event 0

  -- its block after that
  abbrev fuller : Own
  fuller = record own { payload = stored own.payload index value }

  fuller_is : own_at acted.hand.own at ≡ Some fuller
  fuller_is = changed_at a.hand.own at (λ o. record o { payload = stored o.payload index value }) own (λ o. refl) stands.4.1.0

  whole_front : fuller.payload ≡ take (suc index) all
  whole_front = stored_is all own.payload index stands.4.2 stands.1

  -- the next word, or the publish
  pub fills_so : (new_words : List ℕ) (new : NewRecord) → new_words ≡ atomic.after (atomic.store_payload at index value) words → IsPayloadFilled all at (index + 1) new
      → StepsBy shape.size version a words new_words (NewRecordGives shape wanted new More a)
  fills_so new_words new are (then_at, goes, new_is) = by_event event (
    own,
    ((own_there a.hand.own at own stands.4.1.0).0, stands.4.1.1),
    (own_there a.hand.own at own stands.4.1.0).1,
    stands.4.2.short,
    (let size = stands.4.1.4 in let inside = stands.1 in let enough = is.draft.enough in omega (arith, size, inside, enough)),
  )
      (are ∙ sym (makes_so shape.size version event (atomic.store_payload at index value) refl refl words))
      (λ learned apart ordered. (
        beside,
        stores_payload (serves_wanted wanted) a at index value 0,
        (refl, refl, refl),
        record {
          segment = is.segment;
          lawful_shape = is.lawful_shape;
          draft = may_still shape wanted a acted beside is.draft;
          stands = subst (StandsAtStage shape wanted acted) (sym new_is) (stood (nat_lt then_at (length all)) refl);
        },
      ))
    where
      beside : FrameOfStep a acted
      beside = allocating_beside a (store_payload at index value) 0

      stood : (more : Bool) → nat_lt then_at (length all) ≡ more
          → StandsAtStage shape wanted acted (if more then Filling at then_at else Publishing (publish.started at))
      stood true e =
          let inside = ltb-true then_at (length all) e in (
            stands.0,
            inside,
            goes.stored inside,
            stands.3,
            (
              fuller,
              (fuller_is, stands.4.1.1, stands.4.1.2, stands.4.1.3, stands.4.1.4),
              subst (IsFilledTo all then_at) (sym whole_front) (then_filled all index then_at stands.1 goes),
            ),
          )
      stood false e =
          let none = ltb-false then_at (length all) e in
          let kept = subst (IsFilledTo all then_at) (sym whole_front) (then_filled all index then_at stands.1 goes) in
          let ends = stands.3.1 in
          let some = stands.1 in
          let enough = is.draft.enough in (
            (
              free_turns a.hand.place stands.0,
              (
                fuller,
                fuller_is,
                stands.4.1.1,
                stands.4.1.2,
                is.draft.holds fuller.payload (then_at - length fuller.payload) (kept.words ∙ take_all then_at all none),
                (may_still shape wanted a acted beside is.draft).may fuller stands.4.1.3 stands.4.1.4,
              ),
            ),
            refl,
            record {
              headed = let wide = is_wide shape is.lawful_shape in omega (arith, wide);
              from = stands.3.0;
              ends = omega (arith, ends, some, enough);
              within = tt;
            },
          )

  -- what it stores lies in the payload and in the words, which are few
  pub fill_bounds : (index < length all) × (at + (4 + length all) ≤ length words) × (length words ≤ 1048576)
  fill_bounds = (
    stands.1,
    (let ends = stands.3.1 in let enough = is.draft.enough in omega (arith, ends, enough, long)),
    subst (λ (n : ℕ). n ≤ 1048576) (sym long) is.lawful_shape.many,
  )

  -- the block in which it stores is none of the header
  pub fill_from : 16 ≤ at
  fill_from = stands.3.0

-- The payload of a block of its own is stored, except for the words that are 0: what its recorder has between two stores.
use Rattle.std.proofs.Common.{◌≡◌, ◌≢◌, ℕ, zero, suc, ◌+◌, ◌-◌, ◌<◌, ◌≤◌, Bool, false, true≢false, if◌then◌else◌, List, [], ◌∷◌, ◌++◌, length, take, replicate, slice_index, refl, sym, ap, subst, ◌∙◌, arith, append_assoc, length-append, eq-eqb, ne_eqb}
use Rattle.std.specs.Prelude.{Some}
use Rattle.std.specs.List.{Contains}
use Rattle.std.proofs.lemmas.List.{append-nil, replicate-append-replicate, length-replicate, get_or-append-add}
use Rattle.std.proofs.lemmas.List.Elements.{Contains-append_right}
use Rattle.std.proofs.Math.Seq.{take-suc, take-length}
use mathlib.Core.Logic.{dite}
use mathlib.Core.Option.{some}
use native.Mathlib.Decide.{ℕ_discrete}
use lib.ListN.{get_elem?}
use Rattle.segment_machine.specs.declared.actor.Actor.{Actor}
use Rattle.segment_machine.specs.declared.actor.Own.{Own}
use Rattle.segment_machine.specs.Actor.{is_bound, is_opener, AreOwnBlocksApart}
use Rattle.segment_machine.specs.Allocating.{store_payload, stored}
use Rattle.segment_machine.specs.Calls.{change_last, change_own}
use Rattle.segment_machine.specs.Event.{allocating_event}
use Rattle.segment_machine.specs.Publishing.{own_at}
use Rattle.live_segment.specs.declared.segment.Segment.{Segment}
use Rattle.live_segment.specs.Steps.{Pass, Stepped}
use Rattle.live_segment.specs.Holders.{table_of, MayStep}
use Rattle.live_segment.specs.Hist.NewRecord.{HasBlock, HasFilled, StandsFilled, filled_with}

-- ---- the last of its blocks

pub last_changed : {X : Type 0} (f : X → X) (front : List X) (x : X) → change_last f (front ++ x ∷ []) ≡ front ++ f x ∷ []
last_changed f [] x = refl
last_changed f (y ∷ []) x = refl
last_changed f (y ∷ z ∷ rest) x = ap (λ l. y ∷ l) (last_changed f (z ∷ rest) x)

last_there : (front : List Own) (x : Own) → get_elem? (front ++ x ∷ []) (length front) ≡ some x
last_there [] x = refl
last_there (y ∷ rest) x = last_there rest x

-- no two begin at one word
abbrev pub Apart : List Own → Type 0
Apart list = (i j : ℕ) (x y : Own) → get_elem? list i ≡ some x → get_elem? list j ≡ some y → x.at ≡ y.at → i ≡ j

apart_behind : (y : Own) (rest : List Own) → Apart (y ∷ rest) → Apart rest
apart_behind y rest apart i j x z here there same = let e = apart (suc i) (suc j) x z here there same in omega (arith, e)

-- none before the last begins where that begins
not_first : (y : Own) (rest : List Own) (x : Own) (at : ℕ) → Apart (y ∷ (rest ++ x ∷ [])) → x.at ≡ at → y.at ≢ at
not_first y rest x at apart is same =
    let e : 0 ≡ suc (length rest) = apart 0 (suc (length rest)) y x refl (last_there rest x) (same ∙ sym is) in omega (arith, e)

-- so a change at its word is one of the last, and it is what is found there
pub changed_there : (front : List Own) (x : Own) (at : ℕ) (f : Own → Own) → Apart (front ++ x ∷ []) → x.at ≡ at
    → change_own at f (front ++ x ∷ []) ≡ front ++ f x ∷ []
changed_there [] x at f apart is = ap (λ (b : Bool). if b then f x ∷ [] else x ∷ []) (eq-eqb x.at at is)
changed_there (y ∷ rest) x at f apart is =
    ap (λ (b : Bool). if b then f y ∷ (rest ++ x ∷ []) else y ∷ change_own at f (rest ++ x ∷ [])) (ne_eqb y.at at (not_first y rest x at apart is))
    ∙ ap (λ l. y ∷ l) (changed_there rest x at f (apart_behind y (rest ++ x ∷ []) apart) is)

pub found_there : (front : List Own) (x z : Own) (at : ℕ) → Apart (front ++ x ∷ []) → x.at ≡ at → z.at ≡ at → own_at (front ++ z ∷ []) at ≡ Some z
found_there [] x z at apart is there = ap (λ (b : Bool). if b then Some z else own_at [] at) (eq-eqb z.at at there)
found_there (y ∷ rest) x z at apart is there =
    ap (λ (b : Bool). if b then Some y else own_at (rest ++ z ∷ []) at) (ne_eqb y.at at (not_first y rest x at apart is))
    ∙ found_there rest x z at (apart_behind y (rest ++ x ∷ []) apart) is there

zeros : (n k : ℕ) → slice_index (replicate n 0) k ≡ 0
zeros zero k = refl
zeros (suc n) zero = refl
zeros (suc n) (suc k) = zeros n k

nothing : (list : List ℕ) → length list ≡ 0 → slice_index list (length list - 1) ≡ 0
nothing [] none = refl
nothing (x ∷ rest) none = absurd (omega (arith, none))

-- ---- between two stores

-- the words before an index are stored, except for the zeros at their end
pub record IsFilledTo (at : ℕ) (payload : List ℕ) (first now : Actor) (index : ℕ) : Type 0 where
  pub stored : List ℕ
  pub view : now ≡ record first { hand = record first.hand { own = change_last (filled_with stored) first.hand.own } }
  pub short : length stored ≤ index
  pub words : stored ++ replicate (index - length stored) 0 ≡ take index payload
  pub found : 0 < length stored → StandsFilled at stored now

module _ (at n : ℕ) (first : Actor) (block : HasBlock at n first) where
  own_with : (payload : List ℕ) → change_last (filled_with payload) first.hand.own ≡ block.front ++ filled_with payload block.own ∷ []
  own_with payload = ap (change_last (filled_with payload)) block.is_last ∙ last_changed (filled_with payload) block.front block.own

  pub begins : (payload : List ℕ) → IsFilledTo at payload first first 0
  begins payload = record {
    stored = [];
    view = λ i. record first { hand = record first.hand { own = same i } };
    short = omega arith;
    words = refl;
    found = λ some_there. absurd (omega (arith, some_there));
  }
    where
      same : first.hand.own ≡ change_last (filled_with []) first.hand.own
      same =
          block.is_last
          ∙ (ap (λ (l : List ℕ). block.front ++ record block.own { payload = l } ∷ []) block.empty ∙ sym (own_with []))

  -- a word that is 0 is not stored
  pub skips : (payload : List ℕ) (now : Actor) (index : ℕ) → IsFilledTo at payload first now index → index < length payload
      → slice_index payload index ≡ 0 → IsFilledTo at payload first now (index + 1)
  skips payload now index was inside none = record {
    stored = was.stored;
    view = was.view;
    short = let short = was.short in omega (arith, short);
    words =
        let short = was.short in
        let one : index + 1 - length was.stored ≡ index - length was.stored + 1 = omega (arith, short) in
        let next_is : index + 1 ≡ suc index = omega arith in
        ap (λ (k : ℕ). was.stored ++ replicate k 0) one
        ∙ ap (λ (l : List ℕ). was.stored ++ l) (sym (replicate-append-replicate (index - length was.stored) 1 0))
        ∙ sym (append_assoc was.stored (replicate (index - length was.stored) 0) (0 ∷ []))
        ∙ ap (λ (l : List ℕ). l ++ 0 ∷ []) was.words
        ∙ ap (λ (m : ℕ). take index payload ++ m ∷ []) (sym none)
        ∙ sym (take-suc payload index 0 inside)
        ∙ ap (λ (m : ℕ). take m payload) (sym next_is);
    found = was.found;
  }

  module _ (segment : Segment) (start old : Pass) (starts : first ≡ start.me.0) (payload : List ℕ) (index : ℕ) (was : IsFilledTo at payload first old.me.0 index)
      (table : old.table_id ≡ table_of segment) (records : is_opener first.role ≡ false) (inside : index < length payload) (few : length payload ≤ n) where
    own_is : old.me.0.hand.own ≡ block.front ++ filled_with was.stored block.own ∷ []
    own_is = ap (λ (a : Actor). a.hand.own) was.view ∙ own_with was.stored

    pub may_store : (value : ℕ) → MayStep segment old (allocating_event (store_payload at index value))
    may_store value = record {
      table = table;
      recorder = ap (λ (a : Actor). is_opener a.role) was.view ∙ records;
      ready = (
        filled_with was.stored block.own,
        (
          subst (λ (l : List Own). Contains l (filled_with was.stored block.own)) (sym own_is)
              (Contains-append_right block.front (filled_with was.stored block.own ∷ []) (filled_with was.stored block.own) (0, omega arith, refl)),
          block.next,
        ),
        block.begins,
        was.short,
        let room = block.room in omega (arith, room, inside, few),
      );
    }

    -- one that is not 0 is stored
    pub stores : (new : Pass) → Stepped old (allocating_event (store_payload at index (slice_index payload index))) (slice_index payload index) new
        → AreOwnBlocksApart old.me.0 → IsFilledTo at payload first new.me.0 (index + 1)
    stores new step apart = record {
      stored = more;
      view = step.view ∙ (λ i. let a = was.view i in record a { hand = record a.hand { own = own_then i } });
      short = omega (arith, long, short);
      words =
          let whole : index + 1 - length more ≡ 0 = omega (arith, long, short) in
          let next_is : index + 1 ≡ suc index = omega arith in
          ap (λ (k : ℕ). more ++ replicate k 0) whole ∙ append-nil more
          ∙ ap (λ (l : List ℕ). l ++ slice_index payload index ∷ []) was.words
          ∙ sym (take-suc payload index 0 inside)
          ∙ ap (λ (m : ℕ). take m payload) (sym next_is);
      found = λ some_there. (
        filled_with more block.own,
        ap (λ (l : List Own). own_at l at) (ap (λ (a : Actor). a.hand.own) step.view ∙ (own_then ∙ own_with more))
            ∙ found_there block.front (filled_with was.stored block.own) (filled_with more block.own) at apart_there block.begins block.begins,
        block.next,
        block.unasked,
        refl,
        block.tagged,
      );
    }
      where
        more : List ℕ
        more = stored was.stored index (slice_index payload index)

        short : length was.stored ≤ index
        short = was.short

        long : length more ≡ index + 1
        long =
            let a = length-append (was.stored ++ replicate (index - length was.stored) 0) (slice_index payload index ∷ []) in
            let b = length-append was.stored (replicate (index - length was.stored) 0) in
            let z = length-replicate {A = ℕ} (index - length was.stored) 0 in
            omega (arith, a, b, z, short)

        alive : Apart old.me.0.hand.own
        alive = apart (λ spent. true≢false (sym (ap is_bound spent) ∙ (ap (λ (a : Actor). is_bound a.hand.place) was.view ∙ block.free)))

        apart_there : Apart (block.front ++ filled_with was.stored block.own ∷ [])
        apart_there = subst Apart own_is alive

        own_then : change_own at (λ own. record own { payload = stored own.payload index (slice_index payload index) }) old.me.0.hand.own
            ≡ change_last (filled_with more) first.hand.own
        own_then =
            ap (change_own at (λ own. record own { payload = stored own.payload index (slice_index payload index) })) own_is
            ∙ changed_there block.front (filled_with was.stored block.own) at
            (λ own. record own { payload = stored own.payload index (slice_index payload index) }) apart_there block.begins
            ∙ sym (own_with more)

  -- at the end all are stored, since the last is not 0
  pub filled : (payload : List ℕ) (now : Actor) → IsFilledTo at payload first now (length payload) → slice_index payload (length payload - 1) ≢ 0
      → HasFilled at payload first now
  filled payload now was last = record {
    view = was.view ∙ ap (λ (l : List ℕ). record first { hand = record first.hand { own = change_last (filled_with l) first.hand.own } }) all;
    found = subst (λ (l : List ℕ). StandsFilled at l now) all (was.found (let same = ap length all in omega (arith, same, some_there)));
  }
    where
      some_there : 0 < length payload
      some_there = dite (ℕ_discrete (length payload) 0) (λ none. absurd (last (nothing payload none))) (λ more. omega (arith, more))

      whole : was.stored ++ replicate (length payload - length was.stored) 0 ≡ payload
      whole = was.words ∙ take-length payload

      all : was.stored ≡ payload
      all = dite (ℕ_discrete (length was.stored) (length payload))
          (λ same.
          let none : length payload - length was.stored ≡ 0 = omega (arith, same) in
          sym (append-nil was.stored) ∙ (ap (λ (k : ℕ). was.stored ++ replicate k 0) (sym none) ∙ whole))
          (λ apart.
          let short = was.short in
          let place : length payload - 1 ≡ length was.stored + (length payload - 1 - length was.stored) = omega (arith, short, apart) in
          absurd (last (
          ap (slice_index payload) place
          ∙ (ap (λ (l : List ℕ). slice_index l (length was.stored + (length payload - 1 - length was.stored))) (sym whole)
          ∙ (get_or-append-add was.stored (replicate (length payload - length was.stored) 0) (length payload - 1 - length was.stored) 0
          ∙ zeros (length payload - length was.stored) (length payload - 1 - length was.stored))))))

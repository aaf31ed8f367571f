-- An event of a publish leaves less of it.
use Rattle.std.proofs.Common.{◌≡◌, ◌≢◌, ℕ, zero, suc, ◌+◌, ◌-◌, ◌<◌, ◌≤◌, ◌==◌, Bool, true, false, List, [], ◌∷◌, length, set, ⊎_elim, refl, sym, ap, subst, ◌∙◌, arith, length-set, eq-eqb}
use Rattle.std.specs.Prelude.{Some, if◌then◌else◌, slice_index}
use Rattle.std.proofs.lemmas.Bool.{eqb-true}
use Rattle.std.proofs.lemmas.List.{get_or-set_same}
use lib.Seq.{set-get_or}
use Rattle.segment_image.specs.Words.{word_at}
use Rattle.alloc_core.specs.Event.{Access, change, spot, after}
use Rattle.list_core.specs.declared.publish.PubStage.{PubStage}
use Rattle.list_core.specs.declared.publish.PubStage.TheVariants.{StoreOwnNext, LoadTail, Link, MoveTail, Published, Strayed}
use Rattle.list_core.specs.declared.publish.PubStep.{PubStep}
use Rattle.list_core.specs.declared.publish.PubStep.TheVariants as put
use Rattle.list_core.specs.Chain.{is_reference, stops}
use Rattle.list_core.specs.Publish.{Publishing, IsReach, IsWithin, answer, event_at, link, load_tail, move_tail, moved, stage_after, store_own_next}
use Rattle.list_core.specs.Publish as publish
use Rattle.list_core.proofs.EventKinds.{tail_moved}
use Rattle.list_core.proofs.References.{reference_place}
use Rattle.hist_core.specs.Left.{ahead, LeadsAlong, is_less, publish_left, PublishIsOn, room}
use Rattle.hist_core.proofs.Left.Less.{less_first, less_next}
use Rattle.hist_core.proofs.Left.Lists.{ahead_is, ahead_most}
use Rattle.hist_core.proofs.Left.Allocs.{room_beside}

-- ---- numbers

-- in the same part, at the same place, with less to do there
later : (r now a s t : ℕ) → now ≡ r → s < t → is_less (now ∷ 3 ∷ a ∷ s ∷ []) (r ∷ 3 ∷ a ∷ t ∷ []) ≡ true
later r now a s t same below =
    less_next now r (3 ∷ a ∷ s ∷ []) (3 ∷ a ∷ t ∷ []) same
    (less_next 3 3 (a ∷ s ∷ []) (a ∷ t ∷ []) refl (less_next a a (s ∷ []) (t ∷ []) refl (less_first s t [] [] below)))

-- in the same part, further on
further : (r now a b s t : ℕ) → now ≡ r → a < b → is_less (now ∷ 3 ∷ a ∷ s ∷ []) (r ∷ 3 ∷ b ∷ t ∷ []) ≡ true
further r now a b s t same below =
    less_next now r (3 ∷ a ∷ s ∷ []) (3 ∷ b ∷ t ∷ []) same (less_next 3 3 (a ∷ s ∷ []) (b ∷ t ∷ []) refl (less_first a b (s ∷ []) (t ∷ []) below))

-- in the same part, with nothing left there
nothing : (r now a t : ℕ) → now ≡ r → 0 < t → is_less (now ∷ 3 ∷ 0 ∷ 0 ∷ []) (r ∷ 3 ∷ a ∷ t ∷ []) ≡ true
nothing r now zero t same some_left = later r now 0 0 t same some_left
nothing r now (suc a) t same some_left = further r now 0 (suc a) 0 t same (omega arith)

-- ---- an event

-- what it stores is not the free pointer
spot_apart : (n reference : ℕ) (stage : PubStage) → IsWithin n stage → 16 ≤ reference → (event : Access) → event_at reference stage ≡ Some event → 7 ≢ spot event
spot_apart n reference StoreOwnNext within from event next =
    let e : store_own_next reference ≡ event = cc in subst (λ (ev : Access). 7 ≢ spot ev) e (λ same. omega (arith, same, from))
spot_apart n reference LoadTail within from event next =
    let e : load_tail ≡ event = cc in subst (λ (ev : Access). 7 ≢ spot ev) e (λ same. omega (arith, same))
spot_apart n reference (Link tail) within from event next =
    let e : link tail reference ≡ event = cc in
    subst (λ (ev : Access). 7 ≢ spot ev) e
    (λ same. ⊎_elim (λ queue. omega (arith, same, queue)) (λ place. let least = place.0 in omega (arith, same, least)) (reference_place n tail within))
spot_apart n reference (MoveTail old new linked) within from event next =
    let e : move_tail old new ≡ event = cc in subst (λ (ev : Access). 7 ≢ spot ev) e (λ same. omega (arith, same))
spot_apart n reference Published within from event next = absurd (cc next)
spot_apart n reference Strayed within from event next = absurd (cc next)

-- the tail is moved, and the list is the same
tail_list : (words chain : List ℕ) (v : ℕ) → LeadsAlong words chain → LeadsAlong (set words 8 v) chain
tail_list words chain v has = record {
  linked = tail_moved words chain v has.linked (λ i inside. ⊎_elim
      (λ queue. omega (arith, queue))
      (λ place. let least = place.0 in omega (arith, least))
      (reference_place (length words) (slice_index (stops chain) i) (has.references (slice_index (stops chain) i) (i, inside, refl))));
  few = let few = has.few in let long = length-set words 8 v in omega (arith, few, long);
  references = λ at stop. subst (λ (n : ℕ). is_reference n at ≡ true) (sym (length-set words 8 v)) (has.references at stop);
}

module _ (words chain : List ℕ) (has : LeadsAlong words chain) (wide : 16 ≤ length words) (reference : ℕ) (from : 16 ≤ reference) where
  -- it does not end, with less left than before
  abbrev GoesOn : PubStage → Access → Type 0
  GoesOn stage event = answer (stage_after (length words) reference (word_at words (spot event)) stage) ≢ put.Done
      → is_less (room (after event words) ∷ 3 ∷ publish_left (after event words) (stage_after (length words) reference (word_at words (spot event)) stage))
      (room words ∷ 3 ∷ publish_left words stage) ≡ true

  -- the records after the tail
  abbrev d : ℕ
  d = ahead words (word_at words 8)

  own : room (set words (reference + 3) 12) ≡ room words → GoesOn StoreOwnNext (store_own_next reference)
  own same goes =
      let stored : List ℕ = set words (reference + 3) 12 in
      let long : length stored ≡ length words = length-set words (reference + 3) 12 in
      let most = ahead_most (length stored) stored (word_at stored 8) in
      further (room words) (room stored) (ahead stored (word_at stored 8)) (suc (length words)) 2 0 same (omega (arith, most, long))

  loaded : GoesOn LoadTail load_tail
  loaded goes =
      subst (λ (l : List ℕ). is_less (room l ∷ 3 ∷ publish_left l (if is_reference (length words) (word_at words 8) then Link (word_at words 8) else Strayed)) (room words ∷ 3 ∷ d ∷ 2 ∷ []) ≡ true)
      (sym (set-get_or words 8 0)) (by (is_reference (length words) (word_at words 8)))
    where
      by : (b : Bool) → is_less (room words ∷ 3 ∷ publish_left words (if b then Link (word_at words 8) else Strayed)) (room words ∷ 3 ∷ d ∷ 2 ∷ []) ≡ true
      by true = subst (λ (b : Bool). is_less (room words ∷ 3 ∷ d ∷ (if b then 1 else 4) ∷ []) (room words ∷ 3 ∷ d ∷ 2 ∷ []) ≡ true)
          (sym (eq-eqb (word_at words 8) (word_at words 8) refl)) (later (room words) (room words) d 1 2 refl (omega arith))
      by false = nothing (room words) (room words) d 2 refl (omega arith)

  linked : (tail : ℕ) → room (set words (tail + 3) reference) ≡ room words → GoesOn (Link tail) (link tail reference)
  linked tail same goes = by (word_at words (tail + 3) == 12) (is_reference (length words) (word_at words (tail + 3))) (word_at words 8 == tail)
    where
      some_left : (c : Bool) → 0 < (if c then 1 else 4)
      some_left true = omega arith
      some_left false = omega arith

      beaten : (c : Bool) → (if c then 0 else 3) < (if c then 1 else 4)
      beaten true = omega arith
      beaten false = omega arith

      missed : (g c : Bool) → is_less (room words ∷ 3 ∷ (if g then d ∷ (if c then 0 else 3) ∷ [] else 0 ∷ 0 ∷ [])) (room words ∷ 3 ∷ d ∷ (if c then 1 else 4) ∷ []) ≡ true
      missed true c = later (room words) (room words) d (if c then 0 else 3) (if c then 1 else 4) refl (beaten c)
      missed false c = nothing (room words) (room words) d (if c then 1 else 4) refl (some_left c)

      strays : (g c : Bool) → (word_at words 8 == tail) ≡ c
          → is_less (room words ∷ 3 ∷ publish_left words (if g then MoveTail tail (word_at words (tail + 3)) false else Strayed)) (room words ∷ 3 ∷ d ∷ (if c then 1 else 4) ∷ []) ≡ true
      strays true c e = subst (λ (b : Bool). is_less (room words ∷ 3 ∷ d ∷ (if b then 0 else 3) ∷ []) (room words ∷ 3 ∷ d ∷ (if c then 1 else 4) ∷ []) ≡ true) (sym e) (missed true c)
      strays false c e = missed false c

      by : (b g c : Bool)
          → is_less (room (set words (tail + 3) (if b then reference else word_at words (tail + 3)))
          ∷ 3 ∷ publish_left (set words (tail + 3) (if b then reference else word_at words (tail + 3)))
          (if b then MoveTail tail reference true else if g then MoveTail tail (word_at words (tail + 3)) false else Strayed))
          (room words ∷ 3 ∷ d ∷ (if word_at words 8 == tail then 1 else 4) ∷ []) ≡ true
      by true g c = nothing (room words) (room (set words (tail + 3) reference)) d (if word_at words 8 == tail then 1 else 4) same (some_left (word_at words 8 == tail))
      by false g c =
          subst (λ (l : List ℕ). is_less (room l ∷ 3 ∷ publish_left l (if g then MoveTail tail (word_at words (tail + 3)) false else Strayed))
          (room words ∷ 3 ∷ d ∷ (if word_at words 8 == tail then 1 else 4) ∷ []) ≡ true) (sym (set-get_or words (tail + 3) 0)) (strays g (word_at words 8 == tail) refl)

  module _ (old new : ℕ) (on : PublishIsOn chain (MoveTail old new false)) where
    tail_on : word_at words 8 ≡ old → ahead (set words 8 new) (word_at (set words 8 new) 8) < d
    tail_on here =
        let (k, inside, stands, follows) = on in
        let now : word_at (set words 8 new) 8 ≡ new = get_or-set_same words 8 new 0 (omega (arith, wide)) in
        let was : d ≡ length chain - k = ap (ahead words) here ∙ ahead_is words chain has k old (omega (arith, inside)) stands in
        let goes : ahead (set words 8 new) (word_at (set words 8 new) 8) ≡ length chain - suc k =
        ap (ahead (set words 8 new)) now ∙ ahead_is (set words 8 new) chain (tail_list words chain new has) (suc k) new (omega (arith, inside)) follows in
        omega (arith, was, goes, inside)

    moves : room (set words 8 new) ≡ room words → GoesOn (MoveTail old new false) (move_tail old new)
    moves same goes = by (word_at words 8 == old) refl
      where
        by : (b : Bool) → (word_at words 8 == old) ≡ b
            → is_less (room (set words 8 (if b then new else word_at words 8)) ∷ 3 ∷ publish_left (set words 8 (if b then new else word_at words 8)) LoadTail)
            (room words ∷ 3 ∷ d ∷ (if b then 0 else 3) ∷ []) ≡ true
        by true e = further (room words) (room (set words 8 new)) (ahead (set words 8 new) (word_at (set words 8 new) 8)) d 2 0 same (tail_on (eqb-true (word_at words 8) old e))
        by false e = subst (λ (l : List ℕ). is_less (room l ∷ 3 ∷ publish_left l LoadTail) (room words ∷ 3 ∷ d ∷ 3 ∷ []) ≡ true)
            (sym (set-get_or words 8 0)) (later (room words) (room words) d 2 3 refl (omega arith))

  goes_on : (stage : PubStage) → PublishIsOn chain stage → IsWithin (length words) stage → (event : Access) → event_at reference stage ≡ Some event → GoesOn stage event
  goes_on StoreOwnNext on within event next =
      let e : store_own_next reference ≡ event = cc in
      subst (GoesOn StoreOwnNext) e (own (room_beside words (reference + 3) 12 (λ same. omega (arith, same, from))))
  goes_on LoadTail on within event next = let e : load_tail ≡ event = cc in subst (GoesOn LoadTail) e loaded
  goes_on (Link tail) on within event next =
      let e : link tail reference ≡ event = cc in
      subst (GoesOn (Link tail)) e
      (linked tail (room_beside words (tail + 3) reference (spot_apart (length words) reference (Link tail) within from (link tail reference) refl)))
  goes_on (MoveTail old new true) on within event next = λ goes. absurd (goes refl)
  goes_on (MoveTail old new false) on within event next =
      let e : move_tail old new ≡ event = cc in
      subst (GoesOn (MoveTail old new false)) e (moves old new on (room_beside words 8 new (λ same. omega (arith, same))))
  goes_on Published on within event next = absurd (cc next)
  goes_on Strayed on within event next = absurd (cc next)

module _ (words : List ℕ) (x y : Publishing) (new_words : List ℕ) (says : PubStep) (reach : IsReach (length words) x) (step : publish.IsStep x words y new_words says) where
  -- the room stays
  pub room_same : room new_words ≡ room words
  room_same = ap room step.words_are ∙ room_beside words (spot step.event) (change step.event (word_at words (spot step.event)))
      (spot_apart (length words) x.reference x.stage reach.within reach.from step.event step.next)

  -- a step after which it has not ended
  pub less_on : (chain : List ℕ) → LeadsAlong words chain → PublishIsOn chain x.stage → says ≢ put.Done
      → is_less (room new_words ∷ 3 ∷ publish_left new_words y.stage) (room words ∷ 3 ∷ publish_left words x.stage) ≡ true
  less_on chain has on goes =
      subst (λ (p : List ℕ × Publishing). is_less (room p.0 ∷ 3 ∷ publish_left p.0 p.1.stage) (room words ∷ 3 ∷ publish_left words x.stage) ≡ true)
      (λ i. (sym step.words_are i, sym step.new_is i))
      (goes_on words chain has reach.headed x.reference reach.from x.stage on reach.within step.event step.next
      (λ done. goes (step.answers ∙ (ap (λ (z : Publishing). answer z.stage) step.new_is ∙ done))))

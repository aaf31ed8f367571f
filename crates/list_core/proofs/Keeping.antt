-- Each event of a publish keeps its list.
use Rattle.std.proofs.Common.{◌≡◌, ◌≢◌, ◌⊎◌, ℕ, ◌+◌, ◌<◌, ◌≤◌, eq-eqb, ne_eqb, Bool, true, false, List, [], ◌∷◌, ◌++◌, length, set, length-set, inl, inr, ⊎_elim, sym, refl, ap, ◌∙◌, subst, arith}
use Rattle.std.specs.Prelude.{Some, slice_index, if◌then◌else◌}
use Rattle.std.proofs.lemmas.List.{get_or-set_same, get_or-set_other}
use mathlib.Core.Logic.{dite}
use native.Mathlib.Decide.{ℕ_discrete}
use lib.Seq.{set-get_or}
use Rattle.segment_image.specs.Words.{word_at}
use Rattle.segment_image.specs.Image.{blank_words}
use Rattle.alloc_core.specs.Event.{Access, spot, after}
use Rattle.list_core.specs.declared.publish.PubStage.{PubStage}
use Rattle.list_core.specs.declared.publish.PubStage.TheVariants.{StoreOwnNext, LoadTail, Link, MoveTail, Published, Strayed}
use Rattle.list_core.specs.Chain.{is_reference, stops, IsStop, AreNeighbours, IsLinked, IsList}
use Rattle.list_core.specs.Publish.{Publishing, store_own_next, load_tail, link, move_tail, event_at, stage_of_move, stage_after, chain_at, PublishStands, StandsOn, TailGoesOn}
use Rattle.list_core.proofs.References.{reference_place, place_reference}
use Rattle.list_core.proofs.Chains.{stop_stays, neighbours_stay, old_or_new}
use Rattle.list_core.proofs.EventKinds.{own_next_stored, tail_loaded, link_through, link_missed, behind_stop, tail_moved}

-- a new segment has a list without records
pub blank_list : (size page id : ℕ) → IsList (blank_words size page id) []
blank_list size page id =
    let first : (i : ℕ) → i ≤ 0 → i ≡ 0 = λ i le. omega arith in
    record {
      linked = record {
        linked = λ i le. subst (λ (k : ℕ). word_at (blank_words size page id) (slice_index (stops []) k + 3) ≡ slice_index (12 ∷ []) k) (sym (first i le)) refl;
        distinct = λ i j lt le. absurd (omega arith);
      };
      references = λ at (k, le, is). subst (λ (n : ℕ). is_reference (length (blank_words size page id)) n ≡ true)
          (ap (slice_index (stops [])) (sym (first k le)) ∙ is) refl;
      tail = (0, omega arith, refl);
    }

-- a publish keeps its place if stops and neighbours stay, and its record, while it is off the chain, stays off it with its next
stands_along : (words words' chain chain' : List ℕ) (reference : ℕ) → ((at : ℕ) → IsStop chain at → IsStop chain' at)
    → ((at next : ℕ) → AreNeighbours chain at next → AreNeighbours chain' at next)
    → ((IsStop chain reference → ⊥) → IsStop chain' reference → ⊥)
    → ((IsStop chain reference → ⊥) → word_at words' (reference + 3) ≡ word_at words (reference + 3))
    → (stage : PubStage) → PublishStands words chain reference stage → PublishStands words' chain' reference stage
stands_along words words' chain chain' reference stop near off same StoreOwnNext other = off other
stands_along words words' chain chain' reference stop near off same LoadTail (other, ends) = (off other, same other ∙ ends)
stands_along words words' chain chain' reference stop near off same (Link tail) ((other, ends), on) = ((off other, same other ∙ ends), stop tail on)
stands_along words words' chain chain' reference stop near off same (MoveTail old new true) (beside, is) = (near old new beside, is)
stands_along words words' chain chain' reference stop near off same (MoveTail old new false) (beside, (other, ends)) =
    (near old new beside, (off other, same other ∙ ends))
stands_along words words' chain chain' reference stop near off same Published on = stop reference on
stands_along words words' chain chain' reference stop near off same Strayed none = none

module _ (words chain : List ℕ) (p : Publishing) (on : StandsOn words chain p) (from : 16 ≤ p.reference) (ends : p.reference + 5 ≤ length words) where
  -- what is kept by an event that leads to these words, this chain and this stage: the list, where this publish is and where any
  -- other is, and the tail does not go back
  pub record Kept (words' chain' : List ℕ) (stage : PubStage) : Type 0 where
    pub list : IsList words' chain'
    pub stands : PublishStands words' chain' p.reference stage
    pub others : (other : ℕ) (at : PubStage) → 16 ≤ other → other ≢ p.reference → PublishStands words chain other at → PublishStands words' chain' other at
    pub tail : TailGoesOn chain words words'

  -- a stop is at 12 or after it, and its next within the words
  stop_within : (at : ℕ) → IsStop chain at → (12 ≤ at) × (at + 3 < length words)
  stop_within at stop = ⊎_elim
      (λ (queue : at ≡ 12). (omega (arith, queue), omega (arith, queue, from, ends)))
      (λ (block : (16 ≤ at) × (at + 5 ≤ length words)). (omega (arith, block.0), omega (arith, block.1)))
      (reference_place (length words) at (on.list.references at stop))

  -- if no word changes and the chain stays
  stays : (words' : List ℕ) (stage : PubStage) → words' ≡ words → PublishStands words chain p.reference stage → Kept words' chain stage
  stays words' stage same stands =
      subst (λ (ws : List ℕ). Kept ws chain stage) (sym same)
      record { list = on.list; stands = stands; others = λ other at low ne is. is; tail = inl refl }

  -- a store into a word that is no next of the chain
  beside : (place v : ℕ) (stage : PubStage) → IsLinked (set words place v) chain → IsStop chain (word_at (set words place v) 8)
      → PublishStands (set words place v) chain p.reference stage → ((other : ℕ) → 16 ≤ other → other ≢ p.reference → other + 3 ≢ place)
      → TailGoesOn chain words (set words place v) → Kept (set words place v) chain stage
  beside place v stage linked tail stands apart goes = record {
    list = record {
      linked = linked;
      references = λ at stop. subst (λ (n : ℕ). is_reference n at ≡ true) (sym (length-set words place v)) (on.list.references at stop);
      tail = tail;
    };
    stands = stands;
    others = λ other at low ne. stands_along words (set words place v) chain chain other (λ _ stop. stop) (λ _ _ near. near) (λ off. off)
        (λ _. get_or-set_other words place (other + 3) v 0 (apart other low ne)) at;
    tail = goes;
  }

  at_stage : (stage : PubStage) → p.stage ≡ stage → PublishStands words chain p.reference stage
  at_stage stage e = subst (PublishStands words chain p.reference) e on.stands

  stores_own : p.stage ≡ StoreOwnNext → Kept (after (store_own_next p.reference) words) chain LoadTail
  stores_own e =
      let (linked, waits) = own_next_stored words chain p.reference on.list.linked (at_stage StoreOwnNext e) (omega (arith, ends)) in
      let same = get_or-set_other words (p.reference + 3) 8 12 0 (λ (e : 8 ≡ p.reference + 3). omega (arith, from)) in
      beside (p.reference + 3) 12 LoadTail linked (subst (IsStop chain) (sym same) on.list.tail) waits
      (λ other low ne e. ne (omega (arith, e))) (inl same)

  loads_tail : p.stage ≡ LoadTail → Kept (after load_tail words) chain (stage_after (length words) p.reference (word_at words 8) LoadTail)
  loads_tail e =
      let tail : ℕ = word_at words 8 in
      subst (λ (good : Bool). Kept (after load_tail words) chain (if good then Link tail else Strayed))
      (sym (on.list.references tail on.list.tail))
      (stays (after load_tail words) (Link tail) (tail_loaded words) (at_stage LoadTail e, on.list.tail))

  -- a link that went through
  links_through : (tail : ℕ) → p.stage ≡ Link tail → word_at words (tail + 3) ≡ 12
      → Kept (set words (tail + 3) p.reference) (chain ++ p.reference ∷ []) (MoveTail tail p.reference true)
  links_through tail e ended =
      let (waits, stop) = at_stage (Link tail) e in
      let (low, within) = stop_within tail stop in
      let (linked, near) = link_through words chain tail p.reference on.list.linked waits stop ended within in
      let chain' : List ℕ = chain ++ p.reference ∷ [] in
      let words' : List ℕ = set words (tail + 3) p.reference in
      let same = get_or-set_other words (tail + 3) 8 p.reference 0 (λ (e : 8 ≡ tail + 3). omega (arith, low)) in
      record {
        list = record {
          linked = linked;
          references = λ at at_stop. subst (λ (n : ℕ). is_reference n at ≡ true) (sym (length-set words (tail + 3) p.reference))
              (⊎_elim (on.list.references at)
              (λ (new : at ≡ p.reference). subst (λ (r : ℕ). is_reference (length words) r ≡ true) (sym new)
              (place_reference (length words) p.reference from ends))
              (old_or_new chain p.reference at at_stop));
          tail = subst (IsStop chain') (sym same) (stop_stays chain p.reference (word_at words 8) on.list.tail);
        };
        stands = (near, refl);
        others = λ other at _ ne. stands_along words words' chain chain' other (stop_stays chain p.reference) (neighbours_stay chain p.reference)
            (λ off now. ⊎_elim off ne (old_or_new chain p.reference other now))
            (λ off. get_or-set_other words (tail + 3) (other + 3) p.reference 0
            (λ same. let one : tail ≡ other = omega (arith, same) in off (subst (IsStop chain) one stop)))
            at;
        tail = inl same;
      }

  links_to : (tail : ℕ) → p.stage ≡ Link tail
      → Kept (after (link tail p.reference) words) (chain_at words chain p.reference (Link tail))
      (stage_after (length words) p.reference (word_at words (tail + 3)) (Link tail))
  links_to tail e =
      let found : ℕ = word_at words (tail + 3) in
      let linked : Bool → Type 0 = λ b. Kept (set words (tail + 3) (if b then p.reference else found)) (if b then chain ++ p.reference ∷ [] else chain)
      (if b then MoveTail tail p.reference true else if is_reference (length words) found then MoveTail tail found false else Strayed) in
      dite (ℕ_discrete found 12)
      (λ hit. subst linked (sym (eq-eqb found 12 hit)) (links_through tail e hit))
      (λ miss.
      let (waits, stop) = at_stage (Link tail) e in
      let near = link_missed words chain tail on.list.linked stop miss in
      subst linked (sym (ne_eqb found 12 miss))
      (subst (λ (good : Bool). Kept (set words (tail + 3) found) chain (if good then MoveTail tail found false else Strayed))
      (sym (on.list.references found (behind_stop chain tail found near)))
      (stays (set words (tail + 3) found) (MoveTail tail found false) (set-get_or words (tail + 3) 0) (near, waits))))

  -- another tail, which is a stop
  other_tail : (v : ℕ) (stage : PubStage) → IsStop chain v → PublishStands words chain p.reference stage
      → ((v ≡ word_at words 8) ⊎ AreNeighbours chain (word_at words 8) v) → Kept (set words 8 v) chain stage
  other_tail v stage stop stands goes =
      let now : word_at (set words 8 v) 8 ≡ v = get_or-set_same words 8 v 0 (omega (arith, from, ends)) in
      beside 8 v stage (tail_moved words chain v on.list.linked (λ i le. (stop_within _ (i, le, refl)).0))
      (subst (IsStop chain) (sym now) stop)
      (stands_along words (set words 8 v) chain chain p.reference (λ _ stop. stop) (λ _ _ near. near) (λ off. off)
      (λ _. get_or-set_other words 8 (p.reference + 3) v 0 (λ same. omega (arith, from, same))) stage stands)
      (λ other low ne same. omega (arith, low, same))
      (⊎_elim (λ (same : v ≡ word_at words 8). inl (now ∙ same))
      (λ (near : AreNeighbours chain (word_at words 8) v). inr (subst (AreNeighbours chain (word_at words 8)) (sym now) near)) goes)

  -- the tail moves on to the next stop, or stays
  moved_by : (old new : ℕ) (stage : PubStage) → AreNeighbours chain old new → PublishStands words chain p.reference stage
      → Kept (after (move_tail old new) words) chain stage
  moved_by old new stage near stands =
      let found : ℕ = word_at words 8 in
      let moved : Bool → Type 0 = λ b. Kept (set words 8 (if b then new else found)) chain stage in
      dite (ℕ_discrete found old)
      (λ hit. subst moved (sym (eq-eqb found old hit))
      (other_tail new stage (behind_stop chain old new near) stands (inr (subst (λ (n : ℕ). AreNeighbours chain n new) (sym hit) near))))
      (λ miss. subst moved (sym (ne_eqb found old miss)) (other_tail found stage on.list.tail stands (inl refl)))

  moves_tail : (old new : ℕ) (now : Bool) → PublishStands words chain p.reference (MoveTail old new now)
      → Kept (after (move_tail old new) words) chain (stage_of_move now)
  moves_tail old new true (near, same) = moved_by old new Published near (subst (IsStop chain) same (behind_stop chain old new near))
  moves_tail old new false (near, waits) = moved_by old new LoadTail near waits

  by : (stage : PubStage) (event other : Access) → event ≡ other
      → Kept (after event words) (chain_at words chain p.reference stage) (stage_after (length words) p.reference (word_at words (spot event)) stage)
      → Kept (after other words) (chain_at words chain p.reference stage) (stage_after (length words) p.reference (word_at words (spot other)) stage)
  by stage event other same = subst (λ (v : Access). Kept (after v words) (chain_at words chain p.reference stage)
      (stage_after (length words) p.reference (word_at words (spot v)) stage)) same

  -- whatever the next event is
  pub event_keeps : (stage : PubStage) (event : Access) → p.stage ≡ stage → event_at p.reference stage ≡ Some event
      → Kept (after event words) (chain_at words chain p.reference stage) (stage_after (length words) p.reference (word_at words (spot event)) stage)
  event_keeps StoreOwnNext event e next = by StoreOwnNext (store_own_next p.reference) event (cc next) (stores_own e)
  event_keeps LoadTail event e next = by LoadTail load_tail event (cc next) (loads_tail e)
  event_keeps (Link tail) event e next = by (Link tail) (link tail p.reference) event (cc next) (links_to tail e)
  event_keeps (MoveTail old new now) event e next =
      by (MoveTail old new now) (move_tail old new) event (cc next) (moves_tail old new now (at_stage (MoveTail old new now) e))
  event_keeps Published event e next = absurd (cc next)
  event_keeps Strayed event e next = absurd (cc next)

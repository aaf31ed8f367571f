-- What each kind of event of a publish or a walk does to the chain, over the words alone. A machine with more kinds of
-- events cites these.
use Rattle.std.proofs.Common.{◌≡◌, ◌≢◌, ℕ, suc, ◌+◌, ◌<◌, ◌≤◌, Bool, true, List, [], ◌∷◌, ◌++◌, length, set, inl, inr, eq-eqb, ne_eqb, sym, ap, ◌∙◌, subst, arith}
use Rattle.std.specs.Prelude.{slice_index, if◌then◌else◌}
use Rattle.std.proofs.lemmas.List.{get_or_push, get_or-set_same}
use mathlib.Core.Logic.{dite}
use native.Mathlib.Decide.{ℕ_discrete}
use lib.Seq.{set-get_or}
use Rattle.segment_image.specs.Words.{word_at}
use Rattle.alloc_core.specs.Event.{after}
use Rattle.list_core.specs.declared.walk.WalkStep.TheVariants.{Record, End, Stray}
use Rattle.list_core.specs.Chain.{is_reference, stops, IsStop, AreNeighbours, IsLinked}
use Rattle.list_core.specs.Publish.{store_own_next, load_tail, AwaitsLink}
use Rattle.list_core.specs.Walk.{said_of, GivesNext}
use Rattle.list_core.proofs.Chains.{no_queue, next_inside, next_last, last_stop, new_neighbours, linked_beside, links}

-- the own next of a record that is off the chain is stored: the chain stays, and the record waits for its link
pub own_next_stored : (words chain : List ℕ) (reference : ℕ) → IsLinked words chain → (IsStop chain reference → ⊥) → reference + 3 < length words
    → IsLinked (after (store_own_next reference) words) chain × AwaitsLink (after (store_own_next reference) words) chain reference
own_next_stored words chain reference linked other within = (
  linked_beside words chain (reference + 3) 12 linked (λ i le same. other (i, le, omega (arith, same))),
  (other, get_or-set_same words (reference + 3) 12 0 within),
)

-- the tail is loaded: no word changes
pub tail_loaded : (words : List ℕ) → after load_tail words ≡ words
tail_loaded words = set-get_or words 8 0

-- a link that finds the end goes through: the record comes after the tail, which was last
pub link_through : (words chain : List ℕ) (tail reference : ℕ) → IsLinked words chain → AwaitsLink words chain reference → IsStop chain tail
    → word_at words (tail + 3) ≡ 12 → tail + 3 < length words
    → IsLinked (set words (tail + 3) reference) (chain ++ reference ∷ []) × AreNeighbours (chain ++ reference ∷ []) tail reference
link_through words chain tail reference linked (other, own_end) (k, le, is) ends within =
    let last : k ≡ length chain = last_stop words chain k linked le (ap (λ (n : ℕ). word_at words (n + 3)) is ∙ ends) in
    let tail_is : slice_index (stops chain) (length chain) ≡ tail = ap (slice_index (stops chain)) (sym last) ∙ is in (
      subst (λ (n : ℕ). IsLinked (set words (n + 3) reference) (chain ++ reference ∷ [])) tail_is
          (links words chain reference linked other own_end (subst (λ (n : ℕ). n + 3 < length words) (sym tail_is) within)),
      new_neighbours chain reference tail tail_is,
    )

-- a link that finds another record changes no word, and that record is the one after the tail
pub link_missed : (words chain : List ℕ) (tail : ℕ) → IsLinked words chain → IsStop chain tail → word_at words (tail + 3) ≢ 12
    → AreNeighbours chain tail (word_at words (tail + 3))
link_missed words chain tail linked (k, le, is) ne = dite (ℕ_discrete k (length chain))
    (λ last. absurd (ne (ap (λ (n : ℕ). word_at words (n + 3)) (sym is) ∙ (linked.linked k le ∙ get_or_push chain 12 0 k (sym last)))))
    (λ inside. (
      k,
      omega (arith, inside, le),
      is,
      sym (next_inside words chain k linked (omega (arith, inside, le)))
          ∙ ap (λ (n : ℕ). word_at words (n + 3)) is,
    ))

-- what comes after a stop is one
pub behind_stop : (chain : List ℕ) (at next : ℕ) → AreNeighbours chain at next → IsStop chain next
behind_stop chain at next (k, lt, is, next_is) = (suc k, omega (arith, lt), next_is)

-- the tail is moved to the record after it, or stays: the chain stays, if no stop lies among the first words
pub tail_moved : (words chain : List ℕ) (v : ℕ) → IsLinked words chain → ((i : ℕ) → i ≤ length chain → 12 ≤ slice_index (stops chain) i)
    → IsLinked (set words 8 v) chain
tail_moved words chain v linked high =
    linked_beside words chain 8 v linked (λ i le same. let least = high i le in omega (arith, least, same))

said_end : (n next : ℕ) → next ≡ 12 → said_of n next ≡ End
said_end n next e = ap (λ (b : Bool). if b then End else if is_reference n next then Record next else Stray) (eq-eqb next 12 e)

said_record : (n next : ℕ) → next ≢ 12 → is_reference n next ≡ true → said_of n next ≡ Record next
said_record n next ne good =
    ap (λ (b : Bool). if b then End else if is_reference n next then Record next else Stray) (ne_eqb next 12 ne)
    ∙ ap (λ (b : Bool). if b then Record next else Stray) good

-- a next is loaded at a place of the chain, whose records are references that a list can have
pub next_loaded : (words chain : List ℕ) (k at : ℕ) → IsLinked words chain → k ≤ length chain → slice_index (stops chain) k ≡ at
    → (k < length chain → is_reference (length words) (slice_index chain k) ≡ true)
    → GivesNext chain k (said_of (length words) (word_at words (at + 3)))
next_loaded words chain k at linked le is good = dite (ℕ_discrete k (length chain))
    (λ last. inr (
      last,
      said_end (length words) (word_at words (at + 3))
          (ap (λ (n : ℕ). word_at words (n + 3)) (sym is ∙ ap (slice_index (stops chain)) last) ∙ next_last words chain linked),
    ))
    (λ ne. let inside : k < length chain = omega arith in
    let next : word_at words (at + 3) ≡ slice_index chain k = ap (λ (n : ℕ). word_at words (n + 3)) (sym is) ∙ next_inside words chain k linked inside in
    inl (
      inside,
      ap (said_of (length words)) next
          ∙ said_record (length words) (slice_index chain k) (no_queue words chain k linked inside) (good inside),
    ))

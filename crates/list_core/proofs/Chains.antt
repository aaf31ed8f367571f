-- The chain after a store of another word, and with one record more.
use Rattle.std.proofs.Common.{◌≡◌, ◌≢◌, ◌⊎◌, ℕ, zero, suc, ◌+◌, ◌<◌, ◌≤◌, true, List, [], ◌∷◌, ◌++◌, length, set, inl, inr, sym, refl, ap, ◌∙◌, subst, arith, length-append}
use Rattle.std.specs.Prelude.{slice_index}
use Rattle.std.proofs.lemmas.List.{get_or_append_left, get_or_push, get_or-set_same, get_or-set_other}
use Rattle.std.proofs.lemmas.Bool.{cases_order}
use mathlib.Core.Logic.{dite}
use native.Mathlib.Decide.{ℕ_discrete}
use Rattle.segment_image.specs.Words.{word_at}
use Rattle.segment_image.specs.Blocks.{is_block}
use Rattle.segment_image.specs.declared.head.SegmentHead.{SegmentHead}
use Rattle.bucket_ranges.specs.Reading.{IsWalk}
use Rattle.list_core.specs.Chain.{stops, IsStop, AreNeighbours, IsLinked, IsChain}
use Rattle.bucket_ranges.proofs.Walks.{is_block-within}

-- the stops of a chain are distinct, and no record is the queue block
distinct_stops : (words chain : List ℕ) (head : SegmentHead) → IsWalk words head chain → (i j : ℕ) → i < j → j ≤ length chain
    → slice_index (stops chain) i ≢ slice_index (stops chain) j
distinct_stops words chain head walk i zero lt within = absurd (omega arith)
distinct_stops words chain head walk zero (suc j) lt within = λ same.
    let from = (is_block-within words head (slice_index chain j) (walk.lawful j (omega arith))).0 in omega (arith, from, same)
distinct_stops words chain head walk (suc i) (suc j) lt within = walk.distinct i j (omega arith) (omega arith)

-- so a chain is linked
pub linked_of : (words chain : List ℕ) (head : SegmentHead) → IsChain words head chain → IsLinked words chain
linked_of words chain head is = record {
  linked = λ i le. dite (ℕ_discrete i (length chain))
      (λ last. ap (λ (k : ℕ). word_at words (slice_index (stops chain) k + 3)) last ∙ (is.ended ∙ sym (get_or_push chain 12 0 i (sym last))))
      (λ ne. let inside : i < length chain = omega arith in is.walk.linked i inside ∙ sym (get_or_append_left chain (12 ∷ []) 0 i inside));
  distinct = distinct_stops words chain head is.walk;
}

-- two places of one stop are one
pub one_place : (words chain : List ℕ) (i j : ℕ) → IsLinked words chain → i ≤ length chain → j ≤ length chain
    → slice_index (stops chain) i ≡ slice_index (stops chain) j → i ≡ j
one_place words chain i j linked le le' same = elim (cases_order i j) [
  | inl here ↦ here
  | inr apart ↦ elim apart [
    | inl before ↦ absurd (linked.distinct i j before le' same)
    | inr behind ↦ absurd (linked.distinct j i behind le (sym same))
  ]
]

-- a record of the chain is not the queue block
pub no_queue : (words chain : List ℕ) (k : ℕ) → IsLinked words chain → k < length chain → slice_index chain k ≢ 12
no_queue words chain k linked lt e = linked.distinct 0 (suc k) (omega arith) (omega arith) (sym e)

-- the next of a stop before the end is the record after it
pub next_inside : (words chain : List ℕ) (k : ℕ) → IsLinked words chain → k < length chain
    → word_at words (slice_index (stops chain) k + 3) ≡ slice_index chain k
next_inside words chain k linked lt = linked.linked k (omega arith) ∙ get_or_append_left chain (12 ∷ []) 0 k lt

-- the next of the last stop is the end
pub next_last : (words chain : List ℕ) → IsLinked words chain → word_at words (slice_index (stops chain) (length chain) + 3) ≡ 12
next_last words chain linked = linked.linked (length chain) (omega arith) ∙ get_or_push chain 12 0 (length chain) refl

-- a stop whose next is the end is the last one
pub last_stop : (words chain : List ℕ) (k : ℕ) → IsLinked words chain → k ≤ length chain
    → word_at words (slice_index (stops chain) k + 3) ≡ 12 → k ≡ length chain
last_stop words chain k linked le e = dite (ℕ_discrete k (length chain))
    (λ same. same)
    (λ ne. absurd (no_queue words chain k linked (omega arith) (sym (next_inside words chain k linked (omega arith)) ∙ e)))

-- linked valid blocks are a chain
pub chain_of : (words chain : List ℕ) (head : SegmentHead) → IsLinked words chain
    → ((k : ℕ) → k < length chain → is_block words head (slice_index chain k) ≡ true) → IsChain words head chain
chain_of words chain head linked lawful = record {
  walk = record {
    linked = λ i lt. next_inside words chain i linked lt;
    lawful = lawful;
    distinct = λ i j before within. linked.distinct (suc i) (suc j) (omega (arith, before)) (omega (arith, within));
  };
  ended = next_last words chain linked;
}

-- the stops of a longer chain
pub stops_left : (chain : List ℕ) (reference i : ℕ) → i ≤ length chain → slice_index (stops (chain ++ reference ∷ [])) i ≡ slice_index (stops chain) i
stops_left chain reference zero le = refl
stops_left chain reference (suc i) le = get_or_append_left chain (reference ∷ []) 0 i (omega arith)

pub stops_last : (chain : List ℕ) (reference : ℕ) → slice_index (stops (chain ++ reference ∷ [])) (suc (length chain)) ≡ reference
stops_last chain reference = get_or_push chain reference 0 (length chain) refl

pub length-longer : (chain : List ℕ) (reference : ℕ) → length (chain ++ reference ∷ []) ≡ suc (length chain)
length-longer chain reference = let e = length-append chain (reference ∷ []) in omega arith

-- what was a stop stays one, and neighbours stay neighbours
pub stop_stays : (chain : List ℕ) (reference at : ℕ) → IsStop chain at → IsStop (chain ++ reference ∷ []) at
stop_stays chain reference at (k, le, is) =
    (k, omega (arith, length-longer chain reference), stops_left chain reference k le ∙ is)

pub neighbours_stay : (chain : List ℕ) (reference at next : ℕ) → AreNeighbours chain at next → AreNeighbours (chain ++ reference ∷ []) at next
neighbours_stay chain reference at next (k, lt, is, then) = (
  k,
  omega (arith, length-longer chain reference),
  stops_left chain reference k (omega arith) ∙ is,
  get_or_append_left chain (reference ∷ []) 0 k lt ∙ then,
)

-- the new record comes after the stop that was last
pub new_neighbours : (chain : List ℕ) (reference at : ℕ) → slice_index (stops chain) (length chain) ≡ at
    → AreNeighbours (chain ++ reference ∷ []) at reference
new_neighbours chain reference at is = (
  length chain,
  omega (arith, length-longer chain reference),
  stops_left chain reference (length chain) (omega arith) ∙ is,
  get_or_push chain reference 0 (length chain) refl,
)

-- a stop of the longer chain is an old one or the new record
pub old_or_new : (chain : List ℕ) (reference at : ℕ) → IsStop (chain ++ reference ∷ []) at → IsStop chain at ⊎ (at ≡ reference)
old_or_new chain reference at (k, le, is) = dite (ℕ_discrete k (suc (length chain)))
    (λ last. inr (sym is ∙ (ap (slice_index (stops (chain ++ reference ∷ []))) last ∙ stops_last chain reference)))
    (λ ne. let inside : k ≤ length chain = omega (arith, length-longer chain reference) in
    inl (k, inside, sym (stops_left chain reference k inside) ∙ is))

-- a store into a word that is the next of no stop
pub linked_beside : (words chain : List ℕ) (at v : ℕ) → IsLinked words chain
    → ((i : ℕ) → i ≤ length chain → slice_index (stops chain) i + 3 ≢ at) → IsLinked (set words at v) chain
linked_beside words chain at v linked beside = record {
  linked = λ i le. get_or-set_other words at (slice_index (stops chain) i + 3) v 0 (beside i le) ∙ linked.linked i le;
  distinct = linked.distinct;
}

-- the link of a record that is no stop, whose next is the end, after the last stop
module _ (words chain : List ℕ) (reference : ℕ) (linked : IsLinked words chain) (other : IsStop chain reference → ⊥)
    (ends : word_at words (reference + 3) ≡ 12) (within : slice_index (stops chain) (length chain) + 3 < length words) where
  abbrev tail : ℕ
  tail = slice_index (stops chain) (length chain)

  abbrev words' : List ℕ
  words' = set words (tail + 3) reference

  abbrev chain' : List ℕ
  chain' = chain ++ reference ∷ []

  at_left : (i : ℕ) → i < length chain → word_at words' (slice_index (stops chain') i + 3) ≡ slice_index (chain' ++ 12 ∷ []) i
  at_left i lt =
      let same = stops_left chain reference i (omega arith) in
      let ne : slice_index (stops chain) i + 3 ≢ tail + 3 = λ e. linked.distinct i (length chain) lt (omega arith) (omega arith) in
      ap (λ (n : ℕ). word_at words' (n + 3)) same
      ∙ (get_or-set_other words (tail + 3) (slice_index (stops chain) i + 3) reference 0 ne
      ∙ (next_inside words chain i linked lt
      ∙ (sym (get_or_append_left chain (reference ∷ []) 0 i lt)
      ∙ sym (get_or_append_left chain' (12 ∷ []) 0 i (omega (arith, length-longer chain reference))))))

  at_tail : word_at words' (slice_index (stops chain') (length chain) + 3) ≡ slice_index (chain' ++ 12 ∷ []) (length chain)
  at_tail =
      ap (λ (n : ℕ). word_at words' (n + 3)) (stops_left chain reference (length chain) (omega arith))
      ∙ (get_or-set_same words (tail + 3) reference 0 within
      ∙ (sym (get_or_push chain reference 0 (length chain) refl)
      ∙ sym (get_or_append_left chain' (12 ∷ []) 0 (length chain) (omega (arith, length-longer chain reference)))))

  at_end : word_at words' (slice_index (stops chain') (suc (length chain)) + 3) ≡ slice_index (chain' ++ 12 ∷ []) (suc (length chain))
  at_end =
      let ne : reference + 3 ≢ tail + 3 = λ e. other (length chain, omega arith, omega arith) in
      ap (λ (n : ℕ). word_at words' (n + 3)) (stops_last chain reference)
      ∙ (get_or-set_other words (tail + 3) (reference + 3) reference 0 ne
      ∙ (ends ∙ sym (get_or_push chain' 12 0 (suc (length chain)) (length-longer chain reference))))

  at_any : (i : ℕ) → i ≤ suc (length chain) → word_at words' (slice_index (stops chain') i + 3) ≡ slice_index (chain' ++ 12 ∷ []) i
  at_any i le = elim (cases_order i (length chain)) [
    | inl same ↦ subst (λ (k : ℕ). word_at words' (slice_index (stops chain') k + 3) ≡ slice_index (chain' ++ 12 ∷ []) k) (sym same) at_tail
    | inr apart ↦ elim apart [
      | inl before ↦ at_left i before
      | inr behind ↦
          let last : suc (length chain) ≡ i = omega arith in
          subst (λ (k : ℕ). word_at words' (slice_index (stops chain') k + 3) ≡ slice_index (chain' ++ 12 ∷ []) k) last at_end
    ]
  ]

  apart_any : (i j : ℕ) → i < j → j ≤ suc (length chain) → slice_index (stops chain') i ≢ slice_index (stops chain') j
  apart_any i j lt le same = dite (ℕ_discrete j (suc (length chain)))
      (λ last. other (
        i,
        omega arith,
        sym (stops_left chain reference i (omega arith)) ∙ (same
            ∙ (ap (slice_index (stops chain')) last ∙ stops_last chain reference)),
      ))
      (λ ne. linked.distinct i j lt (omega arith)
      (sym (stops_left chain reference i (omega arith)) ∙ (same ∙ stops_left chain reference j (omega arith))))

  pub links : IsLinked words' chain'
  links = record {
    linked = λ i le. at_any i (omega (arith, length-longer chain reference));
    distinct = λ i j lt le. apart_any i j lt (omega (arith, length-longer chain reference));
  }

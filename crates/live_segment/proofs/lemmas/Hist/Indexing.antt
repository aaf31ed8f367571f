-- What an index returns for a name: no record that it passed has it, or the first with its key.
use Rattle.std.proofs.Common.{◌≡◌, ◌≢◌, ℕ, suc, ◌+◌, ◌<◌, ◌≤◌, List, [], ◌∷◌, ◌++◌, length, slice_index, Some, None, inl, inr, refl, sym, ap, ◌∙◌, arith}
use Rattle.std.specs.Prelude.{take}
use Rattle.std.specs.List.{All}
use mathlib.Core.Logic.{dite}
use native.Mathlib.Decide.{ℕ_discrete}
use Rattle.bucket_ranges.specs.Reading.{name_words}
use Rattle.segment_machine.specs.declared.actor.Actor.{Actor}
use Rattle.segment_machine.specs.declared.seen.Seen.{Seen}
use Rattle.segment_machine.specs.Calls.{MayTurn}
use Rattle.segment_machine.specs.Made.{SawOtherName}
use Rattle.segment_invariant.proofs.Walking.Words.{letters_long}
use Rattle.list_index.specs.Firsts.{first_of}
use Rattle.list_index.specs.Keys.{key_of}
use Rattle.live_segment.specs.declared.list.index.KeyKind.TheVariants.{Name}
use Rattle.live_segment.specs.declared.list.index.RecordIndex.{RecordIndex}
use Rattle.live_segment.specs.List.Index.{IsIndexed}
use Rattle.live_segment.specs.List.Keys.{HasLookedForName, IsNameKey, seen_letters, seen_name, seen_word}
use Rattle.live_segment.specs.Hist.Search.{SearchesAt}
use Rattle.live_segment.proofs.lemmas.List.Indexed.{first_met_here, none_met_here, progress}
use Rattle.live_segment.proofs.lemmas.List.Keyed.{name_some, seen_is, word_at, words_long}
use Rattle.live_segment.proofs.lemmas.List.Showing.{words_apart}

-- lists of words that are not the same differ at a place
apart_at : (xs ys : List ℕ) → length xs ≡ length ys → xs ≢ ys → (i : ℕ) × (i < length ys) × (slice_index xs i ≢ slice_index ys i)
apart_at [] [] same apart = absurd (apart refl)
apart_at [] (y ∷ ys) same apart = absurd (omega (arith, same))
apart_at (x ∷ xs) [] same apart = absurd (omega (arith, same))
apart_at (x ∷ xs) (y ∷ ys) same apart = dite (ℕ_discrete x y)
    (λ first.
    let (i, below, other) = apart_at xs ys (omega (arith, same)) (λ rest. apart (λ k. first k ∷ rest k)) in (suc i, omega (arith, below), other))
    (λ other. (0, omega arith, other))

module _ (seen : Seen) (name : List ℕ) (key : ℕ) (is : IsNameKey name key) where
  -- a record with another key has another name
  other_key : (at : ℕ) → HasLookedForName seen at → seen_name seen at ≢ Some key → SawOtherName seen name at
  other_key at looked apart =
      let (letters, spells, small, key_is) = is in
      dite (ℕ_discrete (seen_word seen (at + 2)) 1)
      (λ tagged. dite (ℕ_discrete (seen_word seen (at + 14)) (length name))
      (λ long.
      let own = seen_letters seen at in
      let words = name_words (seen_word seen (at + 14)) in
      let many : words ≡ length letters = ap name_words long ∙ letters_long name letters spells in
      let count : length own ≡ words = words_long seen (at + 15) words in
      let (i, below, other) = apart_at own letters (count ∙ many)
      (λ same. apart (name_some seen at tagged ∙ ap Some (ap key_of same ∙ sym key_is))) in
      let inside : i < words = omega (arith, below, many) in
      let word = word_at seen (at + 15) words i inside in
      inr (inr (
        letters,
        i,
        seen_word seen (at + 15 + i),
        spells,
        below,
        seen_is seen (at + 15 + i) (looked.letters tagged i inside),
        words_apart (seen_word seen (at + 15 + i)) (slice_index letters i) (looked.small tagged i inside) (small i 0 below)
            (λ same. other (word ∙ same)),
      )))
      (λ other. inr (inl (seen_word seen (at + 14), seen_is seen (at + 14) (looked.length_seen tagged), other))))
      (λ other. inl (seen_word seen (at + 2), seen_is seen (at + 2) looked.tag, other))

  module _ (size : ℕ) (index : RecordIndex) (indexed : IsIndexed Name size seen index) where
    -- it has none of the name
    pub none_here : first_of index.firsts key ≡ None → All (SawOtherName seen name) (take index.place.given seen.chain)
    none_here none = none_met_here Name seen key (SawOtherName seen name) other_key size index indexed none

    -- the first with the key comes after others
    pub first_here : (at : ℕ) → first_of index.firsts key ≡ Some at
        → (before after : List ℕ) × (seen.chain ≡ before ++ at ∷ after) × All (SawOtherName seen name) before × (at + 5 ≤ size)
    first_here at one =
        let (before, after, there, others, room, looked) = first_met_here Name seen key (SawOtherName seen name) other_key size index indexed at one in
        (before, after, there, others, room)

-- a walk for a name that the index does not have continues at the place of the index
pub walks_behind : (size : ℕ) (a : Actor) (index : RecordIndex) (name : List ℕ) (key : ℕ) → a.segment.shape.size ≡ size → 17 ≤ size → MayTurn a
    → IsIndexed Name size a.seen index → IsNameKey name key → first_of index.firsts key ≡ None → SearchesAt name index.place.at a
walks_behind size a index name key sized wide free indexed is none = record {
  given = take index.place.given a.seen.chain;
  way = progress Name size a index sized wide free indexed;
  others = none_here a.seen name key is size index indexed none;
}

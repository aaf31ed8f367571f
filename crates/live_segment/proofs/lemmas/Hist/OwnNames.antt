-- A record that a recorder published for a name is never seen to have another one.
use Rattle.std.proofs.Common.{◌≡◌, ◌≢◌, ℕ, ◌+◌, ◌<◌, List, [], ◌∷◌, ◌++◌, length, Contains, inl, inr, sym, ap, ◌∙◌, subst, arith, get_or-drop, length-append}
use Rattle.std.specs.Prelude.{slice_index, Some}
use Rattle.std.proofs.lemmas.List.{get_or_append_left}
use Rattle.std.proofs.lemmas.List.Elements.{All-contains, Contains-append_right}
use Rattle.std.proofs.lemmas.List.Sorted.{IsPermutation-sym, Contains-permutation}
use mathlib.Core.Option.{some}
use lib.ListN.{get_elem?}
use Rattle.segment_image.specs.Shape.{Dimensions}
use Rattle.segment_image.specs.Words.{bytes_of_words}
use Rattle.bucket_ranges.specs.Spec.{spec_ranges}
use Rattle.segment_machine.specs.declared.place.Place.TheVariants.{Spent}
use Rattle.segment_machine.specs.declared.actor.Actor.{Actor}
use Rattle.segment_machine.specs.declared.actor.Made.TheVariants as made
use Rattle.segment_machine.specs.declared.actor.Published.{Published}
use Rattle.segment_machine.specs.Actor.{word_seen, all_published}
use Rattle.segment_machine.specs.Made.{AreNameWords, SawOtherName}
use Rattle.segment_machine.specs.State.{State}
use Rattle.segment_invariant.specs.Body.{Record, Listed, record_words, histogram, Anatomy, listed}
use Rattle.segment_invariant.specs.Seen.{HasRecord}
use Rattle.segment_invariant.specs.Invariant.{StandsAs, Invariant}
use Rattle.segment_invariant.proofs.Lists.Elements.{row_in}
use Rattle.segment_invariant.proofs.Lists.Maps.{contains_map}
use Rattle.segment_invariant.proofs.Walking.Words.{letters_long, record_long, sighted}
use Rattle.segment_invariant.proofs.Notes.Letters.{bytes_same, word_bytes}
use Rattle.live_segment.specs.List.Records.{KnowsOwnNames}

-- a word of the name in the words of a record
letter_word : (r : Record) (i : ℕ) → i < length r.letters → slice_index (record_words r) (15 + i) ≡ slice_index r.letters i
letter_word r i below =
    let long = length-append r.letters (spec_ranges r.spec) in
    sym (get_or-drop 15 (record_words r) i 0)
    ∙ (get_or_append_left (r.letters ++ spec_ranges r.spec) r.rest 0 i (omega (arith, long, below)) ∙ get_or_append_left r.letters (spec_ranges r.spec) 0 i below)

module _ (shape : Dimensions) (opened : Anatomy) (state : State) (kept : Invariant shape opened state) (id : ℕ) (a : Actor)
    (mine : get_elem? state.actors id ≡ some a) (lives : a.hand.place ≢ Spent) where
  -- a word that it saw of a record is there
  record_seen : (at j word : ℕ) (r : Record) → HasRecord kept.anatomy.pieces at r → j < length (record_words r)
      → word_seen a.seen.words (at + j) ≡ Some word → slice_index (record_words r) j ≡ word
  record_seen at j word r has below seen = sighted shape opened state kept id a mine lives at j word (histogram r) has below seen

  -- so it did not see another name there
  other_seen : (name : List ℕ) (at : ℕ) (r : Record) → HasRecord kept.anatomy.pieces at r → r.name ≡ name → SawOtherName a.seen name at → ⊥
  other_seen name at r has is (inl (tag, seen, ne)) =
      let all = record_long r in ne (sym (record_seen at 2 tag r has (omega (arith, all)) seen))
  other_seen name at r has is (inr (inl (len, seen, ne))) =
      let all = record_long r in ne (sym (record_seen at 14 len r has (omega (arith, all)) seen) ∙ ap length is)
  other_seen name at r has is (inr (inr (letters, i, word, are, below, seen, ne))) =
      let lawful = kept.records.lawful at r has in
      let lettered : AreNameWords name r.letters = subst (λ n. AreNameWords n r.letters) is lawful.lettered in
      let many : length r.letters ≡ length letters = sym (letters_long name r.letters lettered) ∙ letters_long name letters are in
      let all = record_long r in
      let place : at + 15 + i ≡ at + (15 + i) = omega arith in
      let found : slice_index r.letters i ≡ word =
      sym (letter_word r i (omega (arith, many, below)))
      ∙ record_seen at (15 + i) word r has (omega (arith, all, many, below)) (ap (word_seen a.seen.words) (sym place) ∙ seen) in
      ne (ap (λ w. bytes_of_words (w ∷ [])) (sym found) ∙ word_bytes r.letters letters i many (omega (arith, many, below)) (bytes_same name r.letters letters lettered are))

  -- a record that it published holds what it was given
  published_stands : (p : Published) → Contains a.done.published p → StandsAs kept.anatomy.pieces (listed p) (Some p.made)
  published_stands p has =
      let (front, all, permuted) = kept.list.once in
      let among = Contains-permutation _ front (listed p) (IsPermutation-sym _ _ permuted)
      (contains_map listed (all_published state.actors) p (row_in (λ (b : Actor). b.done.published) state.actors id a p mine has)) in
      All-contains (λ (l : Listed). StandsAs kept.anatomy.pieces l l.made) kept.anatomy.records (listed p) kept.list.standing
      (subst (λ (list : List Listed). Contains list (listed p)) (sym all) (Contains-append_right opened.records front (listed p) among))

  pub knows_own_names : KnowsOwnNames a
  knows_own_names name spec at has other =
      let (r, is, name_is, spec_is) = published_stands (record { reference = at; made = made.Histogram name spec }) has in
      other_seen name at r is name_is other

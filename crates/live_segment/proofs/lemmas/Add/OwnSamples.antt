-- A sample that a recorder published is never seen to be another record, and comes after the record of its histogram.
use Rattle.std.proofs.Common.{◌≡◌, ◌≢◌, ℕ, ◌+◌, ◌<◌, ℤ, List, slice_index, Some, inl, inr, sym, ap, ◌∙◌, subst, arith}
use Rattle.std.specs.List.{Contains}
use Rattle.std.proofs.lemmas.List.Elements.{All-contains, Contains-append_right}
use Rattle.std.proofs.lemmas.List.Sorted.{IsPermutation-sym, Contains-permutation}
use Rattle.std.specs.Int.{cast_unsigned, w64}
use mathlib.Core.Option.{some}
use lib.ListN.{get_elem?}
use Rattle.segment_image.specs.Shape.{Dimensions}
use Rattle.segment_machine.specs.declared.actor.Actor.{Actor}
use Rattle.segment_machine.specs.declared.actor.Made.TheVariants as made
use Rattle.segment_machine.specs.declared.actor.Published.{Published}
use Rattle.segment_machine.specs.declared.place.Place.TheVariants.{Spent}
use Rattle.segment_machine.specs.Actor.{all_published, word_seen}
use Rattle.segment_machine.specs.Made.{SawOther}
use Rattle.segment_machine.specs.State.{State}
use Rattle.segment_invariant.specs.Body.{Listed, listed, Sample, Anatomy, sample, sample_words}
use Rattle.segment_invariant.specs.Seen.{HasSample}
use Rattle.segment_invariant.specs.Invariant.{Invariant, StandsAs}
use Rattle.segment_invariant.proofs.Lists.Elements.{row_in}
use Rattle.segment_invariant.proofs.Lists.Maps.{contains_map}
use Rattle.segment_invariant.proofs.Walking.Words.{sighted}
use Rattle.segment_promises.proofs.Calls.Orders.{listed_behind}
use Rattle.live_segment.specs.List.Records.{KnowsOwnSamples}

-- ---- what a recorder published

module _ (shape : Dimensions) (opened : Anatomy) (state : State) (kept : Invariant shape opened state) (id : ℕ) (a : Actor)
    (mine : get_elem? state.actors id ≡ some a) (lives : a.hand.place ≢ Spent) where
  -- it is on the list
  published_listed : (p : Published) → Contains a.done.published p → Contains kept.anatomy.records (listed p)
  published_listed p has =
      let (front, all, permuted) = kept.list.once in
      let among = Contains-permutation _ front (listed p) (IsPermutation-sym _ _ permuted)
      (contains_map listed (all_published state.actors) p (row_in (λ (b : Actor). b.done.published) state.actors id a p mine has)) in
      subst (λ (list : List Listed). Contains list (listed p)) (sym all) (Contains-append_right opened.records front (listed p) among)

  -- a word that it saw of a sample is there
  sample_seen : (at j word : ℕ) (s : Sample) → HasSample kept.anatomy.pieces at s → j < 8
      → word_seen a.seen.words (at + j) ≡ Some word → slice_index (sample_words s) j ≡ word
  sample_seen at j word s has below seen = sighted shape opened state kept id a mine lives at j word (sample s) has (omega (arith, below)) seen

  -- so it did not see another record there
  other_seen : (histogram at : ℕ) (value : ℤ) (s : Sample) → HasSample kept.anatomy.pieces at s → s.of ≡ histogram → s.value ≡ value
      → SawOther a.seen histogram value at → ⊥
  other_seen histogram at value s has of_it valued (inl (tag, seen, ne)) = ne (sym (sample_seen at 2 tag s has (omega arith) seen))
  other_seen histogram at value s has of_it valued (inr (inl (of, seen, ne))) = ne (sym (sample_seen at 4 of s has (omega arith) seen) ∙ of_it)
  other_seen histogram at value s has of_it valued (inr (inr (word, seen, ne))) =
      ne (sym (sample_seen at 5 word s has (omega arith) seen) ∙ ap (cast_unsigned w64) valued)

  pub knows_own_samples : KnowsOwnSamples a
  knows_own_samples histogram value at has =
      let there = published_listed (record { reference = at; made = made.Sample histogram value }) has in
      let (s, stands, of_it, valued) = All-contains (λ (l : Listed). StandsAs kept.anatomy.pieces l l.made) kept.anatomy.records
      (record { reference = at; made = Some (made.Sample histogram value) }) kept.list.standing there in
      (other_seen histogram at value s stands of_it valued, λ front behind is met. listed_behind shape opened state kept id a mine lives histogram at value front behind there met is)

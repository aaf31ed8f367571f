-- A `hist` has claimed nothing, or one block for the record that it made: after records that it had visited, none of which has the name.
use Rattle.std.proofs.Common.{◌≡◌, ℕ, ◌+◌, List, [], ◌∷◌, length, length-append, map, inl, inr, refl, sym, ap, subst, ◌∙◌, arith}
use Rattle.std.specs.List.{All}
use Rattle.bucket_ranges.specs.declared.spec.Spec.{Spec}
use Rattle.bucket_ranges.specs.Spec.{spec_ranges}
use Rattle.segment_image.specs.Shape.{Dimensions}
use Rattle.list_core.specs.Walk.{stands_behind}
use Rattle.segment_machine.specs.declared.actor.Actor.{Actor}
use Rattle.segment_machine.specs.declared.actor.Known.{Known}
use Rattle.segment_machine.specs.declared.actor.Made.TheVariants.{Histogram}
use Rattle.segment_machine.specs.declared.seen.Sighting.{Sighting}
use Rattle.segment_machine.specs.Made.{SawOtherName}
use Rattle.segment_machine.specs.Note.{declines, knows, noted}
use Rattle.segment_promises.specs.Follows.{noted_by}
use Rattle.segment_promises.specs.Onward.{Grows}
use Rattle.segment_promises.proofs.Growing.{grows_not, grows_same}
use Rattle.segment_invariant.proofs.Walking.Words.{letters_long}
use Rattle.segment_calls.specs.declared.asked.Asked.{Asked}
use Rattle.segment_calls.specs.Asked.{IsAskedFor}
use Rattle.segment_calls.specs.Blocks.{record_words}
use Rattle.live_segment.specs.Alloc.Claims.{KeepsBlocks, MakesOne, NamesAtMostOne}
use Rattle.live_segment.specs.List.Ends.{SawAllOfList}
use Rattle.live_segment.specs.Hist.NewRecord.{HasMade}
use Rattle.live_segment.specs.Hist.Search.{HasSearched}
use Rattle.live_segment.specs.Hist.Outcome.{MakesFor}
use Rattle.live_segment.proofs.lemmas.Hist.HistAnswered.{payload_long}
use Rattle.live_segment.proofs.lemmas.Hist.NameSearch.{others_still}
use Rattle.live_segment.proofs.lemmas.Alloc.Blocks.{makes_between}
use Rattle.live_segment.proofs.lemmas.List.Ends.{found_on}

-- a search claims nothing
pub searches_none : (asked : Asked) (a b : Actor) → HasSearched a b → MakesFor asked a b
searches_none asked a b searched = inl (ap (λ (x : Actor). x.done) searched.view)

-- after a search that found none up to the end it has made one, and has searched further
pub makes_one : (asked : Asked) (a b c d : Actor) → HasSearched a b → All (SawOtherName b.seen asked.name.items) b.seen.chain
    → SawAllOfList a.seen b.seen → HasMade asked b c → HasSearched c d → MakesFor asked a d
makes_one asked a b c d first others all made second = inr (record {
  makes = makes_between a.segment.shape (Histogram asked.name.items asked.spec) (4 + length asked.payload.items) a.done b.done c.done d.done
      (ap (λ (x : Actor). x.done) first.view)
      (subst (λ (s : Dimensions). MakesOne s (Histogram asked.name.items asked.spec) (4 + length asked.payload.items) b.done c.done)
      (ap (λ (x : Actor). x.segment.shape) first.view) made.makes)
      (ap (λ (x : Actor). x.done) second.view);
  met = b.seen.chain;
  more = (first.chain, subst (λ (l : List ℕ). Grows l d.seen.chain) (ap (λ (x : Actor). x.seen.chain) made.view) second.chain);
  all = found_on a.seen a.seen b.seen d.seen (grows_not a.seen.ends) first.ends
      (subst (λ (l : List ℕ). Grows l d.seen.ends) (ap (λ (x : Actor). x.seen.ends) made.view) second.ends) (stands_behind b.seen.chain + 3) all;
  others = others_still b.seen d.seen (subst (λ (l : List Sighting). Grows l d.seen.words) (ap (λ (x : Actor). x.seen.words) made.view) second.words)
      asked.name.items b.seen.chain others;
})

-- nothing is claimed after that
pub makes_kept : (asked : Asked) (a b c : Actor) → Grows a.seen.ends b.seen.ends → MakesFor asked a b → KeepsBlocks b c → MakesFor asked a c
makes_kept asked a b c grows (inl same) behind = inl (behind.done ∙ same)
makes_kept asked a b c grows (inr one) behind = inr (record {
  makes = subst (MakesOne a.segment.shape _ (4 + length asked.payload.items) a.done) (sym behind.done) one.makes;
  met = one.met;
  more = (one.more.0, subst (Grows one.met) (sym behind.chain) one.more.1);
  all = found_on a.seen a.seen b.seen c.seen (grows_not a.seen.ends) grows behind.ends (stands_behind one.met + 3) one.all;
  others = others_still b.seen c.seen (grows_same b.seen.words c.seen.words behind.words) asked.name.items one.met one.others;
})

-- its answer is given, or refused
pub knows_none : (b c : Actor) (known : Known) → c ≡ noted b (knows known) → KeepsBlocks b c
knows_none b c known is = subst (KeepsBlocks b) (sym is) (record { segment = refl; done = refl; own = refl; chain = refl; words = refl; ends = grows_not b.seen.ends })

declines_none : (b : Actor) (list : List Known) → KeepsBlocks b (noted_by b (map declines list))
declines_none b [] = record { segment = refl; done = refl; own = refl; chain = refl; words = refl; ends = grows_not b.seen.ends }
declines_none b (k ∷ rest) =
    let behind = declines_none (noted b (declines k)) rest in record { segment = behind.segment; done = behind.done; own = behind.own; chain = behind.chain; words = behind.words; ends = behind.ends }

pub declined_none : (b c : Actor) → c ≡ noted_by b (map declines b.answers.owed) → KeepsBlocks b c
declined_none b c is = subst (KeepsBlocks b) (sym is) (declines_none b b.answers.owed)

-- as the caller asked for it
pub makes_named : (shape : Dimensions) (name : List ℕ) (kind : Spec) (asked : Asked) (a b : Actor) → IsAskedFor shape name kind asked → MakesFor asked a b
    → NamesAtMostOne name kind (record_words name kind) a b
makes_named shape name kind asked a b is makes =
    subst (λ (n : ℕ). NamesAtMostOne name kind n a b) long
    (subst (λ (l : List ℕ). NamesAtMostOne l kind (4 + length asked.payload.items) a b) is.named
    (subst (λ (s : Spec). NamesAtMostOne asked.name.items s (4 + length asked.payload.items) a b) is.specified makes))
  where
    long : 4 + length asked.payload.items ≡ record_words name kind
    long =
        let letters = is.payload.letters in
        let all = ap length is.payload.words ∙ payload_long kind (length name) _ in
        let both = length-append letters (spec_ranges kind) in
        let named = letters_long name letters is.payload.spells in
        omega (arith, all, both, named)

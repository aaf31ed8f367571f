-- What an index of samples returns for a value of a histogram: no record that it passed is a sample of it, or the first with its key.
use Rattle.std.proofs.Common.{◌≡◌, ◌≢◌, ℕ, suc, ◌+◌, ◌<◌, ◌≤◌, Bool, true, false, if◌then◌else◌, ℤ, List, [], ◌∷◌, ◌++◌, length, slice_index, Some, None, inl, inr, refl, sym, ap, subst, ◌∙◌, arith, append_assoc, length-append}
use Rattle.std.specs.Prelude.{take}
use Rattle.std.specs.Int.{cast_unsigned, w64}
use Rattle.std.specs.List.{All, Contains}
use mathlib.Core.Logic.{dite}
use native.Mathlib.Decide.{ℕ_discrete}
use lib.Seq.{get_or-append_seam}
use Rattle.std.proofs.Math.Seq.{take-length}
use Rattle.std.proofs.lemmas.List.Elements.{All-tail, Contains-append_right}
use Rattle.segment_machine.specs.declared.actor.Actor.{Actor}
use Rattle.segment_machine.specs.declared.seen.Seen.{Seen}
use Rattle.segment_machine.specs.Actor.{is_bound, word_seen}
use Rattle.segment_machine.specs.Calls.{MayTurn}
use Rattle.segment_machine.specs.Made.{SawOther, SawSample}
use Rattle.segment_invariant.proofs.Lists.Elements.{at_from, split_at}
use Rattle.segment_promises.specs.Calls.{SamplesStandBehind}
use Rattle.segment_promises.specs.Values.{NoRepeats}
use Rattle.segment_promises.proofs.Growing.{grows_not, others_still}
use Rattle.list_index.specs.Firsts.{first_of}
use Rattle.live_segment.specs.declared.list.index.KeyKind.TheVariants as kind
use Rattle.live_segment.specs.declared.list.index.RecordIndex.{RecordIndex}
use Rattle.live_segment.specs.declared.recorder.KnownHistogram.{KnownHistogram}
use Rattle.live_segment.specs.declared.rule.Setting.{Setting}
use Rattle.live_segment.specs.declared.add.sample_search.SampleSearch.{SampleSearch}
use Rattle.live_segment.specs.declared.add.sample_search.SampleSearch.TheVariants as search
use Rattle.live_segment.specs.Add.SampleSearch.{FindsSample, FoundEnd, ShowsValue, WalksBehind}
use Rattle.live_segment.specs.Known.{KnowsRight}
use Rattle.live_segment.specs.List.Index.{IsIndexed}
use Rattle.live_segment.specs.List.Keys.{HasLookedForSample, HasSeen, sample_key, seen_sample, seen_word}
use Rattle.live_segment.specs.List.Walk.{IsWalkProgress}
use Rattle.live_segment.specs.Hist.ListSearch.{MayLoadRecord, SeesWords}
use Rattle.live_segment.specs.Hist.Search.{HasSearched}
use Rattle.live_segment.proofs.lemmas.Add.SampleOf.{split_there}
use Rattle.live_segment.proofs.lemmas.List.Ends.{all_on}
use Rattle.live_segment.proofs.lemmas.List.Indexed.{first_met_here, none_met_here, progress}
use Rattle.live_segment.proofs.lemmas.List.Keyed.{sample_some, seen_is, was_seen, word_is}
use Rattle.live_segment.proofs.lemmas.List.Walked.{right_still}

-- ---- lists without repeats

module _ (chain p q r s : List ℕ) (x : ℕ) (once : NoRepeats chain) (one : chain ≡ p ++ x ∷ q) (two : chain ≡ r ++ x ∷ s) where
  at_one : slice_index chain (length p) ≡ x
  at_one = ap (λ (l : List ℕ). slice_index l (length p)) one ∙ get_or-append_seam p x q 0

  at_two : slice_index chain (length r) ≡ x
  at_two = ap (λ (l : List ℕ). slice_index l (length r)) two ∙ get_or-append_seam r x s 0

  -- what is on it is at one place
  same_place : length p ≡ length r
  same_place =
      let first = ap length one ∙ length-append p (x ∷ q) in
      let second = ap length two ∙ length-append r (x ∷ s) in
      let not_before : length p < length r → ⊥ =
      λ less. once (suc (length p)) (suc (length r)) (omega (arith, less)) (omega (arith, second)) (at_one ∙ sym at_two) in
      let not_behind : length r < length p → ⊥ =
      λ less. once (suc (length r)) (suc (length p)) (omega (arith, less)) (omega (arith, first)) (at_two ∙ sym at_one) in
      dite (ℕ_discrete (length p) (length r)) (λ same. same) (λ apart. absurd (grind (arith, not_before, not_behind, apart)))

-- fronts of one list that are as long are the same
same_front : (p q r s : List ℕ) → length p ≡ length r → p ++ q ≡ r ++ s → p ≡ r
same_front [] q [] s long same = refl
same_front [] q (y ∷ r) s long same = absurd (omega (arith, long))
same_front (x ∷ p) q [] s long same = absurd (omega (arith, long))
same_front (x ∷ p) q (y ∷ r) s long same =
    let first : x ≡ y = ap (λ (l : List ℕ). slice_index l 0) same in
    let rest = same_front p q r s (omega (arith, long)) (ap tail same) in λ i. first i ∷ rest i
  where
    tail : List ℕ → List ℕ
    tail [] = []
    tail (z ∷ zs) = zs

-- ---- by another key

pub all_behind : (P : ℕ → Type 0) (xs : List ℕ) (x : ℕ) (ys : List ℕ) → All P (xs ++ x ∷ ys) → All P ys
all_behind P [] x ys all = All-tail P x ys all
all_behind P (z ∷ xs) x ys all = all_behind P xs x ys (All-tail P z (xs ++ x ∷ ys) all)

module _ (seen : Seen) (histogram : ℕ) (value : ℤ) where
  abbrev key : ℕ
  key = sample_key histogram (cast_unsigned w64 value)

  -- a record with another key is another one
  other_sample : (at : ℕ) → HasLookedForSample seen at → seen_sample seen at ≢ Some key → SawOther seen histogram value at
  other_sample at looked apart = dite (ℕ_discrete (seen_word seen (at + 2)) 3)
      (λ tagged. dite (ℕ_discrete (seen_word seen (at + 4)) histogram)
      (λ of. dite (ℕ_discrete (seen_word seen (at + 5)) (cast_unsigned w64 value))
      (λ valued. absurd (apart (sample_some seen at tagged ∙ (λ i. Some (sample_key (of i) (valued i))))))
      (λ other. inr (inr (seen_word seen (at + 5), seen_is seen (at + 5) (looked.value tagged), other))))
      (λ other. inr (inl (seen_word seen (at + 4), seen_is seen (at + 4) (looked.histogram tagged), other))))
      (λ other. inl (seen_word seen (at + 2), seen_is seen (at + 2) looked.tag, other))

-- ---- no record has it

-- it has passed the whole list: a walk continues at its end
pub none_sampled : (setting : Setting) (histogram : KnownHistogram) (value : ℤ) (a : Actor) (index : RecordIndex) → a.segment.shape.size ≡ setting.shape.size
    → 17 ≤ setting.shape.size → MayTurn a → KnowsRight setting a histogram → IsIndexed kind.Sample setting.shape.size a.seen index
    → first_of index.firsts (sample_key histogram.reference (cast_unsigned w64 value)) ≡ None → index.place.given ≡ length a.seen.chain
    → WalksBehind histogram.reference value index.place.at a
none_sampled setting histogram value a index sized wide free right indexed none all =
    let reference = histogram.reference in
    let (front, behind, parts) = split_there a.seen.chain reference right.met in
    let whole : take index.place.given a.seen.chain ≡ front ++ reference ∷ behind =
    ap (λ (n : ℕ). take n a.seen.chain) all ∙ (take-length a.seen.chain ∙ parts) in
    let others : All (SawOther a.seen reference value) (take index.place.given a.seen.chain) =
    none_met_here kind.Sample a.seen (sample_key reference (cast_unsigned w64 value)) (SawOther a.seen reference value) (other_sample a.seen reference value)
    setting.shape.size index indexed none in record {
      front = front;
      given = behind;
      way = subst (λ (l : List ℕ). IsWalkProgress l index.place.at a) whole (progress kind.Sample setting.shape.size a index sized wide free indexed);
      others = all_behind (SawOther a.seen reference value) front reference behind (subst (All (SawOther a.seen reference value)) whole others);
    }

-- it continues there, or begins again at the histogram's record
pub walks_from : (histogram : ℕ) (value : ℤ) (at : ℕ) (a : Actor) (has_passed_all : Bool) → (has_passed_all ≡ true → WalksBehind histogram value at a)
    → WalksBehind histogram value histogram a → WalksBehind histogram value (if has_passed_all then at else histogram) a
walks_from histogram value at a true there anew = there refl
walks_from histogram value at a false there anew = anew

-- ---- a record has it

module _ {size : ℕ} (histogram : ℕ) (value : ℤ) (old : Actor) {index : RecordIndex} {at : ℕ} (free : MayTurn old) (indexed : IsIndexed kind.Sample size old.seen index)
    (first : first_of index.firsts (sample_key histogram (cast_unsigned w64 value)) ≡ Some at) where
  -- where it is on the list
  splits : (before after : List ℕ) × (old.seen.chain ≡ before ++ at ∷ after) × All (SawOther old.seen histogram value) before × (at + 5 ≤ size)
      × HasLookedForSample old.seen at
  splits =
      first_met_here kind.Sample old.seen (sample_key histogram (cast_unsigned w64 value)) (SawOther old.seen histogram value) (other_sample old.seen histogram value)
      size index indexed at first

  pub meets_sample : MayLoadRecord at old
  meets_sample =
      let (before, after, there, others, room, looked) = splits in
      (free, subst (λ (l : List ℕ). Contains l at) (sym there) (Contains-append_right before (at ∷ after) at (0, omega arith, refl)))

  pub room_sample : at + 5 ≤ size
  room_sample = let (before, after, there, others, room, looked) = splits in room

  -- it is the first sample of the value, if it is one
  pub first_sampled : (new : Actor) → SeesWords old new → SamplesStandBehind old → NoRepeats old.seen.chain
      → (front behind : List ℕ) → old.seen.chain ≡ front ++ histogram ∷ behind
      → ShowsValue histogram value at true new → FindsSample histogram value (search.Met at) new
  first_sampled new sees stand once front behind parts (saw, room_all) =
      let (before, after, there, others, room, looked) = splits in
      let (tag, of, valued, small) = saw in
      let was : (word w : ℕ) → HasSeen old.seen word → word_seen new.seen.words word ≡ Some w → word_seen old.seen.words word ≡ Some w =
      was_seen old.seen new.seen sees.words in
      let tag_was = was (at + 2) 3 looked.tag tag in
      let tagged : seen_word old.seen (at + 2) ≡ 3 = word_is old.seen (at + 2) 3 tag_was in
      let saw_was : SawSample old.seen histogram value at =
      (tag_was, was (at + 4) histogram (looked.histogram tagged) of, was (at + 5) (cast_unsigned w64 value) (looked.value tagged) valued, small) in
      let (k, found) = at_from behind at (stand histogram at value front behind (meets_sample.1) saw_was parts) in
      let (p, q, behind_is, apart) = split_at behind k at found in
      let whole : old.seen.chain ≡ (front ++ histogram ∷ p) ++ at ∷ q =
      parts ∙ (ap (λ (l : List ℕ). front ++ histogram ∷ l) behind_is ∙ sym (append_assoc front (histogram ∷ p) (at ∷ q))) in
      let same : before ≡ front ++ histogram ∷ p =
      same_front before (at ∷ after) (front ++ histogram ∷ p) (at ∷ q)
      (same_place old.seen.chain before after (front ++ histogram ∷ p) q at once there whole) (sym there ∙ whole) in
      let passed = all_behind (SawOther old.seen histogram value) front histogram p (subst (All (SawOther old.seen histogram value)) same others) in (
        ap (λ (a : Actor). is_bound a.hand.place) sees.view ∙ free,
        (
          front,
          behind,
          ap (λ (a : Actor). a.seen.chain) sees.view ∙ parts,
          (p, q, behind_is, others_still old.seen new.seen sees.words histogram value p passed, saw),
        ),
        room_all,
      )

-- ---- what is kept

-- a histogram that it knows is still known
pub right_searched : (setting : Setting) (histogram : KnownHistogram) (a b : Actor) → HasSearched a b → KnowsRight setting a histogram → KnowsRight setting b histogram
right_searched setting histogram a b searched right =
    right_still setting a b histogram (ap (λ (x : Actor). x.answers.names) searched.view) searched.chain right

-- a search that came to the end has found the end since it began
pub sample_ended_since : (found : SampleSearch) (a b c : Actor) → HasSearched a b → HasSearched b c → FoundEnd found b.seen c.seen → FoundEnd found a.seen c.seen
sample_ended_since (search.End at) a b c one two end = all_on a.seen b.seen c.seen c.seen one.ends two.ends (grows_not c.seen.ends) refl end
sample_ended_since (search.Met reference) a b c one two end = tt

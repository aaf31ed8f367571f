-- What an actor saw since its call began to look stays seen when it has seen more.
use Rattle.segment_invariant.proofs.Prelude.Std.{◌≡◌, ℕ, ◌+◌, ◌≤◌, List, ◌++◌, drop, length, inl, inr, refl, sym, ap, subst, ◌∙◌, Some, arith, Contains, drop-append-le, length-append, Contains-append_left, Contains-append_right}
use Rattle.segment_invariant.proofs.Prelude.Machine.{buckets_of, single_of, packed_bucket, units_packed, Actor, Known, Sighting, SawCount, word_seen, sight, SawBucket}
use Rattle.segment_machine.specs.declared.actor.Since.{Since}
use Rattle.segment_machine.specs.Actor.{SawSingle}
use Rattle.segment_machine.specs.Note.{IsMarkOf, TookBucket, TookSample}
use Rattle.segment_promises.specs.Calls.{BeganBefore, SeesMore}
use Rattle.segment_promises.specs.Onward.{Grows, SeesOn}
use Rattle.segment_promises.proofs.Growing.{still}

-- if nothing of what an actor saw was lost, it has seen no less
pub sees_more : (a b : Actor) → b.segment ≡ a.segment → b.since ≡ a.since → SeesOn a.seen b.seen → SeesMore a b
sees_more a b segment since sees =
    record { segment = segment; since = since; singles = sees.singles; counts = sees.counts; words = sees.words }

-- what is after the front of a list is still there when the list has grown
behind : {X : Type 0} (front : ℕ) (old new : List X) (x : X) → front ≤ length old → Grows old new → Contains (drop front old) x → Contains (drop front new) x
behind front old new x low (more, is) has =
    let later : drop front new ≡ drop front old ++ more = ap (drop front) is ∙ drop-append-le front old more low in
    subst (λ l. Contains l x) (sym later) (Contains-append_left (drop front old) more x has)

-- a list that grows stays long enough
pub long_still : {X : Type 0} (n : ℕ) (old new : List X) → n ≤ length old → Grows old new → n ≤ length new
long_still n old new low (more, is) = let long = ap length is ∙ length-append old more in omega (arith, low, long)

-- what was seen last was seen since
pub seen_here : (n : ℕ) (list : List Sighting) (at word : ℕ) → n ≤ length list
    → Contains (drop n (list ++ sight at word)) (record { at = at; word = word })
seen_here n list at word low =
    let it : Sighting = record { at = at; word = word } in
    subst (λ (l : List Sighting). Contains l it) (sym (drop-append-le n list (sight at word) low))
    (Contains-append_right (drop n list) (sight at word) it (0, omega arith, refl))

module _ (a b : Actor) (sees : SeesMore a b) (began : BeganBefore a) where
  pub began_still : BeganBefore b
  began_still = record {
    singles = subst (λ (s : Since). s.singles ≤ length b.seen.singles) (sym sees.since) (long_still a.since.singles a.seen.singles b.seen.singles began.singles sees.singles);
    counts = subst (λ (s : Since). s.counts ≤ length b.seen.counts) (sym sees.since) (long_still a.since.counts a.seen.counts b.seen.counts began.counts sees.counts);
  }

  pub saw_single : (at word : ℕ) → SawSingle a at word → SawSingle b at word
  saw_single at word saw =
      let it : Sighting = record { at = at; word = word } in
      subst (λ (since : Since). Contains (drop since.singles b.seen.singles) it) (sym sees.since)
      (behind a.since.singles a.seen.singles b.seen.singles it began.singles sees.singles saw)

  pub saw_count : (at word : ℕ) → SawCount a at word → SawCount b at word
  saw_count at word saw =
      let it : Sighting = record { at = at; word = word } in
      subst (λ (since : Since). Contains (drop since.counts b.seen.counts) it) (sym sees.since)
      (behind a.since.counts a.seen.counts b.seen.counts it began.counts sees.counts saw)

  pub saw_word : (at word : ℕ) → word_seen a.seen.words at ≡ Some word → word_seen b.seen.words at ≡ Some word
  saw_word at word saw = still a.seen.words b.seen.words sees.words at word saw

  -- what was taken of a sample stays taken
  pub took_sample : (sample : ℕ) → TookSample a sample → TookSample b sample
  took_sample sample (count, saw, inl none) = (count, saw_count (sample + 6) count saw, inl none)
  took_sample sample (count, saw, inr (mark, marked, enough)) =
      (count, saw_count (sample + 6) count saw, inr (mark, saw_count (sample + 7) mark marked, enough))

  pub version : b.segment.version ≡ a.segment.version
  version = ap (λ s. s.version) sees.segment

  module _ (known : Known) (bucket : ℕ) where
    pub saw_bucket : (total : ℕ) → SawBucket a known bucket total → SawBucket b known bucket total
    saw_bucket total (word, saw, inl (on, is)) = (
      word,
      saw_single (known.reference + 9) word saw,
      inl (on, is ∙ ap (λ (v : ℕ). units_packed (single_of v (buckets_of known.spec) word) bucket) (sym version)),
    )
    saw_bucket total (word, saw, inr (off, (at, count, mounted, counted, is))) = (
      word,
      saw_single (known.reference + 9) word saw,
      inr (
        off,
        (
          at,
          count,
          saw_word (known.reference + 8) at mounted,
          saw_count (at + 4 + bucket) count counted,
          subst (λ (v : ℕ). total ≡ count + units_packed (single_of v (buckets_of known.spec) word) bucket) (sym version) is,
        ),
      ),
    )

    is_mark : (at : ℕ) → IsMarkOf a known bucket at → IsMarkOf b known bucket at
    is_mark at (inl (word, saw, packed, is)) = inl (
      word,
      saw_single (known.reference + 9) word saw,
      ap (λ (v : ℕ). packed_bucket (single_of v (buckets_of known.spec) word)) version ∙ packed,
      is,
    )
    is_mark at (inr (counts_at, mounted, is)) = inr (counts_at, saw_word (known.reference + 8) counts_at mounted, is)

    -- what was taken of a bucket stays taken
    pub took_bucket : TookBucket a known bucket → TookBucket b known bucket
    took_bucket (total, saw, inl none) = (total, saw_bucket total saw, inl none)
    took_bucket (total, saw, inr (at, mark, marks, counted, least)) =
        (total, saw_bucket total saw, inr (at, mark, is_mark at marks, saw_count at mark counted, least))

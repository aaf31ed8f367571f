-- What a batch has claimed: a block at most for each item, in order, and with buckets one at most for all of them.
use Rattle.std.proofs.Common.{◌≡◌, ◌⊎◌, ◌==◌, ℕ, ◌+◌, Bool, true, false, if◌then◌else◌, ℤ, List, [], ◌∷◌, ◌++◌, Some, None, inl, inr, refl, sym, ap, ◌∙◌, subst, eq-eqb}
use Rattle.segment_machine.specs.declared.actor.Actor.{Actor}
use Rattle.segment_machine.specs.declared.actor.Done.{Done}
use Rattle.segment_machine.specs.declared.actor.Known.{Known}
use Rattle.segment_machine.specs.declared.seen.Sighting.{Sighting}
use Rattle.segment_machine.specs.Actor.{has_buckets, word_seen}
use Rattle.segment_machine.specs.Calls.{sight}
use Rattle.segment_machine.specs.Counting.{add_redundant}
use Rattle.segment_machine.specs.Event.{counting_event}
use Rattle.segment_machine.specs.Note.{ends}
use Rattle.segment_invariant.proofs.Walking.Words.{word_still}
use Rattle.segment_promises.proofs.Growing.{grows_not}
use Rattle.live_segment.specs.Alloc.Claims.{ClaimsAtMostOne, ClaimsFor, ClaimsForAll, ClaimsForEach, KeepsBlocks, MountsOne}
use Rattle.live_segment.specs.Steps.GhostNotes.{Noted}
use Rattle.live_segment.specs.Steps.{Pass, Stepped}

-- units are noted, and the call continues or ends
pub keeps_noted : (histogram units found : ℕ) (old new : Pass) → Stepped old (counting_event (add_redundant histogram units)) found new
    → KeepsBlocks old.me.0 new.me.0
keeps_noted histogram units found old new step =
    subst (KeepsBlocks old.me.0) (sym step.view) (record { segment = refl; done = refl; own = refl; chain = refl; words = refl; ends = grows_not old.me.0.seen.ends })

pub keeps_last : (histogram units found : ℕ) (old new : Pass) → Noted old [] (counting_event (add_redundant histogram units)) (ends ∷ []) found new
    → KeepsBlocks old.me.0 new.me.0
keeps_last histogram units found old new noted =
    subst (KeepsBlocks old.me.0) (sym noted.view) (record { segment = refl; done = refl; own = refl; chain = refl; words = refl; ends = grows_not old.me.0.seen.ends })

-- one more item
pub each_more : (known : Known) (items : List (ℤ × ℕ)) (item : ℤ × ℕ) (a b c : Actor) → ClaimsForEach known items a b → ClaimsFor known item.0 b c
    → ClaimsForEach known (items ++ item ∷ []) a c
each_more known [] item a b c same claims = (c, subst (λ (x : Actor). ClaimsFor known item.0 x c) same claims, refl)
each_more known (x ∷ items) item a b c (mid, first, rest) claims = (mid, first, each_more known items item mid b c rest claims)

-- ---- with buckets

-- once a counts reference is seen, one is
seen_one : (list : List Sighting) (at word : ℕ) → (first : ℕ) × (word_seen (list ++ sight at word) at ≡ Some first)
seen_one [] at word = (word, ap (λ (b : Bool). if b then Some word else None) (eq-eqb at at refl))
seen_one (s ∷ list) at word = by (s.at == at) (seen_one list at word)
  where
    by : (here : Bool) → (first : ℕ) × (word_seen (list ++ sight at word) at ≡ Some first)
        → (first : ℕ) × ((if here then Some s.word else word_seen (list ++ sight at word) at) ≡ Some first)
    by true behind = (s.word, refl)
    by false behind = behind

-- then nothing more is claimed
none_more : (known : Known) (items : List (ℤ × ℕ)) (a b : Actor) (first : ℕ) → has_buckets known.spec ≡ true
    → word_seen a.seen.words (known.reference + 8) ≡ Some first → ClaimsForEach known items a b → b.done ≡ a.done
none_more known [] a b first bucketed saw same = ap (λ (x : Actor). x.done) same
none_more known (x ∷ items) a b first bucketed saw (mid, claims, rest) =
    let still = subst (λ (l : List Sighting). word_seen l (known.reference + 8) ≡ Some first) (sym claims.words.1)
    (word_still a.seen.words (known.reference + 8) first claims.words.0 saw) in
    by (claims.buckets bucketed) (none_more known items mid b first bucketed still rest)
  where
    by : (mid.done ≡ a.done) ⊎ MountsOne known a mid → b.done ≡ mid.done → b.done ≡ a.done
    by (inl same) behind = behind ∙ same
    by (inr one) behind = absurd (cc (sym one.none ∙ saw))

at_most_one : (known : Known) (items : List (ℤ × ℕ)) (a b : Actor) → has_buckets known.spec ≡ true → ClaimsForEach known items a b
    → ClaimsAtMostOne a.done b.done
at_most_one known [] a b bucketed same = inl (ap (λ (x : Actor). x.done.claimed) same)
at_most_one known (x ∷ items) a b bucketed (mid, claims, rest) = by (claims.buckets bucketed) (at_most_one known items mid b bucketed rest)
  where
    by : (mid.done ≡ a.done) ⊎ MountsOne known a mid → ClaimsAtMostOne mid.done b.done → ClaimsAtMostOne a.done b.done
    by (inl same) behind = subst (λ (d : Done). ClaimsAtMostOne d b.done) same behind
    by (inr one) behind =
        let (first, saw) = seen_one a.seen.words (known.reference + 8) one.counts in
        let now = subst (λ (l : List Sighting). word_seen l (known.reference + 8) ≡ Some first) (sym one.saw) saw in
        inr (one.claim, ap (λ (d : Done). d.claimed) (none_more known items mid b first bucketed now rest ∙ one.done))

-- ---- all of them

pub claims_all : (known : Known) (items : List (ℤ × ℕ)) (a b c : Actor) → ClaimsForEach known items a b → KeepsBlocks b c → ClaimsForAll known items a c
claims_all known items a b c each behind = record {
  last = b;
  each = each;
  behind = behind;
  once = λ bucketed. subst (ClaimsAtMostOne a.done) (sym behind.done) (at_most_one known items a b bucketed each);
}

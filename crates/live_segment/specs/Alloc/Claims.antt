-- What a call of a recorder has claimed if it returns Ok: for each record that it made, and for the counts that it needed, one block at
-- most; and what became of that. The rests of pages that an allocation wastes are not claims, but rises of the free pointer.
use Rattle.std.specs.Prelude.{◌≡◌, ◌⊎◌, true, ℕ, ◌+◌, ◌<◌, ◌≤◌, ℤ, List, [], ◌∷◌, ◌++◌, None}
use Rattle.std.specs.List.{All, Contains}
use Rattle.segment_image.specs.Shape.{Dimensions}
use Rattle.segment_image.specs.declared.layout.TheConstants.{BLOCK_LEAST, HISTOGRAM_COUNTS, SAMPLE_LEAST, TYPE_PURGED}
use Rattle.bucket_ranges.specs.declared.spec.Spec.{Spec}
use Rattle.bucket_ranges.specs.declared.spec.Spec.TheVariants.{Sparse}
use Rattle.list_core.specs.Walk.{stands_behind}
use Rattle.segment_machine.specs.declared.actor.Actor.{Actor}
use Rattle.segment_machine.specs.declared.actor.Claim.{Claim}
use Rattle.segment_machine.specs.declared.actor.Done.{Done}
use Rattle.segment_machine.specs.declared.actor.Known.{Known}
use Rattle.segment_machine.specs.declared.actor.Made.{Made}
use Rattle.segment_machine.specs.declared.actor.Made.TheVariants.{Histogram, Sample}
use Rattle.segment_machine.specs.declared.actor.Own.{Own}
use Rattle.segment_machine.specs.Actor.{has_buckets, word_seen}
use Rattle.segment_machine.specs.Calls.{sight}
use Rattle.segment_machine.specs.Made.{SawOther, SawOtherName}
use Rattle.segment_promises.specs.Onward.{Grows}
use Rattle.live_segment.specs.Add.Sample.{block_words}
use Rattle.live_segment.specs.List.Ends.{FoundEndAt, FoundNoCounts}
use Rattle.live_segment.specs.Alloc.Rises.{RaisesFor}

-- ---- none

-- What it has done, its own blocks, and what it has seen of the list and of the words of records are unchanged. It has found no fewer words
-- that lead to no block.
pub record KeepsBlocks (old new : Actor) : Type 0 where
  pub segment : new.segment ≡ old.segment
  pub done : new.done ≡ old.done
  pub own : new.hand.own ≡ old.hand.own
  pub chain : new.seen.chain ≡ old.seen.chain
  pub words : new.seen.words ≡ old.seen.words
  pub ends : Grows old.seen.ends new.seen.ends

-- ---- one for a record

-- a block of this many words or up to four more
abbrev pub IsBlockFor : ℕ → Claim → Type 0
IsBlockFor words claim = (words ≤ claim.size) × (claim.size < words + BLOCK_LEAST)

-- It has claimed one block and put it on the list as a record of this. It has raised the free pointer only for that block. Earlier links of
-- it may have come too late; it has done nothing else.
pub record MakesOne (shape : Dimensions) (made : Made) (words : ℕ) (old new : Done) : Type 0 where
  pub claim : Claim
  pub block : IsBlockFor words claim
  pub raises : RaisesFor shape words claim old.raised new.raised
  pub done : new ≡ record old {
    claimed = old.claimed ++ claim ∷ [];
    raised = new.raised;
    published = old.published ++ record { reference = claim.at; made = made } ∷ [];
    beaten = new.beaten;
  }

-- It has made a record of a name, of this many words, when the list had none: the records that it had visited were all of the list when it
-- loaded its end, in the same call, and none of them has the name.
pub record MakesNamed (name : List ℕ) (spec : Spec) (words : ℕ) (old new : Actor) : Type 0 where
  pub makes : MakesOne old.segment.shape (Histogram name spec) words old.done new.done
  pub met : List ℕ
  pub more : Grows old.seen.chain met × Grows met new.seen.chain
  pub all : FoundEndAt (stands_behind met) old.seen new.seen
  pub others : All (SawOtherName new.seen name) met

-- it has claimed and published nothing, or has made one record of the name
abbrev pub NamesAtMostOne : List ℕ → Spec → ℕ → Actor → Actor → Type 0
NamesAtMostOne name spec words old new = (new.done ≡ old.done) ⊎ MakesNamed name spec words old new

-- It has made a sample of a value, when the list had none: the records that it had visited were all of the list when it loaded its end, in
-- the same call, and none of those after the histogram's is a sample of the value.
pub record MakesSample (histogram : ℕ) (value : ℤ) (old new : Actor) : Type 0 where
  pub makes : MakesOne old.segment.shape (Sample histogram value) SAMPLE_LEAST old.done new.done
  pub front : List ℕ
  pub behind : List ℕ
  pub more : Grows old.seen.chain (front ++ histogram ∷ behind) × Grows (front ++ histogram ∷ behind) new.seen.chain
  pub all : FoundEndAt (stands_behind (front ++ histogram ∷ behind)) old.seen new.seen
  pub others : All (SawOther new.seen histogram value) behind

-- ---- one for counts

-- its block at a word is lost: it was purged
abbrev pub IsPurged : ℕ → Actor → Type 0
IsPurged at a = (own : Own) × Contains a.hand.own own × (own.at ≡ at) × (own.tag ≡ TYPE_PURGED)

-- It has claimed one block for the counts of a histogram, when it had seen no counts reference and loaded that as 0. It has raised the free
-- pointer only for that block, and has done nothing else. The counts reference that it has seen since is that of the block; or it is
-- another recorder's, which was first, and the block was purged.
pub record MountsOne (known : Known) (old new : Actor) : Type 0 where
  pub claim : Claim
  pub block : IsBlockFor (block_words known) claim
  pub raises : RaisesFor old.segment.shape (block_words known) claim old.done.raised new.done.raised
  pub done : new.done ≡ record old.done { claimed = old.done.claimed ++ claim ∷ []; raised = new.done.raised }
  pub none : word_seen old.seen.words (known.reference + HISTOGRAM_COUNTS) ≡ None
  pub loaded : FoundNoCounts known.reference old.seen new.seen
  pub counts : ℕ
  pub saw : new.seen.words ≡ old.seen.words ++ sight (known.reference + HISTOGRAM_COUNTS) counts
  pub kept : (counts ≡ claim.at) ⊎ IsPurged claim.at new

-- ---- for units of a value

-- It has claimed and published nothing; or it has claimed one block, with buckets for the counts, without them for the sample of the value.
-- It has seen no fewer words of records, and found no fewer that lead to no block: so in a batch each item has found its own.
pub record ClaimsFor (known : Known) (value : ℤ) (old new : Actor) : Type 0 where
  pub segment : new.segment ≡ old.segment
  pub buckets : has_buckets known.spec ≡ true → (new.done ≡ old.done) ⊎ MountsOne known old new
  pub values : known.spec ≡ Sparse → (new.done ≡ old.done) ⊎ MakesSample known.reference value old new
  pub words : Grows old.seen.words new.seen.words
  pub ends : Grows old.seen.ends new.seen.ends

-- ---- for a batch

-- it has claimed what it may for each item, in order
abbrev pub ClaimsForEach : Known → List (ℤ × ℕ) → Actor → Actor → Type 0
ClaimsForEach known [] old new = new ≡ old
ClaimsForEach known (item ∷ rest) old new = (mid : Actor) × ClaimsFor known item.0 old mid × ClaimsForEach known rest mid new

-- it has claimed one block at most
abbrev pub ClaimsAtMostOne : Done → Done → Type 0
ClaimsAtMostOne old new = (new.claimed ≡ old.claimed) ⊎ ((claim : Claim) × (new.claimed ≡ old.claimed ++ claim ∷ []))

-- It has claimed what it may for each item of a batch, in order, and nothing after that: with buckets one block at most for all of them
-- together.
pub record ClaimsForAll (known : Known) (items : List (ℤ × ℕ)) (old new : Actor) : Type 0 where
  pub last : Actor
  pub each : ClaimsForEach known items old last
  pub behind : KeepsBlocks last new
  pub once : has_buckets known.spec ≡ true → ClaimsAtMostOne old.done new.done

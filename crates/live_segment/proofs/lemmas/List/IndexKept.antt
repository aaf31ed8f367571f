-- What a call of a recorder leaves of its index: what it has is still right.
use Rattle.std.proofs.Common.{◌≡◌, ℕ, ◌+◌, List, [], length, Option, Some, None, ap, ◌∙◌}
use Rattle.std.specs.Prelude.{Err}
use Rattle.segment_machine.specs.declared.actor.Actor.{Actor}
use Rattle.segment_machine.specs.declared.seen.Seen.{Seen}
use Rattle.segment_promises.specs.Onward.{Grows, SeesOn}
use Rattle.segment_promises.proofs.Growing.{grows_same}
use Rattle.segment_calls.specs.declared.asked.Asked.{Asked}
use Rattle.segment_calls.specs.declared.refusal.Refusal.{Refusal}
use Rattle.live_segment.specs.declared.list.index.KeyKind.{KeyKind}
use Rattle.live_segment.specs.declared.list.index.RecordIndex.{RecordIndex}
use Rattle.live_segment.specs.Alloc.Claims.{KeepsBlocks}
use Rattle.live_segment.specs.List.SharedCursors.{AnswersNext}
use Rattle.live_segment.specs.List.Index.{IsIndexed}
use Rattle.live_segment.specs.Hist.NewRecord.{HasMade, MakesRecord}
use Rattle.live_segment.specs.List.Records.{HasWalked}
use Rattle.live_segment.specs.Hist.Search.{HasSearched}
use Rattle.live_segment.proofs.lemmas.List.Indexed.{indexed_still}
use Rattle.live_segment.proofs.lemmas.Hist.Settled.{refused_around}

module _ {of_kind : KeyKind} (size : ℕ) (index : RecordIndex) where
  -- a recorder has seen more
  pub seen_on : (a b : Seen) → SeesOn a b → IsIndexed of_kind size a index → IsIndexed of_kind size b index
  seen_on a b more indexed = indexed_still of_kind a b more.words size index more.chain indexed

  -- a search
  pub searched_on : (a b : Actor) → HasSearched a b → IsIndexed of_kind size a.seen index → IsIndexed of_kind size b.seen index
  searched_on a b searched indexed = indexed_still of_kind a.seen b.seen searched.words size index searched.chain indexed

  -- an answer is given, or refused
  pub kept_on : (a b : Actor) → KeepsBlocks a b → IsIndexed of_kind size a.seen index → IsIndexed of_kind size b.seen index
  kept_on a b keeps indexed =
      indexed_still of_kind a.seen b.seen (grows_same a.seen.words b.seen.words keeps.words) size index (grows_same a.seen.chain b.seen.chain keeps.chain) indexed

  -- a record is made, and searched for
  pub made_on : (asked : Asked) (a b c : Actor) → HasMade asked a b → HasSearched b c → IsIndexed of_kind size a.seen index → IsIndexed of_kind size c.seen index
  made_on asked a b c made searched indexed =
      searched_on b c searched
      (indexed_still of_kind a.seen b.seen (grows_same a.seen.words b.seen.words (ap (λ (x : Actor). x.seen.words) made.view)) size index
      (grows_same a.seen.chain b.seen.chain (ap (λ (x : Actor). x.seen.chain) made.view)) indexed)

  -- or none could be
  pub refused_on : (asked : Asked) (cause : Refusal) (a b : Actor) → a.entries.running ≡ [] → MakesRecord asked a (Err cause) b → IsIndexed of_kind size a.seen index
      → IsIndexed of_kind size b.seen index
  refused_on asked cause a b rests allocates indexed =
      let (looks, room, chain, words, owed, not_other) = refused_around (4 + length asked.payload.items) a b cause rests allocates in
      indexed_still of_kind a.seen b.seen (grows_same a.seen.words b.seen.words words) size index (grows_same a.seen.chain b.seen.chain chain) indexed

-- ---- what it has seen of words

-- on a walk
pub walk_words : (a b : Actor) (given : List ℕ) → HasWalked a given b → Grows a.seen.words b.seen.words
walk_words a b given walked = grows_same a.seen.words b.seen.words (ap (λ (x : Actor). x.seen.words) walked.view)

-- at a shared cursor
pub answer_words : (cursor : ℕ) (a : Actor) (answer : Option ℕ) (b : Actor) → AnswersNext cursor a answer b → Grows a.seen.words b.seen.words
answer_words cursor a (Some reference) b is =
    grows_same a.seen.words b.seen.words (ap (λ (x : Actor). x.seen.words) is.view ∙ ap (λ (x : Actor). x.seen.words) is.before.same)
answer_words cursor a None b is =
    grows_same a.seen.words b.seen.words (ap (λ (x : Actor). x.seen.words) is.view ∙ ap (λ (x : Actor). x.seen.words) is.before.same)

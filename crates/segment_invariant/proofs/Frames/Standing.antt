-- What holds at an actor's place continues to hold while the actor knows no less, and while the blocks and the list that this depends on
-- stay.
use Rattle.segment_invariant.proofs.Prelude.Std.{◌≡◌, ◌≢◌, ℕ, ◌+◌, List, All, Contains, refl, sym, ap, ◌∙◌, subst, true, Some, slice_index, All-weaker}
use Rattle.segment_invariant.proofs.Prelude.Machine.{Dimensions, buckets_of, single_of, packed_bucket, Look, Place, Spent, Idle, Looking, Moving, CountLoaded, SumLoaded, Actor, Known, Own, Sighting, word_seen, is_off, purse, Seen}
use Rattle.segment_invariant.proofs.Prelude.Invariant.{Record, Anatomy, order_of, Piece, HasRecord, WasMet, StandsRight, HoldsOwn}
use Rattle.list_core.specs.Chain.{AreNeighbours}
use Rattle.segment_machine.specs.declared.place.Place.TheVariants.{FlagsLoaded, FreeLoaded, Raised, Sized, Marked, TailLoaded, Beaten, Linked, Losing, SampleLoaded, CursorLoaded, BehindCursor}
use Rattle.segment_invariant.specs.Seen.{IsReachedAt, HasPlain, HasOwn}
use Rattle.segment_invariant.specs.Invariant.{LooksRight}

-- what it rests on of the segment: the list, which may become longer, records, whose specs stay and whose single words once they are off, and
-- its words in the making
pub record Grounds (old new : Anatomy) (id : ℕ) : Type 0 where
  pub version : new.version ≡ old.version
  pub reached : (n at : ℕ) → IsReachedAt (order_of old) n at → IsReachedAt (order_of new) n at
  pub near : (at next : ℕ) → AreNeighbours (order_of old) at next → AreNeighbours (order_of new) at next
  pub recorded : (at : ℕ) (r : Record) → HasRecord old.pieces at r
      → (s : Record) × HasRecord new.pieces at s × (s.spec ≡ r.spec) × (is_off r.single ≡ true → s.single ≡ r.single)
  pub making : (at : ℕ) (words : List ℕ) → HasPlain old.pieces id at words → HasPlain new.pieces id at words

pub grounds_itself : (anatomy : Anatomy) (id : ℕ) → Grounds anatomy anatomy id
grounds_itself anatomy id = record {
  version = refl;
  reached = λ n at there. there;
  near = λ at next there. there;
  recorded = λ at r there. (r, there, refl, λ off. refl);
  making = λ at words there. there;
}

-- what it rests on of the actor: what it saw and knows, how often it came too late, and its blocks, each of which has one of the same place and type
pub record Follows (x y : Actor) : Type 0 where
  pub saw : (y.seen.free ≡ x.seen.free) × (y.seen.tails ≡ x.seen.tails) × (y.seen.singles ≡ x.seen.singles)
      × (y.seen.counts ≡ x.seen.counts) × (y.seen.cursors ≡ x.seen.cursors)
  pub late : (y.done.beaten ≡ x.done.beaten) × (y.done.lost ≡ x.done.lost)
  pub names : (known : Known) → Contains x.answers.names known → Contains y.answers.names known
  pub words : (s : Sighting) → Contains x.seen.words s → Contains y.seen.words s
  pub seen : (at word : ℕ) → word_seen x.seen.words at ≡ Some word → word_seen y.seen.words at ≡ Some word
  pub chain : (at : ℕ) → Contains x.seen.chain at → Contains y.seen.chain at
  pub own : (block : Own) → Contains x.hand.own block → (still : Own) × Contains y.hand.own still × (still.at ≡ block.at) × (still.tag ≡ block.tag)
  pub spent : x ≡ purse x.units.share → y ≡ purse y.units.share

pub follows_itself : (x : Actor) → Follows x x
follows_itself x = record {
  saw = (refl, refl, refl, refl, refl);
  late = (refl, refl);
  names = λ known there. there;
  words = λ s there. there;
  seen = λ at word there. there;
  chain = λ at there. there;
  own = λ block there. (block, there, refl, refl);
  spent = λ is. is;
}

module _ (shape : Dimensions) (old new : Anatomy) (id : ℕ) (x y : Actor) (grounds : Grounds old new id) (follows : Follows x y) where
  abbrev looks_on : (look : Look) → LooksRight x look → LooksRight y look
  looks_on look right = record {
    known = right.known;
    knows = (follows.names right.known right.knows.0, right.knows.1, right.knows.2);
    single = λ word is. subst (λ seen. Contains seen (record { at = look.histogram + 9; word = word })) (sym follows.saw.2) (right.single word is);
    counts = λ some_counts. follows.words _ (right.counts some_counts);
  }

  counts_on : (s : Sighting) → Contains x.seen.counts s → Contains y.seen.counts s
  counts_on s = subst (λ seen. Contains seen s) (sym follows.saw.3)

  cursors_on : (s : Sighting) → Contains x.seen.cursors s → Contains y.seen.cursors s
  cursors_on s = subst (λ seen. Contains seen s) (sym follows.saw.4)

  tails_on : (tail : ℕ) → Contains x.seen.tails tail → Contains y.seen.tails tail
  tails_on tail = subst (λ tails. Contains tails tail) (sym follows.saw.1)

  beaten_on : (at : ℕ) → IsReachedAt (order_of old) x.done.beaten at → IsReachedAt (order_of new) y.done.beaten at
  beaten_on at reached = subst (λ n. IsReachedAt (order_of new) n at) (sym follows.late.0) (grounds.reached x.done.beaten at reached)

  lost_on : (cursor at : ℕ) → IsReachedAt (order_of old) (slice_index x.done.lost cursor) at → IsReachedAt (order_of new) (slice_index y.done.lost cursor) at
  lost_on cursor at reached =
      subst (λ lost. IsReachedAt (order_of new) (slice_index lost cursor) at) (sym follows.late.1) (grounds.reached (slice_index x.done.lost cursor) at reached)

  pub stands_on : (place : Place) → StandsRight shape old id x place → StandsRight shape new id y place
  stands_on Spent stands = follows.spent stands
  stands_on Idle stands = tt
  stands_on FlagsLoaded stands = tt
  stands_on (FreeLoaded free) stands = follows.saw.0 ∙ stands
  stands_on (Raised at size wanted) stands = (stands.0, grounds.making at _ stands.1)
  stands_on (Sized at size wanted) stands = (stands.0, grounds.making at _ stands.1)
  stands_on (Marked at size) stands = (stands.0, grounds.making at _ stands.1)
  stands_on (TailLoaded tail) stands = (tails_on tail stands.0, beaten_on tail stands.1)
  stands_on (Beaten tail behind) stands = (grounds.near tail behind stands.0, tails_on tail stands.1, beaten_on behind stands.2)
  stands_on (Linked at tail) stands = grounds.near tail at stands
  stands_on (Looking look) stands = looks_on look stands
  stands_on (Losing look at) (right, there, apart, (block, mine, place, tag)) =
      let (still, has, same, kind) = follows.own block mine in
      (looks_on look right, there, apart, (still, has, same ∙ place, kind ∙ tag))
  stands_on (Moving look bucket units) (right, one, there, least, most, (r, stands, packed, off), apart) =
      let (s, still, kind, same) = grounds.recorded look.histogram r stands in (
        looks_on look right,
        grounds.version ∙ one,
        there,
        least,
        most,
        (
          s,
          still,
          (λ i. packed_bucket (single_of 1 (buckets_of (kind i)) (same off i))) ∙ packed,
          ap is_off (same off) ∙ off,
        ),
        subst (All (λ s. s.at ≢ look.counts + 4 + bucket)) (sym follows.saw.3) apart,
      )
  stands_on (CountLoaded look bucket count) ((right, there, off), below, saw) = ((looks_on look right, there, off), below, counts_on _ saw)
  stands_on (SampleLoaded reference count) ((histogram, known, value, (named, refers, kind), met, (tag, of, valued, small)), saw) = (
    (
      histogram,
      known,
      value,
      (follows.names known named, refers, kind),
      follows.chain reference met,
      (follows.seen _ _ tag, follows.seen _ _ of, follows.seen _ _ valued, small),
    ),
    counts_on _ saw,
  )
  stands_on (SumLoaded reference sum) (known, has, same) = (known, follows.names known has, same)
  stands_on (CursorLoaded cursor at) stands = (lost_on cursor at stands.0, cursors_on _ stands.1)
  stands_on (BehindCursor cursor at next) stands = (grounds.near at next stands.0, cursors_on _ stands.1, lost_on cursor at stands.2)

-- ---- its blocks

-- blocks of an actor whose place stays right are what they were
pub own_stays : (shape : Dimensions) (old new : Anatomy) (id : ℕ) → ((own : Own) → HasOwn old.pieces id own → HasOwn new.pieces id own)
    → (list : List Own) → All (HoldsOwn shape old.pieces id) list → All (HoldsOwn shape new.pieces id) list
own_stays shape old new id stays list all = All-weaker (HoldsOwn shape old.pieces id) (HoldsOwn shape new.pieces id)
    (λ own holds. record { stands = stays own holds.stands; placed = holds.placed; room = holds.room; tagged = holds.tagged; ends = holds.ends })
    list all

-- ---- samples that were visited

-- an actor that has seen more has visited them
pub met_more : (pieces : List Piece) (old new : Seen) → ((at : ℕ) → Contains old.chain at → Contains new.chain at)
    → ((at word : ℕ) → word_seen old.words at ≡ Some word → word_seen new.words at ≡ Some word) → (s : Sighting) → WasMet pieces old s → WasMet pieces new s
met_more pieces old new chain words s met at x there is =
    let (walked, (tag, of, valued, small)) = met at x there is in
    (chain at walked, (words _ _ tag, words _ _ of, words _ _ valued, small))

-- The blocks that open segments, by their words: a chain of claimed blocks, each of which holds what it was given.
use Rattle.segment_invariant.proofs.Prelude.Std.{◌≡◌, ◌≢◌, ℕ, List, Some, refl, subst, All, Contains, some, get_elem?}
use Rattle.segment_invariant.proofs.Prelude.Machine.{Dimensions, head_of, IsShown, Spec, buckets_of, record_buckets, IsChain, State}
use Rattle.segment_invariant.proofs.Prelude.Invariant.{Record, histogram, Piece, Anatomy, layout_of, order_of, noted_held, all_held, HasRecord, IsFirst, StandsAs, ClaimedRight, CountsNothing, IsLawfulRecord, Invariant}
use Rattle.alloc_core.specs.Layout.{render}
use Rattle.list_core.proofs.Chains.{linked_of}
use Rattle.segment_machine.specs.declared.actor.Made.TheVariants as made
use Rattle.segment_invariant.specs.Seen.{HoldsAs}
use Rattle.segment_invariant.specs.Keeps.{IsOpening}
use Rattle.segment_invariant.proofs.Frames.LaidOut.{laid_out}
use Rattle.segment_invariant.proofs.Consistency.Chained.{chained}
use Rattle.segment_invariant.proofs.Consistency.PassedOver.{told, told_shown, told_stands}
use Rattle.segment_invariant.proofs.Consistency.Specs.{buckets_are}
use Rattle.segment_invariant.proofs.Consistency.OneChain.{one_chain}
use Rattle.segment_invariant.proofs.Consistency.Sums.{published_at, noted_is}

-- the words of such blocks
abbrev pub opened_words : Dimensions → Anatomy → List ℕ
opened_words shape opened = render shape (layout_of opened)

pub record Opens (shape : Dimensions) (opened : Anatomy) : Type 0 where
  pub shown : IsShown shape (opened_words shape opened) (layout_of opened)
  pub blocks : (k : ℕ) (piece : Piece) → get_elem? opened.pieces k ≡ some piece → ClaimedRight piece
  pub chained : IsChain (opened_words shape opened) (head_of (opened_words shape opened)) (order_of opened)
  pub standing : All (λ l. StandsAs opened.pieces l l.made) opened.records
  -- a histogram's record is on the list
  pub listed : (j : ℕ) (p : Piece) (r : Record) → get_elem? opened.pieces j ≡ some p → p.body ≡ histogram r
      → Contains opened.records (record { reference = p.at; made = Some (made.Histogram r.name r.spec) })
  -- of the records of a name only the first counts
  pub noted : (name : List ℕ) (kind : Spec) (at : ℕ) (r : Record) → IsFirst opened.records name kind at → HasRecord opened.pieces at r → r.name ≡ name
      → all_held (noted_held name) opened.pieces ≡ r.noted
  pub later : (at other : ℕ) (r : Record) (first : Spec) → HasRecord opened.pieces at r → IsFirst opened.records r.name first other → other ≢ at
      → CountsNothing r
  -- a block that holds what a record would says how many buckets that has
  pub many : (at : ℕ) (r : Record) → HoldsAs opened.pieces at (histogram r) → IsLawfulRecord opened.version shape.page r
      → record_buckets (opened_words shape opened) at ≡ buckets_of r.spec

-- the blocks of a kept state are of this kind
of_kept : (shape : Dimensions) (opened : Anatomy) (state : State) (kept : Invariant shape opened state) → Opens shape kept.anatomy
of_kept shape opened state kept = record {
  shown = record { shows = refl; sound = kept.shown.sound };
  blocks = kept.blocks;
  chained = subst (λ (words : List ℕ). IsChain words (head_of words) (order_of kept.anatomy)) kept.shown.shows (chained shape opened state kept);
  standing = kept.list.standing;
  listed = λ j p r there is. kept.list.alone p.at (histogram r) (published_at shape opened state.words (laid_out shape opened state kept) j p (histogram r) there is refl (λ block e. cc e));
  noted = λ name kind at r first has named. noted_is shape opened state.words (laid_out shape opened state kept) name kind at r first has named;
  later = kept.records.later;
  many = λ at r holds lawful. subst (λ (words : List ℕ). record_buckets words at ≡ buckets_of r.spec) kept.shown.shows
      (buckets_are shape state.words (told shape opened state.words (laid_out shape opened state kept) at (histogram r) holds) (told_shown shape opened state.words (laid_out shape opened state kept) at (histogram r) holds)
      kept.anatomy.version at r (told_stands shape opened state.words (laid_out shape opened state kept) at (histogram r) holds) lawful);
}

pub opens_as : (shape : Dimensions) (opened : Anatomy) → IsOpening shape opened → Opens shape opened
opens_as shape opened (start, kept, same) = subst (Opens shape) same (of_kept shape opened start kept)

-- their words have one chain
pub front_is : (shape : Dimensions) (opened : Anatomy) → Opens shape opened → (front : List ℕ)
    → IsChain (opened_words shape opened) (head_of (opened_words shape opened)) front → front ≡ order_of opened
front_is shape opened opens front chain =
    let words = opened_words shape opened in
    one_chain words front (order_of opened) (linked_of words front (head_of words) chain) (linked_of words (order_of opened) (head_of words) opens.chained)

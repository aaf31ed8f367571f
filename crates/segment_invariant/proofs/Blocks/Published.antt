-- Blocks among others: one gets its next, and blocks of one's own are published.
use Rattle.segment_invariant.proofs.Prelude.Std.{◌≡◌, ◌≢◌, ◌⊎◌, ℕ, ◌+◌, ◌<◌, ◌≤◌, ℤ, true, false, List, length, set, inl, inr, ⊎_elim, refl, sym, ap, ◌∙◌, subst, arith, All, slice_index, bytes_eq, int_eq, w64, cast_signed, some, none, some-injective, some-ne-none, dite, ℕ_discrete, get_elem?, set-get_or, at_set, set_else}
use Rattle.segment_invariant.proofs.Prelude.Machine.{Dimensions, IsShown, Own, units_in}
use Rattle.segment_invariant.proofs.Prelude.Invariant.{Record, Counts, Sample, Body, queue, plain, held, histogram, counts, sample, other, words_of, is_claimed, Piece, extent_of, Anatomy, layout_of, free_of, claims_of, units_held, marks_held, noted_held, form_at, at_bucket, Stands, StandStill}
use Rattle.alloc_core.proofs.Owners.{set_at}
use Rattle.segment_invariant.specs.Body.{own_words}
use Rattle.segment_invariant.specs.Ledger.{sum_held, sum_mark_held}
use Rattle.segment_invariant.proofs.Blocks.Pieces.{piece_word, not_first, with_piece, piece_stored, free_with, stands_beside, stood_beside, claims_same, held_same, amounts_same}
use Rattle.segment_invariant.proofs.Allocating.Claimers.{still_put, AllClaimedRight, right_put}
use Rattle.segment_invariant.proofs.Frames.Growth.{with_next, same_next}
use Rattle.segment_invariant.proofs.Frames.Anatomies.{SameHoldings}
use Rattle.segment_invariant.proofs.Blocks.Bodies.{IsBlank}
use Rattle.segment_invariant.proofs.Lists.FewTerms.{if_nothing, keyed_none}

-- ---- what blocks hold

-- one block holds what another does
abbrev pub SameHeld : ℕ → Body → Body → Type 0
SameHeld version p q =
    ((name : List ℕ) (key : ℤ) → units_held version name key q ≡ units_held version name key p)
    × ((name : List ℕ) (key : ℤ) → marks_held version name key q ≡ marks_held version name key p)
    × ((name : List ℕ) → sum_held name q ≡ sum_held name p)
    × ((name : List ℕ) → sum_mark_held name q ≡ sum_mark_held name p)
    × ((name : List ℕ) → noted_held name q ≡ noted_held name p)

held_itself : (version : ℕ) (p : Body) → SameHeld version p p
held_itself version p = (λ name key. refl, λ name key. refl, λ name. refl, λ name. refl, λ name. refl)

-- with another next it holds the same
pub next_held : (version : ℕ) (body : Body) (n : ℕ) → SameHeld version body (with_next body n)
next_held version (queue next) n = held_itself version (queue next)
next_held version (plain words) n = held_itself version (plain words)
next_held version (held block) n = held_itself version (held block)
next_held version (histogram r) n = held_itself version (histogram r)
next_held version (counts c) n = held_itself version (counts c)
next_held version (sample s) n = held_itself version (sample s)
next_held version (other size tag next payload) n = held_itself version (other size tag next payload)

-- words that nobody has claimed, and the queue block, hold nothing
pub unclaimed_held : (version : ℕ) (body : Body) (n : ℕ) → is_claimed body ≡ false → SameHeld version body (queue n)
unclaimed_held version (queue next) n is = held_itself version (queue next)
unclaimed_held version (plain words) n is = held_itself version (plain words)
unclaimed_held version (held block) n is = absurd (cc is)
unclaimed_held version (histogram r) n is = absurd (cc is)
unclaimed_held version (counts c) n is = absurd (cc is)
unclaimed_held version (sample s) n is = absurd (cc is)
unclaimed_held version (other size tag next payload) n is = absurd (cc is)

-- nor does a new record, a new counts block or a new sample
pub record_held : (version : ℕ) (own : Own) (r : Record) → IsBlank (form_at version r) → r.sum ≡ 0 → r.sum_mark ≡ 0 → r.noted ≡ 0
    → SameHeld version (held own) (histogram r)
record_held version own r blank sum mark noted = (
  λ name key. if_nothing (bytes_eq r.name name) _ _ (ap (λ o. at_bucket r.spec key o (units_in (form_at version r))) blank.unpacked),
  λ name key. if_nothing (bytes_eq r.name name) _ _ (ap (λ o. at_bucket r.spec key o r.mark) blank.unpacked),
  λ name. if_nothing (bytes_eq r.name name) _ _ (ap (cast_signed w64) sum),
  λ name. if_nothing (bytes_eq r.name name) _ _ (ap (cast_signed w64) mark),
  λ name. if_nothing (bytes_eq r.name name) _ _ noted,
)

pub counts_held : (version : ℕ) (own : Own) (c : Counts) → All (λ n. n ≡ 0) c.units × All (λ n. n ≡ 0) c.marks → SameHeld version (held own) (counts c)
counts_held version own c (units, marks) = (
  λ name key. if_nothing (bytes_eq c.name name) _ _ (keyed_none c.spec key c.units units),
  λ name key. if_nothing (bytes_eq c.name name) _ _ (keyed_none c.spec key c.marks marks),
  λ name. refl,
  λ name. refl,
  λ name. refl,
)

pub sample_held : (version : ℕ) (own : Own) (s : Sample) → s.units ≡ 0 → s.mark ≡ 0 → SameHeld version (held own) (sample s)
sample_held version own s units marks = (
  λ name key. if_nothing (bytes_eq s.name name) _ _ (if_nothing (int_eq s.value key) _ _ units),
  λ name key. if_nothing (bytes_eq s.name name) _ _ (if_nothing (int_eq s.value key) _ _ marks),
  λ name. refl,
  λ name. refl,
  λ name. refl,
)

-- so all blocks together hold what they held
pub holdings_set : (version : ℕ) (pieces : List Piece) (k : ℕ) (p q : Piece) → get_elem? pieces k ≡ some p → SameHeld version p.body q.body
    → SameHoldings version pieces (set pieces k q)
holdings_set version pieces k p q there (units, marks, sums, sum_marks, noted) = record {
  units = λ name key. held_same (units_held version name key) pieces k p q there (units name key);
  marks = λ name key. held_same (marks_held version name key) pieces k p q there (marks name key);
  sums = λ name. amounts_same (sum_held name) pieces k p q there (sums name);
  sum_marks = λ name. amounts_same (sum_mark_held name) pieces k p q there (sum_marks name);
  noted = λ name. held_same (noted_held name) pieces k p q there (noted name);
}

pub holdings_both : (version : ℕ) (a b c : List Piece) → SameHoldings version a b → SameHoldings version b c → SameHoldings version a c
holdings_both version a b c one two = record {
  units = λ name key. two.units name key ∙ one.units name key;
  marks = λ name key. two.marks name key ∙ one.marks name key;
  sums = λ name. two.sums name ∙ one.sums name;
  sum_marks = λ name. two.sum_marks name ∙ one.sum_marks name;
  noted = λ name. two.noted name ∙ one.noted name;
}

-- ---- a block gets its next

module _ (pieces : List Piece) (k : ℕ) (p q : Piece) (there : get_elem? pieces k ≡ some p) (free : p.owner ≡ none) (still_free : q.owner ≡ none)
    (place : q.at ≡ p.at) (n : ℕ) (claimed : is_claimed q.body ≡ is_claimed p.body) (kind : is_claimed p.body ≡ true → q.body ≡ with_next p.body n) where
  pub next_stays : (at : ℕ) (body : Body) → is_claimed body ≡ true → Stands pieces at none body
      → (m : ℕ) × Stands (set pieces k q) at none (with_next body m)
  next_stays at body is (i, here) = dite (ℕ_discrete i k)
      (λ same.
      let x : Piece = record { at = at; owner = none; body = body } in
      let one : p ≡ x = some-injective p x (sym there ∙ (ap (get_elem? pieces) (sym same) ∙ here)) in
      let at_is : q.at ≡ at = place ∙ ap (λ (z : Piece). z.at) one in
      let body_is : q.body ≡ with_next body n =
      kind (ap (λ (z : Piece). is_claimed z.body) one ∙ is) ∙ ap (λ (z : Piece). with_next z.body n) one in
      (n, (k, set_at pieces k p q there ∙ (λ j. some (record { at = at_is j; owner = still_free j; body = body_is j })))))
      (λ ne. let (m, next_is) = same_next body in
      (m, subst (λ (b : Body). Stands (set pieces k q) at none b) (sym next_is) (i, set_else pieces k i q ne ∙ here)))

  pub next_came : (at : ℕ) (body : Body) → is_claimed body ≡ true → Stands (set pieces k q) at none body
      → (before : Body) × (m : ℕ) × Stands pieces at none before × (body ≡ with_next before m)
  next_came at body is (i, here) = ⊎_elim
      (λ t.
      let at_is : p.at ≡ at = sym place ∙ ap (λ (z : Piece). z.at) t.1 in
      let body_is : q.body ≡ body = ap (λ (z : Piece). z.body) t.1 in (
        p.body,
        n,
        (k, there ∙ (λ j. some (record { at = at_is j; owner = free j; body = p.body }))),
        sym body_is ∙ kind (sym claimed ∙ (ap is_claimed body_is ∙ is)),
      ))
      (λ t. let (m, next_is) = same_next body in (body, m, (i, t.1), sym next_is))
      (at_set pieces k i q (record { at = at; owner = none; body = body }) here)

  pub next_owned : (who at : ℕ) (body : Body) → Stands pieces at (some who) body → Stands (set pieces k q) at (some who) body
  next_owned who at body = stands_beside pieces k p q there at (some who) body
      (λ same. some-ne-none who (ap (λ (z : Piece). z.owner) same ∙ free))

  pub next_was_owned : (who at : ℕ) (body : Body) → Stands (set pieces k q) at (some who) body → Stands pieces at (some who) body
  next_was_owned who at body = stood_beside pieces k p q there at (some who) body
      (λ same. some-ne-none who (ap (λ (z : Piece). z.owner) same ∙ still_free))

-- ---- blocks of one's own are published

-- Blocks of somebody's own become others with the same words, without owner.
pub record Publishes (shape : Dimensions) (id : ℕ) (old : Anatomy) (pieces : List Piece) (added : ℕ → Body → Type 0) : Type 0 where
  pub stays : (at : ℕ) (body : Body) → Stands old.pieces at none body → Stands pieces at none body
  pub came : (at : ℕ) (body : Body) → Stands pieces at none body → Stands old.pieces at none body ⊎ added at body
  pub here : (at : ℕ) (body : Body) → added at body → Stands pieces at none body
  pub was : (at : ℕ) (body : Body) → added at body
      → (block : Own) × Stands old.pieces at (some id) (held block) × (length (words_of body) ≡ length (own_words block))
  pub others : (who at : ℕ) (body : Body) → who ≢ id → Stands old.pieces at (some who) body → Stands pieces at (some who) body
  pub mine : (at : ℕ) (body : Body) → ((b : Body) → added at b → ⊥) → Stands old.pieces at (some id) body → Stands pieces at (some id) body
  pub owned : (who at : ℕ) (body : Body) → Stands pieces at (some who) body → Stands old.pieces at (some who) body
  pub still : StandStill old.pieces pieces
  pub blocks : AllClaimedRight old.pieces → AllClaimedRight pieces
  pub claims : claims_of pieces ≡ claims_of old.pieces
  pub free : free_of (record old { pieces = pieces }) ≡ free_of old
  pub shown : (words : List ℕ) → IsShown shape words (layout_of old) → IsShown shape words (layout_of (record old { pieces = pieces }))
  pub holdings : SameHoldings old.version old.pieces pieces

-- a block with the same words in the place of another
pub relabelled : (shape : Dimensions) (words : List ℕ) (anatomy : Anatomy) (k : ℕ) (p q : Piece) → IsShown shape words (layout_of anatomy)
    → get_elem? anatomy.pieces k ≡ some p → k ≢ 0 → 0 < extent_of p → words_of q.body ≡ words_of p.body → q.at ≡ p.at
    → IsShown shape words (layout_of (with_piece anatomy k q))
relabelled shape words anatomy k p q shown there behind_first some_words same place =
    let v : ℕ = slice_index (words_of p.body) 0 in
    subst (λ (ws : List ℕ). IsShown shape ws (layout_of (with_piece anatomy k q)))
    (ap (set words (p.at + 0)) (sym (piece_word shape words anatomy shown k p 0 there some_words)) ∙ set-get_or words (p.at + 0) 0)
    (piece_stored shape words anatomy k p q 0 v shown there behind_first some_words (same ∙ sym (set-get_or (words_of p.body) 0 0)) place)

-- one of them
abbrev pub Only : ℕ → Body → ℕ → Body → Type 0
Only place is at body = (at ≡ place) × (body ≡ is)

module _ (shape : Dimensions) (id : ℕ) (old : Anatomy) (block : Own) (body : Body) (stands : Stands old.pieces block.at (some id) (held block))
    (same_words : words_of body ≡ own_words block) (claimed : is_claimed body ≡ true)
    (same_held : SameHeld old.version (held block) body) where
  abbrev k : ℕ
  k = stands.0

  abbrev p : Piece
  p = record { at = block.at; owner = some id; body = held block }

  abbrev q : Piece
  q = record { at = block.at; owner = none; body = body }

  pub one_published : Publishes shape id old (set old.pieces k q) (Only block.at body)
  one_published = record {
    stays = λ at b. stands_beside old.pieces k p q stands.1 at none b (λ same. some-ne-none id (sym (ap (λ (z : Piece). z.owner) same)));
    came = λ at b here. ⊎_elim
        (λ t. inr (sym (ap (λ (z : Piece). z.at) t.1), sym (ap (λ (z : Piece). z.body) t.1)))
        (λ t. inl (here.0, t.1))
        (at_set old.pieces k here.0 q (record { at = at; owner = none; body = b }) here.1);
    here = λ at b is. (k, set_at old.pieces k p q stands.1 ∙ (λ j. some (record { at = sym is.0 j; owner = none; body = sym is.1 j })));
    was = λ at b is.
        (block, subst (λ (n : ℕ). Stands old.pieces n (some id) (held block)) (sym is.0) stands, ap (λ (z : Body). length (words_of z)) is.1 ∙ ap length same_words);
    others = λ who at b ne. stands_beside old.pieces k p q stands.1 at (some who) b (λ same. ne (some-injective who id (ap (λ (z : Piece). z.owner) same)));
    mine = λ at b none_added. stands_beside old.pieces k p q stands.1 at (some id) b
        (λ same. none_added body (ap (λ (z : Piece). z.at) same, refl));
    owned = λ who at b. stood_beside old.pieces k p q stands.1 at (some who) b (λ same. some-ne-none who (ap (λ (z : Piece). z.owner) same));
    still = still_put old.pieces k p q stands.1 refl;
    blocks = λ all.
        let right = all k p stands.1 refl in
        right_put old.pieces k q
        (λ is. (ap (λ (ws : List ℕ). slice_index ws 0) same_words ∙ (right.0 ∙ ap length (sym same_words)), subst (λ (ws : List ℕ). 5 ≤ length ws) (sym same_words) right.1, inl refl)) all;
    claims = claims_same old.pieces k p q stands.1 claimed refl (ap length same_words);
    free = free_with old k p q stands.1 (ap length same_words);
    shown = λ words shown. relabelled shape words old k p q shown stands.1 (not_first shape words old shown k p id stands.1 refl) (omega arith) same_words refl;
    holdings = holdings_set old.version old.pieces k p q stands.1 same_held;
  }

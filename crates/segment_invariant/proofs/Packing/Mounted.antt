-- A counts block is mounted: the record names it, and it has no owner any more. Nothing is counted in it yet.
use Rattle.segment_invariant.proofs.Prelude.Std.{◌≡◌, ◌≢◌, ℕ, ◌+◌, ◌-◌, ◌*◌, ◌≤◌, List, [], length, set, inl, inr, ⊎_elim, refl, sym, ap, ◌∙◌, arith, some, none, some-injective, some-ne-none, get_elem?, Bool, if◌then◌else◌, Option, Some, None, eq-eqb, length-replicate}
use Rattle.segment_invariant.proofs.Prelude.Machine.{SingleWord, Empty, Packed, Disabled, FrozenEmpty, Frozen, packed_bucket, units_packed, units_in, Dimensions, buckets_of, Own, State}
use Rattle.segment_invariant.proofs.Prelude.Invariant.{form_at, IsCountsOf, Record, Counts, Body, held, histogram, counts, words_of, Piece, Anatomy, free_of, Stands, HasRecord, Invariant}
use Rattle.segment_invariant.proofs.Lists.FewTerms.{zero_index}
use Rattle.segment_invariant.specs.Seen.{HasOwn}
use Rattle.segment_invariant.proofs.Blocks.Bodies.{counts_of, counts_words_are, counts_zeros}
use Rattle.segment_invariant.proofs.Blocks.Pieces.{one_index, stands_beside}
use Rattle.segment_invariant.proofs.Blocks.Published.{counts_held, holdings_set, holdings_both, Publishes, Only, one_published}
use Rattle.segment_invariant.proofs.Frames.Anatomies.{SameHoldings}
use Rattle.segment_invariant.proofs.Frames.Onward.{Onward}
use Rattle.segment_invariant.proofs.Changes.Words.{Turns, behind, stands_still, turned_onward, turned_free, word_turns}

-- the units of a word are those of its packed bucket
packed_here : (form : Option SingleWord) (i : ℕ) → packed_bucket form ≡ Some i → units_in form ≤ units_packed form i
packed_here (Some (Packed bucket units)) i is =
    let same : bucket ≡ i = cc is in
    let here = ap (λ (b : Bool). if b then units else 0) (eq-eqb bucket i same) in omega (arith, here)
packed_here (Some Empty) i is = omega arith
packed_here (Some (Disabled packed)) i is = omega arith
packed_here (Some FrozenEmpty) i is = omega arith
packed_here (Some (Frozen bucket units)) i is =
    let same : bucket ≡ i = cc is in
    let here = ap (λ (b : Bool). if b then units else 0) (eq-eqb bucket i same) in omega (arith, here)
packed_here None i is = omega arith

-- the record with these counts
abbrev pub with_counts : Record → ℕ → Record
with_counts r at = record r { counts = at }

module _ (shape : Dimensions) (opened : Anatomy) (state : State) (kept : Invariant shape opened state) (id h : ℕ) (r : Record) (own : Own)
    (stands : HasRecord kept.anatomy.pieces h r) (unmounted : r.counts ≡ 0) (holds : HasOwn kept.anatomy.pieces id own) (tag : own.tag ≡ 2)
    (bare : own.payload ≡ []) (room : 4 + 2 * buckets_of r.spec ≤ own.size) where
  abbrev pub s : Record
  s = with_counts r own.at

  abbrev pub c : Counts
  c = counts_of own h r.name r.spec

  -- its counts reference is 0 before
  pub turns : Turns kept.anatomy.version (histogram r) (histogram s) 8 own.at
  turns = word_turns kept.anatomy.version (histogram r) (histogram s) 8 own.at refl refl refl (omega arith) (omega arith)
      (s, refl, record { is = refl; counts = λ there. absurd (there unmounted); single = inl refl; mark = omega arith; noted = omega arith })

  -- with the record alone
  abbrev pub half : Anatomy
  half = behind shape opened state kept h (histogram r) (histogram s) 8 own.at stands turns

  pub own_half : HasOwn half.pieces id own
  own_half = stands_still shape opened state kept h (histogram r) (histogram s) 8 own.at stands turns own.at (some id) (held own) holds (inr (λ e. cc e))

  abbrev pub pieces : List Piece
  pieces = set half.pieces own_half.0 (record { at = own.at; owner = none; body = counts c })

  abbrev pub new : Anatomy
  new = record kept.anatomy { pieces = pieces }

  -- the own block is published as the counts
  pub published : Publishes shape id half pieces (Only own.at (counts c))
  published = one_published shape id half own (counts c) own_half (counts_words_are own h r.name r.spec tag bare room) refl
      (counts_held kept.anatomy.version own c (counts_zeros own h r.name r.spec tag bare room))

  -- published blocks continue, and the counts are added to them
  pub onward : Onward kept.anatomy new (Only own.at (counts c))
  onward =
      let on = turned_onward shape opened state kept h (histogram r) (histogram s) 8 own.at stands turns in
      record {
        version = refl;
        goes = λ at body claimed there. let (then_is, still, goes) = on.goes at body claimed there in (then_is, published.stays at then_is still, goes);
        came = λ at body claimed there. ⊎_elim
            (λ was. ⊎_elim (λ t. inl t) (λ none_came. absurd none_came) (on.came at body claimed was))
            (λ new_one. inr new_one)
            (published.came at body there);
        apart = λ at place j k body before new_one there lt below same.
            let (block, was, long) = published.was at body new_one in
            let spot : at ≡ own.at = new_one.0 in
            let body_is : length (words_of body) ≡ length (words_of (held own)) =
            ap (λ (z : Body). length (words_of z)) new_one.1 ∙ ap length (counts_words_are own h r.name r.spec tag bare room) in
            let index = one_index shape state.words kept.anatomy kept.shown holds.0 there.0 _ _ j k holds.1 there.1 (omega (arith, lt, body_is)) below
            (ap (λ (n : ℕ). n + j) (sym spot) ∙ same) in
            some-ne-none id (ap (λ (p : Piece). p.owner) (some-injective _ _ (sym holds.1 ∙ (ap (get_elem? kept.anatomy.pieces) index ∙ there.1))));
      }

  -- all blocks hold what they held
  pub holdings : SameHoldings kept.anatomy.version kept.anatomy.pieces pieces
  holdings = holdings_both kept.anatomy.version kept.anatomy.pieces half.pieces pieces
      (holdings_set kept.anatomy.version kept.anatomy.pieces stands.0 _ (record { at = h; owner = none; body = histogram s }) stands.1
      (λ name key. refl, λ name key. refl, λ name. refl, λ name. refl, λ name. refl))
      published.holdings

  pub free_same : free_of new ≡ free_of kept.anatomy
  free_same = published.free ∙ turned_free shape opened state kept h (histogram r) (histogram s) 8 own.at stands turns

  -- the blocks of others stay, and so do its own other ones
  pub others_stay : (other at : ℕ) (body : Body) → other ≢ id → Stands kept.anatomy.pieces at (some other) body → Stands pieces at (some other) body
  others_stay other at body ne there = published.others other at body ne (owned_half other at body there)
    where
      owned_half : (who at : ℕ) (body : Body) → Stands kept.anatomy.pieces at (some who) body → Stands half.pieces at (some who) body
      owned_half who at body there = stands_beside kept.anatomy.pieces stands.0 _ _ stands.1 at (some who) body
          (λ same. some-ne-none who (ap (λ (z : Piece). z.owner) same)) there

  -- the counts are those of the record
  pub counts_right : IsCountsOf kept.anatomy.version h s c
  counts_right =
      let n : ℕ = buckets_of r.spec in
      let zeros = counts_zeros own h r.name r.spec tag bare room in
      let units = length-replicate {A = ℕ} n 0 in
      let rest = length-replicate {A = ℕ} (own.size - 4 - (n + n)) 0 in
      record {
        mine = refl;
        named = refl;
        same = refl;
        units = units;
        marks = units;
        sized = omega (arith, units, rest, room);
        packed = λ i is. zero_index c.marks i zeros.1;
        unused = λ on. zeros;
        mark = λ one i is.
            let most = kept.records.packed h r stands unmounted in
            let here = packed_here (form_at kept.anatomy.version r) i is in
            omega (arith, most, here);
      }

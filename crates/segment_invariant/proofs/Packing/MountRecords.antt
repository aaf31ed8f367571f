-- When a counts block is mounted, records stay valid: the record names the counts, and these name it.
use Rattle.segment_invariant.proofs.Prelude.Std.{◌≡◌, ◌≢◌, ◌⊎◌, ℕ, ◌+◌, ◌*◌, ◌≤◌, List, [], inl, inr, ⊎_elim, refl, sym, ap, ◌∙◌, subst, arith, some, none}
use Rattle.segment_invariant.proofs.Prelude.Machine.{Dimensions, Spec, Sparse, buckets_of, Own, units_in, State}
use Rattle.segment_invariant.proofs.Prelude.Invariant.{Record, Counts, Sample, Body, histogram, counts, sample, Piece, Anatomy, form_at, Stands, HasRecord, HasCounts, HasSample, IsFirst, IsLawfulRecord, IsCountsOf, CountsNothing, RecordsAreKept, Invariant}
use Rattle.segment_invariant.specs.Seen.{HasOwn}
use Rattle.segment_invariant.proofs.Blocks.Pieces.{one_stands, piece_from}
use Rattle.segment_invariant.proofs.Blocks.Published.{Publishes, Only}
use Rattle.segment_invariant.proofs.Changes.Sums.{SameSum}
use Rattle.segment_invariant.proofs.Changes.Words.{Turns, stands_then, stands_still, came_from}
use Rattle.segment_invariant.proofs.Packing.Mounted as mounted
use Rattle.segment_invariant.proofs.Frames.Anew.{lawful_anew}

module _ (shape : Dimensions) (opened : Anatomy) (state : State) (kept : Invariant shape opened state) (id h : ℕ) (r : Record) (own : Own)
    (stands : HasRecord kept.anatomy.pieces h r) (unmounted : r.counts ≡ 0) (holds : HasOwn kept.anatomy.pieces id own) (tag : own.tag ≡ 2)
    (bare : own.payload ≡ []) (room : 4 + 2 * buckets_of r.spec ≤ own.size) where
  abbrev version : ℕ
  version = kept.anatomy.version

  abbrev s : Record
  s = mounted.s shape opened state kept id h r own stands unmounted holds tag bare room

  abbrev c : Counts
  c = mounted.c shape opened state kept id h r own stands unmounted holds tag bare room

  abbrev turns : Turns version (histogram r) (histogram s) 8 own.at
  turns = mounted.turns shape opened state kept id h r own stands unmounted holds tag bare room

  abbrev pieces : List Piece
  pieces = mounted.pieces shape opened state kept id h r own stands unmounted holds tag bare room

  abbrev half : Anatomy
  half = mounted.half shape opened state kept id h r own stands unmounted holds tag bare room

  abbrev published : Publishes shape id half pieces (Only own.at (counts c))
  published = mounted.published shape opened state kept id h r own stands unmounted holds tag bare room

  -- a block is the record, or its counts, or was there
  came : (at : ℕ) (body : Body) → Stands pieces at none body
      → Stands kept.anatomy.pieces at none body ⊎ ((at ≡ h) × (body ≡ histogram s)) ⊎ ((at ≡ own.at) × (body ≡ counts c))
  came at body there = ⊎_elim
      (λ was. ⊎_elim (λ t. inl t.0) (λ t. inr (inl t)) (came_from shape opened state kept h (histogram r) (histogram s) 8 own.at stands turns at none body was))
      (λ new_one. inr (inr new_one))
      (published.came at body there)

  -- the others stay
  stays : (at : ℕ) (body : Body) → Stands kept.anatomy.pieces at none body → (at ≢ h) ⊎ (body ≢ histogram r) → Stands pieces at none body
  stays at body there apart =
      published.stays at body (stands_still shape opened state kept h (histogram r) (histogram s) 8 own.at stands turns at none body there apart)

  record_now : HasRecord pieces h s
  record_now = published.stays h (histogram s) (stands_then shape opened state kept h (histogram r) (histogram s) 8 own.at stands turns)

  counts_now : HasCounts pieces own.at c
  counts_now = published.here own.at (counts c) (refl, refl)

  -- no published block is at 0, nor one of its own
  some_place : (at : ℕ) (owner : _) (body : Body) → Stands kept.anatomy.pieces at owner body → at ≢ 0
  some_place at owner body there zero = ⊎_elim (λ twelve. omega (arith, twelve, zero)) (λ more. omega (arith, more, zero))
      (piece_from shape state.words kept.anatomy kept.shown there.0 _ there.1)

  pub own_some : own.at ≢ 0
  own_some = some_place own.at (some id) _ holds

  record_came : (tells : ℕ → Record → Type 0) (at : ℕ) (z : Record) → HasRecord pieces at z → (HasRecord kept.anatomy.pieces at z → tells at z) → tells h s → tells at z
  record_came tells at z there old new = ⊎_elim old
      (λ rest. ⊎_elim
      (λ t. let e : z ≡ s = cc t.1 in subst (λ (p : ℕ × Record). tells p.0 p.1) (λ i. (sym t.0 i, sym e i)) new)
      (λ t. absurd (cc t.1))
      rest)
      (came at (histogram z) there)

  sample_was : (at : ℕ) (x : Sample) → HasSample pieces at x → HasSample kept.anatomy.pieces at x
  sample_was at x there = ⊎_elim (λ was. was) (λ rest. ⊎_elim (λ t. absurd (cc t.1)) (λ t. absurd (cc t.1)) rest) (came at (sample x) there)

  -- sums are those that were there
  pub sums_same : SameSum kept.anatomy.pieces pieces
  sums_same at z there = record_came (λ n w. (q : Record) × HasRecord kept.anatomy.pieces n q × (q.name ≡ w.name) × (q.sum ≡ w.sum) × (q.sum_mark ≡ w.sum_mark)) at z there
      (λ was. (z, was, refl, refl, refl)) (r, stands, refl, refl, refl)

  -- the record has buckets, and is the first of its name
  module _ (bucketed : r.spec ≢ Sparse) (first : (kind : Spec) (place : ℕ) → IsFirst kept.anatomy.records r.name kind place → place ≡ h) where
    lawful_now : IsLawfulRecord version shape.page s
    lawful_now =
        let is = kept.records.lawful h r stands in
        lawful_anew version shape.page r s.counts r.single r.mark r.sum r.sum_mark r.noted is
        is.formed is.unpacked (λ on. own_some) (λ sparse. absurd (bucketed sparse)) is.narrow

    named_now : (at : ℕ) (b : Counts) → HasCounts pieces at b → (z : Record) × HasRecord pieces b.of z × (z.counts ≡ at)
    named_now at b there = ⊎_elim
        (λ was.
        let (z, stood, refers) = kept.records.named at b was in
        let not_it : b.of ≢ h = λ same.
        let e = (one_stands shape state.words kept.anatomy kept.shown h none none (histogram z) (histogram r)
        (subst (λ (n : ℕ). HasRecord kept.anatomy.pieces n z) same stood) stands).1 in
        let one : z ≡ r = cc e in
        some_place at none (counts b) was (sym refers ∙ (ap (λ (w : Record). w.counts) one ∙ unmounted)) in
        (z, stays b.of (histogram z) stood (inl not_it), refers))
        (λ rest. ⊎_elim
        (λ t. absurd (cc t.1))
        (λ t.
        let e : b ≡ c = cc t.1 in
        (s, subst (λ (n : ℕ). HasRecord pieces n s) (sym (ap (λ (x : Counts). x.of) e)) record_now, sym t.0))
        rest)
        (came at (counts b) there)

    pub records_now : RecordsAreKept shape.page (record kept.anatomy { pieces = pieces })
    records_now = record {
      lawful = λ at z there. record_came (λ n w. IsLawfulRecord version shape.page w) at z there (kept.records.lawful at z) lawful_now;
      mounted = λ at z there. record_came (λ n w. w.counts ≢ 0 → (b : Counts) × HasCounts pieces w.counts b × IsCountsOf version n w b) at z there
          (λ was some_there.
          let (b, stood, of_it) = kept.records.mounted at z was some_there in
          (b, stays z.counts (counts b) stood (inr (λ e. cc e)), of_it))
          (λ some_there. (c, counts_now, mounted.counts_right shape opened state kept id h r own stands unmounted holds tag bare room));
      named = named_now;
      packed = λ at z there. record_came (λ n w. w.counts ≡ 0 → w.mark ≤ units_in (form_at version w)) at z there (kept.records.packed at z)
          (λ none_there. absurd (own_some none_there));
      valued = λ at x there. kept.records.valued at x (sample_was at x there);
      sampled = λ front behind at of value is.
          let (name, its_first, named) = kept.records.sampled front behind at of value is in
          (name, its_first, λ x there. named x (sample_was at x there));
      later = λ at who z kind there. record_came (λ n w. IsFirst kept.anatomy.records w.name kind who → who ≢ n → CountsNothing w) at z there
          (kept.records.later at who z kind) (λ is ne. absurd (ne (first kind who is)));
      later_samples = λ at who x there. kept.records.later_samples at who x (sample_was at x there);
    }

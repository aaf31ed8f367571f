-- A word of a sample becomes another: records are kept, if it is the first of its value.
use Rattle.segment_invariant.proofs.Prelude.Std.{◌≡◌, ◌≢◌, ℕ, List, inr, ⊎_elim, refl, sym, ◌∙◌, subst, none}
use Rattle.segment_invariant.proofs.Prelude.Machine.{Dimensions, State}
use Rattle.segment_invariant.proofs.Prelude.Invariant.{Sample, Body, histogram, counts, sample, Piece, Anatomy, Stands, HasSample, IsFirstOf, RecordsAreKept, Invariant}
use Rattle.segment_invariant.specs.Invariant.{IsLawfulSample}
use Rattle.segment_invariant.proofs.Changes.Words.{Turns, turned, stands_still, came_from}

module _ (shape : Dimensions) (opened : Anatomy) (state : State) (kept : Invariant shape opened state) (at : ℕ) (x y : Sample) (j v : ℕ)
    (stands : HasSample kept.anatomy.pieces at x) (turns : Turns kept.anatomy.version (sample x) (sample y) j v) where
  abbrev pieces : List Piece
  pieces = kept.anatomy.pieces

  abbrev new : List Piece
  new = turned shape opened state kept at (sample x) (sample y) j v stands turns

  -- a body other than this sample stays, and was there before
  pub no_sample_then : (place : ℕ) (b : Body) → b ≢ sample x → Stands pieces place none b → Stands new place none b
  no_sample_then place b apart there = stands_still shape opened state kept at (sample x) (sample y) j v stands turns place none b there (inr apart)

  pub no_sample_was : (place : ℕ) (b : Body) → b ≢ sample y → Stands new place none b → Stands pieces place none b
  no_sample_was place b apart there = ⊎_elim (λ t. t.0) (λ t. absurd (apart t.1))
      (came_from shape opened state kept at (sample x) (sample y) j v stands turns place none b there)

  -- a sample is that one, or was there
  each_sample : (holds : ℕ → Sample → Type 0) (place : ℕ) (z : Sample) → HasSample new place z → (HasSample pieces place z → holds place z) → holds at y → holds place z
  each_sample holds place z there old mine = ⊎_elim
      (λ was. old was.0)
      (λ is.
      let same : y ≡ z = cc (sym is.1) in
      subst (λ (p : ℕ × Sample). holds p.0 p.1) (λ i. (sym is.0 i, same i)) mine)
      (came_from shape opened state kept at (sample x) (sample y) j v stands turns place none (sample z) there)

  pub sample_kept : y.name ≡ x.name → IsLawfulSample y → ((place : ℕ) → IsFirstOf kept.anatomy.records y.of y.value place → place ≡ at)
      → RecordsAreKept shape.page (record kept.anatomy { pieces = new })
  sample_kept named lawful first = record {
    lawful = λ place z there. kept.records.lawful place z (no_sample_was place (histogram z) (λ e. cc e) there);
    mounted = λ place z there some_there.
        let (c, stood, of_it) = kept.records.mounted place z (no_sample_was place (histogram z) (λ e. cc e) there) some_there in
        (c, no_sample_then z.counts (counts c) (λ e. cc e) stood, of_it);
    named = λ place c there.
        let (z, stood, refers) = kept.records.named place c (no_sample_was place (counts c) (λ e. cc e) there) in
        (z, no_sample_then c.of (histogram z) (λ e. cc e) stood, refers);
    packed = λ place z there. kept.records.packed place z (no_sample_was place (histogram z) (λ e. cc e) there);
    valued = λ place z there. each_sample (λ n w. IsLawfulSample w) place z there (kept.records.valued place z) lawful;
    sampled = λ front behind place of value is.
        let (name, its_first, its_name) = kept.records.sampled front behind place of value is in (
          name,
          its_first,
          λ z there. each_sample (λ n w. n ≡ place → w.name ≡ name) place z there (λ was same. its_name z was)
              (λ same. named ∙ its_name x (subst (λ (n : ℕ). HasSample pieces n x) same stands)) refl,
        );
    later = λ place who z kind there. kept.records.later place who z kind (no_sample_was place (histogram z) (λ e. cc e) there);
    later_samples = λ place who z there. each_sample (λ n w. IsFirstOf kept.anatomy.records w.of w.value who → who ≢ n → (w.units ≡ 0) × (w.mark ≡ 0)) place z there
        (kept.records.later_samples place who z) (λ is ne. absurd (ne (first who is)));
  }

-- Records are kept when a word of a record, of its counts, or of a sample becomes another.
use Rattle.segment_invariant.proofs.Prelude.Std.{◌≡◌, ◌≢◌, ℕ, ◌≤◌, List, inl, inr, ⊎_elim, refl, sym, ap, ◌∙◌, subst, dite, none, ℕ_discrete}
use Rattle.segment_invariant.proofs.Prelude.Machine.{Dimensions, Spec, State, units_in}
use Rattle.segment_invariant.proofs.Prelude.Invariant.{Record, Counts, Sample, Body, histogram, counts, sample, Piece, Anatomy, form_at, Stands, HasRecord, HasCounts, IsFirst, IsLawfulRecord, IsCountsOf, CountsNothing, RecordsAreKept, Invariant}
use Rattle.segment_invariant.proofs.Blocks.Pieces.{one_stands}
use Rattle.segment_invariant.proofs.Changes.Words.{Turns, turned, stands_then, stands_still, came_from}

module _ (shape : Dimensions) (opened : Anatomy) (state : State) (kept : Invariant shape opened state) (at : ℕ) where
  abbrev pieces : List Piece
  pieces = kept.anatomy.pieces

  abbrev version : ℕ
  version = kept.anatomy.version

  -- a block that continues among the others
  module _ (body then_is : Body) (j v : ℕ) (stands : Stands pieces at none body) (turns : Turns version body then_is j v) where
    abbrev new : List Piece
    new = turned shape opened state kept at body then_is j v stands turns

    -- a body other than this one stays, and was there before
    same_kind : (place : ℕ) (b : Body) → b ≢ body → Stands pieces place none b → Stands new place none b
    same_kind place b apart there = stands_still shape opened state kept at body then_is j v stands turns place none b there (inr apart)

    was_kind : (place : ℕ) (b : Body) → b ≢ then_is → Stands new place none b → Stands pieces place none b
    was_kind place b apart there = ⊎_elim (λ t. t.0) (λ t. absurd (apart t.1))
        (came_from shape opened state kept at body then_is j v stands turns place none b there)

    -- a block is that one, or was there
    is_or_was : (holds : ℕ → Body → Type 0) (place : ℕ) (b : Body) → Stands new place none b → (Stands pieces place none b → holds place b) → holds at then_is → holds place b
    is_or_was holds place b there old mine = ⊎_elim
        (λ t. old t.0)
        (λ t. subst (λ (p : ℕ × Body). holds p.0 p.1) (λ i. (sym t.0 i, sym t.1 i)) mine)
        (came_from shape opened state kept at body then_is j v stands turns place none b there)

    -- what was there is the block
    one_there : (place : ℕ) (b : Body) → Stands pieces place none b → place ≡ at → b ≡ body
    one_there place b there same =
        (one_stands shape state.words kept.anatomy kept.shown at none none b body (subst (λ (n : ℕ). Stands pieces n none b) same there) stands).1

    there_now : (place : ℕ) → place ≡ at → Stands new place none then_is
    there_now place same = subst (λ (n : ℕ). Stands new n none then_is) (sym same) (stands_then shape opened state kept at body then_is j v stands turns)

    still_there : (place : ℕ) (b : Body) → Stands pieces place none b → place ≢ at → Stands new place none b
    still_there place b there ne = stands_still shape opened state kept at body then_is j v stands turns place none b there (inl ne)

  -- a statement about records, for a body that is one
  abbrev OfRecords : (ℕ → Record → Type 0) → ℕ → Body → Type 0
  OfRecords holds place b = (z : Record) → b ≡ histogram z → holds place z

  abbrev OfCounts : (ℕ → Counts → Type 0) → ℕ → Body → Type 0
  OfCounts holds place b = (c : Counts) → b ≡ counts c → holds place c

  abbrev OfSamples : (ℕ → Sample → Type 0) → ℕ → Body → Type 0
  OfSamples holds place b = (x : Sample) → b ≡ sample x → holds place x

  -- a record continues with the counts that it names; it is the first of its name
  module _ (r s : Record) (j v : ℕ) (stands : HasRecord pieces at r) (turns : Turns version (histogram r) (histogram s) j v)
      (mounts : s.counts ≡ r.counts) (lawful : IsLawfulRecord version shape.page s)
      (its : (c : Counts) → HasCounts pieces r.counts c → IsCountsOf version at r c → IsCountsOf version at s c)
      (packed : s.counts ≡ 0 → s.mark ≤ units_in (form_at version s))
      (first : (kind : Spec) (place : ℕ) → IsFirst kept.anatomy.records s.name kind place → place ≡ at) where
    abbrev later : List Piece
    later = new (histogram r) (histogram s) j v stands turns

    each_record : (holds : ℕ → Record → Type 0) (place : ℕ) (z : Record) → HasRecord later place z → (HasRecord pieces place z → holds place z) → holds at s → holds place z
    each_record holds place z there old mine =
        is_or_was (histogram r) (histogram s) j v stands turns (OfRecords holds) place (histogram z) there
        (λ was w is. subst (holds place) (cc is) (old was)) (λ w is. subst (holds at) (cc is) mine) z refl

    pub record_kept : RecordsAreKept shape.page (record kept.anatomy { pieces = later })
    record_kept = record {
      lawful = λ place z there. each_record (λ n w. IsLawfulRecord version shape.page w) place z there (kept.records.lawful place z) lawful;
      mounted = λ place z there. each_record
          (λ n w. w.counts ≢ 0 → (c : Counts) × HasCounts later w.counts c × IsCountsOf version n w c) place z there
          (λ was some_there.
          let (c, stood, of_it) = kept.records.mounted place z was some_there in
          (c, same_kind (histogram r) (histogram s) j v stands turns z.counts (counts c) (λ e. cc e) stood, of_it))
          (λ some_there.
          let (c, stood, of_it) = kept.records.mounted at r stands (λ e. some_there (mounts ∙ e)) in (
            c,
            subst (λ (n : ℕ). HasCounts later n c) (sym mounts)
                (same_kind (histogram r) (histogram s) j v stands turns r.counts (counts c) (λ e. cc e) stood),
            its c stood of_it,
          ));
      named = λ place c there.
          let (z, was, is) = kept.records.named place c (was_kind (histogram r) (histogram s) j v stands turns place (counts c) (λ e. cc e) there) in
          dite (ℕ_discrete c.of at)
          (λ same.
          let e = one_there (histogram r) (histogram s) j v stands turns c.of (histogram z) was same in
          let one : z ≡ r = cc e in
          (s, there_now (histogram r) (histogram s) j v stands turns c.of same, mounts ∙ (ap (λ (w : Record). w.counts) (sym one) ∙ is)))
          (λ ne. (z, still_there (histogram r) (histogram s) j v stands turns c.of (histogram z) was ne, is));
      packed = λ place z there. each_record (λ n w. w.counts ≡ 0 → w.mark ≤ units_in (form_at version w)) place z there (kept.records.packed place z) packed;
      valued = λ place x there. kept.records.valued place x (was_kind (histogram r) (histogram s) j v stands turns place (sample x) (λ e. cc e) there);
      sampled = λ front behind place of value is.
          let (name, its_first, named) = kept.records.sampled front behind place of value is in
          (name, its_first, λ x there. named x (was_kind (histogram r) (histogram s) j v stands turns place (sample x) (λ e. cc e) there));
      later = λ place who z kind there. each_record (λ n w. IsFirst kept.anatomy.records w.name kind who → who ≢ n → CountsNothing w) place z there
          (kept.records.later place who z kind) (λ is ne. absurd (ne (first kind who is)));
      later_samples = λ place who x there. kept.records.later_samples place who x (was_kind (histogram r) (histogram s) j v stands turns place (sample x) (λ e. cc e) there);
    }

  -- counts continue, of the same record
  module _ (c d : Counts) (j v : ℕ) (stands : HasCounts pieces at c) (turns : Turns version (counts c) (counts d) j v) (of_same : d.of ≡ c.of)
      (its : (place : ℕ) (z : Record) → HasRecord pieces place z → z.counts ≡ at → IsCountsOf version place z c → IsCountsOf version place z d) where
    abbrev after : List Piece
    after = new (counts c) (counts d) j v stands turns

    kind : (place : ℕ) (b : Body) → b ≢ counts c → Stands pieces place none b → Stands after place none b
    kind = same_kind (counts c) (counts d) j v stands turns

    was : (place : ℕ) (b : Body) → b ≢ counts d → Stands after place none b → Stands pieces place none b
    was = was_kind (counts c) (counts d) j v stands turns

    pub counts_kept : RecordsAreKept shape.page (record kept.anatomy { pieces = after })
    counts_kept = record {
      lawful = λ place z there. kept.records.lawful place z (was place (histogram z) (λ e. cc e) there);
      mounted = λ place z there some_there.
          let before = was place (histogram z) (λ e. cc e) there in
          let (b, stood, of_it) = kept.records.mounted place z before some_there in
          dite (ℕ_discrete z.counts at)
          (λ same.
          let e = one_there (counts c) (counts d) j v stands turns z.counts (counts b) stood same in
          (d, there_now (counts c) (counts d) j v stands turns z.counts same, its place z before same (let was : b ≡ c = cc e in subst (IsCountsOf version place z) was of_it)))
          (λ ne. (b, still_there (counts c) (counts d) j v stands turns z.counts (counts b) stood ne, of_it));
      named = λ place b there. is_or_was (counts c) (counts d) j v stands turns
          (OfCounts (λ n w. (z : Record) × HasRecord after w.of z × (z.counts ≡ n))) place (counts b) there
          (λ before w is.
          let (z, stood, refers) = kept.records.named place b before in
          let same : b ≡ w = cc is in
          (z, subst (λ (x : Counts). HasRecord after x.of z) same (kind b.of (histogram z) (λ e. cc e) stood), refers))
          (λ w is.
          let (z, stood, refers) = kept.records.named at c stands in
          let same : d ≡ w = cc is in
          (z, subst (λ (n : ℕ). HasRecord after n z) (sym of_same ∙ ap (λ (x : Counts). x.of) same) (kind c.of (histogram z) (λ e. cc e) stood), refers))
          b refl;
      packed = λ place z there. kept.records.packed place z (was place (histogram z) (λ e. cc e) there);
      valued = λ place x there. kept.records.valued place x (was place (sample x) (λ e. cc e) there);
      sampled = λ front behind place of value is.
          let (name, its_first, named) = kept.records.sampled front behind place of value is in
          (name, its_first, λ x there. named x (was place (sample x) (λ e. cc e) there));
      later = λ place who z first there. kept.records.later place who z first (was place (histogram z) (λ e. cc e) there);
      later_samples = λ place who x there. kept.records.later_samples place who x (was place (sample x) (λ e. cc e) there);
    }

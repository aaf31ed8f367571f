-- What a link publishes: a record without counts, a record with its counts block, or a sample.
use Rattle.segment_invariant.proofs.Prelude.Std.{◌≡◌, ◌⊎◌, ℕ, ◌+◌, ◌*◌, ◌≤◌, ℤ, true, List, [], ◌∷◌, ◌++◌, length, replicate, set, Contains, inl, inr, ⊎_elim, refl, sym, ap, ◌∙◌, subst, arith, false, slice_index, Some, None, w64, cast_unsigned, All-contains, Contains-push, some, none, get_elem?}
use Rattle.segment_invariant.proofs.Prelude.Machine.{Dimensions, word_at, IsShown, Spec, Linear, Boolean, Custom, Sparse, buckets_of, spec_fault, spec_fields, spec_ranges, Actor, Known, Made, Own, AreNameWords, State, after_link, is_opener}
use Rattle.segment_invariant.proofs.Prelude.Invariant.{Record, Sample, Body, held, histogram, sample, Piece, Listed, Anatomy, layout_of, form_at, HasRecord, HasSample, IsFirst, IsRightlyKnown, StandsAs, IsLawfulRecord, CountsNothing, HoldsOwn, Invariant, KeptOn}
use Rattle.bucket_ranges.specs.Reading.{is_name, is_i32}
use Rattle.segment_machine.specs.declared.actor.Made.TheVariants as made
use Rattle.segment_machine.specs.declared.place.Place.TheVariants.{TailLoaded}
use Rattle.segment_invariant.specs.Seen.{HasOwn}
use Rattle.segment_invariant.specs.Invariant.{IsOnList, IsLawfulSample}
use Rattle.segment_invariant.proofs.Blocks.Pieces.{one_stands}
use Rattle.segment_invariant.proofs.Lists.Ends.{snoc_split}
use Rattle.segment_invariant.proofs.Blocks.Bodies.{IsBlank, record_of, record_words_are, is_blank, record_nothing, record_lawful, sample_of, sample_words_are, sample_lawful}
use Rattle.segment_invariant.proofs.Blocks.Published.{next_owned, record_held, sample_held, Publishes, Only, one_published}
use Rattle.segment_invariant.proofs.Publishing.Links.{mine_fits, holds, stored, halfway, links_on}

-- a record of a name is no other body
same_record : (r r' : Record) → histogram r' ≡ histogram r → r' ≡ r
same_record r r' is = cc is

same_sample : (s s' : Sample) → sample s' ≡ sample s → s' ≡ s
same_sample s s' is = cc is

-- a spec that is the same as a sparse one is sparse
pub sparse_same : (s : Spec) → spec_fields s ≡ spec_fields Sparse → s ≡ Sparse
sparse_same (Linear min max n) is = let kind = ap (λ (l : List ℕ). slice_index l 0) is in absurd (omega (arith, kind))
sparse_same Boolean is = let kind = ap (λ (l : List ℕ). slice_index l 0) is in absurd (omega (arith, kind))
sparse_same (Custom values) is = let kind = ap (λ (l : List ℕ). slice_index l 0) is in absurd (omega (arith, kind))
sparse_same Sparse is = refl

module _ (shape : Dimensions) (opened : Anatomy) (state : State) (kept : Invariant shape opened state) (id : ℕ) (a : Actor)
    (mine : get_elem? state.actors id ≡ some a) (records : is_opener a.role ≡ false) (tail : ℕ) (own : Own) (given : Made)
    (placed : a.hand.place ≡ TailLoaded tail) (i : ℕ) (there : get_elem? a.hand.own i ≡ some own) (ended : own.next ≡ 12) (asked : own.made ≡ Some given)
    (ends : word_at state.words (tail + 3) ≡ 12) where
  abbrev anatomy : Anatomy
  anatomy = kept.anatomy

  -- the state with the record on the list
  abbrev pub Onward : Type 0
  Onward = KeptOn shape opened kept (record {
    words = set state.words (tail + 3) own.at;
    cursors = state.cursors;
    actors = set state.actors id (after_link true a tail own.at 12);
  })

  abbrev half : Anatomy
  half = halfway shape opened state kept id a mine records tail own given placed i there ended asked ends

  abbrev block_holds : HoldsOwn shape anatomy.pieces id own
  block_holds = holds shape opened state kept id a mine records tail own given placed i there ended asked ends

  -- an own block is still there with the next stored
  owned_half : (x : Own) → HasOwn anatomy.pieces id x
      → HasOwn half.pieces id x
  owned_half x stands =
      let s = stored shape opened state kept id a mine records tail own given placed i there ended asked ends in
      next_owned anatomy.pieces s.index s.piece s.turned s.there s.free s.still_free s.place own.at s.claimed s.kind id x.at (held x) stands

  -- the blocks with the own block as this
  abbrev pieces_of : Body → List Piece
  pieces_of body = set half.pieces (owned_half own block_holds.stands).0 (record { at = own.at; owner = none; body = body })

  shown_half : IsShown shape (set state.words (tail + 3) own.at) (layout_of half)
  shown_half = (stored shape opened state kept id a mine records tail own given placed i there ended asked ends).shown

  -- ---- a record

  module _ (name : List ℕ) (spec : Spec) (letters : List ℕ) (asks : given ≡ made.Histogram name spec) (lettered : AreNameWords name letters)
      (payload_is : own.payload ≡ spec_fields spec ++ 0 ∷ 0 ∷ 0 ∷ 0 ∷ 0 ∷ 0 ∷ length name ∷ (letters ++ spec_ranges spec))
      (tag : own.tag ≡ 1) (named : is_name name ≡ true) (lawful : spec_fault spec ≡ None) (fits : 4 + 2 * buckets_of spec ≤ a.segment.shape.page) where
    abbrev r : Record
    r = record_of own name spec letters

    fits_now : 4 + 2 * buckets_of spec ≤ shape.page
    fits_now =
        subst (λ (s : Dimensions). 4 + 2 * buckets_of spec ≤ s.page)
        (mine_fits shape opened state kept id a mine records tail own given placed i there ended asked ends).shaped fits

    abbrev blank_record : IsBlank (form_at anatomy.version r)
    blank_record = is_blank own name spec letters payload_is anatomy.version shape.page kept.versions block_holds.room named lettered lawful fits_now

    -- the own block is published as the record
    first_published : Publishes shape id half (pieces_of (histogram r)) (Only own.at (histogram r))
    first_published = one_published shape id half own (histogram r) (owned_half own block_holds.stands)
        (record_words_are own name spec letters payload_is tag) refl
        (record_held anatomy.version own r blank_record refl refl refl)

    is_lawful : IsLawfulRecord anatomy.version shape.page r
    is_lawful = record_lawful own name spec letters payload_is anatomy.version shape.page kept.versions block_holds.room named lettered lawful fits_now

    is_nothing : CountsNothing r
    is_nothing = record_nothing own name spec letters payload_is anatomy.version shape.page kept.versions block_holds.room named lettered lawful fits_now

    -- it is listed, and holds what it was given
    record_listed : Contains (anatomy.records ++ record { reference = own.at; made = Some given } ∷ []) (record { reference = own.at; made = Some (made.Histogram name spec) })
    record_listed = subst (λ (g : Made). Contains (anatomy.records ++ record { reference = own.at; made = Some given } ∷ []) (record { reference = own.at; made = Some g })) asks
        (Contains-push anatomy.records (record { reference = own.at; made = Some given }))

    record_stands : (pieces : List Piece) → HasRecord pieces own.at r → StandsAs pieces (record { reference = own.at; made = Some given }) (Some given)
    record_stands pieces here = subst (λ (g : Made). StandsAs pieces (record { reference = own.at; made = Some g }) (Some g)) (sym asks) (r, here, refl, refl)

    -- no sample was put on the list
    record_sampled : (pieces : List Piece) (front behind : List Listed) (at of : ℕ) (value : ℤ)
        → anatomy.records ++ record { reference = own.at; made = Some given } ∷ [] ≡ front ++ record { reference = at; made = Some (made.Sample of value) } ∷ behind
        → ((left : List Listed) × (anatomy.records ≡ front ++ record { reference = at; made = Some (made.Sample of value) } ∷ left))
        ⊎ ((name : List ℕ) × IsFirst front name Sparse of × ((s : Sample) → HasSample pieces at s → s.name ≡ name))
    record_sampled pieces front behind at of value is = ⊎_elim
        (λ t. inl t)
        (λ t.
        let some_given : Some given ≡ Some (made.Sample of value) = ap (λ (z : Listed). z.made) t.0 in
        absurd (cc (asks, some_given)))
        (snoc_split anatomy.records front behind (record { reference = own.at; made = Some given }) (record { reference = at; made = Some (made.Sample of value) }) is)

    pub histogram_linked : Onward
    histogram_linked =
        links_on shape opened state kept id a mine records tail own given placed i there ended asked ends (pieces_of (histogram r)) (Only own.at (histogram r)) first_published
        (record {
          right = record {
            lawful = λ at r' is. subst (IsLawfulRecord anatomy.version shape.page) (sym (same_record r r' is.1)) is_lawful;
            nothing = λ at r' is. subst CountsNothing (sym (same_record r r' is.1)) is_nothing;
            valued = λ at s is. absurd (cc is.1);
            unmarked = λ at s is. absurd (cc is.1);
            sampled = record_sampled (pieces_of (histogram r));
          };
          bare = λ at c is. absurd (cc is.1);
          new_record = λ name' spec' is. (r, (refl, refl));
          new_sample = λ of value is. absurd (cc (asks, is));
          stands = record_stands (pieces_of (histogram r)) (first_published.here own.at (histogram r) (refl, refl));
          listed = λ at body is. subst (λ (p : ℕ × Body). IsOnList (anatomy.records ++ record { reference = own.at; made = Some given } ∷ []) p.0 p.1)
              (λ j. (sym is.0 j, sym is.1 j)) record_listed;
          spared = λ x ne b is. ne is.0;
        })

  -- ---- a sample

  module _ (of : ℕ) (value : ℤ) (k : ℕ) (known : Known) (asks : given ≡ made.Sample of value)
      (payload_is : own.payload ++ replicate k 0 ≡ of ∷ cast_unsigned w64 value ∷ []) (tag : own.tag ≡ 3) (room : 8 ≤ own.size) (valued : is_i32 value ≡ true)
      (has : Contains a.answers.names known) (refers : known.reference ≡ of) (kind : known.spec ≡ Sparse) where
    abbrev s : Sample
    s = sample_of own known.name of value

    sample_published : Publishes shape id half (pieces_of (sample s)) (Only own.at (sample s))
    sample_published = one_published shape id half own (sample s) (owned_half own block_holds.stands)
        (sample_words_are own known.name of value k payload_is room tag) refl (sample_held anatomy.version own s refl refl)

    -- its histogram is the first of its name
    sparse_first : IsFirst anatomy.records known.name Sparse of
    sparse_first =
        let fits = mine_fits shape opened state kept id a mine records tail own given placed i there ended asked ends in
        let knows = All-contains (IsRightlyKnown anatomy) a.answers.names known fits.names has in
        subst (λ (p : Spec × ℕ). IsFirst anatomy.records known.name p.0 p.1)
        (λ j. (sparse_same knows.first_spec (knows.same.0 ∙ ap spec_fields kind) j, refers j)) knows.first

    sample_listed : Contains (anatomy.records ++ record { reference = own.at; made = Some given } ∷ []) (record { reference = own.at; made = Some (made.Sample of value) })
    sample_listed = subst (λ (g : Made). Contains (anatomy.records ++ record { reference = own.at; made = Some given } ∷ []) (record { reference = own.at; made = Some g })) asks
        (Contains-push anatomy.records (record { reference = own.at; made = Some given }))

    sample_here : HasSample (pieces_of (sample s)) own.at s
    sample_here = sample_published.here own.at (sample s) (refl, refl)

    sample_sampled : (front behind : List Listed) (at of' : ℕ) (value' : ℤ)
        → anatomy.records ++ record { reference = own.at; made = Some given } ∷ [] ≡ front ++ record { reference = at; made = Some (made.Sample of' value') } ∷ behind
        → ((left : List Listed) × (anatomy.records ≡ front ++ record { reference = at; made = Some (made.Sample of' value') } ∷ left))
        ⊎ ((name : List ℕ) × IsFirst front name Sparse of' × ((s' : Sample) → HasSample (pieces_of (sample s)) at s' → s'.name ≡ name))
    sample_sampled front behind at of' value' is = ⊎_elim
        (λ t. inl t)
        (λ t.
        let some_given : Some given ≡ Some (made.Sample of' value') = ap (λ (z : Listed). z.made) t.0 in
        let same_of : of ≡ of' = cc (asks, some_given) in
        let at_is : own.at ≡ at = ap (λ (z : Listed). z.reference) t.0 in
        let shown = sample_published.shown (set state.words (tail + 3) own.at) shown_half in
        inr (
          known.name,
          subst (λ (p : List Listed × ℕ). IsFirst p.0 known.name Sparse p.1) (λ j. (t.1 j, same_of j)) sparse_first,
          λ s' stands.
              let one = one_stands shape (set state.words (tail + 3) own.at) (record anatomy { pieces = pieces_of (sample s) }) shown own.at none none (sample s') (sample s)
              (subst (λ (n : ℕ). HasSample (pieces_of (sample s)) n s') (sym at_is) stands) sample_here in
              ap (λ (z : Sample). z.name) (same_sample s s' one.1),
        ))
        (snoc_split anatomy.records front behind (record { reference = own.at; made = Some given }) (record { reference = at; made = Some (made.Sample of' value') }) is)

    pub sample_linked : Onward
    sample_linked =
        links_on shape opened state kept id a mine records tail own given placed i there ended asked ends (pieces_of (sample s)) (Only own.at (sample s)) sample_published
        (record {
          right = record {
            lawful = λ at r is. absurd (cc is.1);
            nothing = λ at r is. absurd (cc is.1);
            valued = λ at s' is. subst IsLawfulSample (sym (same_sample s s' is.1)) (sample_lawful own known.name of value k payload_is room valued);
            unmarked = λ at s' is. subst (λ (z : Sample). (z.units ≡ 0) × (z.mark ≡ 0)) (sym (same_sample s s' is.1)) (refl, refl);
            sampled = sample_sampled;
          };
          bare = λ at c is. absurd (cc is.1);
          new_record = λ name spec is. absurd (cc (asks, is));
          new_sample = λ of' value' is. (s, (refl, refl));
          stands = subst (λ (g : Made). StandsAs (pieces_of (sample s)) (record { reference = own.at; made = Some g }) (Some g)) (sym asks) (s, sample_here, refl, refl);
          listed = λ at body is. subst (λ (p : ℕ × Body). IsOnList (anatomy.records ++ record { reference = own.at; made = Some given } ∷ []) p.0 p.1)
              (λ j. (sym is.0 j, sym is.1 j)) sample_listed;
          spared = λ x ne b is. ne is.0;
        })

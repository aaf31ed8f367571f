-- The sum, the sum mark and the redundant count that are read of a histogram of a look are what actors had added, taken and noted when their
-- words were loaded.
use Rattle.segment_invariant.proofs.Prelude.Std.{◌≡◌, ◌⊎◌, ℕ, ◌+◌, ◌<◌, ◌≤◌, ℤ, pos, List, [], ◌∷◌, length, inl, inr, refl, sym, ap, subst, ◌∙◌, arith, slice_index, dite, ℕ_discrete, some, get_elem?, w64, cast_signed, Contains, Contains-append_left, Contains-append_right, Contains-append_cases, at_from, below_length, index_at, contains_map, none_in, one_in, split_among}
use Rattle.segment_invariant.proofs.Prelude.Machine.{Dimensions, State, word_at, head_of, Spec, Histogram, Reading, all_noted, all_summed, all_taken, taken_sum, tally_noted, tally_sum}
use Rattle.segment_invariant.proofs.Prelude.Invariant.{Anatomy, Record, Piece, Listed, histogram, words_of, noted_held, all_held, HasRecord, IsFirst, Invariant}
use Rattle.std.proofs.Math.Decide.{dec_lt}
use Rattle.std.proofs.lemmas.List.Elements.{Contains-get_or}
use Rattle.bucket_ranges.specs.Reading.{IsReading}
use Rattle.segment_looks.specs.Looks.{IsLook}
use Rattle.segment_invariant.specs.Ledger.{sum_held, sum_mark_held, all_amounts}
use Rattle.segment_invariant.specs.Words.{WordsAreKept}
use Rattle.segment_invariant.proofs.Consistency.Books.{one_first}
use Rattle.segment_invariant.proofs.Consistency.Firsts.{first_there, record_of_first}
use Rattle.segment_invariant.proofs.Consistency.Records.{record_word}
use Rattle.segment_invariant.proofs.Consistency.Sums.{OfRecord, no_sum, no_sum_mark, no_noted, published_at, sum_is, sum_mark_is, noted_is}
use Rattle.segment_invariant.proofs.Frames.LaidOut.{laid_out}
use Rattle.segment_invariant.proofs.Lists.FewTerms.{amounts_none, sum_none}
use Rattle.image_rules.specs.Adoption.{HasNoFault}
use Rattle.segment_promises.specs.Reads.{ReadsNames, ReadsBlocks, noted_at_opening}
use Rattle.segment_promises.proofs.Readings.Blocks.{words_read}
use Rattle.look_promises.specs.Sums.{SaysItsSums, ReadingsSayTheirSums}
use Rattle.look_promises.proofs.Moments.Runs.{Run, kept_at, rises_at, chain_at}
use Rattle.look_promises.proofs.Moments.Firsts.{first_on, first_then}
use Rattle.look_promises.proofs.Moments.Listed.{same_place, ends_at, place_of}
use Rattle.look_promises.proofs.Moments.Room.{record_was}
use Rattle.look_promises.proofs.NewRecords.Starts.{not_yet}
use Rattle.look_promises.proofs.Copies.ThreeCopies.{ThreeCopies, three_copies, seen_in, hd_of}
use Rattle.look_promises.proofs.Copies.Named.{one_within, two_within}
use Rattle.look_promises.proofs.Looked.Anatomy.{seen_of}
use Rattle.look_promises.proofs.Looked.Adopted.{words_kept}
use Rattle.look_promises.proofs.Looked.Counting.{first_late}

-- a number is on a list or not
on_or_not : (list : List ℕ) (x : ℕ) → Contains list x ⊎ (¬ (Contains list x))
on_or_not [] x = inr (λ there. none_in x there)
on_or_not (y ∷ rest) x = dite (ℕ_discrete y x)
    (λ same. inl (subst (Contains (y ∷ rest)) same (Contains-append_left (y ∷ []) rest y (0, omega arith, refl))))
    (λ other. by_rest other (on_or_not rest x))
  where
    by_rest : (y ≡ x → ⊥) → Contains rest x ⊎ (¬ (Contains rest x)) → Contains (y ∷ rest) x ⊎ (¬ (Contains (y ∷ rest) x))
    by_rest other (inl there) = inl (Contains-append_right (y ∷ []) rest x there)
    by_rest other (inr absent) = inr (λ there. elim (Contains-append_cases (y ∷ []) rest x there) [
      | inl first ↦ other (one_in y x first)
      | inr behind ↦ absent behind
    ])

-- ---- a name of which there is no record

module _ (shape : Dimensions) (opened : Anatomy) (state : State) (kept : Invariant shape opened state) (name : List ℕ)
    (none : (kind : Spec) (place : ℕ) → ¬ (IsFirst kept.anatomy.records name kind place)) where
  no_record : (j : ℕ) (p : Piece) → get_elem? kept.anatomy.pieces j ≡ some p → OfRecord name p.body (λ r. ⊥)
  no_record j p there r is named =
      let stands = published_at shape opened state.words (laid_out shape opened state kept) j p (histogram r) there is refl (λ block e. cc e) in
      let (kind, place, mine) = first_there kept.anatomy.records r.name _ (kept.list.alone p.at (histogram r) stands) (r.spec, refl) in
      none kind place (subst (λ (name : List ℕ). IsFirst kept.anatomy.records name kind place) named mine)

  -- its blocks hold nothing
  no_amounts : all_amounts (sum_held name) kept.anatomy.pieces ≡ pos 0
  no_amounts = amounts_none (λ p. sum_held name p.body) kept.anatomy.pieces (pos 0)
      (λ j p there _. no_sum name p.body (λ r is named. absurd (no_record j p there r is named)))

  no_marks : all_amounts (sum_mark_held name) kept.anatomy.pieces ≡ pos 0
  no_marks = amounts_none (λ p. sum_mark_held name p.body) kept.anatomy.pieces (pos 0)
      (λ j p there _. no_sum_mark name p.body (λ r is named. absurd (no_record j p there r is named)))

  none_noted : all_held (noted_held name) kept.anatomy.pieces ≡ 0
  none_noted = sum_none (λ p. noted_held name p.body) kept.anatomy.pieces
      (λ j p there _. no_noted name p.body (λ r is named. absurd (no_record j p there r is named)))

-- ---- the words of the first record of a name, at an earlier moment

module _ (run : Run) (m last x : ℕ) (le : m ≤ last) (r : Record) (has : HasRecord (kept_at run last).anatomy.pieces x r)
    (its : IsFirst (kept_at run last).anatomy.records r.name r.spec x) where
  open run use {shape, opened, at}

  abbrev kept : Invariant shape opened (at m)
  kept = kept_at run m

  -- what it was
  record Was : Type 0 where
    of : Record
    stands : HasRecord kept.anatomy.pieces x of
    first : IsFirst kept.anatomy.records r.name of.spec x
    named : of.name ≡ r.name

  was_there : Contains (chain_at run m) x → Was
  was_there there =
      let (j, here) = at_from (chain_at run m) x there in
      let short = below_length (chain_at run m) j x here in
      let is : slice_index (chain_at run last) j ≡ x = (same_place run m last j le short).1 ∙ index_at (chain_at run m) j x 0 here in
      let was = record_was run m last j le r (subst (λ (y : ℕ). HasRecord (kept_at run last).anatomy.pieces y r) (sym is) has) short in
      let stands : HasRecord kept.anatomy.pieces x was.of = subst (λ (y : ℕ). HasRecord kept.anatomy.pieces y was.of) is was.stands in
      let named : was.of.name ≡ r.name = sym (ap (λ (z : Record). z.name) was.goes.is) in
      record {
        of = was.of;
        stands = stands;
        first = subst (λ (name : List ℕ). IsFirst kept.anatomy.records name was.of.spec x) named (first_then run m last x le was.of r stands its named);
        named = named;
      }

  -- a word of it that changes is 0 until it is on the list
  pub word_before : ¬ (Contains (chain_at run m) x) → (i : ℕ) → 8 ≤ i → i ≤ 13 → word_at (at m).words (x + i) ≡ 0
  word_before absent i from upto =
      let (k, inside, is) = place_of run last x r has in
      let far : length (chain_at run m) ≤ k = elim (dec_lt k (length (chain_at run m))) [
        | no far ↦ omega (arith, far)
        | yes short ↦
            absurd (absent (subst (Contains (chain_at run m)) (sym (same_place run m last k le short).1 ∙ is)
            (Contains-get_or (chain_at run m) k 0 short)))
      ] in
      ap (λ (y : ℕ). word_at (at m).words (y + i)) (sym is)
      ∙ not_yet run m last k i le (histogram r) inside far
      (subst (λ (y : ℕ). HasRecord (kept_at run last).anatomy.pieces y r) (sym is) has) (from, upto)

  -- and there is no record of its name
  none_named : ¬ (Contains (chain_at run m) x) → (kind : Spec) (place : ℕ) → ¬ (IsFirst kept.anatomy.records r.name kind place)
  none_named absent kind place mine =
      let (behind, longer) = (rises_at run m last le).records in
      let later = first_on kept.anatomy.records (kept_at run last).anatomy.records behind longer r.name kind place mine in
      let (at_x, same) = one_first shape opened (at last) (kept_at run last) r.name kind r.spec place x later its in
      absent (subst (Contains (chain_at run m)) at_x
      (contains_map (λ (l : Listed). l.reference) kept.anatomy.records _ (split_among mine.0 mine.1 mine.2)))

  -- so its sum is that of the amounts that had been added
  pub sum_then : cast_signed w64 (word_at (at m).words (x + 11)) ≡ tally_sum (all_summed (at m).actors) r.name
  sum_then = by_list (on_or_not (chain_at run m) x) ∙ kept.balanced.sums r.name
    where
      by_list : Contains (chain_at run m) x ⊎ (¬ (Contains (chain_at run m) x))
          → cast_signed w64 (word_at (at m).words (x + 11)) ≡ all_amounts (sum_held r.name) kept.anatomy.pieces
      by_list (inl there) =
          let was = was_there there in
          ap (cast_signed w64) (record_word shape (at m).words kept.anatomy kept.shown x was.of 11 was.stands (omega arith))
          ∙ sym (sum_is shape opened (at m).words (laid_out shape opened (at m) kept) r.name was.of.spec x was.of was.first was.stands was.named)
      by_list (inr absent) =
          ap (cast_signed w64) (word_before absent 11 (omega arith) (omega arith)) ∙ sym (no_amounts shape opened (at m) kept r.name (none_named absent))

  -- its sum mark is what deltas had taken
  pub mark_then : cast_signed w64 (word_at (at m).words (x + 12)) ≡ taken_sum (all_taken (at m).actors) r.name
  mark_then = by_list (on_or_not (chain_at run m) x) ∙ kept.balanced.sum_marks r.name
    where
      by_list : Contains (chain_at run m) x ⊎ (¬ (Contains (chain_at run m) x))
          → cast_signed w64 (word_at (at m).words (x + 12)) ≡ all_amounts (sum_mark_held r.name) kept.anatomy.pieces
      by_list (inl there) =
          let was = was_there there in
          ap (cast_signed w64) (record_word shape (at m).words kept.anatomy kept.shown x was.of 12 was.stands (omega arith))
          ∙ sym (sum_mark_is shape opened (at m).words (laid_out shape opened (at m) kept) r.name was.of.spec x was.of was.first was.stands was.named)
      by_list (inr absent) =
          ap (cast_signed w64) (word_before absent 12 (omega arith) (omega arith)) ∙ sym (no_marks shape opened (at m) kept r.name (none_named absent))

  -- and its redundant count what had been noted
  pub noted_then : word_at (at m).words (x + 13) ≡ noted_at_opening opened r.name + tally_noted (all_noted (at m).actors) r.name
  noted_then = by_list (on_or_not (chain_at run m) x) ∙ kept.balanced.noted r.name
    where
      by_list : Contains (chain_at run m) x ⊎ (¬ (Contains (chain_at run m) x))
          → word_at (at m).words (x + 13) ≡ all_held (noted_held r.name) kept.anatomy.pieces
      by_list (inl there) =
          let was = was_there there in
          record_word shape (at m).words kept.anatomy kept.shown x was.of 13 was.stands (omega arith)
          ∙ sym (noted_is shape opened (at m).words (laid_out shape opened (at m) kept) r.name was.of.spec x was.of was.first was.stands was.named)
      by_list (inr absent) = word_before absent 13 (omega arith) (omega arith) ∙ sym (none_noted shape opened (at m) kept r.name (none_named absent))

-- ---- a look

module _ (copies : ThreeCopies) (image : List ℕ) (look : IsLook (hd_of copies) copies.one copies.two copies.three image) (reading : Reading)
    (is : IsReading image (head_of image) reading) (h : Histogram) (there : Contains reading.hists h) where
  open copies use {run, shape, opened, at, last, moments, one, two, loaded}
  open seen_in copies use {late}
  open seen_of copies image look use {of_look, has}

  abbrev x : ℕ
  x = h.reference

  abbrev whole : WordsAreKept shape opened image
  whole = words_kept copies image look

  -- its record at the last moment, and the words that are read of it
  record Itself : Type 0 where
    of : Record
    stands : HasRecord late.anatomy.pieces x of
    named : of.name ≡ h.name
    first : IsFirst late.anatomy.records of.name of.spec x
    sum : h.sum ≡ cast_signed w64 (word_at two (x + 11))
    sum_mark : h.sum_mark ≡ cast_signed w64 (word_at one (x + 12))
    redundant : h.redundant ≡ word_at one (x + 13)

  itself : Itself
  itself =
      let reads : HasNoFault reading × ReadsNames of_look.records reading × ((h : Histogram) → Contains reading.hists h → ReadsBlocks of_look h) =
      words_read shape opened image reading whole is in
      let blocks = reads.2 h there in
      let (kind, its, same) = reads.1.given h there in
      let (q, (stands, called, specified)) = record_of_first shape opened image whole.laid h.name kind x its in
      let it = has.record_from x q stands in
      let r : Record = it.of in
      let named : r.name ≡ h.name = ap (λ (z : Record). z.name) (sym it.is) ∙ called in
      let kinds : r.spec ≡ kind = ap (λ (z : Record). z.spec) (sym it.is) ∙ specified in
      record {
        of = r;
        stands = it.stands;
        named = named;
        first = subst (λ (name : List ℕ). IsFirst late.anatomy.records name r.spec x) (sym named)
            (subst (λ (kind : Spec). IsFirst late.anatomy.records h.name kind x) (sym kinds) (first_late copies image look h.name kind x its));
        sum = blocks.sum ∙ (sum_is shape opened image whole.laid h.name kind x q its stands called ∙ ap (λ (z : Record). cast_signed w64 z.sum) it.is);
        sum_mark = blocks.sum_mark
            ∙ (sum_mark_is shape opened image whole.laid h.name kind x q its stands called ∙ ap (λ (z : Record). cast_signed w64 z.sum_mark) it.is);
        redundant = blocks.redundant ∙ (noted_is shape opened image whole.laid h.name kind x q its stands called ∙ ap (λ (z : Record). z.noted) it.is);
      }

  spot : (i : ℕ) → i < 15 → x + i < shape.size
  spot i below = let ends = ends_at run last x (histogram itself.of) itself.stands in omega (arith, ends, below)

  pub sum_inside : x + 11 < shape.size
  sum_inside = spot 11 (omega arith)

  pub says_its_sums : SaysItsSums opened at moments h
  says_its_sums = record {
    sum = itself.sum
        ∙ (ap (cast_signed w64) (loaded.copy_two.each (x + 11) (spot 11 (omega arith)))
        ∙ (sum_then run (moments.two (x + 11)) last x (two_within copies (x + 11) (spot 11 (omega arith))).1 itself.of itself.stands itself.first
        ∙ ap (tally_sum (all_summed (at (moments.two (x + 11))).actors)) itself.named));
    sum_mark = itself.sum_mark
        ∙ (ap (cast_signed w64) (loaded.copy_one.each (x + 12) (spot 12 (omega arith)))
        ∙ (mark_then run (moments.one (x + 12)) last x (one_within copies (x + 12) (spot 12 (omega arith))).1 itself.of itself.stands itself.first
        ∙ ap (taken_sum (all_taken (at (moments.one (x + 12))).actors)) itself.named));
    redundant = itself.redundant
        ∙ (loaded.copy_one.each (x + 13) (spot 13 (omega arith))
        ∙ (noted_then run (moments.one (x + 13)) last x (one_within copies (x + 13) (spot 13 (omega arith))).1 itself.of itself.stands itself.first
        ∙ ap (λ (name : List ℕ). noted_at_opening opened name + tally_noted (all_noted (at (moments.one (x + 13))).actors) name) itself.named));
  }

  -- and if the first copy has the same word, it is that of the load there
  pub first_sum : word_at one (x + 11) ≡ word_at two (x + 11) → h.sum ≡ tally_sum (all_summed (at (moments.one (x + 11))).actors) h.name
  first_sum same =
      itself.sum
      ∙ (ap (cast_signed w64) (sym same ∙ loaded.copy_one.each (x + 11) sum_inside)
      ∙ (sum_then run (moments.one (x + 11)) last x (one_within copies (x + 11) sum_inside).1 itself.of itself.stands itself.first
      ∙ ap (tally_sum (all_summed (at (moments.one (x + 11))).actors)) itself.named))

  pub sum_before : ¬ (Contains (chain_at run (moments.two (x + 11))) x) → h.sum ≡ pos 0
  sum_before absent =
      itself.sum
      ∙ (ap (cast_signed w64) (loaded.copy_two.each (x + 11) (spot 11 (omega arith)))
      ∙ ap (cast_signed w64) (word_before run (moments.two (x + 11)) last x (two_within copies (x + 11) (spot 11 (omega arith))).1 itself.of itself.stands itself.first
      absent 11 (omega arith) (omega arith)))

pub readings_say_their_sums : ReadingsSayTheirSums
readings_say_their_sums shape opened at first last moments one two three image reading h run loaded look is there =
    let copies = three_copies shape opened at first last moments one two three run loaded in (
      kept_at copies.run (moments.two (h.reference + 11)),
      says_its_sums copies image look reading is h there,
      sum_before copies image look reading is h there,
    )

-- The ledger of an image: what its blocks hold is what its opener has accepted and what deltas had taken.
use Rattle.segment_invariant.proofs.Prelude.Std.{◌≡◌, ◌≢◌, ◌⊎◌, inl, inr, Bool, true, false, ℕ, ◌^◌, ◌<◌, ◌≤◌, ℤ, pos, ◌+ℤ◌, List, [], ◌++◌, map, fold, All, Contains, flat_map, refl, sym, ap, ◌∙◌, subst, arith, ⊎_elim, if◌then◌else◌, w64, cast_signed, bytes_eq, +ℤ_idl, bytes_eq-Decides, append-nil, All-contains, some, get_elem?, split_among, from_map, contains_at, at_from}
use Rattle.segment_invariant.proofs.Prelude.Machine.{field_at, head_of, name_of, Histogram, IsListed, Reading, reading_along, Entry, Portion, tally_units, tally_sum, taken_units, taken_sum, cost_of}
use Rattle.segment_invariant.proofs.Prelude.Invariant.{Record, histogram, Anatomy, Piece, units_held, marks_held, noted_held, all_held, HasRecord}
use Rattle.list_lemmas.specs.Firsts.{IsFirstThat}
use Rattle.list_lemmas.proofs.Firsts.{first_or_none}
use Rattle.segment_invariant.specs.Ledger.{sum_held, sum_mark_held, all_amounts, IsBalanced}
use Rattle.segment_invariant.proofs.Consistency.Books.{units_book, marks_book}
use Rattle.segment_invariant.proofs.Consistency.Sums.{no_sum, no_sum_mark, no_noted, of_mine, amount_of_mine}
use Rattle.segment_invariant.proofs.Lists.FewTerms.{sum_none, sum_one, amounts_none, amounts_one}
use Rattle.segment_promises.specs.Adoption.{IsAdoptable, first_entries, first_portion}
use Rattle.segment_promises.specs.Reads.{units_read, mark_read}
use Rattle.segment_promises.proofs.Readings.Firsts.{read_once}
use Rattle.segment_promises.proofs.Adopting.FirstEntries.{of_name, first_units, first_sum, portions_units, portions_sum, costs_are, of_its_name, of_no_name}
use Rattle.segment_promises.proofs.Adopting.Bodies.{record_at}
use Rattle.segment_promises.proofs.Adopting.Images.{no_record_fault}
use Rattle.segment_promises.proofs.Adopting.Openers.{opener, actors}
use Rattle.segment_promises.proofs.Adopting.Opened.Anatomy.{opened}
use Rattle.segment_promises.proofs.Adopting.Opened.Blocks.{there_by_test, test_there}
use Rattle.segment_promises.proofs.Adopting.Opened.Held.{as_body, one_index, none_held}
use Rattle.segment_promises.proofs.Adopting.Opened.KeptRecords.{has_record}
use Rattle.segment_promises.proofs.Adopting.Opened.Listings.{units_are, marks_are, marks_below}
use Rattle.segment_promises.proofs.Adopting.Opened.Names.{read, read_as, read_listed, one_read, hists_are, hist_read, read_hist}
use Rattle.segment_promises.proofs.Adopting.Opened.Pieces.{is_record}

-- amounts of histograms, by a name
abbrev pub amounts_of : (Histogram → ℤ) → List Histogram → List ℕ → ℤ
amounts_of f hists name = fold ◌+ℤ◌ (pos 0) (map (λ h. if bytes_eq h.name name then f h else pos 0) hists)

name_test : (mine name : List ℕ) → mine ≢ name → bytes_eq mine name ≡ false
name_test mine name ne = by_test (bytes_eq mine name) refl
  where
    by_test : (b : Bool) → bytes_eq mine name ≡ b → b ≡ false
    by_test true is = absurd (ne ((bytes_eq-Decides mine name).0 is))
    by_test false is = refl

module _ (words references : List ℕ) (reading : Reading) (narrow : All (λ word. word < 2 ^ 64) words) (listed : IsListed words (head_of words) references)
    (reads : reading ≡ reading_along words (head_of words) references) (adoptable : IsAdoptable words references reading) where
  abbrev its : Anatomy
  its = opened words references reading narrow listed reads adoptable

  abbrev IsRead : ℕ → Type 0
  IsRead at = Contains (read words references reading narrow listed reads adoptable) at

  abbrev hist : ℕ → Histogram
  hist = read_as words references reading narrow listed reads adoptable

  -- a name is that of a record that is read, or of none
  read_or_not : (name : List ℕ) → ((at : ℕ) × IsRead at × (name_of words at ≡ name)) ⊎ ((at : ℕ) → IsRead at → name_of words at ≢ name)
  read_or_not name = by_first (first_or_none (λ at. name_of words at ≡ name) named_or_not (read words references reading narrow listed reads adoptable))
    where
      named_or_not : (at : ℕ) → (name_of words at ≡ name) ⊎ (name_of words at ≢ name)
      named_or_not at = by_test (bytes_eq (name_of words at) name) (bytes_eq-Decides (name_of words at) name)
        where
          by_test : (b : Bool) → (b ≡ true → name_of words at ≡ name) × (name_of words at ≡ name → b ≡ true) → (name_of words at ≡ name) ⊎ (name_of words at ≢ name)
          by_test true decides = inl (decides.0 refl)
          by_test false decides = inr (λ same. cc (decides.1 same))

      by_first : ((at : ℕ) × IsFirstThat (λ at. name_of words at ≡ name) (read words references reading narrow listed reads adoptable) at)
          ⊎ All (λ at. name_of words at ≢ name) (read words references reading narrow listed reads adoptable)
          → ((at : ℕ) × IsRead at × (name_of words at ≡ name)) ⊎ ((at : ℕ) → IsRead at → name_of words at ≢ name)
      by_first (inl (at, first)) = inl (at, split_among first.0 first.1 first.2, first.4)
      by_first (inr nobody) = inr (λ at there. All-contains (λ at. name_of words at ≢ name) (read words references reading narrow listed reads adoptable) at nobody there)

  -- each name is that of one histogram of the reading
  pub hists_once : (i j : ℕ) (g h : Histogram) → get_elem? reading.hists i ≡ some g → get_elem? reading.hists j ≡ some h → g.name ≡ h.name → i ≡ j
  hists_once i j g h here there same =
      let all = hists_are words references reading narrow listed reads adoptable in
      let (x, at, from) = from_map hist (read words references reading narrow listed reads adoptable) i g (ap (λ (l : List Histogram). get_elem? l i) (sym all) ∙ here) in
      let (y, place, other_from) = from_map hist (read words references reading narrow listed reads adoptable) j h (ap (λ (l : List Histogram). get_elem? l j) (sym all) ∙ there) in
      read_once words (head_of words) references (no_record_fault words references reading listed reads adoptable) i j x y at place
      (ap (λ (h : Histogram). h.name) from ∙ (same ∙ sym (ap (λ (h : Histogram). h.name) other_from)))

  no_hist : (name : List ℕ) → ((at : ℕ) → IsRead at → name_of words at ≢ name) → (h : Histogram) → Contains reading.hists h → h.name ≢ name
  no_hist name absent h there named =
      let (at, here, same) = hist_read words references reading narrow listed reads adoptable h there in
      absent at here (ap (λ (h : Histogram). h.name) same ∙ named)

  -- a number that pieces have of a name is that of the histogram of the name
  by_names : (f : Histogram → ℕ) (total : List ℕ → ℕ) → ((at : ℕ) → IsRead at → f (hist at) ≡ total (name_of words at))
      → ((name : List ℕ) → ((at : ℕ) → IsRead at → name_of words at ≢ name) → total name ≡ 0) → (name : List ℕ) → total name ≡ of_name f reading.hists name
  by_names f total each nothing name = ⊎_elim
      (λ (at, first, named).
      subst (λ (name : List ℕ). total name ≡ of_name f reading.hists name) named
      (sym (of_its_name reading.hists hists_once f (hist at) (read_hist words references reading narrow listed reads adoptable at first) ∙ each at first)))
      (λ absent. nothing name absent ∙ sym (of_no_name reading.hists hists_once f name (no_hist name absent)))
      (read_or_not name)

  -- so is an amount
  amounts_by_names : (f : Histogram → ℤ) (total : List ℕ → ℤ) → ((at : ℕ) → IsRead at → f (hist at) ≡ total (name_of words at))
      → ((name : List ℕ) → ((at : ℕ) → IsRead at → name_of words at ≢ name) → total name ≡ pos 0) → (name : List ℕ) → total name ≡ amounts_of f reading.hists name
  amounts_by_names f total each nothing name = ⊎_elim
      (λ (at, first, named).
      let (i, here) = at_from reading.hists (hist at) (read_hist words references reading narrow listed reads adoptable at first) in
      subst (λ (name : List ℕ). total name ≡ amounts_of f reading.hists name) named
      (sym (amounts_one (λ h. if bytes_eq h.name (name_of words at) then f h else pos 0) reading.hists (pos 0) i (hist at) here
      (λ j g there ne. ap (λ (b : Bool). if b then f g else pos 0)
      (name_test g.name (name_of words at) (λ same. ne (hists_once j i g (hist at) there here same))))
      ∙ (+ℤ_idl _ ∙ (ap (λ (b : Bool). if b then f (hist at) else pos 0) ((bytes_eq-Decides (name_of words at) (name_of words at)).1 refl) ∙ each at first)))))
      (λ absent. nothing name absent
      ∙ sym (amounts_none (λ h. if bytes_eq h.name name then f h else pos 0) reading.hists (pos 0)
      (λ j g there _. ap (λ (b : Bool). if b then f g else pos 0) (name_test g.name name (no_hist name absent g (contains_at reading.hists j g there))))))
      (read_or_not name)

  -- ---- what one record has

  -- no other piece is of a record of the name
  no_other : (at : ℕ) → IsRead at → (has : HasRecord its.pieces at (record_at words at)) → (j : ℕ) (p : Piece) → get_elem? its.pieces j ≡ some p → j ≢ has.0
      → (q : Record) → p.body ≡ histogram q → q.name ≡ name_of words at → ⊥
  no_other at first has j p there apart q is mine =
      let (among, one, its_first, that) =
      is_record words references reading narrow listed reads adoptable p.at q (as_body words references reading narrow listed reads adoptable j p (histogram q) there is) in
      let same = one_read words references reading narrow listed reads adoptable p.at at
      (there_by_test (read words references reading narrow listed reads adoptable) p.at its_first) first (sym (ap (λ (q : Record). q.name) that) ∙ mine) in
      apart (one_index words references reading narrow listed reads adoptable j has.0 p _ there has.1 same)

  no_record : (name : List ℕ) → ((at : ℕ) → IsRead at → name_of words at ≢ name) → (j : ℕ) (p : Piece) → get_elem? its.pieces j ≡ some p
      → (q : Record) → p.body ≡ histogram q → q.name ≡ name → ⊥
  no_record name absent j p there q is mine =
      let (among, one, its_first, that) =
      is_record words references reading narrow listed reads adoptable p.at q (as_body words references reading narrow listed reads adoptable j p (histogram q) there is) in
      absent p.at (there_by_test (read words references reading narrow listed reads adoptable) p.at its_first) (sym (ap (λ (q : Record). q.name) that) ∙ mine)

  its_record : (at : ℕ) → IsRead at → HasRecord its.pieces at (record_at words at)
  its_record at first =
      let (among, one) = read_listed words references reading narrow listed reads adoptable at first in
      has_record words references reading narrow listed reads adoptable at among one (test_there (read words references reading narrow listed reads adoptable) at first)

  noted_there : (name : List ℕ) → all_held (noted_held name) its.pieces ≡ of_name (λ h. h.redundant) reading.hists name
  noted_there = by_names (λ h. h.redundant) (λ name. all_held (noted_held name) its.pieces)
      (λ at first.
      let has = its_record at first in
      sym (sum_one (λ (p : Piece). noted_held (name_of words at) p.body) its.pieces has.0 _ has.1
      (λ j p there apart. no_noted (name_of words at) p.body (λ q is mine. absurd (no_other at first has j p there apart q is mine)))
      ∙ of_mine (name_of words at) (name_of words at) (field_at words at 13) refl))
      (λ name absent. sum_none (λ (p : Piece). noted_held name p.body) its.pieces
      (λ j p there _. no_noted name p.body (λ q is mine. absurd (no_record name absent j p there q is mine))))

  sums_there : (name : List ℕ) → all_amounts (sum_held name) its.pieces ≡ amounts_of (λ h. h.sum) reading.hists name
  sums_there = amounts_by_names (λ h. h.sum) (λ name. all_amounts (sum_held name) its.pieces)
      (λ at first.
      let has = its_record at first in
      sym (amounts_one (λ (p : Piece). sum_held (name_of words at) p.body) its.pieces (pos 0) has.0 _ has.1
      (λ j p there apart. no_sum (name_of words at) p.body (λ q is mine. absurd (no_other at first has j p there apart q is mine)))
      ∙ (+ℤ_idl _ ∙ amount_of_mine (name_of words at) (name_of words at) (cast_signed w64 (field_at words at 11)) refl)))
      (λ name absent. amounts_none (λ (p : Piece). sum_held name p.body) its.pieces (pos 0)
      (λ j p there _. no_sum name p.body (λ q is mine. absurd (no_record name absent j p there q is mine))))

  sum_marks_there : (name : List ℕ) → all_amounts (sum_mark_held name) its.pieces ≡ amounts_of (λ h. h.sum_mark) reading.hists name
  sum_marks_there = amounts_by_names (λ h. h.sum_mark) (λ name. all_amounts (sum_mark_held name) its.pieces)
      (λ at first.
      let has = its_record at first in
      sym (amounts_one (λ (p : Piece). sum_mark_held (name_of words at) p.body) its.pieces (pos 0) has.0 _ has.1
      (λ j p there apart. no_sum_mark (name_of words at) p.body (λ q is mine. absurd (no_other at first has j p there apart q is mine)))
      ∙ (+ℤ_idl _ ∙ amount_of_mine (name_of words at) (name_of words at) (cast_signed w64 (field_at words at 12)) refl)))
      (λ name absent. amounts_none (λ (p : Piece). sum_mark_held name p.body) its.pieces (pos 0)
      (λ j p there _. no_sum_mark name p.body (λ q is mine. absurd (no_record name absent j p there q is mine))))

  units_there : (key : ℤ) (name : List ℕ) → all_held (units_held 2 name key) its.pieces ≡ of_name (λ h. units_read h key) reading.hists name
  units_there key = by_names (λ h. units_read h key) (λ name. all_held (units_held 2 name key) its.pieces)
      (λ at first. units_are words references reading narrow listed reads adoptable at first key)
      (λ name absent. none_held words references reading narrow listed reads adoptable name key _ _ _ _ (units_book 2 name key (inr refl)) absent)

  marks_there : (key : ℤ) (name : List ℕ) → all_held (marks_held 2 name key) its.pieces ≡ of_name (λ h. mark_read h key) reading.hists name
  marks_there key = by_names (λ h. mark_read h key) (λ name. all_held (marks_held 2 name key) its.pieces)
      (λ at first. marks_are words references reading narrow listed reads adoptable at first key)
      (λ name absent. none_held words references reading narrow listed reads adoptable name key _ _ _ _ (marks_book 2 name key) absent)

  taken_there : (name : List ℕ) (key : ℤ) → all_held (marks_held 2 name key) its.pieces ≤ all_held (units_held 2 name key) its.pieces
  taken_there name key = ⊎_elim
      (λ (at, first, named). subst (λ (name : List ℕ). all_held (marks_held 2 name key) its.pieces ≤ all_held (units_held 2 name key) its.pieces) named
      (marks_below words references reading narrow listed reads adoptable at first key))
      (λ absent.
      let nothing = none_held words references reading narrow listed reads adoptable name key _ _ _ _ (marks_book 2 name key) absent in
      omega (arith, nothing))
      (read_or_not name)

  -- ---- all of it

  -- a list with nothing appended, twice
  one_list : {X : Type 0} (l : List X) → (l ++ []) ++ [] ≡ l
  one_list l = append-nil (l ++ []) ∙ append-nil l

  pub balanced : (cursors : ℕ) → IsBalanced 2 its.pieces its.pieces (actors words references reading cursors)
  balanced cursors = record {
    units = λ name key.
        let held = units_there key name in
        let tally = ap (λ (l : List Entry). tally_units l name key) (one_list (flat_map first_entries reading.hists)) ∙ first_units reading.hists name key in
        omega (arith, held, tally);
    marks = λ name key.
        marks_there key name ∙ sym (ap (λ (l : List Portion). taken_units l name key) (one_list (map first_portion reading.hists)) ∙ portions_units reading.hists name key);
    sums = λ name. sums_there name ∙ sym (ap (λ (l : List Entry). tally_sum l name) (one_list (flat_map first_entries reading.hists)) ∙ first_sum reading.hists name);
    sum_marks = λ name.
        sum_marks_there name ∙ sym (ap (λ (l : List Portion). taken_sum l name) (one_list (map first_portion reading.hists)) ∙ portions_sum reading.hists name);
    noted = λ name. omega arith;
    taken = λ name key.
        let units = units_there key name in
        let marks = marks_there key name in
        let tally = ap (λ (l : List Entry). tally_units l name key) (one_list (flat_map first_entries reading.hists)) ∙ first_units reading.hists name key in
        let taken = ap (λ (l : List Portion). taken_units l name key) (one_list (map first_portion reading.hists)) ∙ portions_units reading.hists name key in
        let below = taken_there name key in
        omega (arith, units, marks, tally, taken, below);
  }

  pub first_noted : (cursors : ℕ) (name : List ℕ) → cost_of (opener words references reading cursors).entries.first_noted name ≡ all_held (noted_held name) its.pieces
  first_noted cursors name = costs_are reading.hists name (λ h. h.redundant) ∙ sym (noted_there name)

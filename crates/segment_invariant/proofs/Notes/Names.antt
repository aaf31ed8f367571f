-- An actor may note what a `hist` returned: the first record that it saw of a name is the histogram of that name, and what holds is kept.
use Rattle.segment_invariant.proofs.Prelude.Std.{◌≡◌, ◌≢◌, ℕ, zero, suc, ◌+◌, ◌-◌, ◌<◌, List, [], ◌∷◌, ◌++◌, length, map, All, Contains, inl, inr, refl, sym, ap, ◌∙◌, subst, append_assoc, arith, get_or-drop, length-append, not, ◌&&◌, ◌==◌, slice_index, Option, Some, None, get_or_append_left, All-contains, Contains-append_left, Contains-append_right, Contains-permutation, dite, some, none, ℕ_discrete, get_elem?, bytes_eq, filter, split_among, all_of, row_in, contains_map}
use Rattle.segment_invariant.proofs.Prelude.Machine.{Dimensions, spec_fields, spec_ranges, SameSpec, name_words, Spec, Linear, Boolean, Custom, Sparse, Spent, Actor, Known, Made, Published, word_seen, all_published, State, purse, AreNameWords}
use Rattle.segment_invariant.proofs.Prelude.Invariant.{Record, Listed, record_words, histogram, sample, other, Anatomy, order_of, listed, Body, words_of, HasRecord, IsRecordNamed, IsRightlyKnown, IsFirst, Stands, StandsAs, StandsRight, Invariant, IsLawfulRecord, NoteKeeps}
use Rattle.std.proofs.lemmas.Grind.{same_number_lists}
use Rattle.std.proofs.lemmas.List.{get_or-append-add}
use Rattle.std.proofs.lemmas.List.Elements.{All-filter}
use Rattle.std.proofs.lemmas.List.Sorted.{IsPermutation-sym}
use Rattle.segment_image.specs.Words.{bytes_of_words}
use Rattle.segment_invariant.proofs.Frames.LaidOut.{laid_out}
use Rattle.segment_invariant.proofs.Frames.Answers.{answered_declines}
use Rattle.segment_invariant.proofs.Notes.Begins.{takes_nothing}
use Rattle.segment_invariant.proofs.Notes.Actors.{noting_fits, finals_on, calls_by}
use Rattle.segment_invariant.proofs.Notes.Notes.{Noting, noting, noting_of, SameCounts, notes_on}
use Rattle.segment_machine.specs.declared.actor.Made.TheVariants as made
use Rattle.list_lemmas.proofs.Elements.{split_map}
use Rattle.segment_machine.specs.Made.{SawName, SawOtherName, SawSpec, SawOtherSpec, IsFirstNamed}
use Rattle.segment_machine.specs.Note.{knows, MayNote, declines}
use Rattle.segment_invariant.specs.Body.{spec_field}
use Rattle.segment_invariant.specs.Invariant.{HasPublishedRecord}
use Rattle.segment_invariant.proofs.Walking.Words.{letters_long, record_long, ranges_long, sighted}
use Rattle.segment_invariant.proofs.Notes.Letters.{names_same, bytes_same, word_bytes}
use Rattle.segment_invariant.proofs.Notes.Knows.{knows_one_more}
use Rattle.segment_invariant.proofs.Frames.PassedOver.{none_given}

-- ---- the words of a record

letter_word : (r : Record) (i : ℕ) → i < length r.letters → slice_index (record_words r) (15 + i) ≡ slice_index r.letters i
letter_word r i below =
    let long = length-append r.letters (spec_ranges r.spec) in
    sym (get_or-drop 15 (record_words r) i 0)
    ∙ (get_or_append_left (r.letters ++ spec_ranges r.spec) r.rest 0 i (omega (arith, long, below)) ∙ get_or_append_left r.letters (spec_ranges r.spec) 0 i below)

range_word : (r : Record) (i : ℕ) → i < length (spec_ranges r.spec) → slice_index (record_words r) (15 + (length r.letters + i)) ≡ slice_index (spec_ranges r.spec) i
range_word r i below =
    let long = length-append r.letters (spec_ranges r.spec) in
    sym (get_or-drop 15 (record_words r) (length r.letters + i) 0)
    ∙ (get_or_append_left (r.letters ++ spec_ranges r.spec) r.rest 0 (length r.letters + i) (omega (arith, long, below))
    ∙ get_or-append-add r.letters (spec_ranges r.spec) i 0)

-- ---- specs

four_fields : (s : Spec) → length (spec_fields s) ≡ 4
four_fields (Linear min max n) = refl
four_fields Boolean = refl
four_fields (Custom values) = refl
four_fields Sparse = refl

no_ranges : (s : Spec) → spec_field s 0 ≢ 3 → length (spec_ranges s) ≡ 0
no_ranges (Linear min max n) ne = refl
no_ranges Boolean ne = refl
no_ranges (Custom values) ne = absurd (ne refl)
no_ranges Sparse ne = refl

-- two specs of one kind and one number of buckets have as many ranges
as_many : (s t : Spec) → spec_field s 0 ≡ spec_field t 0 → spec_field s 3 ≡ spec_field t 3 → length (spec_ranges s) ≡ length (spec_ranges t)
as_many s t kind number = dite (ℕ_discrete (spec_field s 0) 3)
    (λ custom. ranges_long s custom ∙ (ap (λ n. n - 1) number ∙ sym (ranges_long t (sym kind ∙ custom))))
    (λ ne. no_ranges s ne ∙ sym (no_ranges t (λ custom. ne (kind ∙ custom))))

below_four : (P : ℕ → Type 0) → P 0 → P 1 → P 2 → P 3 → (i : ℕ) → i < 4 → P i
below_four P a b c d zero lt = a
below_four P a b c d (suc zero) lt = b
below_four P a b c d (suc (suc zero)) lt = c
below_four P a b c d (suc (suc (suc zero))) lt = d
below_four P a b c d (suc (suc (suc (suc i)))) lt = absurd (omega (arith, lt))

field_word : (r : Record) (i : ℕ) → i < 4 → slice_index (record_words r) (4 + i) ≡ spec_field r.spec i
field_word r i below = below_four (λ i. slice_index (record_words r) (4 + i) ≡ spec_field r.spec i) refl refl refl refl i below

module _ (shape : Dimensions) (opened : Anatomy) (state : State) (kept : Invariant shape opened state) (id : ℕ) (a : Actor)
    (mine : get_elem? state.actors id ≡ some a) (lives : a.hand.place ≢ Spent) where
  -- a block has the words of a record
  abbrev IsAs : ℕ → Record → Type 0
  IsAs at r = (body : Body) × Stands kept.anatomy.pieces at none body × (record_words r ≡ words_of body)

  -- a word that it saw of such a block
  word_as : (at j word : ℕ) (r : Record) → IsAs at r → j < length (record_words r) → word_seen a.seen.words (at + j) ≡ Some word → slice_index (record_words r) j ≡ word
  word_as at j word r (body, stands, holds) below seen =
      let many = ap length holds in
      ap (λ (words : List ℕ). slice_index words j) holds ∙ sighted shape opened state kept id a mine lives at j word body stands (omega (arith, below, many)) seen

  -- a word that it saw of a record
  record_seen : (at j word : ℕ) (r : Record) → HasRecord kept.anatomy.pieces at r → j < length (record_words r)
      → word_seen a.seen.words (at + j) ≡ Some word → slice_index (record_words r) j ≡ word
  record_seen at j word r has below seen = sighted shape opened state kept id a mine lives at j word (histogram r) has below seen

  -- a letter that it saw
  letter_as : (at i word : ℕ) (r : Record) → IsAs at r → i < length r.letters → word_seen a.seen.words (at + 15 + i) ≡ Some word → slice_index r.letters i ≡ word
  letter_as at i word r has below seen =
      let long = record_long r in
      let place : at + 15 + i ≡ at + (15 + i) = omega arith in
      sym (letter_word r i below)
      ∙ word_as at (15 + i) word r has (omega (arith, long, below)) (subst (λ n. word_seen a.seen.words n ≡ Some word) place seen)

  letter_seen : (at i word : ℕ) (r : Record) → HasRecord kept.anatomy.pieces at r → i < length r.letters
      → word_seen a.seen.words (at + 15 + i) ≡ Some word → slice_index r.letters i ≡ word
  letter_seen at i word r has below seen = letter_as at i word r (histogram r, has, refl) below seen

  -- it saw the name of the record
  name_as : (version : ℕ) (name : List ℕ) (at : ℕ) (r : Record) → IsAs at r → IsLawfulRecord version shape.page r → SawName a.seen name at → r.name ≡ name
  name_as version name at r has lawful (tag, len, letters, are, words) =
      let all = record_long r in
      let length_is : length r.name ≡ length name = word_as at 14 (length name) r has (omega (arith, all)) len in
      let long = letters_long name letters are in
      let as_long = letters_long r.name r.letters lawful.lettered in
      let many : length r.letters ≡ length letters = sym as_long ∙ (ap name_words length_is ∙ long) in
      let same : r.letters ≡ letters = same_number_lists r.letters letters many
      (λ i below. letter_as at i (slice_index letters i) r has below (words i (omega (arith, many, below)))) in
      names_same r.name name letters (subst (AreNameWords r.name) same lawful.lettered) are length_is

  name_seen : (name : List ℕ) (at : ℕ) (r : Record) → HasRecord kept.anatomy.pieces at r → SawName a.seen name at → r.name ≡ name
  name_seen name at r has = name_as kept.anatomy.version name at r (histogram r, has, refl) (kept.records.lawful at r has)

  -- it saw the spec of the record
  spec_seen : (s : Spec) (at : ℕ) (r : Record) → HasRecord kept.anatomy.pieces at r → SawSpec a.seen s (length r.letters) at → SameSpec r.spec s
  spec_seen s at r has (fields, ranges) =
      let lawful = kept.records.lawful at r has in
      let all = record_long r in
      let field : (i : ℕ) → i < 4 → slice_index (record_words r) (4 + i) ≡ spec_field s i =
      λ i below. record_seen at (4 + i) (spec_field s i) r has (omega (arith, all, below))
      (let place : at + 4 + i ≡ at + (4 + i) = omega arith in subst (λ n. word_seen a.seen.words n ≡ Some (spec_field s i)) place (fields i below)) in
      let zeroth : spec_field r.spec 0 ≡ spec_field s 0 = field 0 (omega arith) in
      let third : spec_field r.spec 3 ≡ spec_field s 3 = field 3 (omega arith) in
      let many = as_many r.spec s zeroth third in
      let four = four_fields r.spec in (
        same_number_lists (spec_fields r.spec) (spec_fields s) (four ∙ sym (four_fields s))
            (λ i below. below_four (λ i. spec_field r.spec i ≡ spec_field s i) zeroth (field 1 (omega arith)) (field 2 (omega arith)) third i (omega (arith, below, four))),
        same_number_lists (spec_ranges r.spec) (spec_ranges s) many
            (λ i below. sym (range_word r i below)
            ∙ record_seen at (15 + (length r.letters + i)) (slice_index (spec_ranges s) i) r has (omega (arith, all, below))
            (let place : at + 15 + length r.letters + i ≡ at + (15 + (length r.letters + i)) = omega arith in
            subst (λ n. word_seen a.seen.words n ≡ Some (slice_index (spec_ranges s) i)) place (ranges i (omega (arith, below, many))))),
      )

  -- it saw that the spec of the record is another one
  other_spec : (s : Spec) (at : ℕ) (r : Record) → HasRecord kept.anatomy.pieces at r → SameSpec r.spec s → SawOtherSpec a.seen s (length r.letters) at → ⊥
  other_spec s at r has is (inl (i, word, below, seen, ne)) =
      let all = record_long r in
      let place : at + 4 + i ≡ at + (4 + i) = omega arith in
      let found = record_seen at (4 + i) word r has (omega (arith, all, below)) (subst (λ n. word_seen a.seen.words n ≡ Some word) place seen) in
      ne (sym found ∙ (field_word r i below ∙ ap (λ (fields : List ℕ). slice_index fields i) is.0))
  other_spec s at r has is (inr (i, word, below, seen, ne)) =
      let all = record_long r in
      let long = ap (λ (ranges : List ℕ). length ranges) is.1 in
      let place : at + 15 + length r.letters + i ≡ at + (15 + (length r.letters + i)) = omega arith in
      let found = record_seen at (15 + (length r.letters + i)) word r has (omega (arith, below, long, all))
      (subst (λ n. word_seen a.seen.words n ≡ Some word) place seen) in
      ne (sym found ∙ (range_word r i (omega (arith, below, long)) ∙ ap (λ (ranges : List ℕ). slice_index ranges i) is.1))

  -- it saw that a record is of another name
  other_seen : (name : List ℕ) (at : ℕ) (r : Record) → HasRecord kept.anatomy.pieces at r → r.name ≡ name → SawOtherName a.seen name at → ⊥
  other_seen name at r has is (inl (tag, seen, ne)) =
      let all = record_long r in ne (sym (record_seen at 2 tag r has (omega (arith, all)) seen))
  other_seen name at r has is (inr (inl (len, seen, ne))) =
      let all = record_long r in ne (sym (record_seen at 14 len r has (omega (arith, all)) seen) ∙ ap length is)
  other_seen name at r has is (inr (inr (letters, i, word, are, below, seen, ne))) =
      let lawful = kept.records.lawful at r has in
      let lettered : AreNameWords name r.letters = subst (λ n. AreNameWords n r.letters) is lawful.lettered in
      let many : length r.letters ≡ length letters = sym (letters_long name r.letters lettered) ∙ letters_long name letters are in
      let found = letter_seen at i word r has (omega (arith, many, below)) seen in
      ne (ap (λ w. bytes_of_words (w ∷ [])) (sym found) ∙ word_bytes r.letters letters i many (omega (arith, many, below)) (bytes_same name r.letters letters lettered are))

  -- the first record that it saw of a name is the first of that name on the list
  pub first_right : (name : List ℕ) (at : ℕ) → IsFirstNamed a.seen name at
      → (kind : Spec) × (r : Record) × HasRecord kept.anatomy.pieces at r × (r.name ≡ name) × (r.spec ≡ kind) × IsFirst kept.anatomy.records name kind at
  first_right name at (front, behind, chain_is, others, saw) =
      let fits = kept.each id a mine lives in
      let (rest, whole) = fits.sees.walked in
      let order : order_of kept.anatomy ≡ front ++ at ∷ (behind ++ rest) =
      whole ∙ (ap (λ (chain : List ℕ). chain ++ rest) chain_is ∙ append_assoc front (at ∷ behind) rest) in
      let (before, after, l, records_are, fronts, place) = split_map (λ (l : Listed). l.reference) kept.anatomy.records front (behind ++ rest) at order in
      by_given name at before l after l.made refl
      (stands before l after records_are l (Contains-append_right before (l ∷ after) l (0, omega arith, refl)))
      place saw records_are
      (all_of (λ x. ¬ (IsRecordNamed name x)) before (λ x has (kind, named).
      let there : Contains front x.reference = subst (λ (list : List ℕ). Contains list x.reference) fronts (contains_map (λ (l : Listed). l.reference) before x has) in
      let (r, is, name_is, same) = subst (StandsAs kept.anatomy.pieces x) named (stands before l after records_are x (Contains-append_left before (l ∷ after) x has)) in
      other_seen name x.reference r is name_is (All-contains (SawOtherName a.seen name) front x.reference others there)))
    where
      stands : (before : List Listed) (l : Listed) (after : List Listed) → kept.anatomy.records ≡ before ++ l ∷ after
          → (x : Listed) → Contains (before ++ l ∷ after) x → StandsAs kept.anatomy.pieces x x.made
      stands before l after records_are x has =
          All-contains (λ (l : Listed). StandsAs kept.anatomy.pieces l l.made) kept.anatomy.records x kept.list.standing
          (subst (λ (list : List Listed). Contains list x) (sym records_are) has)

      by_given : (name : List ℕ) (at : ℕ) (before : List Listed) (l : Listed) (after : List Listed) (given : Option Made) → l.made ≡ given
          → StandsAs kept.anatomy.pieces l given → l.reference ≡ at → SawName a.seen name at → kept.anatomy.records ≡ before ++ l ∷ after
          → All (λ x. ¬ (IsRecordNamed name x)) before
          → (kind : Spec) × (r : Record) × HasRecord kept.anatomy.pieces at r × (r.name ≡ name) × (r.spec ≡ kind) × IsFirst kept.anatomy.records name kind at
      by_given name at before l after (Some (made.Histogram called kind)) given_is (r, is, named, same) place saw records_are absent =
          let has : HasRecord kept.anatomy.pieces at r = subst (λ at. HasRecord kept.anatomy.pieces at r) place is in
          let name_is = name_seen name at r has saw in
          let listed : l ≡ record { reference = at; made = Some (made.Histogram name kind) } =
          (λ i. record { reference = place i; made = (given_is ∙ ap (λ (n : List ℕ). Some (made.Histogram n kind)) (sym named ∙ name_is)) i }) in
          (kind, r, has, name_is, same, (before, after, records_are ∙ ap (λ (l : Listed). before ++ l ∷ after) listed, absent, (kind, refl)))
      by_given name at before l after (Some (made.Sample of value)) given_is (s, is, of_is, value_is) place saw records_are absent =
          let three : 3 ≡ 1 = sighted shape opened state kept id a mine lives l.reference 2 1 (sample s) is (omega arith)
          (subst (λ at. word_seen a.seen.words (at + 2) ≡ Some 1) (sym place) saw.0) in
          absurd (omega (arith, three))
      by_given name at before l after None given_is standing place saw records_are absent =
          elim (none_given shape opened state.words (laid_out shape opened state kept) before after l.reference
          (records_are ∙ ap (λ (m : Option Made). before ++ record { reference = l.reference; made = m } ∷ after) given_is)) [
            | inl (size, tag, next, payload, is, first) ↦
                absurd (first (sighted shape opened state kept id a mine lives l.reference 2 1 (other size tag next payload) is (omega arith)
                (subst (λ at. word_seen a.seen.words (at + 2) ≡ Some 1) (sym place) saw.0)))
            | inr (r, (over, n, from)) ↦
                let (size, tag, next, payload, is, holds) = over.stands in
                let named : r.name ≡ name =
                name_as kept.anatomy.version name l.reference r (other size tag next payload, is, holds) over.lawful (subst (SawName a.seen name) (sym place) saw) in
                let (kind, first, its) = over.named in
                let y : Listed = record { reference = first; made = Some (made.Histogram r.name kind) } in
                absurd (All-contains (λ x. ¬ (IsRecordNamed name x)) before y absent
                (split_among its.0 its.1 its.2)
                (kind, ap (λ (name : List ℕ). Some (made.Histogram name kind)) named))
          ]

  -- so is a histogram that a `hist` returns
  known_right : (known : Known) → MayNote a (knows known) → IsRightlyKnown kept.anatomy known
  known_right known (named, (letters, are, spec_saw)) =
      let (kind, r, has, name_is, same, first) = first_right known.name known.reference named in
      let lawful = kept.records.lawful known.reference r has in
      let many : length letters ≡ length r.letters =
      sym (letters_long known.name letters are) ∙ (ap (λ (n : List ℕ). name_words (length n)) (sym name_is) ∙ letters_long r.name r.letters lawful.lettered) in
      record {
        first_spec = kind;
        first = first;
        same = subst (λ (s : Spec). SameSpec s known.spec) same
            (spec_seen known.spec known.reference r has (subst (λ n. SawSpec a.seen known.spec n known.reference) many spec_saw));
      }

  -- if it saw that the first record of a name has another spec, that has another one
  pub others_differ : (name letters : List ℕ) (s : Spec) (at : ℕ) → AreNameWords name letters → IsFirstNamed a.seen name at
      → SawOtherSpec a.seen s (length letters) at → (kind : Spec) × IsFirst kept.anatomy.records name kind at × (¬ (SameSpec kind s))
  others_differ name letters s at are named unlike =
      let (kind, r, has, name_is, same, first) = first_right name at named in
      let lawful = kept.records.lawful at r has in
      let many : length letters ≡ length r.letters =
      sym (letters_long name letters are) ∙ (ap (λ (n : List ℕ). name_words (length n)) (sym name_is) ∙ letters_long r.name r.letters lawful.lettered) in (
        kind,
        first,
        λ alike. other_spec s at r has (subst (λ (kind : Spec). SameSpec kind s) (sym same) alike) (subst (λ n. SawOtherSpec a.seen s n at) many unlike),
      )

  -- a record whose answer it owes has the spec that it was given, so the first of the name, which has another, is another record
  pub declined_apart : (owes : Known) (at : ℕ) (letters : List ℕ) → Contains a.answers.owed owes → IsFirstNamed a.seen owes.name at → AreNameWords owes.name letters
      → SawOtherSpec a.seen owes.spec (length letters) at → at ≢ owes.reference
  declined_apart owes at letters there named are unlike here =
      let fits = kept.each id a mine lives in
      let entry : Published = record { reference = owes.reference; made = made.Histogram owes.name owes.spec } in
      let published = All-contains (HasPublishedRecord a.done.published) a.answers.owed owes fits.owes there in
      let (front, all, permuted) = kept.list.once in
      let among = Contains-permutation (map listed (all_published state.actors)) front (listed entry) (IsPermutation-sym _ _ permuted)
      (contains_map listed (all_published state.actors) entry (row_in (λ (c : Actor). c.done.published) state.actors id a entry mine published)) in
      let on_list : Contains kept.anatomy.records (listed entry) = subst (λ (list : List Listed). Contains list (listed entry)) (sym all)
      (Contains-append_right opened.records front (listed entry) among) in
      let (r, has, name_is, same) = All-contains (λ (l : Listed). StandsAs kept.anatomy.pieces l l.made) kept.anatomy.records (listed entry) kept.list.standing on_list in
      let lawful = kept.records.lawful owes.reference r has in
      let many : length letters ≡ length r.letters =
      sym (letters_long owes.name letters are) ∙ (ap (λ (n : List ℕ). name_words (length n)) (sym name_is) ∙ letters_long r.name r.letters lawful.lettered) in
      other_spec owes.spec owes.reference r has (ap spec_fields same, ap spec_ranges same)
      (subst (SawOtherSpec a.seen owes.spec (length r.letters)) here (subst (λ n. SawOtherSpec a.seen owes.spec n at) many unlike))

-- an actor that saw the chain is not spent
saw_lives : (shape : Dimensions) (opened : Anatomy) (state : State) (id : ℕ) (a : Actor) (kept : Invariant shape opened state)
    → get_elem? state.actors id ≡ some a → (name : List ℕ) (at : ℕ) → IsFirstNamed a.seen name at → a.hand.place ≢ Spent
saw_lives shape opened state id a kept mine name at named is_spent =
    let nobody : a ≡ purse a.units.share = subst (StandsRight shape kept.anatomy id a) is_spent (kept.standing id a mine) in
    let none : named.0 ++ at ∷ named.1 ≡ [] = sym named.2 ∙ ap (λ (a : Actor). a.seen.chain) nobody in
    let long = ap length none in
    let sum = length-append named.0 (at ∷ named.1) in
    omega (arith, long, sum)

pub knows_kept : (known : Known) → NoteKeeps (knows known)
knows_kept known shape opened state id a kept mine records may =
    let lived = saw_lives shape opened state id a kept mine known.name known.reference may.0 in
    knows_one_more a known shape opened state id kept mine records lived (known_right shape opened state kept id a mine lived known may)

pub declines_kept : (owes : Known) → NoteKeeps (declines owes)
declines_kept owes shape opened state id a kept mine records (there, (at, letters, named, are, unlike)) =
    let lived = saw_lives shape opened state id a kept mine owes.name at named in
    let (kind, r, has, name_is, same, first) = first_right shape opened state kept id a mine lived owes.name at named in
    let apart = declined_apart shape opened state kept id a mine lived owes at letters there named are unlike in
    let n : Noting = record (noting_of a) {
      owed = filter (λ (debt : Known). not (bytes_eq debt.name owes.name && (debt.reference == owes.reference))) a.answers.owed;
    } in
    let counts : SameCounts a (noting a n) =
    record { counted = λ name key. refl; summed = λ name. refl; noted = λ name. refl; costs = λ name. omega arith; units = refl } in
    notes_on shape opened state kept id a mine records n lived counts (takes_nothing a n) (λ name key. refl) (λ known has. has)
    (answered_declines kept.anatomy.records state.actors id a (noting a n) mine owes kind at first apart refl refl)
    (λ fit. noting_fits shape kept.anatomy state.cursors _ kept.roles.opener id a n fit fit.names
    (All-filter (λ (debt : Known). not (bytes_eq debt.name owes.name && (debt.reference == owes.reference))) (HasPublishedRecord a.done.published) a.answers.owed fit.owes)
    (calls_by kept.anatomy a n fit.calls counts fit.calls.ordered fit.calls.within fit.calls.held fit.calls.ended fit.calls.spent fit.calls.taking)
    (fit.looks records)
    (finals_on _ kept.roles.opener id a n (omega arith) (λ k within. refl) (λ name k within quiet. quiet) fit.finals)
    fit.snapshots)

-- What is known of an image that may be adopted: its header, its list, and that none of its records has a fault.
use Rattle.segment_invariant.proofs.Prelude.Std.{◌≡◌, Bool, true, false, ℕ, zero, suc, ◌+◌, ◌-◌, ◌*◌, ◌/◌, ◌<◌, ◌≤◌, List, [], ◌∷◌, ◌++◌, length, length-append, take, refl, sym, ap, ◌∙◌, subst, arith, Option, Some, None, Ok, not, ◌&&◌, ◌==◌, ◌%◌, if◌then◌else◌, slice_index, range_with_len, Contains, at_map, and_from, and_parts, eqb-true, eq-eqb, leb-true, ltb-false, some, some-injective, some-ne-none, get_elem?, at_from, index_at, below_length}
use Rattle.segment_invariant.proofs.Prelude.Machine.{first_fault, word_at, Dimensions, head_of, field_at, is_block, is_of_type, record_fault, IsListed, Reading, reading_along, IsShape, IsChain, IsLinked}
use Rattle.std.proofs.Common.{div-add-mod', mod-lt}
use Rattle.std.specs.Prelude.{option_map}
use Rattle.std.specs.List.{filter_map, cons_option}
use Rattle.std.proofs.lemmas.List.FromFn.{get_or-range_with_len, length-range_with_len}
use Rattle.std.proofs.lemmas.Bool.{or_parts, not-false}
use Rattle.segment_image.specs.Checks.{checked}
use Rattle.segment_image.specs.Head.{header_checks, is_queue}
use Rattle.segment_image.specs.declared.head.SegmentHead.{SegmentHead}
use Rattle.bucket_ranges.specs.declared.reading.RecordFault.{RecordFault}
use Rattle.bucket_ranges.specs.declared.reading.RecordFault.TheVariants.{BadSample}
use Rattle.bucket_ranges.specs.Reading.{before, next_of, next_checks, stop_of, is_bad_sample, with_earlier, fault_behind, bad_record}
use Rattle.bucket_ranges.proofs.Walks.{is_block-within, IsWalk-push}
use Rattle.list_core.proofs.Chains.{linked_of}
use Rattle.list_lemmas.proofs.Pairs.{element_at}
use Rattle.segment_promises.specs.Adoption.{IsAdoptable}

-- ---- checks

-- if checks find nothing, each of them passes
pub checks_pass : {F X : Type 0} (checks : List (Bool × F)) (x y : X) → checked checks x ≡ Ok y → (i : ℕ) (c : Bool × F) → get_elem? checks i ≡ some c → c.0 ≡ false
checks_pass [] x y e i c there = absurd (some-ne-none c (sym there))
checks_pass ((true, fault) ∷ rest) x y e i c there = cc e
checks_pass ((false, fault) ∷ rest) x y e zero c there = ap (λ (c : Bool × _). c.0) (sym (some-injective (false, fault) c there))
checks_pass ((false, fault) ∷ rest) x y e (suc i) c there = checks_pass rest x y e i c there

pub faults_pass : {F : Type 0} (checks : List (Bool × F)) → first_fault checks ≡ None → (i : ℕ) (c : Bool × F) → get_elem? checks i ≡ some c → c.0 ≡ false
faults_pass [] e i c there = absurd (some-ne-none c (sym there))
faults_pass ((true, fault) ∷ rest) e i c there = cc e
faults_pass ((false, fault) ∷ rest) e zero c there = ap (λ (c : Bool × _). c.0) (sym (some-injective (false, fault) c there))
faults_pass ((false, fault) ∷ rest) e (suc i) c there = faults_pass rest e i c there

-- if nothing is made of a list, nothing is made of any of its elements
made_none : {X Y : Type 0} (f : X → Option Y) (l : List X) → filter_map f l ≡ [] → (i : ℕ) (x : X) → get_elem? l i ≡ some x → f x ≡ None
made_none f [] e i x there = absurd (some-ne-none x (sym there))
made_none {X} {Y} f (z ∷ rest) e i x there = by_first (made_none f rest) (f z) refl e i there
  where
    by_first : (filter_map f rest ≡ [] → (i : ℕ) (x : X) → get_elem? rest i ≡ some x → f x ≡ None)
        → (o : Option Y) → f z ≡ o → cons_option o (filter_map f rest) ≡ [] → (i : ℕ) → get_elem? (z ∷ rest) i ≡ some x → f x ≡ None
    by_first later (Some y) is e i there = cc e
    by_first later None is e zero there = ap f (sym (some-injective z x there)) ∙ is
    by_first later None is e (suc i) there = later e i x there

-- a run of words in one page
one_page : (page at size : ℕ) → 1 ≤ page → 1 ≤ size → at / page ≡ (at + size - 1) / page → at % page + size ≤ page
one_page page at size some_words long same =
    let e = div-add-mod' at page in
    let f = div-add-mod' (at + size - 1) page in
    let times = ap (λ (n : ℕ). n * page) same in
    let less : (at + size - 1) % page < page = mod-lt (at + size - 1) (omega (arith, some_words)) in
    omega (arith, e, f, times, less, long)

-- ---- an image

module _ (words references : List ℕ) (reading : Reading) (listed : IsListed words (head_of words) references)
    (reads : reading ≡ reading_along words (head_of words) references) (adoptable : IsAdoptable words references reading) where
  abbrev pub head : SegmentHead
  head = head_of words

  abbrev pub shape : Dimensions
  shape = head.shape

  check : (i : ℕ) (c : Bool × _) → get_elem? (header_checks words) i ≡ some c → c.0 ≡ false
  check = checks_pass (header_checks words) head head adoptable.header

  -- what the words of its header say
  pub long : 16 ≤ length words
  long = ltb-false (length words) 16 (check 0 _ refl)

  pub cookie_word : word_at words 0 ≡ 0x408305DC
  cookie_word = eqb-true (word_at words 0) 0x408305DC (not-false _ (check 1 _ refl))

  pub state_word : word_at words 5 ≡ 1
  state_word = ready (word_at words 5 == 1) (word_at words 5 == 2) (eqb-true (word_at words 5) 1) (check 5 _ refl) (check 6 _ refl)
    where
      ready : (one two : Bool) → (one ≡ true → word_at words 5 ≡ 1) → (not one && not two) ≡ false → two ≡ false → word_at words 5 ≡ 1
      ready true two is neither deleted = is refl
      ready false true is neither deleted = cc deleted
      ready false false is neither deleted = cc neither

  pub size_word : word_at words 2 ≡ length words
  size_word = eqb-true (word_at words 2) (length words) (not-false _ (or_parts _ _ (check 4 _ refl)).0)

  pub shape_lawful : IsShape shape
  shape_lawful =
      let page = and_parts _ _ (not-false _ (check 3 _ refl)) in
      let ends = and_parts _ _ page.0 in
      let size = and_parts _ _ (not-false _ (or_parts _ _ (check 4 _ refl)).1) in
      let bounds = and_parts _ _ size.0 in
      record {
        wide = leb-true 64 (word_at words 3) ends.0;
        narrow = leb-true (word_at words 3) 65536 ends.1;
        even = eqb-true _ 0 page.1;
        one = leb-true (word_at words 3) (word_at words 2) bounds.0;
        many = leb-true (word_at words 2) 1048576 bounds.1;
        whole = eqb-true _ 0 size.1;
      }

  pub free_bounds : (16 ≤ head.free) × (head.free ≤ length words)
  free_bounds =
      let ends = or_parts _ _ (check 7 _ refl) in
      (ltb-false (word_at words 7) 16 ends.0, subst (λ (n : ℕ). head.free ≤ n) size_word (ltb-false (word_at words 2) (word_at words 7) ends.1))

  pub queue_words : (word_at words 12 ≡ 4) × (word_at words 13 ≡ 1) × (word_at words 14 ≡ 0)
  queue_words =
      let all = and_parts _ _ (not-false (is_queue words) (check 8 _ refl)) in
      let two = and_parts _ _ all.0 in
      (eqb-true (word_at words 12) 4 two.0, eqb-true (word_at words 13) 1 two.1, eqb-true (word_at words 14) 0 all.1)

  -- a block on its list, or counts that one names, lies in a page below the free pointer
  pub block_page : (at : ℕ) → is_block words head at ≡ true
      → (16 ≤ at) × (5 ≤ field_at words at 0) × (at + field_at words at 0 ≤ head.free) × (at % shape.page + field_at words at 0 ≤ shape.page)
      × (field_at words at 1 ≡ 0xC8799269)
  block_page at lawful =
      let (from, five, within) = is_block-within words head at lawful in
      let wide = shape_lawful.wide in
      let pages : 1 ≤ shape.page = omega (arith, wide) in
      let some_words : 1 ≤ field_at words at 0 = omega (arith, five) in
      let parts = and_parts _ _ lawful in
      let claimed = and_parts _ _ parts.1 in
      let sized = and_parts _ _ claimed.0 in
      let marked = and_parts _ _ sized.0 in (
        from,
        five,
        within,
        one_page shape.page at (field_at words at 0) pages some_words (eqb-true _ _ claimed.1),
        eqb-true (field_at words at 1) 0xC8799269 marked.0,
      )

  pub listed_block : (at : ℕ) → Contains references at → is_block words head at ≡ true
  listed_block at there =
      let (k, here) = at_from references at there in
      subst (λ (at : ℕ). is_block words head at ≡ true) (index_at references k at 0 here) (listed.walk.lawful k (below k here))
    where
      below : (k : ℕ) → get_elem? references k ≡ some at → k < length references
      below k here = below_length references k at here

  -- ---- its list ends, and none of its records has a fault

  no_stop : stop_of words head references ≡ None
  no_stop = ap (λ (r : Reading). r.stopped) (sym reads) ∙ adoptable.undamaged.lawful.1

  abbrev last : ℕ
  last = next_of words (before references (length references))

  pub is_chain : IsChain words head references
  is_chain = record { walk = listed.walk; ended = by_test (last == 12) refl no_stop }
    where
      by_test : (b : Bool) → (last == 12) ≡ b → (if b then None else first_fault (next_checks words head references last)) ≡ None → last ≡ 12
      by_test true end none = eqb-true last 12 end
      by_test false further none =
          let pass = faults_pass (next_checks words head references last) none in
          let longer = IsWalk-push words head references last listed.walk refl
          (and_from _ _ (not-false _ (pass 0 _ refl)) (not-false _ (pass 1 _ refl))) (pass 2 _ refl) in
          let most = listed.longest (references ++ last ∷ []) longer in
          let sum = length-append references (last ∷ []) in
          absurd (omega (arith, most, sum))

  pub is_linked : IsLinked words references
  is_linked = linked_of words references head is_chain

  none_bad : filter_map (bad_record words head) (with_earlier references) ≡ []
  none_bad = ap (λ (r : Reading). r.bad) (sym reads) ∙ adoptable.undamaged.lawful.0

  -- each record is paired with those before it
  earlier_there : (k at : ℕ) → get_elem? references k ≡ some at → get_elem? (with_earlier references) k ≡ some (take k references, at)
  earlier_there k at here =
      let below = below_length references k at here in
      at_map (λ i. (take i references, slice_index references i)) (range_with_len 0 (length references)) k k
      (element_at (range_with_len 0 (length references)) k 0 (omega (arith, below, length-range_with_len 0 (length references)))
      ∙ ap some (get_or-range_with_len 0 (length references) k 0 below ∙ from_none k))
      ∙ ap (λ (at : ℕ). some (take k references, at)) (index_at references k at 0 here)
    where
      from_none : (k : ℕ) → 0 + k ≡ k
      from_none k = omega arith

  -- what is on it has no fault, given those before it
  pub no_fault : (k at : ℕ) → get_elem? references k ≡ some at → fault_behind words head (take k references) at ≡ None
  no_fault k at here = by_fault (fault_behind words head (take k references) at) refl
      (made_none (bad_record words head) (with_earlier references) none_bad k (take k references, at) (earlier_there k at here))
    where
      by_fault : (o : Option RecordFault) → fault_behind words head (take k references) at ≡ o → option_map {U = ℕ × RecordFault} (λ (fault : RecordFault). (at, fault)) o ≡ None
          → fault_behind words head (take k references) at ≡ None
      by_fault (Some fault) is none = cc none
      by_fault None is none = is

  pub no_record_fault : (at : ℕ) → Contains references at → field_at words at 2 ≡ 1 → record_fault words head at ≡ None
  no_record_fault at there one =
      let (k, here) = at_from references at there in
      by_test (is_of_type words 1 at) (eq-eqb _ 1 one) k here (no_fault k at here)
    where
      by_test : (b : Bool) → b ≡ true → (k : ℕ) → get_elem? references k ≡ some at
          → (if b then record_fault words head at else (if is_of_type words 3 at && is_bad_sample words head (take k references) at then Some BadSample else None)) ≡ None
          → record_fault words head at ≡ None
      by_test true is k here none = none
      by_test false is k here none = cc is

  pub no_sample_fault : (k at : ℕ) → get_elem? references k ≡ some at → field_at words at 2 ≡ 3 → is_bad_sample words head (take k references) at ≡ false
  no_sample_fault k at here three =
      by_tests (is_of_type words 1 at) (is_of_type words 3 at) (is_bad_sample words head (take k references) at) (eqb-true (field_at words at 2) 1) (eq-eqb _ 3 three)
      (no_fault k at here)
    where
      by_tests : (one third bad : Bool) → (one ≡ true → field_at words at 2 ≡ 1) → third ≡ true
          → (if one then record_fault words head at else (if third && bad then Some BadSample else None)) ≡ None → bad ≡ false
      by_tests true third bad first is none = let e = first refl in absurd (omega (arith, e, three))
      by_tests false true true first is none = cc none
      by_tests false true false first is none = refl
      by_tests false false bad first is none = cc is

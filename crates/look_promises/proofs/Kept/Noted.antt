-- In each state a redundant count is no more than the units of its record: what is noted is counted, if the opening's is so too.
use Rattle.segment_invariant.proofs.Prelude.Std.{◌≡◌, ◌≢◌, inl, inr, ℕ, zero, suc, ◌+◌, ◌<◌, ◌≤◌, Bool, true, false, cond, ◌&&◌, ◌||◌, ◌==◌, ℤ, List, [], ◌∷◌, ◌++◌, map, filter, flat_map, refl, sym, ap, subst, ◌∙◌, ⊎_elim, arith, if◌then◌else◌, sum_by, sum_by-cons, range_with_len, int_eq, Decides-int_eq, bytes_eq-Decides, All-contains, Contains, Contains-append_left, Contains-append_right, Contains-append_cases, and_parts, some, some-injective, get_elem?, All, All-nil, all_at}
use Rattle.segment_invariant.proofs.Prelude.Machine.{Dimensions, State, Entry, EntryProgress, Spec, buckets_of, is_counted, is_noted, has_ended, is_of, Actor, all_counted, all_noted, counted_among, tally_units, tally_noted, total_of}
use Rattle.segment_invariant.proofs.Prelude.Invariant.{Anatomy, Record, key_of_bucket, HasRecord, IsFirst, StandsRight, Invariant}
use Rattle.std.proofs.Math.Decide.{dec_lt}
use Rattle.bucket_ranges.specs.declared.spec.Spec.TheVariants as spec
use Rattle.segment_machine.specs.Actor.{counted_of, noted_of}
use Rattle.segment_invariant.proofs.Consistency.Books.{one_first}
use Rattle.segment_invariant.proofs.Counting.Whole.{whole_noted}
use Rattle.segment_invariant.proofs.Lists.Countings.{noted_total}
use Rattle.segment_promises.specs.Reads.{noted_at_opening}
use Rattle.segment_invariant.proofs.Frames.Spending.{spent_or_not}
use Rattle.look_promises.specs.Images.{units_in_words}
use Rattle.look_promises.specs.OneMoment.{IsCountedFirst, CountsFirst}
use Rattle.look_promises.proofs.Amounts.Calls.{counted_is}
use Rattle.look_promises.proofs.Amounts.OneMoment.{sum_below}

-- a number is among a sum over a range
pub at_least : (f : ℕ → ℕ) (m start i : ℕ) → start ≤ i → i < start + m → f i ≤ sum_by f (range_with_len start m)
at_least f zero start i from lt = absurd (omega (arith, from, lt))
at_least f (suc m) start i from lt =
    let p : sum_by f (range_with_len start (suc m)) ≡ f start + sum_by f (range_with_len (start + 1) m) = sum_by-cons f start (range_with_len (start + 1) m) in
    elim (dec_lt start i) [
      | yes later ↦ let rest = at_least f m (start + 1) i (omega (arith, later)) (omega (arith, lt)) in omega (arith, rest, p)
      | no first ↦ let here : f i ≡ f start = ap f (omega (arith, from, first)) in omega (arith, here, p)
    ]

module _ (name : List ℕ) where
  abbrev units : List Entry → ℕ
  units entries = tally_noted entries name

  -- ---- entries by their keys

  module _ (key : ℕ → ℤ) (n : ℕ) where
    abbrev each_key : List Entry → ℕ → ℕ
    each_key entries i = tally_units entries name (key i)

    -- an entry has the key of one of them
    abbrev HasOne : Entry → Type 0
    HasOne e = is_of name e ≡ true → 0 < e.units → (i : ℕ) × (i < n) × (e.key ≡ key i)

    abbrev one : Entry → ℕ → ℕ
    one e i = if is_of name e && int_eq e.key (key i) then e.units else 0

    both : (f g : ℕ → ℕ) (m start : ℕ) → sum_by (λ i. f i + g i) (range_with_len start m) ≡ sum_by f (range_with_len start m) + sum_by g (range_with_len start m)
    both f g zero start = refl
    both f g (suc m) start =
        let rest = both f g m (start + 1) in
        let p : sum_by (λ i. f i + g i) (range_with_len start (suc m)) ≡ (f start + g start) + sum_by (λ i. f i + g i) (range_with_len (start + 1) m) =
        sum_by-cons (λ i. f i + g i) start (range_with_len (start + 1) m) in
        let q : sum_by f (range_with_len start (suc m)) ≡ f start + sum_by f (range_with_len (start + 1) m) = sum_by-cons f start (range_with_len (start + 1) m) in
        let r : sum_by g (range_with_len start (suc m)) ≡ g start + sum_by g (range_with_len (start + 1) m) = sum_by-cons g start (range_with_len (start + 1) m) in
        omega (arith, rest, p, q, r)

    -- so its units are among those of the keys
    one_below : (e : Entry) → HasOne e → (if is_of name e then e.units else 0) ≤ sum_by (one e) (range_with_len 0 n)
    one_below e has = by_name (is_of name e) refl
      where
        by_name : (b : Bool) → is_of name e ≡ b → (if b then e.units else 0) ≤ sum_by (one e) (range_with_len 0 n)
        by_name false other = omega arith
        by_name true mine = elim (dec_lt 0 e.units) [
          | no none ↦ omega (arith, none)
          | yes some_units ↦
              let (i, below, same) = has mine some_units in
              let term : one e i ≡ e.units =
              ap (λ (b : Bool). if b && int_eq e.key (key i) then e.units else 0) mine
              ∙ ap (λ (b : Bool). if b then e.units else 0) ((Decides-int_eq e.key (key i)).1 same) in
              let least = at_least (one e) n 0 i (omega arith) (omega (arith, below)) in
              omega (arith, term, least)
        ]

    pub by_keys : (entries : List Entry) → ((e : Entry) → Contains entries e → HasOne e) → units entries ≤ sum_by (each_key entries) (range_with_len 0 n)
    by_keys [] each = omega arith
    by_keys (e ∷ rest) each =
        let first = one_below e (each e (Contains-append_left (e ∷ []) rest e (0, omega arith, refl))) in
        let others = by_keys rest (λ f there. each f (Contains-append_right (e ∷ []) rest f there)) in
        let all : units (e ∷ rest) ≡ (if is_of name e then e.units else 0) + units rest = sum_by-cons (λ (entry : Entry). if is_of name entry then entry.units else 0) e rest in
        let terms : sum_by (each_key (e ∷ rest)) (range_with_len 0 n) ≡ sum_by (λ i. one e i + each_key rest i) (range_with_len 0 n) =
        (λ j. sum_by (λ i. sum_by-cons (λ (entry : Entry). if is_of name entry && int_eq entry.key (key i) then entry.units else 0) e rest j) (range_with_len 0 n)) in
        let sums = both (one e) (each_key rest) n 0 in
        omega (arith, first, others, all, terms, sums)

  -- ---- entries that pass a test

  more_pass : (test more : EntryProgress → Bool) (list : List EntryProgress) → ((c : EntryProgress) → Contains list c → test c ≡ true → more c ≡ true)
      → units (map (λ c. c.entry) (filter test list)) ≤ units (map (λ c. c.entry) (filter more list))
  more_pass test more [] each = omega arith
  more_pass test more (c ∷ rest) each =
      by_tests (test c) (more c) (each c (0, omega arith, refl)) (more_pass test more rest (λ d there. each d (Contains-append_right (c ∷ []) rest d there)))
    where
      with_it : (list : List EntryProgress) → units (c.entry ∷ map (λ c. c.entry) list) ≡ (if is_of name c.entry then c.entry.units else 0) + units (map (λ c. c.entry) list)
      with_it list = sum_by-cons (λ (entry : Entry). if is_of name entry then entry.units else 0) c.entry (map (λ c. c.entry) list)

      by_tests : (s t : Bool) → (s ≡ true → t ≡ true) → units (map (λ c. c.entry) (filter test rest)) ≤ units (map (λ c. c.entry) (filter more rest))
          → units (map (λ c. c.entry) (cond s (c ∷ filter test rest) (filter test rest))) ≤ units (map (λ c. c.entry) (cond t (c ∷ filter more rest) (filter more rest)))
      by_tests true true goes others =
          let less = with_it (filter test rest) in
          let most = with_it (filter more rest) in
          omega (arith, less, most, others)
      by_tests true false goes others = absurd (cc (goes refl))
      by_tests false true goes others = let most = with_it (filter more rest) in omega (arith, most, others)
      by_tests false false goes others = others

  -- ---- actors

  rows_less : (f g : Actor → List Entry) (actors : List Actor) → ((i : ℕ) (a : Actor) → get_elem? actors i ≡ some a → units (f a) ≤ units (g a))
      → units (flat_map f actors) ≤ units (flat_map g actors)
  rows_less f g [] each = omega arith
  rows_less f g (a ∷ rest) each =
      let first = each 0 a refl in
      let others = rows_less f g rest (λ i b there. each (suc i) b there) in
      let less = noted_total name (f a) (flat_map f rest) in
      let more = noted_total name (g a) (flat_map g rest) in
      omega (arith, first, others, less, more)

  first_and_noted : (actors : List Actor) (opener : Actor) → get_elem? actors 0 ≡ some opener
      → ((i : ℕ) (a : Actor) → get_elem? actors i ≡ some a → units a.entries.first + units (noted_of a) ≤ units (counted_of a))
      → units opener.entries.first + units (all_noted actors) ≤ units (all_counted actors)
  first_and_noted [] opener there each = absurd (cc there)
  first_and_noted (a ∷ rest) opener there each =
      let same : units a.entries.first ≡ units opener.entries.first = ap (λ (b : Actor). units b.entries.first) (some-injective a opener there) in
      let head = each 0 a refl in
      let others = rows_less noted_of counted_of rest (λ i b is. let mine = each (suc i) b is in omega (arith, mine)) in
      let less = noted_total name (noted_of a) (flat_map noted_of rest) in
      let more = noted_total name (counted_of a) (flat_map counted_of rest) in
      omega (arith, same, head, others, less, more)

-- what is noted is counted, if it is so of its flag
noted_counted : (c : EntryProgress) → IsCountedFirst c → is_noted c ≡ true → is_counted c ≡ true
noted_counted c so noted = by_flag c.noted refl
  where
    by_flag : (b : Bool) → c.noted ≡ b → is_counted c ≡ true
    by_flag true is = so is
    by_flag false is =
        let none : (c.entry.units == 0) ≡ true = sym (ap (λ (b : Bool). b || (c.entry.units == 0)) is) ∙ noted in
        by_counted c.counted none
      where
        by_counted : (b : Bool) → (c.entry.units == 0) ≡ true → (b || (c.entry.units == 0)) ≡ true
        by_counted true none = refl
        by_counted false none = none

-- the entries of an actor's log have ended
pub logged_ended : (shape : Dimensions) (opened : Anatomy) (state : State) (kept : Invariant shape opened state) (i : ℕ) (a : Actor) → get_elem? state.actors i ≡ some a
    → All (λ c. has_ended c ≡ true) a.entries.log
logged_ended shape opened state kept i a there = ⊎_elim
    (λ gone. subst (λ (a : Actor). All (λ c. has_ended c ≡ true) a.entries.log) (sym (subst (StandsRight shape kept.anatomy i a) gone (kept.standing i a there)))
    (All-nil (λ c. has_ended c ≡ true)))
    (λ alive. (kept.each i a there alive).calls.ended)
    (spent_or_not a.hand.place)

module _ (shape : Dimensions) (opened : Anatomy) (state : State) (kept : Invariant shape opened state) (counts : All CountsFirst state.actors) (name : List ℕ) where
  each_noted : (i : ℕ) (a : Actor) → get_elem? state.actors i ≡ some a → tally_noted a.entries.first name + tally_noted (noted_of a) name ≤ tally_noted (counted_of a) name
  each_noted i a there =
      let logged = logged_ended shape opened state kept i a there in
      let running = all_at CountsFirst state.actors i a counts there in
      let less = more_pass name is_noted is_counted (a.entries.log ++ a.entries.running)
      (λ c has noted. ⊎_elim
      (λ past. (and_parts (is_counted c) _ (and_parts _ _ (All-contains (λ (c : EntryProgress). has_ended c ≡ true) a.entries.log c logged past)).0).0)
      (λ now. noted_counted c (All-contains IsCountedFirst a.entries.running c running now) noted)
      (Contains-append_cases a.entries.log a.entries.running c has)) in
      let all = noted_total name a.entries.first (counted_among (a.entries.log ++ a.entries.running)) in
      omega (arith, less, all)

  pub first_counted : tally_noted kept.roles.opener.entries.first name + tally_noted (all_noted state.actors) name ≤ tally_noted (all_counted state.actors) name
  first_counted = first_and_noted name state.actors kept.roles.opener kept.roles.stands each_noted

-- ---- a record

module _ (shape : Dimensions) (opened : Anatomy) (state : State) (kept : Invariant shape opened state) (two : kept.anatomy.version ≡ 2) (counts : All CountsFirst state.actors)
    (x : ℕ) (r : Record) (has : HasRecord kept.anatomy.pieces x r) (first : IsFirst kept.anatomy.records r.name r.spec x) (bucketed : r.spec ≢ spec.Sparse) where
  abbrev n : ℕ
  n = buckets_of r.spec

  has_key : (e : Entry) → Contains (all_counted state.actors) e → is_of r.name e ≡ true → 0 < e.units → (i : ℕ) × (i < n) × (e.key ≡ key_of_bucket r.spec i)
  has_key e among mine some_units =
      let (kind, place, its, by) = kept.keys e among some_units in
      let named : e.name ≡ r.name = (bytes_eq-Decides e.name r.name).0 mine in
      let its_first : IsFirst kept.anatomy.records r.name kind place = subst (λ (name : List ℕ). IsFirst kept.anatomy.records name kind place) named its in
      let same : kind ≡ r.spec = (one_first shape opened state kept r.name kind r.spec place x its_first first).1 in
      elim by [
        | inl bucket ↦
            let (i, below, key) = bucket in
            let many = ap buckets_of same in
            (i, omega (arith, below, many), key ∙ ap (λ (kind : Spec). key_of_bucket kind i) same)
        | inr sparse ↦ absurd (bucketed (sym same ∙ sparse.0))
      ]

  all_units : tally_noted (all_counted state.actors) r.name ≤ units_in_words state.words x n
  all_units =
      let keyed = by_keys r.name (key_of_bucket r.spec) n (all_counted state.actors) has_key in
      let totals = sum_below (λ i. tally_units (all_counted state.actors) r.name (key_of_bucket r.spec i)) (total_of 2 state.words x) n 0
      (λ i from below. let is = counted_is shape opened state kept two x r has first i (omega (arith, below)) in omega (arith, is)) in
      omega (arith, keyed, totals)

  -- the redundant count is no more than the units, if the opening's was no more than what it began with
  pub noted_most : noted_at_opening opened r.name ≤ tally_noted kept.roles.opener.entries.first r.name → r.noted ≤ units_in_words state.words x n
  noted_most at_most =
      let is = whole_noted shape opened state kept r.name r.spec x r first has refl in
      let begun = kept.first_noted r.name in
      let counted = first_counted shape opened state kept counts r.name in
      let all = all_units in
      omega (arith, at_most, is, begun, counted, all)

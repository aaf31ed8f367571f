-- One entry of a running call advances: what the entries come to, and that they are still in order.
use Rattle.segment_invariant.proofs.Prelude.Std.{◌≡◌, ◌≢◌, ◌⊎◌, ℕ, zero, suc, ◌+◌, ◌<◌, ℤ, pos, ◌+ℤ◌, Bool, true, false, cond, not, List, [], ◌∷◌, ◌++◌, map, filter, All, Contains, inl, inr, ⊎_elim, refl, sym, ap, ◌∙◌, subst, arith, append_assoc, All-nil, All-cons, All-head, All-tail, Contains-append_left, Contains-append_right, Contains-append_cases, some, some-injective, get_elem?, IsTotal, one_in}
use Rattle.segment_invariant.proofs.Prelude.Machine.{Entry, EntryProgress, is_counted, is_summed, has_ended, is_untouched}
use Rattle.std.proofs.Math.IntN.{+ℤ_assoc, +ℤ_comm}
use Rattle.segment_machine.specs.Calls.{change_next}
use Rattle.segment_invariant.specs.Invariant.{AreInOrder}
use Rattle.segment_invariant.proofs.Lists.Countings.{one_of}

-- ---- the entry that is next

-- those before it have ended; when it is changed, the others stay
pub record Next (list : List EntryProgress) (c : EntryProgress) : Type 0 where
  pub front : List EntryProgress
  pub behind : List EntryProgress
  pub is : list ≡ front ++ c ∷ behind
  pub ended : All (λ x. has_ended x ≡ true) front
  pub goes : has_ended c ≡ false
  pub changed : (f : EntryProgress → EntryProgress) → change_next f list ≡ front ++ f c ∷ behind

pub next_of : (list : List EntryProgress) (c : EntryProgress) (rest : List EntryProgress) → filter (λ x. not (has_ended x)) list ≡ c ∷ rest → Next list c
next_of [] c rest e = absurd (cc e)
next_of (x ∷ xs) c rest e = by_test (has_ended x) refl (λ e. next_of xs c rest e) e
  where
    by_test : (b : Bool) → has_ended x ≡ b → (filter (λ x. not (has_ended x)) xs ≡ c ∷ rest → Next xs c)
        → cond (not b) (x ∷ filter (λ x. not (has_ended x)) xs) (filter (λ x. not (has_ended x)) xs) ≡ c ∷ rest → Next (x ∷ xs) c
    by_test true is rest_of e =
        let further = rest_of e in record {
          front = x ∷ further.front;
          behind = further.behind;
          is = ap (λ (l : List EntryProgress). x ∷ l) further.is;
          ended = All-cons (λ x. has_ended x ≡ true) x further.front is further.ended;
          goes = further.goes;
          changed = λ f. ap (λ (b : Bool). cond (not b) (f x ∷ xs) (x ∷ change_next f xs)) is ∙ ap (λ (l : List EntryProgress). x ∷ l) (further.changed f);
        }
    by_test false is rest_of e =
        let same : x ≡ c = cc e in record {
          front = [];
          behind = xs;
          is = ap (λ (z : EntryProgress). z ∷ xs) same;
          ended = All-nil (λ x. has_ended x ≡ true);
          goes = sym (ap has_ended same) ∙ is;
          changed = λ f. ap (λ (b : Bool). cond (not b) (f x ∷ xs) (x ∷ change_next f xs)) is ∙ ap (λ (z : EntryProgress). f z ∷ xs) same;
        }

-- ---- the order of the entries

abbrev OneByOne : List EntryProgress → Type 0
OneByOne list = (i j : ℕ) (x y : EntryProgress) → i < j → get_elem? list i ≡ some x → get_elem? list j ≡ some y → (has_ended x ≡ true) ⊎ (is_untouched y ≡ true)

-- nothing has happened of those after one in progress
untouched_of : (front behind : List EntryProgress) (c : EntryProgress) → OneByOne (front ++ c ∷ behind) → has_ended c ≡ false
    → (k : ℕ) (y : EntryProgress) → get_elem? behind k ≡ some y → is_untouched y ≡ true
untouched_of [] behind c one goes k y there = ⊎_elim (λ ended. absurd (cc (ended, goes))) (λ untouched. untouched) (one 0 (suc k) c y (omega arith) refl there)
untouched_of (x ∷ xs) behind c one goes k y there =
    untouched_of xs behind c (λ i j x y lt first last. one (suc i) (suc j) x y (omega (arith, lt)) first last) goes k y there

-- so another may take its place
in_order_of : (front behind : List EntryProgress) (d : EntryProgress) → All (λ x. has_ended x ≡ true) front
    → ((k : ℕ) (y : EntryProgress) → get_elem? behind k ≡ some y → is_untouched y ≡ true) → OneByOne (front ++ d ∷ behind)
in_order_of [] behind d ended untouched i zero x y lt first last = absurd (omega (arith, lt))
in_order_of [] behind d ended untouched i (suc j) x y lt first last = inr (untouched j y last)
in_order_of (z ∷ zs) behind d ended untouched zero j x y lt first last =
    inl (sym (ap has_ended (some-injective z x first)) ∙ All-head (λ x. has_ended x ≡ true) z zs ended)
in_order_of (z ∷ zs) behind d ended untouched (suc i) zero x y lt first last = absurd (omega (arith, lt))
in_order_of (z ∷ zs) behind d ended untouched (suc i) (suc j) x y lt first last =
    in_order_of zs behind d (All-tail (λ x. has_ended x ≡ true) z zs ended) untouched i j x y (omega (arith, lt)) first last

-- what holds of all holds of all with another in the place of one
pub all_replaced : (P : EntryProgress → Type 0) (front behind : List EntryProgress) (c d : EntryProgress) → All P (front ++ c ∷ behind) → P d → All P (front ++ d ∷ behind)
all_replaced P [] behind c d all mine = All-cons P d behind mine (All-tail P c behind all)
all_replaced P (x ∷ xs) behind c d all mine =
    All-cons P x (xs ++ d ∷ behind) (All-head P x (xs ++ c ∷ behind) all) (all_replaced P xs behind c d (All-tail P x (xs ++ c ∷ behind) all) mine)

pub ordered_next : (list : List EntryProgress) (c d : EntryProgress) (next : Next list c) → AreInOrder list → (d.summed ≡ true → is_counted d ≡ true)
    → (d.noted ≡ true → is_summed d ≡ true) → (d.summed ≡ true → d.entry.amount ≢ pos 0) → AreInOrder (next.front ++ d ∷ next.behind)
ordered_next list c d next ordered counted summed amounted =
    let was = subst AreInOrder next.is ordered in record {
      one_by_one = in_order_of next.front next.behind d next.ended (untouched_of next.front next.behind c was.one_by_one next.goes);
      counted_first = all_replaced (λ c. c.summed ≡ true → is_counted c ≡ true) next.front next.behind c d was.counted_first counted;
      summed_next = all_replaced (λ c. c.noted ≡ true → is_summed c ≡ true) next.front next.behind c d was.summed_next summed;
      amounted = all_replaced (λ c. c.summed ≡ true → c.entry.amount ≢ pos 0) next.front next.behind c d was.amounted amounted;
    }

-- ---- what they come to

module _ (test : EntryProgress → Bool) (behind : List EntryProgress) (c d : EntryProgress) (entry : d.entry ≡ c.entry) (same : test d ≡ test c) where
  same_among : (xs : List EntryProgress) → map (λ c. c.entry) (filter test (xs ++ d ∷ behind)) ≡ map (λ c. c.entry) (filter test (xs ++ c ∷ behind))
  same_among [] =
      ap (λ (b : Bool). map (λ c. c.entry) (cond b (d ∷ filter test behind) (filter test behind))) same ∙ by_test (test c)
    where
      by_test : (b : Bool) → map (λ c. c.entry) (cond b (d ∷ filter test behind) (filter test behind)) ≡ map (λ c. c.entry) (cond b (c ∷ filter test behind) (filter test behind))
      by_test true = ap (λ (e : Entry). e ∷ map (λ c. c.entry) (filter test behind)) entry
      by_test false = refl
  same_among (x ∷ xs) = by_test (test x) (same_among xs)
    where
      by_test : (b : Bool) → map (λ c. c.entry) (filter test (xs ++ d ∷ behind)) ≡ map (λ c. c.entry) (filter test (xs ++ c ∷ behind))
          → map (λ c. c.entry) (cond b (x ∷ filter test (xs ++ d ∷ behind)) (filter test (xs ++ d ∷ behind)))
          ≡ map (λ c. c.entry) (cond b (x ∷ filter test (xs ++ c ∷ behind)) (filter test (xs ++ c ∷ behind)))
      by_test true rest = ap (λ (l : List Entry). x.entry ∷ l) rest
      by_test false rest = rest

  -- if the test gives the same result for another, those that pass are the same entries
  pub passes_same : (first : List Entry) (log front : List EntryProgress)
      → first ++ map (λ c. c.entry) (filter test (log ++ (front ++ d ∷ behind))) ≡ first ++ map (λ c. c.entry) (filter test (log ++ (front ++ c ∷ behind)))
  passes_same first log front =
      ap (λ (l : List Entry). first ++ l)
      (ap (λ (l : List EntryProgress). map (λ c. c.entry) (filter test l)) (sym (append_assoc log front (d ∷ behind)))
      ∙ (same_among (log ++ front) ∙ ap (λ (l : List EntryProgress). map (λ c. c.entry) (filter test l)) (append_assoc log front (c ∷ behind))))

module _ (test : EntryProgress → Bool) (first : List Entry) (log front behind : List EntryProgress) (c d : EntryProgress) where
  -- the entries that pass, with the one that advances
  abbrev pub passing : EntryProgress → List Entry
  passing x = first ++ map (λ c. c.entry) (filter test (log ++ (front ++ x ∷ behind)))

  abbrev alone : EntryProgress → List Entry
  alone x = map (λ c. c.entry) (filter test (x ∷ []))

  sorted : (x : EntryProgress) → passing x ≡ first ++ map (λ c. c.entry) (filter test ((log ++ front) ++ x ∷ behind))
  sorted x = ap (λ (l : List EntryProgress). first ++ map (λ c. c.entry) (filter test l)) (sym (append_assoc log front (x ∷ behind)))

  -- come to as much more as this one does
  pub passes_beside : (total : List Entry → ℕ) → IsTotal ◌+◌ total → total (passing d) + total (alone c) ≡ total (passing c) + total (alone d)
  passes_beside total sums =
      let now = ap total (sorted d) ∙ one_of ◌+◌ total sums test first (log ++ front) behind d in
      let was = ap total (sorted c) ∙ one_of ◌+◌ total sums test first (log ++ front) behind c in
      omega (arith, now, was)

  pub passes_moved : (total : List Entry → ℤ) → IsTotal ◌+ℤ◌ total → (more : ℤ) → total (alone d) ≡ total (alone c) +ℤ more
      → total (passing d) ≡ total (passing c) +ℤ more
  passes_moved total sums more is =
      let x = total first in
      let y = total (map (λ c. c.entry) (filter test (log ++ front))) in
      let m = total (alone c) in
      let n = total (map (λ c. c.entry) (filter test behind)) in
      let last : (m +ℤ more) +ℤ n ≡ (m +ℤ n) +ℤ more = +ℤ_assoc m more n ∙ (ap (λ z. m +ℤ z) (+ℤ_comm more n) ∙ sym (+ℤ_assoc m n more)) in
      ap total (sorted d)
      ∙ (one_of ◌+ℤ◌ total sums test first (log ++ front) behind d
      ∙ (ap (λ z. x +ℤ (y +ℤ (z +ℤ n))) is
      ∙ (ap (λ z. x +ℤ (y +ℤ z)) last
      ∙ (ap (λ z. x +ℤ z) (sym (+ℤ_assoc y (m +ℤ n) more))
      ∙ (sym (+ℤ_assoc x (y +ℤ (m +ℤ n)) more)
      ∙ ap (λ z. z +ℤ more) (sym (ap total (sorted c) ∙ one_of ◌+ℤ◌ total sums test first (log ++ front) behind c)))))))

-- an entry that passes then passed before, or is the one that advances
module _ (test : EntryProgress → Bool) (behind : List EntryProgress) (c d : EntryProgress) (entry : Entry) where
  abbrev listed : List EntryProgress → List Entry
  listed list = map (λ c. c.entry) (filter test list)

  among_from : (xs : List EntryProgress) → Contains (listed (xs ++ d ∷ behind)) entry → Contains (listed (xs ++ c ∷ behind)) entry ⊎ (d.entry ≡ entry)
  among_from [] there = ⊎_elim (λ rest. inl (in_tail (test c) rest)) inr (from_head (test d) there)
    where
      in_tail : (t : Bool) → Contains (listed behind) entry → Contains (map (λ c. c.entry) (cond t (c ∷ filter test behind) (filter test behind))) entry
      in_tail true rest = Contains-append_right (c.entry ∷ []) (listed behind) entry rest
      in_tail false rest = rest

      from_head : (t : Bool) → Contains (map (λ c. c.entry) (cond t (d ∷ filter test behind) (filter test behind))) entry → Contains (listed behind) entry ⊎ (d.entry ≡ entry)
      from_head true has = ⊎_elim (λ one. inr (one_in d.entry entry one)) inl (Contains-append_cases (d.entry ∷ []) (listed behind) entry has)
      from_head false has = inl has
  among_from (x ∷ xs) there = by_test (test x) (among_from xs) there
    where
      by_test : (t : Bool) → (Contains (listed (xs ++ d ∷ behind)) entry → Contains (listed (xs ++ c ∷ behind)) entry ⊎ (d.entry ≡ entry))
          → Contains (map (λ c. c.entry) (cond t (x ∷ filter test (xs ++ d ∷ behind)) (filter test (xs ++ d ∷ behind)))) entry
          → Contains (map (λ c. c.entry) (cond t (x ∷ filter test (xs ++ c ∷ behind)) (filter test (xs ++ c ∷ behind)))) entry ⊎ (d.entry ≡ entry)
      by_test true rest has = ⊎_elim
          (λ one. inl (Contains-append_left (x.entry ∷ []) (listed (xs ++ c ∷ behind)) entry one))
          (λ more. ⊎_elim (λ was. inl (Contains-append_right (x.entry ∷ []) (listed (xs ++ c ∷ behind)) entry was)) inr (rest more))
          (Contains-append_cases (x.entry ∷ []) (listed (xs ++ d ∷ behind)) entry has)
      by_test false rest has = rest has

  pub passes_from : (first : List Entry) (log front : List EntryProgress) → Contains (first ++ listed (log ++ (front ++ d ∷ behind))) entry
      → Contains (first ++ listed (log ++ (front ++ c ∷ behind))) entry ⊎ (d.entry ≡ entry)
  passes_from first log front there = ⊎_elim
      (λ before. inl (Contains-append_left first (listed (log ++ (front ++ c ∷ behind))) entry before))
      (λ own. ⊎_elim
      (λ was. inl (Contains-append_right first (listed (log ++ (front ++ c ∷ behind))) entry
      (subst (λ (l : List EntryProgress). Contains (listed l) entry) (append_assoc log front (c ∷ behind)) was)))
      inr
      (among_from (log ++ front) (subst (λ (l : List EntryProgress). Contains (listed l) entry) (sym (append_assoc log front (d ∷ behind))) own)))
      (Contains-append_cases first (listed (log ++ (front ++ d ∷ behind))) entry there)

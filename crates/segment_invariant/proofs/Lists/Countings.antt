-- What the entries among countings that pass a test come to, together with others.
use Rattle.segment_invariant.proofs.Prelude.Std.{◌≡◌, ℕ, ◌+◌, Bool, true, false, cond, ◌&&◌, ◌||◌, not, ℤ, pos, List, [], ◌∷◌, ◌++◌, map, Contains, refl, sym, ap, ◌∙◌, arith, eqb-true, if◌then◌else◌, ◌+ℤ◌, ◌==◌, filter, int_eq, Decides-int_eq, map-append, filter-append, Contains-append_right, sum_by-append, IsTotal}
use Rattle.segment_invariant.proofs.Prelude.Machine.{Entry, EntryProgress, is_counted, is_summed, is_noted, is_of, tally_units, tally_sum, tally_noted, counted_among, noted_among, is_untouched}
use Rattle.segment_machine.specs.Entry.{summed_among}
use Rattle.segment_invariant.proofs.Lists.FewTerms.{if_nothing}
use Rattle.list_lemmas.proofs.Sums.{amounts_total}

module _ {M : Type 0} (add : M → M → M) (total : List Entry → M) (sums : IsTotal add total) (test : EntryProgress → Bool) where
  abbrev pub among : List EntryProgress → List Entry
  among list = map (λ c. c.entry) (filter test list)

  -- they come to nothing if each of them does
  pub nothing_among : (list : List EntryProgress) → ((c : EntryProgress) → Contains list c → test c ≡ true → total (c.entry ∷ []) ≡ total []) → total (among list) ≡ total []
  nothing_among [] each = refl
  nothing_among (c ∷ cs) each =
      by_test (test c) refl (nothing_among cs (λ d has. each d (Contains-append_right (c ∷ []) cs d has)))
    where
      by_test : (b : Bool) → test c ≡ b → total (among cs) ≡ total [] → total (map (λ c. c.entry) (cond b (c ∷ filter test cs) (filter test cs))) ≡ total []
      by_test true passes rest =
          sums (c.entry ∷ []) (among cs) ∙ (ap (λ m. add m (total (among cs))) (each c (0, omega arith, refl) passes) ∙ (ap (add (total [])) rest ∙ sym (sums [] [])))
      by_test false fails rest = rest

  parts : (front : List Entry) (xs ys : List EntryProgress) → total (front ++ among (xs ++ ys)) ≡ add (total front) (add (total (among xs)) (total (among ys)))
  parts front xs ys =
      sums front (among (xs ++ ys))
      ∙ ap (add (total front))
      (ap total (ap (map (λ c. c.entry)) (filter-append test xs ys) ∙ map-append (λ c. c.entry) (filter test xs) (filter test ys))
      ∙ sums (among xs) (among ys))

  -- one among others, after some
  pub one_of : (front : List Entry) (xs behind : List EntryProgress) (c : EntryProgress)
      → total (front ++ among (xs ++ c ∷ behind)) ≡ add (total front) (add (total (among xs)) (add (total (among (c ∷ []))) (total (among behind))))
  one_of front xs behind c =
      parts front xs (c ∷ behind)
      ∙ ap (λ m. add (total front) (add (total (among xs)) m))
      (ap total (ap (map (λ c. c.entry)) (filter-append test (c ∷ []) behind) ∙ map-append (λ c. c.entry) (filter test (c ∷ [])) (filter test behind))
      ∙ sums (among (c ∷ [])) (among behind))

  -- after others, those that come to the same may take one another's place
  pub beside_same : (front : List Entry) (xs ys zs : List EntryProgress) → total (among ys) ≡ total (among zs)
      → total (front ++ among (xs ++ ys)) ≡ total (front ++ among (xs ++ zs))
  beside_same front xs ys zs same =
      parts front xs ys ∙ (ap (λ m. add (total front) (add (total (among xs)) m)) same ∙ sym (parts front xs zs))

-- ---- the three tallies

pub units_total : (name : List ℕ) (key : ℤ) → IsTotal ◌+◌ (λ entries. tally_units entries name key)
units_total name key = sum_by-append (λ (entry : Entry). if is_of name entry && int_eq entry.key key then entry.units else 0)

pub sum_total : (name : List ℕ) → IsTotal ◌+ℤ◌ (λ entries. tally_sum entries name)
sum_total name = amounts_total (λ (entry : Entry). if is_of name entry then entry.amount else pos 0)

pub noted_total : (name : List ℕ) → IsTotal ◌+◌ (λ entries. tally_noted entries name)
noted_total name = sum_by-append (λ (entry : Entry). if is_of name entry then entry.units else 0)

-- an entry without units, or without an amount, comes to nothing
pub no_units : (name : List ℕ) (key : ℤ) (e : Entry) → e.units ≡ 0 → tally_units (e ∷ []) name key ≡ 0
no_units name key e none = let h = if_nothing (is_of name e && int_eq e.key key) e.units 0 none in omega (arith, h)

pub no_noted : (name : List ℕ) (e : Entry) → e.units ≡ 0 → tally_noted (e ∷ []) name ≡ 0
no_noted name e none = let h = if_nothing (is_of name e) e.units 0 none in omega (arith, h)

pub no_amount : (name : List ℕ) (e : Entry) → e.amount ≡ pos 0 → tally_sum (e ∷ []) name ≡ pos 0
no_amount name e none = ap (λ z. pos 0 +ℤ z) (if_nothing (is_of name e) e.amount (pos 0) none)

-- ---- countings of which nothing has happened

pub or_false : (b c : Bool) → b ≡ false → (b || c) ≡ true → c ≡ true
or_false b c is either = sym (ap (λ b. b || c) is) ∙ either

untouched_flags : (x y z : Bool) → (not x && not y && not z) ≡ true → (x ≡ false) × (y ≡ false) × (z ≡ false)
untouched_flags false false false e = (refl, refl, refl)
untouched_flags true y z e = cc e
untouched_flags false true z e = cc e
untouched_flags false false true e = cc e

module _ (c : EntryProgress) (is : is_untouched c ≡ true) where
  flags : (c.counted ≡ false) × (c.summed ≡ false) × (c.noted ≡ false)
  flags = untouched_flags c.counted c.summed c.noted is

  pub untouched_summed : c.summed ≡ false
  untouched_summed = flags.1

  pub counted_none : is_counted c ≡ true → c.entry.units ≡ 0
  counted_none e = eqb-true c.entry.units 0 (or_false c.counted (c.entry.units == 0) flags.0 e)

  summed_none : is_summed c ≡ true → c.entry.amount ≡ pos 0
  summed_none e = (Decides-int_eq c.entry.amount (pos 0)).0 (or_false c.summed (int_eq c.entry.amount (pos 0)) flags.1 e)

  pub noted_none : is_noted c ≡ true → c.entry.units ≡ 0
  noted_none e = eqb-true c.entry.units 0 (or_false c.noted (c.entry.units == 0) flags.2 e)

-- after others they come to nothing
module _ (front : List Entry) (xs ys : List EntryProgress) (untouched : (c : EntryProgress) → Contains ys c → is_untouched c ≡ true) where
  pub untouched_counts : (name : List ℕ) (key : ℤ) → tally_units (front ++ counted_among (xs ++ ys)) name key ≡ tally_units (front ++ counted_among (xs ++ [])) name key
  untouched_counts name key = beside_same ◌+◌ (λ entries. tally_units entries name key) (units_total name key) is_counted front xs ys []
      (nothing_among ◌+◌ (λ entries. tally_units entries name key) (units_total name key) is_counted ys
      (λ c has passes. no_units name key c.entry (counted_none c (untouched c has) passes)))

  pub untouched_sums : (name : List ℕ) → tally_sum (front ++ summed_among (xs ++ ys)) name ≡ tally_sum (front ++ summed_among (xs ++ [])) name
  untouched_sums name = beside_same ◌+ℤ◌ (λ entries. tally_sum entries name) (sum_total name) is_summed front xs ys []
      (nothing_among ◌+ℤ◌ (λ entries. tally_sum entries name) (sum_total name) is_summed ys
      (λ c has passes. no_amount name c.entry (summed_none c (untouched c has) passes)))

  pub untouched_notes : (name : List ℕ) → tally_noted (front ++ noted_among (xs ++ ys)) name ≡ tally_noted (front ++ noted_among (xs ++ [])) name
  untouched_notes name = beside_same ◌+◌ (λ entries. tally_noted entries name) (noted_total name) is_noted front xs ys []
      (nothing_among ◌+◌ (λ entries. tally_noted entries name) (noted_total name) is_noted ys
      (λ c has passes. no_noted name c.entry (noted_none c (untouched c has) passes)))

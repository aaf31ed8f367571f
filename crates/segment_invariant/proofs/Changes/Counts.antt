-- A count of a counts block rises: the block continues, and holds that many units more of the bucket's key.
use Rattle.segment_invariant.proofs.Prelude.Std.{◌≡◌, ◌≢◌, ℕ, zero, suc, ◌+◌, ◌<◌, ◌≤◌, max, ℤ, Bool, true, false, if◌then◌else◌, List, ◌∷◌, ◌++◌, length, set, sum_by, refl, sym, ap, ◌∙◌, subst, arith, length-append, length-set, slice_index, range_with_len, int_eq, get_or-set_same, sum_by-cons, dite, ℕ_discrete}
use Rattle.segment_invariant.proofs.Prelude.Machine.{Spec, is_off}
use Rattle.segment_invariant.proofs.Prelude.Invariant.{Record, Counts, counts, key_of_bucket, keyed, IsCountsOf}
use Rattle.std.proofs.Math.Nat.{le-max_left, le-max_right, max-le}
use Rattle.std.proofs.lemmas.List.{get_or-set_other, set-append_left}
use Rattle.segment_invariant.specs.Body.{counts_words}
use Rattle.segment_invariant.proofs.Changes.Words.{Turns, word_turns}
use Rattle.segment_invariant.proofs.Counting.Seen.{count_in}

-- ---- numbers of buckets

-- a sum over a range, of which one term is replaced
range_same : (f g : ℕ → ℕ) (start n i : ℕ) → i < start → ((k : ℕ) → k ≢ i → g k ≡ f k) → sum_by g (range_with_len start n) ≡ sum_by f (range_with_len start n)
range_same f g start zero i below same = refl
range_same f g start (suc n) i below same =
    let one = same start (λ e. omega (arith, e, below)) in
    let rest = range_same f g (start + 1) n i (omega (arith, below)) same in
    let p = sum_by-cons f start (range_with_len (start + 1) n) in
    let q = sum_by-cons g start (range_with_len (start + 1) n) in
    omega (arith, one, rest, p, q)

range_one : (f g : ℕ → ℕ) (start n i : ℕ) → start ≤ i → i < start + n → ((k : ℕ) → k ≢ i → g k ≡ f k)
    → sum_by g (range_with_len start n) + f i ≡ sum_by f (range_with_len start n) + g i
range_one f g start zero i from below same = absurd (omega (arith, from, below))
range_one f g start (suc n) i from below same = dite (ℕ_discrete start i)
    (λ here.
    let rest = range_same f g (start + 1) n i (omega (arith, here)) same in
    let p = sum_by-cons f start (range_with_len (start + 1) n) in
    let q = sum_by-cons g start (range_with_len (start + 1) n) in
    let was = ap f here in
    let now = ap g here in
    omega (arith, rest, p, q, was, now))
    (λ ne.
    let one = same start ne in
    let rest = range_one f g (start + 1) n i (omega (arith, from, ne)) (omega (arith, below)) same in
    let p = sum_by-cons f start (range_with_len (start + 1) n) in
    let q = sum_by-cons g start (range_with_len (start + 1) n) in
    omega (arith, one, rest, p, q))

-- a number of a bucket is larger by this much
pub keyed_risen : (kind : Spec) (key : ℤ) (numbers : List ℕ) (i u : ℕ) → i < length numbers
    → keyed kind key (set numbers i (slice_index numbers i + u)) ≡ keyed kind key numbers + (if int_eq (key_of_bucket kind i) key then u else 0)
keyed_risen kind key numbers i u below =
    let risen : List ℕ = set numbers i (slice_index numbers i + u) in
    let f : ℕ → ℕ = λ j. if int_eq (key_of_bucket kind j) key then slice_index numbers j else 0 in
    let g : ℕ → ℕ = λ j. if int_eq (key_of_bucket kind j) key then slice_index risen j else 0 in
    let long = ap (λ (n : ℕ). sum_by g (range_with_len 0 n)) (length-set numbers i (slice_index numbers i + u)) in
    let one = range_one f g 0 (length numbers) i (omega arith) (omega (arith, below))
    (λ k ne. ap (λ (n : ℕ). if int_eq (key_of_bucket kind k) key then n else 0) (get_or-set_other numbers i k (slice_index numbers i + u) 0 ne)) in
    let now = ap (λ (n : ℕ). if int_eq (key_of_bucket kind i) key then n else 0) (get_or-set_same numbers i (slice_index numbers i + u) 0 below) in
    let parts = by_test (int_eq (key_of_bucket kind i) key) (slice_index numbers i) in
    omega (arith, long, one, now, parts)
  where
    by_test : (b : Bool) (n : ℕ) → (if b then n + u else 0) ≡ (if b then n else 0) + (if b then u else 0)
    by_test true n = refl
    by_test false n = refl

-- ---- the block

module _ (c : Counts) (i u : ℕ) (below : i < length c.units) where
  -- with `u` units more of a bucket
  abbrev pub risen : Counts
  risen = record c { units = set c.units i (slice_index c.units i + u) }

  risen_words : counts_words risen ≡ set (counts_words c) (4 + i) (slice_index c.units i + u)
  risen_words =
      let v : ℕ = slice_index c.units i + u in
      let long = length-append c.units c.marks in
      let four : suc (suc (suc (suc i))) ≡ 4 + i = omega arith in
      ap (λ (l : List ℕ). c.size ∷ 0xC8799269 ∷ 2 ∷ c.next ∷ l)
      (sym (set-append_left (c.units ++ c.marks) c.rest i v (omega (arith, below, long)) ∙ ap (λ (l : List ℕ). l ++ c.rest) (set-append_left c.units c.marks i v below)))
      ∙ ap (λ (k : ℕ). set (counts_words c) k v) four

  within : 4 + i < length (counts_words c)
  within =
      let long = length-append c.units c.marks in
      let all = length-append (c.units ++ c.marks) c.rest in
      omega (arith, below, long, all)

  -- no count is less
  pub no_less : (k : ℕ) → slice_index c.units k ≤ slice_index risen.units k
  no_less k = dite (ℕ_discrete k i)
      (λ same. subst (λ (n : ℕ). slice_index c.units n ≤ slice_index risen.units n) (sym same)
      (let now = get_or-set_same c.units i (slice_index c.units i + u) 0 below in omega (arith, now)))
      (λ ne. let now = get_or-set_other c.units i k (slice_index c.units i + u) 0 ne in omega (arith, now))

  rises : (k : ℕ) → slice_index (counts_words c) k ≤ slice_index (counts_words risen) k
  rises k =
      let v : ℕ = slice_index c.units i + u in
      let words = ap (λ (l : List ℕ). slice_index l k) risen_words in
      dite (ℕ_discrete k (4 + i))
      (λ same.
      let now = ap (slice_index (set (counts_words c) (4 + i) v)) same ∙ get_or-set_same (counts_words c) (4 + i) v 0 within in
      let was = ap (slice_index (counts_words c)) same ∙ count_in c i below in
      omega (arith, words, now, was))
      (λ ne. let now = get_or-set_other (counts_words c) (4 + i) k v 0 ne in omega (arith, words, now))

  -- the block continues in this way
  pub risen_turns : (version : ℕ) → Turns version (counts c) (counts risen) (4 + i) (slice_index c.units i + u)
  risen_turns version = word_turns version (counts c) (counts risen) (4 + i) (slice_index c.units i + u) refl refl risen_words within (omega arith)
      (risen, refl, record { is = refl; long = (length-set c.units i (slice_index c.units i + u), refl); rise = rises })

  -- and is the counts block of the record whose single word is off
  pub risen_counts : (version at : ℕ) (r : Record) → is_off r.single ≡ true → IsCountsOf version at r c → IsCountsOf version at r risen
  risen_counts version at r off is = record {
    mine = is.mine;
    named = is.named;
    same = is.same;
    units = length-set c.units i (slice_index c.units i + u) ∙ is.units;
    marks = is.marks;
    sized = (let sized = is.sized in let long = length-set c.units i (slice_index c.units i + u) in omega (arith, sized, long));
    packed = is.packed;
    unused = λ on. absurd (cc (sym off ∙ on));
    mark = λ one k packs.
        let most = is.mark one k packs in
        let more = no_less k in
        greater _ _ _ _ _ most more;
  }
    where
      greater : (m x y n w : ℕ) → m ≤ max (x + w) n → x ≤ y → m ≤ max (y + w) n
      greater m x y n w most more =
          let left = le-max_left (y + w) n in
          let right = le-max_right (y + w) n in
          let all : max (x + w) n ≤ max (y + w) n = max-le (omega (arith, left, more)) right in
          omega (arith, most, all)

-- The records that a look follows: each next that is loaded gives the record after it, or ends the list.
use Rattle.segment_invariant.proofs.Prelude.Std.{◌≡◌, ◌⊎◌, ℕ, zero, suc, ◌+◌, ◌-◌, ◌/◌, ◌<◌, ◌≤◌, Bool, true, false, true≢false, List, ◌++◌, take, length, inl, inr, refl, sym, ap, subst, ◌∙◌, arith, slice_index, and_from, le-leb, length-append, get_or_append_left, dite, ℕ_discrete, Contains, at_from, index_at, below_length}
use Rattle.segment_invariant.proofs.Prelude.Machine.{word_at, head_of, IsLinked, IsPrefix, stops}
use Rattle.segment_invariant.proofs.Prelude.Invariant.{Invariant, layout_of}
use Rattle.std.proofs.Math.Decide.{dec_lt}
use Rattle.std.proofs.lemmas.List.{get_or-append_right, get_or-take, length-take-le}
use Rattle.std.proofs.lemmas.List.Elements.{Contains-get_or}
use Rattle.list_lemmas.proofs.Elements.{all_from}
use Rattle.alloc_core.proofs.Layouts.{free_word}
use Rattle.segment_image.specs.Blocks.{is_placed}
use Rattle.segment_image.specs.declared.head.SegmentHead.{SegmentHead}
use Rattle.list_core.proofs.Chains.{linked_of, next_inside, next_last}
use Rattle.bucket_ranges.proofs.Walks.{is_block-within}
use Rattle.segment_looks.specs.Looks.{followed_records}
use Rattle.segment_invariant.proofs.Walking.Room.{list_fits}
use Rattle.segment_promises.specs.Lists.{links_of}
use Rattle.look_promises.specs.Looks.{FollowsList, LooksFollow}
use Rattle.look_promises.proofs.Moments.Runs.{Run, kept_at, chain_at, chain_is, chain_on, reached, free_on}
use Rattle.look_promises.proofs.Copies.ThreeCopies.{ThreeCopies, three_copies, seen_in}
use Rattle.look_promises.proofs.Copies.Headers.{wide}
use Rattle.look_promises.proofs.NewRecords.Carried.{OfHand}
use Rattle.look_promises.proofs.NewRecords.Unlinked.{IsEnd, Lacks, lacking_unlinked, ends_unclaimed, ends_in_hand}
use Rattle.look_promises.proofs.Copies.Walks.{next_at, Gives, Ends, front, fronts, front_of}

-- no block can be where a list ends
end_not_placed : (head : SegmentHead) (next : ℕ) → IsEnd next → is_placed head next ≡ false
end_not_placed head next (inl none) = ap (is_placed head) none
end_not_placed head next (inr end) = ap (is_placed head) end

module _ (run : Run) where
  open run use {shape, opened, at}

  -- what is linked later has no next yet
  pub next_later : (head : SegmentHead) (m n x : ℕ) (le : m ≤ n) → Contains (links_of opened.version (at m) (at n) (reached run m n le)) x
      → is_placed head (word_at (at m).words (x + 3)) ≡ false
  next_later head m n x le linked = by (is_placed head (word_at (at m).words (x + 3))) refl
    where
      kept : Invariant shape opened (at m)
      kept = kept_at run m

      -- it would end the list
      ended : is_placed head (word_at (at m).words (x + 3)) ≡ true → IsEnd (word_at (at m).words (x + 3)) → ⊥
      ended is end = true≢false (sym is ∙ end_not_placed head (word_at (at m).words (x + 3)) end)

      by : (b : Bool) → is_placed head (word_at (at m).words (x + 3)) ≡ b → is_placed head (word_at (at m).words (x + 3)) ≡ false
      by false is = is
      by true is = elim (dec_lt x (word_at (at m).words 7)) [
        | yes below ↦ absurd (lacking_unlinked shape opened (at m) kept x below
            (all_from (OfHand (Lacks x)) (at m).actors (λ id a there has. ended is (ends_in_hand shape opened (at m) kept x id a there has)))
            (at n) (reached run m n le) linked)
        | no far ↦ absurd (ended is (ends_unclaimed shape opened (at m) kept x (omega (arith, far))))
      ]

  -- a record of a chain is after the header and below the free pointer
  pub lies : (n k : ℕ) → k < length (chain_at run n)
      → (16 ≤ slice_index (chain_at run n) k) × (slice_index (chain_at run n) k + 5 ≤ word_at (at n).words 7)
  lies n k below =
      let within = is_block-within (at n).words (head_of (at n).words) (slice_index (chain_at run n) k)
      ((chain_is run n).walk.lawful k below) in
      (within.0, (let five = within.1 in let ends = within.2 in omega (arith, five, ends)))

  -- the free pointer lies in the segment
  pub free_most : (n : ℕ) → word_at (at n).words 7 ≤ shape.size
  free_most n =
      let kept = kept_at run n in
      let free = free_word shape (at n).words (layout_of kept.anatomy) kept.shown in
      let ends = kept.shown.sound.ends in
      omega (arith, free, ends)

module _ (copies : ThreeCopies) where
  open copies use {run, shape, opened, at, first, last, moments, two, loaded}
  open seen_in copies use {list, hd}

  abbrev pub chain : ℕ → List ℕ
  chain n = chain_at run n

  pub many : 64 ≤ shape.size
  many = wide copies

  -- ---- the next of a stop, and when it was loaded

  abbrev pub stop : ℕ → ℕ
  stop k = slice_index (stops list) k

  pub within : (k : ℕ) → k ≤ length list → stop k + 3 < shape.size
  within zero le = let size = many in omega (arith, size)
  within (suc k) le =
      let there = lies run last k (omega (arith, le)) in
      let most = free_most run last in
      omega (arith, there.1, most)

  abbrev pub moment : ℕ → ℕ
  moment k = moments.two (stop k + 3)

  pub before_free : (k : ℕ) → k ≤ length list → moment k ≤ moments.three 7
  before_free k le = let size = many in loaded.ordered.third (stop k + 3) 7 (within k le) (omega (arith, size))

  pub before_last : (k : ℕ) → k ≤ length list → moment k ≤ last
  before_last k le =
      let size = many in
      let early = before_free k le in
      let late = loaded.ordered.ends 7 (omega (arith, size)) in
      omega (arith, early, late)

  pub behind_first : (k : ℕ) → k ≤ length list → first ≤ moment k
  behind_first k le =
      let size = many in
      let early = loaded.ordered.begins 0 (omega (arith, size)) in
      let late = loaded.ordered.second 0 (stop k + 3) (omega (arith, size)) (within k le) in
      omega (arith, early, late)

  next_loaded : (k : ℕ) → k ≤ length list → next_at hd two list k ≡ word_at (at (moment k)).words (stop k + 3)
  next_loaded k le = loaded.copy_two.each (stop k + 3) (within k le)

  -- ---- the list at that moment, and what was linked since

  abbrev since : (k : ℕ) → k ≤ length list → List ℕ
  since k le = links_of opened.version (at (moment k)) (at last) (reached run (moment k) last (before_last k le))

  whole_is : (k : ℕ) (le : k ≤ length list) → list ≡ chain (moment k) ++ since k le
  whole_is k le = chain_on run (moment k) last (before_last k le)

  linked : (n : ℕ) → IsLinked (at n).words (chain n)
  linked n = linked_of (at n).words (chain n) (head_of (at n).words) (chain_is run n)

  same_stop : (k : ℕ) (le : k ≤ length list) → k ≤ length (chain (moment k)) → stop k ≡ slice_index (stops (chain (moment k))) k
  same_stop k le inside =
      ap (λ (list : List ℕ). slice_index (stops list) k) (whole_is k le)
      ∙ get_or_append_left (stops (chain (moment k))) (since k le) 0 k (omega (arith, inside))

  -- before its end the next gives the record after it
  gives : (k : ℕ) → k ≤ length list → k < length (chain (moment k)) → Gives hd two list k
  gives k le lt =
      let t : ℕ = moment k in
      let long = length-append (chain t) (since k le) in
      let all = ap length (whole_is k le) in
      let same : slice_index list k ≡ slice_index (chain t) k =
      ap (λ (list : List ℕ). slice_index list k) (whole_is k le) ∙ get_or_append_left (chain t) (since k le) 0 k lt in
      let there = lies run t k lt in
      let higher = free_on run t (moments.three 7) (before_free k le) in
      record {
        within = omega (arith, lt, long, all);
        is = next_loaded k le
            ∙ (ap (λ (s : ℕ). word_at (at t).words (s + 3)) (same_stop k le (omega (arith, lt)))
            ∙ (next_inside (at t).words (chain t) k (linked t) lt ∙ sym same));
        placed = and_from _ _ (le-leb 16 (slice_index list k) (omega (arith, there.0, same)))
            (le-leb (slice_index list k + 5) hd.free (omega (arith, there.1, same, higher)));
      }

  -- at its end it is the queue block
  ends_there : (k : ℕ) → k ≤ length list → k ≡ length (chain (moment k)) → Ends hd two list k
  ends_there k le end =
      let t : ℕ = moment k in
      let is : next_at hd two list k ≡ 12 =
      next_loaded k le
      ∙ (ap (λ (s : ℕ). word_at (at t).words (s + 3)) (same_stop k le (omega (arith, end)) ∙ ap (slice_index (stops (chain t))) end)
      ∙ next_last (at t).words (chain t) (linked t)) in
      end_not_placed hd (next_at hd two list k) (inr is)

  -- and of a record that was linked later it is not stored yet, or the queue block
  ends_later : (k : ℕ) → k ≤ length list → length (chain (moment k)) < k → Ends hd two list k
  ends_later zero le later = absurd (omega (arith, later))
  ends_later (suc k) le later =
      let t : ℕ = moment (suc k) in
      let more : List ℕ = since (suc k) le in
      let long = length-append (chain t) more in
      let all = ap length (whole_is (suc k) le) in
      let place : stop (suc k) ≡ slice_index more (k - length (chain t)) =
      ap (λ (list : List ℕ). slice_index list k) (whole_is (suc k) le)
      ∙ get_or-append_right (chain t) more (length (chain t)) k 0 refl (omega (arith, later)) in
      ap (is_placed hd) (next_loaded (suc k) le)
      ∙ next_later run hd t last (stop (suc k)) (before_last (suc k) le)
      (subst (Contains more) (sym place) (Contains-get_or more (k - length (chain t)) 0 (omega (arith, later, le, long, all))))

  leads : (k : ℕ) → k ≤ length list → Gives hd two list k ⊎ Ends hd two list k
  leads k le = elim (dec_lt k (length (chain (moment k)))) [
    | yes lt ↦ inl (gives k le lt)
    | no far ↦ inr (dite (ℕ_discrete k (length (chain (moment k))))
        (λ end. ends_there k le end)
        (λ beyond. ends_later k le (omega (arith, far, beyond))))
  ]

  -- ---- from the first moment to the last

  pub first_last : first ≤ last
  first_last =
      let early = behind_first 0 (omega arith) in
      let late = before_last 0 (omega arith) in
      omega (arith, early, late)

  -- the list at the first moment is a front of that at the last
  abbrev later_ones : List ℕ
  later_ones = links_of opened.version (at first) (at last) (reached run first last first_last)

  first_is : list ≡ chain first ++ later_ones
  first_is = chain_on run first last first_last

  -- the nexts of its records give the records after them
  gives_first : (k : ℕ) → k < length (chain first) → Gives hd two list k
  gives_first k lt =
      let all = ap length first_is in
      let long = length-append (chain first) later_ones in
      let le : k ≤ length list = omega (arith, lt, all, long) in
      let t : ℕ = moment k in
      let grown = ap length (chain_on run first t (behind_first k le)) in
      let more = length-append (chain first) (links_of opened.version (at first) (at t) (reached run first t (behind_first k le))) in
      gives k le (omega (arith, lt, grown, more))

  fits : length (chain first) ≤ 0 + (length two - 16) / 5
  fits =
      let kept = kept_at run first in
      let room = list_fits shape (at first).words kept.anatomy kept.shown kept.blocks kept.list.standing kept.list.linked in
      let long = loaded.copy_two.long in
      omega (arith, room, long)

  -- the look follows `n` records of the list, each of which a next gave
  pub followed : (n : ℕ) × (n ≤ length list) × (length (chain first) ≤ n) × (followed_records hd two ≡ take n list)
      × ((j : ℕ) → j < n → Gives hd two list j)
  followed =
      let (n, short, enough, is, each) = front hd two list (length (chain first)) gives_first leads ((length two - 16) / 5) 0 (omega arith) fits in
      (n, omega (arith, short), omega (arith, enough), is, λ j lt. each j (omega arith) (omega (arith, lt)))

  pub follows : FollowsList (at first) (at last) (followed_records hd two)
  follows =
      let (n, short, enough, is, each) = followed in
      record {
        first = chain first;
        begins = chain_is run first;
        last = list;
        ends = chain_is run last;
        all = subst (IsPrefix (chain first)) (sym is) (fronts (chain first) list later_ones n first_is enough);
        none = subst (λ (front : List ℕ). IsPrefix front list) (sym is) (front_of n list);
      }

  -- a record that it follows is one of the list
  pub place_of : (reference : ℕ) → Contains (followed_records hd two) reference → (k : ℕ) × (k < length list) × (slice_index list k ≡ reference)
  place_of reference has =
      let (n, short, enough, is, each) = followed in
      let (k, here) = at_from (take n list) reference (subst (λ (list : List ℕ). Contains list reference) is has) in
      let long = length-take-le n list short in
      let below = below_length (take n list) k reference here in
      let lt : k < n = omega (arith, below, long) in
      (k, omega (arith, lt, short), sym (get_or-take n list k 0 lt) ∙ index_at (take n list) k reference 0 here)

  -- a record that a next gave was on the list when that was loaded
  pub was_listed : (k : ℕ) → Gives hd two list k → k < length (chain (moment k))
  was_listed k g = elim (dec_lt k (length (chain (moment k)))) [
    | yes lt ↦ lt
    | no far ↦
        let le : k ≤ length list = let below = g.within in omega (arith, below) in
        let ends : Ends hd two list k = dite (ℕ_discrete k (length (chain (moment k))))
        (λ end. ends_there k le end)
        (λ beyond. ends_later k le (omega (arith, far, beyond))) in
        absurd (true≢false (sym g.placed ∙ (sym (ap (is_placed hd) g.is) ∙ ends)))
  ]

pub looks_follow : LooksFollow
looks_follow shape opened at first last moments one two three run loaded = follows (three_copies shape opened at first last moments one two three run loaded)

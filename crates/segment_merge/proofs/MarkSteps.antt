-- Keys with what is noted of them, one after the other.
use Rattle.std.proofs.Common.{◌≡◌, ◌∙◌, ℕ, ◌+◌, ◌<◌, ◌≤◌, ℤ, pos, Bool, true, false, if◌then◌else◌, List, [], ◌∷◌, ◌++◌, map, length, take, drop, inl, inr, refl, sym, ap, subst, arith}
use Rattle.std.specs.List.{All, zip}
use Rattle.std.specs.Prelude.{◌⊎◌}
use Rattle.std.specs.Ordering.{int_eq}
use Rattle.std.proofs.lemmas.List.{at_drop_more, drop_all, length-map, length-take-le, map_push, take_all, take_more}
use Rattle.std.proofs.lemmas.List.Elements.{All-append, All-cons, All-nil}
use Rattle.std.proofs.lemmas.List.Sums.{sum_by-cons, sum_by_push}
use Rattle.segment_machine.specs.Actor.{units_listed}
use Rattle.segment_merge.specs.Marks.{AreMarksOf, IsMark, IsNextNoted, ReachesItsMark, count_at, key_marks}

-- two lists beside each other, with one element more of each
pub zip_push : {K X : Type 0} (ks : List K) (vs : List X) (k : K) (v : X) → length ks ≡ length vs
    → zip (ks ++ k ∷ []) (vs ++ v ∷ []) ≡ zip ks vs ++ (k, v) ∷ []
zip_push [] [] k v same = refl
zip_push [] (w ∷ vs) k v same = absurd (omega (arith, same))
zip_push (j ∷ ks) [] k v same = absurd (omega (arith, same))
zip_push (j ∷ ks) (w ∷ vs) k v same = ap (λ rest. (j, w) ∷ rest) (zip_push ks vs k v (omega (arith, same)))

-- the units of a key with one entry more
pub units_pushed : (list : List (ℤ × ℕ)) (k : ℤ) (m : ℕ) (key : ℤ)
    → units_listed (list ++ (k, m) ∷ []) key ≡ units_listed list key + (if int_eq k key then m else 0)
units_pushed list k m key = sum_by_push (λ (count : ℤ × ℕ). if int_eq count.0 key then count.1 else 0) list (k, m)

-- the units of a key from a place on
pub units_from : (list : List (ℤ × ℕ)) (i : ℕ) (key : ℤ) → i < length list
    → units_listed (drop i list) key
    ≡ (if int_eq (count_at list i).0 key then (count_at list i).1 else 0) + units_listed (drop (i + 1) list) key
units_from list i key near =
    at_drop_more (λ (rest : List (ℤ × ℕ)). units_listed rest key) list i (pos 0, 0) near
    ∙ sum_by-cons (λ (count : ℤ × ℕ). if int_eq count.0 key then count.1 else 0) (count_at list i) (drop (i + 1) list)

-- nothing, whichever way a test goes
nothing : (b : Bool) (n : ℕ) → n ≡ 0 → (if b then n else 0) ≡ 0
nothing true n none = none
nothing false n none = refl

-- a place without units may be passed
pub units_passed : (list : List (ℤ × ℕ)) (i : ℕ) (key : ℤ) → i < length list → (count_at list i).1 ≡ 0
    → units_listed (drop (i + 1) list) key ≡ units_listed (drop i list) key
units_passed list i key near none =
    let whole = units_from list i key near in
    let zero = nothing (int_eq (count_at list i).0 key) (count_at list i).1 none in
    omega (arith, whole, zero)

module _ (counts : List (ℤ × ℕ)) (marks : List ℕ) (i mark : ℕ) (near : i < length counts) (many : length marks ≡ i) where
  -- the mark of one key more
  key_marks_more : key_marks (take (i + 1) counts) (marks ++ mark ∷ []) ≡ key_marks (take i counts) marks ++ ((count_at counts i).0, mark) ∷ []
  key_marks_more =
      ap (λ (list : List (ℤ × ℕ)). key_marks list (marks ++ mark ∷ [])) (take_more counts i (pos 0, 0) near)
      ∙ (ap (λ (keys : List ℤ). zip keys (marks ++ mark ∷ [])) (map_push (λ (count : ℤ × ℕ). count.0) (take i counts) (count_at counts i))
      ∙ zip_push (map (λ (count : ℤ × ℕ). count.0) (take i counts)) marks (count_at counts i).0 mark
      (length-map (take i counts) (λ (count : ℤ × ℕ). count.0) ∙ (length-take-le i counts (omega (arith, near)) ∙ sym many)))

  -- and it is no more than the units
  pub risen_more : All ReachesItsMark (zip (take i counts) marks) → mark ≤ (count_at counts i).1 → All ReachesItsMark (zip (take (i + 1) counts) (marks ++ mark ∷ []))
  risen_more all room =
      subst (All ReachesItsMark)
      (sym (ap (λ (list : List (ℤ × ℕ)). zip list (marks ++ mark ∷ [])) (take_more counts i (pos 0, 0) near)
      ∙ zip_push (take i counts) marks (count_at counts i) mark (length-take-le i counts (omega (arith, near)) ∙ sym many)))
      (All-append ReachesItsMark (zip (take i counts) marks) ((count_at counts i, mark) ∷ []) all
      (All-cons ReachesItsMark (count_at counts i, mark) [] room (All-nil ReachesItsMark)))

  module _ (noted : List (ℤ × ℕ)) (next : ℕ)
      (so_far : (key : ℤ) → units_listed (key_marks (take i counts) marks) key + units_listed (drop next noted) key ≡ units_listed noted key) where
    -- nothing is noted of the key
    pub units_without : mark ≡ 0 → (key : ℤ)
        → units_listed (key_marks (take (i + 1) counts) (marks ++ mark ∷ [])) key + units_listed (drop next noted) key ≡ units_listed noted key
    units_without none key =
        let more : units_listed (key_marks (take (i + 1) counts) (marks ++ mark ∷ [])) key
        ≡ units_listed (key_marks (take i counts) marks) key + (if int_eq (count_at counts i).0 key then mark else 0) =
        ap (λ (list : List (ℤ × ℕ)). units_listed list key) key_marks_more ∙ units_pushed (key_marks (take i counts) marks) (count_at counts i).0 mark key in
        let zero = nothing (int_eq (count_at counts i).0 key) mark none in
        let before = so_far key in
        omega (arith, more, zero, before)

    -- what is noted next is noted of the key
    pub units_with : (then_next : ℕ) → next < length noted → count_at noted next ≡ ((count_at counts i).0, mark) → IsNextNoted noted (next + 1) then_next → (key : ℤ)
        → units_listed (key_marks (take (i + 1) counts) (marks ++ mark ∷ [])) key + units_listed (drop then_next noted) key ≡ units_listed noted key
    units_with then_next there is steps key =
        let more : units_listed (key_marks (take (i + 1) counts) (marks ++ mark ∷ [])) key
        ≡ units_listed (key_marks (take i counts) marks) key + (if int_eq (count_at counts i).0 key then mark else 0) =
        ap (λ (list : List (ℤ × ℕ)). units_listed list key) key_marks_more ∙ units_pushed (key_marks (take i counts) marks) (count_at counts i).0 mark key in
        let first : units_listed (drop next noted) key
        ≡ (if int_eq (count_at counts i).0 key then mark else 0) + units_listed (drop (next + 1) noted) key =
        units_from noted next key there
        ∙ ap (λ (count : ℤ × ℕ). (if int_eq count.0 key then count.1 else 0) + units_listed (drop (next + 1) noted) key) is in
        let before = so_far key in
        let behind = steps.same key in
        omega (arith, more, first, before, behind)

-- the place from which on something is noted, after a key with this mark
pub record IsTurned (noted counts : List (ℤ × ℕ)) (marks : List ℕ) (i mark next : ℕ) : Type 0 where
  pub within : next ≤ length noted
  pub some : next < length noted → 0 < (count_at noted next).1
  pub units : (key : ℤ) → units_listed (key_marks (take (i + 1) counts) (marks ++ mark ∷ [])) key + units_listed (drop next noted) key ≡ units_listed noted key

module _ (noted counts : List (ℤ × ℕ)) (marks : List ℕ) (i mark next then_next : ℕ) (near : i < length counts) (many : length marks ≡ i)
    (within : next ≤ length noted) (some : next < length noted → 0 < (count_at noted next).1)
    (so_far : (key : ℤ) → units_listed (key_marks (take i counts) marks) key + units_listed (drop next noted) key ≡ units_listed noted key) where
  -- by what the next mark is, and whether the place was passed
  pub turned : IsMark noted next (count_at counts i).0 (count_at counts i).1 mark
      → ((0 < mark) × IsNextNoted noted (next + 1) then_next) ⊎ ((mark ≡ 0) × (then_next ≡ next)) → IsTurned noted counts marks i mark then_next
  turned (inl (none, before)) (inl (some_mark, steps)) = absurd (omega (arith, none, some_mark))
  turned (inl (none, before)) (inr (zero, same)) = subst (IsTurned noted counts marks i mark) (sym same) (record {
    within = within;
    some = some;
    units = units_without counts marks i mark near many noted next so_far none;
  })
  turned (inr (there, is, room)) (inl (some_mark, steps)) = record {
    within = steps.within;
    some = steps.some;
    units = units_with counts marks i mark near many noted next so_far then_next there is steps;
  }
  turned (inr (there, is, room)) (inr (zero, same)) =
      let more = some there in
      let its = ap (λ (count : ℤ × ℕ). count.1) is in
      absurd (omega (arith, more, its, zero))

-- a mark is no more than the units beside it
pub mark_room : (noted : List (ℤ × ℕ)) (next : ℕ) (key : ℤ) (units mark : ℕ) → IsMark noted next key units mark → mark ≤ units
mark_room noted next key units mark (inl (none, before)) = omega (arith, none)
mark_room noted next key units mark (inr (there, is, room)) = room

-- all keys have their marks
pub marks_whole : (noted counts : List (ℤ × ℕ)) (marks : List ℕ) (i next : ℕ) → length counts ≤ i → i ≤ length counts → length marks ≡ i → length noted ≤ next
    → ((key : ℤ) → units_listed (key_marks (take i counts) marks) key + units_listed (drop next noted) key ≡ units_listed noted key)
    → All ReachesItsMark (zip (take i counts) marks) → AreMarksOf noted counts marks
marks_whole noted counts marks i next past within many none so_far risen =
    let all : take i counts ≡ counts = take_all i counts past in record {
      many = omega (arith, many, past, within);
      units = λ key.
          let before = so_far key in
          let same : units_listed (key_marks (take i counts) marks) key ≡ units_listed (key_marks counts marks) key =
          ap (λ (list : List (ℤ × ℕ)). units_listed (key_marks list marks) key) all in
          let empty : units_listed (drop next noted) key ≡ units_listed [] key = ap (λ (list : List (ℤ × ℕ)). units_listed list key) (drop_all next noted none) in
          let zero : units_listed [] key ≡ 0 = refl in
          omega (arith, before, same, empty, zero);
      risen = subst (λ (list : List (ℤ × ℕ)). All ReachesItsMark (zip list marks)) all risen;
    }

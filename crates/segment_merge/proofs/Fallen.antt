-- A walk along the names of a reading, beside those that are noted, finds what is less than is noted.
use Rattle.std.proofs.Common.{◌≡◌, ◌≢◌, ◌∙◌, ℕ, ◌+◌, ◌<◌, ◌≤◌, ℤ, pos, ◌<ℤ◌, Bool, true, false, if◌then◌else◌, List, [], ◌∷◌, ◌++◌, map, length, replicate, drop, get_or, inl, inr, refl, sym, ap, subst, arith}
use Rattle.std.specs.Prelude.{IsPermutation, Some, None}
use Rattle.std.specs.List.{zip}
use Rattle.std.specs.List.Sorted.{IsSortedByKey}
use Rattle.std.specs.Cmp.Lexicographic.{slice_cmp}
use Rattle.std.specs.Ordering.{is_lt, nat_cmp, ordering_reverse}
use Rattle.std.specs.declared.cmp.Ordering.{Ordering}
use Rattle.std.specs.declared.cmp.Ordering.TheVariants.{Less, Equal, Greater}
use mathlib.Core.Option.{some}
use lib.ListN.{get_elem?}
use Rattle.std.proofs.lemmas.Bool.{cases_lt}
use Rattle.std.proofs.lemmas.Cmp.{nat_list_cmp_total, tied_itself}
use Rattle.std.proofs.lemmas.List.{get_or-map, length-append, length-map, length-replicate}
use Rattle.std.proofs.lemmas.List.Elements.{All-contains, All-nil}
use Rattle.std.proofs.lemmas.List.Sorted.{All-permutation, Contains-permutation, ranks_by, sorted_far}
use Rattle.std.proofs.lemmas.Map.Lookups.{exact_bytes}
use Rattle.bucket_ranges.specs.Reading.{Histogram}
use Rattle.bucket_ranges.specs.Spec.{SameSpec}
use Rattle.image_reader.specs.Views.{histogram_view}
use Rattle.image_reader.specs.declared.reading.HistReading.{HistReading}
use Rattle.list_lemmas.proofs.Elements.{all_at, all_from, at_from, below_length, contains_at, from_map, index_at, none_at, there_below}
use Rattle.list_lemmas.proofs.Maps.{map_after}
use Rattle.list_lemmas.proofs.Pairs.{any_two_permuted, element_at}
use Rattle.segment_promises.specs.Reads.{units_read}
use Rattle.segment_merge.specs.Cut.{cut_at, kept, left_behind}
use Rattle.segment_merge.specs.Follow.{Step, noted_after}
use Rattle.segment_merge.specs.Marks.{AreAscending, count_at}
use Rattle.segment_merge.specs.Noted.{AreNotesInOrder, HasAll, HasFallenBelow, IsFallenAt, IsMarkedAt, IsNameBefore, IsReadingInOrder, unmarked}
use Rattle.segment_merge.specs.Remainder.{marked}
use Rattle.segment_merge.proofs.Taken.{next_of}

-- a name is not before itself
not_itself : (a b : List ℕ) → a ≡ b → IsNameBefore a b → ⊥
not_itself a b same before =
    let tied : slice_cmp nat_cmp b b ≡ Equal = tied_itself nat_list_cmp_total b in
    let less : slice_cmp nat_cmp b b ≡ Less = subst (λ (name : List ℕ). IsNameBefore name b) same before in
    absurd (cc (tied, less))

-- the element at a place
same_element : (l : List Histogram) (i : ℕ) (g h : Histogram) → get_elem? l i ≡ some g → get_elem? l i ≡ some h → g ≡ h
same_element l i g h one other = sym (index_at l i g g one) ∙ index_at l i h g other

-- ---- the order of a reading

-- names do not fall
abbrev pub NeverFall : List Histogram → Type 0
NeverFall hists = (i j : ℕ) (g h : Histogram) → i ≤ j → get_elem? hists i ≡ some g → get_elem? hists j ≡ some h → is_lt (slice_cmp nat_cmp h.name g.name) ≡ false

-- in another order
pub in_order_permuted : (xs ys : List Histogram) → IsPermutation xs ys → IsReadingInOrder xs → IsReadingInOrder ys
in_order_permuted xs ys moved order = record {
  once = any_two_permuted (λ (g h : Histogram). g.name ≢ h.name) xs ys moved order.once;
  keys = All-permutation (λ (h : Histogram). AreAscending h.counts) xs ys moved order.keys;
}

pub has_all_permuted : (noted xs ys : List Histogram) → IsPermutation xs ys → HasAll noted xs → HasAll noted ys
has_all_permuted noted xs ys moved all note there =
    let (h, among, named, spec, units) = all note there in (h, Contains-permutation xs ys h moved among, named, spec, units)

-- one of two names is before the other
either_way : (o : Ordering) (a b : List ℕ) → slice_cmp nat_cmp a b ≡ o → is_lt (slice_cmp nat_cmp b a) ≡ false → a ≢ b → IsNameBefore a b
either_way Less a b is not_before apart = is
either_way Equal a b is not_before apart = absurd (apart (exact_bytes a b is))
either_way Greater a b is not_before apart =
    let turned : slice_cmp nat_cmp b a ≡ Less = nat_list_cmp_total.antisymm b a ∙ ap ordering_reverse is in
    let before : is_lt (slice_cmp nat_cmp b a) ≡ true = ap is_lt turned in
    absurd (cc (before, not_before))

-- names that do not fall, each once, ascend
pub in_order_sorted : (hists : List Histogram) → NeverFall hists → IsReadingInOrder hists → AreNotesInOrder hists
in_order_sorted hists up order = record {
  names = λ i j g h less at_i at_j.
      either_way (slice_cmp nat_cmp g.name h.name) g.name h.name refl (up i j g h (omega (arith, less)) at_i at_j)
      (order.once i j g h (λ e. absurd (omega (arith, less, e))) at_i at_j);
  keys = order.keys;
}

-- ---- the walk

-- the first histograms have names before the one that is noted next
abbrev pub AreBefore : List Histogram → List Histogram → ℕ → ℕ → Type 0
AreBefore noted hists next n =
    (note : Histogram) → get_elem? noted next ≡ some note → (k : ℕ) (g : Histogram) → k < n → get_elem? hists k ≡ some g → IsNameBefore g.name note.name

pub before_none : (noted hists : List Histogram) (next : ℕ) → AreBefore noted hists next 0
before_none noted hists next note there k g near here = absurd (omega (arith, near))

module _ (noted hists : List Histogram) (next n : ℕ) (h : Histogram) (here : get_elem? hists n ≡ some h) where
  -- one histogram more
  last_before : (name : List ℕ) → ((k : ℕ) (g : Histogram) → k < n → get_elem? hists k ≡ some g → IsNameBefore g.name name) → IsNameBefore h.name name
      → (k : ℕ) (g : Histogram) → k < n + 1 → get_elem? hists k ≡ some g → IsNameBefore g.name name
  last_before name so_far its k g near at_k = elim (cases_lt k n) [
    | inl early ↦ so_far k g early at_k
    | inr late ↦
        let same : k ≡ n = omega (arith, near, late) in
        let one : g ≡ h = same_element hists n g h (subst (λ (j : ℕ). get_elem? hists j ≡ some g) same at_k) here in
        subst (λ (one : Histogram). IsNameBefore one.name name) (sym one) its
  ]

  pub before_more : (came : Histogram) (is_noted : Bool) (then_next : ℕ) → AreNotesInOrder noted → came.name ≡ h.name → IsMarkedAt noted next came is_noted
      → then_next ≡ (if is_noted then next + 1 else next) → AreBefore noted hists next n → AreBefore noted hists then_next (n + 1)
  before_more came true then_next order named (below, marked) is so_far note there =
      let there_next : get_elem? noted (next + 1) ≡ some note = subst (λ (i : ℕ). get_elem? noted i ≡ some note) is there in
      let old : Histogram = get_or noted next came in
      let at_next : get_elem? noted next ≡ some old = element_at noted next came below in
      let up : IsNameBefore old.name note.name = order.names next (next + 1) old note (omega arith) at_next there_next in
      last_before note.name
      (λ k g near at_k. nat_list_cmp_total.trans g.name old.name note.name (so_far old at_next k g near at_k) up)
      (subst (λ (name : List ℕ). IsNameBefore name note.name) (sym marked.name ∙ named) up)
  before_more came false then_next order named (none, before) is so_far note there =
      let there_next : get_elem? noted next ≡ some note = subst (λ (i : ℕ). get_elem? noted i ≡ some note) is there in
      let old : get_or noted next came ≡ note = index_at noted next note came there_next in
      last_before note.name (so_far note there_next)
      (subst (λ (name : List ℕ). IsNameBefore name note.name) named
      (subst (λ (one : Histogram). IsNameBefore came.name one.name) old (before (below_length noted next note there_next))))

  -- here something is less than is noted
  pub fallen_here : AreNotesInOrder noted → NeverFall hists → IsReadingInOrder hists → AreBefore noted hists next n → IsFallenAt noted next h → HasFallenBelow noted hists
  fallen_here order up once so_far (below, inl greater) all =
      let note : Histogram = get_or noted next h in
      let at_next : get_elem? noted next ≡ some note = element_at noted next h below in
      let (found, among, named, spec, units) = all note (contains_at noted next note at_next) in
      let (k, at_k) = at_from hists found among in
      elim (cases_lt k n) [
        | inl early ↦ not_itself found.name note.name named (so_far note at_next k found early at_k)
        | inr late ↦
            let turned : slice_cmp nat_cmp note.name h.name ≡ Less = nat_list_cmp_total.antisymm note.name h.name ∙ ap ordering_reverse greater in
            let its : slice_cmp nat_cmp found.name h.name ≡ Less = subst (λ (name : List ℕ). IsNameBefore name h.name) (sym named) turned in
            let less : is_lt (slice_cmp nat_cmp found.name h.name) ≡ true = ap is_lt its in
            let not_less = up n k h found (omega (arith, late)) here at_k in
            absurd (cc (less, not_less))
      ]
  fallen_here order up once so_far (below, inr (same, less)) all =
      let note : Histogram = get_or noted next h in
      let at_next : get_elem? noted next ≡ some note = element_at noted next h below in
      let among_notes = contains_at noted next note at_next in
      let (found, among, named, spec, units) = all note among_notes in
      let (k, at_k) = at_from hists found among in
      let one : found ≡ h = by_places k found at_k (named ∙ sym same) in
      elim less [
        | inl other ↦ other (subst (λ (it : Histogram). SameSpec note.spec it.spec) one spec)
        | inr fewer ↦
            let (key, less_units) = fewer (All-contains (λ (it : Histogram). AreAscending it.counts) noted note order.keys among_notes)
            (All-contains (λ (it : Histogram). AreAscending it.counts) hists h once.keys (contains_at hists n h here)) in
            let most = units key in
            let its = ap (λ (it : Histogram). units_read it key) one in
            absurd (omega (arith, less_units, most, its))
      ]
    where
      by_places : (k : ℕ) (found : Histogram) → get_elem? hists k ≡ some found → found.name ≡ h.name → found ≡ h
      by_places k found at_k named = elim (cases_lt k n) [
        | inl early ↦ absurd (once.once k n found h (λ e. absurd (omega (arith, early, e))) at_k here named)
        | inr late ↦ elim (cases_lt n k) [
          | inl behind ↦ absurd (once.once k n found h (λ e. absurd (omega (arith, behind, e))) at_k here named)
          | inr not_behind ↦ same_element hists n found h (subst (λ (j : ℕ). get_elem? hists j ≡ some found) (omega (arith, late, not_behind)) at_k) here
        ]
      ]

-- at the end something that is noted is left
pub fallen_left : (noted hists : List Histogram) (next n : ℕ) → next < length noted → length hists ≤ n → AreBefore noted hists next n → HasFallenBelow noted hists
fallen_left noted hists next n below past so_far all =
    let (note, at_next) = there_below noted next below in
    let (found, among, named, spec, units) = all note (contains_at noted next note at_next) in
    let (k, at_k) = at_from hists found among in
    let within = below_length hists k found at_k in
    not_itself found.name note.name named (so_far note at_next k found (omega (arith, within, past)) at_k)

-- ---- a reading by its names

-- an element of a list is at its place in the list of images
pub image_at : {X Y : Type 0} (f : X → Y) (l : List X) (i : ℕ) (x : X) → get_elem? l i ≡ some x → get_elem? (map f l) i ≡ some (f x)
image_at f l i x there =
    let below = below_length l i x there in
    let long = length-map l f in
    element_at (map f l) i (f x) (omega (arith, below, long))
    ∙ ap some (get_or-map f l i x (f x) below ∙ ap f (index_at l i x x there))

-- what is sorted never falls
pub never_fall : (list : List HistReading) → IsSortedByKey (λ (one : HistReading). one.name.items) (slice_cmp nat_cmp) list → NeverFall (map histogram_view list)
never_fall list up i j g h le at_i at_j =
    let (x, at_x, is_x) = from_map histogram_view list i g at_i in
    let (y, at_y, is_y) = from_map histogram_view list j h at_j in
    let name : HistReading → List ℕ = λ one. one.name.items in
    let far = sorted_far (λ (a b : HistReading). is_lt (slice_cmp nat_cmp a.name.items b.name.items)) (ranks_by nat_list_cmp_total name) list up i j x le
    (below_length list j y at_y) in
    let name_i : (get_or list i x).name.items ≡ g.name = ap (λ (one : HistReading). one.name.items) (index_at list i x x at_x) ∙ ap (λ (it : Histogram). it.name) is_x in
    let name_j : (get_or list j x).name.items ≡ h.name = ap (λ (one : HistReading). one.name.items) (index_at list j y x at_y) ∙ ap (λ (it : Histogram). it.name) is_y in
    subst (λ (both : List ℕ × List ℕ). is_lt (slice_cmp nat_cmp both.0 both.1) ≡ false) (λ k. (name_j k, name_i k)) far

-- ---- the order of notes

-- the name of a histogram, and its keys
abbrev pub shape_of : Histogram → List ℕ × List ℤ
shape_of h = (h.name, map (λ (count : ℤ × ℕ). count.0) h.counts)

-- keys that are the same ascend
ascending_keys : (xs ys : List (ℤ × ℕ)) → map (λ (count : ℤ × ℕ). count.0) xs ≡ map (λ (count : ℤ × ℕ). count.0) ys → AreAscending xs → AreAscending ys
ascending_keys xs ys same up i j less within =
    let one = length-map xs (λ (count : ℤ × ℕ). count.0) in
    let other = length-map ys (λ (count : ℤ × ℕ). count.0) in
    let long = ap length same in
    let among : j < length xs = omega (arith, within, one, other, long) in
    let key : (k : ℕ) → k < length xs → (count_at xs k).0 ≡ (count_at ys k).0 = λ k near.
    let at_x = get_or-map (λ (count : ℤ × ℕ). count.0) xs k (pos 0, 0) (pos 0) near in
    let at_y = get_or-map (λ (count : ℤ × ℕ). count.0) ys k (pos 0, 0) (pos 0) (omega (arith, near, one, other, long)) in
    sym at_x ∙ (ap (λ (keys : List ℤ). get_or keys k (pos 0)) same ∙ at_y) in
    subst (λ (both : ℤ × ℤ). both.0 <ℤ both.1) (λ k. (key i (omega (arith, less, among)) k, key j among k)) (up i j less among)

-- so the order is that of names and keys alone
pub in_order_shaped : (xs ys : List Histogram) → map shape_of xs ≡ map shape_of ys → AreNotesInOrder xs → AreNotesInOrder ys
in_order_shaped xs ys same order = record {
  names = λ i j g h less at_i at_j.
      let (x, at_x, is_x) = of i g at_i in
      let (y, at_y, is_y) = of j h at_j in
      subst (λ (both : List ℕ × List ℕ). IsNameBefore both.0 both.1) (λ k. ((is_x k).0, (is_y k).0)) (order.names i j x y less at_x at_y);
  keys = all_from (λ (it : Histogram). AreAscending it.counts) ys (λ i g at_i.
      let (x, at_x, is_x) = of i g at_i in
      ascending_keys x.counts g.counts (λ k. (is_x k).1) (all_at (λ (it : Histogram). AreAscending it.counts) xs i x order.keys at_x));
}
  where
    of : (i : ℕ) (g : Histogram) → get_elem? ys i ≡ some g → (x : Histogram) × (get_elem? xs i ≡ some x) × (shape_of x ≡ shape_of g)
    of i g at_i =
        from_map shape_of xs i (shape_of g)
        (subst (λ (l : List (List ℕ × List ℤ)). get_elem? l i ≡ some (shape_of g)) (sym same) (image_at shape_of ys i g at_i))

-- also without marks
pub in_order_marked : (xs ys : List Histogram) → map unmarked xs ≡ map unmarked ys → AreNotesInOrder xs → AreNotesInOrder ys
in_order_marked xs ys same =
    in_order_shaped xs ys
    (sym (map_after unmarked shape_of (λ h. refl) xs) ∙ (ap (map shape_of) same ∙ map_after unmarked shape_of (λ h. refl) ys))

-- what is noted of a histogram of which not all was added has its keys
kept_keys : (n : ℕ) (pairs : List ((ℤ × ℕ) × ℕ))
    → map (λ (count : ℤ × ℕ). count.0) (kept n pairs) ≡ map (λ (each : (ℤ × ℕ) × ℕ). each.0.0) pairs
kept_keys n [] = refl
kept_keys n (((key, units), mark) ∷ rest) = ap (λ (keys : List ℤ). key ∷ keys) (kept_keys (left_behind n ((key, units), mark)) rest)

zip_keys : (counts : List (ℤ × ℕ)) (marks : List ℕ) → length counts ≤ length marks
    → map (λ (each : (ℤ × ℕ) × ℕ). each.0.0) (zip counts marks) ≡ map (λ (count : ℤ × ℕ). count.0) counts
zip_keys [] marks long = refl
zip_keys (count ∷ counts) [] long = absurd (omega (arith, long))
zip_keys (count ∷ counts) (mark ∷ marks) long = ap (λ (keys : List ℤ). count.0 ∷ keys) (zip_keys counts marks (omega (arith, long)))

cut_shape : (n : ℕ) (h : Histogram) → shape_of (cut_at n h) ≡ shape_of h
cut_shape n h =
    let long = length-append h.marks (replicate (length h.counts) 0) in
    let many : length (replicate {A = ℕ} (length h.counts) 0) ≡ length h.counts = length-replicate (length h.counts) 0 in
    let keys = kept_keys n (marked h.counts h.marks)
    ∙ zip_keys h.counts (h.marks ++ replicate (length h.counts) 0) (omega (arith, long, many)) in
    (λ i. (h.name, keys i))

step_shape : (step : Step) → shape_of (noted_after step) ≡ shape_of step.0
step_shape (h, None) = refl
step_shape (h, Some (n, why)) = cut_shape n h

shapes_behind : (hists : List Histogram) → map shape_of (map (cut_at 0) hists) ≡ map shape_of hists
shapes_behind [] = refl
shapes_behind (h ∷ hists) = (λ i. cut_shape 0 h i ∷ shapes_behind hists i)

shapes_noted : (steps : List Step) (behind : List Histogram)
    → map shape_of (map noted_after steps ++ map (cut_at 0) behind) ≡ map shape_of (map (λ (step : Step). step.0) steps ++ behind)
shapes_noted [] behind = shapes_behind behind
shapes_noted (step ∷ steps) behind = (λ i. step_shape step i ∷ shapes_noted steps behind i)

-- what is noted after a merge is in order
pub noted_in_order : (hists later : List Histogram) (steps : List Step) (behind : List Histogram) → hists ≡ map (λ step. step.0) steps ++ behind
    → later ≡ map noted_after steps ++ map (cut_at 0) behind → AreNotesInOrder hists → AreNotesInOrder later
noted_in_order hists later steps behind split noted_is =
    in_order_shaped hists later (ap (map shape_of) split ∙ (sym (shapes_noted steps behind) ∙ sym (ap (map shape_of) noted_is)))

-- the histogram that comes next is at its place
pub current : (list rest : List HistReading) (n : ℕ) (x : HistReading) → drop n list ≡ x ∷ rest → get_elem? (map histogram_view list) n ≡ some (histogram_view x)
current list rest n x is =
    let (below, here, behind) = next_of list rest n x is in
    image_at histogram_view list n x (element_at list n x below ∙ ap some here)

-- nothing is in order
pub none_in_order : (list : List HistReading) → list ≡ [] → AreNotesInOrder (map histogram_view list)
none_in_order list none =
    subst (λ (l : List HistReading). AreNotesInOrder (map histogram_view l)) (sym none) (record {
      names = λ i j g h less at_i at_j. absurd (none_at i g at_i);
      keys = All-nil (λ (h : Histogram). AreAscending h.counts);
    })

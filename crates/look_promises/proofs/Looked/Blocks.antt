-- The blocks of a look: those that it takes of the last moment, at their places; and that its words have them.
use Rattle.segment_invariant.proofs.Prelude.Std.{◌≡◌, ◌≢◌, ℕ, suc, ◌+◌, ◌<◌, ◌≤◌, ◌==◌, ◌&&◌, ◌||◌, not, Bool, true, false, true≢false, List, ◌++◌, length, length-append, take, drop, inl, inr, refl, sym, ap, subst, ◌∙◌, arith, slice_index, none, some, get_elem?, some-injective, get_or-drop, Contains, at_from, at_map, below_length, contains_at, index_at, cases_order, and_from, and_parts, eq-eqb, eqb-true, eqb-false, dite, ℕ_discrete}
use Rattle.segment_invariant.proofs.Prelude.Machine.{word_at, buckets_of}
use Rattle.segment_invariant.proofs.Prelude.Invariant.{Body, Record, Counts, queue, plain, held, histogram, counts, sample, other, words_of, is_claimed, Piece, Stands, HasRecord, HasCounts}
use Rattle.std.specs.List.{list_any, slice_range}
use Rattle.std.proofs.lemmas.Bool.{not-true}
use Rattle.std.proofs.lemmas.List.{ext_get_or, get_or-take, length-drop, length-take-le}
use Rattle.std.proofs.lemmas.List.Folds.{list_any-from_Any, Any-from_list_any}
use mathlib.Core.Option.{Option}
use Rattle.alloc_core.proofs.Layouts.{in_one_page}
use Rattle.segment_looks.specs.Looks.{IsLook, counts_looked, counts_reference, is_frozen, list_start}
use Rattle.segment_invariant.specs.Body.{block_of}
use Rattle.segment_invariant.specs.Invariant.{IsCountsOf}
use Rattle.segment_invariant.proofs.Blocks.Pieces.{one_stands, one_piece, not_empty, pieces_apart}
use Rattle.segment_promises.proofs.Adopting.Cuts.{AreBlocks}
use Rattle.segment_promises.proofs.Adopting.Opened.Blocks.{there_by_test, test_there}
use Rattle.look_promises.specs.Looks.{HasWords}
use Rattle.look_promises.specs.Images.{looked_block, looked_counts}
use Rattle.look_promises.proofs.Copies.ThreeCopies.{ThreeCopies, seen_in}
use Rattle.look_promises.proofs.Copies.Following.{first_last}
use Rattle.look_promises.proofs.Copies.Following as following
use Rattle.look_promises.proofs.Copies.Headers.{free_within, of_state}
use Rattle.look_promises.proofs.Moments.Unchanged.{IsOfList, list_claimed, other_but}
use Rattle.look_promises.proofs.Moments.Listed.{ends_at}
use Rattle.look_promises.proofs.Copies.References.{named}
use Rattle.look_promises.proofs.Moments.Grounds.{four_words}
use Rattle.look_promises.proofs.Words.Mounted.{record_below}
use Rattle.look_promises.proofs.Words.Records.{shown_long, next_shown}
use Rattle.look_promises.proofs.Moments.Room.{claimed_from, block_below}
use Rattle.look_promises.proofs.Words.Counted.{stood, place_is, long_with, looked_long, range_long, shows_counts}
use Rattle.look_promises.proofs.Words.Images.{followed_is, shows_record}
use Rattle.look_promises.proofs.Looked.Chosen.{is_there, body_made, chosen_at, chosen_is, chosen_there, one_there}
use Rattle.look_promises.proofs.Looked.Still.{not_next, still_stands, unlisted, still_shown}

-- whether nobody has a block
abbrev pub is_nobodys : Option ℕ → Bool
is_nobodys none = true
is_nobodys (some id) = false

-- whether nothing changes of it but its next
abbrev pub is_still : Body → Bool
is_still (other size tag next payload) = true
is_still (queue next) = false
is_still (plain words) = false
is_still (held block) = false
is_still (histogram r) = false
is_still (counts c) = false
is_still (sample s) = false

module _ (copies : ThreeCopies) (image : List ℕ) where
  open copies use {run, shape, at, first, last, moments, one, two, three, loaded}
  open seen_in copies use {early, late, list, hd, records}

  -- ---- which are taken

  -- whether a record is followed
  abbrev pub is_followed : ℕ → Bool
  is_followed x = list_any (λ other. other == x) records

  -- whether there was a block at the first moment of which nothing changes except its next
  abbrev pub was_still : ℕ → Bool
  was_still x = list_any (λ (p : Piece). (p.at == x) && (is_nobodys p.owner && is_still p.body)) early.anatomy.pieces

  -- whether a block is taken: the records that are followed, the counts of those of which there is a reference, and what was still
  abbrev pub takes : ℕ → Body → Bool
  takes x (histogram r) = is_followed x
  takes x (sample s) = is_followed x
  takes x (other size tag next payload) = is_followed x || was_still x
  takes x (counts c) = is_followed c.of && not (counts_reference two three c.of == 0)
  takes x (queue next) = false
  takes x (plain words) = false
  takes x (held block) = false

  -- as what
  abbrev pub taken : ℕ → Body → Body
  taken x (histogram r) = looked_block one two three x (word_at image (x + 3)) (histogram r)
  taken x (sample s) = looked_block one two three x (word_at image (x + 3)) (sample s)
  taken x (other size tag next payload) = other size tag (word_at image (x + 3)) payload
  taken x (counts c) = counts (looked_counts one two c.of x (buckets_of c.spec) c)
  taken x (queue next) = queue next
  taken x (plain words) = plain words
  taken x (held block) = held block

  abbrev pub chooses : Piece → Bool
  chooses p = is_nobodys p.owner && takes p.at p.body

  abbrev pub found : ℕ → Option Piece
  found x = chosen_at chooses late.anatomy.pieces x

  abbrev pub begins : ℕ → Bool
  begins x = is_there (found x)

  abbrev pub body_at : ℕ → Body
  body_at x = body_made (λ (p : Piece). taken p.at p.body) (found x)

  -- what is taken of the list
  of_list : (x : ℕ) (body : Body) → IsOfList body → looked_block one two three x (word_at image (x + 3)) body ≡ taken x body
  of_list x (histogram r) listed = refl
  of_list x (sample s) listed = refl
  of_list x (other size tag next payload) listed = refl
  of_list x (queue next) listed = absurd listed
  of_list x (plain words) listed = absurd listed
  of_list x (held block) listed = absurd listed
  of_list x (counts c) listed = absurd listed

  -- a followed record is in the list by its test, and one that is not is not
  pub followed_by_test : (x : ℕ) → is_followed x ≡ true → Contains records x
  followed_by_test x passes = there_by_test records x passes

  pub test_followed : (x : ℕ) → Contains records x → is_followed x ≡ true
  test_followed x there = test_there records x there

  unfollowed : (x : ℕ) → is_followed x ≡ false → ¬ (Contains records x)
  unfollowed x fails there = true≢false (sym (test_there records x there) ∙ fails)

  -- a block that was still
  pub record WasStill (x : ℕ) : Type 0 where
    pub size : ℕ
    pub tag : ℕ
    pub next : ℕ
    pub payload : List ℕ
    pub stands : Stands early.anatomy.pieces x none (other size tag next payload)

  still_by_test : (x : ℕ) → was_still x ≡ true → WasStill x
  still_by_test x passes =
      let (k, p, below, is, same) = Any-from_list_any (λ (p : Piece). (p.at == x) && (is_nobodys p.owner && is_still p.body)) early.anatomy.pieces passes in
      let (j, there) = at_from early.anatomy.pieces p (k, below, is) in
      let (place, kind) = and_parts (p.at == x) (is_nobodys p.owner && is_still p.body) same in
      by_kind p.at p.owner p.body (eqb-true p.at x place) kind (j, there)
    where
      by_kind : (place : ℕ) (owner : Option ℕ) (body : Body) → place ≡ x → (is_nobodys owner && is_still body) ≡ true → Stands early.anatomy.pieces place owner body → WasStill x
      by_kind place (some id) body here kind stands = absurd (true≢false (sym kind))
      by_kind place none (other size tag next payload) here kind stands =
          record { size = size; tag = tag; next = next; payload = payload; stands = subst (λ (x : ℕ). Stands early.anatomy.pieces x none (other size tag next payload)) here stands }
      by_kind place none (queue next) here kind stands = absurd (true≢false (sym kind))
      by_kind place none (plain words) here kind stands = absurd (true≢false (sym kind))
      by_kind place none (held block) here kind stands = absurd (true≢false (sym kind))
      by_kind place none (histogram r) here kind stands = absurd (true≢false (sym kind))
      by_kind place none (counts c) here kind stands = absurd (true≢false (sym kind))
      by_kind place none (sample s) here kind stands = absurd (true≢false (sym kind))

  pub test_still : (x size tag next : ℕ) (payload : List ℕ) → Stands early.anatomy.pieces x none (other size tag next payload) → was_still x ≡ true
  test_still x size tag next payload (k, there) =
      let p : Piece = record { at = x; owner = none; body = other size tag next payload } in
      let (j, below, is) = contains_at early.anatomy.pieces k p there in
      list_any-from_Any (λ (p : Piece). (p.at == x) && (is_nobodys p.owner && is_still p.body)) early.anatomy.pieces
      (j, p, below, is, and_from (x == x) true (eq-eqb x x refl) refl)

  -- the record of a counts block, if a look takes a reference of it
  pub record HasOwner (x : ℕ) (c : Counts) : Type 0 where
    pub r : Record
    pub has : HasRecord late.anatomy.pieces c.of r
    pub names : r.counts ≡ x
    pub looked : counts_reference two three c.of ≡ r.counts
    pub own : IsCountsOf late.anatomy.version c.of r c

  pub owner_of : (x : ℕ) (c : Counts) → HasCounts late.anatomy.pieces x c → Contains records c.of → counts_reference two three c.of ≢ 0 → HasOwner x c
  owner_of x c stands there some_there =
      let (r, has, names) = late.records.named x c stands in
      let looked : counts_reference two three c.of ≡ r.counts = elim (named copies c.of r there has) [
        | inl nothing ↦ absurd (some_there nothing)
        | inr same ↦ same
      ] in
      let (e, other_there, it) = late.records.mounted c.of r has (λ nothing. some_there (looked ∙ nothing)) in
      let same : counts e ≡ counts c = (one_stands shape (at last).words late.anatomy late.shown x none none (counts e) (counts c)
      (subst (λ (n : ℕ). HasCounts late.anatomy.pieces n e) names other_there) stands).1 in
      let is : e ≡ c = cc same in
      record { r = r; has = has; names = names; looked = looked; own = subst (IsCountsOf late.anatomy.version c.of r) is it }

  -- ---- and the words have them

  module _ (look : IsLook hd one two three image) where
    -- a block that is taken is below the free pointer, and the look has its words
    pub record IsPlaced (x : ℕ) (body : Body) : Type 0 where
      pub from : 16 ≤ x
      pub claimed : is_claimed body ≡ true
      pub long : length (words_of (taken x body)) ≡ length (words_of body)
      pub within : x + length (words_of body) ≤ hd.free
      pub shown : HasWords image x (taken x body)

    list_placed : (x : ℕ) (body : Body) → Stands late.anatomy.pieces x none body → IsOfList body → Contains records x → IsPlaced x body
    list_placed x body stands listed there =
        let (k, here) = at_from records x there in
        let below = below_length records k x here in
        let (same, g) = followed_is copies image k below in
        let place : slice_index records k ≡ x = index_at records k x 0 here in
        let in_list : slice_index list k ≡ x = sym same ∙ place in
        let from = (following.lies run last k g.within).0 in
        let ends = record_below copies k body g (subst (λ (n : ℕ). Stands late.anatomy.pieces n none body) (sym in_list) stands) in
        let next : ℕ = list_start (drop (suc k) records) in
        let has : HasWords image x (looked_block one two three x next body) =
        subst (λ (n : ℕ). HasWords image n (looked_block one two three n next body)) place
        (shows_record copies image look k body below
        (subst (λ (n : ℕ). Stands late.anatomy.pieces n none body) (sym place) stands)) in
        let four = four_words body listed in
        let looked_many = shown_long one two three x next body in
        let behind : word_at image (x + 3) ≡ next = has 3 (omega (arith, looked_many, four)) ∙ next_shown one two three x next body listed in
        let is : looked_block one two three x next body ≡ taken x body =
        ap (λ (n : ℕ). looked_block one two three x n body) (sym behind) ∙ of_list x body listed in
        record {
          from = omega (arith, from, in_list);
          claimed = list_claimed body listed;
          long = ap (λ (b : Body). length (words_of b)) (sym is) ∙ looked_many;
          within = omega (arith, ends, in_list);
          shown = subst (HasWords image x) is has;
        }

    -- ---- counts

    counts_placed : (x : ℕ) (c : Counts) → HasCounts late.anatomy.pieces x c → Contains records c.of → counts_reference two three c.of ≢ 0 → IsPlaced x (counts c)
    counts_placed x c stands there some_there =
        let owner = owner_of x c stands there some_there in
        let r : Record = owner.r in
        let has = owner.has in
        let names = owner.names in
        let (k, here) = at_from records c.of there in
        let below = below_length records k c.of here in
        let (same, g) = followed_is copies image k below in
        let in_list : slice_index list k ≡ c.of = sym same ∙ index_at records k c.of 0 here in
        let has_here = subst (λ (n : ℕ). HasRecord late.anatomy.pieces n r) (sym in_list) has in
        let some_here = subst (λ (n : ℕ). counts_reference two three n ≢ 0) (sym in_list) some_there in
        let counts_here : HasCounts late.anatomy.pieces r.counts c = subst (λ (n : ℕ). HasCounts late.anatomy.pieces n c) (sym names) stands in
        let is = place_is copies image k g r c has_here some_here counts_here in
        let (d, now, goes, ends, from) = stood copies image k g r c has_here some_here counts_here 0 (omega arith) in
        let it = owner.own in
        let n : ℕ = buckets_of c.spec in
        let kinds : buckets_of r.spec ≡ n = ap buckets_of (sym it.same) in
        let units = it.units in
        let marks = it.marks in
        let within_size = ends_at run last x (counts c) stands in
        let all = length-append (c.units ++ c.marks) c.rest in
        let both = length-append c.units c.marks in
        let two_long = loaded.copy_two.long in
        let one_long = loaded.copy_one.long in
        let us = looked_long (is_frozen two c.of) two (x + 4) n (omega (arith, within_size, all, both, units, marks, kinds, two_long)) in
        let ms = range_long one (x + 4 + n) n (omega (arith, within_size, all, both, units, marks, kinds, one_long)) in
        let shown_here = shows_counts copies image look c.of r c there has some_there counts_here in
        record {
          from = omega (arith, from, is, names);
          claimed = refl;
          long = long_with c (counts_looked two c.of (x + 4) n) (slice_range one (x + 4 + n) (x + 4 + n + n)) (omega (arith, us, units, kinds)) (omega (arith, ms, marks, kinds));
          within = omega (arith, ends, is, names);
          shown = subst (λ (p : ℕ). HasWords image p (counts (looked_counts one two c.of p n c))) names
              (subst (λ (many : ℕ). HasWords image r.counts (counts (looked_counts one two c.of r.counts many c))) kinds shown_here);
        }

    -- ---- what stays except for its next

    still_placed : (x size tag next : ℕ) (payload : List ℕ) → Stands late.anatomy.pieces x none (other size tag next payload) → ¬ (Contains records x) → WasStill x
        → IsPlaced x (other size tag next payload)
    still_placed x size tag next payload stands beside was =
        let up = first_last copies in
        let (later, now) = still_stands run first last x was.size was.tag was.next was.payload up was.stands in
        let same : other was.size was.tag later was.payload ≡ other size tag next payload =
        (one_stands shape (at last).words late.anatomy late.shown x none none (other was.size was.tag later was.payload) (other size tag next payload) now stands).1 in
        let words_same : other was.size was.tag (word_at image (x + 3)) was.payload ≡ other size tag (word_at image (x + 3)) payload =
        ap (λ (b : Body). with_next b (word_at image (x + 3))) same in
        let many = ap (λ (b : Body). length (words_of b)) same in
        let on = loaded.ordered.begins 7 seven in
        let over = loaded.ordered.second 7 7 seven seven in
        let beyond = loaded.ordered.third 7 7 seven seven in
        let ends = block_below run first (moments.three 7) x (other was.size was.tag was.next was.payload) (omega (arith, on, over, beyond)) was.stands in
        record {
          from = claimed_from run last x (other size tag next payload) refl stands;
          claimed = refl;
          long = refl;
          within = omega (arith, ends, many);
          shown = subst (HasWords image x) words_same (λ i inside. dite (ℕ_discrete i 3)
              (λ here. subst (λ (i : ℕ). word_at image (x + i) ≡ slice_index (words_of (other was.size was.tag (word_at image (x + 3)) was.payload)) i) (sym here) refl)
              (λ ne. still_shown copies image x was.size was.tag was.next was.payload was.stands
              (unlisted copies image x was.size was.tag was.next was.payload was.stands beside) i ne inside look
              ∙ sym (other_but was.size was.tag was.next (word_at image (x + 3)) was.payload i (not_next i ne))));
        }
      where
        with_next : Body → ℕ → Body
        with_next (other size tag n payload) next = other size tag next payload
        with_next body next = body

        seven : 7 < shape.size
        seven = let size_of = following.many copies in omega (arith, size_of)

    -- ---- any of these

    pub placed : (x : ℕ) (owner : Option ℕ) (body : Body) → Stands late.anatomy.pieces x owner body → (is_nobodys owner && takes x body) ≡ true → IsPlaced x body
    placed x (some id) body stands passes = absurd (true≢false (sym passes))
    placed x none (histogram r) stands passes = list_placed x (histogram r) stands tt (followed_by_test x passes)
    placed x none (sample s) stands passes = list_placed x (sample s) stands tt (followed_by_test x passes)
    placed x none (other size tag next payload) stands passes = by_test (is_followed x) refl passes
      where
        by_test : (b : Bool) → is_followed x ≡ b → (b || was_still x) ≡ true → IsPlaced x (other size tag next payload)
        by_test true is passes = list_placed x (other size tag next payload) stands tt (followed_by_test x is)
        by_test false is passes = still_placed x size tag next payload stands (unfollowed x is) (still_by_test x passes)
    placed x none (counts c) stands passes =
        let (there, some_there) = and_parts (is_followed c.of) (not (counts_reference two three c.of == 0)) passes in
        counts_placed x c stands (followed_by_test c.of there) (eqb-false (counts_reference two three c.of) 0 (not-true _ some_there))
    placed x none (queue next) stands passes = absurd (true≢false (sym passes))
    placed x none (plain words) stands passes = absurd (true≢false (sym passes))
    placed x none (held block) stands passes = absurd (true≢false (sym passes))

    -- ---- where a block begins

    pub record Begins (x : ℕ) : Type 0 where
      pub k : ℕ
      pub owner : Option ℕ
      pub body : Body
      pub there : get_elem? late.anatomy.pieces k ≡ some (record { at = x; owner = owner; body = body })
      pub passes : (is_nobodys owner && takes x body) ≡ true
      pub is : body_at x ≡ taken x body

    pub begins_is : (x : ℕ) → begins x ≡ true → Begins x
    begins_is x there =
        let (p, here) = one_there chooses late.anatomy.pieces x there in
        let it = chosen_is chooses late.anatomy.pieces x p here in
        let place = it.place in
        let moved : p ≡ record { at = x; owner = p.owner; body = p.body } = λ i. record { at = place i; owner = p.owner; body = p.body } in
        record {
          k = it.k;
          owner = p.owner;
          body = p.body;
          there = it.there ∙ ap some moved;
          passes = ap chooses (sym moved) ∙ it.passes;
          is = ap (body_made (λ (p : Piece). taken p.at p.body)) here ∙ ap (λ (n : ℕ). taken n p.body) place;
        }

    pub begins_placed : (x : ℕ) (b : Begins x) → IsPlaced x b.body
    begins_placed x b = placed x b.owner b.body (b.k, b.there) b.passes

    -- one that is taken begins
    pub taken_begins : (x : ℕ) (owner : Option ℕ) (body : Body) → Stands late.anatomy.pieces x owner body → (is_nobodys owner && takes x body) ≡ true
        → (begins x ≡ true) × (body_at x ≡ taken x body)
    taken_begins x owner body (k, there) passes =
        let p : Piece = record { at = x; owner = owner; body = body } in
        let here : found x ≡ some p =
        chosen_there chooses late.anatomy.pieces k p there passes (λ j q there_too place. (one_piece shape (at last).words late.anatomy late.shown j k q p there_too there place).1) in
        (ap is_there here, ap (body_made (λ (p : Piece). taken p.at p.body)) here)

    -- ---- so they are blocks among the words

    pub image_long : length image ≡ shape.size
    image_long = look.long ∙ loaded.copy_three.long

    pub free_most : hd.free ≤ length image
    free_most =
        let (from, most) = free_within copies in
        let is = of_state copies 7 (omega arith) in
        let size = image_long in
        omega (arith, most, is, size)

    pub free_least : 16 ≤ hd.free
    free_least =
        let (from, most) = free_within copies in
        let is = of_state copies 7 (omega arith) in
        omega (arith, from, is)

    -- how long a block is
    extent_is : (x : ℕ) (b : Begins x) → length (words_of (body_at x)) ≡ length (words_of b.body)
    extent_is x b = ap (λ (body : Body). length (words_of body)) b.is ∙ (begins_placed x b).long

    holds : (x : ℕ) → begins x ≡ true → words_of (body_at x) ≡ take (length (words_of (body_at x))) (drop x image)
    holds x there =
        let b = begins_is x there in
        let p = begins_placed x b in
        let long = extent_is x b in
        let within = p.within in
        let most = free_most in
        let left = length-drop x image in
        ext_get_or 0 (words_of (body_at x)) (take (length (words_of (body_at x))) (drop x image))
        (sym (length-take-le (length (words_of (body_at x))) (drop x image) (omega (arith, long, within, most, left))))
        (λ i below.
        let has = p.shown i (subst (λ (body : Body). i < length (words_of body)) b.is below) in
        ap (λ (body : Body). slice_index (words_of body) i) b.is
        ∙ (sym has ∙ (sym (get_or-drop x image i 0) ∙ sym (get_or-take (length (words_of (body_at x))) (drop x image) i 0 below))))

    blocks_apart : (a b : ℕ) → begins a ≡ true → begins b ≡ true → a < b → a + length (words_of (body_at a)) ≤ b
    blocks_apart a b here there before =
        let x = begins_is a here in
        let y = begins_is b there in
        let long = extent_is a x in
        let p : Piece = record { at = a; owner = x.owner; body = x.body } in
        let q : Piece = record { at = b; owner = y.owner; body = y.body } in
        elim (cases_order x.k y.k) [
          | inl same ↦
              let equal : p ≡ q = some-injective p q (sym x.there ∙ (ap (get_elem? late.anatomy.pieces) same ∙ y.there)) in
              let place : a ≡ b = ap (λ (p : Piece). p.at) equal in
              absurd (omega (arith, place, before))
          | inr order ↦ elim order [
            | inl front ↦ let e = pieces_apart shape (at last).words late.anatomy late.shown x.k y.k p q x.there y.there front in omega (arith, e, long)
            | inr behind ↦ let e = pieces_apart shape (at last).words late.anatomy late.shown y.k x.k q p y.there x.there behind in absurd (omega (arith, e, before))
          ]
        ]

    pub are_blocks : AreBlocks image shape.page hd.free begins body_at
    are_blocks = record {
      long = free_most;
      pages = let wide = late.shown.sound.lawful.wide in omega (arith, wide);
      some = λ x there.
          let b = begins_is x there in
          let long = extent_is x b in
          let more = not_empty shape (at last).words late.anatomy late.shown b.k (record { at = x; owner = b.owner; body = b.body }) b.there in
          omega (arith, long, more);
      within = λ x there.
          let b = begins_is x there in
          let long = extent_is x b in
          let within = (begins_placed x b).within in
          omega (arith, long, within);
      paged = λ x there.
          let b = begins_is x there in
          let long = extent_is x b in
          let p : Piece = record { at = x; owner = b.owner; body = b.body } in
          let paged = in_one_page shape.page 12 _ b.k (block_of p) late.shown.sound.laid (at_map block_of late.anatomy.pieces b.k p b.there) in
          omega (arith, long, paged);
      shown = holds;
      apart = blocks_apart;
    }

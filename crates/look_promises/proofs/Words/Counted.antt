-- The words of a counts block that a look takes: its counts and its marks, and all else as the third copy has it.
use Rattle.segment_invariant.proofs.Prelude.Std.{◌≡◌, ◌≢◌, ◌⊎◌, ℕ, zero, suc, ◌+◌, ◌-◌, ◌<◌, ◌≤◌, Bool, true, false, List, [], ◌∷◌, ◌++◌, take, drop, length, inl, inr, refl, sym, ap, subst, ◌∙◌, arith, slice_index, if◌then◌else◌, ne_eqb, none, length-append, length-replicate, replicate, get_or_append_left, Contains, at_from, below_length, index_at}
use Rattle.segment_invariant.proofs.Prelude.Machine.{word_at, buckets_of}
use Rattle.segment_invariant.proofs.Prelude.Invariant.{Body, Record, Counts, histogram, counts, Stands, HasRecord, HasCounts}
use Rattle.std.specs.List.{slice_range}
use Rattle.std.proofs.Math.Decide.{dec_lt}
use Rattle.std.proofs.lemmas.List.{get_or-append_right, length-take-le, length-drop}
use Rattle.segment_looks.specs.Patches.{Patch, patched_word}
use Rattle.segment_looks.specs.Looks.{IsLook, counts_looked, counts_patches, counts_reference, histogram_words, is_frozen, link, list_start, record_patches}
use Rattle.segment_invariant.specs.Body.{counts_words}
use Rattle.segment_invariant.specs.Rises.{CountsGo}
use Rattle.segment_invariant.proofs.Blocks.Pieces.{piece_word, one_stands}
use Rattle.look_promises.specs.Looks.{HasWords}
use Rattle.look_promises.specs.Images.{looked_counts, LooksShowCounts}
use Rattle.look_promises.proofs.Moments.Runs.{kept_at, rises_at}
use Rattle.look_promises.proofs.Copies.ThreeCopies.{ThreeCopies, three_copies, seen_in}
use Rattle.look_promises.proofs.Copies.Walks.{Gives}
use Rattle.look_promises.proofs.Moments.Listed.{ends_at}
use Rattle.look_promises.proofs.Copies.References.{looked}
use Rattle.look_promises.proofs.Words.Patches.{apart, first_has, first_not}
use Rattle.look_promises.proofs.Words.Apart.{apart_from_counts, counts_from_own}
use Rattle.look_promises.proofs.Moments.Room.{block_below, claimed_from, record_was}
use Rattle.look_promises.proofs.Words.Mounted.{is_mounted, seven}
use Rattle.look_promises.proofs.Words.Records.{patches_are, buckets_its}
use Rattle.look_promises.proofs.Words.Images.{followed_is, one_word}

-- ---- the words of a counts block

-- with other counts and marks, and the same number of each, its other words are the same
counts_but : (c : Counts) (us ms : List ℕ) (m : ℕ) → length us ≡ length c.units → length ms ≡ length c.marks
    → (m < 4) ⊎ (4 + (length c.units + length c.marks) ≤ m)
    → slice_index (counts_words (record c { units = us; marks = ms })) m ≡ slice_index (counts_words c) m
counts_but c us ms zero units marks beside = refl
counts_but c us ms (suc zero) units marks beside = refl
counts_but c us ms (suc (suc zero)) units marks beside = refl
counts_but c us ms (suc (suc (suc zero))) units marks beside = refl
counts_but c us ms (suc (suc (suc (suc j)))) units marks (inl low) = absurd (omega (arith, low))
counts_but c us ms (suc (suc (suc (suc j)))) units marks (inr high) =
    let n : ℕ = length c.units + length c.marks in
    let new = length-append us ms in
    let old = length-append c.units c.marks in
    get_or-append_right (us ++ ms) c.rest n j 0 (omega (arith, new, units, marks)) (omega (arith, high))
    ∙ sym (get_or-append_right (c.units ++ c.marks) c.rest n j 0 (omega (arith, old)) (omega (arith, high)))

pub long_with : (c : Counts) (us ms : List ℕ) → length us ≡ length c.units → length ms ≡ length c.marks
    → length (counts_words (record c { units = us; marks = ms })) ≡ length (counts_words c)
long_with c us ms units marks =
    let new = length-append us ms in
    let old = length-append c.units c.marks in
    let all = length-append (us ++ ms) c.rest in
    let before = length-append (c.units ++ c.marks) c.rest in
    omega (arith, units, marks, new, old, all, before)

-- words that are not among as many counts and marks
wider : (a b n m : ℕ) → a + b ≡ n + n → (m < 4) ⊎ (4 + (n + n) ≤ m) → (m < 4) ⊎ (4 + (a + b) ≤ m)
wider a b n m same (inl low) = inl low
wider a b n m same (inr high) = inr (omega (arith, high, same))

-- a block is one counts block
same_counts : (body : Body) (f c : Counts) → body ≡ counts f → body ≡ counts c → f ≡ c
same_counts body f c one other = cc (one, other)

-- a number is not 0 if another is not that is equal
still_some : (a b : ℕ) → a ≡ b → b ≢ 0 → a ≢ 0
still_some a b same some nothing = some (sym same ∙ nothing)

-- its counts, and its marks
pub unit_word : (c : Counts) (n m : ℕ) → length c.units ≡ n → 4 ≤ m → m < 4 + n → slice_index (counts_words c) m ≡ slice_index c.units (m - 4)
unit_word c n m units from below =
    let long = length-append c.units c.marks in
    let same : m ≡ suc (suc (suc (suc (m - 4)))) = omega (arith, from) in
    ap (slice_index (counts_words c)) same
    ∙ (get_or_append_left (c.units ++ c.marks) c.rest 0 (m - 4) (omega (arith, long, units, from, below))
    ∙ get_or_append_left c.units c.marks 0 (m - 4) (omega (arith, units, from, below)))

pub mark_word : (c : Counts) (n m : ℕ) → length c.units ≡ n → length c.marks ≡ n → 4 + n ≤ m → m < 4 + (n + n)
    → slice_index (counts_words c) m ≡ slice_index c.marks (m - 4 - n)
mark_word c n m units marks from below =
    let long = length-append c.units c.marks in
    let same : m ≡ suc (suc (suc (suc (m - 4)))) = omega (arith, from) in
    ap (slice_index (counts_words c)) same
    ∙ (get_or_append_left (c.units ++ c.marks) c.rest 0 (m - 4) (omega (arith, long, units, marks, from, below))
    ∙ get_or-append_right c.units c.marks n (m - 4) 0 units (omega (arith, from)))

-- a range that lies in words is as long as it says
pub range_long : (words : List ℕ) (from many : ℕ) → from + many ≤ length words → length (slice_range words from (from + many)) ≡ many
range_long words from many fits =
    let left = length-drop from words in
    let same : from + many - from ≡ many = omega arith in
    ap (λ (n : ℕ). length (take n (drop from words))) same ∙ length-take-le many (drop from words) (omega (arith, left, fits))

pub looked_long : (b : Bool) (two : List ℕ) (from many : ℕ) → from + many ≤ length two
    → length (if b then slice_range two from (from + many) else replicate {A = ℕ} many 0) ≡ many
looked_long true two from many fits = range_long two from many fits
looked_long false two from many fits = length-replicate {A = ℕ} many 0

module _ (copies : ThreeCopies) (image : List ℕ) where
  open copies use {run, shape, at, last, moments, one, two, three, loaded}
  open seen_in copies use {late, list, hd, records}

  module _ (k : ℕ) (g : Gives hd two list k) (r : Record) (c : Counts) (has : HasRecord late.anatomy.pieces (slice_index list k) r)
      (some_there : counts_reference two three (slice_index list k) ≢ 0) (has_counts : HasCounts late.anatomy.pieces r.counts c) where
    abbrev x : ℕ
    x = slice_index list k

    abbrev place : ℕ
    place = counts_reference two three x

    abbrev n : ℕ
    n = word_at three (x + 7)

    pub place_is : place ≡ r.counts
    place_is = elim (looked copies k g.within r has) [
      | inl nothing ↦ absurd (some_there nothing)
      | inr same ↦ same
    ]

    stands : Stands late.anatomy.pieces place none (counts c)
    stands = subst (λ (p : ℕ). Stands late.anatomy.pieces p none (counts c)) (sym place_is) has_counts

    n_is : n ≡ buckets_of r.spec
    n_is = buckets_its copies k 12 g r has

    -- it has a count and a mark for each bucket, and is the record's own
    its : (c.of ≡ x) × (length c.units ≡ n) × (length c.marks ≡ n)
    its =
        let (d, stood, it) = late.records.mounted x r has (λ nothing. some_there (place_is ∙ nothing)) in
        let same : counts d ≡ counts c = (one_stands shape (at last).words late.anatomy late.shown r.counts none none (counts d) (counts c) stood has_counts).1 in
        let is : d ≡ c = cc same in (
          ap (λ (z : Counts). z.of) (sym is) ∙ it.mine,
          ap (λ (z : Counts). length z.units) (sym is) ∙ (it.units ∙ sym n_is),
          ap (λ (z : Counts). length z.marks) (sym is) ∙ (it.marks ∙ sym n_is),
        )

    -- ---- the third copy

    -- at the load of a word of the block it was there
    module _ (m : ℕ) (inside : m < length (counts_words c)) where
      spot : place + m < shape.size
      spot = let ends = ends_at run last place (counts c) stands in omega (arith, ends, inside)

      pub load : ℕ
      load = moments.three (place + m)

      -- from when it was mounted
      pub stood : (d : Counts) × Stands (kept_at run load).anatomy.pieces place none (counts d) × CountsGo d c × (place + length (counts_words c) ≤ hd.free) × (16 ≤ place)
      unfolding load
      stood =
          let mounts = is_mounted copies k g.within r has some_there in
          let t : ℕ = mounts.when in
          let kept = kept_at run t in
          let was = record_was run t last k mounts.before r has mounts.there in
          let (e, first_there, it) = kept.records.mounted x was.of was.stands (still_some was.of.counts place mounts.named some_there) in
          let early : Stands kept.anatomy.pieces place none (counts e) = subst (λ (p : ℕ). Stands kept.anatomy.pieces p none (counts e)) mounts.named first_there in
          let later = mounts.early (place + m) spot in
          let (body, there, (d, is, goes)) = (rises_at run t (moments.three (place + m)) later).goes place (counts e) refl early in
          let now = subst (Stands (kept_at run (moments.three (place + m))).anatomy.pieces place none) is there in
          let (then_is, still, (f, same, on)) = (rises_at run (moments.three (place + m)) last (loaded.ordered.ends (place + m) spot)).goes place (counts d) refl now in
          let equal : then_is ≡ counts c = (one_stands shape (at last).words late.anatomy late.shown place none none then_is (counts c) still stands).1 in
          let fc : f ≡ c = same_counts then_is f c same equal in
          let below = block_below run t (moments.three 7) place (counts e) (mounts.early 7 (seven copies)) early in
          let ed = ap (λ (z : Counts). length (counts_words z)) goes.is in
          let dc = ap (λ (z : Counts). length (counts_words z)) (sym fc ∙ on.is) in
          let long = long_with e d.units d.marks goes.long.0 goes.long.1 in
          let on_c = subst (CountsGo d) fc on in
          let more = long_with d c.units c.marks on_c.long.0 on_c.long.1 in
          let last_is = ap (λ (z : Counts). length (counts_words z)) on_c.is in
          (d, now, on_c, omega (arith, below, ed, long, last_is, more), claimed_from run t place (counts e) refl early)

      third_same : (m < 4) ⊎ (4 + (n + n) ≤ m) → word_at three (place + m) ≡ slice_index (counts_words c) m
      unfolding load
      third_same beside =
          let (d, (j, there), goes, below, from) = stood in
          let kept = kept_at run load in
          let (of, units, marks) = its in
          let long = long_with d c.units c.marks goes.long.0 goes.long.1 in
          let all = ap (λ (z : Counts). length (counts_words z)) goes.is in
          let du = goes.long.0 in
          let dm = goes.long.1 in
          loaded.copy_three.each (place + m) spot
          ∙ (piece_word shape (at load).words kept.anatomy kept.shown j (record { at = place; owner = none; body = counts d }) m there (omega (arith, inside, long, all))
          ∙ (sym (counts_but d c.units c.marks m du dm (wider (length d.units) (length d.marks) n m (omega (arith, du, dm, units, marks)) beside))
          ∙ ap (λ (z : Counts). slice_index (counts_words z) m) (sym goes.is)))

    -- ---- the look

    module _ (below : k < length records) (look : IsLook hd one two three image) where
      abbrev us : List ℕ
      us = counts_looked two x (place + 4) n

      abbrev ms : List ℕ
      ms = slice_range one (place + 4 + n) (place + 4 + n + n)

      abbrev shown : Counts
      shown = record c { units = us; marks = ms }

      abbrev units_patch : Patch
      units_patch = record { from = place + 4; words = us }

      abbrev marks_patch : Patch
      marks_patch = record { from = place + 4 + n; words = ms }

      counts_are : counts_patches one two x place n ≡ units_patch ∷ marks_patch ∷ []
      counts_are = ap (λ (b : Bool). if b then [] else units_patch ∷ marks_patch ∷ []) (ne_eqb place 0 some_there)

      fits : place + 4 + n + n ≤ shape.size
      fits =
          let ends = ends_at run last place (counts c) stands in
          let (of, units, marks) = its in
          let all = length-append (c.units ++ c.marks) c.rest in
          let more = length-append c.units c.marks in
          omega (arith, ends, units, marks, all, more)

      looked_many : length (counts_looked two x (place + 4) n) ≡ n
      looked_many = let size = loaded.copy_two.long in let f = fits in looked_long (is_frozen two x) two (place + 4) n (omega (arith, f, size))

      marks_many : length (slice_range one (place + 4 + n) (place + 4 + n + n)) ≡ n
      marks_many = let size = loaded.copy_one.long in let f = fits in range_long one (place + 4 + n) n (omega (arith, f, size))

      same_units : length us ≡ length c.units
      same_units = let (of, units, marks) = its in looked_many ∙ sym units

      same_marks : length ms ≡ length c.marks
      same_marks = let (of, units, marks) = its in marks_many ∙ sym marks

      both : length c.units + length c.marks ≡ n + n
      both = let (of, units, marks) = its in omega (arith, units, marks)

      -- what the patches give
      patched : (m : ℕ) → m < length (counts_words c)
          → patched_word (units_patch ∷ marks_patch ∷ []) (place + m) (word_at three (place + m)) ≡ slice_index (counts_words shown) m
      patched m inside = elim (dec_lt m 4) [
        | yes low ↦
            first_not units_patch (marks_patch ∷ []) (place + m) (word_at three (place + m)) (inl (omega (arith, low)))
            ∙ (first_not marks_patch [] (place + m) (word_at three (place + m)) (inl (omega (arith, low)))
            ∙ (third_same m inside (inl low) ∙ sym (counts_but c us ms m same_units same_marks (inl low))))
        | no from ↦ elim (dec_lt m (4 + n)) [
          | yes unit ↦
              first_has units_patch (marks_patch ∷ []) (place + m) (word_at three (place + m)) (omega (arith, from)) (omega (arith, unit, looked_many))
              ∙ (ap (slice_index us) (let e : place + m - (place + 4) ≡ m - 4 = omega (arith, from) in e) ∙ sym (unit_word shown n m looked_many (omega (arith, from)) unit))
          | no behind ↦ elim (dec_lt m (4 + (n + n))) [
            | yes mark ↦
                first_not units_patch (marks_patch ∷ []) (place + m) (word_at three (place + m)) (inr (omega (arith, behind, looked_many)))
                ∙ (first_has marks_patch [] (place + m) (word_at three (place + m)) (omega (arith, behind)) (omega (arith, mark, marks_many))
                ∙ (ap (slice_index ms) (let e : place + m - (place + 4 + n) ≡ m - 4 - n = omega (arith, behind) in e)
                ∙ sym (mark_word shown n m looked_many marks_many (omega (arith, behind)) mark)))
            | no far ↦
                first_not units_patch (marks_patch ∷ []) (place + m) (word_at three (place + m)) (inr (omega (arith, behind, looked_many)))
                ∙ (first_not marks_patch [] (place + m) (word_at three (place + m)) (inr (omega (arith, far, marks_many)))
                ∙ (third_same m inside (inr (omega (arith, far))) ∙ sym (counts_but c us ms m same_units same_marks (wider (length c.units) (length c.marks) n m both (inr (omega (arith, far)))))))
          ]
        ]
      ]

      -- so the look has the block
      has_counts_block : (m : ℕ) → m < length (counts_words shown) → word_at image (place + m) ≡ slice_index (counts_words shown) m
      has_counts_block m within =
          let inside : m < length (counts_words c) = let long = long_with c us ms same_units same_marks in omega (arith, within, long) in
          let (d, there, goes, ends, from) = stood m inside in
          let owned = its.0 in
          let next : ℕ = list_start (drop (suc k) records) in
          one_word copies image look k (place + m) below (omega (arith, from)) (omega (arith, ends, inside))
          (λ j h ne. apart_from_counts copies j h k m (counts c) g.within ne some_there stands owned inside)
          ∙ (first_not (link x next) (record_patches hd one two three x) (place + m) (word_at three (place + m))
          (apart (x + 3) 1 (place + m) (λ i low same.
          counts_from_own copies k g (3 + i) m (counts c) (histogram r) has (omega (arith, low)) stands owned inside (omega (arith, same))))
          ∙ (ap (λ (ps : List Patch). patched_word ps (place + m) (word_at three (place + m)))
          (patches_are copies k next g r has)
          ∙ (first_not (record { from = x + 8; words = histogram_words one two three x }) (counts_patches one two x place n) (place + m) (word_at three (place + m))
          (apart (x + 8) 6 (place + m) (λ i low same.
          counts_from_own copies k g (8 + i) m (counts c) (histogram r) has (omega (arith, low)) stands owned inside (omega (arith, same))))
          ∙ (ap (λ (ps : List Patch). patched_word ps (place + m) (word_at three (place + m))) counts_are ∙ patched m inside))))

      -- named by what the record names
      pub shows_block : HasWords image r.counts (counts (looked_counts one two x r.counts (buckets_of r.spec) c))
      shows_block =
          subst (λ (p : ℕ). HasWords image p (counts (looked_counts one two x p (buckets_of r.spec) c))) place_is
          (subst (λ (many : ℕ). HasWords image place (counts (looked_counts one two x place many c))) n_is has_counts_block)

  pub shows_counts : IsLook hd one two three image → (reference : ℕ) (r : Record) (c : Counts) → Contains records reference → HasRecord late.anatomy.pieces reference r
      → counts_reference two three reference ≢ 0 → HasCounts late.anatomy.pieces r.counts c
      → HasWords image r.counts (counts (looked_counts one two reference r.counts (buckets_of r.spec) c))
  shows_counts look reference r c there has some_there counts_there =
      let (k, here) = at_from records reference there in
      let below = below_length records k reference here in
      let (same, g) = followed_is copies image k below in
      let place : slice_index list k ≡ reference = sym same ∙ index_at records k reference 0 here in
      subst (λ (x : ℕ). HasWords image r.counts (counts (looked_counts one two x r.counts (buckets_of r.spec) c))) place
      (shows_block k g r c (subst (λ (x : ℕ). HasRecord late.anatomy.pieces x r) (sym place) has)
      (subst (λ (x : ℕ). counts_reference two three x ≢ 0) (sym place) some_there) counts_there below look)

pub looks_show_counts : LooksShowCounts
looks_show_counts shape opened at first last moments one two three image run loaded look =
    let copies = three_copies shape opened at first last moments one two three run loaded in (kept_at copies.run last, shows_counts copies image look)

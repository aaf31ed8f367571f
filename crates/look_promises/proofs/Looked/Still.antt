-- The blocks of the first moment of which nothing changes but their nexts, and which are not on the list: a look has them unchanged.
-- If one is the counts block of a record that is passed over, the patches of that record have the same words.
use Rattle.segment_invariant.proofs.Prelude.Std.{◌≡◌, ◌≢◌, ◌⊎◌, ℕ, ◌+◌, ◌-◌, ◌<◌, ◌≤◌, ◌==◌, ◌&&◌, Bool, true, false, List, [], ◌∷◌, ◌++◌, length, length-append, replicate, inl, inr, refl, sym, ap, subst, ◌∙◌, arith, slice_index, if◌then◌else◌, nat_le, eq-eqb, eqb-true, None, none, dite, ℕ_discrete, Contains, All, at_from, below_length, index_at}
use Rattle.segment_invariant.proofs.Prelude.Machine.{word_at, is_off, buckets_of}
use Rattle.segment_invariant.proofs.Prelude.Invariant.{Body, Record, Counts, histogram, counts, other, words_of, record_words, Listed, Stands}
use Rattle.std.specs.List.{slice_range}
use Rattle.std.proofs.Math.Decide.{dec_lt}
use Rattle.std.proofs.lemmas.List.{get_or-replicate, get_or-take, length-take-le}
use Rattle.std.proofs.lemmas.List.Elements.{Contains-get_or}
use Rattle.segment_looks.specs.Patches.{Patch}
use Rattle.segment_looks.specs.Looks.{IsLook, counts_looked, counts_patches, counts_reference, has_room, histogram_patches, histogram_words, is_frozen, link, record_patches, sample_patches}
use Rattle.segment_invariant.specs.Body.{counts_words}
use Rattle.segment_invariant.specs.Words.{AreLaid}
use Rattle.segment_invariant.proofs.Blocks.Pieces.{piece_word, one_stands}
use Rattle.segment_invariant.proofs.Consistency.Firsts.{record_on_list}
use Rattle.segment_invariant.proofs.Frames.LaidOut.{laid_out}
use Rattle.segment_invariant.proofs.Frames.PassedOver.{PassedOver}
use Rattle.look_promises.proofs.Moments.Runs.{Run, kept_at, rises_at}
use Rattle.look_promises.proofs.Copies.ThreeCopies.{ThreeCopies, seen_in}
use Rattle.look_promises.proofs.Copies.Walks.{Gives}
use Rattle.look_promises.proofs.Copies.Following.{many, followed, first_last}
use Rattle.look_promises.proofs.Moments.Unchanged.{IsOfList, other_but}
use Rattle.look_promises.proofs.Moments.Listed.{listed_at, same_place, ends_at}
use Rattle.look_promises.proofs.Copies.References.{looked}
use Rattle.look_promises.proofs.Words.Patches.{IsApart, linked_none, record_none, apart}
use Rattle.look_promises.proofs.Moments.Grounds.{buckets_said, from_opening, other_listed, still_word, HasHistogram}
use Rattle.look_promises.proofs.Copies.Named.{counts_block, fifteen, its_histogram, two_within}
use Rattle.look_promises.proofs.Words.Apart.{lies, one_block}
use Rattle.look_promises.proofs.Moments.Room.{claimed_from, block_below}
use Rattle.look_promises.proofs.Words.Counted.{unit_word, looked_long, range_long}
use Rattle.look_promises.proofs.Words.Images.{followed_is, list_word}
use Rattle.look_promises.proofs.Looked.Agreeing.{Agree, agree_none, agree_beside, agree_inside, agree_if, agree_unless, agree_all, range_word}

-- a word of a block of which nothing changes but its next
pub not_next : (i : ℕ) → i ≢ 3 → (i < 3) ⊎ (4 ≤ i)
not_next i ne = elim (dec_lt i 3) [ yes low ↦ inl low | no high ↦ inr (omega (arith, high, ne)) ]

-- ---- at each moment

module _ (run : Run) where
  open run use {shape, at}

  -- such a block is there at each later moment
  pub still_stands : (m n x size tag next : ℕ) (payload : List ℕ) → m ≤ n → Stands (kept_at run m).anatomy.pieces x none (other size tag next payload)
      → (later : ℕ) × Stands (kept_at run n).anatomy.pieces x none (other size tag later payload)
  still_stands m n x size tag next payload le stands =
      let (body, now, (later, is)) = (rises_at run m n le).goes x (other size tag next payload) refl stands in
      (later, subst (Stands (kept_at run n).anatomy.pieces x none) is now)

  -- with the same words, except for its next
  pub still_at : (m n x i size tag next : ℕ) (payload : List ℕ) → m ≤ n → Stands (kept_at run m).anatomy.pieces x none (other size tag next payload)
      → i ≢ 3 → i < length (words_of (other size tag next payload))
      → (x + i < shape.size) × (word_at (at n).words (x + i) ≡ slice_index (words_of (other size tag next payload)) i)
  still_at m n x i size tag next payload le stands ne inside =
      let kept = kept_at run n in
      let (later, (k, there)) = still_stands m n x size tag next payload le stands in
      let ends = ends_at run n x (other size tag later payload) (k, there) in
      let word = piece_word shape (at n).words kept.anatomy kept.shown k (record { at = x; owner = none; body = other size tag later payload }) i there (omega (arith, inside)) in
      (omega (arith, ends, inside), word ∙ sym (other_but size tag later next payload i (not_next i ne)))

module _ (copies : ThreeCopies) (image : List ℕ) where
  open copies use {run, shape, opened, at, first, last, moments, one, two, three, loaded}
  open seen_in copies use {early, late, list, hd, records}

  abbrev laid : AreLaid shape opened (at last).words
  laid = laid_out shape opened (at last) late

  up : first ≤ last
  up = first_last copies

  module _ (x size tag next : ℕ) (payload : List ℕ) (stood : Stands early.anatomy.pieces x none (other size tag next payload)) where
    abbrev block : Body
    block = other size tag next payload

    -- one that a look does not follow is not on the list
    pub unlisted : ¬ (Contains records x) → ¬ (Contains list x)
    unlisted unfollowed there =
        let (k, here) = at_from list x there in
        let below = below_length list k x here in
        let place : slice_index list k ≡ x = index_at list k x 0 here in
        let (later, stands) = still_stands run first last x size tag next payload up stood in
        let (nothing, tagged) = other_listed run last k size tag later payload below
        (subst (λ (n : ℕ). Stands late.anatomy.pieces n none (other size tag later payload)) (sym place) stands) in
        let (j, lt, is) = from_opening run last first x (subst (λ (n : ℕ). Contains opened.records (record { reference = n; made = None })) place nothing) in
        let (n, short, enough, all, each) = followed copies in
        let still_place = (same_place run first last j up lt).1 in
        let below_n : j < n = omega (arith, lt, enough) in
        let all_long = ap length all in
        let long = length-take-le n list short in
        let found : slice_index records j ≡ x = ap (λ (l : List ℕ). slice_index l j) all ∙ (get_or-take n list j 0 below_n ∙ (still_place ∙ is)) in
        unfollowed (subst (Contains records) found (Contains-get_or records j 0 (omega (arith, below_n, all_long, long))))

    module _ (beside : ¬ (Contains list x)) (i : ℕ) (ne : i ≢ 3) (inside : i < length (words_of block)) where
      abbrev v : ℕ
      v = slice_index (words_of block) i

      -- the copies have its words
      spot : x + i < shape.size
      spot = (still_at run first last x i size tag next payload up stood ne inside).0

      in_one : word_at one (x + i) ≡ v
      in_one = loaded.copy_one.each (x + i) spot
          ∙ (still_at run first (moments.one (x + i)) x i size tag next payload (loaded.ordered.begins (x + i) spot) stood ne inside).1

      in_two : word_at two (x + i) ≡ v
      in_two =
          let from = loaded.ordered.begins (x + i) spot in
          let on = loaded.ordered.second (x + i) (x + i) spot spot in
          loaded.copy_two.each (x + i) spot
          ∙ (still_at run first (moments.two (x + i)) x i size tag next payload (omega (arith, from, on)) stood ne inside).1

      in_three : word_at three (x + i) ≡ v
      in_three =
          let from = loaded.ordered.begins (x + i) spot in
          let on = loaded.ordered.second (x + i) (x + i) spot spot in
          let over = loaded.ordered.third (x + i) (x + i) spot spot in
          loaded.copy_three.each (x + i) spot
          ∙ (still_at run first (moments.three (x + i)) x i size tag next payload (omega (arith, from, on, over)) stood ne inside).1

      -- ---- apart from a record that is followed

      module _ (j : ℕ) (g : Gives hd two list j) where
        abbrev y : ℕ
        y = slice_index list j

        abbrev named : ℕ
        named = counts_reference two three y

        abbrev buckets : ℕ
        buckets = word_at three (y + 7)

        abbrev its : (body : Body) × Stands late.anatomy.pieces y none body × IsOfList body
        its = listed_at run last j g.within

        abbrev at_last : (later : ℕ) × Stands late.anatomy.pieces x none (other size tag later payload)
        at_last = still_stands run first last x size tag next payload up stood

        -- its block is another
        block_apart : (m : ℕ) → m < length (words_of its.0) → y + m ≢ x + i
        block_apart m within same =
            let (later, stands) = at_last in
            let place = (one_block copies y x m i its.0 (other size tag later payload) its.1 stands within (omega (arith, inside)) same).0 in
            beside (subst (Contains list) place (Contains-get_or list j 0 g.within))

        -- if it takes no counts there, none of its patches has the word
        all_apart : (word_at three (y + 2) ≡ 1 → named ≢ x) → IsApart hd one two three (x + i) y
        all_apart differs = (
          _,
          lies copies j g (x + i) block_apart
              (λ one_is names m from few same.
              let (counted, stands, long, owned) = counts_block copies j g one_is names in
              let (later, here) = at_last in
              differs one_is (one_block copies named x m i counted (other size tag later payload) stands here
              (omega (arith, few, long)) (omega (arith, inside)) same).0),
        )

        agree_apart : (behind : ℕ) → IsApart hd one two three (x + i) y → Agree (link y behind ∷ record_patches hd one two three y) (x + i) v
        agree_apart behind beside_all =
            agree_none (link y behind ∷ record_patches hd one two three y) (x + i) v
            (linked_none hd one two three (x + i) y behind (record_patches hd one two three y) beside_all
            (record_none hd one two three y (x + i) beside_all.0 beside_all.1))

        -- ---- or it is passed over, and this is its counts block

        -- with such counts
        pub record Own : Type 0 where
          pub n_is : ℕ
          pub c : Counts
          pub many : buckets ≡ n_is
          pub units : length c.units ≡ n_is
          pub marks : length c.marks ≡ n_is
          pub holds : 4 + (n_is + n_is) ≤ length (words_of block)
          pub word : slice_index (counts_words c) i ≡ v
          pub unused : is_frozen two y ≡ false → All (λ n. n ≡ 0) c.units

        module _ (is : named ≡ x) (one_is : word_at three (y + 2) ≡ 1) where
          abbrev h : HasHistogram run last y
          h = its_histogram copies j g one_is

          type_at_last : word_at (at last).words (y + 2) ≡ 1
          type_at_last =
              let long = ap length h.same in
              piece_word shape (at last).words late.anatomy late.shown h.stands.0 (record { at = y; owner = none; body = h.body }) 2 h.stands.1 (omega (arith, long))
              ∙ ap (λ (ws : List ℕ). slice_index ws 2) h.same

          some_there : named ≢ 0
          some_there nothing = let from = claimed_from run first x (other size tag next payload) refl stood in omega (arith, from, is, nothing)

          -- no histogram's record names it
          no_histogram : (r : Record) → Stands late.anatomy.pieces y none (histogram r) → ⊥
          no_histogram r has = elim (looked copies j g.within r has) [
            | inl nothing ↦ some_there nothing
            | inr same ↦
                let (c, stands, it) = late.records.mounted y r has (λ none_there. some_there (same ∙ none_there)) in
                let (later, here) = at_last in
                cc (one_stands shape (at last).words late.anatomy late.shown x none none (counts c) (other size tag later payload)
                (subst (λ (n : ℕ). Stands late.anatomy.pieces n none (counts c)) (sym same ∙ is) stands) here).1
          ]

          module _ (l : Listed) (front : List Listed) (r : Record) (among : Contains late.anatomy.records l) (nothing : l.made ≡ None) (over : PassedOver shape opened (at last).words laid front y r) where
            -- a word of the record, in each copy
            passed_word : (m t : ℕ) → m ≤ last → 4 ≤ t → t < 15 → (y + t < shape.size) × (word_at (at m).words (y + t) ≡ slice_index (record_words r) t)
            passed_word m t le from below =
                let (s, g_tag, n, words, stands, same) = over.0.stands in
                let long = ap length same in
                let ends = ends_at run last y (other s g_tag n words) stands in (
                  omega (arith, ends, long, below),
                  still_word run last m y t s g_tag n words le over.2.0 stands (inr from) (omega (arith, long, below))
                      ∙ ap (λ (ws : List ℕ). slice_index ws t) (sym same),
                )

            two_word : (t : ℕ) → 4 ≤ t → t < 15 → word_at two (y + t) ≡ slice_index (record_words r) t
            two_word t from below =
                let there = (passed_word last t (omega arith) from below).0 in
                loaded.copy_two.each (y + t) there ∙ (passed_word (moments.two (y + t)) t (two_within copies (y + t) there).1 from below).1

            three_word : (t : ℕ) → 4 ≤ t → t < 15 → word_at three (y + t) ≡ slice_index (record_words r) t
            three_word t from below =
                let there = (passed_word last t (omega arith) from below).0 in
                loaded.copy_three.each (y + t) there ∙ (passed_word (moments.three (y + t)) t (loaded.ordered.ends (y + t) there) from below).1

            either : (b : Bool) → (if b then word_at three (y + 8) else word_at two (y + 8)) ≡ r.counts
            either true = three_word 8 (omega arith) (omega arith)
            either false = two_word 8 (omega arith) (omega arith)

            counts_are : named ≡ r.counts
            counts_are = either ((word_at two (y + 8) == 0) && is_frozen two y)

            frozen_is : is_frozen two y ≡ is_off r.single
            frozen_is = ap is_off (two_word 9 (omega arith) (omega arith))

            own : Own
            own =
                let (c, (s, g_tag, n, words, stands, same), it, bounded) = over.0.counted (λ none_there. some_there (counts_are ∙ none_there)) in
                let (later, here) = at_last in
                let bodies : other s g_tag n words ≡ other size tag later payload =
                (one_stands shape (at last).words late.anatomy late.shown x none none (other s g_tag n words) (other size tag later payload)
                (subst (λ (p : ℕ). Stands late.anatomy.pieces p none (other s g_tag n words)) (sym counts_are ∙ is) stands) here).1 in
                let long = ap length same in
                let all = ap (λ (b : Body). length (words_of b)) bodies in
                let units = it.units in
                let marks = it.marks in
                let whole_long = length-append (c.units ++ c.marks) c.rest in
                let both_long = length-append c.units c.marks in
                record {
                  n_is = buckets_of r.spec;
                  c = c;
                  many = three_word 7 (omega arith) (omega arith) ∙ buckets_said r.spec;
                  units = units;
                  marks = marks;
                  holds = omega (arith, long, all, units, marks, whole_long, both_long);
                  word = ap (λ (ws : List ℕ). slice_index ws i) same ∙ (ap (λ (b : Body). slice_index (words_of b) i) bodies
                      ∙ sym (other_but size tag later next payload i (not_next i ne)));
                  unused = λ unfrozen. (it.unused (sym frozen_is ∙ unfrozen)).0;
                }

          its_own : Own
          its_own = elim (record_on_list shape opened (at last).words laid y (Contains-get_or list j 0 g.within) type_at_last) [
            | inl (l, name, kind, r, among, place, made_as, (has, named_so, specified)) ↦ absurd (no_histogram r has)
            | inr (l, front, r, among, nothing, over) ↦ own l front r among nothing over
          ]

          -- its counts agree
          abbrev units_patch : Patch
          units_patch = record { from = named + 4; words = counts_looked two y (named + 4) buckets }

          abbrev marks_patch : Patch
          marks_patch = record { from = named + 4 + buckets; words = slice_range one (named + 4 + buckets) (named + 4 + buckets + buckets) }

          fits : named + 4 + buckets + buckets ≤ shape.size
          fits =
              let o = its_own in
              let (later, stands) = at_last in
              let ends = ends_at run last x (other size tag later payload) stands in
              let holds = o.holds in
              let n = o.many in
              omega (arith, ends, holds, n, is)

          units_long : length (counts_looked two y (named + 4) buckets) ≡ buckets
          units_long = let size_of = loaded.copy_two.long in let f = fits in looked_long (is_frozen two y) two (named + 4) buckets (omega (arith, f, size_of))

          marks_long : length (slice_range one (named + 4 + buckets) (named + 4 + buckets + buckets)) ≡ buckets
          marks_long = let size_of = loaded.copy_one.long in let f = fits in range_long one (named + 4 + buckets) buckets (omega (arith, f, size_of))

          unit_agrees : (b : Bool) → is_frozen two y ≡ b → 4 ≤ i → i < 4 + buckets
              → slice_index (if b then slice_range two (named + 4) (named + 4 + buckets) else replicate buckets 0) (i - 4) ≡ v
          unit_agrees true frozen from below =
              range_word two (named + 4) buckets (i - 4) (omega (arith, from, below)) ∙ (ap (word_at two) (omega (arith, from, is)) ∙ in_two)
          unit_agrees false unfrozen from below =
              let o = its_own in
              let n = o.many in
              let units = o.units in
              get_or-replicate buckets (i - 4) 0 0 (omega (arith, from, below))
              ∙ (sym (o.unused unfrozen (i - 4) 0 (omega (arith, from, below, units, n)))
              ∙ (sym (unit_word o.c o.n_is i units from (omega (arith, below, n))) ∙ o.word))

          counts_agree : Agree (units_patch ∷ marks_patch ∷ []) (x + i) v
          counts_agree = elim (dec_lt i 4) [
            | yes low ↦
                agree_beside units_patch (marks_patch ∷ []) (x + i) v (inl (omega (arith, low, is)))
                (agree_beside marks_patch [] (x + i) v (inl (omega (arith, low, is))) (λ w same. same))
            | no from ↦ elim (dec_lt i (4 + buckets)) [
              | yes unit ↦
                  agree_inside units_patch (marks_patch ∷ []) (x + i) v (omega (arith, from, is)) (omega (arith, unit, is, units_long))
                  (ap (slice_index (counts_looked two y (named + 4) buckets)) (let e : x + i - (named + 4) ≡ i - 4 = omega (arith, from, is) in e)
                  ∙ unit_agrees (is_frozen two y) refl (omega (arith, from)) unit)
              | no behind ↦ elim (dec_lt i (4 + (buckets + buckets))) [
                | yes mark ↦
                    agree_beside units_patch (marks_patch ∷ []) (x + i) v (inr (omega (arith, behind, is, units_long)))
                    (agree_inside marks_patch [] (x + i) v (omega (arith, behind, is)) (omega (arith, mark, is, marks_long))
                    (range_word one (named + 4 + buckets) buckets (x + i - (named + 4 + buckets)) (omega (arith, behind, mark, is))
                    ∙ (ap (word_at one) (omega (arith, behind, is)) ∙ in_one)))
                | no far ↦
                    agree_beside units_patch (marks_patch ∷ []) (x + i) v (inr (omega (arith, behind, is, units_long)))
                    (agree_beside marks_patch [] (x + i) v (inr (omega (arith, far, is, marks_long))) (λ w same. same))
              ]
            ]
          ]

          record_agrees : Agree (record_patches hd one two three y) (x + i) v
          record_agrees =
              subst (λ (ps : List Patch). Agree ps (x + i) v)
              (sym (ap (λ (b : Bool). if b then histogram_patches hd one two three y else (if word_at three (y + 2) == 3 then sample_patches hd one two y else []))
              (eq-eqb (word_at three (y + 2)) 1 one_is)))
              (agree_if (nat_le (y + 16) hd.free && has_room hd named buckets)
              (record { from = y + 8; words = histogram_words one two three y } ∷ counts_patches one two y named buckets) (x + i) v
              (agree_beside (record { from = y + 8; words = histogram_words one two three y }) (counts_patches one two y named buckets) (x + i) v
              (apart (y + 8) 6 (x + i) (λ m below same.
              let long = fifteen copies j g one_is its.0 its.1 in
              block_apart (8 + m) (omega (arith, below, long)) (omega (arith, same))))
              (agree_unless (named == 0) (units_patch ∷ marks_patch ∷ []) (x + i) v counts_agree)))

        -- its patches agree in either case
        pub agrees : (behind : ℕ) → Agree (link y behind ∷ record_patches hd one two three y) (x + i) v
        agrees behind = dite (ℕ_discrete named x)
            (λ is. by_type is (word_at three (y + 2) == 1) refl)
            (λ differs. agree_apart behind (all_apart (λ one_is. differs)))
          where
            by_type : named ≡ x → (b : Bool) → (word_at three (y + 2) == 1) ≡ b → Agree (link y behind ∷ record_patches hd one two three y) (x + i) v
            by_type is true passes =
                let one_is = eqb-true (word_at three (y + 2)) 1 passes in
                agree_beside (link y behind) (record_patches hd one two three y) (x + i) v
                (apart (y + 3) 1 (x + i) (λ m below same.
                let long = fifteen copies j g one_is its.0 its.1 in
                block_apart (3 + m) (omega (arith, below, long)) (omega (arith, same))))
                (record_agrees is one_is)
            by_type is false passes = agree_apart behind (all_apart (λ one_is. absurd (cc (sym passes ∙ eq-eqb (word_at three (y + 2)) 1 one_is))))

      -- so the look has its word
      pub still_shown : IsLook hd one two three image → word_at image (x + i) ≡ v
      still_shown look =
          let from = claimed_from run first x (other size tag next payload) refl stood in
          let on = loaded.ordered.begins 7 seven in
          let over = loaded.ordered.second 7 7 seven seven in
          let beyond = loaded.ordered.third 7 7 seven seven in
          let ends = block_below run first (moments.three 7) x block (omega (arith, on, over, beyond)) stood in
          list_word copies image look (x + i) (omega (arith, from)) (omega (arith, ends, inside))
          ∙ agree_all hd one two three (x + i) v records
          (λ j behind lt.
          let (same, g) = followed_is copies image j lt in
          subst (λ (y : ℕ). Agree (link y behind ∷ record_patches hd one two three y) (x + i) v) (sym same) (agrees j g behind))
          (word_at three (x + i)) in_three
        where
          seven : 7 < shape.size
          seven = let size_of = many copies in omega (arith, size_of)

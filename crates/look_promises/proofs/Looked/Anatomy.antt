-- The anatomy of a look, whose blocks are those of the last moment that it takes, and that its words are shown by it.
use Rattle.segment_invariant.proofs.Prelude.Std.{◌≡◌, ◌≢◌, ℕ, zero, suc, ◌+◌, ◌-◌, ◌<◌, ◌≤◌, ◌==◌, ◌&&◌, not, Bool, true, true≢false, List, [], ◌∷◌, ◌++◌, map, length, take, drop, replicate, length-replicate, take-append-drop, inl, inr, refl, sym, ap, subst, ◌∙◌, arith, slice_index, ◌%◌, none, some, some-injective, get_elem?, get_or-drop, Contains, and_from, and_parts, eqb-false, ne_eqb}
use Rattle.segment_invariant.proofs.Prelude.Machine.{word_at, buckets_of, IsShown}
use Rattle.segment_invariant.proofs.Prelude.Invariant.{Anatomy, layout_of, order_of, Body, Record, Counts, Sample, queue, plain, held, histogram, counts, sample, other, words_of, is_claimed, Piece, Listed, Stands, HasRecord, HasCounts, Invariant}
use Rattle.std.proofs.Common.{div-add-mod'}
use Rattle.std.proofs.lemmas.Bool.{not-true}
use Rattle.std.proofs.lemmas.List.{drop-drop, ext_get_or, get_or-replicate, length-drop, length-take-le, take-map}
use mathlib.Core.Option.{Option}
use Rattle.alloc_core.specs.Layout.{spread, end_of, head_words, render}
use Rattle.alloc_core.proofs.Layouts.{free_word}
use Rattle.segment_looks.specs.Looks.{IsLook, counts_reference}
use Rattle.segment_invariant.specs.Body.{block_of}
use Rattle.segment_invariant.specs.Invariant.{ClaimedRight}
use Rattle.segment_invariant.proofs.Blocks.Pieces.{one_stands, queue_piece}
use Rattle.segment_promises.proofs.Adopting.Slices.{fields_run}
use Rattle.segment_promises.proofs.Adopting.Cuts.{AreCut, cut}
use Rattle.segment_promises.proofs.Adopting.Headers.{queue_word}
use Rattle.look_promises.specs.Images.{looked_counts}
use Rattle.look_promises.proofs.Moments.Runs.{kept_at}
use Rattle.look_promises.proofs.Copies.ThreeCopies.{ThreeCopies, seen_in, hd_of}
use Rattle.look_promises.proofs.Copies.Headers.{of_state}
use Rattle.look_promises.proofs.Copies.Following.{followed}
use Rattle.look_promises.proofs.Copies.References.{named}
use Rattle.look_promises.proofs.Words.Starting.{header_word}
use Rattle.look_promises.proofs.Words.Cleared.{cleared}
use Rattle.look_promises.proofs.Looked.Taken.{ARecord, ASample, ACounts, IsTaken}
use Rattle.look_promises.proofs.Looked.Blocks.{is_nobodys, is_followed, takes, taken, begins, body_at, followed_by_test, test_followed, owner_of, IsPlaced, Begins, begins_is, begins_placed, taken_begins, image_long, free_most, free_least, are_blocks}

module _ (copies : ThreeCopies) (image : List ℕ) (look : IsLook (hd_of copies) copies.one copies.two copies.three image) where
  open copies use {run, shape, opened, at, last, moments, one, two, three}
  open seen_in copies use {late, list, hd, records}

  -- where its blocks begin, and what each is
  abbrev starts : ℕ → Bool
  starts = begins copies image

  abbrev body : ℕ → Body
  body = body_at copies image

  abbrev taken_as : ℕ → Body → Body
  taken_as = taken copies image

  abbrev is_taken : ℕ → Body → Bool
  is_taken = takes copies image

  start_of : (x : ℕ) → starts x ≡ true → Begins copies image look x
  start_of x there = begins_is copies image look x there

  place_of : (x : ℕ) (b : Begins copies image look x) → IsPlaced copies image look x b.body
  place_of x b = begins_placed copies image look x b

  from : (x : ℕ) → starts x ≡ true → 16 ≤ x
  from x there = (place_of x (start_of x there)).from

  least : 16 ≤ hd.free
  least = free_least copies image look

  -- its blocks after the queue block, and all else word by word
  pub pieces : List Piece
  pieces = (cut image shape.page hd.free starts body (are_blocks copies image look) 16 least (λ b there. inr (from b there))).0

  pub are_cut : AreCut image shape.page hd.free starts body 16 pieces
  unfolding pieces
  are_cut = (cut image shape.page hd.free starts body (are_blocks copies image look) 16 least (λ b there. inr (from b there))).1

  -- when the flags were loaded
  abbrev flagged : Invariant shape opened (at (moments.three 6))
  flagged = kept_at run (moments.three 6)

  -- the anatomy
  abbrev pub anatomy : Anatomy
  anatomy = record {
    version = 2;
    id = opened.id;
    corrupt = flagged.anatomy.corrupt;
    full = flagged.anatomy.full;
    other_flags = flagged.anatomy.other_flags;
    tail = word_at image 8;
    reserved = (word_at image 9, word_at image 10, word_at image 11);
    pieces = queue_piece (word_at image 15) ∷ pieces;
    spare = length image - hd.free;
    records = take (length records) late.anatomy.records;
  }

  -- ---- its words are shown

  long : length image ≡ shape.size
  long = image_long copies image look

  most : hd.free ≤ length image
  most = free_most copies image look

  -- a word of the header is that of a kept state
  abbrev kept : (i : ℕ) → Invariant shape opened (at (moments.three i))
  kept i = kept_at run (moments.three i)

  word : (i : ℕ) → i < 16 → i ≢ 8 → i ≢ 15 → word_at image i ≡ word_at (at (moments.three i)).words i
  word i below no_tail no_start =
      header_word copies image look i below no_tail no_start
      ∙ of_state copies i below

  cookie_word : word_at image 0 ≡ 0x408305DC
  cookie_word = word 0 (omega arith) (λ e. cc e) (λ e. cc e) ∙ ap (λ (ws : List ℕ). word_at ws 0) (kept 0).shown.shows

  version_word : word_at image 1 ≡ 2
  version_word = word 1 (omega arith) (λ e. cc e) (λ e. cc e) ∙ (ap (λ (ws : List ℕ). word_at ws 1) (kept 1).shown.shows ∙ ((kept 1).same.0 ∙ run.version))

  size_word : word_at image 2 ≡ shape.size
  size_word = word 2 (omega arith) (λ e. cc e) (λ e. cc e) ∙ ap (λ (ws : List ℕ). word_at ws 2) (kept 2).shown.shows

  page_word : word_at image 3 ≡ shape.page
  page_word = word 3 (omega arith) (λ e. cc e) (λ e. cc e) ∙ ap (λ (ws : List ℕ). word_at ws 3) (kept 3).shown.shows

  id_word : word_at image 4 ≡ opened.id
  id_word = word 4 (omega arith) (λ e. cc e) (λ e. cc e) ∙ (ap (λ (ws : List ℕ). word_at ws 4) (kept 4).shown.shows ∙ (kept 4).same.1)

  state_word : word_at image 5 ≡ 1
  state_word = word 5 (omega arith) (λ e. cc e) (λ e. cc e) ∙ ap (λ (ws : List ℕ). word_at ws 5) (kept 5).shown.shows

  abbrev flags : ℕ
  flags = word_at (head_words shape (layout_of anatomy)) 6

  flags_word : word_at image 6 ≡ flags
  flags_word = word 6 (omega arith) (λ e. cc e) (λ e. cc e) ∙ ap (λ (ws : List ℕ). word_at ws 6) flagged.shown.shows

  free_is : word_at image 7 ≡ hd.free
  free_is = word 7 (omega arith) (λ e. cc e) (λ e. cc e)

  queued : (j : ℕ) → j < 3 → word_at image (12 + j) ≡ slice_index (4 ∷ 1 ∷ 0 ∷ (kept (12 + j)).shown.sound.queue.0 ∷ []) j
  queued j below =
      word (12 + j) (omega (arith, below)) (λ e. omega (arith, e)) (λ e. omega (arith, e, below))
      ∙ queue_word shape (at (moments.three (12 + j))).words (layout_of (kept (12 + j)).anatomy) (kept (12 + j)).shown j (omega (arith, below))

  -- the words before the queue block
  head_is : take 12 image ≡ head_words shape (layout_of anatomy)
  head_is =
      let low = least in
      let high = most in
      fields_run image 0 0 12 (omega (arith, low, high))
      ∙ (λ i. cookie_word i ∷ version_word i ∷ size_word i ∷ page_word i ∷ id_word i ∷ state_word i ∷ flags_word i ∷ (free_is ∙ sym are_cut.ends) i ∷ word_at image 8
      ∷ word_at image 9 ∷ word_at image 10 ∷ word_at image 11 ∷ [])

  -- from the free pointer on all is 0
  zeros_behind : drop hd.free image ≡ replicate (length image - hd.free) 0
  zeros_behind =
      ext_get_or 0 (drop hd.free image) (replicate (length image - hd.free) 0) (length-drop hd.free image ∙ sym (length-replicate (length image - hd.free) 0))
      (λ i below.
      let left = length-drop hd.free image in
      let all = long in
      get_or-drop hd.free image i 0
      ∙ (cleared copies image look (hd.free + i) (omega arith) (omega (arith, below, left, all))
      ∙ sym (get_or-replicate (length image - hd.free) i 0 0 (omega (arith, below, left)))))

  -- and those from there on
  blocks_are : drop 12 image ≡ spread (replicate (length image - hd.free) 0) (map block_of anatomy.pieces)
  blocks_are =
      let low = least in
      let high = most in
      sym (take-append-drop 4 (drop 12 image))
      ∙ (ap (λ (ws : List ℕ). ws ++ drop 4 (drop 12 image)) (fields_run image 0 12 4 (omega (arith, low, high)))
      ∙ (λ i. (queued 0 (omega arith) i ∷ queued 1 (omega arith) i ∷ queued 2 (omega arith) i ∷ word_at image 15 ∷ [])
      ++ (drop-drop 4 12 image ∙ sym (are_cut.shows (replicate (length image - hd.free) 0) zeros_behind)) i))

  shows : image ≡ render shape (layout_of anatomy)
  shows = sym (take-append-drop 12 image) ∙ (λ i. head_is i ++ blocks_are i)

  queue_paged : 12 % shape.page + 4 ≤ shape.page
  queue_paged = let wide = late.shown.sound.lawful.wide in let e = div-add-mod' 12 shape.page in omega (arith, wide, e)

  leaves : end_of 16 (map block_of pieces) % shape.page + 5 ≤ shape.page
  leaves =
      let free = free_word shape (at (moments.three 7)).words (layout_of (kept 7).anatomy) (kept 7).shown in
      subst (λ (n : ℕ). n % shape.page + 5 ≤ shape.page) (sym free ∙ sym are_cut.ends) (kept 7).shown.sound.leaves

  pub shown : IsShown shape image (layout_of anatomy)
  shown = record {
    shows = shows;
    sound = record {
      lawful = late.shown.sound.lawful;
      queue = (word_at image 15, refl);
      laid = (refl, omega arith, queue_paged, are_cut.laid);
      ends = let ends = are_cut.ends in let high = most in let all = long in omega (arith, ends, high, all);
      leaves = leaves;
    };
  }

  -- ---- its blocks are claimed right

  taken_size : (x : ℕ) (b : Body) → is_claimed b ≡ true → slice_index (words_of (taken_as x b)) 0 ≡ slice_index (words_of b) 0
  taken_size x (histogram r) claimed = refl
  taken_size x (sample s) claimed = refl
  taken_size x (other size tag next payload) claimed = refl
  taken_size x (counts c) claimed = refl
  taken_size x (held own) claimed = refl
  taken_size x (queue next) claimed = absurd (true≢false (sym claimed))
  taken_size x (plain words) claimed = absurd (true≢false (sym claimed))

  block_right : (x : ℕ) → starts x ≡ true → ClaimedRight (record { at = x; owner = none; body = body x })
  block_right x there claimed =
      let b = start_of x there in
      let p = place_of x b in
      let (size, five, owner) = late.blocks b.k (record { at = x; owner = b.owner; body = b.body }) b.there p.claimed in
      let all : length (words_of (body x)) ≡ length (words_of b.body) = ap (λ (z : Body). length (words_of z)) b.is ∙ p.long in
      (ap (λ (z : Body). slice_index (words_of z) 0) b.is ∙ (taken_size x b.body p.claimed ∙ (size ∙ sym all)), omega (arith, five, all), inl refl)

  pub blocks : (k : ℕ) (p : Piece) → get_elem? anatomy.pieces k ≡ some p → ClaimedRight p
  blocks zero p there = λ claimed. absurd (true≢false (sym claimed ∙ ap (λ (p : Piece). is_claimed p.body) (sym (some-injective (queue_piece (word_at image 15)) p there))))
  blocks (suc k) p there = elim (are_cut.each k p there) [
    | inl (starts_here, is) ↦ subst ClaimedRight (sym is) (block_right p.at starts_here)
    | inr (gap, is) ↦ λ claimed. absurd (true≢false (sym claimed ∙ ap (λ (p : Piece). is_claimed p.body) is))
  ]

  -- ---- what of the last moment it has

  -- a block of it is one that is taken
  pub record IsOf (x : ℕ) (z : Body) : Type 0 where
    pub owner : Option ℕ
    pub block : Body
    pub stands : Stands late.anatomy.pieces x owner block
    pub passes : (is_nobodys owner && is_taken x block) ≡ true
    pub is : z ≡ taken_as x block

  pub is_of : (x : ℕ) (z : Body) → is_claimed z ≡ true → Stands anatomy.pieces x none z → IsOf x z
  is_of x z claimed (zero, there) =
      absurd (true≢false (sym claimed ∙ ap (λ (p : Piece). is_claimed p.body) (sym (some-injective (queue_piece (word_at image 15)) (record { at = x; owner = none; body = z }) there))))
  is_of x z claimed (suc k, there) = elim (are_cut.each k (record { at = x; owner = none; body = z }) there) [
    | inl (starts_here, is) ↦
        let b = start_of x starts_here in
        record { owner = b.owner; block = b.body; stands = (b.k, b.there); passes = b.passes; is = ap (λ (p : Piece). p.body) is ∙ b.is }
    | inr (gap, is) ↦ absurd (true≢false (sym claimed ∙ ap (λ (p : Piece). is_claimed p.body) is))
  ]

  -- and each that is taken is there
  pub there_as : (x : ℕ) (z : Body) → Stands late.anatomy.pieces x none z → is_taken x z ≡ true → Stands anatomy.pieces x none (taken_as x z)
  there_as x z stands passes =
      let (starts_here, is) = taken_begins copies image look x none z stands passes in
      let (k, here) = are_cut.all x starts_here (from x starts_here) in
      (suc k, here ∙ ap (λ (b : Body). some (record { at = x; owner = none; body = b })) is)

  record_of : (x : ℕ) (q : Record) (owner : Option ℕ) (z : Body) → Stands late.anatomy.pieces x owner z → (is_nobodys owner && is_taken x z) ≡ true
      → histogram q ≡ taken_as x z → ARecord copies image x q
  record_of x q (some id) z stands passes is = absurd (true≢false (sym passes))
  record_of x q none (histogram r) stands passes is =
      record { of = r; stands = stands; followed = followed_by_test copies image x passes; is = cc is }
  record_of x q none (sample s) stands passes is = absurd (cc is)
  record_of x q none (other size tag next payload) stands passes is = absurd (cc is)
  record_of x q none (counts c) stands passes is = absurd (cc is)
  record_of x q none (queue next) stands passes is = absurd (cc is)
  record_of x q none (plain words) stands passes is = absurd (cc is)
  record_of x q none (held own) stands passes is = absurd (cc is)

  sample_of : (x : ℕ) (t : Sample) (owner : Option ℕ) (z : Body) → Stands late.anatomy.pieces x owner z → (is_nobodys owner && is_taken x z) ≡ true
      → sample t ≡ taken_as x z → ASample copies image x t
  sample_of x t (some id) z stands passes is = absurd (true≢false (sym passes))
  sample_of x t none (sample s) stands passes is =
      record { of = s; stands = stands; followed = followed_by_test copies image x passes; is = cc is }
  sample_of x t none (histogram r) stands passes is = absurd (cc is)
  sample_of x t none (other size tag next payload) stands passes is = absurd (cc is)
  sample_of x t none (counts c) stands passes is = absurd (cc is)
  sample_of x t none (queue next) stands passes is = absurd (cc is)
  sample_of x t none (plain words) stands passes is = absurd (cc is)
  sample_of x t none (held own) stands passes is = absurd (cc is)

  counts_of : (x : ℕ) (d : Counts) (owner : Option ℕ) (z : Body) → Stands late.anatomy.pieces x owner z → (is_nobodys owner && is_taken x z) ≡ true
      → counts d ≡ taken_as x z → ACounts copies image x d
  counts_of x d (some id) z stands passes is = absurd (true≢false (sym passes))
  counts_of x d none (counts c) stands passes is =
      let (has, some_has) = and_parts (is_followed copies image c.of) (not (counts_reference two three c.of == 0)) passes in
      let followed_there = followed_by_test copies image c.of has in
      let some_there : counts_reference two three c.of ≢ 0 = eqb-false (counts_reference two three c.of) 0 (not-true _ some_has) in
      let owns = owner_of copies image x c stands followed_there some_there in
      let same : d ≡ looked_counts one two c.of x (buckets_of c.spec) c = cc is in
      record {
        x = c.of;
        r = owns.r;
        of = c;
        has = owns.has;
        stands = stands;
        followed = followed_there;
        names = owns.names;
        looked = owns.looked ∙ owns.names;
        some = some_there;
        is = same ∙ ap (λ (n : ℕ). looked_counts one two c.of x n c) (ap buckets_of owns.own.same);
      }
  counts_of x d none (histogram r) stands passes is = absurd (cc is)
  counts_of x d none (sample s) stands passes is = absurd (cc is)
  counts_of x d none (other size tag next payload) stands passes is = absurd (cc is)
  counts_of x d none (queue next) stands passes is = absurd (cc is)
  counts_of x d none (plain words) stands passes is = absurd (cc is)
  counts_of x d none (held own) stands passes is = absurd (cc is)

  -- the records that it follows are a front of the list
  pub records_are : records ≡ take (length records) list
  records_are =
      let (n, short, enough, is, each) = followed copies in
      let many = ap length is ∙ length-take-le n list short in
      is ∙ ap (λ (m : ℕ). take m list) (sym many)

  pub order : order_of anatomy ≡ records
  order = sym (take-map (λ (l : Listed). l.reference) (length records) late.anatomy.records) ∙ sym records_are

  counts_there : (x : ℕ) (r : Record) (c : Counts) → HasRecord late.anatomy.pieces x r → Contains records x → counts_reference two three x ≢ 0
      → HasCounts late.anatomy.pieces r.counts c → HasCounts anatomy.pieces r.counts (looked_counts one two x r.counts (buckets_of r.spec) c)
  counts_there x r c has there some_there stands =
      let own = owned x r c has there some_there stands in
      let mine : c.of ≡ x = own.0 in
      let kinds : buckets_of c.spec ≡ buckets_of r.spec = own.1 in
      let passes : is_taken r.counts (counts c) ≡ true =
      and_from _ _ (test_followed copies image c.of (subst (Contains records) (sym mine) there))
      (ap not (ne_eqb (counts_reference two three c.of) 0 (subst (λ (n : ℕ). counts_reference two three n ≢ 0) (sym mine) some_there))) in
      subst (λ (n : ℕ). HasCounts anatomy.pieces r.counts (looked_counts one two x r.counts n c)) kinds
      (subst (λ (n : ℕ). HasCounts anatomy.pieces r.counts (looked_counts one two n r.counts (buckets_of c.spec) c)) mine (there_as r.counts (counts c) stands passes))
    where
      owned : (x : ℕ) (r : Record) (c : Counts) → HasRecord late.anatomy.pieces x r → Contains records x → counts_reference two three x ≢ 0
          → HasCounts late.anatomy.pieces r.counts c → (c.of ≡ x) × (buckets_of c.spec ≡ buckets_of r.spec)
      owned x r c has there some_there stands =
          let looked : counts_reference two three x ≡ r.counts = elim (named copies x r there has) [
            | inl nothing ↦ absurd (some_there nothing)
            | inr same ↦ same
          ] in
          let (e, other_there, it) = late.records.mounted x r has (λ nothing. some_there (looked ∙ nothing)) in
          let same : counts e ≡ counts c = (one_stands shape (at last).words late.anatomy late.shown r.counts none none (counts e) (counts c) other_there stands).1 in
          let is : e ≡ c = cc same in
          (ap (λ (z : Counts). z.of) (sym is) ∙ it.mine, ap (λ (z : Counts). buckets_of z.spec) (sym is) ∙ ap buckets_of it.same)

  pub is_taken_so : IsTaken copies image anatomy
  is_taken_so = record {
    version = refl;
    listed = refl;
    order = order;
    record_from = λ x q stands. let o = is_of x (histogram q) refl stands in record_of x q o.owner o.block o.stands o.passes o.is;
    record_there = λ x r stands there. there_as x (histogram r) stands (test_followed copies image x there);
    sample_from = λ x t stands. let o = is_of x (sample t) refl stands in sample_of x t o.owner o.block o.stands o.passes o.is;
    sample_there = λ x s stands there. there_as x (sample s) stands (test_followed copies image x there);
    counts_from = λ x d stands. let o = is_of x (counts d) refl stands in counts_of x d o.owner o.block o.stands o.passes o.is;
    counts_there = counts_there;
  }

-- what is seen of a look: its anatomy, and what that has
pub record SeenOf (copies : ThreeCopies) (image : List ℕ) : Type 0 where
  pub of_look : Anatomy
  pub has : IsTaken copies image of_look

abbrev pub seen_of : (copies : ThreeCopies) (image : List ℕ) (look : IsLook (hd_of copies) copies.one copies.two copies.three image) → SeenOf copies image
seen_of copies image look = record { of_look = anatomy copies image look; has = is_taken_so copies image look }

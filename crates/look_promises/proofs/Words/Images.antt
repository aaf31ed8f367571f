-- A look's words: those that the patches of one record give, if these lie apart from those of the others.
use Rattle.segment_invariant.proofs.Prelude.Std.{◌≡◌, ◌≢◌, ℕ, suc, ◌+◌, ◌<◌, ◌≤◌, List, [], ◌∷◌, ◌++◌, drop, length, inl, inr, sym, ap, subst, ◌∙◌, arith, slice_index, none}
use Rattle.segment_invariant.proofs.Prelude.Machine.{word_at}
use Rattle.segment_invariant.proofs.Prelude.Invariant.{Body, words_of, Stands}
use Rattle.std.proofs.lemmas.List.{get_or-take, length-take-le}
use Rattle.bucket_ranges.specs.Listed.{before}
use Rattle.segment_looks.specs.Patches.{Patch, patched_word}
use Rattle.segment_looks.specs.Looks.{IsLook, link, list_start, record_patches, records_patches, unclaimed}
use Rattle.segment_looks.proofs.Patched.{patched_word-append}
use Rattle.segment_invariant.proofs.Blocks.Pieces.{one_stands}
use Rattle.look_promises.specs.Looks.{HasWords}
use Rattle.look_promises.specs.Images.{looked_block, LooksShowRecords}
use Rattle.look_promises.proofs.Moments.Runs.{kept_at}
use Rattle.look_promises.proofs.Copies.ThreeCopies.{ThreeCopies, three_copies, seen_in}
use Rattle.look_promises.proofs.Copies.Walks.{Gives}
use Rattle.look_promises.proofs.Copies.Following.{followed, lies}
use Rattle.look_promises.proofs.Moments.Unchanged.{IsOfList}
use Rattle.look_promises.proofs.Moments.Listed.{listed_at}
use Rattle.look_promises.proofs.Words.Patches.{IsApart, first_not, none_more, none_of_none, one_has}
use Rattle.look_promises.proofs.Words.Apart.{apart_from_record}
use Rattle.look_promises.proofs.Words.Mounted.{record_below}
use Rattle.look_promises.proofs.Words.Records.{record_word, shown_long}

module _ (copies : ThreeCopies) (image : List ℕ) where
  open copies use {run, shape, at, last, one, two, three}
  open seen_in copies use {late, list, hd, records}

  -- what is followed is a front of the list
  pub followed_is : (k : ℕ) → k < length records → (slice_index records k ≡ slice_index list k) × Gives hd two list k
  followed_is k below =
      let (n, short, enough, is, each) = followed copies in
      let long = length-take-le n list short in
      let all = ap length is in
      let lt : k < n = omega (arith, below, long, all) in
      (ap (λ (l : List ℕ). slice_index l k) is ∙ get_or-take n list k 0 lt, each k lt)

  module _ (look : IsLook hd one two three image) where
    -- a word after the header and below the free pointer is one of the records'
    pub list_word : (n : ℕ) → 16 ≤ n → n < hd.free → word_at image n ≡ patched_word (records_patches hd one two three records) n (word_at three n)
    list_word n from below =
        let behind : List Patch = unclaimed hd (length three) ∷ [] in
        let rest : List Patch = records_patches hd one two three records ++ behind in
        let tail : Patch = record { from = 8; words = before records (length records) ∷ [] } in
        look.each n
        ∙ (first_not (link 12 (list_start records)) (tail ∷ rest) n (word_at three n) (inr (omega (arith, from)))
        ∙ (first_not tail rest n (word_at three n) (inr (omega (arith, from)))
        ∙ (patched_word-append (records_patches hd one two three records) behind n (word_at three n)
        ∙ ap (patched_word (records_patches hd one two three records) n)
        (none_more (unclaimed hd (length three)) [] n (inl below) (none_of_none n) (word_at three n)))))

    -- if it lies apart from what is taken of the other records, it is what the patches of one give
    pub one_word : (k n : ℕ) → k < length records → 16 ≤ n → n < hd.free
        → ((j : ℕ) → Gives hd two list j → j ≢ k → IsApart hd one two three n (slice_index list j))
        → word_at image n
        ≡ patched_word (link (slice_index list k) (list_start (drop (suc k) records)) ∷ record_patches hd one two three (slice_index list k)) n (word_at three n)
    one_word k n below from less apart =
        list_word n from less
        ∙ (one_has hd one two three n records k (word_at three n) below
        (λ j lt ne. let (same, g) = followed_is j lt in subst (IsApart hd one two three n) (sym same) (apart j g ne))
        ∙ ap (λ (x : ℕ). patched_word (link x (list_start (drop (suc k) records)) ∷ record_patches hd one two three x) n (word_at three n)) (followed_is k below).0)

    -- so it has each record that it follows
    pub shows_record : (k : ℕ) (body : Body) → k < length records → Stands late.anatomy.pieces (slice_index records k) none body
        → HasWords image (slice_index records k) (looked_block one two three (slice_index records k) (list_start (drop (suc k) records)) body)
    shows_record k body below stands =
        let (same, g) = followed_is k below in
        subst (λ (x : ℕ). HasWords image x (looked_block one two three x (list_start (drop (suc k) records)) body)) (sym same)
        (at_list g (subst (λ (x : ℕ). Stands late.anatomy.pieces x none body) same stands))
      where
        at_list : Gives hd two list k → Stands late.anatomy.pieces (slice_index list k) none body
            → HasWords image (slice_index list k) (looked_block one two three (slice_index list k) (list_start (drop (suc k) records)) body)
        at_list g has i inside =
            let (mine, stood, of_list) = listed_at run last k g.within in
            let is : mine ≡ body = (one_stands shape (at last).words late.anatomy late.shown (slice_index list k) none none mine body stood has).1 in
            let list_body = subst IsOfList is of_list in
            let long = shown_long one two three (slice_index list k) (list_start (drop (suc k) records)) body in
            let within : i < length (words_of body) = omega (arith, inside, long) in
            let from = (lies run last k g.within).0 in
            let below_free = record_below copies k body g has in
            one_word k (slice_index list k + i) below (omega (arith, from)) (omega (arith, within, below_free))
            (λ j h ne. apart_from_record copies j h k i body g.within ne has list_body within)
            ∙ record_word copies k (list_start (drop (suc k) records)) g body list_body has i within

pub looks_show_records : LooksShowRecords
looks_show_records shape opened at first last moments one two three image run loaded look =
    let copies = three_copies shape opened at first last moments one two three run loaded in (kept_at copies.run last, shows_record copies image look)

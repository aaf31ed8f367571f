-- What a look takes of different records lies apart: their blocks, and the counts blocks that they name.
use Rattle.segment_invariant.proofs.Prelude.Std.{◌≡◌, ◌≢◌, ℕ, suc, ◌+◌, ◌<◌, ◌≤◌, length, refl, sym, ap, subst, ◌∙◌, arith, slice_index, None, none, some-injective, get_elem?, Contains}
use Rattle.segment_invariant.proofs.Prelude.Machine.{word_at, stops}
use Rattle.segment_invariant.proofs.Prelude.Invariant.{Piece, Body, queue, plain, held, histogram, counts, sample, other, words_of, Stands}
use Rattle.list_core.proofs.Chains.{one_place, linked_of}
use Rattle.segment_invariant.proofs.Blocks.Pieces.{one_index, one_stands}
use Rattle.look_promises.proofs.Moments.Runs.{chain_is}
use Rattle.look_promises.proofs.Copies.ThreeCopies.{ThreeCopies, seen_in}
use Rattle.look_promises.proofs.Copies.Walks.{Gives}
use Rattle.look_promises.proofs.Moments.Unchanged.{IsOfList}
use Rattle.look_promises.proofs.Moments.Listed.{listed_at}
use Rattle.look_promises.proofs.Copies.Shown.{third_word}
use Rattle.look_promises.proofs.Words.Patches.{LiesBeside, IsApart}
use Rattle.look_promises.proofs.Moments.Grounds.{four_words, type_stays, other_listed, IsOwned}
use Rattle.look_promises.proofs.Copies.Named.{counts_block, fifteen}

module _ (copies : ThreeCopies) where
  open copies use {run, shape, opened, at, last, one, two, three}
  open seen_in copies use {late, list, hd, reference_of, buckets_at}

  abbrev Has : ℕ → Body → Type 0
  Has place body = Stands late.anatomy.pieces place none body

  -- two blocks that share a word are one
  pub one_block : (a b i m : ℕ) (x y : Body) → Has a x → Has b y → i < length (words_of x) → m < length (words_of y) → a + i ≡ b + m → (a ≡ b) × (x ≡ y)
  one_block a b i m x y (p, here) (q, there) inside within same =
      let index = one_index shape (at last).words late.anatomy late.shown p q (record { at = a; owner = none; body = x }) (record { at = b; owner = none; body = y })
      i m here there inside within same in
      let is : record { at = a; owner = none; body = x } ≡ record { at = b; owner = none; body = y } =
      some-injective _ _ (sym here ∙ (ap (get_elem? late.anatomy.pieces) index ∙ there)) in
      (ap (λ (p : Piece). p.at) is, ap (λ (p : Piece). p.body) is)

  -- two places of one record are one
  pub one_record : (j k : ℕ) → j < length list → k < length list → slice_index list j ≡ slice_index list k → j ≡ k
  one_record j k below within same =
      let index : suc j ≡ suc k = one_place (at last).words list (suc j) (suc k) (linked_of (at last).words list _ (chain_is run last))
      (omega (arith, below)) (omega (arith, within)) (stop j below ∙ (same ∙ sym (stop k within))) in
      omega (arith, index)
    where
      stop : (n : ℕ) → n < length list → slice_index (stops list) (suc n) ≡ slice_index list n
      stop n below = refl

  -- a counts block is no record of the list
  owned_not_listed : (j k : ℕ) (block body : Body) → k < length list → IsOwned run last (slice_index list j) (slice_index list k) block → IsOfList block
      → Has (slice_index list k) block → ⊥
  owned_not_listed j k (counts c) body below owned of_list has = of_list
  owned_not_listed j k (other size tag next payload) body below (r, passed, place) of_list has =
      let (nothing, no_sample) = other_listed run last k size tag next payload below has in
      late.passed_over.unlisted (slice_index list j) r passed
      (subst (λ (n : ℕ). Contains opened.records (record { reference = n; made = None })) (sym place) nothing)
  owned_not_listed j k (queue next) body below owned of_list has = owned
  owned_not_listed j k (plain words) body below owned of_list has = owned
  owned_not_listed j k (held block) body below owned of_list has = owned
  owned_not_listed j k (histogram r) body below owned of_list has = owned
  owned_not_listed j k (sample s) body below owned of_list has = owned

  -- and of two records' it is one's alone
  one_owner : (x y place : ℕ) (block : Body) → place ≢ 0 → IsOwned run last x place block → IsOwned run last y place block → x ≡ y
  one_owner x y place (counts c) some_there mine its = sym mine ∙ its
  one_owner x y place (other size tag next payload) some_there (r, passed, is) (q, over, same) =
      late.passed_over.apart x y r q passed over (λ none_there. some_there (sym is ∙ none_there)) (is ∙ sym same)
  one_owner x y place (queue next) some_there mine its = absurd mine
  one_owner x y place (plain words) some_there mine its = absurd mine
  one_owner x y place (held block) some_there mine its = absurd mine
  one_owner x y place (histogram r) some_there mine its = absurd mine
  one_owner x y place (sample s) some_there mine its = absurd mine

  -- ---- an index of one record, and another record

  module _ (j : ℕ) (g : Gives hd two list j) where
    abbrev y : ℕ
    y = slice_index list j

    abbrev its : (body : Body) × Stands late.anatomy.pieces y none body × IsOfList body
    its = listed_at run last j g.within

    -- a sample has eight words
    eight : (body : Body) → Has y body → IsOfList body → slice_index (words_of body) 2 ≡ 3 → 8 ≤ length (words_of body)
    eight (histogram r) has of_list three_is = absurd (cc three_is)
    eight (sample s) has of_list three_is = omega arith
    eight (other size tag next payload) has of_list three_is = absurd ((other_listed run last j size tag next payload g.within has).1 three_is)
    eight (queue next) has of_list three_is = absurd of_list
    eight (plain words) has of_list three_is = absurd of_list
    eight (held block) has of_list three_is = absurd of_list
    eight (counts c) has of_list three_is = absurd of_list

    type_is : word_at three (y + 2) ≡ slice_index (words_of its.0) 2
    type_is =
        let (body, has, of_list) = its in
        let four = four_words body of_list in
        third_word copies j 2 body g has (type_stays body of_list) (omega (arith, four))

    pub lies : (n : ℕ) → ((i : ℕ) → i < length (words_of its.0) → y + i ≢ n)
        → (word_at three (y + 2) ≡ 1 → reference_of j ≢ 0 → (i : ℕ) → 4 ≤ i → i < 4 + (buckets_at j + buckets_at j) → reference_of j + i ≢ n)
        → LiesBeside hd one two three y n (length (words_of its.0))
    lies n block named = record {
      four = four_words its.0 its.2;
      block = block;
      histogram = λ one_is. fifteen copies j g one_is its.0 its.1;
      sample = λ three_is. eight its.0 its.1 its.2 (sym type_is ∙ three_is);
      counts = named;
    }

    -- of its block
    pub apart_from_record : (k i : ℕ) (body : Body) → k < length list → j ≢ k → Has (slice_index list k) body → IsOfList body → i < length (words_of body)
        → IsApart hd one two three (slice_index list k + i) y
    apart_from_record k i body below ne has of_list inside = (
      length (words_of its.0),
      lies (slice_index list k + i)
          (λ m within same. ne (one_record j k g.within below (one_block y (slice_index list k) m i its.0 body its.1 has within inside same).0))
          (λ one_is names m from few same.
          let (block, stands, long, owned) = counts_block copies j g one_is names in
          let (place, is) = one_block (reference_of j) (slice_index list k) m i block body stands has (omega (arith, few, long)) inside same in
          owned_not_listed j k block body below
          (subst (λ (n : ℕ). IsOwned run last y n block) place owned) (subst IsOfList (sym is) of_list)
          (subst (λ (n : ℕ). Has n block) place stands)),
    )

    -- and of its counts
    pub apart_from_counts : (k i : ℕ) (block : Body) → k < length list → j ≢ k → reference_of k ≢ 0 → Has (reference_of k) block
        → IsOwned run last (slice_index list k) (reference_of k) block → i < length (words_of block)
        → IsApart hd one two three (reference_of k + i) y
    apart_from_counts k i block below ne some_there stands owned inside = (
      length (words_of its.0),
      lies (reference_of k + i)
          (λ m within same.
          let (place, is) = one_block y (reference_of k) m i its.0 block its.1 stands within inside same in
          owned_not_listed k j block its.0 g.within
          (subst (λ (n : ℕ). IsOwned run last (slice_index list k) n block) (sym place) owned) (subst IsOfList is its.2)
          (subst (λ (n : ℕ). Has n block) (sym place) stands))
          (λ one_is names m from few same.
          let (mine, stood, most, held_by) = counts_block copies j g one_is names in
          let (place, is) = one_block (reference_of j) (reference_of k) m i mine block stood stands (omega (arith, few, most)) inside same in
          ne (one_record j k g.within below (one_owner y (slice_index list k) (reference_of k) block some_there
          (subst (λ (n : ℕ). IsOwned run last y n block) place (subst (IsOwned run last y (reference_of j)) is held_by)) owned))),
    )

    -- its own counts lie apart from its block
    pub counts_from_own : (i m : ℕ) (block body : Body) → Has y body → i < length (words_of body) → Has (reference_of j) block
        → IsOwned run last y (reference_of j) block → m < length (words_of block) → reference_of j + m ≢ y + i
    counts_from_own i m block body has inside stands owned within same =
        let (place, is) = one_block (reference_of j) y m i block body stands has within inside same in
        let mine = (one_stands shape (at last).words late.anatomy late.shown y none none its.0 body its.1 has).1 in
        owned_not_listed j j block body g.within (subst (λ (n : ℕ). IsOwned run last y n block) place owned)
        (subst IsOfList (mine ∙ sym is) its.2) (subst (λ (n : ℕ). Has n block) place stands)

  -- a record's own counts lie apart from its block
  pub own_apart : (k i m : ℕ) (body : Body) → (g : Gives hd two list k) → word_at three (slice_index list k + 2) ≡ 1 → reference_of k ≢ 0 → Has (slice_index list k) body → IsOfList body
      → i < length (words_of body) → m < 4 + (buckets_at k + buckets_at k) → reference_of k + m ≢ slice_index list k + i
  own_apart k i m body g is_histogram some_there has of_list inside few same =
      let (block, stands, long, owned) = counts_block copies k g is_histogram some_there in
      let (place, is) = one_block (reference_of k) (slice_index list k) m i block body stands has (omega (arith, few, long)) inside same in
      owned_not_listed k k block body g.within (subst (λ (n : ℕ). IsOwned run last (slice_index list k) n block) place owned)
      (subst IsOfList (sym is) of_list) (subst (λ (n : ℕ). Has n block) place stands)

-- The list of a look: its nexts lead along the records that it follows. These begin with those of the opening, and each is there as what
-- was given to its maker.
use Rattle.segment_invariant.proofs.Prelude.Std.{◌≡◌, ◌≢◌, ℕ, zero, suc, ◌+◌, ◌-◌, ◌<◌, ◌≤◌, ◌&&◌, ◌||◌, Bool, true, true≢false, List, [], ◌∷◌, ◌++◌, take, drop, take-append-drop, length, length-append, length-map, refl, sym, ap, subst, ◌∙◌, arith, slice_index, Some, None, none, some, get_elem?, Contains, Contains-append_left, All, all_at, at_from, at_map, below_length, index_at, contains_at}
use Rattle.segment_invariant.proofs.Prelude.Machine.{word_at, IsLinked, stops, IsStop}
use Rattle.segment_invariant.proofs.Prelude.Invariant.{order_of, Body, Record, Sample, queue, plain, held, histogram, counts, sample, other, Listed, Stands, StandsAs}
use Rattle.std.specs.Prelude as std
use Rattle.std.proofs.Math.Seq.{take-append-add}
use Rattle.std.proofs.lemmas.List.{length-take-le}
use mathlib.Core.Option.{Option}
use Rattle.list_lemmas.proofs.Elements.{all_from}
use Rattle.segment_machine.specs.declared.actor.Made.{Made}
use Rattle.segment_machine.specs.declared.actor.Made.TheVariants as made
use Rattle.segment_looks.specs.Looks.{IsLook, list_start}
use Rattle.segment_invariant.specs.Invariant.{IsOnList}
use Rattle.segment_invariant.specs.Words.{ListIsLaid}
use Rattle.segment_invariant.proofs.Frames.LaidOut.{laid_out, linked_given}
use Rattle.segment_invariant.proofs.Frames.PassedOver.{in_opening}
use Rattle.look_promises.proofs.Copies.ThreeCopies.{ThreeCopies, seen_in, hd_of}
use Rattle.look_promises.proofs.Copies.Following.{followed}
use Rattle.look_promises.proofs.Moments.Listed.{listed_at}
use Rattle.look_promises.proofs.Words.Starting.{tail_word, start_word}
use Rattle.look_promises.proofs.Moments.Grounds.{four_words}
use Rattle.look_promises.proofs.Words.Apart.{one_record}
use Rattle.look_promises.proofs.Words.Records.{shown_long, next_shown}
use Rattle.look_promises.proofs.Words.Images.{followed_is, shows_record}
use Rattle.look_promises.proofs.Looked.Taken.{record_looked, sample_looked}
use Rattle.look_promises.proofs.Looked.Blocks.{is_nobodys, was_still, takes, taken, test_followed}
use Rattle.look_promises.proofs.Looked.Anatomy.{seen_of, is_of, there_as}

-- the record after `n` records, or the queue block
start_behind : (l : List ℕ) (n : ℕ) → n ≤ length l → list_start (drop n l) ≡ slice_index (l ++ 12 ∷ []) n
start_behind [] zero le = refl
start_behind [] (suc n) le = absurd (omega (arith, le))
start_behind (x ∷ l) zero le = refl
start_behind (x ∷ l) (suc n) le = start_behind l n (omega (arith, le))

-- an element of a front
pub at_take : {X : Type 0} (n : ℕ) (xs : List X) (j : ℕ) (x : X) → j < n → get_elem? xs j ≡ some x → get_elem? (take n xs) j ≡ some x
at_take zero xs j x below there = absurd (omega (arith, below))
at_take (suc n) [] j x below there = there
at_take (suc n) (y ∷ ys) zero x below there = there
at_take (suc n) (y ∷ ys) (suc j) x below there = at_take n ys j x (omega (arith, below)) there

-- what is in a front is in the list
pub front_has : {X : Type 0} (n : ℕ) (xs : List X) (x : X) → Contains (take n xs) x → Contains xs x
front_has n xs x there = subst (λ (l : List _). Contains l x) (take-append-drop n xs) (Contains-append_left (take n xs) (drop n xs) x there)

module _ (copies : ThreeCopies) (image : List ℕ) (look : IsLook (hd_of copies) copies.one copies.two copies.three image) where
  open copies use {run, shape, opened, at, last, one, two, three}
  open seen_in copies use {early, late, list, records}
  open seen_of copies image look use {of_look, has}

  -- ---- its nexts

  along : (i : ℕ) → i ≤ length records → word_at image (slice_index (stops records) i + 3) ≡ slice_index (records ++ 12 ∷ []) i
  along zero le = start_word copies image look ∙ start_behind records 0 le
  along (suc k) le =
      let (same, g) = followed_is copies image k (omega (arith, le)) in
      let (body, stands, of_list) = listed_at run last k g.within in
      let next : ℕ = list_start (drop (suc k) records) in
      let many = shown_long one two three (slice_index records k) next body in
      let four = four_words body of_list in
      shows_record copies image look k body (omega (arith, le))
      (subst (λ (n : ℕ). Stands late.anatomy.pieces n none body) (sym same) stands) 3 (omega (arith, many, four))
      ∙ (next_shown one two three (slice_index records k) next body of_list ∙ start_behind records (suc k) le)

  stop_is : (i : ℕ) → i ≤ length records → slice_index (stops records) i ≡ slice_index (stops list) i
  stop_is zero le = refl
  stop_is (suc k) le = (followed_is copies image k (omega (arith, le))).0

  -- it follows no more records than there are, and all of the first moment
  pub few : (length records ≤ length list) × (length early.anatomy.records ≤ length records)
  few =
      let (n, short, enough, is, each) = followed copies in
      let many = ap length is in
      let long = length-take-le n list short in
      let begin = length-map early.anatomy.records (λ (l : Listed). l.reference) in
      (omega (arith, many, long, short), omega (arith, many, long, enough, begin))

  linked : IsLinked image records
  linked = record {
    linked = along;
    distinct = λ i j lt le same.
        let less = few.0 in
        late.list.linked.distinct i j lt (omega (arith, le, less)) (sym (stop_is i (omega (arith, lt, le))) ∙ (same ∙ stop_is j le));
  }

  -- ---- its records

  pub longer : (more : List Listed) × (of_look.records ≡ opened.records ++ more) × ((l : Listed) → Contains more l → l.made ≢ None)
  longer =
      let (front, all, permuted) = late.list.once in
      let (before, was, permuted_too) = early.list.once in
      let enough = few.1 in
      let first_long = ap length was in
      let sum = length-append opened.records before in
      let m : ℕ = length records - length opened.records in
      let many : length records ≡ length opened.records + m = omega (arith, enough, first_long, sum) in (
        take m front,
        ap (take (length records)) all ∙ (ap (λ (n : ℕ). take n (opened.records ++ front)) many ∙ take-append-add opened.records front m),
        λ l among. linked_given shape opened (at last) late l (front_has m front l among),
      )

  -- a record of the last moment that it follows is one of its own
  in_front : (l : Listed) → Contains late.anatomy.records l → Contains records l.reference → Contains of_look.records l
  in_front l among there =
      let (j, at_j) = at_from late.anatomy.records l among in
      let on : get_elem? list j ≡ some l.reference = at_map (λ (l : Listed). l.reference) late.anatomy.records j l at_j in
      let (k, at_k) = at_from records l.reference there in
      let below = below_length records k l.reference at_k in
      let (same, g) = followed_is copies image k below in
      let equal : j ≡ k = one_record copies j k (below_length list j l.reference on) g.within
      (index_at list j l.reference 0 on ∙ (sym (index_at records k l.reference 0 at_k) ∙ same)) in
      contains_at of_look.records j l (at_take (length records) late.anatomy.records j l (omega (arith, equal, below)) at_j)

  stands_as : (l : Listed) (given : std.Option Made) → Contains records l.reference → StandsAs late.anatomy.pieces l given → StandsAs of_look.pieces l given
  stands_as l (std.Some (made.Histogram name spec)) there (r, stands, named, kind) =
      (record_looked one two three l.reference (word_at image (l.reference + 3)) r, has.record_there l.reference r stands there, named, kind)
  stands_as l (std.Some (made.Sample of value)) there (s, stands, whose, valued) =
      (sample_looked one two l.reference (word_at image (l.reference + 3)) s, has.sample_there l.reference s stands there, whose, valued)
  stands_as l std.None there (size, tag, next, payload, stands, third, least) = (
    size,
    tag,
    word_at image (l.reference + 3),
    payload,
    there_as copies image look l.reference (other size tag next payload) stands
        (ap (λ (b : Bool). b || was_still copies image l.reference)
        (test_followed copies image l.reference there)),
    third,
    least,
  )

  standing : All (λ l. StandsAs of_look.pieces l l.made) of_look.records
  standing = all_from (λ l. StandsAs of_look.pieces l l.made) of_look.records (λ k l there.
      let among = front_has (length records) late.anatomy.records l (contains_at of_look.records k l there) in
      let (j, at_j) = at_from late.anatomy.records l among in
      let on : get_elem? (order_of of_look) k ≡ some l.reference = at_map (λ (l : Listed). l.reference) of_look.records k l there in
      stands_as l l.made (subst (λ (refs : List ℕ). Contains refs l.reference) has.order (contains_at (order_of of_look) k l.reference on))
      (all_at (λ l. StandsAs late.anatomy.pieces l l.made) late.anatomy.records j l late.list.standing at_j))

  -- ---- and there are no others

  other_alone : (x size tag next : ℕ) (payload : List ℕ) (owner : Option ℕ) (z : Body) → Stands late.anatomy.pieces x owner z
      → (is_nobodys owner && takes copies image x z) ≡ true
      → other size tag next payload ≡ taken copies image x z
      → tag ≢ 2 → Contains of_look.records (record { reference = x; made = None })
  other_alone x size tag next payload (some id) z stands passes is differs = absurd (true≢false (sym passes))
  other_alone x size tag next payload none (other s t n words) stands passes is differs =
      let tags : tag ≡ t = cc is in
      let old = in_opening shape opened (at last).words (laid_out shape opened (at last) late) x
      (late.list.alone x (other s t n words) stands (λ two_is. differs (tags ∙ two_is))) in
      let (more, all, given) = longer in
      subst (λ (l : List Listed). Contains l (record { reference = x; made = None })) (sym all) (Contains-append_left opened.records more (record { reference = x; made = None }) old)
  other_alone x size tag next payload none (histogram r) stands passes is differs = absurd (cc is)
  other_alone x size tag next payload none (sample s) stands passes is differs = absurd (cc is)
  other_alone x size tag next payload none (counts c) stands passes is differs = absurd (cc is)
  other_alone x size tag next payload none (queue n) stands passes is differs = absurd (cc is)
  other_alone x size tag next payload none (plain words) stands passes is differs = absurd (cc is)
  other_alone x size tag next payload none (held own) stands passes is differs = absurd (cc is)

  alone : (x : ℕ) (body : Body) → Stands of_look.pieces x none body → IsOnList of_look.records x body
  alone x (histogram q) stands =
      let it = has.record_from x q stands in
      let of : Record = it.of in
      let l : Listed = record { reference = x; made = Some (made.Histogram of.name of.spec) } in
      subst (Contains of_look.records) (ap (λ (z : Record). record { reference = x; made = Some (made.Histogram z.name z.spec) }) (sym it.is))
      (in_front l (late.list.alone x (histogram of) it.stands) it.followed)
  alone x (sample t) stands =
      let it = has.sample_from x t stands in
      let of : Sample = it.of in
      let l : Listed = record { reference = x; made = Some (made.Sample of.of of.value) } in
      subst (Contains of_look.records) (ap (λ (z : Sample). record { reference = x; made = Some (made.Sample z.of z.value) }) (sym it.is))
      (in_front l (late.list.alone x (sample of) it.stands) it.followed)
  alone x (other size tag next payload) stands = λ differs.
      let o = is_of copies image look x (other size tag next payload) refl stands in
      other_alone x size tag next payload o.owner o.block o.stands o.passes o.is differs
  alone x (counts c) stands = tt
  alone x (queue next) stands = tt
  alone x (plain words) stands = tt
  alone x (held own) stands = tt

  pub is_laid : ListIsLaid image opened of_look
  is_laid = record {
    linked = subst (IsLinked image) (sym has.order) linked;
    longer = longer;
    standing = standing;
    alone = alone;
    tail = subst (λ (refs : List ℕ). IsStop refs (word_at image 8)) (sym has.order)
        (length records, omega arith, sym (tail_word copies image look));
  }

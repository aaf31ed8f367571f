-- The records of histograms on the list at one moment, and of those that are passed over: which counts blocks they name.
use Rattle.segment_invariant.proofs.Prelude.Std.{◌≡◌, ◌≢◌, ◌⊎◌, ℕ, ◌+◌, ◌<◌, ◌≤◌, List, ◌++◌, length, inl, inr, refl, sym, ap, subst, ◌∙◌, arith, slice_index, length-append, length-map, Some, None, none, some, get_elem?, at_from, at_map, at_longer, index_at, below_length, all_at, Contains, contains_at}
use Rattle.segment_invariant.proofs.Prelude.Machine.{word_at, Spec, Linear, Boolean, Custom, Sparse, buckets_of, spec_fields}
use Rattle.segment_invariant.proofs.Prelude.Invariant.{Body, Record, Counts, queue, plain, held, histogram, counts, sample, other, words_of, record_words, Listed, Stands, StandsAs, Invariant}
use Rattle.std.specs.Prelude as std
use Rattle.segment_machine.specs.declared.actor.Made.{Made}
use Rattle.segment_machine.specs.declared.actor.Made.TheVariants as made
use Rattle.list_lemmas.proofs.Elements.{there_below}
use Rattle.segment_invariant.specs.Invariant.{HasPassedOver, IsCountsOf}
use Rattle.segment_invariant.specs.Words.{AreLaid}
use Rattle.segment_invariant.proofs.Blocks.Pieces.{one_stands}
use Rattle.segment_invariant.proofs.Consistency.Firsts.{record_on_list}
use Rattle.segment_invariant.proofs.Frames.LaidOut.{laid_out}
use Rattle.segment_invariant.proofs.Frames.PassedOver.{in_opening}
use Rattle.look_promises.proofs.Moments.Runs.{Run, kept_at, chain_at}
use Rattle.look_promises.proofs.Moments.Unchanged.{IsOfList, IsUnchanging}
use Rattle.look_promises.proofs.Moments.Listed.{word_kept}

-- how many buckets a record says that it has
pub buckets_said : (s : Spec) → slice_index (spec_fields s) 3 ≡ buckets_of s
buckets_said (Linear min max n) = refl
buckets_said Boolean = refl
buckets_said (Custom values) = refl
buckets_said Sparse = refl

-- a block of the list has its header
pub four_words : (body : Body) → IsOfList body → 4 ≤ length (words_of body)
four_words (histogram r) list = omega arith
four_words (sample s) list = omega arith
four_words (other size tag next payload) list = omega arith
four_words (queue next) list = absurd list
four_words (plain words) list = absurd list
four_words (held block) list = absurd list
four_words (counts c) list = absurd list

-- its type and its number of buckets never change
pub type_stays : (body : Body) → IsOfList body → IsUnchanging body 2
type_stays (histogram r) list = inl (omega arith)
type_stays (sample s) list = inl (omega arith)
type_stays (other size tag next payload) list = inl (omega arith)
type_stays (queue next) list = absurd list
type_stays (plain words) list = absurd list
type_stays (held block) list = absurd list
type_stays (counts c) list = absurd list

pub seven_stays : (body : Body) → IsOfList body → slice_index (words_of body) 2 ≡ 1 → IsUnchanging body 7
seven_stays (histogram r) list one = inr (inl (omega arith))
seven_stays (sample s) list one = absurd (cc one)
seven_stays (other size tag next payload) list one = inr (omega arith)
seven_stays (queue next) list one = absurd list
seven_stays (plain words) list one = absurd list
seven_stays (held block) list one = absurd list
seven_stays (counts c) list one = absurd list

module _ (run : Run) (last : ℕ) where
  open run use {shape, opened, at}

  abbrev late : Invariant shape opened (at last)
  late = kept_at run last

  abbrev laid : AreLaid shape opened (at last).words
  laid = laid_out shape opened (at last) late

  abbrev list : List ℕ
  list = chain_at run last

  -- ---- blocks of which nothing changes but the next

  other_as : (l : Listed) (given : std.Option Made) (size tag next : ℕ) (payload : List ℕ) → StandsAs late.anatomy.pieces l given
      → Stands late.anatomy.pieces l.reference none (other size tag next payload) → (given ≡ None) × (tag ≢ 3)
  other_as l (Some (made.Histogram name spec)) size tag next payload s stands =
      absurd (cc (one_stands shape (at last).words late.anatomy late.shown l.reference none none (histogram s.0) (other size tag next payload) s.1 stands).1)
  other_as l (Some (made.Sample of value)) size tag next payload s stands =
      absurd (cc (one_stands shape (at last).words late.anatomy late.shown l.reference none none (sample s.0) (other size tag next payload) s.1 stands).1)
  other_as l None size tag next payload s stands =
      let same : other s.0 s.1 s.2 s.3 ≡ other size tag next payload =
      (one_stands shape (at last).words late.anatomy late.shown l.reference none none (other s.0 s.1 s.2 s.3) (other size tag next payload) s.4 stands).1 in
      let tags : s.1 ≡ tag = cc same in
      (refl, λ three. s.5 (tags ∙ three))

  -- such a block on the list is one of the opening's, to which nothing was given, and no sample
  pub other_listed : (k size tag next : ℕ) (payload : List ℕ) → k < length list → Stands late.anatomy.pieces (slice_index list k) none (other size tag next payload)
      → Contains opened.records (record { reference = slice_index list k; made = None }) × (tag ≢ 3)
  other_listed k size tag next payload below stands =
      let (l, there) = there_below late.anatomy.records k (omega (arith, below, length-map late.anatomy.records (λ (l : Listed). l.reference))) in
      let named : l.reference ≡ slice_index list k =
      sym (index_at list k l.reference 0 (at_map (λ (l : Listed). l.reference) late.anatomy.records k l there)) in
      let (nothing, no_sample) = other_as l l.made size tag next payload
      (all_at (λ l. StandsAs late.anatomy.pieces l l.made) late.anatomy.records k l late.list.standing there)
      (subst (λ (n : ℕ). Stands late.anatomy.pieces n none (other size tag next payload)) (sym named) stands) in
      let is : l ≡ record { reference = slice_index list k; made = None } = λ i. record { reference = named i; made = nothing i } in (
        in_opening shape opened (at last).words laid (slice_index list k) (subst (Contains late.anatomy.records) is (contains_at late.anatomy.records k l there)),
        no_sample,
      )

  -- it was on the list at each moment
  pub from_opening : (m x : ℕ) → Contains opened.records (record { reference = x; made = None })
      → (j : ℕ) × (j < length (chain_at run m)) × (slice_index (chain_at run m) j ≡ x)
  from_opening m x has =
      let kept = kept_at run m in
      let (front, is, permuted) = kept.list.once in
      let (j, there) = at_from opened.records (record { reference = x; made = None }) has in
      let here = subst (λ (records : List Listed). get_elem? records j ≡ some (record { reference = x; made = None })) (sym is)
      (at_longer opened.records front j (record { reference = x; made = None }) there) in
      let on : get_elem? (chain_at run m) j ≡ some x =
      at_map (λ (l : Listed). l.reference) kept.anatomy.records j (record { reference = x; made = None }) here in
      (j, below_length (chain_at run m) j x on, index_at (chain_at run m) j x 0 on)

  -- so its words were the same
  pub still_word : (m x i size tag next : ℕ) (payload : List ℕ) → m ≤ last → Contains opened.records (record { reference = x; made = None })
      → Stands late.anatomy.pieces x none (other size tag next payload) → IsUnchanging (other size tag next payload) i → i < 4 + length payload
      → word_at (at m).words (x + i) ≡ slice_index (words_of (other size tag next payload)) i
  still_word m x i size tag next payload le has stands stays inside =
      let (j, below, place) = from_opening m x has in
      subst (λ (n : ℕ). word_at (at m).words (n + i) ≡ slice_index (words_of (other size tag next payload)) i) place
      (word_kept run m last j i (other size tag next payload) le below
      (subst (λ (n : ℕ). Stands late.anatomy.pieces n none (other size tag next payload)) (sym place) stands) stays (omega (arith, inside)))

  -- ---- the histogram that a record of that type has

  -- whose block of counts is at a place
  abbrev pub IsOwned : ℕ → ℕ → Body → Type 0
  IsOwned x place (counts c) = c.of ≡ x
  IsOwned x place (other size tag next payload) = (r : Record) × HasPassedOver opened x r × (r.counts ≡ place)
  IsOwned x place _ = ⊥

  -- a block with `n` counts and `n` marks, which a record names
  abbrev pub HasCountsBlock : ℕ → ℕ → ℕ → Type 0
  HasCountsBlock x place n =
      (block : Body) × Stands late.anatomy.pieces place none block × (4 + (n + n) ≤ length (words_of block)) × IsOwned x place block

  -- a record of a histogram, or one that is passed over and holds what one would
  pub record HasHistogram (x : ℕ) : Type 0 where
    pub of : Record
    pub body : Body
    pub stands : Stands late.anatomy.pieces x none body
    pub same : words_of body ≡ record_words of
    pub mounted : of.counts ≢ 0 → HasCountsBlock x of.counts (buckets_of of.spec)
    pub is_one : (body ≡ histogram of) ⊎ (Contains opened.records (record { reference = x; made = None })
        × (size tag next : ℕ) × (payload : List ℕ) × (body ≡ other size tag next payload))

  pub counts_long : (version place : ℕ) (r : Record) (c : Counts) → IsCountsOf version place r c → 4 + (buckets_of r.spec + buckets_of r.spec) ≤ length (words_of (counts c))
  counts_long version place r c it =
      let units = it.units in
      let marks = it.marks in
      let all = length-append (c.units ++ c.marks) c.rest in
      let more = length-append c.units c.marks in
      omega (arith, units, marks, all, more)

  pub histogram_at : (x : ℕ) → Contains list x → word_at (at last).words (x + 2) ≡ 1 → HasHistogram x
  histogram_at x there one = elim (record_on_list shape opened (at last).words laid x there one) [
    | inl (l, name, kind, r, among, place, made_as, (has, named, specified)) ↦ record {
      of = r;
      body = histogram r;
      stands = has;
      same = refl;
      mounted = λ ne.
          let (c, stood, it) = late.records.mounted x r has ne in
          (counts c, stood, counts_long late.anatomy.version x r c it, it.mine);
      is_one = inl refl;
    }
    | inr (l, front, r, among, nothing, (over, n, passed)) ↦
        let (size, tag, next, payload, stands, is) = over.stands in record {
          of = r;
          body = other size tag next payload;
          stands = stands;
          same = sym is;
          mounted = λ ne.
              let (c, (size, tag, next, payload, stood, holds), it, bounded) = over.counted ne in
              let long = counts_long late.anatomy.version x r c it in
              let all = ap length holds in
              (other size tag next payload, stood, omega (arith, long, all), (record r { next = n }, passed, refl));
          is_one = inr (passed.0, size, tag, next, payload, refl);
        }
  ]

-- The words of a record that change are 0 until the record is on the list.
use Rattle.segment_invariant.proofs.Prelude.Std.{length-append, ◌≡◌, ◌⊎◌, ℕ, ◌+◌, ◌-◌, ◌<◌, ◌≤◌, List, length, inl, inr, ⊎_elim, refl, sym, ap, subst, ◌∙◌, arith, eq-eqb, slice_index, none, dite, ℕ_discrete, Contains, Contains-append_cases}
use Rattle.segment_invariant.proofs.Prelude.Machine.{Dimensions, State, Actor, Own, Made, word_at, head_of}
use Rattle.segment_invariant.proofs.Prelude.Invariant.{Anatomy, Body, queue, plain, held, histogram, counts, sample, other, words_of, Stands, Invariant}
use Rattle.std.proofs.lemmas.List.{get_or-append_right}
use Rattle.std.proofs.lemmas.List.Elements.{Contains-get_or}
use Rattle.bucket_ranges.proofs.Walks.{IsListed-from_end, listed_agree}
use Rattle.segment_machine.specs.declared.actor.Made.TheVariants as made
use Rattle.segment_machine.specs.Made.{IsPayload}
use Rattle.segment_machine.specs.Publishing.{MayPublish}
use Rattle.segment_invariant.proofs.Blocks.Pieces.{piece_word}
use Rattle.segment_promises.specs.Lists.{links_of}
use Rattle.look_promises.specs.Looks.{IsChanging, RecordsStartAtZero}
use Rattle.look_promises.proofs.Moments.Runs.{Run, run_of, kept_at, chain_at, chain_is, chain_on, reached}
use Rattle.look_promises.proofs.NewRecords.Linking.{LinksAt, linking, histogram_blank, sample_blank}
use Rattle.look_promises.proofs.NewRecords.Blank.{word_later, linked_with}

-- what a block of a type is linked with
histogram_linked : (a : Actor) (own : Own) (m : Made) (p : ℕ) → IsPayload m own.payload → MayPublish a own m → own.tag ≡ 1 → 4 ≤ p → p < 10 → slice_index own.payload p ≡ 0
histogram_linked a own (made.Histogram name spec) p payload may tag from below = histogram_blank name spec own.payload p payload from below
histogram_linked a own (made.Sample of value) p payload may tag from below = absurd (omega (arith, tag, may.0))

sample_linked : (a : Actor) (own : Own) (m : Made) (p : ℕ) → IsPayload m own.payload → MayPublish a own m → own.tag ≡ 3 → 2 ≤ p → slice_index own.payload p ≡ 0
sample_linked a own (made.Histogram name spec) p payload may tag from = absurd (omega (arith, tag, may.0))
sample_linked a own (made.Sample of value) p payload may tag from = sample_blank of value own.payload p payload from

module _ (shape : Dimensions) (opened : Anatomy) (start state : State) (kept : Invariant shape opened start) (late : Invariant shape opened state) (x : ℕ)
    (links : LinksAt opened.version start x state) where
  abbrev own : Own
  own = links.step.ready.0

  -- a word that is linked as 0, in a block with room for it
  blank : (p : ℕ) → 4 + p < own.size → slice_index own.payload p ≡ 0 → word_at start.words (x + (4 + p)) ≡ 0
  blank p room zero_there = dite (ℕ_discrete (word_at start.words (x + (4 + p))) 0)
      (λ is. is)
      (λ ne. ⊎_elim
      (λ short. absurd (omega (arith, room, short)))
      (λ same. sym same ∙ zero_there)
      (linked_with shape opened start kept x p (word_at start.words (x + (4 + p))) ne refl state links))

  -- its size and its type
  size_is : (body : Body) → Stands late.anatomy.pieces x none body → 3 < length (words_of body) → own.size ≡ slice_index (words_of body) 0
  size_is body (k, there) long =
      sym (word_later shape opened start state kept x links 0 (omega arith))
      ∙ piece_word shape state.words late.anatomy late.shown k (record { at = x; owner = none; body = body }) 0 there (omega (arith, long))

  tag_is : (body : Body) → Stands late.anatomy.pieces x none body → 3 < length (words_of body) → own.tag ≡ slice_index (words_of body) 2
  tag_is body (k, there) long =
      sym (word_later shape opened start state kept x links 2 (omega arith))
      ∙ piece_word shape state.words late.anatomy late.shown k (record { at = x; owner = none; body = body }) 2 there (omega (arith, long))

  at_index : (i : ℕ) → 4 ≤ i → word_at start.words (x + (4 + (i - 4))) ≡ 0 → word_at start.words (x + i) ≡ 0
  at_index i from is = let same : i ≡ 4 + (i - 4) = omega (arith, from) in ap (λ (n : ℕ). word_at start.words (x + n)) same ∙ is

  pub starts : (i : ℕ) (body : Body) → Stands late.anatomy.pieces x none body → IsChanging body i → word_at start.words (x + i) ≡ 0
  starts i (histogram r) stands (from, below) =
      let size = size_is (histogram r) stands (omega arith) in
      let least = (late.records.lawful x r stands).least in
      at_index i (omega (arith, from)) (blank (i - 4) (omega (arith, from, below, size, least))
      (histogram_linked links.step.at own links.step.ready.1 (i - 4) links.step.ready.6 links.step.ready.7 (tag_is (histogram r) stands (omega arith))
      (omega (arith, from)) (omega (arith, from, below))))
  starts i (sample s) stands changing =
      let size = size_is (sample s) stands (omega arith) in
      let sized = (late.records.valued x s stands).sized in
      let (from, below) = two i changing in
      at_index i (omega (arith, from)) (blank (i - 4) (omega (arith, from, below, size, sized))
      (sample_linked links.step.at own links.step.ready.1 (i - 4) links.step.ready.6 links.step.ready.7 (tag_is (sample s) stands (omega arith))
      (omega (arith, from))))
    where
      two : (i : ℕ) → (i ≡ 6) ⊎ (i ≡ 7) → (6 ≤ i) × (i < 8)
      two i (inl is) = (omega (arith, is), omega (arith, is))
      two i (inr is) = (omega (arith, is), omega (arith, is))
  starts i (queue next) stands changing = absurd changing
  starts i (plain words) stands changing = absurd changing
  starts i (held block) stands changing = absurd changing
  starts i (counts c) stands changing = absurd changing
  starts i (other size tag next payload) stands changing = absurd changing

-- a record that is not on the list yet at a moment of a run
pub not_yet : (run : Run) (m last k i : ℕ) (le : m ≤ last) (body : Body)
    → k < length (chain_at run last) → length (chain_at run m) ≤ k
    → Stands (kept_at run last).anatomy.pieces (slice_index (chain_at run last) k) none body → IsChanging body i
    → word_at (run.at m).words (slice_index (chain_at run last) k + i) ≡ 0
not_yet run m last k i le body below far stands changing =
    let x : ℕ = slice_index (chain_at run last) k in
    let early = chain_at run m in
    let more = links_of run.opened.version (run.at m) (run.at last) (reached run m last le) in
    let is = chain_on run m last le in
    let all = ap length is in
    let long = length-append early more in
    let place : x ≡ slice_index more (k - length early) =
    ap (λ (list : List ℕ). slice_index list k) is ∙ get_or-append_right early more (length early) k 0 refl far in
    let linked = subst (Contains more) (sym place) (Contains-get_or more (k - length early) 0 (omega (arith, far, below, all, long))) in
    starts run.shape run.opened (run.at m) (run.at last) (kept_at run m) (kept_at run last) x
    (linking run.opened.version (run.at m) x (run.at last) (reached run m last le) linked) i body stands changing

pub records_start_at_zero : RecordsStartAtZero
records_start_at_zero shape opened at early last chain runs le is =
    let run = run_of shape opened at runs in
    let kept = kept_at run early in
    let late = kept_at run last in
    let own_chain = chain_is run early in
    let same = listed_agree (at early).words (head_of (at early).words) chain (chain_at run early)
    (IsListed-from_end (at early).words (head_of (at early).words) chain is.walk (eq-eqb _ 12 is.ended))
    (IsListed-from_end (at early).words (head_of (at early).words) (chain_at run early) own_chain.walk (eq-eqb _ 12 own_chain.ended)) in
    let more = links_of opened.version (at early) (at last) (reached run early last le) in (
      late,
      λ x i body there none_there stands changing. ⊎_elim
          (λ before. absurd (none_there (subst (λ (list : List ℕ). Contains list x) (sym same) before)))
          (λ linked.
          starts shape opened (at early) (at last) kept late x (linking opened.version (at early) x (at last) (reached run early last le) linked) i body stands changing)
          (Contains-append_cases (chain_at run early) more x
          (subst (λ (list : List ℕ). Contains list x) (chain_on run early last le) there)),
    )

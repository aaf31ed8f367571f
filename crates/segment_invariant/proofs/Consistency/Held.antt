-- What the words of a kept state's records say in addition to their spec: which counts are theirs, and that nobody counts in later ones.
use Rattle.segment_invariant.proofs.Prelude.Std.{◌≡◌, ◌≢◌, ℕ, ◌+◌, ◌-◌, ◌*◌, ◌<◌, ◌≤◌, ℤ, List, length, inl, inr, sym, ap, subst, ◌∙◌, arith, Option, Some, None, true, refl, slice_index, All, Contains, none}
use Rattle.segment_invariant.proofs.Prelude.Machine.{Dimensions, word_at, field_at, IsShown, Spec, name_of, record_buckets, sample_value, Sighting, Made, State, Leads}
use Rattle.segment_invariant.proofs.Prelude.Invariant.{IsHistogram, Record, record_words, Counts, Body, histogram, counts, sample, other, Listed, Anatomy, layout_of, order_of, is_claimed, Stands, HasRecord, HasCounts, IsFirst, IsFirstOf, WasSingle, StandsAs, CountsNothing, Invariant}
use Rattle.std.specs.Prelude as std
use Rattle.std.proofs.lemmas.Bool.{cases_lt}
use Rattle.segment_machine.specs.declared.actor.Made.TheVariants as made
use Rattle.segment_invariant.specs.Consistent.{IsSample, HoldsNothing}
use Rattle.segment_invariant.specs.Seen.{HoldsAs}
use Rattle.segment_invariant.proofs.Frames.LaidOut.{laid_out}
use Rattle.segment_invariant.proofs.Blocks.Pieces.{piece_word, one_stands}
use Rattle.segment_invariant.proofs.Consistency.Records.{record_word, listed_there}
use Rattle.segment_invariant.proofs.Consistency.Specs.{buckets_are}
use Rattle.segment_invariant.proofs.Consistency.Firsts.{is_named, given_value, first_of_name, first_of_value, record_on_list}
use Rattle.segment_invariant.proofs.Lists.FewTerms.{zero_index}
use Rattle.segment_machine.proofs.SmallNumbers.{below_three}
use Rattle.segment_invariant.proofs.Consistency.Totals.{count_word, mark_word}
use Rattle.segment_invariant.proofs.Consistency.PassedOver.{passed_word}
use Rattle.segment_invariant.proofs.Frames.PassedOver.{PassedOver, in_opening}

module _ (shape : Dimensions) (opened : Anatomy) (state : State) (kept : Invariant shape opened state) where
  -- there is one block at a place
  counts_there : (at : ℕ) (c d : Counts) → HasCounts kept.anatomy.pieces at c → HasCounts kept.anatomy.pieces at d → c ≡ d
  counts_there at c d first second =
      let bodies : counts c ≡ counts d = (one_stands shape state.words kept.anatomy kept.shown at none none (counts c) (counts d) first second).1 in
      cc bodies

  pub counts_ref : (at : ℕ) (r : Record) → HasRecord kept.anatomy.pieces at r → field_at state.words at 8 ≡ r.counts
  counts_ref at r has = record_word shape state.words kept.anatomy kept.shown at r 8 has (omega arith)

  -- counts and marks that are all 0, by their words
  pub counts_nothing : (at : ℕ) (c : Counts) (n i : ℕ) → HasCounts kept.anatomy.pieces at c → length c.units ≡ n → length c.marks ≡ n
      → All (λ n. n ≡ 0) c.units → All (λ n. n ≡ 0) c.marks → i < 2 * n → field_at state.words at (4 + i) ≡ 0
  counts_nothing at c n i has units marks no_units no_marks below = elim (cases_lt i n) [
    | inl low ↦ count_word shape opened state.words (laid_out shape opened state kept) at c i has (omega (arith, units, low)) ∙ zero_index c.units i no_units
    | inr high ↦
        let place : 4 + i ≡ 4 + n + (i - n) = omega (arith, high) in
        ap (field_at state.words at) place
        ∙ (mark_word shape opened state.words (laid_out shape opened state kept) at c n (i - n) has units (omega (arith, marks, high, below)) ∙ zero_index c.marks (i - n) no_marks)
  ]

-- ---- on the list

module _ (shape : Dimensions) (opened : Anatomy) (state : State) (kept : Invariant shape opened state) where
  -- nobody's counts are where a record that is passed over has its own
  counts_apart : (at place : ℕ) (c : Counts) (body : Body) → HasCounts kept.anatomy.pieces at c → HoldsAs kept.anatomy.pieces place body → at ≢ place
  counts_apart at place c body has (size, tag, next, payload, stands, same) is =
      let one : counts c ≡ other size tag next payload =
      (one_stands shape state.words kept.anatomy kept.shown place none none (counts c) (other size tag next payload)
      (subst (λ (at : ℕ). HasCounts kept.anatomy.pieces at c) is has) stands).1 in
      cc one

  -- no two records name one counts block
  pub own_counts : (a b : ℕ) → Contains (order_of kept.anatomy) a → Contains (order_of kept.anatomy) b → field_at state.words a 2 ≡ 1 → field_at state.words b 2 ≡ 1
      → field_at state.words a 8 ≢ 0 → field_at state.words a 8 ≡ field_at state.words b 8 → a ≡ b
  own_counts a b there here one also some_there same = elim (record_on_list shape opened state.words (laid_out shape opened state kept) a there one) [
    | inl (l, name, kind, r, among, place, made, (has, named, specified)) ↦
        let first = counts_ref shape opened state kept a r has in
        let (c, mounted, of_it) = kept.records.mounted a r has (λ e. some_there (first ∙ e)) in
        elim (record_on_list shape opened state.words (laid_out shape opened state kept) b here also) [
          | inl (m, mine, sort, q, within, spot, given, (stands, called, sorted)) ↦
              let second = counts_ref shape opened state kept b q stands in
              let equal : q.counts ≡ r.counts = sym second ∙ (sym same ∙ first) in
              let (d, also_mounted, of_other) = kept.records.mounted b q stands (λ e. some_there (first ∙ (sym equal ∙ e))) in
              let one_block = counts_there shape opened state kept r.counts c d mounted (subst (λ (at : ℕ). HasCounts kept.anatomy.pieces at d) equal also_mounted) in
              sym of_it.mine ∙ (ap (λ (c : Counts). c.of) one_block ∙ of_other.mine)
          | inr (m, front, q, within, nothing, over) ↦
              let second = passed_word shape opened state.words (laid_out shape opened state kept) front b q over.0 8 (omega arith) in
              let (d, holds, of_other, bounded) = over.0.counted (λ e. some_there (same ∙ (second ∙ e))) in
              absurd (counts_apart r.counts q.counts c (counts d) mounted holds (sym first ∙ (same ∙ second)))
        ]
    | inr (l, front, r, among, none_there, over) ↦
        let first = passed_word shape opened state.words (laid_out shape opened state kept) front a r over.0 8 (omega arith) in
        elim (record_on_list shape opened state.words (laid_out shape opened state kept) b here also) [
          | inl (m, mine, sort, q, within, spot, given, (stands, called, sorted)) ↦
              let second = counts_ref shape opened state kept b q stands in
              let (d, mounted, of_other) = kept.records.mounted b q stands (λ e. some_there (same ∙ (second ∙ e))) in
              let (c, holds, of_it, bounded) = over.0.counted (λ e. some_there (first ∙ e)) in
              absurd (counts_apart q.counts r.counts d (counts c) mounted holds (sym second ∙ (sym same ∙ first)))
          | inr (m, before, q, within, nothing, others) ↦
              let second = passed_word shape opened state.words (laid_out shape opened state kept) before b q others.0 8 (omega arith) in
              kept.passed_over.apart a b _ _ over.2 others.2 (λ e. some_there (first ∙ e)) (sym first ∙ (same ∙ second))
        ]
  ]

  -- a counts block is no record
  pub counts_unlisted : (at : ℕ) (c : Counts) → HasCounts kept.anatomy.pieces at c → ¬ (Contains (order_of kept.anatomy) at)
  counts_unlisted at c stands there =
      let (l, among, place, standing) = listed_there kept.anatomy at kept.list.standing there in
      by_made l l.made standing place
    where
      differs : (body : Body) → (counts c ≢ body) → Stands kept.anatomy.pieces at none body → ⊥
      differs body apart here = apart (one_stands shape state.words kept.anatomy kept.shown at none none (counts c) body stands here).1

      by_made : (l : Listed) (m : std.Option Made) → StandsAs kept.anatomy.pieces l m → l.reference ≡ at → ⊥
      by_made l (Some (made.Histogram name spec)) (r, here, named, specified) place =
          differs (histogram r) (λ e. cc e) (subst (λ (at : ℕ). Stands kept.anatomy.pieces at none (histogram r)) place here)
      by_made l (Some (made.Sample of value)) (s, here, mine, valued) place =
          differs (sample s) (λ e. cc e) (subst (λ (at : ℕ). Stands kept.anatomy.pieces at none (sample s)) place here)
      by_made l None (size, tag, next, payload, here, not_three, behind) place =
          differs (other size tag next payload) (λ e. cc e) (subst (λ (at : ℕ). Stands kept.anatomy.pieces at none (other size tag next payload)) place here)

  -- nor is that of a record that is passed over
  passed_unlisted : (front : List Listed) (at : ℕ) (r : Record) (body : Body) → PassedOver shape opened state.words (laid_out shape opened state kept) front at r
      → HoldsAs kept.anatomy.pieces r.counts body → ¬ (Contains (order_of kept.anatomy) r.counts)
  passed_unlisted front at r body over (size, tag, next, payload, here, same) there =
      let (l, among, place, standing) = listed_there kept.anatomy r.counts kept.list.standing there in
      by_made l l.made refl standing among place
    where
      differs : (body : Body) → (other size tag next payload ≢ body) → Stands kept.anatomy.pieces r.counts none body → ⊥
      differs body apart stands =
          apart (one_stands shape state.words kept.anatomy kept.shown r.counts none none (other size tag next payload) body here stands).1

      by_made : (l : Listed) (m : std.Option Made) → l.made ≡ m → StandsAs kept.anatomy.pieces l m → Contains kept.anatomy.records l → l.reference ≡ r.counts → ⊥
      by_made l (Some (made.Histogram name spec)) given (q, stands, named, specified) among place =
          differs (histogram q) (λ e. cc e) (subst (λ (at : ℕ). Stands kept.anatomy.pieces at none (histogram q)) place stands)
      by_made l (Some (made.Sample of value)) given (s, stands, mine, valued) among place =
          differs (sample s) (λ e. cc e) (subst (λ (at : ℕ). Stands kept.anatomy.pieces at none (sample s)) place stands)
      by_made l None given standing among place =
          let is : l ≡ record { reference = r.counts; made = None } = λ i. record { reference = place i; made = given i } in
          kept.passed_over.unlisted at (record r { next = over.1 }) over.2
          (in_opening shape opened state.words (laid_out shape opened state kept) r.counts (subst (Contains kept.anatomy.records) is among))

  -- the counts that a record names are a claimed block, and no record
  pub counts_named : (at : ℕ) → Contains (order_of kept.anatomy) at → field_at state.words at 2 ≡ 1 → field_at state.words at 8 ≢ 0
      → ((body : Body) × Stands kept.anatomy.pieces (field_at state.words at 8) none body × (is_claimed body ≡ true))
      × (¬ (Contains (order_of kept.anatomy) (field_at state.words at 8)))
  counts_named at there one some_there = elim (record_on_list shape opened state.words (laid_out shape opened state kept) at there one) [
    | inl (l, name, kind, r, among, place, made, (has, named, specified)) ↦
        let names_it = counts_ref shape opened state kept at r has in
        let (c, here, of_it) = kept.records.mounted at r has (λ e. some_there (names_it ∙ e)) in (
          (counts c, subst (λ (at : ℕ). HasCounts kept.anatomy.pieces at c) (sym names_it) here, refl),
          subst (λ (at : ℕ). ¬ (Contains (order_of kept.anatomy) at)) (sym names_it) (counts_unlisted r.counts c here),
        )
    | inr (l, front, r, among, nothing, over) ↦
        let names_it = passed_word shape opened state.words (laid_out shape opened state kept) front at r over.0 8 (omega arith) in
        let (c, holds, of_it, bounded) = over.0.counted (λ e. some_there (names_it ∙ e)) in
        let (size, tag, next, payload, here, same) = holds in (
          (other size tag next payload, subst (λ (at : ℕ). Stands kept.anatomy.pieces at none (other size tag next payload)) (sym names_it) here, refl),
          subst (λ (at : ℕ). ¬ (Contains (order_of kept.anatomy) at)) (sym names_it) (passed_unlisted front at r (counts c) over holds),
        )
  ]

  -- single words that were seen lead to the present ones
  pub single_leads : (s : Sighting) (at : ℕ) → WasSingle kept.anatomy.version kept.anatomy.pieces s → s.at ≡ at + 9
      → Leads opened.version (record_buckets state.words at) s.word (word_at state.words s.at)
  single_leads s at (place, r, has, there, formed, leads) same =
      let spot : place ≡ at = omega (arith, there, same) in
      let here = subst (λ (at : ℕ). HasRecord kept.anatomy.pieces at r) spot has in
      let many = buckets_are shape state.words kept.anatomy kept.shown kept.anatomy.version at r here (kept.records.lawful at r here) in
      let word : word_at state.words s.at ≡ r.single = ap (word_at state.words) same ∙ record_word shape state.words kept.anatomy kept.shown at r 9 here (omega arith) in
      subst (λ (p : ℕ × ℕ × ℕ). Leads p.0 p.1 s.word p.2) (λ j. (kept.same.0 j, sym many j, sym word j)) leads

  -- in a later sample of a value nothing is counted
  pub later_sample : (at place : ℕ) → Contains (order_of kept.anatomy) at → field_at state.words at 2 ≡ 3
      → IsSample state.words (order_of kept.anatomy) (field_at state.words at 4) (sample_value state.words at) place → place ≢ at
      → (field_at state.words at 6 ≡ 0) × (field_at state.words at 7 ≡ 0)
  later_sample at place there three is apart =
      let (l, among, spot, standing) = listed_there kept.anatomy at kept.list.standing there in
      let (s, made, (stands, mine, valued)) = given_value shape opened state.words (laid_out shape opened state kept) l (field_at state.words at 4) (sample_value state.words at) among
      (subst (λ (p : ℕ). field_at state.words p 2 ≡ 3) (sym spot) three, ap (λ (p : ℕ). field_at state.words p 4) spot, ap (sample_value state.words) spot) in
      let here = subst (λ (at : ℕ). Stands kept.anatomy.pieces at none (sample s)) spot stands in
      let (t, first, has) = first_of_value shape opened state.words (laid_out shape opened state kept) (field_at state.words at 4) (sample_value state.words at) place is in
      let nothing = kept.records.later_samples at place s here
      (subst (λ (p : ℕ × ℤ). IsFirstOf kept.anatomy.records p.0 p.1 place) (λ j. (sym mine j, sym valued j)) first) apart in (
        piece_word shape state.words kept.anatomy kept.shown here.0 _ 6 here.1 (omega arith) ∙ nothing.0,
        piece_word shape state.words kept.anatomy kept.shown here.0 _ 7 here.1 (omega arith) ∙ nothing.1,
      )

  -- in a later record of a name nothing is counted
  pub later_record : (at place : ℕ) (r : Record) → HasRecord kept.anatomy.pieces at r → IsHistogram state.words (order_of kept.anatomy) (name_of state.words at) place
      → place ≢ at → (kind : Spec) × IsFirst kept.anatomy.records r.name kind place × CountsNothing r
  later_record at place r has is apart =
      let (kind, q, first, its) = first_of_name shape opened state.words (laid_out shape opened state kept) (name_of state.words at) place is in
      let mine : name_of state.words at ≡ r.name = (is_named shape opened state.words (laid_out shape opened state kept) at r has).1 in
      let here = subst (λ (name : List ℕ). IsFirst kept.anatomy.records name kind place) mine first in
      (kind, here, kept.records.later at place r kind has here apart)

-- ---- a record in which nothing is counted

module _ (shape : Dimensions) (words : List ℕ) (anatomy : Anatomy) (shown : IsShown shape words (layout_of anatomy)) where
  -- by its words
  pub holds_nothing : (at : ℕ) (r : Record) → HasRecord anatomy.pieces at r → CountsNothing r → HoldsNothing words at
  holds_nothing at r has nothing i from below =
      six (λ i. field_at words at i ≡ 0) (word 8 (omega arith) ∙ nothing.0) (word 9 (omega arith) ∙ nothing.1) (word 10 (omega arith) ∙ nothing.2)
      (word 11 (omega arith) ∙ nothing.3) (word 12 (omega arith) ∙ nothing.4) (word 13 (omega arith) ∙ nothing.5) i from below
    where
      word : (j : ℕ) → j < 15 → field_at words at j ≡ slice_index (record_words r) j
      word j below = record_word shape words anatomy shown at r j has below

      six : (holds : ℕ → Type 0) → holds 8 → holds 9 → holds 10 → holds 11 → holds 12 → holds 13 → (i : ℕ) → 8 ≤ i → i < 14 → holds i
      six holds a b c d e f i from below =
          let split : 8 + (i - 8) ≡ i = omega (arith, from) in
          subst holds split (elim (cases_lt (i - 8) 3) [
            | inl low ↦ below_three (λ k. holds (8 + k)) a b c (i - 8) low
            | inr high ↦
                let further : 11 + (i - 8 - 3) ≡ 8 + (i - 8) = omega (arith, high) in
                subst holds further (below_three (λ k. holds (11 + k)) d e f (i - 8 - 3) (omega (arith, high, from, below)))
          ])

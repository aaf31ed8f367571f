-- Of words that are laid out: which counts are those of the records on the list, and that nobody counts in later samples.
use Rattle.segment_invariant.proofs.Prelude.Std.{◌≡◌, ◌≢◌, ℕ, ℤ, List, inl, inr, sym, ap, subst, ◌∙◌, arith, true, refl, Contains, none, None}
use Rattle.segment_invariant.proofs.Prelude.Machine.{Dimensions, field_at, sample_value, Made}
use Rattle.segment_invariant.proofs.Prelude.Invariant.{Record, Counts, Body, histogram, counts, sample, other, Listed, Anatomy, order_of, is_claimed, Stands, HasRecord, HasCounts, IsFirstOf, StandsAs}
use Rattle.std.specs.Prelude as std
use Rattle.segment_machine.specs.declared.actor.Made.TheVariants as made
use Rattle.segment_invariant.specs.Consistent.{IsSample}
use Rattle.segment_invariant.specs.Seen.{HoldsAs}
use Rattle.segment_invariant.specs.Words.{AreLaid}
use Rattle.segment_invariant.proofs.Blocks.Pieces.{piece_word, one_stands}
use Rattle.segment_invariant.proofs.Consistency.Records.{record_word, listed_there}
use Rattle.segment_invariant.proofs.Consistency.Firsts.{given_value, first_of_value, record_on_list}
use Rattle.segment_invariant.proofs.Consistency.PassedOver.{passed_word}
use Rattle.segment_invariant.proofs.Frames.PassedOver.{PassedOver, in_opening}

module _ (shape : Dimensions) (opened : Anatomy) (words : List ℕ) (kept : AreLaid shape opened words) where
  -- there is one block at a place
  counts_there : (at : ℕ) (c d : Counts) → HasCounts kept.anatomy.pieces at c → HasCounts kept.anatomy.pieces at d → c ≡ d
  counts_there at c d first second =
      let bodies : counts c ≡ counts d = (one_stands shape words kept.anatomy kept.shown at none none (counts c) (counts d) first second).1 in
      cc bodies

  counts_ref : (at : ℕ) (r : Record) → HasRecord kept.anatomy.pieces at r → field_at words at 8 ≡ r.counts
  counts_ref at r has = record_word shape words kept.anatomy kept.shown at r 8 has (omega arith)

-- ---- on the list

module _ (shape : Dimensions) (opened : Anatomy) (words : List ℕ) (kept : AreLaid shape opened words) where
  -- a counts block is not where a record is that is passed over, or where its counts are
  counts_apart : (at place : ℕ) (c : Counts) (body : Body) → HasCounts kept.anatomy.pieces at c → HoldsAs kept.anatomy.pieces place body → at ≢ place
  counts_apart at place c body has (size, tag, next, payload, stands, same) is =
      let one : counts c ≡ other size tag next payload =
      (one_stands shape words kept.anatomy kept.shown place none none (counts c) (other size tag next payload)
      (subst (λ (at : ℕ). HasCounts kept.anatomy.pieces at c) is has) stands).1 in
      cc one

  -- no two records name one counts block
  pub own_counts : (a b : ℕ) → Contains (order_of kept.anatomy) a → Contains (order_of kept.anatomy) b → field_at words a 2 ≡ 1 → field_at words b 2 ≡ 1
      → field_at words a 8 ≢ 0 → field_at words a 8 ≡ field_at words b 8 → a ≡ b
  own_counts a b there here one also some_there same = elim (record_on_list shape opened words kept a there one) [
    | inl (l, name, kind, r, among, place, made, (has, named, specified)) ↦
        let first = counts_ref shape opened words kept a r has in
        let (c, mounted, of_it) = kept.records.mounted a r has (λ e. some_there (first ∙ e)) in
        elim (record_on_list shape opened words kept b here also) [
          | inl (m, mine, sort, q, within, spot, given, (stands, called, sorted)) ↦
              let second = counts_ref shape opened words kept b q stands in
              let equal : q.counts ≡ r.counts = sym second ∙ (sym same ∙ first) in
              let (d, also_mounted, of_other) = kept.records.mounted b q stands (λ e. some_there (first ∙ (sym equal ∙ e))) in
              let one_block = counts_there shape opened words kept r.counts c d mounted (subst (λ (at : ℕ). HasCounts kept.anatomy.pieces at d) equal also_mounted) in
              sym of_it.mine ∙ (ap (λ (c : Counts). c.of) one_block ∙ of_other.mine)
          | inr (m, front, q, within, nothing, over) ↦
              let second = passed_word shape opened words kept front b q over.0 8 (omega arith) in
              let (d, holds, of_other, bounded) = over.0.counted (λ e. some_there (same ∙ (second ∙ e))) in
              absurd (counts_apart r.counts q.counts c (counts d) mounted holds (sym first ∙ (same ∙ second)))
        ]
    | inr (l, front, r, among, none_there, over) ↦
        let first = passed_word shape opened words kept front a r over.0 8 (omega arith) in
        elim (record_on_list shape opened words kept b here also) [
          | inl (m, mine, sort, q, within, spot, given, (stands, called, sorted)) ↦
              let second = counts_ref shape opened words kept b q stands in
              let (d, mounted, of_other) = kept.records.mounted b q stands (λ e. some_there (same ∙ (second ∙ e))) in
              let (c, holds, of_it, bounded) = over.0.counted (λ e. some_there (first ∙ e)) in
              absurd (counts_apart q.counts r.counts d (counts c) mounted holds (sym second ∙ (sym same ∙ first)))
          | inr (m, before, q, within, nothing, others) ↦
              let second = passed_word shape opened words kept before b q others.0 8 (omega arith) in
              kept.passed_over.apart a b _ _ over.2 others.2 (λ e. some_there (first ∙ e)) (sym first ∙ (same ∙ second))
        ]
  ]

  -- a counts block is no record
  counts_unlisted : (at : ℕ) (c : Counts) → HasCounts kept.anatomy.pieces at c → ¬ (Contains (order_of kept.anatomy) at)
  counts_unlisted at c stands there =
      let (l, among, place, standing) = listed_there kept.anatomy at kept.list.standing there in
      by_made l l.made standing place
    where
      differs : (body : Body) → (counts c ≢ body) → Stands kept.anatomy.pieces at none body → ⊥
      differs body apart here = apart (one_stands shape words kept.anatomy kept.shown at none none (counts c) body stands here).1

      by_made : (l : Listed) (m : std.Option Made) → StandsAs kept.anatomy.pieces l m → l.reference ≡ at → ⊥
      by_made l (std.Some (made.Histogram name spec)) (r, here, named, specified) place =
          differs (histogram r) (λ e. cc e) (subst (λ (at : ℕ). Stands kept.anatomy.pieces at none (histogram r)) place here)
      by_made l (std.Some (made.Sample of value)) (s, here, mine, valued) place =
          differs (sample s) (λ e. cc e) (subst (λ (at : ℕ). Stands kept.anatomy.pieces at none (sample s)) place here)
      by_made l std.None (size, tag, next, payload, here, not_three, behind) place =
          differs (other size tag next payload) (λ e. cc e) (subst (λ (at : ℕ). Stands kept.anatomy.pieces at none (other size tag next payload)) place here)

  -- nor is that of a record that is passed over
  passed_unlisted : (front : List Listed) (at : ℕ) (r : Record) (body : Body) → PassedOver shape opened words kept front at r
      → HoldsAs kept.anatomy.pieces r.counts body → ¬ (Contains (order_of kept.anatomy) r.counts)
  passed_unlisted front at r body over (size, tag, next, payload, here, same) there =
      let (l, among, place, standing) = listed_there kept.anatomy r.counts kept.list.standing there in
      by_made l l.made refl standing among place
    where
      differs : (body : Body) → (other size tag next payload ≢ body) → Stands kept.anatomy.pieces r.counts none body → ⊥
      differs body apart stands =
          apart (one_stands shape words kept.anatomy kept.shown r.counts none none (other size tag next payload) body here stands).1

      by_made : (l : Listed) (m : std.Option Made) → l.made ≡ m → StandsAs kept.anatomy.pieces l m → Contains kept.anatomy.records l → l.reference ≡ r.counts → ⊥
      by_made l (std.Some (made.Histogram name spec)) given (q, stands, named, specified) among place =
          differs (histogram q) (λ e. cc e) (subst (λ (at : ℕ). Stands kept.anatomy.pieces at none (histogram q)) place stands)
      by_made l (std.Some (made.Sample of value)) given (s, stands, mine, valued) among place =
          differs (sample s) (λ e. cc e) (subst (λ (at : ℕ). Stands kept.anatomy.pieces at none (sample s)) place stands)
      by_made l std.None given standing among place =
          let is : l ≡ record { reference = r.counts; made = None } = λ i. record { reference = place i; made = given i } in
          kept.passed_over.unlisted at (record r { next = over.1 }) over.2
          (in_opening shape opened words kept r.counts (subst (Contains kept.anatomy.records) is among))

  -- the counts that a record names are a claimed block, and no record
  pub counts_named : (at : ℕ) → Contains (order_of kept.anatomy) at → field_at words at 2 ≡ 1 → field_at words at 8 ≢ 0
      → ((body : Body) × Stands kept.anatomy.pieces (field_at words at 8) none body × (is_claimed body ≡ true))
      × (¬ (Contains (order_of kept.anatomy) (field_at words at 8)))
  counts_named at there one some_there = elim (record_on_list shape opened words kept at there one) [
    | inl (l, name, kind, r, among, place, made, (has, named, specified)) ↦
        let names_it = counts_ref shape opened words kept at r has in
        let (c, here, of_it) = kept.records.mounted at r has (λ e. some_there (names_it ∙ e)) in (
          (counts c, subst (λ (at : ℕ). HasCounts kept.anatomy.pieces at c) (sym names_it) here, refl),
          subst (λ (at : ℕ). ¬ (Contains (order_of kept.anatomy) at)) (sym names_it) (counts_unlisted r.counts c here),
        )
    | inr (l, front, r, among, nothing, over) ↦
        let names_it = passed_word shape opened words kept front at r over.0 8 (omega arith) in
        let (c, holds, of_it, bounded) = over.0.counted (λ e. some_there (names_it ∙ e)) in
        let (size, tag, next, payload, here, same) = holds in (
          (other size tag next payload, subst (λ (at : ℕ). Stands kept.anatomy.pieces at none (other size tag next payload)) (sym names_it) here, refl),
          subst (λ (at : ℕ). ¬ (Contains (order_of kept.anatomy) at)) (sym names_it) (passed_unlisted front at r (counts c) over holds),
        )
  ]

  -- in a later sample of a value nothing is counted
  pub later_sample : (at place : ℕ) → Contains (order_of kept.anatomy) at → field_at words at 2 ≡ 3
      → IsSample words (order_of kept.anatomy) (field_at words at 4) (sample_value words at) place → place ≢ at
      → (field_at words at 6 ≡ 0) × (field_at words at 7 ≡ 0)
  later_sample at place there three is apart =
      let (l, among, spot, standing) = listed_there kept.anatomy at kept.list.standing there in
      let (s, made, (stands, mine, valued)) = given_value shape opened words kept l (field_at words at 4) (sample_value words at) among
      (subst (λ (p : ℕ). field_at words p 2 ≡ 3) (sym spot) three, ap (λ (p : ℕ). field_at words p 4) spot, ap (sample_value words) spot) in
      let here = subst (λ (at : ℕ). Stands kept.anatomy.pieces at none (sample s)) spot stands in
      let (t, first, has) = first_of_value shape opened words kept (field_at words at 4) (sample_value words at) place is in
      let nothing = kept.records.later_samples at place s here
      (subst (λ (p : ℕ × ℤ). IsFirstOf kept.anatomy.records p.0 p.1 place) (λ j. (sym mine j, sym valued j)) first) apart in (
        piece_word shape words kept.anatomy kept.shown here.0 _ 6 here.1 (omega arith) ∙ nothing.0,
        piece_word shape words kept.anatomy kept.shown here.0 _ 7 here.1 (omega arith) ∙ nothing.1,
      )

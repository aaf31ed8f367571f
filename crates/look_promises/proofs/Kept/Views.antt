-- A word of a record that changes, as it was loaded at some moment: 0, or the word that the record had then.
use Rattle.segment_invariant.proofs.Prelude.Std.{◌≡◌, ◌≢◌, ◌⊎◌, ℕ, zero, suc, ◌+◌, ◌-◌, ◌<◌, ◌≤◌, List, length, inl, inr, refl, sym, ap, subst, ◌∙◌, arith, slice_index}
use Rattle.segment_invariant.proofs.Prelude.Machine.{Spec, word_at}
use Rattle.segment_invariant.proofs.Prelude.Invariant.{Record, histogram, words_of, HasRecord, IsFirst, CountsNothing}
use Rattle.std.proofs.Math.Decide.{dec_lt}
use Rattle.segment_invariant.specs.Rises.{RecordGoes}
use Rattle.segment_invariant.proofs.Consistency.Books.{one_first}
use Rattle.segment_invariant.proofs.Consistency.Firsts.{first_there}
use Rattle.look_promises.proofs.Moments.Runs.{Run, kept_at, rises_at, chain_at}
use Rattle.look_promises.proofs.Moments.Firsts.{first_on}
use Rattle.look_promises.proofs.Moments.Listed.{place_of}
use Rattle.look_promises.proofs.NewRecords.Starts.{not_yet}
use Rattle.look_promises.proofs.Moments.Room.{record_was, word_was}

-- its six words that change
six_nothing : (q : Record) (p : ℕ) → CountsNothing q → p < 6 → slice_index (words_of (histogram q)) (8 + p) ≡ 0
six_nothing q zero nothing below = nothing.0
six_nothing q (suc zero) nothing below = nothing.1
six_nothing q (suc (suc zero)) nothing below = nothing.2
six_nothing q (suc (suc (suc zero))) nothing below = nothing.3
six_nothing q (suc (suc (suc (suc zero)))) nothing below = nothing.4
six_nothing q (suc (suc (suc (suc (suc zero))))) nothing below = nothing.5
six_nothing q (suc (suc (suc (suc (suc (suc p)))))) nothing below = absurd (omega (arith, below))

fields_then : (q : Record) (i : ℕ) → CountsNothing q → 8 ≤ i → i < 14 → slice_index (words_of (histogram q)) i ≡ 0
fields_then q i nothing from below =
    let same : i ≡ 8 + (i - 8) = omega (arith, from) in
    ap (slice_index (words_of (histogram q))) same ∙ six_nothing q (i - 8) nothing (omega (arith, from, below))

module _ (run : Run) where
  open run use {shape, opened, at}

  -- the record at a moment, of which a number is a word
  pub record View (m x i word : ℕ) (r : Record) : Type 0 where
    pub of : Record
    pub stands : HasRecord (kept_at run m).anatomy.pieces x of
    pub goes : RecordGoes 2 of r
    pub is : word ≡ slice_index (words_of (histogram of)) i

  pub view : (m last x i word : ℕ) (r : Record) → m ≤ last → HasRecord (kept_at run last).anatomy.pieces x r → 8 ≤ i → i < 14
      → word ≡ word_at (at m).words (x + i) → (word ≡ 0) ⊎ View m x i word r
  view m last x i word r le has from below same =
      let kept = kept_at run m in
      let late = kept_at run last in
      let (k, within, place) = place_of run last x r has in
      let its : HasRecord late.anatomy.pieces (slice_index (chain_at run last) k) r = subst (λ (y : ℕ). HasRecord late.anatomy.pieces y r) (sym place) has in
      let here : word_at (at m).words (x + i) ≡ word_at (at m).words (slice_index (chain_at run last) k + i) =
      ap (λ (y : ℕ). word_at (at m).words (y + i)) (sym place) in
      elim (dec_lt k (length (chain_at run m))) [
        | yes there ↦
            let was = record_was run m last k le r its there in
            inr (record {
              of = was.of;
              stands = subst (λ (y : ℕ). HasRecord kept.anatomy.pieces y was.of) place was.stands;
              goes = subst (λ (v : ℕ). RecordGoes v was.of r) (kept.same.0 ∙ run.version) was.goes;
              is = same ∙ (here ∙ word_was run m last k le r its there i (omega (arith, below)));
            })
        | no far ↦ inl (same ∙ (here ∙ not_yet run m last k i le (histogram r) within (omega (arith, far)) its (from, omega (arith, below))))
      ]

  -- of a record that is not the first of its name each is 0
  pub nothing_later : (m last x i word other : ℕ) (r : Record) (kind : Spec) → m ≤ last → HasRecord (kept_at run last).anatomy.pieces x r
      → IsFirst (kept_at run last).anatomy.records r.name kind other → other ≢ x → 8 ≤ i → i < 14 → word ≡ word_at (at m).words (x + i) → word ≡ 0
  nothing_later m last x i word other r kind le has first apart from below same = elim (view m last x i word r le has from below same) [
    | inl nothing ↦ nothing
    | inr v ↦
        let kept = kept_at run m in
        let late = kept_at run last in
        let q = v.of in
        let (sort, place, mine) = first_there kept.anatomy.records q.name _ (kept.list.alone x (histogram q) v.stands) (q.spec, refl) in
        let (behind, longer) = (rises_at run m last le).records in
        let later : IsFirst late.anatomy.records q.name sort place = first_on kept.anatomy.records late.anatomy.records behind longer q.name sort place mine in
        let named : q.name ≡ r.name = sym (ap (λ (z : Record). z.name) v.goes.is) in
        let where_at : place ≡ other = (one_first shape opened (at last) late r.name sort kind place other
        (subst (λ (name : List ℕ). IsFirst late.anatomy.records name sort place) named later) first).0 in
        let nothing = kept.records.later x place q sort v.stands mine (λ e. apart (sym where_at ∙ e)) in
        v.is ∙ fields_then q i nothing from below
  ]

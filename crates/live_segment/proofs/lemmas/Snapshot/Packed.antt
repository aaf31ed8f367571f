-- Totals of buckets, with the units that a single word holds added to them.
use Rattle.std.proofs.Common.{◌≡◌, ◌==◌, Bool, if◌then◌else◌, ℕ, ◌+◌, ◌<◌, ℤ, pos, List, length, set, get_or, Option, ⊎_elim, refl, sym, ap, ◌∙◌, subst, arith}
use Rattle.std.proofs.lemmas.Bool.{eq-eqb, ne_eqb}
use Rattle.std.proofs.Math.Seq.{map-set_same}
use mathlib.Core.Option.{some}
use lib.ListN.{get_elem?}
use Rattle.atomic_table.proofs.Lists.{at_set}
use Rattle.bucket_ranges.specs.declared.single.SingleWord.{SingleWord}
use Rattle.bucket_ranges.specs.Single.{single_of, units_packed}
use Rattle.segment_invariant.proofs.Lists.Pairs.{element_at}
use Rattle.live_segment.specs.Snapshot.Outcome.{HavePacked}

module _ (version word : ℕ) (totals : List (ℤ × ℕ)) where
  abbrev form : Option SingleWord
  form = single_of version (length totals) word

  -- it holds none
  pub packed_none : ((i : ℕ) → units_packed form i ≡ 0) → HavePacked version word totals totals
  packed_none none = record {
    keys = refl;
    units = λ i total there. let nothing = none i in (total, there, omega (arith, nothing));
  }

  -- it holds these of one bucket
  pub packed_one : (bucket units : ℕ) → bucket < length totals → ((i : ℕ) → units_packed form i ≡ (if bucket == i then units else 0))
      → HavePacked version word totals (set totals bucket ((get_or totals bucket (pos 0, 0)).0, (get_or totals bucket (pos 0, 0)).1 + units))
  packed_one bucket units below holds = record {
    keys = map-set_same (λ (total : ℤ × ℕ). total.0) totals bucket _ (pos 0, 0) refl;
    units = λ i total there. ⊎_elim
        (λ (is, same). let here : units_packed form i ≡ units = holds i ∙ ap (λ (b : Bool). if b then units else 0) (eq-eqb bucket i (sym is)) in (
          was,
          subst (λ (n : ℕ). get_elem? totals n ≡ some was) (sym is) (element_at totals bucket (pos 0, 0) below),
          ap (λ (t : ℤ × ℕ). t.1) (sym same) ∙ ap (λ (n : ℕ). was.1 + n) (sym here),
        ))
        (λ (other, there_is).
        let nothing : units_packed form i ≡ 0 = holds i ∙ ap (λ (b : Bool). if b then units else 0) (ne_eqb bucket i (λ e. other (sym e))) in
        (total, there_is, omega (arith, nothing)))
        (at_set totals bucket i _ total there);
  }
    where
      was : ℤ × ℕ
      was = get_or totals bucket (pos 0, 0)

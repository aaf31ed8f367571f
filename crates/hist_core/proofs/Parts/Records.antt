-- The record that a `hist` makes if there is none of its name.
use Rattle.segment_invariant.proofs.Prelude.Std.{◌≡◌, ◌≢◌, ℕ, zero, suc, ◌+◌, ◌-◌, ◌*◌, ◌<◌, ◌≤◌, List, [], ◌∷◌, ◌++◌, length, replicate, sym, ap, subst, ◌∙◌, arith, append_assoc, length-append, slice_index, append-nil, length_push}
use Rattle.segment_invariant.proofs.Prelude.Machine.{Dimensions, Spec, buckets_of, spec_fields, Actor}
use Rattle.std.proofs.lemmas.List.{get_or_push, replicate-append-replicate}
use Rattle.bucket_ranges.specs.declared.spec.Spec.TheVariants as spec
use Rattle.hist_core.specs.declared.hist.Hist.{Hist}
use Rattle.hist_core.specs.Hist.{IsAsking, wanted_of}
use Rattle.hist_core.specs.NewRecord.{MayMake}

-- the first word of a payload is a kind, which is not 0
kind_is : (kind : Spec) (rest : List ℕ) → slice_index (spec_fields kind ++ rest) 0 ≢ 0
kind_is (spec.Linear low high n) rest is = cc is
kind_is spec.Boolean rest is = cc is
kind_is (spec.Custom values) rest is = cc is
kind_is spec.Sparse rest is = cc is

-- if only zeros are left out at the end of words of which the last is not 0, nothing is left out
nothing_out : (all front : List ℕ) (k : ℕ) → front ++ replicate k 0 ≡ all → slice_index all (length all - 1) ≢ 0 → front ≡ all
nothing_out all front zero is last = sym (append-nil front) ∙ is
nothing_out all front (suc k) is last =
    let one : k + 1 ≡ suc k = omega arith in
    let pushed : (front ++ replicate k 0) ++ 0 ∷ [] ≡ all =
    append_assoc front (replicate k 0) (0 ∷ []) ∙ (ap (λ (l : List ℕ). front ++ l) (replicate-append-replicate k 1 0 ∙ ap (λ (n : ℕ). replicate n 0) one) ∙ is) in
    let long = ap length (sym pushed) ∙ length_push (front ++ replicate k 0) 0 in
    absurd (last (ap (λ (l : List ℕ). slice_index l (length all - 1)) (sym pushed) ∙ get_or_push (front ++ replicate k 0) 0 0 (length all - 1) (omega (arith, long))))

module _ (shape : Dimensions) (h : Hist) (asking : IsAsking shape h) where
  -- there is something to compare
  pub some_to_compare_is : 5 < length h.payload.items
  some_to_compare_is =
      let sizes = ap length asking.payload ∙ length-append (spec_fields h.asked.spec) _ in omega (arith, sizes)

  -- any actor of the segment may make its record
  pub may_make : (a : Actor) → a.segment.shape ≡ shape → MayMake shape (wanted_of h) a
  may_make a segment = let some = some_to_compare_is in record {
    some = omega (arith, some);
    first = subst (λ (l : List ℕ). slice_index l 0 ≢ 0) (sym asking.payload) (kind_is h.asked.spec _);
    enough = omega arith;
    one_page = asking.one_page;
    holds = λ front k is. (asking.letters, asking.spells, nothing_out h.payload.items front k is asking.last ∙ asking.payload);
    may = λ own tag size. (tag, asking.name, asking.lawful, subst (λ (d : Dimensions). 4 + 2 * buckets_of h.asked.spec ≤ d.page) (sym segment) asking.fits);
  }

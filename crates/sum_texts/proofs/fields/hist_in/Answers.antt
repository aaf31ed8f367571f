-- What is read of the line of a name is the part without its keys.
use Rattle.std.proofs.Common.{◌≡◌, ◌∙◌, ◌-◌, ℕ, ℤ, zero, suc, List, [], ◌∷◌, Option, Some, Bor, FitsSigned, length, length-drop, drop, refl, ap, sym, subst, arith}
use Rattle.std.specs.Int.{w128}
use Rattle.std.proofs.lemmas.Int.{to_z-of_z}
use Rattle.std.proofs.lemmas.List.{take_all}
use Rattle.std.proofs.lemmas.Option.{same_Some}
use Rattle.bucket_ranges.specs.declared.spec.Spec.{Spec}
use Rattle.reading_sums.specs.declared.key.KeySum.{KeySum}
use Rattle.reading_sums.specs.Totals.{Part}
use Rattle.sum_texts.specs.Lines.{hist_fields}
use Rattle.sum_texts.specs.Runs.{bytes_of, without_keys}
use Rattle.sum_texts.proofs.FieldLists.{text_at}
use Rattle.sum_texts.proofs.fields.hist_in.Goals as goal

part_same : (name : List ℕ) (spec : Spec) (keys : List KeySum) (sum sum_mark : ℤ) (redundant images least : ℕ) (part : Part) → name ≡ part.name → spec ≡ part.spec
    → keys ≡ [] → sum ≡ part.sum → sum_mark ≡ part.sum_mark → redundant ≡ part.redundant → images ≡ part.images → least ≡ part.least
    → ◌≡◌ {A = Option Part}
    (Some (record { name = name; spec = spec; keys = keys; sum = sum; sum_mark = sum_mark; redundant = redundant; images = images; least = least }))
    (Some (without_keys part))
part_same name spec keys sum sum_mark redundant images least part a b c d e f g h = rw (a, b, c, d, e, f, g, h) refl

fields_behind : (k : ℕ) (fields : List (Bor (List ℕ))) → bytes_of (drop k fields) ≡ drop k (bytes_of fields)
fields_behind zero fields = refl
fields_behind (suc k) [] = refl
fields_behind (suc k) (field ∷ fields) = fields_behind k fields

pub returns-clause-only : goal.returns-clause-only
returns-clause-only c part fits is =
    let fields = c.args.fields.now in
    let front = c.in-Some.ensures.only part fits is in
    let kind = text_at fields (hist_fields part) 7 _ is (omega (arith, c.if-fields-lt8.false)) in
    let numbers = ap bytes_of (take_all (length fields - 8) (drop 8 fields) (omega (arith, length-drop 8 fields))) ∙ (fields_behind 8 fields ∙ ap (drop 8) is) in
    let spec = same_Some _ _ (sym c.in-Some-2.is ∙ c.in_ok-spec.ensures.only part.spec fits.numbers kind numbers) in
    let sum = to_z-of_z w128 c.in-Some.front.sum (subst (FitsSigned w128) (sym front.3) fits.sum) ∙ front.3 in
    let sum_mark = to_z-of_z w128 c.in-Some.front.sum_mark (subst (FitsSigned w128) (sym front.4) fits.sum_mark) ∙ front.4 in
    part_same _ _ _ _ _ _ _ _ part (c.in_ok-from_slice.ensures.items ∙ front.0) spec c.new.ensures.items sum sum_mark front.5 front.1 front.2

-- The key that comes next is put after what was taken before.
use Rattle.std.proofs.Common.{◌≡◌, ◌++◌, ◌∷◌, [], List, drop, subst, sym}
use Rattle.reading_sums.specs.declared.key.KeySum.{KeySum}
use Rattle.reading_sums.specs.Keys.{SameKeys}
use Rattle.reading_sums.proofs.Keys.{keys-step}
use Rattle.std.proofs.lemmas.Result.{err_from_is_err_and}
use Rattle.reading_sums.proofs.LongKeys.{if-many, rest-long, units-step}
use Rattle.reading_sums.proofs.Ascending.{order-step, order-front}
use Rattle.reading_sums.specs.Orders.{key_cmp}
use Rattle.reading_sums.proofs.key.keys_of_both.Goals as goal

pub loop-left_rest-preserved : goal.loop-left_rest-preserved
loop-left_rest-preserved c =
    let left : List KeySum = c.loop-left_rest.left_rest.now in
    let right : List KeySum = c.loop-left_rest.right_rest.now in
    let all : List KeySum = c.args.left.now ++ c.args.right.now in
    let rest : c.split_at.result.1.now ++ c.split_at-in-loop-left_rest.result.1.now ≡ drop c.in_ok-key.of_left left ++ drop c.in_ok-key.of_right right =
    λ i. c.split_at.ensures.back i ++ c.split_at-in-loop-left_rest.ensures.back i in
    let P : List KeySum → Type 0 = λ z. SameKeys (z ++ (c.split_at.result.1.now ++ c.split_at-in-loop-left_rest.result.1.now)) all in
    let Q : List KeySum → Type 0 = λ z. SameKeys ((c.loop-left_rest.keys.items ++ c.in_ok-key.key ∷ []) ++ z) all in (
      subst P (sym c.in_ok-push.ensures.items) (subst Q (sym rest)
          (keys-step c.loop-left_rest.keys.items (left ++ right) (drop c.in_ok-key.of_left left ++ drop c.in_ok-key.of_right right) all c.in_ok-key.key
          c.loop-left_rest.invariant.0 c.in_ok-key.ensures.same)),
      λ first second. order-step key_cmp _ _ _ _ _ _ _ _ _ c.in_ok-push.ensures.items c.split_at.ensures.back c.split_at-in-loop-left_rest.ensures.back
          c.in_ok-key.ensures.ordered (c.loop-left_rest.invariant.1 first second),
      units-step _ _ left right _ _ _ c.in_ok-key.of_left c.in_ok-key.of_right _ c.in_ok-push.ensures.items c.split_at.ensures.back c.split_at-in-loop-left_rest.ensures.back
          c.loop-left_rest.invariant.2 c.in_ok-key.ensures.units,
    )

pub returns-clause-ordered : goal.returns-clause-ordered
returns-clause-ordered c = λ first second.
    order-front key_cmp c.loop-left_rest.keys.items c.loop-left_rest.left_rest.now (c.loop-left_rest.invariant.1 first second).0

pub returns-in_err-key-clause-too_many : goal.returns-in_err-key-clause-too_many
returns-in_err-key-clause-too_many c =
    let p = err_from_is_err_and c.from_residual-in_err-key.result c.from_residual-in_err-key.ensures.1 in
    rw p.1 (if-many p.0 _ (rest-long c.loop-left_rest.keys.items (c.loop-left_rest.left_rest.now ++ c.loop-left_rest.right_rest.now) (c.args.left.now ++ c.args.right.now)
    c.loop-left_rest.invariant.0 c.loop-left_rest.invariant.2 c.in_err-key.ensures.too_many))

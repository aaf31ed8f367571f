-- What is taken continues to ascend; and a key that fell has fewer units or fewer marks than before.
use Rattle.std.proofs.Common.{◌<◌, ◌^◌, [], ℕ, pos, inl, inr, ⊎_elim}
use Rattle.std.proofs.lemmas.List.Elements.{All-nil, All-cons, All-get_or}
use Rattle.reading_sums.specs.declared.key.KeySum.{KeySum}
use Rattle.reading_sums.specs.Orders.{key_cmp}
use Rattle.reading_sums.proofs.KeysSince.{alone-fallen, pair-fallen, later-key, both-keys}
use Rattle.reading_sums.proofs.Walk.{taken-earlier}
use Rattle.reading_sums.proofs.since.next_key_since.Goals as goal
use Rattle.reading_sums.proofs.since.next_key_since.Goals.{else-earlier-eq0-via-then-earlier-eq0+else-earlier-eq0-2, else-earlier-eq0-via-else-earlier-eq0}

zero : KeySum
zero = record { value = pos 0; units = 0; marks = 0 }

pub returns-in-Left-clause-range : goal.returns-in-Left-clause-range
unfolding zero
returns-in-Left-clause-range c = λ range.
    let P : KeySum → Type 0 = λ key. key.marks < 2 ^ 64 in
    All-cons P _ [] (All-get_or P c.args.later.now 0 zero c.in-Left.ensures.0 range) (All-nil P)

pub returns-in-Some-clause-range : goal.returns-in-Some-clause-range
unfolding zero
returns-in-Some-clause-range c = λ range.
    let P : KeySum → Type 0 = λ key. key.marks < 2 ^ 64 in
    All-cons P _ [] (c.in-Some.ensures.range (All-get_or P c.args.later.now 0 zero c.in-Both.ensures.0 range)) (All-nil P)

pub returns-in-Left-clause-ordered : goal.returns-in-Left-clause-ordered
returns-in-Left-clause-ordered c = later-key c.args.later.now c.args.earlier.now c.in-Left.ensures.0 c.in-Left.ensures.1

pub returns-then-earlier-eq0-2-clause-ordered : goal.returns-then-earlier-eq0-2-clause-ordered
returns-then-earlier-eq0-2-clause-ordered c = taken-earlier key_cmp c.args.later.now c.args.earlier.now c.in-Right.ensures.0

pub returns-else-earlier-eq0-clause-fell : goal.returns-else-earlier-eq0-clause-fell
unfolding zero
returns-else-earlier-eq0-clause-fell c = λ done first second.
    let fallen = λ (f : KeySum → ℕ). alone-fallen f done c.args.later.now c.args.earlier.now zero c.in-Right.ensures.0 c.in-Right.ensures.1 first second in
    elim c.else-earlier-eq0.branch [
      | else-earlier-eq0-via-then-earlier-eq0+else-earlier-eq0-2 w ↦ (_, inr (fallen (λ (key : KeySum). key.marks) w.if-earlier-eq0-2.false))
      | else-earlier-eq0-via-else-earlier-eq0 w ↦ (_, inl (fallen (λ (key : KeySum). key.units) w.if-earlier-eq0.false))
    ]

pub returns-in-Some-clause-ordered : goal.returns-in-Some-clause-ordered
returns-in-Some-clause-ordered c = both-keys c.args.later.now c.args.earlier.now c.in-Both.ensures.0 c.in-Both.ensures.1 c.in-Both.ensures.2

pub returns-in-None-clause-fell : goal.returns-in-None-clause-fell
unfolding zero
returns-in-None-clause-fell c = λ done first second.
    let fallen = λ (f : KeySum → ℕ).
    pair-fallen f done c.args.later.now c.args.earlier.now zero zero c.in-Both.ensures.0 c.in-Both.ensures.1 c.in-Both.ensures.2 first second in
    ⊎_elim (λ less. (_, inl (fallen (λ (key : KeySum). key.units) less))) (λ less. (_, inr (fallen (λ (key : KeySum). key.marks) less))) c.in-None.ensures.fell

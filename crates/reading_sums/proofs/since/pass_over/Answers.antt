-- An earlier histogram between later ones has another name and spec than these, and another name if its neighbours have.
use Rattle.std.proofs.Common.{◌≡◌, ◌++◌}
use Rattle.reading_sums.specs.Since.{HasHistNamed, HasSomething}
use Rattle.reading_sums.specs.Views.{part_of}
use Rattle.reading_sums.proofs.Between.{unnamed, named-front, named-behind}
use Rattle.reading_sums.proofs.HistsSince.{told-fell, told-other}
use Rattle.reading_sums.proofs.since.pass_over.Goals as goal

pub returns-then-ends_with-clause-refused : goal.returns-then-ends_with-clause-refused
returns-then-ends_with-clause-refused c = λ between.
    let laters = c.args.before.now ++ c.args.later.now in
    told-other c.other_spec.result _ _ ⊥ (λ told. (told ≡ c.args.earlier.now.name.items) × ((¬ HasHistNamed laters told) × HasSomething (part_of c.args.earlier.now))) (λ told. HasHistNamed laters told)
    c.deref-then-ends_with.ensures.value
    (named-front c.args.before.now c.args.later.now _ _ c.deref.ensures.value c.if-ends_with.ensures) c.other_spec.ensures

pub returns-then-begins_with-clause-refused : goal.returns-then-begins_with-clause-refused
returns-then-begins_with-clause-refused c = λ between.
    let laters = c.args.before.now ++ c.args.later.now in
    told-other c.other_spec-then-begins_with.result _ _ ⊥ (λ told. (told ≡ c.args.earlier.now.name.items) × ((¬ HasHistNamed laters told) × HasSomething (part_of c.args.earlier.now))) (λ told. HasHistNamed laters told)
    c.deref-then-begins_with.ensures.value
    (named-behind c.args.before.now c.args.later.now _ _ c.deref-2.ensures.value c.if-begins_with.ensures) c.other_spec-then-begins_with.ensures

pub returns-then-is_empty-clause-unnamed : goal.returns-then-is_empty-clause-unnamed
returns-then-is_empty-clause-unnamed c = unnamed _ _ _ _ _ c.deref.ensures.value c.deref-2.ensures.value c.if-ends_with.ensures c.if-begins_with.ensures

pub returns-else-is_empty-clause-refused : goal.returns-else-is_empty-clause-refused
returns-else-is_empty-clause-refused c = λ between.
    let laters = c.args.before.now ++ c.args.later.now in
    told-fell c.fell.result _ _ ⊥ (λ told. (¬ HasHistNamed laters told) × HasSomething (part_of c.args.earlier.now)) (λ told. (told ≡ c.args.earlier.now.name.items) × HasHistNamed laters told)
    c.deref-else-is_empty.ensures.value
    (unnamed _ _ _ _ _ c.deref.ensures.value c.deref-2.ensures.value c.if-ends_with.ensures c.if-begins_with.ensures between, c.if-is_empty.ensures) c.fell.ensures

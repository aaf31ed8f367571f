-- A name that is known adds nothing; one that is new adds the record, and marks it if it is sparse.
use Rattle.std.proofs.Common.{ℕ, length-set, List, ◌<◌, ◌≤◌, ◌||◌, ◌&&◌, ◌==◌, length, get_or, true, false, refl, arith, ap, sym, ◌∙◌}
use Rattle.std.proofs.lemmas.Bool.{not-false, not-true, eq-eqb, ne_eqb}
use Rattle.segment_image.specs.Blocks.{field_at}
use Rattle.bucket_ranges.specs.Reading.{is_sparse}
use Rattle.image_reader.specs.Names.{holds}
use Rattle.image_reader.proofs.Sound.{IsReadable-from_none}
use Rattle.image_reader.proofs.Gathered.{marked-sparse, unmarked-sparse}
use Rattle.image_reader.proofs.Gathers.{IsGathered-known, IsGathered-new}
use Rattle.image_reader.proofs.gathering.Gathering.keep.Goals as goal

pub returns-then-not-branch-clause-gathered : goal.returns-then-not-branch-clause-gathered
returns-then-not-branch-clause-gathered c = λ earlier so_far.
    let name : List ℕ = c.args.name.now in
    IsGathered-known c.args.words.now c.args.head.now earlier c.args.self.now _ c.args.reference name so_far
    c.requires.tag c.requires.lawful c.requires.name c.in_ok-insert.ensures.holds
    (not-false (holds c.args.self.now.names name) (sym c.in_ok-insert.ensures.new ∙ c.if-not-branch.true))
    refl refl refl (λ h. refl) refl

pub returns-then-words-at-eq-KIND_SPARSE-clause-gathered : goal.returns-then-words-at-eq-KIND_SPARSE-clause-gathered
returns-then-words-at-eq-KIND_SPARSE-clause-gathered c = λ earlier so_far.
    let name : List ℕ = c.args.name.now in
    let long : 16 ≤ field_at c.args.words.now c.args.reference 0 =
    (IsReadable-from_none c.args.words.now c.args.head.now c.args.reference c.requires.lawful).long in
    let within : c.args.reference < length c.args.self.now.sparse.items = omega (arith, long, c.requires.within, c.requires.ready.long) in
    IsGathered-new c.args.words.now c.args.head.now earlier c.args.self.now _ c.args.reference name so_far
    c.requires.tag c.requires.lawful c.requires.name c.in_ok-insert.ensures.holds
    (not-true (holds c.args.self.now.names name) (sym c.in_ok-insert.ensures.new ∙ c.if-not-branch.false))
    c.in_ok-push.ensures.items refl
    (λ h. marked-sparse c.args.self.now.sparse.items c.args.reference h _ within refl
    ∙ sym (ap (λ b. get_or c.args.self.now.sparse.items h false || ((c.args.reference == h) && b))
    (eq-eqb (field_at c.args.words.now c.args.reference 4) 4 c.if-words-at-eq-KIND_SPARSE.true)))
    (λ h. refl) refl

pub returns-else-words-at-eq-KIND_SPARSE-clause-gathered : goal.returns-else-words-at-eq-KIND_SPARSE-clause-gathered
returns-else-words-at-eq-KIND_SPARSE-clause-gathered c = λ earlier so_far.
    let name : List ℕ = c.args.name.now in
    IsGathered-new c.args.words.now c.args.head.now earlier c.args.self.now _ c.args.reference name so_far
    c.requires.tag c.requires.lawful c.requires.name c.in_ok-insert.ensures.holds
    (not-true (holds c.args.self.now.names name) (sym c.in_ok-insert.ensures.new ∙ c.if-not-branch.false))
    c.in_ok-push.ensures.items refl
    (λ h. unmarked-sparse c.args.reference h _ (is_sparse c.args.words.now c.args.reference)
    (ne_eqb (field_at c.args.words.now c.args.reference 4) 4 c.if-words-at-eq-KIND_SPARSE.false))
    (λ h. refl) refl

pub returns-then-words-at-eq-KIND_SPARSE-clause-ready : goal.returns-then-words-at-eq-KIND_SPARSE-clause-ready
returns-then-words-at-eq-KIND_SPARSE-clause-ready c = record {
  keys = c.in_ok-insert.ensures.keys;
  samples = c.requires.ready.samples;
  long = length-set c.args.self.now.sparse.items c.args.reference true ∙ c.requires.ready.long;
}

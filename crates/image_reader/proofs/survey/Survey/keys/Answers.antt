-- The record's fields lie in the words. A sparse histogram has as many keys as there are values held of it, and another one as many as
-- buckets.
use Rattle.std.proofs.Common.{◌≡◌, ℕ, List, length, min, arith, subst, sym, ap, ◌∙◌}
use Rattle.std.specs.List.{Contains}
use Rattle.std.proofs.lemmas.List.{length-map}
use Rattle.std.proofs.lemmas.List.FromFn.{length-map-range_with_len}
use Rattle.bucket_ranges.specs.Reading.{first_samples, lawful_samples, record_buckets, sample_counts}
use Rattle.image_reader.specs.Samples.{entry_count, held}
use Rattle.image_reader.proofs.Lawful.{bucket_at}
use Rattle.image_reader.proofs.Readables.{head_within, values_few}
use Rattle.image_reader.proofs.Sound.{IsReadable-from_none, counts-buckets, counts-held}
use Rattle.image_reader.proofs.Surveys.{length-entries, read_at}
use Rattle.image_reader.proofs.survey.Survey.keys.Goals as goal

pub overflow_add-at : goal.overflow_add-at
overflow_add-at c =
    let known = read_at c.args.words.now c.args.head.now c.args.self.now.references.items c.args.reference c.requires.header c.requires.survey.listed
    (subst (λ (read : List ℕ). Contains read c.args.reference) c.requires.survey.hists_are c.requires.read) in
    omega (arith, known.fields, known.few)

pub offset_bounds-words-at : goal.offset_bounds-words-at
offset_bounds-words-at c =
    let known = read_at c.args.words.now c.args.head.now c.args.self.now.references.items c.args.reference c.requires.header c.requires.survey.listed
    (subst (λ (read : List ℕ). Contains read c.args.reference) c.requires.survey.hists_are c.requires.read) in
    omega (arith, known.fields, known.few)

pub bounds-words-at : goal.bounds-words-at
bounds-words-at c =
    let known = read_at c.args.words.now c.args.head.now c.args.self.now.references.items c.args.reference c.requires.header c.requires.survey.listed
    (subst (λ (read : List ℕ). Contains read c.args.reference) c.requires.survey.hists_are c.requires.read) in
    omega (arith, known.fields, known.few)

pub overflow_cast-reference : goal.overflow_cast-reference
overflow_cast-reference c =
    let known = read_at c.args.words.now c.args.head.now c.args.self.now.references.items c.args.reference c.requires.header c.requires.survey.listed
    (subst (λ (read : List ℕ). Contains read c.args.reference) c.requires.survey.hists_are c.requires.read) in
    omega (arith, known.fields, known.few)

pub overflow_add-result : goal.overflow_add-result
overflow_add-result c =
    let known = read_at c.args.words.now c.args.head.now c.args.self.now.references.items c.args.reference c.requires.header c.requires.survey.listed
    (subst (λ (read : List ℕ). Contains read c.args.reference) c.requires.survey.hists_are c.requires.read) in
    omega (arith, known.fields, known.few)

pub offset_bounds-words-at-else-words-at-eq-KIND_SPARSE : goal.offset_bounds-words-at-else-words-at-eq-KIND_SPARSE
offset_bounds-words-at-else-words-at-eq-KIND_SPARSE c =
    let known = read_at c.args.words.now c.args.head.now c.args.self.now.references.items c.args.reference c.requires.header c.requires.survey.listed
    (subst (λ (read : List ℕ). Contains read c.args.reference) c.requires.survey.hists_are c.requires.read) in
    omega (arith, known.fields, known.few)

pub bounds-words-at-else-words-at-eq-KIND_SPARSE : goal.bounds-words-at-else-words-at-eq-KIND_SPARSE
bounds-words-at-else-words-at-eq-KIND_SPARSE c =
    let known = read_at c.args.words.now c.args.head.now c.args.self.now.references.items c.args.reference c.requires.header c.requires.survey.listed
    (subst (λ (read : List ℕ). Contains read c.args.reference) c.requires.survey.hists_are c.requires.read) in
    omega (arith, known.fields, known.few)

pub returns-then-words-at-eq-KIND_SPARSE : goal.returns-then-words-at-eq-KIND_SPARSE
returns-then-words-at-eq-KIND_SPARSE c =
    let words = c.args.words.now in
    let head = c.args.head.now in
    let at : ℕ = c.args.reference in
    let references : List ℕ = c.args.self.now.references.items in
    let samples : List ℕ = lawful_samples words head references in
    let same : length (held c.args.self.now.samples at) ≡ length (sample_counts words (first_samples words samples at)) =
    length-entries words (first_samples words samples at) (held c.args.self.now.samples at) (c.requires.survey.samples_are at) in
    let few = values_few words head references at (head_within words head c.requires.header) c.requires.survey.listed in
    let exact : min (length (held c.args.self.now.samples at)) 18446744073709551615 ≡ length (held c.args.self.now.samples at) = omega (arith, same, few) in
    c.number_of.ensures
    ∙ (exact ∙ (sym (length-map (held c.args.self.now.samples at) entry_count)
    ∙ ap length (counts-held head.version words samples c.args.self.now.samples at c.requires.survey.samples_are c.if-words-at-eq-KIND_SPARSE.true)))

pub returns-else-words-at-eq-KIND_SPARSE : goal.returns-else-words-at-eq-KIND_SPARSE
returns-else-words-at-eq-KIND_SPARSE c =
    let words = c.args.words.now in
    let head = c.args.head.now in
    let at : ℕ = c.args.reference in
    let references : List ℕ = c.args.self.now.references.items in
    let known = read_at words head references at c.requires.header c.requires.survey.listed
    (subst (λ (read : List ℕ). Contains read at) c.requires.survey.hists_are c.requires.read) in
    sym (IsReadable-from_none words head at known.lawful).buckets
    ∙ (sym (length-map-range_with_len (bucket_at head.version words at) 0 (record_buckets words at))
    ∙ ap length (counts-buckets head.version words (lawful_samples words head references) at c.if-words-at-eq-KIND_SPARSE.false))

-- A sample without a fault goes in if it is the first of its histogram and value; one with a fault goes to the bad records.
use Rattle.std.proofs.Common.{◌≡◌, Bool, true, false, cond, not, ◌==◌, if◌then◌else◌, ℕ, List, [], ◌∷◌, ◌++◌, get_or, refl, ap, sym, ◌∙◌}
use Rattle.std.proofs.lemmas.Bool.{not-false, not-true}
use Rattle.std.proofs.lemmas.List.{append-nil}
use Rattle.std.specs.BTreeSet.{insert_key}
use Rattle.segment_image.specs.Blocks.{field_at}
use Rattle.bucket_ranges.specs.Reading.{is_bad_sample_by}
use Rattle.image_reader.specs.declared.sample.Samples.{Samples}
use Rattle.image_reader.specs.Samples.{Entry, by_entry_value, held, holds_sample, sample_entry}
use Rattle.image_reader.proofs.Gathers.{IsGathered-bad_sample, IsGathered-sample}
use Rattle.image_reader.proofs.gathering.Gathering.add_sample.Goals as goal

pub returns-in_default-clause-gathered : goal.returns-in_default-clause-gathered
returns-in_default-clause-gathered c = λ earlier so_far.
    IsGathered-bad_sample c.args.words.now c.args.head.now earlier c.args.self.now _ c.args.reference so_far c.requires.tag
    (ap (λ marks. is_bad_sample_by c.args.words.now c.args.reference (get_or marks (field_at c.args.words.now c.args.reference 4) false)) (sym c.deref.ensures.value)
    ∙ c.in_default.ensures)
    c.in_ok-push.ensures.items refl (λ name. refl) refl (λ h. refl) refl

-- what an insert returns, for the entry of the record
held_before : (words : List ℕ) (r : ℕ) (reader : Samples) (entry : Entry) (first said : Bool) → entry ≡ sample_entry words r
    → first ≡ not (holds_sample reader entry) → first ≡ said → not (holds_sample reader (sample_entry words r)) ≡ said
held_before words r reader entry first said same is says = ap (λ (e : Entry). not (holds_sample reader e)) (sym same) ∙ (sym is ∙ says)

-- the later samples with this one, and without it
more : (later : List ℕ) (r : ℕ) (known : Bool) → known ≡ true → later ++ r ∷ [] ≡ later ++ cond known (r ∷ []) []
more later r known is = ap (λ b. later ++ cond b (r ∷ []) []) (sym is)

no_more : (later : List ℕ) (r : ℕ) (known : Bool) → known ≡ false → later ≡ later ++ cond known (r ∷ []) []
no_more later r known is = sym (append-nil later) ∙ ap (λ b. later ++ cond b (r ∷ []) []) (sym is)

pub returns-in_ok-push-2-clause-gathered : goal.returns-in_ok-push-2-clause-gathered
returns-in_ok-push-2-clause-gathered c = λ earlier so_far.
    IsGathered-sample c.args.words.now c.args.head.now earlier c.args.self.now _ c.args.reference so_far c.requires.tag
    (ap (λ marks. is_bad_sample_by c.args.words.now c.args.reference (get_or marks (field_at c.args.words.now c.args.reference 4) false)) (sym c.deref.ensures.value)
    ∙ c.in-Some.ensures.0)
    (λ h. c.in_ok-insert.ensures.held h
    ∙ ap (λ (e : Entry). if e.0.0 == h then insert_key by_entry_value (held c.args.self.now.samples h) e else held c.args.self.now.samples h)
    c.in-Some.ensures.1)
    refl refl (λ name. refl) refl
    (c.in_ok-push-2.ensures.items
    ∙ more c.args.self.now.later.items c.args.reference _
    (not-false (holds_sample c.args.self.now.samples (sample_entry c.args.words.now c.args.reference))
    (held_before c.args.words.now c.args.reference c.args.self.now.samples _ c.in_ok-insert.field-0 false c.in-Some.ensures.1 c.in_ok-insert.ensures.first
    c.if-not-branch.true)))

pub returns-else-not-branch-clause-gathered : goal.returns-else-not-branch-clause-gathered
returns-else-not-branch-clause-gathered c = λ earlier so_far.
    IsGathered-sample c.args.words.now c.args.head.now earlier c.args.self.now _ c.args.reference so_far c.requires.tag
    (ap (λ marks. is_bad_sample_by c.args.words.now c.args.reference (get_or marks (field_at c.args.words.now c.args.reference 4) false)) (sym c.deref.ensures.value)
    ∙ c.in-Some.ensures.0)
    (λ h. c.in_ok-insert.ensures.held h
    ∙ ap (λ (e : Entry). if e.0.0 == h then insert_key by_entry_value (held c.args.self.now.samples h) e else held c.args.self.now.samples h)
    c.in-Some.ensures.1)
    refl refl (λ name. refl) refl
    (no_more c.args.self.now.later.items c.args.reference _
    (not-true (holds_sample c.args.self.now.samples (sample_entry c.args.words.now c.args.reference))
    (held_before c.args.words.now c.args.reference c.args.self.now.samples _ c.in_ok-insert.field-0 true c.in-Some.ensures.1 c.in_ok-insert.ensures.first
    c.if-not-branch.false)))

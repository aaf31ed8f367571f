-- The record has no fault, and its samples are those of the list.
use Rattle.std.proofs.Common.{◌≡◌, ℕ, List, subst, sym}
use Rattle.std.specs.List.{Contains}
use Rattle.std.proofs.lemmas.Result.{IfOk-weaker}
use Rattle.bucket_ranges.specs.Reading.{histogram_of, lawful_samples}
use Rattle.image_reader.specs.Readable.{IsReadable}
use Rattle.image_reader.specs.Samples.{HoldsSamples}
use Rattle.image_reader.specs.Views.{histogram_view}
use Rattle.image_reader.specs.declared.reading.HistReading.{HistReading}
use Rattle.image_reader.proofs.Readables.{head_within, hist_readable}
use Rattle.image_reader.proofs.Surveys.{read_at}
use Rattle.image_reader.proofs.survey.Survey.hist.Goals as goal

pub histogram-requires-clause-lawful : goal.histogram-requires-clause-lawful
histogram-requires-clause-lawful c =
    (read_at c.args.words.now c.args.head.now c.args.self.now.references.items c.args.reference c.requires.header c.requires.survey.listed
    (subst (λ (hists : List ℕ). Contains hists c.args.reference) c.requires.survey.hists_are c.requires.read)).lawful

pub histogram-requires-clause-within : goal.histogram-requires-clause-within
histogram-requires-clause-within c =
    (read_at c.args.words.now c.args.head.now c.args.self.now.references.items c.args.reference c.requires.header c.requires.survey.listed
    (subst (λ (hists : List ℕ). Contains hists c.args.reference) c.requires.survey.hists_are c.requires.read)).within

pub returns-clause-hist : goal.returns-clause-hist
returns-clause-hist c =
    let words = c.args.words.now in
    let head = c.args.head.now in
    let samples : List ℕ = lawful_samples words head c.args.self.now.references.items in
    IfOk-weaker c.histogram.result
    (λ (hist : HistReading). (listed : List ℕ) → HoldsSamples words listed c.args.self.now.samples
    → histogram_view hist ≡ histogram_of head.version words listed c.args.reference)
    (λ (hist : HistReading). histogram_view hist ≡ histogram_of head.version words samples c.args.reference)
    (λ hist said. said samples c.requires.survey.samples_are) c.histogram.ensures

pub returns-clause-readable : goal.returns-clause-readable
returns-clause-readable c =
    let words = c.args.words.now in
    let head = c.args.head.now in
    let references : List ℕ = c.args.self.now.references.items in
    let samples : List ℕ = lawful_samples words head references in
    let known = read_at words head references c.args.reference c.requires.header c.requires.survey.listed
    (subst (λ (hists : List ℕ). Contains hists c.args.reference) c.requires.survey.hists_are c.requires.read) in
    IfOk-weaker c.histogram.result
    (λ (hist : HistReading). (listed : List ℕ) → HoldsSamples words listed c.args.self.now.samples
    → histogram_view hist ≡ histogram_of head.version words listed c.args.reference)
    (λ (hist : HistReading). IsReadable (histogram_view hist))
    (λ hist said. subst IsReadable (sym (said samples c.requires.survey.samples_are))
    (hist_readable words head references c.args.reference (head_within words head c.requires.header) c.requires.survey.listed known.lawful))
    c.histogram.ensures

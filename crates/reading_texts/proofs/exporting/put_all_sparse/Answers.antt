use Rattle.std.proofs.Common.{◌≡◌, ◌++◌, List, ℕ, map, subst}
use Rattle.std.specs.List.{flat_map}
use Rattle.bucket_ranges.specs.Reading.{Histogram}
use Rattle.image_reader.specs.Readable.{IsReadable}
use Rattle.image_reader.specs.Views.{histogram_view}
use Rattle.reading_texts.specs.Labels.{label_view}
use Rattle.reading_texts.specs.Exporting.{sample_text, sparse_samples}
use Rattle.reading_texts.proofs.Adding.{All-image_at, written-all, written-more}
use Rattle.reading_texts.proofs.exporting.put_all_sparse.Goals as goal

pub returns : goal.returns
returns c =
    let lines : Histogram → List ℕ = λ hist. flat_map sample_text (sparse_samples c.args.name.now (map label_view c.args.line_labels.now) hist) in
    written-all lines (λ hist. histogram_view hist.now) c.args.hists.now c.loop-hist.hist-index c.args.text.now.items c.loop-hist-test.false c.loop-hist.invariant

pub put_sparse-requires : goal.put_sparse-requires
put_sparse-requires c =
    All-image_at IsReadable (λ hist. histogram_view hist.now) c.args.hists.now c.loop-hist.hist-index c.hist-item.result c.requires c.loop-hist-test.true c.hist-item.is

pub loop-hist-preserved : goal.loop-hist-preserved
loop-hist-preserved c =
    let lines : Histogram → List ℕ = λ hist. flat_map sample_text (sparse_samples c.args.name.now (map label_view c.args.line_labels.now) hist) in
    written-more (λ hist. lines (histogram_view hist.now)) c.args.hists.now c.loop-hist.hist-index c.hist-item.result c.args.text.now.items c.loop-hist-test.true
    c.loop-hist.invariant
    (subst (λ one. c.put_sparse.new.text.items ≡ c.loop-hist.text.items ++ lines (histogram_view one.now)) c.hist-item.is c.in_ok-put_sparse.ensures)

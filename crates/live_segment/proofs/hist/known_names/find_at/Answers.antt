use Rattle.std.proofs.Common.{length, ap, sym, ◌∙◌, refl}
use Rattle.std.proofs.lemmas.Slice.Eq.{bytes_eq-Decides}
use Rattle.live_segment.specs.declared.recorder.KnownHistogram.{KnownHistogram}
use Rattle.live_segment.proofs.lemmas.Hist.KnownNames.{is_there}
use Rattle.live_segment.proofs.hist.known_names.find_at.Goals as goal

pub returns-then-eq : goal.returns-then-eq
returns-then-eq c =
    let list = c.args.known.now in (
      c.index-known-place.result,
      is_there list (length list) c.args.place c.index-known-place.result refl c.if-place-known.true c.index-known-place.is,
      ap (λ (k : KnownHistogram). k.name.items) c.index-known-place.is
          ∙ (sym c.as_slice.ensures.value ∙ (bytes_eq-Decides c.as_slice.result.now c.args.name.now).0 (sym c.eq.ensures ∙ c.if-eq.true)),
    )

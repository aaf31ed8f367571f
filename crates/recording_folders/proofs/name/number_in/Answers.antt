use Rattle.std.proofs.Common.{◌≡◌, ◌∙◌, ◌-◌, ◌++◌, ap, sym, length, take, length-append, arith}
use Rattle.std.proofs.Math.Seq.{take-append_seam}
use Rattle.std.proofs.lemmas.Bool.{false≢true}
use Rattle.std.proofs.lemmas.Option.{same_Some}
use Rattle.std.proofs.lemmas.Slice.Eq.{bytes_eq-Decides}
use Rattle.recording_folders.specs.Names.{padded, numbered}
use Rattle.recording_folders.proofs.Padded.{has_64_bits}
use Rattle.recording_folders.proofs.name.number_in.Goals as goal

pub returns-clause-only : goal.returns-clause-only
returns-clause-only c number is_number is =
    let places : length c.args.name.now - length c.args.ending.now ≡ length (padded number) =
    omega (arith, ap length is, length-append (padded number) c.args.ending.now) in
    let front = ap (λ n. take n c.args.name.now) places ∙ ap (take (length (padded number))) is ∙ take-append_seam (padded number) c.args.ending.now in
    let same = same_Some c.in-Some.number number (sym c.in-Some.is ∙ c.parsed.ensures number (has_64_bits number is_number) front) in
    let written = c.as_slice.ensures.value ∙ c.in_ok-spelled.ensures ∙ ap (λ n. numbered n c.args.ending.now) same ∙ sym is in
    absurd (false≢true (c.if-eq.ensures ∙ (bytes_eq-Decides c.as_slice.result.now c.args.name.now).1 written))

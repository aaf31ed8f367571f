use Rattle.povundiri_c.specs.Sums.{AddsImage}
use Rattle.povundiri_c.proofs.Summing.{by_sums}
use Rattle.povundiri_c.proofs.contents.Contents.add_image.Goals as goal

pub returns-in-Sums : goal.returns-in-Sums
returns-in-Sums c =
    by_sums 5 (AddsImage c.args.number c.args.words.now) c.args.self.now c.in-Sums.sums c.add_image.new.sums c.add_image.result c.in-Sums.is
    (record { fault = c.add_image.ensures.fault; valid = c.add_image.ensures.valid; added = c.add_image.ensures.added; refused = c.add_image.ensures.refused })

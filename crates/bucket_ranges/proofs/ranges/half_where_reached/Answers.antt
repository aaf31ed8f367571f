use Rattle.bucket_ranges.proofs.Masks.{reached}
use Rattle.bucket_ranges.proofs.ranges.half_where_reached.Goals as goal

pub returns : goal.returns
returns c = rw (c.from.ensures, c.from-2.ensures) (reached c.args.half c.args.boundary c.args.value c.requires c.ranges.boundary.fits c.ranges.value.fits)

use Rattle.std.proofs.Common.{◌^◌}
use Rattle.image_reader.specs.Views.{histogram_view}
use Rattle.reading_shows.proofs.Came.{came-fits}
use Rattle.reading_shows.proofs.showing.came_to_histogram.Goals as goal

pub came_in_all-requires : goal.came_in_all-requires
came_in_all-requires c =
    rw (c.as_slice.ensures.value, c.in_ok-cames.ensures, c.requires.rows)
    (came-fits c.args.is_told c.args.before.now (histogram_view c.args.hist.now) (2 ^ 64) c.requires.readable.small)

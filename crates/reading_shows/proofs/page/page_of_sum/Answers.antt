use Rattle.reading_shows.proofs.page.page_of_sum.Goals as goal

pub returns : goal.returns
returns c = rw (c.as_slice.ensures.value, c.in_ok-lines.ensures) at c.page_with.ensures

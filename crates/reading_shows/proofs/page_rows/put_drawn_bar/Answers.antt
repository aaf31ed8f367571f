use Rattle.reading_shows.proofs.page_rows.put_drawn_bar.Goals as goal

pub returns : goal.returns
returns c = rw (c.as_bytes.ensures.value, c.format.ensures.text, c.marks.ensures) at c.put_parts.ensures

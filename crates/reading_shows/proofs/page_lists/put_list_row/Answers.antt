use Rattle.reading_shows.proofs.page_lists.put_list_row.Goals as goal

pub returns : goal.returns
returns c =
    rw (
      c.as_bytes.ensures.value,
      c.in_ok-number.ensures.ok,
      c.as_slice-2.ensures.value,
      c.in_ok-name.ensures.text,
      c.as_slice.ensures.value,
      c.as_slice-3.ensures.value,
      c.as_slice-4.ensures.value,
      c.as_slice-5.ensures.value,
      c.as_slice-6.ensures.value,
      c.as_slice-7.ensures.value,
      c.as_slice-8.ensures.value,
    ) at c.put_parts.ensures

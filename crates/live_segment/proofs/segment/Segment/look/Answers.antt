use Rattle.std.proofs.Common.{◌∙◌, inl, arith}
use Rattle.live_segment.proofs.segment.Segment.look.Goals as goal

pub returns : goal.returns
returns c =
    let size = c.size-size.ensures in
    let whole = c.in_ok-words.ensures.len in
    let lent = c.deref_mut.ensures.len in
    let rest = c.split_at_mut-one.ensures.back_len in
    let last = c.split_at_mut-two.ensures.back_len in
    inl (
      c.peek_words.new.words,
      c.peek_words-2.new.words,
      c.peek_words-3.new.words,
      c.peek_words.ensures ∙ c.split_at_mut-one.ensures.front_len ∙ size,
      c.peek_words-2.ensures ∙ c.split_at_mut-two.ensures.front_len ∙ size,
      c.peek_words-3.ensures ∙ omega (arith, whole, lent, rest, last, size),
      c.compose.ensures,
    )

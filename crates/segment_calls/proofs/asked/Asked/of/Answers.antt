use Rattle.std.proofs.Common.{ap, sym, ◌∙◌, arith, length, ℕ, List, ◌-◌}
use Rattle.std.specs.Prelude.{slice_index}
use Rattle.segment_calls.proofs.Payloads.{of_ranges, too_large, last_word}
use Rattle.segment_calls.proofs.asked.Asked.of.Goals as goal

pub returns-then-is_larger_than : goal.returns-then-is_larger_than
returns-then-is_larger_than c =
    let lawful = of_ranges _ _ c.in_ok-ranges.ensures.boundaries in (
      sym c.is_lawful_name.ensures ∙ c.if-not-is_lawful_name.false,
      lawful.0,
      too_large c.args.shape.page c.args.name.now c.args.spec.now c.in_ok-payload.payload.items c.in_ok-payload.letters c.in_ok-ranges.ranges c.in_ok-payload.ensures
          c.in_ok-ranges.ensures.buckets c.page.result c.page.ensures.value (c.is_larger_than.ensures.beyond c.if-is_larger_than.true),
    )

pub returns : goal.returns
returns c =
    let lawful = of_ranges _ _ c.in_ok-ranges.ensures.boundaries in
    let named = sym c.is_lawful_name.ensures ∙ c.if-not-is_lawful_name.false in
    let within = c.is_larger_than.ensures.within c.if-is_larger_than.false in
    let page = c.page.ensures.value in
    let buckets = c.in_ok-ranges.ensures.buckets in
    let made = c.in_ok-payload.ensures in
    record {
      named = c.in_ok-from_slice.ensures.items;
      specified = c.in_ok-copy_of.ensures;
      ranges = lawful.1;
      lawful_name = named;
      lawful_spec = lawful.0;
      fits = let w = within.1 in omega (arith, w, page, buckets);
      one_page = let w = within.0 in omega (arith, w, page);
      last = λ none. last_word c.args.name.now made.letters named made.spells c.args.spec.now lawful.0 (sym (ap (λ (l : List ℕ). slice_index l (length l - 1)) made.words) ∙ none);
      payload = made;
    }

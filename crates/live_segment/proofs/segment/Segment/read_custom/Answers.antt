use Rattle.std.proofs.Common.{◌+◌, ◌≡◌, ℕ, map, length, inl, inr, sym, ap, subst, ◌∙◌, arith}
use Rattle.std.specs.Prelude.{Some}
use Rattle.std.proofs.lemmas.List.{length-map}
use Rattle.segment_machine.specs.Actor.{word_seen}
use Rattle.segment_promises.proofs.Growing.{still}
use Rattle.live_segment.specs.Hist.Opened.{number_read}
use Rattle.live_segment.proofs.lemmas.List.Showing.{sees_one, seen_one, sees_on}
use Rattle.live_segment.proofs.segment.Segment.read_custom.Goals as goal

pub returns-then-n-lt2-clause-outcome : goal.returns-then-n-lt2-clause-outcome
returns-then-n-lt2-clause-outcome c =
    let step = c.load_published-n.ensures in
    inr (
      c.load_published-n.result,
      still _ _ (sees_one _ _ c.args.at 7 c.load_published-n.result step).words (c.args.at + 4) 3 c.requires.kind,
      seen_one _ _ c.args.at 7 c.load_published-n.result step,
      inl c.if-n-lt2.true,
    )

pub returns-then-n-from-clause-outcome : goal.returns-then-n-from-clause-outcome
returns-then-n-from-clause-outcome c =
    let step = c.load_published-n.ensures in
    let most = c.from.ensures in
    let more = c.if-n-from.true in
    inr (
      c.load_published-n.result,
      still _ _ (sees_one _ _ c.args.at 7 c.load_published-n.result step).words (c.args.at + 4) 3 c.requires.kind,
      seen_one _ _ c.args.at 7 c.load_published-n.result step,
      inr (omega (arith, most, more)),
    )

pub load_words-requires-clause-fixed : goal.load_words-requires-clause-fixed
load_words-requires-clause-fixed c = λ i below.
    let step = c.load_published-n.ensures in
    let (len, long, letters) = c.requires.name in
    let on = still _ _ (sees_one _ _ c.args.at 7 c.load_published-n.result step).words in
    inr (inl (
      on (c.args.at + 2) 1 c.requires.tag,
      inr (inr (
        len,
        on (c.args.at + 14) len long,
        omega arith,
        inr (
          c.load_published-n.result,
          on (c.args.at + 4) 3 c.requires.kind,
          seen_one _ _ c.args.at 7 c.load_published-n.result step,
          omega (arith, below, letters),
        ),
      )),
    ))

pub returns-clause-outcome : goal.returns-clause-outcome
returns-clause-outcome c =
    let step = c.load_published-n.ensures in
    let words = c.load_words.new.seat.me.0.seen.words in
    let one = sees_one _ _ c.args.at 7 c.load_published-n.result step in
    let two = c.in_ok-inner.ensures.read.view in
    let all = c.from-2.ensures ∙ (c.in_ok-values.ensures ∙ ap (map number_read) c.deref.ensures.value) in
    let least = c.if-n-lt2.false in
    let long = c.in_ok-inner.ensures.words.0 in
    let many : length c.from-2.result + 1 ≡ c.load_published-n.result =
    let same = ap length all ∙ length-map c.in_ok-inner.inner.items number_read in omega (arith, same, long, least) in (
      still _ _ (sees_on _ _ _ one two).words (c.args.at + 4) 3 c.requires.kind,
      subst (λ (n : ℕ). word_seen words (c.args.at + 7) ≡ Some n) (sym many)
          (still _ _ two.words (c.args.at + 7) c.load_published-n.result (seen_one _ _ c.args.at 7 c.load_published-n.result step)),
      (c.in_ok-inner.inner.items, c.in_ok-inner.ensures.words.1, sym all),
    )

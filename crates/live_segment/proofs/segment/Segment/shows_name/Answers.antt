use Rattle.std.proofs.Common.{ap, sym, ◌∙◌, inl, inr, refl}
use Rattle.std.specs.Prelude.{Some}
use Rattle.live_segment.proofs.lemmas.List.Showing.{sees_one, seen_one, may_load_fixed}
use Rattle.live_segment.proofs.lemmas.Hist.NamesAndSpecs.{letters_are, name_fixed, words_room, shown_name}
use Rattle.live_segment.proofs.segment.Segment.shows_name.Goals as goal

pub returns-then-load_published-ne-TYPE_HISTOGRAM-clause-shown : goal.returns-then-load_published-ne-TYPE_HISTOGRAM-clause-shown
returns-then-load_published-ne-TYPE_HISTOGRAM-clause-shown c =
    inl (c.load_published.result, seen_one _ _ c.args.at 2 c.load_published.result c.load_published.ensures, c.if-load_published-ne-TYPE_HISTOGRAM.true)

pub load_published-requires-2-clause-may : goal.load_published-requires-2-clause-may
load_published-requires-2-clause-may c =
    let step = c.load_published.ensures in
    may_load_fixed c.args.self.now c.args.seat.now c.load_published.new.seat c.args.at c.requires.meets.seated.table c.requires.meets.seated.recorder c.requires.meets.met step.same
    (sees_one _ _ c.args.at 2 c.load_published.result step) 14
    (inr (inl (seen_one _ _ c.args.at 2 c.load_published.result step ∙ ap Some c.if-load_published-ne-TYPE_HISTOGRAM.false, inr (inl refl))))

pub returns-then-load_published-len-clause-shown : goal.returns-then-load_published-len-clause-shown
returns-then-load_published-len-clause-shown c =
    inr (inl (
      c.load_published-2.result,
      seen_one _ _ c.args.at 14 c.load_published-2.result c.load_published-2.ensures,
      λ same. c.if-load_published-len.true (same ∙ sym (c.len.ensures ∙ c.args.asked.now.name.ok.0)),
    ))

pub shows-requires-clause-fixed : goal.shows-requires-clause-fixed
shows-requires-clause-fixed c =
    name_fixed c.args.self.now c.args.seat.now c.load_published.new.seat c.load_published-2.new.seat c.args.asked.now c.args.at _ _ c.requires.asked c.requires.meets.seated.of
    c.load_published.ensures c.if-load_published-ne-TYPE_HISTOGRAM.false c.load_published-2.ensures
    (c.if-load_published-len.false ∙ (c.len.ensures ∙ c.args.asked.now.name.ok.0))
    _ (letters_are _ c.args.asked.now c.requires.asked c.deref.result.now c.deref.ensures.value)

pub shows-requires-clause-room : goal.shows-requires-clause-room
shows-requires-clause-room c =
    words_room c.args.self.now c.args.seat.now c.load_published.new.seat c.load_published-2.new.seat c.args.asked.now c.args.at _ _ c.requires.asked c.requires.meets.seated.of
    c.load_published.ensures c.if-load_published-ne-TYPE_HISTOGRAM.false c.load_published-2.ensures
    (c.if-load_published-len.false ∙ (c.len.ensures ∙ c.args.asked.now.name.ok.0))
    _ (letters_are _ c.args.asked.now c.requires.asked c.deref.result.now c.deref.ensures.value)

pub returns-clause-shown : goal.returns-clause-shown
returns-clause-shown c =
    shown_name c.args.self.now c.args.seat.now c.load_published.new.seat c.load_published-2.new.seat c.args.asked.now c.args.at _ _ c.requires.asked c.requires.meets.seated.of
    c.load_published.ensures c.if-load_published-ne-TYPE_HISTOGRAM.false c.load_published-2.ensures
    (c.if-load_published-len.false ∙ (c.len.ensures ∙ c.args.asked.now.name.ok.0))
    c.shows.new.seat c.shows.ensures.read.view c.shows.result _ (letters_are _ c.args.asked.now c.requires.asked c.deref.result.now c.deref.ensures.value) c.shows.ensures.shown

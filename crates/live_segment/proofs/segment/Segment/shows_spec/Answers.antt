use Rattle.std.proofs.Common.{Bool, take, sym, subst, ◌∙◌}
use Rattle.live_segment.specs.Hist.ListSearch.{ShowsWords}
use Rattle.live_segment.proofs.lemmas.List.Showing.{same_on, sees_on, sees_one, seen_one, may_load_fixed}
use Rattle.live_segment.proofs.lemmas.Hist.NamesAndSpecs.{fields_are, other_field, other_buckets, buckets_are, ranges_are, buckets_fixed, ranges_fixed, ranges_room, shown_spec}
use Rattle.live_segment.proofs.segment.Segment.shows_spec.Goals as goal

pub returns-then-not-shows-clause-shown : goal.returns-then-not-shows-clause-shown
returns-then-not-shows-clause-shown c =
    other_field c.args.self.now.setting.shape c.args.asked.now c.requires.asked c.args.at c.shows.new.seat.me.0.seen _
    (fields_are c.args.self.now.setting.shape c.args.asked.now c.requires.asked c.deref.result.now c.deref.ensures.value)
    (subst (λ (b : Bool). ShowsWords c.args.at 4 (take 3 c.deref.result.now) b c.shows.new.seat.me.0.seen) c.if-not-shows.true c.shows.ensures.shown)

pub load_published-requires-clause-may : goal.load_published-requires-clause-may
load_published-requires-clause-may c =
    may_load_fixed c.args.self.now c.args.seat.now c.shows.new.seat c.args.at c.requires.seat.table c.requires.seat.recorder c.requires.met c.shows.ensures.read.same c.shows.ensures.read.view 7
    (buckets_fixed c.args.self.now c.args.seat.now c.shows.new.seat c.args.asked.now c.args.at c.requires.asked c.requires.seat.of c.requires.named c.shows.ensures.read.view)

pub returns-then-load_published-index-clause-read : goal.returns-then-load_published-index-clause-read
returns-then-load_published-index-clause-read c = record {
  same = same_on c.args.seat.now c.shows.new.seat c.load_published.new.seat c.shows.ensures.read.same c.load_published.ensures.same;
  view = sees_on c.args.seat.now.me.0 c.shows.new.seat.me.0 c.load_published.new.seat.me.0 c.shows.ensures.read.view
      (sees_one _ _ c.args.at 7 c.load_published.result c.load_published.ensures);
}

pub returns-then-load_published-index-clause-shown : goal.returns-then-load_published-index-clause-shown
returns-then-load_published-index-clause-shown c =
    other_buckets c.args.self.now.setting.shape c.args.asked.now c.requires.asked c.args.at c.load_published.new.seat.me.0.seen c.load_published.result
    (seen_one _ _ c.args.at 7 c.load_published.result c.load_published.ensures)
    (λ same. c.if-load_published-index.true (same ∙ sym (buckets_are c.args.self.now.setting.shape c.args.asked.now c.requires.asked c.index.result.now c.index.ensures)))

pub shows-requires-2-clause-fixed : goal.shows-requires-2-clause-fixed
shows-requires-2-clause-fixed c =
    ranges_fixed c.args.self.now c.args.seat.now c.shows.new.seat c.args.asked.now c.args.at c.requires.asked c.requires.seat.of c.requires.named c.shows.ensures.read.view
    c.load_published.new.seat c.load_published.result _ (fields_are c.args.self.now.setting.shape c.args.asked.now c.requires.asked c.deref.result.now c.deref.ensures.value)
    (subst (λ (b : Bool). ShowsWords c.args.at 4 (take 3 c.deref.result.now) b c.shows.new.seat.me.0.seen) c.if-not-shows.false c.shows.ensures.shown) c.load_published.ensures
    (c.if-load_published-index.false ∙ buckets_are c.args.self.now.setting.shape c.args.asked.now c.requires.asked c.index.result.now c.index.ensures) _
    (ranges_are c.args.self.now.setting.shape c.args.asked.now c.requires.asked c.deref-2.result.now c.deref-2.ensures.value)

pub shows-requires-2-clause-room : goal.shows-requires-2-clause-room
shows-requires-2-clause-room c =
    ranges_room c.args.self.now c.args.seat.now c.shows.new.seat c.args.asked.now c.args.at c.requires.asked c.requires.seat.of c.requires.named c.shows.ensures.read.view
    c.load_published.new.seat c.load_published.result _ (fields_are c.args.self.now.setting.shape c.args.asked.now c.requires.asked c.deref.result.now c.deref.ensures.value)
    (subst (λ (b : Bool). ShowsWords c.args.at 4 (take 3 c.deref.result.now) b c.shows.new.seat.me.0.seen) c.if-not-shows.false c.shows.ensures.shown) c.load_published.ensures
    (c.if-load_published-index.false ∙ buckets_are c.args.self.now.setting.shape c.args.asked.now c.requires.asked c.index.result.now c.index.ensures) _
    (ranges_are c.args.self.now.setting.shape c.args.asked.now c.requires.asked c.deref-2.result.now c.deref-2.ensures.value)

pub returns-clause-shown : goal.returns-clause-shown
returns-clause-shown c =
    shown_spec c.args.self.now c.args.seat.now c.shows.new.seat c.args.asked.now c.args.at c.requires.asked c.requires.seat.of c.requires.named c.shows.ensures.read.view
    c.load_published.new.seat c.load_published.result _ (fields_are c.args.self.now.setting.shape c.args.asked.now c.requires.asked c.deref.result.now c.deref.ensures.value)
    (subst (λ (b : Bool). ShowsWords c.args.at 4 (take 3 c.deref.result.now) b c.shows.new.seat.me.0.seen) c.if-not-shows.false c.shows.ensures.shown) c.load_published.ensures
    (c.if-load_published-index.false ∙ buckets_are c.args.self.now.setting.shape c.args.asked.now c.requires.asked c.index.result.now c.index.ensures)
    c.shows-2.new.seat c.shows-2.ensures.read.view c.shows-2.result _
    (ranges_are c.args.self.now.setting.shape c.args.asked.now c.requires.asked c.deref-2.result.now c.deref-2.ensures.value) c.shows-2.ensures.shown

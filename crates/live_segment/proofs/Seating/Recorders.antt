-- A recorder is still one of its segment after a call.
use Rattle.std.proofs.Common.{◌≡◌, false, ℕ, ◌+◌, List, Option, Some, None, refl, sym, ap, ◌∙◌, subst}
use Rattle.segment_machine.specs.declared.actor.Actor.{Actor}
use Rattle.segment_machine.specs.Actor.{is_bound, is_opener}
use Rattle.segment_machine.specs.Calls.{MayTurn}
use Rattle.segment_machine.specs.Seats.{getter}
use Rattle.segment_promises.specs.Onward.{GoesOn, Grows, is_holding}
use Rattle.live_segment.specs.declared.list.index.KeyKind.TheVariants.{Name, Sample}
use Rattle.live_segment.specs.declared.list.index.RecordIndex.{RecordIndex}
use Rattle.live_segment.specs.declared.list.walk.WalkPlace.{WalkPlace}
use Rattle.live_segment.specs.declared.recorder.state.RecorderState.{RecorderState}
use Rattle.live_segment.specs.declared.segment.Segment.{Segment}
use Rattle.live_segment.specs.Hist.Search.{HasSearched}
use Rattle.live_segment.specs.List.Index.{IsIndexed}
use Rattle.live_segment.specs.List.Records.{HasWalked}
use Rattle.live_segment.specs.List.SharedCursors.{AnswersNext}
use Rattle.live_segment.specs.List.Walk.{HasCome}
use Rattle.live_segment.specs.RecorderState.{IsRecorderAt}
use Rattle.live_segment.specs.Rule.{IsOf}
use Rattle.live_segment.specs.Seated.{IsSeated}
use Rattle.live_segment.specs.Steps.{IsAtRest, IsSame, Pass}
use Rattle.live_segment.proofs.lemmas.Add.Adds.{is_of_still, names_still}
use Rattle.live_segment.proofs.lemmas.List.Indexed.{indexed_still}
use Rattle.live_segment.proofs.lemmas.List.IndexKept.{answer_words, searched_on, walk_words}
use Rattle.live_segment.proofs.lemmas.List.Sharing.{answer_grows}
use Rattle.live_segment.proofs.lemmas.List.Walked.{all_right, come_still, walk_grows}
use Rattle.live_segment.proofs.lemmas.Steps.Proceeding.{does_not, sees_not}

-- a recorder's seat after a call: it knows the same histograms, and has seen no less of the list
pub record IsSeatAfter (segment : Segment) (old new : Pass) : Type 0 where
  pub same : IsSame old new
  pub of : IsOf segment.setting new.me.0
  pub rests : IsAtRest new.me.0
  pub names : new.me.0.answers.names ≡ old.me.0.answers.names
  pub chain : Grows old.me.0.seen.chain new.me.0.seen.chain
  pub words : Grows old.me.0.seen.words new.me.0.seen.words

-- it is still a recorder of the segment, with its new units, the place up to which it was given fresh records, and its new index of samples
pub recorder_given : (segment : Segment) (state : RecorderState) (seat : Pass) (units : ℕ) (fresh : WalkPlace) (samples : RecordIndex) → IsRecorderAt segment state
    → IsSeatAfter segment state.seat seat → units ≡ seat.me.0.units.share → HasCome segment.setting.shape.size seat.me.0.seen.chain fresh
    → IsIndexed Sample segment.setting.shape.size seat.me.0.seen samples
    → IsRecorderAt segment (record state { seat = seat; units = units; fresh = fresh; samples = samples })
recorder_given segment state seat units fresh samples at is counted come sampled = record {
  seated = record { table = is.same.0 ∙ at.seated.table; recorder = is.rests.recorder; of = is.of };
  rests = is.rests;
  counted = counted;
  listed = at.listed ∙ sym is.names;
  right = all_right segment.setting _ _ state.known.items is.names is.chain at.right;
  free = is.same.2 ∙ at.free;
  come = come;
  named = at.named;
  indexed = indexed_still Name _ _ is.words _ _ is.chain at.indexed;
  sampled = sampled;
}

-- the same, if it was given no fresh records
pub recorder_still : (segment : Segment) (state : RecorderState) (seat : Pass) (units : ℕ) (samples : RecordIndex) → IsRecorderAt segment state
    → IsSeatAfter segment state.seat seat → units ≡ seat.me.0.units.share
    → IsIndexed Sample segment.setting.shape.size seat.me.0.seen samples
    → IsRecorderAt segment (record state { seat = seat; units = units; samples = samples })
recorder_still segment state seat units samples at is counted sampled =
    recorder_given segment state seat units state.fresh samples at is counted (come_still _ _ _ _ is.chain at.come) sampled

-- ---- a call that counts

pub seat_counted : (segment : Segment) (old new : Pass) → IsOf segment.setting old.me.0 → IsSame old new → GoesOn old.me.0 new.me.0 → IsAtRest new.me.0
    → IsSeatAfter segment old new
seat_counted segment old new of same onward rests = record {
  same = same;
  of = is_of_still _ _ _ onward of;
  rests = rests;
  names = names_still _ _ onward;
  chain = onward.seen.chain;
  words = onward.seen.words;
}

-- ---- a call that only looks, or moves a cursor

-- except for where it is, what it has done and what it has seen, the actor is unchanged
abbrev IsFramed : Actor → Actor → Type 0
IsFramed old new = new ≡ record old { hand = new.hand; done = new.done; seen = new.seen }

-- a seat after such a call, and the units that it may still spend are the same
abbrev IsSeatBeside : Segment → Pass → Pass → Type 0
IsSeatBeside segment old new = IsSeatAfter segment old new × (new.me.0.units.share ≡ old.me.0.units.share)

seat_framed : (segment : Segment) (old new : Pass) → IsSeated segment old → IsAtRest old.me.0 → IsSame old new → IsFramed old.me.0 new.me.0
    → is_bound new.me.0.hand.place ≡ false → is_holding new.me.0.hand.place ≡ false → Grows old.me.0.seen.chain new.me.0.seen.chain
    → Grows old.me.0.seen.words new.me.0.seen.words → IsSeatBeside segment old new
seat_framed segment old new seated rests same framed free apart chain words = (
  record {
    same = same;
    of = record {
      shape = ap (λ (a : Actor). a.segment.shape) framed ∙ seated.of.shape;
      version = ap (λ (a : Actor). a.segment.version) framed ∙ seated.of.version;
      cursors = ap (λ (a : Actor). a.segment.cursors) framed ∙ seated.of.cursors;
    };
    rests = record {
      recorder = ap (λ (a : Actor). is_opener a.role) framed ∙ rests.recorder;
      free = free;
      apart = apart;
      holds = ap (λ (a : Actor). a.units.held) framed ∙ rests.holds;
      runs = ap (λ (a : Actor). a.entries.running) framed ∙ rests.runs;
      takes = ap (λ (a : Actor). a.deltas.taking) framed ∙ rests.takes;
      owes = ap (λ (a : Actor). a.answers.owed) framed ∙ rests.owes;
    };
    names = ap (λ (a : Actor). a.answers.names) framed;
    chain = chain;
    words = words;
  },
  ap (λ (a : Actor). a.units.share) framed,
)

pub seat_searched : (segment : Segment) (old new : Pass) → IsSeated segment old → IsAtRest old.me.0 → IsSame old new → HasSearched old.me.0 new.me.0
    → MayTurn new.me.0 → IsSeatBeside segment old new
seat_searched segment old new seated rests same searched free =
    seat_framed segment old new seated rests same
    (subst (λ (a : Actor). a ≡ record old.me.0 { hand = a.hand; done = a.done; seen = a.seen }) (sym searched.view) refl)
    free (searched.apart rests.apart) searched.chain searched.words

-- it is still a recorder of the segment
pub recorder_searched : (segment : Segment) (state : RecorderState) (seat : Pass) → IsRecorderAt segment state → IsSame state.seat seat
    → HasSearched state.seat.me.0 seat.me.0 → MayTurn seat.me.0 → IsRecorderAt segment (record state { seat = seat })
recorder_searched segment state seat at same searched free =
    let (is, share) = seat_searched segment state.seat seat at.seated at.rests same searched free in
    recorder_still segment state seat state.units state.samples at is (at.counted ∙ sym share) (searched_on _ _ _ _ searched at.sampled)

pub seat_walked : (segment : Segment) (old new : Pass) (given : List ℕ) → IsSeated segment old → IsAtRest old.me.0 → IsSame old new
    → HasWalked old.me.0 given new.me.0 → IsSeatBeside segment old new
seat_walked segment old new given seated rests same walked =
    seat_framed segment old new seated rests same
    (subst (λ (a : Actor). a ≡ record old.me.0 { hand = a.hand; done = a.done; seen = a.seen }) (sym walked.view) refl)
    walked.free (walked.apart rests.apart) (walk_grows _ _ _ walked) (walk_words _ _ _ walked)

pub seat_shared : (segment : Segment) (old new : Pass) (cursor : ℕ) (answer : Option ℕ) → IsSeated segment old → IsAtRest old.me.0 → IsSame old new
    → AnswersNext cursor old.me.0 answer new.me.0 → IsSeatBeside segment old new
seat_shared segment old new cursor answer seated rests same is =
    seat_framed segment old new seated rests same (framed answer is) (free answer is) (apart answer is) (answer_grows cursor old.me.0 answer new.me.0 is)
    (answer_words cursor old.me.0 answer new.me.0 is)
  where
    from_late : (late : Actor) → late ≡ record old.me.0 { hand = late.hand; done = late.done; seen = late.seen }
        → new.me.0 ≡ record late { hand = new.me.0.hand; done = new.me.0.done; seen = new.me.0.seen } → IsFramed old.me.0 new.me.0
    from_late late before view = view ∙ ap (λ (a : Actor). record a { hand = new.me.0.hand; done = new.me.0.done; seen = new.me.0.seen }) before

    framed : (answer : Option ℕ) → AnswersNext cursor old.me.0 answer new.me.0 → IsFramed old.me.0 new.me.0
    framed (Some reference) is =
        from_late is.late (subst (λ (a : Actor). a ≡ record old.me.0 { hand = a.hand; done = a.done; seen = a.seen }) (sym is.before.same) refl)
        (subst (λ (a : Actor). a ≡ record is.late { hand = a.hand; done = a.done; seen = a.seen }) (sym is.view) refl)
    framed None is =
        from_late is.late (subst (λ (a : Actor). a ≡ record old.me.0 { hand = a.hand; done = a.done; seen = a.seen }) (sym is.before.same) refl)
        (subst (λ (a : Actor). a ≡ record is.late { hand = a.hand; done = a.done; seen = a.seen }) (sym is.view) refl)

    free : (answer : Option ℕ) → AnswersNext cursor old.me.0 answer new.me.0 → is_bound new.me.0.hand.place ≡ false
    free (Some reference) is = ap (λ (a : Actor). is_bound a.hand.place) is.view
    free None is = ap (λ (a : Actor). is_bound a.hand.place) is.view

    apart : (answer : Option ℕ) → AnswersNext cursor old.me.0 answer new.me.0 → is_holding new.me.0.hand.place ≡ false
    apart (Some reference) is = ap (λ (a : Actor). is_holding a.hand.place) is.view
    apart None is = ap (λ (a : Actor). is_holding a.hand.place) is.view

-- ---- a recorder that gets units: only its share changes

goes_on : (a : Actor) (units : ℕ) → GoesOn a (getter a units)
goes_on a units = record { same = refl; done = does_not a.done; seen = sees_not a.seen }

rests_still : (a : Actor) (units : ℕ) → IsAtRest a → IsAtRest (getter a units)
rests_still a units rest = record {
  recorder = rest.recorder;
  free = rest.free;
  apart = rest.apart;
  holds = rest.holds;
  runs = rest.runs;
  takes = rest.takes;
  owes = rest.owes;
}

pub recorder_lent : (segment : Segment) (state : RecorderState) (seat : Pass) (units held : ℕ) → IsRecorderAt segment state → IsSame state.seat seat
    → seat.me.0 ≡ getter state.seat.me.0 units → held ≡ state.units + units → IsRecorderAt segment (record state { seat = seat; units = held })
recorder_lent segment state seat units held at same view more =
    recorder_still segment state seat held state.samples at
    (seat_counted segment state.seat seat at.seated.of same (subst (GoesOn state.seat.me.0) (sym view) (goes_on state.seat.me.0 units))
    (subst IsAtRest (sym view) (rests_still state.seat.me.0 units at.rests)))
    (more ∙ (ap (λ (n : ℕ). n + units) at.counted ∙ sym (ap (λ (a : Actor). a.units.share) view)))
    (subst (λ (a : Actor). IsIndexed Sample segment.setting.shape.size a.seen state.samples) (sym view) at.sampled)

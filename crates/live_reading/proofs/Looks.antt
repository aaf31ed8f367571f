-- A recorder looks: what its calls leave unchanged, one call after another.
use Rattle.std.proofs.Common.{◌≡◌, ℕ, List, [], ◌∷◌, Option, Some, None, inl, inr, refl, sym, ap, subst, ◌∙◌, arith}
use mathlib.Core.Option.{some}
use lib.ListN.{get_elem?}
use Rattle.bucket_ranges.specs.declared.spec.Spec.{Spec}
use Rattle.bucket_ranges.specs.declared.spec.Spec.TheVariants.{Sparse}
use Rattle.segment_calls.specs.declared.answer.Snapshot.{Snapshot}
use Rattle.segment_calls.specs.declared.asked.Asked.{Asked}
use Rattle.segment_machine.specs.declared.actor.Actor.{Actor}
use Rattle.segment_machine.specs.declared.actor.Known.{Known}
use Rattle.segment_machine.specs.declared.seen.Seen.{Seen}
use Rattle.segment_machine.specs.Actor.{looking}
use Rattle.list_lemmas.proofs.Elements.{below_length}
use Rattle.segment_promises.specs.Onward.{Grows, SeesOn}
use Rattle.segment_promises.proofs.Growing.{grows_not, grows_on, grows_same}
use Rattle.live_segment.specs.declared.recorder.Hist.{Hist}
use Rattle.live_segment.specs.declared.recorder.state.RecorderState.{RecorderState}
use Rattle.live_segment.specs.declared.segment.Segment.{Segment}
use Rattle.live_segment.specs.Delta.Outcome.{AreUnits}
use Rattle.live_segment.specs.Delta.Owed.{HasEnough, HasNoMore}
use Rattle.live_segment.specs.Hist.Opened.{IsHistogramOfRecord, OpensRecord}
use Rattle.live_segment.specs.Hist.Outcome.{ComesToKnow}
use Rattle.live_segment.specs.Hist.Search.{HasSearched}
use Rattle.live_segment.specs.List.Records.{HasWalked}
use Rattle.live_segment.specs.List.Values.{AreFewKeys}
use Rattle.live_segment.specs.Holders.{opened_with}
use Rattle.live_segment.specs.RecorderState.{IsSameRecorder, Knows, KnowsOn, Means, view_of_state}
use Rattle.live_segment.specs.Snapshot.Outcome.{HasSnapshot}
use Rattle.live_segment.proofs.lemmas.Steps.Proceeding.{sees_not, sees_on}
use Rattle.live_reading.specs.declared.live_reading.LiveHistogram.{LiveHistogram}
use Rattle.live_reading.specs.Reading.{GoesOnLooking, IsReadOf, OnlyLooks}
use Rattle.live_reading.proofs.Enough.{enough_before}

-- ---- what it has done and seen

-- the parts in which a recorder that has looked may differ, of one actor, and all else of another
abbrev looked : Actor → Actor → Actor
looked old new = record old {
  hand = new.hand;
  seen = new.seen;
  since = new.since;
  answers = new.answers;
  deltas = record old.deltas { snapshots = new.deltas.snapshots };
}

pub looks_not : (a : Actor) → OnlyLooks a a
looks_not a = record { same = refl; seen = sees_not a.seen; snapshots = grows_not a.deltas.snapshots }

pub looks_then : (a b c : Actor) → OnlyLooks a b → OnlyLooks b c → OnlyLooks a c
looks_then a b c first second = record {
  same = second.same ∙ ap (λ (x : Actor). looked x c) first.same;
  seen = sees_on a.seen b.seen c.seen first.seen second.seen;
  snapshots = grows_on a.deltas.snapshots b.deltas.snapshots c.deltas.snapshots first.snapshots second.snapshots;
}

-- it has seen more of the list and of the words of records
sees_more : (a b : Seen) → b ≡ record a { chain = b.chain; ends = b.ends; words = b.words } → Grows a.chain b.chain → Grows a.ends b.ends → Grows a.words b.words
    → SeesOn a b
sees_more a b same chain ends words = record {
  free = let e = ap (λ (s : Seen). s.free) same in omega (arith, e);
  corrupt = λ saw. ap (λ (s : Seen). s.corrupt) same ∙ saw;
  warned = let e = ap (λ (s : Seen). s.warned) same in omega (arith, e);
  chain = chain;
  ends = ends;
  tails = grows_same a.tails b.tails (ap (λ (s : Seen). s.tails) same);
  singles = grows_same a.singles b.singles (ap (λ (s : Seen). s.singles) same);
  counts = grows_same a.counts b.counts (ap (λ (s : Seen). s.counts) same);
  words = words;
  cursors = grows_same a.cursors b.cursors (ap (λ (s : Seen). s.cursors) same);
}

-- it has looked along the list
pub looks_searched : (a b : Actor) → HasSearched a b → OnlyLooks a b
looks_searched a b searched = record {
  same = subst (λ (x : Actor). x ≡ looked a x) (sym searched.view) refl;
  seen = sees_more a.seen b.seen (ap (λ (x : Actor). x.seen) searched.view) searched.chain searched.ends searched.words;
  snapshots = grows_same a.deltas.snapshots b.deltas.snapshots (ap (λ (x : Actor). x.deltas.snapshots) searched.view);
}

-- it has walked to the end of the list
pub looks_walked : (a b : Actor) (list : List ℕ) → HasWalked a list b → OnlyLooks a b
looks_walked a b list walked =
    let seen : b.seen ≡ record a.seen { chain = b.seen.chain; ends = b.seen.ends } =
    subst (λ (x : Actor). x.seen ≡ record a.seen { chain = x.seen.chain; ends = x.seen.ends }) (sym walked.view) refl in
    let words = ap (λ (s : Seen). s.words) seen in
    record {
      same = subst (λ (x : Actor). x ≡ looked a x) (sym walked.view) refl;
      seen = sees_more a.seen b.seen
          (subst (λ (x : Actor). x.seen ≡ record a.seen { chain = x.seen.chain; ends = x.seen.ends; words = x.seen.words }) (sym walked.view) refl)
          (subst (Grows a.seen.chain) (sym (ap (λ (x : Actor). x.seen.chain) walked.view)) walked.chain)
          ((_ ∷ []), ap (λ (x : Actor). x.seen.ends) walked.view)
          (grows_same a.seen.words b.seen.words words);
      snapshots = grows_same a.deltas.snapshots b.deltas.snapshots (ap (λ (x : Actor). x.deltas.snapshots) walked.view);
    }

-- it has taken a snapshot
pub looks_shown : (known : Known) (snapshot : Snapshot) (a b : Actor) → HasSnapshot known a snapshot b → OnlyLooks a b
looks_shown known snapshot a b shows = record {
  same = subst (λ (x : Actor). x ≡ looked a x) (sym shows.same) refl;
  seen = shows.seen;
  snapshots = (_, ap (λ (x : Actor). x.deltas.snapshots) shows.same);
}

-- it has come to know a histogram, and done nothing for that
looks_knowing : (asked : Asked) (reference : ℕ) (a b : Actor) → ComesToKnow asked reference a b → b.done ≡ a.done → OnlyLooks a b
looks_knowing asked reference a b comes quiet =
    let last = comes.last in
    let made : Actor → Actor = λ (x : Actor). record (looking x) { answers = b.answers } in
    let view : b ≡ made last = subst (λ (x : Actor). x ≡ record (looking last) { answers = x.answers }) (sym comes.view) refl in
    let whole : b ≡ made (record a { hand = last.hand; done = last.done; seen = last.seen; answers = record a.answers { owed = last.answers.owed } }) =
    view ∙ ap made comes.looks.same in
    let framed : b ≡ record (looked a b) { done = b.done } = subst (λ (x : Actor). x ≡ record (looked a x) { done = x.done }) (sym whole) refl in
    record {
      same = framed ∙ (λ i. record (looked a b) { done = quiet i });
      seen = subst (SeesOn a.seen) (sym (ap (λ (x : Actor). x.seen) comes.view)) comes.looks.seen;
      snapshots = grows_same a.deltas.snapshots b.deltas.snapshots (ap (λ (x : Actor). x.deltas.snapshots) whole);
    }

-- it has opened a histogram by its record, or has found none
looks_answered : (name : List ℕ) (spec : Spec) (reference : ℕ) (place : Hist) (a b : Actor) → IsHistogramOfRecord name spec reference place a b → OnlyLooks a b
looks_answered name spec reference place a b (is, inl same) = subst (OnlyLooks a) (sym same) (looks_not a)
looks_answered name spec reference place a b (is, inr (inl (known, there, alike, may, same), quiet)) = subst (OnlyLooks a) (sym same) (looks_not a)
looks_answered name spec reference place a b (is, inr (inr (none, last, (asked, at, asks, comes)), quiet)) = looks_knowing asked at a b comes quiet

pub looks_opened : (reference : ℕ) (result : Option Hist) (a b : Actor) → OpensRecord reference a result b → OnlyLooks a b
looks_opened reference None a b (searched, why) = looks_searched a b searched
looks_opened reference (Some place) a b (name, spec, read, searched, reads, is) =
    looks_then a read b (looks_searched a read searched) (looks_answered name spec reference place read b is)

-- it knows the histogram of the record then
pub knows_opened : (reference : ℕ) (place : Hist) (a b : Actor) → OpensRecord reference a (Some place) b
    → (known : Known) × (get_elem? b.answers.names place.index ≡ some known) × (known.reference ≡ reference)
knows_opened reference place a b (name, spec, read, searched, reads, ((known, there, named, at), how)) = (known, there, at)

-- ---- which recorder it is

pub goes_not : (a : RecorderState) → GoesOnLooking a a
goes_not a = record {
  knows = record { table = refl; fresh = refl; known = grows_not (view_of_state a).answers.names };
  looks = looks_not (view_of_state a);
}

pub goes_then : (a b c : RecorderState) → GoesOnLooking a b → GoesOnLooking b c → GoesOnLooking a c
goes_then a b c first second = record {
  knows = record {
    table = second.knows.table ∙ first.knows.table;
    fresh = second.knows.fresh ∙ first.knows.fresh;
    known = grows_on (view_of_state a).answers.names (view_of_state b).answers.names (view_of_state c).answers.names first.knows.known second.knows.known;
  };
  looks = looks_then (view_of_state a) (view_of_state b) (view_of_state c) first.looks second.looks;
}

-- it knows the same histograms
pub goes_same : (a b : RecorderState) → IsSameRecorder a b → OnlyLooks (view_of_state a) (view_of_state b) → GoesOnLooking a b
goes_same a b same looks = record {
  knows = record {
    table = same.table;
    fresh = same.fresh;
    known = grows_same (view_of_state a).answers.names (view_of_state b).answers.names same.names;
  };
  looks = looks;
}

-- it has looked along the list
pub goes_searched : (a b : RecorderState) → KnowsOn a b → HasSearched (view_of_state a) (view_of_state b) → GoesOnLooking a b
goes_searched a b on searched = record { knows = on; looks = looks_searched (view_of_state a) (view_of_state b) searched }

-- it has opened a record
pub goes_opened : (reference : ℕ) (result : Option Hist) (a b : RecorderState) → KnowsOn a b → OpensRecord reference (view_of_state a) result (view_of_state b)
    → GoesOnLooking a b
goes_opened reference result a b on opens = record { knows = on; looks = looks_opened reference result (view_of_state a) (view_of_state b) opens }

-- it has taken a snapshot of a histogram that it knows
pub goes_shown : (place : Hist) (known : Known) (snapshot : Snapshot) (a b : RecorderState) → IsSameRecorder a b → Means a place known
    → ((known : Known) → Means a place known → HasSnapshot known (view_of_state a) snapshot (view_of_state b)) → GoesOnLooking a b
goes_shown place known snapshot a b same means shows =
    goes_same a b same (looks_shown known snapshot (view_of_state a) (view_of_state b) (shows known means))

-- ---- a record

-- it knows the histogram that it opened
pub place_known : (reference : ℕ) (place : Hist) (a b : RecorderState) → OpensRecord reference (view_of_state a) (Some place) (view_of_state b) → Knows b place
place_known reference place a b opens =
    let (known, means, at) = knows_opened reference place (view_of_state a) (view_of_state b) opens in
    below_length (view_of_state b).answers.names place.index known means

-- it has opened it, and taken a snapshot of it
pub goes_read : (reference : ℕ) (place : Hist) (snapshot : Snapshot) (a b c : RecorderState) → KnowsOn a b
    → OpensRecord reference (view_of_state a) (Some place) (view_of_state b) → IsSameRecorder b c
    → ((known : Known) → Means b place known → HasSnapshot known (view_of_state b) snapshot (view_of_state c)) → GoesOnLooking a c
goes_read reference place snapshot a b c on opens same shows =
    let (known, means, at) = knows_opened reference place (view_of_state a) (view_of_state b) opens in
    goes_then a b c (goes_opened reference (Some place) a b on opens) (goes_shown place known snapshot b c same means shows)

-- and that is what was read of the record
pub read_by : (segment : Segment) (reference : ℕ) (place : Hist) (histogram : LiveHistogram) (a b c : RecorderState) → KnowsOn a b
    → OpensRecord reference (view_of_state a) (Some place) (view_of_state b) → IsSameRecorder b c
    → ((known : Known) → Means b place known → HasSnapshot known (view_of_state b) histogram.snapshot (view_of_state c))
    → ((known : Known) → Means b place known → HasEnough known (view_of_state b) histogram.snapshot (view_of_state c))
    → ((known : Known) → Means b place known → HasNoMore (opened_with segment) c.seat.id known histogram.snapshot (view_of_state c))
    → ((known : Known) → Means b place known → AreFewKeys segment known histogram.snapshot.counts.items)
    → ((known : Known) → Means b place known → known.spec ≡ Sparse → AreUnits histogram.snapshot.counts.items)
    → ((known : Known) → Means c place known → histogram.name.items ≡ known.name) → ((known : Known) → Means c place known → histogram.spec ≡ known.spec)
    → IsReadOf segment a c reference histogram
read_by segment reference place histogram a b c on opens same shows enough most few values named alike =
    let (known, means, at) = knows_opened reference place (view_of_state a) (view_of_state b) opens in
    let still : Means c place known = subst (λ (names : List Known). get_elem? names place.index ≡ some known) (sym same.names) means in
    record {
      asked = a;
      opened = b;
      shown = c;
      place = place;
      known = known;
      before = goes_not a;
      opens = opens;
      means = means;
      of_record = at;
      named = sym (named known still);
      same = sym (alike known still);
      shows = shows known means;
      enough = enough_before known (view_of_state a) (view_of_state b) (looks_opened reference (Some place) (view_of_state a) (view_of_state b) opens)
          (view_of_state c) histogram.snapshot (enough known means);
      most = most known means;
      few = few known means;
      values = values known means;
      behind = goes_not c;
    }

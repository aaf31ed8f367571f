-- The faults of a merge of two images.
use Rattle.std.proofs.Common.{◌≡◌, ℕ, ◌+◌, ◌<◌, List, [], ◌∷◌, ◌++◌, inl, inr, take, length, sum_by, refl, sym, ap, ◌∙◌, subst, arith, append_assoc}
use Rattle.std.specs.Prelude.{◌≢◌, true, Result, Ok, Err, IfErr, OnOk, ⊤}
use Rattle.std.specs.List.{Contains}
use mathlib.Core.Option.{some}
use lib.ListN.{get_elem?}
use Rattle.std.specs.declared.alloc.Global.{Global}
use Rattle.std.specs.declared.vec.Vec.{Vec}
use Rattle.std.proofs.lemmas.List.Elements.{All-contains}
use Rattle.std.proofs.lemmas.List.Sums.{sum_by-append}
use Rattle.segment_image.specs.Shape.{Dimensions}
use Rattle.segment_image.specs.declared.head.SegmentHead.{SegmentHead}
use Rattle.segment_image.specs.declared.layout.TheConstants.{BLOCK_HEADER}
use Rattle.bucket_ranges.specs.Reading.{Histogram}
use Rattle.bucket_ranges.specs.Spec.{SameSpec}
use Rattle.bucket_ranges.specs.declared.spec.Spec.{Spec}
use Rattle.bucket_ranges.specs.Tally.{units_of}
use Rattle.segment_machine.specs.declared.actor.Actor.{Actor}
use Rattle.segment_machine.specs.declared.actor.Done.{Done}
use Rattle.segment_machine.specs.declared.actor.Known.{Known}
use Rattle.segment_machine.specs.Seats.{newcomer, offering}
use Rattle.segment_calls.specs.declared.asked.Asked.{Asked}
use Rattle.segment_calls.specs.declared.refusal.Refusal.{Refusal}
use Rattle.segment_calls.specs.declared.refusal.Refusal.TheVariants as refusal
use Rattle.segment_calls.specs.Asked.{IsAskedFor, IsRefusedFor, IsTooLarge}
use Rattle.live_segment.specs.declared.rule.Setting.{Setting}
use Rattle.live_segment.specs.Add.Sample.{HasNoRoom, block_words}
use Rattle.live_segment.specs.Hist.Answer.{IsRefusedWith, KnowsNamed, KnowsNone}
use Rattle.live_segment.specs.Hist.Search.{FirstHasOtherSpec}
use Rattle.segment_invariant.proofs.Lists.Elements.{contains_at}
use Rattle.live_segment.specs.Rule.{first_view}
use Rattle.live_segment.specs.Hist.Outcome.{IsHistRefusal}
use Rattle.segment_merge.specs.declared.merging.MergeReport.{MergeReport}
use Rattle.segment_merge.specs.declared.merging.MergeStop.{MergeStop}
use Rattle.segment_merge.specs.Merge.{HasStopCause, IsMerged, IsOneOf, IsStopped, cost_left, items_left}
use Rattle.segment_merge.proofs.Merged.{merged_then}
use Rattle.persist_report_core.specs.declared.fault.CliFault.{CliFault}
use Rattle.persist_report_core.specs.declared.fault.CliFault.TheVariants as cli
use Rattle.persist_commands.specs.MergeFiles.{HasStopped, HasStoppedIn, HaveOtherSpec, IsStopOf, LacksRoomFor, MayStop, StopsIn, fault_of_stop}
use Rattle.persist_commands.proofs.MergeClosed.{IsClosed, saw_no_flag, saw_no_other}
use Rattle.persist_commands.proofs.MergeFilled.{Lacks, counts_long, lacks_room, record_long}

-- ---- one histogram

-- It is asked for and counted after others that are merged, by a recorder that knows histograms of these alone. Since its segment was new
-- and only it recorded there, it saw no record of a name that it does not know with another spec, and no corrupt flag. If a block passed
-- the end, there was no room.
module _ (first : SegmentHead) (units : ℕ) (front : List Histogram) (h : Histogram) (old new : Actor)
    (knows : (known : Known) → Contains old.answers.names known → IsOneOf front known)
    (unseen : (asked : Asked) → FirstHasOtherSpec asked new → KnowsNone asked.name.items new → ⊥) (sound : new.seen.corrupt ≡ true → ⊥)
    (full : (block : ℕ) → Lacks h new block → new.segment.shape.size < new.seen.free + block → LacksRoomFor first front h) where
  -- no block could be claimed
  no_room : (why : Refusal) (words : ℕ) (before : Actor) → Lacks h new words → HasNoRoom why words before new → MayStop first units front h why
  no_room refusal.Full words before lacks (done, wastes, passes) = full words lacks passes
  no_room refusal.Corrupt words before lacks (done, wastes, corrupt, warned) = absurd (sound corrupt)
  no_room why words before lacks has = absurd has

  -- it may not be asked for
  not_asked : (shape : Dimensions) (why : Refusal) → shape.page ≡ first.shape.page → why ≢ refusal.NoMemory → IsRefusedFor shape h.name h.spec why
      → MayStop first units front h why
  not_asked shape refusal.BadName same other is = is
  not_asked shape (refusal.BadSpec fault) same other is = is.1
  not_asked shape refusal.TooLarge same other is = subst (λ (p : ℕ). IsTooLarge p h.name h.spec) same is.2
  not_asked shape refusal.NoMemory same other is = absurd (other refl)
  not_asked shape why same other is = absurd is

  -- it was looked for
  not_found : (asked : Asked) (why : Refusal) (before : Actor) → IsAskedFor before.segment.shape h.name h.spec asked → KnowsNone h.name new
      → IsHistRefusal asked why before new → MayStop first units front h why
  not_found asked refusal.OtherSpec before asks none is = absurd (unseen asked is (subst (λ (name : List ℕ). KnowsNone name new) (sym asks.named) none))
  not_found asked refusal.Full before asks none (others, all, (done, wastes, passes)) =
      full (BLOCK_HEADER + length asked.payload.items) (inl (record_long before.segment.shape h asked asks, none)) passes
  not_found asked refusal.Corrupt before asks none (others, all, (done, wastes, corrupt, warned)) = absurd (sound corrupt)
  not_found asked why before asks none is = absurd is.2

  -- the recorder knew one of the name, with another spec
  knew_other : (index : ℕ) (known : Known) → KnowsNamed h.name old index known → ¬ (SameSpec known.spec h.spec) → HaveOtherSpec front h
  knew_other index known (at, named) unlike =
      let (other, among, its, spec) = knows known (contains_at old.answers.names index known at) in
      (other, among, sym its ∙ named, λ same. unlike (subst (λ (s : Spec). SameSpec s h.spec) (sym spec) same))

  -- its `hist` is refused
  unfound : (why : Refusal) → old.segment.shape.page ≡ first.shape.page → why ≢ refusal.NoMemory → IsRefusedWith h.name h.spec why old new
      → MayStop first units front h why
  unfound why same other (inl (is, unmoved, fresh)) = not_asked old.segment.shape why same other is
  unfound why same other (inr (inl (is, (index, known, named, unlike), may, unmoved))) =
      let P : Refusal → Type 0 = MayStop first units front h in subst P (sym is) (knew_other index known named unlike)
  unfound why same other (inr (inr (none, (asked, is, by), looks, owed))) =
      let names : new.answers.names ≡ old.answers.names = ap (λ (a : Actor). a.answers.names) looks.same in
      not_found asked why old is
      (λ index known its. none index known (subst (λ (l : List Known). get_elem? l index ≡ some known) names its.0, its.1)) by

  -- its merge stops
  caused : (items : ℕ) (why : Refusal) → old.segment.shape.page ≡ first.shape.page → old.units.share + sum_by cost_left front ≡ units
      → why ≢ refusal.NoMemory → new.units.share + units_of (take items (items_left h)) ≡ old.units.share → HasStopCause h items why old new
      → MayStop first units front h why
  caused items why same left other paid (inl (zero, refused)) = unfound why same other refused
  caused items why same left other paid (inr (found, known, has, inl (zero, is, short, unmoved))) =
      let P : Refusal → Type 0 = MayStop first units front h in
      let none : units_of (take items (items_left h)) ≡ 0 = ap (λ (n : ℕ). units_of (take n (items_left h))) zero in
      let share : new.units.share ≡ found.units.share = ap (λ (a : Actor). a.units.share) unmoved in
      let all : sum_by cost_left (front ++ h ∷ []) ≡ sum_by cost_left front + sum_by cost_left (h ∷ []) = sum_by-append cost_left front (h ∷ []) in
      let above : units < sum_by cost_left (front ++ h ∷ []) = omega (arith, left, paid, none, share, short, all) in
      subst P (sym is) above
  caused items why same left other paid (inr (found, known, has, inr cut)) =
      let names : new.answers.names ≡ found.answers.names = ap (λ (a : Actor). a.answers.names) cut.onward.same in
      let among : Contains new.answers.names known =
      subst (λ (l : List Known). Contains l known) (sym names) (contains_at found.answers.names has.histogram.index known has.known_is.0) in
      no_room why (block_words known) cut.at (inr (counts_long known h.spec has.same, (known, among, has.known_is.1))) cut.lacks.1

-- ---- among others

stopped_at : (hists : List Histogram) (name : Vec ℕ Global) (why : Refusal) (old new : Actor)
    → (why ≢ refusal.NoMemory → HasStoppedIn hists name.items why old new) → HasStopped hists old new (fault_of_stop name why)
stopped_at hists name refusal.NoMemory old new stopped = tt
stopped_at hists name why old new stopped = stopped (λ e. cc e)

pub stop_among : (hists : List Histogram) (report : MergeReport) (stop : MergeStop) (old new : Actor) → IsStopped hists report stop old new
    → HasStopped hists old new (fault_of_stop stop.name stop.why)
stop_among hists report stop old new stopped = stopped_at hists stop.name stop.why old new (λ other. record {
  front = stopped.front;
  last = stopped.last;
  behind = stopped.behind;
  split = stopped.split;
  named = sym stopped.named;
  until = stopped.until;
  merged = stopped.merged;
  items = stop.items;
  stops = stopped.stops;
  other = other;
})

-- a stop among some is one among more that come after them
pub stop_first : (xs ys : List Histogram) (old new : Actor) (fault : CliFault) → HasStopped xs old new fault → HasStopped (xs ++ ys) old new fault
stop_first xs ys old new (cli.Merge name why) is = record {
  front = is.front;
  last = is.last;
  behind = is.behind ++ ys;
  split = ap (λ (list : List Histogram). list ++ ys) is.split ∙ append_assoc is.front (is.last ∷ is.behind) ys;
  named = is.named;
  until = is.until;
  merged = is.merged;
  items = is.items;
  stops = is.stops;
  other = is.other;
}
stop_first xs ys old new cli.NoMemory is = tt
stop_first xs ys old new fault is = absurd is

-- or which were merged before them
pub stop_second : (xs ys : List Histogram) (old mid new : Actor) (fault : CliFault) → IsMerged xs old mid → HasStopped ys mid new fault
    → HasStopped (xs ++ ys) old new fault
stop_second xs ys old mid new (cli.Merge name why) before is = record {
  front = xs ++ is.front;
  last = is.last;
  behind = is.behind;
  split = ap (λ (list : List Histogram). xs ++ list) is.split ∙ sym (append_assoc xs is.front (is.last ∷ is.behind));
  named = is.named;
  until = is.until;
  merged = merged_then xs is.front old mid is.until before is.merged;
  items = is.items;
  stops = is.stops;
  other = is.other;
}
stop_second xs ys old mid new cli.NoMemory before is = tt
stop_second xs ys old mid new fault before is = absurd is

-- two readings are merged, one after the other: how the second ended is how both did
pub merged_both : (r : Result ⊤ CliFault) (xs ys : List Histogram) (old mid new : Actor) → IsMerged xs old mid → OnOk r (IsMerged ys mid new)
    → OnOk r (IsMerged (xs ++ ys) old new)
merged_both (Ok x) xs ys old mid new before after = merged_then xs ys old mid new before after
merged_both (Err fault) xs ys old mid new before after = tt

pub stop_both : (r : Result ⊤ CliFault) (xs ys : List Histogram) (old mid new : Actor) → IsMerged xs old mid → IfErr r (HasStopped ys mid new)
    → IfErr r (HasStopped (xs ++ ys) old new)
stop_both (Ok x) xs ys old mid new before stopped = tt
stop_both (Err fault) xs ys old mid new before stopped = stop_second xs ys old mid new fault before stopped

-- if nothing was known and nobody else records, it has its cause
told_in : (first : SegmentHead) (units : ℕ) (hists : List Histogram) (name : Vec ℕ Global) (why : Refusal) (old new : Actor)
    (is : HasStoppedIn hists name.items why old new)
    → old.segment.shape.page ≡ first.shape.page → old.units.share ≡ units → old.answers.names ≡ []
    → ((asked : Asked) → FirstHasOtherSpec asked new → KnowsNone asked.name.items new → ⊥) → (new.seen.corrupt ≡ true → ⊥)
    → ((block : ℕ) → Lacks is.last new block → new.segment.shape.size < new.seen.free + block → LacksRoomFor first is.front is.last)
    → StopsIn first units hists name.items why
told_in first units hists name why old new is pages all none unseen sound full =
    let until : Actor = is.until in
    let names : until.answers.names ≡ is.merged.onward.more = is.merged.onward.names ∙ ap (λ (l : List Known). l ++ is.merged.onward.more) none in
    let share = is.merged.share in record {
      front = is.front;
      last = is.last;
      behind = is.behind;
      split = is.split;
      named = is.named;
      cause = caused first units is.front is.last until new
          (λ known has. All-contains (IsOneOf is.front) is.merged.onward.more known is.merged.onward.of_these (subst (λ (l : List Known). Contains l known) names has))
          unseen sound full is.items why (ap (λ (a : Actor). a.segment.shape.page) is.merged.onward.same ∙ pages) (omega (arith, share, all)) is.other
          is.stops.share is.stops.cause;
    }

-- it has not set the corrupt flag
unspoiled : (hists : List Histogram) (name : List ℕ) (why : Refusal) (old new : Actor) → HasStoppedIn hists name why old new → new.done.spoiled ≡ old.done.spoiled
unspoiled hists name why old new is =
    ap (λ (d : Done). d.spoiled) is.stops.onward.done.same ∙ ap (λ (d : Done). d.spoiled) is.merged.onward.done.same

-- ---- in a new segment

-- one recorder had all units of a new segment and has stopped; it is joined, and the segment is closed
pub stop_told : (setting : Setting) (first : SegmentHead) (hists : List Histogram) (last : Actor) (words : List ℕ) (fault : CliFault)
    → setting.shape ≡ first.shape → setting.version ≡ 2
    → HasStopped hists (newcomer (offering (first_view setting) 4294967295)) last fault
    → IsClosed setting last words → IsStopOf first 4294967295 hists fault
stop_told setting first hists last words (cli.Merge name why) shape version stopped closed =
    let old : Actor = newcomer (offering (first_view setting) 4294967295) in
    told_in first 4294967295 hists name why old last stopped (ap (λ (s : Dimensions). s.page) shape) refl refl (saw_no_other setting last words closed)
    (saw_no_flag setting last words closed (unspoiled hists name.items why old last stopped))
    (λ block. lacks_room setting stopped.front stopped.last stopped.items why stopped.until last words stopped.merged stopped.stops closed first block shape version)
stop_told setting first hists last words cli.NoMemory shape version stopped closed = tt
stop_told setting first hists last words fault shape version stopped closed = absurd stopped

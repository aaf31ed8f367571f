-- A reading that is under way: the first records of the list are read.
use Rattle.std.proofs.Common.{◌≡◌, ◌≢◌, ℕ, suc, ◌<◌, List, [], ◌∷◌, ◌++◌, map, take, length, get_or, Option, Some, None, refl, sym, ap, subst, ◌∙◌, ⊎_elim, arith}
use Rattle.std.specs.List.{All, AllPairs, Contains, filter_map}
use Rattle.std.proofs.lemmas.Bool.{cases_order}
use Rattle.std.proofs.lemmas.List.{append-nil, get_or_default, get_or-take, length-take-le, map-append}
use Rattle.std.proofs.lemmas.List.Elements.{All-nil, All-push, All-weaker, Contains-append_left, Contains-append_right, filter_map-append}
use Rattle.std.proofs.lemmas.List.Quantifiers.{all_pairs_push}
use mathlib.Core.Option.{some, some-injective}
use lib.ListN.{get_elem?}
use Rattle.segment_machine.specs.declared.actor.Actor.{Actor}
use Rattle.segment_machine.specs.declared.actor.Answers.{Answers}
use Rattle.segment_machine.specs.declared.actor.Known.{Known}
use Rattle.segment_promises.specs.Values.{NoRepeats}
use Rattle.list_lemmas.proofs.Elements.{at_from, below_length, contains_at, from_map, index_at}
use Rattle.live_segment.specs.declared.recorder.KnownHistogram.{KnownHistogram}
use Rattle.live_segment.specs.declared.recorder.state.RecorderState.{RecorderState}
use Rattle.live_segment.specs.declared.segment.Segment.{Segment}
use Rattle.live_segment.specs.Holders.{opened_with}
use Rattle.live_segment.specs.Known.{known_view}
use Rattle.live_segment.specs.List.Records.{HasWalked}
use Rattle.live_segment.specs.RecorderState.{IsRecorderAt, KnowsOn, view_of_state}
use Rattle.live_segment.specs.Standing.{HasList}
use Rattle.live_reading.specs.declared.live_reading.LiveHistogram.{LiveHistogram}
use Rattle.live_reading.specs.Reading.{GoesOnLooking, KnowsEachOnce, IsOutcome, IsReadOf, KnowsRead, OpensNone, ReadsList, read_of}
use Rattle.live_reading.proofs.Enough.{enough_before}
use Rattle.live_reading.proofs.Looks.{goes_not, goes_then}

-- ---- names

-- a recorder knows one histogram of each name
abbrev pub KnowsOnce : RecorderState → Type 0
KnowsOnce state =
    (one other : Known) → Contains (view_of_state state).answers.names one → Contains (view_of_state state).answers.names other → one.name ≡ other.name
    → one ≡ other

pub knows_once : (segment : Segment) (state : RecorderState) → IsRecorderAt segment state → KnowsOnce state
knows_once segment state at one other first second same =
    let (i, there) = at_from (view_of_state state).answers.names one first in
    let (j, here) = at_from (view_of_state state).answers.names other second in
    let (x, its, is) = from_map known_view state.known.items i one (subst (λ (l : List Known). get_elem? l i ≡ some one) (sym at.listed) there) in
    let (y, their, are) = from_map known_view state.known.items j other (subst (λ (l : List Known). get_elem? l j ≡ some other) (sym at.listed) here) in
    let named : x.name.items ≡ y.name.items = ap (λ (k : Known). k.name) is ∙ (same ∙ sym (ap (λ (k : Known). k.name) are)) in
    let place : i ≡ j = one_place state.known.items at.named.once i j x y its their named in
    some-injective one other (sym there ∙ (ap (get_elem? (view_of_state state).answers.names) place ∙ here))
  where
    named_there : (list : List KnownHistogram) (i j : ℕ) (x y : KnownHistogram) → get_elem? list i ≡ some x → get_elem? list j ≡ some y
        → x.name.items ≡ y.name.items → (get_or list i x).name.items ≡ (get_or list j x).name.items
    named_there list i j x y at there same =
        ap (λ (k : KnownHistogram). k.name.items) (index_at list i x x at)
        ∙ (same ∙ sym (ap (λ (k : KnownHistogram). k.name.items) (index_at list j y x there)))

    one_place : (list : List KnownHistogram) → AllPairs (λ one other. one.name.items ≢ other.name.items) list → (i j : ℕ) (x y : KnownHistogram)
        → get_elem? list i ≡ some x → get_elem? list j ≡ some y → x.name.items ≡ y.name.items → i ≡ j
    one_place list once i j x y at there same = ⊎_elim (λ is. is)
        (λ apart. ⊎_elim
        (λ before. absurd (once i j x before (below_length list j y there) (named_there list i j x y at there same)))
        (λ behind. absurd (once j i y behind (below_length list i x at) (named_there list j i y x there at (sym same))))
        apart) (cases_order i j)

-- ---- records

-- none of the records before one is that one
pub new_behind : (list : List ℕ) → NoRepeats list → (i at : ℕ) → i < length list → get_or list i 0 ≡ at → ¬ (Contains (take i list) at)
new_behind list once i at inside is (k, low, here) =
    let long = length-take-le i list (omega (arith, inside)) in
    let below : k < i = omega (arith, low, long) in
    let there : get_or list k 0 ≡ at = sym (get_or-take i list k 0 below) ∙ (get_or_default (take i list) k 0 at low ∙ here) in
    once (suc k) (suc i) (omega (arith, below)) (omega (arith, inside)) (there ∙ sym is)

-- ---- what was read

-- what was read of a record between two states was so between states that enclose them
pub outcome_within : (segment : Segment) (a b c d : RecorderState) → GoesOnLooking a b → GoesOnLooking c d → (reference : ℕ) (outcome : Option LiveHistogram)
    → IsOutcome segment b c reference outcome → IsOutcome segment a d reference outcome
outcome_within segment a b c d first last reference None none = record {
  asked = none.asked;
  opened = none.opened;
  before = goes_then a b none.asked first none.before;
  opens = none.opens;
  behind = goes_then none.opened c d none.behind last;
}
outcome_within segment a b c d first last reference (Some histogram) read = record {
  asked = read.asked;
  opened = read.opened;
  shown = read.shown;
  place = read.place;
  known = read.known;
  before = goes_then a b read.asked first read.before;
  opens = read.opens;
  means = read.means;
  of_record = read.of_record;
  named = read.named;
  same = read.same;
  shows = read.shows;
  enough = enough_before read.known (view_of_state a) (view_of_state b) first.looks (view_of_state read.shown) histogram.snapshot read.enough;
  most = read.most;
  few = read.few;
  values = read.values;
  behind = goes_then read.shown c d read.behind last;
}

-- a recorder knows a histogram of this name and this spec, whose record is one of these
abbrev KnowsOf : List ℕ → RecorderState → LiveHistogram → Type 0
KnowsOf passed state histogram =
    (known : Known) × Contains (view_of_state state).answers.names known × (known.name ≡ histogram.name.items) × (known.spec ≡ histogram.spec)
    × Contains passed known.reference

-- it knows what it knew
known_then : (a b : RecorderState) → KnowsOn a b → (known : Known) → Contains (view_of_state a).answers.names known → Contains (view_of_state b).answers.names known
known_then a b on known has =
    let (more, grown) = on.known in
    subst (λ (names : List Known). Contains names known) (sym grown) (Contains-append_left (view_of_state a).answers.names more known has)

-- the histogram that was read is one that it knows
known_read : (segment : Segment) (a b : RecorderState) (reference : ℕ) (histogram : LiveHistogram) → IsReadOf segment a b reference histogram
    → (known : Known) × Contains (view_of_state b).answers.names known × (known.name ≡ histogram.name.items) × (known.spec ≡ histogram.spec)
    × (known.reference ≡ reference)
known_read segment a b reference histogram read = (
  read.known,
  known_then read.shown b read.behind.knows read.known
      (subst (λ (answers : Answers). Contains answers.names read.known) (sym (ap (λ (x : Actor). x.answers) read.shows.same))
      (contains_at (view_of_state read.opened).answers.names read.place.index read.known read.means)),
  read.named,
  read.same,
  read.of_record,
)

-- ---- what stays

-- two histograms have different names
abbrev HaveTwoNames : LiveHistogram → LiveHistogram → Type 0
HaveTwoNames one other = one.name.items ≢ other.name.items

known_on : (passed more : List ℕ) (a b : RecorderState) → GoesOnLooking a b → (hists : List LiveHistogram) → All (KnowsOf passed a) hists
    → All (KnowsOf (passed ++ more) b) hists
known_on passed more a b on hists known =
    All-weaker (KnowsOf passed a) (KnowsOf (passed ++ more) b)
    (λ histogram (one, has, named, same, among). (one, known_then a b on.knows one has, named, same, Contains-append_left passed more one.reference among))
    hists known

each_then : (segment : Segment) (a b c : RecorderState) → GoesOnLooking b c → (outcomes : List (ℕ × Option LiveHistogram))
    → All (λ outcome. IsOutcome segment a b outcome.0 outcome.1) outcomes → All (λ outcome. IsOutcome segment a c outcome.0 outcome.1) outcomes
each_then segment a b c on outcomes each =
    All-weaker (λ (outcome : ℕ × Option LiveHistogram). IsOutcome segment a b outcome.0 outcome.1)
    (λ (outcome : ℕ × Option LiveHistogram). IsOutcome segment a c outcome.0 outcome.1)
    (λ outcome is. outcome_within segment a a b c (goes_not a) on outcome.0 outcome.1 is) outcomes each

-- ---- under way

-- These records are passed. Of each, in order, there is the histogram or none, and these are the histograms; its recorder knows them, and
-- no name comes twice.
pub record IsUnderWay (segment : Segment) (passed : List ℕ) (hists : List LiveHistogram) (listed now : RecorderState) : Type 0 where
  pub onward : GoesOnLooking listed now
  pub outcomes : List (ℕ × Option LiveHistogram)
  pub of_records : map (λ outcome. outcome.0) outcomes ≡ passed
  pub each : All (λ outcome. IsOutcome segment listed now outcome.0 outcome.1) outcomes
  pub these : hists ≡ filter_map (λ outcome. outcome.1) outcomes
  pub known : All (KnowsOf passed now) hists
  pub once : AllPairs (λ one other. one.name.items ≢ other.name.items) hists

pub under_way_none : (segment : Segment) (state : RecorderState) → IsUnderWay segment [] [] state state
under_way_none segment state = record {
  onward = goes_not state;
  outcomes = [];
  of_records = refl;
  each = All-nil _;
  these = refl;
  known = All-nil _;
  once = λ i j d lt inside. absurd (omega (arith, inside));
}

-- nothing was read of the next record
none_more : (segment : Segment) (passed : List ℕ) (hists after : List LiveHistogram) (reference : ℕ) (listed mid new : RecorderState)
    → IsUnderWay segment passed hists listed mid → GoesOnLooking mid new → OpensNone reference mid new → after ≡ hists ++ []
    → IsUnderWay segment (passed ++ reference ∷ []) after listed new
none_more segment passed hists after reference listed mid new way on none is =
    let last : ℕ × Option LiveHistogram = (reference, None) in record {
      onward = goes_then listed mid new way.onward on;
      outcomes = way.outcomes ++ last ∷ [];
      of_records = map-append (λ (outcome : ℕ × Option LiveHistogram). outcome.0) way.outcomes (last ∷ []) ∙ ap (λ (l : List ℕ). l ++ reference ∷ []) way.of_records;
      each = All-push (λ (outcome : ℕ × Option LiveHistogram). IsOutcome segment listed new outcome.0 outcome.1) way.outcomes last
          (each_then segment listed mid new on way.outcomes way.each)
          (outcome_within segment listed mid new new way.onward (goes_not new) reference None none);
      these = is ∙ (append-nil hists ∙ (way.these
          ∙ sym (filter_map-append (λ (outcome : ℕ × Option LiveHistogram). outcome.1) way.outcomes (last ∷ [])
          ∙ append-nil (filter_map (λ (outcome : ℕ × Option LiveHistogram). outcome.1) way.outcomes))));
      known = subst (All (KnowsOf (passed ++ reference ∷ []) new)) (sym (is ∙ append-nil hists)) (known_on passed (reference ∷ []) mid new on hists way.known);
      once = subst (AllPairs HaveTwoNames) (sym (is ∙ append-nil hists)) way.once;
    }

-- a histogram was
one_more : (segment : Segment) (passed : List ℕ) (hists after : List LiveHistogram) (reference : ℕ) (histogram : LiveHistogram) (listed mid new : RecorderState)
    → IsUnderWay segment passed hists listed mid → GoesOnLooking mid new → IsReadOf segment mid new reference histogram → after ≡ hists ++ histogram ∷ []
    → KnowsOnce new → ¬ (Contains passed reference) → IsUnderWay segment (passed ++ reference ∷ []) after listed new
one_more segment passed hists after reference histogram listed mid new way on read is knows apart =
    let last : ℕ × Option LiveHistogram = (reference, Some histogram) in
    let (mine, has, named, same, at) = known_read segment mid new reference histogram read in
    let before = known_on passed [] mid new on hists way.known in
    record {
      onward = goes_then listed mid new way.onward on;
      outcomes = way.outcomes ++ last ∷ [];
      of_records = map-append (λ (outcome : ℕ × Option LiveHistogram). outcome.0) way.outcomes (last ∷ []) ∙ ap (λ (l : List ℕ). l ++ reference ∷ []) way.of_records;
      each = All-push (λ (outcome : ℕ × Option LiveHistogram). IsOutcome segment listed new outcome.0 outcome.1) way.outcomes last
          (each_then segment listed mid new on way.outcomes way.each)
          (outcome_within segment listed mid new new way.onward (goes_not new) reference (Some histogram) read);
      these = is ∙ (ap (λ (l : List LiveHistogram). l ++ histogram ∷ []) way.these
          ∙ sym (filter_map-append (λ (outcome : ℕ × Option LiveHistogram). outcome.1) way.outcomes (last ∷ [])));
      known = subst (All (KnowsOf (passed ++ reference ∷ []) new)) (sym is)
          (All-push (KnowsOf (passed ++ reference ∷ []) new) hists histogram (known_on passed (reference ∷ []) mid new on hists way.known)
          (mine, has, named, same, Contains-append_right passed (reference ∷ []) mine.reference (0, omega arith, sym at)));
      once = subst (AllPairs HaveTwoNames) (sym is)
          (all_pairs_push HaveTwoNames hists histogram way.once
          (λ k d low alike.
          let (theirs, had, called, spec, among) = way.known k d low in
          let both : theirs ≡ mine = knows theirs mine (known_then mid new on.knows theirs had) has (called ∙ (alike ∙ sym named)) in
          apart (subst (Contains passed) (ap (λ (known : Known). known.reference) both ∙ at) among)));
    }

pub under_way_more : (segment : Segment) (passed : List ℕ) (hists after : List LiveHistogram) (reference : ℕ) (found : Option LiveHistogram) (listed mid new : RecorderState)
    → IsUnderWay segment passed hists listed mid → GoesOnLooking mid new → IsOutcome segment mid new reference found → after ≡ hists ++ read_of found
    → KnowsOnce new → ¬ (Contains passed reference) → IsUnderWay segment (passed ++ reference ∷ []) after listed new
under_way_more segment passed hists after reference None listed mid new way on none is knows apart =
    none_more segment passed hists after reference listed mid new way on none is
under_way_more segment passed hists after reference (Some histogram) listed mid new way on read is knows apart =
    one_more segment passed hists after reference histogram listed mid new way on read is knows apart

-- it is done
pub has_names : (segment : Segment) (passed : List ℕ) (hists : List LiveHistogram) (listed new : RecorderState) → IsUnderWay segment passed hists listed new
    → KnowsEachOnce hists new
has_names segment passed hists listed new way = record {
  known = All-weaker (KnowsOf passed new) (KnowsRead new) (λ histogram (known, has, named, same, among). (known, has, named, same)) hists way.known;
  once = way.once;
}

pub reads_list : (segment : Segment) (records passed : List ℕ) (hists : List LiveHistogram) (old listed new : RecorderState)
    → HasWalked (view_of_state old) records (view_of_state listed) → HasList (opened_with segment) listed.seat.id (view_of_state listed) records
    → IsUnderWay segment passed hists listed new → passed ≡ records → ReadsList segment old hists new
reads_list segment records passed hists old listed new walked list way all = record {
  records = records;
  listed = listed;
  walked = walked;
  list = list;
  outcomes = way.outcomes;
  of_records = way.of_records ∙ all;
  each = way.each;
  these = way.these;
}

-- What recorders know of the histograms of `hist` records, call by call.
use Rattle.std.proofs.Common.{◌≡◌, ℕ, zero, suc, ◌+◌, ◌-◌, ◌<◌, ℤ, List, [], ◌∷◌, ◌++◌, map, length, take, get_or, slice_set, slice_get, replicate, All, Contains, Option, Some, None, Ok, Err, Result, OnOk, MatchOption, inl, inr, refl, sym, ap, ◌∙◌, subst, arith}
use Rattle.std.specs.Prelude.{◌⊎◌}
use mathlib.Core.Option.{some}
use lib.ListN.{get_elem?}
use Rattle.std.proofs.lemmas.List.{length-take-le, map-append, take_more}
use Rattle.std.proofs.lemmas.List.Concat.{flat_map-append}
use Rattle.std.proofs.lemmas.List.Elements.{All-append, All-cons, Contains-append_left}
use Rattle.bucket_ranges.specs.declared.spec.Spec.{Spec}
use Rattle.segment_calls.specs.declared.refusal.Refusal.{Refusal}
use Rattle.segment_machine.specs.declared.actor.Actor.{Actor}
use Rattle.segment_machine.specs.declared.actor.Known.{Known}
use Rattle.segment_machine.specs.Actor.{made_of, outstanding_of}
use Rattle.segment_machine.specs.Seats.{joined, newcomer, offering, parent}
use Rattle.segment_invariant.proofs.Lists.Elements.{contains_at}
use Rattle.segment_invariant.proofs.Lists.Maps.{contains_map}
use Rattle.live_segment.specs.declared.recorder.Hist.{Hist}
use Rattle.live_segment.specs.declared.recorder.Recorder.{Recorder}
use Rattle.live_segment.specs.Add.Sample.{AnswersSample}
use Rattle.live_segment.specs.Hist.Answer.{IsAnsweredWith}
use Rattle.live_segment.specs.Holders.{table_of, view_of_recorder}
use Rattle.live_segment.specs.RecorderState.{IsNamed, IsSameRecorder, KnowsOn, Means}
use Rattle.segment_promises.specs.Onward.{Grows}
use Rattle.live_segment.proofs.Seating.Callers.{knows_on, knows_same}
use Rattle.persist_report_core.specs.declared.script.CallKind.TheVariants as kind
use Rattle.persist_report_core.specs.declared.script.ScriptHist.{ScriptHist}
use Rattle.persist_report_core.specs.Script.{HistRecord, hist_view}
use Rattle.persist_commands.specs.Entries.{ScriptAction, deeds_in, deeds_of, deeds_of_call}
use Rattle.persist_commands.specs.Parts.{part_from, part_of}
use Rattle.persist_commands.proofs.Parts.{part_append}
use Rattle.persist_report_core.specs.declared.script.ScriptCall.{ScriptCall}
use Rattle.persist_commands.specs.Recording.{HandsOut, HasAsked, HasOpened, HasRecorded, HaveMet, IsFresh, KnowsOf, WentOn}
use Rattle.persist_commands.proofs.Went.{knows_of_recorder, recorded_adding, recorded_twice, went_asking, went_handing, went_joining, went_twice}

-- ---- lists

get_before : {A : Type 0} (xs ys : List A) (i : ℕ) (x : A) → get_elem? xs i ≡ some x → get_elem? (xs ++ ys) i ≡ some x
get_before [] ys i x e = absurd (cc e)
get_before (y ∷ xs) ys zero x e = e
get_before (y ∷ xs) ys (suc i) x e = get_before xs ys i x e

further : {P : Type 0} {X : Type 0} (i j : ℕ) (v y : X) → ((j ≡ i) × (y ≡ v)) ⊎ P → ((suc j ≡ suc i) × (y ≡ v)) ⊎ P
further i j v y (inl same) = inl (ap suc same.0, same.1)
further i j v y (inr other) = inr other

-- what is at a place of a list in which one element was set
got_set : {X : Type 0} (xs : List X) (i j : ℕ) (v y : X) → slice_get (slice_set xs i v) j ≡ Some y → ((j ≡ i) × (y ≡ v)) ⊎ (slice_get xs j ≡ Some y)
got_set [] i j v y e = inr e
got_set (x ∷ xs) zero zero v y e = inl (refl, cc e)
got_set (x ∷ xs) zero (suc j) v y e = inr e
got_set (x ∷ xs) (suc i) zero v y e = inr e
got_set (x ∷ xs) (suc i) (suc j) v y e = further i j v y (got_set xs i j v y e)

-- a list of one element has no other
got_same : {X : Type 0} (n i : ℕ) (v y : X) → slice_get (replicate n v) i ≡ Some y → y ≡ v
got_same zero i v y e = absurd (cc e)
got_same (suc n) zero v y e = cc e
got_same (suc n) (suc i) v y e = got_same n i v y e

-- a property of each element at its number, if one element was put at the end
pub each_pushed : {X : Type 0} (P : ℕ → X → Type 0) (xs : List X) (x : X) → ((k : ℕ) (d : X) → k < length xs → P k (get_or xs k d)) → P (length xs) x
    → (k : ℕ) (d : X) → k < length (xs ++ x ∷ []) → P k (get_or (xs ++ x ∷ []) k d)
each_pushed P [] x each last zero d below = last
each_pushed P [] x each last (suc k) d below = absurd (omega (arith, below))
each_pushed P (y ∷ ys) x each last zero d below = each 0 d (omega arith)
each_pushed P (y ∷ ys) x each last (suc k) d below =
    each_pushed (λ k. P (suc k)) ys x (λ k d here. each (suc k) d (omega (arith, here))) last k d (omega (arith, below))

-- ---- the segment of a recorder

-- one that still has its segment has the same table
pub table_kept : (old new : Recorder) → new.segment ≡ old.segment → new.state.seat.table_id ≡ old.state.seat.table_id
table_kept old new kept = new.at.seated.table ∙ ap (λ s. table_of s.now) kept ∙ sym old.at.seated.table

-- ---- what a recorder knows

pub named_on : (old new : Recorder) (name : List ℕ) (spec : Spec) (histogram : Hist) → KnowsOn old.state new.state → IsNamed name spec old.state histogram → IsNamed name spec new.state histogram
named_on old new name spec histogram on named =
    let (knows, rest) = named in
    let (known, means, is, same) = rest in
    let (more, grown) = on.known in (
      knows_on old.state new.state histogram on knows,
      (
        known,
        subst (λ (l : List Known). get_elem? l histogram.index ≡ some known) (sym grown) (get_before (view_of_recorder old).answers.names more histogram.index known means),
        is,
        same,
      ),
    )

pub named_same : (old new : Recorder) (name : List ℕ) (spec : Spec) (histogram : Hist) → IsSameRecorder old.state new.state → IsNamed name spec old.state histogram → IsNamed name spec new.state histogram
named_same old new name spec histogram still named =
    let (knows, rest) = named in
    let (known, means, is, same) = rest in (
      knows_same old.state new.state histogram still knows,
      (known, subst (λ (l : List Known). get_elem? l histogram.index ≡ some known) (sym still.names) means, is, same),
    )

pub known_of_named : (recorder : Recorder) (hist : HistRecord) (histogram : Hist) → IsNamed hist.name hist.spec recorder.state histogram → KnowsOf (view_of_recorder recorder) hist
known_of_named recorder hist histogram named =
    let (knows, rest) = named in
    let (known, means, is, same) = rest in
    (known, contains_at (view_of_recorder recorder).answers.names histogram.index known means, is, same)

knows_more : (old new : Actor) (hist : HistRecord) → Grows old.answers.names new.answers.names → KnowsOf old hist → KnowsOf new hist
knows_more old new hist grows knows =
    let (more, grown) = grows in
    let (known, has, is, same) = knows in
    (known, subst (λ (l : List Known). Contains l known) (sym grown) (Contains-append_left old.answers.names more known has), is, same)

-- ---- the histograms of `hist` records are asked for, one after the other

pub asked_next : (hists : List ScriptHist) (i : ℕ) (x : ScriptHist) (old mid new : Recorder) (histogram : Hist) → i < length hists → x ≡ get_or hists i x
    → WentOn (map hist_view hists) [] (view_of_recorder old) (view_of_recorder mid)
    → All (KnowsOf (view_of_recorder mid)) (map hist_view (take i hists))
    → KnowsOn mid.state new.state → IsNamed x.name.items x.spec new.state histogram → IsAnsweredWith x.name.items x.spec histogram (view_of_recorder mid) (view_of_recorder new)
    → WentOn (map hist_view hists) [] (view_of_recorder old) (view_of_recorder new) × All (KnowsOf (view_of_recorder new)) (map hist_view (take (i + 1) hists))
asked_next hists i x old mid new histogram below is went knew on named answer =
    let all : List HistRecord = map hist_view hists in
    let has : Contains all (hist_view x) = contains_map hist_view hists x (i, below, sym is) in
    let one : WentOn all [] (view_of_recorder mid) (view_of_recorder new) = went_asking all (hist_view x) histogram (view_of_recorder mid) (view_of_recorder new) has answer in
    let front : List HistRecord = map hist_view (take i hists) in
    let still : All (KnowsOf (view_of_recorder new)) front =
    λ k d here. knows_more (view_of_recorder mid) (view_of_recorder new) (get_or front k d) on.known (knew k d here) in
    let last : All (KnowsOf (view_of_recorder new)) (hist_view x ∷ []) =
    All-cons (KnowsOf (view_of_recorder new)) (hist_view x) [] (known_of_named new (hist_view x) histogram named) (λ k d here. absurd (omega (arith, here))) in
    let longer : map hist_view (take (i + 1) hists) ≡ front ++ hist_view x ∷ [] =
    ap (map hist_view) (take_more hists i x below ∙ ap (λ (y : ScriptHist). take i hists ++ y ∷ []) (sym is)) ∙ map-append hist_view (take i hists) (x ∷ []) in (
      went_twice all [] [] (view_of_recorder old) (view_of_recorder mid) (view_of_recorder new) went one,
      subst (All (KnowsOf (view_of_recorder new))) (sym longer) (All-append (KnowsOf (view_of_recorder new)) front (hist_view x ∷ []) still last),
    )

-- ---- an opener's recorders

-- a call that cannot be refused was not
pub not_refused : {A X F : Type 0} (fault : Option F) (x : X) → MatchOption fault A (λ why. Ok x ≡ Err why) → A
not_refused None x a = a
not_refused (Some why) x e = absurd (cc e)

pub fresh_newcomer : (opener recorder : Actor) → recorder ≡ newcomer opener → IsFresh recorder
fresh_newcomer opener recorder is = record {
  first = ap (λ (a : Actor). a.entries.first) is;
  log = ap (λ (a : Actor). a.entries.log) is;
  names = ap (λ (a : Actor). a.answers.names) is;
  spoiled = ap (λ (a : Actor). a.done.spoiled) is;
  filled = ap (λ (a : Actor). a.done.filled) is;
  first_taken = ap (λ (a : Actor). a.deltas.first_taken) is;
  taken = ap (λ (a : Actor). a.deltas.taken) is;
}

pub hands_more : (n units : ℕ) (first old new : Actor) → HandsOut n first old → new ≡ parent (offering old units) → HandsOut (n + 1) first new
hands_more n units first old new hands is = record {
  entries = ap (λ (a : Actor). a.entries) is ∙ hands.entries;
  answers = ap (λ (a : Actor). a.answers) is ∙ hands.answers;
  done = ap (λ (a : Actor). a.done) is ∙ hands.done;
  deltas = ap (λ (a : Actor). a.deltas) is ∙ hands.deltas;
  made =
      let one : made_of new.role ≡ made_of old.role + 1 = ap (λ (a : Actor). made_of a.role) is in
      let before = hands.made in omega (arith, one, before);
  outstanding =
      let one : outstanding_of new.role ≡ outstanding_of old.role + 1 = ap (λ (a : Actor). outstanding_of a.role) is in
      let before = hands.outstanding in omega (arith, one, before);
}

pub hands_none : (a : Actor) → HandsOut 0 a a
hands_none a = record { entries = refl; answers = refl; done = refl; deltas = refl; made = omega arith; outstanding = omega arith }

pub opened_so : (hists : List HistRecord) (units : ℕ) (old mid recorder asked new : Actor) → mid ≡ parent (offering old units) → recorder ≡ newcomer (offering old units)
    → HasAsked hists recorder asked → new ≡ joined mid asked → HasOpened hists old new
opened_so hists units old mid recorder asked new made is has joins =
    let hands : HandsOut 1 old mid = hands_more 0 units old old mid (hands_none old) made in
    let one : WentOn hists [] mid (joined mid asked) = went_joining hists [] mid recorder asked (fresh_newcomer (offering old units) recorder is) has.0 in record {
      went = went_twice hists [] [] old mid new (went_handing hists 1 old mid hands) (subst (WentOn hists [] mid) (sym joins) one);
      knows = λ k d here. subst (λ (a : Actor). KnowsOf a (get_or hists k d)) (sym joins) (knows_of_recorder mid asked (get_or hists k d) (has.1 k d here));
      back =
          let after : outstanding_of new.role ≡ outstanding_of mid.role - 1 = ap (λ (a : Actor). outstanding_of a.role) joins in
          let before = hands.outstanding in omega (arith, after, before);
    }

-- ---- the histograms that a worker has asked for

pub met_none : (hists : List HistRecord) (recorder : Recorder) (n : ℕ) → HaveMet hists recorder (replicate n None)
met_none hists recorder n = λ i histogram e. absurd (cc (got_same n i None (Some histogram) e))

pub met_on : (hists : List HistRecord) (old new : Recorder) (met : List (Option Hist)) → KnowsOn old.state new.state → HaveMet hists old met → HaveMet hists new met
met_on hists old new met on has = λ i histogram e.
    let (hist, at, named) = has i histogram e in (hist, at, named_on old new hist.name hist.spec histogram on named)

pub met_same : (hists : List HistRecord) (old new : Recorder) (met : List (Option Hist)) → IsSameRecorder old.state new.state → HaveMet hists old met → HaveMet hists new met
met_same hists old new met still has = λ i histogram e.
    let (hist, at, named) = has i histogram e in (hist, at, named_same old new hist.name hist.spec histogram still named)

met_by : (hists : List HistRecord) (new : Recorder) (met : List (Option Hist)) (index : ℕ) (hist : HistRecord) (found : Hist) → slice_get hists index ≡ Some hist
    → IsNamed hist.name hist.spec new.state found → HaveMet hists new met
    → (i : ℕ) (histogram : Hist) → ((i ≡ index) × (Some histogram ≡ Some found)) ⊎ (slice_get met i ≡ Some (Some histogram))
    → (hist : HistRecord) × (slice_get hists i ≡ Some hist) × IsNamed hist.name hist.spec new.state histogram
met_by hists new met index hist found at named has i histogram (inl here) =
    let same : histogram ≡ found = cc here.1 in
    (hist, ap (slice_get hists) here.0 ∙ at, subst (λ (h : Hist). IsNamed hist.name hist.spec new.state h) (sym same) named)
met_by hists new met index hist found at named has i histogram (inr before) = has i histogram before

pub met_more : (hists : List HistRecord) (old new : Recorder) (met : List (Option Hist)) (index : ℕ) (hist : HistRecord) (found : Hist) → KnowsOn old.state new.state
    → HaveMet hists old met → slice_get hists index ≡ Some hist → IsNamed hist.name hist.spec new.state found → HaveMet hists new (slice_set met index (Some found))
met_more hists old new met index hist found on has at named = λ i histogram e.
    met_by hists new met index hist found at named (met_on hists old new met on has) i histogram (got_set met index i (Some found) (Some histogram) e)

-- ---- a call on a histogram

pub added_so : (fault : Option Refusal) (old new : Recorder) (histogram : Hist) (value : ℤ) (count : ℕ) (result : Result (Unit {0}) Refusal)
    → MatchOption fault ((known : Known) → Means old.state histogram known → AnswersSample known value count (view_of_recorder old) result (view_of_recorder new))
    (λ why. (result ≡ Err why) × (new.state ≡ old.state))
    → OnOk result ((hists : List HistRecord) (hist : HistRecord) → IsNamed hist.name hist.spec old.state histogram
    → HasRecorded hists (deeds_in (Some hist) (kind.Add value count)) (view_of_recorder old) (view_of_recorder new))
added_so fault old new histogram value count (Err why) answer = tt
added_so None old new histogram value count (Ok done) answer = λ hists hist named.
    let (knows, rest) = named in
    let (known, means, is, same) = rest in
    recorded_adding hists hist known value count (view_of_recorder old) (view_of_recorder new) is same (answer known means)
added_so (Some why) old new histogram value count (Ok done) answer = absurd (cc answer.0)

-- ---- the calls of a worker

pub calls_next : (hists : List HistRecord) (calls : List ScriptCall) (number workers part : ℕ) (x : ScriptCall) (old mid new : Actor) → number < length calls
    → x ≡ get_or calls number x → HasRecorded hists (deeds_of hists (part_of workers part (take number calls))) old mid
    → HasRecorded hists (deeds_of hists (part_from number workers part (x ∷ []))) mid new
    → HasRecorded hists (deeds_of hists (part_of workers part (take (number + 1) calls))) old new
calls_next hists calls number workers part x old mid new below is went one =
    let front : List ScriptCall = take number calls in
    let many : length front ≡ number = length-take-le number calls (omega (arith, below)) in
    let parts : part_of workers part (take (number + 1) calls) ≡ part_of workers part front ++ part_from number workers part (x ∷ []) =
    ap (part_of workers part) (take_more calls number x below ∙ ap (λ (y : ScriptCall). front ++ y ∷ []) (sym is))
    ∙ (part_append 0 workers part front (x ∷ [])
    ∙ ap (λ n. part_of workers part front ++ part_from n workers part (x ∷ [])) (omega (arith, many))) in
    subst (λ (l : List ScriptAction). HasRecorded hists l old new) (sym (ap (deeds_of hists) parts ∙ flat_map-append (deeds_of_call hists) (part_of workers part front) (part_from number workers part (x ∷ []))))
    (recorded_twice hists (deeds_of hists (part_of workers part front)) (deeds_of hists (part_from number workers part (x ∷ []))) old mid new went one)

got_anyway : {X : Type 0} (xs : List X) (i : ℕ) (d e : X) → i < length xs → get_or xs i d ≡ get_or xs i e
got_anyway [] i d e below = absurd (omega (arith, below))
got_anyway (x ∷ xs) zero d e below = refl
got_anyway (x ∷ xs) (suc i) d e below = got_anyway xs i d e (omega (arith, below))

-- the same, if the element is read so
pub calls_next_at : (hists : List HistRecord) (calls : List ScriptCall) (number workers part : ℕ) (d : ScriptCall) (old mid new : Actor) → number < length calls
    → HasRecorded hists (deeds_of hists (part_of workers part (take number calls))) old mid
    → HasRecorded hists (deeds_of hists (part_from number workers part (get_or calls number d ∷ []))) mid new
    → HasRecorded hists (deeds_of hists (part_of workers part (take (number + 1) calls))) old new
calls_next_at hists calls number workers part d old mid new below went one =
    calls_next hists calls number workers part (get_or calls number d) old mid new below (got_anyway calls number d (get_or calls number d) below) went one

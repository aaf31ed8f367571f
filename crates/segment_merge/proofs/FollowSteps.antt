-- What comes of histograms, one after the other.
use Rattle.std.proofs.Common.{◌≡◌, ◌∙◌, ℕ, true, false, if◌then◌else◌, List, [], ◌∷◌, ◌++◌, map, inl, inr, refl, sym, ap, subst, append_assoc, append-nil}
use Rattle.std.specs.Prelude.{Option, Some, None, MatchOption, is_some}
use Rattle.std.specs.List.{All}
use Rattle.std.specs.declared.alloc.Global.{Global}
use Rattle.std.specs.declared.vec.Vec.{Vec}
use Rattle.std.proofs.lemmas.List.{flat_map_more, map_push}
use Rattle.std.proofs.lemmas.List.Elements.{All-append, All-cons, All-nil}
use Rattle.bucket_ranges.specs.Reading.{Histogram}
use Rattle.segment_calls.specs.declared.refusal.Refusal.{Refusal}
use Rattle.segment_machine.specs.declared.actor.Actor.{Actor}
use Rattle.segment_merge.specs.declared.following.FollowReport.{FollowReport}
use Rattle.segment_merge.specs.declared.merging.MergeStop.{MergeStop}
use Rattle.segment_merge.specs.Cut.{cut_at}
use Rattle.segment_merge.specs.Follow.{AddsAll, AddsStep, AreFollowed, Ending, FollowsNext, IsCutReported, IsReported, Step, concerns_one, cuts_of, has_new, lines_of, noted_after, seen_added, seen_stop, seen_stopped}
use Rattle.segment_merge.specs.Merge.{line_of}
use Rattle.segment_merge.specs.Parts.{Merges}

-- ---- all so far

-- one step more
adds_then : (steps : List Step) (step : Step) (a b c : Actor) → AddsAll steps a b → AddsStep step b c → AddsAll (steps ++ step ∷ []) a c
adds_then [] step a b c same last = (c, subst (λ (m : Actor). AddsStep step m c) same last, refl)
adds_then (first ∷ steps) step a b c (m, adds, rest) last = (m, adds, adds_then steps step m b c rest last)

-- nothing was followed yet
pub followed_none : (report : FollowReport) (a : Actor) → report.added.items ≡ [] → report.passed.items ≡ [] → report.stopped ≡ None
    → AreFollowed [] report [] a a
followed_none report a added passed stopped = record {
  steps = [];
  behind = [];
  split = refl;
  adds = refl;
  noted_is = refl;
  lines = ap seen_added added;
  cuts = (λ i. map seen_stop (passed i) ++ seen_stopped (stopped i));
  passed = subst (All (λ (stop : MergeStop). concerns_one stop.why ≡ true)) (sym passed) (All-nil (λ (stop : MergeStop). concerns_one stop.why ≡ true));
  stopped = let none : ◌≡◌ {A = List Histogram} [] [] = refl in
      subst (λ (stopped : Option MergeStop). MatchOption stopped (◌≡◌ {A = List Histogram} [] []) (λ (stop : MergeStop). concerns_one stop.why ≡ false)) (sym stopped) none;
}

-- what holds of no stop holds of none
still_none : (behind : List Histogram) → behind ≡ [] → (stopped : Option MergeStop) → MatchOption stopped (Unit {0}) (λ (stop : MergeStop). concerns_one stop.why ≡ false)
    → MatchOption stopped (behind ≡ []) (λ (stop : MergeStop). concerns_one stop.why ≡ false)
still_none behind none None what = none
still_none behind none (Some stop) what = what

module _ (hists : List Histogram) (report after : FollowReport) (noted : List Histogram) (a b c : Actor) (h next : Histogram)
    (so_far : AreFollowed hists report noted a b) where
  -- one histogram that was reached
  reached : report.stopped ≡ None → so_far.behind ≡ [] → (ending : Ending) → AddsStep (h, ending) b c → next ≡ noted_after (h, ending) → IsReported (h, ending) report after
      → AreFollowed (hists ++ h ∷ []) after (noted ++ next ∷ []) a c
  reached going none ending adds noted_is reported =
      let steps : List Step = so_far.steps in
      let step : Step = (h, ending) in
      let split : hists ≡ map (λ (one : Step). one.0) steps = so_far.split ∙ (ap (λ (behind : List Histogram). map (λ (one : Step). one.0) steps ++ behind) none ∙ append-nil (map (λ (one : Step). one.0) steps)) in
      let before : noted ≡ map noted_after steps = so_far.noted_is ∙ (ap (λ (behind : List Histogram). map noted_after steps ++ map (cut_at 0) behind) none ∙ append-nil (map noted_after steps)) in
      record {
        steps = steps ++ step ∷ [];
        behind = [];
        split = ap (λ (list : List Histogram). list ++ h ∷ []) split ∙ (sym (map_push (λ (one : Step). one.0) steps step) ∙ sym (append-nil (map (λ (one : Step). one.0) (steps ++ step ∷ []))));
        adds = adds_then steps step a b c so_far.adds adds;
        noted_is = (λ i. before i ++ noted_is i ∷ []) ∙ (sym (map_push noted_after steps step) ∙ sym (append-nil (map noted_after (steps ++ step ∷ []))));
        lines = reported.lines ∙ (ap (λ (lines : List (List ℕ × ℕ)). lines ++ lines_of step) so_far.lines ∙ flat_map_more lines_of [] steps step);
        cuts = reported.cuts
            ∙ (ap (λ (cuts : List (List ℕ × ℕ × Refusal)). cuts ++ cuts_of step)
            (sym (append-nil (map seen_stop report.passed.items)) ∙ (ap (λ (stopped : Option MergeStop). map seen_stop report.passed.items ++ seen_stopped stopped) (sym going) ∙ so_far.cuts))
            ∙ flat_map_more cuts_of [] steps step);
        passed = reported.passed so_far.passed;
        stopped = let none : ◌≡◌ {A = List Histogram} [] [] = refl in still_none [] none after.stopped reported.stopped;
      }

  -- one that is behind the stop
  unreached : (stop : MergeStop) → report.stopped ≡ Some stop → concerns_one stop.why ≡ false → after ≡ report → c ≡ b → next ≡ cut_at 0 h
      → AreFollowed (hists ++ h ∷ []) after (noted ++ next ∷ []) a c
  unreached stop halted why same still noted_is =
      subst (λ (both : FollowReport × Actor). AreFollowed (hists ++ h ∷ []) both.0 (noted ++ next ∷ []) a both.1) (λ i. (sym same i, sym still i)) (record {
        steps = so_far.steps;
        behind = so_far.behind ++ h ∷ [];
        split = ap (λ (list : List Histogram). list ++ h ∷ []) so_far.split ∙ append_assoc (map (λ (one : Step). one.0) so_far.steps) so_far.behind (h ∷ []);
        adds = so_far.adds;
        noted_is = (λ i. so_far.noted_is i ++ noted_is i ∷ [])
            ∙ (append_assoc (map noted_after so_far.steps) (map (cut_at 0) so_far.behind) (cut_at 0 h ∷ [])
            ∙ ap (λ (list : List Histogram). map noted_after so_far.steps ++ list) (sym (map_push (cut_at 0) so_far.behind h)));
        lines = so_far.lines;
        cuts = so_far.cuts;
        passed = so_far.passed;
        stopped = subst (λ (stopped : Option MergeStop). MatchOption stopped (so_far.behind ++ h ∷ [] ≡ []) (λ (one : MergeStop). concerns_one one.why ≡ false)) (sym halted) why;
      })

  -- one more
  followed_by : (stopped : Option MergeStop) → report.stopped ≡ stopped
      → MatchOption stopped (so_far.behind ≡ []) (λ (stop : MergeStop). concerns_one stop.why ≡ false)
      → MatchOption stopped
      ((ending : Ending) × AddsStep (h, ending) b c × (next ≡ noted_after (h, ending)) × IsReported (h, ending) report after)
      (λ (stop : MergeStop). (after ≡ report) × (c ≡ b) × (next ≡ cut_at 0 h))
      → AreFollowed (hists ++ h ∷ []) after (noted ++ next ∷ []) a c
  followed_by None is none (ending, adds, noted_is, reported) = reached is none ending adds noted_is reported
  followed_by (Some stop) is why (same, still, noted_is) = unreached stop is why same still noted_is

  pub followed_more : FollowsNext h report after next b c → AreFollowed (hists ++ h ∷ []) after (noted ++ next ∷ []) a c
  followed_more follows = followed_by report.stopped refl so_far.stopped follows

-- ---- one of them

-- of which nothing is new
pub follows_same : (h : Histogram) (report : FollowReport) (a : Actor) → report.stopped ≡ None → has_new h ≡ false → FollowsNext h report report h a a
follows_same h report a going none =
    subst (λ (stopped : Option MergeStop). MatchOption stopped
    ((ending : Ending) × AddsStep (h, ending) a a × (h ≡ noted_after (h, ending)) × IsReported (h, ending) report report)
    (λ (stop : MergeStop). (report ≡ report) × (a ≡ a) × (h ≡ cut_at 0 h))) (sym going) (
      None,
      inl (none, refl),
      refl,
      record {
        lines = sym (ap (λ (lines : List (List ℕ × ℕ)). seen_added report.added.items ++ lines) (λ i. if none i then line_of h ∷ [] else []) ∙ append-nil (seen_added report.added.items));
        cuts = ap (λ (stopped : Option MergeStop). map seen_stop report.passed.items ++ seen_stopped stopped) going;
        passed = λ passed. passed;
        stopped = subst (λ (stopped : Option MergeStop). MatchOption stopped (Unit {0}) (λ (stop : MergeStop). concerns_one stop.why ≡ false)) (sym going) tt;
      },
    )

-- that is behind the stop
pub follows_not : (h : Histogram) (report : FollowReport) (a : Actor) → is_some report.stopped ≡ true → FollowsNext h report report (cut_at 0 h) a a
follows_not h report a halted = by report.stopped halted
  where
    by : (stopped : Option MergeStop) → is_some stopped ≡ true
        → MatchOption stopped
        ((ending : Ending) × AddsStep (h, ending) a a × (cut_at 0 h ≡ noted_after (h, ending)) × IsReported (h, ending) report report)
        (λ (stop : MergeStop). (report ≡ report) × (a ≡ a) × (cut_at 0 h ≡ cut_at 0 h))
    by None halted = absurd (cc halted)
    by (Some stop) halted = (refl, refl, refl)

-- no stop, if a test says so
pub going_on : (stopped : Option MergeStop) → is_some stopped ≡ false → stopped ≡ None
going_on None still = refl
going_on (Some stop) still = absurd (cc still)

module _ (h : Histogram) (before : FollowReport) (a b : Actor) (going : before.stopped ≡ None) (new : has_new h ≡ true) where
  -- of which all is added
  pub follows_whole : (after : FollowReport) → Merges h before.added.items None after.added.items a b → after.passed ≡ before.passed → after.stopped ≡ before.stopped
      → FollowsNext h before after h a b
  follows_whole after merges passed stopped =
      subst (λ (stopped : Option MergeStop). MatchOption stopped
      ((ending : Ending) × AddsStep (h, ending) a b × (h ≡ noted_after (h, ending)) × IsReported (h, ending) before after)
      (λ (stop : MergeStop). (after ≡ before) × (b ≡ a) × (h ≡ cut_at 0 h))) (sym going) (
        None,
        inr (new, merges.outcome.0),
        refl,
        record {
          lines = ap seen_added merges.reported
              ∙ (map_push (λ (line : Vec ℕ Global × ℕ). (line.0.items, line.1)) before.added.items merges.line
              ∙ ap (λ (lines : List (List ℕ × ℕ)). seen_added before.added.items ++ lines)
              ((λ i. (merges.named i, merges.outcome.1 i) ∷ []) ∙ (λ i. if sym new i then line_of h ∷ [] else [])));
          cuts = (λ i. map seen_stop (passed i).items ++ seen_stopped ((stopped ∙ going) i));
          passed = λ all. subst (λ (list : Vec MergeStop Global). All (λ (stop : MergeStop). concerns_one stop.why ≡ true) list.items) (sym passed) all;
          stopped = subst (λ (stopped : Option MergeStop). MatchOption stopped (Unit {0}) (λ (stop : MergeStop). concerns_one stop.why ≡ false)) (sym (stopped ∙ going)) tt;
        },
      )

  -- of which the first items are added: the report that has its line is `mid`
  pub follows_cut : (mid after : FollowReport) (stop : MergeStop) (next : Histogram) → Merges h before.added.items (Some stop) mid.added.items a b
      → mid.passed ≡ before.passed → mid.stopped ≡ before.stopped → after.added ≡ mid.added → IsCutReported stop mid after → next ≡ cut_at stop.items h
      → FollowsNext h before after next a b
  follows_cut mid after stop next merges passed stopped added how noted_is =
      subst (λ (stopped : Option MergeStop). MatchOption stopped
      ((ending : Ending) × AddsStep (h, ending) a b × (next ≡ noted_after (h, ending)) × IsReported (h, ending) before after)
      (λ (stop : MergeStop). (after ≡ before) × (b ≡ a) × (next ≡ cut_at 0 h))) (sym going)
      (Some (stop.items, stop.why), (new, merges.outcome.0), noted_is, reported how)
    where
      lines : seen_added after.added.items ≡ seen_added before.added.items ++ lines_of (h, Some (stop.items, stop.why))
      lines = (λ i. seen_added (added i).items)
          ∙ (ap seen_added merges.reported
          ∙ (map_push (λ (line : Vec ℕ Global × ℕ). (line.0.items, line.1)) before.added.items merges.line
          ∙ ap (λ (lines : List (List ℕ × ℕ)). seen_added before.added.items ++ lines) (λ i. (merges.named i, merges.outcome.2 i) ∷ [])))

      seen : seen_stop stop ≡ (h.name, stop.items, stop.why)
      seen = (λ i. (merges.outcome.1 i, stop.items, stop.why))

      reported : IsCutReported stop mid after → IsReported (h, Some (stop.items, stop.why)) before after
      reported (inl (one, list, none)) = record {
        lines = lines;
        cuts = (λ i. map seen_stop (list i) ++ seen_stopped ((none ∙ (stopped ∙ going)) i))
            ∙ (append-nil (map seen_stop (mid.passed.items ++ stop ∷ []))
            ∙ (map_push seen_stop mid.passed.items stop ∙ (λ i. map seen_stop (passed i).items ++ seen i ∷ [])));
        passed = λ all. subst (All (λ (one : MergeStop). concerns_one one.why ≡ true)) (sym list)
            (All-append (λ (one : MergeStop). concerns_one one.why ≡ true) mid.passed.items (stop ∷ [])
            (subst (λ (list : Vec MergeStop Global). All (λ (one : MergeStop). concerns_one one.why ≡ true) list.items) (sym passed) all)
            (All-cons (λ (one : MergeStop). concerns_one one.why ≡ true) stop [] one (All-nil (λ (one : MergeStop). concerns_one one.why ≡ true))));
        stopped = subst (λ (stopped : Option MergeStop). MatchOption stopped (Unit {0}) (λ (one : MergeStop). concerns_one one.why ≡ false)) (sym (none ∙ (stopped ∙ going))) tt;
      }
      reported (inr (not_one, list, some)) = record {
        lines = lines;
        cuts = (λ i. map seen_stop ((list ∙ passed) i).items ++ seen_stopped (some i)) ∙ ap (λ (cut : List ℕ × ℕ × Refusal). map seen_stop before.passed.items ++ cut ∷ []) seen;
        passed = λ all. subst (λ (list : Vec MergeStop Global). All (λ (one : MergeStop). concerns_one one.why ≡ true) list.items) (sym (list ∙ passed)) all;
        stopped = subst (λ (stopped : Option MergeStop). MatchOption stopped (Unit {0}) (λ (one : MergeStop). concerns_one one.why ≡ false)) (sym some) not_one;
      }

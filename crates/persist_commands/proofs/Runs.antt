-- What all workers of a run have recorded, and what their image is read as.
use Rattle.std.proofs.Common.{◌≡◌, ℕ, ◌+◌, ◌<◌, ◌≤◌, List, [], ◌∷◌, ◌++◌, map, length, get_or, All, Contains, Option, Some, None, IfSome, Ok, Err, Result, IfErr, OnOk, take, refl, sym, ap, ◌∙◌, subst, arith, append-nil}
use Rattle.std.specs.Prelude.{◌==◌, ◌%◌, ◌+ℤ◌, ◌||◌, Bool, true, false, suc, ℤ, pos, if◌then◌else◌, sum_by, fold}
use Rattle.std.specs.List.{flat_map, range_with_len}
use Rattle.std.specs.Str.{bytes_eq}
use Rattle.std.proofs.lemmas.Slice.Eq.{bytes_eq-Decides}
use Rattle.std.proofs.lemmas.List.Elements.{All-contains, All-map, Contains-append_right, filter_map-append}
use Rattle.std.proofs.lemmas.List.Sums.{sum_by-append}
use Rattle.std.proofs.Math.IntN.{+ℤ_idr}
use Rattle.std.proofs.Math.Seq.{take-append_seam}
use Rattle.std.proofs.lemmas.List.{get_or-map, length-map}
use Rattle.std.proofs.lemmas.List.Concat.{flat_map-append}
use Rattle.atomic_table.specs.Seated.{TableId}
use Rattle.bucket_ranges.specs.Spec.{SameSpec}
use Rattle.segment_machine.specs.declared.actor.Actor.{Actor}
use Rattle.segment_machine.specs.declared.actor.Known.{Known}
use Rattle.segment_machine.specs.declared.actor.Portion.{Portion}
use Rattle.segment_machine.specs.declared.actor.Taken.{Taken}
use Rattle.segment_machine.specs.declared.entry.EntryProgress.{EntryProgress}
use Rattle.segment_machine.specs.declared.entry.Entry.{Entry}
use Rattle.segment_machine.specs.Actor.{cost_of, log_of, made_of, outstanding_of, portion_of, taken_of, taken_sum, taken_units, units_listed}
use Rattle.segment_machine.specs.Seats.{joined, shifted, shifted_taken}
use Rattle.segment_machine.specs.Entry.{tally_units, tally_sum, tally_noted}
use Rattle.segment_invariant.proofs.Lists.Countings.{units_total, sum_total, noted_total}
use Rattle.segment_invariant.proofs.Lists.Sums.{IsAddition, IsTotal, numbers, amounts}
use Rattle.live_segment.specs.declared.recorder.Recorder.{Recorder}
use Rattle.live_segment.specs.declared.rule.Setting.{Setting}
use Rattle.live_segment.specs.Closing.{DeltasAddUp, IsImageOf, ReadsJoined}
use Rattle.live_segment.specs.declared.opener.Opener.{Opener}
use Rattle.live_segment.specs.declared.segment.Segment.{Segment}
use Rattle.live_segment.specs.Holders.{IsMadeWith, IsSameOpener, view_of_opener, view_of_recorder}
use Rattle.live_segment.specs.Rule.{IsOf, first_view}
use Rattle.persist_report_core.specs.declared.script.Script as code
use Rattle.persist_report_core.specs.declared.script.ScriptCall.{ScriptCall}
use Rattle.persist_report_core.specs.declared.fault.CliFault.{CliFault}
use Rattle.persist_report_core.specs.Script.{HistRecord, Script, script_of, script_view}
use Rattle.persist_commands.specs.declared.worker.Ended.{Ended}
use Rattle.persist_commands.specs.declared.worker.Part.{Part}
use Rattle.persist_commands.specs.Entries.{ScriptAction, Takes, deeds_of, deeds_of_call, delta_in, deltas_among, deltas_of, entries_among, entries_of, entry_in}
use Rattle.persist_commands.specs.Parts.{part_from, part_of}
use Rattle.persist_commands.specs.Recording.{BeganAtRole, EndedAt, EndedWell, HandsOut, WorkerHasEnded, HasOpened, HasRun, HasWorked, IsAskedIn, IsWorkerReady, KnowsOf, WentOn, all_joined, deeds_of_all, deeds_of_part, view_of_ended}
use Rattle.persist_commands.specs.Run.{IsImageOfRun, IsReportOfImage, IsRunOf}
use Rattle.persist_commands.specs.Stop.{StopTellsWant}
use Rattle.persist_commands.proofs.Meetings.{table_kept}
use Rattle.persist_commands.proofs.Parts.{part_first, parts_add_up}
use Rattle.persist_commands.proofs.Went.{Worked, knows_joining_all, outstanding_joining, went_handing, went_joining_all, went_twice}

-- ---- the workers

single : {X : Type 0} (xs : List X) → length xs ≡ 1 → (x : X) × (xs ≡ x ∷ [])
single [] one = absurd (omega (arith, one))
single (x ∷ []) one = (x, refl)
single (x ∷ (y ∷ xs)) one = absurd (omega (arith, one))

one_of : {X : Type 0} (xs : List X) (k : ℕ) → k < length xs → X
one_of [] k below = absurd (omega (arith, below))
one_of (x ∷ rest) k below = x

module _ {W : Type 0} (part : W → Part) (has : W → code.Script) (recorder : W → Recorder) (segment : TableId) (opener : Actor) (script : code.Script) (workers : ℕ)
    (all : List W) (ended : List Ended)
    (ready : (k : ℕ) (d : W) → k < length all → IsWorkerReady segment opener script workers k (part (get_or all k d)) (has (get_or all k d)) (recorder (get_or all k d)))
    (same : length ended ≡ length all)
    (gives : (k : ℕ) (d : W) (e : Ended) → k < length all → WorkerHasEnded (has (get_or all k d)) (part (get_or all k d)) (recorder (get_or all k d)) (get_or ended k e)) where
  -- they may be started
  pub in_parts : length all ≡ workers → (k : ℕ) (d : W) → k < length all → (part (get_or all k d)).part < (part (get_or all k d)).workers
  in_parts count k d below = let is = ready k d below in let number = is.number_is in let of = is.workers_are in omega (arith, number, of, below, count)

  -- their recorders are of the segment
  pub ended_at : All (EndedAt segment) ended
  ended_at k e below =
      let here : k < length all = omega (arith, below, same) in
      let d = one_of all k here in
      table_kept (recorder (get_or all k d)) (get_or ended k e).recorder (gives k d e here).kept ∙ (ready k d here).at

  abbrev views : List Actor
  views = map view_of_ended ended

  -- those that ended with a stop report out of memory as such
  pub all_tell : All (λ (e : Ended). IfErr e.outcome StopTellsWant) ended
  all_tell k e below =
      let here : k < length all = omega (arith, below, same) in
      (gives k (one_of all k here) e here).tells

  -- each has made all of its calls
  worked_at : (mine : All EndedWell ended) (k : ℕ) (d : W) (e : Ended) → k < length all
      → HasWorked (script_view script) workers k (view_of_recorder (recorder (get_or all k d))) (view_of_ended (get_or ended k e))
  worked_at mine k d e here =
      let there : k < length ended = omega (arith, here, same) in
      let is = ready k d here in
      let gave = gives k d e here in
      let well : (get_or ended k e).outcome ≡ Ok tt = mine k e there in
      let done : HasWorked (script_view (has (get_or all k d))) (part (get_or all k d)).workers (part (get_or all k d)).part (view_of_recorder (recorder (get_or all k d))) (view_of_ended (get_or ended k e)) =
      subst (λ (r : Result (Unit {0}) _). OnOk r (HasWorked (script_view (has (get_or all k d))) (part (get_or all k d)).workers (part (get_or all k d)).part (view_of_recorder (recorder (get_or all k d))) (view_of_ended (get_or ended k e)))) well gave.worked in
      let by_script = subst (λ (s : code.Script). HasWorked (script_view s) (part (get_or all k d)).workers (part (get_or all k d)).part (view_of_recorder (recorder (get_or all k d))) (view_of_ended (get_or ended k e))) is.script_is done in
      let by_workers = subst (λ n. HasWorked (script_view script) n (part (get_or all k d)).part (view_of_recorder (recorder (get_or all k d))) (view_of_ended (get_or ended k e))) is.workers_are by_script in
      subst (λ n. HasWorked (script_view script) workers n (view_of_recorder (recorder (get_or all k d))) (view_of_ended (get_or ended k e))) is.number_is by_workers

  worked : (mine : All EndedWell ended) (k : ℕ) (a : Actor) → k < length views → Worked (script_view script).hists (deeds_of_part (script_view script) workers) (0 + k) (get_or views k a)
  worked mine k a below =
      let count : length views ≡ length ended = length-map ended view_of_ended in
      let there : k < length ended = omega (arith, below, count) in
      let here : k < length all = omega (arith, there, same) in
      let d = one_of all k here in
      let e = one_of ended k there in
      let did = worked_at mine k d e here in
      let view : get_or views k a ≡ view_of_ended (get_or ended k e) = get_or-map view_of_ended ended k e a there in
      let number : k ≡ 0 + k = omega arith in
      subst (λ n. Worked (script_view script).hists (deeds_of_part (script_view script) workers) n (get_or views k a)) number
      (subst (λ (v : Actor). Worked (script_view script).hists (deeds_of_part (script_view script) workers) k v) (sym view)
      (view_of_recorder (recorder (get_or all k d)), (ready k d here).fresh, did.went))

  -- a single one is the youngest, and alone as far as the opener was
  alone_so : (mid new : Actor) → length all ≡ workers → HandsOut workers opener mid → new ≡ all_joined mid views → All EndedWell ended → workers ≡ 1
      → opener.deltas.taken ≡ [] → All (λ t. (t.moment.before + 1 ≡ made_of new.role) × (t.moment.outstanding ≡ outstanding_of opener.role)) new.deltas.taken
  alone_so mid new count hands joins mine one none =
      let (e, only) = single ended (omega (arith, same, count, one)) in
      let here : 0 < length all = omega (arith, count, one) in
      let d = one_of all 0 here in
      let is = ready 0 d here in
      let fresh : Actor = view_of_recorder (recorder (get_or all 0 d)) in
      let last : Actor = view_of_ended e in
      let did : HasWorked (script_view script) workers 0 fresh last =
      subst (λ (l : List Ended). HasWorked (script_view script) workers 0 fresh (view_of_ended (get_or l 0 e))) only (worked_at mine 0 d e here) in
      let own : BeganAtRole fresh.role last.deltas.taken =
      did.own (subst (BeganAtRole fresh.role) (sym is.fresh.taken) (λ k t below. absurd (omega (arith, below)))) in
      let new_is : new ≡ joined mid last = joins ∙ ap (λ (l : List Ended). all_joined mid (map view_of_ended l)) only in
      let n : ℕ = length (log_of mid) in
      let taken : new.deltas.taken ≡ shifted_taken n last.deltas.taken =
      ap (λ (a : Actor). a.deltas.taken) new_is
      ∙ ap (λ (l : List Taken). l ++ shifted_taken n last.deltas.taken) (ap (λ d. d.taken) hands.deltas ∙ none) in
      let made : made_of new.role ≡ made_of mid.role = ap (λ (a : Actor). made_of a.role) new_is in
      let more = hands.made in
      let before = is.before in
      let outstanding = is.outstanding in
      let P : Taken → Type 0 = λ t. (t.moment.before + 1 ≡ made_of new.role) × (t.moment.outstanding ≡ outstanding_of opener.role) in
      subst (All P) (sym taken)
      (All-map P (λ (t : Taken). record t { moment = shifted n t.moment }) last.deltas.taken (λ k t below.
      let mine_is = (own k t below).0 in
      let alone_is = (own k t below).1 in
      (omega (arith, mine_is, before, made, more, one), omega (arith, alone_is, outstanding))))

  -- all have made their calls, and are joined
  pub has_run : (mid new : Actor) → length all ≡ workers → HandsOut workers opener mid → new ≡ all_joined mid views → All EndedWell ended → HasRun (script_view script) workers opener new
  has_run mid new count hands joins mine =
      let old : Actor = opener in
      let hists = (script_view script).hists in
      let many : length views ≡ workers = length-map ended view_of_ended ∙ (same ∙ count) in
      let together : WentOn hists (flat_map (deeds_of_part (script_view script) workers) (range_with_len 0 (length views))) mid (all_joined mid views) =
      went_joining_all hists (deeds_of_part (script_view script) workers) 0 mid views (worked mine) in
      let whole : WentOn hists (deeds_of_all (script_view script) workers) mid new =
      subst (λ n. WentOn hists (flat_map (deeds_of_part (script_view script) workers) (range_with_len 0 n)) mid new) many
      (subst (WentOn hists (flat_map (deeds_of_part (script_view script) workers) (range_with_len 0 (length views))) mid) (sym joins) together) in record {
        recorded = went_twice hists [] (deeds_of_all (script_view script) workers) old mid new (went_handing hists workers old mid hands) whole;
        knows = λ knew k d below. subst (λ (a : Actor). KnowsOf a (get_or hists k d)) (sym joins)
            (knows_joining_all mid views (get_or hists k d) (subst (λ n. (known : Known) × Contains n.names known × (known.name ≡ (get_or hists k d).name) × SameSpec known.spec (get_or hists k d).spec) (sym hands.answers) (knew k d below)));
        back =
            let out = outstanding_joining mid views in
            let after : outstanding_of new.role ≡ outstanding_of (all_joined mid views).role = ap (λ (a : Actor). outstanding_of a.role) joins in
            let before = hands.outstanding in omega (arith, out, after, before, many);
        alone = alone_so mid new count hands joins mine;
      }

-- ---- the pieces of the run

same_segment : (setting : Setting) (opener : Actor) (recorders : List Actor) → IsOf setting opener → IsOf setting (all_joined opener recorders)
same_segment setting opener [] of = of
same_segment setting opener (recorder ∷ rest) of = same_segment setting (joined opener recorder) rest (record { shape = of.shape; version = of.version; cursors = of.cursors })

pub made_joining : (segment : Segment) (old new : Opener) (recorders : List Actor) → IsMadeWith segment old → IsSameOpener old new
    → view_of_opener new ≡ all_joined (view_of_opener old) recorders → IsMadeWith segment new
made_joining segment old new recorders made same joins = record {
  table = same.table ∙ made.table;
  of = subst (IsOf segment.setting) (sym joins) (same_segment segment.setting (view_of_opener old) recorders made.of);
}

pub where_well : {A B F : Type 0} (r : Result (Unit {0}) F) → (A → B) → OnOk r A → OnOk r B
where_well (Err why) f a = tt
where_well (Ok done) f a = f a

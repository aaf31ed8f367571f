-- What the image of a segment in which a script was run reads as, by what its opener began with when it was opened.
use Rattle.std.proofs.Common.{◌≡◌, ℕ, ◌+◌, ◌<◌, ◌≤◌, List, [], ◌∷◌, ◌++◌, map, length, All, Contains, take, refl, sym, ap, ◌∙◌, subst, arith, append_assoc, append-nil, ⊎_elim, inl, inr}
use Rattle.std.specs.Prelude.{◌==◌, ◌%◌, ◌+ℤ◌, ◌||◌, ◌⊎◌, Bool, true, false, suc, ℤ, pos, if◌then◌else◌, sum_by, fold}
use Rattle.std.specs.List.{flat_map, range_with_len}
use Rattle.std.specs.Str.{bytes_eq}
use Rattle.std.proofs.lemmas.Slice.Eq.{bytes_eq-Decides}
use Rattle.std.proofs.lemmas.List.{length-append}
use Rattle.std.proofs.lemmas.List.Elements.{All-contains, Contains-append_cases, Contains-append_left, Contains-append_right, filter_map-append}
use Rattle.std.proofs.lemmas.List.Sums.{sum_by-append}
use Rattle.std.proofs.Math.IntN.{+ℤ_idr}
use Rattle.std.proofs.Math.Seq.{take-append_seam}
use Rattle.std.proofs.lemmas.List.Concat.{flat_map-append}
use Rattle.bucket_ranges.specs.Spec.{SameSpec}
use Rattle.bucket_ranges.specs.Reading.{Histogram, Reading, IsReading}
use Rattle.segment_machine.specs.declared.actor.Actor.{Actor}
use Rattle.segment_machine.specs.declared.actor.Known.{Known}
use Rattle.segment_machine.specs.declared.actor.Portion.{Portion}
use Rattle.segment_machine.specs.declared.actor.Taken.{Taken}
use Rattle.segment_machine.specs.declared.entry.EntryProgress.{EntryProgress}
use Rattle.segment_machine.specs.declared.entry.Entry.{Entry}
use Rattle.segment_machine.specs.Actor.{cost_of, log_of, made_of, outstanding_of, portion_of, taken_of, taken_sum, taken_units, units_listed}
use Rattle.segment_machine.specs.Entry.{tally_units, tally_sum, tally_noted}
use Rattle.segment_invariant.proofs.Lists.Countings.{units_total, sum_total, noted_total}
use Rattle.segment_invariant.proofs.Lists.Portions.{taken_total, taken_sum_total}
use Rattle.segment_invariant.proofs.Lists.Sums.{IsAddition, IsTotal, numbers, amounts}
use Rattle.live_segment.specs.declared.rule.Setting.{Setting}
use Rattle.live_segment.specs.Closing.{DeltasAddUp, IsImageOf, IsJoinedReading, IsTally, ReadsJoined}
use Rattle.persist_report_core.specs.declared.script.ScriptCall.{ScriptCall}
use Rattle.persist_report_core.specs.Script.{HistRecord, Script}
use Rattle.persist_commands.specs.Entries.{ScriptAction, Takes, deeds_of, deeds_of_call, delta_in, deltas_among, deltas_of, entries_among, entries_of, entry_in}
use Rattle.persist_commands.specs.Parts.{part_from, part_of}
use Rattle.persist_commands.specs.Recorded.{AreTakenFrom, HasMarksFrom, HasOnlyOpened, IsRecordedImage, IsRecordedFrom, IsTallyFrom, LastDelta}
use Rattle.persist_commands.specs.Recording.{HasOpened, HasRun, IsAskedIn, KnowsOf, WentOn, deeds_of_all}
use Rattle.persist_commands.proofs.Parts.{part_first, parts_add_up}
use Rattle.persist_commands.proofs.Went.{unset, went_twice}

-- ---- one worker alone

-- each number leaves 0 when it is divided by 1
leaves_none : (n : ℕ) → (n % 1 == 0) ≡ true
leaves_none n = let none : n % 1 ≡ 0 = omega arith in subst (λ (m : ℕ). (m == 0) ≡ true) (sym none) refl

all_in_one : {X : Type 0} (first : ℕ) (xs : List X) → part_from first 1 0 xs ≡ xs
all_in_one first [] = refl
all_in_one first (x ∷ xs) = part_first first 1 0 x xs true (leaves_none first) ∙ ap (λ l. x ∷ l) (all_in_one (first + 1) xs)

-- it does all deeds of the script
does_all : (script : Script) (workers : ℕ) → workers ≡ 1 → deeds_of_all script workers ≡ deeds_of script.hists script.calls
does_all script workers one =
    ap (deeds_of_all script) one
    ∙ (append-nil (deeds_of script.hists (part_of 1 0 script.calls)) ∙ ap (deeds_of script.hists) (all_in_one 0 script.calls))

-- ---- the tally

deeds_in_turn : (hists : List HistRecord) (g : ℕ → List ScriptCall) (ks : List ℕ) → deeds_of hists (flat_map g ks) ≡ flat_map (λ k. deeds_of hists (g k)) ks
deeds_in_turn hists g [] = refl
deeds_in_turn hists g (k ∷ ks) = flat_map-append (deeds_of_call hists) (g k) (flat_map g ks) ∙ ap (λ (l : List ScriptAction). deeds_of hists (g k) ++ l) (deeds_in_turn hists g ks)

-- what the deeds of all workers come to is what those of the script come to
all_come_to : {M : Type 0} (add : M → M → M) (total : List ScriptAction → M) → IsAddition ◌≡◌ add → IsTotal add total → (script : Script) (workers : ℕ) → 0 < workers
    → total (deeds_of_all script workers) ≡ total (deeds_of script.hists script.calls)
all_come_to add total is sums script workers some =
    let of : List ScriptCall → List ScriptAction = deeds_of script.hists in
    ap total (sym (deeds_in_turn script.hists (λ part. part_of workers part script.calls) (range_with_len 0 workers)))
    ∙ parts_add_up ◌≡◌ add (λ calls. total (of calls)) is (λ xs ys. ap total (flat_map-append (deeds_of_call script.hists) xs ys) ∙ sums (of xs) (of ys)) workers script.calls some

-- so do their entries
entries_come_to : {M : Type 0} (add : M → M → M) (total : List Entry → M) → IsAddition ◌≡◌ add → IsTotal add total → (script : Script) (workers : ℕ) → 0 < workers
    → total (entries_among (deeds_of_all script workers)) ≡ total (entries_of script.hists script.calls)
entries_come_to add total is sums script workers some =
    all_come_to add (λ deeds. total (entries_among deeds)) is
    (λ xs ys. ap total (filter_map-append entry_in xs ys) ∙ sums (entries_among xs) (entries_among ys)) script workers some

-- ---- the marks

-- a list that maps to the empty one is empty
nil_from_map : {X Y : Type 0} (f : X → Y) (xs : List X) → map f xs ≡ [] → xs ≡ []
nil_from_map f [] is = refl
nil_from_map f (x ∷ xs) is = cc is

-- how many deltas of a name are taken
abbrev times : List ℕ → List (List ℕ) → ℕ
times name names = sum_by (λ other. if bytes_eq other name then 1 else 0) names

times_more : (name other : List ℕ) (names : List (List ℕ)) → times name (other ∷ names) ≡ (if bytes_eq other name then 1 else 0) + times name names
times_more name other names =
    let sums = sum_by-append (λ (o : List ℕ). if bytes_eq o name then 1 else 0) (other ∷ []) names in omega (arith, sums)

-- none if the name is not among them
no_times : (name : List ℕ) (names : List (List ℕ)) → ¬ (Contains names name) → times name names ≡ 0
no_times name [] none = refl
no_times name (other ∷ names) none =
    by (bytes_eq other name) refl (no_times name names (λ has. none (suc has.0, (let below = has.1 in omega (arith, below)), has.2)))
  where
    by : (b : Bool) → bytes_eq other name ≡ b → times name names ≡ 0 → times name (other ∷ names) ≡ 0
    by true same rest = absurd (none (0, omega arith, (bytes_eq-Decides other name).0 same))
    by false unlike rest =
        times_more name other names
        ∙ subst (λ (b : Bool). (if b then 1 else 0) + times name names ≡ 0) (sym unlike) (omega (arith, rest))

-- then they have taken nothing of it
takes_none : (name : List ℕ) (key : ℤ) (taken : List Taken) → times name (map (λ (t : Taken). t.name) taken) ≡ 0
    → (taken_units (map portion_of taken) name key ≡ 0) × (taken_sum (map portion_of taken) name ≡ pos 0)
takes_none name key [] none = (refl, refl)
takes_none name key (t ∷ taken) none = by (takes_none name key taken) (bytes_eq t.name name) refl
  where
    names : List (List ℕ)
    names = map (λ (t : Taken). t.name) taken

    more : (if bytes_eq t.name name then 1 else 0) + times name names ≡ 0
    more = sym (times_more name t.name names) ∙ none

    units_more : taken_units (map portion_of (t ∷ taken)) name key
        ≡ (if bytes_eq t.name name then units_listed t.counts key else 0) + taken_units (map portion_of taken) name key
    units_more =
        let sums = sum_by-append (λ (p : Portion). if bytes_eq p.name name then units_listed p.counts key else 0) (portion_of t ∷ []) (map portion_of taken) in
        omega (arith, sums)

    by : (times name names ≡ 0 → (taken_units (map portion_of taken) name key ≡ 0) × (taken_sum (map portion_of taken) name ≡ pos 0))
        → (b : Bool) → bytes_eq t.name name ≡ b
        → (taken_units (map portion_of (t ∷ taken)) name key ≡ 0) × (taken_sum (map portion_of (t ∷ taken)) name ≡ pos 0)
    by others true same =
        let one : 1 + times name names ≡ 0 = subst (λ (b : Bool). (if b then 1 else 0) + times name names ≡ 0) same more in absurd (omega (arith, one))
    by others false unlike =
        let rest : 0 + times name names ≡ 0 = subst (λ (b : Bool). (if b then 1 else 0) + times name names ≡ 0) unlike more in
        let (units, sum) = others (omega (arith, rest)) in (
          units_more
              ∙ subst (λ (b : Bool). (if b then units_listed t.counts key else 0) + taken_units (map portion_of taken) name key ≡ 0) (sym unlike)
              (omega (arith, units)),
          subst (λ (b : Bool). fold ◌+ℤ◌ (pos 0 +ℤ (if b then t.sum else pos 0))
              (map (λ (p : Portion). if bytes_eq p.name name then p.sum else pos 0) (map portion_of taken)) ≡ pos 0) (sym unlike) sum,
        )

-- ---- what was there and what came

-- two lists that follow the same one are the same
same_behind : {X : Type 0} (front xs ys : List X) → front ++ xs ≡ front ++ ys → xs ≡ ys
same_behind [] xs ys same = same
same_behind (x ∷ front) xs ys same = same_behind front xs ys (cc same)

-- A segment was opened, its opener made the histograms of a script, and the script was run.
module _ (script : Script) (workers : ℕ) (setting : Setting) (first opened ran : Actor) (some : 0 < workers) (only : HasOnlyOpened first)
    (opens : HasOpened script.hists first opened) (runs : HasRun script workers opened ran) where
  abbrev all : List Entry
  all = entries_among (deeds_of_all script workers)

  abbrev entries_logged : List EntryProgress → List Entry
  entries_logged = map (λ (c : EntryProgress). c.entry)

  went : WentOn script.hists (deeds_of_all script workers) first ran
  went = went_twice script.hists [] (deeds_of_all script workers) first opened ran opens.went runs.recorded

  alone_is : outstanding_of ran.role ≡ 0
  alone_is = runs.back ∙ (opens.back ∙ only.alone)

  -- the opener's log begins with what it was opened with, and continues with the entries of the script
  began : log_of first ≡ first.entries.first
  began = ap (λ (log : List EntryProgress). first.entries.first ++ entries_logged log) only.log ∙ append-nil first.entries.first

  logged : log_of ran ≡ first.entries.first ++ all
  logged = went.logged ∙ ap (λ (l : List Entry). l ++ all) began

  counted : entries_logged ran.entries.log ≡ all
  counted = same_behind first.entries.first (entries_logged ran.entries.log) all
      (sym (ap (λ (l : List Entry). l ++ entries_logged ran.entries.log) went.first) ∙ logged)

  -- it knows what it knew, and all else that it knows is the script's
  still_known : (known : Known) → Contains first.answers.names known → Contains ran.answers.names known
  still_known known has =
      let (more, names_are, asked) = went.names in
      subst (λ (l : List Known). Contains l known) (sym names_are) (Contains-append_left first.answers.names more known has)

  known_by : (known : Known) → Contains ran.answers.names known → Contains first.answers.names known ⊎ IsAskedIn script.hists known
  known_by known has =
      let (more, names_are, asked) = went.names in
      ⊎_elim (λ old. inl old) (λ new. inr (All-contains (IsAskedIn script.hists) more known asked new))
      (Contains-append_cases first.answers.names more known (subst (λ (l : List Known). Contains l known) names_are has))

  knows : (hist : HistRecord) → Contains script.hists hist → KnowsOf ran hist
  knows hist has = All-contains (KnowsOf ran) script.hists hist (runs.knows opens.knows) has

  -- ---- a histogram that is read

  module _ (h : Histogram) (tally : IsTally ran h) where
    tally_is : IsTallyFrom first (entries_of script.hists script.calls) h
    tally_is = record {
      units = λ key.
          let read = tally.units key in
          let whole = ap (λ (l : List Entry). tally_units l h.name key) logged in
          let both = units_total h.name key first.entries.first all in
          let came = entries_come_to ◌+◌ (λ l. tally_units l h.name key) numbers (units_total h.name key) script workers some in
          omega (arith, read, whole, both, came);
      sum = tally.sum
          ∙ (ap (λ (l : List Entry). tally_sum l h.name) logged
          ∙ (sum_total h.name first.entries.first all
          ∙ ap (λ (z : ℤ). tally_sum first.entries.first h.name +ℤ z)
          (entries_come_to ◌+ℤ◌ (λ l. tally_sum l h.name) amounts (sum_total h.name) script workers some)));
      redundant =
          let noted : h.redundant ≡ cost_of first.entries.first_noted h.name + tally_noted all h.name =
          tally.redundant ∙ (λ i. cost_of (went.first_noted i) h.name + tally_noted (counted i) h.name) in
          let came = entries_come_to ◌+◌ (λ l. tally_noted l h.name) numbers (noted_total h.name) script workers some in
          omega (arith, noted, came);
    }

    -- no delta was taken of it
    unmarked_is : ¬ (Contains (deltas_of script.hists script.calls) h.name) → HasMarksFrom first h
    unmarked_is none =
        let (more, taken_is, names_are) = went.took in
        let no_more : times h.name (map (λ (t : Taken). t.name) ran.deltas.taken) ≡ 0 =
        ap (λ (l : List Taken). times h.name (map (λ (t : Taken). t.name) l)) (taken_is ∙ ap (λ (l : List Taken). l ++ more) only.taken)
        ∙ (ap (times h.name) names_are
        ∙ (all_come_to ◌+◌ (λ deeds. times h.name (deltas_among deeds)) numbers
        (λ xs ys. ap (times h.name) (filter_map-append delta_in xs ys)
        ∙ sum_by-append (λ (other : List ℕ). if bytes_eq other h.name then 1 else 0) (deltas_among xs) (deltas_among ys)) script workers some
        ∙ no_times h.name (deltas_of script.hists script.calls) none)) in
        let portions : taken_of ran ≡ first.deltas.first_taken ++ map portion_of ran.deltas.taken =
        ap (λ (l : List Portion). l ++ map portion_of ran.deltas.taken) went.first_taken in record {
          marks = λ key.
              let read = tally.marks key in
              let whole = ap (λ (l : List Portion). taken_units l h.name key) portions in
              let both = taken_total h.name key first.deltas.first_taken (map portion_of ran.deltas.taken) in
              let nothing = (takes_none h.name key ran.deltas.taken no_more).0 in
              omega (arith, read, whole, both, nothing);
          sum_mark = tally.sum_mark
              ∙ (ap (λ (l : List Portion). taken_sum l h.name) portions
              ∙ (taken_sum_total h.name first.deltas.first_taken (map portion_of ran.deltas.taken)
              ∙ (ap (λ (z : ℤ). taken_sum first.deltas.first_taken h.name +ℤ z) (takes_none h.name (pos 0) ran.deltas.taken no_more).1
              ∙ +ℤ_idr (taken_sum first.deltas.first_taken h.name))));
        }

    -- a single worker took a delta of it
    taken_is : DeltasAddUp ran → workers ≡ 1 → (last : LastDelta (deeds_of script.hists script.calls) h.name)
        → AreTakenFrom first (entries_among last.front) h
    taken_is add_up one last =
        let deeds : deeds_of_all script workers ≡ last.front ++ Takes h.name ∷ last.behind = does_all script workers one ∙ last.split in
        let did = went.deltas last.front last.behind h.name deeds in
        let (no_more, is_same, no_names) = opens.went.took in
        let none : opened.deltas.taken ≡ [] =
        is_same ∙ (ap (λ (l : List Taken). l ++ no_more) only.taken ∙ nil_from_map (λ (t : Taken). t.name) no_more no_names) in
        let (youngest, alone) = All-contains (λ (t : Taken). (t.moment.before + 1 ≡ made_of ran.role) × (t.moment.outstanding ≡ outstanding_of opened.role))
        ran.deltas.taken did.delta (runs.alone one none)
        (subst (λ (l : List Taken). Contains l did.delta) (sym did.split)
        (Contains-append_right did.front (did.delta ∷ did.behind) did.delta (0, omega arith, refl))) in
        let (units, sum) = add_up.each did.front did.behind did.delta did.split (alone ∙ (opens.back ∙ only.alone)) youngest in
        let front : List Entry = entries_among last.front in
        let behind : List Entry = entries_among last.behind in
        let start = did.begun in
        let long = length-append (log_of first) front in
        let begun : did.delta.moment.log ≡ length (log_of first ++ front) = omega (arith, start, long) in
        let whole : log_of ran ≡ (log_of first ++ front) ++ behind =
        went.logged
        ∙ (ap (λ (l : List Entry). log_of first ++ l) (ap entries_among deeds ∙ filter_map-append entry_in last.front (Takes h.name ∷ last.behind))
        ∙ sym (append_assoc (log_of first) front behind)) in
        let before : take did.delta.moment.log (log_of ran) ≡ first.entries.first ++ front =
        (λ i. take (begun i) (whole i)) ∙ (take-append_seam (log_of first ++ front) behind ∙ ap (λ (l : List Entry). l ++ front) began) in
        let others : times h.name (map (λ (t : Taken). t.name) did.behind) ≡ 0 = ap (times h.name) did.rest ∙ no_times h.name (deltas_among last.behind) last.last in record {
          marks = λ key.
              let read = tally.marks key in
              let took = subst (λ (p : List ℕ × List Entry). taken_units (taken_of ran) p.0 key ≡ tally_units p.1 p.0 key + taken_units (map portion_of did.behind) p.0 key)
              (λ i. (did.named i, before i)) (units key) in
              let both = units_total h.name key first.entries.first front in
              let nothing = (takes_none h.name key did.behind others).0 in
              omega (arith, read, took, both, nothing);
          sum_mark = tally.sum_mark
              ∙ (subst (λ (p : List ℕ × List Entry). taken_sum (taken_of ran) p.0 ≡ tally_sum p.1 p.0 +ℤ taken_sum (map portion_of did.behind) p.0)
              (λ i. (did.named i, before i)) sum
              ∙ (ap (λ (z : ℤ). tally_sum (first.entries.first ++ front) h.name +ℤ z) (takes_none h.name (pos 0) did.behind others).1
              ∙ (+ℤ_idr (tally_sum (first.entries.first ++ front) h.name) ∙ sum_total h.name first.entries.first front)));
        }

  -- ---- the reading

  recorded : (reading : Reading) → IsJoinedReading setting ran reading → DeltasAddUp ran → IsRecordedFrom setting first script workers reading
  recorded reading read add_up = record {
    lawful = read.lawful;
    named = λ name. (
      λ is.
          let (known, has, called) = (read.answers.names name).0 is in
          ⊎_elim (λ old. inl (known, old, called)) (λ new. let (hist, stands, same, spec) = new in inr (hist, stands, sym same ∙ called))
          (known_by known has),
      λ is. ⊎_elim
          (λ old. let (known, has, called) = old in (read.answers.names name).1 (known, still_known known has, called))
          (λ new.
          let (hist, has, called) = new in
          let (known, stands, same, spec) = knows hist has in
          (read.answers.names name).1 (known, stands, same ∙ called))
          is,
    );
    kept = λ h known there has called. (read.answers.same h known there (still_known known has) (sym called)).1;
    specified = λ h hist there has called.
        let (known, stands, same, spec) = knows hist has in
        let (reference, kind) = read.answers.same h known there stands (same ∙ sym called) in
        (kind.0 ∙ spec.0, kind.1 ∙ spec.1);
    once = read.answers.once;
    tallies = λ h there. tally_is h (read.tallies h there);
    id = read.id;
    corrupt = read.corrupt ∙ (went.spoiled ∙ only.spoiled);
    full = read.full ∙ unset setting.full ran.done.filled (went.filled ∙ only.filled);
    unmarked = λ h there none. unmarked_is h (read.tallies h there) none;
    taken = λ one h there last. taken_is h (read.tallies h there) add_up one last;
  }

  pub is_image_from : (words : List ℕ) → IsImageOf setting words → (outstanding_of ran.role ≡ 0 → ReadsJoined setting ran words)
      → (outstanding_of ran.role ≡ 0 → DeltasAddUp ran) → IsRecordedImage setting first script workers words
  is_image_from words image joined add_up = record {
    header = image.header;
    shape = image.shape;
    version = image.version;
    id = image.id;
    reads = λ reading is. recorded reading (joined alone_is reading is) (add_up alone_is);
  }

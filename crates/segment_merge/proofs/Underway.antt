-- A merge that is under way: the first histograms are merged and reported.
use Rattle.std.proofs.Common.{◌≡◌, ℕ, suc, ◌+◌, ◌≤◌, ◌<◌, List, [], ◌∷◌, ◌++◌, map, take, drop, length, get_or, inl, inr, refl, sym, ap, ◌∙◌, subst, arith}
use Rattle.std.proofs.Common.{true, false}
use Rattle.std.specs.Prelude.{None, Some, Option, MatchOption, is_some}
use Rattle.std.specs.declared.alloc.Global.{Global}
use Rattle.std.specs.declared.vec.Vec.{Vec}
use Rattle.std.proofs.lemmas.List.{length-append, map-append, take_all, take_more, take-append-drop}
use Rattle.std.proofs.Math.ListN.{get_or-append}
use Rattle.std.proofs.Math.Seq.{drop-cons, get_or-append_seam}
use Rattle.std.proofs.lemmas.Bool.{cases_lt}
use Rattle.bucket_ranges.specs.Reading.{Histogram}
use Rattle.image_reader.specs.declared.reading.HistReading.{HistReading}
use Rattle.segment_machine.specs.declared.actor.Actor.{Actor}
use Rattle.segment_merge.specs.declared.merging.MergeReport.{MergeReport}
use Rattle.segment_merge.specs.declared.merging.MergeStop.{MergeStop}
use Rattle.segment_merge.specs.Merge.{IsMerged, IsStopped, IsWholeMerge, line_of}
use Rattle.segment_merge.specs.Parts.{ArePartsOf, IsPartOf, Merges}
use Rattle.segment_merge.specs.declared.merging.Part.{Part}
use Rattle.segment_merge.proofs.Merged.{merged_none, merged_then}
use Rattle.segment_merge.proofs.Taken.{next_of}

-- the part that comes next is that of the next histogram
pub next_part : (hists : List HistReading) (list parts rest : List Part) (n : ℕ) (h : HistReading) (part : Part) → ArePartsOf hists parts → list ≡ parts
    → drop n list ≡ part ∷ rest → h ≡ get_or hists n h → (n < length hists) × IsPartOf h part × (rest ≡ drop (n + 1) list)
next_part hists list parts rest n h part are same is here =
    let (below, first, behind) = next_of list rest n part is in
    let long = ap length same in
    let many = are.many in
    let within : n < length hists = omega (arith, below, long, many) in
    let one : IsPartOf (get_or hists n h) (get_or parts n part) = are.each n h part within in
    (within, subst (λ (both : HistReading × Part). IsPartOf both.0 both.1) (λ i. (sym here i, (ap (λ (l : List Part). get_or l n part) (sym same) ∙ first) i)) one, behind)

-- one histogram more has its part
parts_pushed : (hists : List HistReading) (parts : List Part) (h : HistReading) (part : Part) → ArePartsOf hists parts → IsPartOf h part
    → ArePartsOf (hists ++ h ∷ []) (parts ++ part ∷ [])
parts_pushed hists parts h part are is =
    let many = are.many in
    let one = length-append hists (h ∷ []) in
    let other = length-append parts (part ∷ []) in record {
      many = omega (arith, many, one, other);
      each = λ j d e within. elim (cases_lt j (length hists)) [
        | inl front ↦ subst (λ (both : HistReading × Part). IsPartOf both.0 both.1)
            (λ i. (sym (get_or-append hists (h ∷ []) d j front) i, sym (get_or-append parts (part ∷ []) e j (omega (arith, front, many))) i)) (are.each j d e front)
        | inr past ↦
            let last : j ≡ length hists = omega (arith, past, within, one) in
            let its : j ≡ length parts = omega (arith, last, many) in
            subst (λ (both : HistReading × Part). IsPartOf both.0 both.1)
            (λ i. (
              sym (ap (λ (k : ℕ). get_or (hists ++ h ∷ []) k d) last ∙ get_or-append_seam hists h [] d) i,
              sym (ap (λ (k : ℕ). get_or (parts ++ part ∷ []) k e) its ∙ get_or-append_seam parts part [] e) i,
            ))
            is
      ];
    }

pub parts_more : (hists : List HistReading) (parts : List Part) (n : ℕ) (h : HistReading) (part : Part) → n < length hists → h ≡ get_or hists n h
    → ArePartsOf (take n hists) parts → IsPartOf h part → ArePartsOf (take (n + 1) hists) (parts ++ part ∷ [])
parts_more hists parts n h part below here are is =
    subst (λ (list : List HistReading). ArePartsOf list (parts ++ part ∷ []))
    (sym (take_more hists n h below ∙ ap (λ (x : HistReading). take n hists ++ x ∷ []) (sym here))) (parts_pushed (take n hists) parts h part are is)

-- lines as they are seen
abbrev pub seen_lines : List (Vec ℕ Global × ℕ) → List (List ℕ × ℕ)
seen_lines added = map (λ line. (line.0.items, line.1)) added

-- as many histograms are merged as there are lines, and these are theirs
pub record IsUnderWay (hists : List Histogram) (added : List (Vec ℕ Global × ℕ)) (old new : Actor) : Type 0 where
  pub merged : IsMerged (take (length added) hists) old new
  pub lines : seen_lines added ≡ map line_of (take (length added) hists)

pub under_way_none : (hists : List Histogram) (a : Actor) → IsUnderWay hists [] a a
under_way_none hists a = record { merged = merged_none a; lines = refl }

-- one line more
pub more_lines : (before after : List (Vec ℕ Global × ℕ)) (line : Vec ℕ Global × ℕ) → after ≡ before ++ line ∷ []
    → (seen_lines after ≡ seen_lines before ++ (line.0.items, line.1) ∷ []) × (length after ≡ length before + 1)
more_lines before after line is =
    let long = ap length is ∙ length-append before (line ∷ []) in
    (ap seen_lines is ∙ map-append (λ (line : Vec ℕ Global × ℕ). (line.0.items, line.1)) before (line ∷ []), omega (arith, long))

-- one histogram more
pub under_way_more : (hists : List Histogram) (h : Histogram) (before after : List (Vec ℕ Global × ℕ)) (old mid new : Actor)
    → length before < length hists → get_or hists (length before) h ≡ h → IsUnderWay hists before old mid → Merges h before None after mid new
    → IsUnderWay hists after old new
under_way_more hists h before after old mid new below here way step =
    let (lines, long) = more_lines before after step.line step.reported in
    let first : List Histogram = take (length before) hists in
    let taken : take (length after) hists ≡ first ++ h ∷ [] =
    ap (λ (n : ℕ). take n hists) long ∙ (take_more hists (length before) h below ∙ ap (λ (x : Histogram). first ++ x ∷ []) here) in
    record {
      merged = subst (λ (list : List Histogram). IsMerged list old new) (sym taken) (merged_then first (h ∷ []) old mid new way.merged step.outcome.0);
      lines = lines
          ∙ ((λ i. way.lines i ++ (step.named i, step.outcome.1 i) ∷ [])
          ∙ (sym (map-append line_of first (h ∷ [])) ∙ ap (map line_of) (sym taken)));
    }

-- it is done
pub done_whole : (hists : List Histogram) (report : MergeReport) (old new : Actor) → length hists ≤ length report.added.items
    → IsUnderWay hists report.added.items old new → IsWholeMerge hists report old new
done_whole hists report old new all way =
    let whole : take (length report.added.items) hists ≡ hists = take_all (length report.added.items) hists all in
    record {
      merged = subst (λ (list : List Histogram). IsMerged list old new) whole way.merged;
      lines = way.lines ∙ ap (map line_of) whole;
    }

-- it stops
pub stopped_at : (hists : List Histogram) (h : Histogram) (before : List (Vec ℕ Global × ℕ)) (report : MergeReport) (stop : MergeStop) (old mid new : Actor)
    → length before < length hists → get_or hists (length before) h ≡ h → IsUnderWay hists before old mid
    → Merges h before (Some stop) report.added.items mid new → IsStopped hists report stop old new
stopped_at hists h before report stop old mid new below here way step =
    let (lines, long) = more_lines before report.added.items step.line step.reported in
    let n : ℕ = length before in
    record {
      front = take n hists;
      last = h;
      behind = drop (suc n) hists;
      split = sym (take-append-drop n hists)
          ∙ (ap (λ (rest : List Histogram). take n hists ++ rest) (drop-cons hists n h below)
          ∙ ap (λ (x : Histogram). take n hists ++ x ∷ drop (suc n) hists) here);
      until = mid;
      merged = way.merged;
      stops = step.outcome.0;
      named = step.outcome.1;
      lines = lines ∙ (λ i. way.lines i ++ (step.named i, step.outcome.2 i) ∷ []);
    }

-- by what one step says
pub goes_on : (hists : List Histogram) (h : Histogram) (before after : List (Vec ℕ Global × ℕ)) (stopped : Option MergeStop) (old mid new : Actor)
    → is_some stopped ≡ false → length before < length hists → get_or hists (length before) h ≡ h → IsUnderWay hists before old mid
    → Merges h before stopped after mid new → IsUnderWay hists after old new
goes_on hists h before after None old mid new no_stop below here way step = under_way_more hists h before after old mid new below here way step
goes_on hists h before after (Some stop) old mid new no_stop below here way step = absurd (cc no_stop)

pub reports_stop : (hists : List Histogram) (h : Histogram) (before : List (Vec ℕ Global × ℕ)) (report : MergeReport) (stopped : Option MergeStop)
    (old mid new : Actor) → is_some stopped ≡ true → length before < length hists → get_or hists (length before) h ≡ h → IsUnderWay hists before old mid
    → Merges h before stopped report.added.items mid new → MatchOption stopped (IsWholeMerge hists report old new) (λ stop. IsStopped hists report stop old new)
reports_stop hists h before report None old mid new stops below here way step = absurd (cc stops)
reports_stop hists h before report (Some stop) old mid new stops below here way step = stopped_at hists h before report stop old mid new below here way step

-- What the batch of what is left of a histogram returns.
use Rattle.std.proofs.Common.{◌≡◌, ℕ, ◌-◌, ◌<◌, ◌≤◌, ◌-ℤ◌, unsigned_abs, w64, to_z, of_z, FitsSigned, ◌==◌, nat_lt, false, ℤ, List, [], ◌∷◌, if◌then◌else◌, Option, Some, None, Result, Ok, Err, inl, inr, refl, sym, ap, ◌∙◌, subst, arith}
use Rattle.std.specs.Prelude.{MatchOption, MatchResult, ⊤}
use Rattle.std.specs.List.{list_any, filter_map, cons_option}
use Rattle.std.proofs.lemmas.Bool.{ne_eqb, or_from, cases_lt, lt-ltb, le-ltb}
use Rattle.std.proofs.lemmas.Int.{fits_signed_from_abs, to_z-of_z}
use Rattle.std.proofs.lemmas.List.Sums.{get_or-le-sum_by}
use Rattle.segment_image.specs.Checks.{first_fault}
use Rattle.bucket_ranges.specs.Reading.{Histogram}
use Rattle.bucket_ranges.specs.Tally.{units_of}
use Rattle.image_reader.specs.Views.{histogram_view}
use Rattle.image_reader.specs.declared.reading.HistReading.{HistReading}
use Rattle.segment_machine.specs.declared.actor.Actor.{Actor}
use Rattle.segment_machine.specs.declared.actor.Known.{Known}
use Rattle.segment_calls.specs.declared.refusal.BatchRefusal.{BatchRefusal}
use Rattle.segment_calls.specs.declared.refusal.Refusal.{Refusal}
use Rattle.segment_calls.specs.declared.refusal.Refusal.TheVariants.{NoUnits}
use Rattle.live_segment.specs.declared.recorder.Hist.{Hist}
use Rattle.live_segment.specs.declared.recorder.Recorder.{Recorder}
use Rattle.live_segment.specs.Add.Batch.{IsBatched, IsCutShort, batch_checks}
use Rattle.live_segment.specs.declared.recorder.state.RecorderState.{RecorderState}
use Rattle.live_segment.specs.Hist.Answer.{IsAnsweredWith}
use Rattle.live_segment.specs.Holders.{view_of_recorder}
use Rattle.live_segment.specs.RecorderState.{IsNamed, IsSameRecorder, KnowsOn, Means, view_of_state}
use Rattle.segment_promises.proofs.Growing.{grows_on, grows_same}
use Rattle.segment_merge.specs.Merge.{HasFound, IsMerged, StopsAt, cost_left, items_left, sum_left}
use Rattle.segment_merge.specs.Remainder.{HasRemainder, IsRemainderOf, left_of, marked}
use Rattle.segment_merge.specs.declared.remainder.Remainder.{Remainder}
use Rattle.segment_merge.proofs.Merged.{merged_one, stops_cut, stops_short}

-- ---- no item is empty

kept_some : (mark key_units : ℕ) (key : ℤ) (rest : List (ℤ × ℕ)) → list_any (λ (item : ℤ × ℕ). item.1 == 0) rest ≡ false
    → list_any (λ (item : ℤ × ℕ). item.1 == 0) (cons_option (if nat_lt mark key_units then Some (key, key_units - mark) else None) rest) ≡ false
kept_some mark units key rest none = elim (cases_lt mark units) [
  | inl more ↦ rw (lt-ltb mark units more) (or_from (units - mark == 0) _ (ne_eqb (units - mark) 0 (λ same. absurd (omega (arith, same, more)))) none)
  | inr none_left ↦ rw (le-ltb mark units none_left) none
]

none_empty : (pairs : List ((ℤ × ℕ) × ℕ)) → list_any (λ (item : ℤ × ℕ). item.1 == 0) (filter_map left_of pairs) ≡ false
none_empty [] = refl
none_empty (((key, units), mark) ∷ rest) = kept_some mark units key (filter_map left_of rest) (none_empty rest)

-- so the batch is refused before anything happens only if it costs more than the share has
checks_are : (h : Histogram) (a : Actor)
    → first_fault (batch_checks a (items_left h) (sum_left h)) ≡ (if nat_lt a.units.share (cost_left h) then Some NoUnits else None)
checks_are h a = rw (none_empty (marked h.counts h.marks)) refl

-- ---- what costs more than a segment has

cheap : (h : HistReading) → cost_left (histogram_view h) ≤ 4294967295 → HasRemainder h
cheap h most =
    let items : List (ℤ × ℕ) = items_left (histogram_view h) in
    let whole : units_of items ≤ 4294967295 = omega (arith, most) in
    let size : unsigned_abs (h.sum -ℤ h.sum_mark) < 9223372036854775808 = omega (arith, most) in record {
      few = λ k d within. let one = get_or-le-sum_by (λ (item : ℤ × ℕ). item.1) items k d within in omega (arith, one, whole);
      fits = fits_signed_from_abs w64 (h.sum -ℤ h.sum_mark) size;
    }

-- what is left of a histogram costs more if it has no remainder
pub too_dear : (h : HistReading) (share : ℕ) → share ≤ 4294967295 → ¬ (HasRemainder h) → share < cost_left (histogram_view h)
too_dear h share few none = elim (cases_lt share (cost_left (histogram_view h))) [
  | inl short ↦ short
  | inr enough ↦ absurd (none (cheap h (omega (arith, enough, few))))
]

-- ---- the answer

-- what a batch says that it did
abbrev pub IsBatchAnswer : Histogram → Known → Actor → Result ⊤ BatchRefusal → Actor → Type 0
IsBatchAnswer h known a result b =
    MatchOption (first_fault (batch_checks a (items_left h) (sum_left h)))
    (MatchResult result (λ _. IsBatched known (items_left h) (sum_left h) a b) (λ refusal. IsCutShort known (items_left h) refusal a b))
    (λ why. (result ≡ Err (record { added = 0; why = why })) × (b ≡ a))

-- and what results from it
abbrev pub IsAddedOrStops : Histogram → Actor → Result ⊤ BatchRefusal → Actor → Type 0
IsAddedOrStops h a result b =
    MatchResult result (λ _. IsMerged (h ∷ []) a b) (λ refusal. StopsAt h refusal.added refusal.why a b)

begun : (h : Histogram) (known : Known) (a b c : Actor) (result : Result ⊤ BatchRefusal) → HasFound h known a b
    → MatchResult result (λ _. IsBatched known (items_left h) (sum_left h) b c) (λ refusal. IsCutShort known (items_left h) refusal b c)
    → IsAddedOrStops h a result c
begun h known a b c (Ok x) found batched = merged_one h known a b c found batched
begun h known a b c (Err refusal) found cut = stops_cut h known refusal.added refusal.why a b c found cut

batch_outcome : (h : Histogram) (known : Known) (a b c : Actor) (result : Result ⊤ BatchRefusal) → HasFound h known a b
    → IsBatchAnswer h known b result c → IsAddedOrStops h a result c
batch_outcome h known a b c result found answer = elim (cases_lt b.units.share (cost_left h)) [
  | inl short ↦
      let refused : first_fault (batch_checks b (items_left h) (sum_left h)) ≡ Some NoUnits =
      checks_are h b ∙ rw (lt-ltb b.units.share (cost_left h) short) refl in
      let says : (result ≡ Err (record { added = 0; why = NoUnits })) × (c ≡ b) = subst (λ (fault : Option Refusal). MatchOption fault
      (MatchResult result (λ _. IsBatched known (items_left h) (sum_left h) b c) (λ refusal. IsCutShort known (items_left h) refusal b c))
      (λ why. (result ≡ Err (record { added = 0; why = why })) × (c ≡ b))) refused answer in
      subst (λ (r : Result ⊤ BatchRefusal). IsAddedOrStops h a r c) (sym says.0)
      (subst (λ (m : Actor). StopsAt h 0 NoUnits a m) (sym says.1) (stops_short h known a b found short))
  | inr enough ↦
      let passed : first_fault (batch_checks b (items_left h) (sum_left h)) ≡ None =
      checks_are h b ∙ rw (le-ltb b.units.share (cost_left h) enough) refl in
      let says : MatchResult result (λ _. IsBatched known (items_left h) (sum_left h) b c) (λ refusal. IsCutShort known (items_left h) refusal b c) =
      subst (λ (fault : Option Refusal). MatchOption fault
      (MatchResult result (λ _. IsBatched known (items_left h) (sum_left h) b c) (λ refusal. IsCutShort known (items_left h) refusal b c))
      (λ why. (result ≡ Err (record { added = 0; why = why })) × (c ≡ b))) passed answer in
      begun h known a b c result found says
]

-- what the recorder's call says is that
batch_says : (h : Histogram) (histogram : Hist) (known : Known) (items : List (ℤ × ℕ)) (sum : ℤ) (a b : Recorder) (result : Result ⊤ BatchRefusal)
    → items ≡ items_left h → sum ≡ sum_left h → Means a.state histogram known
    → MatchOption (first_fault (batch_checks (view_of_recorder a) items sum))
    ((known : Known) → Means a.state histogram known → MatchResult result (λ _. IsBatched known items sum (view_of_recorder a) (view_of_recorder b)) (λ refusal. IsCutShort known items refusal (view_of_recorder a) (view_of_recorder b)))
    (λ why. (result ≡ Err (record { added = 0; why = why })) × (b.state ≡ a.state))
    → IsBatchAnswer h known (view_of_recorder a) result (view_of_recorder b)
batch_says h histogram known items sum a b result items_are sum_is means says =
    subst (λ (of : List (ℤ × ℕ) × ℤ). MatchOption (first_fault (batch_checks (view_of_recorder a) of.0 of.1))
    (MatchResult result (λ _. IsBatched known of.0 of.1 (view_of_recorder a) (view_of_recorder b)) (λ refusal. IsCutShort known of.0 refusal (view_of_recorder a) (view_of_recorder b)))
    (λ why. (result ≡ Err (record { added = 0; why = why })) × (view_of_recorder b ≡ view_of_recorder a)))
    (λ i. (items_are i, sum_is i)) (seen (first_fault (batch_checks (view_of_recorder a) items sum)) says)
  where
    seen : (fault : Option Refusal)
        → MatchOption fault
        ((known : Known) → Means a.state histogram known → MatchResult result (λ _. IsBatched known items sum (view_of_recorder a) (view_of_recorder b)) (λ refusal. IsCutShort known items refusal (view_of_recorder a) (view_of_recorder b)))
        (λ why. (result ≡ Err (record { added = 0; why = why })) × (b.state ≡ a.state))
        → MatchOption fault
        (MatchResult result (λ _. IsBatched known items sum (view_of_recorder a) (view_of_recorder b)) (λ refusal. IsCutShort known items refusal (view_of_recorder a) (view_of_recorder b)))
        (λ why. (result ≡ Err (record { added = 0; why = why })) × (view_of_recorder b ≡ view_of_recorder a))
    seen None done = done known means
    seen (Some why) (refused, same) = (refused, ap view_of_state same)

-- a histogram that was found, by what the recorder's call says
pub found_named : (h : HistReading) (name : List ℕ) (histogram : Hist) (old found : Recorder) → name ≡ h.name.items
    → IsAnsweredWith name h.spec histogram (view_of_recorder old) (view_of_recorder found) → IsNamed name h.spec found.state histogram
    → (known : Known) × Means found.state histogram known × HasFound (histogram_view h) known (view_of_recorder old) (view_of_recorder found)
found_named h name histogram old found same answered (knows, (known, means, named, spec)) = (
  known,
  means,
  record {
    histogram = histogram;
    answered = subst (λ (name : List ℕ). IsAnsweredWith name h.spec histogram (view_of_recorder old) (view_of_recorder found)) same answered;
    known_is = (means, named ∙ same);
    same = spec;
  },
)

-- and then counted
pub batch_comes : (h : HistReading) (remainder : Remainder) (histogram : Hist) (known : Known) (items : List (ℤ × ℕ)) (old found new : Recorder)
    (result : Result ⊤ BatchRefusal) → IsRemainderOf h remainder → items ≡ remainder.items.items → FitsSigned w64 remainder.sum → Means found.state histogram known
    → HasFound (histogram_view h) known (view_of_recorder old) (view_of_recorder found)
    → MatchOption (first_fault (batch_checks (view_of_recorder found) items (to_z w64 (of_z w64 remainder.sum))))
    ((known : Known) → Means found.state histogram known → MatchResult result (λ _. IsBatched known items (to_z w64 (of_z w64 remainder.sum)) (view_of_recorder found) (view_of_recorder new)) (λ refusal. IsCutShort known items refusal (view_of_recorder found) (view_of_recorder new)))
    (λ why. (result ≡ Err (record { added = 0; why = why })) × (new.state ≡ found.state))
    → IsAddedOrStops (histogram_view h) (view_of_recorder old) result (view_of_recorder new)
batch_comes h remainder histogram known items old found new result left same fits means has says =
    batch_outcome (histogram_view h) known (view_of_recorder old) (view_of_recorder found) (view_of_recorder new) result has
    (batch_says (histogram_view h) histogram known items (to_z w64 (of_z w64 remainder.sum)) found new result
    (same ∙ left.items) (to_z-of_z w64 remainder.sum fits ∙ left.sum) means says)

-- ---- the recorder

-- it knows on, from one call to the next
pub knows_then : (a b c : RecorderState) → KnowsOn a b → KnowsOn b c → KnowsOn a c
knows_then a b c first second = record {
  table = second.table ∙ first.table;
  fresh = second.fresh ∙ first.fresh;
  known = grows_on (view_of_state a).answers.names (view_of_state b).answers.names (view_of_state c).answers.names first.known second.known;
}

pub knows_same_on : (a b : RecorderState) → IsSameRecorder a b → KnowsOn a b
knows_same_on a b same = record {
  table = same.table;
  fresh = same.fresh;
  known = grows_same (view_of_state a).answers.names (view_of_state b).answers.names same.names;
}

pub knows_itself : (a : RecorderState) → KnowsOn a a
knows_itself a = record {
  table = refl;
  fresh = refl;
  known = grows_same (view_of_state a).answers.names (view_of_state a).answers.names refl;
}

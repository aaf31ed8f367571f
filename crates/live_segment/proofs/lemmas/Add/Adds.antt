-- The public call that adds a sample: its checks pass, the histogram that is meant is the one that is known, and what a recorder keeps is kept.
use Rattle.std.proofs.Common.{◌≡◌, ◌≢◌, ◌<◌, ◌≤◌, nat_lt, Bool, if◌then◌else◌, ℕ, List, map, length, Some, None, sym, ap, ◌∙◌, subst}
use Rattle.std.specs.Prelude.{MatchOption}
use mathlib.Core.Option.{some}
use lib.ListN.{get_elem?}
use Rattle.std.proofs.Math.ListN.{get_or}
use Rattle.std.proofs.lemmas.Bool.{le-ltb, ne_eqb}
use Rattle.std.proofs.lemmas.List.{length-map}
use Rattle.segment_image.specs.Checks.{first_fault}
use Rattle.atomic_table.proofs.Lists.{at_map}
use Rattle.segment_invariant.proofs.Lists.Pairs.{element_at}
use Rattle.segment_calls.specs.declared.refusal.Refusal.{Refusal}
use Rattle.segment_calls.specs.declared.refusal.Refusal.TheVariants.{ZeroCount, NoUnits}
use Rattle.segment_machine.specs.declared.actor.Actor.{Actor}
use Rattle.segment_machine.specs.declared.actor.Known.{Known}
use Rattle.live_segment.specs.declared.recorder.KnownHistogram.{KnownHistogram}
use Rattle.live_segment.specs.declared.rule.Setting.{Setting}
use Rattle.live_segment.specs.Add.Sample.{add_checks}
use Rattle.live_segment.specs.Known.{known_view}
use Rattle.segment_promises.specs.Onward.{GoesOn}
use Rattle.live_segment.specs.Rule.{IsOf}

-- units that the share has are not refused before anything happens
pub passes : (a : Actor) (count : ℕ) (P : Type 0) (Q : Refusal → Type 0) → count ≢ 0 → count ≤ a.units.share → P
    → MatchOption (first_fault (add_checks a count)) P Q
passes a count P Q none enough p =
    subst (λ (b : Bool). MatchOption (if b then Some ZeroCount else (if nat_lt a.units.share count then Some NoUnits else None)) P Q) (sym (ne_eqb count 0 none))
    (subst (λ (b : Bool). MatchOption (if b then Some NoUnits else None) P Q) (sym (le-ltb a.units.share count enough)) p)

-- the histogram that is known at a place is the one that is meant by it
pub meant : (items : List KnownHistogram) (names : List Known) (index : ℕ) (one : KnownHistogram) (known : Known) → map known_view items ≡ names
    → one ≡ get_or items index one → index < length names → get_elem? names index ≡ some known → known_view one ≡ known
meant items names index one known are is below there =
    let within : index < length items = subst (λ (n : ℕ). index < n) (sym (ap length are) ∙ length-map items known_view) below in
    let first = at_map known_view items index one (element_at items index one within ∙ ap some (sym is)) in
    let same : some (known_view one) ≡ some known = sym first ∙ (ap (λ (l : List Known). get_elem? l index) are ∙ there) in cc same

-- a recorder is still one of the same segment
pub is_of_still : (setting : Setting) (old new : Actor) → GoesOn old new → IsOf setting old → IsOf setting new
is_of_still setting old new onward of = record {
  shape = ap (λ (a : Actor). a.segment.shape) onward.same ∙ of.shape;
  version = ap (λ (a : Actor). a.segment.version) onward.same ∙ of.version;
  cursors = ap (λ (a : Actor). a.segment.cursors) onward.same ∙ of.cursors;
}

-- it knows the same histograms
pub names_still : (old new : Actor) → GoesOn old new → new.answers.names ≡ old.answers.names
names_still old new onward = ap (λ (a : Actor). a.answers.names) onward.same

-- The public call that counts a batch: what it means that its checks pass.
use Rattle.std.proofs.Common.{◌≡◌, ◌≤◌, nat_lt, Bool, true, false, if◌then◌else◌, ℕ, ℤ, List, [], ◌∷◌, All, Option, Some, None, refl, sym, subst, arith}
use Rattle.std.specs.Prelude.{◌==◌, MatchOption}
use Rattle.std.specs.List.{list_any}
use Rattle.std.proofs.lemmas.Bool.{or_parts, eqb-false, ltb-false}
use Rattle.std.proofs.lemmas.List.Elements.{All-nil, All-cons}
use Rattle.segment_image.specs.Checks.{first_fault}
use Rattle.segment_calls.specs.declared.refusal.Refusal.{Refusal}
use Rattle.segment_calls.specs.declared.refusal.Refusal.TheVariants.{ZeroCount, NoUnits}
use Rattle.segment_machine.specs.declared.actor.Actor.{Actor}
use Rattle.segment_machine.specs.Entry.{batch_cost}
use Rattle.live_segment.specs.Add.Batch.{batch_checks}

-- if no item is without units, each has some
all_some : (items : List (ℤ × ℕ)) → list_any (λ item. item.1 == 0) items ≡ false → All (λ item. 1 ≤ item.1) items
all_some [] none = All-nil _
all_some (x ∷ xs) none =
    let (here, rest) = or_parts (x.1 == 0) (list_any (λ item. item.1 == 0) xs) none in
    let some = eqb-false x.1 0 here in All-cons (λ (item : ℤ × ℕ). 1 ≤ item.1) x xs (omega (arith, some)) (all_some xs rest)

neither : (p q : Bool) (first second : Refusal) → (if p then Some first else (if q then Some second else None)) ≡ None → (p ≡ false) × (q ≡ false)
neither true q first second e = absurd (cc e)
neither false true first second e = absurd (cc e)
neither false false first second e = (refl, refl)

-- a batch that is not refused at once has units for each item, and the share has what it costs
pub passed : (a : Actor) (items : List (ℤ × ℕ)) (sum : ℤ) → first_fault (batch_checks a items sum) ≡ None
    → All (λ item. 1 ≤ item.1) items × (batch_cost items sum ≤ a.units.share)
passed a items sum none =
    let (some, enough) = neither (list_any (λ item. item.1 == 0) items) (nat_lt a.units.share (batch_cost items sum)) ZeroCount NoUnits none in
    (all_some items some, ltb-false a.units.share (batch_cost items sum) enough)

-- what is returned if the checks pass, and if one of them fails
pub passes_all : (a : Actor) (items : List (ℤ × ℕ)) (sum : ℤ) (P : Type 0) (Q : Refusal → Type 0) → first_fault (batch_checks a items sum) ≡ None → P
    → MatchOption (first_fault (batch_checks a items sum)) P Q
passes_all a items sum P Q none p = subst (λ (o : Option Refusal). MatchOption o P Q) (sym none) p

pub fails_one : (a : Actor) (items : List (ℤ × ℕ)) (sum : ℤ) (why : Refusal) (P : Type 0) (Q : Refusal → Type 0)
    → first_fault (batch_checks a items sum) ≡ Some why → Q why → MatchOption (first_fault (batch_checks a items sum)) P Q
fails_one a items sum why P Q first q = subst (λ (o : Option Refusal). MatchOption o P Q) (sym first) q

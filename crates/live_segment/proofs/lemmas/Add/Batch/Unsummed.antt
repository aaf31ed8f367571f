-- A batch without a sum: its first items and its last one. If the first ones are cut short, all of it is.
use Rattle.std.proofs.Common.{◌≡◌, ◌+◌, ◌-◌, ◌<◌, ◌≤◌, ℤ, pos, ℕ, List, [], ◌∷◌, ◌++◌, map, take, length, get_or, Bool, true, false, if◌then◌else◌, refl, sym, ap, ◌∙◌, subst, arith}
use Rattle.std.specs.List.{All}
use Rattle.std.proofs.Math.Seq.{take-length}
use Rattle.std.specs.Str.{bytes_eq}
use Rattle.std.proofs.lemmas.List.{append-nil, take-append-le, take_more}
use Rattle.atomic_table.proofs.Lists.{at_longer}
use Rattle.segment_invariant.proofs.Lists.Elements.{below_length}
use Rattle.segment_calls.specs.declared.refusal.BatchRefusal.{BatchRefusal}
use Rattle.bucket_ranges.specs.Ranges.{boundaries_of}
use Rattle.bucket_ranges.specs.Tally.{units_of}
use Rattle.segment_machine.specs.declared.actor.Actor.{Actor}
use Rattle.segment_machine.specs.declared.actor.Known.{Known}
use Rattle.segment_machine.specs.Actor.{log_of}
use Rattle.segment_machine.specs.Entry.{item_entry}
use Rattle.live_segment.specs.Add.Sample.{Pays}
use Rattle.live_segment.specs.Alloc.Claims.{ClaimsForAll}
use Rattle.live_segment.specs.Add.Batch.{IsBatched, IsCutShort}
use Rattle.live_segment.proofs.lemmas.Add.Batch.Items.{within_all}
use Rattle.live_segment.proofs.lemmas.Steps.Proceeding.{does_not, sees_not}

pub front_and_last : (items : List (ℤ × ℕ)) (d : ℤ × ℕ) → 1 ≤ length items
    → take (length items - 1) items ++ get_or items (length items - 1) d ∷ [] ≡ items
front_and_last items d some =
    let all : length items - 1 + 1 ≡ length items = omega (arith, some) in
    sym (take_more items (length items - 1) d (omega (arith, some))) ∙ (ap (λ (n : ℕ). take n items) all ∙ take-length items)

nothing : (b : Bool) → ◌≡◌ {A = ℕ} (if b then 0 else 0) 0
nothing true = refl
nothing false = refl

-- an empty batch is counted by doing nothing
pub batched_none : (known : Known) (items : List (ℤ × ℕ)) (a : Actor) → length items < 1 → IsBatched known items (pos 0) a a
batched_none known [] a none = record {
  logged = sym (append-nil (log_of a));
  pays = record {
    share = omega arith;
    spent = λ other. let no_units = nothing (bytes_eq known.name other) in omega (arith, no_units);
  };
  filled = refl;
  onward = record { same = refl; done = does_not a.done; seen = sees_not a.seen };
  nothing = λ none zero. refl;
}
batched_none known (item ∷ rest) a none = absurd (omega (arith, none))

-- the last item has units, and the share has those of all
pub last_fits : (known : Known) (items : List (ℤ × ℕ)) (share : ℕ) → 1 ≤ length items → All (λ item. 1 ≤ item.1) items × (units_of items ≤ share)
    → (1 ≤ (get_or items (length items - 1) (pos 0, 0)).1)
    × (units_of (take (length items - 1) items) + (get_or items (length items - 1) (pos 0, 0)).1 ≤ share)
last_fits known items share some (each, total) =
    let within : length items - 1 < length items = omega (arith, some) in
    let most = within_all known.name (boundaries_of known.spec) items (length items - 1) (pos 0, 0) within in
    (each (length items - 1) (pos 0, 0) within, omega (arith, most, total))

pub cut_before : (known : Known) (front behind : List (ℤ × ℕ)) (refusal : BatchRefusal) (old new : Actor) → IsCutShort known front refusal old new
    → IsCutShort known (front ++ behind) refusal old new
cut_before known front behind refusal old new cut =
    let within = below_length front refusal.added cut.item cut.there in
    let same : take refusal.added (front ++ behind) ≡ take refusal.added front = take-append-le refusal.added front behind (omega (arith, within)) in record {
      item = cut.item;
      there = at_longer front behind refusal.added cut.item cut.there;
      logged = subst (λ (l : List (ℤ × ℕ)). log_of new ≡ log_of old ++ map (item_entry known.name (boundaries_of known.spec)) l) (sym same) cut.logged;
      pays = subst (λ (l : List (ℤ × ℕ)). Pays known.name (units_of l) old new) (sym same) cut.pays;
      at = cut.at;
      counted = cut.counted;
      claims = subst (λ (l : List (ℤ × ℕ)). ClaimsForAll known l old cut.at) (sym same) cut.claims;
      lacks = cut.lacks;
      onward = cut.onward;
    }

-- What an allocation aims at stays valid, whatever it finds.
use Rattle.std.proofs.Common.{◌≡◌, ℕ, ◌+◌, ◌-◌, ◌%◌, ◌≤◌, ◌==◌, Bool, true, false, refl, sym, subst, arith}
use Rattle.std.specs.Prelude.{nat_lt, nat_le, bit_and, ◌&&◌, if◌then◌else◌}
use Rattle.std.specs.Cmp.{first_so, second_so}
use Rattle.std.proofs.lemmas.Bool.{leb-true, ltb-true, ltb-false, eqb-true}
use Rattle.segment_image.specs.Shape.{Dimensions}
use Rattle.alloc_core.specs.declared.alloc.Purpose.{Purpose}
use Rattle.alloc_core.specs.declared.alloc.Purpose.TheVariants as purpose
use Rattle.alloc_core.specs.declared.alloc.AllocStage.{AllocStage}
use Rattle.alloc_core.specs.declared.alloc.AllocStage.TheVariants.{LoadFlags, LoadFree, ExchangeFree, StoreSize, StoreCookie, StoreType, SetFull, Claimed, Full, Corrupt}
use Rattle.alloc_core.specs.declared.planned.Planned.TheVariants as plan
use Rattle.alloc_core.specs.Layout.{IsShape}
use Rattle.alloc_core.specs.Planned.{room_at, planned, is_pointer}
use Rattle.alloc_core.specs.Alloc.{Allocation, stage_of_plan, stage_of_cookie, stage_after, seen_after, moved, IsRise, Suits, IsAimed, IsLawful}
use Rattle.alloc_core.proofs.Pages.{rise_within, rise_to_end}

-- a valid free pointer, as numbers
pub record IsPointer (shape : Dimensions) (free : ℕ) : Type 0 where
  pub from : 16 ≤ free
  pub within : free ≤ shape.size
  pub room : free % shape.page + 5 ≤ shape.page

pub pointer : (shape : Dimensions) (free : ℕ) → IsShape shape → is_pointer shape free ≡ true → IsPointer shape free
pointer shape free lawful e =
    let both : (nat_le 16 free && nat_le free shape.size) ≡ true = first_so (nat_le 16 free && nat_le free shape.size) _ e in
    let room : 5 ≤ room_at shape free = leb-true _ _ (second_so (nat_le 16 free && nat_le free shape.size) _ e) in
    record {
      from = leb-true _ _ (first_so (nat_le 16 free) _ both);
      within = leb-true _ _ (second_so (nat_le 16 free) _ both);
      room = omega arith;
    }

module _ (a : Allocation) (lawful : IsShape a.shape) (least : 5 ≤ a.size) (most : a.size ≤ a.shape.page) (found : ℕ) where
  -- the allocation that loaded this free pointer
  abbrev seeing : Allocation
  seeing = record a { seen = found }

  -- a plan aims well, by the tests that it makes
  aimed_plan : (full waste absorbs : Bool) → IsPointer a.shape found → nat_lt a.shape.size (found + a.size) ≡ full
      → nat_lt (room_at a.shape found) a.size ≡ waste → nat_lt (room_at a.shape found - a.size) 5 ≡ absorbs
      → IsAimed seeing (stage_of_plan found (if full then plan.Full else if waste then plan.Waste (room_at a.shape found)
      else if absorbs then plan.Claim (room_at a.shape found) (found + room_at a.shape found) else plan.Claim a.size (found + a.size)))
  aimed_plan true waste absorbs p e f g = ltb-true _ _ e
  aimed_plan false true absorbs p e f g =
      let fits = ltb-false a.shape.size (found + a.size) e in
      let less = ltb-true (room_at a.shape found) a.size f in
      let from = p.from in let room = p.room in
      (p.from, rise_to_end a.shape found lawful p.room (omega arith), omega arith)
  aimed_plan false false true p e f g =
      let fits = ltb-false a.shape.size (found + a.size) e in
      let more = ltb-false (room_at a.shape found) a.size f in
      let few = ltb-true (room_at a.shape found - a.size) 5 g in
      (p.from, rise_to_end a.shape found lawful p.room (omega arith), (omega arith, omega arith))
  aimed_plan false false false p e f g =
      let fits = ltb-false a.shape.size (found + a.size) e in
      let more = ltb-false (room_at a.shape found) a.size f in
      let some = ltb-false (room_at a.shape found - a.size) 5 g in
      (p.from, rise_within a.shape found a.size least (omega arith) (omega arith), (omega arith, omega arith))

  -- what comes after a loaded free pointer
  aimed_free : (good : Bool) → is_pointer a.shape found ≡ good
      → IsAimed seeing (if good then stage_of_plan found (planned found a.size a.shape) else Corrupt)
  aimed_free true e = aimed_plan _ _ _ (pointer a.shape found lawful e) refl refl refl
  aimed_free false e = tt

  aimed_flags : (clear : Bool) → IsAimed a (if clear then LoadFree else Corrupt)
  aimed_flags true = tt
  aimed_flags false = tt

  aimed_exchange : (next : ℕ) (purpose : Purpose) (hit : Bool) → (found == a.seen) ≡ hit → IsAimed a (ExchangeFree next purpose)
      → IsAimed a (if hit then StoreSize found (next - found) purpose else LoadFlags)
  aimed_exchange next purpose true e aimed =
      let five = aimed.1.five in
      let end : a.seen + (next - a.seen) ≡ next = omega (arith, five) in
      subst (λ (at : ℕ). (16 ≤ at) × IsRise a.shape at (at + (next - at)) × Suits a purpose (next - at)) (sym (eqb-true found a.seen e))
      (aimed.0, subst (IsRise a.shape a.seen) (sym end) aimed.1, aimed.2)
  aimed_exchange next purpose false e aimed = tt

  aimed_cookie : (at size : ℕ) (purpose : Purpose) → IsAimed a (StoreCookie at size purpose) → IsAimed a (stage_of_cookie at size purpose)
  aimed_cookie at size purpose.Claim aimed = aimed
  aimed_cookie at size purpose.Waste aimed = tt

  aimed_type : (at size : ℕ) → IsAimed a (StoreType at size) → IsAimed a (Claimed at size)
  aimed_type at size aimed =
      let up = aimed.1 in
      let five = up.five in
      let one_page = up.one_page in
      record { from = aimed.0; five = omega (arith, five); within = up.within; one_page = omega (arith, one_page) }

  pub aimed_after : (stage : AllocStage) → IsAimed a stage → IsAimed (record a { seen = seen_after a found stage }) (stage_after a found stage)
  aimed_after LoadFlags aimed = aimed_flags (bit_and found 1 == 0)
  aimed_after LoadFree aimed = aimed_free (is_pointer a.shape found) refl
  aimed_after (ExchangeFree next purpose) aimed = aimed_exchange next purpose (found == a.seen) refl aimed
  aimed_after (StoreSize at size purpose) aimed = aimed
  aimed_after (StoreCookie at size purpose) aimed = aimed_cookie at size purpose aimed
  aimed_after (StoreType at size) aimed = aimed_type at size aimed
  aimed_after SetFull aimed = aimed
  aimed_after (Claimed at size) aimed = aimed
  aimed_after Full aimed = aimed
  aimed_after Corrupt aimed = tt

pub moved_lawful : (a : Allocation) (found : ℕ) → IsLawful a → IsLawful (moved a found)
moved_lawful a found lawful = record {
  shaped = lawful.shaped;
  least = lawful.least;
  most = lawful.most;
  aimed = aimed_after a lawful.shaped lawful.least lawful.most found a.stage lawful.aimed;
}

use Rattle.std.proofs.Common.{◌≡◌, ℕ, ◌+◌, ◌*◌, ◌^◌, ◌<◌, ◌≤◌, true, sym, subst, arith}
use Rattle.std.specs.Prelude.{nat_le, ◌&&◌}
use Rattle.std.specs.Cmp.{first_so, second_so}
use Rattle.std.proofs.lemmas.Bool.{leb-true}
use Rattle.std.proofs.lemmas.Nat.{mul-le}
use Rattle.segment_image.specs.Shape.{is_page}
use Rattle.segment_sizes.specs.Filling.{FitInEveryOrder}
use Rattle.segment_sizes.specs.Needed.{needed_pages, AreTried}
use Rattle.segment_sizes.proofs.Fewest.{every_order, some_pages, is_a_size}
use Rattle.segment_sizes.proofs.needed.needed_size.Goals as goal

narrow : (page : ℕ) → is_page page ≡ true → page ≤ 65536
narrow page e = leb-true page 65536 (second_so (nat_le 64 page) _ (first_so (nat_le 64 page && nat_le page 65536) _ e))

-- the words of that few pages fit in 64 bits
small : (pages page count : ℕ) → pages ≤ 18 + 131072 * count → 5 * count ≤ 1048576 → page ≤ 65536 → pages * page < 2 ^ 64
small pages page count most few narrow =
    let m : pages * page ≤ 27488000000 * 65536 = mul-le pages page 27488000000 65536 (omega arith) narrow in
    omega arith

pub overflow_mul-size : goal.overflow_mul-size
overflow_mul-size c =
    let ok : AreTried c.args.page c.args.blocks.now = c.in_ok-check.ensures.ok in
    let less : c.needed_pages.result * c.args.page < 2 ^ 64
    = small _ c.args.page _ c.needed_pages.ensures.small ok.few (narrow c.args.page ok.page_is) in
    omega arith

pub returns-clause-fits : goal.returns-clause-fits
returns-clause-fits c =
    let ok : AreTried c.args.page c.args.blocks.now = c.in_ok-check.ensures.ok in
    subst (λ (pages : ℕ). FitInEveryOrder c.args.page c.args.blocks.now (pages * c.args.page)) (sym c.needed_pages.ensures.pages)
    (every_order c.args.page c.args.blocks.now ok.least ok.fit)

pub returns-clause-valid : goal.returns-clause-valid
returns-clause-valid c =
    let ok : AreTried c.args.page c.args.blocks.now = c.in_ok-check.ensures.ok in
    let one : 1 ≤ c.needed_pages.result = subst (λ (pages : ℕ). 1 ≤ pages) (sym c.needed_pages.ensures.pages)
    (some_pages c.args.page c.args.blocks.now ok.fit) in
    is_a_size c.args.page c.needed_pages.result one c.if-size-gt-MAX_SIZE.false

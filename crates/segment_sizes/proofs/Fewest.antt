-- The pages of the formula are enough.
use Rattle.std.proofs.Common.{◌≡◌, ℕ, zero, suc, ◌+◌, ◌-◌, ◌*◌, ◌/◌, ◌%◌, ◌<◌, ◌≤◌, inl, inr, List, [], ◌∷◌, Bool, true, false, refl, sym, ap, subst, ◌∙◌, arith}
use Rattle.std.specs.Prelude.{nat_le, min, fold, if◌then◌else◌, sum_by, All}
use Rattle.std.specs.List.Sorted.{IsPermutation}
use Rattle.std.proofs.Math.Decide.{dec_le}
use Rattle.std.proofs.Math.Nat.{lt_of_not-le, mul-le-mul_right, mul-mod_left}
use Rattle.std.proofs.lemmas.Bool.{leb-true, leb-false}
use Rattle.std.proofs.lemmas.Bool.Decides.{nat_tests}
use Rattle.std.proofs.lemmas.Nat.{le-div}
use Rattle.std.proofs.lemmas.List.Sorted.{sum_by-IsPermutation, All-permutation}
use Rattle.std.proofs.lemmas.List.Elements.{All-head, All-tail}
use Rattle.segment_image.specs.Shape.{Dimensions, is_size}
use Rattle.alloc_core.specs.Layout.{IsShape}
use Rattle.segment_sizes.specs.Filling.{AreClaimedFrom, FitInEveryOrder}
use Rattle.segment_sizes.specs.Needed.{IsLeast, FitsPage, load_over, pages_over, needed_pages, needed_words}
use Rattle.segment_sizes.proofs.Orders.{weight, MayLeave, Reaches, fills}

-- ---- the pages by one bound

-- what is left of the load, when the last two pages have more than one
rest_of : (j page bound step load : ℕ) → page + 1 ≡ step + bound → (j + 1) * (page + 1) + bound ≤ load + (j + 1) * bound → j * step + (page + 1) ≤ load
rest_of j page bound step load is most =
    let same : (j + 1) * (page + 1) ≡ (j + 1) * (step + bound) = ap (λ (n : ℕ). (j + 1) * n) is in
    omega (arith, same)

-- pages that may be left are fewer than the formula's, by its test
few_by : (page bound load q : ℕ) → bound ≤ page → MayLeave page bound load q → (one : Bool) → nat_le load page ≡ one
    → q + 1 ≤ (if one then 1 else 2 + (load - (page + 1)) / (page + 1 - bound))
few_by page bound load q within (inl none) true e = omega arith
few_by page bound load q within (inl none) false e = omega arith
few_by page bound load zero within (inr most) true e = omega arith
few_by page bound load zero within (inr most) false e = omega arith
few_by page bound load (suc j) within (inr most) true e =
    let le = leb-true load page e in
    let rest = rest_of j page bound (page + 1 - bound) load (omega arith) (omega arith) in
    absurd (omega arith)
few_by page bound load (suc j) within (inr most) false e =
    let more = leb-false load page e in
    let rest = rest_of j page bound (page + 1 - bound) load (omega arith) (omega arith) in
    let least = le-div j (load - (page + 1)) (page + 1 - bound) (omega arith) (omega arith) in
    omega arith

few : (page : ℕ) (blocks : List ℕ) (bound q : ℕ) → bound ≤ page → MayLeave page bound (load_over blocks bound) q → q + 1 ≤ pages_over page blocks bound
few page blocks bound q within left = few_by page bound (load_over blocks bound) q within left (nat_le (load_over blocks bound) page) refl

-- ---- the fewest by any bound

min_left : (a b : ℕ) → a ≤ b → min a b ≡ a
min_left a b le = omega arith

min_right : (a b : ℕ) → b < a → min a b ≡ b
min_right a b gt = omega arith

-- the fewer of two numbers of pages are those of a bound
fewer : (page : ℕ) (blocks : List ℕ) (pages bound next : ℕ) → pages ≡ pages_over page blocks bound → bound ≤ page → next ≤ page
    → Dec (pages ≤ pages_over page blocks next)
    → (best : ℕ) × (min pages (pages_over page blocks next) ≡ pages_over page blocks best) × (best ≤ page)
fewer page blocks pages bound next is near fits (yes le) =
    let e : min pages (pages_over page blocks next) ≡ pages = min_left pages (pages_over page blocks next) le in
    (bound, e ∙ is, near)
fewer page blocks pages bound next is near fits (no more) =
    let gt = lt_of_not-le more in
    (next, min_right pages (pages_over page blocks next) gt, fits)

-- the fewest are those of one bound
picks : (page : ℕ) (blocks bounds : List ℕ) (pages bound : ℕ) → pages ≡ pages_over page blocks bound → bound ≤ page → All (FitsPage page) bounds
    → (best : ℕ) × (fold (λ fewest next. min fewest (pages_over page blocks next)) pages bounds ≡ pages_over page blocks best) × (best ≤ page)
picks page blocks [] pages bound is near fit = (bound, is, near)
picks page blocks (next ∷ bounds) pages bound is near fit =
    let fits = All-head (FitsPage page) next bounds fit in
    let f = fewer page blocks pages bound next is near fits (dec_le pages (pages_over page blocks next)) in
    picks page blocks bounds (min pages (pages_over page blocks next)) f.0 f.1 f.2 (All-tail (FitsPage page) next bounds fit)

-- ---- every order

-- the free pointer of a segment without blocks
first : (page bound : ℕ) → 64 ≤ page → Reaches page bound 16 16
first page bound wide =
    record { q = 0; has = 16; stands = record { within = omega arith; place = inl (omega arith, omega arith) }; below = omega arith; left = inl refl }

turned : (q page words : ℕ) → (q + 1) * page ≤ words → q * page + page ≤ words
turned q page words less = omega arith

weighs : (some all : ℕ) → some ≡ all → 16 + some ≤ 16 + all
weighs some all same = omega arith

-- pages that may be left have room after them
enough : (page bound : ℕ) (blocks : List ℕ) → bound ≤ page → (q : ℕ) → MayLeave page bound (load_over blocks bound) q
    → q * page + page ≤ pages_over page blocks bound * page
enough page bound blocks near q left =
    let less : (q + 1) * page ≤ pages_over page blocks bound * page = mul-le-mul_right page (few page blocks bound q near left) in
    turned q page (pages_over page blocks bound * page) less

-- blocks that fit in a page are claimed in any order, within the pages by a bound
in_order : (shape : Dimensions) (blocks order : List ℕ) (bound : ℕ) → IsShape shape → bound ≤ shape.page → All IsLeast blocks → All (FitsPage shape.page) blocks
    → IsPermutation blocks order → pages_over shape.page blocks bound * shape.page ≤ shape.size
    → (end : ℕ) × AreClaimedFrom shape order 16 end × (end ≤ pages_over shape.page blocks bound * shape.page)
in_order shape blocks order bound lawful near least fit moved inside =
    let same : sum_by (weight bound) order ≡ sum_by (weight bound) blocks = sum_by-IsPermutation (weight bound) blocks order moved in
    fills shape bound (load_over blocks bound) (pages_over shape.page blocks bound * shape.page) inside
    (enough shape.page bound blocks near) order 16 16
    (All-permutation IsLeast blocks order moved least) (All-permutation (FitsPage shape.page) blocks order moved fit)
    (weighs (sum_by (weight bound) order) (sum_by (weight bound) blocks) same) (first shape.page bound lawful.wide)

-- so they are within the pages that are needed, of a segment's own page
in_pages : (shape : Dimensions) (blocks order : List ℕ) → IsShape shape → All IsLeast blocks → IsPermutation blocks order
    → All (FitsPage shape.page) blocks → needed_words shape.page blocks ≤ shape.size
    → (end : ℕ) × AreClaimedFrom shape order 16 end × (end ≤ needed_words shape.page blocks)
in_pages shape blocks order lawful least moved fit inside =
    let b = picks shape.page blocks blocks (pages_over shape.page blocks shape.page) shape.page refl (omega arith) fit in
    let same : needed_words shape.page blocks ≡ pages_over shape.page blocks b.0 * shape.page = ap (λ (n : ℕ). n * shape.page) b.1 in
    subst (λ (words : ℕ). (end : ℕ) × AreClaimedFrom shape order 16 end × (end ≤ words)) (sym same)
    (in_order shape blocks order b.0 lawful b.2 least fit moved (subst (λ (words : ℕ). words ≤ shape.size) same inside))

-- and of any segment of the page
pub every_order : (page : ℕ) (blocks : List ℕ) → All IsLeast blocks → All (FitsPage page) blocks → FitInEveryOrder page blocks (needed_words page blocks)
every_order page blocks least fit shape order lawful page_is inside moved =
    subst (λ (p : ℕ). All (FitsPage p) blocks → needed_words p blocks ≤ shape.size → (end : ℕ) × AreClaimedFrom shape order 16 end × (end ≤ needed_words p blocks))
    page_is (in_pages shape blocks order lawful least moved) fit inside

-- ---- the size

at_least : (page : ℕ) (blocks : List ℕ) (bound : ℕ) (one : Bool) → nat_le (load_over blocks bound) page ≡ one → 1 ≤ pages_over page blocks bound
at_least page blocks bound true e = rw e (omega arith)
at_least page blocks bound false e = rw e (omega arith)

-- one page or more is needed
pub some_pages : (page : ℕ) (blocks : List ℕ) → All (FitsPage page) blocks → 1 ≤ needed_pages page blocks
some_pages page blocks fit =
    let b = picks page blocks blocks (pages_over page blocks page) page refl (omega arith) fit in
    let e : needed_pages page blocks ≡ pages_over page blocks b.0 = b.1 in
    let one = at_least page blocks b.0 (nat_le (load_over blocks b.0) page) refl in
    subst (λ (pages : ℕ). 1 ≤ pages) (sym e) one

both : {page words : ℕ} → page ≤ words → words ≤ 1048576 → words % page ≡ 0 → is_size words page ≡ true
both wide few whole = grind (arith, nat_tests)

-- this many whole pages are a size, if they are few enough
pub is_a_size : (page pages : ℕ) → 1 ≤ pages → pages * page ≤ 1048576 → is_size (pages * page) page ≡ true
is_a_size page pages one few =
    let whole : (pages * page) % page ≡ 0 = mul-mod_left pages page in
    let more : 1 * page ≤ pages * page = mul-le-mul_right page one in
    both (omega arith) few whole

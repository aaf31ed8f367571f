-- The ledger, when one block and one actor change: it is kept if one equation for each column holds between the two.
use Rattle.segment_invariant.proofs.Prelude.Std.{◌≡◌, ℕ, zero, suc, ◌+◌, ◌≤◌, ℤ, ◌+ℤ◌, List, [], ◌∷◌, ◌++◌, set, sym, ap, ◌∙◌, arith, append-nil, flat_map, +ℤ_idl, some, some-injective, some-ne-none, get_elem?, split_at, sum_beside, rows, IsTotal}
use Rattle.segment_invariant.proofs.Prelude.Machine.{Actor, tally_units, tally_sum, tally_noted, counted_of, summed_of, noted_of, taken_units, taken_sum, all_counted, all_taken, taken_of}
use Rattle.segment_invariant.proofs.Prelude.Invariant.{Body, Piece, units_held, marks_held, noted_held, moving_at}
use Rattle.std.proofs.Math.IntN.{+ℤ_assoc, +ℤ_comm}
use Rattle.std.proofs.lemmas.Grind.{flat_map-append}
use Rattle.segment_invariant.specs.Ledger.{sum_held, sum_mark_held, all_amounts, IsBalanced}
use Rattle.segment_invariant.proofs.Lists.Countings.{units_total, sum_total, noted_total}
use Rattle.list_lemmas.proofs.Sums.{amounts_total}
use Rattle.segment_invariant.proofs.Blocks.Pieces.{held_beside}
use Rattle.segment_invariant.proofs.Lists.Portions.{taken_total, taken_sum_total}

-- ---- one among others

-- lists that belong to the elements, one after the other: if an element is replaced, the new total with what the old element had is the old
-- total with what the new element has
pub rows_beside : {A B : Type 0} (total : List B → ℕ) → IsTotal ◌+◌ total → (f : A → List B) (l : List A) (i : ℕ) (x y : A) → get_elem? l i ≡ some x
    → total (flat_map f (set l i y)) + total (f x) ≡ total (flat_map f l) + total (f y)
rows_beside total sums f [] i x y e = absurd (some-ne-none x (sym e))
rows_beside total sums f (z ∷ zs) zero x y e =
    let now = sums (f y) (flat_map f zs) in
    let was = sums (f z) (flat_map f zs) in
    let same = ap (λ x. total (f x)) (some-injective z x e) in
    omega (arith, now, was, same)
rows_beside total sums f (z ∷ zs) (suc i) x y e =
    let rest = rows_beside total sums f zs i x y e in
    let now = sums (f z) (flat_map f (set zs i y)) in
    let was = sums (f z) (flat_map f zs) in
    omega (arith, rest, now, was)

-- amounts: if one element has more, all together have as much more
moved : (x m n d : ℤ) → (x +ℤ (m +ℤ d)) +ℤ n ≡ (x +ℤ (m +ℤ n)) +ℤ d
moved x m n d =
    +ℤ_assoc x (m +ℤ d) n
    ∙ (ap (λ z. x +ℤ z) (+ℤ_assoc m d n ∙ (ap (λ z. m +ℤ z) (+ℤ_comm d n) ∙ sym (+ℤ_assoc m n d))) ∙ sym (+ℤ_assoc x (m +ℤ n) d))

pub amounts_moved : {A : Type 0} (total : List A → ℤ) → IsTotal ◌+ℤ◌ total → (l : List A) (i : ℕ) (x y : A) (d : ℤ) → get_elem? l i ≡ some x
    → total (y ∷ []) ≡ total (x ∷ []) +ℤ d → total (set l i y) ≡ total l +ℤ d
amounts_moved total sums l i x y d e more =
    let (front, behind, is, now) = split_at l i x e in
    let parts : (z : _) → total (front ++ z ∷ behind) ≡ total front +ℤ (total (z ∷ []) +ℤ total behind) =
    λ z. sums front (z ∷ behind) ∙ ap (λ n. total front +ℤ n) (sums (z ∷ []) behind) in
    ap total (now y) ∙ (parts y
    ∙ (ap (λ n. total front +ℤ (n +ℤ total behind)) more
    ∙ (sym (+ℤ_assoc (total front) (total (x ∷ []) +ℤ d) (total behind))
    ∙ (moved (total front) (total (x ∷ [])) (total behind) d ∙ ap (λ n. n +ℤ d) (sym (parts x) ∙ sym (ap total is))))))

-- ---- one block and one actor

-- What a block holds, and has with the actor on its way, changes by what the actor did.
pub record Balances (version : ℕ) (p q : Body) (a b : Actor) : Type 0 where
  pub units : (name : List ℕ) (key : ℤ)
      → units_held version name key q + moving_at b name key b.hand.place + tally_units (counted_of a) name key
      ≡ units_held version name key p + moving_at a name key a.hand.place + tally_units (counted_of b) name key
  pub marks : (name : List ℕ) (key : ℤ) → marks_held version name key q + taken_units (taken_of a) name key ≡ marks_held version name key p + taken_units (taken_of b) name key
  pub sums : (name : List ℕ) → (d : ℤ) × (sum_held name q ≡ sum_held name p +ℤ d) × (tally_sum (summed_of b) name ≡ tally_sum (summed_of a) name +ℤ d)
  pub sum_marks : (name : List ℕ) → (d : ℤ) × (sum_mark_held name q ≡ sum_mark_held name p +ℤ d) × (taken_sum (taken_of b) name ≡ taken_sum (taken_of a) name +ℤ d)
  pub noted : (name : List ℕ) → noted_held name q + tally_noted (noted_of a) name ≡ noted_held name p + tally_noted (noted_of b) name

module _ (pieces : List Piece) (k : ℕ) (p q : Piece) (there : get_elem? pieces k ≡ some p) (actors : List Actor) (id : ℕ) (a b : Actor)
    (mine : get_elem? actors id ≡ some a) where
  amounts_of : (holds : Body → ℤ) (d : ℤ) → holds q.body ≡ holds p.body +ℤ d → all_amounts holds (set pieces k q) ≡ all_amounts holds pieces +ℤ d
  amounts_of holds d more = amounts_moved (all_amounts holds) (amounts_total (λ (piece : Piece). holds piece.body)) pieces k p q d there
      (+ℤ_idl (holds q.body) ∙ (more ∙ ap (λ n. n +ℤ d) (sym (+ℤ_idl (holds p.body)))))

  pub deeds_of : {B : Type 0} (total : List B → ℤ) → IsTotal ◌+ℤ◌ total → (f : Actor → List B) (d : ℤ) → total (f b) ≡ total (f a) +ℤ d
      → total (flat_map f (set actors id b)) ≡ total (flat_map f actors) +ℤ d
  deeds_of total sums f d more = amounts_moved (λ (list : List Actor). total (flat_map f list))
      (λ xs ys. ap total (flat_map-append f xs ys) ∙ sums (flat_map f xs) (flat_map f ys)) actors id a b d mine
      (ap total (append-nil (f b)) ∙ (more ∙ ap (λ n. n +ℤ d) (sym (ap total (append-nil (f a))))))

  -- the ledger is kept, if no more was taken than was counted
  pub balanced_beside : (version : ℕ) (opened : List Piece) → Balances version p.body q.body a b
      → ((name : List ℕ) (key : ℤ) → taken_units (all_taken (set actors id b)) name key ≤ tally_units (all_counted (set actors id b)) name key)
      → IsBalanced version opened pieces actors → IsBalanced version opened (set pieces k q) (set actors id b)
  balanced_beside version opened local taken books = record {
    units = λ name key.
        let was = books.units name key in
        let held = held_beside (units_held version name key) pieces k p q there in
        let moves = sum_beside (λ (a : Actor). moving_at a name key a.hand.place) actors id a b mine in
        let counted = rows_beside (λ entries. tally_units entries name key) (units_total name key) counted_of actors id a b mine in
        let one = local.units name key in
        omega (arith, was, held, moves, counted, one);
    marks = λ name key.
        let was = books.marks name key in
        let held = held_beside (marks_held version name key) pieces k p q there in
        let took = rows_beside (λ list. taken_units list name key)
        (taken_total name key) taken_of actors id a b mine in
        let one = local.marks name key in
        omega (arith, was, held, took, one);
    sums = λ name.
        let (d, held, summed) = local.sums name in
        amounts_of (sum_held name) d held
        ∙ (ap (λ n. n +ℤ d) (books.sums name) ∙ sym (deeds_of (λ entries. tally_sum entries name) (sum_total name) summed_of d summed));
    sum_marks = λ name.
        let (d, held, took) = local.sum_marks name in
        amounts_of (sum_mark_held name) d held
        ∙ (ap (λ n. n +ℤ d) (books.sum_marks name)
        ∙ sym (deeds_of (λ list. taken_sum list name) (taken_sum_total name) taken_of d took));
    noted = λ name.
        let was = books.noted name in
        let held = held_beside (noted_held name) pieces k p q there in
        let noted = rows_beside (λ entries. tally_noted entries name) (noted_total name) noted_of actors id a b mine in
        let one = local.noted name in
        omega (arith, was, held, noted, one);
    taken = taken;
  }

  -- so it is if nothing was taken, and no less was counted
  pub taken_on : taken_of b ≡ taken_of a → ((name : List ℕ) (key : ℤ) → tally_units (counted_of a) name key ≤ tally_units (counted_of b) name key)
      → ((name : List ℕ) (key : ℤ) → taken_units (all_taken actors) name key ≤ tally_units (all_counted actors) name key)
      → (name : List ℕ) (key : ℤ) → taken_units (all_taken (set actors id b)) name key ≤ tally_units (all_counted (set actors id b)) name key
  taken_on same more was name key =
      let before = was name key in
      let took = ap (λ list. taken_units list name key) (rows taken_of actors id a b mine same) in
      let counted = rows_beside (λ entries. tally_units entries name key) (units_total name key) counted_of actors id a b mine in
      let up = more name key in
      omega (arith, before, took, counted, up)

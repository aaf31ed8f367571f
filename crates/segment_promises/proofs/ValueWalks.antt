-- A walk after the record of a sparse histogram: what a recorder knows once it has loaded the next of the record where it is.
use Rattle.segment_invariant.proofs.Prelude.Std.{length-append, ◌≡◌, ◌≢◌, ℕ, suc, ◌+◌, ◌-◌, ◌*◌, ◌<◌, ◌≤◌, ◌==◌, ◌&&◌, not, Bool, true, false, true≢false, List, [], ◌∷◌, ◌++◌, length, slice_index, refl, sym, ap, subst, ◌∙◌, arith, eq-eqb, ne_eqb, eqb-true, ◌||◌, if◌then◌else◌, Contains, append_assoc, length_push, Contains-append_right}
use Rattle.segment_invariant.proofs.Prelude.Machine.{Dimensions, stops, Actor}
use Rattle.std.specs.List.{list_any}
use Rattle.std.proofs.lemmas.List.{get_or_push}
use lib.Seq.{get_or-append_seam}
use Rattle.list_core.specs.Walk.{stands_behind}
use Rattle.list_core.proofs.Walks.{place_of}
use Rattle.segment_machine.specs.Walking.{IsNextOf, extended}
use Rattle.segment_promises.specs.Values.{NoRepeats, ComesTo, first_of}
use Rattle.segment_promises.proofs.Furthest.{last_of, last_least, last_most, last_stands}
use Rattle.segment_promises.proofs.Growing.{extended_end, extended_grows, reference_behind}

behind_last : (before : List ℕ) (at : ℕ) → stands_behind (before ++ at ∷ []) ≡ at
behind_last before at = let long = length_push before at in get_or_push (stops before) at 0 (length (before ++ at ∷ [])) (omega (arith, long))

-- a record that was visited is somewhere on the list
pub stands_there : (chain : List ℕ) (at : ℕ) → list_any (λ r. r == at) chain ≡ true → (front behind : List ℕ) × (chain ≡ front ++ at ∷ behind)
stands_there [] at met = absurd (cc met)
stands_there (r ∷ rest) at met = by (λ there. stands_there rest at there) (r == at) refl met
  where
    by : (list_any (λ x. x == at) rest ≡ true → (front behind : List ℕ) × (rest ≡ front ++ at ∷ behind)) → (b : Bool) → (r == at) ≡ b → (b || list_any (λ x. x == at) rest) ≡ true → (front behind : List ℕ) × (r ∷ rest ≡ front ++ at ∷ behind)
    by again true same e = ([], rest, ap (λ (x : ℕ). x ∷ rest) (eqb-true r at same))
    by again false apart e = let (front, behind, is) = again e in (r ∷ front, behind, ap (λ (l : List ℕ). r ∷ l) is)

-- what comes after a record once its next was loaded
next_one : (a : Actor) (before after : List ℕ) (at found : ℕ) → a.seen.chain ≡ before ++ at ∷ after → IsNextOf a at found
    → (rest : List ℕ) × (extended a.seen.chain at found ≡ before ++ at ∷ rest) × (found ≡ first_of rest)
next_one a before (r ∷ rs) at found is next =
    let chain = a.seen.chain in
    let (more, grown) = extended_grows chain at found in
    let given = before ++ at ∷ [] in
    let split : chain ≡ given ++ r ∷ rs = is ∙ sym (append_assoc before (at ∷ []) (r ∷ rs)) in
    let here : slice_index chain (length given) ≡ r = ap (λ (l : List ℕ). slice_index l (length given)) split ∙ get_or-append_seam given r rs 0 in
    let long : length chain ≡ length given + suc (length rs) = ap length split ∙ length-append given (r ∷ rs) in (
      r ∷ (rs ++ more),
      grown ∙ (ap (λ (l : List ℕ). l ++ more) is ∙ append_assoc before (at ∷ r ∷ rs) more),
      next.again (length given) (omega (arith, long)) (place_of given (r ∷ rs) chain split ∙ behind_last before at) ∙ here,
    )
next_one a before [] at found is next = by (found == 12) refl
  where
    last : slice_index (stops a.seen.chain) (length a.seen.chain) ≡ at
    last = ap stands_behind is ∙ behind_last before at

    by : (b : Bool) → (found == 12) ≡ b → (rest : List ℕ) × (extended a.seen.chain at found ≡ before ++ at ∷ rest) × (found ≡ first_of rest)
    by true e = let end = eqb-true found 12 e in ([], extended_end a.seen.chain at found end ∙ is, end)
    by false e = (
      found ∷ [],
      (λ i. if (eq-eqb (slice_index (stops a.seen.chain) (length a.seen.chain)) at last i) && not (e i) then a.seen.chain ++ found ∷ [] else a.seen.chain)
          ∙ (ap (λ (l : List ℕ). l ++ found ∷ []) is ∙ append_assoc before (at ∷ []) (found ∷ [])),
      refl,
    )

-- a record that was found is the first of what follows
pub one_there : (behind : List ℕ) {found : ℕ} → found ≡ first_of behind → (found == 12) ≡ false → (rest : List ℕ) × (behind ≡ found ∷ rest)
one_there [] stands miss = absurd (true≢false (sym (eq-eqb _ 12 stands) ∙ miss))
one_there (r ∷ rest) stands miss = (rest, ap (λ (x : ℕ). x ∷ rest) (sym stands))

-- ---- how much of it is left

-- what is left of a walk that is at a record; nothing at the end
abbrev pub left_of : ℕ → List ℕ → ℕ → ℕ
left_of size chain at = if at == 12 then 0 else size + 1 - last_of chain at

-- ---- where a walk is

module _ (a : Actor) (histogram : ℕ) (passed : List ℕ) (at : ℕ) (comes : ComesTo histogram passed at a) (miss : at ≢ 12) where
  pub behind_it : (rest : List ℕ) × (comes.behind ≡ at ∷ rest)
  behind_it = one_there comes.behind comes.stands (ne_eqb at 12 miss)

  pub split_at_it : a.seen.chain ≡ comes.front ++ histogram ∷ (passed ++ at ∷ behind_it.0)
  split_at_it = comes.chain ∙ ap (λ (l : List ℕ). comes.front ++ histogram ∷ (passed ++ l)) behind_it.1

  -- it has passed few records, each of five words
  pub passed_few : 5 * (length passed + 1) + 16 ≤ a.segment.shape.size
  passed_few =
      let few = comes.few in
      let all : length a.seen.chain ≡ length comes.front + suc (length (passed ++ at ∷ behind_it.0)) =
      ap length split_at_it ∙ length-append comes.front (histogram ∷ (passed ++ at ∷ behind_it.0)) in
      let more : length (passed ++ at ∷ behind_it.0) ≡ length passed + suc (length behind_it.0) = length-append passed (at ∷ behind_it.0) in
      omega (arith, few, all, more)

-- ---- the walk continues

module _ (a b : Actor) (histogram found : ℕ) (shape : b.segment.shape ≡ a.segment.shape) where
  module _ (at : ℕ) (next : IsNextOf a at found) (chain : b.seen.chain ≡ extended a.seen.chain at found) where
    within_then : found ≢ 12 → found + 5 ≤ b.segment.shape.size
    within_then miss =
        subst (λ (d : Dimensions). found + 5 ≤ d.size) (sym shape) (reference_behind a.segment.shape.size found next.reference miss).1

    few_then : 5 * length b.seen.chain + 16 ≤ b.segment.shape.size
    few_then = subst (λ (d : Dimensions). 5 * length b.seen.chain + 16 ≤ d.size) (sym shape)
        (subst (λ (l : List ℕ). 5 * length l + 16 ≤ a.segment.shape.size) (sym chain) next.few)

  -- from the histogram's record
  pub comes_first : (front behind : List ℕ) → a.seen.chain ≡ front ++ histogram ∷ behind → IsNextOf a histogram found
      → b.seen.chain ≡ extended a.seen.chain histogram found → ComesTo histogram [] found b
  comes_first front behind is next chain =
      let (rest, grown, stands) = next_one a front behind histogram found is next in record {
        front = front;
        behind = rest;
        chain = chain ∙ grown;
        stands = stands;
        within = within_then histogram next chain;
        few = few_then histogram next chain;
      }

  -- from an actor that came to it, and that may have seen more since
  module _ (front passed : List ℕ) (at : ℕ) (rest : List ℕ) (split : a.seen.chain ≡ front ++ histogram ∷ (passed ++ at ∷ rest)) where
    abbrev before : List ℕ
    before = front ++ histogram ∷ passed

    split_before : a.seen.chain ≡ before ++ at ∷ rest
    split_before = split ∙ sym (append_assoc front (histogram ∷ passed) (at ∷ rest))

    pub met : Contains a.seen.chain at
    met = subst (λ (l : List ℕ). Contains l at) (sym split_before) (Contains-append_right before (at ∷ rest) at (0, omega arith, refl))

    module _ (next : IsNextOf a at found) (chain : b.seen.chain ≡ extended a.seen.chain at found) where
      grown : (behind : List ℕ) × (extended a.seen.chain at found ≡ before ++ at ∷ behind) × (found ≡ first_of behind)
      grown = next_one a before rest at found split_before next

      pub comes_on : ComesTo histogram (passed ++ at ∷ []) found b
      comes_on = record {
        front = front;
        behind = grown.0;
        chain = chain
            ∙ (grown.1
            ∙ (append_assoc front (histogram ∷ passed) (at ∷ grown.0)
            ∙ ap (λ (l : List ℕ). front ++ histogram ∷ l) (sym (append_assoc passed (at ∷ []) grown.0))));
        stands = grown.2;
        within = within_then at next chain;
        few = few_then at next chain;
      }

      -- it has come further, and what is left is less
      pub comes_further : NoRepeats a.seen.chain → at ≢ 12 → left_of b.segment.shape.size b.seen.chain found < left_of a.segment.shape.size a.seen.chain at
      comes_further once miss =
          let given = before ++ at ∷ [] in
          let long : length given ≡ length before + 1 = length_push before at in
          let apart : a.seen.chain ≡ given ++ rest = split_before ∙ sym (append_assoc before (at ∷ []) rest) in
          let near : last_of a.seen.chain at ≤ length given =
          subst (λ (n : ℕ). last_of a.seen.chain n ≤ length given) (behind_last before at) (last_stands given rest a.seen.chain apart once) in
          let longer : b.seen.chain ≡ given ++ grown.0 = chain ∙ (grown.1 ∙ sym (append_assoc before (at ∷ []) grown.0)) in
          let all : length b.seen.chain ≡ length given + length grown.0 = ap length longer ∙ length-append given grown.0 in
          let few = few_then at next chain in
          let size : b.segment.shape.size ≡ a.segment.shape.size = ap (λ (d : Dimensions). d.size) shape in
          let was : left_of a.segment.shape.size a.seen.chain at ≡ a.segment.shape.size + 1 - last_of a.seen.chain at =
          ap (λ (t : Bool). if t then 0 else a.segment.shape.size + 1 - last_of a.seen.chain at) (ne_eqb at 12 miss) in
          by_end (found == 12) refl given longer near all few size was
        where
          by_end : (t : Bool) → (found == 12) ≡ t → (given : List ℕ) → b.seen.chain ≡ given ++ grown.0 → last_of a.seen.chain at ≤ length given
              → length b.seen.chain ≡ length given + length grown.0 → 5 * length b.seen.chain + 16 ≤ b.segment.shape.size → b.segment.shape.size ≡ a.segment.shape.size
              → left_of a.segment.shape.size a.seen.chain at ≡ a.segment.shape.size + 1 - last_of a.seen.chain at
              → left_of b.segment.shape.size b.seen.chain found < left_of a.segment.shape.size a.seen.chain at
          by_end true e given longer near all few size was =
              let none : left_of b.segment.shape.size b.seen.chain found ≡ 0 =
              ap (λ (t : Bool). if t then 0 else b.segment.shape.size + 1 - last_of b.seen.chain found) e in
              omega (arith, none, near, all, few, size, was)
          by_end false e given longer near all few size was =
              let now : left_of b.segment.shape.size b.seen.chain found ≡ b.segment.shape.size + 1 - last_of b.seen.chain found =
              ap (λ (t : Bool). if t then 0 else b.segment.shape.size + 1 - last_of b.seen.chain found) e in
              let (rs, is) = one_there grown.0 grown.2 e in
              let here : slice_index b.seen.chain (length given) ≡ found =
              ap (λ (l : List ℕ). slice_index l (length given)) (longer ∙ ap (λ (l : List ℕ). given ++ l) is) ∙ get_or-append_seam given found rs 0 in
              let some = ap length is in
              let far = last_least b.seen.chain (length given) found (omega (arith, all, some)) here in
              let most = last_most b.seen.chain found in
              omega (arith, now, near, far, most, all, few, size, was)

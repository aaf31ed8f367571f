-- Samples are few: each that a recorder visited has eight words of its own in the segment.
use Rattle.std.proofs.Common.{◌≡◌, ◌≢◌, ◌⊎◌, ℕ, ◌+◌, ◌*◌, ◌-◌, ◌/◌, ◌<◌, ◌≤◌, true, false, true≢false, ℤ, List, [], ◌∷◌, ◌++◌, length, map, get_or, inl, inr, ⊎_elim, refl, sym, ap, subst, ◌∙◌, arith, ne_eqb, eqb-true}
use Rattle.std.specs.List.{All, AllPairs, Contains, IsDistinct, list_any}
use Rattle.std.proofs.lemmas.Bool.{cases_order}
use Rattle.std.proofs.lemmas.List.{length-map, get_or-map}
use Rattle.std.proofs.lemmas.List.Elements.{All-contains, All-cons, All-map, All-nil, Contains-append_left, Contains-append_right}
use Rattle.std.proofs.lemmas.List.Kept.{AllPairs-cons}
use Rattle.std.proofs.lemmas.Map.Keys.{IsDistinct-from_apart}
use Rattle.std.proofs.lemmas.Map.Steps.{length-le_from_distinct_below}
use Rattle.std.proofs.lemmas.Map.Views.{Contains-from_any}
use Rattle.std.proofs.Math.Dec.{eqb}
use mathlib.Core.Option.{some, none, some-injective}
use lib.ListN.{get_elem?}
use Rattle.atomic_table.specs.Table.{Allows}
use Rattle.segment_image.specs.Shape.{Dimensions}
use Rattle.segment_machine.specs.declared.actor.Actor.{Actor}
use Rattle.segment_machine.specs.declared.place.Place.TheVariants.{Spent}
use Rattle.segment_machine.specs.declared.seen.Seen.{Seen}
use Rattle.segment_machine.specs.Actor.{is_bound, is_opener}
use Rattle.segment_machine.specs.Event.{change, Ready, taking_event}
use Rattle.segment_machine.specs.Made.{SawSample}
use Rattle.segment_machine.specs.State.{State}
use Rattle.segment_machine.specs.Taking.{MayLoadCount, load_count}
use Rattle.segment_invariant.specs.Body.{Anatomy, Piece, extent_of, sample}
use Rattle.segment_invariant.specs.Invariant.{Invariant}
use Rattle.segment_invariant.proofs.Blocks.Pieces.{first_piece, free_least, free_within, one_piece, piece_ends, piece_from, pieces_apart, some_first}
use Rattle.segment_invariant.proofs.Counting.Samples.{sample_met}
use Rattle.live_segment.specs.declared.rule.Opening.{Opening}
use Rattle.segment_promises.specs.Onward.{Grows}
use Rattle.live_segment.specs.Rule.{Runs}
use Rattle.live_segment.specs.List.SampleRecords.{LoadsCountOfSample, MeetsSample, SamplesAreFew}
use Rattle.live_segment.specs.Steps.{Sat}
use Rattle.live_segment.proofs.lemmas.Steps.Allowed.{does_at}
use Rattle.segment_promises.proofs.Growing.{still}

-- ---- numbers

-- in which eight words after the header a number is
abbrev slot : ℕ → ℕ
slot x = (x - 16) / 8

-- numbers that are at least eight apart are few
slots_few : (xs : List ℕ) (size : ℕ) → 16 ≤ size → AllPairs (λ x y. (x + 8 ≤ y) ⊎ (y + 8 ≤ x)) xs → All (λ x. (16 ≤ x) × (x + 8 ≤ size)) xs
    → 16 + 8 * length xs ≤ size
slots_few xs size least apart within = all_few (length-le_from_distinct_below (map slot xs) ((size - 16) / 8) distinct low)
  where
    differ : (x y : ℕ) → 16 ≤ x → 16 ≤ y → (x + 8 ≤ y) ⊎ (y + 8 ≤ x) → slot x ≢ slot y
    differ x y from_x from_y (inl before) same = omega (arith, from_x, from_y, before, same)
    differ x y from_x from_y (inr behind) same = omega (arith, from_x, from_y, behind, same)

    below : (x : ℕ) → 16 ≤ x → x + 8 ≤ size → slot x < (size - 16) / 8
    below x from ends = omega (arith, from, ends)

    all_few : length (map slot xs) ≤ (size - 16) / 8 → 16 + 8 * length xs ≤ size
    all_few few = let long = length-map xs slot in omega (arith, few, long, least)

    distinct : IsDistinct eqb (map slot xs)
    distinct = IsDistinct-from_apart eqb (map slot xs) (λ i j d lt inside. ne_eqb (get_or (map slot xs) i d) (get_or (map slot xs) j d) (apart_there i j d lt inside))
      where
        apart_there : (i j d : ℕ) → i < j → j < length (map slot xs) → get_or (map slot xs) i d ≢ get_or (map slot xs) j d
        apart_there i j d lt inside same =
            let long = length-map xs slot in
            let in_i : i < length xs = omega (arith, long, lt, inside) in
            let in_j : j < length xs = omega (arith, long, inside) in
            differ (get_or xs i 0) (get_or xs j 0) (within i 0 in_i).0 (within j 0 in_j).0 (apart i j 0 lt in_j)
            (sym (get_or-map slot xs i 0 d in_i) ∙ (same ∙ get_or-map slot xs j 0 d in_j))

    low : (q : ℕ) → list_any (eqb q) (map slot xs) ≡ true → q < (size - 16) / 8
    low q any = All-contains (λ n. n < (size - 16) / 8) (map slot xs) q
        (All-map (λ n. n < (size - 16) / 8) slot xs (λ k d inside. below (get_or xs k d) (within k d inside).0 (within k d inside).1))
        (Contains-from_any (λ x y same. eqb-true x y same) q (map slot xs) any)

-- ---- blocks

module _ (shape : Dimensions) (opened : Anatomy) (state : State) (kept : Invariant shape opened state) (id : ℕ) (a : Actor)
    (mine : get_elem? state.actors id ≡ some a) (lives : a.hand.place ≢ Spent) where
  -- a block of eight words or more begins at a word
  abbrev HasBlock : ℕ → Type 0
  HasBlock at = (k : ℕ) × (p : Piece) × (get_elem? kept.anatomy.pieces k ≡ some p) × (p.at ≡ at) × (8 ≤ extent_of p)

  block_of_sample : (at : ℕ) → MeetsSample a at → HasBlock at
  block_of_sample at (met, (histogram, value, saw)) =
      let (s, (k, stands), of_it, valued) = sample_met shape opened state kept id a mine lives at histogram value met saw in
      (k, record { at = at; owner = none; body = sample s }, stands, refl, omega arith)

  block_within : (at : ℕ) → HasBlock at → (16 ≤ at) × (at + 8 ≤ shape.size)
  block_within at (k, p, stands, is, long) =
      let ends = piece_ends shape state.words kept.anatomy kept.shown k p stands in
      let free = free_within shape state.words kept.anatomy kept.shown in (
        ⊎_elim (λ low. absurd (not_queue low)) (λ high. omega (arith, is, high)) (piece_from shape state.words kept.anatomy kept.shown k p stands),
        omega (arith, is, long, ends, free),
      )
    where
      not_queue : p.at ≡ 12 → ⊥
      not_queue low =
          let (first, there) = some_first shape state.words kept.anatomy kept.shown in
          let queue = first_piece shape state.words kept.anatomy kept.shown first there in
          let same = (one_piece shape state.words kept.anatomy kept.shown k 0 p first stands there (low ∙ sym queue.0)).1 in
          let four = ap extent_of same ∙ queue.2 in
          omega (arith, four, long)

  blocks_apart : (x y : ℕ) → HasBlock x → HasBlock y → x ≢ y → (x + 8 ≤ y) ⊎ (y + 8 ≤ x)
  blocks_apart x y (k, p, stands, is_x, long_x) (j, q, there, is_y, long_y) differ = elim (cases_order k j) [
    | inl same ↦ absurd (differ (sym is_x ∙ (ap (λ (r : Piece). r.at) (some-injective p q (sym stands ∙ (ap (get_elem? kept.anatomy.pieces) same ∙ there))) ∙ is_y)))
    | inr other ↦ elim other [
      | inl before ↦ let h = pieces_apart shape state.words kept.anatomy kept.shown k j p q stands there before in inl (omega (arith, h, is_x, is_y, long_x))
      | inr behind ↦ let h = pieces_apart shape state.words kept.anatomy kept.shown j k q p there stands behind in inr (omega (arith, h, is_x, is_y, long_y))
    ]
  ]

  pub few_samples : SamplesAreFew a
  few_samples samples once met =
      let free = free_within shape state.words kept.anatomy kept.shown in
      let least = free_least shape state.words kept.anatomy kept.shown in
      let sized = ap (λ (d : Dimensions). d.size) (kept.each id a mine lives).shaped in
      let few = slots_few samples shape.size (omega (arith, free, least))
      (λ i j d lt inside.
      blocks_apart (get_or samples i d) (get_or samples j d) (block_of_sample _ (met i d (omega (arith, lt, inside)))) (block_of_sample _ (met j d inside))
      (once i j d lt inside))
      (λ k d inside. block_within (get_or samples k d) (block_of_sample _ (met k d inside))) in
      omega (arith, few, sized)

-- ---- shown by the load of a count

-- a recorder that may load a count is not joined
counts_live : (a : Actor) (at : ℕ) → MayLoadCount a at → a.hand.place ≢ Spent
counts_live a at (inl (look, known, bucket, inl off, low, is)) spent = cc (sym spent ∙ off.0)
counts_live a at (inl (look, known, bucket, inr (b, count, there, of), low, is)) spent = cc (sym spent ∙ there)
counts_live a at (inr (known, of, value, sparse, met, saw, is, free, apart)) spent = true≢false (sym (ap is_bound spent) ∙ free)

module _ (given : Opening) (slots id : ℕ) (me : Sat) (word : ℕ) (records : is_opener me.0.role ≡ false) where
  pub counts_sample : (at : ℕ) → word ≡ at + 1 → Ready me.0 (taking_event (load_count at))
      → Allows (Runs given) slots id me word (change given.setting.version (taking_event (load_count at))) (LoadsCountOfSample word me)
  counts_sample at is ready s run wide mine small =
      let (view, act, valid, holds, told) =
      does_at given slots id me word records (λ (x : ℕ). taking_event (load_count x)) at (omega (arith, is)) (λ y e. omega (arith, is, e)) ready s run wide mine small in
      let there = ap (λ list. get_elem? list id) (sym run.running.views) ∙ mine in
      (view, act, valid, holds, (told, few_samples given.setting.shape _ run.running.segment run.running.kept id me.0 there (counts_live me.0 at ready)))

-- ---- those of a walk

-- at least this many records that a walk gave were seen to be samples, no two of them the same
pub record HasMet (seen : Seen) (walked : List ℕ) (n : ℕ) : Type 0 where
  pub samples : List ℕ
  pub many : n ≤ length samples
  pub once : AllPairs (λ x y. x ≢ y) samples
  pub among : All (Contains walked) samples
  pub saw : All (λ at. (histogram : ℕ) × (value : ℤ) × SawSample seen histogram value at) samples

pub met_none : (seen : Seen) → HasMet seen [] 0
met_none seen = record { samples = []; many = omega arith; once = λ i j d lt inside. absurd (omega (arith, inside)); among = All-nil _; saw = All-nil _ }

pub met_other : (seen : Seen) (walked : List ℕ) (at n : ℕ) → HasMet seen walked n → HasMet seen (walked ++ at ∷ []) n
met_other seen walked at n met = record {
  samples = met.samples;
  many = met.many;
  once = met.once;
  among = λ k d inside. Contains-append_left walked (at ∷ []) (get_or met.samples k d) (met.among k d inside);
  saw = met.saw;
}

pub met_one : (seen : Seen) (walked : List ℕ) (at n histogram : ℕ) (value : ℤ) → HasMet seen walked n → ((r : ℕ) → Contains walked r → r ≢ at)
    → SawSample seen histogram value at → HasMet seen (walked ++ at ∷ []) (n + 1)
met_one seen walked at n histogram value met apart saw = record {
  samples = at ∷ met.samples;
  many = let many = met.many in omega (arith, many);
  once = AllPairs-cons (λ x y. x ≢ y) at met.samples (λ k d inside same. apart (get_or met.samples k d) (met.among k d inside) (sym same)) met.once;
  among = All-cons (Contains (walked ++ at ∷ [])) at met.samples (Contains-append_right walked (at ∷ []) at (0, omega arith, refl))
      (λ k d inside. Contains-append_left walked (at ∷ []) (get_or met.samples k d) (met.among k d inside));
  saw = All-cons (λ x. (h : ℕ) × (v : ℤ) × SawSample seen h v x) at met.samples (histogram, value, saw) met.saw;
}

pub met_still : (a b : Seen) (walked : List ℕ) (n : ℕ) → Grows a.words b.words → HasMet a walked n → HasMet b walked n
met_still a b walked n grows met = record {
  samples = met.samples;
  many = met.many;
  once = met.once;
  among = met.among;
  saw = λ k d inside. let (h, v, (tag, of, valued, fits)) = met.saw k d inside in let at = get_or met.samples k d in
      (h, v, (still a.words b.words grows (at + 2) 3 tag, still a.words b.words grows (at + 4) h of, still a.words b.words grows (at + 5) _ valued, fits));
}

pub met_few : (a : Actor) (front walked more : List ℕ) (reference n : ℕ) → SamplesAreFew a → a.seen.chain ≡ front ++ reference ∷ (walked ++ more)
    → HasMet a.seen walked n → 16 + 8 * n ≤ a.segment.shape.size
met_few a front walked more reference n few chain met =
    let all = few met.samples met.once (λ k d inside. (
      subst (λ (l : List ℕ). Contains l (get_or met.samples k d)) (sym chain)
          (Contains-append_right front (reference ∷ (walked ++ more)) (get_or met.samples k d)
          (Contains-append_right (reference ∷ []) (walked ++ more) (get_or met.samples k d)
          (Contains-append_left walked more (get_or met.samples k d) (met.among k d inside)))),
      met.saw k d inside,
    )) in
    let many = met.many in omega (arith, all, many)

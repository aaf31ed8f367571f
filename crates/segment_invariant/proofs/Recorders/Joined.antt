-- What an opener has that has joined a recorder: what both had.
use Rattle.segment_invariant.proofs.Prelude.Std.{◌≡◌, ℕ, ◌+◌, ◌<◌, ◌≤◌, max, ℤ, Bool, true, false, true≢false, ◌||◌, List, [], ◌∷◌, ◌++◌, map, length, ⊎_elim, refl, sym, ap, ◌∙◌, subst, append_assoc, append-nil, eqb-true, ltb-true, ltb-false, arith, if◌then◌else◌, ◌==◌, nat_lt, slice_index, unwrap_or, Option, Some, IsPermutation, bytes_eq, filter, Contains, map-append, filter-append, All-append, All-contains, Contains-append_left, Contains-append_right, Contains-append_cases, All-weaker, sum_by-append, IsPermutation-refl, none, some-injective, get_elem?}
use Rattle.segment_invariant.proofs.Prelude.Machine.{Behind, IsPrefix, Known, Portion, Entry, EntryProgress, Idle, Actor, Cost, Given, Taken, is_counted, is_summed, is_noted, has_ended, tally_sum, tally_noted, is_bound, word_seen, log_of, counted_of, summed_of, cost_of, cost_total, taken_of, portion_of, taken_sum, SawSample, Dimensions, IsShown, Sighting}
use Rattle.segment_invariant.proofs.Prelude.Invariant.{moving_at, summed_cost, CallsRight, Body, words_of, Piece, Anatomy, layout_of, order_of, free_of, WasSingle, WasCounter, WasInUse, WasFixed, IsNoLater, IsFirstOf, Sees, WasMet}
use Rattle.std.proofs.Common.{ap₂}
use Rattle.std.proofs.Math.Bool.{or-false}
use native.Mathlib.Decide.{dec_le}
use Rattle.segment_machine.specs.Actor.{given_by}
use Rattle.segment_machine.specs.Seats.{both_seen, joined, spent, longer, shifted_taken, shifted}
use Rattle.segment_invariant.proofs.Frames.OneActor.{rests_at}
use Rattle.segment_invariant.proofs.Blocks.Places.{fixed_within}
use Rattle.segment_invariant.proofs.Blocks.Pieces.{one_index}
use Rattle.list_lemmas.proofs.Maps.{map_after, front_of_front}
use Rattle.segment_invariant.proofs.Frames.Deeds.{Deeds}
use Rattle.segment_invariant.proofs.Lists.Countings.{noted_total}
use Rattle.segment_invariant.proofs.Frames.Standing.{met_more}

-- ---- entries

abbrev entries : (EntryProgress → Bool) → List EntryProgress → List Entry
entries test list = map (λ c. c.entry) (filter test list)

entries_append : (test : EntryProgress → Bool) (log more : List EntryProgress) → entries test (log ++ more) ≡ entries test log ++ entries test more
entries_append test log more = ap (map (λ (c : EntryProgress). c.entry)) (filter-append test log more) ∙ map-append (λ (c : EntryProgress). c.entry) (filter test log) (filter test more)

-- of two that run nothing, the second without first entries, the entries of both logs
entries_joined : (test : EntryProgress → Bool) (first nothing : List Entry) (log more run last : List EntryProgress) → run ≡ [] → last ≡ [] → nothing ≡ []
    → first ++ entries test ((log ++ more) ++ run) ≡ (first ++ entries test (log ++ run)) ++ (nothing ++ entries test (more ++ last))
entries_joined test first nothing log more run last idle rests without =
    subst (λ (r : List EntryProgress). first ++ entries test ((log ++ more) ++ r) ≡ (first ++ entries test (log ++ r)) ++ (nothing ++ entries test (more ++ last))) (sym idle)
    (subst (λ (l : List EntryProgress). first ++ entries test ((log ++ more) ++ []) ≡ (first ++ entries test (log ++ [])) ++ (nothing ++ entries test (more ++ l))) (sym rests)
    (subst (λ (n : List Entry). first ++ entries test ((log ++ more) ++ []) ≡ (first ++ entries test (log ++ [])) ++ (n ++ entries test (more ++ []))) (sym without)
    (ap (λ (list : List EntryProgress). first ++ entries test list) (append-nil (log ++ more))
    ∙ ap (λ (list : List Entry). first ++ list) (entries_append test log more)
    ∙ sym (append_assoc first (entries test log) (entries test more))
    ∙ ap₂ (λ (x y : List EntryProgress). (first ++ entries test x) ++ entries test y) (sym (append-nil log)) (sym (append-nil more)))))

-- ---- what both did together

rows_same : {X : Type 0} (x y z : List X) → x ≡ y ++ z → x ++ [] ≡ y ++ (z ++ [])
rows_same {X} x y z e = append-nil x ∙ e ∙ ap (λ (list : List X). y ++ list) (sym (append-nil z))

rows_permuted : {X : Type 0} (x y z : List X) → x ≡ y ++ z → IsPermutation (x ++ []) (y ++ (z ++ []))
rows_permuted {X} x y z e = subst (IsPermutation (x ++ [])) (rows_same x y z e) (IsPermutation-refl (x ++ []))

given_joined : (k : ℕ) (xs ys : List Given) → given_by k (xs ++ ys) ≡ given_by k xs ++ given_by k ys
given_joined k xs ys =
    ap (map (λ (g : Given). g.reference)) (filter-append (λ (g : Given). g.cursor == k) xs ys) ∙ map-append (λ (g : Given). g.reference) _ _

-- what was taken does not depend on when
portions_joined : (n : ℕ) (first more : List Portion) → more ≡ [] → (xs ys : List Taken)
    → first ++ map portion_of (xs ++ shifted_taken n ys) ≡ (first ++ map portion_of xs) ++ (more ++ map portion_of ys)
portions_joined n first more nothing xs ys =
    ap (λ (list : List Portion). first ++ list)
    (map-append portion_of xs (shifted_taken n ys)
    ∙ ap (λ (list : List Portion). map portion_of xs ++ list) (map_after (λ (t : Taken). record t { moment = shifted n t.moment }) portion_of (λ t. refl) ys))
    ∙ (sym (append_assoc first (map portion_of xs) (map portion_of ys))
    ∙ ap (λ (list : List Portion). (first ++ map portion_of xs) ++ (list ++ map portion_of ys)) (sym nothing))

-- an actor that runs nothing has in a sum what it has spent
rests_cost : (name : List ℕ) (a : Actor) → a.entries.running ≡ [] → summed_cost name a ≡ cost_of a.units.costs name
rests_cost name a rests =
    let nothing : (if length (filter (λ c. c.summed) a.entries.running) == 0 then 0 else cost_of a.units.held name) ≡ 0 =
    ap (λ (run : List EntryProgress). if length (filter (λ c. c.summed) run) == 0 then 0 else cost_of a.units.held name) rests in
    omega (arith, nothing)

-- a recorder that may be joined, and an opener that joins it
pub record Joins (a b : Actor) : Type 0 where
  pub idle : a.hand.place ≡ Idle
  pub free : is_bound b.hand.place ≡ false
  pub runs : a.entries.running ≡ []
  pub rests : b.entries.running ≡ []
  pub holds : b.units.held ≡ []
  pub begins : b.entries.first ≡ []
  pub takes : b.deltas.first_taken ≡ []
  pub owes : b.answers.owed ≡ []

module _ (a b : Actor) (may : Joins a b) where
  joined_counted : counted_of (joined a b) ≡ counted_of a ++ counted_of b
  joined_counted = entries_joined is_counted a.entries.first b.entries.first a.entries.log b.entries.log a.entries.running b.entries.running may.runs may.rests may.begins

  joined_summed : summed_of (joined a b) ≡ summed_of a ++ summed_of b
  joined_summed = entries_joined is_summed a.entries.first b.entries.first a.entries.log b.entries.log a.entries.running b.entries.running may.runs may.rests may.begins

  joined_taken : taken_of (joined a b) ≡ taken_of a ++ taken_of b
  joined_taken = portions_joined (length (log_of a)) a.deltas.first_taken b.deltas.first_taken may.takes a.deltas.taken b.deltas.taken

  joined_moving : (name : List ℕ) (key : ℤ) → moving_at (joined a b) name key a.hand.place + 0 ≡ moving_at a name key a.hand.place + moving_at b name key b.hand.place
  joined_moving name key =
      let now = ap (moving_at (joined a b) name key) may.idle in
      let was = ap (moving_at a name key) may.idle in
      let nothing = rests_at b name key b.hand.place (λ look bucket units moving. cc (may.free, ap is_bound moving)) in
      omega (arith, now, was, nothing)

  pub joined_deeds : Deeds (a ∷ b ∷ []) (joined a b ∷ spent ∷ [])
  joined_deeds = record {
    counted = rows_permuted _ _ _ joined_counted;
    summed = λ name. ap (λ (list : List Entry). tally_sum list name) (rows_same (summed_of (joined a b)) (summed_of a) (summed_of b) joined_summed);
    noted = rows_permuted _ _ _ (entries_joined is_noted [] [] a.entries.log b.entries.log a.entries.running b.entries.running may.runs may.rests refl);
    claimed = rows_permuted _ _ _ refl;
    published = rows_permuted _ _ _ refl;
    names = rows_permuted _ _ _ refl;
    owed = rows_permuted _ _ _ (sym (ap (λ (more : List Known). a.answers.owed ++ more) may.owes ∙ append-nil a.answers.owed));
    given = λ k. rows_permuted _ _ _ (given_joined k a.done.given b.done.given);
    taken = rows_permuted _ _ _ joined_taken;
    taken_sums = λ name. ap (λ (list : List Portion). taken_sum list name) (rows_same (taken_of (joined a b)) (taken_of a) (taken_of b) joined_taken);
    moving = λ name key. let same = joined_moving name key in omega (arith, same);
    costs = λ name.
        let now = rests_cost name (joined a b) may.runs in
        let first = rests_cost name a may.runs in
        let second = rests_cost name b may.rests in
        let all = sum_by-append (λ (cost : Cost). if bytes_eq cost.name name then cost.units else 0) a.units.costs b.units.costs in
        omega (arith, now, first, second, all);
    units = (
        let all = sum_by-append (λ (cost : Cost). cost.units) a.units.costs b.units.costs in
        let nothing : cost_total b.units.held ≡ 0 = ap cost_total may.holds in
        omega (arith, all, nothing));
    spoiled = or-false (a.done.spoiled || b.done.spoiled);
    filled = or-false (a.done.filled || b.done.filled);
    noticed = or-false (a.seen.corrupt || b.seen.corrupt);
  }

-- ---- what both have seen

-- the later of two free pointers is no later than the present one
later_free : (m n free : ℕ) → Behind m free → Behind n free → Behind (max m n) free
later_free m n free first second = later (dec_le m n)
  where
    later : Dec (m ≤ n) → Behind (max m n) free
    later (yes below) = subst (λ (seen : ℕ). Behind seen free) (let e : n ≡ max m n = omega (arith, below) in e) second
    later (no above) = subst (λ (seen : ℕ). Behind seen free) (let e : m ≡ max m n = omega (arith, above) in e) first

-- the longer of two fronts of a list is one, and has both in it
module _ (chain xs ys : List ℕ) (first : IsPrefix xs chain) (second : IsPrefix ys chain) where
  pub longer_front : IsPrefix (longer xs ys) chain
  longer_front = front (nat_lt (length xs) (length ys))
    where
      front : (b : Bool) → IsPrefix (if b then ys else xs) chain
      front true = second
      front false = first

  pub longer_first : (x : ℕ) → Contains xs x → Contains (longer xs ys) x
  longer_first x there = has (nat_lt (length xs) (length ys)) refl
    where
      has : (b : Bool) → nat_lt (length xs) (length ys) ≡ b → Contains (if b then ys else xs) x
      has true e =
          let below = ltb-true (length xs) (length ys) e in
          let front = front_of_front xs first.0 ys second.0 (sym first.1 ∙ second.1) (omega (arith, below)) in
          subst (λ (list : List ℕ). Contains list x) (sym front.1) (Contains-append_left xs front.0 x there)
      has false e = there

  pub longer_second : (x : ℕ) → Contains ys x → Contains (longer xs ys) x
  longer_second x there = has (nat_lt (length xs) (length ys)) refl
    where
      has : (b : Bool) → nat_lt (length xs) (length ys) ≡ b → Contains (if b then ys else xs) x
      has true e = there
      has false e =
          let front = front_of_front ys second.0 xs first.0 (sym second.1 ∙ first.1) (ltb-false (length xs) (length ys) e) in
          subst (λ (list : List ℕ). Contains list x) (sym front.1) (Contains-append_left ys front.0 x there)

-- ---- words that were seen

-- a word that was seen first is still seen first if more is seen
seen_before : (xs ys : List Sighting) (at word : ℕ) → word_seen xs at ≡ Some word → word_seen (xs ++ ys) at ≡ Some word
seen_before [] ys at word e = absurd (cc e)
seen_before (s ∷ xs) ys at word e = here (s.at == at) (seen_before xs ys at word) e
  where
    here : (b : Bool) → (word_seen xs at ≡ Some word → word_seen (xs ++ ys) at ≡ Some word)
        → (if b then Some s.word else word_seen xs at) ≡ Some word → (if b then Some s.word else word_seen (xs ++ ys) at) ≡ Some word
    here true behind e = e
    here false behind e = behind e

-- a word that was seen was seen there
seen_there : (xs : List Sighting) (at word : ℕ) → word_seen xs at ≡ Some word → (s : Sighting) × Contains xs s × (s.at ≡ at) × (s.word ≡ word)
seen_there [] at word e = absurd (cc e)
seen_there (s ∷ xs) at word e = here (s.at == at) refl (seen_there xs at word) e
  where
    here : (b : Bool) → (s.at == at) ≡ b
        → (word_seen xs at ≡ Some word → (t : Sighting) × Contains xs t × (t.at ≡ at) × (t.word ≡ word))
        → (if b then Some s.word else word_seen xs at) ≡ Some word
        → (t : Sighting) × Contains (s ∷ xs) t × (t.at ≡ at) × (t.word ≡ word)
    here true same behind e = (s, Contains-append_left (s ∷ []) xs s (0, omega arith, refl), eqb-true s.at at same, ap (λ (o : Option ℕ). unwrap_or o 0) e)
    here false apart behind e =
        let found = behind e in
        (found.0, Contains-append_right (s ∷ []) xs found.0 found.1, found.2, found.3)

-- and also if other sightings come before it, of which those of the same place are of the same word
seen_behind : (xs ys : List Sighting) (at word : ℕ) → ((s : Sighting) → Contains xs s → s.at ≡ at → s.word ≡ word)
    → word_seen ys at ≡ Some word → word_seen (xs ++ ys) at ≡ Some word
seen_behind [] ys at word same e = e
seen_behind (s ∷ xs) ys at word same e = here (s.at == at) refl
    (seen_behind xs ys at word (λ t there. same t (Contains-append_right (s ∷ []) xs t there)) e)
  where
    here : (b : Bool) → (s.at == at) ≡ b → word_seen (xs ++ ys) at ≡ Some word → (if b then Some s.word else word_seen (xs ++ ys) at) ≡ Some word
    here true found behind = ap Some (same s (Contains-append_left (s ∷ []) xs s (0, omega arith, refl)) (eqb-true s.at at found))
    here false apart behind = behind

-- at one place one word was seen
one_word : (shape : Dimensions) (words : List ℕ) (anatomy : Anatomy) → IsShown shape words (layout_of anatomy) → (s t : Sighting)
    → WasFixed anatomy.pieces s → WasFixed anatomy.pieces t → s.at ≡ t.at → s.word ≡ t.word
one_word shape words anatomy shown s t first second same =
    let p : Piece = record { at = first.0; owner = none; body = first.2 } in
    let q : Piece = record { at = second.0; owner = none; body = second.2 } in
    let place : first.0 + first.1 ≡ second.0 + second.1 = sym first.4 ∙ same ∙ second.4 in
    let index = one_index shape words anatomy shown first.3.0 second.3.0 p q first.1 second.1 first.3.1 second.3.1
    (fixed_within first.2 first.1 first.5) (fixed_within second.2 second.1 second.5) place in
    let piece : p ≡ q = some-injective p q (sym first.3.1 ∙ ap (get_elem? anatomy.pieces) index ∙ second.3.1) in
    let begins = ap (λ (piece : Piece). piece.at) piece in
    let offset : first.1 ≡ second.1 = omega (arith, place, begins) in
    sym first.6 ∙ ap₂ (λ (body : Body) (i : ℕ). slice_index (words_of body) i) (ap (λ (piece : Piece). piece.body) piece) offset ∙ second.6

-- ---- what both have sampled

module _ (shape : Dimensions) (words : List ℕ) (anatomy : Anatomy) (shown : IsShown shape words (layout_of anatomy)) (cursors : List ℕ)
    (a b : Actor) (mine : Sees anatomy cursors a.seen) (theirs : Sees anatomy cursors b.seen) where
  -- a word that the recorder saw the opener sees then
  joined_word : (at word : ℕ) → word_seen b.seen.words at ≡ Some word → word_seen (a.seen.words ++ b.seen.words) at ≡ Some word
  joined_word at word e =
      let there = seen_there b.seen.words at word e in
      seen_behind a.seen.words b.seen.words at word
      (λ s has here. one_word shape words anatomy shown s there.0
      (All-contains (WasFixed anatomy.pieces) a.seen.words s mine.fixed has)
      (All-contains (WasFixed anatomy.pieces) b.seen.words there.0 theirs.fixed there.1)
      (here ∙ sym there.2) ∙ there.3) e

  -- both have visited what each has
  pub joined_sees : Sees anatomy cursors (both_seen a.seen b.seen)
  joined_sees = record {
    free = later_free a.seen.free b.seen.free (free_of anatomy) mine.free theirs.free;
    walked = longer_front (order_of anatomy) a.seen.chain b.seen.chain mine.walked theirs.walked;
    tails = All-append (λ place. IsNoLater (order_of anatomy) place anatomy.tail) a.seen.tails b.seen.tails mine.tails theirs.tails;
    singles = All-append (WasSingle anatomy.version anatomy.pieces) a.seen.singles b.seen.singles mine.singles theirs.singles;
    counters = All-append (WasCounter anatomy.pieces) a.seen.counts b.seen.counts mine.counters theirs.counters;
    in_use = All-append (WasInUse anatomy.pieces) a.seen.counts b.seen.counts mine.in_use theirs.in_use;
    met = All-append (WasMet anatomy.pieces (both_seen a.seen b.seen)) a.seen.counts b.seen.counts
        (All-weaker (WasMet anatomy.pieces a.seen) (WasMet anatomy.pieces (both_seen a.seen b.seen))
        (met_more anatomy.pieces a.seen (both_seen a.seen b.seen) (longer_first (order_of anatomy) a.seen.chain b.seen.chain mine.walked theirs.walked)
        (seen_before a.seen.words b.seen.words)) a.seen.counts mine.met)
        (All-weaker (WasMet anatomy.pieces b.seen) (WasMet anatomy.pieces (both_seen a.seen b.seen))
        (met_more anatomy.pieces b.seen (both_seen a.seen b.seen) (longer_second (order_of anatomy) a.seen.chain b.seen.chain mine.walked theirs.walked)
        joined_word) b.seen.counts theirs.met);
    fixed = All-append (WasFixed anatomy.pieces) a.seen.words b.seen.words mine.fixed theirs.fixed;
    shared = All-append (λ (s : Sighting). (s.at < length cursors) × IsNoLater (order_of anatomy) s.word (slice_index cursors s.at)) a.seen.cursors b.seen.cursors mine.shared theirs.shared;
  }

  -- an entry of either has a sample that the opener has then visited
  abbrev Met : Actor → Entry → ℕ → Type 0
  Met c entry of = (at : ℕ) × IsFirstOf anatomy.records of entry.key at × Contains c.seen.chain at × SawSample c.seen of entry.key at

  first_met : (entry : Entry) (of : ℕ) → Met a entry of → Met (joined a b) entry of
  first_met entry of met = (
    met.0,
    met.1,
    longer_first (order_of anatomy) a.seen.chain b.seen.chain mine.walked theirs.walked met.0 met.2,
    (seen_before a.seen.words b.seen.words _ _ met.3.0, seen_before a.seen.words b.seen.words _ _ met.3.1, seen_before a.seen.words b.seen.words _ _ met.3.2, met.3.3),
  )

  second_met : (entry : Entry) (of : ℕ) → Met b entry of → Met (joined a b) entry of
  second_met entry of met = (
    met.0,
    met.1,
    longer_second (order_of anatomy) a.seen.chain b.seen.chain mine.walked theirs.walked met.0 met.2,
    (joined_word _ _ met.3.0, joined_word _ _ met.3.1, joined_word _ _ met.3.2, met.3.3),
  )

  pub joined_calls : Joins a b → a.deltas.taking ≡ false → CallsRight anatomy a → CallsRight anatomy b → CallsRight anatomy (joined a b)
  joined_calls may takes first second = record {
    ordered = first.ordered;
    within = λ some_run. absurd (some_run may.runs);
    held = first.held;
    ended = All-append (λ (c : EntryProgress). has_ended c ≡ true) a.entries.log b.entries.log first.ended second.ended;
    spent = λ name.
        let logs = ap (λ (entries : List Entry). tally_noted entries name) (map-append (λ (c : EntryProgress). c.entry) a.entries.log b.entries.log) in
        let both = noted_total name (map (λ (c : EntryProgress). c.entry) a.entries.log) (map (λ (c : EntryProgress). c.entry) b.entries.log) in
        let costs = sum_by-append (λ (cost : Cost). if bytes_eq cost.name name then cost.units else 0) a.units.costs b.units.costs in
        let one = first.spent name in
        let two = second.spent name in
        omega (arith, logs, both, costs, one, two);
    met = λ entry of there units is. ⊎_elim
        (λ old. first_met entry of (first.met entry of (Contains-append_left a.entries.inherited (counted_of a) entry old) units is))
        (λ now. ⊎_elim
        (λ own. first_met entry of (first.met entry of (Contains-append_right a.entries.inherited (counted_of a) entry own) units is))
        (λ other. second_met entry of (second.met entry of (Contains-append_right b.entries.inherited (counted_of b) entry other) units is))
        (Contains-append_cases (counted_of a) (counted_of b) entry (subst (λ (list : List Entry). Contains list entry) (joined_counted a b may) now)))
        (Contains-append_cases a.entries.inherited (counted_of (joined a b)) entry there);
    taking = λ e. absurd (true≢false (sym e ∙ takes));
  }

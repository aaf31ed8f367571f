-- That the rule of a segment's table allows what becomes of seats: a table is opened, units are offered, a recorder is made and joined, a
-- purse is filled and poured out.
use Rattle.std.proofs.Common.{◌≡◌, ◌≢◌, ◌⊎◌, ℕ, ◌≤◌, Bool, false, true, true≢false, if◌then◌else◌, sum_by, ◌==◌, ◌+◌, slice_index, slice_set, List, [], ◌∷◌, length, take, drop, replicate, refl, sym, ap, subst, ◌∙◌, arith}
use Rattle.std.proofs.lemmas.List.{length-append, length-replicate}
use mathlib.Core.Option.{none, some, some-injective}
use lib.ListN.{get_elem?}
use lib.Seq.{set-get_or, take-append_seam}
use prog.Atomic.{either}
use Rattle.atomic_table.specs.Table.{step, opening, keeps, stepped, Allows, Splits, Joins, Final, Seen}
use Rattle.atomic_table.proofs.Lists.{exchanged, set_again, set_else}
use Rattle.segment_image.specs.Image.{blank_words}
use Rattle.segment_image.specs.Shape.{Dimensions}
use Rattle.alloc_core.specs.Layout.{IsShape}
use Rattle.alloc_core.proofs.Layouts.{length_shown}
use Rattle.segment_machine.specs.declared.actor.Actor.{Actor}
use Rattle.segment_machine.specs.declared.place.Place.TheVariants.{Spent}
use Rattle.segment_machine.specs.declared.actor.Role.{Role}
use Rattle.segment_machine.specs.declared.actor.Role.TheVariants as role
use Rattle.segment_machine.specs.Actor.{is_bound, is_opener, made_of, offered_of, outstanding_of, cost_total, units_of}
use Rattle.segment_machine.specs.Seats.{MayOffer, offering, MaySplit, parent, newcomer, giver, getter, purse, MayFill, lender, MayPour, joined, spent}
use Rattle.segment_machine.specs.State.{State, memory}
use Rattle.segment_machine.specs.Reached.{new_state, IsReached}
use Rattle.segment_invariant.specs.Body.{Anatomy, blank, layout_of}
use Rattle.segment_invariant.specs.Invariant.{Invariant, is_living, RolesAreKept}
use Rattle.segment_invariant.proofs.Openings.Segments.{opening_is_kept, new_is_opening}
use Rattle.segment_invariant.proofs.Frames.OneActor.{lives_on}
use Rattle.segment_invariant.proofs.Frames.Roles.{opens_first}
use Rattle.segment_invariant.proofs.Lists.Elements.{sum_at_least}
use Rattle.segment_promises.specs.Follows.{Running}
use Rattle.segment_promises.proofs.Tables.{tables_open, tables_close, tables_offer, tables_split, tables_join, tables_fill, tables_pour}
use Rattle.live_segment.specs.declared.rule.Announcement.{Announcement}
use Rattle.live_segment.specs.declared.rule.Announcement.TheVariants.{Units}
use Rattle.live_segment.specs.declared.rule.Opening.{Opening}
use Rattle.live_segment.specs.declared.rule.Setting.{Setting}
use Rattle.live_segment.specs.declared.segment.Segment.{Segment}
use Rattle.live_segment.specs.declared.opener.Opener.{Opener}
use Rattle.live_segment.specs.Holders.{opened_with, view_of_opener}
use Rattle.live_segment.specs.Rule.{Closes, IsKeptOpening, Runs, first_view, opener_for, opener_of_words, opening_state, words_of}
use Rattle.live_segment.specs.Steps.{Pass, Sat, IsAtRest, Joinable, Offers, Bounds}
use Rattle.live_segment.proofs.Seating.Openings.{allows, joins_all, splits_all}

-- an exchange of 0 for 0 changes nothing
pub nothing_exchanged : (n : ℕ) → either (n == 0) 0 n ≡ n
nothing_exchanged n = exchanged n 0 0 (λ x. x ≡ n) (λ e. sym e) (λ _. refl)

-- ---- opened and closed

-- the words of a kept state are as many as the segment has
front_of : (shape : Dimensions) (opened : Anatomy) (state : State) → Invariant shape opened state → take shape.size (memory state) ≡ state.words
front_of shape opened state kept =
    ap (λ (n : ℕ). take n (memory state)) (sym (length_shown shape state.words (layout_of kept.anatomy) kept.shown))
    ∙ take-append_seam state.words state.cursors

pub opens : (given : Opening) (words : List ℕ) → IsKeptOpening given → words ≡ given.words.items → Runs given (opening words [] (opener_for given))
opens given words is same = record {
  opened = is.opened;
  as_said = is.as_said;
  start = is.kept;
  running = subst (λ (ws : List ℕ). Running Announcement given.setting.shape is.opened (opening_state given) (opening {S = Announcement} ws [] (opener_for given))) (sym (same ∙ is.words))
      (tables_open Announcement given.setting.shape is.opened (opening_state given) (opener_for given) 0 [] is.kept refl);
}

-- its words are the first one, those of the segment and those of the shared cursors
pub many_opened : (given : Opening) → IsKeptOpening given → length given.words.items ≡ given.setting.shape.size + 1 + given.setting.cursors
many_opened given is =
    let cursors : List ℕ = replicate given.setting.cursors 12 in
    let all = ap length is.words in
    let both = length-append (words_of given) cursors in
    let front = length_shown given.setting.shape (words_of given) (layout_of is.kept.anatomy) is.kept.shown in
    let behind = length-replicate {A = ℕ} given.setting.cursors 12 in
    omega (arith, all, both, front, behind)

-- blank words, which have no list, open a new segment, whose opener has done nothing
module _ (given : Opening) (shaped : IsShape given.setting.shape) (versioned : (given.setting.version ≡ 1) ⊎ (given.setting.version ≡ 2))
    (not_full : given.setting.full ≡ false) (none : given.references.items ≡ [])
    (same : given.words.items ≡ 0 ∷ memory (new_state given.setting.shape given.setting.version given.setting.id given.setting.cursors)) where
  abbrev new : State
  new = new_state given.setting.shape given.setting.version given.setting.id given.setting.cursors

  kept_new : Invariant given.setting.shape (blank given.setting.version given.setting.id given.setting.shape.size) new
  kept_new = opening_is_kept given.setting.shape given.setting.version given.setting.id given.setting.cursors shaped versioned

  new_words : words_of given ≡ new.words
  new_words = ap (λ (ws : List ℕ). take given.setting.shape.size (drop 1 ws)) same ∙ front_of given.setting.shape _ new kept_new

  pub blank_but_for_version : words_of given ≡ slice_set (blank_words given.setting.shape.size given.setting.shape.page given.setting.id) 1 given.setting.version
  blank_but_for_version = new_words

  pub opener_is_first : opener_for given ≡ first_view given.setting
  opener_is_first i = opener_of_words given.setting (new_words i) (none i)

  state_is_new : opening_state given ≡ new
  state_is_new i = record { words = new_words i; cursors = new.cursors; actors = opener_is_first i ∷ [] }

  pub opens_new : IsKeptOpening given
  opens_new = record {
    opened = blank given.setting.version given.setting.id given.setting.shape.size;
    as_said = record {
      opens = (new_is_opening given.setting.shape given.setting.version given.setting.id shaped versioned).0;
      words = sym new_words;
      version = refl;
      id = refl;
      intact = refl;
      full = sym not_full;
    };
    kept = subst (Invariant given.setting.shape (blank given.setting.version given.setting.id given.setting.shape.size)) (sym state_is_new) kept_new;
    words = same ∙ ap (λ (state : State). 0 ∷ memory state) (sym state_is_new);
  }

-- the words of a closed table after the first one, as many as the segment has, are those of a kept state
closes_as : (given : Opening) (words image : List ℕ) (xs : List Announcement) (opener : Actor)
    → Final (Seen (Runs given) 0 opener) words xs → image ≡ take given.setting.shape.size (drop 1 words) → Closes given opener image
closes_as given words image xs opener (s, (run, seen), stands, many, homes) same =
    let shape = given.setting.shape in
    let (anchor, state, all, reached, kept, first) = tables_close Announcement shape run.opened (opening_state given) words xs opener (s, (run.running, seen), stands, many, homes) in record {
      state = state;
      words_are = same ∙ (ap (λ (ws : List ℕ). take shape.size (drop 1 ws)) all ∙ front_of shape run.opened state kept);
      opened = run.opened;
      as_said = run.as_said;
      start = run.start;
      come = subst (λ (version : ℕ). IsReached version (opening_state given) state) run.as_said.version reached;
      kept = kept;
      stands = first;
    }

-- the first ones, as many as the segment has, were copied into a row, and the row was cut after them
pub closes : (segment : Segment) (opener : Opener) (seat : Pass) (words row image : List ℕ) (xs : List Announcement) (i size : ℕ)
    → seat ≡ opener.seat → Final (Seen (Runs (opened_with segment)) seat.id seat.me.0) words xs
    → size ≤ i → i ≤ size → size ≡ segment.setting.shape.size → take i row ≡ take i (drop 1 words) → image ≡ take size row
    → Closes (opened_with segment) (view_of_opener opener) image
closes segment opener seat words row image xs i size seated final from to all copied cut =
    let given = opened_with segment in
    let many : size ≡ given.setting.shape.size = all ∙ ap (λ (s : Setting). s.shape.size) (sym segment.keyed) in
    let ended : i ≡ size = omega arith in
    let whole = subst (λ (n : ℕ). take n row ≡ take n (drop 1 words)) (ended ∙ many) copied in
    let first : seat.id ≡ 0 = ap (λ (s : Pass). s.id) seated ∙ opener.opens.0 in
    let placed = subst (λ (n : ℕ). Final (Seen (Runs given) n seat.me.0) words xs) first final in
    closes_as given words image xs (view_of_opener opener)
    (subst (λ (s : Pass). Final (Seen (Runs given) 0 s.me.0) words xs) seated placed)
    (cut ∙ (ap (λ (n : ℕ). take n row) many ∙ whole))

module _ (given : Opening) (slots id : ℕ) (me : Sat) where
  pub offers : (units : ℕ) → MayOffer me.0 units
      → Allows (Runs given) slots id me 0 (λ n. either (n == 0) 0 n) (Offers (step slots 0 0 0 (some (Units units))) me)
  offers units may s run wide mine small =
      let (view, act, valid, holds, told) =
      allows given slots id me 0 (λ n. either (n == 0) 0 n) (λ found me'. (me'.0 ≡ offering me.0 units) × (me'.1 ≡ me.1))
      (λ opened as_said. tables_offer Announcement given.setting.shape opened (opening_state given) units slots id me (λ n. either (n == 0) 0 n) nothing_exchanged may) s run wide mine small in
      (view, act, valid, holds, λ said e. (told.0 ∙ ap (λ (n : ℕ). offering me.0 n) (same said e), told.1))
    where
      units_said : Announcement → ℕ
      units_said (Units n) = n
      units_said _ = 0

      same : (said : ℕ) → some (Units units) ≡ some (Units said) → units ≡ said
      same said e = ap units_said (some-injective (Units units) (Units said) e)

  pub bounds : Allows (Runs given) slots id me 0 (λ n. n) (Bounds (step slots 0 0 0 none) me)
  bounds s run wide mine small =
      let there : get_elem? run.running.segment.actors id ≡ some me.0 = ap (λ list. get_elem? list id) (sym run.running.views) ∙ mine in
      let all : sum_by units_of run.running.segment.actors ≡ 4294967295 = run.running.kept.pool in
      let part : units_of me.0 ≤ sum_by units_of run.running.segment.actors = sum_at_least units_of run.running.segment.actors id me.0 there in
      let first = set-get_or s.words 0 0 in
      let view = set_again s.views id me.0 mine in
      let same : stepped s 0 (slice_index s.words 0) id me.1 me.0 keeps ≡ s = λ i. record { words = first i; homes = s.homes; views = view i } in
      let few : units_of me.0 ≤ 4294967295 = subst (λ (n : ℕ). units_of me.0 ≤ n) all part in
      (me.0, keeps, tt, subst (Runs given) (sym same) run, (refl, refl, most me.0.units.share (cost_total me.0.units.costs) (cost_total me.0.units.held) few))
    where
      most : (share costs held : ℕ) → share + costs + held ≤ 4294967295 → share ≤ 4294967295
      most share costs held few = omega arith

pub splits : (given : Opening) (id : ℕ) (a : Actor) → MaySplit a → Splits (Runs given) id a (parent a) (newcomer a)
splits given id a may = splits_all given id a (parent a) (newcomer a) (λ opened. tables_split Announcement given.setting.shape opened (opening_state given) id a may)

pub fills : (given : Opening) (id : ℕ) (a : Actor) → MayFill a → Splits (Runs given) id a (lender a) (purse (offered_of a.role))
fills given id a may =
    splits_all given id a (lender a) (purse (offered_of a.role)) (λ opened. tables_fill Announcement given.setting.shape opened (opening_state given) id a may)

pub pours : (given : Opening) (id other : ℕ) (b c : Actor) → MayPour b c → Joins (Runs given) id b other c (getter b c.units.share) spent
pours given id other b c may =
    joins_all given id other b c (getter b c.units.share) spent (λ opened. tables_pour Announcement given.setting.shape opened (opening_state given) id other b c may)

-- a recorder at rest may get what is in a purse
pub may_get : (a c : Actor) (units : ℕ) → IsAtRest a → c ≡ purse units → MayPour a c
may_get a c units rest is =
    (rest.recorder, λ e. true≢false (sym (ap is_bound e) ∙ rest.free), subst (λ (x : Actor). x ≡ purse x.units.share) (sym is) refl)

-- an opener that offers nothing has the same role when it has offered units and put them into a purse
same_role : (r : Role) → is_opener r ≡ true → offered_of r ≡ 0 → role.Opener (made_of r) (outstanding_of r) 0 ≡ r
same_role (role.Opener made outstanding offered) opens nothing = ap (role.Opener made outstanding) (sym nothing)
same_role (role.Recorder before outstanding) opens nothing = absurd (cc opens)

-- so it has given them, and nothing else
pub gives : (a b c : Actor) (units : ℕ) → is_opener a.role ≡ true → offered_of a.role ≡ 0 → b ≡ offering a units → c ≡ lender b → c ≡ giver a units
gives a b c units opens nothing offered filled =
    filled ∙ (ap lender offered ∙ ap (λ (r : Role). record (giver a units) { role = r }) (same_role a.role opens nothing))

-- an opener has a recorder outstanding while there is a recorder at rest
stands_out : (actors : List Actor) (roles : RolesAreKept actors) (id other : ℕ) (a b : Actor) → get_elem? actors id ≡ some a
    → get_elem? actors other ≡ some b → is_opener a.role ≡ true → IsAtRest b → 1 ≤ outstanding_of a.role
stands_out actors roles id other a b there beside opener rest =
    let live : b.hand.place ≢ Spent = λ e. true≢false (sym (ap is_bound e) ∙ rest.free) in
    let counts = λ (c : Actor). if is_living c then 1 else 0 in
    let lives : is_living b ≡ true = lives_on b rest.recorder live in
    let part : counts b ≤ sum_by counts actors = sum_at_least counts actors other b beside in
    let mine : sum_by counts actors ≡ outstanding_of a.role = roles.living ∙ ap (λ (c : Actor). outstanding_of c.role) (opens_first actors roles id a there opener).1 in
    subst (λ (n : ℕ). 1 ≤ n) mine (subst (λ (x : Bool). (if x then 1 else 0) ≤ sum_by counts actors) lives part)

pub joins : (given : Opening) (id other : ℕ) (a b : Actor) → Joinable a b → Joins (Runs given) id a other b (joined a b) spent
joins given id other a b may s run mine apart theirs =
    let seg = run.running.segment in
    let there : get_elem? seg.actors id ≡ some a = ap (λ list. get_elem? list id) (sym run.running.views) ∙ mine in
    let beside : get_elem? seg.actors other ≡ some b =
    ap (λ list. get_elem? list other) (sym run.running.views) ∙ (sym (set_else s.views id other (joined a b) apart) ∙ theirs) in
    let (idle, opener, rest) = may in
    let one : 1 ≤ outstanding_of a.role = stands_out seg.actors run.running.kept.roles id other a b there beside opener rest in
    joins_all given id other a b (joined a b) spent
    (λ opened. tables_join Announcement given.setting.shape opened (opening_state given) id other a b
    (idle, opener, one, rest.free, rest.recorder, rest.holds, rest.runs, rest.takes, rest.owes)) s run mine apart theirs

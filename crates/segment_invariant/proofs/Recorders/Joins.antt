-- A recorder that is joined keeps what holds.
use Rattle.segment_invariant.proofs.Prelude.Std.{◌≡◌, ◌≢◌, ℕ, ◌+◌, Bool, true, true≢false, List, [], ◌++◌, map, set, length, inl, refl, sym, ap, ◌∙◌, subst, subst₂, append_assoc, append-nil, arith, false, if◌then◌else◌, some, get_elem?, Contains, All, map-append, All-nil, All-append, set_else, set_here, none_at, sum_beside, below_length}
use Rattle.segment_invariant.proofs.Prelude.Machine.{Dimensions, Entry, EntryProgress, Spent, SumLoaded, Actor, Moment, Answered, Given, is_bound, log_of, is_opener, made_of, offered_of, outstanding_of, State}
use Rattle.segment_invariant.proofs.Prelude.Invariant.{IsWithinCounts, plain, histogram, Anatomy, order_of, is_living, RolesAreKept, StandsRight, Fits, Invariant, KeptOn, IsRightlyKnown}
use Rattle.std.proofs.lemmas.List.Elements.{All-map}
use Rattle.segment_invariant.proofs.Frames.Answers.{owes_more}
use Rattle.segment_machine.specs.Seats.{MayJoin, joined, spent, shifted, shifted_answers}
use Rattle.segment_invariant.specs.Keeps.{JoinsKeep}
use Rattle.segment_invariant.specs.Invariant.{IsMomentOf}
use Rattle.segment_invariant.proofs.Frames.OneActor.{lives_on}
use Rattle.segment_invariant.proofs.Frames.Anatomies.{grounds_along}
use Rattle.segment_invariant.proofs.Frames.Standing.{follows_itself, stands_on}
use Rattle.list_lemmas.proofs.Maps.{each_of_two}
use Rattle.segment_invariant.proofs.Frames.Deeds.{Deeds, deeds_set, sums_of}
use Rattle.segment_invariant.proofs.Frames.Together.{LoadedBefore}
use Rattle.segment_invariant.proofs.Frames.Books.{GivenInOrder, books_of, books_by, kept_by}
use Rattle.segment_invariant.proofs.Frames.Roles.{no_recorder, opens_nothing, Stood, AllStood, still_younger, still_apart, still_eldest, opens_first, fits_beside}
use Rattle.segment_invariant.proofs.Frames.Rises.{rises_reshaped}
use Rattle.segment_invariant.proofs.Frames.SumsRise.{sums_come}
use Rattle.segment_invariant.proofs.Recorders.PassedBlocks.{handed, free_passed, stays_passed, stands_left, books_passed, sees_passed, names_passed, calls_passed, fits_passed}
use Rattle.segment_invariant.proofs.Recorders.Joined.{Joins, joined_deeds, joined_sees, joined_calls}
use Rattle.segment_invariant.proofs.Recorders.Finals.{joined_finals, joined_own, joined_apart}

module _ (shape : Dimensions) (opened : Anatomy) (old : State) (kept : Invariant shape opened old) (other : ℕ) (b : Actor)
    (apart : 0 ≢ other) (there : get_elem? old.actors other ≡ some b) (may : MayJoin kept.roles.opener b) where
  abbrev opener : Actor
  opener = kept.roles.opener

  abbrev later : Actor
  later = joined opener b

  abbrev merged : List Actor
  merged = set (set old.actors 0 later) other spent

  abbrev anatomy : Anatomy
  anatomy = handed other 0 kept.anatomy

  away : other ≢ 0
  away e = apart (sym e)

  live : b.hand.place ≢ Spent
  live e = true≢false (sym (ap is_bound e) ∙ may.3)

  lives : is_living b ≡ true
  lives = lives_on b may.4 live

  opener_lives : opener.hand.place ≢ Spent
  opener_lives e = cc (sym kept.roles.idle ∙ e)

  joins : Joins opener b
  joins = record {
    idle = kept.roles.idle;
    free = may.3;
    runs = kept.roles.rests.0;
    rests = may.6;
    holds = may.5;
    begins = (kept.roles.only other b there away).1;
    takes = (kept.roles.only other b there away).3;
    owes = may.8;
  }

  deeds : Deeds old.actors merged
  deeds = deeds_set old.actors other opener b later spent apart kept.roles.stands there (joined_deeds opener b joins)

  first : get_elem? merged 0 ≡ some later
  first = set_else (set old.actors 0 later) other 0 spent apart
      ∙ set_here old.actors 0 later (below_length old.actors 0 opener kept.roles.stands)

  behind : get_elem? (set old.actors 0 later) other ≡ some b
  behind = set_else old.actors 0 other later away ∙ there

  -- the joined recorder does not live any more
  gone : (c : Actor) → get_elem? merged other ≡ some c → is_living c ≡ true → ⊥
  gone c at = each_of_two (λ k c. k ≡ other → is_living c ≡ true → ⊥) old.actors 0 other later spent
      (λ e. absurd (apart e))
      (λ e alive. true≢false (sym alive))
      (λ k c past front at e. absurd (past e))
      other c at refl

  stood : AllStood old.actors merged
  stood = each_of_two (λ k c. is_living c ≡ true → Stood old.actors k c) old.actors 0 other later spent
      (λ alive. absurd (opens_nothing later refl alive))
      (λ alive. absurd (true≢false (sym alive)))
      (λ k c past front at alive. record { was = c; at = at; lives = alive; made = refl; outstanding = refl; inherited = refl })

  -- ---- openers and recorders

  log_longer : log_of later ≡ log_of opener ++ map (λ (c : EntryProgress). c.entry) b.entries.log
  log_longer =
      ap (λ (list : List Entry). opener.entries.first ++ list) (map-append (λ (c : EntryProgress). c.entry) opener.entries.log b.entries.log)
      ∙ sym (append_assoc opener.entries.first (map (λ (c : EntryProgress). c.entry) opener.entries.log) (map (λ (c : EntryProgress). c.entry) b.entries.log))

  -- no recorder that lives, other than the joined one, was alone
  not_alone : (k : ℕ) (c : Actor) → get_elem? old.actors k ≡ some c → is_living c ≡ true → k ≢ other → outstanding_of c.role ≡ 0
      → made_of c.role + 1 ≡ made_of opener.role → ⊥
  not_alone k c at alive past nobody last =
      let below = kept.roles.eldest k other c b at there alive lives past nobody in
      let younger = kept.roles.younger other b there lives in
      omega (arith, below, younger, last)

  roles : RolesAreKept merged
  roles = record {
    opener = later;
    stands = first;
    opens = refl;
    idle = kept.roles.idle;
    rests = kept.roles.rests;
    only = each_of_two (λ k c. k ≢ 0 → (is_opener c.role ≡ false) × (c.entries.first ≡ []) × (c.entries.first_noted ≡ []) × (c.deltas.first_taken ≡ []) × (offered_of c.role ≡ 0)) old.actors 0 other later spent
        (λ ne. absurd (ne refl))
        (λ ne. (refl, refl, refl, refl, refl))
        (λ k c past front at ne. kept.roles.only k c at ne);
    offers = (let offers = kept.roles.offers in omega (arith, offers));
    living = (
        let one : Actor → ℕ = λ c. if is_living c then 1 else 0 in
        let now = sum_beside one (set old.actors 0 later) other b spent behind in
        let before = sum_beside one old.actors 0 opener later kept.roles.stands in
        let was = kept.roles.living in
        let opens : one opener ≡ 0 = ap (λ (lives : Bool). if lives then 1 else 0) (no_recorder opener kept.roles.opens) in
        let this : one b ≡ 1 = ap (λ (alive : Bool). if alive then 1 else 0) lives in
        omega (arith, now, before, was, this, opens));
    few = (let few = kept.roles.few in omega (arith, few));
    younger = still_younger old.actors merged kept.roles stood (made_of later.role) (omega arith);
    apart = still_apart old.actors merged kept.roles stood;
    eldest = still_eldest old.actors merged kept.roles stood;
    heirs = each_of_two
        (λ k c. is_living c ≡ true
        → (more : List Entry) × (log_of later ≡ c.entries.inherited ++ more) × (outstanding_of c.role ≡ 0 → made_of c.role + 1 ≡ made_of later.role → more ≡ []))
        old.actors 0 other later spent
        (λ alive. absurd (opens_nothing later refl alive))
        (λ alive. absurd (true≢false (sym alive)))
        (λ k c past front at alive.
        let was = kept.roles.heirs k c at alive in
        let entries = map (λ (x : EntryProgress). x.entry) b.entries.log in (
          was.0 ++ entries,
          log_longer ∙ ap (λ (list : List Entry). list ++ entries) was.1 ∙ append_assoc c.entries.inherited was.0 entries,
          λ nobody last. absurd (not_alone k c at alive past nobody last),
        ));
  }

  -- ---- each actor

  beside : (k : ℕ) (c : Actor) → Fits shape kept.anatomy old.cursors old.actors opener k c → Fits shape kept.anatomy old.cursors merged later k c
  beside k c = fits_beside shape kept.anatomy old.cursors old.actors merged opener later k c kept.roles.stands first refl (refl, refl) (sums_of old.actors merged deeds) stood

  mine : Fits shape kept.anatomy old.cursors merged later 0 opener
  mine = beside 0 opener (kept.each 0 opener kept.roles.stands opener_lives)

  theirs : Fits shape kept.anatomy old.cursors merged later other b
  theirs = beside other b (kept.each other b there live)

  -- the joined recorder was made after the moments of its opener, and inherited the opener's log if it was alone and is the youngest
  older : (m : Moment) → IsMomentOf opener m → m.outstanding ≡ 0 → m.before + 1 ≡ made_of later.role → ⊥
  older m of nobody last =
      let below = ((kept.each 0 opener kept.roles.stands opener_lives).finals.moments m of).eldest nobody other b there lives away in
      let younger = kept.roles.younger other b there lives in
      omega (arith, below, younger, last)

  heir : (m : Moment) → IsMomentOf b m → m.outstanding ≡ 0 → m.before + 1 ≡ made_of later.role → log_of opener ≡ b.entries.inherited
  heir m of nobody last =
      let (made, outstanding) = ((kept.each other b there live).finals.moments m of).mine may.4 in
      let (more, log, nothing) = kept.roles.heirs other b there lives in
      log ∙ (ap (λ (list : List Entry). b.entries.inherited ++ list) (nothing (sym outstanding ∙ nobody) (ap (λ (n : ℕ). n + 1) (sym made) ∙ last))
      ∙ append-nil b.entries.inherited)

  joined_fits : Fits shape anatomy old.cursors merged later 0 later
  joined_fits = record {
    shaped = mine.shaped;
    versioned = mine.versioned;
    numbered = mine.numbered;
    ahead = mine.ahead;
    sees = sees_passed other 0 kept.anatomy old.cursors later.seen (joined_sees shape old.words kept.anatomy kept.shown old.cursors opener b mine.sees theirs.sees);
    names = names_passed other 0 kept.anatomy later.answers.names (All-append (IsRightlyKnown kept.anatomy) opener.answers.names b.answers.names mine.names theirs.names);
    own = joined_own shape old.words kept.anatomy kept.shown other apart opener b mine.own theirs.own;
    apart = joined_apart shape old.words kept.anatomy kept.shown other apart opener b mine.own theirs.own mine.apart theirs.apart;
    owes = owes_more opener.done.published b.done.published opener.answers.owed mine.owes;
    calls = calls_passed other 0 kept.anatomy later
        (joined_calls shape old.words kept.anatomy kept.shown old.cursors opener b mine.sees theirs.sees joins kept.roles.rests.2 mine.calls theirs.calls);
    looks = λ records. absurd (true≢false records);
    finals = joined_finals merged later other opener b joins kept.roles.opens kept.roles.rests.2 may.7 older kept.roles.rests.3 heir gone mine.finals theirs.finals;
    snapshots = All-append (IsWithinCounts merged) opener.deltas.snapshots (shifted_answers (length (log_of opener)) b.deltas.snapshots) mine.snapshots
        (All-map (IsWithinCounts merged) (λ (s : Answered). record s { moment = shifted (length (log_of opener)) s.moment }) b.deltas.snapshots theirs.snapshots);
  }

  each : (k : ℕ) (c : Actor) → get_elem? merged k ≡ some c → c.hand.place ≢ Spent → Fits shape anatomy old.cursors merged later k c
  each = each_of_two (λ k c. c.hand.place ≢ Spent → Fits shape anatomy old.cursors merged later k c) old.actors 0 other later spent
      (λ alive. joined_fits)
      (λ alive. absurd (alive refl))
      (λ k c past front at alive. fits_passed other 0 kept.anatomy shape old.cursors merged later k c past (beside k c (kept.each k c at alive)))

  ordered : (k : ℕ) (c : Actor) → get_elem? merged k ≡ some c → is_opener c.role ≡ false → GivenInOrder (order_of anatomy) c.done.given
  ordered = each_of_two (λ k c. is_opener c.role ≡ false → GivenInOrder (order_of anatomy) c.done.given) old.actors 0 other later spent
      (λ records. absurd (true≢false records))
      (λ records i j k l x y below here. absurd (none_at i x here))
      (λ k c past front at. kept.cursors.ordered k c at)

  given : (k : ℕ) (c : Actor) → get_elem? merged k ≡ some c → All (λ g. Contains (order_of anatomy) g.reference) c.done.given
  given = each_of_two (λ k c. All (λ g. Contains (order_of anatomy) g.reference) c.done.given) old.actors 0 other later spent
      (All-append (λ (g : Given). Contains (order_of anatomy) g.reference) opener.done.given b.done.given
      (kept.cursors.given 0 opener kept.roles.stands) (kept.cursors.given other b there))
      (All-nil (λ (g : Given). Contains (order_of anatomy) g.reference))
      (λ k c past front at. kept.cursors.given k c at)

  standing : (k : ℕ) (c : Actor) → get_elem? merged k ≡ some c → StandsRight shape anatomy k c c.hand.place
  standing = each_of_two (λ k c. StandsRight shape anatomy k c c.hand.place) old.actors 0 other later spent
      (subst (StandsRight shape anatomy 0 later) (sym kept.roles.idle) tt)
      refl
      (λ k c past front here.
      stands_on shape kept.anatomy anatomy k c c
      (grounds_along kept.anatomy anatomy.pieces anatomy.spare anatomy.corrupt anatomy.full anatomy.tail (stays_passed other 0 kept.anatomy.pieces)
      k (λ at words. stands_left other 0 kept.anatomy.pieces k past at (plain words))) (follows_itself c) c.hand.place (kept.standing k c here))

  loaded : LoadedBefore old.actors merged
  loaded at sum = each_of_two
      (λ k c. c.hand.place ≡ SumLoaded at sum → (j : ℕ) × (d : Actor) × (get_elem? old.actors j ≡ some d) × (d.hand.place ≡ SumLoaded at sum))
      old.actors 0 other later spent
      (λ stands. (0, opener, kept.roles.stands, stands))
      (λ stands. absurd (cc stands))
      (λ k c past front is stands. (k, c, is, stands))

  pub join_kept : KeptOn shape opened kept (record old { actors = merged })
  unfolding roles
  join_kept = kept_by shape opened anatomy old.words old.cursors merged
      (books_passed other 0 kept.anatomy shape opened old.words old.cursors merged
      (books_by shape opened kept.anatomy old.words old.cursors old.actors merged deeds loaded (books_of shape opened old kept)))
      roles kept.first_noted ordered given standing each kept
      (rises_reshaped kept.anatomy anatomy.pieces anatomy.spare anatomy.corrupt anatomy.full anatomy.tail (stays_passed other 0 kept.anatomy.pieces)
      (inl (sym (free_passed other 0 kept.anatomy))) (λ seen no_later. no_later) (λ set. set) (λ set. set))
      (sums_come shape old.words kept.anatomy kept.shown anatomy.pieces old.actors merged (sums_of old.actors merged deeds).costs
      (λ at s there. (s, (stays_passed other 0 kept.anatomy.pieces).back at (histogram s) there, refl)))

pub joins_keep : JoinsKeep
joins_keep shape opened old new id other kept joining =
    let a = joining.0 in
    let b = joining.1 in
    let may = joining.5 in
    let opener = opens_first old.actors kept.roles id a joining.3 may.1 in
    subst (KeptOn shape opened kept) (sym joining.6)
    (subst₂
    (λ (k : ℕ) (c : Actor). KeptOn shape opened kept (record old { actors = set (set old.actors k (joined c b)) other spent }))
    (sym opener.0) opener.1
    (join_kept shape opened old kept other b
    (λ e. joining.2 (opener.0 ∙ e)) joining.4 (subst (λ (c : Actor). MayJoin c b) (sym opener.1) may)))

-- The final deltas and snapshots of an opener that has joined a recorder, and its blocks: those of both.
use Rattle.segment_invariant.proofs.Prelude.Std.{◌≡◌, ◌≢◌, ◌⊎◌, ℕ, ◌+◌, ◌-◌, ℤ, ◌+ℤ◌, Bool, true, false, true≢false, List, [], ◌++◌, map, length, take, drop, inl, inr, ⊎_elim, refl, sym, ap, ◌∙◌, subst, append_assoc, length-append, arith, if◌then◌else◌, some, some-injective, get_elem?, Contains, All, map-append, All-nil, All-append, All-weaker, Contains-append_cases, all_at, contains_at, from_map, contains_mapped}
use Rattle.segment_invariant.proofs.Prelude.Machine.{Dimensions, IsShown, Entry, EntryProgress, Actor, Answered, Moment, Own, Portion, Taken, is_of, tally_units, tally_sum, tally_noted, log_of, cost_of, units_listed, taken_units, taken_sum, portion_of, all_counted, all_summed, all_noted, all_taken, is_opener, made_of, is_untouched}
use Rattle.segment_invariant.proofs.Prelude.Invariant.{Anatomy, held, layout_of, Stands, is_living, IsQuiet, FinalsAreExact, HoldsOwn}
use Rattle.std.proofs.Math.Seq.{drop-append-add, take-append-add}
use Rattle.std.proofs.lemmas.List.{drop-map}
use Rattle.segment_invariant.specs.Consistent.{units_taken}
use Rattle.segment_machine.specs.Seats.{joined, shifted, shifted_taken, shifted_answers}
use Rattle.segment_invariant.specs.Invariant.{ended_deltas, accepted_at, TookAllOf, IsMoment, IsMomentOf}
use Rattle.segment_invariant.proofs.Blocks.Pieces.{one_stands}
use Rattle.list_lemmas.proofs.Maps.{map_after, all_left, drop_left, at_either}
use Rattle.segment_invariant.proofs.Frames.Together.{ended_among}
use Rattle.segment_invariant.proofs.Recorders.PassedBlocks.{handed, stands_given, stands_left}
use Rattle.segment_invariant.proofs.Recorders.Joined.{Joins}

-- a delta, a snapshot of a recorder whose log comes after another
abbrev later_taken : ℕ → Taken → Taken
later_taken n t = record t { moment = shifted n t.moment }

abbrev later_answered : ℕ → Answered → Answered
later_answered n s = record s { moment = shifted n s.moment }

module _ (actors : List Actor) (opener : Actor) (other : ℕ) (a b : Actor) (may : Joins a b) (opens : is_opener a.role ≡ true)
    (takes : a.deltas.taking ≡ false) (rests : b.deltas.taking ≡ false)
    (older : (m : Moment) → IsMomentOf a m → m.outstanding ≡ 0 → m.before + 1 ≡ made_of opener.role → ⊥) (own : a.entries.inherited ≡ [])
    (heir : (m : Moment) → IsMomentOf b m → m.outstanding ≡ 0 → m.before + 1 ≡ made_of opener.role → log_of a ≡ b.entries.inherited)
    (gone : (c : Actor) → get_elem? actors other ≡ some c → is_living c ≡ true → ⊥)
    (first : FinalsAreExact actors opener 0 a) (second : FinalsAreExact actors opener other b) where
  abbrev both : Actor
  both = joined a b

  abbrev before : ℕ
  before = length (log_of a)

  -- the log of both is the opener's, and then the recorder's
  log_joined : log_of both ≡ log_of a ++ log_of b
  log_joined =
      ap (λ (list : List Entry). a.entries.first ++ list) (map-append (λ (c : EntryProgress). c.entry) a.entries.log b.entries.log)
      ∙ sym (append_assoc a.entries.first (map (λ (c : EntryProgress). c.entry) a.entries.log) (map (λ (c : EntryProgress). c.entry) b.entries.log))
      ∙ ap (λ (list : List Entry). log_of a ++ (list ++ map (λ (c : EntryProgress). c.entry) b.entries.log)) (sym may.begins)

  long_joined : length (log_of both) ≡ length (log_of a) + length (log_of b)
  long_joined = ap length log_joined ∙ length-append (log_of a) (log_of b)

  -- ---- if nothing was counted since

  quiet_first : (name : List ℕ) (n : ℕ) → IsQuiet both name n → IsQuiet a name n
  quiet_first name n quiet =
      let parts = drop_left n (log_of a) (log_of b) in (
        all_left (λ (entry : Entry). is_of name entry ≡ false) (drop n (log_of a)) parts.0
            (subst (All (λ (entry : Entry). is_of name entry ≡ false)) (ap (drop n) log_joined ∙ parts.1) quiet.0),
        quiet.1,
      )

  quiet_second : (name : List ℕ) (n : ℕ) → IsQuiet both name (before + n) → IsQuiet b name n
  quiet_second name n quiet = (
    subst (All (λ (entry : Entry). is_of name entry ≡ false)) (ap (drop (before + n)) log_joined ∙ drop-append-add (log_of a) (log_of b) n) quiet.0,
    subst (All (λ (c : EntryProgress). (is_of name c.entry ≡ false) ⊎ (is_untouched c ≡ true))) (sym may.rests)
        (All-nil (λ (c : EntryProgress). (is_of name c.entry ≡ false) ⊎ (is_untouched c ≡ true))),
  )

  -- ---- moments

  moment_first : (m : Moment) → IsMoment actors opener 0 a m → IsMoment actors opener 0 both m
  moment_first m is = record {
    logged = (let low = is.logged in let long = long_joined in omega (arith, low, long));
    before = is.before;
    mine = λ records. absurd (true≢false records);
    eldest = is.eldest;
  }

  moment_second : (m : Moment) → IsMoment actors opener other b m → IsMoment actors opener 0 both (shifted before m)
  moment_second m is = record {
    logged = (let low = is.logged in let long = long_joined in omega (arith, low, long));
    before = is.before;
    mine = λ records. absurd (true≢false records);
    eldest = λ nobody k c at lives apart. is.eldest nobody k c at lives
        (λ e. gone c (subst (λ (j : ℕ). get_elem? actors j ≡ some c) e at) lives);
  }

  -- ---- deltas and snapshots

  abbrev TakenAll : Taken → Type 0
  TakenAll t = t.moment.outstanding ≡ 0 → t.moment.before + 1 ≡ made_of opener.role → IsQuiet both t.name t.moment.log
      → ((key : ℤ) → units_taken actors t.name key ≡ tally_units (all_counted actors) t.name key)
      × (taken_sum (all_taken actors) t.name ≡ tally_sum (all_summed actors) t.name)

  abbrev SeenAll : Answered → Type 0
  SeenAll s = s.moment.outstanding ≡ 0 → s.moment.before + 1 ≡ made_of opener.role → IsQuiet both s.name s.moment.log
      → ((key : ℤ) → units_listed s.counts key ≡ tally_units (all_counted actors) s.name key)
      × (s.sum ≡ tally_sum (all_summed actors) s.name) × (s.redundant ≡ cost_of opener.entries.first_noted s.name + tally_noted (all_noted actors) s.name)

  -- an actor that takes nothing has ended all that it began
  idle_ended : (c : Actor) → c.deltas.taking ≡ false → ended_deltas c ≡ c.deltas.taken
  idle_ended c idle = ap (λ (taking : Bool). if taking then take (length c.deltas.taken - 1) c.deltas.taken else c.deltas.taken) idle

  all_ended : (c : Actor) (t : Taken) → c.deltas.taking ≡ false → Contains c.deltas.taken t → Contains (ended_deltas c) t
  all_ended c t idle there = subst (λ (list : List Taken). Contains list t) (sym (idle_ended c idle)) there

  taken_either : (t : Taken) → Contains (a.deltas.taken ++ shifted_taken before b.deltas.taken) t → TakenAll t
  taken_either t there = ⊎_elim
      (λ mine nobody youngest quiet. first.deltas t (all_ended a t takes mine) nobody youngest (quiet_first t.name t.moment.log quiet))
      (λ theirs.
      let was = contains_mapped (later_taken before) b.deltas.taken t theirs in
      subst TakenAll was.2
      (λ nobody youngest quiet. second.deltas was.0 (all_ended b was.0 rests was.1) nobody youngest (quiet_second was.0.name was.0.moment.log quiet)))
      (Contains-append_cases a.deltas.taken (shifted_taken before b.deltas.taken) t there)

  -- what the recorder had accepted at a moment, and inherited, is at the front of the log of both
  accepted_both : (m : Moment) → log_of a ≡ b.entries.inherited → accepted_at both (shifted before m) ≡ accepted_at b m
  accepted_both m inherited =
      ap (λ (list : List Entry). list ++ take (before + m.log) (log_of both)) own
      ∙ (ap (take (before + m.log)) log_joined
      ∙ (take-append-add (log_of a) (log_of b) m.log
      ∙ ap (λ (list : List Entry). list ++ take m.log (log_of b)) inherited))

  each_either : (n : ℕ) (t : Taken) → get_elem? both.deltas.taken n ≡ some t → t.moment.outstanding ≡ 0 → t.moment.before + 1 ≡ made_of opener.role
      → TookAllOf actors (accepted_at both t.moment) (drop (n + 1) both.deltas.taken) t.name
  each_either n t there nobody youngest = ⊎_elim
      (λ mine. absurd (older t.moment (inl (t, contains_at a.deltas.taken n t mine, refl)) nobody youngest))
      (λ (k, at, theirs).
      let was = from_map (later_taken before) b.deltas.taken k t theirs in
      let of : IsMomentOf b was.0.moment = inl (was.0, contains_at b.deltas.taken k was.0 was.1, refl) in
      let alone = ap (λ (t : Taken). t.moment.outstanding) was.2 ∙ nobody in
      let last = ap (λ (t : Taken). t.moment.before + 1) was.2 ∙ youngest in
      let did = second.each k was.0 (subst (λ (list : List Taken). get_elem? list k ≡ some was.0) (sym (idle_ended b rests)) was.1) alone last in
      let index : n + 1 ≡ length a.deltas.taken + (k + 1) = omega (arith, at) in
      let behind : map portion_of (drop (n + 1) both.deltas.taken) ≡ map portion_of (drop (k + 1) b.deltas.taken) =
      ap (map portion_of)
      (ap (λ (i : ℕ). drop i both.deltas.taken) index
      ∙ (drop-append-add a.deltas.taken (shifted_taken before b.deltas.taken) (k + 1) ∙ drop-map (later_taken before) (k + 1) b.deltas.taken))
      ∙ map_after (later_taken before) portion_of (λ t. refl) (drop (k + 1) b.deltas.taken) in
      let accepted : accepted_at both t.moment ≡ accepted_at b was.0.moment =
      ap (λ (t : Taken). accepted_at both t.moment) (sym was.2) ∙ accepted_both was.0.moment (heir was.0.moment of alone last) in
      subst (λ (p : List Entry × (List Portion × List ℕ)). ((key : ℤ) → units_taken actors p.1.1 key ≡ tally_units p.0 p.1.1 key + taken_units p.1.0 p.1.1 key)
      × (taken_sum (all_taken actors) p.1.1 ≡ tally_sum p.0 p.1.1 +ℤ taken_sum p.1.0 p.1.1))
      (λ i. (sym accepted i, (sym behind i, (was.2 i).name))) did)
      (at_either a.deltas.taken (shifted_taken before b.deltas.taken) n t there)

  seen_either : (s : Answered) → Contains (a.deltas.snapshots ++ shifted_answers before b.deltas.snapshots) s → SeenAll s
  seen_either s there = ⊎_elim
      (λ mine nobody youngest quiet. first.snapshots s mine nobody youngest (quiet_first s.name s.moment.log quiet))
      (λ theirs.
      let was = contains_mapped (later_answered before) b.deltas.snapshots s theirs in
      subst SeenAll was.2
      (λ nobody youngest quiet. second.snapshots was.0 was.1 nobody youngest (quiet_second was.0.name was.0.moment.log quiet)))
      (Contains-append_cases a.deltas.snapshots (shifted_answers before b.deltas.snapshots) s there)

  moments_either : (m : Moment) → IsMomentOf both m → IsMoment actors opener 0 both m
  moments_either m (inl (t, there, e)) = ⊎_elim
      (λ mine. moment_first m (first.moments m (inl (t, mine, e))))
      (λ theirs.
      let was = contains_mapped (later_taken before) b.deltas.taken t theirs in
      subst (IsMoment actors opener 0 both) (ap (λ (u : Taken). u.moment) was.2 ∙ e)
      (moment_second was.0.moment (second.moments was.0.moment (inl (was.0, was.1, refl)))))
      (Contains-append_cases a.deltas.taken (shifted_taken before b.deltas.taken) t there)
  moments_either m (inr (s, there, e)) = ⊎_elim
      (λ mine. moment_first m (first.moments m (inr (s, mine, e))))
      (λ theirs.
      let was = contains_mapped (later_answered before) b.deltas.snapshots s theirs in
      subst (IsMoment actors opener 0 both) (ap (λ (u : Answered). u.moment) was.2 ∙ e)
      (moment_second was.0.moment (second.moments was.0.moment (inr (was.0, was.1, refl)))))
      (Contains-append_cases a.deltas.snapshots (shifted_answers before b.deltas.snapshots) s there)

  pub joined_finals : FinalsAreExact actors opener 0 both
  joined_finals = record {
    deltas = λ t there. taken_either t (ended_among a.deltas.taking both.deltas.taken t there);
    snapshots = seen_either;
    each = λ n t there. each_either n t (subst (λ (list : List Taken). get_elem? list n ≡ some t) (idle_ended both takes) there);
    moments = moments_either;
    swapped = λ front last taking. absurd (true≢false (sym taking ∙ takes));
  }

-- ---- blocks of one's own

module _ (shape : Dimensions) (words : List ℕ) (anatomy : Anatomy) (shown : IsShown shape words (layout_of anatomy)) (other : ℕ)
    (apart : 0 ≢ other) (a b : Actor) (mine : All (HoldsOwn shape anatomy.pieces 0) a.hand.own) (theirs : All (HoldsOwn shape anatomy.pieces other) b.hand.own) where
  pub joined_own : All (HoldsOwn shape (handed other 0 anatomy).pieces 0) (a.hand.own ++ b.hand.own)
  joined_own = All-append (HoldsOwn shape (handed other 0 anatomy).pieces 0) a.hand.own b.hand.own
      (All-weaker (HoldsOwn shape anatomy.pieces 0) (HoldsOwn shape (handed other 0 anatomy).pieces 0)
      (λ own is. record {
        stands = stands_left other 0 anatomy.pieces 0 apart own.at (held own) is.stands;
        placed = is.placed;
        room = is.room;
        tagged = is.tagged;
        ends = is.ends;
      }) a.hand.own mine)
      (All-weaker (HoldsOwn shape anatomy.pieces other) (HoldsOwn shape (handed other 0 anatomy).pieces 0)
      (λ own is. record {
        stands = stands_given other 0 anatomy.pieces own.at (held own) is.stands;
        placed = is.placed;
        room = is.room;
        tagged = is.tagged;
        ends = is.ends;
      }) b.hand.own theirs)

  -- no block is one of both
  not_both : (x y : Own) → HoldsOwn shape anatomy.pieces 0 x → HoldsOwn shape anatomy.pieces other y → x.at ≡ y.at → ⊥
  not_both x y is was same =
      apart (some-injective 0 other (one_stands shape words anatomy shown y.at (some 0) (some other) (held x) (held y)
      (subst (λ (at : ℕ). Stands anatomy.pieces at (some 0) (held x)) same is.stands) was.stands).0)

  pub joined_apart : ((i j : ℕ) (x y : Own) → get_elem? a.hand.own i ≡ some x → get_elem? a.hand.own j ≡ some y → x.at ≡ y.at → i ≡ j)
      → ((i j : ℕ) (x y : Own) → get_elem? b.hand.own i ≡ some x → get_elem? b.hand.own j ≡ some y → x.at ≡ y.at → i ≡ j)
      → (i j : ℕ) (x y : Own) → get_elem? (a.hand.own ++ b.hand.own) i ≡ some x → get_elem? (a.hand.own ++ b.hand.own) j ≡ some y → x.at ≡ y.at → i ≡ j
  joined_apart one two i j x y here there same = ⊎_elim
      (λ front. ⊎_elim
      (λ fore. one i j x y front fore same)
      (λ aft. absurd (not_both x y (all_at (HoldsOwn shape anatomy.pieces 0) a.hand.own i x mine front) (all_at (HoldsOwn shape anatomy.pieces other) b.hand.own aft.0 y theirs aft.2) same))
      (at_either a.hand.own b.hand.own j y there))
      (λ back. ⊎_elim
      (λ fore. absurd (not_both y x (all_at (HoldsOwn shape anatomy.pieces 0) a.hand.own j y mine fore) (all_at (HoldsOwn shape anatomy.pieces other) b.hand.own back.0 x theirs back.2) (sym same)))
      (λ aft.
      let e = two back.0 aft.0 x y back.2 aft.2 same in
      let first = back.1 in
      let second = aft.1 in
      omega (arith, e, first, second))
      (at_either a.hand.own b.hand.own j y there))
      (at_either a.hand.own b.hand.own i x here)

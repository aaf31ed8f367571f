-- What follows for threads that step a segment over a table of shared words.
use Rattle.segment_invariant.proofs.Prelude.Std.{◌≡◌, ℕ, suc, ◌+◌, List, [], ◌∷◌, ◌++◌, take, drop, length, get_or, set, refl, sym, ap, subst, ◌∙◌, arith, take-append-drop, some, get_elem?, set_else}
use Rattle.segment_invariant.proofs.Prelude.Machine.{Actor, offered_of, spot, next, purse, State, Dimensions}
use Rattle.segment_invariant.proofs.Prelude.Invariant.{Anatomy, layout_of, Invariant, found_at}
use Rattle.atomic_table.specs.Table as table
use Rattle.alloc_core.proofs.Layouts.{length_shown}
use Rattle.segment_machine.specs.Event.{change, after}
use Rattle.segment_machine.specs.Seats.{offering, parent, newcomer, getter, lender, joined, spent}
use Rattle.segment_machine.specs.State.{memory, IsStep}
use Rattle.segment_machine.specs.Reached.{IsReached, started, stepped, announced, offered, split, purse_filled, purse_poured, joined_in}
use Rattle.segment_invariant.proofs.Recorders.Lends.{offers_keep, pours_keep}
use Rattle.segment_invariant.proofs.Recorders.Purses.{fills_keep}
use Rattle.segment_invariant.proofs.Recorders.Splits.{splits_keep}
use Rattle.segment_invariant.proofs.Recorders.Joins.{joins_keep}
use Rattle.segment_promises.specs.Follows.{GhostNoted, TablesOpen, TablesClose, TablesFollow, TablesAnnounce, TablesOffer, TablesSplit, TablesJoin, TablesFill, TablesPour, Running, noted_by}
use Rattle.segment_invariant.proofs.Notes.Announcements.{with_actor, notes_follow}
use Rattle.segment_promises.proofs.Steps.{happens}

-- ---- opened and closed

pub tables_open : (S : Type 0) → TablesOpen S
tables_open S shape opened start opener anchor xs kept one =
    record { anchor = anchor; segment = start; words = refl; views = sym one; reached = started; kept = kept }

pub tables_close : (S : Type 0) → TablesClose S
tables_close S shape opened start words xs opener final =
    let (s, (run, first), same, more, homes) = final in
    (run.anchor, run.segment, sym same ∙ run.words, run.reached, run.kept, ap (λ list. get_elem? list 0) (sym run.views) ∙ first)

-- ---- steps

pub tables_follow : (S : Type 0) → TablesFollow S
tables_follow S shape opened start before event behind slots id me word word_is records may ready goes s run wide mine small =
    let seg : State = run.segment in
    let size : length seg.words ≡ shape.size = length_shown shape seg.words (layout_of run.kept.anatomy) run.kept.shown in
    let at : word ≡ suc (spot (length seg.words) event) = word_is ∙ (ap (λ (n : ℕ). spot n event + 1) (sym size) ∙ omega arith) in
    let found : get_or s.words word 0 ≡ found_at seg event = (λ i. get_or (run.words i) (at i) 0) in
    let there : get_elem? seg.actors id ≡ some me.0 = ap (λ list. get_elem? list id) (sym run.views) ∙ mine in
    let first : Actor = noted_by me.0 before in
    let n : ℕ = found_at seg event in
    let last : Actor = noted_by (next first event n) (behind n) in
    let did = happens shape opened seg id me.0 first before event run.kept there records may ready (behind n) last (goes n) in
    let all = after (length seg.words) opened.version event (memory seg) in
    let new : State = record { words = take (length seg.words) all; cursors = drop (length seg.words) all; actors = set seg.actors id last } in
    let long : length new.words ≡ shape.size = length_shown shape new.words (layout_of did.0.anatomy) did.0.shown in
    let step : IsStep opened.version seg id event new = record {
      actor = me.0;
      there = there;
      is_recorder = records;
      before = before;
      at = first;
      notes_before = may;
      ready = ready;
      behind = behind n;
      then_is = last;
      notes_behind = goes n did.1;
      size = long ∙ sym size;
      memory_is = take-append-drop (length seg.words) all;
      actors_are = refl;
    } in (
      last,
      table.keeps,
      tt,
      record {
        anchor = run.anchor;
        segment = new;
        words = (λ i. set (run.words i) (at i) (change opened.version event (found i)))
            ∙ ap (λ list. run.anchor ∷ list) (sym (take-append-drop (length seg.words) all));
        views = ap (λ list. set list id last) run.views;
        reached = stepped seg new id event run.reached step;
        kept = did.0;
      },
      subst (λ (x : ℕ). GhostNoted before event behind me x (last, me.1)) (sym found) (refl, refl, did.1),
    )

-- A step on the word that never changes changes the view of its seat alone, if what holds is kept.
module _ (S : Type 0) (shape : Dimensions) (opened : Anatomy) (start : State) (slots id : ℕ) (me : table.Me S Actor) (becomes : ℕ → ℕ)
    (same : (n : ℕ) → becomes n ≡ n) (last : Actor) where
  told : ((state : State) → Invariant shape opened state → get_elem? state.actors id ≡ some me.0 → Invariant shape opened (with_actor state id last))
      → ((state : State) → IsReached opened.version start state → get_elem? state.actors id ≡ some me.0 → IsReached opened.version start (with_actor state id last))
      → table.Allows (Running S shape opened start) slots id me 0 becomes (λ found me'. (me'.0 ≡ last) × (me'.1 ≡ me.1))
  told keeps reaches s run wide mine small =
      let seg : State = run.segment in
      let there : get_elem? seg.actors id ≡ some me.0 = ap (λ list. get_elem? list id) (sym run.views) ∙ mine in (
        last,
        table.keeps,
        tt,
        record {
          anchor = run.anchor;
          segment = with_actor seg id last;
          words = (λ i. set (run.words i) 0 (becomes (get_or (run.words i) 0 0))) ∙ ap (λ (n : ℕ). n ∷ memory seg) (same run.anchor);
          views = ap (λ list. set list id last) run.views;
          reached = reaches seg run.reached there;
          kept = keeps seg run.kept there;
        },
        (refl, refl),
      )

pub tables_announce : (S : Type 0) → TablesAnnounce S
tables_announce S shape opened start notes slots id me becomes same records may =
    let last : Actor = noted_by me.0 notes in
    told S shape opened start slots id me becomes same last
    (λ seg kept there. (notes_follow shape opened notes seg id me.0 last kept there records may).0.0)
    (λ seg reached there. announced seg (with_actor seg id last) id reached (me.0, last, notes, there, records, may, refl))

pub tables_offer : (S : Type 0) → TablesOffer S
tables_offer S shape opened start units slots id me becomes same may =
    let last : Actor = offering me.0 units in
    told S shape opened start slots id me becomes same last
    (λ seg kept there. (offers_keep shape opened seg (with_actor seg id last) id units kept (me.0, there, may, refl)).0)
    (λ seg reached there. offered seg (with_actor seg id last) id units reached (me.0, there, may, refl))

-- ---- seats

pub tables_split : (S : Type 0) → TablesSplit S
tables_split S shape opened start id a may s run mine =
    let seg : State = run.segment in
    let both = λ (list : List Actor). set list id (parent a) ++ newcomer a ∷ [] in
    let there : get_elem? seg.actors id ≡ some a = ap (λ list. get_elem? list id) (sym run.views) ∙ mine in record {
      anchor = run.anchor;
      segment = record seg { actors = both seg.actors };
      words = run.words;
      views = ap both run.views;
      reached = split seg (record seg { actors = both seg.actors }) id run.reached (a, there, may, refl);
      kept = (splits_keep shape opened seg (record seg { actors = both seg.actors }) id run.kept (a, there, may, refl)).0;
    }

pub tables_join : (S : Type 0) → TablesJoin S
tables_join S shape opened start id other a b may s run mine apart theirs =
    let seg : State = run.segment in
    let all = λ (list : List Actor). set (set list id (joined a b)) other spent in
    let view = λ (k : ℕ). ap (λ (list : List Actor). get_elem? list k) (sym run.views) in
    let there : get_elem? seg.actors id ≡ some a = view id ∙ mine in
    let beside : get_elem? seg.actors other ≡ some b = view other ∙ (sym (set_else s.views id other (joined a b) apart) ∙ theirs) in record {
      anchor = run.anchor;
      segment = record seg { actors = all seg.actors };
      words = run.words;
      views = ap all run.views;
      reached = joined_in seg (record seg { actors = all seg.actors }) id other run.reached (a, b, (λ e. apart (sym e)), there, beside, may, refl);
      kept = (joins_keep shape opened seg (record seg { actors = all seg.actors }) id other run.kept
          (a, b, (λ e. apart (sym e)), there, beside, may, refl)).0;
    }

pub tables_fill : (S : Type 0) → TablesFill S
tables_fill S shape opened start id a may s run mine =
    let seg : State = run.segment in
    let both = λ (list : List Actor). set list id (lender a) ++ purse (offered_of a.role) ∷ [] in
    let there : get_elem? seg.actors id ≡ some a = ap (λ list. get_elem? list id) (sym run.views) ∙ mine in record {
      anchor = run.anchor;
      segment = record seg { actors = both seg.actors };
      words = run.words;
      views = ap both run.views;
      reached = purse_filled seg (record seg { actors = both seg.actors }) id run.reached (a, there, may, refl);
      kept = (fills_keep shape opened seg (record seg { actors = both seg.actors }) id run.kept (a, there, may, refl)).0;
    }

pub tables_pour : (S : Type 0) → TablesPour S
tables_pour S shape opened start id other b c may s run mine apart theirs =
    let seg : State = run.segment in
    let richer : Actor = getter b c.units.share in
    let all = λ (list : List Actor). set (set list id richer) other spent in
    let view = λ (k : ℕ). ap (λ (list : List Actor). get_elem? list k) (sym run.views) in
    let there : get_elem? seg.actors id ≡ some b = view id ∙ mine in
    let beside : get_elem? seg.actors other ≡ some c = view other ∙ (sym (set_else s.views id other richer apart) ∙ theirs) in record {
      anchor = run.anchor;
      segment = record seg { actors = all seg.actors };
      words = run.words;
      views = ap all run.views;
      reached = purse_poured seg (record seg { actors = all seg.actors }) id other run.reached (b, c, (λ e. apart (sym e)), there, beside, may, refl);
      kept = (pours_keep shape opened seg (record seg { actors = all seg.actors }) id other run.kept
          (b, c, (λ e. apart (sym e)), there, beside, may, refl)).0;
    }

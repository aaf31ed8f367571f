-- That the rule of a segment's table allows what is announced of a `hist`: that it returns a histogram, or is refused.
use Rattle.std.proofs.Common.{◌≡◌, ◌≢◌, ℕ, false, ◌==◌, [], ◌∷◌, map, true≢false, refl, sym, ap, ◌∙◌, subst}
use Rattle.std.specs.Prelude.{Some}
use Rattle.std.specs.List.{Contains}
use Rattle.std.proofs.lemmas.List.Elements.{All-contains}
use mathlib.Core.Option.{some, some-injective}
use lib.ListN.{get_elem?}
use prog.Atomic.{either}
use Rattle.atomic_table.specs.Table.{step, Allows}
use Rattle.atomic_table.proofs.Lists.{exchanged}
use Rattle.segment_image.specs.Shape.{Dimensions}
use Rattle.segment_machine.specs.declared.actor.Actor.{Actor}
use Rattle.segment_machine.specs.declared.actor.Known.{Known}
use Rattle.segment_machine.specs.declared.actor.Made.TheVariants as made
use Rattle.segment_machine.specs.declared.place.Place.TheVariants.{Spent}
use Rattle.segment_machine.specs.Actor.{is_bound, is_opener}
use Rattle.segment_machine.specs.Note.{declines, knows, noted, MayNote}
use Rattle.segment_machine.specs.State.{State}
use Rattle.segment_invariant.specs.Body.{Anatomy, Listed, Record}
use Rattle.segment_invariant.specs.Invariant.{Invariant, StandsAs}
use Rattle.segment_invariant.specs.Seen.{HasRecord, IsRightlyKnown}
use Rattle.segment_invariant.proofs.Counting.Looks.{one_record}
use Rattle.segment_invariant.proofs.Lists.Firsts.{split_among}
use Rattle.segment_invariant.proofs.Notes.Names.{first_right}
use Rattle.segment_promises.specs.Follows.{MayNoteAll}
use Rattle.live_segment.specs.declared.rule.Announcement.{Announcement}
use Rattle.live_segment.specs.declared.rule.Opening.{Opening}
use Rattle.live_segment.specs.Steps.Answering.{Declines, HaveOneName, IsSaid, NotesKnown}
use Rattle.live_segment.specs.Rule.{Runs}
use Rattle.live_segment.specs.Steps.{Sat}
use Rattle.live_segment.proofs.Seating.Openings.{announces}

-- only one thing is announced of a record
pub one_said : (reference : ℕ) (said : Announcement) (x y : Known) → IsSaid reference said x → IsSaid reference said y → x ≡ y
one_said reference said x y (says, at) (also, place) =
    let both : Some (made.Histogram x.name x.spec) ≡ Some (made.Histogram y.name y.spec) = sym says ∙ also in
    let one : made.Histogram x.name x.spec ≡ made.Histogram y.name y.spec = cc in
    let name : x.name ≡ y.name = cc in
    let kind : x.spec ≡ y.spec = cc in
    (λ i. record { name = name i; spec = kind i; reference = (at ∙ sym place) i })

module _ (shape : Dimensions) (opened : Anatomy) (state : State) (kept : Invariant shape opened state) (id : ℕ) (a : Actor)
    (mine : get_elem? state.actors id ≡ some a) (lives : a.hand.place ≢ Spent) where
  -- a histogram that it knows has a record of its name
  known_named : (known : Known) → IsRightlyKnown kept.anatomy known → (r : Record) × HasRecord kept.anatomy.pieces known.reference r × (r.name ≡ known.name)
  known_named known is =
      let entry : Listed = record { reference = known.reference; made = Some (made.Histogram known.name is.first_spec) } in
      let listed : Contains kept.anatomy.records entry = split_among is.first.0 is.first.1 is.first.2 in
      let (r, has, named, kind) = All-contains (λ (l : Listed). StandsAs kept.anatomy.pieces l l.made) kept.anatomy.records entry kept.list.standing listed in
      (r, has, named)

  -- so all that it knows by one record have one name
  pub one_name : (known : Known) → MayNote a (knows known) → HaveOneName known a
  one_name known (named, spec) k d inside same =
      let (kind, r, has, name_is, kind_is, first) = first_right shape opened state kept id a mine lives known.name known.reference named in
      let (s, there, other_is) = known_named _ ((kept.each id a mine lives).names k d inside) in
      let one : s ≡ r =
      one_record shape opened state kept known.reference s r (subst (λ (at : ℕ). HasRecord kept.anatomy.pieces at s) same there) has in
      sym other_is ∙ (ap (λ (x : Record). x.name) one ∙ name_is)

module _ (given : Opening) (slots id : ℕ) (me : Sat) (records : is_opener me.0.role ≡ false) where
  pub knows_said : (reference : ℕ) (said : Announcement) (known : Known) → IsSaid reference said known → is_bound me.0.hand.place ≡ false → MayNote me.0 (knows known)
      → Allows (Runs given) slots id me 0 (λ n. either (n == reference) reference n) (NotesKnown (step slots 0 reference reference (some said)) me)
  knows_said reference said known says free may s run wide mine small =
      let (view, act, valid, holds, told) =
      announces given (knows known ∷ []) slots id me (λ n. either (n == reference) reference n)
      (λ n. exchanged n reference reference (λ x. x ≡ n) (λ e. sym e) (λ _. refl)) records (may, refl) s run wide mine small in
      let there : get_elem? run.running.segment.actors id ≡ some me.0 = ap (λ list. get_elem? list id) (sym run.running.views) ∙ mine in
      let live : me.0.hand.place ≢ Spent = λ e. true≢false (sym (ap is_bound e) ∙ free) in (
        view,
        act,
        valid,
        holds,
        λ saying other is also.
            let same = some-injective said saying is in
            let one : known ≡ other = one_said reference said known other says (subst (λ (x : Announcement). IsSaid reference x other) (sym same) also) in (
              told.0 ∙ ap (λ (k : Known). noted me.0 (knows k)) one,
              told.1,
              subst (λ (k : Known). HaveOneName k me.0) one (one_name given.setting.shape run.opened run.running.segment run.running.kept id me.0 there live known may),
            ),
      )

  pub declines_owed : MayNoteAll me.0 (map declines me.0.answers.owed) → Allows (Runs given) slots id me 0 (λ n. n) (Declines me)
  declines_owed may =
      announces given (map declines me.0.answers.owed) slots id me (λ n. n) (λ n. refl) records may

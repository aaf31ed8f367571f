-- The first record of each name has been returned by a `hist`, or is owed, whatever actors do.
use Rattle.segment_invariant.proofs.Prelude.Std.{◌≡◌, ◌≢◌, ◌⊎◌, ℕ, Bool, true, false, not, ◌&&◌, ◌==◌, List, [], ◌∷◌, ◌++◌, Contains, set, inl, inr, ⊎_elim, refl, sym, ap, ◌∙◌, subst, eqb-true, arith, Some, None, bytes_eq, filter, flat_map, bytes_eq-Decides, set-set, All-nil, All-cons, All-weaker, All-append, Contains-append_left, Contains-append_right, some, get_elem?, rows, row_in, contains_filter}
use Rattle.segment_invariant.proofs.Prelude.Machine.{Spec, Actor, Known, Made, Own, Published}
use Rattle.segment_invariant.proofs.Prelude.Invariant.{Listed, IsRecordNamed, IsFirst}
use Rattle.std.specs.Prelude as std
use Rattle.atomic_table.proofs.Lists.{set_again}
use Rattle.alloc_core.proofs.Owners.{set_at}
use Rattle.segment_machine.specs.declared.actor.Made.TheVariants.{Histogram, Sample}
use Rattle.segment_machine.specs.Actor.{all_names, all_owed}
use Rattle.segment_machine.specs.Publishing.{owed_for, published_as}
use Rattle.segment_invariant.specs.Invariant.{IsAnswered, AreAnswered, HasPublishedRecord, OwesPublished}
use Rattle.list_lemmas.proofs.Elements.{row_from}
use Rattle.list_lemmas.proofs.Firsts.{first_unique}

-- ---- lists

-- what all had all have, but for what one had that became another
row_left : {A B : Type 0} (f : A → List B) (l : List A) (i : ℕ) (x y : A) (b : B) → get_elem? l i ≡ some x → Contains (flat_map f l) b
    → Contains (flat_map f (set l i y)) b ⊎ Contains (f x) b
row_left {A} {B} f l i x y b there has =
    row_from f (set l i y) i x b (subst (λ (list : List A). Contains (flat_map f list) b) (sym (set-set l i y x ∙ set_again l i x there)) has)

-- a name has one first record
pub first_one : (records : List Listed) (name : List ℕ) (kind other : Spec) (at place : ℕ) → IsFirst records name kind at → IsFirst records name other place
    → at ≡ place
first_one records name kind other at place first second = ap (λ (l : Listed). l.reference) (first_unique (IsRecordNamed name) records _ _ first second)

-- ---- what its maker owes

abbrev debt : List ℕ → Spec → ℕ → Known
debt name kind at = record { name = name; spec = kind; reference = at }

-- a record that is linked owes the answer
pub owed_is : (found : std.Option Own) (own : Own) (name : List ℕ) (kind : Spec) (at : ℕ) → found ≡ Some own → own.made ≡ Some (Histogram name kind)
    → owed_for found at ≡ record { name = name; spec = kind; reference = at } ∷ []
owed_is found own name kind at is asked =
    ap (λ (f : std.Option Own). owed_for f at) is
    ∙ ap (λ (m : std.Option Made). owed_for (Some (record own { made = m })) at) asked

-- and has published its record
pub owes_linked : (found : std.Option Own) (at : ℕ) → OwesPublished (published_as found at) (owed_for found at)
owes_linked None at = All-nil _
owes_linked (Some own) at = by_made own.made
  where
    by_made : (asked : std.Option Made) → OwesPublished (published_as (Some (record own { made = asked })) at) (owed_for (Some (record own { made = asked })) at)
    by_made None = All-nil _
    by_made (Some (Sample of value)) = All-nil _
    by_made (Some (Histogram name kind)) =
        let published : List Published = record { reference = at; made = Histogram name kind } ∷ [] in
        All-cons (HasPublishedRecord published) (debt name kind at) [] (0, omega arith, refl) (All-nil (HasPublishedRecord published))

-- when more was published
pub owes_more : (published more : List Published) (owed : List Known) → OwesPublished published owed → OwesPublished (published ++ more) owed
owes_more published more owed all = All-weaker (HasPublishedRecord published) (HasPublishedRecord (published ++ more))
    (λ mine has. Contains-append_left published more _ has) owed all

-- and more is owed
pub owes_both : (published more : List Published) (owed others : List Known) → OwesPublished published owed → OwesPublished more others
    → OwesPublished (published ++ more) (owed ++ others)
owes_both published more owed others all rest = All-append (HasPublishedRecord (published ++ more)) owed others (owes_more published more owed all)
    (All-weaker (HasPublishedRecord more) (HasPublishedRecord (published ++ more)) (λ mine has. Contains-append_right published more _ has) others rest)

-- ---- what actors got as answers and owe

module _ (records : List Listed) where
  -- if no answer is lost
  pub answered_by : (old new : List Actor) → ((known : Known) → Contains (all_names old) known → Contains (all_names new) known)
      → ((mine : Known) → Contains (all_owed old) mine → Contains (all_owed new) mine)
      → AreAnswered records old → AreAnswered records new
  answered_by old new names owed all name kind at first = along (all name kind at first)
    where
      along : IsAnswered old name kind at → IsAnswered new name kind at
      along (inl (known, has, is)) = inl (known, names known has, is)
      along (inr owes) = inr (owed _ owes)

  module _ (actors : List Actor) (id : ℕ) (a b : Actor) (mine : get_elem? actors id ≡ some a) where
    -- of one that became another: its own, and what others have
    own_name : (known : Known) → Contains b.answers.names known → Contains (all_names (set actors id b)) known
    own_name known has = row_in (λ (c : Actor). c.answers.names) (set actors id b) id b known (set_at actors id a b mine) has

    own_debt : (owes : Known) → Contains b.answers.owed owes → Contains (all_owed (set actors id b)) owes
    own_debt owes has = row_in (λ (c : Actor). c.answers.owed) (set actors id b) id b owes (set_at actors id a b mine) has

    name_left : (known : Known) → Contains (all_names actors) known → Contains (all_names (set actors id b)) known ⊎ Contains a.answers.names known
    name_left known has = row_left (λ (c : Actor). c.answers.names) actors id a b known mine has

    debt_left : (owes : Known) → Contains (all_owed actors) owes → Contains (all_owed (set actors id b)) owes ⊎ Contains a.answers.owed owes
    debt_left owes has = row_left (λ (c : Actor). c.answers.owed) actors id a b owes mine has

    -- it got the same answers, and owes no less
    pub answered_more : b.answers.names ≡ a.answers.names → ((owes : Known) → Contains a.answers.owed owes → Contains b.answers.owed owes)
        → AreAnswered records actors → AreAnswered records (set actors id b)
    answered_more names owed = answered_by actors (set actors id b)
        (λ known has. subst (λ (list : List Known). Contains list known) (sym (rows (λ (c : Actor). c.answers.names) actors id a b mine names)) has)
        (λ owes has. ⊎_elim (λ still. still) (λ own. own_debt owes (owed owes own)) (debt_left owes has))

    -- or the same
    pub answered_set : b.answers.names ≡ a.answers.names → b.answers.owed ≡ a.answers.owed → AreAnswered records actors → AreAnswered records (set actors id b)
    answered_set names owed = answered_more names (λ owes has. subst (λ (list : List Known). Contains list owes) (sym owed) has)

    -- it got the answer, and owes nothing of that name any more
    pub answered_knows : (known : Known) → b.answers.names ≡ a.answers.names ++ known ∷ [] → b.answers.owed ≡ filter (λ (mine : Known). not (bytes_eq mine.name known.name)) a.answers.owed
        → AreAnswered records actors → AreAnswered records (set actors id b)
    answered_knows known names owed all name kind at first = along (all name kind at first)
      where
        by_name : Contains a.answers.owed (debt name kind at) → (same : Bool) → bytes_eq name known.name ≡ same → IsAnswered (set actors id b) name kind at
        by_name has true is = inl (
          known,
          own_name known (subst (λ (list : List Known). Contains list known) (sym names) (Contains-append_right a.answers.names (known ∷ []) known (0, omega arith, refl))),
          sym ((bytes_eq-Decides name known.name).0 is),
        )
        by_name has false is = inr (own_debt (debt name kind at) (subst (λ (list : List Known). Contains list (debt name kind at)) (sym owed)
            (contains_filter (λ (mine : Known). not (bytes_eq mine.name known.name)) a.answers.owed (debt name kind at) has (ap not is))))

        along : IsAnswered actors name kind at → IsAnswered (set actors id b) name kind at
        along (inl (k, has, is)) = inl (
          k,
          ⊎_elim (λ still. still)
              (λ own. own_name k (subst (λ (list : List Known). Contains list k) (sym names) (Contains-append_left a.answers.names (known ∷ []) k own))) (name_left k has),
          is,
        )
        along (inr owes) = ⊎_elim (λ still. inr still) (λ own. by_name own (bytes_eq name known.name) refl) (debt_left (debt name kind at) owes)

    -- it was refused: the first record of the name is another one
    pub answered_declines : (refused : Known) (first_kind : Spec) (place : ℕ) → IsFirst records refused.name first_kind place → place ≢ refused.reference
        → b.answers.names ≡ a.answers.names → b.answers.owed ≡ filter (λ (other : Known). not (bytes_eq other.name refused.name && (other.reference == refused.reference))) a.answers.owed
        → AreAnswered records actors → AreAnswered records (set actors id b)
    answered_declines refused first_kind place its apart names owed all name kind at first = along (all name kind at first)
      where
        passes : Contains a.answers.owed (debt name kind at) → not (bytes_eq name refused.name && (at == refused.reference)) ≡ true → IsAnswered (set actors id b) name kind at
        passes has is = inr (own_debt (debt name kind at) (subst (λ (list : List Known). Contains list (debt name kind at)) (sym owed)
            (contains_filter (λ (other : Known). not (bytes_eq other.name refused.name && (other.reference == refused.reference))) a.answers.owed (debt name kind at) has is)))

        by_both : Contains a.answers.owed (debt name kind at) → (same here : Bool) → bytes_eq name refused.name ≡ same → (at == refused.reference) ≡ here → IsAnswered (set actors id b) name kind at
        by_both has true true named is =
            let one = first_one records refused.name first_kind kind place at its
            (subst (λ (n : List ℕ). IsFirst records n kind at) ((bytes_eq-Decides name refused.name).0 named) first) in
            absurd (apart (one ∙ eqb-true at refused.reference is))
        by_both has false here named is = passes has (ap (λ (s : Bool). not (s && (at == refused.reference))) named)
        by_both has true false named is = passes has (λ i. not (named i && is i))

        along : IsAnswered actors name kind at → IsAnswered (set actors id b) name kind at
        along (inl (k, has, is)) = inl (
          k,
          subst (λ (list : List Known). Contains list k) (sym (rows (λ (c : Actor). c.answers.names) actors id a b mine names)) has,
          is,
        )
        along (inr owes) =
            ⊎_elim (λ still. inr still) (λ own. by_both own (bytes_eq name refused.name) (at == refused.reference) refl refl) (debt_left (debt name kind at) owes)

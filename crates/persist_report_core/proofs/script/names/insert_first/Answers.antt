use Rattle.std.proofs.Common.{◌≡◌, ◌∙◌, ℕ, Bool, true, false, List, Option, Some, None, if◌then◌else◌, Vec, Global, inl, inr, refl, subst, sym}
use Rattle.std.specs.Prelude.{is_some}
use Rattle.std.specs.Option.{option_or}
use Rattle.std.specs.Cmp.Lexicographic.{bytes_decides, nat_list_eq_equiv}
use Rattle.std.specs.HashMap.{HashMap, UpdatesBy}
use Rattle.std.specs.Map.{IsKeyTest, AreApart, KeepsOthers, lookup}
use Rattle.std.specs.Str.{bytes_eq}
use Rattle.std.proofs.lemmas.Bool.{cases_Bool}
use Rattle.persist_report_core.specs.Draft.{found}
use Rattle.persist_report_core.proofs.script.names.insert_first.Goals as goal

-- a key of one name is not a key of another
apart : (name other key : List ℕ) → bytes_eq name other ≡ false → bytes_eq name key ≡ true → bytes_eq other key ≡ false
apart name other key differ here = nat_list_eq_equiv.symm other key ∙ sym (nat_list_eq_equiv.congr name key other here) ∙ differ

other_entries : {X : Type 0} (test : Vec ℕ Global → Bool) (old new : List (Vec ℕ Global × X))
    → KeepsOthers (λ x y. bytes_eq x.items y.items) test old new → (other : Vec ℕ Global → Bool) → IsKeyTest (λ x y. bytes_eq x.items y.items) other
    → AreApart test other → lookup other new ≡ lookup other old
unfolding KeepsOthers
other_entries test old new kept = kept

-- what is put under a new name, and what was there before
put_beside : {X S : Type 0} (name : List ℕ) (old new : HashMap (Vec ℕ Global) X S) (value : X) → is_some (found old name) ≡ false
    → UpdatesBy (λ x y. bytes_eq x.items y.items) (λ key. bytes_eq name key.items) old new (Some value)
    → (other : List ℕ) → found new other ≡ option_or (found old other) (if bytes_eq name other then Some value else None)
put_beside {X} {S} name old new value missing updates other =
    elim (cases_Bool (bytes_eq name other)) [
      | inl same ↦
          let is : name ≡ other = (bytes_decides name other).0 same in
          let none : found old other ≡ None = subst (λ q. found old q ≡ None) is (by (found old name) missing) in
          rw (same, none) (subst (λ q. found new q ≡ Some value) is updates.1)
      | inr differ ↦ rw differ (
          other_entries (λ key. bytes_eq name key.items) old.entries new.entries updates.3 (λ key. bytes_eq other key.items)
          (λ x y. nat_list_eq_equiv.congr other x.items y.items) (λ key. apart name other key.items differ)
          ∙ sym (alone (found old other))
          )
    ]
  where
    by : {X : Type 0} (o : Option X) → is_some o ≡ false → o ≡ None
    by None e = refl
    by (Some x) e = absurd (cc e)

    alone : {X : Type 0} (o : Option X) → option_or o None ≡ o
    alone None = refl
    alone (Some x) = refl

pub returns-in_ok-insert : goal.returns-in_ok-insert
returns-in_ok-insert c =
    let missing : is_some (found c.args.names.now c.args.name.now) ≡ false = sym c.contains_key.ensures ∙ c.if-not-contains_key.true in
    put_beside c.args.name.now c.args.names.now c.insert.new.self c.args.place missing
    (subst (λ name. UpdatesBy (λ x y. bytes_eq x.items y.items) (λ key. bytes_eq name key.items) c.args.names.now c.insert.new.self (Some c.args.place))
    c.in_ok-from_slice.ensures.items c.in_ok-insert.ensures.updates)

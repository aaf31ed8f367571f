-- Names in an ordered set, each by its key.
use Rattle.std.proofs.Common.{◌≡◌, Bool, true, false, ◌||◌, ◌&&◌, ℕ, List, [], ◌∷◌, ◌++◌, drop, refl, ap, sym, ◌∙◌, Vec, Global}
use Rattle.std.specs.List.{list_any, AllByRecursion}
use Rattle.std.specs.Str.{bytes_eq}
use Rattle.std.specs.declared.cmp.Ordering.{Ordering}
use Rattle.std.specs.declared.cmp.Ordering.TheVariants.{Less, Equal, Greater}
use Rattle.std.specs.Ordering.{nat_cmp, is_eq, match_ordering, ordering_then}
use Rattle.std.specs.Cmp.{Equal-is, nat_cmp_is, tied_then}
use Rattle.std.specs.Cmp.Lexicographic.{slice_cmp}
use Rattle.std.specs.Int.Digits.{digits_of}
use Rattle.std.proofs.lemmas.Cmp.{ranked}
use Rattle.std.specs.BTreeMap.{is_at}
use Rattle.std.specs.BTreeSet.{insert_key}
use Rattle.std.specs.Bool.{Decides}
use Rattle.std.proofs.lemmas.Bool.Decides.{same_from_decides}
use Rattle.std.proofs.lemmas.Map.Text.{is_eq-slice_cmp}
use Rattle.std.proofs.lemmas.Slice.Eq.{bytes_eq-Decides}
use Rattle.std.proofs.Math.Bool.{or_comm, or_assoc}
use Rattle.image_reader.specs.Names.{prefix_of, name_of_key, IsKey}

-- the number of a name's first eight bytes, and the bytes after them
abbrev pub Key : Type 0
Key = ℕ × Vec ℕ Global

-- the order of keys: by their numbers, then by their bytes
abbrev pub by_key : Key → Key → Ordering
by_key a b = ordering_then (nat_cmp a.0 b.0) (slice_cmp nat_cmp a.1.items b.1.items)

-- whether a name is that of one of these keys
abbrev pub is_named : List Key → List ℕ → Bool
is_named keys name = list_any (λ key. bytes_eq name (name_of_key key)) keys

-- lists that the order ties are the same
slice_ties : (a b : List ℕ) → Equal ≡ slice_cmp nat_cmp a b → a ≡ b
slice_ties a b e = (bytes_eq-Decides a b).0 (sym (is_eq-slice_cmp a b) ∙ ap is_eq (sym e))

then_ties : (first then : Ordering) → Equal ≡ ordering_then first then → (Equal ≡ first) × (Equal ≡ then)
then_ties Less then e = absurd (cc)
then_ties Equal then e = (refl, e)
then_ties Greater then e = absurd (cc)

-- keys that the order ties are of one name
by_key-ties : (a b : Key) → Equal ≡ by_key a b → name_of_key a ≡ name_of_key b
unfolding name_of_key
by_key-ties a b e =
    let ties = then_ties (nat_cmp a.0 b.0) (slice_cmp nat_cmp a.1.items b.1.items) e in
    let numbers : a.0 ≡ b.0 = ranked a.0 b.0 Equal ties.0 in
    let rests : a.1.items ≡ b.1.items = slice_ties a.1.items b.1.items ties.1 in
    λ i. digits_of 256 (numbers i) ++ rests i

-- and keys of one name are tied
by_key-same : (a b : Key) → IsKey a → IsKey b → name_of_key a ≡ name_of_key b → is_eq (by_key a b) ≡ true
by_key-same a b p q e =
    let numbers : a.0 ≡ b.0 = p.0 ∙ (ap prefix_of e ∙ sym q.0) in
    let rests : a.1.items ≡ b.1.items = p.1 ∙ (ap (drop 8) e ∙ sym q.1) in
    sym (tied_then (nat_cmp a.0 b.0) (slice_cmp nat_cmp a.1.items b.1.items))
    ∙ (ap (λ o. is_eq o && is_eq (slice_cmp nat_cmp a.1.items b.1.items)) (sym (nat_cmp_is a.0 b.0 Equal numbers))
    ∙ (is_eq-slice_cmp a.1.items b.1.items ∙ (bytes_eq-Decides a.1.items b.1.items).1 rests))

or_again : (a b : Bool) → (a || b) ≡ ((a || b) || a)
or_again true b = refl
or_again false true = refl
or_again false false = refl

-- the step of an insert, by what the order says of the key and the first one
insert_step : (o : Ordering) (here rest new : Bool) (all less same more : Bool)
    → less ≡ (new || (here || rest)) → same ≡ (here || rest) → more ≡ (here || (rest || new))
    → (Equal ≡ o → new ≡ here) → all ≡ match_ordering o less same more → all ≡ ((here || rest) || new)
insert_step Less here rest new all less same more l s m t e = e ∙ (l ∙ or_comm new (here || rest))
insert_step Equal here rest new all less same more l s m t e =
    e ∙ (s ∙ (or_again here rest ∙ ap (λ b. (here || rest) || b) (sym (t refl))))
insert_step Greater here rest new all less same more l s m t e = e ∙ (m ∙ sym (or_assoc here rest new))

-- a test of a choice by an ordering is the choice of the tests
choice : {X : Type 0} (p : X → Bool) (o : Ordering) (a b c : X) → p (match_ordering o a b c) ≡ match_ordering o (p a) (p b) (p c)
choice p Less a b c = refl
choice p Equal a b c = refl
choice p Greater a b c = refl

-- an insert adds the key's name, and no others
pub is_named-insert : (keys : List Key) (key : Key) (name : List ℕ)
    → is_named (insert_key by_key keys key) name ≡ (is_named keys name || bytes_eq name (name_of_key key))
is_named-insert [] key name = or_comm (bytes_eq name (name_of_key key)) false
is_named-insert (x ∷ xs) key name =
    insert_step (by_key key x) (bytes_eq name (name_of_key x)) (is_named xs name) (bytes_eq name (name_of_key key)) _ _ _ _ refl refl
    (ap (λ b. bytes_eq name (name_of_key x) || b) (is_named-insert xs key name))
    (λ e. ap (bytes_eq name) (by_key-ties key x e))
    (choice (λ (ks : List Key). is_named ks name) (by_key key x) (key ∷ x ∷ xs) (x ∷ xs) (x ∷ insert_key by_key xs key))

-- a look-up of a key is one of its name
pub is_named-look_up : (key : Key) (keys : List Key) → IsKey key → AllByRecursion IsKey keys
    → list_any (is_at (by_key key)) keys ≡ is_named keys (name_of_key key)
is_named-look_up key [] own all = refl
is_named-look_up key (x ∷ xs) own all =
    let tied : Decides (is_eq (by_key key x)) ((name_of_key key) ≡ (name_of_key x)) =
    (λ e. by_key-ties key x (sym ((Equal-is (by_key key x)).0 e)), by_key-same key x own all.0) in
    let here : is_eq (by_key key x) ≡ bytes_eq (name_of_key key) (name_of_key x) =
    same_from_decides (is_eq (by_key key x)) _ tied (bytes_eq-Decides (name_of_key key) (name_of_key x)) in
    λ i. here i || is_named-look_up key xs own all.1 i

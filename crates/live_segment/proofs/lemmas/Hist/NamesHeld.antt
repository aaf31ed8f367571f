-- The names of the histograms that a recorder knows: which are entered, and what is known if a name is not there.
use Rattle.std.proofs.Common.{◌≡◌, ◌≢◌, ◌∙◌, ◌==◌, ℕ, ◌+◌, ◌<◌, Bool, true, List, [], ◌∷◌, ◌++◌, length, Option, Some, None, if◌then◌else◌, refl, sym, ap, subst, arith, eq-eqb}
use Rattle.std.specs.Prelude.{is_some, take, get_or}
use Rattle.std.specs.List.{All, AllPairs}
use Rattle.std.specs.Option.{option_or}
use mathlib.Core.Option.{some}
use lib.ListN.{get_elem?}
use Rattle.std.proofs.lemmas.List.{get_or-take, length-take-le, length_push, take-append-le}
use Rattle.std.proofs.lemmas.List.Elements.{All-push}
use Rattle.std.proofs.lemmas.List.Quantifiers.{all_pairs_push}
use Rattle.std.proofs.Math.Seq.{take-length}
use Rattle.segment_invariant.proofs.Lists.Elements.{below_length, index_at}
use Rattle.segment_invariant.proofs.Lists.Pairs.{element_at}
use Rattle.list_index.specs.Firsts.{first_of}
use Rattle.list_index.specs.Keys.{byte_key_of}
use Rattle.live_segment.specs.declared.hist.known_names.KnownNames.{KnownNames}
use Rattle.live_segment.specs.declared.recorder.KnownHistogram.{KnownHistogram}
use Rattle.live_segment.specs.Hist.Answer.{NoneHasName}
use Rattle.live_segment.specs.Hist.KnownNames.{HasNames}

abbrev Held : KnownNames → KnownHistogram → Type 0
Held names one = is_some (first_of names.places (byte_key_of one.name.items)) ≡ true

-- no two of them have the same name, if the last one has another
abbrev Apart : KnownHistogram → KnownHistogram → Type 0
Apart one other = one.name.items ≢ other.name.items

once_more : (known : List KnownHistogram) (last : KnownHistogram) → AllPairs Apart known → NoneHasName known last.name.items
    → AllPairs Apart (known ++ last ∷ [])
once_more known last once none =
    all_pairs_push Apart known last once (λ k d low. none k (get_or known k d) (element_at known k d low))

-- one more is known
pub names_longer : (known : List KnownHistogram) (last : KnownHistogram) (names : KnownNames) → HasNames known names → NoneHasName known last.name.items
    → HasNames (known ++ last ∷ []) names
names_longer known last names has none =
    let few = has.few in
    let long = length_push known last in record {
      few = omega (arith, few, long);
      held = subst (All (Held names)) (sym (take-append-le names.entered known (last ∷ []) few)) has.held;
      once = once_more known last has.once none;
    }

-- nothing was entered
pub names_same : (known : List KnownHistogram) (old new : KnownNames) → new.entered ≡ old.entered
    → ((key : ℕ) → first_of new.places key ≡ first_of old.places key) → HasNames known old → HasNames known new
names_same known old new count same has =
    let few = has.few in record {
      few = omega (arith, few, count);
      held = subst (λ (n : ℕ). All (Held new) (take n known)) (sym count)
          (λ k d low. ap (λ (o : Option ℕ). is_some o) (same (byte_key_of (get_or (take old.entered known) k d).name.items)) ∙ has.held k d low);
      once = has.once;
    }

there_still : (o p : Option ℕ) → is_some o ≡ true → is_some (option_or o p) ≡ true
there_still None p none = absurd (cc none)
there_still (Some x) p is = refl

there_now : (o : Option ℕ) (x : ℕ) → is_some (option_or o (Some x)) ≡ true
there_now None x = refl
there_now (Some y) x = refl

-- its name was entered
pub names_entered : (known : List KnownHistogram) (last : KnownHistogram) (old new : KnownNames) (place : ℕ) → old.entered ≡ length known
    → new.entered ≡ old.entered + 1
    → ((other : ℕ) → first_of new.places other ≡ option_or (first_of old.places other) (if byte_key_of last.name.items == other then Some place else None))
    → HasNames known old → NoneHasName known last.name.items → HasNames (known ++ last ∷ []) new
names_entered known last old new place all count entered has none =
    let long = length_push known last in
    let whole : new.entered ≡ length (known ++ last ∷ []) = omega (arith, all, count, long) in
    let front : take old.entered known ≡ known = ap (λ (n : ℕ). take n known) all ∙ take-length known in
    let was : All (Held new) known =
    subst (All (Held new)) front (λ k d low.
    ap (λ (o : Option ℕ). is_some o) (entered (byte_key_of (get_or (take old.entered known) k d).name.items))
    ∙ there_still (first_of old.places (byte_key_of (get_or (take old.entered known) k d).name.items)) _ (has.held k d low)) in
    let key = byte_key_of last.name.items in
    let now : Held new last =
    ap (λ (o : Option ℕ). is_some o) (entered key ∙ ap (λ (b : Bool). option_or (first_of old.places key) (if b then Some place else None)) (eq-eqb key key refl))
    ∙ there_now (first_of old.places key) place in record {
      few = omega (arith, whole);
      held = subst (All (Held new)) (sym (ap (λ (n : ℕ). take n (known ++ last ∷ [])) whole ∙ take-length (known ++ last ∷ []))) (All-push (Held new) known last was now);
      once = once_more known last has.once none;
    }

-- no histogram that is entered has a name whose key is not there
pub none_entered : (known : List KnownHistogram) (names : KnownNames) (name : List ℕ) → HasNames known names → first_of names.places (byte_key_of name) ≡ None
    → (i : ℕ) (one : KnownHistogram) → i < names.entered → get_elem? known i ≡ some one → one.name.items ≢ name
none_entered known names name has none i one below at named =
    let few = has.few in
    let long = length-take-le names.entered known few in
    let here : get_or (take names.entered known) i one ≡ one = get_or-take names.entered known i one below ∙ index_at known i one one at in
    let held = has.held i one (omega (arith, below, long)) in
    let some_there : is_some (first_of names.places (byte_key_of name)) ≡ true =
    subst (λ (l : List ℕ). is_some (first_of names.places (byte_key_of l)) ≡ true) (ap (λ (k : KnownHistogram). k.name.items) here ∙ named) held in
    absurd (cc (sym (ap (λ (o : Option ℕ). is_some o) none) ∙ some_there))

-- if all are entered, none has the name
pub none_named : (known : List KnownHistogram) (names : KnownNames) (name : List ℕ) → HasNames known names → names.entered ≡ length known
    → first_of names.places (byte_key_of name) ≡ None → NoneHasName known name
none_named known names name has all none i one at =
    let below = below_length known i one at in none_entered known names name has none i one (omega (arith, below, all)) at

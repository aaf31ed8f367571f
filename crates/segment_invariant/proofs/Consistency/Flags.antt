-- A flag of a kept state is set exactly if it was set at the opening or an actor has set it.
use Rattle.segment_invariant.proofs.Prelude.Std.{◌≡◌, ◌⊎◌, Bool, true, false, ◌||◌, ℕ, suc, ◌/◌, List, [], ◌∷◌, fold, inl, inr, refl, true≢false, sym, ap, subst, ◌∙◌, arith, ⊎_elim, bit_and, Contains, at_from}
use Rattle.segment_invariant.proofs.Prelude.Machine.{word_at}
use Rattle.segment_invariant.proofs.Prelude.Invariant.{layout_of, IsSetBy}
use Rattle.std.specs.Prelude.{◌↔◌}
use Rattle.alloc_core.specs.Layout.{flags_of}
use Rattle.alloc_core.proofs.Flags.{other_bits, corrupt_bit, full_bit}
use Rattle.alloc_core.proofs.Layouts.{flags_word}
use Rattle.segment_invariant.specs.Keeps.{KeptFlagsAreSet}
use Rattle.list_lemmas.proofs.Elements.{any_there}
use Rattle.segment_invariant.proofs.Frames.Books.{noticed_there}

-- one of a list of truth values is true if all of them together are
one_of : (list : List Bool) → fold ◌||◌ false list ≡ true → Contains list true
one_of [] e = cc e
one_of (true ∷ list) e = (0, omega arith, refl)
one_of (false ∷ list) e = let (k, below, is) = one_of list e in (suc k, omega (arith, below), is)

all_of : (list : List Bool) → Contains list true → fold ◌||◌ false list ≡ true
all_of list there = let place = at_from list true there in any_there list place.0 false place.1

-- a flag is set if it was set at the opening, or an actor has set it
set_by : (now was : Bool) (set : List Bool) → IsSetBy now was set → (now ≡ true) ↔ ((was ≡ true) ⊎ Contains set true)
set_by now true set is = (λ on. inl refl, λ either. is)
set_by now false set is = (
  λ on. inr (one_of set (sym is ∙ on)),
  λ either. ⊎_elim (λ before. absurd (true≢false (sym before))) (λ there. is ∙ all_of set there) either,
)

-- so a bit of the word is one of the word that was there, or an actor has set it
bit_is : (bit word old : ℕ) (now was : Bool) (set : List Bool) → (bit_and old bit ≡ bit) ↔ (was ≡ true) → (bit_and word bit ≡ bit) ↔ (now ≡ true)
    → IsSetBy now was set → (bit_and word bit ≡ bit) ↔ ((bit_and old bit ≡ bit) ⊎ Contains set true)
bit_is bit word old now was set showed shows is = (
  λ on. ⊎_elim (λ before. inl (showed.1 before)) (λ there. inr there) ((set_by now was set is).0 (shows.0 on)),
  λ either. shows.1 ((set_by now was set is).1 (⊎_elim (λ before. inl (showed.0 before)) (λ there. inr there) either)),
)

pub flags_are_set : KeptFlagsAreSet
flags_are_set shape opened state kept =
    let anatomy = kept.anatomy in
    let word : flags_of anatomy.corrupt anatomy.full anatomy.other_flags ≡ word_at state.words 6 = sym (flags_word shape state.words (layout_of anatomy) kept.shown) in
    record {
      corrupt = bit_is 1 (word_at state.words 6) _ anatomy.corrupt opened.corrupt _ (corrupt_bit opened.corrupt opened.full opened.other_flags)
          (subst (λ (n : ℕ). (bit_and n 1 ≡ 1) ↔ (anatomy.corrupt ≡ true)) word (corrupt_bit anatomy.corrupt anatomy.full anatomy.other_flags)) kept.corrupt;
      full = bit_is 2 (word_at state.words 6) _ anatomy.full opened.full _ (full_bit opened.corrupt opened.full opened.other_flags)
          (subst (λ (n : ℕ). (bit_and n 2 ≡ 2) ↔ (anatomy.full ≡ true)) word (full_bit anatomy.corrupt anatomy.full anatomy.other_flags)) kept.full;
      noticed = λ id a mine lives is. subst (λ (n : ℕ). bit_and n 1 ≡ 1) word
          ((corrupt_bit anatomy.corrupt anatomy.full anatomy.other_flags).1 (noticed_there anatomy.corrupt state.actors id a mine kept.noticed is));
      others = sym (ap (λ (n : ℕ). n / 4) word) ∙ (other_bits anatomy.corrupt anatomy.full anatomy.other_flags
          ∙ (kept.same.2 ∙ sym (other_bits opened.corrupt opened.full opened.other_flags)));
    }

-- Words that were seen: what was found there is what is seen there now.
use Rattle.segment_invariant.proofs.Prelude.Std.{◌≡◌, ℕ, Bool, if◌then◌else◌, List, [], ◌∷◌, ◌++◌, Some, refl, sym, ap, ◌∙◌, eq-eqb, ne_eqb, dite, ℕ_discrete}
use Rattle.segment_invariant.proofs.Prelude.Machine.{Sighting, word_seen, sight}

-- a word that is seen now is what was found, since it was the same if it was seen before
pub seen_now : (list : List Sighting) (at found : ℕ) → ((word : ℕ) → word_seen list at ≡ Some word → found ≡ word) → word_seen (list ++ sight at found) at ≡ Some found
seen_now [] at found same = ap (λ (b : Bool). if b then Some found else word_seen [] at) (eq-eqb at at refl)
seen_now (s ∷ rest) at found same = dite (ℕ_discrete s.at at)
    (λ here.
    let now = ap (λ (b : Bool). if b then Some s.word else word_seen rest at) (eq-eqb s.at at here) in
    ap (λ (b : Bool). if b then Some s.word else word_seen (rest ++ sight at found) at) (eq-eqb s.at at here) ∙ ap Some (sym (same s.word now)))
    (λ apart.
    let now = ap (λ (b : Bool). if b then Some s.word else word_seen rest at) (ne_eqb s.at at apart) in
    ap (λ (b : Bool). if b then Some s.word else word_seen (rest ++ sight at found) at) (ne_eqb s.at at apart)
    ∙ seen_now rest at found (λ word is. same word (now ∙ is)))

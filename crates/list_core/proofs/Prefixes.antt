-- Prefixes of lists, and of the chain.
use Rattle.std.proofs.Common.{◌==◌, ◌+◌, Bool, true, false, ◌∷◌, refl, ℕ, List, [], ◌++◌, sym, ap, ◌∙◌, append_assoc}
use Rattle.std.specs.Prelude.{if◌then◌else◌}
use Rattle.std.proofs.lemmas.List.{append-nil}
use Rattle.segment_image.specs.Words.{word_at}
use Rattle.list_core.specs.declared.publish.PubStage.{PubStage}
use Rattle.list_core.specs.declared.publish.PubStage.TheVariants.{StoreOwnNext, LoadTail, Link, MoveTail, Published, Strayed}
use Rattle.list_core.specs.Publish.{chain_at}
use Rattle.list_core.specs.Walk.{IsPrefix}

pub whole_prefix : (chain : List ℕ) → IsPrefix chain chain
whole_prefix chain = ([], sym (append-nil chain))

pub prefix_of_prefix : (a b c : List ℕ) → IsPrefix a b → IsPrefix b c → IsPrefix a c
prefix_of_prefix a b c (rest, is) (more, then_is) =
    (rest ++ more, then_is ∙ (ap (λ (l : List ℕ). l ++ more) is ∙ append_assoc a rest more))

grown_by : (chain : List ℕ) (reference : ℕ) (linked : Bool) → IsPrefix chain (if linked then chain ++ reference ∷ [] else chain)
grown_by chain reference true = (reference ∷ [], refl)
grown_by chain reference false = whole_prefix chain

-- an event of a publish leaves the chain, or makes it longer at its end
pub chain_grown : (words chain : List ℕ) (reference : ℕ) (stage : PubStage) → IsPrefix chain (chain_at words chain reference stage)
chain_grown words chain reference StoreOwnNext = whole_prefix chain
chain_grown words chain reference LoadTail = whole_prefix chain
chain_grown words chain reference (Link tail) = grown_by chain reference (word_at words (tail + 3) == 12)
chain_grown words chain reference (MoveTail old new linked) = whole_prefix chain
chain_grown words chain reference Published = whole_prefix chain
chain_grown words chain reference Strayed = whole_prefix chain

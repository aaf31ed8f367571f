-- What a look at a segment is.
use Rattle.std.specs.Prelude.{◌≡◌, ◌⊎◌, ℕ, List, length, Result, Err, MatchResult}
use Rattle.segment_looks.specs.Looks.{IsLook, head_of_copies}
use Rattle.segment_looks.specs.declared.fault.LookFault.{LookFault}
use Rattle.segment_looks.specs.declared.fault.LookFault.TheVariants.{NoMemory}

-- what three copies give: their look, or their first fault, or memory ran out
abbrev pub IsGivenBy : List ℕ → List ℕ → List ℕ → Result (List ℕ) LookFault → Type 0
IsGivenBy one two three result =
    MatchResult (head_of_copies one two three)
    (λ head. MatchResult result (λ image. IsLook head one two three image) (λ fault. fault ≡ NoMemory))
    (λ fault. result ≡ Err fault)

-- this is what some three copies of this many words give; or memory ran out
abbrev pub IsLookTaken : ℕ → Result (List ℕ) LookFault → Type 0
IsLookTaken size result =
    ((one two three : List ℕ) × (length one ≡ size) × (length two ≡ size) × (length three ≡ size) × IsGivenBy one two three result)
    ⊎ (result ≡ Err NoMemory)

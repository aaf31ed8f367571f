-- What a command that writes a text reads.
use Rattle.std.specs.Prelude.{◌≡◌, ◌<◌, ◌≤◌, ◌⊎◌, ℕ, List, codes, length, true, IsSome, IsNone, MatchOption}
use Rattle.report_asks.specs.declared.inputs.Inputs.{Inputs}

-- the path that is standard input, or standard output
abbrev pub dash : List ℕ
dash = codes "-"

-- whether one file or folder is read, or standard input: nothing else is named, and no list
pub record AreOne (inputs : Inputs) : Type 0 where
  pub few : length inputs.files.items ≤ 1
  pub no_list : IsNone inputs.list

-- whether a sum is asked for, whatever the first file is: by a second file, a list, an earlier input to subtract, or an option of sums
abbrev pub AskForSum : Inputs → Type 0
AskForSum inputs =
    (1 < length inputs.files.items) ⊎ IsSome inputs.list ⊎ IsSome inputs.earlier
    ⊎ (inputs.is_strict ≡ true) ⊎ (inputs.has_totals ≡ true)

-- whether the list of files is standard input
abbrev pub ListIsDash : Inputs → Type 0
ListIsDash inputs = MatchOption inputs.list ⊥ (λ path. path.now ≡ dash)

-- whether what is subtracted is standard input
abbrev pub EarlierIsDash : Inputs → Type 0
EarlierIsDash inputs = MatchOption inputs.earlier ⊥ (λ path. path.now ≡ dash)

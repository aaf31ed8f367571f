-- What is said on the error stream of a text that is written again and again, in rounds.
use Rattle.std.specs.Prelude.{◌≡◌, ◌↔◌, Bool, if◌then◌else◌, ℕ, List, [], ◌∷◌, ◌++◌, codes, Option, option_to_list, IsNone, Result, Ok, Err}
use Rattle.std.specs.List.{flat_map, list_any}
use Rattle.std.specs.Str.{bytes_eq}
use Rattle.std.specs.String.{string_bytes}
use Rattle.report_streams.specs.Failure.{IsReported}
use Rattle.report_streams.specs.declared.failure.Failure.{Failure}
use Rattle.report_streams.specs.declared.sentence.Sentence.{Sentence}

-- whether one of some sentences has the line of another
abbrev pub is_among : List Sentence → Sentence → Bool
is_among sentences sentence = list_any (λ other. bytes_eq (string_bytes sentence.line) (string_bytes other.line)) sentences

-- what a round says of a sentence that holds: nothing, if its line held in the round before
abbrev pub news_of : List Sentence → Sentence → List ℕ
news_of before sentence =
    if is_among before sentence then [] else string_bytes sentence.line ++ 10 ∷ string_bytes sentence.more

-- what it says if nothing is wrong, and something was
abbrev pub over : List Sentence → List Sentence → List ℕ
over [] now = []
over (first ∷ before) (one ∷ now) = []
over (first ∷ before) [] = codes "persist_report: no fault any more" ++ 10 ∷ []

-- what a round says, given what was wrong in the round before and what is wrong now
abbrev pub told : List Sentence → List Sentence → List ℕ
told before now = flat_map (news_of before) now ++ over before now

-- what is wrong in a round that failed: the inputs that it left out, and then its failure, if that was not reported
pub record HasOwn (left : List Sentence) (failure : Failure) (all : List Sentence) : Type 0 where
  pub own : Option Sentence
  pub reported : IsNone own ↔ IsReported failure
  pub is : all ≡ left ++ option_to_list own

-- what is wrong in a round with this outcome, which left out these inputs
abbrev pub AreWrong : List Sentence → Result (Unit {0}) Failure → List Sentence → Type 0
AreWrong left (Ok done) all = all ≡ left
AreWrong left (Err failure) all = HasOwn left failure all

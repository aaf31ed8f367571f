use Rattle.std.proofs.Common.{◌≡◌, ◌<◌, ◌^◌, ℕ, List, map, take}
use Rattle.std.specs.Fmt.{decimal}
use Rattle.std.specs.List.{AllByRecursion}
use Rattle.sum_texts.specs.Runs.{bytes_of}
use Rattle.sum_texts.proofs.fields.numbers_in.Given as goal

-- the numbers so far are those of the fields so far, and no others are
abbrev pub invariant-loop-field : goal.invariant-loop-field
invariant-loop-field l = record {
  found : map decimal l.numbers.items ≡ bytes_of (take l.field-index l.fields);
  only : (numbers : List ℕ) → AllByRecursion (λ number. number < 2 ^ 32) numbers → bytes_of l.fields ≡ map decimal numbers → l.numbers.items ≡ take l.field-index numbers;
}

-- Where a command line may name `-`: it is standard input as an input, and standard output as OUT.
use Rattle.std.specs.Prelude.{◌≡◌, ◌≢◌, ◌⊎◌, ⊤}
use Rattle.report_asks.specs.Inputs.{dash}
use Rattle.report_asks.specs.declared.wrong.Wrong.{Wrong}
use Rattle.report_asks.specs.declared.wrong.Wrong.TheVariants.{NoFile, TwoInputs, TwoOutputs}
use Rattle.report_requests.specs.declared.task.Task.{Task}
use Rattle.report_requests.specs.declared.task.Task.TheVariants.{Text, Run, Resume, Merge, Look, Fold, Extract, Size, Scale, Explain}

-- whether a task names `-` only where it may: not as OUT if it also writes a report, not as two inputs, and not as a file that is read
-- three times. Commands that write a text read standard input if no file or `-` is named.
abbrev pub DashesFit : Task → Type 0
DashesFit (Run script out workers) = out.now ≢ dash
DashesFit (Resume base script out workers) = (out.now ≢ dash) × (¬ ((base.now ≡ dash) × (script.now ≡ dash)))
DashesFit (Merge base dead out) = ¬ ((base.now ≡ dash) × (dead.now ≡ dash))
DashesFit (Look file at out) = file.now ≢ dash
DashesFit (Text ask) = ⊤
DashesFit (Fold folder) = ⊤
DashesFit (Extract file out nth) = ⊤
DashesFit (Size task) = ⊤
DashesFit (Scale name scale) = ⊤
DashesFit (Explain name) = ⊤

-- where a task names `-` that it may not, and which mistake that is
abbrev pub IsDashMistake : Task → Wrong → Type 0
IsDashMistake (Run script out workers) wrong = (out.now ≡ dash) × (wrong ≡ TwoOutputs)
IsDashMistake (Resume base script out workers) wrong =
    ((out.now ≡ dash) × (wrong ≡ TwoOutputs)) ⊎ ((base.now ≡ dash) × (script.now ≡ dash) × (wrong ≡ TwoInputs))
IsDashMistake (Merge base dead out) wrong = (base.now ≡ dash) × (dead.now ≡ dash) × (wrong ≡ TwoInputs)
IsDashMistake (Look file at out) wrong = (file.now ≡ dash) × (wrong ≡ NoFile)
IsDashMistake (Text ask) wrong = ⊥
IsDashMistake (Fold folder) wrong = ⊥
IsDashMistake (Extract file out nth) wrong = ⊥
IsDashMistake (Size task) wrong = ⊥
IsDashMistake (Scale name scale) wrong = ⊥
IsDashMistake (Explain name) wrong = ⊥

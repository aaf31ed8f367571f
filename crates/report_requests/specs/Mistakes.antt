-- Errors of a command line, and what they are about.
use Rattle.std.specs.Prelude.{◌≡◌, ◌≢◌, ◌⊎◌, ⊤}
use Rattle.clap.specs.Words.{kind_of}
use Rattle.clap.specs.declared.error.Error.{Error}
use Rattle.clap.specs.declared.error.kind.ErrorKind.{ErrorKind}
use Rattle.clap.specs.declared.error.kind.ErrorKind.TheVariants.{ArgumentConflict, DisplayHelp, DisplayVersion, InvalidValue, OutOfMemory, ValueValidation}
use Rattle.report_asks.specs.declared.wrong.Wrong.{Wrong}
use Rattle.report_asks.specs.declared.wrong.Wrong.TheVariants.{TwoInputs, TwoOutputs, NoFile, NotText, NoFault, NoPrefix, NoLabels, NoOverview, NoPage, NoHist}
use Rattle.report_requests.specs.declared.unasked.Unasked.{Unasked}
use Rattle.report_requests.specs.declared.unasked.Unasked.TheVariants.{Help, Mistake, NoMemory}

-- neither help, nor the version, nor out of memory
pub record IsMistake (kind : ErrorKind) : Type 0 where
  pub no_help : kind ≢ DisplayHelp
  pub no_version : kind ≢ DisplayVersion
  pub no_want : kind ≢ OutOfMemory

-- help or the version
abbrev pub IsHelp : ErrorKind → Type 0
IsHelp kind = (kind ≡ DisplayHelp) ⊎ (kind ≡ DisplayVersion)

-- what comes of an error of the parser: by its kind, and with the error itself
abbrev pub IsUnaskedOf : Error → Unasked → Type 0
IsUnaskedOf error (Help shown) = (shown ≡ error) × IsHelp (kind_of error)
IsUnaskedOf error (Mistake mistake) = (mistake ≡ error) × IsMistake (kind_of error)
IsUnaskedOf error NoMemory = kind_of error ≡ OutOfMemory

-- a mistake is one in the words, and what is shown is help or the version
abbrev pub HasItsKind : Unasked → Type 0
HasItsKind (Help shown) = IsHelp (kind_of shown)
HasItsKind (Mistake mistake) = IsMistake (kind_of mistake)
HasItsKind NoMemory = ⊤

-- the kind of the error for a mistake that the parser does not see: one in what goes together, or one in a value
abbrev pub mistake_kind : Wrong → ErrorKind
mistake_kind TwoInputs = ArgumentConflict
mistake_kind TwoOutputs = ArgumentConflict
mistake_kind NoFile = ArgumentConflict
mistake_kind NotText = ValueValidation
mistake_kind (NoFault nearest) = InvalidValue
mistake_kind NoPrefix = ValueValidation
mistake_kind NoLabels = ValueValidation
mistake_kind NoOverview = ArgumentConflict
mistake_kind NoPage = ValueValidation
mistake_kind NoHist = ValueValidation

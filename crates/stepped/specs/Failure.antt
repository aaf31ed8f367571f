-- Why the program did not do what it was asked to, and the status with which it then ends.
use Rattle.std.specs.Prelude.{◌≡◌, ◌≢◌, ◌⊎◌, ⊤, ℕ}
use Rattle.clap.specs.Words.{kind_of}
use Rattle.clap.specs.declared.error.Error.{Error}
use Rattle.clap.specs.declared.error.kind.ErrorKind.{ErrorKind}
use Rattle.clap.specs.declared.error.kind.ErrorKind.TheVariants.{DisplayHelp, DisplayVersion, OutOfMemory}
use Rattle.stepped.specs.declared.fault.ReplayFault.TheVariants.{NoMemory}
use Rattle.stepped.specs.declared.failure.Failure.{Failure}
use Rattle.stepped.specs.declared.failure.Failure.TheVariants.{Usage, Fault, Explained}
use Rattle.stepped.specs.Fault.{replay_status}

-- the status of a failure: 2 for a command line that asks for nothing that the program does
abbrev pub failure_status : Failure → ℕ
failure_status (Usage error) = 2
failure_status (Fault fault) = replay_status fault
failure_status (Explained fault lines) = replay_status fault

-- what the failure is if the command line is not parsed: out of memory is no mistake in the words
abbrev pub IsFailureOf : Error → Failure → Type 0
IsFailureOf error failure =
    ((kind_of error ≡ OutOfMemory) × (failure ≡ Fault NoMemory))
    ⊎ ((kind_of error ≢ OutOfMemory) × (failure ≡ Usage error))

-- neither help, nor the version, nor out of memory
pub record IsMistake (kind : ErrorKind) : Type 0 where
  pub no_help : kind ≢ DisplayHelp
  pub no_version : kind ≢ DisplayVersion
  pub no_want : kind ≢ OutOfMemory

-- a failure of usage has a mistake in the words as its cause
abbrev pub UsageIsMistake : Failure → Type 0
UsageIsMistake (Usage error) = IsMistake (kind_of error)
UsageIsMistake (Fault fault) = ⊤
UsageIsMistake (Explained fault lines) = ⊤

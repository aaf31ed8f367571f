-- What the program reports if it did not do what it was asked to.
use Rattle.std.specs.Prelude.{◌≡◌, ◌≢◌, ℕ}
use Rattle.clap.specs.Words.{kind_of}
use Rattle.report_asks.specs.declared.wrong.Wrong.{Wrong}
use Rattle.report_requests.specs.Mistakes.{IsMistake, mistake_kind}
use Rattle.persist_report_core.specs.declared.fault.CliFault.TheVariants.{NoMemory}
use Rattle.report_streams.specs.Failure.{failure_status}
use Rattle.report_streams.specs.declared.failure.Failure.{Failure}
use Rattle.report_streams.specs.declared.failure.Failure.TheVariants as failed
use Rattle.persist_report.specs.declared.unmet.Unmet.{Unmet}
use Rattle.persist_report.specs.declared.unmet.Unmet.TheVariants.{Usage, Failed}

-- its status: 2 for a mistake in the command line, else that of the failure
abbrev pub unmet_status : Unmet → ℕ
unmet_status (Usage error) = 2
unmet_status (Failed failure) = failure_status failure

-- a failure that is no mistake in the command line
abbrev pub IsNoUsage : Failure → Type 0
IsNoUsage failure = (wrong : Wrong) → failure ≢ failed.Usage wrong

-- what is reported of a mistake: the parser's error of its kind, or that memory ran out for that
abbrev pub IsToldAs : Wrong → Unmet → Type 0
IsToldAs wrong (Usage error) = kind_of error ≡ mistake_kind wrong
IsToldAs wrong (Failed failure) = failure ≡ failed.Fault NoMemory

-- a usage fault is a mistake in the words, and each mistake is reported as one
abbrev pub UsageIsMistake : Unmet → Type 0
UsageIsMistake (Usage error) = IsMistake (kind_of error)
UsageIsMistake (Failed failure) = IsNoUsage failure

-- Why a run ends before its input, SPEC 10.7a: which failures may pass, and where the stream stands at one that does not.
use Rattle.std.specs.Prelude.{◌≡◌, ◌⊎◌, ⊤, []}
use Rattle.std.specs.IoError.{error_kind}
use Rattle.std.specs.declared.io.Error.{Error}
use Rattle.std.specs.declared.io.ErrorKind.TheVariants.{Interrupted, WouldBlock}
use Rattle.console_io.specs.Stream.{State, Idle}
use Rattle.console_io.specs.declared.failure.Failure.{Failure}
use Rattle.console_io.specs.declared.failure.Failure.TheVariants.{Input, Output, Endless}

-- SPEC 10.7a: a failure may pass if a signal came, or if nothing can be moved yet.
abbrev pub Passes : Error → Type 0
Passes e = (error_kind e ≡ Interrupted) ⊎ (error_kind e ≡ WouldBlock)

-- The input fails where all that was read is answered and written, the output where some of it is still to be written.
abbrev pub FailedAt : Failure → State → Type 0
FailedAt (Input e) s = Idle s × (Passes e → ⊥)
FailedAt (Output e) s = (s.unwritten ≡ [] → ⊥) × (Passes e → ⊥)
FailedAt Endless s = ⊤

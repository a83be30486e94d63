-- What a keeper answers where the database refuses, or a row says nothing that it can use.
use Rattle.std.specs.Prelude.{◌≡◌, Option, Some, None, Result, Ok, Err, IfErr}
use Rattle.keeper.specs.declared.keeping.KeepError.{KeepError}
use Rattle.keeper.specs.declared.keeping.KeepError.TheVariants.{Fault, NoMemory}
use Rattle.sqlite.specs.declared.error.Error.{Error}
use Rattle.sqlite.specs.declared.error.Error.TheVariants.{SqliteFailure, QueryReturnedNoRows}
use Rattle.sqlite.specs.declared.error.ErrorCode.TheVariants.{OutOfMemory}
use Rattle.sqlite_keeper.specs.declared.failure.Failure.{Failure}
use Rattle.sqlite_keeper.specs.declared.failure.Failure.TheVariants.{Database, BadRow}

-- want of memory where the database says so, and else a fault
abbrev pub error_of : Failure → KeepError
error_of (Database (SqliteFailure OutOfMemory)) = NoMemory
error_of _ = Fault

-- the keeper's answer to what a call gave
abbrev pub keeper_answer : {T : Type 0} → Result T Failure → Result T KeepError
keeper_answer (Ok value) = Ok value
keeper_answer (Err failure) = Err (error_of failure)

-- the failure is no want of memory
abbrev pub IsFault : Failure → Type 0
IsFault failure = error_of failure ≡ Fault

-- a call fails only because of what a row says
abbrev pub FailsByRow : {T : Type 0} → Result T Failure → Type 0
FailsByRow result = IfErr result (λ failure. failure ≡ BadRow)

-- no value is such
abbrev pub NoValueIs : {T : Type 0} → (T → Type 0) → Type 0
NoValueIs {T} P = (value : T) → P value → ⊥

-- where a call fails with a fault, no value is such
abbrev pub FaultMeansNone : {T : Type 0} → Result T Failure → (T → Type 0) → Type 0
FaultMeansNone result P = IfErr result (λ failure. IsFault failure → NoValueIs P)

-- a query's one row, `None` where it has none
abbrev pub found_of : {R : Type 0} → Result R Error → Result (Option R) Error
found_of (Ok row) = Ok (Some row)
found_of (Err QueryReturnedNoRows) = Ok None
found_of (Err error) = Err error

-- The numbers of faults.
use Rattle.std.specs.Prelude.{ℕ}
use Rattle.plan_parse.specs.Faults as statements
use Rattle.plan_scope.specs.declared.fault.Cause.{Cause}
use Rattle.plan_scope.specs.declared.fault.Cause.TheVariants.{IncludeDepth, DuplicateRule, UnknownRule, DuplicatePool, UnknownPool, RuleCycle, EmptyPath, Dyndep, Rspfile, DepsKind, PathTooLong, TextTooLong, BadDepth}
use Rattle.plan_scope.specs.declared.fault.ScopeFault.{ScopeFault}
use Rattle.plan_scope.specs.declared.fault.ScopeFault.TheVariants.{SourceMissing, Parse, Refused, LoadMemory, Memory}

abbrev pub cause_number : Cause → ℕ
cause_number IncludeDepth = 21
cause_number DuplicateRule = 30
cause_number UnknownRule = 31
cause_number DuplicatePool = 32
cause_number UnknownPool = 33
cause_number RuleCycle = 34
cause_number EmptyPath = 35
cause_number Dyndep = 36
cause_number Rspfile = 37
cause_number DepsKind = 38
cause_number PathTooLong = 39
cause_number TextTooLong = 40
cause_number BadDepth = 42

abbrev pub number_of : ScopeFault → ℕ
number_of (SourceMissing path) = 20
number_of (Parse path fault) = statements.number_of fault
number_of (Refused path offset cause) = cause_number cause
number_of LoadMemory = 22
number_of Memory = 41

-- The numbers and the offsets of faults.
use Rattle.std.specs.Prelude.{ℕ, Option, Some, None}
use Rattle.plan_text.specs.Faults as texts
use Rattle.plan_parse.specs.declared.fault.ParseFault.{ParseFault}
use Rattle.plan_parse.specs.declared.fault.ParseFault.TheVariants.{ExpectedName, ExpectedEquals, ExpectedColon, ExpectedPath, UnexpectedIndent, UnknownRuleVariable, NoCommand, BadPool, Validation, ExpectedLineEnd, Memory, Text}

abbrev pub number_of : ParseFault → ℕ
number_of (ExpectedName at) = 10
number_of (ExpectedEquals at) = 11
number_of (ExpectedColon at) = 12
number_of (ExpectedPath at) = 13
number_of (UnexpectedIndent at) = 14
number_of (UnknownRuleVariable at) = 15
number_of (NoCommand at) = 16
number_of (BadPool at) = 17
number_of (Validation at) = 18
number_of (ExpectedLineEnd at) = 19
number_of Memory = 22
number_of (Text fault) = texts.number_of fault

abbrev pub offset_of : ParseFault → Option ℕ
offset_of (ExpectedName at) = Some at
offset_of (ExpectedEquals at) = Some at
offset_of (ExpectedColon at) = Some at
offset_of (ExpectedPath at) = Some at
offset_of (UnexpectedIndent at) = Some at
offset_of (UnknownRuleVariable at) = Some at
offset_of (NoCommand at) = Some at
offset_of (BadPool at) = Some at
offset_of (Validation at) = Some at
offset_of (ExpectedLineEnd at) = Some at
offset_of Memory = None
offset_of (Text fault) = texts.offset_of fault

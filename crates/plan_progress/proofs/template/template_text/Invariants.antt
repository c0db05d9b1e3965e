use Rattle.std.proofs.Common.{◌≡◌, ◌++◌, drop, false}
use Rattle.plan_progress.specs.Template.{text_from}
use Rattle.plan_progress.proofs.template.template_text.Given as goal

abbrev pub invariant-loop-byte : goal.invariant-loop-byte
invariant-loop-byte l = l.text.items ++ text_from l.escaped (drop l.byte-index l.template) l.numbers ≡ text_from false l.template l.numbers

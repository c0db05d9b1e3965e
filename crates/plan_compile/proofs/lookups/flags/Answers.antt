use Rattle.std.proofs.Common.{◌∙◌, List, ℕ, [], ap, sym}
use Rattle.plan_compile.specs.Slots.{members_from}
use Rattle.plan_compile.proofs.AscendLemmas.{flags_members}
use Rattle.plan_compile.proofs.lookups.flags.Goals as goal

pub returns : goal.returns
returns c = c.new.ensures ∙ c.ascending.ensures ∙ ap (λ (flags : List ℕ). members_from [] flags) c.in_ok-flags.ensures ∙ sym (flags_members [] c.args.inputs.now)

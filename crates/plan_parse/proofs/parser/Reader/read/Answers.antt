use Rattle.std.proofs.Common.{subst, sym}
use Rattle.plan_parse.specs.Progress.{RoleStandsIn}
use Rattle.plan_parse.proofs.RoleLemmas.{role_stands}
use Rattle.plan_parse.proofs.parser.Reader.read.Goals as goal

pub take-requires-clause-role : goal.take-requires-clause-role
take-requires-clause-role c =
    subst (RoleStandsIn c.args.self.now.text.now) (sym c.in-Some.ensures) (role_stands c.args.self.now.text.now (record { at = c.args.at; bytes = c.args.line.now }) c.requires.line)

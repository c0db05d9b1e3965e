-- The sentence that says why an edge is dirty.
use Rattle.std.specs.Prelude.{ℕ, List, [], ◌++◌, Option, Some, None, get_or, codes, nat_lt}
use Rattle.plan_reasons.specs.declared.reason.Reason.{Reason}
use Rattle.plan_reasons.specs.declared.reason.Reason.TheVariants.{OutputMissing, InputChanged, NeverBuilt, NotFinished, OtherCommand, PathMissing, Newer}
use Rattle.plan_reasons.specs.declared.sentences.Names.{Names}
use Rattle.plan_reasons.specs.Reasons.{first_at}

-- What a file is newer than: the first output that is older, or, if none is, what the last build read.
abbrev pub older : Names → Option ℕ → List ℕ
older names (Some k) = codes "output " ++ get_or names.outputs.now k []
older names None = codes "what the last build read"

abbrev pub sentence : Names → Reason → List ℕ
sentence names (OutputMissing n) = codes "output " ++ (get_or names.outputs.now n [] ++ codes " doesn't exist")
sentence names (InputChanged n) = codes "input " ++ (get_or names.inputs.now n [] ++ codes " was changed in this build")
sentence names NeverBuilt = codes "no earlier build is recorded"
sentence names NotFinished = codes "its command was started before, and didn't succeed"
sentence names OtherCommand = codes "its command line changed"
sentence names (PathMissing n) = codes "input " ++ (get_or names.recorded.now n [] ++ codes " doesn't exist")
sentence names (Newer n b) = codes "input " ++ (get_or names.inputs.now n [] ++ (codes " is newer than " ++ older names (first_at (λ t. nat_lt t names.newer) 0 names.stamps.now)))

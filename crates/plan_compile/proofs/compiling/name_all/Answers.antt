use Rattle.plan_compile.proofs.NameLemmas.{named_as_built}
use Rattle.plan_compile.proofs.compiling.name_all.Goals as goal

pub returns : goal.returns
returns c =
    let named = named_as_built c.args.rule c.args.graph.now c.args.manifest.now.edges c.args.names c.in_ok-names.names c.in_ok-builds.builds.items c.requires.names c.in_ok-names.was c.in_ok-builds.ensures in
    record {
      builds = c.in_ok-builds.ensures;
      texts = named.texts;
      pools = named.pools;
      numbers = named.numbers;
    }

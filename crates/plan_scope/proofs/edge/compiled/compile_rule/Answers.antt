use Rattle.plan_scope.proofs.edge.compiled.compile_rule.Goals as goal

pub returns-then-is_whole : goal.returns-then-is_whole
returns-then-is_whole c =
    let rspfile = c.compile_variable-9.ensures c.if-is_whole.true in
    let restat = c.compile_variable-8.ensures rspfile.0 in
    let pool = c.compile_variable-7.ensures restat.0 in
    let generator = c.compile_variable-6.ensures pool.0 in
    let dyndep = c.compile_variable-5.ensures generator.0 in
    let description = c.compile_variable-4.ensures dyndep.0 in
    let deps = c.compile_variable-3.ensures description.0 in
    let depfile = c.compile_variable-2.ensures deps.0 in
    let command = c.compile_variable.ensures depfile.0 in
    record {
      command = command.1;
      depfile = depfile.1;
      deps = deps.1;
      description = description.1;
      dyndep = dyndep.1;
      generator = generator.1;
      pool = pool.1;
      restat = restat.1;
      rspfile = rspfile.1;
    }

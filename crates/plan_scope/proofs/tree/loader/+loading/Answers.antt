use Rattle.std.proofs.Common.{◌<◌, ◌-◌, ℕ, List, Err, length, refl, sym, subst, ◌∙◌, arith}
use Rattle.plan_parse.specs.declared.fault.ParseFault.{ParseFault}
use Rattle.plan_scope.specs.declared.fault.ScopeFault.TheVariants.{Parse}
use Rattle.plan_scope.specs.declared.tree.File.{File}
use Rattle.plan_scope.specs.declared.fault.ReadFault.{ReadFault}
use Rattle.plan_scope.specs.ParsedTexts.{statements_in}
use Rattle.plan_scope.specs.Scopes.{Name, Text, bound_by, lookup}
use Rattle.plan_scope.specs.LoadingSteps.{LoadsStatements, LoadsWithin}
use Rattle.plan_scope.specs.LoaderAnswers.{Answers, IsRead, never, includes}
use Rattle.plan_scope.proofs.LoaderLemmas.{same_files, missing_file, unparsed_file, parsed_file, includes_file, include_more, include_stops, included_scopes, next_is, one_more, up_to_ends, up_to_stops}
use Rattle.plan_scope.proofs.tree.loader.+loading.Goals as goal

pub load_statements-loop-up_to-init : goal.load_statements-loop-up_to-init
load_statements-loop-up_to-init g t c = record {
  unfailed = refl;
  same = (λ p bytes. (λ x. x, λ x. x), λ p. (λ x. x, λ x. x));
  within = omega arith;
  is_loaded = refl;
}

pub load_file-returns-in-Err-Missing-clause-loaded :
    goal.load_file-returns-in-Err-Missing-clause-loaded
load_file-returns-in-Err-Missing-clause-loaded g t c =
    missing_file (g.S.Source.gives c.args.source.now) (g.S.Source.fails c.args.source.now) (g.S.Source.failures c.args.source.now) (g.S.Source.failures c.read_statements.new.source) c.args.left c.as_slice.result.now c.args.path c.args.scopes c.args.loaded
    c.as_slice.ensures
    (subst (λ (f : ReadFault). IsRead (g.S.Source.gives c.args.source.now) (g.S.Source.fails c.args.source.now) (g.S.Source.failures c.args.source.now) (g.S.Source.failures c.read_statements.new.source) c.as_slice.result.now (Err f)) c.in-Err-Missing.field-0-is c.in-Err-Missing.ensures.read)

pub load_file-returns-in-Err-Parse-clause-loaded :
    goal.load_file-returns-in-Err-Parse-clause-loaded
load_file-returns-in-Err-Parse-clause-loaded g t c =
    let read = subst (λ (f : ReadFault). IsRead (g.S.Source.gives c.args.source.now) (g.S.Source.fails c.args.source.now) (g.S.Source.failures c.args.source.now) (g.S.Source.failures c.read_statements.new.source) c.as_slice.result.now (Err f)) c.in-Err-Parse.field-0-is c.in-Err-Parse.ensures.read in
    (read.0, subst (λ (f : ParseFault). LoadsWithin (g.S.Source.gives c.args.source.now) never c.args.left c.args.path c.args.scopes c.args.loaded (Err (Parse c.args.path f))) (sym c.in-Err-Parse.fault-is) (unparsed_file (g.S.Source.gives c.args.source.now) c.args.left c.as_slice.result.now c.args.path c.args.scopes c.args.loaded c.in-Err-Parse.fault c.as_slice.ensures (read.1, read.2, read.3)))

pub load_file-load_statements-requires : goal.load_file-load_statements-requires
load_file-load_statements-requires g t c κs within = (omega arith, (within, subst (λ (f : File). 0 < length f.scopes) (sym c.in-Ok-new.ensures.ok) c.requires))

pub load_file-returns-in-Ok-new-clause-loaded : goal.load_file-returns-in-Ok-new-clause-loaded
load_file-returns-in-Ok-new-clause-loaded g t c =
    let read = c.in-Ok.ensures.read in
    let here = g.S.Source.gives c.read_statements.new.source in
    let fails = g.S.Source.fails c.read_statements.new.source in
    let before = g.S.Source.failures c.read_statements.new.source in
    let now = g.S.Source.failures c.load_statements.new.source in
    parsed_file here (g.S.Source.gives c.args.source.now) fails (g.S.Source.fails c.args.source.now) before (g.S.Source.failures c.args.source.now) now c.args.left c.as_slice.result.now c.args.path c.args.scopes c.args.loaded (statements_in c.in-Ok.parsed.value) c.load_statements.result
    c.as_slice.ensures (λ p bytes. (c.read_statements.ensures.same.0 p bytes).0) (λ p. (c.read_statements.ensures.same.1 p).0) read.0 (read.1, read.2, read.3)
    (subst (λ (f : File). Answers here fails before now (λ missing out. LoadsStatements (includes here missing c.args.left) c.args.left f.path f.scopes c.args.loaded (statements_in f.parsed.value) out) c.load_statements.result)
    c.in-Ok-new.ensures.ok c.load_statements.ensures.loaded)

pub load_included-returns-clause-loaded : goal.load_included-returns-clause-loaded
load_included-returns-clause-loaded g t c =
    let l = c.args.include.now.statement in
    let here : Name → Text = lookup (bound_by c.args.loaded) l.scopes in
    let taken = c.in-Ok.ensures in
    includes_file (g.S.Source.gives c.args.source.now) (g.S.Source.fails c.args.source.now) (g.S.Source.failures c.args.source.now) (g.S.Source.failures c.load_file.new.source) c.args.left c.args.loaded l c.in-Ok.path c.load_file.result
    taken.0 taken.1 (one_more c.args.left here l.kind c.in-Ok.path taken.0 taken.1)
    (subst (λ (s : List ℕ). Answers (g.S.Source.gives c.args.source.now) (g.S.Source.fails c.args.source.now) (g.S.Source.failures c.args.source.now) (g.S.Source.failures c.load_file.new.source) (λ missing out. LoadsWithin (g.S.Source.gives c.args.source.now) missing (c.args.left - 1) c.in-Ok.path s c.args.loaded out) c.load_file.result)
    c.in-Ok-scopes_of_included.ensures c.load_file.ensures.loaded)

pub load_statements-returns-in-Err-clause-loaded : goal.load_statements-returns-in-Err-clause-loaded
load_statements-returns-in-Err-clause-loaded g t c =
    let inv = c.loop-up_to.invariant in
    up_to_stops (g.S.Source.gives c.args.source.now) (g.S.Source.fails c.args.source.now) (g.S.Source.failures c.args.source.now) (g.S.Source.failures c.loop-up_to.source) c.args.left c.args.file.value c.loop-up_to.start c.args.loaded c.loop-up_to.so_far c.in-Err.fault
    inv.unfailed inv.is_loaded c.in-Err.ensures

pub load_statements-returns-in-None-clause-loaded : goal.load_statements-returns-in-None-clause-loaded
load_statements-returns-in-None-clause-loaded g t c =
    let inv = c.loop-up_to.invariant in
    let up_to = c.in-Ok.up_to in (
      inv.unfailed,
      up_to_ends (g.S.Source.gives c.args.source.now) c.args.left c.args.file.value c.loop-up_to.start c.args.loaded c.loop-up_to.so_far up_to.loaded up_to.include c.in-None.is inv.within inv.is_loaded c.in-Ok.ensures.1,
    )

pub load_statements-load_included-requires : goal.load_statements-load_included-requires
load_statements-load_included-requires g t c κs within =
    let up_to = c.in-Ok.up_to in
    let at = next_is c.args.file.value c.loop-up_to.start up_to.include c.in-Some.include c.in-Some.is c.in-Ok.ensures.0 in
    (omega arith, (within, (included_scopes c.args.file.value c.loop-up_to.start up_to.include c.in-Some.include c.in-Some.is c.in-Ok.ensures.0 c.requires, at.path)))

pub load_statements-returns-in-Err-load_included-clause-loaded : goal.load_statements-returns-in-Err-load_included-clause-loaded
load_statements-returns-in-Err-load_included-clause-loaded g t c =
    let inv = c.loop-up_to.invariant in
    let up_to = c.in-Ok.up_to in
    include_stops (g.S.Source.gives c.loop-up_to.source) (g.S.Source.gives c.args.source.now) (g.S.Source.fails c.loop-up_to.source) (g.S.Source.fails c.args.source.now) (g.S.Source.failures c.loop-up_to.source) (g.S.Source.failures c.args.source.now) (g.S.Source.failures c.load_included.new.source) c.args.left
    c.args.file.value c.loop-up_to.start up_to.include c.in-Some.include c.args.loaded c.loop-up_to.so_far up_to.loaded c.in-Err-load_included.fault
    (λ p bytes. (inv.same.0 p bytes).0) (λ p. (inv.same.1 p).0) inv.unfailed c.in-Some.is c.in-Ok.ensures.0 inv.is_loaded c.in-Ok.ensures.1 c.in-Err-load_included.ensures.loaded

pub load_statements-overflow_add-start : goal.load_statements-overflow_add-start
load_statements-overflow_add-start g t c =
    let at = next_is c.args.file.value c.loop-up_to.start c.in-Ok.up_to.include c.in-Some.include c.in-Some.is c.in-Ok.ensures.0 in
    let fits = at.fits in
    omega (arith, fits)

pub load_statements-loop-up_to-preserved : goal.load_statements-loop-up_to-preserved
load_statements-loop-up_to-preserved g t c =
    let inv = c.loop-up_to.invariant in
    let up_to = c.in-Ok.up_to in
    let at = next_is c.args.file.value c.loop-up_to.start up_to.include c.in-Some.include c.in-Some.is c.in-Ok.ensures.0 in
    let one = c.in-Ok-load_included.ensures.loaded in
    record {
      unfailed = one.0 ∙ inv.unfailed;
      same = same_files _ _ _ _ _ _ c.in-Ok-load_included.ensures.same inv.same;
      within = (let lt = at.within in omega (arith, lt));
      is_loaded =
          include_more (g.S.Source.gives c.loop-up_to.source) (g.S.Source.gives c.args.source.now) c.args.left c.args.file.value c.loop-up_to.start up_to.include c.in-Some.include c.args.loaded c.loop-up_to.so_far up_to.loaded c.in-Ok-load_included.so_far
          (λ p bytes. (inv.same.0 p bytes).0) c.in-Some.is c.in-Ok.ensures.0 inv.is_loaded c.in-Ok.ensures.1 one.1;
    }

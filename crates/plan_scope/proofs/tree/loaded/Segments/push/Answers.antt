use Rattle.std.proofs.Common.{List, [], ◌∷◌, ◌++◌, max, ap, ◌∙◌, arith}
use Rattle.plan_parse.specs.PathLists.{between}
use Rattle.plan_scope.specs.declared.tree.File.{File}
use Rattle.plan_scope.specs.Trees.{TreeStatement}
use Rattle.plan_scope.specs.Loading.{greatest_scope, own_scope}
use Rattle.plan_scope.specs.FileStatements.{joined, statements_at}
use Rattle.plan_scope.proofs.SegmentLemmas.{greatest_behind}
use Rattle.plan_scope.proofs.tree.loaded.Segments.push.Goals as goal

pub invariant_of-self-2 : goal.invariant_of-self-2
invariant_of-self-2 c =
    let front = c.self.inside.segments.items in
    let own = ap own_scope (c.as_slice.ensures ∙ ap (λ (f : File). f.scopes) c.as_ref-2.ensures) in
    c.max-self-inside.ensures
    ∙ (ap (λ n. max n c.own_scope.result) c.self.invariant
    ∙ (ap (max (greatest_scope (joined front))) (c.own_scope.ensures ∙ own)
    ∙ greatest_behind c.args.file.now.value c.args.start c.args.end front c.push.new.self.items (omega (arith, c.requires.start, c.if-start-end.false)) c.requires.end
    (c.in_ok-push.ensures.items ∙ ap (λ (s : List TreeStatement). front ++ s ∷ []) (c.new.ensures ∙ ap (λ (f : File). between c.args.start c.args.end (statements_at f)) c.in_ok-clone.ensures.cases))))

-- The meaning of a tree's statements. Each depends on the statements above it and on all statements of the tree.
use Rattle.std.specs.Prelude.{ℕ, Bool, true, false, not, ◌||◌, ◌&&◌, List, [], ◌∷◌, ◌++◌, length, map, Option, Some, None, Result, Ok, Err, bytes_eq, nat_le, if◌then◌else◌, unwrap_or, flat_map, codes, is_none, is_some}
use Rattle.std.specs.List.{list_any}
use Rattle.plan_text.specs.Bytes.{line_feed}
use Rattle.plan_text.specs.Numerals.{number_in}
use Rattle.plan_text.specs.Path.{canonical_of}
use Rattle.plan_text.specs.declared.fault.TextFault.{TextFault}
use Rattle.plan_text.specs.declared.piece_reader.Piece.{Piece}
use Rattle.plan_parse.specs.declared.compact.PathLists.{PathLists}
use Rattle.plan_parse.specs.PathLists.{all_in, map_lists}
use Rattle.plan_parse.specs.declared.statement.Binding.{Binding}
use Rattle.plan_parse.specs.Build.{Build}
use Rattle.plan_parse.specs.Kinds.{StatementKind}
use Rattle.plan_parse.specs.Kinds as kind
use Rattle.plan_scope.specs.declared.fault.Cause.{Cause}
use Rattle.plan_scope.specs.declared.fault.Cause.TheVariants.{DuplicateRule, UnknownRule, DuplicatePool, UnknownPool, RuleCycle, EmptyPath, Dyndep, Rspfile, DepsKind, PathTooLong, TextTooLong, BadDepth}
use Rattle.plan_scope.specs.declared.fault.ScopeFault.{ScopeFault}
use Rattle.plan_scope.specs.declared.fault.ScopeFault.TheVariants.{Refused}
use Rattle.plan_scope.specs.declared.manifest.DefaultTarget.{DefaultTarget}
use Rattle.plan_scope.specs.Edge.{Edge}
use Rattle.plan_scope.specs.declared.manifest.Manifest.{Manifest}
use Rattle.plan_scope.specs.declared.manifest.Pool.{Pool}
use Rattle.plan_scope.specs.declared.edge.variables.Variables.{Variables}
use Rattle.plan_scope.specs.Trees.{TreeStatement}
use Rattle.plan_scope.specs.Scopes.{Text, Name, Bindings, ScopedBindings, last_of, frame, nearest, lookup, expand, in_own, bound_by, is_too_long, is_long_path, is_empty}
use Rattle.plan_scope.specs.Expansion.{EdgeEnvironment, plain, quoted, variable}

-- The first of these causes that applies.
abbrev pub first_of : List (Bool × Cause) → Option Cause
first_of [] = None
first_of (x ∷ more) = if x.0 then Some x.1 else first_of more

abbrev pub or_refused : {A : Type 0} → Option Cause → A → Result A Cause
or_refused (Some cause) x = Err cause
or_refused None x = Ok x

-- The variables of a rule, not expanded yet.
abbrev pub late : List Binding → Bindings (List Piece)
late bindings = map (λ b. (b.name, b.value)) bindings

-- The rule that a statement declares, in its own scope.
abbrev pub rules_in : List ℕ → StatementKind → ScopedBindings (Bindings (List Piece))
rules_in scopes (kind.Rule r) = in_own scopes r.name (late r.bindings)
rules_in scopes other = []

abbrev pub rules_of : List TreeStatement → ScopedBindings (Bindings (List Piece))
rules_of statements = flat_map (λ l. rules_in l.scopes l.kind) statements

-- Whether the own scope of a statement has a rule with this name.
abbrev pub has_own : {V : Type 0} → ScopedBindings V → List ℕ → Name → Bool
has_own bound [] name = false
has_own bound (own ∷ outer) name = is_some (last_of name (frame own bound))

-- A rule is declared at most once in a scope, and `phony` nowhere.
abbrev pub is_taken : ScopedBindings (Bindings (List Piece)) → List ℕ → Name → Bool
is_taken rules scopes name = bytes_eq name (codes "phony") || has_own rules scopes name

-- The name of the pool that a statement declares.
abbrev pub pools_in : StatementKind → List Name
pools_in (kind.Pool p) = p.name ∷ []
pools_in other = []

-- The names of all pools. Pools are shared by all files, and `console` always exists.
abbrev pub pools_of : List TreeStatement → List Name
pools_of statements = codes "console" ∷ flat_map (λ l. pools_in l.kind) statements

abbrev pub is_among : List Name → Name → Bool
is_among names name = list_any (bytes_eq name) names

abbrev pub max_depth : ℕ
max_depth = 1000000

-- The depth in a text of one to seven digits.
abbrev pub depth_in : Text → Option ℕ
depth_in text = if nat_le (length text) 7 then number_in max_depth text else None

-- The canonical form of a path. A path that has no bytes, or is too long, stays as it is.
abbrev pub canonical_or : Text → Result Text TextFault → Text
canonical_or text (Ok path) = path
canonical_or text (Err fault) = text

abbrev pub path_of : Text → Text
path_of text = if is_long_path text then text else canonical_or text (canonical_of text)

-- The variables of a build block. Their values are expanded at once by the meaning of names above the block.
abbrev pub block_of : (Name → Text) → List Binding → Bindings Text
block_of here bindings = map (λ b. (b.name, expand here b.value)) bindings

-- The text of a name on a build line, which is looked up in the line's own block first.
abbrev pub near : (Name → Text) → Bindings Text → Name → Text
near here block name = unwrap_or (last_of name block) (here name)

-- The expanded paths of a list. The list is split before its paths are expanded.
abbrev pub paths_of : (Name → Text) → List (List Piece) → List Text
paths_of here paths = map (expand here) paths

-- The paths of a build line, by kind.
abbrev pub Paths : Type 0
Paths = PathLists (List Text)

-- The expanded paths of a build line.
abbrev pub texts_of : (Name → Text) → Build → Paths
texts_of here b = map_lists (paths_of here) b.paths

-- The canonical forms of paths.
abbrev pub canonical_paths : Paths → Paths
canonical_paths p = map_lists (map path_of) p

-- Whether a path has no bytes.
abbrev pub has_empty : Paths → Bool
has_empty p = list_any is_empty (all_in p)

-- Whether a path is too long.
abbrev pub has_long : Paths → Bool
has_long p = list_any is_long_path (all_in p)

-- The environment in which the variables of an edge are looked up: `here` is the meaning of names above its statement,
-- and `file` their meaning in its file after the whole tree was read.
abbrev pub environment_of : (here file : Name → Text) → Build → Bindings (List Piece) → EdgeEnvironment
environment_of here file b rule =
    let block = block_of here b.bindings in
    let paths = canonical_paths (texts_of (near here block) b) in
    record { inputs = paths.inputs; outputs = paths.outputs; block = block; rule = rule; file = file }

-- The variables in which paths are quoted.
abbrev pub quoted_names : List Name
quoted_names = codes "command" ∷ codes "description" ∷ []

-- The variables in which paths stay as they are.
abbrev pub plain_names : List Name
plain_names =
    codes "depfile" ∷ codes "deps" ∷ codes "dyndep" ∷ codes "generator" ∷ codes "pool" ∷ codes "restat"
    ∷ codes "rspfile" ∷ []

-- Whether the expansion of one of these variables meets a cycle.
abbrev pub meets_cycle : (Text → Text) → EdgeEnvironment → List Name → Bool
meets_cycle show edge names = list_any (λ name. is_none (variable show edge name)) names

-- The text of a variable. If its expansion meets a cycle, the text is empty, and no other fault is found in it.
abbrev pub text_of_variable : (Text → Text) → EdgeEnvironment → Name → Text
text_of_variable show edge name = unwrap_or (variable show edge name) []

-- The variables of an edge.
abbrev pub variables_of : EdgeEnvironment → Variables
variables_of edge = record {
  command = text_of_variable quoted edge (codes "command");
  depfile = text_of_variable plain edge (codes "depfile");
  deps = text_of_variable plain edge (codes "deps");
  description = text_of_variable quoted edge (codes "description");
  dyndep = text_of_variable plain edge (codes "dyndep");
  generator = text_of_variable plain edge (codes "generator");
  pool = text_of_variable plain edge (codes "pool");
  restat = text_of_variable plain edge (codes "restat");
  rspfile = text_of_variable plain edge (codes "rspfile");
  has_cycle = meets_cycle quoted edge quoted_names || meets_cycle plain edge plain_names;
}

-- The variables of a phony edge, which has no rule and looks up only `dyndep`.
abbrev pub phony_variables : EdgeEnvironment → Variables
phony_variables edge = record {
  command = [];
  depfile = [];
  deps = [];
  description = [];
  dyndep = text_of_variable plain edge (codes "dyndep");
  generator = [];
  pool = [];
  restat = [];
  rspfile = [];
  has_cycle = is_none (variable plain edge (codes "dyndep"));
}

-- The texts of the variables.
abbrev pub texts_of_variables : Variables → List Text
texts_of_variables v = v.command ∷ v.depfile ∷ v.deps ∷ v.description ∷ v.dyndep ∷ v.generator ∷ v.pool ∷ v.restat ∷ v.rspfile ∷ []

abbrev pub is_present : Text → Bool
is_present text = not (is_empty text)

-- Whether a text names a pool that doesn't exist. An empty text names none. A text that is too long is no pool's name.
abbrev pub names_no_pool : List Name → Text → Bool
names_no_pool pools text = not (is_empty text) && (is_too_long text || not (is_among pools text))

abbrev pub is_other_deps : Text → Bool
is_other_deps text = not (is_empty text) && not (bytes_eq text (codes "gcc"))

-- The causes for which a build line may be refused, the least number first. They depend on the pools of the tree, the
-- line's variables, and whether a path has no bytes, a path is too long or a text of its block is too long.
abbrev pub causes_of : List Name → Variables → (empty_path long_path long_value : Bool) → List (Bool × Cause)
causes_of pools v empty_path long_path long_value =
    (names_no_pool pools v.pool, UnknownPool)
    ∷ (v.has_cycle, RuleCycle)
    ∷ (empty_path, EmptyPath)
    ∷ (is_present v.dyndep, Dyndep)
    ∷ (is_present v.rspfile, Rspfile)
    ∷ (is_other_deps v.deps, DepsKind)
    ∷ (long_path, PathTooLong)
    ∷ (list_any is_too_long (texts_of_variables v) || long_value, TextTooLong)
    ∷ []

-- The edge with these canonical paths and these variables.
abbrev pub edge_of : Paths → Variables → Bool → Edge
edge_of p v is_phony = record {
  paths = p;
  command = v.command;
  description = v.description;
  depfile = v.depfile;
  deps = is_present v.deps;
  restat = is_present v.restat;
  generator = is_present v.generator;
  phony = is_phony;
  pool = v.pool;
}

-- The edge of a build line or the cause for which it is refused, given the pools of the tree, the meaning of names
-- above the line, and the line's variables.
abbrev pub edge_or_refusal : List Name → (Name → Text) → Build → Variables → Bool → Result Edge Cause
edge_or_refusal pools here b v is_phony =
    let block = block_of here b.bindings in
    let texts = texts_of (near here block) b in
    or_refused (first_of (causes_of pools v (has_empty texts) (has_long texts) (list_any (λ b. is_too_long b.1) block))) (edge_of (canonical_paths texts) v is_phony)

-- The same, given the rule. If the rule is unknown, that is the only cause.
abbrev pub edge_of_rule : List Name → (here file : Name → Text) → Build → Option (Bindings (List Piece)) → Result Edge Cause
edge_of_rule pools here file b None = Err UnknownRule
edge_of_rule pools here file b (Some rule) = edge_or_refusal pools here b (variables_of (environment_of here file b rule)) false

-- The edge of a build line, given the pools of the tree and the rules above the line.
abbrev pub edge_of_build : List Name → ScopedBindings (Bindings (List Piece)) → List ℕ → (here file : Name → Text) → Build → Result Edge Cause
edge_of_build pools rules scopes here file b =
    if bytes_eq b.rule (codes "phony") then edge_or_refusal pools here b (phony_variables (environment_of here file b [])) true
    else edge_of_rule pools here file b (nearest rules scopes b.rule)

-- A pool, given the names of the pools above it and the text of its depth.
abbrev pub pool_by : List Name → Name → Text → Result Pool Cause
pool_by above name text =
    or_refused (first_of ((is_among above name, DuplicatePool) ∷ (is_too_long text, TextTooLong) ∷ (is_none (depth_in text), BadDepth) ∷ []))
    (record { name = name; depth = unwrap_or (depth_in text) 0 })

-- A target, given the number of build lines above it.
abbrev pub target_at : ℕ → Text → DefaultTarget
target_at edges_above path = record { path = path_of path; edges_above = edges_above }

-- The targets of a statement.
abbrev pub targets_by : ℕ → List Text → Result (List DefaultTarget) Cause
targets_by edges_above paths =
    or_refused (first_of ((list_any is_empty paths, EmptyPath) ∷ (list_any is_long_path paths, PathTooLong) ∷ []))
    (map (target_at edges_above) paths)

abbrev pub builds_in : StatementKind → List Build
builds_in (kind.Build b) = b ∷ []
builds_in other = []

abbrev pub builds_of : List TreeStatement → List Build
builds_of statements = flat_map (λ l. builds_in l.kind) statements

-- The manifests that statements add.
abbrev pub empty_manifest : Manifest
empty_manifest = record { edges = []; pools = []; defaults = [] }

abbrev pub edge_alone : Edge → Manifest
edge_alone edge = record { edges = edge ∷ []; pools = []; defaults = [] }

abbrev pub pool_alone : Pool → Manifest
pool_alone pool = record { edges = []; pools = pool ∷ []; defaults = [] }

abbrev pub defaults_alone : List DefaultTarget → Manifest
defaults_alone targets = record { edges = []; pools = []; defaults = targets }

abbrev pub with_more : Manifest → Manifest → Manifest
with_more m n = record { edges = m.edges ++ n.edges; pools = m.pools ++ n.pools; defaults = m.defaults ++ n.defaults }

abbrev pub map_ok : {A B : Type 0} → (A → B) → Result A Cause → Result B Cause
map_ok f (Ok x) = Ok (f x)
map_ok f (Err cause) = Err cause

-- The manifest that a statement adds, given all statements of the tree and those above it.
abbrev pub manifest_of_kind : List TreeStatement → List TreeStatement → List ℕ → StatementKind → Result Manifest Cause
manifest_of_kind all above scopes (kind.Rule r) = if is_taken (rules_of above) scopes r.name then Err DuplicateRule else Ok empty_manifest
manifest_of_kind all above scopes (kind.Build b) =
    let here = lookup (bound_by above) scopes in
    let file = lookup (bound_by all) scopes in
    map_ok edge_alone (edge_of_build (pools_of all) (rules_of above) scopes here file b)
manifest_of_kind all above scopes (kind.Pool p) =
    let here = lookup (bound_by above) scopes in
    map_ok pool_alone (pool_by (pools_of above) p.name (expand here p.depth))
manifest_of_kind all above scopes (kind.Default targets) =
    let here = lookup (bound_by above) scopes in
    map_ok defaults_alone (targets_by (length (builds_of above)) (paths_of here targets))
manifest_of_kind all above scopes other = Ok empty_manifest

abbrev pub in_front : TreeStatement → Result Manifest Cause → Result Manifest ScopeFault → Result Manifest ScopeFault
in_front l (Err cause) more = Err (Refused l.path l.offset cause)
in_front l (Ok given) (Ok more) = Ok (with_more given more)
in_front l (Ok given) (Err fault) = Err fault

-- The manifest that the statements after those above add, or the fault of the first statement that has one.
abbrev pub manifest_past : List TreeStatement → List TreeStatement → List TreeStatement → Result Manifest ScopeFault
manifest_past all above [] = Ok empty_manifest
manifest_past all above (l ∷ more) = in_front l (manifest_of_kind all above l.scopes l.kind) (manifest_past all (above ++ l ∷ []) more)

-- The pool that exists without a declaration.
abbrev pub console : Pool
console = record { name = codes "console"; depth = 1 }

-- A manifest followed by the rest, unless the rest has a fault.
abbrev pub with_front : Manifest → Result Manifest ScopeFault → Result Manifest ScopeFault
with_front front (Ok more) = Ok (with_more front more)
with_front front (Err fault) = Err fault

-- The meaning of a tree's statements.
abbrev pub manifest_of : List TreeStatement → Result Manifest ScopeFault
manifest_of statements = with_front (pool_alone console) (manifest_past statements [] statements)

-- An edge's command and a newline, or nothing for a phony edge.
abbrev pub command_line : Edge → List ℕ
command_line edge = if edge.phony then [] else edge.command ++ line_feed ∷ []

-- The commands of the edges in order, with a newline after each.
abbrev pub commands_of : Manifest → List ℕ
commands_of manifest = flat_map command_line manifest.edges

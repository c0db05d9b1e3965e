-- A statement in the lists of a file has the same meaning whatever follows it. Lemmas for
-- src/statement_reader.rt and src/parser.rt.
use Rattle.std.proofs.Common.{◌≡◌, ℕ, ◌<◌, ◌≤◌, List, [], ◌∷◌, ◌++◌, length, get_or, map, refl, sym, ap, ◌∙◌, arith}
use Rattle.std.proofs.lemmas.List.{get_or_append_left, get_or_push, length_push, map_push}
use Rattle.plan_parse.specs.declared.compact.BuildLists.{BuildLists}
use Rattle.plan_parse.specs.declared.compact.CompactBuild.{CompactBuild}
use Rattle.plan_parse.specs.declared.compact.CompactBinding.{CompactBinding}
use Rattle.plan_parse.specs.declared.compact.CompactPath.{CompactPath}
use Rattle.plan_parse.specs.declared.compact.CompactStatement.{CompactStatement}
use Rattle.plan_parse.specs.declared.compact.CompactStatement.TheVariants as kept
use Rattle.plan_parse.specs.declared.compact.PathLists.{PathLists}
use Rattle.plan_parse.specs.PathLists.{added_to, between, lists_at, map_lists}
use Rattle.plan_parse.specs.Kinds.{Statement}
use Rattle.plan_parse.specs.Kinds as kind
use Rattle.plan_parse.specs.Compact.{AllLast, BuildLasts, Follows, Lasts, build_at, built_in, line_in, no_build, path_in, said_in, variable_in}
use Rattle.plan_parse.proofs.JoinedLemmas.{between_same, extends_by, extends_far, extends_itself, extends_same, stand_still}

-- the lists follow themselves
pub follows_itself : (lists : BuildLists) → Follows lists lists
follows_itself lists = record { builds = extends_itself lists.builds.items; paths = extends_itself lists.paths.items; bindings = extends_itself lists.bindings.items }

-- lists with the same items follow them
pub follows_same : (older later : BuildLists) → later.builds.items ≡ older.builds.items → later.paths.items ≡ older.paths.items → later.bindings.items ≡ older.bindings.items → Follows older later
follows_same older later a b c = record {
  builds = extends_same older.builds.items later.builds.items a;
  paths = extends_same older.paths.items later.paths.items b;
  bindings = extends_same older.bindings.items later.bindings.items c;
}

-- lists that follow others that follow them
pub follows_far : (older lists later : BuildLists) → Follows older lists → Follows lists later → Follows older later
follows_far older lists later near far = record {
  builds = extends_far older.builds.items lists.builds.items later.builds.items near.builds far.builds;
  paths = extends_far older.paths.items lists.paths.items later.paths.items near.paths far.paths;
  bindings = extends_far older.bindings.items lists.bindings.items later.bindings.items near.bindings far.bindings;
}

-- a build line with its paths and variables in the lists so far
pub build_lasts : (text : List ℕ) (lists : BuildLists) (b : CompactBuild) → b.paths.outputs ≤ length lists.paths.items → b.paths.implicit_outputs ≤ length lists.paths.items → b.paths.inputs ≤ length lists.paths.items
    → b.paths.implicit_inputs ≤ length lists.paths.items → b.paths.order_only_inputs ≤ length lists.paths.items → b.bindings.end ≤ length lists.bindings.items → BuildLasts text lists b
build_lasts text lists b v w x y z bindings = λ later follows.
    let said : PathLists (List CompactPath) → List CompactBinding → Statement = λ paths found. record {
      offset = b.offset;
      kind = kind.Build (record {
        paths = map_lists (map (path_in text)) paths;
        rule = (line_in text b.rule).bytes;
        bindings = map (variable_in text) found;
      });
    } in
    ap (λ (paths : PathLists (List CompactPath)). said paths (between b.bindings.start b.bindings.end later.bindings.items)) (stand_still b.paths lists.paths.items later.paths.items v w x y z follows.paths)
    ∙ ap (said (lists_at b.paths lists.paths.items)) (between_same b.bindings.start b.bindings.end lists.bindings.items later.bindings.items bindings follows.bindings)

-- the lists with one more build line
pub follows_more : (older lists later : BuildLists) (b : CompactBuild) → Follows older lists → lists.builds ≡ older.builds → later.builds.items ≡ lists.builds.items ++ b ∷ [] → later.paths ≡ lists.paths → later.bindings ≡ lists.bindings
    → Follows older later
follows_more older lists later b follows same pushed paths bindings =
    follows_far older lists later follows (record {
      builds = extends_by lists.builds.items later.builds.items (b ∷ []) pushed;
      paths = extends_same lists.paths.items later.paths.items (ap (λ v. v.items) paths);
      bindings = extends_same lists.bindings.items later.bindings.items (ap (λ v. v.items) bindings);
    })

-- that build line, by its number
pub number_lasts : (text : List ℕ) (lists pushed : BuildLists) (b : CompactBuild) (n : ℕ) → BuildLasts text lists b → n ≡ length lists.builds.items → pushed.builds.items ≡ lists.builds.items ++ b ∷ [] → pushed.paths ≡ lists.paths
    → pushed.bindings ≡ lists.bindings → Lasts text pushed (kept.Build n)
number_lasts text lists pushed b n lasts last builds paths bindings = λ later follows.
    let more : Follows lists pushed = follows_more lists lists pushed b (follows_itself lists) refl builds paths bindings in
    let within : n < length pushed.builds.items = omega (arith, last, ap length builds, length_push lists.builds.items b) in
    let here : build_at pushed n ≡ b = ap (λ (v : List CompactBuild). get_or v n no_build) builds ∙ get_or_push lists.builds.items b no_build n (sym last) in
    let there : build_at later n ≡ build_at pushed n =
    ap (λ (v : List CompactBuild). get_or v n no_build) follows.builds ∙ get_or_append_left pushed.builds.items (added_to pushed.builds.items later.builds.items) no_build n within in
    ap (built_in text later) (there ∙ here) ∙ lasts later (follows_far lists pushed later more follows) ∙ sym (ap (built_in text pushed) here ∙ lasts pushed more)

-- all statements so far, and one more
pub all_last : (text : List ℕ) (older lists : BuildLists) (statements all : List CompactStatement) (s : CompactStatement) → all ≡ statements ++ s ∷ [] → AllLast text older statements → Follows older lists → Lasts text lists s → AllLast text lists all
all_last text older lists statements all s pushed last more one = λ later follows.
    ap (map (said_in text later)) pushed
    ∙ map_push (said_in text later) statements s
    ∙ ap (λ (v : List Statement). v ++ said_in text later s ∷ []) (last later (follows_far older lists later more follows) ∙ sym (last lists more))
    ∙ ap (λ (x : Statement). map (said_in text lists) statements ++ x ∷ []) (one later follows)
    ∙ sym (ap (map (said_in text lists)) pushed ∙ map_push (said_in text lists) statements s)

-- the meanings of all statements so far, and one more
pub said_more : (text : List ℕ) (older lists : BuildLists) (statements all : List CompactStatement) (s : CompactStatement) → all ≡ statements ++ s ∷ [] → AllLast text older statements → Follows older lists
    → map (said_in text older) statements ++ said_in text lists s ∷ [] ≡ map (said_in text lists) all
said_more text older lists statements all s pushed last more =
    sym (ap (map (said_in text lists)) pushed ∙ map_push (said_in text lists) statements s ∙ ap (λ (v : List Statement). v ++ said_in text lists s ∷ []) (last lists more))

-- What builds promise of their status. Serves src/building.rt.
use Rattle.std.proofs.Common.{◌≡◌, ℕ, List, [], ◌∷◌, Result, Ok, Err, IfOk, IfErr, length, refl, inl, inr, subst, sym}
use Rattle.plan_scope.specs.Loading.{FileContents, IsMissing, PathSet}
use Rattle.plan_scope.specs.Scopes.{Text}
use Rattle.plan_lanes.specs.Journals.{Rule}
use Rattle.plan_machine.specs.Limits.{Limits}
use Rattle.plan_commands.specs.Building.{Asked, asked, exit_status}
use Rattle.plan_commands.specs.Images.{SinkState}
use Rattle.plan_commands.specs.Showing.{Shown}
use Rattle.plan_commands.specs.declared.building.Done.{Done}
use Rattle.plan_printing.specs.declared.fault.PlanFault.{PlanFault}
use Rattle.plan_build_tools.specs.Naming.{NamesTargets}
use Rattle.plan_options.specs.Saying.{targets}
use Rattle.plan_options.specs.declared.argument.Argument.{Argument}
use Rattle.plan_options.specs.declared.command.Build.{Build}
use Rattle.plan_options.specs.declared.command.Build.TheVariants as build
use Rattle.plan_options.specs.declared.command.Mode.{Mode}
use Rattle.plan_options.specs.declared.command.Reasons.{Reasons}
use Rattle.plan_build.specs.Statuses.{BuiltNamed, Ended, Goes, HasUnknownTarget, IsSameSource, SaysBuilt, SaysDone, StopsIn, asked_by, limits_of, manifest_in}

pub ended : (m : Mode) (gives : FileContents) (shown : Shown) (rule : Rule) (a : Asked) (old new : SinkState) (result : Result Done PlanFault)
    → IfOk result (λ d. Goes m gives shown rule a old new d) → IfOk result (λ d. Ended m gives shown rule a d)
ended m gives shown rule a old new (Ok d) built = record { before = old; after = new; built = built }
ended m gives shown rule a old new (Err fault) built = tt

pub unknown : (m : Mode) (gives : FileContents) (fails : PathSet) (shown : Shown) (rule : Rule) (a : Asked) (old new : SinkState) (reads failed : ℕ) (result : Result Done PlanFault)
    → IfErr result (λ fault. StopsIn m gives (IsMissing gives fails reads failed) shown rule a old new fault) → IfErr result (λ fault. fault.number ≡ 132 → HasUnknownTarget m gives fails shown rule a)
unknown m gives fails shown rule a old new reads failed (Ok d) stops = tt
unknown m gives fails shown rule a old new reads failed (Err fault) stops = λ is. record { before = old; after = new; fault = fault; reads = reads; failed = failed; number = is; stopped = stops }

pub fault_so : (P : PlanFault → Type 0) (result : Result Done PlanFault) (fault : PlanFault) → result ≡ Err fault → IfErr result P → P fault
fault_so P result fault is h = subst (λ (r : Result Done PlanFault). IfErr r P) is h

pub none_named : (names : List Text) → length names ≡ 0 → names ≡ []
none_named [] is = refl
none_named (name ∷ names) is = absurd cc

module _ {S : Type 0} (gives : S → FileContents) (fails : S → PathSet) (source : S) (shown : Shown) (rule : Rule) (line : List Argument) (default status : ℕ) where
  -- A build of targets says what its mode says.
  pub targets_done : (b : Build) (m : Mode) (r : Reasons) → b ≡ build.Targets m r → SaysBuilt m gives fails source shown rule line default status → SaysDone b gives fails source shown rule line default status
  targets_done b m r is says = subst (λ (x : Build). SaysDone x gives fails source shown rule line default status) (sym is) says

module _ {S : Type 0} (m : Mode) (gives : S → FileContents) (fails : S → PathSet) where
  pub same_since : (a b c : S) → IsSameSource gives fails a b → IsSameSource gives fails b c → IsSameSource gives fails a c
  same_since a b c ab bc = (
    λ p bytes. (λ x. (bc.0 p bytes).0 ((ab.0 p bytes).0 x), λ x. (ab.0 p bytes).1 ((bc.0 p bytes).1 x)),
    λ p. (λ x. (bc.1 p).0 ((ab.1 p).0 x), λ x. (ab.1 p).1 ((bc.1 p).1 x)),
  )

  -- What was built of a source was built of the source as it was before.
  pub built_since : (now before : S) (shown : Shown) (rule : Rule) (path : Text) (limits : Limits) (words : List Text) → IsSameSource gives fails now before
      → BuiltNamed m gives fails now shown rule path limits words → BuiltNamed m gives fails before shown rule path limits words
  built_since now before shown rule path limits words same b = record {
    read = b.read;
    same = same_since b.read now before b.same same;
    names = b.names;
    named = b.named;
    later = b.later;
    stays = same_since b.later now before b.stays same;
    built = b.built;
  }

  same_source : (s : S) → IsSameSource gives fails s s
  same_source s = (λ p bytes. (λ x. x, λ x. x), λ p. (λ x. x, λ x. x))

  -- Words that name no target are built.
  pub nothing_built : (source : S) (shown : Shown) (rule : Rule) (path given : Text) (limits : Limits) (words names : List Text) → given ≡ path → NamesTargets (gives source) (fails source) given words names → length names ≡ 0
      → BuiltNamed m gives fails source shown rule path limits words
  nothing_built source shown rule path given limits words names same named none = record {
    read = source;
    same = same_source source;
    names = names;
    named = subst (λ (p : Text). NamesTargets (gives source) (fails source) p words names) same named;
    later = source;
    stays = same_source source;
    built = inl (none_named names none);
  }

  -- Words that name targets are built if the build of these targets ended well.
  pub named_built : (source later : S) (shown : Shown) (rule : Rule) (path given : Text) (limits : Limits) (words names targets : List Text) (result : Result Done PlanFault) (d : Done) → given ≡ path
      → NamesTargets (gives source) (fails source) given words names → IsSameSource gives fails later source → targets ≡ names → result ≡ Ok d → exit_status d ≡ 0
      → IfOk result (λ x. Ended m (gives later) shown rule (asked path limits targets) x) → BuiltNamed m gives fails source shown rule path limits words
  named_built source later shown rule path given limits words names targets result d same named stays are is well ended = record {
    read = source;
    same = same_source source;
    names = names;
    named = subst (λ (p : Text). NamesTargets (gives source) (fails source) p words names) same named;
    later = later;
    stays = stays;
    built = inr (record {
      done = d;
      ended = subst (λ (ts : List Text). Ended m (gives later) shown rule (asked path limits ts) d) are (subst (λ r. IfOk r (λ x. Ended m (gives later) shown rule (asked path limits targets) x)) is ended);
      well = well;
    });
  }

  -- A build was refused for an unknown target, and then what its words name was built.
  pub builds_other : (before now : S) (shown : Shown) (rule : Rule) (line : List Argument) (default : ℕ) (options : Limits) (refused named : List Text) → options ≡ limits_of line default → refused ≡ targets line → named ≡ targets line
      → IsSameSource gives fails now before → HasUnknownTarget m (gives before) (fails before) shown rule (asked (manifest_in line) options refused) → BuiltNamed m gives fails now shown rule (manifest_in line) options named
      → HasUnknownTarget m (gives before) (fails before) shown rule (asked_by line default) × BuiltNamed m gives fails before shown rule (manifest_in line) (limits_of line default) (targets line)
  builds_other before now shown rule line default options refused named is are too same unknown built = (
    subst (λ (o : Limits). HasUnknownTarget m (gives before) (fails before) shown rule (asked (manifest_in line) o (targets line))) is
        (subst (λ (words : List Text). HasUnknownTarget m (gives before) (fails before) shown rule (asked (manifest_in line) options words)) are unknown),
    built_since now before shown rule (manifest_in line) (limits_of line default) (targets line) same
        (subst (λ (o : Limits). BuiltNamed m gives fails now shown rule (manifest_in line) o (targets line)) is (subst (λ (words : List Text). BuiltNamed m gives fails now shown rule (manifest_in line) options words) too built)),
  )

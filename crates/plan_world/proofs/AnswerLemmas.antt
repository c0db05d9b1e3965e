-- Replies that suit their questions. Serves src/stamp.rt, src/depfile.rt and src/world.rt.
use Rattle.std.proofs.Common.{◌≡◌, ◌≤◌, List, ℕ, [], length, Option, Some, None, Result, Ok, Err, inl, inr, refl, sym, subst}
use Rattle.std.specs.Prelude.{IfErr, IfOk, IfSome, IsUtf8, ℤ}
use Rattle.std.specs.declared.alloc.Global.{Global}
use Rattle.std.specs.declared.process.command.Command.{Command}
use Rattle.plan_record.specs.Entries.{EntryData}
use Rattle.plan_verify.specs.Turn.{Stat, Recall, Run, Deps}
use Rattle.plan_machine.specs.Recording.{Recording}
use Rattle.plan_machine.specs.declared.event.reply.Reply.{Reply}
use Rattle.plan_machine.specs.declared.event.reply.Reply.TheVariants.{Bytes, Entry, Fault, NotStarted}
use Rattle.plan_lanes.specs.Recalled.{RecallsAmong}
use Rattle.plan_world.specs.Answers.{IsAnswer, IsByShell, IsReadOf, IsStampOf, MayAnswer, NamesAskable}
use Rattle.plan_world.specs.Askable.{AreAskable, IsRecalled, RecallsAs}
use Rattle.plan_world.specs.Depfiles.{longest}
use Rattle.plan_world.specs.Shells.{AreTexts, HasRun, IsShellOf, ending}
use Rattle.plan_world.specs.declared.disk.ModificationTime.{ModificationTime}

abbrev Looked : Type 1
Looked = List ℕ → Option ModificationTime → Type 0

abbrev Held : Type 1
Held = List ℕ → Option (List ℕ) → Type 0

-- bytes of a depfile that aren't too many
pub short_bytes : (path bytes : List ℕ) {F : Type 0} (told : Result Reply F) → length bytes ≤ 16777217 → IfOk told (λ r. r ≡ Bytes bytes) → IfOk told (λ r. IsAnswer (Deps path) r)
unfolding longest
short_bytes path bytes (Ok r) few same =
    let is : IsAnswer (Deps path) (Bytes bytes) = record { suits = refl; short = λ others other. let equal : bytes ≡ others = cc in subst (λ (x : List ℕ). length x ≤ 16777217) equal few } in
    subst (λ (x : Reply). IsAnswer (Deps path) x) (sym same) is
short_bytes path bytes (Err f) few same = tt

-- a shell that was given this text has run it
pub has_run : {E : Type 0} (ended : Command Global → Option ℤ → Type 0) (shell : Command Global) (text records : List ℕ) (run : Result (Option ℤ) E)
    → IsShellOf shell text records → IfOk run (λ code. ended shell code) → IfOk run (λ code. HasRun ended text code)
has_run ended shell text records (Ok code) is ran = (shell, records, is, ran)
has_run ended shell text records (Err e) is ran = tt

-- what is replied of a shell that was given just this command
pub by_shell : {E F : Type 0} (ended : Command Global → Option ℤ → Type 0) (command : List ℕ) (run : Result (Option ℤ) E) (told : Result Reply F)
    → IfOk run (λ code. HasRun ended command code) → IfOk run (λ code. told ≡ Ok (ending code)) → IfErr run (λ _. IfOk told (λ r. r ≡ NotStarted))
    → IfOk told (λ r. IsByShell ended command r)
by_shell {F = F} ended command (Ok code) told ran replied not =
    subst (λ (x : Result Reply F). IfOk x (λ r. IsByShell ended command r)) (sym replied) (inr (ran.0, ran.1, code, ran.2, ran.3, refl))
by_shell ended command (Err e) (Ok r) ran replied not = inl not
by_shell ended command (Err e) (Err f) ran replied not = tt

-- ---- the rule of the world

pub may_stat : (looked : Looked) (held : Held) (ended : Command Global → Option ℤ → Type 0) {E : Type 0} (path : List ℕ) (told : Result Reply E) → IfOk told (λ r. IsAnswer (Stat path) r) → (¬ (IsUtf8 path) → told ≡ Ok Fault)
    → IfOk told (λ r. IsStampOf looked path r) → IfOk told (λ r. MayAnswer looked held ended (Stat path) r)
may_stat looked held ended path (Ok r) answer text disk = record { answer = answer; texts = (λ no. let same = text no in cc); run = tt; disk = disk }
may_stat looked held ended path (Err e) answer text disk = tt

pub may_read : (looked : Looked) (held : Held) (ended : Command Global → Option ℤ → Type 0) {E : Type 0} (path : List ℕ) (told : Result Reply E) → IfOk told (λ r. IsAnswer (Deps path) r) → (¬ (IsUtf8 path) → told ≡ Ok Fault)
    → IfOk told (λ r. IsReadOf held path r) → IfOk told (λ r. MayAnswer looked held ended (Deps path) r)
may_read looked held ended path (Ok r) answer text disk = record { answer = answer; texts = (λ no. let same = text no in cc); run = tt; disk = disk }
may_read looked held ended path (Err e) answer text disk = tt

pub may_run : (looked : Looked) (held : Held) (ended : Command Global → Option ℤ → Type 0) {E : Type 0} (command : List ℕ) (outputs : List (List ℕ)) (told : Result Reply E) → IfOk told (λ r. IsAnswer (Run command outputs) r)
    → (outputs ≡ [] → told ≡ Ok NotStarted) → (¬ (AreTexts outputs) → told ≡ Ok NotStarted) → (¬ (IsUtf8 command) → IfOk told (λ r. r ≡ NotStarted))
    → IfOk told (λ r. IsByShell ended command r) → IfOk told (λ r. MayAnswer looked held ended (Run command outputs) r)
may_run looked held ended command outputs (Ok r) answer some paths text ran =
    record { answer = answer; texts = record { some = λ none. let same = some none in cc; paths = λ no. let same = paths no in cc; text = text }; run = ran; disk = tt }
may_run looked held ended command outputs (Err e) answer some paths text ran = tt

-- a reply to a recall names only paths that the system can be asked about
recalled_names : (found : Option EntryData) (r : Reply) → IsRecalled found r → NamesAskable r
recalled_names None r same = subst (λ (x : Reply). NamesAskable x) (sym same) tt
recalled_names (Some e) r (inl (askable, same)) = subst (λ (x : Reply). NamesAskable x) (sym same) askable
recalled_names (Some e) r (inr (never, same)) = subst (λ (x : Reply). NamesAskable x) (sym same) tt

pub may_recall : (looked : Looked) (held : Held) (ended : Command Global → Option ℤ → Type 0) {E : Type 0} (output : List ℕ) (found : Option EntryData) (told : Result Reply E) → IfOk told (λ r. IsAnswer (Recall output) r)
    → IfOk told (λ r. IsRecalled found r) → IfOk told (λ r. MayAnswer looked held ended (Recall output) r)
may_recall looked held ended output found (Ok r) answer recalled = record { answer = answer; texts = recalled_names found r recalled; run = tt; disk = tt }
may_recall looked held ended output found (Err e) answer recalled = tt

-- ---- paths of entries that may be recalled

-- An entry may be recalled that names just these paths.
recalls_found : (looked : Looked) (held : Held) (ended : Command Global → Option ℤ → Type 0) (wanted : List (List ℕ)) (output : List ℕ) (found : List (List ℕ)) → AreAskable found
    → RecallsAmong (λ _ question r. MayAnswer looked held ended question r) wanted output found
recalls_found looked held ended wanted output found askable =
    let said : Recording = record { command = []; basis = 0; paths = found } in
    let may : MayAnswer looked held ended (Recall output) (Entry said) = record { answer = record { suits = refl; short = λ bytes same. absurd cc }; texts = askable; run = tt; disk = tt } in
    (found, (0, Entry said, may, refl), record { some = λ path here. here; all = λ path here w. here })

-- The same of paths that may not have been found.
pub recalls_if_found : (looked : Looked) (held : Held) (ended : Command Global → Option ℤ → Type 0) (wanted : List (List ℕ)) (output : List ℕ) (found : Option (List (List ℕ)))
    → IfSome found (λ paths. AreAskable paths) → IfSome found (λ paths. RecallsAmong (λ _ question r. MayAnswer looked held ended question r) wanted output paths)
recalls_if_found looked held ended wanted output None askable = tt
recalls_if_found looked held ended wanted output (Some paths) askable = recalls_found looked held ended wanted output paths askable

-- what the entry that was found says is replied
pub recalled_as : (found : Option EntryData) (e : EntryData) (said : Recording) (r : Reply) → found ≡ Some e
    → said ≡ record { command = e.command; basis = e.basis; paths = e.paths } → RecallsAs said r → IsRecalled found r
recalled_as found e said r is same h = subst (λ (x : Option EntryData). IsRecalled x r) (sym is) (subst (λ (x : Recording). RecallsAs x r) same h)

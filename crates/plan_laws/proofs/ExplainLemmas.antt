-- Each edge that has asked to run its command has a reason.
use Rattle.std.proofs.Common.{◌≡◌, ℕ, Bool, true, false, List, Option, Some, None, refl, sym, ap, ◌∙◌, subst}
use Rattle.std.specs.Prelude.{if◌then◌else◌}
use Rattle.plan_image.specs.declared.image.Parts.{Parts}
use Rattle.plan_verify.specs.Turn.{Slots, Meaning, Local, Request, Run, Reply as Answer, question}
use Rattle.plan_verify.specs.Alone.{Stage, Runs, Alone}
use Rattle.plan_compile.specs.Builds.{builds}
use Rattle.plan_compile.specs.Faithful.{ManifestsAreSound}
use Rattle.plan_compile.specs.Images.{compiled}
use Rattle.plan_compile.specs.InteractionTree.{Left, InteractionTree, Ask, Obeys, is_over, has_failed, moves, asks, Follows}
use Rattle.plan_compile.specs.Means.{Leaves}
use Rattle.plan_compile.specs.Names.{all_texts}
use Rattle.plan_compile.specs.Slots.{form_of, base, made}
use Rattle.plan_compile.specs.Told.{edge_does, facts, ImageIsShaped, ImageIsLaidOut, ImageKeepsToRule}
use Rattle.plan_machine.specs.Depfile.{depfile}
use Rattle.plan_machine.specs.Histories.{EachRanByItself}
use Rattle.plan_machine.specs.Requests.{asked_by}
use Rattle.plan_machine.specs.State.{Status, Unbegun, Active, Over}
use Rattle.plan_reasons.specs.Causes.{CommandsHaveReasons}
use Rattle.plan_laws.specs.Explained.{CommandsAreExplained}
use Rattle.plan_laws.proofs.SlotLemmas.{rule_same}

-- an edge that awaits a reply is active, and its question is that of its code
awaits : (p : Parts) (e : ℕ) (slots : Slots) (o : Option Status) (q : Request) → asked_by p e slots o ≡ Some q → (l : Local) × (o ≡ Some (Active l)) × (l.asked ≡ true) × (question p e slots l ≡ Some q)
awaits p e slots None q h = absurd cc
awaits p e slots (Some Unbegun) q h = absurd cc
awaits p e slots (Some (Over outcome)) q h = absurd cc
awaits p e slots (Some (Active l)) q h = by l.asked refl h
  where
    by : (b : Bool) → l.asked ≡ b → (if b then question p e slots l else None) ≡ Some q → (k : Local) × (Some (Active l) ≡ Some (Active k)) × (k.asked ≡ true) × (question p e slots k ≡ Some q)
    by true loud is = (l, refl, loud, is)
    by false quiet is = absurd cc

same_local : (a b : Local) → Runs a ≡ Runs b → a ≡ b
same_local a b h = cc

same_request : (a b : Request) → Some a ≡ Some b → a ≡ b
same_request a b h = cc

true_false : (l m : Local) → l ≡ m → l.asked ≡ false → m.asked ≡ true → ⊥
true_false l m same quiet loud = let clash : false ≡ true = sym quiet ∙ (ap (λ (k : Local). k.asked) same ∙ loud) in cc

-- If an edge follows an interaction tree and awaits a reply, the root of the tree is its question.
root_asks : (meaning : Meaning) (p : Parts) (e : ℕ) (Leaving : Slots → Left → Type 0) (x : Alone) (interaction : InteractionTree) → Obeys meaning p e Leaving x interaction
    → (l : Local) (slots : Slots) (q : Request) → x.stage ≡ Runs l → x.slots ≡ slots → l.asked ≡ true → question p e slots l ≡ Some q → (k : Answer → InteractionTree) × (interaction ≡ Ask q k)
root_asks meaning p e Leaving x interaction (is_over h) l slots q s z loud is = absurd cc
root_asks meaning p e Leaving x interaction has_failed l slots q s z loud is = absurd cc
root_asks meaning p e Leaving x interaction (moves {l = m} quiet o) l slots q s z loud is = absurd (true_false m l (same_local m l s) quiet loud)
root_asks meaning p e Leaving x interaction (asks {l = m} {slots = old} {q = a} {k = k} high at more) l slots q s z loud is =
    let same : question p e old m ≡ question p e slots l = ap (λ (w : Slots). question p e w m) z ∙ ap (λ (n : Local). question p e slots n) (same_local m l s) in
    (k, ap (λ (b : Request). Ask b k) (same_request a q (sym at ∙ (same ∙ is))))

pub commands_are_explained : EachRanByItself → ImageKeepsToRule → ImageIsShaped → ManifestsAreSound → ImageIsLaidOut → CommandsHaveReasons → CommandsAreExplained
commands_are_explained alone by_rule shaped whole layouts have rule m g sound graph limits targets events marks s reached e x command outputs there asked =
    let t = builds rule m g in
    let p = compiled rule m g in
    let sure = whole rule m g sound graph in
    let a = awaits p e s.slots _ (Run command outputs) asked in
    let own = alone depfile p (shaped t sure) limits targets events marks s reached e (Active a.0) (Runs a.0) a.1 refl in
    let keeps = by_rule t sure e x there depfile own.start own.typed own.set own.turns own.told (record { stage = Runs a.0; slots = own.end }) own.alone in
    let root = root_asks depfile p e (Leaves (made (base t.edges e) x)) (record { stage = Runs a.0; slots = own.end }) keeps.0 keeps.2 a.0 own.end (Run command outputs) refl refl a.2 (own.asks a.0 refl ∙ a.3) in
    let came : Follows (edge_does x.edge.phony depfile (facts t own.start x)) own.told (Ask (Run command outputs) root.0) =
    subst (λ (interaction : InteractionTree). Follows (edge_does x.edge.phony depfile (facts t own.start x)) own.told interaction) root.1 keeps.1 in
    let same = rule_same t p e own.start s.slots own.lent x depfile (form_of x) (all_texts t.edges) (base t.edges e) refl (layouts t sure e x there) in
    let follows : Follows (edge_does x.edge.phony depfile (facts t s.slots x)) own.told (Ask (Run command outputs) root.0) =
    subst (λ (interaction : InteractionTree). Follows interaction own.told (Ask (Run command outputs) root.0)) same came in
    record { conversation = own.told; answered = own.heard; why = have x.edge.phony depfile (facts t s.slots x) own.told _ command outputs root.0 follows own.heard }

-- Instructions, kinds and sorts are read as they were written, and everything that is written can be read.
use Rattle.std.proofs.Common.{◌≡◌, ℕ, suc, ◌+◌, ◌-◌, ◌^◌, ◌<◌, ◌≤◌, Bool, true, false, cond, ltb, eqb, List, [], ◌∷◌, ◌++◌, length, Option, Some, None, Ok, refl, sym, ap, subst, ◌∙◌, append_assoc, arith, ◌⊎◌, inl, inr}
use Rattle.std.specs.Prelude.{IfSome}
use Rattle.std.specs.Int.{w32}
use Rattle.std.specs.List.{flat_map, AllByRecursion}
use Rattle.std.proofs.lemmas.Bool.{ltb-false, le-ltb, eqb-true}
use Rattle.plan_image.specs.declared.body.Kind.{Kind}
use Rattle.plan_image.specs.declared.body.Kind.TheVariants as kind
use Rattle.plan_image.specs.declared.body.Instr.{Instr}
use Rattle.plan_image.specs.declared.body.Instr.TheVariants as op
use Rattle.plan_image.specs.declared.image.Sort.{Sort}
use Rattle.plan_image.specs.declared.image.Sort.TheVariants as sort
use Rattle.plan_image.specs.Opcodes.{flag_byte}
use Rattle.plan_image.specs.Spelling.{counted, number, IsWord, kind_byte, sort_byte, instr, operand, InstrFits, opening_byte, body_instr, BodyInstrFits, BodyFits, body, BodiesFit, body_instructions, bodies, version_of}
use Rattle.plan_image.specs.Reading.{◌>>=◌, tag, items_at, byte_at, kind_at, sort_at, bare_of, numbered_of, operand_at, flagged_at, instr_at, opening_by, open_at, body_instr_at, body_at, body_table_at, bodies_at, refuse}
use Rattle.plan_image.specs.declared.body.Opening.{Opening}
use Rattle.plan_image.specs.declared.body.Opening.TheVariants as opening
use Rattle.plan_image.specs.declared.body.BodyInstr.{BodyInstr}
use Rattle.plan_image.specs.declared.body.BodyInstr.TheVariants as member
use Rattle.plan_image.specs.declared.image.Version.{Version}
use Rattle.plan_image.specs.declared.image.Version.TheVariants as version
use Rattle.plan_image.specs.declared.fault.Cause.TheVariants as cause
use Rattle.plan_image.specs.Bodies.{opening_of}
use Rattle.plan_image.proofs.ItemLemmas.{IsBytes, Takes, Takes-then, bind_ok, ok_is, AllFrom, items_take, items_again}
use Rattle.plan_image.proofs.FieldLemmas.{IsReader, opens, passes, word_law, up_to_law, wide32, counted_takes, counted_again}

-- ---- bytes that stand for something

pub byte_law : IsReader byte_at (λ b. b ∷ []) (λ b. b < 256)
unfolding byte_at
byte_law = record {
  takes = taken;
  again = λ b rest fits. refl;
} where
  taken : (bytes : List ℕ) (x : ℕ × List ℕ) → IsBytes bytes → byte_at bytes ≡ Ok x → Takes bytes (x.0 ∷ []) x.1 × (x.0 < 256)
  taken [] x fits e = absurd cc
  taken (b ∷ bytes) x fits e =
      subst (λ (p : ℕ × List ℕ). Takes (b ∷ bytes) (p.0 ∷ []) p.1 × (p.0 < 256)) (ok_is (b, bytes) x e) (record { parts = refl; rest_fits = λ i. fits (suc i) }, fits 0)

-- the value paired with a byte
abbrev pub beside : {X : Type 0} → List (ℕ × X) → ℕ → Option X
beside [] b = None
beside (p ∷ ps) b = cond (eqb b p.0) (Some p.1) (beside ps b)

either : {X : Type 0} (t : Bool) (y : X) (o : Option X) (x : X) → cond t (Some y) o ≡ Some x → ((t ≡ true) × (y ≡ x)) ⊎ (o ≡ Some x)
either true y o x e = inl (refl, cc)
either false y o x e = inr e

pub beside_is : {X : Type 0} (P : ℕ → X → Type 0) (ps : List (ℕ × X)) → AllByRecursion (λ p. P p.0 p.1) ps → (b : ℕ) (x : X) → beside ps b ≡ Some x → P b x
beside_is P [] h b x e = absurd cc
beside_is P (p ∷ ps) h b x e =
    elim (either (eqb b p.0) p.1 (beside ps b) x e) [
      | inl here ↦ subst (λ y. P b y) here.1 (subst (λ n. P n p.1) (sym (eqb-true b p.0 here.0)) h.0)
      | inr later ↦ beside_is P ps h.1 b x later
    ]

tag_ok : {X : Type 0} (o : Option X) (bytes rest : List ℕ) (x : X × List ℕ) → tag o bytes rest ≡ Ok x → (o ≡ Some x.0) × (rest ≡ x.1)
tag_ok (Some y) bytes rest x e = let is = ok_is (y, rest) x e in (ap (λ p. Some p.0) is, ap (λ p. p.1) is)
tag_ok None bytes rest x e = absurd cc

-- one byte that represents a value
tagged : {X : Type 0} (ps : List (ℕ × X)) (spell : X → List ℕ) → AllByRecursion (λ p. spell p.1 ≡ p.0 ∷ []) ps
    → (bytes : List ℕ) (x : X × List ℕ) → IsBytes bytes → (byte_at bytes >>= λ b. tag (beside ps b.0) bytes b.1) ≡ Ok x → Takes bytes (spell x.0) x.1
tagged ps spell all bytes x fits e =
    let a = opens byte_law (λ b. tag (beside ps b.0) bytes b.1) bytes x fits e in
    let t = tag_ok (beside ps a.0.0) bytes a.0.1 x a.3 in
    let s = beside_is (λ b y. spell y ≡ b ∷ []) ps all a.0.0 x.0 t.0 in
    subst (λ (text : List ℕ). Takes bytes text x.1) (sym s) (subst (λ (rest : List ℕ). Takes bytes (a.0.0 ∷ []) rest) t.1 a.1)

abbrev kinds : List (ℕ × Kind)
kinds = (1, kind.Stamp) ∷ (2, kind.Flag) ∷ (3, kind.Text) ∷ (4, kind.Paths) ∷ (5, kind.Swept) ∷ []

pub kind_law : IsReader kind_at (λ k. kind_byte k ∷ []) (λ k. Unit {0})
unfolding kind_at byte_at
kind_law = record {
  takes = λ bytes x fits e. (tagged kinds (λ k. kind_byte k ∷ []) (refl, (refl, (refl, (refl, (refl, tt))))) bytes x fits e, tt);
  again = again_kind;
} where
  again_kind : (k : Kind) (rest : List ℕ) → Unit {0} → kind_at ((kind_byte k ∷ []) ++ rest) ≡ Ok (k, rest)
  again_kind kind.Stamp rest u = refl
  again_kind kind.Flag rest u = refl
  again_kind kind.Text rest u = refl
  again_kind kind.Paths rest u = refl
  again_kind kind.Swept rest u = refl

abbrev sorts : List (ℕ × Sort)
sorts = (0, sort.Command) ∷ (1, sort.Phony) ∷ []

pub sort_law : IsReader sort_at (λ k. sort_byte k ∷ []) (λ k. Unit {0})
unfolding sort_at byte_at
sort_law = record {
  takes = λ bytes x fits e. (tagged sorts (λ k. sort_byte k ∷ []) (refl, (refl, tt)) bytes x fits e, tt);
  again = again_sort;
} where
  again_sort : (k : Sort) (rest : List ℕ) → Unit {0} → sort_at ((sort_byte k ∷ []) ++ rest) ≡ Ok (k, rest)
  again_sort sort.Command rest u = refl
  again_sort sort.Phony rest u = refl

-- ---- instructions

abbrev flags : List (ℕ × Bool)
flags = (0, false) ∷ (1, true) ∷ []

abbrev bare : List (ℕ × Instr)
bare = (0, op.End) ∷ (5, op.Older) ∷ (6, op.Newer) ∷ (7, op.Before) ∷ (8, op.Same) ∷ (9, op.IsMissing) ∷ (10, op.Or) ∷ (11, op.Not) ∷ (13, op.Zero) ∷ (14, op.NoPaths) ∷ (16, op.Join)
    ∷ (17, op.Equal) ∷ (18, op.Recall) ∷ (19, op.Sweep) ∷ (22, op.Take) ∷ (23, op.Release) ∷ (24, op.Run) ∷ (25, op.Deps) ∷ (26, op.Keep) ∷ (27, op.Drop) ∷ (28, op.Swap) ∷ []

abbrev numbered : List (ℕ × (ℕ → Instr))
numbered = (1, λ n. op.Stat n) ∷ (2, λ n. op.Need n) ∷ (3, λ n. op.Load n) ∷ (4, λ n. op.Store n) ∷ (15, λ n. op.Text n) ∷ (20, λ n. op.Jump n) ∷ (21, λ n. op.JumpIf n) ∷ []

abbrev IsBare : ℕ → Instr → Type 0
IsBare b i = (instr i ≡ b ∷ []) × (operand i ≡ None)

abbrev IsNumbered : ℕ → (ℕ → Instr) → Type 0
IsNumbered b make = (n : ℕ) → (instr (make n) ≡ b ∷ number n) × (operand (make n) ≡ Some n)

all_bare : AllByRecursion (λ p. IsBare p.0 p.1) bare
all_bare = ((refl, refl), ((refl, refl), ((refl, refl), ((refl, refl), ((refl, refl), ((refl, refl), ((refl, refl), ((refl, refl), ((refl, refl), ((refl, refl), ((refl, refl), ((refl, refl), ((refl, refl), ((refl, refl), ((refl, refl), ((refl, refl), ((refl, refl), ((refl, refl), ((refl, refl), ((refl, refl), ((refl, refl), tt)))))))))))))))))))))

all_numbered : AllByRecursion (λ p. IsNumbered p.0 p.1) numbered
all_numbered =
    (λ n. (refl, refl), (λ n. (refl, refl), (λ n. (refl, refl), (λ n. (refl, refl), (λ n. (refl, refl), (λ n. (refl, refl), (λ n. (refl, refl), tt)))))))

instr_after : (b : ℕ) (many : Option (ℕ → Instr)) (bytes rest : List ℕ) (x : Instr × List ℕ) → beside numbered b ≡ many → Takes bytes (b ∷ []) rest → operand_at many (beside bare b) bytes rest ≡ Ok x
    → Takes bytes (instr x.0) x.1 × InstrFits x.0
instr_after b (Some make) bytes rest x is t e =
    let a = opens word_law (λ n. Ok (make n.0, n.1)) rest x t.rest_fits e in
    let s = beside_is IsNumbered numbered all_numbered b make is a.0.0 in
    let both = Takes-then bytes (b ∷ []) rest (number a.0.0) a.0.1 t a.1 in
    subst (λ (p : Instr × List ℕ). Takes bytes (instr p.0) p.1 × InstrFits p.0) (ok_is (make a.0.0, a.0.1) x a.3)
    (subst (λ (text : List ℕ). Takes bytes text a.0.1) (sym s.0) both, subst (λ (o : Option ℕ). IfSome o IsWord) (sym s.1) a.2)
instr_after b None bytes rest x is t e =
    let g = tag_ok (beside bare b) bytes rest x e in
    let s = beside_is IsBare bare all_bare b x.0 g.0 in
    (subst (λ (text : List ℕ). Takes bytes text x.1) (sym s.0) (subst (λ (r : List ℕ). Takes bytes (b ∷ []) r) g.1 t), subst (λ (o : Option ℕ). IfSome o IsWord) (sym s.1) tt)

flagged_takes : (bytes rest : List ℕ) (x : Instr × List ℕ) → Takes bytes (12 ∷ []) rest → flagged_at rest ≡ Ok x → Takes bytes (instr x.0) x.1 × InstrFits x.0
flagged_takes bytes rest x t e =
    let a = opens byte_law (λ b. tag (beside flags b.0) rest b.1 >>= λ flag. Ok (op.Flag flag.0, flag.1)) rest x t.rest_fits e in
    let f = bind_ok (tag (beside flags a.0.0) rest a.0.1) (λ flag. Ok (op.Flag flag.0, flag.1)) x a.3 in
    let g = tag_ok (beside flags a.0.0) rest a.0.1 f.0 f.1 in
    let s = beside_is (λ b y. flag_byte y ≡ b) flags (refl, (refl, tt)) a.0.0 f.0.0 g.0 in
    let both = Takes-then bytes (12 ∷ []) rest (a.0.0 ∷ []) a.0.1 t a.1 in
    subst (λ (p : Instr × List ℕ). Takes bytes (instr p.0) p.1 × InstrFits p.0) (ok_is (op.Flag f.0.0, f.0.1) x f.2)
    (subst (λ (b : ℕ). Takes bytes (12 ∷ b ∷ []) f.0.1) (sym s) (subst (λ (r : List ℕ). Takes bytes (12 ∷ a.0.0 ∷ []) r) g.1 both), tt)

choose : (t : Bool) (b : ℕ) (bytes rest : List ℕ) (x : Instr × List ℕ) → (t ≡ true → b ≡ 12) → Takes bytes (b ∷ []) rest → cond t (flagged_at rest) (operand_at (numbered_of b) (bare_of b) bytes rest) ≡ Ok x → Takes bytes (instr x.0) x.1 × InstrFits x.0
choose true b bytes rest x is t e = flagged_takes bytes rest x (subst (λ (n : ℕ). Takes bytes (n ∷ []) rest) (is refl) t) e
choose false b bytes rest x is t e = instr_after b (beside numbered b) bytes rest x refl t e

pub instr_law : IsReader instr_at instr InstrFits
unfolding instr_at byte_at
instr_law = record {
  takes = λ bytes x fits e.
      let a = opens byte_law (λ b. cond (eqb b.0 12) (flagged_at b.1) (operand_at (numbered_of b.0) (bare_of b.0) bytes b.1)) bytes x fits e in
      choose (eqb a.0.0 12) a.0.0 bytes a.0.1 x (eqb-true a.0.0 12) a.1 a.3;
  again = instr_again;
} where
  instr_again : (i : Instr) (rest : List ℕ) → InstrFits i → instr_at (instr i ++ rest) ≡ Ok (i, rest)
  instr_again op.End rest fits = refl
  instr_again (op.Stat f) rest fits = rw (word_law.again f rest fits) refl
  instr_again (op.Need f) rest fits = rw (word_law.again f rest fits) refl
  instr_again (op.Load s) rest fits = rw (word_law.again s rest fits) refl
  instr_again (op.Store s) rest fits = rw (word_law.again s rest fits) refl
  instr_again op.Older rest fits = refl
  instr_again op.Newer rest fits = refl
  instr_again op.Before rest fits = refl
  instr_again op.Same rest fits = refl
  instr_again op.IsMissing rest fits = refl
  instr_again op.Or rest fits = refl
  instr_again op.Not rest fits = refl
  instr_again (op.Flag true) rest fits = refl
  instr_again (op.Flag false) rest fits = refl
  instr_again op.Zero rest fits = refl
  instr_again op.NoPaths rest fits = refl
  instr_again (op.Text t) rest fits = rw (word_law.again t rest fits) refl
  instr_again op.Join rest fits = refl
  instr_again op.Equal rest fits = refl
  instr_again op.Recall rest fits = refl
  instr_again op.Sweep rest fits = refl
  instr_again (op.Jump d) rest fits = rw (word_law.again d rest fits) refl
  instr_again (op.JumpIf d) rest fits = rw (word_law.again d rest fits) refl
  instr_again op.Take rest fits = refl
  instr_again op.Release rest fits = refl
  instr_again op.Run rest fits = refl
  instr_again op.Deps rest fits = refl
  instr_again op.Keep rest fits = refl
  instr_again op.Drop rest fits = refl
  instr_again op.Swap rest fits = refl

-- ---- bodies

head_is : (b k : ℕ) (rest after : List ℕ) → b ∷ rest ≡ k ∷ after → b ≡ k
head_is b k rest after e = cc

open_1 : (b : ℕ) → b ≡ 1 → opening_by b ≡ None → ⊥
open_1 b is n = apart (subst (λ (k : ℕ). opening_by k ≡ None) is n) where
  apart : opening_by 1 ≡ None → ⊥
  apart e = cc

open_2 : (b : ℕ) → b ≡ 2 → opening_by b ≡ None → ⊥
open_2 b is n = apart (subst (λ (k : ℕ). opening_by k ≡ None) is n) where
  apart : opening_by 2 ≡ None → ⊥
  apart e = cc

open_3 : (b : ℕ) → b ≡ 3 → opening_by b ≡ None → ⊥
open_3 b is n = apart (subst (λ (k : ℕ). opening_by k ≡ None) is n) where
  apart : opening_by 3 ≡ None → ⊥
  apart e = cc

open_4 : (b : ℕ) → b ≡ 4 → opening_by b ≡ None → ⊥
open_4 b is n = apart (subst (λ (k : ℕ). opening_by k ≡ None) is n) where
  apart : opening_by 4 ≡ None → ⊥
  apart e = cc

open_15 : (b : ℕ) → b ≡ 15 → opening_by b ≡ None → ⊥
open_15 b is n = apart (subst (λ (k : ℕ). opening_by k ≡ None) is n) where
  apart : opening_by 15 ≡ None → ⊥
  apart e = cc

-- an opcode of no open instruction belongs to an instruction that can't be open
closed : (i : Instr) (b : ℕ) (rest after : List ℕ) → b ∷ rest ≡ instr i ++ after → opening_by b ≡ None → opening_of i ≡ None
closed op.End b rest after e n = refl
closed (op.Stat f) b rest after e n = absurd (open_1 b (head_is b 1 rest (number f ++ after) e) n)
closed (op.Need f) b rest after e n = absurd (open_2 b (head_is b 2 rest (number f ++ after) e) n)
closed (op.Load s) b rest after e n = absurd (open_3 b (head_is b 3 rest (number s ++ after) e) n)
closed (op.Store s) b rest after e n = absurd (open_4 b (head_is b 4 rest (number s ++ after) e) n)
closed (op.Text t) b rest after e n = absurd (open_15 b (head_is b 15 rest (number t ++ after) e) n)
closed op.Older b rest after e n = refl
closed op.Newer b rest after e n = refl
closed op.Before b rest after e n = refl
closed op.Same b rest after e n = refl
closed op.IsMissing b rest after e n = refl
closed op.Or b rest after e n = refl
closed op.Not b rest after e n = refl
closed op.Zero b rest after e n = refl
closed op.NoPaths b rest after e n = refl
closed op.Join b rest after e n = refl
closed op.Equal b rest after e n = refl
closed op.Recall b rest after e n = refl
closed op.Sweep b rest after e n = refl
closed op.Take b rest after e n = refl
closed op.Release b rest after e n = refl
closed op.Run b rest after e n = refl
closed op.Deps b rest after e n = refl
closed op.Keep b rest after e n = refl
closed op.Drop b rest after e n = refl
closed op.Swap b rest after e n = refl
closed (op.Flag f) b rest after e n = refl
closed (op.Jump d) b rest after e n = refl
closed (op.JumpIf d) b rest after e n = refl

abbrev some_opening : Opening → Option Opening
some_opening o = Some o

abbrev openings : List (ℕ × Opening)
openings = (1, opening.Stat) ∷ (2, opening.Need) ∷ (3, opening.Load) ∷ (4, opening.Store) ∷ (15, opening.Text) ∷ []

open_takes : (b : ℕ) (o : Option Opening) (bytes rest : List ℕ) (x : BodyInstr × List ℕ) → IsBytes bytes → beside openings b ≡ o → Takes bytes (b ∷ []) rest → open_at o bytes rest ≡ Ok x
    → Takes bytes (body_instr x.0) x.1 × BodyInstrFits x.0
open_takes b (Some o) bytes rest x fits is t e =
    let s = beside_is (λ n y. opening_byte y ≡ n) openings (refl, (refl, (refl, (refl, (refl, tt))))) b o is in
    subst (λ (p : BodyInstr × List ℕ). Takes bytes (body_instr p.0) p.1 × BodyInstrFits p.0) (ok_is (member.Open o, rest) x e)
    (subst (λ (n : ℕ). Takes bytes (n ∷ []) rest) (sym s) t, tt)
open_takes b None bytes rest x fits is t e =
    let a = opens instr_law (λ i. Ok (member.Fixed i.0, i.1)) bytes x fits e in
    let n = closed a.0.0 b rest a.0.1 (sym t.parts ∙ a.1.parts) is in
    subst (λ (p : BodyInstr × List ℕ). Takes bytes (body_instr p.0) p.1 × BodyInstrFits p.0) (ok_is (member.Fixed a.0.0, a.0.1) x a.3) (a.1, (n, a.2))

no_some : (o : Opening) → some_opening o ≡ None → ⊥
no_some o e = cc

pub body_instr_law : IsReader body_instr_at body_instr BodyInstrFits
unfolding body_instr_at byte_at
body_instr_law = record {
  takes = λ bytes x fits e.
      let a = opens byte_law (λ b. open_at (opening_by b.0) bytes b.1) bytes x fits e in
      open_takes a.0.0 (opening_by a.0.0) bytes a.0.1 x fits refl a.1 a.3;
  again = body_instr_again;
} where
  body_instr_again : (i : BodyInstr) (rest : List ℕ) → BodyInstrFits i → body_instr_at (body_instr i ++ rest) ≡ Ok (i, rest)
  body_instr_again (member.Open opening.Stat) rest fits = refl
  body_instr_again (member.Open opening.Need) rest fits = refl
  body_instr_again (member.Open opening.Load) rest fits = refl
  body_instr_again (member.Open opening.Store) rest fits = refl
  body_instr_again (member.Open opening.Text) rest fits = refl
  body_instr_again (member.Fixed op.Older) rest fits = rw (instr_law.again op.Older rest fits.1) refl
  body_instr_again (member.Fixed op.Newer) rest fits = rw (instr_law.again op.Newer rest fits.1) refl
  body_instr_again (member.Fixed op.Before) rest fits = rw (instr_law.again op.Before rest fits.1) refl
  body_instr_again (member.Fixed op.Same) rest fits = rw (instr_law.again op.Same rest fits.1) refl
  body_instr_again (member.Fixed op.IsMissing) rest fits = rw (instr_law.again op.IsMissing rest fits.1) refl
  body_instr_again (member.Fixed op.Or) rest fits = rw (instr_law.again op.Or rest fits.1) refl
  body_instr_again (member.Fixed op.Not) rest fits = rw (instr_law.again op.Not rest fits.1) refl
  body_instr_again (member.Fixed op.Zero) rest fits = rw (instr_law.again op.Zero rest fits.1) refl
  body_instr_again (member.Fixed op.NoPaths) rest fits = rw (instr_law.again op.NoPaths rest fits.1) refl
  body_instr_again (member.Fixed op.Join) rest fits = rw (instr_law.again op.Join rest fits.1) refl
  body_instr_again (member.Fixed op.Equal) rest fits = rw (instr_law.again op.Equal rest fits.1) refl
  body_instr_again (member.Fixed op.Recall) rest fits = rw (instr_law.again op.Recall rest fits.1) refl
  body_instr_again (member.Fixed op.Sweep) rest fits = rw (instr_law.again op.Sweep rest fits.1) refl
  body_instr_again (member.Fixed op.Take) rest fits = rw (instr_law.again op.Take rest fits.1) refl
  body_instr_again (member.Fixed op.Release) rest fits = rw (instr_law.again op.Release rest fits.1) refl
  body_instr_again (member.Fixed op.Run) rest fits = rw (instr_law.again op.Run rest fits.1) refl
  body_instr_again (member.Fixed op.Deps) rest fits = rw (instr_law.again op.Deps rest fits.1) refl
  body_instr_again (member.Fixed op.Keep) rest fits = rw (instr_law.again op.Keep rest fits.1) refl
  body_instr_again (member.Fixed op.Drop) rest fits = rw (instr_law.again op.Drop rest fits.1) refl
  body_instr_again (member.Fixed op.Swap) rest fits = rw (instr_law.again op.Swap rest fits.1) refl
  body_instr_again (member.Fixed op.End) rest fits = rw (instr_law.again op.End rest fits.1) refl
  body_instr_again (member.Fixed (op.Jump d)) rest fits = rw (instr_law.again (op.Jump d) rest fits.1) refl
  body_instr_again (member.Fixed (op.JumpIf d)) rest fits = rw (instr_law.again (op.JumpIf d) rest fits.1) refl
  body_instr_again (member.Fixed (op.Flag f)) rest fits = rw (instr_law.again (op.Flag f) rest fits.1) refl
  body_instr_again (member.Fixed (op.Stat n)) rest fits = absurd (no_some opening.Stat fits.0)
  body_instr_again (member.Fixed (op.Need n)) rest fits = absurd (no_some opening.Need fits.0)
  body_instr_again (member.Fixed (op.Load n)) rest fits = absurd (no_some opening.Load fits.0)
  body_instr_again (member.Fixed (op.Store n)) rest fits = absurd (no_some opening.Store fits.0)
  body_instr_again (member.Fixed (op.Text n)) rest fits = absurd (no_some opening.Text fits.0)

-- a body, if the bodies before it have `used` instructions
pub record BodyAfter (used : ℕ) (b : List BodyInstr) : Type 0 where
  pub most : length b ≤ 2 ^ 24 - used
  pub fits : BodyFits b

pub body_law : (used : ℕ) → IsReader (body_at used) body (BodyAfter used)
unfolding body_at
body_law used = record {
  takes = λ bytes x fits e.
      let a = opens (up_to_law w32 (2 ^ 32) 65536 wide32) (λ n. refuse (ltb (2 ^ 24 - used) n.0) cause.Limit bytes >>= λ _. items_at (λ (s : Unit {0}). body_instr_at) (λ s x. s) tt n.0 n.1) bytes x fits e in
      let c = passes (ltb (2 ^ 24 - used) a.0.0) cause.Limit bytes (λ _. items_at (λ (s : Unit {0}). body_instr_at) (λ s x. s) tt a.0.0 a.0.1) x a.3 in
      let b = counted_takes body_instr_law bytes a.0 x a.1 c.1 in
      let le : a.0.0 ≤ 2 ^ 24 - used = ltb-false _ _ c.0 in
      (b.0, record { most = rw b.1 le; fits = (rw b.1 a.2.0, b.2) });
  again = λ xs rest fits.
      ap (body_at used) (append_assoc (number (length xs)) (flat_map body_instr xs) rest)
      ∙ rw ((up_to_law w32 (2 ^ 32) 65536 wide32).again (length xs) (flat_map body_instr xs ++ rest) (fits.fits.0, omega (arith, fits.fits.0)), le-ltb (2 ^ 24 - used) (length xs) fits.most, counted_again body_instr_law xs rest fits.fits.1) refl;
}

abbrev AllBodies : ℕ → List (List BodyInstr) → Type 0
AllBodies = AllFrom body_at (λ used b. used + length b) body BodyAfter

bodies_fit : (used : ℕ) (bs : List (List BodyInstr)) → used ≤ 2 ^ 24 → AllBodies used bs → AllByRecursion BodyFits bs × (used + body_instructions bs ≤ 2 ^ 24)
bodies_fit used [] le h = (tt, omega (arith, le))
bodies_fit used (b ∷ bs) le h =
    let more = bodies_fit (used + length b) bs (omega (arith, le, h.0.most)) h.1 in
    ((h.0.fits, more.0), omega (arith, more.1))

bodies_after : (used : ℕ) (bs : List (List BodyInstr)) → AllByRecursion BodyFits bs → used + body_instructions bs ≤ 2 ^ 24 → AllBodies used bs
bodies_after used [] f le = tt
bodies_after used (b ∷ bs) f le = (record { most = omega (arith, le); fits = f.0 }, bodies_after (used + length b) bs f.1 (omega (arith, le)))

pub body_table_law : IsReader body_table_at (counted body) BodiesFit
unfolding body_table_at
body_table_law = record {
  takes = λ bytes x fits e.
      let a = opens (up_to_law w32 (2 ^ 32) (2 ^ 20) wide32) (λ n. items_at body_at (λ used b. used + length b) 0 n.0 n.1) bytes x fits e in
      let b = items_take body_at (λ used b. used + length b) body BodyAfter (λ used. (body_law used).takes) a.0.0 0 a.0.1 x a.1.rest_fits a.3 in
      let both = Takes-then bytes (number a.0.0) a.0.1 (flat_map body x.0) x.1 a.1 b.0 in
      let all = bodies_fit 0 x.0 (omega arith) b.2 in
      (subst (λ (k : ℕ). Takes bytes (number k ++ flat_map body x.0) x.1) (sym b.1) both, record { count = rw b.1 a.2.0; each = all.0; instructions = omega (arith, all.1) });
  again = λ xs rest fits.
      ap body_table_at (append_assoc (number (length xs)) (flat_map body xs) rest)
      ∙ rw (
        (up_to_law w32 (2 ^ 32) (2 ^ 20) wide32).again (length xs) (flat_map body xs ++ rest) (fits.count, omega (arith, fits.count)),
        items_again body_at (λ used b. used + length b) body BodyAfter (λ used. (body_law used).again) xs 0 rest (bodies_after 0 xs fits.each (omega (arith, fits.instructions))),
      ) refl;
}

pub bodies_law : (v : Version) → IsReader (bodies_at v) bodies (λ o. (version_of o ≡ v) × IfSome o BodiesFit)
unfolding bodies_at
bodies_law version.One = record {
  takes = λ bytes x fits e.
      subst (λ (p : Option (List (List BodyInstr)) × List ℕ). Takes bytes (bodies p.0) p.1 × ((version_of p.0 ≡ version.One) × IfSome p.0 BodiesFit)) (ok_is (None, bytes) x e) (record { parts = refl; rest_fits = fits }, (refl, tt));
  again = one_again;
} where
  one_again : (o : Option (List (List BodyInstr))) (rest : List ℕ) → (version_of o ≡ version.One) × IfSome o BodiesFit → bodies_at version.One (bodies o ++ rest) ≡ Ok (o, rest)
  one_again None rest fits = refl
  one_again (Some bs) rest fits = absurd (other fits.0) where
    other : version.Two ≡ version.One → ⊥
    other e = cc
bodies_law version.Two = record {
  takes = λ bytes x fits e.
      let a = opens body_table_law (λ bs. Ok (Some bs.0, bs.1)) bytes x fits e in
      subst (λ (p : Option (List (List BodyInstr)) × List ℕ). Takes bytes (bodies p.0) p.1 × ((version_of p.0 ≡ version.Two) × IfSome p.0 BodiesFit)) (ok_is (Some a.0.0, a.0.1) x a.3) (a.1, (refl, a.2));
  again = two_again;
} where
  two_again : (o : Option (List (List BodyInstr))) (rest : List ℕ) → (version_of o ≡ version.Two) × IfSome o BodiesFit → bodies_at version.Two (bodies o ++ rest) ≡ Ok (o, rest)
  two_again None rest fits = absurd (other fits.0) where
    other : version.One ≡ version.Two → ⊥
    other e = cc
  two_again (Some bs) rest fits = rw (body_table_law.again bs rest fits.1) refl

-- Lemmas for the code of replies to one edge.
use Rattle.std.proofs.Common.{◌≡◌, ℕ, zero, suc, ◌<◌, ◌≤◌, Bool, true, false, List, [], ◌∷◌, ◌++◌, ◌+◌, length, arith, Option, Some, None, refl, sym, ap, ◌∙◌, subst}
use Rattle.std.specs.Prelude.{◌&&◌, ◌==◌, slice_get, IfSome, IsSome, nat_lt, bytes_eq}
use Rattle.std.proofs.lemmas.Option.{slice_get_within}
use Rattle.plan_image.specs.declared.body.Instr.{Instr}
use Rattle.plan_image.specs.declared.body.Instr.TheVariants as op
use Rattle.plan_image.specs.declared.image.Parts.{Parts}
use Rattle.plan_image.specs.Code.{code}
use Rattle.plan_verify.specs.declared.value.Value.{Value}
use Rattle.plan_verify.specs.declared.value.Value.TheVariants.{Stamp, Flag, Text, Paths, Swept}
use Rattle.plan_verify.specs.Turn.{Request, Stat, Local, Moved, Turn, Goes, Ends, Fails, Calculated, calculate, calculated, same_text, Reply as Answer, next, sweeps, sweep, act_at, turn, request_of, question, replied, replied_at, heard}
use Rattle.plan_verify.specs.Sound.{asking}
use Rattle.plan_verify.specs.declared.value.Cause.TheVariants.{TextTooLong}
use Rattle.std.proofs.lemmas.Bool.{le-ltb}
use Rattle.plan_machine.specs.Turned.{IsMade}
use Rattle.plan_machine.specs.declared.edge.turns.Turned.TheVariants as turned
use Rattle.plan_machine.proofs.ListLemmas.{get_inside, when_true, when_false, when_either}
use Rattle.plan_machine.specs.declared.edge.turns.Heard.{Heard}
use Rattle.plan_machine.specs.declared.edge.turns.Heard.TheVariants as hearing
use Rattle.plan_machine.specs.Depfile.{depfile}
use Rattle.plan_machine.specs.Working.{Works, HasText, HasPaths, IsSweeping, Sweeps}
use Rattle.plan_machine.specs.Hearing.{IsHeard}

module _ (p : Parts) (e : ℕ) (l : Local) (r : Answer) where
  pub heard_is : (o : Option Instr) → l.asked ≡ true → o ≡ slice_get (code p e) l.place → heard depfile p e l r ≡ replied_at depfile l o r
  unfolding heard
  heard_is o loud at = when_true (λ (t : Option Turn). t ≡ replied_at depfile l o r) l.asked _ _ loud (ap (λ (x : Option Instr). replied_at depfile l x r) (sym at))

  pub heard_unasked : l.asked ≡ false → IsHeard hearing.Unfit l l (heard depfile p e l r)
  unfolding heard
  heard_unasked quiet = (when_false (λ (t : Option Turn). t ≡ None) l.asked _ _ quiet refl, refl)

  pub heard_out : l.asked ≡ true → None ≡ slice_get (code p e) l.place → IsHeard hearing.Unfit l l (heard depfile p e l r)
  heard_out loud at = (heard_is None loud at, refl)

  pub heard_in : (new : Local) (i : Instr) (h : Heard) → l.asked ≡ true → Some i ≡ slice_get (code p e) l.place → IsHeard h l new (replied depfile l i r) → IsHeard h l new (heard depfile p e l r)
  heard_in new i h loud at made = subst (λ (t : Option Turn). IsHeard h l new t) (sym (heard_is (Some i) loud at)) made

  pub works_in : (i : Instr) → l.asked ≡ true → Some i ≡ slice_get (code p e) l.place → IfSome (heard depfile p e l r) Works → IfSome (replied depfile l i r) Works
  works_in i loud at works = subst (λ (t : Option Turn). IfSome t Works) (heard_is (Some i) loud at) works

  pub fits_in : (i : Instr) → l.asked ≡ true → Some i ≡ slice_get (code p e) l.place → IsSome (replied depfile l i r) → IsSome (heard depfile p e l r)
  fits_in i loud at fits = subst (λ (t : Option Turn). IsSome t) (sym (heard_is (Some i) loud at)) fits

next_silent : (l : Local) (stack : List Value) → request_of (next l stack) ≡ None
next_silent l stack = when_either (λ (t : Turn). request_of t ≡ None) (nat_lt 64 (length stack)) _ _ (λ h. refl) (λ h. refl)

sweep_left : (l : Local) (stack : List Value) → IsSome (request_of (sweep l stack)) → IsSweeping stack
sweep_left l (Paths swept all ∷ Flag b ∷ Stamp n ∷ below) h = by (slice_get all swept) refl h
  where
    by : (o : Option (List ℕ)) → slice_get all swept ≡ o → IsSome (request_of (sweeps l all (Flag b ∷ Stamp n ∷ below) o)) → swept < length all
    by None at h = absurd (let none : IsSome (request_of Ends) = subst (λ (o : Option Request). IsSome o) (next_silent l (Swept all ∷ Flag b ∷ Stamp n ∷ below)) h in cc)
    by (Some path) at h = slice_get_within all swept path at
sweep_left l _ h = absurd cc

pub sweeps_in : (p : Parts) (e : ℕ) (l : Local) (i : Instr) → Some i ≡ slice_get (code p e) l.place → l.asked ≡ true → (l.asked ≡ true → IsSome (question p e [] l)) → Sweeps i l.stack
unfolding turn
sweeps_in p e l op.Sweep at loud asks = sweep_left l l.stack (subst (λ (o : Option Instr). IsSome (request_of (act_at p e [] l o))) (sym at) (asks loud))
sweeps_in p e l _ at loud asks = tt

-- ---- instructions that look into paths and texts

get_outside : {A : Type 0} (xs : List A) (k : ℕ) → length xs ≤ k → slice_get xs k ≡ None
get_outside [] k h = refl
get_outside (x ∷ xs) zero h = absurd (omega (arith, h))
get_outside (x ∷ xs) (suc k) h = get_outside xs k (omega (arith, h))

-- a Sweep with paths left asks, and is not wrong
pub sweep_asks : (l new : Local) (all : List (List ℕ)) (swept : ℕ) (rest : List Value) → l.stack ≡ Paths swept all ∷ rest → swept < length all → Works (sweep l l.stack) → new ≡ asking l → IsMade turned.Asked l new (sweep l l.stack)
sweep_asks l new all swept rest is lt works same =
    subst (λ (stack : List Value). IsMade turned.Asked l new (sweep l stack)) (sym is) (by rest (subst (λ (stack : List Value). Works (sweep l stack)) is works))
  where
    by : (rest : List Value) → Works (sweep l (Paths swept all ∷ rest)) → IsMade turned.Asked l new (sweep l (Paths swept all ∷ rest))
    by (Flag b ∷ Stamp n ∷ below) w =
        let path = get_inside all swept lt in
        (Stat path.0, ap (sweeps l all (Flag b ∷ Stamp n ∷ below)) path.1, same)
    by _ w = absurd w

-- a Sweep without paths left has swept them
pub sweep_ends : (l : Local) (all : List (List ℕ)) (swept : ℕ) (rest : List Value) → l.stack ≡ Paths swept all ∷ rest → length all ≤ swept → Works (sweep l l.stack) → sweep l l.stack ≡ next l (Swept all ∷ rest)
sweep_ends l all swept rest is le works =
    ap (sweep l) is ∙ by rest (subst (λ (stack : List Value). Works (sweep l stack)) is works)
  where
    by : (rest : List Value) → Works (sweep l (Paths swept all ∷ rest)) → sweep l (Paths swept all ∷ rest) ≡ next l (Swept all ∷ rest)
    by (Flag b ∷ Stamp n ∷ below) w = ap (sweeps l all (Flag b ∷ Stamp n ∷ below)) (get_outside all swept le)
    by _ w = absurd w

-- a Sweep that isn't wrong finds paths on top
pub sweep_has : (l : Local) (stack : List Value) → Works (sweep l stack) → HasPaths stack
sweep_has l (Paths swept all ∷ rest) w = tt
sweep_has l [] w = absurd w
sweep_has l (Stamp n ∷ rest) w = absurd w
sweep_has l (Flag b ∷ rest) w = absurd w
sweep_has l (Text t ∷ rest) w = absurd w
sweep_has l (Swept all ∷ rest) w = absurd w

pub same_bytes : (a b : List ℕ) → same_text a b ≡ bytes_eq a b
same_bytes [] [] = refl
same_bytes [] (b ∷ bs) = refl
same_bytes (a ∷ as') [] = refl
same_bytes (a ∷ as') (b ∷ bs) = ap (λ (x : Bool). (a == b) && x) (same_bytes as' bs)

pub join_long : (l : Local) (a b : List ℕ) (below : List Value) → l.stack ≡ Text b ∷ Text a ∷ below → nat_lt 1048576 (length a + length b) ≡ true → calculated l (calculate op.Join l.stack) ≡ Fails TextTooLong
join_long l a b below is long =
    ap (λ (x : List Value). calculated l (calculate op.Join x)) is ∙ when_true (λ (c : Calculated). calculated l c ≡ Fails TextTooLong) (nat_lt 1048576 (length a + length b)) _ _ long refl

pub join_is : (l new : Local) (a b : List ℕ) (below : List Value) → l.stack ≡ Text b ∷ Text a ∷ below → nat_lt 1048576 (length a + length b) ≡ false → length below < 64
    → new ≡ record { place = l.place + 1; stack = Text (a ++ b) ∷ below; holding = l.holding; ran = l.ran; asked = false } → calculated l (calculate op.Join l.stack) ≡ Goes Moved new
join_is l new a b below is short room same =
    ap (λ (x : List Value). calculated l (calculate op.Join x)) is
    ∙ when_false (λ (c : Calculated). calculated l c ≡ Goes Moved new) (nat_lt 1048576 (length a + length b)) _ _ short
    (when_false (λ (t : Turn). t ≡ Goes Moved new) (nat_lt 64 (length (Text (a ++ b) ∷ below))) _ _ (le-ltb 64 (length (Text (a ++ b) ∷ below)) (omega (arith, room)))
    (ap (λ (k : Local). Goes Moved k) (sym same)))

-- a Join that isn't wrong finds two texts
pub join_first : (l : Local) (stack : List Value) → Works (calculated l (calculate op.Join stack)) → HasText stack
join_first l (Text b ∷ rest) w = tt
join_first l [] w = absurd w
join_first l (Stamp n ∷ rest) w = absurd w
join_first l (Flag b ∷ rest) w = absurd w
join_first l (Paths swept all ∷ rest) w = absurd w
join_first l (Swept all ∷ rest) w = absurd w

pub join_second : (l : Local) (b : List ℕ) (stack rest : List Value) → stack ≡ Text b ∷ rest → Works (calculated l (calculate op.Join stack)) → HasText rest
join_second l b stack rest is w = by rest (subst (λ (x : List Value). Works (calculated l (calculate op.Join x))) is w)
  where
    by : (rest : List Value) → Works (calculated l (calculate op.Join (Text b ∷ rest))) → HasText rest
    by (Text a ∷ below) w = tt
    by [] w = absurd w
    by (Stamp n ∷ below) w = absurd w
    by (Flag c ∷ below) w = absurd w
    by (Paths swept all ∷ below) w = absurd w
    by (Swept all ∷ below) w = absurd w

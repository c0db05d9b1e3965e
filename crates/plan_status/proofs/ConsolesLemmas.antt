-- Console edges that hold job tokens, one mark after another. Serves src/consoles.rt.
use Rattle.std.proofs.Common.{◌≡◌, ℕ, zero, suc, ◌+◌, ◌<◌, ◌≤◌, Bool, true, false, List, [], ◌∷◌, ◌++◌, length, get_or, take, refl, sym, ap, subst, ◌∙◌, ltb, arith}
use Rattle.std.proofs.lemmas.Bool.{eq-eqb, eqb-true, ltb-true, ltb-false}
use Rattle.std.proofs.lemmas.List.{length-append, length-set, take-append-le, length-take-le, take_all, take-take}
use Rattle.std.specs.Prelude.{◌==◌, if◌then◌else◌, slice_get, slice_set}
use Rattle.plan_image.specs.declared.image.Edge.{Edge}
use Rattle.plan_image.specs.declared.image.Parts.{Parts}
use Rattle.plan_verify.specs.Tables.{pool_in}
use Rattle.plan_machine.specs.declared.event.Mark.{Mark}
use Rattle.plan_machine.specs.declared.event.Mark.TheVariants as mark
use Rattle.plan_verify.specs.declared.value.Cause.{Cause}
use Rattle.plan_machine.specs.Orderly.{holds_after, holds_by, holds_then}
use Rattle.plan_status.specs.declared.consoles.Consoles.{Consoles}
use Rattle.plan_status.specs.Consoles.{AreFree, AreNoted, HasLooked, IsFree, is_console, is_console_pool}
use Rattle.plan_status.specs.Trues.{trues}
use Rattle.plan_status.proofs.TruesLemmas.{none_set, none_true, one_set, set_beside, set_so}

no_clash : {A : Type 0} (b : Bool) → b ≡ false → b ≡ true → A
no_clash true h k = absurd cc
no_clash false h k = absurd cc

-- ---- marks

-- one mark more
holds_more : (e : ℕ) (held : Bool) (marks : List Mark) (m : Mark) → holds_after e held (marks ++ m ∷ []) ≡ holds_then e (holds_after e held marks) m
holds_more e held [] m = refl
holds_more e held (x ∷ marks) m = holds_more e (holds_then e held x) marks m

-- ---- flags

-- a console edge is in the image
console_within : (p : Parts) (e : ℕ) → is_console p e ≡ true → e < length p.edges
console_within p e is = within p.edges e is
  where
    within : (edges : List Edge) (i : ℕ) → is_console_pool p (pool_in (slice_get edges i)) ≡ true → i < length edges
    within [] i h = absurd cc
    within (x ∷ edges) zero h = omega arith
    within (x ∷ edges) (suc i) h = let on = within edges i h in omega (arith, on)

-- a mark says whether edge e holds a job token, and the flag of e is set to this
pub noted_set : (p : Parts) (before : List Mark) (m : Mark) (c d : Consoles) (e : ℕ) (b : Bool)
    → AreNoted p before c → d.holding.items ≡ slice_set c.holding.items e b → d.held ≡ trues d.holding.items
    → ((f : ℕ) (held : Bool) → holds_then f held m ≡ (if e == f then b else held)) → (b ≡ true → is_console p e ≡ true)
    → AreNoted p (before ++ m ∷ []) d
noted_set p before m c d e b noted is count tells only = record {
  all = ap length is ∙ (length-set c.holding.items e b ∙ noted.all);
  holding = λ f console. by_place f console (e == f) refl;
  others = λ f other. beside f other (e == f) refl;
  held = count;
}
  where
    inside : b ≡ true → e < length c.holding.items
    inside raised = let lt = console_within p e (only raised) in let long = noted.all in omega (arith, lt, long)

    here : (f : ℕ) → e ≡ f → get_or d.holding.items f false ≡ b
    here f same = ap (λ (xs : List Bool). get_or xs f false) is ∙ (ap (λ (k : ℕ). get_or (slice_set c.holding.items e b) k false) (sym same) ∙ set_so c.holding.items e b inside)

    away : (f : ℕ) → (e ≡ f → ⊥) → get_or d.holding.items f false ≡ get_or c.holding.items f false
    away f other = ap (λ (xs : List Bool). get_or xs f false) is ∙ set_beside c.holding.items e f b other

    apart : (f : ℕ) → (e == f) ≡ false → e ≡ f → ⊥
    apart f is same = no_clash (e == f) is (eq-eqb e f same)

    by_place : (f : ℕ) → is_console p f ≡ true → (t : Bool) → (e == f) ≡ t → get_or d.holding.items f false ≡ holds_by (before ++ m ∷ []) f
    by_place f console true test =
        let told : holds_by (before ++ m ∷ []) f ≡ b = holds_more f false before m ∙ (tells f (holds_by before f) ∙ ap (λ (t : Bool). if t then b else holds_by before f) test) in
        here f (eqb-true e f test) ∙ sym told
    by_place f console false test =
        let told : holds_by (before ++ m ∷ []) f ≡ holds_by before f = holds_more f false before m ∙ (tells f (holds_by before f) ∙ ap (λ (t : Bool). if t then b else holds_by before f) test) in
        away f (apart f test) ∙ (noted.holding f console ∙ sym told)

    lowered : (f : ℕ) → is_console p f ≡ false → e ≡ f → (t : Bool) → b ≡ t → b ≡ false
    lowered f other same true raised = no_clash (is_console p f) other (ap (is_console p) (sym same) ∙ only raised)
    lowered f other same false low = low

    beside : (f : ℕ) → is_console p f ≡ false → (t : Bool) → (e == f) ≡ t → get_or d.holding.items f false ≡ false
    beside f other true test = here f (eqb-true e f test) ∙ lowered f other (eqb-true e f test) b refl
    beside f other false test = away f (apart f test) ∙ noted.others f other

-- a mark that changes the job token of no console edge
pub noted_kept : (p : Parts) (before : List Mark) (m : Mark) (c : Consoles) → AreNoted p before c
    → ((f : ℕ) (held : Bool) → is_console p f ≡ true → holds_then f held m ≡ held) → AreNoted p (before ++ m ∷ []) c
noted_kept p before m c noted keeps = record {
  all = noted.all;
  holding = λ f console. noted.holding f console ∙ sym (holds_more f false before m ∙ keeps f (holds_by before f) console);
  others = noted.others;
  held = noted.held;
}

-- a job token is taken by an edge that is no console edge
pub took_other : (p : Parts) (e f : ℕ) (held : Bool) → is_console p e ≡ false → is_console p f ≡ true → holds_then f held (mark.Took e) ≡ held
took_other p e f held other console = by_place (e == f) refl
  where
    by_place : (t : Bool) → (e == f) ≡ t → (if e == f then true else held) ≡ held
    by_place true test = no_clash (is_console p e) other (ap (is_console p) (eqb-true e f test) ∙ console)
    by_place false test = ap (λ (t : Bool). if t then true else held) test

-- a mark with which no job token is taken or released
pub silent : (m : Mark) (f : ℕ) (held : Bool) → ((x : ℕ) → m ≡ mark.Took x → ⊥) → ((x : ℕ) → m ≡ mark.Released x → ⊥) → ((x : ℕ) (cause : Cause) → m ≡ mark.Failed x cause → ⊥) → holds_then f held m ≡ held
silent (mark.Took e) f held took released failed = absurd (took e refl)
silent (mark.Released e) f held took released failed = absurd (released e refl)
silent (mark.Failed e cause) f held took released failed = absurd (failed e cause refl)
silent (mark.Started e) f held took released failed = refl
silent (mark.Moved e) f held took released failed = refl
silent (mark.Asked e) f held took released failed = refl
silent (mark.Answered e) f held took released failed = refl
silent (mark.Ended e ran) f held took released failed = refl
silent (mark.Skipped e w) f held took released failed = refl
silent (mark.Stopped e) f held took released failed = refl

-- ---- free marks

free_by : (p : Parts) (marks : List Mark) (c : Consoles) → AreNoted p marks c → c.held ≡ 0 → IsFree p marks
free_by p marks c noted none = λ e console. sym (noted.holding e console) ∙ none_set c.holding.items e (sym noted.held ∙ none)

not_free_by : (p : Parts) (marks : List Mark) (c : Consoles) → AreNoted p marks c → (c.held ≡ 0 → ⊥) → IsFree p marks → ⊥
not_free_by p marks c noted some free =
    let one = one_set c.holding.items (λ none. some (noted.held ∙ none)) in
    by_sort one.0 one.1 (is_console p one.0) refl
  where
    by_sort : (e : ℕ) → get_or c.holding.items e false ≡ true → (b : Bool) → is_console p e ≡ b → ⊥
    by_sort e set true is = no_clash (get_or c.holding.items e false) (noted.holding e is ∙ free e is) set
    by_sort e set false is = no_clash (get_or c.holding.items e false) (noted.others e is) set

free_all : (p : Parts) (marks : List Mark) → IsFree p marks → AreFree p marks (length marks)
free_all p marks free = record {
  within = omega arith;
  free = subst (IsFree p) (sym (take_all (length marks) marks (omega arith))) free;
  most = λ k past inside all. omega (arith, past, inside);
}

free_still : (p : Parts) (marks : List Mark) (m : Mark) (n : ℕ) → AreFree p marks n → (IsFree p (marks ++ m ∷ []) → ⊥) → AreFree p (marks ++ m ∷ []) n
free_still p marks m n are not_all = record {
  within = let long = length-append marks (m ∷ []) in let in_marks = are.within in omega (arith, long, in_marks);
  free = subst (IsFree p) (sym (take-append-le n marks (m ∷ []) are.within)) are.free;
  most = λ k past inside all. beyond k past inside all (ltb (length marks) k) refl;
}
  where
    beyond : (k : ℕ) → n < k → k ≤ length (marks ++ m ∷ []) → IsFree p (take k (marks ++ m ∷ [])) → (b : Bool) → ltb (length marks) k ≡ b → ⊥
    beyond k past inside all true test =
        let over = ltb-true (length marks) k test in
        let long = length-append marks (m ∷ []) in
        not_all (subst (IsFree p) (take_all k (marks ++ m ∷ []) (omega (arith, over, long))) all)
    beyond k past inside all false test =
        let within : k ≤ length marks = ltb-false (length marks) k test in
        are.most k past within (subst (IsFree p) (take-append-le k marks (m ∷ []) within) all)

-- ---- one mark more

-- what is noted doesn't depend on how many marks were looked at
renamed : (p : Parts) (marks : List Mark) (c d : Consoles) → AreNoted p marks c → d.holding.items ≡ c.holding.items → d.held ≡ c.held → AreNoted p marks d
renamed p marks c d noted flags count = record {
  all = ap length flags ∙ noted.all;
  holding = λ e console. ap (λ (xs : List Bool). get_or xs e false) flags ∙ noted.holding e console;
  others = λ e other. ap (λ (xs : List Bool). get_or xs e false) flags ∙ noted.others e other;
  held = count ∙ (noted.held ∙ ap trues (sym flags));
}

-- a mark is noted, and now so many of them are free
looked_with : (p : Parts) (marks : List Mark) (i n : ℕ) (x : Mark) (c d : Consoles) → i < length marks → take (i + 1) marks ≡ take i marks ++ x ∷ []
    → AreNoted p (take i marks ++ x ∷ []) c → d.holding.items ≡ c.holding.items → d.held ≡ c.held → d.looked ≡ i + 1 → d.free ≡ n → AreFree p (take i marks ++ x ∷ []) n → HasLooked p marks d
looked_with p marks i n x c d lt one noted flags count looked free are = record {
  within = subst (λ (k : ℕ). k ≤ length marks) (sym looked) (omega (arith, lt));
  noted = subst (λ (k : ℕ). AreNoted p (take k marks) d) (sym looked) (renamed p (take (i + 1) marks) c d (subst (λ (ms : List Mark). AreNoted p ms c) (sym one) noted) flags count);
  free = subst (λ (k : ℕ). AreFree p (take k marks) d.free) (sym looked) (subst (AreFree p (take (i + 1) marks)) (sym free) (subst (λ (ms : List Mark). AreFree p ms n) (sym one) are));
}

-- no console edge holds a job token: all marks are free
pub looked_free : (p : Parts) (marks : List Mark) (i : ℕ) (x : Mark) (c d : Consoles) → i < length marks → take (i + 1) marks ≡ take i marks ++ x ∷ []
    → AreNoted p (take i marks ++ x ∷ []) c → d.holding.items ≡ c.holding.items → d.held ≡ c.held → c.held ≡ 0 → d.looked ≡ i + 1 → d.free ≡ i + 1 → HasLooked p marks d
looked_free p marks i x c d lt one noted flags count none looked free =
    let long : length (take i marks ++ x ∷ []) ≡ i + 1 = ap length (sym one) ∙ length-take-le (i + 1) marks (omega (arith, lt)) in
    let are : AreFree p (take i marks ++ x ∷ []) (i + 1) = subst (AreFree p (take i marks ++ x ∷ [])) long (free_all p (take i marks ++ x ∷ []) (free_by p (take i marks ++ x ∷ []) c noted none)) in
    looked_with p marks i (i + 1) x c d lt one noted flags count looked free are

-- a console edge holds a job token: as many marks are free as before
pub looked_held : (p : Parts) (marks : List Mark) (i n : ℕ) (x : Mark) (c d : Consoles) → i < length marks → take (i + 1) marks ≡ take i marks ++ x ∷ []
    → AreNoted p (take i marks ++ x ∷ []) c → AreFree p (take i marks) n → d.holding.items ≡ c.holding.items → d.held ≡ c.held → (c.held ≡ 0 → ⊥) → d.looked ≡ i + 1 → d.free ≡ n → HasLooked p marks d
looked_held p marks i n x c d lt one noted were flags count some looked free =
    looked_with p marks i n x c d lt one noted flags count looked free (free_still p (take i marks) x n were (not_free_by p (take i marks ++ x ∷ []) c noted some))

-- ---- the whole

-- nothing was looked at
pub looked_none : (p : Parts) (marks : List Mark) (c : Consoles) → length c.holding.items ≡ length p.edges → ((e : ℕ) → get_or c.holding.items e false ≡ false)
    → c.held ≡ 0 → c.looked ≡ 0 → c.free ≡ 0 → HasLooked p marks c
looked_none p marks c all unset none looked free = record {
  within = subst (λ (k : ℕ). k ≤ length marks) (sym looked) (omega arith);
  noted = subst (λ (k : ℕ). AreNoted p (take k marks) c) (sym looked) (record { all = all; holding = λ e console. unset e; others = λ e other. unset e; held = none ∙ sym (none_true c.holding.items unset) });
  free = subst (λ (k : ℕ). AreFree p (take k marks) c.free) (sym looked) (subst (AreFree p []) (sym free) (free_all p [] (λ e console. refl)));
}

-- more marks may come
pub looked_stays : (p : Parts) (marks more : List Mark) (c : Consoles) → HasLooked p marks c → HasLooked p (marks ++ more) c
looked_stays p marks more c looked =
    let same : take c.looked (marks ++ more) ≡ take c.looked marks = take-append-le c.looked marks more looked.within in
    record {
      within = let long = length-append marks more in let before = looked.within in omega (arith, long, before);
      noted = subst (λ (ms : List Mark). AreNoted p ms c) (sym same) looked.noted;
      free = subst (λ (ms : List Mark). AreFree p ms c.free) (sym same) looked.free;
    }

-- those that are free are among the greatest number of them
pub free_is_most : (p : Parts) (marks : List Mark) (c : Consoles) (n : ℕ) → HasLooked p marks c → AreFree p marks n → c.free ≤ n
free_is_most p marks c n looked are = by_test (ltb n c.free) refl
  where
    short : c.free ≤ c.looked
    short = subst (λ (k : ℕ). c.free ≤ k) (length-take-le c.looked marks looked.within) looked.free.within

    by_test : (b : Bool) → ltb n c.free ≡ b → c.free ≤ n
    by_test true test =
        let below = ltb-true n c.free test in
        let seen = looked.within in
        let few = short in
        absurd (are.most c.free below (omega (arith, seen, few)) (subst (IsFree p) (take-take c.free c.looked marks few) looked.free.free))
    by_test false test = ltb-false n c.free test

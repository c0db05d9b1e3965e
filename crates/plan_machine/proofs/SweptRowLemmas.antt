-- A row of a sweep: the stamps of several paths, merged at once. Lemmas for src/edge/swept_row.rt.
use Rattle.std.proofs.Common.{◌≡◌, ℕ, zero, suc, ◌+◌, ◌<◌, ◌≤◌, Bool, true, false, List, [], ◌∷◌, drop, length, Option, Some, None, take, refl, sym, ap, ◌∙◌, subst, arith}
use Rattle.std.specs.Prelude.{◌||◌, ◌==◌, bytes_eq, get_or, nat_lt, slice_get, slice_set, option_map}
use Rattle.std.specs.List.{fold}
use Rattle.std.proofs.lemmas.Bool.{le-ltb}
use Rattle.std.proofs.lemmas.List.{length-take-le}
use Rattle.std.proofs.lemmas.Option.{slice_get-get_or, slice_get_within}
use Rattle.std.proofs.lemmas.Slice.Eq.{bytes_eq-Decides}
use Rattle.plan_image.specs.declared.image.Parts.{Parts}
use Rattle.plan_image.specs.Code.{code}
use Rattle.plan_verify.specs.declared.value.Value.{Value}
use Rattle.plan_verify.specs.declared.value.Value.TheVariants.{Stamp, Flag, Paths}
use Rattle.plan_verify.specs.Members.{is_member}
use Rattle.plan_verify.specs.Turn.{Local, Moved, Turn, Goes, Stat, goes, later, merged}
use Rattle.plan_schedule.specs.declared.schedule.Schedule.{Schedule}
use Rattle.plan_schedule.specs.declared.plan.Plan.{Plan}
use Rattle.plan_machine.specs.Depfile.{depfile}
use Rattle.plan_machine.specs.RunState.{RunState}
use Rattle.plan_machine.specs.Kept.{AreKept, Changed, IsStateOf, Running, phase_active, phase_of, phases_from}
use Rattle.plan_machine.specs.Places.{at_take}
use Rattle.plan_machine.specs.Replaying.{RunsTo}
use Rattle.plan_machine.specs.Requests.{asked_at}
use Rattle.plan_machine.specs.Runs.{Runs}
use Rattle.plan_machine.specs.State.{Active, State, Status, with_status}
use Rattle.plan_machine.specs.Sweeping.{AwaitsSwept, HasNext, HasSwept, HasSweptTo, IsMergedRow, IsNext, IsSweptRow, SweepsOn, SweepsRow, row_events, row_marks, sweep_events, sweep_marks}
use Rattle.plan_machine.specs.Working.{IsSweeping}
use Rattle.plan_machine.proofs.Applies.{set_again}
use Rattle.plan_machine.proofs.KeptLemmas.{phase_found, phases_set}
use Rattle.plan_machine.proofs.ListLemmas.{get_inside, get_same, set_here, set_length, when_false}
use Rattle.plan_machine.proofs.LocalRunLemmas.{changed_state, runs_join}
use Rattle.plan_machine.proofs.SweepLemmas.{asked_so, awaits_so, runs_so, swept_asked, swept_on}

-- ---- lists

pub get_drop : {A : Type 0} (xs : List A) (n k : ℕ) → slice_get (drop n xs) k ≡ slice_get xs (n + k)
get_drop xs zero k = let same : 0 + k ≡ k = omega arith in ap (slice_get xs) (sym same)
get_drop [] (suc n) k = none (suc n + k)
  where
    none : {A : Type 0} (m : ℕ) → ◌≡◌ {A = Option A} None (slice_get [] m)
    none zero = refl
    none (suc m) = refl
get_drop (x ∷ xs) (suc n) k = let same : suc n + k ≡ suc (n + k) = omega arith in get_drop xs n k ∙ ap (slice_get (x ∷ xs)) (sym same)

or_right_false : (b : Bool) → b ≡ (b || false)
or_right_false true = refl
or_right_false false = refl

or_more : (a b c : Bool) → ((a || b) || c) ≡ (a || (b || c))
or_more true b c = refl
or_more false b c = refl

pub same_at : (xs ys : List (List ℕ)) (i j : ℕ) (a b : List ℕ) (r : Bool) → i < length xs → j < length ys → a ≡ get_or xs i [] → b ≡ get_or ys j [] → r ≡ bytes_eq a b → r ≡ true → slice_get xs i ≡ slice_get ys j
same_at xs ys i j a b r within inside a_is b_is is on =
    slice_get-get_or xs i [] within ∙ ap Some (sym a_is ∙ (bytes_eq-Decides a b).0 (sym is ∙ on) ∙ b_is) ∙ sym (slice_get-get_or ys j [] inside)

pub same_must : (xs ys : List (List ℕ)) (i j : ℕ) (a b : List ℕ) (r : Bool) → i < length xs → j < length ys → a ≡ get_or xs i [] → b ≡ get_or ys j [] → r ≡ bytes_eq a b → slice_get xs i ≡ slice_get ys j → r ≡ true
same_must xs ys i j a b r within inside a_is b_is is same =
    let both : Some (get_or xs i []) ≡ Some (get_or ys j []) = sym (slice_get-get_or xs i [] within) ∙ same ∙ slice_get-get_or ys j [] inside in
    let equal : get_or xs i [] ≡ get_or ys j [] = cc in
    is ∙ (bytes_eq-Decides a b).1 (a_is ∙ equal ∙ sym b_is)

-- ---- a row on a stack

-- as many stamps as paths that are the same, none of which is the last
pub merged_so : (all paths : List (List ℕ)) (stamps : List ℕ) (swept n : ℕ) (b : Bool) (below : List Value) → ((k : ℕ) → k < length stamps → slice_get all (swept + k) ≡ slice_get paths k)
    → swept + length stamps < length all
    → IsMergedRow paths stamps (Paths swept all ∷ Flag b ∷ Stamp n ∷ below) (Paths (swept + length stamps) all ∷ Flag (b || is_member 0 stamps) ∷ Stamp (fold later n stamps) ∷ below)
merged_so all paths [] swept n b below same left =
    let at : swept + 0 ≡ swept = omega arith in
    ap (λ (k : ℕ). Paths k all ∷ Flag (b || false) ∷ Stamp n ∷ below) at ∙ ap (λ (f : Bool). Paths swept all ∷ Flag f ∷ Stamp n ∷ below) (sym (or_right_false b))
merged_so all [] (stamp ∷ stamps) swept n b below same left =
    let lt : swept + 0 < length all = omega (arith, left) in
    let first : 0 < length (stamp ∷ stamps) = omega arith in
    let one = get_inside all (swept + 0) lt in
    let clash : ◌≡◌ {A = Option (List ℕ)} (Some one.0) None = sym one.1 ∙ same 0 first in
    absurd cc
merged_so all (path ∷ paths) (stamp ∷ stamps) swept n b below same left =
    let first : 0 < length (stamp ∷ stamps) = omega arith in
    let at : swept + 0 ≡ swept = omega arith in
    let lt : swept + 1 < length all = omega (arith, left) in
    let rest : swept + 1 + length stamps < length all = omega (arith, left) in
    let long : swept + 1 + length stamps ≡ swept + length (stamp ∷ stamps) = omega arith in
    let more = λ (k : ℕ) (h : k < length stamps).
    let next : swept + 1 + k ≡ swept + suc k = omega arith in
    let within : suc k < length (stamp ∷ stamps) = omega (arith, h) in
    ap (slice_get all) next ∙ same (suc k) within in (
      (ap (slice_get all) (sym at) ∙ same 0 first, lt),
      subst (λ (new : List Value). IsMergedRow paths stamps (Paths (swept + 1) all ∷ Flag (b || (stamp == 0)) ∷ Stamp (later n stamp) ∷ below) new)
          (ap (λ (k : ℕ). Paths k all ∷ Flag ((b || (stamp == 0)) || is_member 0 stamps) ∷ Stamp (fold later (later n stamp) stamps) ∷ below) long
          ∙ ap (λ (f : Bool). Paths (swept + length (stamp ∷ stamps)) all ∷ Flag f ∷ Stamp (fold later (later n stamp) stamps) ∷ below) (or_more b (stamp == 0) (is_member 0 stamps)))
          (merged_so all paths stamps (swept + 1) (later n stamp) (b || (stamp == 0)) below more rest),
    )

-- the same for a stack whose top values were popped and pushed again
pub merged_stack : (old one two below three four new : List Value) (all paths : List (List ℕ)) (swept count from newest latest : ℕ) (missing none : Bool) (stamps : List ℕ)
    → old ≡ Paths swept all ∷ one → one ≡ Flag missing ∷ two → two ≡ Stamp newest ∷ below → three ≡ Stamp latest ∷ below → four ≡ Flag (missing || none) ∷ three → new ≡ Paths (swept + count) all ∷ four
    → latest ≡ fold later newest (take count stamps) → none ≡ is_member 0 (take count stamps) → count ≤ length stamps → swept + count < length all
    → ((k : ℕ) → k < count → slice_get all (swept + k) ≡ slice_get paths (from + k)) → IsMergedRow (drop from paths) (take count stamps) old new
merged_stack old one two below three four new all paths swept count from newest latest missing none stamps a b c d e f latest_is none_is few left same =
    let long : length (take count stamps) ≡ count = length-take-le count stamps few in
    let before : old ≡ Paths swept all ∷ Flag missing ∷ Stamp newest ∷ below = a ∙ ap (λ (l : List Value). Paths swept all ∷ l) (b ∙ ap (λ (l : List Value). Flag missing ∷ l) c) in
    let after : new ≡ Paths (swept + length (take count stamps)) all ∷ Flag (missing || is_member 0 (take count stamps)) ∷ Stamp (fold later newest (take count stamps)) ∷ below =
    f ∙ ap (λ (l : List Value). Paths (swept + count) all ∷ l) (e ∙ ap (λ (l : List Value). Flag (missing || none) ∷ l) d)
    ∙ ap (λ (k : ℕ). Paths (swept + k) all ∷ Flag (missing || none) ∷ Stamp latest ∷ below) (sym long)
    ∙ ap (λ (x : Bool). Paths (swept + length (take count stamps)) all ∷ Flag (missing || x) ∷ Stamp latest ∷ below) none_is
    ∙ ap (λ (n : ℕ). Paths (swept + length (take count stamps)) all ∷ Flag (missing || is_member 0 (take count stamps)) ∷ Stamp n ∷ below) latest_is in
    subst (λ (l : List Value). IsMergedRow (drop from paths) (take count stamps) l new) (sym before)
    (subst (λ (l : List Value). IsMergedRow (drop from paths) (take count stamps) (Paths swept all ∷ Flag missing ∷ Stamp newest ∷ below) l) (sym after)
    (merged_so all (drop from paths) (take count stamps) swept newest missing below
    (λ k h. same k (subst (λ (n : ℕ). k < n) long h) ∙ sym (get_drop paths from k))
    (subst (λ (n : ℕ). swept + n < length all) (sym long) left)))

length_merged : (path : List ℕ) (stamp : ℕ) (stack : List Value) → HasNext path stack → length (merged stamp stack) ≡ length stack
length_merged path stamp (Paths swept all ∷ Flag b ∷ Stamp n ∷ below) next = refl
length_merged path stamp _ next = absurd next

left_one : (path : List ℕ) (stamp : ℕ) (stack : List Value) → HasNext path stack → IsSweeping (merged stamp stack)
left_one path stamp (Paths swept all ∷ Flag b ∷ Stamp n ∷ below) next = next.1
left_one path stamp _ next = absurd next

-- a path is left
left_row : (paths : List (List ℕ)) (stamps : List ℕ) (old new : List Value) → IsSweeping old → IsMergedRow paths stamps old new → IsSweeping new
left_row paths [] old new is row = subst IsSweeping (sym row) is
left_row [] (stamp ∷ stamps) old new is row = absurd row
left_row (path ∷ paths) (stamp ∷ stamps) old new is row = left_row paths stamps (merged stamp old) new (left_one path stamp old row.0) row.1

top_one : (path : List ℕ) (stamp n : ℕ) (all : List (List ℕ)) (stack : List Value) → HasNext path stack → slice_get stack 0 ≡ Some (Paths n all) → slice_get (merged stamp stack) 0 ≡ Some (Paths (n + 1) all)
top_one path stamp n all (Paths swept xs ∷ Flag b ∷ Stamp m ∷ below) next top =
    let same_n : swept ≡ n = cc in
    let same_all : xs ≡ all = cc in
    ap (λ (k : ℕ). Some (Paths (k + 1) xs)) same_n ∙ ap (λ (ys : List (List ℕ)). Some (Paths (n + 1) ys)) same_all
top_one path stamp n all _ next top = absurd next

-- this many more paths were swept
top_row : (paths : List (List ℕ)) (stamps : List ℕ) (n : ℕ) (all : List (List ℕ)) (old new : List Value) → slice_get old 0 ≡ Some (Paths n all) → IsMergedRow paths stamps old new
    → slice_get new 0 ≡ Some (Paths (n + length stamps) all)
top_row paths [] n all old new top row =
    let at : n ≡ n + 0 = omega arith in
    ap (λ (stack : List Value). slice_get stack 0) row ∙ top ∙ ap (λ (k : ℕ). Some (Paths k all)) at
top_row [] (stamp ∷ stamps) n all old new top row = absurd row
top_row (path ∷ paths) (stamp ∷ stamps) n all old new top row =
    let at : n + 1 + length stamps ≡ n + length (stamp ∷ stamps) = omega arith in
    top_row paths stamps (n + 1) all (merged stamp old) new (top_one path stamp n all old row.0 top) row.1 ∙ ap (λ (k : ℕ). Some (Paths k all)) at

-- the next path of an edge that sweeps these paths
next_of : (path : List ℕ) (n : ℕ) (all : List (List ℕ)) (stack : List Value) → IsSweeping stack → slice_get stack 0 ≡ Some (Paths n all) → slice_get all n ≡ Some path → IsNext path stack
next_of path n all (Paths k xs ∷ Flag b ∷ Stamp m ∷ below) is top at =
    let same_n : n ≡ k = cc in
    let same_all : all ≡ xs = cc in
    subst (λ (j : ℕ). slice_get xs j ≡ Some path) same_n (subst (λ (ys : List (List ℕ)). slice_get ys n ≡ Some path) same_all at)
next_of path n all _ is top at = absurd is

inside_of : (n : ℕ) (all : List (List ℕ)) (stack : List Value) → IsSweeping stack → slice_get stack 0 ≡ Some (Paths n all) → n < length all
inside_of n all (Paths k xs ∷ Flag b ∷ Stamp m ∷ below) is top =
    let same_n : k ≡ n = cc in
    let same_all : xs ≡ all = cc in
    subst (λ (j : ℕ). j < length all) same_n (subst (λ (ys : List (List ℕ)). k < length ys) same_all is)
inside_of n all _ is top = absurd is

-- ---- an edge

module _ (p : Parts) (s : State) (e : ℕ) (paths : List (List ℕ)) (n : ℕ) (to : HasSweptTo p s e paths n) where
  pub to_inside : n < length paths
  to_inside = inside_of n paths to.0.stack to.2.left to.3

  pub to_asked : (path : List ℕ) → slice_get paths n ≡ Some path → asked_at p s e ≡ Some (Stat path)
  to_asked path at = swept_asked p s e path (to.0, to.1, to.2) (λ l now.
      let both : Some (Active to.0) ≡ Some (Active l) = sym to.1 ∙ now in
      let same : to.0 ≡ l = cc in
      subst (λ (m : Local). IsNext path m.stack) same (next_of path n paths to.0.stack to.2.left to.3 at))

goes_on : (l : Local) (stack : List Value) → length stack ≤ 64 → goes l l.place stack ≡ Goes Moved (record { place = l.place; stack = stack; holding = l.holding; ran = l.ran; asked = false })
goes_on l stack few =
    when_false (λ (t : Turn). t ≡ Goes Moved (record { place = l.place; stack = stack; holding = l.holding; ran = l.ran; asked = false })) (nat_lt 64 (length stack)) _ _ (le-ltb 64 (length stack) few) refl

-- the edge with this stack
abbrev with_stack : Local → List Value → Local
with_stack l stack = record { place = l.place; stack = stack; holding = l.holding; ran = l.ran; asked = true }

one_swept : (p : Parts) (e : ℕ) (path : List ℕ) (stamp : ℕ) (l : Local) → AwaitsSwept p e l → length l.stack ≤ 64 → HasNext path l.stack → HasSwept p e path stamp l (with_stack l (merged stamp l.stack))
one_swept p e path stamp l awaits few next =
    let room : length (merged stamp l.stack) ≤ 64 = omega (arith, few, length_merged path stamp l.stack next) in
    swept_on p e path l (record { asked = awaits.asked; at = awaits.at; next = next }) stamp
    (record { place = l.place; stack = merged stamp l.stack; holding = l.holding; ran = l.ran; asked = false }) (goes_on l (merged stamp l.stack) room) (with_stack l (merged stamp l.stack)) refl

-- ---- the machine

-- the machine in which this edge has this status
abbrev standing : RunState → ℕ → Local → RunState
standing g e l = record { limits = g.limits; now = with_status g.now e (Active l) }

standing_here : (g : RunState) (e : ℕ) (l : Local) → slice_get g.now.edges e ≡ Some (Active l) → standing g e l ≡ g
standing_here g e l now = ap (λ (xs : List Status). record { limits = g.limits; now = record { edges = xs; slots = g.now.slots } }) (set_here g.now.edges e (Active l) now)

standing_again : (g : RunState) (e : ℕ) (l m : Local) → standing (standing g e l) e m ≡ standing g e m
standing_again g e l m = ap (λ (xs : List Status). record { limits = g.limits; now = record { edges = xs; slots = g.now.slots } }) (set_again g.now.edges e (Active l) (Active m))

module _ (p : Parts) (e : ℕ) where
  row_by : (paths : List (List ℕ)) (stamps : List ℕ) (old : RunState) (l : Local) (stack : List Value) → slice_get old.now.edges e ≡ Some (Active l) → AwaitsSwept p e l → length l.stack ≤ 64
      → IsMergedRow paths stamps l.stack stack → IsSweptRow p old e paths stamps (standing old e (with_stack l stack))
  row_by paths [] old l stack now awaits few row =
      ap (λ (xs : List Value). standing old e (with_stack l xs)) row
      ∙ ap (λ (b : Bool). standing old e (record { place = l.place; stack = l.stack; holding = l.holding; ran = l.ran; asked = b })) (sym awaits.asked)
      ∙ standing_here old e l now
  row_by [] (stamp ∷ stamps) old l stack now awaits few row = absurd row
  row_by (path ∷ paths) (stamp ∷ stamps) old l stack now awaits few row =
      let mid : Local = with_stack l (merged stamp l.stack) in
      let swept : HasSwept p e path stamp l mid = one_swept p e path stamp l awaits few row.0 in
      let between : RunState = standing old e mid in
      let on : SweepsOn p old e path stamp between = record { before = l; after = mid; now = now; swept = swept; left = refl } in
      let there : slice_get between.now.edges e ≡ Some (Active mid) = get_same old.now.edges e (Active mid) (slice_get_within old.now.edges e (Active l) now) in
      let room : length mid.stack ≤ 64 = omega (arith, few, length_merged path stamp l.stack row.0) in (
        between,
        asked_so p old between e path stamp on,
        runs_so p old between e path stamp on,
        awaits_so p old between e path stamp on,
        subst (λ (new : RunState). IsSweptRow p between e paths stamps new) (standing_again old e mid (with_stack l stack)) (row_by paths stamps between mid stack there swept.later room row.1),
      )

  -- a received row is a run
  pub row_runs : (paths : List (List ℕ)) (stamps : List ℕ) (old new : RunState) → IsSweptRow p old e paths stamps new → RunsTo p old (row_events e stamps) (row_marks e stamps) new
  row_runs paths [] old new row = record { run = ap (λ (g : RunState). g.now) (sym row); limits = ap (λ (g : RunState). g.limits) row }
  row_runs [] (stamp ∷ stamps) old new row = absurd row
  row_runs (path ∷ paths) (stamp ∷ stamps) old new row =
      let between : RunState = row.0 in
      let rest = row_runs paths stamps between new row.4 in
      record {
        run = runs_join p old.limits old.now between.now new.now (sweep_events e stamp) (row_events e stamps) (sweep_marks e) (row_marks e stamps) row.2.run
            (subst (λ limits. Runs depfile p limits between.now (row_events e stamps) (row_marks e stamps) new.now) row.2.limits rest.run);
        limits = rest.limits ∙ row.2.limits;
      }

module _ (p : Parts) (old new : RunState) (e : ℕ) (paths : List (List ℕ)) (stamps : List ℕ) (h : SweepsRow p old e paths stamps new) where
  after_is : h.after ≡ with_stack h.before h.after.stack
  after_is =
      h.row.left
      ∙ ap (λ (b : Bool). record { place = h.before.place; stack = h.after.stack; holding = h.before.holding; ran = h.before.ran; asked = b }) h.awaits.asked

  new_is : new ≡ standing old e (with_stack h.before h.after.stack)
  new_is = h.left ∙ ap (standing old e) after_is

  pub row_so : IsSweptRow p old e paths stamps new
  row_so = subst (λ (g : RunState). IsSweptRow p old e paths stamps g) (sym new_is) (row_by p e paths stamps old h.before h.after.stack h.now h.awaits h.row.few h.row.merged)

  there : slice_get new.now.edges e ≡ Some (Active h.after)
  there = ap (λ (g : RunState). slice_get g.now.edges e) h.left ∙ get_same old.now.edges e (Active h.after) (slice_get_within old.now.edges e (Active h.before) h.now)

  pub to_more : (all : List (List ℕ)) (n : ℕ) → HasSweptTo p old.now e all n → HasSweptTo p new.now e all (n + length stamps)
  to_more all n to =
      let both : Some (Active to.0) ≡ Some (Active h.before) = sym to.1 ∙ h.now in
      let same : to.0 ≡ h.before = cc in
      let top : slice_get h.before.stack 0 ≡ Some (Paths n all) = subst (λ (l : Local). slice_get l.stack 0 ≡ Some (Paths n all)) same to.3 in (
        h.after,
        there,
        record {
          asked = ap (λ (l : Local). l.asked) after_is;
          at = h.awaits.at ∙ ap (λ (l : Local). slice_get (code p e) l.place) (sym after_is);
          left = left_row paths stamps h.before.stack h.after.stack h.awaits.left h.row.merged;
        },
        top_row paths stamps n all h.before.stack h.after.stack top h.row.merged,
      )

  phase_same : phase_of p e (Active h.after) ≡ phase_of p e (Active h.before)
  phase_same =
      ap (λ (l : Local). phase_of p e (Active l)) after_is
      ∙ ap (λ (b : Bool). phase_active b (at_take p e h.before) h.before.holding) (sym h.awaits.asked)

  phases_same : phases_from p 0 new.now.edges ≡ phases_from p 0 old.now.edges
  phases_same =
      let here : slice_get (phases_from p 0 old.now.edges) e ≡ Some (phase_of p e (Active h.before)) =
      phase_found p e old.now.edges ∙ ap (option_map (phase_of p e)) h.now in
      ap (λ (g : RunState). phases_from p 0 g.now.edges) h.left ∙ phases_set p e old.now.edges (Active h.after)
      ∙ ap (slice_set (phases_from p 0 old.now.edges) e) phase_same ∙ set_here (phases_from p 0 old.now.edges) e (phase_of p e (Active h.before)) here

  -- the schedule agrees without a change
  kept_row : (plan : Plan) (schedule : Schedule) → AreKept p old.now plan schedule → AreKept p new.now plan schedule
  kept_row plan schedule kept =
      record {
        plan_is = kept.plan_is;
        long = ap (λ (g : RunState). length g.now.edges) h.left ∙ set_length old.now.edges e (Active h.after) ∙ kept.long;
        phases = kept.phases ∙ sym phases_same;
        fit = kept.fit;
      }

  pub changed_row : Changed old.now new.now e
  changed_row = record { before = Active h.before; after = Active h.after; now = h.now; was_open = refl; still_wanted = refl; left = ap (λ (g : RunState). g.now.edges) h.left }

pub state_row : (p : Parts) (old new : Running) (e : ℕ) (paths : List (List ℕ)) (stamps : List ℕ) → SweepsRow p old.run_state e paths stamps new.run_state → IsStateOf p old → new.plan ≡ old.plan → new.schedule ≡ old.schedule
    → new.total ≡ old.total → IsStateOf p new
state_row p old new e paths stamps h is plan schedule total =
    changed_state p old new is (row_events e stamps) (row_marks e stamps) (row_runs p e paths stamps old.run_state new.run_state (row_so p old.run_state new.run_state e paths stamps h)) e
    (changed_row p old.run_state new.run_state e paths stamps h) total
    (subst (λ (x : Plan). AreKept p new.run_state.now x new.schedule) (sym plan)
    (subst (λ (x : Schedule). AreKept p new.run_state.now old.plan x) (sym schedule) (kept_row p old.run_state new.run_state e paths stamps h old.plan old.schedule is.kept)))

-- ---- the facts for callers

pub next_so : (p : Parts) (old new : RunState) (e from n : ℕ) (paths : List (List ℕ)) (stamps : List ℕ) → n ≤ length stamps → SweepsRow p old e (drop from paths) (take n stamps) new → HasSweptTo p old.now e paths from
    → HasSweptTo p new.now e paths (from + n)
next_so p old new e from n paths stamps few h to =
    subst (λ (k : ℕ). HasSweptTo p new.now e paths (from + k)) (length-take-le n stamps few) (to_more p old new e (drop from paths) (take n stamps) h paths from to)

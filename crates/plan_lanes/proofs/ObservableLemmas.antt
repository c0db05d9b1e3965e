-- Observable marks, and their lines.
use Rattle.std.proofs.Common.{◌≡◌, ◌+◌, ℕ, zero, suc, Bool, true, false, List, [], ◌∷◌, ◌++◌, refl, sym, ap, ◌∙◌, arith}
use Rattle.std.specs.Prelude.{if◌then◌else◌}
use Rattle.std.proofs.lemmas.List.{append-nil}
use Rattle.plan_image.specs.declared.image.Parts.{Parts}
use Rattle.plan_machine.specs.declared.event.Mark.{Mark}
use Rattle.plan_machine.specs.declared.event.Mark.TheVariants.{Started, Skipped, Stopped, Took, Released, Asked, Moved, Answered, Ended, Failed}
use Rattle.plan_machine.specs.declared.run.local_runs.LocalRun.{LocalRun}
use Rattle.plan_machine.specs.LocalRuns.{marks_by, moves_of, local_run_marks}
use Rattle.plan_machine.specs.Sweeping.{row_marks}
use Rattle.plan_status.specs.Lines.{ends, line_of, lines_behind, tells_end}
use Rattle.plan_lanes.specs.ObservableMarks.{TellAllLines, observable, is_observable}

pub observable_append : (xs ys : List Mark) → observable (xs ++ ys) ≡ observable xs ++ observable ys
observable_append [] ys = refl
observable_append (x ∷ xs) ys = by (is_observable x) (observable_append xs ys)
  where
    by : (b : Bool) → observable (xs ++ ys) ≡ observable xs ++ observable ys → (if b then x ∷ observable (xs ++ ys) else observable (xs ++ ys)) ≡ (if b then x ∷ observable xs else observable xs) ++ observable ys
    by true rest = ap (λ (l : List Mark). x ∷ l) rest
    by false rest = rest

-- ---- a local run has no observable mark

moves_silent : (e n : ℕ) → observable (moves_of e n) ≡ []
moves_silent e zero = refl
moves_silent e (suc n) = observable_append (moves_of e n) (Moved e ∷ []) ∙ ap (λ (l : List Mark). l ++ []) (moves_silent e n)

pub local_run_silent : (e : ℕ) (r : LocalRun) → observable (local_run_marks e r) ≡ []
local_run_silent e r = by r.asked
  where
    by : (a : Bool) → observable (marks_by e r.steps a) ≡ []
    by true = observable_append (moves_of e r.steps) (Asked e ∷ []) ∙ ap (λ (l : List Mark). l ++ []) (moves_silent e r.steps)
    by false = moves_silent e r.steps

pub local_run_leaves : (marks : List Mark) (e : ℕ) (r : LocalRun) → marks ≡ marks ++ observable (local_run_marks e r)
local_run_leaves marks e r = sym (append-nil marks) ∙ ap (λ (l : List Mark). marks ++ l) (sym (local_run_silent e r))

-- nor does a row of a sweep
row_silent : (e : ℕ) (stamps : List ℕ) → observable (row_marks e stamps) ≡ []
row_silent e [] = refl
row_silent e (stamp ∷ stamps) = row_silent e stamps

pub row_leaves : (marks : List Mark) (e : ℕ) (stamps : List ℕ) → marks ≡ marks ++ observable (row_marks e stamps)
row_leaves marks e stamps = sym (append-nil marks) ∙ ap (λ (l : List Mark). marks ++ l) (sym (row_silent e stamps))

-- the mark of a reply, and after it a local run
pub reply_alone : (told : Mark) (e : ℕ) (r : LocalRun) → observable (told ∷ []) ≡ observable (told ∷ local_run_marks e r)
reply_alone told e r = by (is_observable told)
  where
    by : (b : Bool) → (if b then told ∷ [] else []) ≡ (if b then told ∷ observable (local_run_marks e r) else observable (local_run_marks e r))
    by true = ap (λ (l : List Mark). told ∷ l) (sym (local_run_silent e r))
    by false = sym (local_run_silent e r)

-- ---- lines

-- a mark that isn't observable has no line, and doesn't say how an edge ended
record IsSilent (p : Parts) (mark : Mark) : Type 0 where
  pub ends : tells_end p mark ≡ false
  pub line : (total n : ℕ) → line_of p total n mark ≡ []

silent : (p : Parts) (mark : Mark) → is_observable mark ≡ false → IsSilent p mark
silent p (Started e) h = record { ends = refl; line = λ total n. refl }
silent p (Asked e) h = record { ends = refl; line = λ total n. refl }
silent p (Moved e) h = record { ends = refl; line = λ total n. refl }
silent p (Answered e) h = record { ends = refl; line = λ total n. refl }
silent p (Skipped e w) h = absurd cc
silent p (Stopped e) h = absurd cc
silent p (Took e) h = absurd cc
silent p (Released e) h = absurd cc
silent p (Ended e ran) h = absurd cc
silent p (Failed e cause) h = absurd cc

ends_on : (p : Parts) (xs : List Mark) (x : Mark) → ends p (xs ++ x ∷ []) ≡ (if tells_end p x then 1 else 0) + ends p xs
ends_on p [] x = refl
ends_on p (y ∷ ys) x = ap (λ (n : ℕ). (if tells_end p y then 1 else 0) + n) (ends_on p ys x) ∙ omega arith

-- after marks with the same number of ends of edges
behind : (p : Parts) (total : ℕ) (marks before others : List Mark) → ends p others ≡ ends p before → lines_behind p total others (observable marks) ≡ lines_behind p total before marks
behind p total [] before others same = refl
behind p total (x ∷ xs) before others same = by (λ one other h. behind p total xs one other h) (is_observable x) refl
  where
    counted : ends p (others ++ x ∷ []) ≡ ends p (before ++ x ∷ [])
    counted = ends_on p others x ∙ ap (λ (n : ℕ). (if tells_end p x then 1 else 0) + n) same ∙ sym (ends_on p before x)

    by : ((one other : List Mark) → ends p other ≡ ends p one → lines_behind p total other (observable xs) ≡ lines_behind p total one xs)
        → (b : Bool) → is_observable x ≡ b → lines_behind p total others (if b then x ∷ observable xs else observable xs) ≡ lines_behind p total before (x ∷ xs)
    by rest true is =
        ap (λ (n : ℕ). line_of p total n x ++ lines_behind p total (others ++ x ∷ []) (observable xs)) counted
        ∙ ap (λ (l : List ℕ). line_of p total (ends p (before ++ x ∷ [])) x ++ l) (rest (before ++ x ∷ []) (others ++ x ∷ []) counted)
    by rest false is =
        let s : IsSilent p x = silent p x is in
        let stays : ends p (before ++ x ∷ []) ≡ 0 + ends p before = ends_on p before x ∙ ap (λ (b : Bool). (if b then 1 else 0) + ends p before) s.ends in
        let more : ends p others ≡ ends p (before ++ x ∷ []) = omega (arith, same, stays) in
        rest (before ++ x ∷ []) others more
        ∙ sym (ap (λ (l : List ℕ). l ++ lines_behind p total (before ++ x ∷ []) xs) (s.line total (ends p (before ++ x ∷ []))))

pub tell_all_lines : TellAllLines
tell_all_lines p total marks = behind p total marks [] [] refl

-- The text of one more mark. Serves src/build_lines.rt.
use Rattle.std.proofs.Common.{◌≡◌, ℕ, Bool, false, List, [], ◌∷◌, ◌++◌, Option, refl, sym, ap, ◌∙◌, append_assoc}
use Rattle.std.proofs.lemmas.List.{append-nil, map-append}
use Rattle.plan_image.specs.declared.image.Parts.{Parts}
use Rattle.plan_machine.specs.declared.event.Mark.{Mark}
use Rattle.plan_status.specs.Outcomes.{or_empty}
use Rattle.plan_progress.specs.declared.counts.Counts.{Counts}
use Rattle.plan_progress.specs.declared.pace.Pace.{Pace}
use Rattle.plan_progress.specs.Counting.{counted, counted_all, no_counts}
use Rattle.plan_progress.specs.Pace.{recent_rate, times_then}
use Rattle.plan_progress.specs.Running.{running_all, running_then}
use Rattle.plan_progress.specs.BuildLines.{ArePaced, AreTaken, Entry, IsTaken, IsTimed, Look, TellsBuild, entry_open, entry_text, marks_of, open_after, open_of, open_with, text_after, text_of, text_with, times_all, times_with}

-- the counts after one more mark
count_step : (p : Parts) (c : Counts) (marks : List Mark) (mark : Mark) → counted_all p c (marks ++ mark ∷ []) ≡ counted p (counted_all p c marks) mark
count_step p c [] mark = refl
count_step p c (m ∷ marks) mark = count_step p (counted p c m) marks mark

-- the commands that run after one more mark
running_step : (running : List ℕ) (marks : List Mark) (mark : Mark) → running_all running (marks ++ mark ∷ []) ≡ running_then (running_all running marks) mark
running_step running [] mark = refl
running_step running (m ∷ marks) mark = running_step (running_then running m) marks mark

-- the text of one more entry
text_step : (d : Look) (p : Parts) (total : ℕ) (before : Bool) (c : Counts) (running : List ℕ) (entries : List Entry) (x : Entry)
    → text_after d p total before c running (entries ++ x ∷ [])
    ≡ text_after d p total before c running entries
    ++ entry_text d p total (open_after d p total before c running entries) (counted_all p c (marks_of entries)) (running_all running (marks_of entries)) x
text_step d p total before c running [] x = append-nil (entry_text d p total before c running x)
text_step d p total before c running (entry ∷ entries) x =
    let k : Counts = counted p c entry.mark in
    let r : List ℕ = running_then running entry.mark in
    let front : List ℕ = entry_text d p total before c running entry in
    let next : Bool = entry_open d p total before c running entry in
    let last : List ℕ = entry_text d p total (open_after d p total next k r entries) (counted_all p k (marks_of entries)) (running_all r (marks_of entries)) x in
    let on : text_after d p total next k r (entries ++ x ∷ []) ≡ text_after d p total next k r entries ++ last = text_step d p total next k r entries x in
    ap (λ (rest : List ℕ). front ++ rest) on ∙ sym (append_assoc front (text_after d p total next k r entries) last)

-- whether a line is open after one more entry
open_step : (d : Look) (p : Parts) (total : ℕ) (before : Bool) (c : Counts) (running : List ℕ) (entries : List Entry) (x : Entry)
    → open_after d p total before c running (entries ++ x ∷ [])
    ≡ entry_open d p total (open_after d p total before c running entries) (counted_all p c (marks_of entries)) (running_all running (marks_of entries)) x
open_step d p total before c running [] x = refl
open_step d p total before c running (entry ∷ entries) x =
    open_step d p total (entry_open d p total before c running entry) (counted p c entry.mark) (running_then running entry.mark) entries x

-- one more output is taken
taken_step : (taken : List ℕ → Option (List ℕ) → Type 0) (showed : ℕ → Type 0) (p : Parts) (entries : List Entry) (x : Entry)
    → AreTaken taken showed p entries → IsTaken taken p x.mark x.output → IsTimed showed x.mark x.pace.elapsed → AreTaken taken showed p (entries ++ x ∷ [])
taken_step taken showed p [] x given one time = (one, time, tt)
taken_step taken showed p (entry ∷ entries) x given one time = (given.0, given.1, taken_step taken showed p entries x given.2 one time)

-- the times of the last commands that finished, after one more entry
times_step : (p : Parts) (times : List ℕ) (entries : List Entry) (x : Entry) → times_all p times (entries ++ x ∷ []) ≡ times_with p (times_all p times entries) x
times_step p times [] x = refl
times_step p times (entry ∷ entries) x = times_step p (times_with p times entry) entries x

-- one more entry has the rate of the last commands
paced_step : (p : Parts) (times : List ℕ) (entries : List Entry) (x : Entry)
    → ArePaced p times entries → x.pace.rate ≡ recent_rate (times_with p (times_all p times entries) x) → ArePaced p times (entries ++ x ∷ [])
paced_step p times [] x paced one = (one, tt)
paced_step p times (entry ∷ entries) x paced one = (paced.0, paced_step p (times_with p times entry) entries x paced.1 one)

-- what is told after one more mark
pub tells_next : (taken : List ℕ → Option (List ℕ) → Type 0) (showed : ℕ → Type 0) (look : Look) (p : Parts) (total : ℕ) (c : Counts) (was_open : Bool) (running : List ℕ) (times : List ℕ) (before : List Mark) (text : List ℕ)
    (mark : Mark) (output : Option (List ℕ)) (pace : Pace) (d : Counts) (now_open : Bool) (now_running : List ℕ) (now_times : List ℕ) (line : List ℕ)
    → d ≡ counted p c mark → now_running ≡ running_then running mark → now_times ≡ times_then p times mark pace.elapsed → pace.rate ≡ recent_rate now_times
    → line ≡ text_with look p total pace was_open d now_running mark (or_empty output) → now_open ≡ open_with look p total pace was_open d now_running mark (or_empty output)
    → IsTaken taken p mark output → IsTimed showed mark pace.elapsed → TellsBuild taken showed look c was_open running times p total before text
    → TellsBuild taken showed look d now_open now_running now_times p total (before ++ mark ∷ []) (text ++ line)
tells_next taken showed look p total c was_open running times before text mark output pace d now_open now_running now_times line count run pass rate said left one time told =
    let x : Entry = record { mark = mark; output = output; pace = pace } in
    let so_far : List ℕ = text_of look p total told.entries in
    let o : Bool = open_of look p total told.entries in
    let k : Counts = counted_all p no_counts (marks_of told.entries) in
    let r : List ℕ = running_all [] (marks_of told.entries) in
    let counts : k ≡ c = ap (counted_all p no_counts) told.all ∙ sym told.counted in
    let runs : r ≡ running = ap (running_all []) told.all ∙ sym told.runs in
    let passed : now_times ≡ times_with p (times_all p [] told.entries) x = pass ∙ ap (λ (ts : List ℕ). times_then p ts mark pace.elapsed) told.timed in
    let there : counted p k mark ≡ d = ap (λ (n : Counts). counted p n mark) counts ∙ sym count in
    let then : running_then r mark ≡ now_running = ap (λ (rs : List ℕ). running_then rs mark) runs ∙ sym run in
    let last : entry_text look p total o k r x ≡ line
    = ap (λ (n : Counts). text_with look p total pace o n (running_then r mark) mark (or_empty output)) there
    ∙ (ap (λ (rs : List ℕ). text_with look p total pace o d rs mark (or_empty output)) then
    ∙ (ap (λ (b : Bool). text_with look p total pace b d now_running mark (or_empty output)) (sym told.opened) ∙ sym said)) in
    let open_then : entry_open look p total o k r x ≡ now_open
    = ap (λ (n : Counts). open_with look p total pace o n (running_then r mark) mark (or_empty output)) there
    ∙ (ap (λ (rs : List ℕ). open_with look p total pace o d rs mark (or_empty output)) then
    ∙ (ap (λ (b : Bool). open_with look p total pace b d now_running mark (or_empty output)) (sym told.opened) ∙ sym left)) in
    let front : so_far ++ entry_text look p total o k r x ≡ text ++ entry_text look p total o k r x
    = ap (λ (ys : List ℕ). ys ++ entry_text look p total o k r x) (sym told.shown) in
    let back : text ++ entry_text look p total o k r x ≡ text ++ line = ap (λ (ys : List ℕ). text ++ ys) last in
    record {
      entries = told.entries ++ x ∷ [];
      all = map-append (λ (entry : Entry). entry.mark) told.entries (x ∷ []) ∙ ap (λ (ms : List Mark). ms ++ mark ∷ []) told.all;
      given = taken_step taken showed p told.entries x told.given one time;
      paced = paced_step p [] told.entries x told.paced (rate ∙ ap recent_rate passed);
      counted = count ∙ (ap (λ (n : Counts). counted p n mark) told.counted ∙ sym (count_step p no_counts before mark));
      runs = run ∙ (ap (λ (rs : List ℕ). running_then rs mark) told.runs ∙ sym (running_step [] before mark));
      timed = passed ∙ sym (times_step p [] told.entries x);
      opened = sym (open_step look p total false no_counts [] told.entries x ∙ open_then);
      shown = sym (text_step look p total false no_counts [] told.entries x ∙ (front ∙ back));
    }

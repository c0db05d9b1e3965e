-- What is printed by a format. Serves src/format.rt and src/tap.rt.
use Rattle.std.proofs.Common.{◌≡◌, ℕ, zero, ◌+◌, List, [], ◌∷◌, ◌++◌, Option, Some, None, true, false, length, take, drop, refl, sym, ap, subst, ◌∙◌, arith, if◌then◌else◌}
use Rattle.std.proofs.lemmas.List.{append-nil, length-append, take_all, take-append-le}
use Rattle.std.proofs.KnownBytes.{Appends-nil}
use Rattle.std.specs.Prelude.{is_some}
use Rattle.plan_image.specs.declared.image.Parts.{Parts}
use Rattle.plan_machine.specs.declared.event.Mark.{Mark}
use Rattle.plan_status.specs.declared.fault.PrintFault.{PrintFault}
use Rattle.plan_status.specs.declared.fault.PrintFault.TheVariants.{Memory}
use Rattle.plan_status.specs.Lines.{ends, line_of, lines_behind, lines_of, tells_end}
use Rattle.plan_status.specs.Formats.{HasPrinted, TellsLines}
use Rattle.plan_status.specs.Printing.{Prints, PrintsJoin, StopStays}
use Rattle.plan_status.proofs.LinesLemmas.{ends_on, join, lines_split}

-- ---- status lines

pub lines_printed : StopStays → (ended : ℕ) (p : Parts) (total : ℕ) (marks : List Mark) (stop : Option PrintFault) (old new : ℕ × Option (List ℕ))
    → HasPrinted (TellsLines ended p total) marks stop old new → Prints (lines_of p total marks) stop old new
lines_printed stays ended p total marks None old new h =
    let all : take h.count marks ≡ marks = let n = h.all refl in take_all h.count marks (omega (arith, n)) in
    subst (λ (t : List ℕ). Prints t None old new) (h.told.1 ∙ ap (lines_of p total) all) h.printed
lines_printed stays ended p total marks (Some fault) old new h =
    let rest : List ℕ = lines_behind p total (take h.count marks) (drop h.count marks) in
    let first : Prints (lines_of p total (take h.count marks)) (Some fault) old new = subst (λ (t : List ℕ). Prints t (Some fault) old new) h.told.1 h.printed in
    subst (λ (t : List ℕ). Prints t (Some fault) old new) (lines_split p total h.count marks) (stays old new (lines_of p total (take h.count marks)) rest fault first)

-- the lines of one mark more
pub told_more : (p : Parts) (total ended n : ℕ) (marks : List Mark) (text : List ℕ) (mark : Mark) → n ≡ (if tells_end p mark then 1 else 0) + ended
    → TellsLines ended p total marks text → TellsLines n p total (marks ++ mark ∷ []) (text ++ line_of p total n mark)
told_more p total ended n marks text mark is told =
    let count : n ≡ ends p (marks ++ mark ∷ []) = is ∙ (ap (λ (k : ℕ). (if tells_end p mark then 1 else 0) + k) told.0 ∙ sym (ends_on p marks mark)) in
    let behind : lines_behind p total marks (mark ∷ []) ≡ line_of p total n mark
    = append-nil (line_of p total (ends p (marks ++ mark ∷ [])) mark) ∙ ap (λ (k : ℕ). line_of p total k mark) (sym count) in
    let whole : lines_of p total (marks ++ mark ∷ []) ≡ lines_of p total marks ++ line_of p total n mark
    = join p total [] marks (mark ∷ []) ∙ ap (λ (t : List ℕ). lines_of p total marks ++ t) behind in
    (count, ap (λ (t : List ℕ). t ++ line_of p total n mark) told.1 ∙ sym whole)

-- ---- one mark more

module _ (tells later : List Mark → List ℕ → Type 0) where
  -- nothing more is printed after a stop
  pub stop_stays : (marks : List Mark) (mark : Mark) (stop : Option PrintFault) (a b : ℕ × Option (List ℕ)) → is_some stop ≡ true
      → HasPrinted tells marks stop a b → HasPrinted tells (marks ++ mark ∷ []) stop a b
  stop_stays marks mark None a b is h = absurd cc
  stop_stays marks mark (Some fault) a b is h = record {
    count = h.count;
    within = let few = h.within in let long = length-append marks (mark ∷ []) in omega (arith, few, long);
    all = λ none. absurd cc;
    text = h.text;
    told = subst (λ (ms : List Mark). tells ms h.text) (sym (take-append-le h.count marks (mark ∷ []) h.within)) h.told;
    printed = h.printed;
  }

  all_told : (marks : List Mark) (a b : ℕ × Option (List ℕ)) → (h : HasPrinted tells marks None a b) → tells marks h.text
  all_told marks a b h = subst (λ (ms : List Mark). tells ms h.text) (let n = h.all refl in take_all h.count marks (omega (arith, n))) h.told

  -- the text of one mark more was written, or a write of it failed
  pub one_printed : PrintsJoin → (marks : List Mark) (mark : Mark) (line : List ℕ) (stop after : Option PrintFault) (a b c : ℕ × Option (List ℕ)) → is_some stop ≡ false
      → ((before : List Mark) (text : List ℕ) → tells before text → later (before ++ mark ∷ []) (text ++ line))
      → Prints line after b c → HasPrinted tells marks stop a b → HasPrinted later (marks ++ mark ∷ []) after a c
  one_printed joins marks mark line (Some fault) after a b c none next line_printed h = absurd cc
  one_printed joins marks mark line None after a b c none next line_printed h = record {
    count = length (marks ++ mark ∷ []);
    within = omega arith;
    all = λ is. refl;
    text = h.text ++ line;
    told = subst (λ (ms : List Mark). later ms (h.text ++ line)) (sym (take_all (length (marks ++ mark ∷ [])) (marks ++ mark ∷ []) (omega arith))) (next marks h.text (all_told marks a b h));
    printed = joins a b c h.text line after h.printed line_printed;
  }

-- memory ran out for the text of one mark more
pub none_printed : (tells later : List Mark → List ℕ → Type 0) → (marks : List Mark) (mark : Mark) (stop : Option PrintFault) (a b : ℕ × Option (List ℕ)) → is_some stop ≡ false
    → ((before : List Mark) (text : List ℕ) → tells before text → later before text)
    → PrintsJoin → HasPrinted tells marks stop a b → HasPrinted later (marks ++ mark ∷ []) (Some Memory) a b
none_printed tells later marks mark (Some fault) a b none same joins h = absurd cc
none_printed tells later marks mark None a b none same joins h = record {
  count = h.count;
  within = let few = h.within in let long = length-append marks (mark ∷ []) in omega (arith, few, long);
  all = λ is. absurd cc;
  text = h.text;
  told = subst (λ (ms : List Mark). later ms h.text) (sym (take-append-le h.count marks (mark ∷ []) h.within)) (same (take h.count marks) h.text h.told);
  printed = subst (λ (t : List ℕ). Prints t (Some Memory) a b) (append-nil h.text) (joins a b b h.text [] (Some Memory) h.printed (refl, (zero, omega arith, Appends-nil b.1)));
}

-- nothing is printed yet
pub nothing_printed : (tells : List Mark → List ℕ → Type 0) (a : ℕ × Option (List ℕ)) → tells [] [] → HasPrinted tells [] None a a
nothing_printed tells a begins = record { count = zero; within = omega arith; all = λ is. refl; text = []; told = begins; printed = (refl, Appends-nil a.1) }

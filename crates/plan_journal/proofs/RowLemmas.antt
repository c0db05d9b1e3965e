-- The events of a row, one stamp after another. Serves src/column_builder.rt.
use Rattle.std.proofs.Common.{◌≡◌, ℕ, ◌+◌, ◌<◌, List, ◌++◌, drop, get_or, length, sym, ap, ◌∙◌, arith}
use Rattle.std.proofs.lemmas.List.{append_assoc, drop_more}
use Rattle.plan_machine.specs.declared.event.Event.{Event}
use Rattle.plan_machine.specs.Sweeping.{row_events, sweep_events}

pub row_more : (stamps : List ℕ) (i e : ℕ) (old new all : List Event) → i < length stamps → new ≡ old ++ sweep_events e (get_or stamps i 0) → old ++ row_events e (drop i stamps) ≡ all
    → new ++ row_events e (drop (i + 1) stamps) ≡ all
row_more stamps i e old new all lt is so =
    ap (λ (l : List Event). l ++ row_events e (drop (i + 1) stamps)) is
    ∙ append_assoc old (sweep_events e (get_or stamps i 0)) (row_events e (drop (i + 1) stamps))
    ∙ ap (λ (l : List ℕ). old ++ row_events e l) (sym (drop_more stamps i 0 lt)) ∙ so

pub length_more : (stamps : List ℕ) (i : ℕ) → i < length stamps → length (drop i stamps) ≡ length (drop (i + 1) stamps) + 1
length_more stamps i lt = omega (arith, ap length (drop_more stamps i 0 lt))

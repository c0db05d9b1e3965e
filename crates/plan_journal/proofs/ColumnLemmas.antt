-- Events in columns, one more or one less. Serves src/kept_journal.rt.
use Rattle.std.proofs.Common.{◌≡◌, ℕ, ◌+◌, ◌-◌, ◌≤◌, List, [], ◌∷◌, ◌++◌, drop, get_or, length, take, refl, sym, ap, ◌∙◌, arith}
use Rattle.std.proofs.lemmas.List.{length-append, length-take-le, take-append-drop}
use Rattle.std.proofs.Math.Seq.{take-append_seam}
use Rattle.plan_machine.specs.declared.event.Event.{Event}
use Rattle.plan_machine.specs.declared.event.Event.TheVariants.{Start}
use Rattle.plan_journal.specs.declared.sort.Sort.{Sort}
use Rattle.plan_journal.specs.declared.sort.Sort.TheVariants as sort
use Rattle.plan_journal.specs.Columns.{Fit, event_of, events, stamps_in, total, wholes_in}

pub length_events : (ss : List Sort) (es ts : List ℕ) (ws : List Event) → length ss ≡ length (events ss es ts ws)
length_events [] es ts ws = refl
length_events (s ∷ ss) es ts ws = omega (arith, length_events ss (drop 1 es) (drop (stamps_in s) ts) (drop (wholes_in s) ws))

total_append : (kept : Sort → ℕ) (ss us : List Sort) → total kept (ss ++ us) ≡ total kept ss + total kept us
total_append kept [] us = omega arith
total_append kept (s ∷ ss) us = omega (arith, total_append kept ss us)

pub one_more : {X : Type 0} (new mid old : List X) (x : X) → new ≡ mid ++ x ∷ [] → mid ≡ old → new ≡ old ++ x ∷ []
one_more new mid old x e f = e ∙ ap (λ l. l ++ x ∷ []) f

-- columns, one after the other
events_append : (ss us : List Sort) (es fs ts vs : List ℕ) (ws ps : List Event) → Fit ss es ts ws
    → events (ss ++ us) (es ++ fs) (ts ++ vs) (ws ++ ps) ≡ events ss es ts ws ++ events us fs vs ps
events_append [] us [] fs [] vs [] ps fit = refl
events_append [] us (e ∷ es) fs ts vs ws ps fit = absurd (omega (arith, fit.edge_each))
events_append [] us [] fs (t ∷ ts) vs ws ps fit = absurd (omega (arith, fit.stamp_each))
events_append [] us [] fs [] vs (w ∷ ws) ps fit = absurd (omega (arith, fit.whole_each))
events_append (s ∷ ss) us [] fs ts vs ws ps fit = absurd (omega (arith, fit.edge_each))
events_append (sort.Start ∷ ss) us (e ∷ es) fs ts vs ws ps fit =
    ap (λ (l : List Event). event_of sort.Start e 0 (Start 0) ∷ l)
    (events_append ss us es fs ts vs ws ps (record { edge_each = omega (arith, fit.edge_each); stamp_each = omega (arith, fit.stamp_each); whole_each = omega (arith, fit.whole_each) }))
events_append (sort.Stop ∷ ss) us (e ∷ es) fs ts vs ws ps fit =
    ap (λ (l : List Event). event_of sort.Stop e 0 (Start 0) ∷ l)
    (events_append ss us es fs ts vs ws ps (record { edge_each = omega (arith, fit.edge_each); stamp_each = omega (arith, fit.stamp_each); whole_each = omega (arith, fit.whole_each) }))
events_append (sort.Step ∷ ss) us (e ∷ es) fs ts vs ws ps fit =
    ap (λ (l : List Event). event_of sort.Step e 0 (Start 0) ∷ l)
    (events_append ss us es fs ts vs ws ps (record { edge_each = omega (arith, fit.edge_each); stamp_each = omega (arith, fit.stamp_each); whole_each = omega (arith, fit.whole_each) }))
events_append (sort.Stamp ∷ ss) us (e ∷ es) fs [] vs ws ps fit = absurd (omega (arith, fit.stamp_each))
events_append (sort.Stamp ∷ ss) us (e ∷ es) fs (t ∷ ts) vs ws ps fit =
    ap (λ (l : List Event). event_of sort.Stamp e t (Start 0) ∷ l)
    (events_append ss us es fs ts vs ws ps (record { edge_each = omega (arith, fit.edge_each); stamp_each = omega (arith, fit.stamp_each); whole_each = omega (arith, fit.whole_each) }))
events_append (sort.Whole ∷ ss) us (e ∷ es) fs ts vs [] ps fit = absurd (omega (arith, fit.whole_each))
events_append (sort.Whole ∷ ss) us (e ∷ es) fs ts vs (w ∷ ws) ps fit =
    ap (λ (l : List Event). w ∷ l)
    (events_append ss us es fs ts vs ws ps (record { edge_each = omega (arith, fit.edge_each); stamp_each = omega (arith, fit.stamp_each); whole_each = omega (arith, fit.whole_each) }))

-- ---- one event more

pub fit_more : (ss us : List Sort) (es fs ts vs : List ℕ) (ws ps : List Event) (s : Sort) (e : ℕ) (t : List ℕ) (w : List Event) → Fit ss es ts ws
    → us ≡ ss ++ s ∷ [] → fs ≡ es ++ e ∷ [] → vs ≡ ts ++ t → ps ≡ ws ++ w → length t ≡ stamps_in s → length w ≡ wholes_in s → Fit us fs vs ps
fit_more ss us es fs ts vs ws ps s e t w fit a b c d stamp whole =
    rw (a, b, c, d) (record {
      edge_each = length-append es (e ∷ []) ∙ (ap (λ n. n + 1) fit.edge_each ∙ sym (length-append ss (s ∷ [])));
      stamp_each = omega (arith, length-append ts t, total_append stamps_in ss (s ∷ []), fit.stamp_each, stamp);
      whole_each = omega (arith, length-append ws w, total_append wholes_in ss (s ∷ []), fit.whole_each, whole);
    })

pub events_more : (ss us : List Sort) (es fs ts vs : List ℕ) (ws ps : List Event) (s : Sort) (e : ℕ) (t : List ℕ) (w : List Event) (now : List Event) → Fit ss es ts ws
    → us ≡ ss ++ s ∷ [] → fs ≡ es ++ e ∷ [] → vs ≡ ts ++ t → ps ≡ ws ++ w → events ss es ts ws ≡ now
    → events us fs vs ps ≡ now ++ event_of s e (get_or t 0 0) (get_or w 0 (Start 0)) ∷ []
events_more ss us es fs ts vs ws ps s e t w now fit a b c d is =
    rw (a, b, c, d) (events_append ss (s ∷ []) es (e ∷ []) ts t ws w fit ∙ ap (λ (l : List Event). l ++ event_of s e (get_or t 0 0) (get_or w 0 (Start 0)) ∷ []) is)

-- ---- one event less

last_off : (all front : List Event) (last : Event) → all ≡ front ++ last ∷ [] → front ≡ take (length all - 1) all
last_off all front last is =
    let long : length front ≡ length all - 1 = omega (arith, ap length is, length-append front (last ∷ [])) in
    sym (ap (λ (n : ℕ). take n all) (sym long) ∙ (ap (λ (l : List Event). take (length front) l) is ∙ take-append_seam front (last ∷ [])))

pub room_stamps : (ss us : List Sort) (es ts : List ℕ) (ws : List Event) (s : Sort) → Fit us es ts ws → us ≡ ss ++ s ∷ [] → stamps_in s ≤ length ts
room_stamps ss us es ts ws s fit is = omega (arith, fit.stamp_each, ap (total stamps_in) is, total_append stamps_in ss (s ∷ []))

pub room_wholes : (ss us : List Sort) (es ts : List ℕ) (ws : List Event) (s : Sort) → Fit us es ts ws → us ≡ ss ++ s ∷ [] → wholes_in s ≤ length ws
room_wholes ss us es ts ws s fit is = omega (arith, fit.whole_each, ap (total wholes_in) is, total_append wholes_in ss (s ∷ []))

pub fit_less : (ss us : List Sort) (es ts : List ℕ) (ws : List Event) (s : Sort) → Fit us es ts ws → us ≡ ss ++ s ∷ []
    → Fit ss (take (length ss) es) (take (length ts - stamps_in s) ts) (take (length ws - wholes_in s) ws)
fit_less ss us es ts ws s fit is =
    let sorts : length us ≡ length ss + 1 = ap length is ∙ length-append ss (s ∷ []) in
    record {
      edge_each = length-take-le (length ss) es (omega (arith, fit.edge_each, sorts));
      stamp_each =
          length-take-le (length ts - stamps_in s) ts (omega arith)
          ∙ omega (arith, fit.stamp_each, ap (total stamps_in) is, total_append stamps_in ss (s ∷ []));
      whole_each =
          length-take-le (length ws - wholes_in s) ws (omega arith)
          ∙ omega (arith, fit.whole_each, ap (total wholes_in) is, total_append wholes_in ss (s ∷ []));
    }

pub events_less : (ss us : List Sort) (es ts : List ℕ) (ws : List Event) (s : Sort) (now : List Event) → Fit us es ts ws → us ≡ ss ++ s ∷ [] → events us es ts ws ≡ now
    → events ss (take (length ss) es) (take (length ts - stamps_in s) ts) (take (length ws - wholes_in s) ws) ≡ take (length now - 1) now
events_less ss us es ts ws s now fit is same =
    let front : List ℕ = take (length ss) es in
    let behind : List ℕ = drop (length ss) es in
    let stamps : List ℕ = take (length ts - stamps_in s) ts in
    let stamp : List ℕ = drop (length ts - stamps_in s) ts in
    let wholes : List Event = take (length ws - wholes_in s) ws in
    let whole : List Event = drop (length ws - wholes_in s) ws in
    let cut : events (ss ++ s ∷ []) (front ++ behind) (stamps ++ stamp) (wholes ++ whole) ≡ events ss front stamps wholes ++ events (s ∷ []) behind stamp whole
    = events_append ss (s ∷ []) front behind stamps stamp wholes whole (fit_less ss us es ts ws s fit is) in
    let joined : events us es ts ws ≡ events (ss ++ s ∷ []) (front ++ behind) (stamps ++ stamp) (wholes ++ whole)
    = ap (λ (l : List Sort). events l es ts ws) is
    ∙ (ap (λ (l : List ℕ). events (ss ++ s ∷ []) l ts ws) (sym (take-append-drop (length ss) es))
    ∙ (ap (λ (l : List ℕ). events (ss ++ s ∷ []) (front ++ behind) l ws) (sym (take-append-drop (length ts - stamps_in s) ts))
    ∙ ap (λ (l : List Event). events (ss ++ s ∷ []) (front ++ behind) (stamps ++ stamp) l) (sym (take-append-drop (length ws - wholes_in s) ws)))) in
    last_off now (events ss front stamps wholes) (event_of s (get_or behind 0 0) (get_or stamp 0 0) (get_or whole 0 (Start 0))) (sym same ∙ (joined ∙ cut))

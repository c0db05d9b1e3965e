-- Options with as many jobs as a trace may have.
use Rattle.std.proofs.Common.{◌≡◌, ◌∙◌, ℕ, ◌<◌, ◌≤◌, Bool, ap, arith, sym}
use Rattle.std.proofs.lemmas.Bool.{and_right, le-leb, lt-leb}
use Rattle.std.specs.Prelude.{◌&&◌, None, Some, if◌then◌else◌, nat_le, nat_lt}
use Rattle.plan_trace.specs.Reading.{options_by}

-- a trace may have this many jobs, and so may a run
pub within : (jobs keep : ℕ) → jobs ≤ 64 → (if nat_lt 0 jobs && nat_le jobs 1024 then Some (record { jobs = jobs; keep = keep }) else None) ≡ options_by (Some jobs) (Some keep)
within jobs keep few =
    ap (λ (few : Bool). if nat_lt 0 jobs && few then Some (record { jobs = jobs; keep = keep }) else None)
    (le-leb jobs 1024 (omega (arith, few)) ∙ sym (le-leb jobs 64 few))

-- a trace can't have this many jobs
pub beyond : (jobs keep : ℕ) → 64 < jobs → None ≡ options_by (Some jobs) (Some keep)
beyond jobs keep many =
    sym (ap (λ (may : Bool). if may then Some (record { jobs = jobs; keep = keep }) else None) (and_right (nat_lt 0 jobs) (nat_le jobs 64) (lt-leb jobs 64 many)))

-- Stamps of a row. Serves src/stamp_row.rt and src/board/local_runs.rt.
use Rattle.std.proofs.Common.{◌≡◌, ◌<◌, ℕ, zero, suc, List, [], ◌∷◌, ◌++◌, Some, length, take, subst, arith}
use Rattle.std.specs.Prelude.{get_or, slice_get}
use Rattle.plan_verify.specs.Turn.{Stat}
use Rattle.plan_machine.specs.declared.event.reply.Reply.TheVariants.{Stamp}
use Rattle.plan_lanes.specs.Journals.{Rule}
use Rattle.plan_lanes.specs.StampRows.{HaveStamps}

abbrev Suits : Rule → List ℕ → ℕ → Type 0
Suits rule path stamp = (number : ℕ) → rule number (Stat path) (Stamp stamp)

-- one stamp more
pub have_more : (rule : Rule) (paths : List (List ℕ)) (stamps : List ℕ) (stamp : ℕ) → HaveStamps rule paths stamps → length stamps < length paths → Suits rule (get_or paths (length stamps) []) stamp
    → HaveStamps rule paths (stamps ++ stamp ∷ [])
have_more rule [] [] stamp have long suits = absurd (omega (arith, long))
have_more rule [] (x ∷ xs) stamp have long suits = absurd have
have_more rule (path ∷ paths) [] stamp have long suits = (suits, tt)
have_more rule (path ∷ paths) (x ∷ xs) stamp have long suits = (have.0, have_more rule paths xs stamp have.1 (omega (arith, long)) suits)

-- the first of them
pub have_take : (rule : Rule) (paths : List (List ℕ)) (stamps : List ℕ) (n : ℕ) → HaveStamps rule paths stamps → HaveStamps rule paths (take n stamps)
have_take rule paths stamps zero have = tt
have_take rule paths [] (suc n) have = tt
have_take rule [] (x ∷ xs) (suc n) have = absurd have
have_take rule (path ∷ paths) (x ∷ xs) (suc n) have = (have.0, have_take rule paths xs n have.1)

-- one of them
pub have_at : (rule : Rule) (paths : List (List ℕ)) (stamps : List ℕ) (n stamp : ℕ) → HaveStamps rule paths stamps → slice_get stamps n ≡ Some stamp → Suits rule (get_or paths n []) stamp
have_at rule paths [] n stamp have at = absurd cc
have_at rule [] (x ∷ xs) n stamp have at = absurd have
have_at rule (path ∷ paths) (x ∷ xs) zero stamp have at = let same : x ≡ stamp = cc in subst (Suits rule path) same have.0
have_at rule (path ∷ paths) (x ∷ xs) (suc n) stamp have at = have_at rule paths xs n stamp have.1 at

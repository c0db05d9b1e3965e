-- The definitions at work.
use Rattle.std.specs.Prelude.{◌≡◌, ℕ, [], ◌∷◌, refl}
use Rattle.plan_lanes.specs.Journals.{Rule}
use Rattle.plan_machine.specs.declared.event.reply.Reply.TheVariants.{Nothing, Stamp}
use Rattle.plan_stamps.specs.Stamps.{AllowsOnce}
use Rattle.plan_verify.specs.Turn.{Stat}

-- a world in which a file's stamp is the number of the question
abbrev clock : Rule
clock number question reply = reply ≡ Stamp number

-- A stamp that was allowed under the number 7 is allowed once.
stamp_of_an_earlier_question : AllowsOnce clock (Stat (97 ∷ [])) (Stamp 7)
stamp_of_an_earlier_question = (7, refl)

-- A reply that is allowed under no number isn't allowed.
nothing_is_no_stamp : AllowsOnce clock (Stat (97 ∷ [])) Nothing → ⊥
nothing_is_no_stamp h = let same : Nothing ≡ Stamp h.0 = h.1 in cc

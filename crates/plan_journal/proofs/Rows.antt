-- The definitions, computed on small columns.
use Rattle.std.proofs.Common.{◌≡◌, [], ◌∷◌, refl}
use Rattle.plan_machine.specs.declared.event.Event.TheVariants.{Start, Skip, Stop, Step, Reply as Hear}
use Rattle.plan_machine.specs.declared.event.reply.Reply.TheVariants as reply
use Rattle.plan_journal.specs.declared.sort.Sort.TheVariants as sort
use Rattle.plan_journal.specs.Columns.{events, stamps_in, total, wholes_in}

-- an event of each sort
each : events (sort.Start ∷ sort.Step ∷ sort.Stamp ∷ sort.Whole ∷ sort.Whole ∷ sort.Stop ∷ sort.Stamp ∷ []) (0 ∷ 0 ∷ 0 ∷ 1 ∷ 2 ∷ 3 ∷ 4 ∷ []) (7 ∷ 9 ∷ [])
    (Hear 1 (reply.Exit 3) ∷ Skip 2 1 ∷ [])
    ≡ Start 0 ∷ Step 0 ∷ Hear 0 (reply.Stamp 7) ∷ Hear 1 (reply.Exit 3) ∷ Skip 2 1 ∷ Stop 3 ∷ Hear 4 (reply.Stamp 9) ∷ []
each = refl

none : events [] [] [] [] ≡ []
none = refl

two_stamps : total stamps_in (sort.Stamp ∷ sort.Whole ∷ sort.Step ∷ sort.Stamp ∷ []) ≡ 2
two_stamps = refl

one_whole : total wholes_in (sort.Stamp ∷ sort.Whole ∷ sort.Step ∷ sort.Stamp ∷ []) ≡ 1
one_whole = refl

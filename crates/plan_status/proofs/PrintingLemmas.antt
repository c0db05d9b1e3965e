-- Texts printed one after another. Serves src/laws.rt and the calls that print.
use Rattle.std.proofs.Common.{◌≡◌, ℕ, ◌+◌, List, ◌++◌, true, false, length, take, Option, Some, None, sym, subst, ◌∙◌, arith}
use Rattle.std.proofs.lemmas.List.{length-append, take-append-le}
use Rattle.std.proofs.KnownBytes.{Appends-trans}
use Rattle.std.proofs.Math.Seq.{take-append-add}
use Rattle.std.specs.Io.KnownBytes.{Appends}
use Rattle.std.specs.Prelude.{false, is_some}
use Rattle.plan_text.specs.Sinks.{AppendsFront, Writes}
use Rattle.plan_text.specs.Laws.{FailedWriteStays, WritesJoin}
use Rattle.plan_status.specs.declared.fault.PrintFault.{PrintFault}
use Rattle.plan_status.specs.declared.fault.PrintFault.TheVariants.{Memory, Write}
use Rattle.plan_status.specs.Printing.{Prints, PrintsJoin, StopStays}

front_longer : (a b : Option (List ℕ)) (xs ys : List ℕ) → AppendsFront a b xs → AppendsFront a b (xs ++ ys)
front_longer a b xs ys h =
    let n = length-append xs ys in
    (h.0, omega (arith, h.1, n), subst (Appends a b) (sym (take-append-le h.0 xs ys h.1)) h.2)

front_behind : (a b c : Option (List ℕ)) (xs ys : List ℕ) → Appends a b xs → AppendsFront b c ys → AppendsFront a c (xs ++ ys)
front_behind a b c xs ys h k =
    let n = length-append xs ys in
    (length xs + k.0, omega (arith, k.1, n), subst (Appends a c) (sym (take-append-add xs ys k.0)) (Appends-trans a b c xs (take k.0 ys) h k.2))

pub join : WritesJoin → (a b c : ℕ × Option (List ℕ)) (xs ys : List ℕ) (stop : Option PrintFault) → Writes true a b xs → Prints ys stop b c → Prints (xs ++ ys) stop a c
join joins a b c xs ys None h k = joins true a b c xs ys h k
join joins a b c xs ys (Some Write) h k = joins false a b c xs ys h k
join joins a b c xs ys (Some Memory) h k = (k.0 ∙ h.0, front_behind a.1 b.1 c.1 xs ys h.1 k.1)

pub stopped : FailedWriteStays → (a b : ℕ × Option (List ℕ)) (xs ys : List ℕ) (fault : PrintFault) → Prints xs (Some fault) a b → Prints (xs ++ ys) (Some fault) a b
stopped stays a b xs ys Write h = stays a b xs ys h
stopped stays a b xs ys Memory h = (h.0, front_longer a.1 b.1 xs ys h.1)

-- nothing has stopped what was printed
pub not_stopped : (a b : ℕ × Option (List ℕ)) (xs : List ℕ) (stop : Option PrintFault) → is_some stop ≡ false → Prints xs stop a b → Writes true a b xs
not_stopped a b xs None none printed = printed
not_stopped a b xs (Some fault) none printed = absurd cc

-- one more text is printed, after the text that was taken and before the text that is left
pub stops : PrintsJoin → StopStays → (a b c : ℕ × Option (List ℕ)) (done text rest whole : List ℕ) (fault : PrintFault) → (done ++ text) ++ rest ≡ whole
    → Writes true a b done → Prints text (Some fault) b c → Prints whole (Some fault) a c
stops joins stays a b c done text rest whole fault all h k =
    subst (λ (ys : List ℕ). Prints ys (Some fault) a c) all (stays a c (done ++ text) rest fault (joins a b c done text (Some fault) h k))

-- A line of a text, by its role. Lemmas for src/parser.rt.
use Rattle.std.proofs.Common.{ℕ, ◌==◌, nat_lt, Bool, true, false, ◌+◌, if◌then◌else◌, List, length, Option, Some, None}
use Rattle.std.specs.List.{position_or_len}
use Rattle.std.proofs.lemmas.List.Sums.{prefix_len-le-length}
use Rattle.plan_text.specs.Bytes.{nul, hash, is_space, begins_with}
use Rattle.plan_text.specs.Lines.{Raw, indent_len}
use Rattle.plan_text.specs.declared.fault.TextFault.{TextFault}
use Rattle.plan_text.specs.declared.fault.TextFault.TheVariants.{NulByte}
use Rattle.plan_parse.specs.Reading.{Place, past}
use Rattle.plan_parse.specs.Blocks.{LineRole, Head, Below, Text, Refused, is_indented, role_of_comment, role_of_line}
use Rattle.plan_parse.specs.Compact.{StandsIn}
use Rattle.plan_parse.specs.Progress.{RoleStandsIn}
use Rattle.plan_parse.proofs.CompactLemmas.{past_stands}

comment : (text : List ℕ) (t : Bool) (e : TextFault) → RoleStandsIn text (if t then Some (Below (Refused e)) else None)
comment text true e = tt
comment text false e = tt

chosen : (text : List ℕ) (a b i : Bool) (p : Place) (other : Option LineRole) → StandsIn text p → RoleStandsIn text other
    → RoleStandsIn text (if a then None else if b then other else Some (if i then Below (Text p) else Head p))
chosen text true b i p other stands known = tt
chosen text false true i p other stands known = known
chosen text false false true p other stands known = stands
chosen text false false false p other stands known = stands

-- the text of the line, after its indentation, is in the text
pub role_stands : (text : List ℕ) (raw : Raw) → StandsIn text (record { at = raw.at; bytes = raw.bytes }) → RoleStandsIn text (role_of_line raw)
role_stands text raw stands =
    let indent = indent_len raw.bytes in
    let nul_at = position_or_len (λ b. b == nul) raw.bytes in
    let p : Place = past indent (record { at = raw.at; bytes = raw.bytes }) in
    chosen text (length raw.bytes == indent) (begins_with hash p.bytes) (is_indented raw.bytes) p (role_of_comment raw.at raw.bytes)
    (past_stands text indent (record { at = raw.at; bytes = raw.bytes }) (prefix_len-le-length is_space raw.bytes) stands)
    (comment text (nat_lt nul_at (length raw.bytes)) (NulByte (raw.at + nul_at)))

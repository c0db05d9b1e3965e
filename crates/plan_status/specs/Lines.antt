-- Status lines: the text that reports the marks of a run.
use Rattle.std.specs.Prelude.{ℕ, ◌+◌, Bool, true, false, ◌&&◌, List, [], ◌∷◌, ◌++◌, Option, Some, None, if◌then◌else◌, is_some, nat_lt, length, option_map, slice_get, codes}
use Rattle.std.specs.Fmt.{decimal}
use Rattle.plan_text.specs.Bytes.{line_feed}
use Rattle.plan_image.specs.declared.image.Edge.{Edge}
use Rattle.plan_image.specs.declared.image.Parts.{Parts}
use Rattle.plan_verify.specs.Tables.{first_output, path_of}
use Rattle.plan_verify.specs.declared.value.Cause.{Cause}
use Rattle.plan_verify.specs.declared.value.Cause.TheVariants.{MissingInput, StatFault, Exit, Signal, NotStarted, DepfileFault, DepfileMalformed, RecordFault}
use Rattle.plan_machine.specs.declared.event.Mark.{Mark}
use Rattle.plan_machine.specs.declared.event.Mark.TheVariants.{Ended, Failed, Skipped, Stopped}
use Rattle.plan_machine.specs.Total.{has_command}

abbrev pub missing_text : Parts → ℕ → Option (List ℕ)
missing_text p f = option_map (λ path. codes "missing input " ++ path) (path_of p f)

abbrev pub exit_text : ℕ → List ℕ
exit_text n = codes "exit " ++ decimal n

abbrev pub malformed_text : ℕ → ℕ → List ℕ
malformed_text n offset = codes "depfile malformed " ++ decimal n ++ codes " at " ++ decimal offset

abbrev pub plain_text : Cause → List ℕ
plain_text StatFault = codes "stat fault"
plain_text Signal = codes "signal"
plain_text NotStarted = codes "not started"
plain_text DepfileFault = codes "depfile fault"
plain_text RecordFault = codes "record fault"
plain_text _ = codes "text too long"

-- why an edge failed; None if a file of that number isn't in the image
abbrev pub cause_text : Parts → Cause → Option (List ℕ)
cause_text p (MissingInput f) = missing_text p f
cause_text p (Exit n) = Some (exit_text n)
cause_text p (DepfileMalformed n offset) = Some (malformed_text n offset)
cause_text p cause = Some (plain_text cause)

abbrev pub label_in : Parts → Option Edge → Option (List ℕ)
label_in p (Some edge) = slice_get p.texts edge.label
label_in p None = None

-- the label of an edge: its description or, if that is empty, its command
abbrev pub label_of : Parts → ℕ → Option (List ℕ)
label_of p e = label_in p (slice_get p.edges e)

-- ---- how many command edges ended

-- a mark says how a command edge ended, and all that it names is in the image
abbrev pub tells_end : Parts → Mark → Bool
tells_end p (Ended e ran) = has_command p e
tells_end p (Failed e cause) = has_command p e && is_some (cause_text p cause)
tells_end p (Skipped e w) = has_command p e && nat_lt w (length p.edges)
tells_end p (Stopped e) = has_command p e
tells_end p _ = false

-- how many of these marks say so
abbrev pub ends : Parts → List Mark → ℕ
ends p [] = 0
ends p (mark ∷ marks) = (if tells_end p mark then 1 else 0) + ends p marks

-- ---- lines

-- `[n/m] LABEL`
abbrev pub ran_line : ℕ → ℕ → Option (List ℕ) → List ℕ
ran_line n total (Some label) = codes "[" ++ decimal n ++ codes "/" ++ decimal total ++ codes "] " ++ label ++ line_feed ∷ []
ran_line n total None = []

-- `FAILED NAME: CAUSE`
abbrev pub failed_line : Option (List ℕ) → Option (List ℕ) → List ℕ
failed_line (Some name) (Some cause) = codes "FAILED " ++ name ++ codes ": " ++ cause ++ line_feed ∷ []
failed_line name cause = []

-- `SKIPPED NAME: needs NAME`
abbrev pub skipped_line : Option (List ℕ) → Option (List ℕ) → List ℕ
skipped_line (Some name) (Some wait) = codes "SKIPPED " ++ name ++ codes ": needs " ++ wait ++ line_feed ∷ []
skipped_line name wait = []

-- `STOPPED NAME`
abbrev pub stopped_line : Option (List ℕ) → List ℕ
stopped_line (Some name) = codes "STOPPED " ++ name ++ line_feed ∷ []
stopped_line None = []

-- The line of a mark. `n` is the number of command edges that have ended, with this one. An edge's name is its first
-- output. Other marks have no line, nor does a mark that names an edge or a file outside the image.
abbrev pub line_of : Parts → ℕ → ℕ → Mark → List ℕ
line_of p total n (Ended e true) = ran_line n total (label_of p e)
line_of p total n (Failed e cause) = failed_line (first_output p e) (cause_text p cause)
line_of p total n (Skipped e w) = if has_command p e then skipped_line (first_output p e) (first_output p w) else []
line_of p total n (Stopped e) = if has_command p e then stopped_line (first_output p e) else []
line_of p total n _ = []

-- the lines of marks that come after others
abbrev pub lines_behind : Parts → ℕ → List Mark → List Mark → List ℕ
lines_behind p total before [] = []
lines_behind p total before (mark ∷ marks) = line_of p total (ends p (before ++ mark ∷ [])) mark ++ lines_behind p total (before ++ mark ∷ []) marks

-- the lines of the marks of a run
abbrev pub lines_of : Parts → ℕ → List Mark → List ℕ
lines_of p total marks = lines_behind p total [] marks

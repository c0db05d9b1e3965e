-- Lines of ninja's own log.
use Rattle.std.specs.Prelude.{ℕ, List, ◌++◌, flat_map}

-- the line of an output: the text before it, its path, and the text after it
abbrev pub log_line : (before after output : List ℕ) → List ℕ
log_line before after output = before ++ output ++ after

-- a line for each output
abbrev pub log_lines : (before after : List ℕ) (outputs : List (List ℕ)) → List ℕ
log_lines before after outputs = flat_map (log_line before after) outputs

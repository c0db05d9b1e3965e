-- What the reasons need to know of an edge.
use Rattle.std.specs.Prelude.{ℕ, suc, List, [], ◌∷◌, length, map}
use Rattle.plan_compile.specs.Rule.{Given, SourceFile, Made, Command, asked}
use Rattle.plan_reasons.specs.declared.facts.NamedInput.{NamedInput}
use Rattle.plan_reasons.specs.declared.facts.NamedInput.TheVariants as input
use Rattle.plan_reasons.specs.declared.facts.Facts.{Facts}

-- a named input: a source file, or an output of an edge with that edge's stamp and changed flag
abbrev pub named_input : Given → NamedInput
named_input (SourceFile f path) = input.SourceFile
named_input (Made stamp changed) = input.Made stamp changed

-- the facts of an edge: its named inputs, how many files it asks for, its command and its bindings
abbrev pub facts_of : Command → Facts
facts_of c = record {
  named = map named_input c.named;
  order_only = length (asked c.named c.order_only);
  outputs = length c.outputs;
  command = c.command;
  generator = c.generator;
  baseline = c.baseline;
}

-- how many of these inputs are source files
abbrev pub source_count : List NamedInput → ℕ
source_count [] = 0
source_count (input.SourceFile ∷ others) = suc (source_count others)
source_count (input.Made stamp changed ∷ others) = source_count others

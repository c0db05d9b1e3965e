-- The world by hand: the definitions compute what docs/rules/world.md says.
use Rattle.std.proofs.Common.{◌≡◌, List, ℕ, [], ◌∷◌, ◌++◌, Option, Some, None, refl, pos, negsuc, true, false, length}
use Rattle.std.specs.List.{list_all}
use Rattle.std.proofs.Math.ListN.{replicate}
use Rattle.plan_text.specs.Path.{components_of}
use Rattle.plan_record.specs.Entries.{EntryData, spelling}
use Rattle.plan_verify.specs.Seam.{suits}
use Rattle.plan_verify.specs.Turn.{Stat, Run, Keep}
use Rattle.plan_machine.specs.Step.{answer_of}
use Rattle.plan_machine.specs.declared.event.reply.Reply.TheVariants.{Bytes, Stamp, Exit, Signal, Kept, Nothing}
use Rattle.plan_world.specs.Answers.{IsReadOf, IsStampOf}
use Rattle.plan_world.specs.Askable.{is_name}
use Rattle.plan_world.specs.StartRecorded.{begun, begun_keeping, begun_with, ended, first_named, missing_path, paths_read}
use Rattle.plan_world.specs.Recording.{EndsWith, edge_entry, may_begin}
use Rattle.plan_world.specs.NinjaLog.{log_lines}
use Rattle.plan_world.specs.Rewriting.{restated}
use Rattle.plan_world.specs.Shells.{ending, record_variable}
use Rattle.plan_world.specs.Stamps.{stamp_of}
use Rattle.plan_world.specs.declared.disk.ModificationTime.{ModificationTime}

second_and_seven : stamp_of (pos 1000000000) (pos 7) ≡ 1000000000000000007
second_and_seven = refl

of_1970 : stamp_of (pos 0) (pos 0) ≡ 1
of_1970 = refl

before_1970 : stamp_of (negsuc 4) (pos 0) ≡ 1
before_1970 = refl

too_late : stamp_of (pos 18446744074) (pos 0) ≡ 18446744073709551615
too_late = refl

-- ---- a disk with the file `a`, which has the byte 58 and was changed after a second

abbrev a_second : ModificationTime
a_second = record { seconds = pos 1; nanoseconds = pos 0 }

abbrev one_time : List ℕ → Option ModificationTime → Type 0
one_time path time = (path ≡ 97 ∷ []) × (time ≡ Some a_second)

abbrev one_file : List ℕ → Option (List ℕ) → Type 0
one_file path bytes = (path ≡ 97 ∷ []) × (bytes ≡ Some (58 ∷ []))

stamp_of_the_file : IsStampOf one_time (97 ∷ []) (Stamp 1000000000)
stamp_of_the_file = (Some a_second, (refl, refl), refl)

no_stamp_of_another_file : IsStampOf one_time (98 ∷ []) (Stamp 1) → ⊥
no_stamp_of_another_file h = let same : ◌≡◌ {A = List ℕ} (98 ∷ []) (97 ∷ []) = h.1.0 in cc

bytes_of_the_file : IsReadOf one_file (97 ∷ []) (Bytes (58 ∷ []))
bytes_of_the_file = (refl, refl)

file_is_not_missing : IsReadOf one_file (97 ∷ []) Nothing → ⊥
file_is_not_missing h = let same : ◌≡◌ {A = Option (List ℕ)} None (Some (58 ∷ [])) = h.1 in cc

exit_three : ending (Some (pos 3)) ≡ Exit 3
exit_three = refl

ended_by_a_signal : ending None ≡ Signal
ended_by_a_signal = refl

-- an entry of output `a`: its length, `a`, a NUL byte, no basis, one path
begun_bytes : spelling (begun (97 ∷ [])) ≡ (0 ∷ 0 ∷ 0 ∷ 37 ∷ 0 ∷ 1 ∷ 97 ∷ 0 ∷ 0 ∷ 0 ∷ 1 ∷ 0 ∷ 0 ∷ 0 ∷ 0 ∷ 0 ∷ 0 ∷ 0 ∷ 0 ∷ 0 ∷ 0 ∷ 0 ∷ 0 ∷ 1 ∷ 0 ∷ 15 ∷ []) ++ missing_path
unfolding spelling
begun_bytes = refl

stamp_suits : suits (Stat (97 ∷ [])) (answer_of (Stamp 0)) ≡ true
stamp_suits = refl

kept_suits_no_run : suits (Run [] []) (answer_of Kept) ≡ false
kept_suits_no_run = refl

exit_suits_no_keep : suits (Keep [] [] 0 []) (answer_of (Exit 0)) ≡ false
exit_suits_no_keep = refl

-- ---- a record to which other builders append too

-- one entry of another builder comes between
others_between : EndsWith (begun (97 ∷ []) ∷ []) (begun (97 ∷ []) ∷ begun (98 ∷ []) ∷ edge_entry (97 ∷ []) (116 ∷ []) 7 [] ∷ []) (edge_entry (97 ∷ []) (116 ∷ []) 7 [])
others_between = (begun (98 ∷ []) ∷ [], refl)

variable_of_records : length record_variable ≡ 18
variable_of_records = refl

-- ---- names between slashes

-- `d/n`
short_names : list_all is_name (components_of (100 ∷ 47 ∷ 110 ∷ [])) ≡ true
short_names = refl

longest_name : is_name (replicate 255 110) ≡ true
longest_name = refl

name_too_long : is_name (replicate 256 110) ≡ false
name_too_long = refl

-- ---- records that are rewritten

abbrev kept_entry : EntryData
kept_entry = edge_entry (97 ∷ []) (116 ∷ []) 7 []

-- of these outputs only `a` is named
named_output : restated ((97 ∷ []) ∷ []) (9 ∷ 8 ∷ []) (kept_entry ∷ edge_entry (98 ∷ []) [] 3 [] ∷ []) ≡ edge_entry (97 ∷ []) (116 ∷ []) 9 [] ∷ edge_entry (98 ∷ []) [] 3 [] ∷ []
named_output = refl

no_output_named : restated [] (9 ∷ 0 ∷ []) (kept_entry ∷ edge_entry (98 ∷ []) [] 3 [] ∷ []) ≡ edge_entry (97 ∷ []) (116 ∷ []) 9 [] ∷ edge_entry (98 ∷ []) [] 0 [] ∷ []
no_output_named = refl

begun_stays : restated [] (9 ∷ []) (begun (97 ∷ []) ∷ []) ≡ begun (97 ∷ []) ∷ []
begun_stays = refl

-- ---- the first bytes of a record

empty_may_begin : may_begin [] ≡ true
empty_may_begin = refl

-- `int ma`
text_is_no_record : may_begin (105 ∷ 110 ∷ 116 ∷ 32 ∷ 109 ∷ 97 ∷ []) ≡ false
text_is_no_record = refl

letter_is_no_record : may_begin (105 ∷ []) ≡ false
letter_is_no_record = refl

torn_length_may_begin : may_begin (0 ∷ 0 ∷ 0 ∷ []) ≡ true
torn_length_may_begin = refl

-- the longest path of an output, and one byte more
longest_output_may_begin : may_begin (0 ∷ 1 ∷ 2 ∷ 3 ∷ 16 ∷ 0 ∷ 97 ∷ []) ≡ true
longest_output_may_begin = refl

output_too_long : may_begin (0 ∷ 1 ∷ 2 ∷ 3 ∷ 16 ∷ 1 ∷ 97 ∷ []) ≡ false
output_too_long = refl

no_output_is_no_record : may_begin (0 ∷ 1 ∷ 2 ∷ 3 ∷ 0 ∷ 0 ∷ []) ≡ false
no_output_is_no_record = refl

-- ---- the start entries of an edge

-- an edge that makes `q`, which the edge of `p` made before: its entry ends
other_edge_ends : ended (begun_with (112 ∷ []) (113 ∷ []) ∷ begun (112 ∷ []) ∷ edge_entry (112 ∷ []) (116 ∷ []) 7 [] ∷ []) (113 ∷ []) ((113 ∷ []) ∷ []) ≡ (112 ∷ []) ∷ []
other_edge_ends = refl

-- the edge of `p` again
same_edge_begins : ended (begun_with (112 ∷ []) (113 ∷ []) ∷ edge_entry (112 ∷ []) (116 ∷ []) 7 [] ∷ []) (112 ∷ []) ((112 ∷ []) ∷ (113 ∷ []) ∷ []) ≡ []
same_edge_begins = refl

-- what the last command of `p` read, by its entry
entry_is_read : paths_read (Some (edge_entry (112 ∷ []) (116 ∷ []) 7 ((104 ∷ []) ∷ []))) ≡ (104 ∷ []) ∷ []
entry_is_read = refl

-- and by the start entry that keeps it
start_keeps : paths_read (Some (begun_keeping (112 ∷ []) ((104 ∷ []) ∷ []))) ≡ (104 ∷ []) ∷ []
start_keeps = refl

begun_keeps_nothing : paths_read (Some (begun_keeping (112 ∷ []) [])) ≡ []
begun_keeps_nothing = refl

nothing_is_begun : begun_keeping (112 ∷ []) [] ≡ begun (112 ∷ [])
nothing_is_begun = refl

-- a start entry that keeps paths names its own output, so no other edge ends
kept_names_itself : first_named (begun_keeping (112 ∷ []) ((104 ∷ []) ∷ [])) ≡ Some (112 ∷ [])
kept_names_itself = refl

-- the lines of `a` and `b` in ninja's log, each between "0", a tab and a tab, "0", a line feed
two_lines : log_lines (48 ∷ 9 ∷ []) (9 ∷ 48 ∷ 10 ∷ []) ((97 ∷ []) ∷ (98 ∷ []) ∷ []) ≡ 48 ∷ 9 ∷ 97 ∷ 9 ∷ 48 ∷ 10 ∷ 48 ∷ 9 ∷ 98 ∷ 9 ∷ 48 ∷ 10 ∷ []
two_lines = refl

-- Worked examples of the definitions.
use Rattle.std.proofs.Common.{◌≡◌, ℕ, ◌+◌, ◌*◌, ◌^◌, [], ◌∷◌, ◌++◌, true, false, Some, None, Ok, Err, refl}
use Rattle.std.specs.Prelude.{codes}
use Rattle.plan_text.specs.declared.fault.TextFault.TheVariants.{EmptyPath, BadEscape, TabBlank, NulByte}
use Rattle.plan_text.specs.declared.piece_reader.Mode.TheVariants.{Path, Value}
use Rattle.plan_text.specs.declared.piece_reader.Piece.TheVariants.{Literal, Reference}
use Rattle.plan_text.specs.Numerals.{number_in}
use Rattle.plan_text.specs.Pieces.{escape_bytes, pieces_of, literal_of}
use Rattle.plan_text.specs.Path.{canonical_of, is_normal}
use Rattle.plan_text.specs.Lines.{lines_of, raw_lines}
use Rattle.plan_text.specs.declared.line_reader.Line.{Line}
use Rattle.plan_text.specs.PathFilters.{HasBit, bit_of, ends_of, hash_of, number_of, place_of, with_bit}

parents_past_the_front : canonical_of (codes "a/../../b//./c/") ≡ Ok (codes "../b/c")
parents_past_the_front = refl

parent_behind_the_root : canonical_of (codes "/../x") ≡ Ok (codes "/x")
parent_behind_the_root = refl

nothing_left_is_a_dot : canonical_of (codes "a/..") ≡ Ok (codes ".")
nothing_left_is_a_dot = refl

empty_path : canonical_of [] ≡ Err EmptyPath
empty_path = refl

root_is_its_parent : canonical_of (codes "/..") ≡ Ok (codes "/")
root_is_its_parent = refl

-- bad escapes, the escapes of values and paths, and a continuation after CR LF
no_such_escape : pieces_of Value (codes "a$!") ≡ Err (BadEscape 1)
no_such_escape = refl

escaped_space : pieces_of Path (codes "other$ file") ≡ Ok (Literal (codes "other file") ∷ [])
escaped_space = refl

name_behind_a_dollar : pieces_of Path (codes "$spaced/baz") ≡ Ok (Reference (codes "spaced") ∷ Literal (codes "/baz") ∷ [])
name_behind_a_dollar = refl

dots_in_braces_alone : pieces_of Value (codes "a${x.y}$$b$x.c") ≡ Ok (Literal (codes "a") ∷ Reference (codes "x.y") ∷ Literal (codes "$b") ∷ Reference (codes "x") ∷ Literal (codes ".c") ∷ [])
dots_in_braces_alone = refl

continued_behind_cr_lf : pieces_of Value (97 ∷ 36 ∷ 13 ∷ 10 ∷ 32 ∷ 32 ∷ 98 ∷ []) ≡ Ok (Literal (codes "ab") ∷ [])
continued_behind_cr_lf = refl

tab_in_a_path : pieces_of Path (97 ∷ 9 ∷ []) ≡ Err (TabBlank 1)
tab_in_a_path = refl

brace_not_closed : pieces_of Value (codes "ab${x") ≡ Err (BadEscape 2)
brace_not_closed = refl

line : ℕ → ℕ → ℕ → Line
line indent start stop = record { indent = indent; start = start; «end» = stop }

-- `x = 1`, a newline, a blank line, a comment that ends in `$`, and `  y`
blank_line_and_comment : lines_of (codes "x = 1" ++ 10 ∷ 32 ∷ 10 ∷ codes "# c$" ++ 10 ∷ codes "  y") ≡ Ok (line 0 0 5 ∷ line 2 15 16 ∷ [])
unfolding line
blank_line_and_comment = refl

-- a continued line before a line that is ended by CR LF; faults of tabs and NUL bytes
hash_behind_a_continuation : lines_of (codes "a$" ++ 10 ∷ codes "# b" ++ 13 ∷ 10 ∷ codes "c$$" ++ 10 ∷ codes "d") ≡ Ok (line 0 0 6 ∷ line 0 8 11 ∷ line 0 12 13 ∷ [])
unfolding line
hash_behind_a_continuation = refl

tab_behind_an_indent : lines_of (codes "a" ++ 10 ∷ 32 ∷ 9 ∷ codes "b") ≡ Err (TabBlank 3)
tab_behind_an_indent = refl

nul_in_a_comment : lines_of (codes "a" ++ 10 ∷ codes "# x" ++ 0 ∷ codes "b") ≡ Err (NulByte 5)
nul_in_a_comment = refl

-- lines that consist of a continuation; an indent consists of spaces only
dollar_and_newline_alone : lines_of (36 ∷ 10 ∷ []) ≡ Ok (line 0 0 2 ∷ [])
unfolding line
dollar_and_newline_alone = refl

dollar_behind_an_indent : lines_of (32 ∷ 36 ∷ 10 ∷ []) ≡ Ok (line 1 1 3 ∷ [])
unfolding line
dollar_behind_an_indent = refl

continued_line : lines_of (codes "x = $" ++ 10 ∷ codes "  1") ≡ Ok (line 0 0 9 ∷ [])
unfolding line
continued_line = refl

-- after a continuation, `#` begins no comment
dollar_before_a_comment : lines_of (36 ∷ 10 ∷ codes "# c") ≡ Ok (line 0 0 5 ∷ [])
unfolding line
dollar_before_a_comment = refl

dot_path : canonical_of (codes ".") ≡ Ok (codes ".")
dot_path = refl

dot_and_slash : canonical_of (codes "./") ≡ Ok (codes ".")
dot_and_slash = refl

root_path : canonical_of (codes "/") ≡ Ok (codes "/")
root_path = refl

two_slashes : canonical_of (codes "//a") ≡ Ok (codes "/a")
two_slashes = refl

dot_between : canonical_of (codes "a/./b") ≡ Ok (codes "a/b")
dot_between = refl

parents_alone : canonical_of (codes "../..") ≡ Ok (codes "../..")
parents_alone = refl

two_dots_and_a_name : canonical_of (codes "..a") ≡ Ok (codes "..a")
two_dots_and_a_name = refl

more_parents_than_names : canonical_of (codes "a/b/../../..") ≡ Ok (codes "..")
more_parents_than_names = refl

-- a `$` at the end, and `${}`, begin no escape
dollar_at_the_end : pieces_of Value (codes "ab$") ≡ Err (BadEscape 2)
dollar_at_the_end = refl

no_name_in_braces : pieces_of Value (codes "a${}") ≡ Err (BadEscape 1)
no_name_in_braces = refl

-- a CR without LF is an ordinary byte
cr_is_a_byte : pieces_of Path (97 ∷ 13 ∷ 98 ∷ []) ≡ Ok (Literal (97 ∷ 13 ∷ 98 ∷ []) ∷ [])
cr_is_a_byte = refl

dollar_before_a_cr : pieces_of Value (97 ∷ 36 ∷ 13 ∷ 98 ∷ []) ≡ Err (BadEscape 1)
dollar_before_a_cr = refl

-- a newline after `$`, and the spaces after it, give no bytes
continuation_alone : pieces_of Value (36 ∷ 13 ∷ 10 ∷ 32 ∷ 32 ∷ []) ≡ Ok []
continuation_alone = refl

tab_behind_a_continuation : pieces_of Value (36 ∷ 10 ∷ 32 ∷ 9 ∷ []) ≡ Ok (Literal (9 ∷ []) ∷ [])
tab_behind_a_continuation = refl

nul_in_a_value : pieces_of Value (97 ∷ 0 ∷ 98 ∷ []) ≡ Err (NulByte 1)
nul_in_a_value = refl

tab_in_a_value : pieces_of Value (97 ∷ 9 ∷ 98 ∷ []) ≡ Ok (Literal (97 ∷ 9 ∷ 98 ∷ []) ∷ [])
tab_in_a_value = refl

dot_ends_a_bare_name : pieces_of Value (codes "$a.b") ≡ Ok (Reference (codes "a") ∷ Literal (codes ".b") ∷ [])
dot_ends_a_bare_name = refl

-- a CR without LF ends no line
cr_in_a_line : lines_of (97 ∷ 13 ∷ 98 ∷ 10 ∷ 99 ∷ []) ≡ Ok (line 0 0 3 ∷ line 0 4 5 ∷ [])
unfolding line
cr_in_a_line = refl

-- bytes, their escaped form, and how it is read
bytes_with_escapes : escape_bytes (codes "a b$c:d") ≡ codes "a$ b$$c$:d"
bytes_with_escapes = refl

escapes_read : pieces_of Path (codes "a$ b$$c$:d") ≡ Ok (literal_of (codes "a b$c:d"))
escapes_read = refl

-- decimal numbers: the limit, leading zeros, and texts that are no numbers
greatest_number : number_in 1000000 (codes "1000000") ≡ Some 1000000
greatest_number = refl

number_one_too_great : number_in 1000000 (codes "1000001") ≡ None
number_one_too_great = refl

zeros_in_front : number_in 9 (codes "007") ≡ Some 7
zeros_in_front = refl

no_digit : number_in 9 [] ≡ None
no_digit = refl

digits_and_a_letter : number_in 9 (codes "1x") ≡ None
digits_and_a_letter = refl

-- normal components
name_with_dots : is_normal (codes "..a") ≡ true
name_with_dots = refl

parent_is_not_normal : is_normal (codes "..") ≡ false
parent_is_not_normal = refl

-- lines that are continued and ended by CR LF
lines_with_their_newlines : raw_lines (codes "a$" ++ 10 ∷ codes "b" ++ 13 ∷ 10 ∷ codes "c") ≡ record { at = 0; bytes = codes "a$" ++ 10 ∷ codes "b" } ∷ record { at = 6; bytes = codes "c" } ∷ []
lines_with_their_newlines = refl

-- the hash of a path is that of its last sixteen bytes, or of its halves, and its length
number_of_a_short_path : number_of (codes "a.o") ≡ 6368879
unfolding number_of
number_of_a_short_path = refl

number_of_both_halves : number_of (codes "lib/a.h12") ≡ 7811882984284252209 * 2 ^ 64 + 7593684016136991026
unfolding number_of
number_of_both_halves = refl

number_of_the_last_bytes : number_of (codes "include/generated/version.h") ≡ number_of (codes "erated/version.h")
unfolding number_of
number_of_the_last_bytes = refl

hash_of_a_short_path : hash_of (codes "a.o") ≡ 1364984548566109510
unfolding hash_of number_of
hash_of_a_short_path = refl

ends_of_a_path : ends_of (codes "a.o") ≡ 7007601222051954688
unfolding ends_of
ends_of_a_path = refl

ends_of_an_empty_path : ends_of [] ≡ 0
unfolding ends_of
ends_of_an_empty_path = refl

added_path_is_found : HasBit (with_bit (0 ∷ 0 ∷ []) (hash_of (codes "a.o"))) (hash_of (codes "a.o"))
unfolding hash_of number_of place_of bit_of
added_path_is_found = refl

-- Outputs of commands, and how they are shown.
use Rattle.std.proofs.Common.{◌≡◌, ℕ, List, [], ◌∷◌, ◌++◌, true, false, refl}
use Rattle.std.specs.Prelude.{codes}
use Rattle.plan_output.specs.Escapes.{shown_output, with_line_end, without_escapes}
use Rattle.plan_output.specs.Signals.{signal_line}

-- `ESC [` and these characters
abbrev sequence : List ℕ → List ℕ
sequence text = 27 ∷ 91 ∷ text

colours_are_removed : without_escapes (sequence (codes "1;31m") ++ codes "error" ++ sequence (codes "0m") ++ codes ": x") ≡ codes "error: x"
colours_are_removed = refl

-- a link: `ESC ] 8 ; ; target ESC \ text ESC ] 8 ; ; ESC \`
link_keeps_its_text : without_escapes (27 ∷ codes "]8;;file:a" ++ 27 ∷ 92 ∷ codes "a" ++ 27 ∷ codes "]8;;" ++ 27 ∷ 92 ∷ codes "b") ≡ codes "ab"
link_keeps_its_text = refl

-- a title, which ends with BEL
title_is_removed : without_escapes (27 ∷ codes "]0;title" ++ 7 ∷ codes "b") ≡ codes "b"
title_is_removed = refl

-- a choice of characters: `ESC ( B`
choice_is_removed : without_escapes (27 ∷ codes "(Bb") ≡ codes "b"
choice_is_removed = refl

line_feed_ends_a_broken_string : without_escapes (27 ∷ codes "]0;title" ++ 10 ∷ codes "b") ≡ 10 ∷ codes "b"
line_feed_ends_a_broken_string = refl

letters_beyond_ascii_stay : without_escapes (195 ∷ 169 ∷ sequence (codes "0m") ++ 195 ∷ 169 ∷ []) ≡ 195 ∷ 169 ∷ 195 ∷ 169 ∷ []
letters_beyond_ascii_stay = refl

sequences_stay_on_a_terminal : shown_output true (sequence (codes "0ma")) ≡ sequence (codes "0ma") ++ 10 ∷ []
sequences_stay_on_a_terminal = refl

nothing_stays_nothing : shown_output false [] ≡ []
nothing_stays_nothing = refl

line_end_is_added_once : with_line_end (97 ∷ 10 ∷ []) ≡ 97 ∷ 10 ∷ []
line_end_is_added_once = refl

signal_9_is_sigkill : signal_line 9 ≡ codes "ended by SIGKILL" ++ 10 ∷ []
signal_9_is_sigkill = refl

signal_40_has_no_name : signal_line 40 ≡ codes "ended by a signal" ++ 10 ∷ []
signal_40_has_no_name = refl

-- Texts written one after another. Lemmas for src/writing.rt, src/line_writer.rt, src/word_writer.rt and
-- src/hex.rt.
use Rattle.std.proofs.Common.{◌≡◌, ℕ, ◌+◌, ◌<◌, Bool, true, false, List, [], ◌∷◌, ◌++◌, Option, length, get_or, drop, refl, sym, ap, subst, ◌∙◌, append_assoc, append-nil}
use Rattle.std.proofs.lemmas.List.{drop_more}
use Rattle.plan_text.specs.Laws.{FailedWriteStays, WritesJoin}
use Rattle.std.specs.Fmt.{decimal}
use Rattle.std.specs.List.{flat_map}
use Rattle.plan_text.specs.Sinks.{Writes}
use Rattle.plan_trace.specs.Spelling.{behind, line}

-- a text is written after one that was taken
pub joined : WritesJoin → (well : Bool) (a b c : ℕ × Option (List ℕ)) (xs ys whole : List ℕ) → xs ++ ys ≡ whole → Writes true a b xs → Writes well b c ys → Writes well a c whole
joined joins well a b c xs ys whole all h k = subst (λ (zs : List ℕ). Writes well a c zs) all (joins well a b c xs ys h k)

-- if a text isn't written completely, neither is a longer one
pub failed : FailedWriteStays → (a b : ℕ × Option (List ℕ)) (xs ys whole : List ℕ) → xs ++ ys ≡ whole → Writes false a b xs → Writes false a b whole
failed stays a b xs ys whole all h = subst (λ (zs : List ℕ). Writes false a b zs) all (stays a b xs ys h)

-- a text isn't written completely, after the bytes that were taken and before those that remain
pub stops : WritesJoin → FailedWriteStays → (a b c : ℕ × Option (List ℕ)) (done text rest whole : List ℕ) → (done ++ text) ++ rest ≡ whole
    → Writes true a b done → Writes false b c text → Writes false a c whole
stops joins stays a b c done text rest whole all h k = failed stays a c (done ++ text) rest whole all (joins false a b c done text h k)

-- one more item of a text that is written item by item
pub one_more : {X : Type 0} (each : X → List ℕ) (text : List X → List ℕ) → ((y : X) (ys : List X) → text (y ∷ ys) ≡ each y ++ text ys)
    → (xs : List X) (i : ℕ) (x d : X) (done : List ℕ) → i < length xs → x ≡ get_or xs i d
    → done ++ text (drop i xs) ≡ text xs → (done ++ each x) ++ text (drop (i + 1) xs) ≡ text xs
one_more each text parts xs i x d done lt is so_far =
    let left : drop i xs ≡ x ∷ drop (i + 1) xs = drop_more xs i d lt ∙ ap (λ y. y ∷ drop (i + 1) xs) (sym is) in
    append_assoc done (each x) (text (drop (i + 1) xs))
    ∙ (ap (λ (ys : List ℕ). done ++ ys) (sym (parts x (drop (i + 1) xs))) ∙ (ap (λ ys. done ++ text ys) (sym left) ∙ so_far))

-- ---- words, one after another

-- the last of some words
pub last_word : (word rest : List ℕ) → (32 ∷ word) ++ rest ≡ behind (word ∷ []) ++ rest
last_word word rest = ap (λ (w : List ℕ). 32 ∷ (w ++ rest)) (sym (append-nil word))

-- two words
pub two_words : (word last : List ℕ) → (32 ∷ word) ++ (32 ∷ last) ≡ behind (word ∷ last ∷ [])
two_words word last = ap (λ (w : List ℕ). 32 ∷ (word ++ 32 ∷ w)) (sym (append-nil last))

-- words after words
pub words_behind : (words more : List (List ℕ)) → behind words ++ behind more ≡ behind (words ++ more)
words_behind [] more = refl
words_behind (word ∷ words) more =
    append_assoc (32 ∷ word) (behind words) (behind more) ∙ ap (λ (ws : List ℕ). 32 ∷ (word ++ ws)) (words_behind words more)

-- a line of a word and a number
pub short_line : (word : List ℕ) (m n : ℕ) → m ≡ n → word ++ (behind (decimal m ∷ []) ++ 10 ∷ []) ≡ line (word ∷ decimal n ∷ [])
short_line word m n is = sym (append_assoc word (behind (decimal m ∷ [])) (10 ∷ [])) ∙ ap (λ (k : ℕ). line (word ∷ decimal k ∷ [])) is

-- a line of a word, a number and more words
pub long_line : (word : List ℕ) (m n : ℕ) (words : List (List ℕ)) → m ≡ n → (word ++ 32 ∷ decimal m) ++ (behind words ++ 10 ∷ []) ≡ line (word ∷ decimal n ∷ words)
long_line word m n words is =
    sym (append_assoc (word ++ 32 ∷ decimal m) (behind words) (10 ∷ []))
    ∙ (ap (λ (ws : List ℕ). ws ++ 10 ∷ []) (append_assoc word (32 ∷ decimal m) (behind words)) ∙ ap (λ (k : ℕ). line (word ∷ decimal k ∷ words)) is)

-- one more event, the first of the remaining ones
pub first_more : {X : Type 0} (each : X → List ℕ) (left behind : List X) (x : X) (done whole : List ℕ) → left ≡ x ∷ behind
    → done ++ flat_map each left ≡ whole → (done ++ each x) ++ flat_map each behind ≡ whole
first_more each left behind x done whole is so_far =
    append_assoc done (each x) (flat_map each behind) ∙ (ap (λ ys. done ++ flat_map each ys) (sym is) ∙ so_far)

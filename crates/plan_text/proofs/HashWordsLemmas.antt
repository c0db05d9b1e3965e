-- The words that a hasher is fed. Lemmas for src/hashing.rt.
use Rattle.std.proofs.Common.{◌≡◌, ◌+◌, ◌-◌, ◌*◌, ◌/◌, ℕ, suc, List, [], ◌∷◌, fold, take, drop, length, ap, sym, ◌∙◌, arith}
use Rattle.std.proofs.lemmas.List.{take_rest}
use Rattle.std.proofs.lemmas.List.Sums.{fold-append}
use Rattle.plan_text.specs.HashWords.{first_words, words}

-- feeds one more word
pub next_word : {S : Type 0} (f : S → List ℕ → S) (first before after : S) (text : List ℕ) (n : ℕ) → before ≡ fold f first (first_words text n)
    → after ≡ f before (take (n * 8 + 8 - n * 8) (drop (n * 8) text)) → after ≡ fold f first (first_words text (n + 1))
next_word {S} f first before after text n so_far is =
    let eight : n * 8 + 8 - n * 8 ≡ 8 = omega arith in
    let next : suc n ≡ n + 1 = omega arith in
    is
    ∙ ap (λ (s : S). f s (take (n * 8 + 8 - n * 8) (drop (n * 8) text))) so_far
    ∙ ap (λ (k : ℕ). f (fold f first (first_words text n)) (take k (drop (n * 8) text))) eight
    ∙ sym (fold-append f first (first_words text n) (take 8 (drop (n * 8) text) ∷ []))
    ∙ ap (λ (k : ℕ). fold f first (first_words text k)) next

-- feeds the bytes after the last word
pub last_word : {S : Type 0} (f : S → List ℕ → S) (first before after : S) (text : List ℕ) → before ≡ fold f first (first_words text (length text / 8))
    → after ≡ f before (take (length text - length text / 8 * 8) (drop (length text / 8 * 8) text)) → after ≡ fold f first (words text)
unfolding words
last_word {S} f first before after text so_far is =
    let at : ℕ = length text / 8 * 8 in
    let front : List (List ℕ) = first_words text (length text / 8) in
    is
    ∙ ap (λ (s : S). f s (take (length text - at) (drop at text))) so_far
    ∙ ap (f (fold f first front)) (take_rest text at)
    ∙ sym (fold-append f first front (drop at text ∷ []))

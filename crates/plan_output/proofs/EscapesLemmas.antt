-- Texts without escape sequences.
use Rattle.std.proofs.Common.{◌≡◌, ◌∙◌, ℕ, Bool, true, false, List, [], ◌∷◌, ◌++◌, ap, refl, sym}
use Rattle.std.proofs.lemmas.Bool.{or_parts}
use Rattle.std.specs.Prelude.{◌==◌, not, nat_lt, if◌then◌else◌}
use Rattle.std.specs.List.{list_any}
use Rattle.plan_output.specs.declared.escapes.Reading.TheVariants.{Escape, Text}
use Rattle.plan_output.specs.Escapes.{is_escape, text_from, without_escapes}

-- a terminal that shows text shows one byte more
shows_one : (escape low : Bool) (b : ℕ) (rest : List ℕ) → escape ≡ false
    → (if not escape then b ∷ [] else []) ++ text_from (if escape then Escape else if low then Text else Text) rest ≡ b ∷ text_from Text rest
shows_one true low b rest is = absurd (let clash : true ≡ false = is in cc)
shows_one false true b rest is = refl
shows_one false false b rest is = refl

stays_from : (text : List ℕ) → list_any is_escape text ≡ false → text_from Text text ≡ text
stays_from [] none = refl
stays_from (b ∷ rest) none =
    let both = or_parts (b == 27) (list_any is_escape rest) none in
    shows_one (b == 27) (nat_lt b 32) b rest both.0 ∙ ap (λ (more : List ℕ). b ∷ more) (stays_from rest both.1)

-- a text without an escape stays as it is
pub plain_stays : (text : List ℕ) → list_any is_escape text ≡ false → text ≡ without_escapes text
plain_stays text none = sym (stays_from text none)

-- The words of texts that are fed to a hasher.
use Rattle.std.specs.Prelude.{◌≡◌, ℕ, true, List, bytes_eq}
use Rattle.std.proofs.Common.{ap}
use Rattle.std.proofs.lemmas.Slice.Eq.{bytes_eq-Decides}
use Rattle.plan_text.specs.HashWords.{words}

-- equal texts feed the same words
pub same_fed : (x y : List ℕ) → bytes_eq x y ≡ true → words x ≡ words y
same_fed x y same = ap words ((bytes_eq-Decides x y).0 same)

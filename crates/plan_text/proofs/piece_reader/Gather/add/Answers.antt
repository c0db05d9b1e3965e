use Rattle.std.proofs.Common.{◌≡◌, ℕ, List, ◌∷◌, [], ◌++◌, ap, ◌∙◌}
use Rattle.plan_text.specs.declared.piece_reader.Piece.TheVariants.{Reference}
use Rattle.plan_text.proofs.PieceReaderLemmas.{gathers_byte, gathers_name}
use Rattle.plan_text.proofs.piece_reader.Gather.add.Goals as goal

pub returns-in_ok-add_plain-in-Byte : goal.returns-in_ok-add_plain-in-Byte
returns-in_ok-add_plain-in-Byte c = λ more.
    rw c.in-Byte.is (gathers_byte c.args.self.now.done.items _ _ _ c.in-Byte.b c.in_ok-add_plain-in-Byte.ensures.done c.in_ok-add_plain-in-Byte.ensures.literal more)

pub returns-in_ok-push-in-Name : goal.returns-in_ok-push-in-Name
returns-in_ok-push-in-Name c = λ more.
    let e : c.push.new.self.items ≡ c.finish_literal.new.self.done.items ++ Reference c.in-Name.name.now ∷ [] =
    c.in_ok-push-in-Name.ensures.items ∙ ap (λ (v : List ℕ). c.finish_literal.new.self.done.items ++ Reference v ∷ []) c.in_ok-name-in-Name.ensures in
    rw c.in-Name.is (gathers_name c.args.self.now.done.items _ _ c.args.self.now.literal c.finish_literal.new.self.literal c.in-Name.name.now c.in_ok-finish_literal-in-Name.ensures.done e c.in_ok-finish_literal-in-Name.ensures.literal more)

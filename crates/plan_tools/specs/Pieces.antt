-- Parts of a JSON text.
use Rattle.plan_scope.specs.Scopes.{Text}
use Rattle.plan_tools.specs.Commands.{text_or_none}
use Rattle.plan_tools.specs.Json.{json_text}
use Rattle.plan_tools.specs.declared.json.Piece.{Piece}
use Rattle.plan_tools.specs.declared.json.Piece.TheVariants.{Plain, Json, JsonText}

abbrev pub text_of : Piece → Text
text_of (Plain text) = text.now
text_of (Json text) = json_text text.now
text_of (JsonText text) = json_text (text_or_none text.now)

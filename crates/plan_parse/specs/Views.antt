-- The values of the program, without their location in memory.
use Rattle.plan_parse.specs.declared.cursor.Cursor.{Cursor}
use Rattle.plan_parse.specs.Reading.{Place}

abbrev pub place_of : Cursor → Place
place_of c = record { at = c.at; bytes = c.bytes.now }

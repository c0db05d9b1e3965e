-- The head of an entry as the code borrows it.
use Rattle.plan_record.specs.declared.reading.Head.{Head}
use Rattle.plan_record.specs.Reading.{Head as HeadData}

abbrev pub head_data : Head → HeadData
head_data h = record { output = h.output.now; command = h.command.now; basis = h.basis; count = h.count }

-- The faults of images, runs and traces, as the program prints them.
use Rattle.std.specs.Prelude.{ℕ, List, [], ◌++◌, Option, Some, None, codes}
use Rattle.std.specs.Fmt.{decimal}
use Rattle.plan_image.specs.Faults as images
use Rattle.plan_image.specs.declared.fault.ImageFault.{ImageFault}
use Rattle.plan_verify.specs.Faults as verdicts
use Rattle.plan_verify.specs.declared.fault.VerifyFault.{VerifyFault}
use Rattle.plan_compile.specs.Faults as compiles
use Rattle.plan_machine.specs.Faults as machines
use Rattle.plan_machine.specs.declared.run.refused.Refused.{Refused as Refusal}
use Rattle.plan_machine.specs.declared.run.refused.Refused.TheVariants as machine
use Rattle.plan_compile.specs.declared.fault.CompileFault.{CompileFault}
use Rattle.plan_printing.specs.declared.fault.PlanFault.{PlanFault}

-- ` at OFFSET`, or an empty text if there is no offset.
abbrev pub at_offset : Option ℕ → List ℕ
at_offset None = []
at_offset (Some offset) = codes " at " ++ decimal offset

-- The reason why bytes aren't an image, as the program prints it.
abbrev pub printed_image_fault : ImageFault → PlanFault
printed_image_fault fault = record { number = images.number_of fault; rest = at_offset (images.offset_of fault) }

-- ` at edge EDGE place PLACE`, or an empty text if one of the two is missing.
abbrev pub at_edge : Option ℕ → Option ℕ → List ℕ
at_edge (Some edge) (Some place) = codes " at edge " ++ decimal edge ++ codes " place " ++ decimal place
at_edge edge place = []

-- The reason why an image can't be run, as the program prints it.
abbrev pub printed_verify_fault : VerifyFault → PlanFault
printed_verify_fault fault = record { number = verdicts.number_of fault; rest = at_edge (verdicts.edge_of fault) (verdicts.place_of fault) }

-- The reason why a manifest has no image, as the program prints it.
abbrev pub printed_compile_fault : CompileFault → PlanFault
printed_compile_fault fault = record { number = compiles.number_of fault; rest = [] }

-- The event with this number isn't enabled. Numbers of events count from 0.
abbrev pub event_fault : ℕ → PlanFault
event_fault event = record { number = 110; rest = codes " at event " ++ decimal event }

abbrev pub printed_refusal : ℕ → Refusal → PlanFault
printed_refusal event machine.NotEnabled = event_fault event
printed_refusal event refusal = record { number = machines.number_of refusal; rest = [] }

-- A line of a trace is malformed or not allowed there. Numbers of lines count from 1.
abbrev pub trace_fault : ℕ → PlanFault
trace_fault line = record { number = 130; rest = codes " at line " ++ decimal line }

-- Two traces can't be compared: their first lines differ, or one has targets.
abbrev pub traces_differ : PlanFault
traces_differ = record { number = 134; rest = [] }

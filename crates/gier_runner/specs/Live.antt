-- The live activations of the frames that a run left, as the flat run tells them.
use Rattle.std.specs.Prelude.{◌-◌}
use Rattle.gier_frames.specs.declared.stop.Shape.{Shape}
use Rattle.gier_frames.specs.declared.stop.Shape.TheVariants.{Program, Block, Procedure, Evaluation}
use Rattle.gier_frames.specs.declared.stop.Activation.{Activation}
use Rattle.gier_order.specs.Flat.Live.{Live, Shape as FlatShape}
use Rattle.gier_order.specs.Flat.Live.{Program as OfProgram, Block as OfBlock, Procedure as OfProcedure, Evaluation as OfEvaluation}

abbrev pub shape_of : Shape → FlatShape
shape_of Program = OfProgram
shape_of Block = OfBlock
shape_of Procedure = OfProcedure
shape_of Evaluation = OfEvaluation

-- it was entered by the order before the one to return to
abbrev pub live_of : Activation → Live
live_of a = record { shape = shape_of a.shape; words = a.words; entered_by = a.back - 1 }

-- What is done here: from the live activations and the state to an outcome.
use Rattle.gier_meaning.specs.Live.{Live}
use Rattle.gier_meaning.specs.State.{State}
use Rattle.gier_meaning.specs.Outcome.{Outcome}
use Rattle.gier_meaning.specs.Bodies.{Body}

abbrev pub Computation : Type 0 → Type 0
Computation T = Live → State Body → Outcome Body T

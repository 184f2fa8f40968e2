-- What the stop of a text is for those who look for lines in it.
use Rattle.gier_text.specs.declared.text.TextStop.{TextStop}
use Rattle.gier_text.specs.declared.text.TextStop.TheVariants.{Failed, Memory, Full, Spoilt as TextSpoilt}
use Rattle.gier_mortem.specs.declared.stop.LineStop.{LineStop}
use Rattle.gier_mortem.specs.declared.stop.LineStop.TheVariants.{Drum, Spoilt}

abbrev pub stop_of : TextStop → LineStop
stop_of Failed = Drum
stop_of (TextSpoilt odd) = Spoilt odd
stop_of Memory = Spoilt (record { place = 0; word = 0 })
stop_of Full = Spoilt (record { place = 0; word = 0 })

abbrev pub IsSpoilt : LineStop → Type 0
IsSpoilt Drum = ⊥
IsSpoilt (Spoilt odd) = Unit {0}

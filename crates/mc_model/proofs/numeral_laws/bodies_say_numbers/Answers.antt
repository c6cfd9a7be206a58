use Rattle.mc_model.proofs.NumeralReadings as readings
use Rattle.mc_model.proofs.numeral_laws.bodies_say_numbers.Goals as goal

pub returns-clause-willing : goal.returns-clause-willing
returns-clause-willing c = readings.willing_reads

pub returns-clause-strict : goal.returns-clause-strict
returns-clause-strict c = readings.strict_reads

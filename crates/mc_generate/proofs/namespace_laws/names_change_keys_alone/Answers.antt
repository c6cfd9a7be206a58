use Rattle.mc_generate.proofs.CodeUnder.{codes-follow, requests-differ, scripts-stay}
use Rattle.mc_generate.proofs.namespace_laws.names_change_keys_alone.Goals as goal

pub returns : goal.returns
returns c = record { scripts = scripts-stay; codes = codes-follow; requests = requests-differ }

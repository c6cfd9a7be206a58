use Rattle.mc_script_text.proofs.Bits.{bit-test}
use Rattle.mc_script_text.proofs.print_marks.has_flag.Goals as goal

pub returns : goal.returns
returns c = bit-test 64 c.args.mask c.args.flag c.requires
